use Rattle.std.proofs.Common.{◌≡◌, ◌≤◌}
use Rattle.std.specs.Slice.Iter.{iter_rest}
use denote.Param.Weighed.{most}
use Rattle.el_words.specs.Args.{◌+++◌}
use Rattle.el_tree.specs.declared.items.Group.TheDeep.{deep-Arg}
use Rattle.el_tree.specs.Items.{args_of, args_size}
use Rattle.el_tree.proofs.upgrading.+copy_items.Given as goal

abbrev pub decreases-copied_item : goal.decreases-copied_item
decreases-copied_item l = goal.size-copied_item l

abbrev pub decreases-copied_group : goal.decreases-copied_group
decreases-copied_group l = goal.size-copied_group l

-- what is copied, and what is to be copied
abbrev pub invariant-copied_group-loop-item : goal.invariant-copied_group-loop-item
invariant-copied_group-loop-item l = record {
  copied : l.made +++ args_of (iter_rest l.item-iterator) ≡ l.group;
  smaller : most deep-Arg (iter_rest l.item-iterator) ≤ args_size l.group;
}
