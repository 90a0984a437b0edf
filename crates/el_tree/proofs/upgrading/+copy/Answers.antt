use Rattle.std.proofs.Common.{◌∙◌, ap}
use Rattle.el_tree.specs.Copies.{copied}
use Rattle.el_tree.proofs.Copying.{copied-chain}
use Rattle.el_tree.proofs.upgrading.+copy.Goals as goal

pub copied_tree-returns : goal.copied_tree-returns
copied_tree-returns t c = copied-chain c.args.upgrades _ _ _ _ c.in_ok-nodes.ensures c.in_ok-last.ensures ∙ ap (copied c.args.upgrades) c.tree.view_is
