use Rattle.el_script.proofs.Vocabulary.{iter_rest, args_of}
use Rattle.std.proofs.Common.{◌≡◌, None}
use Rattle.el_lint.specs.Loaders.{loaded_from}
use Rattle.el_lint.proofs.loaded.loaded.Given as goal

-- what is found from here on is what is found in all
abbrev pub invariant-loop-item : goal.invariant-loop-item
invariant-loop-item l = loaded_from l.found (args_of (iter_rest l.item-iterator)) ≡ loaded_from None l.args
