use Rattle.el_script.proofs.Vocabulary.{iter_rest, places_of, names_in}
use Rattle.std.proofs.Common.{◌≡◌}
use Rattle.el_lint.proofs.names.names_in.Given as goal

-- no block of names so far
abbrev pub invariant-loop-place : goal.invariant-loop-place
invariant-loop-place l = names_in l.places ≡ names_in (places_of (iter_rest l.place-iterator))
