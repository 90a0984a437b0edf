use Rattle.el_script.proofs.Vocabulary.{iter_rest, places_of}
use Rattle.std.proofs.Common.{◌≡◌, ◌++◌}
use Rattle.el_lint.specs.Lints.{place_texts}
use Rattle.el_lint.proofs.texts.place_texts.Given as goal

-- the words so far, and those that are left
abbrev pub invariant-loop-place : goal.invariant-loop-place
invariant-loop-place l = l.texts.words ++ place_texts (places_of (iter_rest l.place-iterator)) ≡ place_texts l.places
