use Rattle.el_script.proofs.Vocabulary.{position_or_len, parts_of}
use Rattle.std.proofs.Common.{◌≡◌, ◌≤◌, min, length}
use Rattle.el_reader.proofs.Scopes.{touching}
use Rattle.el_reader.proofs.scope.first_touching.Given as goal

-- the first so far, or one that the rest of the word names
abbrev pub invariant-loop-found : goal.invariant-loop-found
invariant-loop-found l = (l.first ≤ length l.members) × (position_or_len (touching (parts_of l.text)) l.members ≡ min l.first (position_or_len (touching (parts_of l.rest)) l.members))

abbrev pub decreases-loop-found : goal.decreases-loop-found
decreases-loop-found l = length l.rest
