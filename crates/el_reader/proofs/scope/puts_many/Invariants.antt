use Rattle.el_script.proofs.Vocabulary.{list_any, parts_of, puts_many}
use Rattle.std.proofs.Common.{◌≡◌, length}
use Rattle.el_reader.proofs.scope.puts_many.Given as goal

-- no reference so far
abbrev pub invariant-loop-found : goal.invariant-loop-found
invariant-loop-found l = list_any (puts_many l.member) (parts_of l.text) ≡ list_any (puts_many l.member) (parts_of l.rest)

abbrev pub decreases-loop-found : goal.decreases-loop-found
decreases-loop-found l = length l.rest
