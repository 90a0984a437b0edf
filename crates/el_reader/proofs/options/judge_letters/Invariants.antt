use Rattle.el_script.proofs.Vocabulary.{Opt, cluster_of, shape_of}
use Rattle.std.proofs.Common.{◌≡◌, List, Some, length}
use Rattle.el_reader.specs.Roles.{nothing_seen}
use Rattle.el_reader.specs.Known.{letters_judged}
use Rattle.el_reader.proofs.options.judge_letters.Given as goal

-- the letters so far were seen
abbrev pub invariant-loop-rest : goal.invariant-loop-rest
invariant-loop-rest l = (opts : List Opt) → (shape_of l.program).letters ≡ Some opts → letters_judged l.program nothing_seen (cluster_of opts l.letters) ≡ letters_judged l.program l.seen (cluster_of opts l.rest)

abbrev pub decreases-loop-rest : goal.decreases-loop-rest
decreases-loop-rest l = length l.rest
