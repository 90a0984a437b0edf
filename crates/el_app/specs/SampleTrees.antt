-- The tree of a sample, with which it is accepted.
use Rattle.el_script.specs.Vocabulary.{decimal, Define, Foreground, If, nothing, word, Tree, Command, Node, unplaced, one_place, text_place, block_place}
use Rattle.el_room.specs.Vocabulary.{Pipeline, State}
use Rattle.std.specs.Prelude.{◌≡◌, ℕ, zero, suc, ◌+◌, ◌-◌, ◌≤◌, ◌%◌, ◌==◌, [], ◌++◌, Ok, if◌then◌else◌, codes}
use Rattle.el_check.specs.declared.params.Params.TheVariants.{Leave}
use Rattle.el_check.specs.Scripts.{IsAcceptedScript}
use Rattle.el_app.specs.Sample.{sample}
use Rattle.el_app.specs.Tallies.{line_of}
use Rattle.el_app.specs.Elcheck.{most_lines, run_played, line_told, sampled}

-- line i before the rest: a definition, a command that uses it, a pipe, or a test
abbrev pub line_tree : (i : ℕ) → (rest : Tree) → Tree
line_tree i rest =
    if i % 4 == 1 then Node Define [] (one_place (text_place (codes "V" ++ decimal i)) (one_place (text_place (codes "x" ++ decimal i)) unplaced)) rest
    else (if i % 4 == 2 then Node Foreground [] (one_place (block_place (Command (word (codes "echo") (word (codes "a") (word (codes "$V" ++ decimal (i - 1)) nothing))))) unplaced) rest
    else (if i % 4 == 3 then Node Pipeline [] (one_place (block_place (Command (word (codes "echo") (word (codes "p") nothing)))) unplaced) rest
    else Node If [] (one_place (block_place (Command (word (codes "true") nothing))) unplaced) rest))

-- so many lines from line i on, and the command in which a sample ends
abbrev pub lines_tree : (i lines : ℕ) → Tree
lines_tree i zero = Command (word (codes "echo") (word (codes "end") nothing))
lines_tree i (suc lines) = line_tree i (lines_tree (i + 1) lines)

-- a sample is accepted with this tree, without any words behind it
abbrev pub SamplesAreAccepted : Type 0
SamplesAreAccepted = (lines : ℕ) → lines ≤ most_lines → IsAcceptedScript Leave (sample lines) (lines_tree 1 lines)

-- so that elcheck tells its run, and never a fault
abbrev pub SamplesAreRun : Type 0
SamplesAreRun = (lines : ℕ) (state : State) → lines ≤ most_lines → sampled (Ok lines) state ≡ line_told state (line_of (run_played (sample lines)))
