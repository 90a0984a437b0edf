-- Programs of the chain that a command of the system starts.
use Rattle.el_room.specs.Vocabulary.{bytes_eq, Prog, program_named, Args, nothing, word, group}
use Rattle.std.specs.Prelude.{ℕ, Bool, ◌||◌, List, [], ◌∷◌, Option, None, Some, codes, if◌then◌else◌}
use Rattle.el_lint.specs.declared.lint.Lint.{Lint}
use Rattle.el_lint.specs.declared.lint.Lint.TheVariants.{Loaded}

-- a command that goes on with a chain by itself
unfoldable pub runs_chains : (text : List ℕ) → Bool
runs_chains text = bytes_eq text (codes "execline") || (bytes_eq text (codes "elglob") || bytes_eq text (codes "elgetopt"))

-- the program that was found, or else the one that this word names
abbrev pub found_or_named : Option Prog → (text : List ℕ) → Option Prog
found_or_named None text = program_named text
found_or_named (Some program) text = Some program

-- the first program that a word before a block names, where no command stands before that block which goes on by itself
abbrev pub loaded_from : (found : Option Prog) → Args → Option Prog
loaded_from found nothing = None
loaded_from found (group inside rest) = found
loaded_from found (word text rest) = if runs_chains text then None else loaded_from (found_or_named found text) rest

-- as a lint
abbrev pub loaded_by : Option Prog → List Lint
loaded_by None = []
loaded_by (Some program) = Loaded program ∷ []

-- of a command
abbrev pub loaded_lints : Args → List Lint
loaded_lints args = loaded_by (loaded_from None args)
