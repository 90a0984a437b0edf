-- The programs whose processes are members of a family.
use Rattle.std.specs.Prelude.{ℕ, Bool, ◌||◌, List, is_some}
use Rattle.el_words.specs.Prog.{program_named}
use Rattle.el_app.specs.Names.{tool_named}

-- the word is execlineb, elcheck, elfmt or the name of a chain program
abbrev pub names_member : List ℕ → Bool
names_member word = is_some (program_named word) || is_some (tool_named word)
