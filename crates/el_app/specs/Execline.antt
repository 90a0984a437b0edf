-- What the top call does.
use Rattle.el_room.specs.Vocabulary.{bytes_eq, Prog, program_named, ends, State, Status, Task, refused}
use Rattle.std.specs.Prelude.{ℕ, List, [], ◌∷◌, Option, Some, None, if◌then◌else◌}
use Rattle.el_proc.specs.declared.trouble.Trouble.TheVariants.{UnknownProgram}
use Rattle.el_machine.specs.Flat.{flat_run}
use Rattle.el_app.specs.declared.names.Tool.{Tool}
use Rattle.el_app.specs.declared.names.Tool.TheVariants.{Execlineb, Elcheck, Elfmt}
use Rattle.el_app.specs.Names.{execline_name, tool_named, base_name}
use Rattle.el_app.specs.Execlineb.{execlineb_run}
use Rattle.el_app.specs.Elcheck.{elcheck_run}
use Rattle.el_app.specs.Elfmt.{elfmt_run}

-- a tool with these words, of which the first is its name
unfoldable pub tool_run : Tool → (words : List (List ℕ)) → State → Task ⊥
tool_run Execlineb words state = execlineb_run words state
tool_run Elcheck words state = elcheck_run words state
tool_run Elfmt words state = elfmt_run words state

-- the tool where there is one, and otherwise this
abbrev pub tool_or : Option Tool → (words : List (List ℕ)) → State → Task ⊥ → Task ⊥
tool_or None words state other = other
tool_or (Some tool) words state other = tool_run tool words state

-- behind `execline` stands a tool, or a vector, which is run
unfoldable pub after_execline : (words : List (List ℕ)) → State → Task ⊥
after_execline [] state = flat_run [] state
after_execline (word ∷ words) state = tool_or (tool_named word) (word ∷ words) state (flat_run (word ∷ words) state)

-- a name that is no tool's: a program of a chain is run with its words, and any other isn't known
abbrev pub program_or_unknown : Option Prog → (name : List ℕ) → (words : List (List ℕ)) → State → Task ⊥
program_or_unknown None name words state = refused state execline_name UnknownProgram
program_or_unknown (Some program) name words state = flat_run (name ∷ words) state

-- by the base name of the first word, other than `execline`
unfoldable pub named_run : (name : List ℕ) → (words : List (List ℕ)) → State → Task ⊥
named_run name words state = tool_or (tool_named name) (name ∷ words) state (program_or_unknown (program_named name) name words state)

-- what the top call does with its words, by the base name of the first; without words there is nothing to be done
unfoldable pub execline_run : (words : List (List ℕ)) → State → Task ⊥
execline_run [] state = ends (Status 0 state)
execline_run (word ∷ words) state = if bytes_eq (base_name word) execline_name then after_execline words state else named_run (base_name word) words state

-- ---- vectors

-- these words, unless a tool has their first word as its name
abbrev pub unless_tool : Option Tool → (words : List (List ℕ)) → Option (List (List ℕ))
unless_tool None words = Some words
unless_tool (Some tool) words = None

-- these words, if the first is a program of a chain
abbrev pub if_program : Option Prog → (words : List (List ℕ)) → Option (List (List ℕ))
if_program None words = None
if_program (Some program) words = Some words

-- the vector behind `execline`: all words, unless the first is a tool
abbrev pub vector_behind : (words : List (List ℕ)) → Option (List (List ℕ))
vector_behind [] = Some []
vector_behind (word ∷ words) = unless_tool (tool_named word) (word ∷ words)

-- The words that the top call runs as a vector: those behind `execline`, or those that begin with a program of a chain, by the base name
-- of the first. There are none if a tool is called, if the first word is unknown, or without words.
abbrev pub vector_words : (words : List (List ℕ)) → Option (List (List ℕ))
vector_words [] = None
vector_words (word ∷ words) = if bytes_eq (base_name word) execline_name then vector_behind words else if_program (program_named (base_name word)) (base_name word ∷ words)
