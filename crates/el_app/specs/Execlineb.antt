-- What execlineb does.
use Rattle.el_room.specs.Vocabulary.{Strictness, Lenient, Warning, Refusing, execlineb_options, and_then, State, Task, Trouble, Left, refused, strict_name}
use Rattle.std.specs.Prelude.{ℕ, List, Option, None, Some, Result, Ok, Err, codes}
use Rattle.std.specs.FinMap as map
use Rattle.el_machine.specs.Flat.{flat_run}
use Rattle.el_app.specs.declared.asked.Source.{Source}
use Rattle.el_app.specs.declared.asked.Source.TheVariants.{Inline, File}
use Rattle.el_app.specs.declared.asked.Asked.{Asked}
use Rattle.el_app.specs.Options.{asked}
use Rattle.el_app.specs.Names.{execlineb_name}
use Rattle.el_app.specs.Files.{file_script}
use Rattle.el_app.specs.Scripts.{script_words}
use Rattle.el_app.specs.Params.{placed}

-- the value of EXECLINE_STRICT that says so
abbrev pub strict_text : Strictness → List ℕ
strict_text Lenient = codes "0"
strict_text Warning = codes "1"
strict_text Refusing = codes "2"

-- EXECLINE_STRICT is set where a letter says so, and stays otherwise
abbrev pub with_strictness : Option Strictness → State → State
with_strictness None state = state
with_strictness (Some strictness) state = record state { env = map.insert state.env strict_name (strict_text strictness) }

-- the words of the script that stands there
abbrev pub words_from : State → Source → Task (List (List ℕ))
words_from state (Inline script) = script_words state script
words_from state (File path) = and_then (file_script execlineb_name state path) (script_words state)

-- `0` among the positional parameters: the file's word, or execlineb's name under `-c`
abbrev pub zero_of : Source → List ℕ
zero_of (Inline script) = execlineb_name
zero_of (File path) = path

-- what is made ready before anything is run: the script's words, and then the positional parameters
unfoldable pub prelude : Asked → State → Task Left
prelude asked state = and_then (words_from state asked.source) (λ script. placed asked.placement (zero_of asked.source) asked.args script state)

-- what is asked for is done, or complained of
unfoldable pub asked_run : Result Asked Trouble → State → Task ⊥
asked_run (Ok asked) state = and_then (prelude asked (with_strictness asked.strict state)) (λ left. flat_run left.words left.state)
asked_run (Err trouble) state = refused state execlineb_name trouble

-- what execlineb does with its words, of which the first is its name
unfoldable pub execlineb_run : (words : List (List ℕ)) → State → Task ⊥
execlineb_run words state = asked_run (asked execlineb_options words) state
