-- elgetopt optstring prog..
use Rattle.el_room.specs.Vocabulary.{Vars, positionals_of, Reading, Unknown, NoValue, LettersRead, read_from, takes, State, Task, Spent, Trouble, Usage, Missing, NoFrame, refused}
use Rattle.std.specs.Prelude.{ℕ, List, [], ◌∷◌, Option, None, Some, Result, Ok, Err, if◌then◌else◌, codes}
use Rattle.el_proc.specs.declared.trouble.Trouble.TheVariants.{Unknown as UnknownLetter, NoValue as NoValueOf}
use Rattle.el_machine.specs.Flat.{flat_run}
use Rattle.el_getopt.specs.Optstring.{is_optstring, letters_in}
use Rattle.el_getopt.specs.Environment.{parsed_environment}

-- the name under which elgetopt complains
unfoldable pub elgetopt_name : List ℕ
elgetopt_name = codes "elgetopt"

-- what is run, and with which variables
pub record Parsed : Type 0 where
  pub rest : List (List ℕ)
  pub env : Vars

-- how arguments are read by the letters of an optstring; they are numbered from 1
abbrev pub args_read : (optstring : List ℕ) → (args : List (List ℕ)) → Reading
args_read optstring args = read_from (letters_in optstring) 1 None args

-- the first bad letter is refused
abbrev pub parsed_by : Reading → (zero : List ℕ) → (args rest : List (List ℕ)) → Vars → Result Parsed Trouble
parsed_by (Unknown letter) zero args rest env = Err (UnknownLetter letter)
parsed_by (NoValue letter) zero args rest env = Err (NoValueOf letter)
parsed_by (LettersRead letters used left ended) zero args rest env = Ok (record { rest = rest; env = parsed_environment letters zero args left env })

-- the arguments are the positional parameters, which must be set
abbrev pub parsed_of : (optstring : List ℕ) → (positionals : Option (List ℕ × List (List ℕ))) → (rest : List (List ℕ)) → Vars → Result Parsed Trouble
parsed_of optstring None rest env = Err NoFrame
parsed_of optstring (Some found) rest env = parsed_by (args_read optstring found.1) found.0 found.1 rest env

-- what comes of the words, of which the first is the name: no option is read among them, the second is the optstring, and the rest is run;
-- or the first thing to refuse
unfoldable pub parsed : (words : List (List ℕ)) → Vars → Result Parsed Trouble
parsed [] env = Err Missing
parsed (name ∷ []) env = Err Missing
parsed (name ∷ optstring ∷ rest) env = if is_optstring optstring then parsed_of optstring (positionals_of env) rest env else Err Usage

-- the rest is run with these variables; what is refused ends behind its message
unfoldable pub parsed_run : Result Parsed Trouble → State → Task ⊥
parsed_run (Ok parsed) state = flat_run parsed.rest (record state { env = parsed.env })
parsed_run (Err trouble) state = refused state elgetopt_name trouble

-- what elgetopt does with its words: one unit, and then this
unfoldable pub elgetopt_run : (words : List (List ℕ)) → State → Task ⊥
elgetopt_run words state = takes (Spent state) (parsed_run (parsed words state.env) state)
