-- What the words of a call say that stands in no chain.
use Rattle.el_room.specs.Vocabulary.{number_of, Strictness, Lenient, Warning, Refusing, Opt, Reading, Unknown, NoValue, LettersRead, reading, Options, positionals_rule, has_bad_last_number, Trouble, BadNumber, Usage, Choice, first_byte, is_in_force, value_by, chosen_by}
use Rattle.std.specs.Prelude.{ℕ, Bool, List, [], ◌∷◌, drop, Option, None, Some, unwrap_or, Result, Ok, Err, if◌then◌else◌, codes}
use Rattle.el_proc.specs.declared.trouble.Trouble.TheVariants.{Unknown as UnknownLetter, NoValue as NoValueOf}
use Rattle.el_app.specs.declared.asked.Source.{Source}
use Rattle.el_app.specs.declared.asked.Source.TheVariants.{Inline, File}
use Rattle.el_check.specs.declared.params.Params.TheVariants.{Frame, Leave, Subst}
use Rattle.el_app.specs.declared.asked.Placement.{Placement}
use Rattle.el_app.specs.declared.asked.Placement.TheVariants.{By, Shifted}
use Rattle.el_app.specs.declared.asked.Asked.{Asked}

-- options of letters that exclude each other so; the values of `-S` and `-s` are numbers of positional parameters
abbrev pub call_options : (groups : List (List ℕ)) → List Opt → Options
call_options groups opts = record { letters = opts; groups = groups; rule = positionals_rule }

-- a letter is one of those in force
abbrev pub has : (letter : List ℕ) → List Choice → Bool
has letter choices = is_in_force choices (first_byte letter)

-- how strict the script's programs are to be, by the last of `-q`, `-w` and `-W`; none of them says nothing
abbrev pub strictness_in : List Choice → Option Strictness
strictness_in choices =
    if has (codes "q") choices then Some Lenient
    else (if has (codes "w") choices then Some Warning
    else (if has (codes "W") choices then Some Refusing else None))

-- the number that a value says
abbrev pub least_of : (text : List ℕ) → ℕ
least_of text = unwrap_or (number_of text) 0

-- what the values of `-S` and `-s` say of the words behind the script: there are at least so many; without either they get a frame
abbrev pub placement_by : (put_in shifted : Option (List ℕ)) → Placement
placement_by (Some text) shifted = By (Subst (least_of text))
placement_by None (Some text) = Shifted (least_of text)
placement_by None None = By Frame

-- what becomes of the words behind the script, by the last of `-P`, `-S` and `-s`; without any they get a frame
abbrev pub placement_in : List Choice → Placement
placement_in choices = if has (codes "P") choices then By Leave else placement_by (value_by choices (first_byte (codes "S"))) (value_by choices (first_byte (codes "s")))

-- whether the tree is to be upgraded
abbrev pub upgrades_in : List Choice → Bool
upgrades_in choices = has (codes "u") choices

-- whether comments are kept
abbrev pub keeps_in : List Choice → Bool
keeps_in choices = has (codes "k") choices

-- the script is that of the last `-c`, or else of the file that the first word behind the options names
abbrev pub source_by : (script : Option (List ℕ)) → (rest : List (List ℕ)) → Option Source
source_by (Some script) rest = Some (Inline script)
source_by None [] = None
source_by None (path ∷ rest) = Some (File path)

-- the words behind the script: all that stand behind the options, or behind the file's word
abbrev pub args_of : Source → (rest : List (List ℕ)) → List (List ℕ)
args_of (Inline script) rest = rest
args_of (File path) rest = drop 1 rest

-- without a script the words are wrongly used
abbrev pub asked_with : List Choice → (rest : List (List ℕ)) → Option Source → Result Asked Trouble
asked_with choices rest None = Err Usage
asked_with choices rest (Some source) = Ok (record { source = source; strict = strictness_in choices; placement = placement_in choices; upgrades = upgrades_in choices; keeps = keeps_in choices; args = args_of source rest })

-- the same, where the script is the one that these letters or words give, if any
abbrev pub asked_behind : List Choice → (rest : List (List ℕ)) → Result Asked Trouble
asked_behind choices rest = asked_with choices rest (source_by (value_by choices (first_byte (codes "c"))) rest)

-- what words say that are read so; the values of the last `-S` and of the last `-s` are tested first, also where `-P` stands behind them
abbrev pub asked_by : Options → Reading → Result Asked Trouble
asked_by options (Unknown letter) = Err (UnknownLetter letter)
asked_by options (NoValue letter) = Err (NoValueOf letter)
asked_by options (LettersRead letters used rest ended) =
    if has_bad_last_number options letters then Err BadNumber else asked_behind (chosen_by options.groups options.letters letters) rest

-- what the words of a call say, of which the first is its name, or what it complains of
unfoldable pub asked : Options → (words : List (List ℕ)) → Result Asked Trouble
asked options words = asked_by options (reading options.letters words)
