-- How ellint is called.
use Rattle.el_room.specs.Vocabulary.{number_of, Reading, Unknown, NoValue, LettersRead, reading, Options, positionals_rule, has_bad_last_number, Trouble, BadNumber, Usage, Choice, first_byte, is_in_force, value_by, chosen_by}
use Rattle.std.specs.Prelude.{ℕ, List, [], ◌∷◌, Option, None, Some, unwrap_or, Result, Ok, Err, codes, if◌then◌else◌}
use Rattle.el_proc.specs.declared.trouble.Trouble.TheVariants.{Unknown as UnknownLetter, NoValue as NoValueOf}
use Rattle.el_check.specs.declared.params.Params.{Params}
use Rattle.el_check.specs.declared.params.Params.TheVariants.{Leave, Subst}
use Rattle.el_lint.specs.declared.mode.TheConstants.{ELLINT}

-- ---- calls

-- the number that a value says
abbrev pub least_of : (text : List ℕ) → ℕ
least_of text = unwrap_or (number_of text) 0

-- what the values of `-S` and `-s` say of the words behind a script: there are at least so many
abbrev pub mode_by : (put_in shifted : Option (List ℕ)) → Option Params
mode_by (Some text) shifted = Some (Subst (least_of text))
mode_by None (Some text) = Some (Subst (least_of text))
mode_by None None = None

-- what the last of `-P`, `-S` and `-s` says; nothing where none is there
abbrev pub mode_in : List Choice → Option Params
mode_in choices = if is_in_force choices (first_byte (codes "P")) then Some Leave else mode_by (value_by choices (first_byte (codes "S"))) (value_by choices (first_byte (codes "s")))

-- what a call says of scripts, and the words behind its options
pub record Call : Type 0 where
  pub mode : Option Params
  pub rest : List (List ℕ)

-- what words say that are read so, or what is complained of; the values of the last `-S` and of the last `-s` are tested first
abbrev pub called_by : Options → Reading → Result Call Trouble
called_by options (Unknown letter) = Err (UnknownLetter letter)
called_by options (NoValue letter) = Err (NoValueOf letter)
called_by options (LettersRead letters used rest ended) =
    if has_bad_last_number options letters then Err BadNumber else Ok (record { mode = mode_in (chosen_by options.groups options.letters letters); rest = rest })

-- the same of words, of which the first is the call's name
abbrev pub called : Options → (words : List (List ℕ)) → Result Call Trouble
called options words = called_by options (reading options.letters words)

-- ---- ellint's words

-- its options: the last of `-P`, `-S` and `-s` counts
abbrev pub lint_options : Options
lint_options = record { letters = ELLINT.opts; groups = codes "PSs" ∷ []; rule = positionals_rule }

-- the words behind them are files, of which one must be there
abbrev pub with_files : Call → (files : List (List ℕ)) → Result Call Trouble
with_files call [] = Err Usage
with_files call (file ∷ files) = Ok call

-- what a call asks for, or what is complained of
abbrev pub asked_from : Result Call Trouble → Result Call Trouble
asked_from (Ok call) = with_files call call.rest
asked_from (Err trouble) = Err trouble

-- what the words ask for, of which the first is ellint's name
abbrev pub asked : (words : List (List ℕ)) → Result Call Trouble
asked words = asked_from (called lint_options words)
