-- What comes of the words, and how the code's answers tell of it.
use Rattle.el_room.proofs.Vocabulary.{slice_get, Vars, positionals_of, EnvFault, Reading, Unknown, NoValue, LettersRead, Trouble, Usage, Missing, NoFrame as NoFrameTrouble, trouble_status}
use Rattle.std.proofs.Common.{◌≡◌, ℕ, ◌≤◌, Bool, true, false, if◌then◌else◌, List, [], ◌∷◌, drop, length, Option, None, Some, Ok, Err, refl, sym, ap, ◌∙◌, arith}
use Rattle.el_env.specs.declared.env.EnvFault.TheVariants.{BadName, NoMemory as NoEnvMemory, TooDeep, NoFrame}
use Rattle.el_proc.specs.declared.trouble.Trouble.TheVariants.{Unknown as UnknownLetter, NoValue as NoValueOf}
use Rattle.el_getopt.specs.declared.fault.ParseFault.{ParseFault}
use Rattle.el_getopt.specs.declared.fault.ParseFault.TheVariants.{Refused, NoMemory}
use Rattle.el_getopt.specs.declared.reader.FoundLetter.{FoundLetter}
use Rattle.el_getopt.specs.Optstring.{is_optstring}
use Rattle.el_getopt.specs.Environment.{parsed_environment}
use Rattle.el_getopt.specs.Parsing.{args_read, parsed_by, parsed_of, parsed}
use Rattle.el_getopt.specs.Faults.{fault_of}
use Rattle.el_getopt.specs.Reader.{letters_told, trouble_in, IsFaultOf, IsRead}
use Rattle.el_getopt.specs.Parses.{IsParsedAs}

-- ---- the optstring

pub no_optstring : (words : List (List ℕ)) (env : Vars) → slice_get words 1 ≡ None → parsed words env ≡ Err Missing
unfolding parsed
no_optstring [] env none = refl
no_optstring (name ∷ []) env none = refl
no_optstring (name ∷ optstring ∷ rest) env none = absurd (cc)

pub two_words : (words : List (List ℕ)) (optstring : List ℕ) → slice_get words 1 ≡ Some optstring → 2 ≤ length words
two_words [] optstring is = absurd (cc)
two_words (name ∷ []) optstring is = absurd (cc)
two_words (name ∷ here ∷ rest) optstring is = omega arith

pub by_optstring : (words : List (List ℕ)) (env : Vars) (optstring : List ℕ) → slice_get words 1 ≡ Some optstring
    → parsed words env ≡ (if is_optstring optstring then parsed_of optstring (positionals_of env) (drop 2 words) env else Err Usage)
unfolding parsed
by_optstring [] env optstring is = absurd (cc)
by_optstring (name ∷ []) env optstring is = absurd (cc)
by_optstring (name ∷ here ∷ rest) env optstring is =
    let same : here ≡ optstring = cc in
    ap (λ optstring. if is_optstring optstring then parsed_of optstring (positionals_of env) rest env else Err Usage) same

module _ (words : List (List ℕ)) (env : Vars) (optstring : List ℕ) (is : slice_get words 1 ≡ Some optstring) where
  pub no_letters : is_optstring optstring ≡ false → parsed words env ≡ Err Usage
  no_letters bad = by_optstring words env optstring is ∙ ap (λ good. if good then parsed_of optstring (positionals_of env) (drop 2 words) env else Err Usage) bad

  by_positionals : is_optstring optstring ≡ true → (positionals : Option (List ℕ × List (List ℕ))) → positionals_of env ≡ positionals → parsed words env ≡ parsed_of optstring positionals (drop 2 words) env
  by_positionals good positionals are =
      by_optstring words env optstring is
      ∙ ap (λ good. if good then parsed_of optstring (positionals_of env) (drop 2 words) env else Err Usage) good
      ∙ ap (λ positionals. parsed_of optstring positionals (drop 2 words) env) are

  -- positional parameters that can't be read
  pub no_positionals : is_optstring optstring ≡ true → (fault : EnvFault) → (fault ≡ NoFrame → positionals_of env ≡ None) → IsParsedAs (parsed words env) env env (Err (fault_of fault))
  no_positionals good NoFrame none = (by_positionals good None (none refl), refl)
  no_positionals good BadName none = tt
  no_positionals good NoEnvMemory none = tt
  no_positionals good TooDeep none = tt

  module _ (zero : List ℕ) (args : List (List ℕ)) (good : is_optstring optstring ≡ true) (are : positionals_of env ≡ Some (zero, args)) where
    -- a bad letter
    pub bad_letter : (fault : ParseFault) → IsFaultOf (args_read optstring args) fault → IsParsedAs (parsed words env) env env (Err fault)
    bad_letter NoMemory of = tt
    bad_letter (Refused trouble) of = (by_positionals good (Some (zero, args)) are ∙ by (args_read optstring args) of, refl)
      where
        by : (reading : Reading) → trouble_in reading ≡ Some trouble → parsed_by reading zero args (drop 2 words) env ≡ Err trouble
        by (Unknown letter) of = let same : UnknownLetter letter ≡ trouble = cc in ap Err same
        by (NoValue letter) of = let same : NoValueOf letter ≡ trouble = cc in ap Err same
        by (LettersRead letters used rest ended) of = absurd (cc)

    -- all letters are read
    pub all_read : (found : List FoundLetter) (used : ℕ) (new : Vars) → IsRead optstring args found used → new ≡ parsed_environment (letters_told args found) zero args (drop used args) env
        → parsed words env ≡ Ok (record { rest = drop 2 words; env = new })
    all_read found used new read set =
        by_positionals good (Some (zero, args)) are
        ∙ ap (λ reading. parsed_by reading zero args (drop 2 words) env) read.is_reading
        ∙ ap (λ (env : Vars). Ok (record { rest = drop 2 words; env = env })) (sym set)

-- ---- what is refused is wrong use

pub is_wrong_use : (words : List (List ℕ)) (env : Vars) (trouble : Trouble) → parsed words env ≡ Err trouble → trouble_status trouble ≡ 100
unfolding parsed trouble_status
is_wrong_use [] env trouble is = let same : Missing ≡ trouble = cc in ap trouble_status (sym same)
is_wrong_use (name ∷ []) env trouble is = let same : Missing ≡ trouble = cc in ap trouble_status (sym same)
is_wrong_use (name ∷ optstring ∷ rest) env trouble is = tested (is_optstring optstring) is
  where
    read : (reading : Reading) (zero : List ℕ) (args : List (List ℕ)) → parsed_by reading zero args rest env ≡ Err trouble → trouble_status trouble ≡ 100
    read (Unknown letter) zero args is = let same : UnknownLetter letter ≡ trouble = cc in ap trouble_status (sym same)
    read (NoValue letter) zero args is = let same : NoValueOf letter ≡ trouble = cc in ap trouble_status (sym same)
    read (LettersRead letters used left ended) zero args is = absurd (cc)

    set : (positionals : Option (List ℕ × List (List ℕ))) → parsed_of optstring positionals rest env ≡ Err trouble → trouble_status trouble ≡ 100
    set None is = let same : NoFrameTrouble ≡ trouble = cc in ap trouble_status (sym same)
    set (Some found) is = read (args_read optstring found.1) found.0 found.1 is

    tested : (good : Bool) → (if good then parsed_of optstring (positionals_of env) rest env else Err Usage) ≡ Err trouble → trouble_status trouble ≡ 100
    tested true is = set (positionals_of env) is
    tested false is = let same : Usage ≡ trouble = cc in ap trouble_status (sym same)
