-- Calls by their letters.
use Rattle.el_room.proofs.Vocabulary.{Opt, UsageFault, reading, faulty, is_bad_number, positionals_rule, Trouble, BadNumber, Usage, Choice, CallLetters, chosen_by, trouble_of, lack_by, any_value, CallRead, last_number}
use Rattle.std.proofs.Common.{◌≡◌, ℕ, Bool, true, false, List, [], ◌∷◌, length, drop, Option, Ok, Err, refl, sym, ap, ◌∙◌, arith, if◌then◌else◌}
use Rattle.el_options.specs.declared.read.UsageFault.TheVariants.{Unknown, NoValue}
use Rattle.el_check.specs.declared.params.Params.{Params}
use Rattle.el_lint.specs.Modes.{mode_in, called_by, called, lint_options, asked_from, asked}
use Rattle.el_lint.specs.ModesTold.{options_of}

module _ (groups : List (List ℕ)) (opts : List Opt) (words : List (List ℕ)) where
  -- a bad letter
  pub letter-refused : (fault : UsageFault) → reading opts words ≡ faulty fault → Err (trouble_of (lack_by fault)) ≡ called (options_of groups opts) words
  letter-refused (Unknown letter) is = ap (called_by (options_of groups opts)) (sym is)
  letter-refused (NoValue letter) is = ap (called_by (options_of groups opts)) (sym is)

  module _ (call : CallLetters) (read : CallRead groups opts words call) where
    -- by the test of the last number, and then by the letters in force
    tested : (bad : Bool) → any_value positionals_rule is_bad_number call.last.items ≡ bad
        → called (options_of groups opts) words ≡ (if bad then Err BadNumber else Ok (record { mode = mode_in call.in_force.items; rest = drop call.used words }))
    tested bad is =
        ap (called_by (options_of groups opts)) read.is_reading
        ∙ ap (λ (bad : Bool). if bad then Err BadNumber else Ok (record { mode = mode_in (chosen_by groups opts read.letters); rest = read.rest })) (sym (last_number groups opts words call positionals_rule read) ∙ is)
        ∙ ap (λ (choices : List Choice). if bad then Err BadNumber else Ok (record { mode = mode_in choices; rest = read.rest })) (sym read.in_force)
        ∙ ap (λ (rest : List (List ℕ)). if bad then Err BadNumber else Ok (record { mode = mode_in call.in_force.items; rest = rest })) read.is_rest

    pub number-refused : any_value positionals_rule is_bad_number call.last.items ≡ true → Err BadNumber ≡ called (options_of groups opts) words
    number-refused bad = sym (tested true bad)

    pub letters-say : any_value positionals_rule is_bad_number call.last.items ≡ false → Ok (record { mode = mode_in call.in_force.items; rest = drop call.used words }) ≡ called (options_of groups opts) words
    letters-say good = sym (tested false good)

-- ---- what words ask for

module _ (words : List (List ℕ)) where
  pub asked-wrong : (trouble : Trouble) → Err trouble ≡ called lint_options words → Err trouble ≡ asked words
  asked-wrong trouble is = ap asked_from is

  pub asked-nothing : (mode : Option Params) (files : List (List ℕ)) → Ok (record { mode = mode; rest = files }) ≡ called lint_options words → length files ≡ 0 → Err Usage ≡ asked words
  asked-nothing mode [] is none = ap asked_from is
  asked-nothing mode (file ∷ files) is none = absurd (omega (arith, none))

  pub asked-files : (mode : Option Params) (files : List (List ℕ)) → Ok (record { mode = mode; rest = files }) ≡ called lint_options words → (length files ≡ 0 → ⊥) → Ok (record { mode = mode; rest = files }) ≡ asked words
  asked-files mode [] is some = absurd (some refl)
  asked-files mode (file ∷ files) is some = ap asked_from is

pub ruleset calling = (asked-wrong, asked-nothing, asked-files)
