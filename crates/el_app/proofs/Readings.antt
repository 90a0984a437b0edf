-- What the words of a call say, by the letters that are read of them.
use Rattle.el_room.proofs.Vocabulary.{Opt, UsageFault, reading, faulty, is_bad_number, positionals_rule, BadNumber, Choice, CallLetters, chosen_by, trouble_of, lack_by, any_value, CallRead, last_number}
use Rattle.std.proofs.Common.{◌≡◌, ℕ, Bool, true, false, List, drop, Err, sym, ap, ◌∙◌, if◌then◌else◌}
use Rattle.el_options.specs.declared.read.UsageFault.TheVariants.{Unknown, NoValue}
use Rattle.el_app.specs.Options.{call_options, asked_behind, asked_by, asked}

module _ (groups : List (List ℕ)) (opts : List Opt) (words : List (List ℕ)) where
  -- a bad letter
  pub letter_refused : (fault : UsageFault) → reading opts words ≡ faulty fault → Err (trouble_of (lack_by fault)) ≡ asked (call_options groups opts) words
  unfolding asked
  letter_refused (Unknown letter) is = ap (asked_by (call_options groups opts)) (sym is)
  letter_refused (NoValue letter) is = ap (asked_by (call_options groups opts)) (sym is)

  module _ (call : CallLetters) (read : CallRead groups opts words call) where
    -- by the test of the last number, and then by the letters in force
    tested : (bad : Bool) → any_value positionals_rule is_bad_number call.last.items ≡ bad → asked (call_options groups opts) words ≡ (if bad then Err BadNumber else asked_behind call.in_force.items (drop call.used words))
    unfolding asked
    tested bad is =
        ap (asked_by (call_options groups opts)) read.is_reading
        ∙ ap (λ (bad : Bool). if bad then Err BadNumber else asked_behind (chosen_by groups opts read.letters) read.rest) (sym (last_number groups opts words call positionals_rule read) ∙ is)
        ∙ ap (λ (choices : List Choice). if bad then Err BadNumber else asked_behind choices read.rest) (sym read.in_force)
        ∙ ap (λ (rest : List (List ℕ)). if bad then Err BadNumber else asked_behind call.in_force.items rest) read.is_rest

    pub number_refused : any_value positionals_rule is_bad_number call.last.items ≡ true → Err BadNumber ≡ asked (call_options groups opts) words
    number_refused bad = sym (tested true bad)

    pub letters_ask : any_value positionals_rule is_bad_number call.last.items ≡ false → asked_behind call.in_force.items (drop call.used words) ≡ asked (call_options groups opts) words
    letters_ask good = sym (tested false good)
