-- What elglob's words say, by the letters that are read of them.
use Rattle.std.proofs.Common.{◌≡◌, ◌∙◌, sym, ap, ℕ, List, [], drop, Err}
use Rattle.el_options.specs.declared.read.UsageFault.{UsageFault}
use Rattle.el_options.specs.declared.read.UsageFault.TheVariants.{Unknown, NoValue}
use Rattle.el_options.specs.Reading.{reading}
use Rattle.el_options.specs.Slots.{faulty}
use Rattle.el_front.specs.declared.choice.Choice.{Choice}
use Rattle.el_front.specs.declared.call.CallLetters.{CallLetters}
use Rattle.el_front.specs.Fronts.{trouble_of}
use Rattle.el_front.specs.Letters.{lack_by}
use Rattle.el_front.specs.Calls.{CallRead}
use Rattle.el_glob.specs.declared.refusal.Refusal.TheVariants.{Common}
use Rattle.el_glob.specs.Asked.{elglob_letters, asks_none_for_none, asked_behind, asked_by, asked}

module _ (words : List (List ℕ)) where
  -- a bad letter
  pub letter_refused : (fault : UsageFault) → reading elglob_letters words ≡ faulty fault → Err (Common (trouble_of (lack_by fault))) ≡ asked words
  unfolding asked
  letter_refused (Unknown letter) is = ap (asked_by elglob_letters) (sym is)
  letter_refused (NoValue letter) is = ap (asked_by elglob_letters) (sym is)

  -- good letters
  pub letters_ask : (call : CallLetters) → CallRead [] elglob_letters words call → asked_behind (asks_none_for_none call.in_force.items) (drop call.used words) ≡ asked words
  unfolding asked
  letters_ask call read = sym (
      ap (asked_by elglob_letters) read.is_reading
      ∙ ap (λ (choices : List Choice). asked_behind (asks_none_for_none choices) read.rest) (sym read.in_force)
      ∙ ap (asked_behind (asks_none_for_none call.in_force.items)) read.is_rest
      )
