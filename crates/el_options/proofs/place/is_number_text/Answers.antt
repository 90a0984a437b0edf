use Rattle.std.proofs.Common.{◌≡◌, ◌==◌, ℕ, List, [], ◌∷◌, length, false, refl, sym, ◌∙◌}
use Rattle.el_words.specs.Number.{are_digits}
use Rattle.el_options.specs.Fronts.{is_number_text}
use Rattle.el_options.proofs.place.is_number_text.Goals as goal

number_text : (bytes : List ℕ) → (length bytes == 0) ≡ false → are_digits bytes ≡ is_number_text bytes
number_text [] some = absurd (cc)
number_text (byte ∷ bytes) some = refl

pub returns-then-not-is_empty : goal.returns-then-not-is_empty
returns-then-not-is_empty c = c.are_digits.ensures ∙ number_text c.args.word.now (sym c.is_empty.ensures ∙ c.if-not-is_empty.true)
