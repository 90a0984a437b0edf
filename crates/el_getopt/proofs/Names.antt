-- The names of the variables of letters.
use Rattle.el_room.proofs.Vocabulary.{is_ascii_alphanumeric, ne_eqb, and_parts, is_good_name}
use Rattle.std.proofs.Common.{◌≡◌, ℕ, zero, suc, ◌<◌, true, false, ◌||◌, ◌==◌, not, List, [], ◌∷◌, length, get_or, sym, ap, ◌∙◌, arith}
use Rattle.el_getopt.specs.declared.reader.FoundLetter.{FoundLetter}
use Rattle.el_getopt.specs.Environment.{option_prefix, option_name}
use Rattle.el_getopt.specs.Reader.{are_letters}

-- a letter or a digit is no equals sign (61)
no-equals : (letter : ℕ) → is_ascii_alphanumeric letter ≡ true → (letter == 61) ≡ false
no-equals letter is = ne_eqb letter 61 (λ same. let never : false ≡ true = sym (ap is_ascii_alphanumeric same) ∙ is in cc)

pub good-name : (letter : ℕ) → is_ascii_alphanumeric letter ≡ true → is_good_name (option_name letter) ≡ true
unfolding option_prefix
good-name letter is = ap (λ equals. not (equals || false)) (no-equals letter is)

-- each of these is a letter or a digit
pub named-at : (found : List FoundLetter) (index : ℕ) (other : FoundLetter) → are_letters found ≡ true → index < length found → is_ascii_alphanumeric (get_or found index other).letter ≡ true
named-at [] index other are inside = absurd (omega arith)
named-at (one ∷ found) zero other are inside = (and_parts (is_ascii_alphanumeric one.letter) (are_letters found) are).0
named-at (one ∷ found) (suc index) other are inside = named-at found index other (and_parts (is_ascii_alphanumeric one.letter) (are_letters found) are).1 (omega arith)
