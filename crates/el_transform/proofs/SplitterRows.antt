-- What the definitions of a splitter say of literal pieces, where a space is a delimiter and the letters are none.
use Rattle.std.specs.Prelude.{◌≡◌, true, false, [], ◌∷◌, codes}
use Rattle.std.proofs.Common.{refl}
use Rattle.el_transform.specs.Crunching.{Delimiters, is_delimiter}
use Rattle.el_transform.specs.Splitter.{starting, fed, values_of, all_values, after_last}

record Blank (delims : Delimiters) : Type 0 where
  space : is_delimiter delims 32 ≡ true
  a : is_delimiter delims 97 ≡ false
  b : is_delimiter delims 98 ≡ false
  c : is_delimiter delims 99 ≡ false

-- nothing is the values of nothing
empty : (delims : Delimiters) → all_values (starting false delims) ([] ∷ [] ∷ []) ≡ []
empty delims = refl

over_two_pieces : (delims : Delimiters) → Blank delims → all_values (starting false delims) (codes "a b" ∷ codes "c " ∷ []) ≡ codes "a" ∷ codes "bc" ∷ []
over_two_pieces delims is = simp (is.space, is.a, is.b, is.c) refl

unfinished_grows : (delims : Delimiters) → Blank delims → (fed (fed (starting false delims) (codes "a b")) (codes "c")).unfinished ≡ codes "bc"
unfinished_grows delims is = simp (is.space, is.a, is.b, is.c) refl

-- a delimiter at the front ends an empty value, and with crunching the next one ends none
front_crunched : (delims : Delimiters) → Blank delims → all_values (starting true delims) (codes " " ∷ codes " a" ∷ []) ≡ [] ∷ codes "a" ∷ []
front_crunched delims is = simp (is.space, is.a) refl

front_kept : (delims : Delimiters) → Blank delims → all_values (starting false delims) (codes " " ∷ codes " a" ∷ []) ≡ [] ∷ [] ∷ codes "a" ∷ []
front_kept delims is = simp (is.space, is.a) refl

passed_over : (delims : Delimiters) → Blank delims → values_of (fed (starting true delims) (codes "a ")) (codes " b ") ≡ codes "b" ∷ []
passed_over delims is = simp (is.space, is.a, is.b) refl

behind_the_last : (delims : Delimiters) → Blank delims → after_last delims (codes "a bc") ≡ codes "bc"
behind_the_last delims is = simp (is.space, is.a, is.b, is.c) refl
