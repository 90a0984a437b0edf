-- References after their `$`.
use Rattle.std.proofs.Common.{◌≡◌, ℕ, zero, suc, ◌<◌, ◌==◌, ◌||◌, Bool, true, false, List, [], ◌∷◌, ◌++◌, length, take, drop, slice_index_or, Some, None, option_map, refl, sym, ap, subst, ◌∙◌, arith, take-append-drop, drop-cons}
use Rattle.std.proofs.lemmas.Bool.{eqb-true, or_parts, false_from_ne_true}
use Rattle.std.proofs.lemmas.Grind.{common_steps}
use Rattle.memchr.specs.Find.{IsFirstByte, is_byte2}
use Rattle.el_subst.specs.Parts.{braced_key, found_run, is_name_byte}
use Rattle.std.specs.List.{prefix_len, take_while}
use Rattle.std.proofs.lemmas.List.Folds.{length-prefix_len}

-- neither `}` nor `$`
abbrev LacksBoth : List ℕ → Type 0
LacksBoth [] = Unit {0}
LacksBoth (byte ∷ bytes) = (((byte == 125) ≡ false) × ((byte == 36) ≡ false)) × LacksBoth bytes

lacks_below : (bytes : List ℕ) (n : ℕ) → ((k : ℕ) → k < n → is_byte2 125 36 (slice_index_or bytes k 0) ≡ true → ⊥) → LacksBoth (take n bytes)
lacks_below bytes zero none = tt
lacks_below [] (suc n) none = tt
lacks_below (byte ∷ bytes) (suc n) none = (or_parts (byte == 125) (byte == 36) (false_from_ne_true _ (none 0 (omega arith))), lacks_below bytes n (λ k below. none (suc k) (omega arith)))

key_lacking : (bytes : List ℕ) → LacksBoth bytes → braced_key bytes ≡ None
key_lacking [] lacks = refl
key_lacking (byte ∷ bytes) lacks = rw (lacks.0.0, lacks.0.1) (ap (option_map (λ key. byte ∷ key)) (key_lacking bytes lacks.1))

key_to_brace : (front back : List ℕ) → LacksBoth front → braced_key (front ++ 125 ∷ back) ≡ Some front
key_to_brace [] back lacks = refl
key_to_brace (byte ∷ front) back lacks = rw (lacks.0.0, lacks.0.1) (ap (option_map (λ key. byte ∷ key)) (key_to_brace front back lacks.1))

key_to_dollar : (front back : List ℕ) → LacksBoth front → braced_key (front ++ 36 ∷ back) ≡ None
key_to_dollar [] back lacks = refl
key_to_dollar (byte ∷ front) back lacks = rw (lacks.0.0, lacks.0.1) (ap (option_map (λ key. byte ∷ key)) (key_to_dollar front back lacks.1))

split : (bytes : List ℕ) (end byte : ℕ) → end < length bytes → slice_index_or bytes end 0 ≡ byte → bytes ≡ take end bytes ++ byte ∷ drop (suc end) bytes
split bytes end byte within is =
    sym (take-append-drop end bytes)
    ∙ ap (λ more. take end bytes ++ more) (drop-cons bytes end 0 within ∙ ap (λ (b : ℕ). b ∷ drop (suc end) bytes) is)

pub braced_key-none : (bytes : List ℕ) → IsFirstByte (is_byte2 125 36) bytes None → braced_key bytes ≡ None
braced_key-none bytes none =
    let all : take (length bytes) bytes ≡ bytes = grind (arith, common_steps) in
    key_lacking bytes (subst LacksBoth all (lacks_below bytes (length bytes) (λ k below e. none k (omega arith) below e)))

pub braced_key-dollar : (bytes : List ℕ) (end : ℕ) → IsFirstByte (is_byte2 125 36) bytes (Some end) → slice_index_or bytes end 0 ≡ 36 → braced_key bytes ≡ None
braced_key-dollar bytes end found is =
    ap braced_key (split bytes end 36 found.0.high is)
    ∙ key_to_dollar (take end bytes) (drop (suc end) bytes) (lacks_below bytes end (λ k below e. found.0.before k (omega arith) below e))

pub braced_key-brace : (bytes : List ℕ) (end : ℕ) → IsFirstByte (is_byte2 125 36) bytes (Some end) → (slice_index_or bytes end 0 ≡ 36 → ⊥) → braced_key bytes ≡ Some (take end bytes)
braced_key-brace bytes end found other =
    ap braced_key (split bytes end 125 found.0.high (by (slice_index_or bytes end 0 == 125) refl (slice_index_or bytes end 0 == 36) refl found.1))
    ∙ key_to_brace (take end bytes) (drop (suc end) bytes) (lacks_below bytes end (λ k below e. found.0.before k (omega arith) below e))
  where
    by : (one : Bool) → (slice_index_or bytes end 0 == 125) ≡ one → (two : Bool) → (slice_index_or bytes end 0 == 36) ≡ two → (one || two) ≡ true → slice_index_or bytes end 0 ≡ 125
    by true e two f some = eqb-true (slice_index_or bytes end 0) 125 e
    by false e true f some = absurd (other (eqb-true (slice_index_or bytes end 0) 36 f))
    by false e false f some = let wrong : false ≡ true = some in absurd (cc)

found_run-some : (run : List ℕ) (n : ℕ) → length run ≡ n → (n ≡ 0 → ⊥) → found_run run ≡ Some (run, n)
found_run-some [] n size some = absurd (some (sym size))
found_run-some (byte ∷ run) n size some = ap (λ k. Some (byte ∷ run, k)) size

found_run-none : (run : List ℕ) → length run ≡ 0 → found_run run ≡ None
found_run-none [] none = refl
found_run-none (byte ∷ run) none = absurd (omega (arith, none))

pub name_run-some : (bytes : List ℕ) (n : ℕ) → n ≡ prefix_len is_name_byte bytes → (n ≡ 0 → ⊥) → found_run (take_while is_name_byte bytes) ≡ Some (take n bytes, n)
name_run-some bytes n is some =
    ap (λ k. found_run (take k bytes)) (sym is)
    ∙ found_run-some (take n bytes) n (ap (λ k. length (take k bytes)) is ∙ length-prefix_len is_name_byte bytes ∙ sym is) some

pub name_run-none : (bytes : List ℕ) (n : ℕ) → n ≡ prefix_len is_name_byte bytes → n ≡ 0 → found_run (take_while is_name_byte bytes) ≡ None
name_run-none bytes n is none = found_run-none (take_while is_name_byte bytes) (length-prefix_len is_name_byte bytes ∙ sym is ∙ none)
