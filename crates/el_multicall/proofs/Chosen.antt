-- Whether elrecord is called.
use Rattle.std.proofs.Common.{◌≡◌, ℕ, ◌<◌, Bool, true, false, true≢false, List, [], ◌∷◌, length, drop, Option, Some, None, refl, sym, ap, ◌∙◌, arith}
use Rattle.std.specs.Prelude.{◌&&◌, slice_get, if◌then◌else◌}
use Rattle.std.specs.Str.{bytes_eq}
use Rattle.el_app.specs.Names.{base_name, execline_name}
use Rattle.el_multicall.specs.Record.{elrecord_name, is_named_elrecord, elrecord_words}

same_word : {A : Type 0} (one other : A) → ◌≡◌ {A = Option A} (Some one) (Some other) → one ≡ other
same_word one other e = cc

pub no_words : (words : List (List ℕ)) → None ≡ slice_get words 0 → None ≡ elrecord_words words
no_words [] e = refl
no_words (word ∷ words) e = absurd (cc)

pub named_first : (words : List (List ℕ)) (first : List ℕ) → Some first ≡ slice_get words 0 → bytes_eq (base_name first) elrecord_name ≡ true → Some words ≡ elrecord_words words
named_first [] first e is = absurd (cc)
named_first (word ∷ words) first e is =
    let same : bytes_eq (base_name word) elrecord_name ≡ true = ap (λ w. bytes_eq (base_name w) elrecord_name) (sym (same_word first word e)) ∙ is in
    ap (λ b. if◌then◌else◌ {A = Option (List (List ℕ))} b (Some (word ∷ words)) (if bytes_eq (base_name word) execline_name && is_named_elrecord (slice_get words 0) then Some words else None)) (sym same)

-- otherwise it hangs on the second word
otherwise : (words : List (List ℕ)) (first : List ℕ) (chosen : Bool) → Some first ≡ slice_get words 0 → bytes_eq (base_name first) elrecord_name ≡ false
    → (bytes_eq (base_name first) execline_name && is_named_elrecord (slice_get words 1)) ≡ chosen → (if chosen then Some (drop 1 words) else None) ≡ elrecord_words words
otherwise [] first chosen e isnt is = absurd (cc)
otherwise (word ∷ words) first chosen e isnt is =
    let same = sym (same_word first word e) in
    let other : bytes_eq (base_name word) elrecord_name ≡ false = ap (λ w. bytes_eq (base_name w) elrecord_name) same ∙ isnt in
    let second : (bytes_eq (base_name word) execline_name && is_named_elrecord (slice_get words 0)) ≡ chosen = ap (λ w. bytes_eq (base_name w) execline_name && is_named_elrecord (slice_get words 0)) same ∙ is in
    ap (λ b. if◌then◌else◌ {A = Option (List (List ℕ))} b (Some words) None) (sym second)
    ∙ ap (λ b. if◌then◌else◌ {A = Option (List (List ℕ))} b (Some (word ∷ words)) (if bytes_eq (base_name word) execline_name && is_named_elrecord (slice_get words 0) then Some words else None)) (sym other)

pub named_second : (words : List (List ℕ)) (first : List ℕ) → Some first ≡ slice_get words 0 → bytes_eq (base_name first) elrecord_name ≡ false
    → (bytes_eq (base_name first) execline_name && is_named_elrecord (slice_get words 1)) ≡ true → Some (drop 1 words) ≡ elrecord_words words
named_second words first e isnt is = otherwise words first true e isnt is

pub not_named : (words : List (List ℕ)) (first : List ℕ) → Some first ≡ slice_get words 0 → bytes_eq (base_name first) elrecord_name ≡ false
    → (bytes_eq (base_name first) execline_name && is_named_elrecord (slice_get words 1)) ≡ false → None ≡ elrecord_words words
not_named words first e isnt is = otherwise words first false e isnt is

-- a second word is there
pub has_second : (words : List (List ℕ)) → is_named_elrecord (slice_get words 1) ≡ true → 1 < length words
has_second [] is = absurd (true≢false (sym is))
has_second (word ∷ []) is = absurd (true≢false (sym is))
has_second (word ∷ next ∷ words) is = omega arith

pub has_first : (words : List (List ℕ)) (first : List ℕ) → Some first ≡ slice_get words 0 → 0 < length words
has_first [] first e = absurd (cc)
has_first (word ∷ words) first e = omega arith
