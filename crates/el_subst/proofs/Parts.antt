-- The parts of a word, joined, are the word.
use Rattle.std.proofs.Common.{◌≡◌, ℕ, zero, suc, ◌==◌, Bool, true, false, List, [], ◌∷◌, ◌++◌, take, drop, take-append-drop, Some, None, refl, sym, ap, ◌∙◌, append_assoc, append-nil}
use Rattle.std.proofs.lemmas.Bool.{eqb-true}
use Rattle.std.proofs.lemmas.List.Concat.{flat_map-append}
use Rattle.el_subst.specs.Parts.{Part, Byte, FoundKey, slashes, slash_parts, found_after, part_at, parts_from, parts_of, part_text, parts_text}

slash_text : (n : ℕ) → parts_text (slash_parts n) ≡ slashes n
slash_text zero = refl
slash_text (suc n) = ap (λ (text : List ℕ). 92 ∷ text) (slash_text n)

pub slashes-shift : (n : ℕ) (text : List ℕ) → slashes (suc n) ++ text ≡ slashes n ++ 92 ∷ text
slashes-shift zero text = refl
slashes-shift (suc n) text = ap (λ (more : List ℕ). 92 ∷ more) (slashes-shift n text)

byte_text : (n byte : ℕ) (bytes : List ℕ) (parts : List Part) → parts_text parts ≡ bytes → parts_text (slash_parts n ++ Byte byte ∷ parts) ≡ slashes n ++ byte ∷ bytes
byte_text n byte bytes parts is =
    flat_map-append part_text (slash_parts n) (Byte byte ∷ parts)
    ∙ ap (λ text. text ++ byte ∷ parts_text parts) (slash_text n) ∙ ap (λ text. slashes n ++ byte ∷ text) is

at_text : (is_slash is_dollar : Bool) (found : FoundKey) (n byte : ℕ) (bytes : List ℕ) (more : ℕ → ℕ → List Part)
    → (is_slash ≡ true → byte ≡ 92) → ((m : ℕ) → parts_text (more 0 m) ≡ slashes m ++ bytes) → ((skip : ℕ) → parts_text (more skip 0) ≡ drop skip bytes)
    → parts_text (part_at is_slash is_dollar found n byte bytes more) ≡ slashes n ++ byte ∷ bytes
at_text true is_dollar found n byte bytes more slash here skipped = here (suc n) ∙ slashes-shift n bytes ∙ ap (λ c. slashes n ++ c ∷ bytes) (sym (slash refl))
at_text false false found n byte bytes more slash here skipped = byte_text n byte bytes (more 0 0) (here 0)
at_text false true None n byte bytes more slash here skipped = byte_text n byte bytes (more 0 0) (here 0)
at_text false true (Some found) n byte bytes more slash here skipped =
    ap (λ text. (slashes n ++ byte ∷ take found.1 bytes) ++ text) (skipped found.1)
    ∙ append_assoc (slashes n) (byte ∷ take found.1 bytes) (drop found.1 bytes)
    ∙ ap (λ (text : List ℕ). slashes n ++ byte ∷ text) (take-append-drop found.1 bytes)

drop-nothing : (n : ℕ) → drop {A = ℕ} n [] ≡ []
drop-nothing zero = refl
drop-nothing (suc n) = refl

text_both : (word : List ℕ) → ((n : ℕ) → parts_text (parts_from 0 n word) ≡ slashes n ++ word) × ((skip : ℕ) → parts_text (parts_from skip 0 word) ≡ drop skip word)
text_both [] = (λ n. slash_text n ∙ sym (append-nil (slashes n)), λ skip. sym (drop-nothing skip))
text_both (byte ∷ bytes) =
    let rest = text_both bytes in
    let here : (n : ℕ) → parts_text (parts_from 0 n (byte ∷ bytes)) ≡ slashes n ++ byte ∷ bytes =
    λ n. at_text (byte == 92) (byte == 36) (found_after bytes) n byte bytes (λ skip k. parts_from skip k bytes) (λ slash. eqb-true byte 92 slash) rest.0 rest.1 in
    (here, elim [ zero ↦ here 0 | suc skip ↦ rest.1 skip ])

pub parts_text-is : (word : List ℕ) → parts_text (parts_of word) ≡ word
parts_text-is word = (text_both word).0 0

-- skipped bytes are dropped
pub parts_from-skip : (skip : ℕ) (word : List ℕ) → parts_from skip 0 word ≡ parts_of (drop skip word)
parts_from-skip zero word = refl
parts_from-skip (suc skip) [] = refl
parts_from-skip (suc skip) (byte ∷ bytes) = parts_from-skip skip bytes
