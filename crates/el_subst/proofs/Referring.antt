-- The references of a word, from its first `$` on.
use Rattle.std.proofs.Common.{if◌then◌else◌, ◌≡◌, ℕ, zero, suc, ◌+◌, ◌-◌, ◌≤◌, ◌==◌, Bool, true, false, true≢false, List, [], ◌∷◌, ◌++◌, length, take, drop, reverse, Some, None, refl, sym, ap, ◌∙◌, append-nil}
use Rattle.std.specs.List.{prefix_len}
use Rattle.memchr.specs.Find.{IsFirstByte, is_byte}
use Rattle.el_subst.specs.Parts.{Part, Byte, FoundKey, slash_parts, found_after, part_at, parts_from, parts_of}
use Rattle.el_subst.specs.References.{Referred, references_in, references_of}
use Rattle.el_subst.proofs.Parts.{parts_from-skip}
use Rattle.el_subst.proofs.Values.{LacksDollar, LacksDollar-none, FirstDollar, FirstDollar-found, dollar_split, trail, trail-prefix, rest_of}

-- backslashes are no references
slashes-refer : (n : ℕ) (parts : List Part) → references_in (slash_parts n ++ parts) ≡ references_in parts
slashes-refer zero parts = refl
slashes-refer (suc n) parts = slashes-refer n parts

-- bytes without a `$` have none
refer-before : (n : ℕ) (bytes rest : List ℕ) → LacksDollar bytes → references_in (parts_from 0 n (bytes ++ rest)) ≡ references_in (parts_from 0 (trail n bytes) rest)
refer-before n [] rest none = refl
refer-before n (byte ∷ bytes) rest none = by (λ m. refer-before m bytes rest none.1) (byte == 92) (byte == 36) none.0
  where
    by : ((m : ℕ) → references_in (parts_from 0 m (bytes ++ rest)) ≡ references_in (parts_from 0 (trail m bytes) rest))
        → (is_slash is_dollar : Bool) → is_dollar ≡ false
        → references_in (part_at is_slash is_dollar (found_after (bytes ++ rest)) n byte (bytes ++ rest) (λ skip k. parts_from skip k (bytes ++ rest)))
        ≡ references_in (parts_from 0 (trail (if is_slash then suc n else 0) bytes) rest)
    by more true is_dollar other = more (suc n)
    by more false true other = absurd (true≢false other)
    by more false false other = slashes-refer n (Byte byte ∷ parts_from 0 0 (bytes ++ rest)) ∙ more 0

-- what a `$` behind so many backslashes begins
abbrev refer-dollar : (n : ℕ) (after : List ℕ) (found : FoundKey) → List Referred
refer-dollar n after None = references_of after
refer-dollar n after (Some found) = (n, found.0) ∷ references_of (drop found.1 after)

dollar-refers : (n : ℕ) (after : List ℕ) → references_in (parts_from 0 n (36 ∷ after)) ≡ refer-dollar n after (found_after after)
dollar-refers n after = by (found_after after)
  where
    by : (found : FoundKey) → references_in (part_at false true found n 36 after (λ skip k. parts_from skip k after)) ≡ refer-dollar n after found
    by None = slashes-refer n (Byte 36 ∷ parts_of after)
    by (Some found) = ap (λ parts. (n, found.0) ∷ references_in parts) (parts_from-skip found.1 after)

-- a word without a `$` has no references
pub none-refers : (word : List ℕ) → IsFirstByte (is_byte 36) word None → references_of word ≡ []
none-refers word none =
    ap references_of (sym (append-nil word)) ∙ refer-before 0 word [] (LacksDollar-none word none)
    ∙ ap references_in (sym (append-nil (slash_parts (trail 0 word)))) ∙ slashes-refer (trail 0 word) []

first-refers : (word : List ℕ) (dollar : ℕ) → FirstDollar word dollar → references_of word ≡ refer-dollar (trail 0 (take dollar word)) (drop (dollar + 1) word) (found_after (drop (dollar + 1) word))
first-refers word dollar first =
    ap references_of (dollar_split word dollar first) ∙ refer-before 0 (take dollar word) (36 ∷ drop (dollar + 1) word) first.lacks
    ∙ dollar-refers (trail 0 (take dollar word)) (drop (dollar + 1) word)

-- a `$` that begins no reference
pub dollar-alone : (word : List ℕ) (dollar : ℕ) → IsFirstByte (is_byte 36) word (Some dollar) → found_after (take (length word - (dollar + 1)) (drop (dollar + 1) word)) ≡ None
    → references_of word ≡ references_of (take (length word - (dollar + 1)) (drop (dollar + 1) word))
dollar-alone word dollar found none =
    let after = rest_of word (dollar + 1) in
    first-refers word dollar (FirstDollar-found word dollar found)
    ∙ ap (refer-dollar (trail 0 (take dollar word)) (drop (dollar + 1) word)) (ap found_after (sym after) ∙ none)
    ∙ ap references_of (sym after)

-- a `$` that begins one
pub dollar-begins : (word : List ℕ) (dollar n : ℕ) (one : List ℕ × ℕ) → IsFirstByte (is_byte 36) word (Some dollar) → found_after (take (length word - (dollar + 1)) (drop (dollar + 1) word)) ≡ Some one
    → n ≡ prefix_len (λ byte. byte == 92) (reverse (take dollar word))
    → references_of word ≡ (n, one.0) ∷ references_of (take (length (take (length word - (dollar + 1)) (drop (dollar + 1) word)) - one.1) (drop one.1 (take (length word - (dollar + 1)) (drop (dollar + 1) word))))
dollar-begins word dollar n one found some trailing =
    let after = rest_of word (dollar + 1) in
    let bytes = take (length word - (dollar + 1)) (drop (dollar + 1) word) in
    first-refers word dollar (FirstDollar-found word dollar found)
    ∙ ap (refer-dollar (trail 0 (take dollar word)) (drop (dollar + 1) word)) (ap found_after (sym after) ∙ some)
    ∙ ap (λ m. (m, one.0) ∷ references_of (drop one.1 (drop (dollar + 1) word))) (sym (trailing ∙ trail-prefix (take dollar word)))
    ∙ ap (λ bytes. (n, one.0) ∷ references_of (drop one.1 bytes)) (sym after)
    ∙ ap (λ rest. (n, one.0) ∷ references_of rest) (sym (rest_of bytes one.1))

-- the references of a word are those of what is left of it
pub record RefersAlike (word rest : List ℕ) : Type 0 where
  pub within : length rest ≤ length word
  pub same : references_of word ≡ references_of rest
