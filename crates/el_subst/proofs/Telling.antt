-- A word that lacks a byte of the only key stays as it is.
use Rattle.std.proofs.Common.{◌≡◌, ℕ, zero, suc, ◌==◌, Bool, true, false, true≢false, if◌then◌else◌, List, [], ◌∷◌, ◌++◌, map, take_while, Option, None, Some, option_map, Contains, refl, sym, ap, subst, ◌∙◌, arith, ◌⊎◌, inl, inr, ◌≢◌}
use Rattle.std.proofs.lemmas.Bool.{eqb-true}
use Rattle.std.proofs.lemmas.Bool.Decides.{eqb_tells}
use Rattle.std.proofs.lemmas.List.Sums.{take_while-cons}
use Rattle.std.specs.Cmp.Lexicographic.{bytes_decides}
use Rattle.std.specs.Str.{bytes_eq}
use Rattle.el_subst.specs.Parts.{Part, Byte, Reference, FoundKey, slashes, slash_parts, braced_key, found_braced, found_run, found_plain, found_after, is_special, is_name_byte, part_at, parts_from, parts_of, parts_text}
use Rattle.el_subst.specs.Values.{Pairs, chosen, choices, products, words_of, word_value}
use Rattle.el_subst.specs.Telling.{Lacks, IsTelling}
use Rattle.el_subst.proofs.Parts.{parts_text-is}
use Rattle.el_subst.proofs.Values.{joined, value_of, products-one, plain-stays}

-- ---- keys lack what their word lacks

abbrev KeyLacks : ℕ → Option (List ℕ) → Type 0
KeyLacks byte None = Unit {0}
KeyLacks byte (Some key) = Lacks byte key

abbrev FoundLacks : ℕ → FoundKey → Type 0
FoundLacks byte None = Unit {0}
FoundLacks byte (Some found) = Lacks byte found.0

abbrev KeysLack : ℕ → List Part → Type 0
KeysLack byte [] = Unit {0}
KeysLack byte (Byte other ∷ parts) = KeysLack byte parts
KeysLack byte (Reference n key text ∷ parts) = Lacks byte key × KeysLack byte parts

braced-lacks : (byte : ℕ) (bytes : List ℕ) → Lacks byte bytes → KeyLacks byte (braced_key bytes)
braced-lacks byte [] lacks = tt
braced-lacks byte (first ∷ bytes) lacks = by (first == 125) (first == 36) (braced_key bytes) (braced-lacks byte bytes lacks.1)
  where
    by : (brace dollar : Bool) (key : Option (List ℕ)) → KeyLacks byte key → KeyLacks byte (if brace then Some [] else (if dollar then None else option_map (λ key. first ∷ key) key))
    by true dollar key lack = tt
    by false true key lack = tt
    by false false None lack = tt
    by false false (Some key) lack = (lacks.0, lack)

found_braced-lacks : (byte : ℕ) (key : Option (List ℕ)) → KeyLacks byte key → FoundLacks byte (found_braced key)
found_braced-lacks byte None lack = tt
found_braced-lacks byte (Some key) lack = lack

found_run-lacks : (byte : ℕ) (key : List ℕ) → Lacks byte key → FoundLacks byte (found_run key)
found_run-lacks byte [] lack = tt
found_run-lacks byte (first ∷ key) lack = lack

run-lacks : (byte : ℕ) (bytes : List ℕ) → Lacks byte bytes → Lacks byte (take_while is_name_byte bytes)
run-lacks byte [] lacks = tt
run-lacks byte (first ∷ bytes) lacks = subst (Lacks byte) (sym (take_while-cons is_name_byte first bytes)) (by (is_name_byte first) (run-lacks byte bytes lacks.1))
  where
    by : (is : Bool) → Lacks byte (take_while is_name_byte bytes) → Lacks byte (if is then first ∷ take_while is_name_byte bytes else [])
    by true lack = (lacks.0, lack)
    by false lack = tt

found_plain-lacks : (byte : ℕ) (bytes : List ℕ) → Lacks byte bytes → FoundLacks byte (found_plain bytes)
found_plain-lacks byte [] lacks = tt
found_plain-lacks byte (first ∷ bytes) lacks = by (is_special first)
  where
    by : (is : Bool) → FoundLacks byte (if is then Some (first ∷ [], 1) else found_run (take_while is_name_byte (first ∷ bytes)))
    by true = (lacks.0, tt)
    by false = found_run-lacks byte (take_while is_name_byte (first ∷ bytes)) (run-lacks byte (first ∷ bytes) lacks)

found-lacks : (byte : ℕ) (bytes : List ℕ) → Lacks byte bytes → FoundLacks byte (found_after bytes)
found-lacks byte [] lacks = tt
found-lacks byte (first ∷ bytes) lacks = by (first == 123)
  where
    by : (is : Bool) → FoundLacks byte (if is then found_braced (braced_key bytes) else found_plain (first ∷ bytes))
    by true = found_braced-lacks byte (braced_key bytes) (braced-lacks byte bytes lacks.1)
    by false = found_plain-lacks byte (first ∷ bytes) lacks

slashes-lack : (byte n : ℕ) (parts : List Part) → KeysLack byte parts → KeysLack byte (slash_parts n ++ parts)
slashes-lack byte zero parts lack = lack
slashes-lack byte (suc n) parts lack = slashes-lack byte n parts lack

slashes-alone : (byte n : ℕ) → KeysLack byte (slash_parts n)
slashes-alone byte zero = tt
slashes-alone byte (suc n) = slashes-alone byte n

keys-lack : (byte : ℕ) (word : List ℕ) → Lacks byte word → (skip n : ℕ) → KeysLack byte (parts_from skip n word)
keys-lack byte [] lacks skip n = slashes-alone byte n
keys-lack byte (first ∷ bytes) lacks (suc skip) n = keys-lack byte bytes lacks.1 skip 0
keys-lack byte (first ∷ bytes) lacks zero n = by (λ skip k. keys-lack byte bytes lacks.1 skip k) (first == 92) (first == 36) (found_after bytes) (found-lacks byte bytes lacks.1)
  where
    by : ((skip k : ℕ) → KeysLack byte (parts_from skip k bytes)) → (is_slash is_dollar : Bool) (found : FoundKey) → FoundLacks byte found
        → KeysLack byte (part_at is_slash is_dollar found n first bytes (λ skip k. parts_from skip k bytes))
    by more true is_dollar found lack = more 0 (suc n)
    by more false false found lack = slashes-lack byte n (Byte first ∷ parts_from 0 0 bytes) (more 0 0)
    by more false true None lack = slashes-lack byte n (Byte first ∷ parts_from 0 0 bytes) (more 0 0)
    by more false true (Some found) lack = (lack, more found.1 0)

-- ---- so none of them is the key

eqb-same : (x y : ℕ) → x ≡ y → (x == y) ≡ true
eqb-same x y same = by (eqb_tells x y)
  where
    by : (((x == y) ≡ true) × (x ≡ y)) ⊎ (((x == y) ≡ false) × (x ≢ y)) → (x == y) ≡ true
    by (inl is) = is.0
    by (inr other) = absurd (other.1 same)

lacks-none : (byte : ℕ) (bytes : List ℕ) → Lacks byte bytes → Contains bytes byte → ⊥
lacks-none byte [] lacks (k, below, at) = absurd (omega (arith, below))
lacks-none byte (first ∷ bytes) lacks (zero, below, at) = true≢false (sym (eqb-same first byte at) ∙ lacks.0)
lacks-none byte (first ∷ bytes) lacks (suc k, below, at) = lacks-none byte bytes lacks.1 (k, omega arith, at)

lacks-from : (byte : ℕ) (word : List ℕ) → (Contains word byte → ⊥) → Lacks byte word
lacks-from byte [] none = tt
lacks-from byte (first ∷ bytes) none = (by (first == byte) refl, lacks-from byte bytes (λ (k, below, at). none (suc k, omega arith, at)))
  where
    by : (is : Bool) → (first == byte) ≡ is → (first == byte) ≡ false
    by true e = absurd (none (0, omega arith, eqb-true first byte e))
    by false e = e

abbrev AreUnpaired : Pairs → List Part → Type 0
AreUnpaired pairs [] = Unit {0}
AreUnpaired pairs (Byte byte ∷ parts) = AreUnpaired pairs parts
AreUnpaired pairs (Reference n key text ∷ parts) = (words_of pairs key ≡ None) × AreUnpaired pairs parts

unpaired : (key : List ℕ) (value : List (List ℕ)) (byte : ℕ) → Contains key byte → (parts : List Part) → KeysLack byte parts → AreUnpaired ((key, value) ∷ []) parts
unpaired key value byte has [] lack = tt
unpaired key value byte has (Byte other ∷ parts) lack = unpaired key value byte has parts lack
unpaired key value byte has (Reference n other text ∷ parts) lack = (by (bytes_eq key other) refl, unpaired key value byte has parts lack.1)
  where
    by : (is : Bool) → bytes_eq key other ≡ is → (if bytes_eq key other then Some value else None) ≡ None
    by true e = absurd (lacks-none byte other lack.0 (subst (λ (bytes : List ℕ). Contains bytes byte) ((bytes_decides key other).0 e) has))
    by false e = ap (λ (is : Bool). if is then Some value else None) e

unpaired-stay : (pairs : Pairs) (parts : List Part) → AreUnpaired pairs parts → value_of pairs parts ≡ parts_text parts ∷ []
unpaired-stay pairs [] none = refl
unpaired-stay pairs (Byte byte ∷ parts) none = products-one (byte ∷ []) (map (choices pairs) parts) ∙ ap (joined (byte ∷ [])) (unpaired-stay pairs parts none)
unpaired-stay pairs (Reference n key text ∷ parts) none =
    ap (λ value. products (chosen n text value ∷ map (choices pairs) parts)) none.0
    ∙ products-one (slashes n ++ text) (map (choices pairs) parts)
    ∙ ap (joined (slashes n ++ text)) (unpaired-stay pairs parts none.1)

-- a word that lacks a byte of the only key stays, and so does one without `$`
pub telling-stays : (key : List ℕ) (value : List (List ℕ)) (byte : ℕ) → IsTelling key byte → (word : List ℕ) → (Contains word byte → ⊥) → word_value ((key, value) ∷ []) word ≡ word ∷ []
telling-stays key value byte (inl dollar) word none = plain-stays ((key, value) ∷ []) word (λ has. none (subst (Contains word) (sym dollar) has))
telling-stays key value byte (inr has) word none =
    unpaired-stay ((key, value) ∷ []) (parts_of word) (unpaired key value byte has (parts_of word) (keys-lack byte word (lacks-from byte word none) 0 0))
    ∙ ap (λ (text : List ℕ). text ∷ []) (parts_text-is word)
