-- The value of a word, from its first `$` on.
use Rattle.std.proofs.Common.{◌≡◌, ℕ, zero, suc, ◌+◌, ◌-◌, ◌/◌, ◌%◌, ◌<◌, ◌≤◌, ◌==◌, Bool, true, false, true≢false, if◌then◌else◌, List, [], ◌∷◌, ◌++◌, map, map-id, length, take, drop, slice_index_or, Option, Some, None, Contains, refl, sym, ap, subst, ◌∙◌, arith, append_assoc, append-nil, take-append-drop, length-append, length-take, length-drop, drop-cons, add-one, zero-add, reverse}
use Rattle.std.proofs.lemmas.Bool.{eqb-true}
use Rattle.std.proofs.lemmas.List.{take_more, take-take, drop-drop, map-append, reverse-append, reverse-reverse, replicate-append-replicate, length-replicate}
use Rattle.std.proofs.lemmas.Grind.{common_steps}
use Rattle.std.specs.List.{prefix_len}
use Rattle.std.specs.Option.{option_map}
use Rattle.memchr.specs.Find.{IsFirstByte, is_byte}
use Rattle.el_subst.specs.Parts.{Part, Byte, Reference, FoundKey, slashes, slash_parts, found_after, part_at, parts_from, parts_of, parts_text}
use Rattle.el_subst.specs.Values.{Pairs, chosen, choices, products, word_value, words_value}
use Rattle.el_subst.specs.Pieces.{part_choices, replaced}
use Rattle.el_subst.specs.Dollars.{pair_of, pair_after}
use Rattle.el_subst.proofs.Parts.{parts_from-skip, slashes-shift, parts_text-is}

abbrev pub joined : List ℕ → List (List ℕ) → List (List ℕ)
joined text made = map (λ more. text ++ more) made

-- the value of parts
abbrev pub value_of : Pairs → List Part → List (List ℕ)
value_of pairs parts = products (map (choices pairs) parts)

joined-joined : (text more : List ℕ) (made : List (List ℕ)) → joined text (joined more made) ≡ joined (text ++ more) made
joined-joined text more [] = refl
joined-joined text more (word ∷ made) = λ i. sym (append_assoc text more word) i ∷ joined-joined text more made i

-- one choice alone is put before all products of the rest
pub products-one : (text : List ℕ) (rest : List (List (List ℕ))) → products ((text ∷ []) ∷ rest) ≡ map (λ more. text ++ more) (products rest)
products-one text rest = append-nil (joined text (products rest))

value_slashes : (pairs : Pairs) (n : ℕ) (parts : List Part) → value_of pairs (slash_parts n ++ parts) ≡ joined (slashes n) (value_of pairs parts)
value_slashes pairs zero parts = sym (map-id (value_of pairs parts))
value_slashes pairs (suc n) parts =
    products-one (92 ∷ []) (map (choices pairs) (slash_parts n ++ parts))
    ∙ ap (joined (92 ∷ [])) (value_slashes pairs n parts)
    ∙ joined-joined (92 ∷ []) (slashes n) (value_of pairs parts)

value_byte : (pairs : Pairs) (n byte : ℕ) (parts : List Part) → value_of pairs (slash_parts n ++ Byte byte ∷ parts) ≡ joined (slashes n ++ byte ∷ []) (value_of pairs parts)
value_byte pairs n byte parts =
    value_slashes pairs n (Byte byte ∷ parts)
    ∙ ap (joined (slashes n)) (products-one (byte ∷ []) (map (choices pairs) parts))
    ∙ joined-joined (slashes n) (byte ∷ []) (value_of pairs parts)

-- none of the bytes is a `$`
abbrev pub LacksDollar : List ℕ → Type 0
LacksDollar [] = Unit {0}
LacksDollar (byte ∷ bytes) = ((byte == 36) ≡ false) × LacksDollar bytes

-- the backslashes directly before the end, where n stand before these bytes
abbrev pub trail : ℕ → List ℕ → ℕ
trail n [] = n
trail n (byte ∷ bytes) = trail (if byte == 92 then suc n else 0) bytes

-- what stands before them, with the n
abbrev lead : ℕ → List ℕ → List ℕ
lead n [] = []
lead n (byte ∷ bytes) = if byte == 92 then lead (suc n) bytes else (slashes n ++ byte ∷ []) ++ lead 0 bytes

lead-trail : (n : ℕ) (bytes : List ℕ) → lead n bytes ++ slashes (trail n bytes) ≡ slashes n ++ bytes
lead-trail n [] = sym (append-nil (slashes n))
lead-trail n (byte ∷ bytes) = by (λ m. lead-trail m bytes) (byte == 92) refl
  where
    by : ((m : ℕ) → lead m bytes ++ slashes (trail m bytes) ≡ slashes m ++ bytes) → (is : Bool) → (byte == 92) ≡ is
        → (if is then lead (suc n) bytes else (slashes n ++ byte ∷ []) ++ lead 0 bytes) ++ slashes (trail (if is then suc n else 0) bytes) ≡ slashes n ++ byte ∷ bytes
    by rest true e = rest (suc n) ∙ slashes-shift n bytes ∙ ap (λ b. slashes n ++ b ∷ bytes) (sym (eqb-true byte 92 e))
    by rest false e =
        append_assoc (slashes n ++ byte ∷ []) (lead 0 bytes) (slashes (trail 0 bytes))
        ∙ ap (λ more. (slashes n ++ byte ∷ []) ++ more) (rest 0)
        ∙ append_assoc (slashes n) (byte ∷ []) bytes

-- bytes without a `$` stay, but for the backslashes at their end
value_before : (pairs : Pairs) (n : ℕ) (bytes rest : List ℕ) → LacksDollar bytes
    → value_of pairs (parts_from 0 n (bytes ++ rest)) ≡ joined (lead n bytes) (value_of pairs (parts_from 0 (trail n bytes) rest))
value_before pairs n [] rest none = sym (map-id (value_of pairs (parts_from 0 n rest)))
value_before pairs n (byte ∷ bytes) rest none = by (λ m. value_before pairs m bytes rest none.1) (byte == 92) (byte == 36) none.0
  where
    by : ((m : ℕ) → value_of pairs (parts_from 0 m (bytes ++ rest)) ≡ joined (lead m bytes) (value_of pairs (parts_from 0 (trail m bytes) rest)))
        → (is_slash is_dollar : Bool) → is_dollar ≡ false
        → value_of pairs (part_at is_slash is_dollar (found_after (bytes ++ rest)) n byte (bytes ++ rest) (λ skip k. parts_from skip k (bytes ++ rest)))
        ≡ joined (if is_slash then lead (suc n) bytes else (slashes n ++ byte ∷ []) ++ lead 0 bytes) (value_of pairs (parts_from 0 (trail (if is_slash then suc n else 0) bytes) rest))
    by more true is_dollar other = more (suc n)
    by more false true other = absurd (true≢false other)
    by more false false other =
        value_byte pairs n byte (parts_from 0 0 (bytes ++ rest))
        ∙ ap (joined (slashes n ++ byte ∷ [])) (more 0)
        ∙ joined-joined (slashes n ++ byte ∷ []) (lead 0 bytes) (value_of pairs (parts_from 0 (trail 0 bytes) rest))

-- a word without a `$` stays
pub value-plain : (pairs : Pairs) (bytes : List ℕ) → LacksDollar bytes → word_value pairs bytes ≡ bytes ∷ []
value-plain pairs bytes none =
    ap (word_value pairs) (sym (append-nil bytes))
    ∙ value_before pairs 0 bytes [] none
    ∙ ap (joined (lead 0 bytes)) (ap (value_of pairs) (sym (append-nil (slash_parts (trail 0 bytes)))) ∙ value_slashes pairs (trail 0 bytes) [])
    ∙ ap (λ (text : List ℕ). text ∷ []) (ap (λ more. lead 0 bytes ++ more) (append-nil (slashes (trail 0 bytes))) ∙ lead-trail 0 bytes)

LacksDollar-from : (word : List ℕ) → (Contains word 36 → ⊥) → LacksDollar word
LacksDollar-from [] none = tt
LacksDollar-from (byte ∷ bytes) none = (by (byte == 36) refl, LacksDollar-from bytes (λ (k, below, at). none (suc k, omega arith, at)))
  where
    by : (is : Bool) → (byte == 36) ≡ is → (byte == 36) ≡ false
    by true e = absurd (none (0, omega arith, eqb-true byte 36 e))
    by false e = e

pub plain-stays : (pairs : Pairs) (word : List ℕ) → (Contains word 36 → ⊥) → word_value pairs word ≡ word ∷ []
plain-stays pairs word none = value-plain pairs word (LacksDollar-from word none)

-- So many bytes at the front stay: the value is theirs and the value of the rest.
pub record Stays (pairs : Pairs) (bytes : List ℕ) (start : ℕ) : Type 0 where
  pub within : start ≤ length bytes
  pub is : word_value pairs bytes ≡ map (λ more. take start bytes ++ more) (word_value pairs (drop start bytes))

pub Stays-none : (pairs : Pairs) (bytes : List ℕ) → Stays pairs bytes 0
Stays-none pairs bytes = record { within = omega arith; is = sym (map-id (word_value pairs bytes)) }

-- nothing is found any more
pub Stays-all : (pairs : Pairs) (bytes : List ℕ) (start : ℕ) → Stays pairs bytes start → LacksDollar (drop start bytes) → word_value pairs bytes ≡ bytes ∷ []
Stays-all pairs bytes start stays none =
    stays.is ∙ ap (joined (take start bytes)) (value-plain pairs (drop start bytes) none) ∙ ap (λ (text : List ℕ). text ∷ []) (take-append-drop start bytes)

take-further : (start n : ℕ) (xs : List ℕ) → take start xs ++ take n (drop start xs) ≡ take (start + n) xs
take-further zero n xs = ap (λ k. take k xs) (sym (zero-add n))
take-further (suc start) n [] = take-nothing n ∙ sym (take-nothing (suc start + n))
  where
    take-nothing : (k : ℕ) → take {A = ℕ} k [] ≡ []
    take-nothing zero = refl
    take-nothing (suc k) = refl
take-further (suc start) n (x ∷ xs) = let e : suc (start + n) ≡ suc start + n = omega arith in ap (λ (ys : List ℕ). x ∷ ys) (take-further start n xs) ∙ ap (λ k. take k (x ∷ xs)) e

-- the first `$` of some bytes stands at this place
pub record FirstDollar (bytes : List ℕ) (place : ℕ) : Type 0 where
  pub lacks : LacksDollar (take place bytes)
  pub within : place < length bytes
  pub is : slice_index_or bytes place 0 ≡ 36

lacks_below : (bytes : List ℕ) (n : ℕ) → ((k : ℕ) → k < n → (slice_index_or bytes k 0 == 36) ≡ true → ⊥) → LacksDollar (take n bytes)
lacks_below bytes zero none = tt
lacks_below [] (suc n) none = tt
lacks_below (byte ∷ bytes) (suc n) none = (by (byte == 36) refl, lacks_below bytes n (λ k below. none (suc k) (omega arith)))
  where
    by : (is : Bool) → (byte == 36) ≡ is → (byte == 36) ≡ false
    by true e = absurd (none 0 (omega arith) e)
    by false e = e

pub FirstDollar-found : (bytes : List ℕ) (place : ℕ) → IsFirstByte (is_byte 36) bytes (Some place) → FirstDollar bytes place
FirstDollar-found bytes place found = record {
  lacks = lacks_below bytes place (λ k below e. found.0.before k (omega arith) below e);
  within = found.0.high;
  is = eqb-true (slice_index_or bytes place 0) 36 found.1;
}

pub LacksDollar-none : (bytes : List ℕ) → IsFirstByte (is_byte 36) bytes None → LacksDollar bytes
LacksDollar-none bytes none = let all : take (length bytes) bytes ≡ bytes = grind (arith, common_steps) in subst LacksDollar all (lacks_below bytes (length bytes) (λ k below e. none k (omega arith) below e))

pub dollar_split : (bytes : List ℕ) (place : ℕ) → FirstDollar bytes place → bytes ≡ take place bytes ++ 36 ∷ drop (place + 1) bytes
dollar_split bytes place first =
    sym (take-append-drop place bytes)
    ∙ ap (λ more. take place bytes ++ more)
    (drop-cons bytes place 0 first.within ∙ ap (λ (byte : ℕ). byte ∷ drop (suc place) bytes) first.is ∙ ap (λ k. 36 ∷ drop k bytes) (sym (add-one place)))

-- a `$` behind so many backslashes, and so many bytes after it, stay
abbrev pub DollarStays : Pairs → List ℕ → ℕ → Type 0
DollarStays pairs after count =
    (n : ℕ) → value_of pairs (parts_from 0 n (36 ∷ after)) ≡ joined (slashes n ++ 36 ∷ take count after) (word_value pairs (drop count after))

-- a `$` whose reference, if any, has no pair
DollarStays-is : (pairs : Pairs) (after : List ℕ) → (pair_after pairs after).1 ≡ None → DollarStays pairs after (pair_after pairs after).0
DollarStays-is pairs after none = λ n. by n (found_after after) none
  where
    by : (n : ℕ) (found : FoundKey) → (pair_of pairs found).1 ≡ None
        → value_of pairs (part_at false true found n 36 after (λ skip k. parts_from skip k after))
        ≡ joined (slashes n ++ 36 ∷ take (pair_of pairs found).0 after) (word_value pairs (drop (pair_of pairs found).0 after))
    by n None none = value_byte pairs n 36 (parts_of after)
    by n (Some found) none =
        ap (λ value. products (chosen n (36 ∷ take found.1 after) value ∷ map (choices pairs) (parts_from found.1 0 after))) none
        ∙ products-one (slashes n ++ 36 ∷ take found.1 after) (map (choices pairs) (parts_from found.1 0 after))
        ∙ ap (λ parts. joined (slashes n ++ 36 ∷ take found.1 after) (value_of pairs parts)) (parts_from-skip found.1 after)

-- a `$` whose reference has a pair
value_dollar : (pairs : Pairs) (after : List ℕ) (values : List (List ℕ)) (n : ℕ) → (pair_after pairs after).1 ≡ Some values
    → value_of pairs (parts_from 0 n (36 ∷ after))
    ≡ products (chosen n (36 ∷ take (pair_after pairs after).0 after) (Some values) ∷ part_choices pairs (drop (pair_after pairs after).0 after))
value_dollar pairs after values n some = by (found_after after) some
  where
    by : (found : FoundKey) → (pair_of pairs found).1 ≡ Some values
        → value_of pairs (part_at false true found n 36 after (λ skip k. parts_from skip k after))
        ≡ products (chosen n (36 ∷ take (pair_of pairs found).0 after) (Some values) ∷ part_choices pairs (drop (pair_of pairs found).0 after))
    by None some = let wrong : None ≡ Some values = some in absurd (cc)
    by (Some found) some =
        ap (λ value. products (chosen n (36 ∷ take found.1 after) value ∷ map (choices pairs) (parts_from found.1 0 after))) some
        ∙ ap (λ parts. products (chosen n (36 ∷ take found.1 after) (Some values) ∷ map (choices pairs) parts)) (parts_from-skip found.1 after)

-- the value of a word, as far as its first `$`
value_at : (pairs : Pairs) (bytes : List ℕ) (start place : ℕ) → Stays pairs bytes start → FirstDollar (drop start bytes) place
    → word_value pairs bytes ≡ joined (take start bytes ++ lead 0 (take place (drop start bytes)))
    (value_of pairs (parts_from 0 (trail 0 (take place (drop start bytes))) (36 ∷ drop (place + 1) (drop start bytes))))
value_at pairs bytes start place stays first =
    let rest = drop start bytes in
    stays.is
    ∙ ap (joined (take start bytes)) (ap (word_value pairs) (dollar_split rest place first)
    ∙ value_before pairs 0 (take place rest) (36 ∷ drop (place + 1) rest) first.lacks)
    ∙ joined-joined (take start bytes) (lead 0 (take place rest)) (value_of pairs (parts_from 0 (trail 0 (take place rest)) (36 ∷ drop (place + 1) rest)))

-- the bytes before a `$`, and it and so many after it
up_to : (bytes : List ℕ) (place count : ℕ) → FirstDollar bytes place → take place bytes ++ 36 ∷ take count (drop (place + 1) bytes) ≡ take (place + 1 + count) bytes
up_to bytes place count first =
    ap (λ (byte : ℕ). take place bytes ++ byte ∷ take count (drop (place + 1) bytes)) (sym first.is)
    ∙ sym (append_assoc (take place bytes) (slice_index_or bytes place 0 ∷ []) (take count (drop (place + 1) bytes)))
    ∙ ap (λ front. front ++ take count (drop (place + 1) bytes)) (sym (take_more bytes place 0 first.within))
    ∙ take-further (place + 1) count bytes

pub Stays-more : (pairs : Pairs) (bytes : List ℕ) (start place count : ℕ) → Stays pairs bytes start → FirstDollar (drop start bytes) place
    → DollarStays pairs (drop (place + 1) (drop start bytes)) count → start + place + 1 + count ≤ length bytes → Stays pairs bytes (start + place + 1 + count)
Stays-more pairs bytes start place count stays first dollar within = record {
  within = within;
  is =
      value_at pairs bytes start place stays first
      ∙ ap (joined (take start bytes ++ before)) (dollar (trail 0 (take place rest)))
      ∙ joined-joined (take start bytes ++ before) (slashes (trail 0 (take place rest)) ++ 36 ∷ take count after) (word_value pairs (drop count after))
      ∙ ap (λ front. joined front (word_value pairs (drop count after))) front_is
      ∙ ap (λ more. joined (take (start + place + 1 + count) bytes) (word_value pairs more)) rest_is;
}
  where
    rest : List ℕ
    rest = drop start bytes

    after : List ℕ
    after = drop (place + 1) (drop start bytes)

    before : List ℕ
    before = lead 0 (take place (drop start bytes))

    front_is : (take start bytes ++ lead 0 (take place (drop start bytes))) ++ (slashes (trail 0 (take place (drop start bytes))) ++ 36 ∷ take count (drop (place + 1) (drop start bytes)))
        ≡ take (start + place + 1 + count) bytes
    front_is =
        let rest = drop start bytes in
        let before = take place rest in
        let more : List ℕ = 36 ∷ take count (drop (place + 1) rest) in
        append_assoc (take start bytes) (lead 0 before) (slashes (trail 0 before) ++ more)
        ∙ ap (λ text. take start bytes ++ text) (sym (append_assoc (lead 0 before) (slashes (trail 0 before)) more)
        ∙ ap (λ text. text ++ more) (lead-trail 0 before) ∙ up_to rest place count first)
        ∙ take-further start (place + 1 + count) bytes
        ∙ (let e : start + (place + 1 + count) ≡ start + place + 1 + count = omega arith in ap (λ k. take k bytes) e)

    rest_is : drop count (drop (place + 1) (drop start bytes)) ≡ drop (start + place + 1 + count) bytes
    rest_is = drop-drop count (place + 1) (drop start bytes) ∙ drop-drop (place + 1 + count) start bytes ∙ (let e : start + (place + 1 + count) ≡ start + place + 1 + count = omega arith in ap (λ k. drop k bytes) e)

chosen-is : (n : ℕ) (text : List ℕ) (values : List (List ℕ)) → chosen n text (Some values) ≡ joined (slashes (n / 2)) (replaced n text values)
chosen-is n text values = by (n % 2 == 1)
  where
    by : (odd : Bool) → (if odd then (slashes (n / 2) ++ text) ∷ [] else map (λ value. slashes (n / 2) ++ value) values) ≡ joined (slashes (n / 2)) (if odd then text ∷ [] else values)
    by true = refl
    by false = refl

products-joined : (text : List ℕ) (choice : List (List ℕ)) (rest : List (List (List ℕ))) → products (joined text choice ∷ rest) ≡ joined text (products (choice ∷ rest))
products-joined text [] rest = refl
products-joined text (first ∷ choice) rest =
    ap (λ made. joined (text ++ first) (products rest) ++ made) (products-joined text choice rest)
    ∙ ap (λ made. made ++ joined text (products (choice ∷ rest))) (sym (joined-joined text first (products rest)))
    ∙ sym (map-append (λ more. text ++ more) (joined first (products rest)) (products (choice ∷ rest)))

take-front : (front back : List ℕ) → take (length front) (front ++ back) ≡ front
take-front [] back = refl
take-front (x ∷ front) back = ap (λ (xs : List ℕ). x ∷ xs) (take-front front back)

-- the value of a word whose first reference with a pair stands here
value-paired : (pairs : Pairs) (bytes : List ℕ) (start place count : ℕ) (values : List (List ℕ)) → Stays pairs bytes start → FirstDollar (drop start bytes) place
    → (pair_after pairs (drop (place + 1) (drop start bytes))).1 ≡ Some values → count ≡ (pair_after pairs (drop (place + 1) (drop start bytes))).0
    → (n : ℕ) → n ≡ trail 0 (take place (drop start bytes))
    → (n ≤ place)
    × (word_value pairs bytes ≡ products ((take (start + place - (n - n / 2)) bytes ∷ [])
    ∷ replaced n (36 ∷ take count (drop (place + 1) (drop start bytes))) values
    ∷ part_choices pairs (drop count (drop (place + 1) (drop start bytes)))))
value-paired pairs bytes start place count values stays first some size n trailing = (
  omega (arith, length-append before (slashes n), length-replicate {A = ℕ} n 92, ap length before_is, length-take place rest),
  value_at pairs bytes start place stays first
      ∙ ap (λ m. joined (take start bytes ++ before) (value_of pairs (parts_from 0 m (36 ∷ after)))) (sym trailing)
      ∙ ap (joined (take start bytes ++ before)) (value_dollar pairs after values n some
      ∙ ap (λ k. products (chosen n (36 ∷ take k after) (Some values) ∷ part_choices pairs (drop k after))) (sym size)
      ∙ ap (λ choice. products (choice ∷ more)) (chosen-is n text values)
      ∙ products-joined (slashes (n / 2)) (replaced n text values) more)
      ∙ joined-joined (take start bytes ++ before) (slashes (n / 2)) (products (replaced n text values ∷ more))
      ∙ ap (λ front. joined front (products (replaced n text values ∷ more))) (sym front_is)
      ∙ sym (products-one (take (start + place - (n - n / 2)) bytes) (replaced n text values ∷ more)),
)
  where
    rest : List ℕ
    rest = drop start bytes

    after : List ℕ
    after = drop (place + 1) (drop start bytes)

    text : List ℕ
    text = 36 ∷ take count (drop (place + 1) (drop start bytes))

    more : List (List (List ℕ))
    more = part_choices pairs (drop count (drop (place + 1) (drop start bytes)))

    before : List ℕ
    before = lead 0 (take place (drop start bytes))

    before_is : lead 0 (take place (drop start bytes)) ++ slashes n ≡ take place (drop start bytes)
    before_is = ap (λ m. lead 0 (take place (drop start bytes)) ++ slashes m) trailing ∙ lead-trail 0 (take place (drop start bytes))

    front_is : take (start + place - (n - n / 2)) bytes ≡ (take start bytes ++ lead 0 (take place (drop start bytes))) ++ slashes (n / 2)
    front_is =
        let front = (take start bytes ++ lead 0 (take place (drop start bytes))) ++ slashes (n / 2) in
        let halves : slashes (n / 2) ++ slashes (n - n / 2) ≡ slashes n = (let e : n / 2 + (n - n / 2) ≡ n = omega arith in replicate-append-replicate (n / 2) (n - n / 2) 92 ∙ ap slashes e) in
        let whole : front ++ slashes (n - n / 2) ≡ take (start + place) bytes =
        append_assoc (take start bytes ++ lead 0 (take place (drop start bytes))) (slashes (n / 2)) (slashes (n - n / 2))
        ∙ ap (λ text. (take start bytes ++ lead 0 (take place (drop start bytes))) ++ text) halves
        ∙ append_assoc (take start bytes) (lead 0 (take place (drop start bytes))) (slashes n)
        ∙ ap (λ text. take start bytes ++ text) before_is ∙ take-further start place bytes in
        let within = first.within in
        let size : length front ≡ start + place - (n - n / 2) =
        omega (arith, length-append front (slashes (n - n / 2)), length-replicate {A = ℕ} (n - n / 2) 92, ap length whole, length-take (start + place) bytes, length-drop start bytes) in
        sym (take-take (start + place - (n - n / 2)) (start + place) bytes (omega arith))
        ∙ ap (take (start + place - (n - n / 2))) (sym whole)
        ∙ ap (λ k. take k (front ++ slashes (n - n / 2))) (sym size)
        ∙ take-front front (slashes (n - n / 2))

-- the backslashes at the end, counted from the end
trail-snoc : (n : ℕ) (bytes : List ℕ) (byte : ℕ) → trail n (bytes ++ byte ∷ []) ≡ (if byte == 92 then suc (trail n bytes) else 0)
trail-snoc n [] byte = refl
trail-snoc n (first ∷ bytes) byte = trail-snoc (if first == 92 then suc n else 0) bytes byte

trail-reversed : (bytes : List ℕ) → trail 0 (reverse bytes) ≡ prefix_len (λ byte. byte == 92) bytes
trail-reversed [] = refl
trail-reversed (byte ∷ bytes) =
    ap (trail 0) (reverse-append (byte ∷ []) bytes) ∙ trail-snoc 0 (reverse bytes) byte
    ∙ ap (λ n. if byte == 92 then n else 0) (ap suc (trail-reversed bytes) ∙ more)
  where
    more : suc (prefix_len (λ byte. byte == 92) bytes) ≡ 1 + prefix_len (λ byte. byte == 92) bytes
    more = omega arith

pub trail-prefix : (bytes : List ℕ) → prefix_len (λ byte. byte == 92) (reverse bytes) ≡ trail 0 bytes
trail-prefix bytes = sym (trail-reversed (reverse bytes)) ∙ ap (trail 0) (reverse-reverse bytes)

-- without pairs each part has one choice, its text
choices-empty : (parts : List Part) → value_of [] parts ≡ parts_text parts ∷ []
choices-empty [] = refl
choices-empty (Byte byte ∷ parts) = products-one (byte ∷ []) (map (choices []) parts) ∙ ap (joined (byte ∷ [])) (choices-empty parts)
choices-empty (Reference n key text ∷ parts) = products-one (slashes n ++ text) (map (choices []) parts) ∙ ap (joined (slashes n ++ text)) (choices-empty parts)

pub words_value-empty : (words : List (List ℕ)) → words_value [] words ≡ words
words_value-empty [] = refl
words_value-empty (word ∷ words) =
    ap (λ made. made ++ words_value [] words) (choices-empty (parts_of word) ∙ ap (λ (text : List ℕ). text ∷ []) (parts_text-is word))
    ∙ ap (λ (made : List (List ℕ)). word ∷ made) (words_value-empty words)

-- ---- the same, where the bytes are cut as slices are

take-all : (bytes : List ℕ) → take (length bytes) bytes ≡ bytes
take-all bytes = grind (arith, common_steps)

pub rest_of : (bytes : List ℕ) (start : ℕ) → take (length bytes - start) (drop start bytes) ≡ drop start bytes
rest_of bytes start = ap (λ n. take n (drop start bytes)) (sym (length-drop start bytes)) ∙ take-all (drop start bytes)

after_is : (bytes : List ℕ) (start place : ℕ) → take (length bytes - (start + place + 1)) (drop (start + place + 1) bytes) ≡ drop (place + 1) (drop start bytes)
after_is bytes start place =
    let e : start + place + 1 ≡ start + (place + 1) = omega arith in
    rest_of bytes (start + place + 1) ∙ ap (λ k. drop k bytes) e ∙ sym (drop-drop (place + 1) start bytes)

tail_is : (bytes : List ℕ) (start place count : ℕ)
    → take (length bytes - (start + place + 1 + count)) (drop (start + place + 1 + count) bytes) ≡ drop count (drop (place + 1) (drop start bytes))
tail_is bytes start place count =
    let e : start + place + 1 + count ≡ start + (place + 1 + count) = omega arith in
    rest_of bytes (start + place + 1 + count) ∙ ap (λ k. drop k bytes) e
    ∙ sym (drop-drop count (place + 1) (drop start bytes) ∙ drop-drop (place + 1 + count) start bytes)

text_is : (bytes : List ℕ) (start place count : ℕ) → FirstDollar (drop start bytes) place
    → take (start + place + 1 + count - (start + place)) (drop (start + place) bytes) ≡ 36 ∷ take count (drop (place + 1) (drop start bytes))
text_is bytes start place count first =
    let e : start + place + 1 + count - (start + place) ≡ suc count = omega arith in
    ap (λ k. take k (drop (start + place) bytes)) e
    ∙ ap (take (suc count)) (sym (drop-drop place start bytes) ∙ drop-cons (drop start bytes) place 0 first.within
    ∙ ap (λ (byte : ℕ). byte ∷ drop (suc place) (drop start bytes)) first.is ∙ ap (λ k. 36 ∷ drop k (drop start bytes)) (sym (add-one place)))

first_dollar : (bytes : List ℕ) (start place : ℕ) → IsFirstByte (is_byte 36) (take (length bytes - start) (drop start bytes)) (Some place) → FirstDollar (drop start bytes) place
first_dollar bytes start place found = subst (λ rest. FirstDollar rest place) (rest_of bytes start) (FirstDollar-found _ place found)

pub Stays-end : (pairs : Pairs) (bytes : List ℕ) (start : ℕ) → Stays pairs bytes start → IsFirstByte (is_byte 36) (take (length bytes - start) (drop start bytes)) None
    → word_value pairs bytes ≡ bytes ∷ []
Stays-end pairs bytes start stays none = Stays-all pairs bytes start stays (subst LacksDollar (rest_of bytes start) (LacksDollar-none _ none))

pub Stays-next : (pairs : Pairs) (bytes : List ℕ) (start place count : ℕ) → Stays pairs bytes start
    → IsFirstByte (is_byte 36) (take (length bytes - start) (drop start bytes)) (Some place)
    → count ≡ (pair_after pairs (take (length bytes - (start + place + 1)) (drop (start + place + 1) bytes))).0
    → (pair_after pairs (take (length bytes - (start + place + 1)) (drop (start + place + 1) bytes))).1 ≡ None
    → start + place + 1 + count ≤ length bytes → Stays pairs bytes (start + place + 1 + count)
Stays-next pairs bytes start place count stays found size none within =
    let after = after_is bytes start place in
    let none' : (pair_after pairs (drop (place + 1) (drop start bytes))).1 ≡ None = subst (λ rest. (pair_after pairs rest).1 ≡ None) after none in
    let size' : (pair_after pairs (drop (place + 1) (drop start bytes))).0 ≡ count = sym (size ∙ ap (λ rest. (pair_after pairs rest).0) after) in
    Stays-more pairs bytes start place count stays (first_dollar bytes start place found)
    (subst (DollarStays pairs (drop (place + 1) (drop start bytes))) size' (DollarStays-is pairs (drop (place + 1) (drop start bytes)) none')) within

value-next : (pairs : Pairs) (bytes : List ℕ) (start place count n : ℕ) (values : List (List ℕ)) → Stays pairs bytes start
    → IsFirstByte (is_byte 36) (take (length bytes - start) (drop start bytes)) (Some place)
    → count ≡ (pair_after pairs (take (length bytes - (start + place + 1)) (drop (start + place + 1) bytes))).0
    → (pair_after pairs (take (length bytes - (start + place + 1)) (drop (start + place + 1) bytes))).1 ≡ Some values
    → n ≡ prefix_len (λ byte. byte == 92) (reverse (take (start + place - start) (drop start bytes)))
    → (n ≤ place)
    × (word_value pairs bytes ≡ products ((take (start + place - (n - n / 2)) bytes ∷ [])
    ∷ replaced n (take (start + place + 1 + count - (start + place)) (drop (start + place) bytes)) values
    ∷ part_choices pairs (take (length bytes - (start + place + 1 + count)) (drop (start + place + 1 + count) bytes))))
value-next pairs bytes start place count n values stays found size some trailing =
    let after = after_is bytes start place in
    let first = first_dollar bytes start place found in
    let some' : (pair_after pairs (drop (place + 1) (drop start bytes))).1 ≡ Some values = subst (λ rest. (pair_after pairs rest).1 ≡ Some values) after some in
    let e : start + place - start ≡ place = omega arith in
    let trailing' : n ≡ trail 0 (take place (drop start bytes)) = trailing ∙ ap (λ k. prefix_len (λ byte. byte == 92) (reverse (take k (drop start bytes)))) e ∙ trail-prefix (take place (drop start bytes)) in
    let paired = value-paired pairs bytes start place count values stays first some' (size ∙ ap (λ rest. (pair_after pairs rest).0) after) n trailing' in (
      paired.0,
      paired.1
          ∙ ap (λ text. products ((take (start + place - (n - n / 2)) bytes ∷ []) ∷ replaced n text values ∷ part_choices pairs (drop count (drop (place + 1) (drop start bytes)))))
          (sym (text_is bytes start place count first))
          ∙ ap (λ rest. products ((take (start + place - (n - n / 2)) bytes ∷ []) ∷ replaced n (take (start + place + 1 + count - (start + place)) (drop (start + place) bytes)) values ∷ part_choices pairs rest))
          (sym (tail_is bytes start place count)),
    )

-- what comes in place of a reference that has a pair, by what is looked up
pub value-found : (pairs : Pairs) (bytes : List ℕ) (start place count n : ℕ) (choices : List (List ℕ)) → Stays pairs bytes start
    → IsFirstByte (is_byte 36) (take (length bytes - start) (drop start bytes)) (Some place)
    → count ≡ (pair_after pairs (take (length bytes - (start + place + 1)) (drop (start + place + 1) bytes))).0
    → n ≡ prefix_len (λ byte. byte == 92) (reverse (take (start + place - start) (drop start bytes)))
    → (found : Option (List (List ℕ))) → found ≡ (pair_after pairs (take (length bytes - (start + place + 1)) (drop (start + place + 1) bytes))).1
    → Some choices ≡ option_map (replaced n (take (start + place + 1 + count - (start + place)) (drop (start + place) bytes))) found
    → (n ≤ place)
    × (word_value pairs bytes ≡ products ((take (start + place - (n - n / 2)) bytes ∷ [])
    ∷ choices
    ∷ part_choices pairs (take (length bytes - (start + place + 1 + count)) (drop (start + place + 1 + count) bytes))))
value-found pairs bytes start place count n choices stays found size trailing None is some = let wrong : Some choices ≡ None = some in absurd (cc)
value-found pairs bytes start place count n choices stays found size trailing (Some values) is some =
    let same : choices ≡ replaced n (take (start + place + 1 + count - (start + place)) (drop (start + place) bytes)) values = cc in
    let next = value-next pairs bytes start place count n values stays found size (sym is) trailing in
    (next.0, next.1 ∙ ap (λ choice. products ((take (start + place - (n - n / 2)) bytes ∷ []) ∷ choice ∷ part_choices pairs (take (length bytes - (start + place + 1 + count)) (drop (start + place + 1 + count) bytes)))) (sym same))

-- nothing comes in place of one that has none
pub none-found : (n : ℕ) (text : List ℕ) (found : Option (List (List ℕ))) → None ≡ option_map (replaced n text) found → found ≡ None
none-found n text None none = refl
none-found n text (Some values) none = let wrong : None ≡ Some (replaced n text values) = none in absurd (cc)
