-- How large lists of words are, and words put into their room.
use Rattle.std.proofs.Common.{◌≡◌, ℕ, zero, suc, ◌+◌, ◌-◌, ◌*◌, ◌^◌, ◌<◌, ◌≤◌, min, List, [], ◌∷◌, ◌++◌, map, map-id, length, refl, sym, ap, ◌∙◌, arith, append_assoc, append-nil, length-append, ◌⊎◌, inl, inr}
use Rattle.std.proofs.lemmas.List.{map-append, length-map}
use Rattle.std.proofs.lemmas.List.Concat.{flat_map-append}
use Rattle.std.proofs.lemmas.List.Sums.{sum_by-cons, sum_by-append}
use Rattle.std.proofs.lemmas.Bool.{cases_lt}
use Rattle.std.proofs.Math.Nat.{mul_comm, mul-le-mul_left}
use Rattle.el_subst.specs.declared.size.Size.{Size}
use Rattle.el_words.specs.Room.{Filling}
use Rattle.el_subst.specs.Sizes.{joins, bytes_in, capped, size_of, HasRoom, Puts}
use Rattle.el_subst.specs.Values.{Pairs, products, word_value, words_value}
use Rattle.el_subst.specs.Pieces.{part_choices}

-- ---- counting stops at the greatest number

pub capped-add : (a b : ℕ) → capped (capped a + capped b) ≡ capped (a + b)
capped-add a b = omega arith

-- a product with a number that is too great is too great, or zero
above : (m a b : ℕ) → 0 < m → m < a → min (m * min b m) m ≡ min (a * b) m
above m a zero some high = let e : min 0 m ≡ 0 = omega arith in ap (λ k. min (m * k) m) e ∙ omega arith
above m a (suc b) some high = by (mul-le-mul_left {m = 1} {n = min (suc b) m} m (omega arith)) (mul-le-mul_left {m = 1} {n = suc b} a (omega arith))
  where
    by : m * 1 ≤ m * min (suc b) m → a * 1 ≤ a * suc b → min (m * min (suc b) m) m ≡ min (a * suc b) m
    by one two = omega (arith, one, two)

any : (m a b : ℕ) → 0 < m → (m < a) ⊎ (a ≤ m) → (m < b) ⊎ (b ≤ m) → min (min a m * min b m) m ≡ min (a * b) m
any m a b some (inl high) other = let e : min a m ≡ m = omega arith in ap (λ k. min (k * min b m) m) e ∙ above m a b some high
any m a b some (inr low) (inl high) =
    let e : min b m ≡ m = omega arith in
    ap (λ k. min (min a m * k) m) e ∙ ap (λ k. min k m) (mul_comm (min a m) m) ∙ above m b a some high ∙ ap (λ k. min k m) (mul_comm b a)
any m a b some (inr low) (inr low') =
    let e : min a m ≡ a = omega arith in
    let f : min b m ≡ b = omega arith in
    λ i. min (e i * f i) m

pub capped-mul : (a b : ℕ) → capped (capped a * capped b) ≡ capped (a * b)
capped-mul a b = any (2 ^ 64 - 1) a b (omega arith) (cases_lt (2 ^ 64 - 1) a) (cases_lt (2 ^ 64 - 1) b)

pub capped-first : (a b : ℕ) → capped (capped a * b) ≡ capped (a * b)
capped-first a b =
    let again : capped (capped a) ≡ capped a = omega arith in
    sym (capped-mul (capped a) b) ∙ ap (λ n. capped (n * capped b)) again ∙ capped-mul a b

-- ---- words joined

length-joins : (xs ys : List (List ℕ)) → length (joins xs ys) ≡ length xs * length ys
length-joins [] ys = omega arith
length-joins (x ∷ xs) ys =
    length-append (map (λ y. x ++ y) ys) (joins xs ys)
    ∙ ap (λ n. n + length (joins xs ys)) (length-map ys (λ y. x ++ y))
    ∙ ap (λ n. length ys + n) (length-joins xs ys)
    ∙ grind arith

bytes_in-map : (x : List ℕ) (ys : List (List ℕ)) → bytes_in (map (λ y. x ++ y) ys) ≡ length x * length ys + bytes_in ys
bytes_in-map x [] = omega arith
bytes_in-map x (y ∷ ys) =
    sum_by-cons length (x ++ y) (map (λ z. x ++ z) ys)
    ∙ omega (arith, length-append x y, bytes_in-map x ys, sum_by-cons length y ys)

bytes_in-joins : (xs ys : List (List ℕ)) → bytes_in (joins xs ys) ≡ bytes_in xs * length ys + length xs * bytes_in ys
bytes_in-joins [] ys = omega arith
bytes_in-joins (x ∷ xs) ys =
    sum_by-append length (map (λ y. x ++ y) ys) (joins xs ys)
    ∙ by (bytes_in (map (λ y. x ++ y) ys)) (bytes_in (joins xs ys)) (bytes_in (x ∷ xs)) (bytes_in-map x ys) (bytes_in-joins xs ys) (sum_by-cons length x xs)
  where
    by : (one two whole : ℕ) → one ≡ length x * length ys + bytes_in ys → two ≡ bytes_in xs * length ys + length xs * bytes_in ys → whole ≡ length x + bytes_in xs
        → one + two ≡ whole * length ys + suc (length xs) * bytes_in ys
    by one two whole e f g = rw (e, f, g) (grind arith)

pub size_of-joins : (a b : Size) (xs ys : List (List ℕ)) → a ≡ size_of xs → b ≡ size_of ys
    → (capped (a.words * b.words) ≡ capped (length (joins xs ys)))
    × (capped (capped (a.bytes * b.words) + capped (a.words * b.bytes)) ≡ capped (bytes_in (joins xs ys)))
size_of-joins a b xs ys first second = (
  (λ i. capped ((first i).words * (second i).words)) ∙ capped-mul (length xs) (length ys) ∙ ap capped (sym (length-joins xs ys)),
  (λ i. capped (capped ((first i).bytes * (second i).words) + capped ((first i).words * (second i).bytes)))
      ∙ (λ i. capped (capped-mul (bytes_in xs) (length ys) i + capped-mul (length xs) (bytes_in ys) i))
      ∙ capped-add (bytes_in xs * length ys) (length xs * bytes_in ys)
      ∙ ap capped (sym (bytes_in-joins xs ys)),
)

-- ---- a word's size, counted from its front

joins-append : (xs more ys : List (List ℕ)) → joins (xs ++ more) ys ≡ joins xs ys ++ joins more ys
joins-append xs more ys = flat_map-append (λ x. map (λ y. x ++ y) ys) xs more

before-joins : (x : List ℕ) (ys zs : List (List ℕ)) → joins (map (λ y. x ++ y) ys) zs ≡ map (λ y. x ++ y) (joins ys zs)
before-joins x [] zs = refl
before-joins x (y ∷ ys) zs =
    ap (λ rows. map (λ z. (x ++ y) ++ z) zs ++ rows) (before-joins x ys zs)
    ∙ ap (λ row. row ++ map (λ more. x ++ more) (joins ys zs)) (by zs)
    ∙ sym (map-append (λ more. x ++ more) (map (λ z. y ++ z) zs) (joins ys zs))
  where
    by : (zs : List (List ℕ)) → map (λ z. (x ++ y) ++ z) zs ≡ map (λ more. x ++ more) (map (λ z. y ++ z) zs)
    by [] = refl
    by (z ∷ zs) = λ i. append_assoc x y z i ∷ by zs i

joins_assoc : (xs ys zs : List (List ℕ)) → joins (joins xs ys) zs ≡ joins xs (joins ys zs)
joins_assoc [] ys zs = refl
joins_assoc (x ∷ xs) ys zs =
    joins-append (map (λ y. x ++ y) ys) (joins xs ys) zs
    ∙ (λ i. before-joins x ys zs i ++ joins_assoc xs ys zs i)

joins-empty_word : (ys : List (List ℕ)) → joins ([] ∷ []) ys ≡ ys
joins-empty_word ys = append-nil (map (λ y. y) ys) ∙ map-id ys

-- a size is that of the values of a word's front: joined with those of the rest they are the word's
pub record Counts (pairs : Pairs) (word rest : List ℕ) (size : Size) : Type 0 where
  pub front : List (List ℕ)
  pub is : size ≡ size_of front
  pub whole : joins front (word_value pairs rest) ≡ word_value pairs word

pub Counts-start : (pairs : Pairs) (word : List ℕ) (size : Size) → size ≡ size_of ([] ∷ []) → Counts pairs word word size
Counts-start pairs word size is = record { front = [] ∷ []; is = is; whole = joins-empty_word (word_value pairs word) }

-- what stays before a reference, and the reference
pub Counts-more : (pairs : Pairs) (word rest rest' before : List ℕ) (choice : List (List ℕ)) (size size' : Size) → Counts pairs word rest size
    → word_value pairs rest ≡ products ((before ∷ []) ∷ choice ∷ part_choices pairs rest')
    → ((front : List (List ℕ)) → size ≡ size_of front → size' ≡ size_of (joins (joins front (before ∷ [])) choice))
    → Counts pairs word rest' size'
Counts-more pairs word rest rest' before choice size size' c found next = record {
  front = joins (joins c.front (before ∷ [])) choice;
  is = next c.front c.is;
  whole =
      joins_assoc (joins c.front (before ∷ [])) choice (word_value pairs rest')
      ∙ joins_assoc c.front (before ∷ []) (joins choice (word_value pairs rest'))
      ∙ ap (joins c.front) (sym found)
      ∙ c.whole;
}

-- nothing is replaced any more
pub Counts-end : (pairs : Pairs) (word rest : List ℕ) (size size' : Size) → Counts pairs word rest size → word_value pairs rest ≡ rest ∷ []
    → ((front : List (List ℕ)) → size ≡ size_of front → size' ≡ size_of (joins front (rest ∷ []))) → size' ≡ size_of (word_value pairs word)
Counts-end pairs word rest size size' c stays last = last c.front c.is ∙ ap size_of (ap (joins c.front) (sym stays) ∙ c.whole)

-- a size is that of the values of the words at the front of a list: with those of the rest they are the list's
pub record CountsAll (pairs : Pairs) (texts rest : List (List ℕ)) (size : Size) : Type 0 where
  pub front : List (List ℕ)
  pub is : size ≡ size_of front
  pub whole : front ++ words_value pairs rest ≡ words_value pairs texts

-- ---- words put into their room

-- there is room for what comes first
pub HasRoom-first : (filling : Filling) (first more : List (List ℕ)) → HasRoom filling (first ++ more) → HasRoom filling first
HasRoom-first filling first more h = record {
  few = omega (arith, length-append first more, h.few);
  words = omega (arith, length-append first more, h.words);
  bytes = omega (arith, sum_by-append length first more, h.bytes);
}

-- and for what comes then, once that was put
pub HasRoom-then : (old new : Filling) (first more : List (List ℕ)) → HasRoom old (first ++ more) → Puts old new first → HasRoom new more
HasRoom-then old new first more h p = record {
  few = omega (arith, length-append first more, h.few);
  words = omega (arith, length-append first more, h.words, p.spare_words);
  bytes = omega (arith, sum_by-append length first more, h.bytes, p.spare_bytes);
}

pub HasRoom-word : (filling : Filling) (text : List ℕ) → HasRoom filling (text ∷ []) → (0 < filling.spare_words) × (length text ≤ filling.spare_bytes)
HasRoom-word filling text h = (omega (arith, h.words), omega (arith, h.bytes, sum_by-cons length text []))

pub Puts-then : (old mid new : Filling) (first more : List (List ℕ)) → Puts old mid first → Puts mid new more → Puts old new (first ++ more)
Puts-then old mid new first more p q = record {
  words = q.words ∙ ap (λ texts. texts ++ more) p.words ∙ append_assoc old.words first more;
  spare_words = omega (arith, length-append first more, p.spare_words, q.spare_words);
  spare_bytes = omega (arith, sum_by-append length first more, p.spare_bytes, q.spare_bytes);
}

-- one word was put
pub Puts-word : (old new : Filling) (text : List ℕ) → new.words ≡ old.words ++ text ∷ [] → new.spare_words + 1 ≡ old.spare_words
    → new.spare_bytes + length text ≡ old.spare_bytes → Puts old new (text ∷ [])
Puts-word old new text words spare_words spare_bytes = record {
  words = words;
  spare_words = omega (arith, spare_words);
  spare_bytes = omega (arith, spare_bytes, sum_by-cons length text []);
}
