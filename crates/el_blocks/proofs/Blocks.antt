-- Where a block ends, and what its words are without a leading space.
use Rattle.std.proofs.Common.{◌≡◌, ℕ, zero, suc, ◌+◌, ◌<◌, ◌≤◌, nat_lt, ◌==◌, Bool, true, false, cond, List, [], ◌∷◌, ◌++◌, Option, Some, None, Result, Ok, Err, refl, sym, ap, ◌∙◌, append_assoc, append-nil, length, length-append, map, take, drop, sum_by, get_or, arith, IfOk}
use Rattle.std.specs.List.{position_or_len, slice_range}
use Rattle.std.specs.Option.{ok_or}
use Rattle.std.proofs.lemmas.List.{map-append, take_at, take_more, take-take, length-drop, get_or-drop}
use Rattle.std.proofs.lemmas.List.Sums.{sum_by_push, sum_by-take-le}
use Rattle.el_words.specs.Word.{HasNul}
use Rattle.el_words.specs.Args.{Args, nothing, word, group, spelled, indented}
use Rattle.el_blocks.specs.Block.{is_empty_word, block_length, unquoted, unspelled, block_words}

-- ---- where a spelled block ends

position-inside : (n length_of : ℕ) → n < length_of → cond (nat_lt n length_of) (Some n) None ≡ Some n
position-inside n length_of inside = let lt : nat_lt n length_of ≡ true = grind arith in rw lt refl

pub empty-test : (text : List ℕ) → (length text == 0) ≡ is_empty_word text
empty-test [] = refl
empty-test (byte ∷ bytes) = grind arith

sum-past : (a b n : ℕ) → a + (1 + (b + n)) ≡ (a + suc b) + n
sum-past a b n = omega arith

-- no word in a block is empty
empty-past : (items : Args) (depth : ℕ) (more : List (List ℕ))
    → position_or_len is_empty_word (spelled (suc depth) items ++ more) ≡ length (spelled (suc depth) items) + position_or_len is_empty_word more
empty-past nothing depth more = omega arith
empty-past (word text rest) depth more = let past = empty-past rest depth more in omega (arith, past)
empty-past (group inside rest) depth more =
    ap (position_or_len is_empty_word) (append_assoc (spelled (suc (suc depth)) inside) (indented (suc depth) [] ∷ spelled (suc depth) rest) more)
    ∙ empty-past inside (suc depth) (indented (suc depth) [] ∷ (spelled (suc depth) rest ++ more))
    ∙ ap (λ n. length (spelled (suc (suc depth)) inside) + (1 + n)) (empty-past rest depth more)
    ∙ sum-past (length (spelled (suc (suc depth)) inside)) (length (spelled (suc depth) rest)) (position_or_len is_empty_word more)
    ∙ ap (λ n. n + position_or_len is_empty_word more) (sym (length-append (spelled (suc (suc depth)) inside) (indented (suc depth) [] ∷ spelled (suc depth) rest)))

block-end : (inside : Args) (more : List (List ℕ)) → position_or_len is_empty_word (block_words 0 inside ++ more) ≡ length (spelled 1 inside)
block-end inside more =
    ap (position_or_len is_empty_word) (append_assoc (spelled 1 inside) ([] ∷ []) more) ∙ empty-past inside 0 ([] ∷ more) ∙ omega arith

length-block : (inside : Args) (more : List (List ℕ)) → length (block_words 0 inside ++ more) ≡ length (spelled 1 inside) + (1 + length more)
length-block inside more =
    ap length (append_assoc (spelled 1 inside) ([] ∷ []) more) ∙ length-append (spelled 1 inside) ([] ∷ more) ∙ ap (λ n. length (spelled 1 inside) + n) (omega arith)

pub block-found : (inside : Args) (more : List (List ℕ)) → block_length (block_words 0 inside ++ more) ≡ Some (length (spelled 1 inside))
block-found inside more =
    let whole = block_words 0 inside ++ more in
    ap (λ n. cond (nat_lt n (length whole)) (Some n) None) (block-end inside more)
    ∙ position-inside (length (spelled 1 inside)) (length whole) (omega (arith, length-block inside more))

pub ok_or-some : {E : Type 0} (result : Result ℕ E) (answer : Option ℕ) (error : E) (n : ℕ) → result ≡ ok_or answer error → answer ≡ Some n → result ≡ Ok n
ok_or-some result answer error n is some = is ∙ ap (λ a. ok_or a error) some

-- ---- one level up

unquoted-spelled : (items : Args) (depth : ℕ) → map unquoted (spelled (suc depth) items) ≡ spelled depth items
unquoted-spelled nothing depth = refl
unquoted-spelled (word text rest) depth = ap (λ r. indented depth text ∷ r) (unquoted-spelled rest depth)
unquoted-spelled (group inside rest) depth =
    map-append unquoted (spelled (suc (suc depth)) inside) (indented (suc depth) [] ∷ spelled (suc depth) rest)
    ∙ ap (λ r. r ++ (indented depth [] ∷ map unquoted (spelled (suc depth) rest))) (unquoted-spelled inside (suc depth))
    ∙ ap (λ r. spelled (suc depth) inside ++ (indented depth [] ∷ r)) (unquoted-spelled rest depth)

unspelled-spelled : (inside : Args) (more words : List (List ℕ)) (len : ℕ) → words ≡ spelled 1 inside ++ more → len ≡ length (spelled 1 inside) → unspelled len words ≡ spelled 0 inside
unspelled-spelled inside more words len is is_len =
    ap (unspelled len) is ∙ ap (map unquoted) (take_at (spelled 1 inside) more len (sym is_len)) ∙ unquoted-spelled inside 0

pub block-unspelled : {E : Type 0} (result : Result (List (List ℕ)) E) (words : List (List ℕ)) (len : ℕ) → IfOk result (λ front. front ≡ unspelled len words)
    → IfOk result (λ front. (inside : Args) (rest : List (List ℕ)) → words ≡ spelled 1 inside ++ rest → len ≡ length (spelled 1 inside) → front ≡ spelled 0 inside)
block-unspelled (Ok front) words len is = λ inside rest are is_len. is ∙ unspelled-spelled inside rest words len are is_len
block-unspelled (Err error) words len is = tt

-- ---- one word more of them

module _ (words : List (List ℕ)) (from len place : ℕ) (inside : place < len) (within : from + len ≤ length words) where
  behind : place < length (drop from words)
  behind = let rest = length-drop from words in omega (arith, rest)

  pub unspelled-next : unspelled (place + 1) (drop from words) ≡ unspelled place (drop from words) ++ unquoted (get_or words (from + place) []) ∷ []
  unspelled-next =
      ap (map unquoted) (take_more (drop from words) place [] behind)
      ∙ map-append unquoted (take place (drop from words)) (get_or (drop from words) place [] ∷ [])
      ∙ ap (λ text. unspelled place (drop from words) ++ unquoted text ∷ []) (get_or-drop from words place [])

  pub bytes-next : sum_by length (take (place + 1) (drop from words)) ≡ sum_by length (take place (drop from words)) + length (get_or words (from + place) [])
  bytes-next =
      ap (sum_by length) (take_more (drop from words) place [] behind)
      ∙ sum_by_push length (take place (drop from words)) (get_or (drop from words) place [])
      ∙ ap (λ text. sum_by length (take place (drop from words)) + length text) (get_or-drop from words place [])

  pub bytes-within : sum_by length (take (place + 1) (drop from words)) ≤ sum_by length (take len (drop from words))
  bytes-within =
      let less = sum_by-take-le length (take len (drop from words)) (place + 1) in
      let same = ap (sum_by length) (take-take (place + 1) len (drop from words) (omega arith)) in
      omega (arith, less, same)

pub bytes-between : (words : List (List ℕ)) (from len : ℕ) → sum_by length (slice_range words from (from + len)) ≡ sum_by length (take len (drop from words))
bytes-between words from len = ap (λ n. sum_by length (take n (drop from words))) (omega arith)

pub length-unquoted : (text : List ℕ) → length (unquoted text) ≤ length text
length-unquoted [] = omega arith
length-unquoted (byte ∷ bytes) = by (byte == 32)
  where
    by : (quoted : Bool) → length (cond quoted bytes (byte ∷ bytes)) ≤ length (byte ∷ bytes)
    by true = omega arith
    by false = omega arith

pub unquoted-no_nul : (text : List ℕ) → (HasNul text → ⊥) → HasNul (unquoted text) → ⊥
unquoted-no_nul [] none = none
unquoted-no_nul (byte ∷ bytes) none = by (byte == 32)
  where
    by : (quoted : Bool) → HasNul (cond quoted bytes (byte ∷ bytes)) → ⊥
    by true (place, below, at) = none (suc place, omega arith, at)
    by false nul = none nul

-- ---- no block's spelling is a proper prefix of another's

unquoted-block : (inside : Args) (depth : ℕ) → map unquoted (block_words (suc depth) inside) ≡ block_words depth inside
unquoted-block inside depth =
    map-append unquoted (spelled (suc (suc depth)) inside) (indented (suc depth) [] ∷ []) ∙ ap (λ r. r ++ (indented depth [] ∷ [])) (unquoted-spelled inside (suc depth))

no_length : (words : List (List ℕ)) → length words ≡ 0 → words ≡ []
no_length [] none = refl
no_length (text ∷ words) none = absurd (omega arith)

no_map : (words : List (List ℕ)) → map unquoted words ≡ [] → words ≡ []
no_map [] none = refl
no_map (text ∷ words) none = let never : ⊥ = cc in absurd never

pub one-end : (depth : ℕ) (one other : Args) (more : List (List ℕ)) → block_words depth one ++ more ≡ block_words depth other → more ≡ []
one-end zero one other more is =
    let same = sym (block-end one more) ∙ ap (position_or_len is_empty_word) (is ∙ sym (append-nil (block_words 0 other))) ∙ block-end other [] in
    let long = sym (length-block one more) ∙ ap length (is ∙ sym (append-nil (block_words 0 other))) ∙ length-block other [] in
    no_length more (omega (arith, same, long))
one-end (suc depth) one other more is =
    no_map more (one-end depth one other (map unquoted more)
    (ap (λ r. r ++ map unquoted more) (sym (unquoted-block one depth)) ∙ sym (map-append unquoted (block_words (suc depth) one) more) ∙ ap (map unquoted) is ∙ unquoted-block other depth))
