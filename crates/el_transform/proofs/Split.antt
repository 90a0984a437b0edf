-- The splitting of a value at delimiters is one, and `split_behind` is that one.
use Rattle.std.proofs.Common.{◌≡◌, ℕ, ◌<◌, ◌≤◌, ◌+◌, ◌-◌, length, get_or, take, drop, arith, length-take, length-drop, count_by, cond, zero-add, not, Bool, true, false, List, [], ◌∷◌, ◌++◌, map, refl, sym, ap, ap₂, ◌∙◌, subst, append_assoc}
use Rattle.std.specs.List.{list_all, concat}
use Rattle.std.proofs.lemmas.List.{append-nil, drop_all, drop_more, take_more, get_or-drop}
use Rattle.std.proofs.lemmas.List.Folds.{list_any-append}
use Rattle.std.proofs.lemmas.List.Sums.{sum_by-drop_more}
use Rattle.std.proofs.lemmas.Bool.{or_from, or_parts, and_parts, not-true}
use Rattle.el_transform.specs.Crunching.{Delimiters, is_delimiter}
use Rattle.el_transform.specs.Splitting.{Splits, has_delimiter, is_ended, ended_text, last_word}
use Rattle.el_transform.specs.Computed.{split_behind}

pub one_after : (word rest : List ℕ) (byte : ℕ) → (word ++ byte ∷ []) ++ rest ≡ word ++ byte ∷ rest
one_after word rest byte = append_assoc word (byte ∷ []) rest

pub no_delimiter-push : (delims : Delimiters) (word : List ℕ) (byte : ℕ) → has_delimiter delims word ≡ false → is_delimiter delims byte ≡ false → has_delimiter delims (word ++ byte ∷ []) ≡ false
no_delimiter-push delims word byte none other = list_any-append (is_delimiter delims) word (byte ∷ []) ∙ or_from _ _ none (or_from _ _ other refl)

-- one more ended word before a splitting
word_before_splits : {delims : Delimiters} {value : List ℕ} {words : List (List ℕ)} (word : List ℕ) (byte : ℕ) → has_delimiter delims word ≡ false → is_delimiter delims byte ≡ true
    → Splits delims value words → Splits delims (word ++ byte ∷ value) (word ∷ words)
word_before_splits word byte none delimits splits = record {
  ended = (word, byte) ∷ splits.ended;
  rest = splits.rest;
  are_ended = rw (none, delimits) splits.are_ended;
  rest_has_none = splits.rest_has_none;
  joined =
      append_assoc (word ++ byte ∷ []) (concat (map ended_text splits.ended)) splits.rest
      ∙ one_after word (concat (map ended_text splits.ended) ++ splits.rest) byte
      ∙ ap (λ value. word ++ byte ∷ value) splits.joined;
  are_words = ap (λ words. word ∷ words) splits.are_words;
}

pub split_behind_splits : (delims : Delimiters) (word value : List ℕ) → has_delimiter delims word ≡ false → Splits delims (word ++ value) (split_behind (is_delimiter delims) word value)
split_behind_splits delims word [] none = record {
  ended = [];
  rest = word;
  are_ended = refl;
  rest_has_none = none;
  joined = sym (append-nil word);
  are_words = refl;
}
split_behind_splits delims word (byte ∷ value) none =
    by (is_delimiter delims byte) refl (split_behind_splits delims [] value refl) (λ other. split_behind_splits delims (word ++ byte ∷ []) value (no_delimiter-push delims word byte none other))
  where
    by : (b : Bool) → is_delimiter delims byte ≡ b → Splits delims value (split_behind (is_delimiter delims) [] value)
        → (is_delimiter delims byte ≡ false → Splits delims ((word ++ byte ∷ []) ++ value) (split_behind (is_delimiter delims) (word ++ byte ∷ []) value))
        → Splits delims (word ++ byte ∷ value) (split_behind (is_delimiter delims) word (byte ∷ value))
    by true delimits ended later = rw delimits (word_before_splits word byte none delimits ended)
    by false other ended later = rw other (subst (λ v. Splits delims v (split_behind (is_delimiter delims) (word ++ byte ∷ []) value)) (one_after word value byte) (later other))

-- bytes that are no delimiters go to the word
pub passed : (delims : Delimiters) (word bytes value : List ℕ) → has_delimiter delims bytes ≡ false → split_behind (is_delimiter delims) word (bytes ++ value) ≡ split_behind (is_delimiter delims) (word ++ bytes) value
passed delims word [] value none = ap (λ w. split_behind (is_delimiter delims) w value) (sym (append-nil word))
passed delims word (byte ∷ bytes) value none =
    let both = or_parts (is_delimiter delims byte) (has_delimiter delims bytes) none in
    rw both.0 (passed delims (word ++ byte ∷ []) bytes value both.1 ∙ ap (λ w. split_behind (is_delimiter delims) w value) (one_after word bytes byte))

split_behind-ended : (delims : Delimiters) (ended : List (List ℕ × ℕ)) (rest : List ℕ) → list_all (is_ended delims) ended ≡ true → has_delimiter delims rest ≡ false
    → split_behind (is_delimiter delims) [] (concat (map ended_text ended) ++ rest) ≡ map (λ e. e.0) ended ++ last_word rest
split_behind-ended delims [] rest all none =
    ap (λ v. split_behind (is_delimiter delims) [] v) (sym (append-nil rest)) ∙ passed delims [] rest [] none
split_behind-ended delims ((word, byte) ∷ ended) rest all none =
    let both = and_parts (is_ended delims (word, byte)) _ all in
    let first = and_parts (not (has_delimiter delims word)) (is_delimiter delims byte) both.0 in
    let value = concat (map ended_text ended) ++ rest in
    ap (λ v. split_behind (is_delimiter delims) [] v) (append_assoc (word ++ byte ∷ []) (concat (map ended_text ended)) rest ∙ one_after word value byte)
    ∙ passed delims [] word (byte ∷ value) (not-true _ first.0)
    ∙ rw first.1 (ap (λ words. word ∷ words) (split_behind-ended delims ended rest both.1 none))

-- a splitting has the words that are computed
pub split_behind-splits : {delims : Delimiters} {value : List ℕ} {words : List (List ℕ)} → Splits delims value words → split_behind (is_delimiter delims) [] value ≡ words
split_behind-splits {delims} {value} {words} splits =
    ap (λ v. split_behind (is_delimiter delims) [] v) (sym splits.joined) ∙ split_behind-ended delims splits.ended splits.rest splits.are_ended splits.rest_has_none ∙ splits.are_words

-- what is left to split at a place, where a word began at start
abbrev pub left_at : Delimiters → List ℕ → ℕ → ℕ → List (List ℕ)
left_at delims bytes start place = split_behind (is_delimiter delims) (take (place - start) (drop start bytes)) (drop place bytes)

byte_more : (bytes : List ℕ) (start place : ℕ) → start ≤ place → place < length bytes
    → take (place + 1 - start) (drop start bytes) ≡ take (place - start) (drop start bytes) ++ get_or bytes place 0 ∷ []
byte_more bytes start place begun within =
    let next : place + 1 - start ≡ (place - start) + 1 = omega arith in
    let here : start + (place - start) ≡ place = omega arith in
    ap (λ n. take n (drop start bytes)) next
    ∙ take_more (drop start bytes) (place - start) 0 (omega (arith, length-drop start bytes))
    ∙ ap (λ b. take (place - start) (drop start bytes) ++ b ∷ []) (get_or-drop start bytes (place - start) 0 ∙ ap (λ n. get_or bytes n 0) here)

-- a byte that is no delimiter goes to the word
pub left_at-other : (delims : Delimiters) (bytes : List ℕ) (start place : ℕ) → start ≤ place → place < length bytes → is_delimiter delims (get_or bytes place 0) ≡ false
    → left_at delims bytes start place ≡ left_at delims bytes start (place + 1)
left_at-other delims bytes start place begun within other =
    let word = take (place - start) (drop start bytes) in
    ap (λ rest. split_behind (is_delimiter delims) word rest) (drop_more bytes place 0 within)
    ∙ rw other (ap (λ w. split_behind (is_delimiter delims) w (drop (place + 1) bytes)) (sym (byte_more bytes start place begun within)))

-- a delimiter ends it
left_at-delimiter : (delims : Delimiters) (bytes : List ℕ) (start place : ℕ) → place < length bytes → is_delimiter delims (get_or bytes place 0) ≡ true
    → left_at delims bytes start place ≡ take (place - start) (drop start bytes) ∷ left_at delims bytes (place + 1) (place + 1)
left_at-delimiter delims bytes start place within delimits =
    let word = take (place - start) (drop start bytes) in
    let none : place + 1 - (place + 1) ≡ 0 = omega arith in
    ap (λ rest. split_behind (is_delimiter delims) word rest) (drop_more bytes place 0 within)
    ∙ rw delimits (ap (λ n. word ∷ split_behind (is_delimiter delims) (take n (drop (place + 1) bytes)) (drop (place + 1) bytes)) (sym none))

pub length-slice : (bytes : List ℕ) (start place : ℕ) → place < length bytes → length (take (place - start) (drop start bytes)) ≡ place - start
length-slice bytes start place within = omega (arith, length-take (place - start) (drop start bytes), length-drop start bytes)

-- how many words delimiters end, from a place on: one more where a delimiter stands there
pub ends-delimiter : (delims : Delimiters) (bytes : List ℕ) (place : ℕ) → place < length bytes → is_delimiter delims (get_or bytes place 0) ≡ true
    → count_by (is_delimiter delims) (drop place bytes) ≡ 1 + count_by (is_delimiter delims) (drop (place + 1) bytes)
ends-delimiter delims bytes place within delimits =
    sum_by-drop_more (λ byte. cond (is_delimiter delims byte) 1 0) bytes place 0 within ∙ ap (λ ends. cond ends 1 0 + count_by (is_delimiter delims) (drop (place + 1) bytes)) delimits

pub ends-other : (delims : Delimiters) (bytes : List ℕ) (place : ℕ) → place < length bytes → is_delimiter delims (get_or bytes place 0) ≡ false
    → count_by (is_delimiter delims) (drop place bytes) ≡ count_by (is_delimiter delims) (drop (place + 1) bytes)
ends-other delims bytes place within other =
    sum_by-drop_more (λ byte. cond (is_delimiter delims byte) 1 0) bytes place 0 within ∙ ap (λ ends. cond ends 1 0 + count_by (is_delimiter delims) (drop (place + 1) bytes)) other
    ∙ zero-add (count_by (is_delimiter delims) (drop (place + 1) bytes))

Splits-computed : (delims : Delimiters) (bytes : List ℕ) (words : List (List ℕ)) → split_behind (is_delimiter delims) [] bytes ≡ words → Splits delims bytes words
Splits-computed delims bytes words are = subst (Splits delims bytes) are (split_behind_splits delims [] bytes refl)

-- a loop's words with what is left, where a delimiter ended one more word
pub step-delimiter : (delims : Delimiters) (bytes : List ℕ) (words more : List (List ℕ)) (word : List ℕ) (start next place : ℕ) → place < length bytes → is_delimiter delims (get_or bytes place 0) ≡ true
    → word ≡ take (place - start) (drop start bytes) → more ≡ words ++ word ∷ [] → next ≡ place + 1
    → words ++ left_at delims bytes start place ≡ more ++ left_at delims bytes next (place + 1)
step-delimiter delims bytes words more word start next place within delimits is_word is_more is_next =
    ap (λ rest. words ++ rest) (left_at-delimiter delims bytes start place within delimits)
    ∙ ap₂ (λ w n. words ++ w ∷ left_at delims bytes n (place + 1)) (sym is_word) (sym is_next)
    ∙ sym (append_assoc words (word ∷ []) (left_at delims bytes next (place + 1)))
    ∙ ap (λ ws. ws ++ left_at delims bytes next (place + 1)) (sym is_more)

last_word-some : (bytes : List ℕ) → 0 < length bytes → last_word bytes ≡ bytes ∷ []
last_word-some [] some = absurd (omega arith)
last_word-some (byte ∷ bytes) some = refl

-- at the end the word that began, if any, is the last one
left_at-end : (delims : Delimiters) (bytes : List ℕ) (start place : ℕ) → place ≡ length bytes → left_at delims bytes start place ≡ last_word (take (length bytes - start) (drop start bytes))
left_at-end delims bytes start place end =
    ap (λ n. left_at delims bytes start n) end ∙ ap (λ rest. split_behind (is_delimiter delims) (take (length bytes - start) (drop start bytes)) rest) (drop_all (length bytes) bytes (omega arith))

-- where bytes are left at the end, they are the last word
pub end-rest : (delims : Delimiters) (bytes : List ℕ) (words more : List (List ℕ)) (word : List ℕ) (start place : ℕ) → place ≡ length bytes → start < length bytes
    → word ≡ take (length bytes - start) (drop start bytes) → more ≡ words ++ word ∷ []
    → split_behind (is_delimiter delims) [] bytes ≡ words ++ left_at delims bytes start place → Splits delims bytes more
end-rest delims bytes words more word start place end some is_word is_more so_far =
    Splits-computed delims bytes more
    (so_far
    ∙ ap (λ rest. words ++ rest) (left_at-end delims bytes start place end ∙ last_word-some _ (omega (arith, length-take (length bytes - start) (drop start bytes), length-drop start bytes)))
    ∙ ap (λ w. words ++ w ∷ []) (sym is_word)
    ∙ sym is_more)

-- and where none are left, there is no more word
pub end-none : (delims : Delimiters) (bytes : List ℕ) (words : List (List ℕ)) (start place : ℕ) → place ≡ length bytes → length bytes ≤ start
    → split_behind (is_delimiter delims) [] bytes ≡ words ++ left_at delims bytes start place → Splits delims bytes words
end-none delims bytes words start place end none so_far =
    let left : length bytes - start ≡ 0 = omega arith in
    Splits-computed delims bytes words
    (so_far
    ∙ ap (λ rest. words ++ rest) (left_at-end delims bytes start place end ∙ ap (λ n. last_word (take n (drop start bytes))) left)
    ∙ append-nil words)
