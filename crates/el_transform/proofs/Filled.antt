-- The netstrings of a value are one, and so is the place at which none begins; `netstrings_of` finds them.
use Rattle.std.proofs.Common.{◌≡◌, ℕ, zero, suc, ◌<◌, ◌≤◌, ◌+◌, ◌-◌, ◌^◌, List, [], ◌∷◌, ◌++◌, Option, Some, None, Result, Ok, Err, MatchResult, refl, sym, ap, ap₂, ◌∙◌, subst, length, take, drop, arith, append_assoc, length-append, length-drop}
use Rattle.std.proofs.lemmas.List.{append-nil, take-append-drop, take_at, drop_at}
use Rattle.std.specs.Fmt.{decimal}
use Rattle.std.proofs.lemmas.Option.{none-some}
use Rattle.std.proofs.lemmas.List.Elements.{Contains-append_left, Contains-append_right}
use Rattle.el_words.specs.Word.{HasNul}
use Rattle.el_transform.specs.Netstrings.{netstring_text, netstrings_text, FailsAt}
use Rattle.el_transform.specs.Computed.{netstring_of, word_before, after_first, netstrings_of}
use Rattle.el_transform.proofs.FirstNetstring.{netstring_of-some, netstring_of-text, length-text, first_is_one}

-- no netstring begins here
abbrev pub NoneBegins : List ℕ → Type 0
NoneBegins bytes = (word rest : List ℕ) → netstring_text word ++ rest ≡ bytes → ⊥

none_at_end : NoneBegins []
none_at_end word rest e = absurd (omega (arith, length-text word rest, ap length e))

-- a value that netstrings begin and none follows has one such beginning
pub filled_is_one : (words others : List (List ℕ)) (rest more : List ℕ) → length (netstrings_text words ++ rest) < 2 ^ 64 → NoneBegins rest → NoneBegins more
    → netstrings_text words ++ rest ≡ netstrings_text others ++ more → (words ≡ others) × (rest ≡ more)
filled_is_one [] [] rest more small none none' same = (refl, same)
filled_is_one [] (other ∷ others) rest more small none none' same =
    absurd (none other (netstrings_text others ++ more) (sym (append_assoc (netstring_text other) (netstrings_text others) more) ∙ sym same))
filled_is_one (word ∷ words) [] rest more small none none' same =
    absurd (none' word (netstrings_text words ++ rest) (sym (append_assoc (netstring_text word) (netstrings_text words) rest) ∙ same))
filled_is_one (word ∷ words) (other ∷ others) rest more small none none' same =
    let assoc = append_assoc (netstring_text word) (netstrings_text words) rest in
    let fits : length (netstring_text word ++ (netstrings_text words ++ rest)) < 2 ^ 64 = omega (arith, ap length assoc) in
    let first = first_is_one word (netstrings_text words ++ rest) other (netstrings_text others ++ more) fits
    (sym assoc ∙ same ∙ append_assoc (netstring_text other) (netstrings_text others) more) in
    let later = filled_is_one words others rest more (omega (arith, length-text word (netstrings_text words ++ rest))) none none' first.1 in
    (ap₂ (λ w ws. w ∷ ws) first.0 later.0, later.1)

-- the netstrings before a bad place, and what stands there
filled : {value : List ℕ} {at : ℕ} (fails : FailsAt value at) → netstrings_text fails.words ++ drop at value ≡ value
filled {value} {at} fails = ap (λ front. front ++ drop at value) fails.filled ∙ take-append-drop at value

-- netstrings are those of one list of words
pub words_are_one : (words others : List (List ℕ)) → length (netstrings_text words) < 2 ^ 64 → netstrings_text words ≡ netstrings_text others → words ≡ others
words_are_one words others small same =
    (filled_is_one words others [] [] (omega (arith, ap length (append-nil (netstrings_text words)))) none_at_end none_at_end (append-nil _ ∙ same ∙ sym (append-nil _))).0

-- a value has one bad place
pub place_is_one : (value : List ℕ) (at other : ℕ) → length value < 2 ^ 64 → FailsAt value at → FailsAt value other → at ≡ other
place_is_one value at other small fails fails' =
    let one = filled_is_one fails.words fails'.words (drop at value) (drop other value) (omega (arith, ap length (filled fails))) fails.none_begins fails'.none_begins (filled fails ∙ sym (filled fails')) in
    omega (arith, ap length one.1, length-drop at value, length-drop other value, fails.before_end, fails'.before_end)

-- and then it is the netstrings of no words
pub bad_is_no_text : (value : List ℕ) (at : ℕ) (words : List (List ℕ)) → length value < 2 ^ 64 → FailsAt value at → netstrings_text words ≡ value → ⊥
bad_is_no_text value at words small fails whole =
    let one = filled_is_one fails.words words (drop at value) [] (omega (arith, ap length (filled fails))) fails.none_begins none_at_end (filled fails ∙ sym whole ∙ sym (append-nil _)) in
    absurd (omega (arith, ap length one.1, length-drop at value, fails.before_end))

-- one more netstring before a place at which none begins
fails_behind : (value word rest : List ℕ) (at : ℕ) → netstring_text word ++ rest ≡ value → FailsAt rest at → FailsAt value (length value - length rest + at)
fails_behind value word rest at whole fails =
    let count : length value - length rest ≡ length (netstring_text word) = omega (arith, ap length whole, length-append (netstring_text word) rest) in
    subst (FailsAt value) (ap (λ n. n + at) (sym count))
    (subst (λ v. FailsAt v (length (netstring_text word) + at)) whole (behind (netstring_text word) refl))
  where
    rest_at : (front : List ℕ) → drop (length front + at) (front ++ rest) ≡ drop at rest
    rest_at [] = let e : 0 + at ≡ at = omega arith in ap (λ n. drop n rest) e
    rest_at (byte ∷ front) = let e : suc (length front) + at ≡ suc (length front + at) = omega arith in ap (λ n. drop n (byte ∷ front ++ rest)) e ∙ rest_at front

    front_at : (front : List ℕ) → take (length front + at) (front ++ rest) ≡ front ++ take at rest
    front_at [] = let e : 0 + at ≡ at = omega arith in ap (λ n. take n rest) e
    front_at (byte ∷ front) = let e : suc (length front) + at ≡ suc (length front + at) = omega arith in ap (λ n. take n (byte ∷ front ++ rest)) e ∙ ap (λ bytes. byte ∷ bytes) (front_at front)

    behind : (front : List ℕ) → netstring_text word ≡ front → FailsAt (front ++ rest) (length front + at)
    behind front is = record {
      words = word ∷ fails.words;
      filled = ap₂ (λ x y. x ++ y) is fails.filled ∙ sym (front_at front);
      before_end = omega (arith, length-append front rest, fails.before_end);
      none_begins = λ w r e. fails.none_begins w r (e ∙ rest_at front);
    }

-- what is computed is so
pub netstrings_of-says : (most : ℕ) (value : List ℕ) → length value ≤ most → length value < 2 ^ 64 → MatchResult (netstrings_of most value) (λ words. netstrings_text words ≡ value) (FailsAt value)
netstrings_of-says most [] fits small = refl
netstrings_of-says zero (byte ∷ value) fits small = absurd (omega arith)
netstrings_of-says (suc most) (byte ∷ value) fits small = by (netstring_of (byte ∷ value)) refl (netstrings_of-says most)
  where
    before : (word rest : List ℕ) → netstring_text word ++ rest ≡ byte ∷ value → (r : Result (List (List ℕ)) ℕ) → MatchResult r (λ words. netstrings_text words ≡ rest) (FailsAt rest)
        → MatchResult (word_before word (length (byte ∷ value) - length rest) r) (λ words. netstrings_text words ≡ byte ∷ value) (FailsAt (byte ∷ value))
    before word rest whole (Ok words) is = ap (λ bytes. netstring_text word ++ bytes) is ∙ whole
    before word rest whole (Err at) is = fails_behind (byte ∷ value) word rest at whole is

    by : (first : Option (List ℕ × List ℕ)) → netstring_of (byte ∷ value) ≡ first
        → ((rest : List ℕ) → length rest ≤ most → length rest < 2 ^ 64 → MatchResult (netstrings_of most rest) (λ words. netstrings_text words ≡ rest) (FailsAt rest))
        → MatchResult (after_first first (λ word rest. word_before word (length (byte ∷ value) - length rest) (netstrings_of most rest))) (λ words. netstrings_text words ≡ byte ∷ value) (FailsAt (byte ∷ value))
    by None none later = record {
      words = [];
      filled = refl;
      before_end = omega arith;
      none_begins = λ word rest e. none-some (word, rest) (sym none ∙ sym (ap netstring_of e) ∙ netstring_of-text word rest (omega (arith, length-text word rest, ap length e)));
    }
    by (Some (word, rest)) some later =
        let whole = netstring_of-some (byte ∷ value) word rest some in
        let shorter : length rest < length (byte ∷ value) = omega (arith, length-text word rest, ap length whole) in
        before word rest whole (netstrings_of most rest) (later rest (omega arith) (omega arith))

-- and what is so is computed
pub netstrings_of-text : (value : List ℕ) (words : List (List ℕ)) → length value < 2 ^ 64 → netstrings_text words ≡ value → netstrings_of (length value) value ≡ Ok words
netstrings_of-text value words small whole = by (netstrings_of (length value) value) (netstrings_of-says (length value) value (omega arith) small)
  where
    by : (r : Result (List (List ℕ)) ℕ) → MatchResult r (λ words. netstrings_text words ≡ value) (FailsAt value) → r ≡ Ok words
    by (Ok others) is = ap Ok (words_are_one others words (omega (arith, ap length is)) (is ∙ sym whole))
    by (Err at) fails = absurd (bad_is_no_text value at words small fails whole)

pub netstrings_of-fails : (value : List ℕ) (at : ℕ) → length value < 2 ^ 64 → FailsAt value at → netstrings_of (length value) value ≡ Err at
netstrings_of-fails value at small fails = by (netstrings_of (length value) value) (netstrings_of-says (length value) value (omega arith) small)
  where
    by : (r : Result (List (List ℕ)) ℕ) → MatchResult r (λ words. netstrings_text words ≡ value) (FailsAt value) → r ≡ Err at
    by (Ok words) whole = absurd (bad_is_no_text value at words small fails whole)
    by (Err other) is = ap Err (place_is_one value other at small is fails)

-- the netstrings of one more word
netstrings_text-push : (words : List (List ℕ)) (word : List ℕ) → netstrings_text (words ++ word ∷ []) ≡ netstrings_text words ++ netstring_text word
netstrings_text-push [] word = append-nil (netstring_text word)
netstrings_text-push (first ∷ words) word =
    ap (λ text. netstring_text first ++ text) (netstrings_text-push words word) ∙ sym (append_assoc (netstring_text first) (netstrings_text words) (netstring_text word))

-- one more netstring that is read
pub one_more_filled : (bytes : List ℕ) (words more : List (List ℕ)) (word rest after : List ℕ) → netstring_of rest ≡ Some (word, after) → more ≡ words ++ word ∷ []
    → netstrings_text words ++ rest ≡ bytes → netstrings_text more ++ after ≡ bytes
one_more_filled bytes words more word rest after first is_more so_far =
    ap (λ ws. netstrings_text ws ++ after) is_more
    ∙ ap (λ text. text ++ after) (netstrings_text-push words word)
    ∙ append_assoc (netstrings_text words) (netstring_text word) after
    ∙ ap (λ text. netstrings_text words ++ text) (netstring_of-some rest word after first)
    ∙ so_far

pub rest_is_shorter : (word rest after : List ℕ) → netstring_of rest ≡ Some (word, after) → length after < length rest
rest_is_shorter word rest after first = omega (arith, length-text word after, ap length (netstring_of-some rest word after first))

-- the word of a netstring stands in the value
pub word-no_nul : (bytes : List ℕ) (words : List (List ℕ)) (word rest after : List ℕ) → netstring_of rest ≡ Some (word, after) → netstrings_text words ++ rest ≡ bytes
    → (HasNul bytes → ⊥) → HasNul word → ⊥
word-no_nul bytes words word rest after first so_far none nul =
    none (subst HasNul so_far
    (Contains-append_right (netstrings_text words) rest 0
    (subst HasNul (netstring_of-some rest word after first)
    (Contains-append_left (netstring_text word) after 0
    (Contains-append_right (decimal (length word)) (58 ∷ (word ++ 44 ∷ [])) 0
    (Contains-append_right (58 ∷ []) (word ++ 44 ∷ []) 0
    (Contains-append_left word (44 ∷ []) 0 nul)))))))

-- where no netstring is found
pub fails_here : (bytes : List ℕ) (words : List (List ℕ)) (rest : List ℕ) → length bytes < 2 ^ 64 → netstring_of rest ≡ None → 0 < length rest
    → netstrings_text words ++ rest ≡ bytes → FailsAt bytes (length bytes - length rest)
fails_here bytes words rest small none some so_far =
    let front = netstrings_text words in
    subst (λ v. FailsAt v (length v - length rest)) so_far
    (rw (place_of front) (record {
      words = words;
      filled = sym (take_at front rest (length front) refl);
      before_end = omega (arith, length-append front rest);
      none_begins = λ word after e. no_text word after (e ∙ drop_at front rest (length front) refl);
    }))
  where
    place_of : (front : List ℕ) → length (front ++ rest) - length rest ≡ length front
    place_of front = omega (arith, length-append front rest)

    no_text : (word after : List ℕ) → netstring_text word ++ after ≡ rest → ⊥
    no_text word after e =
        let shorter : length word < 2 ^ 64 = omega (arith, length-text word after, ap length e, ap length so_far, length-append (netstrings_text words) rest) in
        none-some (word, after) (sym none ∙ sym (ap netstring_of e) ∙ netstring_of-text word after shorter)
