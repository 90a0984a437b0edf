-- Pieces that are fed one after the other, and their values.
use Rattle.std.proofs.Common.{◌≡◌, ℕ, ◌<◌, ◌≤◌, ◌+◌, ◌-◌, length, get_or, take, drop, length-take, ◌==◌, arith, ◌&&◌, Bool, true, false, if◌then◌else◌, List, [], ◌∷◌, ◌++◌, refl, sym, ap, ap₂, ◌∙◌, subst, append_assoc, true≢false, Result, Ok, Err}
use Rattle.std.specs.Prelude.{IfOk}
use Rattle.std.specs.List.{concat}
use Rattle.std.proofs.lemmas.List.{append-nil, drop_more, take_more, take-append-drop}
use Rattle.std.proofs.Math.Bool.{and-false, and-true}
use Rattle.std.proofs.lemmas.Bool.{or_parts, or_from}
use Rattle.el_transform.specs.Crunching.{Delimiters, is_delimiter, crunched}
use Rattle.el_transform.specs.Splitting.{Splits, has_delimiter, last_word}
use Rattle.el_transform.specs.Computed.{crunched_after, split_behind}
use Rattle.el_transform.specs.Splitter.{Splitting, starting, is_passed_over, ended, grown, fed, values_of, fed_all, all_values, after_last, IsUnfinished}
use Rattle.el_transform.proofs.Crunched.{crunched-is}
use Rattle.el_transform.proofs.Split.{split_behind_splits, split_behind-splits, passed, one_after, no_delimiter-push}

-- one of three by two tests, as a byte is taken
abbrev by_byte : {A : Type 0} → (passed delimits : Bool) → A → A → A → A
by_byte passed delimits x y z = if passed then x else (if delimits then y else z)

by_byte-is : {A B : Type 0} (f : A → B) (passed delimits : Bool) (x y z : A) (x' y' z' : B) → x' ≡ f x → y' ≡ f y → z' ≡ f z → by_byte passed delimits x' y' z' ≡ f (by_byte passed delimits x y z)
by_byte-is f true delimits x y z x' y' z' p q r = p
by_byte-is f false true x y z x' y' z' p q r = q
by_byte-is f false false x y z x' y' z' p q r = r

by_byte-are : {A B C : Type 0} (f : A → B → C) (passed delimits : Bool) (x y z : A) (u v w : B) (x' y' z' : C) → x' ≡ f x u → y' ≡ f y v → z' ≡ f z w
    → by_byte passed delimits x' y' z' ≡ f (by_byte passed delimits x y z) (by_byte passed delimits u v w)
by_byte-are f true delimits x y z u v w x' y' z' p q r = p
by_byte-are f false true x y z u v w x' y' z' p q r = q
by_byte-are f false false x y z u v w x' y' z' p q r = r

-- what is kept behind two pieces in one is what is kept behind one after the other
pub fed-append : (s : Splitting) (front rest : List ℕ) → fed s (front ++ rest) ≡ fed (fed s front) rest
fed-append s [] rest = refl
fed-append s (byte ∷ front) rest =
    by_byte-is (λ t. fed t rest) (is_passed_over s byte) (is_delimiter s.delims byte) _ _ _ _ _ _ (fed-append s front rest) (fed-append (ended s) front rest) (fed-append (grown s byte) front rest)

-- and so are their values
pub values_of-append : (s : Splitting) (front rest : List ℕ) → values_of s (front ++ rest) ≡ values_of s front ++ values_of (fed s front) rest
values_of-append s [] rest = refl
values_of-append s (byte ∷ front) rest =
    by_byte-are (λ values t. values ++ values_of t rest) (is_passed_over s byte) (is_delimiter s.delims byte) _ _ _ _ _ _ _ _ _
    (values_of-append s front rest) (ap (λ values. s.unfinished ∷ values) (values_of-append (ended s) front rest)) (values_of-append (grown s byte) front rest)

-- all pieces are fed as the pieces joined
fed_all-joined : (s : Splitting) (pieces : List (List ℕ)) → fed_all s pieces ≡ fed s (concat pieces)
fed_all-joined s [] = refl
fed_all-joined s (piece ∷ pieces) = fed_all-joined (fed s piece) pieces ∙ sym (fed-append s piece (concat pieces))

-- the values of a piece, and the last one of what is then unfinished
abbrev pub with_last : Splitting → List ℕ → List (List ℕ)
with_last s piece = values_of s piece ++ last_word (fed s piece).unfinished

all_values-joined : (s : Splitting) (pieces : List (List ℕ)) → all_values s pieces ≡ with_last s (concat pieces)
all_values-joined s [] = refl
all_values-joined s (piece ∷ pieces) =
    ap (λ values. values_of s piece ++ values) (all_values-joined (fed s piece) pieces)
    ∙ sym (append_assoc (values_of s piece) (values_of (fed s piece) (concat pieces)) (last_word (fed (fed s piece) (concat pieces)).unfinished))
    ∙ ap₂ (λ values t. values ++ last_word t.unfinished) (sym (values_of-append s piece (concat pieces))) (sym (fed-append s piece (concat pieces)))

abbrev pub at : (crunch : Bool) → Delimiters → List ℕ → (after : Bool) → Splitting
at crunch delims unfinished after = record { crunch = crunch; delims = delims; unfinished = unfinished; is_after_delimiter = after }

-- with crunching, what crunching keeps is split
with_last-crunched : (delims : Delimiters) (unfinished : List ℕ) (after : Bool) (piece : List ℕ)
    → split_behind (is_delimiter delims) unfinished (crunched_after (is_delimiter delims) after piece) ≡ with_last (at true delims unfinished after) piece
with_last-crunched delims unfinished after [] = refl
with_last-crunched delims unfinished after (byte ∷ piece) =
    by after (is_delimiter delims byte) refl (with_last-crunched delims unfinished true piece) (with_last-crunched delims [] true piece) (with_last-crunched delims (unfinished ++ byte ∷ []) false piece)
  where
    by : (after b : Bool) → is_delimiter delims byte ≡ b
        → split_behind (is_delimiter delims) unfinished (crunched_after (is_delimiter delims) true piece) ≡ with_last (at true delims unfinished true) piece
        → split_behind (is_delimiter delims) [] (crunched_after (is_delimiter delims) true piece) ≡ with_last (at true delims [] true) piece
        → split_behind (is_delimiter delims) (unfinished ++ byte ∷ []) (crunched_after (is_delimiter delims) false piece) ≡ with_last (at true delims (unfinished ++ byte ∷ []) false) piece
        → split_behind (is_delimiter delims) unfinished (crunched_after (is_delimiter delims) after (byte ∷ piece)) ≡ with_last (at true delims unfinished after) (byte ∷ piece)
    by true true e passed ends grows = simp e passed
    by true false e passed ends grows = simp e grows
    by false true e passed ends grows = simp e (ap (λ values. unfinished ∷ values) ends)
    by false false e passed ends grows = simp e grows

-- without, all of it is
with_last-whole : (delims : Delimiters) (unfinished : List ℕ) (after : Bool) (piece : List ℕ) → split_behind (is_delimiter delims) unfinished piece ≡ with_last (at false delims unfinished after) piece
with_last-whole delims unfinished after [] = refl
with_last-whole delims unfinished after (byte ∷ piece) = by (is_delimiter delims byte) refl (with_last-whole delims [] true piece) (with_last-whole delims (unfinished ++ byte ∷ []) false piece)
  where
    by : (b : Bool) → is_delimiter delims byte ≡ b
        → split_behind (is_delimiter delims) [] piece ≡ with_last (at false delims [] true) piece
        → split_behind (is_delimiter delims) (unfinished ++ byte ∷ []) piece ≡ with_last (at false delims (unfinished ++ byte ∷ []) false) piece
        → split_behind (is_delimiter delims) unfinished (byte ∷ piece) ≡ with_last (at false delims unfinished after) (byte ∷ piece)
    by true e ends grows = simp e (ap (λ values. unfinished ∷ values) ends)
    by false e ends grows = simp e grows

-- what is kept of a piece
abbrev pub kept : Splitting → List ℕ → List ℕ
kept s piece = if s.crunch then crunched_after (is_delimiter s.delims) s.is_after_delimiter piece else piece

pub with_last-kept : (s : Splitting) (piece : List ℕ) → split_behind (is_delimiter s.delims) s.unfinished (kept s piece) ≡ with_last s piece
with_last-kept s piece = by s.crunch
  where
    by : (crunch : Bool) → split_behind (is_delimiter s.delims) s.unfinished (if crunch then crunched_after (is_delimiter s.delims) s.is_after_delimiter piece else piece)
        ≡ with_last (at crunch s.delims s.unfinished s.is_after_delimiter) piece
    by true = with_last-crunched s.delims s.unfinished s.is_after_delimiter piece
    by false = with_last-whole s.delims s.unfinished s.is_after_delimiter piece

-- the values of all pieces and the last one are those of the pieces joined
pub all_values-split : (crunch : Bool) (delims : Delimiters) (pieces : List (List ℕ)) → Splits delims (if crunch then crunched delims (concat pieces) else concat pieces) (all_values (starting crunch delims) pieces)
all_values-split crunch delims pieces =
    subst (Splits delims whole) (ap (λ value. split_behind (is_delimiter delims) [] value) (is crunch) ∙ with_last-kept (starting crunch delims) (concat pieces) ∙ sym (all_values-joined (starting crunch delims) pieces))
    (split_behind_splits delims [] whole refl)
  where
    whole : List ℕ
    whole = if crunch then crunched delims (concat pieces) else concat pieces

    is : (crunch : Bool) → (if crunch then crunched delims (concat pieces) else concat pieces) ≡ kept (starting crunch delims) (concat pieces)
    is true = crunched-is delims (concat pieces)
    is false = refl

-- a byte that is no delimiter isn't passed over
goes_on : (s : Splitting) (byte : ℕ) → is_delimiter s.delims byte ≡ false → is_passed_over s byte ≡ false
goes_on s byte other = ap (λ delimits. s.crunch && s.is_after_delimiter && delimits) other ∙ and-false (s.crunch && s.is_after_delimiter)

grown-unfinished : (s : Splitting) (byte : ℕ) → IsUnfinished s → is_delimiter s.delims byte ≡ false → IsUnfinished (grown s byte)
grown-unfinished s byte is other = record { has_none = no_delimiter-push s.delims s.unfinished byte is.has_none other; none_behind = λ e. absurd (cc) }

ended-unfinished : (s : Splitting) → IsUnfinished (ended s)
ended-unfinished s = record { has_none = refl; none_behind = λ e. refl }

pub starting-unfinished : (crunch : Bool) (delims : Delimiters) → IsUnfinished (starting crunch delims)
starting-unfinished crunch delims = record { has_none = refl; none_behind = λ e. refl }

-- bytes that are no delimiters end no value
pub values_of-none : (s : Splitting) (piece : List ℕ) → has_delimiter s.delims piece ≡ false → values_of s piece ≡ []
values_of-none s [] none = refl
values_of-none s (byte ∷ piece) none =
    let both = or_parts (is_delimiter s.delims byte) (has_delimiter s.delims piece) none in
    rw (goes_on s byte both.0, both.0) (values_of-none (grown s byte) piece both.1)

-- they go to the unfinished value
abbrev pub gone_on : Splitting → List ℕ → Splitting
gone_on s [] = s
gone_on s (byte ∷ piece) = record s { unfinished = s.unfinished ++ byte ∷ piece; is_after_delimiter = false }

gone_on-grown : (s : Splitting) (byte : ℕ) (piece : List ℕ) → gone_on (grown s byte) piece ≡ gone_on s (byte ∷ piece)
gone_on-grown s byte [] = refl
gone_on-grown s byte (next ∷ piece) = ap (λ unfinished. at s.crunch s.delims unfinished false) (one_after s.unfinished (next ∷ piece) byte)

pub fed-none : (s : Splitting) (piece : List ℕ) → has_delimiter s.delims piece ≡ false → fed s piece ≡ gone_on s piece
fed-none s [] none = refl
fed-none s (byte ∷ piece) none =
    let both = or_parts (is_delimiter s.delims byte) (has_delimiter s.delims piece) none in
    rw (goes_on s byte both.0, both.0) (fed-none (grown s byte) piece both.1 ∙ gone_on-grown s byte piece)

-- behind a delimiter nothing is unfinished
pub fed-ended : (s : Splitting) (front : List ℕ) (last : ℕ) → IsUnfinished s → is_delimiter s.delims last ≡ true → fed s (front ++ last ∷ []) ≡ ended s
fed-ended s [] last is delimits = by s.crunch s.is_after_delimiter s.unfinished is.none_behind
  where
    by : (crunch after : Bool) (unfinished : List ℕ) → (after ≡ true → unfinished ≡ []) → fed (at crunch s.delims unfinished after) (last ∷ []) ≡ at crunch s.delims [] true
    by true true unfinished none = rw delimits (ap (λ bytes. at true s.delims bytes true) (none refl))
    by true false unfinished none = rw delimits refl
    by false after unfinished none = rw delimits refl
fed-ended s (byte ∷ front) last is delimits =
    by (is_delimiter s.delims byte) refl (is_passed_over s byte) (fed-ended s front last is delimits) (fed-ended (ended s) front last (ended-unfinished s) delimits)
    (λ other. fed-ended (grown s byte) front last (grown-unfinished s byte is other) delimits)
  where
    by : (b : Bool) → is_delimiter s.delims byte ≡ b → (passed : Bool) → fed s (front ++ last ∷ []) ≡ ended s → fed (ended s) (front ++ last ∷ []) ≡ ended s
        → (is_delimiter s.delims byte ≡ false → fed (grown s byte) (front ++ last ∷ []) ≡ ended s)
        → by_byte passed (is_delimiter s.delims byte) (fed s (front ++ last ∷ [])) (fed (ended s) (front ++ last ∷ [])) (fed (grown s byte) (front ++ last ∷ [])) ≡ ended s
    by b e true passed ends grows = passed
    by true e false passed ends grows = rw e ends
    by false e false passed ends grows = rw e (grows e)

-- where there is no delimiter, all bytes are after the last one
after_last-none : (delims : Delimiters) (bytes : List ℕ) → has_delimiter delims bytes ≡ false → after_last delims bytes ≡ bytes
after_last-none delims [] none = refl
after_last-none delims (byte ∷ bytes) none = rw none refl

after_last-either : (delims : Delimiters) (bytes : List ℕ) → (if has_delimiter delims bytes then after_last delims bytes else bytes) ≡ after_last delims bytes
after_last-either delims bytes = by (has_delimiter delims bytes) refl
  where
    by : (b : Bool) → has_delimiter delims bytes ≡ b → (if b then after_last delims bytes else bytes) ≡ after_last delims bytes
    by true some = refl
    by false none = sym (after_last-none delims bytes none)

-- the unfinished bytes are those after the last delimiter, or where there is none, all
unfinished-is : (s : Splitting) (value : List ℕ) → IsUnfinished s → (fed s value).unfinished ≡ (if has_delimiter s.delims value then after_last s.delims value else s.unfinished ++ value)
unfinished-is s [] is = sym (append-nil s.unfinished)
unfinished-is s (byte ∷ value) is =
    by (is_delimiter s.delims byte) refl (is_passed_over s byte) refl (unfinished-is s value is) (unfinished-is (ended s) value (ended-unfinished s))
    (λ other. unfinished-is (grown s byte) value (grown-unfinished s byte is other))
  where
    either : List ℕ → List ℕ
    either unfinished = if has_delimiter s.delims value then after_last s.delims value else unfinished ++ value

    passed_none : (crunch after delimits : Bool) → (after ≡ true → s.unfinished ≡ []) → (crunch && after && delimits) ≡ true → s.unfinished ≡ []
    passed_none true true delimits none e = none refl
    passed_none true false delimits none e = absurd (cc)
    passed_none false after delimits none e = absurd (cc)

    by : (b : Bool) → is_delimiter s.delims byte ≡ b → (passed : Bool) → is_passed_over s byte ≡ passed
        → (fed s value).unfinished ≡ either s.unfinished → (fed (ended s) value).unfinished ≡ either []
        → (is_delimiter s.delims byte ≡ false → (fed (grown s byte) value).unfinished ≡ either (s.unfinished ++ byte ∷ []))
        → (fed s (byte ∷ value)).unfinished ≡ (if has_delimiter s.delims (byte ∷ value) then after_last s.delims (byte ∷ value) else s.unfinished ++ byte ∷ value)
    by true e true p passed ends grows =
        rw p (simp e (passed ∙ ap either (passed_none s.crunch s.is_after_delimiter (is_delimiter s.delims byte) is.none_behind p) ∙ after_last-either s.delims value))
    by true e false p passed ends grows = rw p (simp e (ends ∙ after_last-either s.delims value))
    by false e true p passed ends grows = absurd (true≢false (sym p ∙ goes_on s byte e))
    by false e false p passed ends grows = rw p (simp e (grows e ∙ last (has_delimiter s.delims value) refl))
      where
        last : (b : Bool) → has_delimiter s.delims value ≡ b → either (s.unfinished ++ byte ∷ []) ≡ (if has_delimiter s.delims value then (if has_delimiter s.delims value then after_last s.delims value else byte ∷ value) else s.unfinished ++ byte ∷ value)
        last true some = simp some refl
        last false none = simp none (one_after s.unfinished value byte)

pub unfinished-after_last : (crunch : Bool) (delims : Delimiters) (pieces : List (List ℕ)) → (fed_all (starting crunch delims) pieces).unfinished ≡ after_last delims (concat pieces)
unfinished-after_last crunch delims pieces =
    ap (λ (s : Splitting). s.unfinished) (fed_all-joined (starting crunch delims) pieces)
    ∙ unfinished-is (starting crunch delims) (concat pieces) (starting-unfinished crunch delims)
    ∙ after_last-either delims (concat pieces)

-- one byte more that is no delimiter
pub none-before : (delims : Delimiters) (bytes : List ℕ) (len : ℕ) → 0 < len → len ≤ length bytes → is_delimiter delims (get_or bytes (len - 1) 0) ≡ false
    → has_delimiter delims (drop len bytes) ≡ false → has_delimiter delims (drop (len - 1) bytes) ≡ false
none-before delims bytes len some within other none =
    let next : len - 1 + 1 ≡ len = omega arith in
    ap (has_delimiter delims) (drop_more bytes (len - 1) 0 (omega arith)) ∙ or_from _ _ other (ap (λ n. has_delimiter delims (drop n bytes)) next ∙ none)

-- the splitting of the unfinished bytes and what is kept of a piece has the values of the piece
pub split-values : {E : Type 0} (s : Splitting) (piece whole : List ℕ) (r : Result (List (List ℕ)) E) → IsUnfinished s → whole ≡ s.unfinished ++ kept s piece → IfOk r (Splits s.delims whole)
    → IfOk r (λ values. values ≡ with_last s piece)
split-values s piece whole (Err e) is joined splits = tt
split-values s piece whole (Ok values) is joined splits =
    sym (split_behind-splits splits) ∙ ap (λ value. split_behind (is_delimiter s.delims) [] value) joined ∙ passed s.delims [] s.unfinished (kept s piece) is.has_none ∙ with_last-kept s piece

gone_on-is : (s : Splitting) (bytes : List ℕ) → gone_on s bytes ≡ at s.crunch s.delims (s.unfinished ++ bytes) (s.is_after_delimiter && (length bytes == 0))
gone_on-is s [] = ap₂ (λ unfinished after. at s.crunch s.delims unfinished after) (sym (append-nil s.unfinished)) (sym (and-true s.is_after_delimiter))
gone_on-is s (byte ∷ bytes) =
    let some : (length (byte ∷ bytes) == 0) ≡ false = grind arith in
    ap (λ after. at s.crunch s.delims (s.unfinished ++ byte ∷ bytes) after) (sym (ap (λ none. s.is_after_delimiter && none) some ∙ and-false s.is_after_delimiter))

-- a piece that is cut behind its last delimiter
pub record Cut (delims : Delimiters) (piece front rest : List ℕ) (len : ℕ) : Type 0 where
  pub within : len ≤ length piece
  pub is_front : front ≡ take len piece
  pub is_rest : rest ≡ drop len piece
  pub ends : 0 < len → is_delimiter delims (get_or piece (len - 1) 0) ≡ true
  pub none_behind : has_delimiter delims (drop len piece) ≡ false

-- what feeding a piece has to make
pub record Feeds (s : Splitting) (piece : List ℕ) (values : List (List ℕ)) (unfinished : List ℕ) (after : Bool) : Type 0 where
  pub values_are : values ≡ values_of s piece
  pub fed_is : at s.crunch s.delims unfinished after ≡ fed s piece

-- where nothing is in front, no value ends
pub feeds-none : (s : Splitting) (piece front rest : List ℕ) (len : ℕ) → Cut s.delims piece front rest len → (length front == 0) ≡ true
    → Feeds s piece [] (s.unfinished ++ rest) (s.is_after_delimiter && (length rest == 0))
feeds-none s piece front rest len cut empty =
    let none : length front ≡ 0 = grind (arith, empty) in
    let at_start : len ≡ 0 = omega (arith, none, ap length cut.is_front, length-take len piece, cut.within) in
    let whole : rest ≡ piece = cut.is_rest ∙ ap (λ n. drop n piece) at_start in
    let no_delimiter : has_delimiter s.delims rest ≡ false = ap (has_delimiter s.delims) cut.is_rest ∙ cut.none_behind in
    record {
      values_are = sym (ap (values_of s) (sym whole) ∙ values_of-none s rest no_delimiter);
      fed_is = sym (ap (fed s) (sym whole) ∙ fed-none s rest no_delimiter ∙ gone_on-is s rest);
    }

-- where bytes are in front, they end values, and the rest is unfinished
pub feeds-some : (s : Splitting) (piece front rest : List ℕ) (len : ℕ) → IsUnfinished s → Cut s.delims piece front rest len → (length front == 0) ≡ false
    → Feeds s piece (with_last s front) rest (length rest == 0)
feeds-some s piece front rest len is cut some =
    let many : 0 < len = grind (arith, some, ap length cut.is_front, length-take len piece) in
    let next : len - 1 + 1 ≡ len = omega arith in
    let last : ℕ = get_or piece (len - 1) 0 in
    let with_delimiter : front ≡ take (len - 1) piece ++ last ∷ [] = cut.is_front ∙ ap (λ n. take n piece) (sym next) ∙ take_more piece (len - 1) 0 (omega (arith, cut.within)) in
    let joined : piece ≡ front ++ rest = sym (ap₂ (λ a b. a ++ b) cut.is_front cut.is_rest ∙ take-append-drop len piece) in
    let no_delimiter : has_delimiter s.delims rest ≡ false = ap (has_delimiter s.delims) cut.is_rest ∙ cut.none_behind in
    let behind : fed s front ≡ ended s = ap (fed s) with_delimiter ∙ fed-ended s (take (len - 1) piece) last is (cut.ends many) in
    record {
      values_are =
          ap (λ (t : Splitting). values_of s front ++ last_word t.unfinished) behind
          ∙ sym (ap (values_of s) joined ∙ values_of-append s front rest ∙ ap (λ t. values_of s front ++ values_of t rest) behind ∙ ap (λ more. values_of s front ++ more) (values_of-none (ended s) rest no_delimiter));
      fed_is = sym (ap (fed s) joined ∙ fed-append s front rest ∙ ap (λ t. fed t rest) behind ∙ fed-none (ended s) rest no_delimiter ∙ gone_on-is (ended s) rest);
    }

-- what is behind the last delimiter is unfinished
pub rest-unfinished : (crunch : Bool) (delims : Delimiters) (piece front rest : List ℕ) (len : ℕ) → Cut delims piece front rest len → IsUnfinished (at crunch delims rest (length rest == 0))
rest-unfinished crunch delims piece front rest len cut = record { has_none = ap (has_delimiter delims) cut.is_rest ∙ cut.none_behind; none_behind = empty rest }
  where
    empty : (bytes : List ℕ) → (length bytes == 0) ≡ true → bytes ≡ []
    empty [] e = refl
    empty (byte ∷ bytes) e = absurd (grind (arith, e))
