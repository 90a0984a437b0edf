-- The text of a sample is words with a blank behind each, and isn't too long.
use Rattle.el_script.proofs.Vocabulary.{decimal, flat_map, range_with_len, and_from, and_parts, number_of, are_digits, within_limit, decimal_value, is_digit, fits_piece, Reads, Lexes}
use Rattle.std.proofs.Common.{◌≡◌, ℕ, zero, suc, ◌+◌, ◌-◌, ◌*◌, ◌%◌, ◌^◌, ◌<◌, ◌≤◌, ◌==◌, Bool, true, false, if◌then◌else◌, List, [], ◌∷◌, ◌++◌, length, length-append, append_assoc, Some, None, refl, sym, ap, ◌∙◌, subst, codes, arith}
use Rattle.std.proofs.lemmas.Fmt.{length-decimal-le}
use Rattle.el_words.proofs.Numbers.{number_of-decimal}
use Rattle.el_lex.specs.Pieces.{Plain}
use Rattle.el_app.specs.Sample.{define_line, foreground_line, pipeline_line, if_line, last_line, sample_line, sample}
use Rattle.el_app.proofs.SampleWords.{Spaced, spaced_text, are_plain, AreGood, none_good, good, spaced-tokens, spaced-reads}

abbrev spaced : (first : ℕ) → (others : List ℕ) → (blank : ℕ) → Spaced
spaced first others blank = record { first = first; others = others; blank = blank }

-- ---- the words of lines

abbrev pub define_words : (i : ℕ) → List Spaced
define_words i = spaced 100 (codes "efine") 32 ∷ spaced 86 (decimal i) 32 ∷ spaced 120 (decimal i) 10 ∷ []

abbrev pub foreground_words : (i : ℕ) → List Spaced
foreground_words i =
    spaced 102 (codes "oreground") 32 ∷ spaced 123 [] 32 ∷ spaced 101 (codes "cho") 32 ∷ spaced 97 [] 32 ∷ spaced 36 (86 ∷ decimal (i - 1)) 32 ∷ spaced 125 [] 10 ∷ []

abbrev pub pipeline_words : List Spaced
pipeline_words = spaced 112 (codes "ipeline") 32 ∷ spaced 123 [] 32 ∷ spaced 101 (codes "cho") 32 ∷ spaced 112 [] 32 ∷ spaced 125 [] 10 ∷ []

abbrev pub if_words : List Spaced
if_words = spaced 105 (codes "f") 32 ∷ spaced 123 [] 32 ∷ spaced 116 (codes "rue") 32 ∷ spaced 125 [] 10 ∷ []

abbrev pub last_words : List Spaced
last_words = spaced 101 (codes "cho") 32 ∷ spaced 101 (codes "nd") 10 ∷ []

-- ---- each of them

-- the bytes of a decimal number are digits
pub decimal-digits : (n : ℕ) → n < 2 ^ 64 → are_digits (decimal n) ≡ true
decimal-digits n small = by (decimal n) (number_of-decimal n small)
  where
    digits : (b : Bool) (m : ℕ) → (if b then within_limit m else None) ≡ Some n → b ≡ true
    digits true m e = refl
    digits false m e = absurd (cc)

    by : (ds : List ℕ) → number_of ds ≡ Some n → are_digits ds ≡ true
    by [] is = absurd (cc)
    by (d ∷ ds) is = digits (are_digits (d ∷ ds)) (decimal_value 0 (d ∷ ds)) is

define-text : (i : ℕ) → define_line i ≡ spaced_text (define_words i)
unfolding define_line
define-text i = simp append_assoc refl

foreground-text : (i : ℕ) → foreground_line i ≡ spaced_text (foreground_words i)
unfolding foreground_line
foreground-text i = simp append_assoc refl

pipeline-text : pipeline_line ≡ spaced_text pipeline_words
unfolding pipeline_line
pipeline-text = refl

if-text : if_line ≡ spaced_text if_words
unfolding if_line
if-text = refl

last-text : last_line ≡ spaced_text last_words
unfolding last_line
last-text = refl

-- ---- all lines

-- one of four things, by the line
abbrev pub of_four : {A : Type 0} (i : ℕ) → (first second third fourth : A) → A
of_four i first second third fourth = if i % 4 == 1 then first else (if i % 4 == 2 then second else (if i % 4 == 3 then third else fourth))

abbrev pub line_words : (i : ℕ) → List Spaced
line_words i = of_four i (define_words i) (foreground_words i) pipeline_words if_words

-- so many lines from this one on, and the last one
abbrev pub words_from : (i n : ℕ) → List Spaced
words_from i zero = last_words
words_from i (suc n) = line_words i ++ words_from (i + 1) n

-- what holds of the four holds of each line
pub each-of-four : {A : Type 0} (P : A → Type 0) (i : ℕ) (first second third fourth : A) → P first → P second → P third → P fourth → P (of_four i first second third fourth)
each-of-four P i first second third fourth p q r s = by (i % 4 == 1) (i % 4 == 2) (i % 4 == 3)
  where
    by : (one two three : Bool) → P (if one then first else (if two then second else (if three then third else fourth)))
    by true two three = p
    by false true three = q
    by false false true = r
    by false false false = s

of-four-ap : {A B : Type 0} (f : A → B) (i : ℕ) (first second third fourth : A) → f (of_four i first second third fourth) ≡ of_four i (f first) (f second) (f third) (f fourth)
of-four-ap f i first second third fourth = by (i % 4 == 1) (i % 4 == 2) (i % 4 == 3)
  where
    by : (one two three : Bool) → f (if one then first else (if two then second else (if three then third else fourth))) ≡ (if one then f first else (if two then f second else (if three then f third else f fourth)))
    by true two three = refl
    by false true three = refl
    by false false true = refl
    by false false false = refl

line-text : (i : ℕ) → sample_line i ≡ spaced_text (line_words i)
line-text i =
    (λ j. of_four i (define-text i j) (foreground-text i j) (pipeline-text j) (if-text j))
    ∙ sym (of-four-ap spaced_text i (define_words i) (foreground_words i) pipeline_words if_words)

texts-append : (first second : List Spaced) → spaced_text (first ++ second) ≡ spaced_text first ++ spaced_text second
texts-append [] second = refl
texts-append (one ∷ first) second =
    ap (λ bytes. one.first ∷ (one.others ++ (one.blank ∷ bytes))) (texts-append first second)
    ∙ sym (ap (λ bytes. one.first ∷ bytes) (append_assoc one.others (one.blank ∷ spaced_text first) (spaced_text second)))

lines-text : (i n : ℕ) → flat_map sample_line (range_with_len i n) ++ last_line ≡ spaced_text (words_from i n)
lines-text i zero = last-text
lines-text i (suc n) =
    append_assoc (sample_line i) (flat_map sample_line (range_with_len (i + 1) n)) last_line
    ∙ ap (λ bytes. sample_line i ++ bytes) (lines-text (i + 1) n)
    ∙ ap (λ bytes. bytes ++ spaced_text (words_from (i + 1) n)) (line-text i)
    ∙ sym (texts-append (line_words i) (words_from (i + 1) n))

pub sample-text : (n : ℕ) → sample n ≡ spaced_text (words_from 1 n)
unfolding sample
sample-text n = lines-text 1 n

-- ---- they are good words

digit-plain : (byte : ℕ) → is_digit byte ≡ true → fits_piece (Plain byte) ≡ true
digit-plain byte is = grind (arith, is)

digits-plain : (bytes : List ℕ) → are_digits bytes ≡ true → are_plain bytes ≡ true
digits-plain [] are = refl
digits-plain (byte ∷ bytes) are = let both = and_parts (is_digit byte) (are_digits bytes) are in and_from _ _ (digit-plain byte both.0) (digits-plain bytes both.1)

decimal-plain : (n : ℕ) → n < 2 ^ 64 → are_plain (decimal n) ≡ true
decimal-plain n small = digits-plain (decimal n) (decimal-digits n small)

define-good : (i : ℕ) → i < 2 ^ 64 → AreGood (define_words i)
define-good i small = good refl refl refl refl (good refl (decimal-plain i small) refl refl (good refl (decimal-plain i small) refl refl none_good))

foreground-good : (i : ℕ) → i < 2 ^ 64 → AreGood (foreground_words i)
foreground-good i small =
    good refl refl refl refl (good refl refl refl refl (good refl refl refl refl (good refl refl refl refl
    (good refl (decimal-plain (i - 1) (omega (arith, small))) refl refl (good refl refl refl refl none_good)))))

pipeline-good : AreGood pipeline_words
pipeline-good = good refl refl refl refl (good refl refl refl refl (good refl refl refl refl (good refl refl refl refl (good refl refl refl refl none_good))))

if-good : AreGood if_words
if-good = good refl refl refl refl (good refl refl refl refl (good refl refl refl refl (good refl refl refl refl none_good)))

last-good : AreGood last_words
last-good = good refl refl refl refl (good refl refl refl refl none_good)

good-append : {first second : List Spaced} → AreGood first → AreGood second → AreGood (first ++ second)
good-append none_good other = other
good-append (good plain are word gap rest) other = good plain are word gap (good-append rest other)

words-good : (i n : ℕ) → i + n < 2 ^ 64 → AreGood (words_from i n)
words-good i zero small = last-good
words-good i (suc n) small =
    good-append
    (each-of-four AreGood i (define_words i) (foreground_words i) pipeline_words if_words (define-good i (omega (arith, small))) (foreground-good i (omega (arith, small))) pipeline-good if-good)
    (words-good (i + 1) n (omega (arith, small)))

-- ---- they aren't too long

define-length : (i : ℕ) → i < 10000 → length (spaced_text (define_words i)) ≤ 32
define-length i few =
    let digits = length-decimal-le 4 i (omega arith) (omega (arith, few)) (omega (arith, few)) in
    let first = length-append (decimal i) (32 ∷ 120 ∷ (decimal i ++ (10 ∷ []))) in
    let second = length-append (decimal i) (10 ∷ []) in
    omega (arith, digits, first, second)

foreground-length : (i : ℕ) → i < 10000 → length (spaced_text (foreground_words i)) ≤ 32
foreground-length i few =
    let digits = length-decimal-le 4 (i - 1) (omega arith) (omega (arith, few)) (omega (arith, few)) in
    let all = length-append (decimal (i - 1)) (32 ∷ 125 ∷ 10 ∷ []) in
    omega (arith, digits, all)

words-short : (i n : ℕ) → i + n ≤ 10000 → length (spaced_text (words_from i n)) ≤ 32 * n + 32
words-short i zero few = omega arith
words-short i (suc n) few =
    let line : length (spaced_text (line_words i)) ≤ 32 =
    each-of-four (λ words. length (spaced_text words) ≤ 32) i (define_words i) (foreground_words i) pipeline_words if_words (define-length i (omega (arith, few))) (foreground-length i (omega (arith, few))) (omega arith) (omega arith) in
    let rest = words-short (i + 1) n (omega (arith, few)) in
    let all = ap length (texts-append (line_words i) (words_from (i + 1) n)) ∙ length-append (spaced_text (line_words i)) (spaced_text (words_from (i + 1) n)) in
    omega (arith, line, rest, all)

pub sample-lexes : (n : ℕ) → n ≤ 4000 → Lexes (sample n) (spaced-tokens (words_from 1 n))
sample-lexes n few = record {
  short = let all = ap length (sample-text n) in let short = words-short 1 n (omega (arith, few)) in omega (arith, all, short, few);
  reads = subst (λ text. Reads text (spaced-tokens (words_from 1 n))) (sym (sample-text n)) (spaced-reads (words_from 1 n) (words-good 1 n (omega (arith, few))));
}
