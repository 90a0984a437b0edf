-- A sample is accepted with its tree.
use Rattle.el_script.proofs.Vocabulary.{decimal, list_any, and_parts, map-append, Prog, Define, Foreground, Pipeline, If, nothing, word, are_digits, name_text, program_named, Text, levels, LettersRead, shape_of, lacks_letter, options_of, Tree, Command, Node, unplaced, one_place, text_place, block_place, written, tokens_of, is_literal, HasOptions, IsFormed, HasCommands, Member, KeepsWords}
use Rattle.std.proofs.Common.{◌≡◌, ℕ, zero, suc, ◌+◌, ◌-◌, ◌^◌, ◌<◌, ◌≤◌, ◌%◌, ◌==◌, Bool, true, false, not, if◌then◌else◌, List, [], ◌∷◌, ◌++◌, refl, sym, ap, ◌∙◌, codes, arith}
use Rattle.el_check.specs.declared.params.Params.TheVariants.{Leave}
use Rattle.el_check.proofs.Computed.{tree-is-computed}
use Rattle.el_app.specs.Sample.{sample}
use Rattle.el_app.specs.Elcheck.{run_told, sampled}
use Rattle.el_app.specs.SampleTrees.{line_tree, lines_tree, SamplesAreAccepted, SamplesAreRun}
use Rattle.el_tree.proofs.References.{literal-keeps}
use Rattle.el_app.proofs.SampleWords.{Spaced, word_shape, spaced_shapes, spaced-tokens, spaced-shapes}
use Rattle.el_app.proofs.SampleTexts.{each-of-four, define_words, foreground_words, pipeline_words, if_words, line_words, words_from, decimal-digits, sample-lexes}

-- ---- the four programs

module _ (i : ℕ) (rest : Tree) where
  abbrev pub define_tree : Tree
  define_tree = Node Define [] (one_place (text_place (codes "V" ++ decimal i)) (one_place (text_place (codes "x" ++ decimal i)) unplaced)) rest

  abbrev pub foreground_tree : Tree
  foreground_tree = Node Foreground [] (one_place (block_place (Command (word (codes "echo") (word (codes "a") (word (codes "$V" ++ decimal (i - 1)) nothing))))) unplaced) rest

  abbrev pub pipeline_tree : Tree
  pipeline_tree = Node Pipeline [] (one_place (block_place (Command (word (codes "echo") (word (codes "p") nothing)))) unplaced) rest

  abbrev pub if_tree : Tree
  if_tree = Node If [] (one_place (block_place (Command (word (codes "true") nothing))) unplaced) rest

-- what holds of each of the four before a rest holds of a line before it
line-by : (P : Tree → Type 0) (i : ℕ) (rest : Tree) → P (define_tree i rest) → P (foreground_tree i rest) → P (pipeline_tree i rest) → P (if_tree i rest) → P (line_tree i rest)
line-by P i rest = each-of-four P i (define_tree i rest) (foreground_tree i rest) (pipeline_tree i rest) (if_tree i rest)

-- ---- words of letters and digits

no-dollar : (bytes : List ℕ) → are_digits bytes ≡ true → list_any (λ byte. byte == 36) bytes ≡ false
no-dollar [] are = refl
no-dollar (byte ∷ bytes) are =
    let both = and_parts _ (are_digits bytes) are in
    let first : (byte == 36) ≡ false = grind (arith, both.0) in
    rw first (no-dollar bytes both.1)

pub numbered-literal : (letter i : ℕ) → (letter == 36) ≡ false → i < 2 ^ 64 → is_literal (letter ∷ decimal i) ≡ true
numbered-literal letter i other small =
    let none : list_any (λ byte. byte == 36) (letter ∷ decimal i) ≡ false = rw other (no-dollar (decimal i) (decimal-digits i small)) in
    ap not none

-- ---- the tree is well formed

-- none of them has options
no-letters : (ended : Bool) (program : Prog) → options_of (shape_of program).letters [] ≡ LettersRead [] 1 [] ended → lacks_letter (shape_of program) [] ≡ false → HasOptions program []
no-letters ended program are enough = record { letters = []; used = 1; ended = ended; are_read = are; literal = refl; in_rule = refl; enough = enough }

line-formed : (i : ℕ) (rest : Tree) → i < 2 ^ 64 → IsFormed rest → IsFormed (line_tree i rest)
unfolding shape_of no-letters
line-formed i rest small formed =
    let v = numbered-literal 86 i refl small in
    line-by IsFormed i rest
    (no-letters false Define refl refl, (refl, v), (v, tt), tt, formed)
    (no-letters true Foreground refl refl, tt, (tt, tt), tt, formed)
    (no-letters false Pipeline refl refl, tt, (tt, tt), tt, formed)
    (no-letters false If refl refl, tt, (tt, tt), tt, formed)

lines-formed : (i n : ℕ) → i + n < 2 ^ 64 → IsFormed (lines_tree i n)
lines-formed i zero small = tt
lines-formed i (suc n) small = line-formed i (lines_tree (i + 1) n) (omega (arith, small)) (lines-formed (i + 1) n (omega (arith, small)))

lines-commands : (i n : ℕ) → HasCommands (lines_tree i n)
unfolding program_named name_text
lines-commands i zero = refl
lines-commands i (suc n) =
    let rest = lines-commands (i + 1) n in
    line-by HasCommands i (lines_tree (i + 1) n) (tt, rest) ((refl, tt), rest) ((refl, tt), rest) ((refl, tt), rest)

-- ---- each word at a place keeps one word

lines-keep : (i n : ℕ) (members : List Member) → i + n < 2 ^ 64 → KeepsWords (lines_tree i n) members
lines-keep i zero members small = tt
lines-keep i (suc n) members small =
    let within : i < 2 ^ 64 = omega (arith, small) in
    let next : i + 1 + n < 2 ^ 64 = omega (arith, small) in
    line-by (λ tree. KeepsWords tree members) i (lines_tree (i + 1) n)
    ((literal-keeps members (86 ∷ decimal i) (numbered-literal 86 i refl within), (literal-keeps members (120 ∷ decimal i) (numbered-literal 120 i refl within), tt)), lines-keep (i + 1) n _ next)
    ((tt, tt), lines-keep (i + 1) n _ next)
    ((tt, tt), lines-keep (i + 1) n _ next)
    ((tt, tt), lines-keep (i + 1) n _ next)

-- ---- its tokens

-- a word whose first byte is a letter
letter-shape : (first : ℕ) (others : List ℕ) → (first == 123) ≡ false → (first == 125) ≡ false → word_shape first others ≡ Text (first ∷ others)
letter-shape first [] opens closes = rw (opens, closes) refl
letter-shape first (byte ∷ others) opens closes = refl

line-shapes : (i : ℕ) (rest : Tree) → tokens_of (line_tree i rest) ≡ spaced_shapes (line_words i) ++ tokens_of rest
unfolding name_text
line-shapes i rest = by (i % 4 == 1) (i % 4 == 2) (i % 4 == 3)
  where
    by : (one two three : Bool) → tokens_of (if one then define_tree i rest else (if two then foreground_tree i rest else (if three then pipeline_tree i rest else if_tree i rest)))
        ≡ spaced_shapes (if one then define_words i else (if two then foreground_words i else (if three then pipeline_words else if_words))) ++ tokens_of rest
    by true two three = λ j. Text (codes "define") ∷ sym (letter-shape 86 (decimal i) refl refl) j ∷ sym (letter-shape 120 (decimal i) refl refl) j ∷ tokens_of rest
    by false true three = refl
    by false false true = refl
    by false false false = refl

lines-shapes : (i n : ℕ) → tokens_of (lines_tree i n) ≡ spaced_shapes (words_from i n)
lines-shapes i zero = refl
lines-shapes i (suc n) =
    line-shapes i (lines_tree (i + 1) n)
    ∙ ap (λ shapes. spaced_shapes (line_words i) ++ shapes) (lines-shapes (i + 1) n)
    ∙ sym (map-append (λ (one : Spaced). word_shape one.first one.others) (line_words i) (words_from (i + 1) n))

lines-levels : (i n : ℕ) → levels (written (lines_tree i n)) ≤ 1
lines-levels i zero = omega arith
lines-levels i (suc n) =
    let rest = lines-levels (i + 1) n in
    line-by (λ tree. levels (written tree) ≤ 1) i (lines_tree (i + 1) n) rest (omega (arith, rest)) (omega (arith, rest)) (omega (arith, rest))

pub samples-are-accepted : SamplesAreAccepted
samples-are-accepted n few = record {
  tokens = spaced-tokens (words_from 1 n);
  lexes = sample-lexes n few;
  are_tokens = lines-shapes 1 n ∙ sym (spaced-shapes (words_from 1 n));
  within = let one = lines-levels 1 n in omega (arith, one);
  accepted = record {
    well_formed = record { formed = lines-formed 1 n (omega (arith, few)); commands = lines-commands 1 n };
    keeps = lines-keep 1 n [] (omega (arith, few));
  };
}

pub samples-are-run : SamplesAreRun
unfolding sampled run_told
samples-are-run lines state few = ap (run_told state (sample lines)) ((tree-is-computed Leave (sample lines) (lines_tree 1 lines)).0 (samples-are-accepted lines few))
