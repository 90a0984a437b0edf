-- What a program reads at the front of its words, behind its name.
use Rattle.std.specs.Prelude.{ℕ, zero, suc, ◌+◌, Bool, true, false, not, List, [], ◌∷◌, take, drop, map, length, count_by, Option, Some, None, if◌then◌else◌}
use Rattle.el_words.specs.declared.prog.Prog.{Prog}
use Rattle.el_words.specs.declared.prog.Prog.TheVariants.{Define, Importas, Multidefine, Elgetpositionals}
use Rattle.el_words.specs.Number.{are_digits}
use Rattle.el_words.specs.Prog.{program_named}
use Rattle.el_blocks.specs.Block.{block_length, is_quoted, unquoted}
use Rattle.el_options.specs.declared.table.Opt.{Opt}
use Rattle.el_options.specs.declared.place.PlaceKind.{PlaceKind}
use Rattle.el_options.specs.declared.place.PlaceKind.TheVariants.{Name, Fixed, ProgramBlock, ValueBlock, NameBlock, DirectiveBlock, OptionalNumber, OptionalWord}
use Rattle.el_options.specs.declared.strictness.Strictness.{Strictness}
use Rattle.el_options.specs.declared.strictness.Strictness.TheVariants.{Lenient, Warning, Refusing}
use Rattle.el_options.specs.Reading.{Letter, Reading, Unknown, NoValue, LettersRead, read_from}
use Rattle.el_options.specs.Shapes.{Shape, shape_of, is_usage_fault, is_number_fault}

-- ---- what is read, and what may be lacking

-- the first thing lacking: a known letter, a letter's value, a right use of the letters, a number, a word for a place, the
-- end of a block, a leading space in it, or a directive's name
pub data Lack : Type 0 where
  KnownLetter LetterValue : (letter : ℕ) → Lack
  RightUse GoodNumber Present Terminated Quoted DirectiveName : Lack

-- something at the front of words: how many words were warned of, and then what is lacking, or what was read
pub data Front (A : Type 0) : Type 0 where
  Lacking : (warned : ℕ) → Lack → Front A
  Whole : (warned : ℕ) → A → Front A

-- a directive: its program, its letters, the words of its places, and its names
pub record Directive : Type 0 where
  pub program : Prog
  pub letters : List Letter
  pub texts : List (List ℕ)
  pub names : List (List ℕ)

-- what stands at a place: one word; the words of a program block; those of a block of values or names; directives
pub data Operand : Type 0 where
  Text : List ℕ → Operand
  Program Listed : List (List ℕ) → Operand
  Directed : List Directive → Operand

-- what a program has read: its letters, its operands, and the words that remain
pub record Taken : Type 0 where
  pub letters : List Letter
  pub operands : List Operand
  pub rest : List (List ℕ)

-- ---- one after the other

-- so many warnings before
abbrev pub after_warnings : {A : Type 0} → ℕ → Front A → Front A
after_warnings count (Lacking warned lack) = Lacking (count + warned) lack
after_warnings count (Whole warned read) = Whole (count + warned) read

-- something of what was read
abbrev pub front_map : {A B : Type 0} → (A → B) → Front A → Front B
front_map part (Lacking warned lack) = Lacking warned lack
front_map part (Whole warned read) = Whole warned (part read)

-- first this is read, and behind it the next; what lacks first is the answer
abbrev pub and_read : {A B : Type 0} → Front A → (next : A → Front B) → Front B
and_read (Lacking warned lack) next = Lacking warned lack
and_read (Whole warned read) next = after_warnings warned (next read)

-- ---- blocks

-- the words of a block, and those behind it
pub record Cut : Type 0 where
  pub block : List (List ℕ)
  pub rest : List (List ℕ)

-- no block ends here: no word is left, or none is empty
abbrev pub no_block : List (List ℕ) → Front Cut
no_block [] = Lacking 0 Present
no_block (word ∷ words) = Lacking 0 Terminated

-- how many words have no leading space
abbrev pub loose_count : List (List ℕ) → ℕ
loose_count words = count_by (λ word. not (is_quoted word)) words

-- what is read where so many words of a block have no leading space
abbrev pub with_loose : {A : Type 0} → Strictness → (loose : ℕ) → A → Front A
with_loose Lenient loose read = Whole 0 read
with_loose Warning loose read = Whole loose read
with_loose Refusing zero read = Whole 0 read
with_loose Refusing (suc loose) read = Lacking 0 Quoted

-- a block that ends before the word with this number, each of its words without its leading space
abbrev pub block_by : Strictness → List (List ℕ) → (end : Option ℕ) → Front Cut
block_by strict words None = no_block words
block_by strict words (Some end) = with_loose strict (loose_count (take end words)) (record { block = map unquoted (take end words); rest = drop (suc end) words })

-- a block, and the words behind it
abbrev pub block_front : Strictness → List (List ℕ) → Front Cut
block_front strict words = block_by strict words (block_length words)

-- ---- places

-- what stands at a place, where anything does, and the words behind it
pub record Placed : Type 0 where
  pub operand : Option Operand
  pub rest : List (List ℕ)

-- this stands at the place, before these words
abbrev pub placed : Operand → (rest : List (List ℕ)) → Placed
placed operand rest = record { operand = Some operand; rest = rest }

-- where a word may be missing
abbrev pub none_placed : (rest : List (List ℕ)) → Placed
none_placed rest = record { operand = None; rest = rest }

-- a word that must be there
abbrev pub word_front : List (List ℕ) → Front Placed
word_front [] = Lacking 0 Present
word_front (word ∷ words) = Whole 0 (placed (Text word) words)

-- a word that is there where it passes the test
abbrev pub optional_front : (test : List ℕ → Bool) → List (List ℕ) → Front Placed
optional_front test [] = Whole 0 (none_placed [])
optional_front test (word ∷ words) = Whole 0 (if test word then placed (Text word) words else none_placed (word ∷ words))

-- one digit or more, and nothing else
abbrev pub is_number_text : List ℕ → Bool
is_number_text [] = false
is_number_text (byte ∷ bytes) = are_digits (byte ∷ bytes)

-- one place, where directives are read so
abbrev pub place_front : (direct : List (List ℕ) → Front (List Directive)) → Strictness → PlaceKind → List (List ℕ) → Front Placed
place_front direct strict Name words = word_front words
place_front direct strict Fixed words = word_front words
place_front direct strict OptionalNumber words = optional_front is_number_text words
place_front direct strict OptionalWord words = optional_front (λ word. true) words
place_front direct strict ProgramBlock words = front_map (λ cut. placed (Program cut.block) cut.rest) (block_front strict words)
place_front direct strict ValueBlock words = front_map (λ cut. placed (Listed cut.block) cut.rest) (block_front strict words)
place_front direct strict NameBlock words = front_map (λ cut. placed (Listed cut.block) cut.rest) (block_front strict words)
place_front direct strict DirectiveBlock words = and_read (block_front strict words) (λ cut. front_map (λ directives. placed (Directed directives) cut.rest) (direct cut.block))

-- one more operand in front, where anything stands at the place
abbrev pub with_operand : Option Operand → Taken → Taken
with_operand None taken = taken
with_operand (Some operand) taken = record taken { operands = operand ∷ taken.operands }

-- nothing is read, and all words remain
abbrev pub nothing_taken : (rest : List (List ℕ)) → Taken
nothing_taken rest = record { letters = []; operands = []; rest = rest }

-- all places, one after the other
abbrev pub places_front : (direct : List (List ℕ) → Front (List Directive)) → Strictness → List PlaceKind → List (List ℕ) → Front Taken
places_front direct strict [] words = Whole 0 (nothing_taken words)
places_front direct strict (kind ∷ kinds) words = and_read (place_front direct strict kind words) (λ here. front_map (with_operand here.operand) (places_front direct strict kinds here.rest))

-- ---- options and places

-- how a program's words are read as options; one that reads none has no letters
abbrev pub options_of : Option (List Opt) → List (List ℕ) → Reading
options_of None words = LettersRead [] 1 words true
options_of (Some opts) words = read_from opts 1 None words

-- what was read at the places, with these letters
abbrev pub with_letters : List Letter → Taken → Taken
with_letters letters taken = record taken { letters = letters }

-- behind the options come, in this order, a wrong use of the letters in force, the numbers among them, and the places
abbrev pub behind_letters : (usage number : Bool) → List Letter → (places : Front Taken) → Front Taken
behind_letters true number letters places = Lacking 0 RightUse
behind_letters false true letters places = Lacking 0 GoodNumber
behind_letters false false letters places = front_map (with_letters letters) places

-- a bad letter comes before all else; otherwise the places stand behind the letters that were read
abbrev pub front_by : Shape → Reading → (places : List (List ℕ) → Front Taken) → Front Taken
front_by shape (Unknown letter) places = Lacking 0 (KnownLetter letter)
front_by shape (NoValue letter) places = Lacking 0 (LetterValue letter)
front_by shape (LettersRead letters used rest ended) places = behind_letters (is_usage_fault shape letters) (is_number_fault shape letters) letters (places rest)

-- the front of a program of this shape, where directives are read so
abbrev pub front_with : (direct : List (List ℕ) → Front (List Directive)) → Strictness → Shape → List (List ℕ) → Front Taken
front_with direct strict shape words = front_by shape (options_of shape.letters words) (places_front direct strict shape.places)

-- ---- directives

-- the words of single places
abbrev pub texts_of : List Operand → List (List ℕ)
texts_of [] = []
texts_of (Text word ∷ operands) = word ∷ texts_of operands
texts_of (operand ∷ operands) = texts_of operands

-- the words of the first block of values or names; none where there is no such block
abbrev pub names_of : List Operand → List (List ℕ)
names_of [] = []
names_of (Listed words ∷ operands) = words
names_of (operand ∷ operands) = names_of operands

-- the programs that may be directives
abbrev pub is_directive : Prog → Bool
is_directive Define = true
is_directive Importas = true
is_directive Multidefine = true
is_directive Elgetpositionals = true
is_directive _ = false

-- a directive of this program, by what was read at its front
abbrev pub directive_of : Prog → Taken → Directive
directive_of program taken = record { program = program; letters = taken.letters; texts = texts_of taken.operands; names = names_of taken.operands }

-- no directives stand within directives
abbrev pub no_directives : List (List ℕ) → Front (List Directive)
no_directives words = Whole 0 []

-- the front of one directive, by the program that its first word names, and those behind it
abbrev pub directive_front : Strictness → Option Prog → List (List ℕ) → (next : List (List ℕ) → Front (List Directive)) → Front (List Directive)
directive_front strict None words next = Lacking 0 DirectiveName
directive_front strict (Some program) words next =
    if is_directive program
    then and_read (front_with no_directives strict (shape_of program) words) (λ taken. front_map (λ directives. directive_of program taken ∷ directives) (next taken.rest))
    else Lacking 0 DirectiveName

-- the directives of a block's words, of which each takes one word at least
abbrev pub directives_within : (most : ℕ) → Strictness → List (List ℕ) → Front (List Directive)
directives_within most strict [] = Whole 0 []
directives_within zero strict (word ∷ words) = Whole 0 []
directives_within (suc most) strict (word ∷ words) = directive_front strict (program_named word) words (directives_within most strict)

-- all directives of a block's words
abbrev pub directives_front : Strictness → List (List ℕ) → Front (List Directive)
directives_front strict words = directives_within (length words) strict words

-- the front of a program, from the words behind its name
unfoldable pub front_of : Strictness → Prog → List (List ℕ) → Front Taken
front_of strict program words = front_with (directives_front strict) strict (shape_of program) words
