-- Marks: which keys the substitutions in force may have, and with how many words.
use Rattle.std.specs.Prelude.{◌≡◌, ℕ, ◌%◌, Bool, true, false, ◌&&◌, ◌||◌, not, ◌==◌, List, [], ◌∷◌, ◌++◌, map, is_some, Some, codes, slice_index_or, if◌then◌else◌}
use Rattle.std.specs.List.{list_any}
use Rattle.std.specs.Char.{is_ascii_digit}
use Rattle.std.specs.Str.{bytes_eq}
use Rattle.el_words.specs.declared.prog.Prog.{Prog}
use Rattle.el_words.specs.declared.prog.Prog.TheVariants.{Define, Importas, Import, Multidefine, Multisubstitute, Elgetpositionals, Forx, Forstdin, Forbacktickx, Backtick}
use Rattle.el_words.specs.Number.{are_digits}
use Rattle.el_subst.specs.Parts.{Part, Byte, Reference}
use Rattle.el_subst.specs.Values.{Pairs, words_of}
use Rattle.el_subst.specs.Scopes.{Scope}
use Rattle.el_options.specs.Reading.{Letter}
use Rattle.el_options.specs.Rules.{in_force}
use Rattle.el_options.specs.Shapes.{shape_of, RestKind, Chain, Child, Ignored}
pub use Rattle.el_tree.specs.declared.mark.Mark.{Mark}
pub use Rattle.el_tree.specs.declared.mark.Mark.TheVariants.{One, Many}
use Rattle.el_tree.specs.Trees.{Places, unplaced, one_place, text_place, names_place, directives_place, Directives, undirected, directed}
use Rattle.el_tree.specs.OptionWords.{letters_of}

-- any number of words, and not exactly one
abbrev pub is_many : Mark → Bool
is_many One = false
is_many Many = true

-- a key with its mark
abbrev pub Marked : Type 0
Marked = List ℕ × Mark

-- what one substitution marks: these keys, and those of the positionals where it has them
pub record Member : Type 0 where
  pub marked : List Marked
  pub positional : Bool

-- nothing is marked
abbrev pub empty_member : Member
empty_member = record { marked = []; positional = false }

-- the keys of the positionals alone are marked
abbrev pub positional_member : Member
positional_member = record { marked = []; positional = true }

-- ---- the marks of a key

-- a decimal number without leading zeros (48)
abbrev pub is_plain_number : List ℕ → Bool
is_plain_number [] = false
is_plain_number (digit ∷ []) = is_ascii_digit digit
is_plain_number (digit ∷ next ∷ digits) = not (digit == 48) && are_digits (digit ∷ next ∷ digits)

-- `@`, the key of all positionals, which is marked Many
abbrev pub is_all : (key : List ℕ) → Bool
is_all key = bytes_eq key (codes "@")

-- a key of the positionals: `@`, or `#` or a plain number, which are marked One
abbrev pub is_positional : (key : List ℕ) → Bool
is_positional key = is_all key || (bytes_eq key (codes "#") || is_plain_number key)

-- the key is marked
abbrev pub marks : Member → (key : List ℕ) → Bool
marks member key = list_any (λ (pair : Marked). bytes_eq pair.0 key) member.marked || (member.positional && is_positional key)

-- the key is marked Many, which counts before One
abbrev pub marks_many : Member → (key : List ℕ) → Bool
marks_many member key = list_any (λ (pair : Marked). bytes_eq pair.0 key && is_many pair.1) member.marked || (member.positional && is_all key)

-- some key is marked Many
abbrev pub has_many : Member → Bool
has_many member = list_any (λ (pair : Marked). is_many pair.1) member.marked || member.positional

-- ---- meeting marks

-- there is exactly one word
pub record IsSingle (words : List (List ℕ)) : Type 0 where
  pub word : List ℕ
  pub is : words ≡ word ∷ []

-- each key is marked, and one that isn't marked Many has one word
pub record Meets (pairs : Pairs) (member : Member) : Type 0 where
  pub are_marked : (key : List ℕ) (values : List (List ℕ)) → words_of pairs key ≡ Some values → marks member key ≡ true
  pub are_single : (key : List ℕ) (values : List (List ℕ)) → words_of pairs key ≡ Some values → marks_many member key ≡ false → IsSingle values

-- a scope meets a list of members of the same length, place by place
abbrev pub MeetsAll : Scope → List Member → Type 0
MeetsAll [] [] = Unit {0}
MeetsAll (pairs ∷ scope) (member ∷ members) = Meets pairs member × MeetsAll scope members
MeetsAll [] (member ∷ members) = ⊥
MeetsAll (pairs ∷ scope) [] = ⊥

-- ---- the test of a fixed place

-- a reference in whose place words are put, with a key that is marked Many
abbrev pub puts_many : Member → Part → Bool
puts_many member (Byte byte) = false
puts_many member (Reference slashes key text) = not (slashes % 2 == 1) && marks_many member key

-- a reference with a marked key
abbrev pub touches : Member → Part → Bool
touches member (Byte byte) = false
touches member (Reference slashes key text) = marks member key

-- A word keeps one word, from the outermost member on. While no member touched it, none puts many words into it; behind one
-- that did, none marks any key Many.
abbrev pub keeps_one : (touched : Bool) → List Member → (parts : List Part) → Bool
keeps_one touched [] parts = true
keeps_one true (member ∷ members) parts = not (has_many member) && keeps_one true members parts
keeps_one false (member ∷ members) parts = not (list_any (puts_many member) parts) && keeps_one (list_any (touches member) parts) members parts

-- ---- the marks that a program adds, by the tree's own words

-- a letter is in force among those read
abbrev pub has_letter : Prog → (letter : List ℕ) → List Letter → Bool
has_letter program letter letters = is_some (in_force (shape_of program).groups (slice_index_or letter 0 0) letters)

-- Many with `-s`, else One
abbrev pub define_mark : List Letter → Mark
define_mark letters = if has_letter Define (codes "s") letters then Many else One

-- One where `-i` or `-D` is in force and `-s` isn't, else Many
abbrev pub importas_mark : List Letter → Mark
importas_mark letters =
    if has_letter Importas (codes "s") letters then Many
    else (if has_letter Importas (codes "i") letters || has_letter Importas (codes "D") letters then One else Many)

-- the word at the first place; empty where no word stands there
abbrev pub first_text : Places → List ℕ
first_text (one_place (text_place text) places) = text
first_text _ = []

-- the names of the first block of names; none where there is no such block
abbrev pub names_in : Places → List (List ℕ)
names_in unplaced = []
names_in (one_place (names_place names) places) = names
names_in (one_place _ places) = names_in places

-- where values are put in, the word is marked One
abbrev pub value_marks : (puts : Bool) → (key : List ℕ) → List Marked
value_marks puts key = if puts then (key, One) ∷ [] else []

-- under `E` a loop or backtick marks its word
abbrev pub value_marked : Prog → List Letter → Places → List Marked
value_marked program letters places = value_marks (has_letter program (codes "E") letters) (first_text places)

-- the keys of one directive, or of a program that is one by itself
abbrev pub marked_by : Prog → List Letter → Places → List Marked
marked_by Define letters places = (first_text places, define_mark letters) ∷ []
marked_by Importas letters places = (first_text places, importas_mark letters) ∷ []
marked_by Import letters places = (first_text places, importas_mark letters) ∷ []
marked_by Forx letters places = value_marked Forx letters places
marked_by Forstdin letters places = value_marked Forstdin letters places
marked_by Forbacktickx letters places = value_marked Forbacktickx letters places
marked_by Backtick letters places = value_marked Backtick letters places
marked_by Multidefine letters places = map (λ name. (name, Many)) (names_in places)
marked_by _ letters places = []

-- the program marks the keys of the positionals
abbrev pub reads_positionals : Prog → Bool
reads_positionals Elgetpositionals = true
reads_positionals _ = false

-- what one directive marks, or a program that is one by itself
abbrev pub own_member : Prog → List Letter → Places → Member
own_member program letters places = record { marked = marked_by program letters places; positional = reads_positionals program }

-- what two members mark together
abbrev pub both_members : Member → Member → Member
both_members one other = record { marked = one.marked ++ other.marked; positional = one.positional || other.positional }

-- what all directives of a block mark together
abbrev pub directives_member : Directives → Member
directives_member undirected = empty_member
directives_member (directed program options places directives) = both_members (own_member program (letters_of program options) places) (directives_member directives)

-- what the directives at the first place mark; nothing where no block of directives stands there
abbrev pub block_member : Places → Member
block_member (one_place (directives_place directives) places) = directives_member directives
block_member _ = empty_member

-- a program that puts in no values marks nothing
abbrev pub member_of : Prog → List Letter → Places → Member
member_of Multisubstitute letters places = block_member places
member_of program letters places = own_member program letters places

-- the rest of a loop over values is a child that has its words with the value put in
abbrev pub puts_in_child : Prog → List Letter → Bool
puts_in_child Forx letters = has_letter Forx (codes "E") letters
puts_in_child Forstdin letters = has_letter Forstdin (codes "E") letters
puts_in_child Forbacktickx letters = has_letter Forbacktickx (codes "E") letters
puts_in_child _ letters = false

-- values are put in the rest: the process goes on with it, or it is a child with the loop's value put in
abbrev pub reaches_rest : RestKind → (in_child : Bool) → Bool
reaches_rest Chain in_child = true
reaches_rest Child in_child = in_child
reaches_rest Ignored in_child = false

-- the program's member is in force for its rest
abbrev pub adds_member : Prog → List Letter → Bool
adds_member program letters = reaches_rest (shape_of program).rest (puts_in_child program letters)

-- The members in force for a program's rest: there is one more where the process goes on with it, and where the turns of a loop have
-- their values put in; otherwise there are those of the program.
abbrev pub members_behind : (adds : Bool) → List Member → Member → List Member
members_behind true members member = members ++ member ∷ []
members_behind false members member = members
