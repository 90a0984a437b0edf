-- The letters in force, and the rules on the values of letters.
use Rattle.std.specs.Prelude.{ℕ, Bool, true, false, ◌||◌, not, ◌==◌, nat_le, List, [], ◌∷◌, reverse, find, Option, Some, None, if◌then◌else◌}
use Rattle.std.specs.List.{list_any, list_all, slice_split}
use Rattle.el_words.specs.Number.{number_of}
use Rattle.el_options.specs.Reading.{Value, Letter}

-- ---- letters in force

-- the letter is one of these
abbrev pub is_among : List ℕ → ℕ → Bool
is_among letters letter = list_any (λ other. other == letter) letters

-- the letters of which one counts where this one is read: those that exclude each other, or this one alone
abbrev pub rivals : (groups : List (List ℕ)) → ℕ → List ℕ
rivals [] letter = letter ∷ []
rivals (group ∷ groups) letter = if is_among group letter then group else rivals groups letter

-- the letter among these that was read last
abbrev pub last_among : List ℕ → List Letter → Option Letter
last_among group letters = find (λ (read : Letter). is_among group read.letter) (reverse letters)

-- what was read, where it is this letter
abbrev pub if_this : ℕ → Option Letter → Option Letter
if_this letter None = None
if_this letter (Some read) = if read.letter == letter then Some read else None

-- a letter that is in force, as it was read last, where the letters of a group exclude each other
abbrev pub in_force : (groups : List (List ℕ)) → (letter : ℕ) → List Letter → Option Letter
in_force groups letter letters = if_this letter (last_among (rivals groups letter) letters)

-- the text of a value, if there is one
abbrev pub text_of : Option Value → Option (List ℕ)
text_of None = None
text_of (Some value) = Some value.text

-- the text of a letter's value; none where the letter isn't there or takes none
abbrev pub text_in : Option Letter → Option (List ℕ)
text_in None = None
text_in (Some read) = text_of read.value

-- the value that a letter has in force
abbrev pub value_in_force : (groups : List (List ℕ)) → (letter : ℕ) → List Letter → Option (List ℕ)
value_in_force groups letter letters = text_in (in_force groups letter letters)

-- ---- rules on values

-- any text; a number up to one; one or more numbers up to one, parted by commas; any but the empty text
pub data Rule : Type 0 where
  AnyText : Rule
  Number Numbers : (most : ℕ) → Rule
  NonEmpty : Rule

-- the values of all letters may be any text
abbrev pub any_text : (letter : ℕ) → Rule
any_text letter = AnyText

-- the values of these letters have this rule, and those of others what stands behind it
abbrev pub ruled : (letters : List ℕ) → Rule → (others : ℕ → Rule) → (letter : ℕ) → Rule
ruled letters rule others letter = if is_among letters letter then rule else others letter

-- there is a number, and it is at most this
abbrev pub is_up_to : (most : ℕ) → Option ℕ → Bool
is_up_to most None = false
is_up_to most (Some number) = nat_le number most

-- the text is a number up to this
abbrev pub is_number_up_to : (most : ℕ) → List ℕ → Bool
is_number_up_to most text = is_up_to most (number_of text)

-- the value is wrongly used: it is empty where it mustn't be
abbrev pub is_wrong_use : Rule → List ℕ → Bool
is_wrong_use NonEmpty [] = true
is_wrong_use rule text = false

-- the value is no number, or none of so many, where it must be; a comma is byte 44
abbrev pub is_bad_number : Rule → List ℕ → Bool
is_bad_number (Number most) text = not (is_number_up_to most text)
is_bad_number (Numbers most) text = not (list_all (is_number_up_to most) (slice_split (λ byte. byte == 44) text))
is_bad_number rule text = false

-- ---- the values in force, which a running program tests

-- the value fails a test that is true of bad ones; where there is no value nothing fails
abbrev pub fails : (test : List ℕ → Bool) → Option (List ℕ) → Bool
fails test None = false
fails test (Some text) = test text

-- of the letters read, one has a value in force that fails this test under its rule
abbrev pub any_in_force : (groups : List (List ℕ)) → (rule : ℕ → Rule) → (test : Rule → List ℕ → Bool) → List Letter → Bool
any_in_force groups rule test letters = list_any (λ (read : Letter). fails (test (rule read.letter)) (value_in_force groups read.letter letters)) letters

-- a value in force is empty where it mustn't be
abbrev pub has_wrong_use : (groups : List (List ℕ)) → (rule : ℕ → Rule) → List Letter → Bool
has_wrong_use groups rule letters = any_in_force groups rule is_wrong_use letters

-- a value in force is no number, or none of so many, where it must be
abbrev pub has_bad_number : (groups : List (List ℕ)) → (rule : ℕ → Rule) → List Letter → Bool
has_bad_number groups rule letters = any_in_force groups rule is_bad_number letters

-- ---- every value, in force or not, which checking tests

-- the value keeps the rule; so it is where there is none
abbrev pub keeps_rule : Rule → Option Value → Bool
keeps_rule rule None = true
keeps_rule rule (Some value) = not (is_wrong_use rule value.text || is_bad_number rule value.text)

-- each value keeps the rule of its letter, also one that a later letter replaces
abbrev pub keep_rules : (rule : ℕ → Rule) → List Letter → Bool
keep_rules rule letters = list_all (λ (read : Letter). keeps_rule (rule read.letter) read.value) letters
