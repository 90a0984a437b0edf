-- Laws over the definitions.
use Rattle.std.specs.Prelude.{◌≡◌, ◌↔◌, ℕ, ◌<◌, ◌^◌, Bool, List, length, Ok, Err, if◌then◌else◌}
use Rattle.std.specs.List.{concat}
use Rattle.std.specs.FinSet as set
use Rattle.el_transform.specs.declared.transforming.How.{How}
use Rattle.el_transform.specs.Crunching.{Delimiters, crunched}
use Rattle.el_transform.specs.Splitting.{Splits}
use Rattle.el_transform.specs.Splitter.{starting, fed_all, all_values, after_last}
use Rattle.el_transform.specs.Netstrings.{netstrings_text, FailsAt}
use Rattle.el_transform.specs.Transform.{Transforms, IsBadNetstring}
use Rattle.el_transform.specs.Computed.{listed_rules, words_by, transformed}

-- two splittings of one value by the same delimiters have the same words
abbrev pub SplittingIsOne : Type 0
SplittingIsOne = (delims : Delimiters) (value : List ℕ) (words others : List (List ℕ)) → Splits delims value words → Splits delims value others → words ≡ others

-- lists of words with the same netstrings are the same
abbrev pub NetstringsAreOne : Type 0
NetstringsAreOne = (words others : List (List ℕ)) → length (netstrings_text words) < 2 ^ 64 → netstrings_text words ≡ netstrings_text others → words ≡ others

-- a value has one place at most at which no netstring begins
abbrev pub BadPlaceIsOne : Type 0
BadPlaceIsOne = (value : List ℕ) (at other : ℕ) → length value < 2 ^ 64 → FailsAt value at → FailsAt value other → at ≡ other

-- a value with such a place is the text of no words
abbrev pub BadIsNoText : Type 0
BadIsNoText = (value : List ℕ) (at : ℕ) (words : List (List ℕ)) → length value < 2 ^ 64 → FailsAt value at → netstrings_text words ≡ value → ⊥

-- words are computed exactly where the value has them
abbrev pub ComputedIsTransformed : Type 0
ComputedIsTransformed = (how : How) (value : List ℕ) (words : List (List ℕ)) → length value < 2 ^ 64 → (transformed how value ≡ Ok words) ↔ Transforms how value words

-- a place is computed exactly where it is that of a bad netstring
abbrev pub ComputedIsBad : Type 0
ComputedIsBad = (how : How) (value : List ℕ) (at : ℕ) → length value < 2 ^ 64 → (transformed how value ≡ Err at) ↔ IsBadNetstring how value at

-- where the delimiters are those of a list, the words are those by the list
abbrev pub ComputedByList : Type 0
ComputedByList = (how : How) (delims value : List ℕ) → how.delims ≡ set.from_list delims → transformed how value ≡ words_by (listed_rules how.crunch how.chomp how.split delims) value

-- the values of all pieces, in order, and the last one are the splitting of the pieces joined, crunched where it is asked for
abbrev pub PiecesAreSplit : Type 0
PiecesAreSplit = (crunch : Bool) (delims : Delimiters) (pieces : List (List ℕ)) → Splits delims (if crunch then crunched delims (concat pieces) else concat pieces) (all_values (starting crunch delims) pieces)

-- the unfinished bytes are those after the last delimiter of the pieces joined
abbrev pub UnfinishedIsAfterLast : Type 0
UnfinishedIsAfterLast = (crunch : Bool) (delims : Delimiters) (pieces : List (List ℕ)) → (fed_all (starting crunch delims) pieces).unfinished ≡ after_last delims (concat pieces)
