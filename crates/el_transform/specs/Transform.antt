-- The words of a value: crunched, then chomped, then split.
use Rattle.std.specs.Prelude.{◌≡◌, ℕ, ◌==◌, Bool, true, List, [], ◌∷◌, if◌then◌else◌}
use Rattle.std.specs.Bool.{MatchBool}
use Rattle.std.specs.FinSet as set
use Rattle.el_transform.specs.declared.transforming.How.{How}
use Rattle.el_transform.specs.declared.transforming.TransformFault.{TransformFault}
use Rattle.el_transform.specs.declared.transforming.TransformFault.TheVariants.{BadNetstring, NoMemory}
use Rattle.el_transform.specs.Crunching.{crunched, chomped}
use Rattle.el_transform.specs.Splitting.{Splits}
use Rattle.el_transform.specs.Netstrings.{netstrings_text, FailsAt}

-- the value after crunching and chomping
abbrev pub prepared : How → List ℕ → List ℕ
prepared how value =
    let kept = if how.crunch then crunched how.delims value else value in
    if how.chomp then chomped how.delims kept else kept

-- no byte is a delimiter: a value that is split is then read as netstrings
abbrev pub has_no_delimiters : How → Bool
has_no_delimiters how = set.len how.delims == 0

-- these are the words of the value
abbrev pub Transforms : How → List ℕ → List (List ℕ) → Type 0
Transforms how value words =
    MatchBool how.split
    (MatchBool (has_no_delimiters how) (netstrings_text words ≡ prepared how value) (Splits how.delims (prepared how value) words))
    (words ≡ prepared how value ∷ [])

-- netstrings are asked for, and this is the place at which none begins
pub record IsBadNetstring (how : How) (value : List ℕ) (at : ℕ) : Type 0 where
  pub split : how.split ≡ true
  pub no_delimiters : has_no_delimiters how ≡ true
  pub fails : FailsAt (prepared how value) at

-- why there are no words: a bad netstring at a place of this kind, or want of memory, which is free
abbrev pub IsFaultAt : (ℕ → Type 0) → TransformFault → Type 0
IsFaultAt IsPlace (BadNetstring at) = IsPlace at
IsFaultAt IsPlace NoMemory = Unit {0}

-- why the value has no words
abbrev pub IsFault : How → List ℕ → TransformFault → Type 0
IsFault how value = IsFaultAt (IsBadNetstring how value)
