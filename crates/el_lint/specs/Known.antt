-- The names that have values put in, where a program or a command stands.
use Rattle.el_script.specs.Vocabulary.{list_any, bytes_eq, Prog, Places, letters_of, Marked, Member, is_positional, member_of}
use Rattle.std.specs.Prelude.{ℕ, Bool, true, false, ◌&&◌, ◌||◌, List, [], ◌++◌, map}
use Rattle.el_check.specs.declared.params.Params.{Params}
use Rattle.el_check.specs.declared.params.Params.TheVariants.{Frame, Leave, Subst}

-- these names, and those of the positionals where they are put in
pub record Known : Type 0 where
  pub names : List (List ℕ)
  pub positional : Bool

-- at the beginning of a script: the words behind it may be put in its own
abbrev pub first_known : Params → Known
first_known Frame = record { names = []; positional = false }
first_known Leave = record { names = []; positional = false }
first_known (Subst least) = record { names = []; positional = true }

-- the names that a program or a directive puts in by itself
abbrev pub names_put : Member → List (List ℕ)
names_put member = map (λ (marked : Marked). marked.0) member.marked

-- behind a program that has these names put in
abbrev pub known_with : Known → Member → Known
known_with known member = record { names = known.names ++ names_put member; positional = known.positional || member.positional }

-- behind a program with these option words and places
abbrev pub known_behind : Known → Prog → (options : List (List ℕ)) → Places → Known
known_behind known program options places = known_with known (member_of program (letters_of program options) places)

-- the name is one of these
abbrev pub is_among : (names : List (List ℕ)) → (name : List ℕ) → Bool
is_among names name = list_any (λ other. bytes_eq other name) names

-- a value is put in for the key
abbrev pub is_known : Known → (key : List ℕ) → Bool
is_known known key = is_among known.names key || (known.positional && is_positional key)
