-- An index of members by their keys. Only the code's contracts need it.
use Rattle.el_script.specs.Vocabulary.{list_any, option_or, bytes_eq, Marked, Member, has_many}
use Rattle.std.specs.Prelude.{◌≡◌, ℕ, suc, Bool, nat_lt, List, [], ◌∷◌, ◌++◌, take, drop, map, reverse, position, Vec, Option}
use Rattle.std.specs.Bool.{then_some}
use Rattle.std.specs.Map.{lookup}
use Rattle.std.specs.declared.alloc.Global.{Global}
use Rattle.el_reader.specs.declared.members.Entered.{Entered}

-- ---- stored places

-- the stored places of the keys
abbrev pub KeyPlaces : Type 0
KeyPlaces = List (Vec ℕ Global × ℕ)

-- the place that is stored for a key
abbrev pub stored_place : KeyPlaces → List ℕ → Option ℕ
stored_place places key = lookup (λ stored. bytes_eq key stored.items) places

-- the first place, or where there is none this one, if it has what is looked for
abbrev pub first_or : (first : Option ℕ) → (has : Bool) → (place : ℕ) → Option ℕ
first_or first has place = option_or first (then_some has place)

-- some key of a member is this one
abbrev pub has_key : List Marked → (key : List ℕ) → Bool
has_key marked key = list_any (λ (one : Marked). bytes_eq one.0 key) marked

-- those keys of a member that weren't there are put in with this place, behind the others
pub record ArePut (marked : List Marked) (place : ℕ) (old new : KeyPlaces) : Type 0 where
  pub more : KeyPlaces
  pub is : new ≡ old ++ more
  pub added : (key : List ℕ) → stored_place new key ≡ first_or (stored_place old key) (has_key marked key) place

-- ---- the index

-- the first with a key, the first with the positionals' keys, and behind which places some member has a key of many words
pub record Tells (members : List Member) (places : KeyPlaces) (positional : Option ℕ) (many : ℕ) : Type 0 where
  pub firsts : (key : List ℕ) → stored_place places key ≡ position (λ (member : Member). has_key member.marked key) members
  pub first : positional ≡ position (λ (member : Member). member.positional) members
  pub behind : (place : ℕ) → list_any has_many (drop (suc place) members) ≡ nat_lt place many

-- the members alone
abbrev pub entered_members : List Entered → List Member
entered_members entered = map (λ (one : Entered). one.member) entered

-- each of them, from the last on, keeps what the index told before it
abbrev pub AreKept : List Entered → KeyPlaces → Type 0
AreKept [] places = Unit {0}
AreKept (last ∷ before) places =
    Tells (entered_members (reverse before)) (take last.keys places) last.positional last.many × AreKept before (take last.keys places)

-- it tells of all members, and they keep what it told before
pub record IsIndexOf (entered : List Entered) (places : KeyPlaces) (positional : Option ℕ) (many : ℕ) : Type 0 where
  pub tells : Tells (entered_members entered) places positional many
  pub kept : AreKept (reverse entered) places
