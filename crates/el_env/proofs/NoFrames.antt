-- A push where no frame name is set.
use Rattle.std.proofs.Common.{◌≡◌, ℕ, Bool, true, false, cond, is_some, List, [], ◌∷◌, Option, None, Some, map as mapped, refl, sym, ap, ◌∙◌, true≢false}
use Rattle.std.specs.Option.{option_map}
use Rattle.std.specs.Ordering.{nat_cmp, eq_by_cmp}
use Rattle.std.specs.Cmp.Lexicographic.{slice_cmp, bytes_decides, texts_ties, nat_list_cmp_total}
use Rattle.std.specs.FinMap as map
use Rattle.std.specs.FinMap.{get-from_entries}
use Rattle.el_env.specs.Vars.{Vars}
use Rattle.el_env.specs.Frames.{Frame, frame_of, deeper, pushed_name, pushed, popped, HasNoFrames, IsTooDeep}
use Rattle.el_env.specs.Inherited.{value_in}
use Rattle.el_env.proofs.Frames.{popped-pushed}
use Rattle.el_env.proofs.Named.{Pairs, same_vars}

-- none of these has a frame name
abbrev pub ArePlain : Pairs → Type 0
ArePlain [] = Unit {0}
ArePlain (pair ∷ pairs) = (frame_of pair.0 ≡ None) × ArePlain pairs

-- what isn't read as one is none
pub not_read : {A B : Type 0} (f : A → B) (read : Option A) (frame : Option B) → is_some read ≡ false → option_map f read ≡ frame → frame ≡ None
not_read f None frame none is = sym is
not_read f (Some a) frame some is = absurd (true≢false some)

-- what is left to look at decides
pub record IsLooking (all left : Pairs) : Type 0 where
  pub decides : ArePlain left → ArePlain all

pub none_seen : (all : Pairs) → IsLooking all all
none_seen all = record { decides = λ plain. plain }

pub one_seen : (all left rest : Pairs) (pair : List ℕ × List ℕ) → left ≡ pair ∷ rest → frame_of pair.0 ≡ None → IsLooking all left → IsLooking all rest
one_seen all left rest pair here none looking = record { decides = λ plain. looking.decides (by here (none, plain)) }
  where
    by : left ≡ pair ∷ rest → ArePlain (pair ∷ rest) → ArePlain left
    by is plain = rw is plain

plain_name : (pairs : Pairs) → ArePlain pairs → (name : List ℕ) → is_some (value_in name pairs) ≡ true → frame_of name ≡ None
plain_name [] plain name set = absurd (true≢false (sym set))
plain_name (pair ∷ pairs) plain name set = by (eq_by_cmp (slice_cmp nat_cmp) name pair.0) refl set (plain_name pairs plain.1 name)
  where
    by : (b : Bool) → eq_by_cmp (slice_cmp nat_cmp) name pair.0 ≡ b → is_some (cond b (Some pair.1) (value_in name pairs)) ≡ true
        → (is_some (value_in name pairs) ≡ true → frame_of name ≡ None) → frame_of name ≡ None
    by true same set later = ap frame_of ((bytes_decides name pair.0).0 (texts_ties name pair.0 ∙ same)) ∙ plain.0
    by false other set later = later set

-- none has a frame name where all were looked at
pub none_framed : (all left : Pairs) (vars : Vars) → map.from_entries all ≡ vars → left ≡ [] → IsLooking all left → HasNoFrames vars
none_framed all left vars is none looking name set =
    plain_name all (looking.decides (by none)) name
    (ap is_some (sym (get-from_entries nat_list_cmp_total all name) ∙ ap (λ (m : Vars). map.get m name) is) ∙ set)
  where
    by : left ≡ [] → ArePlain left
    by is = rw is tt

stays : (frame : Option Frame) (name : List ℕ) → frame ≡ None → (elim frame [ None ↦ name | Some f ↦ deeper f ]) ≡ name
stays None name none = refl
stays (Some f) name none = let no : ⊥ = cc in absurd no

same_names : (pairs : Pairs) → ((name : List ℕ) → is_some (value_in name pairs) ≡ true → frame_of name ≡ None) → mapped (λ (e : List ℕ × List ℕ). (pushed_name e.0, e.1)) pairs ≡ pairs
same_names [] plain = refl
same_names (pair ∷ pairs) plain =
    λ i. (stays (frame_of pair.0) pair.0 (plain pair.0 (ap (λ b. is_some (cond b (Some pair.1) (value_in pair.0 pairs))) (sym (texts_ties pair.0 pair.0) ∙ (bytes_decides pair.0 pair.0).1 refl))) i, pair.1)
    ∷ same_names pairs (λ name set. plain name (behind name (eq_by_cmp (slice_cmp nat_cmp) name pair.0) set)) i
  where
    behind : (name : List ℕ) (b : Bool) → is_some (value_in name pairs) ≡ true → is_some (cond b (Some pair.1) (value_in name pairs)) ≡ true
    behind name true set = refl
    behind name false set = set

-- then a push changes nothing, is undone by none, and can be
pub pushed_same : (vars : Vars) → HasNoFrames vars → pushed vars ≡ vars
pushed_same vars none =
    ap map.from_entries (same_names (map.entries vars) (λ name set. none name (ap is_some (map.get-entries vars name) ∙ set)))
    ∙ same_vars _ _ (λ name. get-from_entries nat_list_cmp_total (map.entries vars) name ∙ sym (map.get-entries vars name))

pub not_too_deep : (vars : Vars) → HasNoFrames vars → IsTooDeep vars → ⊥
not_too_deep vars none deep = let is : None ≡ Some _ = sym (none deep.name deep.is_set) ∙ deep.is_deepest.is_frame in let no : ⊥ = cc in no

pub popped_same : (vars : Vars) → HasNoFrames vars → popped vars ≡ vars
popped_same vars none = ap popped (sym (pushed_same vars none)) ∙ popped-pushed vars (not_too_deep vars none)
