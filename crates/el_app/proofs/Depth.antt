-- Names at the greatest depth, found by going through all of them.
use Rattle.el_room.proofs.Vocabulary.{or-true, eqb-true, list_any, nat_cmp, eq_by_cmp, slice_cmp, bytes_decides, texts_ties, Vars, Frame, frame_of}
use Rattle.std.proofs.Common.{◌≡◌, ℕ, ◌-◌, ◌^◌, Bool, true, false, ◌||◌, List, [], ◌∷◌, Option, None, Some, refl, sym, ap, ◌∙◌, true≢false}
use Rattle.std.specs.FinMap as map
use Rattle.el_env.specs.Frames.{frame_at, IsDeepest, IsTooDeep}
use Rattle.el_app.specs.Params.{is_deepest, is_too_deep}

-- ---- one name

abbrev passes : List ℕ → Bool
passes name = is_deepest (frame_of name)

deepest-passes : (name : List ℕ) → IsDeepest name → passes name ≡ true
deepest-passes name deepest = ap is_deepest deepest.is_frame

at_depth : (name : List ℕ) (frame : Frame) (depth : ℕ) → frame_of name ≡ Some frame → frame.depth ≡ depth → frame_of name ≡ Some (frame_at frame.base depth)
at_depth name frame depth is same = is ∙ ap (λ depth. Some (frame_at frame.base depth)) same

passes-deepest : (name : List ℕ) (found : Option Frame) → frame_of name ≡ found → is_deepest found ≡ true → IsDeepest name
passes-deepest name None is test = absurd (true≢false (sym test))
passes-deepest name (Some frame) is test = record { base = frame.base; is_frame = at_depth name frame (2 ^ 64 - 1) is (eqb-true frame.depth (2 ^ 64 - 1) test) }

-- ---- all names

abbrev is_same : (name other : List ℕ) → Bool
is_same name other = eq_by_cmp (slice_cmp nat_cmp) name other

same_name : (name other : List ℕ) → is_same name other ≡ true → name ≡ other
same_name name other same = (bytes_decides name other).0 (texts_ties name other ∙ same)

-- a name among these passes, so that one of them does
any-passes : (names : List (List ℕ)) (name : List ℕ) → list_any (is_same name) names ≡ true → passes name ≡ true → list_any passes names ≡ true
any-passes [] name among test = absurd (true≢false (sym among))
any-passes (other ∷ names) name among test = by (is_same name other) refl among (λ among. any-passes names name among test)
  where
    by : (here : Bool) → is_same name other ≡ here → (here || list_any (is_same name) names) ≡ true → (list_any (is_same name) names ≡ true → list_any passes names ≡ true) → (passes other || list_any passes names) ≡ true
    by true is h later = ap (λ b. b || list_any passes names) (ap passes (sym (same_name name other is)) ∙ test)
    by false is h later = ap (λ b. passes other || b) (later h) ∙ or-true (passes other)

-- one of the names that passes
record Passing (names : List (List ℕ)) : Type 0 where
  name : List ℕ
  passing : passes name ≡ true
  among : list_any (is_same name) names ≡ true

one_passes : (names : List (List ℕ)) → list_any passes names ≡ true → Passing names
one_passes [] any = absurd (true≢false (sym any))
one_passes (other ∷ names) any = by (passes other) refl any (one_passes names)
  where
    by : (here : Bool) → passes other ≡ here → (here || list_any passes names) ≡ true → (list_any passes names ≡ true → Passing names) → Passing (other ∷ names)
    by true is h later = record { name = other; passing = is; among = ap (λ b. b || list_any (is_same other) names) (sym (texts_ties other other) ∙ (bytes_decides other other).1 refl) }
    by false is h later = let rest = later h in
        record { name = rest.name; passing = rest.passing; among = ap (λ b. is_same rest.name other || b) rest.among ∙ or-true (is_same rest.name other) }

-- ---- variables

-- where a name is too deep, going through them finds one
pub deep_found : {vars : Vars} → IsTooDeep vars → is_too_deep vars ≡ true
deep_found {vars} deep = any-passes (map.keys vars) deep.name (sym (map.contains_key-keys vars deep.name) ∙ deep.is_set) (deepest-passes deep.name deep.is_deepest)

-- where none is, it finds none
pub none_deep : {vars : Vars} → (IsTooDeep vars → ⊥) → is_too_deep vars ≡ false
none_deep {vars} not_deep = by (is_too_deep vars) refl
  where
    by : (b : Bool) → is_too_deep vars ≡ b → is_too_deep vars ≡ false
    by true is = let deepest = one_passes (map.keys vars) is in
        absurd (not_deep (record { name = deepest.name; is_deepest = passes-deepest deepest.name (frame_of deepest.name) refl deepest.passing; is_set = map.contains_key-keys vars deepest.name ∙ deepest.among }))
    by false is = is
