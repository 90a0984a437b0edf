-- Pushes and pops as renamings.
use Rattle.std.proofs.Common.{◌≡◌, ℕ, suc, ◌-◌, ◌^◌, ◌<◌, Bool, true, false, cond, T, nat_lt, List, [], ◌∷◌, Contains, Option, None, Some, is_some, map as mapped, refl, sym, ap, ◌∙◌, subst, true≢false, arith, if◌then◌else◌}
use Rattle.std.proofs.lemmas.Option.{same_Some}
use Rattle.std.specs.Option.{option_map, option_and_then}
use Rattle.std.specs.List.{filter_map, cons_option}
use Rattle.std.specs.Ordering.{nat_cmp, eq_by_cmp}
use Rattle.std.specs.Cmp.Lexicographic.{slice_cmp, bytes_decides, texts_ties}
use Rattle.std.specs.FinMap as map
use Rattle.std.specs.FinMap.{find, is_sorted}
use Rattle.el_words.proofs.Truths.{none_is_some}
use Rattle.el_env.specs.Vars.{Vars}
use Rattle.el_env.specs.Frames.{Frame, frame_at, frame_text, frame_of, deeper, shallower, popped_name, pushed_name, pushed, popped, IsDeepest, IsTooDeep}
use Rattle.el_env.proofs.FrameNames.{IsFrame, frame_of-read, frame_of-written, IsForeign, IsForeign-nul, IsForeign-equals, Contains-frame_text, Contains-base}
use Rattle.el_env.specs.Name.{IsName}
use Rattle.el_env.specs.Inherited.{value_in}
use Rattle.el_env.proofs.GoodNames.{good_name, IsName-not_empty, IsName-no_equals}
use Rattle.el_env.proofs.Named.{Pairs, same_vars}
use Rattle.el_env.proofs.Renaming.{IsInverse, IsRenaming, renamed, renamed_entry, get-renamed, none_renamed, entry_renamed, entry_removed, all_renamed}

abbrev raised_frame : Frame → Option (List ℕ)
raised_frame frame = if nat_lt frame.depth (2 ^ 64 - 1) then Some (deeper frame) else None

abbrev raised_as : List ℕ → Option Frame → Option (List ℕ)
raised_as name None = Some name
raised_as name (Some frame) = raised_frame frame

abbrev lowered_as : List ℕ → Option Frame → Option (List ℕ)
lowered_as name None = Some name
lowered_as name (Some frame) = shallower frame

-- what a push makes of a name, and nothing at the greatest depth
abbrev pub raised : List ℕ → Option (List ℕ)
raised name = raised_as name (frame_of name)

raised-frame : (name : List ℕ) (frame : Frame) → frame_of name ≡ Some frame → frame.depth < 2 ^ 64 - 1 → raised name ≡ Some (deeper frame)
raised-frame name frame is small =
    let below : nat_lt frame.depth (2 ^ 64 - 1) ≡ true = grind arith in
    ap (raised_as name) is ∙ ap (λ b. if b then Some (deeper frame) else None) below

raised-other : (name : List ℕ) → frame_of name ≡ None → raised name ≡ Some name
raised-other name is = ap (raised_as name) is

lowered-frame : (name : List ℕ) (frame : Frame) → frame_of name ≡ Some frame → popped_name name ≡ shallower frame
lowered-frame name frame is = ap (lowered_as name) is

lowered-other : (name : List ℕ) → frame_of name ≡ None → popped_name name ≡ Some name
lowered-other name is = ap (lowered_as name) is

-- a pushed name is popped to what it was
popped_name-raised : (p q : List ℕ) → raised p ≡ Some q → popped_name q ≡ Some p
popped_name-raised p q goes = by (frame_of p) refl goes
  where
    by : (o : Option Frame) → frame_of p ≡ o → raised_as p o ≡ Some q → popped_name q ≡ Some p
    by None is goes = ap popped_name (sym (same_Some p q goes)) ∙ lowered-other p is
    by (Some frame) is goes = frames (nat_lt frame.depth (2 ^ 64 - 1)) refl goes
      where
        frames : (b : Bool) → nat_lt frame.depth (2 ^ 64 - 1) ≡ b → (if b then Some (deeper frame) else None) ≡ Some q → popped_name q ≡ Some p
        frames false _ goes = none_is_some q goes
        frames true small goes =
            let read = frame_of-read p frame is in
            let lt : suc frame.depth < 2 ^ 64 = grind (arith, small) in
            ap popped_name (sym (same_Some (deeper frame) q goes))
            ∙ lowered-frame (deeper frame) (frame_at frame.base (suc frame.depth)) (frame_of-written frame.base (suc frame.depth) read.base lt)
            ∙ ap (λ name. Some name) read.text

-- a popped name is pushed to what it was
raised-popped_name : (p q : List ℕ) → popped_name q ≡ Some p → raised p ≡ Some q
raised-popped_name p q goes = by (frame_of q) refl (sym (as_lowered q) ∙ goes)
  where
    as_lowered : (name : List ℕ) → popped_name name ≡ lowered_as name (frame_of name)
    as_lowered name = refl

    frames : (base : List ℕ) (n : ℕ) → IsFrame q (frame_at base n) → shallower (frame_at base n) ≡ Some p → raised p ≡ Some q
    frames base Prim.Native.Nat.zero read goes = none_is_some p goes
    frames base (suc n) read goes =
        ap raised (sym (same_Some (frame_text (frame_at base n)) p goes))
        ∙ raised-frame (frame_text (frame_at base n)) (frame_at base n) (frame_of-written base n read.base (omega (arith, read.small))) (omega (arith, read.small))
        ∙ ap (λ name. Some name) read.text

    by : (o : Option Frame) → frame_of q ≡ o → lowered_as q o ≡ Some p → raised p ≡ Some q
    by None is goes = ap raised (sym (same_Some q p goes)) ∙ raised-other q is
    by (Some frame) is goes = frames frame.base frame.depth (frame_of-read q frame is) goes

pub IsInverse-raised : IsInverse raised popped_name
IsInverse-raised = record { leads_back = popped_name-raised; leads_on = raised-popped_name }

pub IsInverse-popped_name : IsInverse popped_name raised
IsInverse-popped_name = record { leads_back = λ p q. raised-popped_name q p; leads_on = λ p q. popped_name-raised q p }

-- no push and no pop puts a byte into a name that stands in no depth
pub Contains-raised : (byte : ℕ) → IsForeign byte → (p q : List ℕ) → raised p ≡ Some q → Contains q byte → Contains p byte
Contains-raised byte foreign p q goes holds = by (frame_of p) refl goes
  where
    by : (o : Option Frame) → frame_of p ≡ o → raised_as p o ≡ Some q → Contains p byte
    by None is goes = subst (λ name. Contains name byte) (sym (same_Some p q goes)) holds
    by (Some frame) is goes = frames (nat_lt frame.depth (2 ^ 64 - 1)) refl goes
      where
        frames : (b : Bool) → nat_lt frame.depth (2 ^ 64 - 1) ≡ b → (if b then Some (deeper frame) else None) ≡ Some q → Contains p byte
        frames false _ goes = none_is_some q goes
        frames true small goes =
            let read = frame_of-read p frame is in
            let lt : suc frame.depth < 2 ^ 64 = grind (arith, small) in
            subst (λ name. Contains name byte) read.text (Contains-base byte frame.base frame.depth
            (Contains-frame_text byte foreign frame.base (suc frame.depth) lt (subst (λ name. Contains name byte) (sym (same_Some (deeper frame) q goes)) holds)))

pub Contains-popped_name : (byte : ℕ) → IsForeign byte → (p q : List ℕ) → popped_name p ≡ Some q → Contains q byte → Contains p byte
Contains-popped_name byte foreign p q goes holds = by (frame_of q) refl (raised-popped_name q p goes)
  where
    by : (o : Option Frame) → frame_of q ≡ o → raised_as q o ≡ Some p → Contains p byte
    by None is goes = subst (λ name. Contains name byte) (same_Some q p goes) holds
    by (Some frame) is goes = frames (nat_lt frame.depth (2 ^ 64 - 1)) refl goes
      where
        frames : (b : Bool) → nat_lt frame.depth (2 ^ 64 - 1) ≡ b → (if b then Some (deeper frame) else None) ≡ Some p → Contains p byte
        frames false _ goes = none_is_some p goes
        frames true small goes =
            let read = frame_of-read q frame is in
            let lt : frame.depth < 2 ^ 64 = grind (arith, small) in
            subst (λ name. Contains name byte) (same_Some (deeper frame) p goes) (Contains-base byte frame.base (suc frame.depth)
            (Contains-frame_text byte foreign frame.base frame.depth lt (subst (λ name. Contains name byte) (sym read.text) holds)))

-- what isn't raised is at the greatest depth
pub raised-None : (name : List ℕ) → raised name ≡ None → IsDeepest name
raised-None name removed = by (frame_of name) refl removed
  where
    by : (o : Option Frame) → frame_of name ≡ o → raised_as name o ≡ None → IsDeepest name
    by None is removed = none_is_some name (sym removed)
    by (Some frame) is removed = frames (nat_lt frame.depth (2 ^ 64 - 1)) refl removed
      where
        frames : (b : Bool) → nat_lt frame.depth (2 ^ 64 - 1) ≡ b → (if b then Some (deeper frame) else None) ≡ None → IsDeepest name
        frames true _ removed = none_is_some (deeper frame) (sym removed)
        frames false big removed =
            let small = (frame_of-read name frame is).small in
            let depth : frame.depth ≡ 2 ^ 64 - 1 = grind (arith, big, small) in
            record { base = frame.base; is_frame = is ∙ ap (λ n. Some (frame_at frame.base n)) depth }

-- any other is raised as the push says
pub raised-pushed_name : (name : List ℕ) → (IsDeepest name → ⊥) → raised name ≡ Some (pushed_name name)
raised-pushed_name name not_deepest = by (raised name) refl
  where
    same : (o : Option Frame) (q : List ℕ) → raised_as name o ≡ Some q → q ≡ (elim o [ None ↦ name | Some frame ↦ deeper frame ])
    same None q goes = sym (same_Some name q goes)
    same (Some frame) q goes = frames (nat_lt frame.depth (2 ^ 64 - 1)) goes
      where
        frames : (b : Bool) → (if b then Some (deeper frame) else None) ≡ Some q → q ≡ deeper frame
        frames true goes = sym (same_Some (deeper frame) q goes)
        frames false goes = none_is_some q goes

    by : (o : Option (List ℕ)) → raised name ≡ o → raised name ≡ Some (pushed_name name)
    by None removed = absurd (not_deepest (raised-None name removed))
    by (Some q) goes = goes ∙ ap (λ n. Some n) (same (frame_of name) q goes)

-- a push is the renaming, where no name is at the greatest depth
pub pushed-renamed : (vars : Vars) → (IsTooDeep vars → ⊥) → pushed vars ≡ renamed raised vars
pushed-renamed vars not_deep = ap (λ es. map.from_entries es)
    (all (map.entries vars) (λ name set deepest. not_deep (record { name = name; is_deepest = deepest; is_set = ap is_some (map.get-entries vars name) ∙ set })))
  where
    all : (es : List (List ℕ × List ℕ)) → ((name : List ℕ) → is_some (find (slice_cmp nat_cmp) name es) ≡ true → IsDeepest name → ⊥)
        → mapped (λ e. (pushed_name e.0, e.1)) es ≡ filter_map (renamed_entry raised) es
    all [] none = refl
    all (e ∷ es) none =
        ap (λ others. (pushed_name e.0, e.1) ∷ others) (all es (λ name set. none name (later name (eq_by_cmp (slice_cmp nat_cmp) name e.0) set)))
        ∙ ap (λ o. cons_option (option_map (λ name. (name, e.1)) o) (filter_map (renamed_entry raised) es)) (sym (raised-pushed_name e.0 (none e.0 here)))
      where
        later : (name : List ℕ) (b : Bool) → is_some (find (slice_cmp nat_cmp) name es) ≡ true → is_some (cond b (Some e.1) (find (slice_cmp nat_cmp) name es)) ≡ true
        later name true set = refl
        later name false set = set

        here : is_some (cond (eq_by_cmp (slice_cmp nat_cmp) e.0 e.0) (Some e.1) (find (slice_cmp nat_cmp) e.0 es)) ≡ true
        here = ap (λ b. is_some (cond b (Some e.1) (find (slice_cmp nat_cmp) e.0 es))) (sym (texts_ties e.0 e.0) ∙ (bytes_decides e.0 e.0).1 refl)

-- a pop after a push gives the first map back
pub popped-pushed : (vars : Vars) → (IsTooDeep vars → ⊥) → popped (pushed vars) ≡ vars
popped-pushed vars not_deep = ap popped (pushed-renamed vars not_deep) ∙ same_vars _ _ (λ q.
    get-renamed popped_name raised IsInverse-popped_name (renamed raised vars) q ∙ by q (raised q) refl)
  where
    unset : (q : List ℕ) (o : Option (List ℕ)) → map.get vars q ≡ o → raised q ≡ None → None ≡ o
    unset q None is removed = refl
    unset q (Some v) is removed = absurd (not_deep (record { name = q; is_deepest = raised-None q removed; is_set = ap is_some is }))

    by : (q : List ℕ) (o : Option (List ℕ)) → raised q ≡ o → option_and_then (map.get (renamed raised vars)) o ≡ map.get vars q
    by q None removed = unset q (map.get vars q) refl removed
    by q (Some r) goes = get-renamed raised popped_name IsInverse-raised vars r ∙ ap (option_and_then (map.get vars)) (popped_name-raised q r goes)

-- a push on its way: the rest is still to be renamed, and a name at the greatest depth stands there
pub record IsPushing (pairs rest : Pairs) (moved : Vars) : Type 0 where
  pub renaming : IsRenaming popped_name pairs rest moved
  pub deep_left : (name : List ℕ) → IsDeepest name → value_in name pairs ≡ value_in name rest

pub none_pushed : (pairs : Pairs) (moved : Vars) → T (is_sorted (slice_cmp nat_cmp) pairs) → moved ≡ map.empty → IsPushing pairs pairs moved
none_pushed pairs moved sorted is = record { renaming = none_renamed popped_name pairs moved sorted is; deep_left = λ name deepest. refl }

pub one_pushed : (pairs rest next : Pairs) (moved more : Vars) (name value key : List ℕ)
    → rest ≡ (name, value) ∷ next → more ≡ map.insert moved key value → key ≡ pushed_name name → (IsDeepest name → ⊥)
    → IsPushing pairs rest moved → IsPushing pairs next more
one_pushed pairs rest next moved more name value key here inserted pushes not_deepest so_far =
    let first = subst (λ ps. IsRenaming popped_name pairs ps moved) here so_far.renaming in
    let goes = raised-pushed_name name not_deepest ∙ ap (λ n. Some n) (sym pushes) in
    record {
      renaming = subst (IsRenaming popped_name pairs next) (sym inserted) (entry_renamed raised popped_name IsInverse-raised pairs next moved name value key goes first);
      deep_left = λ deep deepest. so_far.deep_left deep deepest ∙ ap (value_in deep) here ∙ passed deep deepest (eq_by_cmp (slice_cmp nat_cmp) deep name) refl;
    }
  where
    passed : (deep : List ℕ) → IsDeepest deep → (b : Bool) → eq_by_cmp (slice_cmp nat_cmp) deep name ≡ b → cond (eq_by_cmp (slice_cmp nat_cmp) deep name) (Some value) (value_in deep next) ≡ value_in deep next
    passed deep deepest true same = absurd (not_deepest (subst IsDeepest ((bytes_decides deep name).0 (texts_ties deep name ∙ same)) deepest))
    passed deep deepest false other = ap (λ b. cond b (Some value) (value_in deep next)) other

-- a name that is renamed stays good
IsName-renamed : (p q : List ℕ) → (q ≡ [] → p ≡ []) → ((byte : ℕ) → IsForeign byte → Contains q byte → Contains p byte) → IsName p → IsName q
IsName-renamed p q empty within is = record {
  no_nul = λ nul. is.no_nul (within 0 IsForeign-nul nul);
  good = good_name q (λ none. IsName-not_empty p is (empty none)) (λ holds. IsName-no_equals p is (within 61 IsForeign-equals holds));
}

pub pushed_is_name : (name key : List ℕ) → key ≡ pushed_name name → (IsDeepest name → ⊥) → IsName name → IsName key
pushed_is_name name key pushes not_deepest =
    let goes : raised name ≡ Some key = raised-pushed_name name not_deepest ∙ ap (λ n. Some n) (sym pushes) in
    IsName-renamed name key (λ none. same_Some name [] (sym (popped_name-raised name key goes) ∙ ap popped_name none))
    (λ byte foreign. Contains-raised byte foreign name key goes)

set_in : (vars : Vars) (pairs : Pairs) (name : List ℕ) → pairs ≡ map.entries vars → is_some (value_in name pairs) ≡ map.contains_key vars name
set_in vars pairs name is = ap (λ ps. is_some (value_in name ps)) is ∙ ap is_some (sym (map.get-entries vars name))

pub all_pushed-not_deep : (vars : Vars) (pairs rest : Pairs) (moved : Vars) → pairs ≡ map.entries vars → rest ≡ [] → IsPushing pairs rest moved → IsTooDeep vars → ⊥
all_pushed-not_deep vars pairs rest moved is none so_far deep = true≢false
    (sym deep.is_set ∙ sym (set_in vars pairs deep.name is) ∙ ap is_some (so_far.deep_left deep.name deep.is_deepest ∙ ap (value_in deep.name) none))

pub all_pushed : (vars : Vars) (pairs rest : Pairs) (moved : Vars) → pairs ≡ map.entries vars → rest ≡ [] → IsPushing pairs rest moved → moved ≡ pushed vars
all_pushed vars pairs rest moved is none so_far =
    all_renamed raised popped_name IsInverse-raised vars rest moved none (subst (λ ps. IsRenaming popped_name ps rest moved) is so_far.renaming)
    ∙ sym (pushed-renamed vars (all_pushed-not_deep vars pairs rest moved is none so_far))

-- the name that is met at the greatest depth is set
pub deep_met : (vars : Vars) (pairs rest next : Pairs) (moved : Vars) (name value : List ℕ) → pairs ≡ map.entries vars
    → rest ≡ (name, value) ∷ next → IsPushing pairs rest moved → IsDeepest name → IsTooDeep vars
deep_met vars pairs rest next moved name value is here so_far deepest = record {
  name = name;
  is_deepest = deepest;
  is_set = sym (set_in vars pairs name is)
      ∙ ap is_some (so_far.deep_left name deepest ∙ ap (value_in name) here
      ∙ ap (λ b. cond b (Some value) (value_in name next)) (sym (texts_ties name name) ∙ (bytes_decides name name).1 refl));
}

-- a pop on its way
abbrev pub IsPopping : Pairs → Pairs → Vars → Type 0
IsPopping pairs rest moved = IsRenaming raised pairs rest moved

pub none_popped : (pairs : Pairs) (moved : Vars) → T (is_sorted (slice_cmp nat_cmp) pairs) → moved ≡ map.empty → IsPopping pairs pairs moved
none_popped pairs moved sorted is = none_renamed raised pairs moved sorted is

pub one_popped : (pairs rest next : Pairs) (moved more : Vars) (name value key : List ℕ)
    → rest ≡ (name, value) ∷ next → more ≡ map.insert moved key value → Some key ≡ popped_name name
    → IsPopping pairs rest moved → IsPopping pairs next more
one_popped pairs rest next moved more name value key here inserted pops so_far =
    subst (IsRenaming raised pairs next) (sym inserted)
    (entry_renamed popped_name raised IsInverse-popped_name pairs next moved name value key (sym pops)
    (subst (λ ps. IsRenaming raised pairs ps moved) here so_far))

pub one_dropped : (pairs rest next : Pairs) (moved : Vars) (name value : List ℕ)
    → rest ≡ (name, value) ∷ next → None ≡ popped_name name → IsPopping pairs rest moved → IsPopping pairs next moved
one_dropped pairs rest next moved name value here removed so_far =
    entry_removed popped_name raised IsInverse-popped_name pairs next moved name value (sym removed)
    (subst (λ ps. IsRenaming raised pairs ps moved) here so_far)

-- a popped name is good where the name was
pub popped_is_name : (name key : List ℕ) → Some key ≡ popped_name name → IsName name → IsName key
popped_is_name name key pops =
    IsName-renamed name key (λ none. same_Some name [] (sym (raised-popped_name key name (sym pops)) ∙ ap raised none))
    (λ byte foreign. Contains-popped_name byte foreign name key (sym pops))

pub all_popped : (vars : Vars) (pairs rest : Pairs) (moved : Vars) → pairs ≡ map.entries vars → rest ≡ [] → IsPopping pairs rest moved → moved ≡ popped vars
all_popped vars pairs rest moved is none so_far =
    all_renamed popped_name raised IsInverse-popped_name vars rest moved none (subst (λ ps. IsRenaming raised ps rest moved) is so_far)
