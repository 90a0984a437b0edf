-- Variables that lie in one buffer.
use Rattle.std.proofs.Common.{◌≡◌, ◌≢◌, ℕ, suc, ◌+◌, ◌-◌, ◌<◌, ◌≤◌, Bool, true, false, cond, List, [], ◌∷◌, ◌++◌, length, take, drop, slice_get, slice_index_or, None, Some, refl, sym, ap, ◌∙◌, subst, arith, length-append, length-drop, drop-cons, remove, true≢false, inl, inr, map as mapped}
use Rattle.std.proofs.lemmas.List.{take-append-le, drop-append-le}
use Rattle.std.proofs.Math.Seq.{drop-append_seam}
use Rattle.std.proofs.lemmas.List.{take_more}
use Rattle.std.proofs.lemmas.List.Elements.{Contains-append_cases}
use Rattle.std.specs.List.{slice_range}
use Rattle.std.specs.Str.{bytes_eq}
use Rattle.std.specs.Ordering.{nat_cmp, eq_by_cmp}
use Rattle.std.specs.Cmp.Lexicographic.{slice_cmp, bytes_decides, texts_ties}
use Rattle.el_words.specs.Word.{HasNul}
use Rattle.el_env.specs.declared.env.place.Place.{Place}
use Rattle.el_env.specs.Places.{pair_at, pairs_at, IsWithin, AreWithin, IsSound}
use Rattle.el_env.specs.Variable.{pair_of}
use Rattle.el_env.specs.declared.env.variable.Variable.{Variable}
use Rattle.el_env.specs.Inherited.{value_in, StandsAt}

pub within_at : (len : ℕ) (places : List Place) (k : ℕ) (d : Place) → k < length places → AreWithin len places → IsWithin len (slice_index_or places k d)
within_at len [] k d below within = absurd (omega arith)
within_at len (p ∷ ps) Prim.Native.Nat.zero d below within = within.0
within_at len (p ∷ ps) (suc k) d below within = within_at len ps k d (omega arith) within.1

AreWithin-more : (few many : ℕ) (places : List Place) → few ≤ many → AreWithin few places → AreWithin many places
AreWithin-more few many [] le within = tt
AreWithin-more few many (p ∷ ps) le within =
    (record { name = within.0.name; value = within.0.value; whole = omega (arith, within.0.whole) }, AreWithin-more few many ps le within.1)

AreWithin-push : (len : ℕ) (places : List Place) (p : Place) → IsWithin len p → AreWithin len places → AreWithin len (places ++ p ∷ [])
AreWithin-push len [] p one within = (one, tt)
AreWithin-push len (q ∷ qs) p one within = (within.0, AreWithin-push len qs p one within.1)

-- a slice stays when bytes come behind
slice_range-append : (bytes more : List ℕ) (start end : ℕ) → start ≤ end → end ≤ length bytes → slice_range (bytes ++ more) start end ≡ slice_range bytes start end
slice_range-append bytes more start end order within =
    let low : start ≤ length bytes = omega arith in
    let few : end - start ≤ length (drop start bytes) = omega (arith, length-drop start bytes) in
    ap (take (end - start)) (drop-append-le start bytes more low) ∙ take-append-le (end - start) (drop start bytes) more few

take_all : (xs : List ℕ) → take (length xs) xs ≡ xs
take_all [] = refl
take_all (x ∷ xs) = ap (λ ys. x ∷ ys) (take_all xs)

-- the last slice is what came behind
slice_range-last : (bytes more : List ℕ) → slice_range (bytes ++ more) (length bytes) (length (bytes ++ more)) ≡ more
slice_range-last bytes more =
    let count : length (bytes ++ more) - length bytes ≡ length more = omega (arith, length-append bytes more) in
    ap (take (length (bytes ++ more) - length bytes)) (drop-append_seam bytes more) ∙ ap (λ n. take n more) count ∙ take_all more

pairs_at-more : (bytes more : List ℕ) (places : List Place) → AreWithin (length bytes) places → pairs_at (bytes ++ more) places ≡ pairs_at bytes places
pairs_at-more bytes more [] within = refl
pairs_at-more bytes more (p ∷ ps) within =
    λ i. (slice_range-append bytes more p.start p.middle within.0.name (omega (arith, within.0.value, within.0.whole)) i, slice_range-append bytes more p.middle p.end within.0.value within.0.whole i)
    ∷ pairs_at-more bytes more ps within.1 i

pairs_at-push : (bytes : List ℕ) (places : List Place) (p : Place) → pairs_at bytes (places ++ p ∷ []) ≡ pairs_at bytes places ++ pair_at bytes p ∷ []
pairs_at-push bytes [] p = refl
pairs_at-push bytes (q ∷ qs) p = ap (λ ps. pair_at bytes q ∷ ps) (pairs_at-push bytes qs p)

pub record Extends (bytes more : List ℕ) (places : List Place) : Type 0 where
  pub sound : IsSound more places
  pub same : pairs_at more places ≡ pairs_at bytes places

-- bytes behind a buffer change no variable
pub extended : (bytes behind more : List ℕ) (places : List Place) → IsSound bytes places → (HasNul behind → ⊥) → more ≡ bytes ++ behind → Extends bytes more places
extended bytes behind more places sound no_nul is = subst (λ bs. Extends bytes bs places) (sym is) (record {
  sound = record {
    within = AreWithin-more (length bytes) (length (bytes ++ behind)) places (omega (arith, length-append bytes behind)) sound.within;
    no_nul = λ nul. elim (Contains-append_cases bytes behind 0 nul) [ inl front ↦ sound.no_nul front | inr back ↦ no_nul back ];
  };
  same = pairs_at-more bytes behind places sound.within;
})

pub record Gains (bytes more : List ℕ) (places places2 : List Place) (name value : List ℕ) : Type 0 where
  pub sound : IsSound more places2
  pub gains : pairs_at more places2 ≡ pairs_at bytes places ++ (name, value) ∷ []

-- one more variable behind the others
pub pushed : (bytes named more : List ℕ) (places places2 : List Place) (name value : List ℕ) (p : Place) → IsSound bytes places → (HasNul name → ⊥) → (HasNul value → ⊥)
    → named ≡ bytes ++ name → more ≡ named ++ value → p.start ≡ length bytes → p.middle ≡ length named → p.end ≡ length more → places2 ≡ places ++ p ∷ []
    → Gains bytes more places places2 name value
pushed bytes named more places places2 name value p sound name_is_word value_is_word named_is more_is start middle end pushes =
    let one = extended bytes name named places sound name_is_word named_is in
    let two = extended named value more places one.sound value_is_word more_is in
    let named_long : length bytes ≤ length named = omega (arith, ap length named_is, length-append bytes name) in
    let more_long : length named ≤ length more = omega (arith, ap length more_is, length-append named value) in
    let there : pair_at more p ≡ (name, value) =
    (λ i. (slice_range (more_is i) (start i) (middle i), slice_range (more_is i) (middle i) ((end ∙ ap length more_is) i)))
    ∙ (λ i. (
      (slice_range-append named value (length bytes) (length named) named_long (omega arith)
          ∙ ap (λ bs. slice_range bs (length bytes) (length bs)) named_is ∙ slice_range-last bytes name) i,
      slice_range-last named value i,
    )) in
    record {
      sound = subst (IsSound more) (sym pushes) (record {
        within = AreWithin-push (length more) places p (record { name = omega arith; value = omega arith; whole = omega arith }) two.sound.within;
        no_nul = two.sound.no_nul;
      });
      gains = ap (pairs_at more) pushes ∙ pairs_at-push more places p ∙ (λ i. (two.same ∙ one.same) i ++ there i ∷ []);
    }

-- a place that is read lies in the buffer
pub within_of : (bytes lent : List ℕ) (places items : List Place) (k : ℕ) (d : Place) → lent ≡ bytes → items ≡ places → k < length items → IsSound bytes places
    → IsWithin (length lent) (slice_index_or items k d)
within_of bytes lent places items k d lends reads below sound =
    let lt : k < length places = subst (λ ps. k < length ps) reads below in
    subst (λ bs. IsWithin (length bs) (slice_index_or items k d)) (sym lends)
    (subst (λ ps. IsWithin (length bytes) (slice_index_or ps k d)) (sym reads) (within_at (length bytes) places k d lt sound.within))

-- what the places from one on hold, with that one first
pub drop-pairs_at : (bytes lent : List ℕ) (items : List Place) (k : ℕ) (d : Place) → lent ≡ bytes → k < length items
    → pairs_at bytes (drop k items) ≡ pair_at lent (slice_index_or items k d) ∷ pairs_at bytes (drop (k + 1) items)
drop-pairs_at bytes lent items k d lends below =
    let next : suc k ≡ k + 1 = omega arith in
    ap (pairs_at bytes) (drop-cons items k d below)
    ∙ (λ i. pair_at (sym lends i) (slice_index_or items k d) ∷ pairs_at bytes (drop (next i) items))

-- a variable with another name is passed
pub one_passed : (bytes lent : List ℕ) (items : List Place) (k : ℕ) (d : Place) (name : List ℕ) → lent ≡ bytes → k < length items
    → bytes_eq (pair_at lent (slice_index_or items k d)).0 name ≡ false
    → value_in name (pairs_at bytes (drop k items)) ≡ value_in name (pairs_at bytes (drop (k + 1) items))
one_passed bytes lent items k d name lends below other =
    ap (value_in name) (drop-pairs_at bytes lent items k d lends below)
    ∙ by (eq_by_cmp (slice_cmp nat_cmp) name (pair_at lent (slice_index_or items k d)).0) refl
  where
    by : (b : Bool) → eq_by_cmp (slice_cmp nat_cmp) name (pair_at lent (slice_index_or items k d)).0 ≡ b
        → cond b (Some (pair_at lent (slice_index_or items k d)).1) (value_in name (pairs_at bytes (drop (k + 1) items))) ≡ value_in name (pairs_at bytes (drop (k + 1) items))
    by true same = absurd (true≢false
        (sym ((bytes_decides (pair_at lent (slice_index_or items k d)).0 name).1
        (sym ((bytes_decides name (pair_at lent (slice_index_or items k d)).0).0 (texts_ties name (pair_at lent (slice_index_or items k d)).0 ∙ same)))) ∙ other))
    by false _ = refl

slice_get-drop : (pairs : List (List ℕ × List ℕ)) (k : ℕ) (p : List ℕ × List ℕ) (rest : List (List ℕ × List ℕ)) → drop k pairs ≡ p ∷ rest → slice_get pairs k ≡ Some p
slice_get-drop [] Prim.Native.Nat.zero p rest is = let no : ⊥ = cc in absurd no
slice_get-drop [] (suc k) p rest is = let no : ⊥ = cc in absurd no
slice_get-drop (q ∷ qs) Prim.Native.Nat.zero p rest is = let same : q ≡ p = cc in ap (λ x. Some x) same
slice_get-drop (q ∷ qs) (suc k) p rest is = slice_get-drop qs k p rest is

drop-pairs : (bytes : List ℕ) (places : List Place) (k : ℕ) → drop k (pairs_at bytes places) ≡ pairs_at bytes (drop k places)
drop-pairs bytes places Prim.Native.Nat.zero = refl
drop-pairs bytes [] (suc k) = refl
drop-pairs bytes (p ∷ ps) (suc k) = drop-pairs bytes ps k

-- the first with the name
pub one_found : (bytes lent : List ℕ) (places items : List Place) (k : ℕ) (d : Place) (name : List ℕ) (pairs : List (List ℕ × List ℕ)) → lent ≡ bytes → items ≡ places
    → k < length items → bytes_eq (pair_at lent (slice_index_or items k d)).0 name ≡ true → pairs_at bytes places ≡ pairs
    → value_in name (pairs_at bytes places) ≡ value_in name (pairs_at bytes (drop k items)) → StandsAt pairs k name
one_found bytes lent places items k d name pairs lends reads below same view so_far =
    let p = pair_at lent (slice_index_or items k d) in
    let is_name : p.0 ≡ name = (bytes_decides p.0 name).0 same in
    let here = drop-pairs_at bytes lent items k d lends below in
    subst (λ ps. StandsAt ps k name) view (record {
      value = p.1;
      there = slice_get-drop (pairs_at bytes places) k p (pairs_at bytes (drop (k + 1) items))
          (drop-pairs bytes places k ∙ ap (λ ps. pairs_at bytes (drop k ps)) (sym reads) ∙ here) ∙ ap (λ n. Some (n, p.1)) is_name;
      counts = so_far ∙ ap (value_in name) here
          ∙ ap (λ b. cond b (Some p.1) (value_in name (pairs_at bytes (drop (k + 1) items))))
          (sym (texts_ties name p.0) ∙ (bytes_decides name p.0).1 (sym is_name));
    })

pub none_left : (bytes : List ℕ) (items : List Place) (k : ℕ) → length items ≤ k → pairs_at bytes (drop k items) ≡ []
none_left bytes [] Prim.Native.Nat.zero le = refl
none_left bytes [] (suc k) le = refl
none_left bytes (p ∷ ps) Prim.Native.Nat.zero le = absurd (omega (arith, le))
none_left bytes (p ∷ ps) (suc k) le = none_left bytes ps k (omega (arith, le))

pub all_passed : (bytes : List ℕ) (items : List Place) (k : ℕ) (name : List ℕ) (pairs all : List (List ℕ × List ℕ)) → length items ≤ k → pairs ≡ all
    → value_in name pairs ≡ value_in name (pairs_at bytes (drop k items)) → value_in name all ≡ None
all_passed bytes items k name pairs all le view so_far = ap (value_in name) (sym view) ∙ so_far ∙ ap (value_in name) (none_left bytes items k le)

-- what stands in the list has its place
pub has_place : (bytes : List ℕ) (places : List Place) (k : ℕ) (p : List ℕ × List ℕ) → slice_get (pairs_at bytes places) k ≡ Some p → k < length places
has_place bytes [] k p is = let no : ⊥ = cc in absurd no
has_place bytes (q ∷ qs) Prim.Native.Nat.zero p is = omega arith
has_place bytes (q ∷ qs) (suc k) p is = omega (arith, has_place bytes qs k p is)

pub pair_there : (bytes : List ℕ) (places : List Place) (k : ℕ) (d : Place) (p : List ℕ × List ℕ) → slice_get (pairs_at bytes places) k ≡ Some p → pair_at bytes (slice_index_or places k d) ≡ p
pair_there bytes [] k d p is = let no : ⊥ = cc in absurd no
pair_there bytes (q ∷ qs) Prim.Native.Nat.zero d p is = cc
pair_there bytes (q ∷ qs) (suc k) d p is = pair_there bytes qs k d p is

-- without the place at k
pub AreWithin-remove : (len : ℕ) (places : List Place) (k : ℕ) → AreWithin len places → AreWithin len (remove places k)
AreWithin-remove len [] Prim.Native.Nat.zero within = tt
AreWithin-remove len [] (suc k) within = tt
AreWithin-remove len (p ∷ ps) Prim.Native.Nat.zero within = within.1
AreWithin-remove len (p ∷ ps) (suc k) within = (within.0, AreWithin-remove len ps k within.1)

pub value_in-remove : (bytes : List ℕ) (places : List Place) (k : ℕ) (name value other : List ℕ) → slice_get (pairs_at bytes places) k ≡ Some (name, value) → other ≢ name
    → value_in other (pairs_at bytes (remove places k)) ≡ value_in other (pairs_at bytes places)
value_in-remove bytes [] k name value other is apart = let no : ⊥ = cc in absurd no
value_in-remove bytes (p ∷ ps) Prim.Native.Nat.zero name value other is apart =
    by (eq_by_cmp (slice_cmp nat_cmp) other (pair_at bytes p).0) refl
  where
    by : (b : Bool) → eq_by_cmp (slice_cmp nat_cmp) other (pair_at bytes p).0 ≡ b → value_in other (pairs_at bytes ps) ≡ cond b (Some (pair_at bytes p).1) (value_in other (pairs_at bytes ps))
    by true same =
        let first : (pair_at bytes p).0 ≡ name = cc in
        absurd (apart ((bytes_decides other (pair_at bytes p).0).0 (texts_ties other (pair_at bytes p).0 ∙ same) ∙ first))
    by false _ = refl
value_in-remove bytes (p ∷ ps) (suc k) name value other is apart =
    ap (cond (eq_by_cmp (slice_cmp nat_cmp) other (pair_at bytes p).0) (Some (pair_at bytes p).1)) (value_in-remove bytes ps k name value other is apart)

-- the variables of one more place
pub pairs_at-more_taken : (bytes lent : List ℕ) (items : List Place) (k : ℕ) (d : Place) (v : Variable) → lent ≡ bytes → k < length items → pair_of v ≡ pair_at lent (slice_index_or items k d)
    → pairs_at bytes (take (k + 1) items) ≡ pairs_at bytes (take k items) ++ pair_of v ∷ []
pairs_at-more_taken bytes lent items k d v lends below is =
    ap (pairs_at bytes) (take_more items k d below) ∙ pairs_at-push bytes (take k items) (slice_index_or items k d)
    ∙ ap (λ p. pairs_at bytes (take k items) ++ p ∷ []) (ap (λ bs. pair_at bs (slice_index_or items k d)) (sym lends) ∙ sym is)

pub mapped-push : (lent : List Variable) (v : Variable) → mapped pair_of (lent ++ v ∷ []) ≡ mapped pair_of lent ++ pair_of v ∷ []
mapped-push [] v = refl
mapped-push (w ∷ ws) v = ap (λ ps. pair_of w ∷ ps) (mapped-push ws v)

pub all_taken : (bytes : List ℕ) (places items : List Place) (k : ℕ) (pairs : List (List ℕ × List ℕ)) → items ≡ places → length items ≤ k → pairs_at bytes places ≡ pairs
    → pairs_at bytes (take k items) ≡ pairs
all_taken bytes places items k pairs reads le view = ap (pairs_at bytes) (whole items k le ∙ reads) ∙ view
  where
    whole : (ps : List Place) (n : ℕ) → length ps ≤ n → take n ps ≡ ps
    whole [] Prim.Native.Nat.zero le = refl
    whole [] (suc n) le = refl
    whole (q ∷ qs) Prim.Native.Nat.zero le = absurd (omega (arith, le))
    whole (q ∷ qs) (suc n) le = ap (λ rs. q ∷ rs) (whole qs n (omega (arith, le)))

pub within_at_read : (bytes lent : List ℕ) (places : List Place) (k : ℕ) (p : Place) → lent ≡ bytes → p ≡ slice_index_or places k p → k < length places → IsSound bytes places
    → IsWithin (length lent) p
within_at_read bytes lent places k p lends read below sound =
    subst (IsWithin (length lent)) (sym read) (within_of bytes lent places places k p lends refl below sound)

pub has_pair : (bytes lent : List ℕ) (places : List Place) (k : ℕ) (p : Place) (v : Variable) (name value : List ℕ) → lent ≡ bytes → p ≡ slice_index_or places k p
    → pair_of v ≡ pair_at lent p → slice_get (pairs_at bytes places) k ≡ Some (name, value) → v.value.now ≡ value
has_pair bytes lent places k p v name value lends read is there =
    ap (λ (q : List ℕ × List ℕ). q.1)
    (is ∙ (λ i. pair_at (lends i) (read i)) ∙ pair_there bytes places k p (name, value) there)

pub length-pairs_at : (bytes : List ℕ) (places : List Place) → length (pairs_at bytes places) ≡ length places
length-pairs_at bytes [] = refl
length-pairs_at bytes (p ∷ ps) = ap suc (length-pairs_at bytes ps)

pub IsSound-remove : (bytes : List ℕ) (places : List Place) (k : ℕ) → IsSound bytes places → IsSound bytes (remove places k)
IsSound-remove bytes places k sound = record { within = AreWithin-remove (length bytes) places k sound.within; no_nul = sound.no_nul }
