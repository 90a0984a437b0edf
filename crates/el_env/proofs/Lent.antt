-- Stored entries, lent one after another.
use Rattle.std.proofs.Common.{suc, ◌+◌, ◌<◌, ◌≤◌, arith, length, drop, drop-cons, slice_index_or, ◌≡◌, ℕ, Bool, true, false, cond, List, [], ◌∷◌, ◌++◌, Vec, Option, None, Some, is_some, true≢false, map as mapped, refl, sym, ap, ◌∙◌, append_assoc}
use Rattle.std.specs.Ordering.{nat_cmp, eq_by_cmp}
use Rattle.std.specs.Cmp.Lexicographic.{slice_cmp, bytes_decides, texts_ties, nat_list_cmp_total}
use Rattle.std.specs.declared.alloc.Global.{Global}
use Rattle.std.specs.FinMap as map
use Rattle.std.specs.FinMap.{get-from_entries}
use Rattle.std.specs.Option.{option_or}
use Rattle.el_env.specs.Vars.{Vars}
use Rattle.el_env.specs.Entries.{named}
use Rattle.el_env.specs.Name.{NamesAreGood}
use Rattle.el_env.specs.Variable.{pair_of}
use Rattle.el_env.specs.declared.env.variable.Variable.{Variable}
use Rattle.el_env.specs.Inherited.{value_in}
use Rattle.el_env.proofs.Named.{Entries, Pairs, lookup_by, vars_of, get-vars_of}
use Rattle.el_env.proofs.Places.{mapped-push}

-- the stored ones alone
abbrev pub stored : Entries → Vars
stored entries = map.from_entries (named entries)

-- behind those before them so many are lent, and the rest are still to be
pub record IsLending (before : Pairs) (entries rest : Entries) (lent : List Variable) : Type 0 where
  pub part : Pairs
  pub so_far : mapped pair_of lent ≡ before ++ part
  pub all : part ++ named rest ≡ named entries

no_more : (ps : Pairs) → ps ++ [] ≡ ps
no_more [] = refl
no_more (p ∷ ps) = ap (λ qs. p ∷ qs) (no_more ps)

pub none_lent : (entries : Entries) (lent : List Variable) → IsLending (mapped pair_of lent) entries entries lent
none_lent entries lent = record { part = []; so_far = sym (no_more (mapped pair_of lent)); all = refl }

pub one_lent : (before : Pairs) (entries rest next : Entries) (lent more : List Variable) (name : Vec ℕ Global) (value : List ℕ) (v : Variable)
    → rest ≡ (name, value) ∷ next → more ≡ lent ++ v ∷ [] → pair_of v ≡ (name.items, value) → IsLending before entries rest lent → IsLending before entries next more
one_lent before entries rest next lent more name value v here pushed is lending = record {
  part = lending.part ++ (name.items, value) ∷ [];
  so_far = ap (mapped pair_of) pushed ∙ mapped-push lent v ∙ ap (λ p. mapped pair_of lent ++ p ∷ []) is
      ∙ ap (λ ps. ps ++ (name.items, value) ∷ []) lending.so_far ∙ append_assoc before lending.part ((name.items, value) ∷ []);
  all = append_assoc lending.part ((name.items, value) ∷ []) (named next) ∙ ap (λ es. lending.part ++ named es) (sym here) ∙ lending.all;
}

pub all_lent : (before : Pairs) (entries rest : Entries) (lent : List Variable) → rest ≡ [] → IsLending before entries rest lent → mapped pair_of lent ≡ before ++ named entries
all_lent before entries rest lent none lending =
    lending.so_far ∙ ap (λ ps. before ++ ps) (sym (no_more lending.part) ∙ ap (λ es. lending.part ++ named es) (sym none) ∙ lending.all)

-- the one that is next is set
pub next_is_set : (before : Pairs) (entries rest next : Entries) (lent : List Variable) (name : Vec ℕ Global) (value : List ℕ) (vars : Vars)
    → rest ≡ (name, value) ∷ next → stored entries ≡ vars → IsLending before entries rest lent → map.contains_key vars name.items ≡ true
next_is_set before entries rest next lent name value vars here is lending =
    ap is_some (ap (λ (m : Vars). map.get m name.items) (sym is) ∙ get-from_entries nat_list_cmp_total (named entries) name.items)
    ∙ ap (λ ps. is_some (value_in name.items ps)) (sym lending.all ∙ ap (λ es. lending.part ++ named es) here) ∙ behind lending.part
  where
    behind : (front : Pairs) → is_some (value_in name.items (front ++ (name.items, value) ∷ named next)) ≡ true
    behind [] = ap (λ b. is_some (cond b (Some value) (value_in name.items (named next)))) (sym (texts_ties name.items name.items) ∙ (bytes_decides name.items name.items).1 refl)
    behind (p ∷ ps) = by (eq_by_cmp (slice_cmp nat_cmp) name.items p.0) (behind ps)
      where
        by : (b : Bool) → is_some (value_in name.items (ps ++ (name.items, value) ∷ named next)) ≡ true
            → is_some (cond b (Some p.1) (value_in name.items (ps ++ (name.items, value) ∷ named next))) ≡ true
        by true later = refl
        by false later = later

-- the names of the stored ones are good where all are
pub stored_are_good : (entries : Entries) (inherited : Pairs) (vars : Vars) → vars_of entries inherited ≡ vars → NamesAreGood (vars_of entries inherited) → NamesAreGood (stored entries)
stored_are_good entries inherited vars is words name set = words name
    (ap is_some (get-vars_of name entries inherited)
    ∙ among (lookup_by name entries) (sym (ap is_some (get-from_entries nat_list_cmp_total (named entries) name)) ∙ set))
  where
    among : (o : Option (List ℕ)) → is_some o ≡ true → is_some (option_or o (value_in name inherited)) ≡ true
    among None none = absurd (true≢false (sym none))
    among (Some v) some = refl

-- the next of a list that is lent
pub next_lent : (items : List Variable) (k : ℕ) (v : Variable) → k < length items → v ≡ slice_index_or items k v
    → mapped pair_of (drop k items) ≡ pair_of v ∷ mapped pair_of (drop (k + 1) items)
next_lent items k v below is =
    let next : suc k ≡ k + 1 = omega arith in
    ap (mapped pair_of) (drop-cons items k v below) ∙ (λ i. pair_of (sym is i) ∷ mapped pair_of (drop (next i) items))

pub none_next : (items : List Variable) (k : ℕ) → length items ≤ k → mapped pair_of (drop k items) ≡ []
none_next [] Prim.Native.Nat.zero le = refl
none_next [] (suc k) le = refl
none_next (v ∷ vs) Prim.Native.Nat.zero le = absurd (omega (arith, le))
none_next (v ∷ vs) (suc k) le = none_next vs k (omega (arith, le))
