-- An environment without a table has no variable.
use Rattle.std.proofs.Common.{◌≡◌, ℕ, List, [], Bool, true, false, cond, Option, None, Some, Box, refl, sym, ap, ◌∙◌, subst}
use Rattle.std.specs.Ordering.{nat_cmp, eq_by_cmp}
use Rattle.std.specs.Cmp.Lexicographic.{slice_cmp, nat_list_cmp_total}
use Rattle.std.specs.declared.alloc.Global.{Global}
use Rattle.std.specs.FinMap as map
use Rattle.std.specs.FinMap.{get-empty, get-remove}
use Rattle.el_env.specs.Vars.{Vars}
use Rattle.el_env.specs.Name.{NamesAreGood}
use Rattle.el_env.specs.Table.{tabled}
use Rattle.el_env.proofs.Named.{same_vars}
use Rattle.el_env.proofs.GoodNames.{NamesAreGood-empty}
use Rattle.el_env.proofs.Sorting.{entries-rising}

-- the variables are those of the table
pub tabled-value : (held : Option (Box Vars Global)) (table : Box Vars Global) (value vars : Vars) → tabled held ≡ vars → held ≡ Some table → value ≡ table.value → value ≡ vars
tabled-value held table value vars vars_are held_is value_is = value_is ∙ sym (ap tabled held_is) ∙ vars_are

pub untabled : (held : Option (Box Vars Global)) (vars : Vars) → tabled held ≡ vars → held ≡ None → map.empty ≡ vars
untabled held vars vars_are held_is = sym (ap tabled held_is) ∙ vars_are

pub untabled-get : (held : Option (Box Vars Global)) (vars : Vars) (name : List ℕ) → tabled held ≡ vars → held ≡ None → None ≡ map.get vars name
untabled-get held vars name vars_are held_is =
    sym (get-empty (slice_cmp nat_cmp) name) ∙ ap (λ (m : Vars). map.get m name) (untabled held vars vars_are held_is)

by_either : (b : Bool) (found : Option (List ℕ)) → None ≡ found → cond b None found ≡ found
by_either true found none = none
by_either false found none = refl

remove-empty : (name : List ℕ) → map.remove {X = List ℕ} {R = slice_cmp nat_cmp} map.empty name ≡ map.empty
remove-empty name = same_vars (map.remove map.empty name) map.empty
    (λ other. get-remove nat_list_cmp_total map.empty name other ∙ by_either (eq_by_cmp (slice_cmp nat_cmp) other name) _ (sym (get-empty (slice_cmp nat_cmp) other)))

pub untabled-remove : (held : Option (Box Vars Global)) (vars : Vars) (name : List ℕ) → tabled held ≡ vars → held ≡ None → vars ≡ map.remove vars name
untabled-remove held vars name vars_are held_is =
    let none = untabled held vars vars_are held_is in
    sym none ∙ sym (remove-empty name) ∙ ap (λ (m : Vars). map.remove m name) none

pub untabled-good : (held : Option (Box Vars Global)) (vars : Vars) → tabled held ≡ vars → held ≡ None → NamesAreGood vars
untabled-good held vars vars_are held_is = subst NamesAreGood (untabled held vars vars_are held_is) NamesAreGood-empty

pub untabled-entries : (held : Option (Box Vars Global)) (vars : Vars) → tabled held ≡ vars → held ≡ None → [] ≡ map.entries vars
untabled-entries held vars vars_are held_is = entries-rising [] tt ∙ ap map.entries (untabled held vars vars_are held_is)
