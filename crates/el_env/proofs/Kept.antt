-- A map of one name.
use Rattle.std.proofs.Common.{◌≡◌, ℕ, Bool, true, false, cond, List, None, Some, refl, sym, ap, ◌∙◌}
use Rattle.std.specs.Str.{bytes_eq}
use Rattle.std.specs.Ordering.{nat_cmp}
use Rattle.std.specs.Cmp.Lexicographic.{slice_cmp, bytes_decides, texts_ties, nat_list_cmp_total}
use Rattle.std.specs.FinMap as map
use Rattle.std.specs.FinMap.{get-empty, get-insert, get-retain_keys, slice_cmp-IsAntisymmetric, nat_cmp-IsAntisymmetric}
use Rattle.el_env.specs.Vars.{Vars}
use Rattle.el_env.proofs.Named.{same_vars}

get-only : (vars : Vars) (name q : List ℕ) → map.get (map.retain_keys vars (λ k. bytes_eq k name)) q ≡ cond (bytes_eq q name) (map.get vars q) None
get-only vars name q = get-retain_keys vars (λ k. bytes_eq k name) q
    (λ x tie. ap (λ k. bytes_eq k name) (sym (slice_cmp-IsAntisymmetric nat_cmp-IsAntisymmetric q x tie)))

-- a map of the name alone is what stays of a map that has the name
pub retain_keys-one : (vars : Vars) (name value : List ℕ) → map.get vars name ≡ Some value → map.insert map.empty name value ≡ map.retain_keys vars (λ k. bytes_eq k name)
retain_keys-one vars name value set = same_vars _ _ (λ q. by q (bytes_eq q name) refl ∙ sym (get-only vars name q))
  where
    new : (q : List ℕ) → map.get {R = slice_cmp nat_cmp} (map.insert map.empty name value) q ≡ cond (bytes_eq q name) (Some value) None
    new q = get-insert nat_list_cmp_total map.empty name value q ∙ (λ i. cond (sym (texts_ties q name) i) (Some value) (get-empty (slice_cmp nat_cmp) q i))

    by : (q : List ℕ) (b : Bool) → bytes_eq q name ≡ b → map.get {R = slice_cmp nat_cmp} (map.insert map.empty name value) q ≡ cond (bytes_eq q name) (map.get vars q) None
    by q true same =
        new q ∙ ap (λ b. cond b (Some value) None) same ∙ sym set ∙ ap (map.get vars) (sym ((bytes_decides q name).0 same))
        ∙ sym (ap (λ b. cond b (map.get vars q) None) same)
    by q false other = new q ∙ ap (λ b. cond b (Some value) None) other ∙ sym (ap (λ b. cond b (map.get vars q) None) other)

-- and no name is what stays of a map that hasn't
pub retain_keys-none : (vars : Vars) (name : List ℕ) → map.get vars name ≡ None → map.empty ≡ map.retain_keys vars (λ k. bytes_eq k name)
retain_keys-none vars name unset = same_vars _ _ (λ q. get-empty (slice_cmp nat_cmp) q ∙ sym (get-only vars name q ∙ by q (bytes_eq q name) refl))
  where
    by : (q : List ℕ) (b : Bool) → bytes_eq q name ≡ b → cond (bytes_eq q name) (map.get vars q) None ≡ None
    by q true same = ap (λ b. cond b (map.get vars q) None) same ∙ ap (map.get vars) ((bytes_decides q name).0 same) ∙ unset
    by q false other = ap (λ b. cond b (map.get vars q) None) other
