-- How variables change where programs set and remove them.
use Rattle.el_room.proofs.Vocabulary.{decimal, nat_cmp, eq_by_cmp, slice_cmp, bytes_decides, texts_ties, nat_list_cmp_total, bytes_eq, get-insert, get-remove, get-retain_keys, slice_cmp-IsAntisymmetric, nat_cmp-IsAntisymmetric, before_first, after_first, Prog, Importas, Vars, with_numbered, with_positionals, Second, DirectiveRead, directive_has, directive_text}
use Rattle.std.proofs.Common.{◌≡◌, ℕ, suc, Bool, true, false, cond, List, [], ◌∷◌, Option, Some, None, is_some, refl, sym, ap, ◌∙◌, inl, inr, codes, length, if◌then◌else◌}
use Rattle.std.specs.FinMap as map
use Rattle.std.specs.FinMap.{get-empty}
use Rattle.el_words.proofs.Truths.{none_is_some}
use Rattle.el_vars.specs.Numbered.{without_numbered}
use Rattle.el_vars.specs.Envfile.{is_equals, is_skipped, with_line, with_lines}
use Rattle.el_vars.specs.Importas.{without_imported}
use Rattle.el_vars.specs.Multisubstitute.{all_left, left_by}
use Rattle.el_machine.specs.Changes.{ChangesOnly, ChangesOne, IsNumbered, ChangesNumbered, RemovesOnly, RemovesNone}

-- ---- one variable

is_other : (name other : List ℕ) → (other ≡ name → ⊥) → eq_by_cmp (slice_cmp nat_cmp) other name ≡ false
is_other name other apart = by (eq_by_cmp (slice_cmp nat_cmp) other name) refl
  where
    by : (b : Bool) → eq_by_cmp (slice_cmp nat_cmp) other name ≡ b → eq_by_cmp (slice_cmp nat_cmp) other name ≡ false
    by true same = absurd (apart ((bytes_decides other name).0 (texts_ties other name ∙ same)))
    by false is = is

pub only_set : (env : Vars) (name value : List ℕ) → ChangesOnly name env (map.insert env name value)
only_set env name value = record { others = λ other apart. get-insert nat_list_cmp_total env name value other ∙ ap (λ b. cond b (Some value) (map.get env other)) (is_other name other apart) }

pub only_removed : (env : Vars) (name : List ℕ) → ChangesOnly name env (map.remove env name)
only_removed env name = record { others = λ other apart. get-remove nat_list_cmp_total env name other ∙ ap (λ b. cond b None (map.get env other)) (is_other name other apart) }

pub one_set : (env : Vars) (name value : List ℕ) → ChangesOne env (map.insert env name value)
one_set env name value = record { name = name; only = only_set env name value }

pub one_removed : (env : Vars) (name : List ℕ) → ChangesOne env (map.remove env name)
one_removed env name = record { name = name; only = only_removed env name }

-- ---- removals alone

pub removes_nothing : (env : Vars) → RemovesOnly env env
removes_nothing env = record { was_set = λ name value is. is }

pub removes_more : (first second third : Vars) → RemovesOnly first second → RemovesOnly second third → RemovesOnly first third
removes_more first second third one two = record { was_set = λ name value is. one.was_set name value (two.was_set name value is) }

pub removes_one : (env : Vars) (name : List ℕ) → RemovesOnly env (map.remove env name)
removes_one env name = record { was_set = λ other value is. by other value (eq_by_cmp (slice_cmp nat_cmp) other name) refl is }
  where
    by : (other value : List ℕ) (b : Bool) → eq_by_cmp (slice_cmp nat_cmp) other name ≡ b → map.get (map.remove env name) other ≡ Some value → map.get env other ≡ Some value
    by other value true same is = none_is_some value (sym (get-remove nat_list_cmp_total env name other ∙ ap (λ b. cond b None (map.get env other)) same) ∙ is)
    by other value false apart is = sym (get-remove nat_list_cmp_total env name other ∙ ap (λ b. cond b None (map.get env other)) apart) ∙ is

pub removes_all : (env : Vars) → RemovesOnly env map.empty
removes_all env = record { was_set = λ name value is. none_is_some value (sym (get-empty (slice_cmp nat_cmp) name) ∙ is) }

pub removes_others : (env : Vars) (name : List ℕ) → RemovesOnly env (map.retain_keys env (λ key. bytes_eq key name))
removes_others env name = record { was_set = λ other value is. by other value (bytes_eq other name) refl is }
  where
    kept : (other : List ℕ) → map.get (map.retain_keys env (λ key. bytes_eq key name)) other ≡ cond (bytes_eq other name) (map.get env other) None
    kept other = get-retain_keys env (λ key. bytes_eq key name) other
        (λ x tie. ap (λ key. bytes_eq key name) (sym (slice_cmp-IsAntisymmetric nat_cmp-IsAntisymmetric other x tie)))

    by : (other value : List ℕ) (b : Bool) → bytes_eq other name ≡ b → map.get (map.retain_keys env (λ key. bytes_eq key name)) other ≡ Some value → map.get env other ≡ Some value
    by other value true same is = sym (kept other ∙ ap (λ b. cond b (map.get env other) None) same) ∙ is
    by other value false apart is = none_is_some value (sym (kept other ∙ ap (λ b. cond b (map.get env other) None) apart) ∙ is)

-- directives remove what `u` names
pub removes_imported : (directive : DirectiveRead) (env : Vars) → RemovesOnly env (without_imported directive env)
removes_imported directive env = by (directive_has (codes "u") directive)
  where
    by : (removes : Bool) → RemovesOnly env (if removes then map.remove env (directive_text Second directive) else env)
    by true = removes_one env _
    by false = removes_nothing env

removes_left : (directive : DirectiveRead) (env : Vars) → RemovesOnly env (left_by directive.program directive env)
removes_left directive env = by directive.program
  where
    by : (program : Prog) → RemovesOnly env (left_by program directive env)
    by Importas = removes_imported directive env
    by _ = removes_nothing env

pub removes_all_left : (directives : List DirectiveRead) (env : Vars) → RemovesOnly env (all_left directives env)
removes_all_left [] env = removes_nothing env
removes_all_left (directive ∷ directives) env = removes_more env (left_by directive.program directive env) _ (removes_left directive env) (removes_all_left directives (left_by directive.program directive env))

-- ---- no removals

pub keeps_all : (env : Vars) → RemovesNone env env
keeps_all env = record { is_set = λ name is. is }

pub keeps_more : (first second third : Vars) → RemovesNone first second → RemovesNone second third → RemovesNone first third
keeps_more first second third one two = record { is_set = λ name is. two.is_set name (one.is_set name is) }

pub keeps_set : (env : Vars) (name value : List ℕ) → RemovesNone env (map.insert env name value)
keeps_set env name value = record { is_set = λ other is. ap is_some (get-insert nat_list_cmp_total env name value other) ∙ by (eq_by_cmp (slice_cmp nat_cmp) other name) (map.get env other) is }
  where
    by : (b : Bool) (found : Option (List ℕ)) → is_some found ≡ true → is_some (cond b (Some value) found) ≡ true
    by true found is = refl
    by false found is = is

-- the lines of a file set their variables
keeps_line : (line : List ℕ) (env : Vars) → RemovesNone env (with_line line env)
keeps_line line env = by (is_skipped line)
  where
    by : (skipped : Bool) → RemovesNone env (if skipped then env else map.insert env (before_first is_equals line) (after_first is_equals line))
    by true = keeps_all env
    by false = keeps_set env _ _

pub keeps_lines : (all : List (List ℕ)) (env : Vars) → RemovesNone env (with_lines all env)
keeps_lines [] env = keeps_all env
keeps_lines (line ∷ all) env = keeps_more env (with_line line env) _ (keeps_line line env) (keeps_lines all (with_line line env))

-- ---- the positionals, but for the zeroth

numbered : (number n : ℕ) (name : List ℕ) → n ≡ suc number → name ≡ decimal n → IsNumbered name
numbered number n name is same = inr (number, same ∙ ap decimal is)

get-with_numbered : (args : List (List ℕ)) (number : ℕ) (env : Vars) (name : List ℕ) → (IsNumbered name → ⊥) → map.get (with_numbered (suc number) args env) name ≡ map.get env name
get-with_numbered [] number env name apart = refl
get-with_numbered (arg ∷ args) number env name apart =
    get-with_numbered args (suc number) (map.insert env (decimal (suc number)) arg) name apart ∙ (only_set env (decimal (suc number)) arg).others name (λ same. apart (inr (number, same)))

get-without_numbered : (count number : ℕ) (env : Vars) (name : List ℕ) → (IsNumbered name → ⊥) → map.get (without_numbered count (suc number) env) name ≡ map.get env name
get-without_numbered Prim.Native.Nat.zero number env name apart = refl
get-without_numbered (suc count) number env name apart =
    get-without_numbered count (suc number) (map.remove env (decimal (suc number))) name apart ∙ (only_removed env (decimal (suc number))).others name (λ same. apart (inr (number, same)))

-- where `0` is set so, other positionals and fewer of them change the numbered ones alone
pub numbered_changed : (env : Vars) (zero : List ℕ) (args : List (List ℕ)) (count number : ℕ) → map.get env (codes "0") ≡ Some zero
    → ChangesNumbered env (with_positionals zero args (without_numbered count (suc number) env))
numbered_changed env zero args count number zeroth = record { others = others }
  where
    fewer : Vars
    fewer = without_numbered count (suc number) env

    zeroed : (name : List ℕ) → (IsNumbered name → ⊥) → (b : Bool) → eq_by_cmp (slice_cmp nat_cmp) name (codes "0") ≡ b → map.get (map.insert fewer (codes "0") zero) name ≡ map.get env name
    zeroed name apart true same =
        get-insert nat_list_cmp_total fewer (codes "0") zero name ∙ ap (λ b. cond b (Some zero) (map.get fewer name)) same
        ∙ sym zeroth ∙ ap (map.get env) (sym ((bytes_decides name (codes "0")).0 (texts_ties name (codes "0") ∙ same)))
    zeroed name apart false other =
        get-insert nat_list_cmp_total fewer (codes "0") zero name ∙ ap (λ b. cond b (Some zero) (map.get fewer name)) other ∙ get-without_numbered count number env name apart

    others : (name : List ℕ) → (IsNumbered name → ⊥) → map.get (with_positionals zero args fewer) name ≡ map.get env name
    others name apart =
        (only_set (with_numbered 1 args (map.insert fewer (codes "0") zero)) (codes "#") (decimal (length args))).others name (λ same. apart (inl same))
        ∙ get-with_numbered args 0 (map.insert fewer (codes "0") zero) name apart
        ∙ zeroed name apart (eq_by_cmp (slice_cmp nat_cmp) name (codes "0")) refl
