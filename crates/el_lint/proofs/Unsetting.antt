-- References in turn.
use Rattle.std.proofs.Common.{◌≡◌, ℕ, List, [], ◌∷◌, ◌++◌, sym, ap, ◌∙◌, append_assoc, append-nil}
use Rattle.el_subst.specs.References.{Referred, references_of}
use Rattle.el_lint.specs.declared.lint.Lint.{Lint}
use Rattle.el_lint.specs.Known.{Known}
use Rattle.el_lint.specs.Lints.{unset_at, unset_in}

module _ (known : Known) (around : List (List ℕ)) where
  -- the first reference is looked at, and what follows it is left
  pub unset-next : (old new before : List Lint) (rest more : List ℕ) (slashes : ℕ) (key : List ℕ) → references_of rest ≡ (slashes, key) ∷ references_of more
      → old ++ unset_in known around (references_of rest) ≡ before → new ≡ old ++ unset_at known around (slashes, key) → new ++ unset_in known around (references_of more) ≡ before
  unset-next old new before rest more slashes key is found put =
      ap (λ (lints : List Lint). lints ++ unset_in known around (references_of more)) put
      ∙ append_assoc old (unset_at known around (slashes, key)) (unset_in known around (references_of more))
      ∙ ap (λ (references : List Referred). old ++ unset_in known around references) (sym is) ∙ found

  pub unset-done : (old before : List Lint) (rest : List ℕ) → references_of rest ≡ [] → old ++ unset_in known around (references_of rest) ≡ before → old ≡ before
  unset-done old before rest none found = sym (append-nil old) ∙ ap (λ (references : List Referred). old ++ unset_in known around references) (sym none) ∙ found

pub ruleset unsetting = (append_assoc, append-nil)
