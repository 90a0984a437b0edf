-- The words of an accepted script.
use Rattle.el_script.proofs.Vocabulary.{spelled, Token, lexed, reads-lexed, spelling_of, spelling-answered, Tree, written, words_value, positional_pairs, MeetsAll}
use Rattle.std.proofs.Common.{◌≡◌, ◌⊎◌, inl, inr, ℕ, ◌<◌, ◌^◌, List, length, Ok, refl, sym, ap, subst, ◌∙◌}
use Rattle.el_check.specs.declared.params.Params.{Params}
use Rattle.el_check.specs.declared.params.Params.TheVariants.{Frame, Leave, Subst}
use Rattle.el_check.specs.Scripts.{first_marks, first_scope, IsAcceptedScript}
use Rattle.el_check.proofs.Scopes.{first-meets}
use Rattle.el_check.specs.Operands.{tree_words}

-- an accepted script is spelled as its tree is
pub spelled_so : (params : Params) (script : List ℕ) (tree : Tree) (tokens : List Token) (words : List (List ℕ)) → IsAcceptedScript params script tree → lexed script ≡ Ok tokens → spelling_of tokens ≡ Ok words → words ≡ spelled 0 (written tree)
spelled_so params script tree tokens words accepted lexes spells =
    let same : tokens ≡ accepted.tokens = (let both : Ok tokens ≡ Ok accepted.tokens = sym lexes ∙ reads-lexed script accepted.tokens accepted.lexes in cc) in
    let both : Ok words ≡ Ok (spelled 0 (written tree)) =
    sym spells ∙ ap spelling_of same ∙ spelling-answered accepted.tokens (spelled 0 (written tree)) (record { args = written tree; are_tokens = accepted.are_tokens; within = accepted.within; are_words = refl }) in
    cc

module _ (params : Params) (script zero : List ℕ) (args : List (List ℕ)) (least : ℕ) (is : params ≡ Subst least) where
  -- with the positional parameters put in they are the tree's words in the first scope
  pub put_so : (words made : List (List ℕ)) → ((tree : Tree) → IsAcceptedScript params script tree → words ≡ spelled 0 (written tree)) → made ≡ words_value (positional_pairs zero args least) words
      → (tree : Tree) → IsAcceptedScript params script tree → made ≡ tree_words (first_scope params zero args) tree
  put_so words made spells same tree accepted =
      same ∙ ap (words_value (positional_pairs zero args least)) (spells tree accepted) ∙ sym (ap (λ params. tree_words (first_scope params zero args) tree) is)

  -- and the first scope meets the first marks
  pub meets_so : least < 2 ^ 64 → length args < 2 ^ 64 → MeetsAll (first_scope params zero args) (first_marks params)
  meets_so small few = subst (λ params. MeetsAll (first_scope params zero args) (first_marks params)) (sym is) (first-meets (Subst least) zero args small few)

module _ (params : Params) (script zero : List ℕ) (args : List (List ℕ)) (is : (params ≡ Frame) ⊎ (params ≡ Leave)) where
  -- otherwise the script's words are the tree's in the first scope, which is empty
  pub as_spelled : (words : List (List ℕ)) → ((tree : Tree) → IsAcceptedScript params script tree → words ≡ spelled 0 (written tree)) → (tree : Tree) → IsAcceptedScript params script tree → words ≡ tree_words (first_scope params zero args) tree
  as_spelled words spells tree accepted = spells tree accepted ∙ sym (by is)
    where
      by : (params ≡ Frame) ⊎ (params ≡ Leave) → tree_words (first_scope params zero args) tree ≡ spelled 0 (written tree)
      by (inl frame) = ap (λ params. tree_words (first_scope params zero args) tree) frame
      by (inr leave) = ap (λ params. tree_words (first_scope params zero args) tree) leave

  pub meets_none : MeetsAll (first_scope params zero args) (first_marks params)
  meets_none = by is
    where
      by : (params ≡ Frame) ⊎ (params ≡ Leave) → MeetsAll (first_scope params zero args) (first_marks params)
      by (inl frame) = subst (λ params. MeetsAll (first_scope params zero args) (first_marks params)) (sym frame) tt
      by (inr leave) = subst (λ params. MeetsAll (first_scope params zero args) (first_marks params)) (sym leave) tt
