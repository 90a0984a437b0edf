use Rattle.std.proofs.Common.{◌≡◌, ℕ, ◌≤◌, ◌<◌, List, [], ◌∷◌, length, slice_index_or, arith, sym, ap, ◌∙◌, subst}
use Rattle.el_subst.specs.Values.{Pairs, word_value}
use Rattle.el_subst.specs.Telling.{IsTelling}
use Rattle.el_subst.proofs.Values.{plain-stays}
use Rattle.el_subst.proofs.Telling.{telling-stays}
use Rattle.el_subst.proofs.lookup.Lookup.telling_byte.Goals as goal

-- the only pair
only : (pairs : Pairs) (pair : List ℕ × List (List ℕ)) → 1 ≤ length pairs → length pairs < 2 → pair ≡ slice_index_or pairs 0 pair → pairs ≡ pair ∷ []
only [] pair one below is = absurd (omega (arith, one))
only (first ∷ []) pair one below is = ap (λ (p : List ℕ × List (List ℕ)). p ∷ []) (sym is)
only (first ∷ second ∷ pairs) pair one below is = absurd (omega (arith, below))

pub returns-in-len1 : goal.returns-in-len1
returns-in-len1 c = λ word none.
    let pair = c.pair-item.result in
    ap (λ pairs. word_value pairs word) (sym c.self.view_is ∙ only c.self.inside.pairs.now pair c.in-len1.len_at_least c.in-len1.len_below c.pair-item.is)
    ∙ telling-stays pair.0 pair.1 c.last_byte.result (subst (λ key. IsTelling key c.last_byte.result) c.as_bytes.ensures.same c.last_byte.ensures) word none

pub returns-in_default : goal.returns-in_default
returns-in_default c = λ word none. plain-stays c.args.self.now word none

pub returns-in_default-2 : goal.returns-in_default-2
returns-in_default-2 c = λ word none. plain-stays c.args.self.now word none
