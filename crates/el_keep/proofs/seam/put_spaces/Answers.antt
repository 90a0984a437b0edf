use Rattle.std.proofs.Common.{◌∷◌, [], ◌++◌, ◌∙◌, List, ℕ, ap, sym, append_assoc}
use Rattle.el_keep.specs.Seams.{spaces}
use Rattle.el_keep.proofs.Spaces.{spaces-more}
use Rattle.el_keep.proofs.seam.put_spaces.Goals as goal

pub loop-preserved : goal.loop-preserved
loop-preserved c =
    c.in_ok-push.ensures.ok ∙ ap (λ (bytes : List ℕ). bytes ++ 32 ∷ []) c.loop.invariant
    ∙ append_assoc c.args.out.now (spaces c.loop.counter) (32 ∷ [])
    ∙ ap (λ (bytes : List ℕ). c.args.out.now ++ bytes) (sym (spaces-more c.loop.counter))
