use Rattle.std.proofs.Common.{◌∙◌, ◌++◌, ap₂, refl, sym}
use Rattle.el_transform.proofs.Crunched.{crunched_after-no_nul}
use Rattle.el_transform.proofs.Pieces.{split-values}
use Rattle.el_transform.proofs.splitter.Splitter.values_with_last.Goals as goal
use Rattle.el_transform.proofs.splitter.Splitter.values_with_last.Goals.{then-self+in_ok-kept+in_ok-append, else-self+in_ok-append-2}

pub append-requires : goal.append-requires
append-requires c = rw (c.deref.ensures.value, c.in_ok-kept.ensures) (crunched_after-no_nul _ _ c.args.bytes.now c.requires)

pub returns : goal.returns
returns c =
    rw (sym c.self.view_is)
    (split-values _ c.args.bytes.now c.as_bytes.result.now c.split.result c.self.invariant
    (c.as_bytes.ensures.same ∙ elim c.if-self.branch [
      | then-self+in_ok-kept+in_ok-append w ↦
          w.whole-is ∙ w.in_ok-append.ensures.ok
          ∙ ap₂ (λ bytes more. bytes ++ more) c.in_ok-whole.ensures
          (w.deref.ensures.value ∙ w.in_ok-kept.ensures ∙ rw w.if-self.true refl)
      | else-self+in_ok-append-2 w ↦
          w.whole-is ∙ w.in_ok-append-2.ensures.ok ∙ ap₂ (λ bytes more. bytes ++ more) c.in_ok-whole.ensures (rw w.if-self.false refl)
    ])
    c.split.ensures)
