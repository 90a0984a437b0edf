use Rattle.std.proofs.Common.{◌∙◌, ap, sym, subst, ◌++◌, ◌-◌, List, ℕ, [], ◌∷◌}
use Rattle.el_words.specs.Plain.{ArePlain}
use Rattle.el_words.proofs.Slices.{pushed}
use Rattle.el_words.proofs.Plain.{plain-pushed}
use Rattle.el_words.proofs.words.buffer.Buffer.push.Goals as goal

pub invariant_of-self-2 : goal.invariant_of-self-2
invariant_of-self-2 c =
    let ends = c.push_reserved.ensures.items ∙ ap (λ ends. ends ++ c.len.result ∷ []) c.in_ok-reserve.ensures.items in
    let after = pushed _ _ _ c.self.invariant.0 _ _ _ _ c.requires c.in_ok-extend_from_slice.ensures.items ends (c.len.ensures ∙ c.extend_from_slice.new.self.ok.0) in
    let P : List (List ℕ) → Type 0 = λ left. ArePlain left (c.self.inside.plain - c.self.inside.first) in
    (after.0, subst P (sym after.1) (plain-pushed _ _ c.args.word.now c.self.invariant.1))

pub returns-clause-ok : goal.returns-clause-ok
returns-clause-ok c =
    let ends = c.push_reserved.ensures.items ∙ ap (λ ends. ends ++ c.len.result ∷ []) c.in_ok-reserve.ensures.items in
    (pushed _ _ _ c.self.invariant.0 _ _ _ _ c.requires c.in_ok-extend_from_slice.ensures.items ends (c.len.ensures ∙ c.extend_from_slice.new.self.ok.0)).1
    ∙ ap (λ words. words ++ c.args.word.now ∷ []) c.self.view_is
