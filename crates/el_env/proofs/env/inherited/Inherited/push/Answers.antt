use Rattle.std.proofs.Common.{rules, ◌∙◌, ap, sym, subst, ◌++◌, [], ◌∷◌}
use Rattle.el_env.specs.Places.{pairs_at}
use Rattle.el_env.specs.Inherited.{AreRising}
use Rattle.el_env.proofs.Places.{extended, pushed}
use Rattle.el_env.proofs.Marks.{IsFindable-more, IsFindable-same, IsFindable-extended, IsFindable-pushed}
use Rattle.el_env.proofs.env.inherited.Inherited.push.Goals as goal

pub invariant_of-self-in_err-extend_from_slice-2 : goal.invariant_of-self-in_err-extend_from_slice-2
invariant_of-self-in_err-extend_from_slice-2 c =
    let more = c.in_err-extend_from_slice-2.ensures.items ∙ c.in_ok-extend_from_slice.ensures.items in
    IsFindable-same _ _ _ _ c.in_ok-reserve.ensures.items
    (IsFindable-extended _ _ _ _ (extended _ _ _ _ c.self.invariant.sound c.requires.name more) c.self.invariant)

pub returns-in_err-extend_from_slice-2-clause-err : goal.returns-in_err-extend_from_slice-2-clause-err
returns-in_err-extend_from_slice-2-clause-err c =
    let more = c.in_err-extend_from_slice-2.ensures.items ∙ c.in_ok-extend_from_slice.ensures.items in
    let same = ap (pairs_at _) c.in_ok-reserve.ensures.items ∙ (extended _ _ _ _ c.self.invariant.sound c.requires.name more).same ∙ c.self.view_is in
    search (rules, same)

pub invariant_of-self-2 : goal.invariant_of-self-2
invariant_of-self-2 c =
    IsFindable-pushed _ _ _ _ _ _ _ (pushed _ _ _ _ _ _ _ _ c.self.invariant.sound c.requires.name c.requires.value c.in_ok-extend_from_slice.ensures.items c.in_ok-extend_from_slice-2.ensures.items
    (c.len-start.ensures ∙ c.self.inside.bytes.ok.0) (c.len-middle.ensures ∙ c.extend_from_slice.new.self.ok.0) (c.len-end.ensures ∙ c.extend_from_slice-2.new.self.ok.0) (c.push_reserved.ensures.items ∙ ap (λ ps. ps ++ record { start = c.len-start.result; middle = c.len-middle.result; end = c.len-end.result } ∷ []) c.in_ok-reserve.ensures.items))
    c.add.ensures.added (subst (λ ps. AreRising (ps ++ (c.args.name.now, c.args.value.now) ∷ [])) (sym c.self.view_is) c.requires.rising) (IsFindable-more _ _ _ _ c.add.ensures.kept c.self.invariant)

pub returns-clause-ok : goal.returns-clause-ok
returns-clause-ok c =
    (pushed _ _ _ _ _ _ _ _ c.self.invariant.sound c.requires.name c.requires.value c.in_ok-extend_from_slice.ensures.items c.in_ok-extend_from_slice-2.ensures.items
    (c.len-start.ensures ∙ c.self.inside.bytes.ok.0) (c.len-middle.ensures ∙ c.extend_from_slice.new.self.ok.0) (c.len-end.ensures ∙ c.extend_from_slice-2.new.self.ok.0) (c.push_reserved.ensures.items ∙ ap (λ ps. ps ++ record { start = c.len-start.result; middle = c.len-middle.result; end = c.len-end.result } ∷ []) c.in_ok-reserve.ensures.items)).gains
    ∙ ap (λ ps. ps ++ (c.args.name.now, c.args.value.now) ∷ []) c.self.view_is
