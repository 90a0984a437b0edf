use Rattle.el_script.proofs.Vocabulary.{option_or, Marked, Member, has_many}
use Rattle.std.proofs.Common.{◌≡◌, sym, ap, ◌∙◌, subst, if◌then◌else◌, List, length, arith}
use Rattle.el_reader.specs.Index.{ArePut, first_or}
use Rattle.el_reader.proofs.Indexes.{index-more}
use Rattle.el_reader.proofs.members.Members.push.Goals.{then-has_many, else-has_many}
use Rattle.el_reader.proofs.members.Members.push.Goals as goal

pub invariant_of-self : goal.invariant_of-self
invariant_of-self c =
    let old = c.entered.inside in
    let place = c.len-place.result in
    let long : place ≡ old.entered.len = c.len-place.ensures in
    let place_is : place ≡ length old.entered.items = omega (arith, long, old.entered.ok.0) in
    let put = subst (λ (marked : List Marked). ArePut marked place old.firsts.entries c.put_keys.new.firsts.entries) (c.deref.ensures.value ∙ ap (λ (m : Member). m.marked) c.member.view_is) c.in_ok-put_keys.ensures in
    let many : c.if-has_many.drop ≡ (if has_many c.args.member then place else old.many) =
    elim c.if-has_many.branch [
      | then-has_many w ↦ w.drop-is ∙ ap (λ has. if has then place else old.many) (sym w.if-has_many.true ∙ c.has_many-has_many.ensures)
      | else-has_many w ↦ w.drop-is ∙ ap (λ has. if has then place else old.many) (sym w.if-has_many.false ∙ c.has_many-has_many.ensures)
    ] in
    rw (c.or.ensures ∙ ap (option_or old.positional) c.then_some.ensures ∙ ap (λ (m : Member). first_or old.positional m.positional place) c.member.view_is, many)
    (index-more old.entered.items c.push.new.self.items c.args.member c.len-keys.result place old.firsts.entries c.put_keys.new.firsts.entries old.positional old.many c.entered.invariant c.len-keys.ensures.len place_is put c.in_ok-push.ensures.items)
