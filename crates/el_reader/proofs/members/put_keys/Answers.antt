use Rattle.std.proofs.Common.{◌≡◌, ◌+◌, List, [], ◌∷◌, ◌++◌, take, is_some, sym, ap, ◌∙◌, subst}
use Rattle.std.proofs.lemmas.List.{take_more}
use Rattle.el_tree.specs.Marks.{Marked}
use Rattle.el_reader.specs.Index.{stored_place, ArePut}
use Rattle.el_reader.proofs.Indexes.{none-put, new-put, there-put}
use Rattle.el_reader.proofs.members.put_keys.Goals.{then-not-contains_key+in_ok-to_vec+in_ok-insert, else-not-contains_key}
use Rattle.el_reader.proofs.members.put_keys.Goals as goal

pub loop-one-init : goal.loop-one-init
loop-one-init c = none-put c.args.place c.args.firsts.now.entries

pub loop-one-preserved : goal.loop-one-preserved
loop-one-preserved c =
    let place = c.args.place in
    let old = c.args.firsts.now.entries in
    let now = c.loop-one.firsts in
    let one = c.one-item.result in
    let front = take c.loop-one.one-index c.args.marked.now in
    let key = c.as_bytes-key.ensures.same in
    let found = ap (λ key. is_some (stored_place now.entries key)) (sym key) ∙ sym c.contains_key.ensures in
    let next : take (c.loop-one.one-index + 1) c.args.marked.now ≡ front ++ one ∷ [] =
    take_more c.args.marked.now c.loop-one.one-index one c.loop-one-test.true ∙ ap (λ one. front ++ one ∷ []) (sym c.one-item.is) in
    let put : ArePut (front ++ one ∷ []) place old c.if-not-contains_key.firsts.entries =
    elim c.if-not-contains_key.branch [
      | then-not-contains_key+in_ok-to_vec+in_ok-insert w ↦
          rw w.firsts-is (new-put front one place old now w.insert.new.self.entries w.in_ok-to_vec.field-0 c.loop-one.invariant
          (w.in_ok-to_vec.ensures.items_if_clones_equal (λ x y e. e) ∙ key) (found ∙ w.if-not-contains_key.true) w.in_ok-insert.ensures.entries)
      | else-not-contains_key w ↦ rw w.firsts-is (there-put front one place old now.entries c.loop-one.invariant (found ∙ w.if-not-contains_key.false))
    ] in
    subst (λ (marked : List Marked). ArePut marked place old c.if-not-contains_key.firsts.entries) (sym next) put
