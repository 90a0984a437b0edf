use Rattle.std.proofs.Common.{◌≡◌, ℕ, ◌+◌, ◌-◌, List, [], ◌∷◌, ◌++◌, refl, ap, sym, ◌∙◌, length, codes}
use Rattle.std.specs.Fmt.{decimal}
use Rattle.el_subst.specs.Values.{Pairs}
use Rattle.el_subst.specs.Pairs.{numbered}
use Rattle.el_subst.proofs.Positions.{numbered-both, put_in_turn, pushed}
use Rattle.el_subst.proofs.subst.numbered_pairs.Goals as goal

pub returns : goal.returns
returns c =
    let args = c.args.from.now.args in
    let more = c.args.least - length args in
    let single : List ℕ → List (List ℕ) = λ word. word ∷ [] in
    let empty : Pairs → Pairs = λ pairs. pairs ++ (codes "#", decimal (length args) ∷ []) ∷ [] in
    let size : c.len-count.result ≡ length args = c.len-count.ensures.count in
    put_in_turn c.push-2.new.self.items c.push-4.new.self.items c.put_args.new.pairs.items c.put_missing.new.pairs.items c.push-5.new.self.items
    (numbered 1 0 args) (numbered (length args + 1) more []) (codes "#", decimal (length args) ∷ []) (codes "0", c.args.from.now.zero ∷ []) (codes "@", c.args.all)
    (pushed _ _ _ _ _ _ c.in_ok-push.ensures.items c.in_ok-of.ensures (c.in_ok-one_word.ensures ∙ ap single (c.as_bytes.ensures.same ∙ c.in_ok-number.ensures.text ∙ ap decimal size))
    ∙ ap empty c.in_ok-pairs.ensures.items)
    (pushed _ _ _ _ _ _ c.in_ok-push-2.ensures.items c.in_ok-of-2.ensures (c.in_ok-one_word-2.ensures ∙ ap single c.as_bytes-2.ensures.same))
    c.in_ok-put_args.ensures
    (c.in_ok-put_missing.ensures ∙ ap (λ n. c.put_args.new.pairs.items ++ numbered (n + 1) (c.args.least - n) []) size)
    (pushed _ _ _ _ _ _ c.in_ok-push-3.ensures.items c.in_ok-of-3.ensures refl)
    ∙ ap (λ (pairs : Pairs). (codes "#", decimal (length args) ∷ []) ∷ (codes "0", c.args.from.now.zero ∷ []) ∷ (pairs ++ (codes "@", c.args.all) ∷ [])) (sym (numbered-both 1 more args))
