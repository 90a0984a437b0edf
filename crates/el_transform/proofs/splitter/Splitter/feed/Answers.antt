use Rattle.std.proofs.Common.{◌≡◌, ◌∙◌, ap, ap₂, sym, ◌&&◌, ◌==◌, Bool, length}
use Rattle.el_transform.proofs.Pieces.{at, Cut, feeds-none, feeds-some, rest-unfinished}
use Rattle.el_transform.proofs.splitter.Splitter.feed.Goals as goal
use Rattle.el_transform.proofs.splitter.Splitter.feed.Goals.{then-self, else-self}

cut_before : (c : goal.After-new) → Cut c.self.inside.delims c.args.piece.now c.split_at.result.0.now c.split_at.result.1.now c.ending_len.result
cut_before c = record {
  within = c.ending_len.ensures.within;
  is_front = c.split_at.ensures.front;
  is_rest = c.split_at.ensures.back;
  ends = c.ending_len.ensures.ends;
  none_behind = c.ending_len.ensures.none_behind;
}

cut_behind : (c : goal.After-self-3-1) → Cut c.self.inside.delims c.args.piece.now c.split_at.result.0.now c.split_at.result.1.now c.ending_len.result
cut_behind c = record {
  within = c.ending_len.ensures.within;
  is_front = c.split_at.ensures.front;
  is_rest = c.split_at.ensures.back;
  ends = c.ending_len.ensures.ends;
  none_behind = c.ending_len.ensures.none_behind;
}

pub returns-then-is_empty-clause-values : goal.returns-then-is_empty-clause-values
returns-then-is_empty-clause-values c =
    rw (sym c.self.view_is) (c.new.ensures ∙ (feeds-none _ _ _ _ _ (cut_before c) (sym c.is_empty.ensures ∙ c.if-is_empty.true)).values_are)

pub returns-then-is_empty-clause-ok : goal.returns-then-is_empty-clause-ok
returns-then-is_empty-clause-ok c =
    let none : Bool = length c.split_at.result.1.now == 0 in
    let after : c.if-self.self ≡ (c.self.inside.is_after_delimiter && none) =
    elim c.if-self.branch [
      | then-self w ↦ w.self-is ∙ w.is_empty-self-inside.ensures ∙ sym (ap (λ b. b && none) w.if-self.true)
      | else-self w ↦ w.self-is ∙ w.if-self.false ∙ sym (ap (λ b. b && none) w.if-self.false)
    ] in
    rw (sym c.self.view_is) (ap₂ (λ unfinished after. at c.self.inside.crunch c.self.inside.delims unfinished after) c.in_ok-append.ensures.ok after
    ∙ (feeds-none _ _ _ _ _ (cut_before c) (sym c.is_empty.ensures ∙ c.if-is_empty.true)).fed_is)

pub invariant_of-self-2 : goal.invariant_of-self-2
invariant_of-self-2 c = rw (c.in_ok-self-inside.ensures, c.is_empty-self-inside-2.ensures) (rest-unfinished _ _ _ _ _ _ (cut_behind c))

pub returns-clause-values : goal.returns-clause-values
returns-clause-values c =
    c.in_ok-values.ensures ∙ rw (sym c.self.view_is) ((feeds-some _ _ _ _ _ c.self.invariant (cut_behind c) (sym c.is_empty.ensures ∙ c.if-is_empty.false)).values_are)

pub returns-clause-ok : goal.returns-clause-ok
returns-clause-ok c =
    rw (sym c.self.view_is) (ap₂ (λ unfinished after. at c.self.inside.crunch c.self.inside.delims unfinished after) c.in_ok-self-inside.ensures c.is_empty-self-inside-2.ensures
    ∙ (feeds-some _ _ _ _ _ c.self.invariant (cut_behind c) (sym c.is_empty.ensures ∙ c.if-is_empty.false)).fed_is)
