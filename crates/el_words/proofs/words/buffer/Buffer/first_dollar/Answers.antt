use Rattle.el_words.proofs.Plain.{first-seen, plain-seen}
use Rattle.el_words.proofs.words.buffer.Buffer.first_dollar.Goals as goal

pub invariant_of-self : goal.invariant_of-self
invariant_of-self c =
    let first = first-seen _ _ c.self.view_is _ _ c.self.invariant.1 c.saturating_sub.ensures c.next_holding-found.result c.next_holding-found.ensures.first in
    (c.self.invariant.0, plain-seen _ _ c.self.view_is c.self.inside.first _ _ c.next_holding-found.result first c.unwrap_or.ensures c.len.ensures.count)

pub returns-clause-first : goal.returns-clause-first
returns-clause-first c = first-seen _ _ c.self.view_is _ _ c.self.invariant.1 c.saturating_sub.ensures c.next_holding-found.result c.next_holding-found.ensures.first
