use Rattle.std.proofs.Common.{min, length, true, false, sym, ap, ap₂, ◌∙◌}
use Rattle.el_tree.specs.Marks.{Member}
use Rattle.el_reader.specs.Index.{has_key, entered_members}
use Rattle.el_reader.proofs.Indexes.{stored-first, first-marked}
use Rattle.el_reader.proofs.members.Members.first_marking.Goals as goal

pub returns-then-is_positional : goal.returns-then-is_positional
returns-then-is_positional c =
    let tells = c.self.invariant.tells in
    let key = c.args.key.now in
    let members = entered_members c.self.inside.entered.items in
    let own = c.unwrap_or-own.ensures ∙ stored-first (λ (member : Member). has_key member.marked key) members c.copied.result c.len.result (c.copied.ensures ∙ c.get.ensures.value ∙ tells.firsts key) (c.len.ensures ∙ ap length (sym c.self.view_is)) in
    let positional = c.unwrap_or.ensures ∙ stored-first (λ (member : Member). member.positional) members c.self.inside.positional c.len-then-is_positional.result tells.first (c.len-then-is_positional.ensures ∙ ap length (sym c.self.view_is)) in
    rw (← c.self.view_is) (c.min.ensures ∙ ap₂ min own positional ∙ sym (first-marked members key true (sym c.is_positional.ensures ∙ c.if-is_positional.true)))

pub returns-else-is_positional : goal.returns-else-is_positional
returns-else-is_positional c =
    let key = c.args.key.now in
    let members = entered_members c.self.inside.entered.items in
    let own = c.unwrap_or-own.ensures ∙ stored-first (λ (member : Member). has_key member.marked key) members c.copied.result c.len.result (c.copied.ensures ∙ c.get.ensures.value ∙ c.self.invariant.tells.firsts key) (c.len.ensures ∙ ap length (sym c.self.view_is)) in
    rw (← c.self.view_is) (own ∙ sym (first-marked members key false (sym c.is_positional.ensures ∙ c.if-is_positional.false)))
