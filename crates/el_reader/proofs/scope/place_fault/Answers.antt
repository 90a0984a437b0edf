use Rattle.el_script.proofs.Vocabulary.{then_some, option_or, parts_of, Fault, ManyWordsInOnePlace, ManyAfterValue}
use Rattle.std.proofs.Common.{Option, sym, ap, ap₂, ◌∙◌, arith}
use Rattle.el_reader.proofs.Indexes.{within-length}
use Rattle.el_reader.proofs.Scopes.{touching, none-touching, first-touching}
use Rattle.el_reader.proofs.scope.place_fault.Goals as goal

pub returns-then-place-len : goal.returns-then-place-len
returns-then-place-len c = sym (none-touching c.args.members.now (parts_of c.args.text.now) c.first_touching-place.result c.first_touching-place.ensures (c.if-place-len.true ∙ c.len.ensures))

pub at-requires : goal.at-requires
at-requires c = omega (arith, c.first_touching-place.ensures, within-length (touching (parts_of c.args.text.now)) c.args.members.now, c.len.ensures, c.if-place-len.false)

pub returns : goal.returns
returns c =
    let within = within-length (touching (parts_of c.args.text.now)) c.args.members.now in
    c.or.ensures
    ∙ ap₂ (λ (one other : Option Fault). option_or one other) (c.then_some-puts.ensures ∙ ap (λ puts. then_some puts ManyWordsInOnePlace) c.puts_many.ensures)
    (c.then_some.ensures ∙ ap (λ many. then_some many ManyAfterValue) c.has_many_behind-behind.ensures)
    ∙ sym (first-touching c.args.members.now (parts_of c.args.text.now) c.first_touching-place.result c.at.result.now c.first_touching-place.ensures (omega (arith, c.first_touching-place.ensures, within, c.len.ensures, c.if-place-len.false)) c.at.ensures)
