use Rattle.el_script.proofs.Vocabulary.{list_any, parts_of, puts_many}
use Rattle.std.proofs.Common.{◌||◌, Bool, sym, ap, ◌∙◌}
use Rattle.el_tree.proofs.References.{puts-none, puts-next}
use Rattle.el_reader.proofs.scope.puts_many.Goals as goal

pub returns-then-puts_many_at : goal.returns-then-puts_many_at
returns-then-puts_many_at c =
    let found = c.in-Some.found in
    let member = c.args.member.now in
    sym (c.loop-found.invariant ∙ puts-next member c.loop-found.rest.now found.rest.now found.slashes found.key.now c.in-Some.ensures.some
    ∙ ap (λ (b : Bool). b || list_any (puts_many member) (parts_of found.rest.now)) (sym c.puts_many_at.ensures ∙ c.if-puts_many_at.true))

pub loop-found-preserved : goal.loop-found-preserved
loop-found-preserved c =
    let found = c.in-Some.found in
    let member = c.args.member.now in
    c.loop-found.invariant ∙ puts-next member c.loop-found.rest.now found.rest.now found.slashes found.key.now c.in-Some.ensures.some
    ∙ ap (λ (b : Bool). b || list_any (puts_many member) (parts_of found.rest.now)) (sym c.puts_many_at.ensures ∙ c.if-puts_many_at.false)

pub returns : goal.returns
returns c = sym (c.loop-found.invariant ∙ puts-none c.args.member.now c.loop-found.rest.now c.in_default.ensures.none)
