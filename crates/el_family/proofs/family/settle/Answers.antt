use Rattle.std.proofs.Common.{◌∙◌, ap, List}
use lib.ListN.{set, get_or}
use Rattle.std.specs.Prelude.{Some}
use Rattle.el_family.specs.declared.member.Member.{Member}
use Rattle.el_family.specs.Processes.{processes_of}
use Rattle.el_family.proofs.Grown.{ran_in_place}
use Rattle.el_family.proofs.family.settle.Goals as goal

pub returns-clause-ok : goal.returns-clause-ok
returns-clause-ok c =
    ap (λ (members : List Member). processes_of (set members c.args.place (record c.index_mut.result.now { ran = Some c.args.ran }))) c.in_ok-append.ensures.items
    ∙ ran_in_place c.args.members.now.items c.args.children.items c.args.place c.args.ran c.index_mut.result.now c.index_mut.result.now c.requires.place
    (c.index_mut.ensures.value ∙ ap (λ (members : List Member). get_or members c.args.place c.index_mut.result.now) c.in_ok-append.ensures.items)
