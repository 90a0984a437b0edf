-- A member whose words are those of a tree does what the tree means.
use Rattle.std.proofs.Common.{List, ℕ, sym, ap, subst, ◌∙◌}
use Rattle.el_world.specs.Calls.{found_in}
use Rattle.el_world.specs.Plans.{Made, made}
use Rattle.el_world.specs.Runs.{AreEventsOf}
use Rattle.el_machine.specs.Flat.{first_program}
use Rattle.el_app.specs.Calls.{Ending, execline_call, outcome_of}
use Rattle.el_app.proofs.Vectors.{vectors-mean-their-trees}
use Rattle.el_family.specs.Meant.{MembersMeanTheirTrees}

pub members-mean-their-trees : MembersMeanTheirTrees
members-mean-their-trees process run tree marks scope program right is accepted meets few first =
    let found = found_in run.events in
    let same =
    ap (λ (words : List (List ℕ)). made (execline_call words process.env process.dir) run.budget found) is
    ∙ vectors-mean-their-trees tree marks scope program process.env process.dir run.budget found accepted meets few (ap first_program (sym is) ∙ first) in
    subst (λ (makes : Made Ending ⊥). AreEventsOf run.events makes (outcome_of run.finish)) same right.meant
