use Rattle.std.proofs.Common.{◌∙◌, sym, subst, List, ℕ, []}
use Rattle.el_glob.specs.PathsKept.{HaveNoNul}
use Rattle.el_glob.proofs.Members.{set-placed}
use Rattle.el_glob.proofs.Placing.{no_nul-all}
use Rattle.el_glob.proofs.paths.rising.Goals as goal

pub returns-clause-same : goal.returns-clause-same
returns-clause-same c =
    let run = c.in_ok-collect.ensures.runs tt in
    let items = c.iter.ensures.runs run.0 run.0.seen in
    set-placed c.args.paths.now run.0.items c.in_ok-collect.field-0 (items.4 run.2 ∙ run.1 ∙ c.iter.ensures.rest) run.3

pub returns-clause-no_nul : goal.returns-clause-no_nul
returns-clause-no_nul c =
    let P : List (List ℕ) → Type 0 = HaveNoNul in
    subst P (sym (returns-clause-same c)) (no_nul-all c.args.paths.now [] c.iter.ensures.no_nul tt)
