use Rattle.std.proofs.Common.{subst, ℕ, List}
use Rattle.el_glob.specs.Lists.{ListsFor}
use Rattle.el_glob.proofs.Lists.{lists_short}
use Rattle.el_glob.proofs.globbing.list_at.Goals as goal

pub returns-in_err-word : goal.returns-in_err-word
returns-in_err-word g c = lists_short _ _ _ _ _ c.from_residual.ensures.1

pub returns : goal.returns
returns g c = subst (λ (path : List ℕ). ListsFor (g.L.Lister.seen c.args.lister.now) (g.L.Lister.seen c.list_for.new.self) c.args.dir.now path c.args.component.now c.list_for.result) c.in_ok-word.ensures c.list_for.ensures
