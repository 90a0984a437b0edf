use Rattle.std.proofs.Common.{sym, ap}
use Rattle.el_glob.proofs.Lists.{goes-on-at_once, short_err, not_begun}
use Rattle.el_glob.proofs.globbing.next_paths.Goals as goal

pub returns-in_err-all_joined-in-Dot : goal.returns-in_err-all_joined-in-Dot
returns-in_err-all_joined-in-Dot g c = short_err c.from_residual.result c.from_residual.ensures.1 (not_begun _ _)

pub returns-in_err-all_joined-in-DotDot : goal.returns-in_err-all_joined-in-DotDot
returns-in_err-all_joined-in-DotDot g c = short_err c.from_residual-in_err-all_joined-in-DotDot.result c.from_residual-in_err-all_joined-in-DotDot.ensures.1 (not_begun _ _)

pub returns-in_ok-all_joined-in-Dot : goal.returns-in_ok-all_joined-in-Dot
returns-in_ok-all_joined-in-Dot g c = rw c.in-Dot.is (goes-on-at_once _ _ _ (λ answers next. ap (λ found. next found answers) (sym c.in_ok-all_joined-in-Dot.ensures)))

pub returns-in_ok-all_joined-in-DotDot : goal.returns-in_ok-all_joined-in-DotDot
returns-in_ok-all_joined-in-DotDot g c = rw c.in-DotDot.is (goes-on-at_once _ _ _ (λ answers next. ap (λ found. next found answers) (sym c.in_ok-all_joined-in-DotDot.ensures)))

pub returns-in-Names : goal.returns-in-Names
returns-in-Names g c = rw c.in-Names.is c.fitting.ensures
