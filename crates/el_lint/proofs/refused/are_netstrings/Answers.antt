use Rattle.std.proofs.Common.{true, false, refl}
use Rattle.el_lint.proofs.Netstrings.{are-netstrings}
use Rattle.el_lint.proofs.refused.are_netstrings.Goals as goal

pub returns-in-Ok-transform : goal.returns-in-Ok-transform
returns-in-Ok-transform c =
    are-netstrings (record { crunch = false; chomp = false; split = true; delims = c.of.result }) _ c.args.text.now refl refl refl c.of.ensures c.in-Ok.ensures.same _ c.in-Ok-transform.ensures.exact
