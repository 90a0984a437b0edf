use Rattle.el_room.proofs.Vocabulary.{ends_then, follows_exit, acting, acted}
use Rattle.std.proofs.Common.{sym, ◌∙◌}
use Rattle.el_control.specs.Exit.{exit}
use Rattle.el_control.proofs.programs.exit.exit.Goals as goal

pub returns-in-Some-clause-acts : goal.returns-in-Some-clause-acts
unfolding acting exit
returns-in-Some-clause-acts g c = acted (rw (sym c.exit_code.ensures ∙ c.in-Some.is) (ends_then _ _ follows_exit)) c.requires
