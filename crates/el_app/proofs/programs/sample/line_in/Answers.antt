use Rattle.std.proofs.Common.{Some, sym, ap, ap₂, ◌∙◌}
use Rattle.std.proofs.lemmas.Result.{IfOk-weaker}
use Rattle.el_app.specs.First.{first_state}
use Rattle.el_app.specs.Elcheck.{run_played}
use Rattle.el_app.proofs.Playing.{line_played}
use Rattle.el_app.proofs.programs.sample.line_in.Goals as goal

pub returns : goal.returns
unfolding run_played
returns c =
    let state = c.first_process-proc.ensures.state ∙ ap₂ first_state c.new.ensures c.in_ok-of.ensures in
    let run = rw (c.in-Status.is, state, c.first_process-proc.ensures.budget) at c.run_script.ensures in
    IfOk-weaker c.line_behind.result _ _ (λ line is. ap Some is.2 ∙ line_played run c.requires (ap Some (sym c.log.ensures.log)) is.0 is.1) c.line_behind.ensures
