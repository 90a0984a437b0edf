use Rattle.std.proofs.Common.{◌+◌, [], drop, sym, ap, ◌∙◌, if◌then◌else◌}
use Rattle.el_world.specs.Log.{events_of}
use Rattle.el_trace.specs.Replays.{Replaying}
use Rattle.el_trace.proofs.Replaying.{drop-next}
use Rattle.el_trace.proofs.replay.Replay.place_behind.Goals as goal

pub returns-then-fits : goal.returns-then-fits
returns-then-fits c =
    ap (λ (replay : Replaying). drop (c.self.inside.at + 1) replay.recorded) (sym c.self.view_is) ∙ drop-next (events_of c.self.inside.recorded.now) c.self.inside.at
    ∙ ap (λ (replay : Replaying). drop 1 replay.left) c.self.view_is ∙ sym (ap (λ fits. if fits then drop 1 c.args.self.now.left else []) c.if-fits.true)
