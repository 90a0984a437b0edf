use Rattle.std.proofs.Common.{inl, inr, sym, ◌∙◌}
use Rattle.el_multicall.proofs.Recorded.{recording_saved, recording_begun}
use Rattle.el_multicall.proofs.elrecord.Recording.run.Goals as goal

pub returns : goal.returns
returns g c = elim c.settle-finish.ensures [
  | inl is ↦ inl (recording_saved g.W.World.seen c.args.world c.into_parts-world.result.0 (g.W.World.seen c.settle-finish.new.world) c.new-recorder.result c.execline-ran.new.world
      c.args.self.words c.args.self.file c.args.self.dir c.args.env c.args.dir c.args.budget c.execline-ran.result c.settle-finish.result is.end _
      c.new-recorder.ensures c.execline-ran.ensures.run is.end_is is.fits c.into_parts-world.ensures.log (c.into_parts-world.ensures.in_step (sym c.is_whole-is_whole.ensures ∙ is.whole_is)) c.into_parts-world.ensures.fits is.save)
  | inr stays ↦ inr (
    stays.0,
    recording_begun g.W.World.seen c.args.world c.into_parts-world.result.0 (g.W.World.seen c.settle-finish.new.world) c.new-recorder.result c.execline-ran.new.world
        _ c.args.budget c.execline-ran.result c.new-recorder.ensures c.execline-ran.ensures.run c.into_parts-world.ensures.but_for_lost stays.1,
  )
]
