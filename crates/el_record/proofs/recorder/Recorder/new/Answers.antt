use Rattle.el_record.proofs.Recording.{kept_new}
use Rattle.el_record.proofs.recorder.Recorder.new.Goals as goal

pub invariant_of-result : goal.invariant_of-result
invariant_of-result g c = kept_new g.W.World.seen _ _ _ _ _ c.requires c.of-before.ensures c.new.ensures.events
