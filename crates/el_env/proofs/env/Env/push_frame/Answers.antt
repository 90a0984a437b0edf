use Rattle.std.proofs.Common.{ap, ◌∙◌, sym}
use Rattle.el_env.specs.Frames.{popped}
use Rattle.el_env.proofs.Frames.{popped-pushed}
use Rattle.el_env.proofs.NoFrames.{pushed_same, popped_same, not_too_deep}
use Rattle.el_env.proofs.env.Env.push_frame.Goals as goal

pub returns-clause-back : goal.returns-clause-back
returns-clause-back c = ap popped c.in_ok-self.ensures.ok ∙ popped-pushed _ c.in_ok-self.ensures.not_deep

pub returns-then-not-branch-clause-ok : goal.returns-then-not-branch-clause-ok
returns-then-not-branch-clause-ok c = sym (pushed_same _ (c.in_ok-has_frames.ensures c.if-not-branch.true))

pub returns-then-not-branch-clause-back : goal.returns-then-not-branch-clause-back
returns-then-not-branch-clause-back c = popped_same _ (c.in_ok-has_frames.ensures c.if-not-branch.true)

pub returns-then-not-branch-clause-not_deep : goal.returns-then-not-branch-clause-not_deep
returns-then-not-branch-clause-not_deep c = not_too_deep _ (c.in_ok-has_frames.ensures c.if-not-branch.true)
