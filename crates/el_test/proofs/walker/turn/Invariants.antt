use Rattle.std.proofs.Common.{◌≡◌, ◌≤◌, reverse, vec_len}
use Rattle.el_test.specs.Walking.{unnegated}
use Rattle.el_test.proofs.walker.turn.Given as goal

abbrev pub invariant-loop-frames : goal.invariant-loop-frames
invariant-loop-frames l = (unnegated (reverse l.fn.frames.items) l.fn.value ≡ unnegated (reverse l.frames.items) l.value) × (vec_len l.frames ≤ vec_len l.fn.frames)

abbrev pub decreases-loop-frames : goal.decreases-loop-frames
decreases-loop-frames l = goal.left-loop-frames l
