-- Tapes. Only the code's contracts need it.
use Rattle.std.specs.Prelude.{ℕ, List}
use Rattle.el_world.specs.declared.event.Event.{Event}

-- what a tape is seen as: its events; how many closes are due; and for how many events there is room beside those of these closes
pub record Taped : Type 0 where
  pub events : List Event
  pub closes : ℕ
  pub room : ℕ
