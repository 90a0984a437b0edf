-- What the real World holds.
use Rattle.std.specs.Prelude.{ℕ, Bool, true, false, ◌==◌, List, map, find, Option, None, option_map, nat_lt}
use Rattle.std.specs.List.{list_all}
use Rattle.el_world.specs.declared.event.Handle.{Handle}
use Rattle.el_world.specs.World.{Seen, none}
use Rattle.el_real.specs.declared.stream.Held.{Held}
use Rattle.el_real.specs.declared.stream.Stream.{Stream}
use Rattle.el_real.specs.declared.stream.Stream.TheVariants.{Reader, Writer}

-- the reading end of a pipe, into which nothing can be written
abbrev pub is_reader : Stream → Bool
is_reader (Reader reader) = true
is_reader stream = false

-- the writing end of a pipe, from which nothing can be read
abbrev pub is_writer : Stream → Bool
is_writer (Writer writer) = true
is_writer stream = false

-- the handles of what is held
abbrev pub handles_of : List Held → List Handle
handles_of held = map (λ (one : Held). one.handle) held

-- a world that tells no log and of whose origin nothing is told, with these faults, this held and this next number
abbrev pub untold : ℕ → List Held → ℕ → Seen
untold faults held next = record { log = None; faults = faults; held = handles_of held; next = next; origin = none }

-- all that is held lies below the next number
abbrev pub are_below : ℕ → List Held → Bool
are_below next held = list_all (λ (handle : Handle). nat_lt handle.number next) (handles_of held)

-- what stands behind a handle among what is held
abbrev pub stream_of : List Held → Handle → Option Stream
stream_of held handle = option_map (λ (one : Held). one.stream) (find (λ (one : Held). one.handle.number == handle.number) held)
