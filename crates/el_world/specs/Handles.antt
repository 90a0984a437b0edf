-- The handles that a world holds.
use Rattle.std.specs.Prelude.{◌≡◌, ℕ, ◌+◌, ◌≤◌, Bool, true, ◌&&◌, ◌||◌, not, ◌==◌, nat_lt, nat_le, List, [], ◌∷◌, ◌++◌, filter, Option, None, Some, Result, Ok, Err}
use Rattle.std.specs.List.{list_any, list_all}
use Rattle.el_world.specs.declared.event.Event.{Event}
use Rattle.el_world.specs.declared.event.Event.TheVariants.{Start, Opened, Pipe, Feed, Read, Write, Close}
use Rattle.el_world.specs.declared.event.Handle.{Handle}
use Rattle.el_world.specs.declared.event.PipeEnds.{PipeEnds}
use Rattle.el_world.specs.declared.event.Fault.{Fault}
use Rattle.el_world.specs.World.{Seen}

-- the handle is held
abbrev pub is_held : List Handle → Handle → Bool
is_held held handle = list_any (λ other. other.number == handle.number) held

-- a call may name it: it is the process's own 0, 1 or 2, or held
abbrev pub is_usable : List Handle → Handle → Bool
is_usable held handle = nat_lt handle.number 3 || is_held held handle

-- a started process may have it at one of its descriptors
abbrev pub is_usable_end : List Handle → Option Handle → Bool
is_usable_end held None = true
is_usable_end held (Some handle) = is_usable held handle

-- so it is with all of these
abbrev pub are_usable : List Handle → List (Option Handle) → Bool
are_usable held ends = list_all (is_usable_end held) ends

-- the others that are held
abbrev pub without : List Handle → Handle → List Handle
without held handle = filter (λ other. not (other.number == handle.number)) held

-- ---- given handles

-- the world gave it: it is none of the process's own
abbrev pub is_given : Handle → Bool
is_given handle = nat_le 3 handle.number

-- so it is with all of these
abbrev pub are_given : List Handle → Bool
are_given handles = list_all is_given handles

-- these handles are outside of the process's own, and their numbers rise from one number to below another
abbrev pub Rising : (from : ℕ) → List Handle → (to : ℕ) → Type 0
Rising from [] to = from ≤ to
Rising from (handle ∷ handles) to = (3 ≤ handle.number) × (from ≤ handle.number) × Rising (handle.number + 1) handles to

-- none of these is held
abbrev pub are_fresh : List Handle → (handles : List Handle) → Bool
are_fresh held handles = list_all (λ handle. not (is_held held handle)) handles

-- between two states of a world exactly these handles were given
pub record Gave (old new : Seen) (handles : List Handle) : Type 0 where
  pub held : new.held ≡ old.held ++ handles
  pub rising : Rising old.next handles new.next
  pub fresh : are_fresh old.held handles ≡ true
  pub origin : new.origin ≡ old.origin

-- no handle was given or closed
pub record Keeps (old new : Seen) : Type 0 where
  pub held : new.held ≡ old.held
  pub next : new.next ≡ old.next
  pub origin : new.origin ≡ old.origin

-- the handles in an answer
abbrev pub opened_handles : Result Handle Fault → List Handle
opened_handles (Ok handle) = handle ∷ []
opened_handles (Err fault) = []

-- the handles of a pipe, the reader first; none where there is no pipe
abbrev pub piped_handles : Result PipeEnds Fault → List Handle
piped_handles (Ok ends) = ends.reader ∷ ends.writer ∷ []
piped_handles (Err fault) = []

-- ---- the same of events

-- the handles that a call gave
abbrev pub given_by : Event → List Handle
given_by (Opened dir path mode answer) = opened_handles answer
given_by (Pipe answer) = piped_handles answer
given_by (Feed bytes answer) = opened_handles answer
given_by event = []

-- the handles held after a call
abbrev pub held_after : List Handle → Event → List Handle
held_after held (Close handle) = without held handle
held_after held event = held ++ given_by event

-- and after many
abbrev pub held_after_all : List Handle → List Event → List Handle
held_after_all held [] = held
held_after_all held (event ∷ events) = held_after_all (held_after held event) events

-- the handles that calls gave
abbrev pub given_in : List Event → List Handle
given_in [] = []
given_in (event ∷ events) = given_by event ++ given_in events

-- no call gave a handle that was held then
abbrev pub all_fresh : List Handle → List Event → Bool
all_fresh held [] = true
all_fresh held (event ∷ events) = are_fresh held (given_by event) && all_fresh (held_after held event) events

-- ---- named handles

-- each handle that a call names is the process's own or held, and one that it closes is held
abbrev pub names_held : List Handle → Event → Bool
names_held held (Start words env dir ends answer) = are_usable held ends
names_held held (Read handle answer) = is_usable held handle
names_held held (Write handle bytes answer) = is_usable held handle
names_held held (Close handle) = is_held held handle
names_held held event = true

-- so it is with each of these calls, behind those that stand before it
abbrev pub all_name_held : List Handle → List Event → Bool
all_name_held held [] = true
all_name_held held (event ∷ events) = names_held held event && all_name_held (held_after held event) events
