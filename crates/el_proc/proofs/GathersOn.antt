-- An input that is being read to its end.
use Rattle.std.proofs.Common.{◌≡◌, ℕ, suc, ◌-◌, ◌<◌, ◌^◌, Option, None, Some, Result, Ok, Err, List, [], ◌∷◌, ◌++◌, length, refl, subst, arith}
use Rattle.el_world.specs.declared.event.Fault.{Fault}
use Rattle.el_world.specs.declared.event.Handle.{Handle}
use Rattle.el_world.specs.declared.finish.Finish.{Finish}
use Rattle.el_world.specs.declared.finish.Finish.TheVariants.{Spent, NoMemory}
use Rattle.el_world.specs.World.{Seen}
use Rattle.el_world.specs.Acts.{read_act}
use Rattle.el_world.specs.Plans.{takes, and_go_on}
use Rattle.el_world.specs.States as end
use Rattle.el_world.specs.States.{State, Task}
use Rattle.el_world.specs.Runs.{Done}
use Rattle.el_world.specs.Follows.{Follows}
use Rattle.el_world.proofs.Follows.{memory_short, act_short, act_then, unit_then, follows_done, follows_spent}
use Rattle.el_proc.specs.Inputs.{most_units, after_read, gathered, whole_input}

-- what comes of reading
abbrev pub Read : Type 0
Read = Result (Option (List ℕ)) Finish

-- the code followed a plan of reads, between two states of a world, with so many units and with so many left
abbrev pub Comes : (before new : Seen) → Task (Option (List ℕ)) → (units : ℕ) → Read → State → (left : ℕ) → Type 0
Comes before new run units read state left = Follows before new run units read (λ text. text) state left

-- whatever follows these bytes follows the start
pub record GathersOn (before now : Seen) (state : State) (handle : Handle) (start units : ℕ) (bytes : List ℕ) : Type 0 where
  pub reads : ℕ
  pub enough : units < reads
  pub rest : (new : Seen) (read : Read) (left : ℕ) → Comes now new (gathered reads state handle bytes) units read state left → Comes before new (whole_input state handle) start read state left

pub begun : (world : Seen) (state : State) (handle : Handle) (start : ℕ) → start < 2 ^ 64 → GathersOn world world state handle start start []
unfolding whole_input most_units
begun world state handle start below = record { reads = most_units; enough = below; rest = λ new read left p. p }

-- one more read
abbrev one_read : (state : State) (handle : Handle) (bytes : List ℕ) (reads : ℕ) → Task (Option (List ℕ))
one_read state handle bytes reads = takes (end.Spent state) (and_go_on (read_act handle) (after_read (λ read. gathered reads state handle read) bytes))

module _ {before now : Seen} {state : State} {handle : Handle} {start units : ℕ} {bytes : List ℕ} where
  -- whatever follows one more read follows the start
  one_more : GathersOn before now state handle start units bytes
      → (reads : ℕ) × (units < suc reads) × ((new : Seen) (read : Read) (left : ℕ) → Comes now new (one_read state handle bytes reads) units read state left → Comes before new (whole_input state handle) start read state left)
  unfolding gathered
  one_more on = by on.reads on.enough on.rest
    where
      by : (reads : ℕ) → units < reads → ((new : Seen) (read : Read) (left : ℕ) → Comes now new (gathered reads state handle bytes) units read state left → Comes before new (whole_input state handle) start read state left)
          → (reads : ℕ) × (units < suc reads) × ((new : Seen) (read : Read) (left : ℕ) → Comes now new (one_read state handle bytes reads) units read state left → Comes before new (whole_input state handle) start read state left)
      by Prim.Native.Nat.zero few rest = absurd (omega arith)
      by (suc reads) few rest = (reads, few, rest)

  -- no unit is left
  pub out_of_units : GathersOn before now state handle start units bytes → units ≡ 0 → Comes before now (whole_input state handle) start (Err Spent) state (units - 1)
  out_of_units on none =
      let more = one_more on in
      let same : units ≡ units - 1 = omega arith in
      subst (λ left. Comes before now (whole_input state handle) start (Err Spent) state left) same (more.2 _ _ _ (follows_spent none))

  module _ (on : GathersOn before now state handle start units bytes) (some : 0 < units) where
    -- a read that is cut off
    pub read_short : {new : Seen} → Done now new (read_act handle) None → Comes before new (whole_input state handle) start (Err NoMemory) state (units - 1)
    read_short d = let more = one_more on in more.2 _ _ _ (unit_then _ some (act_short _ d refl))

    -- a read that fails
    pub read_fails : {new : Seen} (fault : Fault) → Done now new (read_act handle) (Some (Err fault)) → Comes before new (whole_input state handle) start (Ok None) state (units - 1)
    read_fails fault d = let more = one_more on in more.2 _ _ _ (unit_then _ some (act_then _ d (follows_done refl)))

    -- a read at the end
    pub read_ends : {new : Seen} (piece : List ℕ) → length piece ≡ 0 → Done now new (read_act handle) (Some (Ok piece)) → Comes before new (whole_input state handle) start (Ok (Some bytes)) state (units - 1)
    read_ends [] none d = let more = one_more on in more.2 _ _ _ (unit_then _ some (act_then _ d (follows_done refl)))
    read_ends (byte ∷ piece) none d = absurd (omega arith)

    -- a piece, for which there is no memory
    pub piece_lost : {new : Seen} (piece : List ℕ) → Done now new (read_act handle) (Some (Ok piece)) → Comes before new (whole_input state handle) start (Err NoMemory) state (units - 1)
    piece_lost [] d = let more = one_more on in more.2 _ _ _ (unit_then _ some (act_then _ d (memory_short refl)))
    piece_lost (byte ∷ piece) d = let more = one_more on in more.2 _ _ _ (unit_then _ some (act_then _ d (memory_short refl)))

    -- a piece that is put behind
    pub read_on : {new : Seen} (piece : List ℕ) → (length piece ≡ 0 → ⊥) → Done now new (read_act handle) (Some (Ok piece)) → GathersOn before new state handle start (units - 1) (bytes ++ piece)
    read_on [] some_bytes d = absurd (some_bytes refl)
    read_on (byte ∷ piece) some_bytes d =
        let more = one_more on in
        record {
          reads = more.0;
          enough = let few = more.1 in omega arith;
          rest = λ new read left p. more.2 new read left (unit_then _ some (act_then _ d p));
        }
