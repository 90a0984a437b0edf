-- A file that is being read.
use Rattle.el_room.proofs.Vocabulary.{IsErrAnd, Fault, Handle, Finish, Spent, NoMemory, Seen, read_act, takes, and_go_on, State, Task, Done, Follows, memory_short, act_short, act_then, unit_then, follows_done, follows_spent, after_read}
use Rattle.std.proofs.Common.{◌≡◌, ℕ, suc, ◌+◌, ◌-◌, ◌<◌, ◌≤◌, true, false, nat_lt, Option, None, Some, Result, Ok, Err, List, [], ◌∷◌, ◌++◌, length, length-append, refl, arith}
use Rattle.el_lex.specs.declared.lexer.TheConstants.{MAX_SCRIPT}
use Rattle.el_world.specs.States as end
use Rattle.el_app.specs.Files.{reading, whole_file}

-- what comes of a read
abbrev pub Read : Type 0
Read = Result (Option (List ℕ)) Finish

-- the code followed a plan of a read, between two states of a world, with so many units and with so many left
abbrev pub Comes : (before new : Seen) → Task (Option (List ℕ)) → (units : ℕ) → Read → State → (left : ℕ) → Type 0
Comes before new run units read state left = Follows before new run units read (λ script. script) state left

-- whatever follows these bytes follows the start
pub record ReadsOn (before now : Seen) (state : State) (handle : Handle) (start units : ℕ) (bytes : List ℕ) : Type 0 where
  pub reads : ℕ
  pub enough : MAX_SCRIPT < reads + length bytes
  pub rest : (new : Seen) (read : Read) (left : ℕ) → Comes now new (reading reads state handle bytes) units read state left → Comes before new (whole_file state handle) start read state left

pub begun : (world : Seen) (state : State) (handle : Handle) (start : ℕ) → ReadsOn world world state handle start start []
unfolding whole_file
begun world state handle start = record { reads = suc MAX_SCRIPT; enough = omega arith; rest = λ new read left p. p }

-- behind bytes within the limit comes one more read
abbrev one_read : (state : State) (handle : Handle) (bytes : List ℕ) (reads : ℕ) → Task (Option (List ℕ))
one_read state handle bytes reads = takes (end.Spent state) (and_go_on (read_act handle) (after_read (λ read. reading reads state handle read) bytes))

module _ {before now : Seen} {state : State} {handle : Handle} {start units : ℕ} {bytes : List ℕ} where
  -- the limit is passed
  pub past_limit : ReadsOn before now state handle start units bytes → MAX_SCRIPT < length bytes → Comes before now (whole_file state handle) start (Ok (Some bytes)) state units
  unfolding reading
  past_limit on past = by on.reads on.rest
    where
      over : nat_lt MAX_SCRIPT (length bytes) ≡ true
      over = grind (arith, past)

      by : (reads : ℕ) → ((new : Seen) (read : Read) (left : ℕ) → Comes now new (reading reads state handle bytes) units read state left → Comes before new (whole_file state handle) start read state left)
          → Comes before now (whole_file state handle) start (Ok (Some bytes)) state units
      by Prim.Native.Nat.zero rest = rest _ _ _ (follows_done refl)
      by (suc reads) rest = rest _ _ _ (rw over (follows_done refl))

  -- whatever follows one more read follows the start
  one_more : ReadsOn before now state handle start units bytes → length bytes ≤ MAX_SCRIPT
      → (reads : ℕ) × (MAX_SCRIPT < suc reads + length bytes) × ((new : Seen) (read : Read) (left : ℕ) → Comes now new (one_read state handle bytes reads) units read state left → Comes before new (whole_file state handle) start read state left)
  unfolding reading
  one_more on within = by on.reads on.enough on.rest
    where
      under : nat_lt MAX_SCRIPT (length bytes) ≡ false
      under = grind (arith, within)

      by : (reads : ℕ) → MAX_SCRIPT < reads + length bytes → ((new : Seen) (read : Read) (left : ℕ) → Comes now new (reading reads state handle bytes) units read state left → Comes before new (whole_file state handle) start read state left)
          → (reads : ℕ) × (MAX_SCRIPT < suc reads + length bytes) × ((new : Seen) (read : Read) (left : ℕ) → Comes now new (one_read state handle bytes reads) units read state left → Comes before new (whole_file state handle) start read state left)
      by Prim.Native.Nat.zero few rest = absurd (omega arith)
      by (suc reads) enough rest = (reads, enough, λ new read left p. rest new read left (rw under p))

  -- no unit is left
  pub out_of_units : ReadsOn before now state handle start units bytes → length bytes ≤ MAX_SCRIPT → units ≡ 0 → Comes before now (whole_file state handle) start (Err Spent) state units
  out_of_units on within none = let more = one_more on within in more.2 _ _ _ (follows_spent none)

  module _ (on : ReadsOn before now state handle start units bytes) (within : length bytes ≤ MAX_SCRIPT) (some : 0 < units) where
    -- a read that is cut off
    pub read_short : {new : Seen} {read : Read} → Done now new (read_act handle) None → IsErrAnd read (λ e. e ≡ NoMemory) → Comes before new (whole_file state handle) start read state (units - 1)
    read_short d is = let more = one_more on within in more.2 _ _ _ (unit_then _ some (act_short _ d is))

    -- a read that fails
    pub read_fails : {new : Seen} (fault : Fault) → Done now new (read_act handle) (Some (Err fault)) → Comes before new (whole_file state handle) start (Ok None) state (units - 1)
    read_fails fault d = let more = one_more on within in more.2 _ _ _ (unit_then _ some (act_then _ d (follows_done refl)))

    -- a read at the end
    pub read_ends : {new : Seen} (piece : List ℕ) → length piece ≡ 0 → Done now new (read_act handle) (Some (Ok piece)) → Comes before new (whole_file state handle) start (Ok (Some bytes)) state (units - 1)
    read_ends [] none d = let more = one_more on within in more.2 _ _ _ (unit_then _ some (act_then _ d (follows_done refl)))
    read_ends (byte ∷ piece) none d = absurd (omega arith)

    -- a piece, for which there is no memory
    pub piece_lost : {new : Seen} {read : Read} (piece : List ℕ) → Done now new (read_act handle) (Some (Ok piece)) → IsErrAnd read (λ e. e ≡ NoMemory) → Comes before new (whole_file state handle) start read state (units - 1)
    piece_lost piece d is = let more = one_more on within in more.2 _ _ _ (unit_then _ some (act_then _ d (memory_short is)))

    -- a piece that is put behind
    pub read_on : {new : Seen} (piece : List ℕ) → (length piece ≡ 0 → ⊥) → Done now new (read_act handle) (Some (Ok piece)) → ReadsOn before new state handle start (units - 1) (bytes ++ piece)
    read_on [] some_bytes d = absurd (some_bytes refl)
    read_on (byte ∷ piece) some_bytes d =
        let more = one_more on within in
        record {
          reads = more.0;
          enough = let longer = length-append bytes (byte ∷ piece) in let enough = more.1 in omega arith;
          rest = λ new read left p. more.2 new read left (unit_then _ some (act_then _ d p));
        }
