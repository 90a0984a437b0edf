-- An input that is being read, with the turns for its values.
use Rattle.el_room.proofs.Vocabulary.{position_or_len, IsErrAnd, Splitting, fed, values_of, last_value, fed-append, Fault, Handle, Finish, Spent, NoMemory, Seen, read_act, takes, and_go_on, State, Task, Done, Follows, act_short, act_then, unit_then, plan_stopped, follows_spent, follows_units, Failed, most_units, has_nul, before_nul}
use Rattle.std.proofs.Common.{◌≡◌, ℕ, suc, ◌+◌, ◌-◌, ◌<◌, ◌^◌, Bool, true, false, ◌||◌, None, Some, Result, Ok, Err, List, [], ◌∷◌, ◌++◌, length, take, refl, sym, ap, ◌∙◌, subst, true≢false, arith}
use Rattle.std.proofs.lemmas.List.{take_all}
use Rattle.el_world.specs.States as end
use Rattle.el_proc.specs.Inputs.{is_nul}
use Rattle.el_loops.specs.declared.turn.Turn.{Turn}
use Rattle.el_loops.specs.Turns.{Looping, turns}
use Rattle.el_loops.specs.Values.{new_values, last_values, used, after_read, turns_behind, turns_over}
use Rattle.el_loops.specs.Loops.{BreaksOff, unread, listed}
use Rattle.el_loops.proofs.Breaks.{follows_broken}
use Rattle.el_loops.proofs.Leads.{Leads, leads_then, leads_act, leads_unit}
use Rattle.el_loops.proofs.ValuesOf.{new-is, last-is}

-- the code followed a plan of turns
abbrev pub Comes : (before new : Seen) → Task (List Turn) → (units : ℕ) → Result (Unit {0}) Finish → (made : List Turn) → State → (left : ℕ) → Type 0
Comes before new run units result made state left = Follows before new run units result (λ _. made) state left

-- behind the bytes that were read, of which the splitter keeps what it does, more reads than units are left
pub record ReadsOn (before now : Seen) (looping : Looping) (handle : Handle) (start units : ℕ) (splitter : Splitting) (made : List Turn) : Type 0 where
  pub input : List ℕ
  pub kept : splitter ≡ fed (unread looping.read) input
  pub reads : ℕ
  pub enough : units < reads
  pub on : Leads (Unit {0}) before now (turns_over looping handle) start (turns_behind reads looping handle input made) units looping.state

pub none_read : (world : Seen) (looping : Looping) (handle : Handle) (start : ℕ) (splitter : Splitting) (made : List Turn) → start < 2 ^ 64 → splitter ≡ unread looping.read → made ≡ []
    → ReadsOn world world looping handle start start splitter made
unfolding turns_over most_units
none_read world looping handle start splitter made below is first = record {
  input = [];
  kept = is;
  reads = most_units;
  enough = below;
  on = record { rest = λ new result all left p. rw first at p };
}

-- one more read
abbrev one_read : (looping : Looping) (handle : Handle) (input : List ℕ) (made : List Turn) (reads : ℕ) → Task (List Turn)
one_read looping handle input made reads =
    takes (end.Spent looping.state) (and_go_on (read_act handle) (after_read looping (λ before made. turns_behind reads looping handle before made) input made))

-- without a NUL all bytes are before it
all_counted : (bytes : List ℕ) → has_nul bytes ≡ false → position_or_len is_nul bytes ≡ length bytes
all_counted [] none = refl
all_counted (byte ∷ bytes) none = by (is_nul byte) refl none (all_counted bytes)
  where
    by : (nul : Bool) → is_nul byte ≡ nul → (is_nul byte || has_nul bytes) ≡ false → (has_nul bytes ≡ false → position_or_len is_nul bytes ≡ length bytes) → position_or_len is_nul (byte ∷ bytes) ≡ length (byte ∷ bytes)
    by true e none rest = absurd (true≢false (sym (ap (λ b. b || has_nul bytes) e) ∙ none))
    by false e none rest =
        let more : position_or_len is_nul bytes ≡ length bytes = rest (sym (ap (λ b. b || has_nul bytes) e) ∙ none) in
        let sum : 1 + position_or_len is_nul bytes ≡ length (byte ∷ bytes) = omega (arith, more) in
        rw e sum

all_before : (bytes : List ℕ) → has_nul bytes ≡ false → before_nul bytes ≡ bytes
all_before bytes none = ap (λ n. take n bytes) (all_counted bytes none) ∙ take_all (length bytes) bytes (omega arith)

module _ {before now : Seen} {looping : Looping} {handle : Handle} {start units : ℕ} {splitter : Splitting} {made : List Turn} (on : ReadsOn before now looping handle start units splitter made) where
  -- one more read is left
  one_more : (reads : ℕ) × (units < suc reads) × Leads (Unit {0}) before now (turns_over looping handle) start (one_read looping handle on.input made reads) units looping.state
  unfolding turns_behind
  one_more = by on.reads on.enough on.on
    where
      by : (reads : ℕ) → units < reads → Leads (Unit {0}) before now (turns_over looping handle) start (turns_behind reads looping handle on.input made) units looping.state
          → (reads : ℕ) × (units < suc reads) × Leads (Unit {0}) before now (turns_over looping handle) start (one_read looping handle on.input made reads) units looping.state
      by Prim.Native.Nat.zero few rest = absurd (omega arith)
      by (suc reads) few rest = (reads, few, rest)

  -- no unit is left
  pub out_of_units : (all : List Turn) → units ≡ 0 → Comes before now (turns_over looping handle) start (Err Spent) all looping.state (units - 1)
  out_of_units all none =
      let same : units ≡ units - 1 = omega arith in
      subst (λ left. Comes before now (turns_over looping handle) start (Err Spent) all looping.state left) same (one_more.2.rest _ _ _ _ (follows_spent none))

  module _ (some : 0 < units) where
    -- a read that is cut off
    pub read_short : {new : Seen} {result : Result (Unit {0}) Finish} (all : List Turn) → Done now new (read_act handle) None → IsErrAnd result (λ e. e ≡ NoMemory) → Comes before new (turns_over looping handle) start result all looping.state (units - 1)
    read_short all d is = one_more.2.rest _ _ _ _ (unit_then _ some (act_short _ d is))

    -- a read that fails
    pub read_fails : {mid new : Seen} {finish : Finish} (all : List Turn) (fault : Fault) → Done now mid (read_act handle) (Some (Err fault)) → BreaksOff mid new looping Failed finish
        → Comes before new (turns_over looping handle) start (Err finish) all looping.state (units - 1)
    read_fails all fault d broken = one_more.2.rest _ _ _ _ (unit_then _ some (act_then _ d (follows_broken broken)))

    -- a read at the end
    pub read_ends : {mid new : Seen} {result : Result (Unit {0}) Finish} {all : List Turn} {left : ℕ} (piece : List ℕ) → length piece ≡ 0 → Done now mid (read_act handle) (Some (Ok piece))
        → Comes mid new (turns looping made (listed (last_value splitter.unfinished))) (units - 1) result all looping.state left → Comes before new (turns_over looping handle) start result all looping.state left
    read_ends {mid} {new} {result} {all} {left} [] none d p =
        let same : last_values looping.read on.input ≡ listed (last_value splitter.unfinished) = last-is looping.read on.input ∙ ap (λ (s : Splitting). listed (last_value s.unfinished)) (sym on.kept) in
        one_more.2.rest _ _ _ _ (unit_then _ some (act_then _ d (subst (λ values. Comes mid new (turns looping made values) (units - 1) result all looping.state left) (sym same) p)))
    read_ends (byte ∷ piece) none d p = absurd (omega arith)

    -- the same values, by the input and by the splitter
    used_as : {mid new : Seen} {result : Result (Unit {0}) Finish} {all : List Turn} {left : ℕ} (piece : List ℕ)
        → Comes mid new (used looping made (values_of splitter (before_nul piece)) (has_nul piece)) (units - 1) result all looping.state left
        → Comes mid new (used looping made (new_values looping.read on.input (before_nul piece)) (has_nul piece)) (units - 1) result all looping.state left
    used_as {mid} {new} {result} {all} {left} piece p =
        let same : new_values looping.read on.input (before_nul piece) ≡ values_of splitter (before_nul piece) = new-is looping.read on.input (before_nul piece) ∙ ap (λ (s : Splitting). values_of s (before_nul piece)) (sym on.kept) in
        subst (λ values. Comes mid new (used looping made values (has_nul piece)) (units - 1) result all looping.state left) (sym same) p

    -- a piece at which the process ends
    pub piece_ends : {mid new : Seen} {finish : Finish} {result : Result (Unit {0}) Finish} {all : List Turn} {left : ℕ} (piece : List ℕ) → (length piece ≡ 0 → ⊥) → Done now mid (read_act handle) (Some (Ok piece))
        → Comes mid new (used looping made (values_of splitter (before_nul piece)) (has_nul piece)) (units - 1) (Err finish) all looping.state left → IsErrAnd result (λ e. e ≡ finish)
        → Comes before new (turns_over looping handle) start result all looping.state left
    piece_ends [] bytes d p is = absurd (bytes refl)
    piece_ends (byte ∷ piece) bytes d p is = one_more.2.rest _ _ _ _ (unit_then _ some (act_then _ d (plan_stopped _ (used_as (byte ∷ piece) p) is)))

    -- a piece that was used
    pub piece_used : {mid new : Seen} {next : List Turn} {fed_splitter : Splitting} {left : ℕ} (piece : List ℕ) → (length piece ≡ 0 → ⊥) → Done now mid (read_act handle) (Some (Ok piece))
        → Comes mid new (used looping made (values_of splitter (before_nul piece)) (has_nul piece)) (units - 1) (Ok tt) next looping.state left → has_nul piece ≡ false → fed_splitter ≡ fed splitter (before_nul piece)
        → ReadsOn before new looping handle start left fed_splitter next
    piece_used [] bytes d p none is = absurd (bytes refl)
    piece_used {next = next} {fed_splitter = fed_splitter} (byte ∷ piece) bytes d p none is = record {
      input = on.input ++ byte ∷ piece;
      kept = is ∙ ap (fed splitter) (all_before (byte ∷ piece) none) ∙ ap (λ (s : Splitting). fed s (byte ∷ piece)) on.kept ∙ sym (fed-append (unread looping.read) on.input (byte ∷ piece));
      reads = one_more.0;
      enough = let few = one_more.1 in let less = follows_units p (λ e. let no : ⊥ = cc in no) in omega arith;
      on = leads_then _ (leads_act _ (leads_unit _ one_more.2 some) d) (used_as (byte ∷ piece) p);
    }
