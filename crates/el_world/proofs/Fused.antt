-- What a fuse shows, call by call.
use Rattle.std.proofs.Common.{◌≡◌, ◌⊎◌, inl, inr, ℕ, ◌+◌, ◌-◌, ◌^◌, ◌<◌, ◌≤◌, Bool, true, false, nat_lt, List, [], ◌∷◌, ◌++◌, take, drop, length, length-append, Option, None, Some, option_map, Result, Ok, Err, IfOk, OnErr, refl, sym, ap, subst, ◌∙◌, append_assoc, true≢false, arith, if◌then◌else◌}
use Rattle.std.proofs.Math.Seq.{take-length, drop-length}
use Rattle.std.proofs.lemmas.List.{take-append-le, drop-append-le}
use Rattle.std.proofs.lemmas.Bool.{le-leb, leb-true}
use Rattle.el_words.specs.declared.memory.NoMemory.{NoMemory as NoMemoryError}
use Rattle.el_world.specs.declared.event.Event.{Event}
use Rattle.el_world.specs.declared.event.Handle.{Handle}
use Rattle.el_world.specs.declared.event.Fault.{Fault}
use Rattle.el_world.specs.declared.event.Fault.TheVariants.{Failed, NoMemory}
use Rattle.el_world.specs.declared.event.Pid.{Pid}
use Rattle.el_world.specs.declared.event.StartFault.{StartFault}
use Rattle.el_world.specs.declared.event.StartFault.TheVariants.{Failed as StartFailed, NoMemory as NoStartMemory}
use Rattle.el_world.specs.World.{Seen, extended, told_unless_no_memory, told_unless_no_start_memory, HasCause, Rose}
use Rattle.el_world.specs.Lawful.{TellsOrLoses}
use Rattle.el_world.specs.Handles.{Gave, Keeps}
use Rattle.el_world.specs.Runs.{Added}
use Rattle.el_world.specs.Scripted.{counted}
use Rattle.el_world.proofs.Added.{extended-nothing}
use Rattle.el_world.proofs.Calls.{none_given}
use Rattle.el_world.specs.Fuse.{Wire, whole, blown, Fused, put_in, told_length, has_come, log_through, seen_through, is_due, counted_down, by_due, is_in_place}

-- ---- logs

-- at the end of what is told
put_last : (log : Option (List Event)) (event : Event) → option_map (put_in (told_length log) event) log ≡ extended log (event ∷ [])
unfolding extended
put_last None event = refl
put_last (Some events) event = ap Some (ap (λ front. front ++ event ∷ drop (length events) events) (take-length events) ∙ ap (λ back. events ++ event ∷ back) (drop-length events))

-- what is told later stands behind it
put_before : (place : ℕ) (event : Event) (log : Option (List Event)) (told : List Event) → place ≤ told_length log
    → option_map (put_in place event) (extended log told) ≡ extended (option_map (put_in place event) log) told
unfolding extended
put_before place event None told le = refl
put_before place event (Some events) told le =
    ap Some (ap (λ front. front ++ event ∷ drop place (events ++ told)) (take-append-le place events told le)
    ∙ ap (λ back. take place events ++ event ∷ back) (drop-append-le place events told le)
    ∙ sym (append_assoc (take place events) (event ∷ drop place events) told))

grows : (log : Option (List Event)) (told : List Event) → told_length log ≤ told_length (extended log told)
unfolding extended
grows None told = omega arith
grows (Some events) told = let both : length (events ++ told) ≡ length events + length told = length-append events told in omega arith

-- ---- faults

-- a count that rises rises with one fault more
counted-cause : {T E : Type 0} (failed : Bool) (before now : ℕ) (answer : Result T E) (error : E) → HasCause before now answer error → HasCause (counted failed before) (counted failed now) answer error
counted-cause false before now answer error h = h
counted-cause true before now answer error h = by (nat_lt before (2 ^ 64 - 1)) refl (nat_lt now (2 ^ 64 - 1)) refl
  where
    by : (b : Bool) → nat_lt before (2 ^ 64 - 1) ≡ b → (n : Bool) → nat_lt now (2 ^ 64 - 1) ≡ n
        → HasCause (if b then before + 1 else before) (if n then now + 1 else now) answer error
    by true lt true lt' = let later : before ≤ now = h.later in record { later = omega arith; risen = λ is. let rose : Rose before now = h.risen is in omega arith }
    by true lt false ge' = let less : before < 2 ^ 64 - 1 = grind (arith, lt) in let more : 2 ^ 64 - 1 ≤ now = grind (arith, ge') in record { later = omega arith; risen = λ is. omega arith }
    by false ge true lt' = let more : 2 ^ 64 - 1 ≤ before = grind (arith, ge) in let less : now < 2 ^ 64 - 1 = grind (arith, lt') in let later : before ≤ now = h.later in absurd (omega arith)
    by false ge false ge' = let later : before ≤ now = h.later in record { later = later; risen = h.risen }

-- and never falls
pub counted-later : (failed : Bool) (before now : ℕ) → before ≤ now → counted failed before ≤ counted failed now
counted-later false before now later = later
counted-later true before now later = by (nat_lt before (2 ^ 64 - 1)) refl (nat_lt now (2 ^ 64 - 1)) refl
  where
    by : (b : Bool) → nat_lt before (2 ^ 64 - 1) ≡ b → (n : Bool) → nat_lt now (2 ^ 64 - 1) ≡ n → (if b then before + 1 else before) ≤ (if n then now + 1 else now)
    by true lt true lt' = omega arith
    by true lt false ge' = let less : before < 2 ^ 64 - 1 = grind (arith, lt) in let more : 2 ^ 64 - 1 ≤ now = grind (arith, ge') in omega arith
    by false ge true lt' = omega arith
    by false ge false ge' = later

-- one fault more has its cause
counted-one : {T E : Type 0} (before : ℕ) (answer : Result T E) (error : E) → HasCause before (counted true before) answer error
counted-one before answer error = by (nat_lt before (2 ^ 64 - 1)) refl
  where
    by : (b : Bool) → nat_lt before (2 ^ 64 - 1) ≡ b → HasCause before (if b then before + 1 else before) answer error
    by true lt = record { later = omega arith; risen = λ is. omega arith }
    by false ge = let more : 2 ^ 64 - 1 ≤ before = grind (arith, ge) in record { later = omega arith; risen = λ is. omega arith }

module _ {W : Type 0} (seen : W → Seen) where
  -- ---- a call that is passed on

  down-log : (wire : Wire W) (world : W) → log_through seen (counted_down wire) world ≡ log_through seen wire world
  down-log (whole left) world = refl
  down-log (blown None) world = refl
  down-log (blown (Some failure)) world = refl

  down-come : (wire : Wire W) → has_come (counted_down wire) ≡ has_come wire
  down-come (whole left) = refl
  down-come (blown failure) = refl

  pub extends : (wire : Wire W) (world later : W) (told : List Event) → is_in_place seen wire world ≡ true → (seen later).log ≡ extended (seen world).log told
      → log_through seen wire later ≡ extended (log_through seen wire world) told
  extends (whole left) world later told placed is = is
  extends (blown None) world later told placed is = is
  extends (blown (Some failure)) world later told placed is =
      ap (option_map (put_in (told_length (seen failure.before).log) failure.event)) is
      ∙ put_before (told_length (seen failure.before).log) failure.event (seen world).log told (leb-true (told_length (seen failure.before).log) (told_length (seen world).log) placed)

  -- its place stays
  pub still_in_place : (wire : Wire W) (world later : W) (told : List Event) → (seen later).log ≡ extended (seen world).log told → is_in_place seen wire world ≡ true → is_in_place seen wire later ≡ true
  still_in_place (whole left) world later told is placed = refl
  still_in_place (blown None) world later told is placed = refl
  still_in_place (blown (Some failure)) world later told is placed =
      let before : told_length (seen failure.before).log ≤ told_length (seen world).log = leb-true (told_length (seen failure.before).log) (told_length (seen world).log) placed in
      let more : told_length (seen world).log ≤ told_length (extended (seen world).log told) = grows (seen world).log told in
      let same : told_length (seen later).log ≡ told_length (extended (seen world).log told) = ap told_length is in
      le-leb (told_length (seen failure.before).log) (told_length (seen later).log) (omega arith)

  pub passed-log : (old : Fused W) (wire : Wire W) (world later : W) (told : List Event) → wire ≡ counted_down old.wire → world ≡ old.world → is_in_place seen wire world ≡ true
      → (seen later).log ≡ extended (seen world).log told → log_through seen wire later ≡ extended (log_through seen old.wire old.world) told
  passed-log old wire world later told down same placed is =
      extends wire world later told placed is
      ∙ ap (λ log. extended log told) (ap (λ wire. log_through seen wire world) down ∙ down-log old.wire world ∙ ap (λ world. log_through seen old.wire world) same)

  pub passed-or_lost : {T : Type 0} (old : Fused W) (wire : Wire W) (world later : W) (event : Result T Fault → Event) (answer : Result T Fault) → wire ≡ counted_down old.wire → world ≡ old.world → is_in_place seen wire world ≡ true
      → TellsOrLoses (seen world) (seen later) event answer → TellsOrLoses (seen_through seen old) (seen_through seen (record { world = later; wire = wire })) event answer
  passed-or_lost old wire world later event answer down same placed is = record { lost = is.lost; told = passed-log old wire world later _ down same placed is.told; lawful = is.lawful }

  pub passed-cause : {T E : Type 0} (old : Fused W) (wire : Wire W) (world : W) (now : ℕ) (answer : Result T E) (error : E) → wire ≡ counted_down old.wire → world ≡ old.world
      → HasCause (seen world).faults now answer error → HasCause (counted (has_come old.wire) (seen old.world).faults) (counted (has_come wire) now) answer error
  passed-cause old wire world now answer error down same h =
      let come : has_come wire ≡ has_come old.wire = ap has_come down ∙ down-come old.wire in
      let cause = rw same at h in
      rw come (counted-cause (has_come old.wire) (seen old.world).faults now answer error cause)

  -- the handles are the inner ones
  pub passed-keeps : (old : Fused W) (wire : Wire W) (world later : W) → world ≡ old.world → Keeps (seen world) (seen later) → Keeps (seen_through seen old) (seen_through seen (record { world = later; wire = wire }))
  passed-keeps old wire world later same h = let h = rw same at h in record { held = h.held; next = h.next; origin = h.origin }

  pub passed-gave : (old : Fused W) (wire : Wire W) (world later : W) (handles : List Handle) → world ≡ old.world → Gave (seen world) (seen later) handles
      → Gave (seen_through seen old) (seen_through seen (record { world = later; wire = wire })) handles
  passed-gave old wire world later handles same h = let h = rw same at h in record { held = h.held; rising = h.rising; fresh = h.fresh; origin = h.origin }

  pub passes : {T E : Type 0} (old : Fused W) (wire : Wire W) (world later : W) (told : List Event) (event : Event) (answer : Result T E) (failed no_memory : E)
      → wire ≡ counted_down old.wire → world ≡ old.world → is_due old.wire ≡ false → Added (seen world) (seen later) told
      → by_due seen (is_due old.wire) old (record { world = later; wire = wire }) told event answer failed no_memory
  passes old wire world later told event answer failed no_memory down same due added = rw due (record { wire = down; added = rw same at added })

  -- ---- the call that fails

  -- what its failing says: it has this event, or there was no memory for it
  pub record Failing (old new : Fused W) (made : Result Event NoMemoryError) (fault : Fault) : Type 0 where
    pub due : is_due old.wire ≡ true
    pub world : new.world ≡ old.world
    pub told : IfOk made (λ event. (fault ≡ Failed) × (new.wire ≡ blown (Some (record { event = event; before = old.world }))))
    pub untold : OnErr made ((fault ≡ NoMemory) × (new.wire ≡ blown None))

  due-whole : (old : Fused W) → is_due old.wire ≡ true → (log_through seen old.wire old.world ≡ (seen old.world).log) × (has_come old.wire ≡ false)
  due-whole old due = by old.wire due
    where
      by : (wire : Wire W) → is_due wire ≡ true → (log_through seen wire old.world ≡ (seen old.world).log) × (has_come wire ≡ false)
      by (whole left) due = (refl, refl)
      by (blown failure) due = absurd (true≢false (sym due))

  pub failing : (old mid new : Fused W) (made : Result Event NoMemoryError) (fault : Fault) (due : Bool) → due ≡ is_due old.wire → due ≡ true → mid ≡ record old { wire = counted_down old.wire } → new.world ≡ mid.world
      → IfOk made (λ event. (fault ≡ Failed) × (new.wire ≡ blown (Some (record { event = event; before = mid.world })))) → OnErr made ((fault ≡ NoMemory) × (new.wire ≡ blown None)) → Failing old new made fault
  failing old mid new made fault due is met count same told untold =
      let at : mid.world ≡ old.world = ap (λ (fuse : Fused W). fuse.world) count in
      record {
        due = sym is ∙ met;
        world = same ∙ at;
        told = subst (λ world. IfOk made (λ event. (fault ≡ Failed) × (new.wire ≡ blown (Some (record { event = event; before = world }))))) at told;
        untold = untold;
      }

  module _ {old new : Fused W} {made : Result Event NoMemoryError} {fault : Fault} where
    -- the fused log has one event more, or none
    blown-log : (event : Event) (told : List Event) → Failing old new made fault → IfOk made (λ e. e ≡ event) → (fault ≡ Failed → told ≡ event ∷ []) → (fault ≡ NoMemory → told ≡ [])
        → log_through seen new.wire new.world ≡ extended (log_through seen old.wire old.world) told
    blown-log event told h is some none = by made h.told h.untold is
      where
        by : (made : Result Event NoMemoryError) → IfOk made (λ e. (fault ≡ Failed) × (new.wire ≡ blown (Some (record { event = e; before = old.world }))))
            → OnErr made ((fault ≡ NoMemory) × (new.wire ≡ blown None)) → IfOk made (λ e. e ≡ event)
            → log_through seen new.wire new.world ≡ extended (log_through seen old.wire old.world) told
        by (Ok e) t u is =
            ap (λ wire. log_through seen wire new.world) t.1 ∙ ap (log_through seen (blown (Some (record { event = e; before = old.world })))) h.world
            ∙ put_last (seen old.world).log e ∙ ap (λ e. extended (seen old.world).log (e ∷ [])) is
            ∙ sym (ap (λ log. extended log told) (due-whole old h.due).0 ∙ ap (extended (seen old.world).log) (some t.0))
        by (Err error) t u is =
            ap (λ wire. log_through seen wire new.world) u.1 ∙ ap (λ world. (seen world).log) h.world
            ∙ extended-nothing (seen old.world).log
            ∙ sym (ap (λ log. extended log told) (due-whole old h.due).0 ∙ ap (extended (seen old.world).log) (none u.0))

    pub blown-call : {T : Type 0} (event : Result T Fault → Event) → Failing old new made fault → IfOk made (λ e. e ≡ event (Err Failed))
        → log_through seen new.wire new.world ≡ extended (log_through seen old.wire old.world) (told_unless_no_memory {T = T} (Err fault) (event (Err fault)))
    unfolding told_unless_no_memory
    blown-call {T} event h is = blown-log (event (Err Failed)) (told_unless_no_memory {T = T} (Err fault) (event (Err fault))) h is (λ e. ap (λ fault. told_unless_no_memory {T = T} (Err fault) (event (Err fault))) e) (λ e. ap (λ fault. told_unless_no_memory {T = T} (Err fault) (event (Err fault))) e)

    pub blown-start : (answer : StartFault) (event : Result Pid StartFault → Event) → (fault ≡ Failed → answer ≡ StartFailed) → (fault ≡ NoMemory → answer ≡ NoStartMemory)
        → Failing old new made fault → IfOk made (λ e. e ≡ event (Err StartFailed))
        → log_through seen new.wire new.world ≡ extended (log_through seen old.wire old.world) (told_unless_no_start_memory (Err answer) (event (Err answer)))
    unfolding told_unless_no_start_memory
    blown-start answer event failed no_memory h is = blown-log (event (Err StartFailed)) (told_unless_no_start_memory (Err answer) (event (Err answer))) h is
        (λ e. ap (λ answer. told_unless_no_start_memory (Err answer) (event (Err answer))) (failed e)) (λ e. ap (λ answer. told_unless_no_start_memory (Err answer) (event (Err answer))) (no_memory e))

    -- one fault more is counted
    pub blown-cause : {T E : Type 0} (answer : Result T E) (error : E) → Failing old new made fault → HasCause (counted (has_come old.wire) (seen old.world).faults) (counted (has_come new.wire) (seen new.world).faults) answer error
    blown-cause answer error h =
        let none : has_come old.wire ≡ false = (due-whole old h.due).1 in
        rw (none, come made h.told h.untold, h.world) (counted-one (seen old.world).faults answer error)
      where
        come : (made : Result Event NoMemoryError) → IfOk made (λ e. (fault ≡ Failed) × (new.wire ≡ blown (Some (record { event = e; before = old.world }))))
            → OnErr made ((fault ≡ NoMemory) × (new.wire ≡ blown None)) → has_come new.wire ≡ true
        come (Ok e) t u = ap has_come t.1
        come (Err error) t u = ap has_come u.1

    -- nothing is given
    pub blown-keeps : Failing old new made fault → Keeps (seen_through seen old) (seen_through seen new)
    blown-keeps h = record { held = ap (λ world. (seen world).held) h.world; next = ap (λ world. (seen world).next) h.world; origin = ap (λ world. (seen world).origin) h.world }

    pub blown-gives_none : Failing old new made fault → Gave (seen_through seen old) (seen_through seen new) []
    blown-gives_none h = none_given (blown-keeps h)

    pub blows : {E : Type 0} (T : Type 0) (event : Event) (told : List Event) (answer failed no_memory : E) → (fault ≡ Failed → answer ≡ failed) → (fault ≡ NoMemory → answer ≡ no_memory) → Failing old new made fault → IfOk made (λ e. e ≡ event)
        → by_due {T = T} seen (is_due old.wire) old new told event (Err answer) failed no_memory
    blows {E} T event told answer failed no_memory some none h is = rw h.due (record { world = h.world; wire = by made h.told h.untold is })
      where
        by : (made : Result Event NoMemoryError) → IfOk made (λ e. (fault ≡ Failed) × (new.wire ≡ blown (Some (record { event = e; before = old.world }))))
            → OnErr made ((fault ≡ NoMemory) × (new.wire ≡ blown None)) → IfOk made (λ e. e ≡ event)
            → ((◌≡◌ {A = Result T E} (Err answer) (Err failed)) × (new.wire ≡ blown (Some (record { event = event; before = old.world })))) ⊎ ((◌≡◌ {A = Result T E} (Err answer) (Err no_memory)) × (new.wire ≡ blown None))
        by (Ok e) t u is = inl (ap Err (some t.0), t.1 ∙ ap (λ e. blown (Some (record { event = e; before = old.world }))) is)
        by (Err error) t u is = inr (ap Err (none u.0), u.1)
