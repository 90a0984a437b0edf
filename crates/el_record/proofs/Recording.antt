-- What a recorder keeps and tells.
use Rattle.std.proofs.Common.{◌≡◌, inl, inr, true≢false, ℕ, ◌+◌, ◌<◌, ◌≤◌, ◌^◌, Bool, true, false, ◌&&◌, cond, List, [], ◌∷◌, ◌++◌, length, Option, Some, None, Result, Ok, Err, IfOk, refl, sym, ap, subst, ◌∙◌, append-nil, length-append, arith}
use Rattle.std.specs.Result.{IsErrAnd}
use Rattle.std.proofs.lemmas.Result.{err_from_is_err_and}
use Rattle.el_words.proofs.Truths.{left_of, right_of}
use Rattle.el_world.specs.declared.event.Event.{Event}
use Rattle.el_world.specs.declared.event.Event.TheVariants.{Close}
use Rattle.el_world.specs.declared.event.Handle.{Handle}
use Rattle.el_world.specs.declared.event.PipeEnds.{PipeEnds}
use Rattle.el_world.specs.declared.event.Fault.{Fault}
use Rattle.el_world.specs.declared.event.Fault.TheVariants.{Failed, NoMemory}
use Rattle.el_world.specs.declared.event.Pid.{Pid}
use Rattle.el_world.specs.declared.event.StartFault.{StartFault}
use Rattle.el_world.specs.declared.event.StartFault.TheVariants.{NotFound, NotStartable, Failed as StartFailed, NoMemory as NoStartMemory}
use Rattle.el_world.specs.World.{Seen, Origin, past, extended, told_unless_no_memory, told_or_lost, told_unless_no_start_memory, HasCause}
use Rattle.el_world.specs.Lawful.{are_lawful, is_lawful, TellsOrLoses}
use Rattle.el_world.specs.Handles.{is_held, without, Keeps, Gave, opened_handles, piped_handles}
use Rattle.el_world.specs.Plans.{Plan, Outcome, Begins}
use Rattle.el_world.specs.Runs.{Added, RanWith}
use Rattle.el_world.proofs.Added.{nothing_added, added_after}
use Rattle.el_world.proofs.Calls.{none_given}
use Rattle.el_world.proofs.Held.{length-without}
use Rattle.el_record.specs.Lost.{may_be_lost, AddedButForLost, BegunButForLost}
use Rattle.el_record.specs.Recordable.{AreRecordable}
use Rattle.el_record.specs.Fits.{HasStartParts, IsTellable}
use Rattle.el_record.proofs.Lost.{one_lost, all_added, closed_after, begun}
use Rattle.el_record.proofs.Fitting.{recordable-append, close_fits}
use Rattle.el_record.specs.Recorded.{Recorded, past_of, IsCopyOf, seen_of, Passed, Handed, IsKept, has_event, has_start_event}

-- a past is that of one world as it was seen
pub same_past : (one other : Seen) → past_of one ≡ past_of other → one ≡ other
same_past one other same = ap seen_in same
  where
    seen_in : Origin → Seen
    seen_in (past log faults held next origin) = record { log = log; faults = faults; held = held; next = next; origin = origin }
    seen_in origin = one

-- ---- the event of a call

told_is : {T : Type 0} (answer : Result T Fault) (event : Event) → cond (has_event answer) (event ∷ []) [] ≡ told_unless_no_memory answer event
unfolding told_unless_no_memory
told_is (Ok value) event = refl
told_is (Err Failed) event = refl
told_is (Err NoMemory) event = refl

start_told_is : (answer : Result Pid StartFault) (event : Event) → cond (has_start_event answer) (event ∷ []) [] ≡ told_unless_no_start_memory answer event
unfolding told_unless_no_start_memory
start_told_is (Ok pid) event = refl
start_told_is (Err NotFound) event = refl
start_told_is (Err NotStartable) event = refl
start_told_is (Err StartFailed) event = refl
start_told_is (Err NoStartMemory) event = refl

-- what was put behind the log is the event of the call
pub put_behind : {T : Type 0} (log mid new : List Event) (told : Bool) (answer : Result T Fault) (event : Event) → mid ≡ log → told ≡ has_event answer → new ≡ mid ++ cond told (event ∷ []) [] → new ≡ log ++ told_unless_no_memory answer event
put_behind log mid new told answer event same is e = e ∙ ap (λ log. log ++ cond told (event ∷ []) []) same ∙ ap (λ told. log ++ cond told (event ∷ []) []) is ∙ ap (λ more. log ++ more) (told_is answer event)

pub put_start_behind : (log mid new : List Event) (told : Bool) (answer : Result Pid StartFault) (event : Event) → mid ≡ log → told ≡ has_start_event answer → new ≡ mid ++ cond told (event ∷ []) [] → new ≡ log ++ told_unless_no_start_memory answer event
put_start_behind log mid new told answer event same is e = e ∙ ap (λ log. log ++ cond told (event ∷ []) []) same ∙ ap (λ told. log ++ cond told (event ∷ []) []) is ∙ ap (λ more. log ++ more) (start_told_is answer event)

-- a text can hold it
pub told_fits : {T : Type 0} (told : Bool) (answer : Result T Fault) (event : Event) → told ≡ has_event answer → AreRecordable (cond told (event ∷ []) []) → AreRecordable (told_unless_no_memory answer event)
told_fits told answer event is fits = subst AreRecordable (ap (λ told. cond told (event ∷ []) []) is ∙ told_is answer event) fits

pub start_told_fits : (told : Bool) (answer : Result Pid StartFault) (event : Event) → told ≡ has_start_event answer → AreRecordable (cond told (event ∷ []) []) → AreRecordable (told_unless_no_start_memory answer event)
start_told_fits told answer event is fits = subst AreRecordable (ap (λ told. cond told (event ∷ []) []) is ∙ start_told_is answer event) fits

-- what is told is lawful
lawful_event : (told : Bool) (event : Event) (events : List Event) → cond told (event ∷ []) [] ≡ events → are_lawful events ≡ true → HasStartParts event → told ≡ true → IsTellable event
lawful_event told event events same lawful parts is =
    record { lawful = left_of (is_lawful event) true (ap are_lawful (ap (λ told. cond told (event ∷ []) []) (sym is) ∙ same) ∙ lawful); parts = parts }

pub tellable : {T : Type 0} (told : Bool) (answer : Result T Fault) (event : Event) → told ≡ has_event answer → are_lawful (told_unless_no_memory answer event) ≡ true → HasStartParts event → told ≡ true → IsTellable event
tellable told answer event is lawful parts = lawful_event told event (told_unless_no_memory answer event) (ap (λ told. cond told (event ∷ []) []) is ∙ told_is answer event) lawful parts

pub start_tellable : (told : Bool) (answer : Result Pid StartFault) (event : Event) → told ≡ has_start_event answer → are_lawful (told_unless_no_start_memory answer event) ≡ true → HasStartParts event → told ≡ true → IsTellable event
start_tellable told answer event is lawful parts = lawful_event told event (told_unless_no_start_memory answer event) (ap (λ told. cond told (event ∷ []) []) is ∙ start_told_is answer event) lawful parts

-- one whose answer takes memory
pub told_whole : {T : Type 0} (event : Result T Fault → Event) (came : Result T Fault) (unseen : Option T) → has_event came ≡ true → told_or_lost event came unseen ≡ told_unless_no_memory came (event came)
unfolding told_unless_no_memory told_or_lost
told_whole event (Ok value) unseen is = refl
told_whole event (Err Failed) unseen is = refl
told_whole event (Err NoMemory) unseen is = absurd (true≢false (sym is))

pub handed_tellable : {T : Type 0} (told : Bool) (event : Result T Fault → Event) (came : Result T Fault) (unseen : Option T) → told ≡ has_event came → are_lawful (told_or_lost event came unseen) ≡ true → HasStartParts (event came) → told ≡ true → IsTellable (event came)
handed_tellable told event came unseen said lawful parts is =
    tellable told came (event came) said (ap are_lawful (sym (told_whole event came unseen (sym said ∙ is))) ∙ lawful) parts is

-- ---- the closes that are due for what a call gave

pub none_due : (told : Bool) (before now : ℕ) → now ≡ before + cond told 0 0 → before ≤ now
none_due true before now e = omega (arith, e)
none_due false before now e = omega (arith, e)

pub opened_due : (answer : Result Handle Fault) (told : Bool) (given before now : ℕ) → told ≡ has_event answer → given ≡ length (opened_handles answer) → now ≡ before + cond told given 0 → before + length (opened_handles answer) ≤ now
opened_due (Ok handle) told given before now is count e = let due : now ≡ before + given = e ∙ ap (λ told. before + cond told given 0) is in omega (arith, due, count)
opened_due (Err fault) told given before now is count e = by told e
  where
    by : (told : Bool) → now ≡ before + cond told given 0 → before + 0 ≤ now
    by true e = omega (arith, e)
    by false e = omega (arith, e)

pub piped_due : (answer : Result PipeEnds Fault) (told : Bool) (given before now : ℕ) → told ≡ has_event answer → given ≡ length (piped_handles answer) → now ≡ before + cond told given 0 → before + length (piped_handles answer) ≤ now
piped_due (Ok handle) told given before now is count e = let due : now ≡ before + given = e ∙ ap (λ told. before + cond told given 0) is in omega (arith, due, count)
piped_due (Err fault) told given before now is count e = by told e
  where
    by : (told : Bool) → now ≡ before + cond told given 0 → before + 0 ≤ now
    by true e = omega (arith, e)
    by false e = omega (arith, e)

-- ---- copies of answers

-- a value that nobody has seen was lost
pub told_but_for_lost : {T : Type 0} {old new : Seen} (log : List Event) (event : Result T Fault → Event) (came : Result T Fault) (unseen : Option T) → ((value : T) → may_be_lost (event (Ok value)) ≡ true)
    → Added old new (log ++ told_or_lost event came unseen) → AddedButForLost old new (log ++ told_unless_no_memory came (event came))
unfolding told_unless_no_memory told_or_lost
told_but_for_lost log event (Ok value) unseen may added = all_added added
told_but_for_lost log event (Err Failed) unseen may added = all_added added
told_but_for_lost log event (Err NoMemory) None may added = all_added added
told_but_for_lost {old = old} {new = new} log event (Err NoMemory) (Some value) may added =
    subst (λ events. AddedButForLost old new events) (sym (append-nil log)) (one_lost log (event (Ok value)) (may value) added)

-- a failure that is handed on is one that came
pub copied_cause : {T : Type 0} (before now : ℕ) (came answer : Result T Fault) → IsCopyOf came answer → HasCause before now came Failed → HasCause before now answer Failed
copied_cause before now (Ok value) answer (inl same) h = subst (λ a. HasCause before now a Failed) (sym same) h
copied_cause {T} before now (Ok value) answer (inr lost) h = subst (λ (a : Result T Fault). HasCause before now a Failed) (sym lost) (record { later = h.later; risen = λ no. absurd (cc) })
copied_cause before now (Err fault) answer same h = subst (λ a. HasCause before now a Failed) (sym same) h

pub copied_ok : {T : Type 0} (P : T → Type 0) (came answer : Result T Fault) → IsCopyOf came answer → IfOk came P → IfOk answer P
copied_ok P (Ok value) answer (inl same) is = subst (λ a. IfOk a P) (sym same) is
copied_ok P (Ok value) answer (inr lost) is = subst (λ a. IfOk a P) (sym lost) tt
copied_ok P (Err fault) answer same is = subst (λ a. IfOk a P) (sym same) tt

none_opened : (answer : Result Handle Fault) → IsErrAnd answer (λ e. e ≡ NoMemory) → opened_handles answer ≡ []
none_opened answer is = let p = err_from_is_err_and answer is in ap opened_handles p.1

none_piped : (answer : Result PipeEnds Fault) → IsErrAnd answer (λ e. e ≡ NoMemory) → piped_handles answer ≡ []
none_piped answer is = let p = err_from_is_err_and answer is in ap piped_handles p.1

module _ {W : Type 0} (seen : W → Seen) where
  -- ---- a call that had no memory before it was passed on

  -- the same recorder, and no event
  nothing_passed : {old new : Recorded W} → new ≡ old → Passed seen old new []
  nothing_passed {old} {new} same = subst (λ (r : Recorded W). Passed seen old r []) (sym same) (record { log = sym (append-nil old.log); added = nothing_added (seen old.world); before = refl; whole = refl })

  pub not_passed : {T : Type 0} {old new : Recorded W} (event : Event) (answer : Result T Fault) → IsErrAnd answer (λ e. e ≡ NoMemory) → new ≡ old → Passed seen old new (told_unless_no_memory answer event)
  unfolding told_unless_no_memory
  not_passed event answer is same = let p = err_from_is_err_and answer is in rw (p.1, p.2) (nothing_passed same)

  pub start_not_passed : {old new : Recorded W} (event : Event) (answer : Result Pid StartFault) → IsErrAnd answer (λ e. e ≡ NoStartMemory) → new ≡ old → Passed seen old new (told_unless_no_start_memory answer event)
  unfolding told_unless_no_start_memory
  start_not_passed event answer is same = let p = err_from_is_err_and answer is in rw (p.1, p.2) (nothing_passed same)

  pub not_handed : {T : Type 0} {old new : Recorded W} (event : Result T Fault → Event) (answer : Result T Fault) → IsErrAnd answer (λ e. e ≡ NoMemory) → new ≡ old → Handed seen old new event answer
  unfolding told_unless_no_memory told_or_lost
  not_handed {T} {old} {new} event answer is same =
      let p = err_from_is_err_and answer is in
      let n = nothing_passed same in
      record { came = Err NoMemory; unseen = None; log = n.log; added = n.added; copy = p.1 ∙ ap Err p.2; before = n.before; whole = λ w. (sym n.whole ∙ w, refl) }

  pub keeps_same : {old new : Recorded W} → new ≡ old → Keeps (seen_of seen old) (seen_of seen new)
  keeps_same {old} {new} same = subst (λ (r : Recorded W). Keeps (seen_of seen old) (seen_of seen r)) (sym same) (record { held = refl; next = refl; origin = refl })

  pub none_opened_same : {old new : Recorded W} (answer : Result Handle Fault) → IsErrAnd answer (λ e. e ≡ NoMemory) → new ≡ old → Gave (seen_of seen old) (seen_of seen new) (opened_handles answer)
  none_opened_same {old} {new} answer is same = subst (λ handles. Gave (seen_of seen old) (seen_of seen new) handles) (sym (none_opened answer is)) (none_given (keeps_same same))

  pub none_piped_same : {old new : Recorded W} (answer : Result PipeEnds Fault) → IsErrAnd answer (λ e. e ≡ NoMemory) → new ≡ old → Gave (seen_of seen old) (seen_of seen new) (piped_handles answer)
  none_piped_same {old} {new} answer is same = subst (λ handles. Gave (seen_of seen old) (seen_of seen new) handles) (sym (none_piped answer is)) (none_given (keeps_same same))

  -- ---- what is told

  -- the log has grown by the events passed on
  pub log_told : {old new : Recorded W} {told : List Event} → Passed seen old new told → Some new.log ≡ extended (Some old.log) told
  unfolding extended
  log_told p = ap Some p.log

  -- where the answer couldn't be handed on, its event is told all the same
  pub handed_told : {T : Type 0} {old new : Recorded W} {event : Result T Fault → Event} {answer : Result T Fault} → Handed seen old new event answer → TellsOrLoses (seen_of seen old) (seen_of seen new) event answer
  unfolding extended told_unless_no_memory told_or_lost
  handed_told {T} {old} {new} {event} {answer} h = by h.came h.unseen h.log h.added.lawful h.copy
    where
      by : (came : Result T Fault) (unseen : Option T) → new.log ≡ old.log ++ told_unless_no_memory came (event came) → are_lawful (told_or_lost event came unseen) ≡ true → IsCopyOf came answer → TellsOrLoses (seen_of seen old) (seen_of seen new) event answer
      by (Ok value) unseen log lawful (inl same) = subst (λ (a : Result T Fault). TellsOrLoses (seen_of seen old) (seen_of seen new) event a) (sym same) (record { lost = None; told = ap Some log; lawful = tt })
      by (Ok value) unseen log lawful (inr same) = subst (λ (a : Result T Fault). TellsOrLoses (seen_of seen old) (seen_of seen new) event a) (sym same) (record { lost = Some value; told = ap Some log; lawful = left_of (is_lawful (event (Ok value))) true lawful })
      by (Err Failed) unseen log lawful same = subst (λ (a : Result T Fault). TellsOrLoses (seen_of seen old) (seen_of seen new) event a) (sym same) (record { lost = None; told = ap Some log; lawful = tt })
      by (Err NoMemory) unseen log lawful same = subst (λ (a : Result T Fault). TellsOrLoses (seen_of seen old) (seen_of seen new) event a) (sym same) (record { lost = None; told = ap Some log; lawful = tt })

  module _ (world before : W) (log : List Event) (whole : Bool) where
    -- with an equal log
    pub same_log : (old : Recorded W) (new : List Event) → record { world = world; before = before; log = log; whole = whole } ≡ old → new ≡ log → record { world = world; before = before; log = new; whole = whole } ≡ old
    same_log old new is e = ap (λ (log : List Event). record { world = world; before = before; log = log; whole = whole }) e ∙ is

    -- ---- a call that was passed on

    pub passed_on : (old : Recorded W) (later : W) (new told : List Event) → record { world = world; before = before; log = log; whole = whole } ≡ old → new ≡ log ++ told → Added (seen world) (seen later) told
        → Passed seen old (record { world = later; before = before; log = new; whole = whole }) told
    passed_on old later new told is e added = subst (λ (r : Recorded W). Passed seen r (record { world = later; before = before; log = new; whole = whole }) told) is (record { log = e; added = added; before = refl; whole = refl })

    pub keeps_on : (old : Recorded W) (later : W) (new : List Event) → record { world = world; before = before; log = log; whole = whole } ≡ old → Keeps (seen world) (seen later)
        → Keeps (seen_of seen old) (seen_of seen (record { world = later; before = before; log = new; whole = whole }))
    keeps_on old later new is keeps = subst (λ (r : Recorded W). Keeps (seen_of seen r) (seen_of seen (record { world = later; before = before; log = new; whole = whole }))) is (record { held = keeps.held; next = keeps.next; origin = refl })

    pub gave_on : (old : Recorded W) (later : W) (new : List Event) (handles : List Handle) → record { world = world; before = before; log = log; whole = whole } ≡ old → Gave (seen world) (seen later) handles
        → Gave (seen_of seen old) (seen_of seen (record { world = later; before = before; log = new; whole = whole })) handles
    gave_on old later new handles is gave = subst (λ (r : Recorded W). Gave (seen_of seen r) (seen_of seen (record { world = later; before = before; log = new; whole = whole })) handles) is (record { held = gave.held; rising = gave.rising; fresh = gave.fresh; origin = refl })

    -- one whose answer takes memory
    pub handed_on : {T : Type 0} (old : Recorded W) (later : W) (new : List Event) (told : Bool) (event : Result T Fault → Event) (came answer : Result T Fault) (unseen : Option T)
        → record { world = world; before = before; log = log; whole = whole } ≡ old → told ≡ has_event came → new ≡ log ++ told_unless_no_memory came (event came) → Added (seen world) (seen later) (told_or_lost event came unseen) → IsCopyOf came answer
        → Handed seen old (record { world = later; before = before; log = new; whole = whole && told }) event answer
    handed_on old later new told event came answer unseen is said e added copy = subst (λ (r : Recorded W). Handed seen r (record { world = later; before = before; log = new; whole = whole && told }) event answer) is (record {
      came = came;
      unseen = unseen;
      log = e;
      added = added;
      copy = copy;
      before = refl;
      whole = λ w. (left_of whole told w, told_whole event came unseen (sym said ∙ right_of whole told w));
    })

    -- ---- what is kept

    -- where it is put in, and nothing is held
    pub kept_new : (closes : ℕ) → (seen world).held ≡ [] → before ≡ world → log ≡ [] → IsKept seen (record { world = world; before = before; log = log; whole = whole }) closes
    unfolding AreRecordable
    kept_new closes none same empty =
        let added : Added (seen before) (seen world) log = subst (λ log. Added (seen before) (seen world) log) (sym empty) (subst (λ b. Added (seen b) (seen world) []) (sym same) (nothing_added (seen world))) in
        record { counted = omega (arith, ap length none); in_step = λ w. added; but_for_lost = all_added added; fits = subst AreRecordable (sym empty) tt }

    -- where room was made
    pub kept_still : (new : List Event) (closes now : ℕ) → IsKept seen (record { world = world; before = before; log = log; whole = whole }) closes → new ≡ log → now ≡ closes
        → IsKept seen (record { world = world; before = before; log = new; whole = whole }) now
    kept_still new closes now k e h = record {
      counted = omega (arith, k.counted, h);
      in_step = λ is. subst (λ log. Added (seen before) (seen world) log) (sym e) (k.in_step is);
      but_for_lost = subst (λ log. AddedButForLost (seen before) (seen world) log) (sym e) k.but_for_lost;
      fits = subst AreRecordable (sym e) k.fits;
    }

    in_step_more : (later : W) (new told : List Event) → (whole ≡ true → Added (seen before) (seen world) log) → new ≡ log ++ told → Added (seen world) (seen later) told → whole ≡ true → Added (seen before) (seen later) new
    in_step_more later new told in_step e added is = subst (λ log. Added (seen before) (seen later) log) (sym e) (added_after (in_step is) added)

    fits_more : (new told : List Event) → AreRecordable log → new ≡ log ++ told → AreRecordable told → AreRecordable new
    fits_more new told fits e more = subst AreRecordable (sym e) (recordable-append log told fits more)

    -- where a call was passed on
    pub kept_more : (later : W) (new told : List Event) (handles : List Handle) (closes mid now : ℕ) → IsKept seen (record { world = world; before = before; log = log; whole = whole }) closes
        → whole ≡ true → new ≡ log ++ told → Added (seen world) (seen later) told → AreRecordable told → (seen later).held ≡ (seen world).held ++ handles → mid ≡ closes → mid + length handles ≤ now
        → IsKept seen (record { world = later; before = before; log = new; whole = whole }) now
    kept_more later new told handles closes mid now k is e added fits holds h due = record {
      counted = omega (arith, k.counted, h, due, ap length holds, length-append (seen world).held handles);
      in_step = in_step_more later new told k.in_step e added;
      but_for_lost = all_added (in_step_more later new told k.in_step e added is);
      fits = fits_more new told k.fits e fits;
    }

    pub kept_keeping : (later : W) (new told : List Event) (closes mid now : ℕ) → IsKept seen (record { world = world; before = before; log = log; whole = whole }) closes
        → whole ≡ true → new ≡ log ++ told → Added (seen world) (seen later) told → AreRecordable told → (seen later).held ≡ (seen world).held → mid ≡ closes → mid ≤ now
        → IsKept seen (record { world = later; before = before; log = new; whole = whole }) now
    kept_keeping later new told closes mid now k is e added fits holds h due = record {
      counted = omega (arith, k.counted, h, due, ap length holds);
      in_step = in_step_more later new told k.in_step e added;
      but_for_lost = all_added (in_step_more later new told k.in_step e added is);
      fits = fits_more new told k.fits e fits;
    }

    -- where its answer takes memory
    pub kept_handed : {T : Type 0} (later : W) (new : List Event) (told : Bool) (event : Result T Fault → Event) (came : Result T Fault) (unseen : Option T) (closes mid now : ℕ) → IsKept seen (record { world = world; before = before; log = log; whole = whole }) closes
        → whole ≡ true → ((value : T) → may_be_lost (event (Ok value)) ≡ true) → told ≡ has_event came → new ≡ log ++ told_unless_no_memory came (event came) → Added (seen world) (seen later) (told_or_lost event came unseen) → AreRecordable (told_unless_no_memory came (event came)) → (seen later).held ≡ (seen world).held → mid ≡ closes → mid ≤ now
        → IsKept seen (record { world = later; before = before; log = new; whole = whole && told }) now
    kept_handed later new told event came unseen closes mid now k is may said e added fits holds h due = record {
      counted = omega (arith, k.counted, h, due, ap length holds);
      in_step = λ w. in_step_more later new _ k.in_step e (subst (λ events. Added (seen world) (seen later) events) (told_whole event came unseen (sym said ∙ right_of whole told w)) added) (left_of whole told w);
      but_for_lost = subst (λ log. AddedButForLost (seen before) (seen later) log) (sym e) (told_but_for_lost log event came unseen may (added_after (k.in_step is) added));
      fits = fits_more new _ k.fits e fits;
    }

    -- where a handle was closed
    pub kept_less : (later : W) (new : List Event) (handle : Handle) (closes now : ℕ) → IsKept seen (record { world = world; before = before; log = log; whole = whole }) closes
        → is_held (seen world).held handle ≡ true → new ≡ log ++ Close handle ∷ [] → Added (seen world) (seen later) (Close handle ∷ []) → handle.number < 2 ^ 64 → (seen later).held ≡ without (seen world).held handle → now + 1 ≡ closes
        → IsKept seen (record { world = later; before = before; log = new; whole = whole }) now
    kept_less later new handle closes now k is e added small holds h = record {
      counted = omega (arith, k.counted, h, ap length holds, length-without (seen world).held handle is);
      in_step = in_step_more later new (Close handle ∷ []) k.in_step e added;
      but_for_lost = subst (λ log. AddedButForLost (seen before) (seen later) log) (sym e) (closed_after log (Close handle ∷ []) refl k.but_for_lost added);
      fits = fits_more new (Close handle ∷ []) k.fits e (close_fits handle small);
    }

-- ---- a run over a recorder that had no events

same_events : (one other : List Event) → ◌≡◌ {A = Option (List Event)} (Some one) (Some other) → one ≡ other
same_events one other e = cc

-- the events of the run are those that were recorded, and the inner world is still known as it was handed in
pub record WasRecorded {W : Type 0} (seen : W → Seen) (world : W) (new : Recorded W) (events : List Event) : Type 0 where
  pub events_are : events ≡ new.log
  pub before_is : seen new.before ≡ seen world

module _ {E A W : Type 0} (seen : W → Seen) (world : W) where
  pub was_recorded : (old new : Recorded W) (plan : Plan E A) (units : ℕ) (outcome : Option (Outcome E A)) → old ≡ record { world = world; before = world; log = []; whole = true }
      → (ran : RanWith (seen_of seen old) (seen_of seen new) plan units outcome) → WasRecorded seen world new ran.ran.events
  unfolding extended
  was_recorded old new plan units outcome old_is ran =
      let empty : old.log ≡ [] = ap (λ (r : Recorded W). r.log) old_is in
      let grown : Some new.log ≡ Some (old.log ++ ran.ran.events) = ran.ran.added.told in
      record {
        events_are = sym (same_events new.log ran.ran.events (grown ∙ ap (λ log. Some (log ++ ran.ran.events)) empty));
        before_is = same_past (seen new.before) (seen world) (ran.ran.added.origin ∙ ap (λ (r : Recorded W). past_of (seen r.before)) old_is);
      }

  -- the plan was begun over the inner world, but for what was lost
  pub run_begun : (back : W) (old new : Recorded W) (plan : Plan E A) (units : ℕ) (outcome : Option (Outcome E A)) → old ≡ record { world = world; before = world; log = []; whole = true }
      → RanWith (seen_of seen old) (seen_of seen new) plan units outcome → AddedButForLost (seen new.before) (seen back) new.log → BegunButForLost (seen world) (seen back) plan units
  run_begun back old new plan units outcome old_is ran added =
      let is = was_recorded old new plan units outcome old_is ran in
      record {
        events = new.log;
        added = subst (λ (s : Seen). AddedButForLost s (seen back) new.log) is.before_is added;
        begins = subst (λ events. Begins plan units events) is.events_are (begun plan units ran.ran.events outcome ran.left ran.ran.agrees);
      }
