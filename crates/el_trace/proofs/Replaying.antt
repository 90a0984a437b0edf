-- What a world that replays keeps and tells.
use Rattle.el_room.proofs.Vocabulary.{list_all, slice_get, right_of, Event, Close, Handle, is_lawful, are_lawful, is_held, without, given_by, held_after, held_after_all, Gave, Keeps, counted, is_fault, Call, AnswerOf, call_of, event_of, start, wait, open_file, pipe, feed, read, write, close, enter, is_below, all-filter, held-filter, below_without}
use Rattle.el_script.proofs.Vocabulary.{filter-append, left_of}
use Rattle.std.proofs.Common.{◌≡◌, inl, inr, ℕ, suc, ◌+◌, ◌≤◌, ◌<◌, Bool, true, false, not, ◌==◌, List, [], ◌∷◌, ◌++◌, length, drop, filter, Option, None, Some, is_some, refl, sym, ap, subst, ◌∙◌, append_assoc, append-nil, length-append, arith, true≢false, if◌then◌else◌}
use Rattle.el_world.specs.Handles.{is_given}
use Rattle.el_world.proofs.Held.{held_after_all-append, filter-all, filter-swap, length-without}
use Rattle.el_trace.specs.Answers.{IsAnswer}
use Rattle.el_trace.specs.NewHandles.{are_new, next_behind, keep_numbers}
use Rattle.el_trace.specs.Replays.{Retraces, Replaying, seen_of, failure, or_failed, Fits, behind, GoesOn, IsSound}
use Rattle.el_trace.proofs.NewHandles.{new_rise, next_later, new_fresh, new_given, held_below}
use Rattle.el_trace.proofs.Retraced.{call_back}

-- ---- own events and recorded ones

-- beginnings of the recorded events retrace them
beginning : (own left : List Event) → Retraces (own ++ left) own
beginning [] [] = tt
beginning [] (event ∷ left) = tt
beginning (event ∷ own) left = inl (refl, beginning own left)

-- what is retraced may stand behind the same events
behind-same : (same left own : List Event) → Retraces left own → Retraces (same ++ left) (same ++ own)
behind-same [] left own is = is
behind-same (event ∷ same) left own is = inl (refl, behind-same same left own is)

-- another call than the recorded one, or one where none is recorded
parts : (left : List Event) (event : Event) (more : List Event) → ((other : Event) (rest : List Event) → left ≡ other ∷ rest → call_of other ≡ call_of event → ⊥) → Retraces left (event ∷ more)
parts [] event more miss = tt
parts (other ∷ left) event more miss = inr (miss other left refl)

pub goes_retraced : (recorded own left : List Event) → GoesOn recorded own left → Retraces recorded own
goes_retraced recorded own left (inl is) = subst (λ (all : List Event). Retraces all own) (sym is) (beginning own left)
goes_retraced recorded own left (inr parted) = subst (λ (all : List Event). Retraces recorded all) (append-nil own) (parted.1 [])

-- one more event
goes_on : (recorded own left : List Event) (event : Event) (fits : Bool) → GoesOn recorded own left → Fits left event fits → GoesOn recorded (own ++ event ∷ []) (if fits then drop 1 left else [])
goes_on recorded own left event true (inl is) fits = inl (is ∙ ap (λ (left : List Event). own ++ left) fits ∙ sym (append_assoc own (event ∷ []) (drop 1 left)))
goes_on recorded own left event true (inr parted) fits = absurd (let no : [] ≡ event ∷ drop 1 left = sym parted.0 ∙ fits in cc)
goes_on recorded own left event false (inl is) fits =
    inr (refl, λ more. subst (λ (all : List Event). Retraces recorded all) (sym (append_assoc own (event ∷ []) more)) (subst (λ (all : List Event). Retraces all (own ++ event ∷ more)) (sym is) (behind-same own left (event ∷ more) (parts left event more fits.0))))
goes_on recorded own left event false (inr parted) fits =
    inr (refl, λ more. subst (λ (all : List Event). Retraces recorded all) (sym (append_assoc own (event ∷ []) more)) (parted.1 (event ∷ more)))

drop-suc : (events : List Event) (at : ℕ) → drop (suc at) events ≡ drop 1 (drop at events)
drop-suc [] Prim.Native.Nat.zero = refl
drop-suc [] (suc at) = refl
drop-suc (event ∷ events) Prim.Native.Nat.zero = refl
drop-suc (event ∷ events) (suc at) = drop-suc events at

-- what is left behind the next
pub drop-next : (events : List Event) (at : ℕ) → drop (at + 1) events ≡ drop 1 (drop at events)
drop-next events at = let next : at + 1 ≡ suc at = omega arith in ap (λ n. drop n events) next ∙ drop-suc events at

-- ---- a call that fits

-- what was recorded is answered, or else a failure
pub answer_fits : (left : List Event) (call : Call) (found : Option (AnswerOf call)) → IsAnswer (slice_get left 0) call found → Fits left (event_of call (or_failed (failure call) found)) (is_some found)
answer_fits left call None is = (
  (λ other more here same. is other (ap (λ (left : List Event). slice_get left 0) here) (same ∙ call_back call (failure call))),
  gives_none call,
  is_answer call,
)
  where
    gives_none : (call : Call) → given_by (event_of call (failure call)) ≡ []
    gives_none (start words env dir ends) = refl
    gives_none (wait pid) = refl
    gives_none (open_file dir path mode) = refl
    gives_none pipe = refl
    gives_none (feed bytes) = refl
    gives_none (read handle) = refl
    gives_none (write handle bytes) = refl
    gives_none (close handle) = refl
    gives_none (enter dir path) = refl

    is_answer : (call : Call) → is_lawful (event_of call (failure call)) ≡ true
    is_answer (start words env dir ends) = refl
    is_answer (wait pid) = refl
    is_answer (open_file dir path mode) = refl
    is_answer pipe = refl
    is_answer (feed bytes) = refl
    is_answer (read handle) = refl
    is_answer (write handle bytes) = refl
    is_answer (close handle) = refl
    is_answer (enter dir path) = refl
answer_fits [] call (Some answer) is = absurd (cc)
answer_fits (event ∷ left) call (Some answer) is = ap (λ (event : Event). event ∷ left) (let same : event ≡ event_of call answer = cc in same)

-- the world behind a call, part by part
pub behind_is : (old : Replaying) (event : Event) (fits : Bool) (log left : List Event) (faults next : ℕ) → log ≡ old.log ++ event ∷ [] → left ≡ (if fits then drop 1 old.left else []) → faults ≡ counted (is_fault event) old.faults → next ≡ next_behind old.next (given_by event)
    → record { recorded = old.recorded; log = log; left = left; faults = faults; next = next } ≡ behind old event fits
behind_is old event fits log left faults next told rest count number = λ i. record { recorded = old.recorded; log = told i; left = rest i; faults = count i; next = number i }

-- where a call fits, an event is left
pub some_left : (left : List Event) (event : Event) (fits : Bool) → Fits left event fits → fits ≡ true → 0 < length left
some_left left event true is same = omega (arith, ap length is)
some_left left event false is same = absurd (true≢false (sym same))

module _ (old : Replaying) {closes : ℕ} (sound : IsSound old closes) (event : Event) where
  -- its event is lawful, and gives new handles
  pub fits_lawful : (fits : Bool) → Fits old.left event fits → is_lawful event ≡ true
  fits_lawful true is = left_of (is_lawful event) _ (sym (ap are_lawful is) ∙ sound.lawful)
  fits_lawful false is = is.2

  pub fits_new : (fits : Bool) → Fits old.left event fits → are_new old.next (given_by event) ≡ true
  fits_new true is = left_of (are_new old.next (given_by event)) _ (sym (ap (keep_numbers old.next) is) ∙ sound.keeps)
  fits_new false is = ap (are_new old.next) is.1

  -- ---- what is held behind it

  -- a call other than a close
  abbrev IsOpen : Type 0
  IsOpen = (held : List Handle) → held_after held event ≡ held ++ given_by event

  pub gave : (fits : Bool) → Fits old.left event fits → IsOpen → Gave (seen_of old) (seen_of (behind old event fits)) (given_by event)
  gave fits is adds =
      let new = fits_new fits is in
      record {
        held =
            ap (filter is_given) (held_after_all-append old.log (event ∷ []) [] ∙ adds (held_after_all [] old.log)) ∙ filter-append is_given (held_after_all [] old.log) (given_by event)
            ∙ ap (λ (handles : List Handle). filter is_given (held_after_all [] old.log) ++ handles) (filter-all is_given (given_by event) (new_given (given_by event) old.next sound.own_below new));
        rising = new_rise (given_by event) old.next sound.own_below new;
        fresh = new_fresh (given_by event) (filter is_given (held_after_all [] old.log)) old.next (all-filter (is_below old.next) is_given (held_after_all [] old.log) sound.all_below) new;
        origin = refl;
      }

  pub keeps : (fits : Bool) → Fits old.left event fits → IsOpen → given_by event ≡ [] → Keeps (seen_of old) (seen_of (behind old event fits))
  keeps fits is adds none =
      let given = gave fits is adds in
      record {
        held = given.held ∙ ap (λ (handles : List Handle). filter is_given (held_after_all [] old.log) ++ handles) none ∙ append-nil (filter is_given (held_after_all [] old.log));
        next = ap (next_behind old.next) none;
        origin = refl;
      }

  -- ---- what stays so

  left_lawful : (fits : Bool) → Fits old.left event fits → are_lawful (if fits then drop 1 old.left else []) ≡ true
  left_lawful true is = right_of (is_lawful event) _ (sym (ap are_lawful is) ∙ sound.lawful)
  left_lawful false is = refl

  left_keeps : (fits : Bool) → Fits old.left event fits → keep_numbers (next_behind old.next (given_by event)) (if fits then drop 1 old.left else []) ≡ true
  left_keeps true is = right_of (are_new old.next (given_by event)) _ (sym (ap (keep_numbers old.next) is) ∙ sound.keeps)
  left_keeps false is = refl

  sound-held : (fits : Bool) → Fits old.left event fits → (now : ℕ) → length (held_after (held_after_all [] old.log) event) ≤ now → list_all (is_below (next_behind old.next (given_by event))) (held_after (held_after_all [] old.log) event) ≡ true
      → IsSound (behind old event fits) now
  sound-held fits is now due below =
      let held = held_after_all-append old.log (event ∷ []) [] in
      record {
        closes_due = subst (λ (handles : List Handle). length handles ≤ now) (sym held) due;
        own_below = (let later = next_later (given_by event) old.next in omega (arith, later, sound.own_below));
        all_below = subst (λ (handles : List Handle). list_all (is_below (next_behind old.next (given_by event))) handles ≡ true) (sym held) below;
        keeps = left_keeps fits is;
        lawful = left_lawful fits is;
        goes_on = goes_on old.recorded old.log old.left event fits sound.goes_on is;
      }

  -- behind a call other than a close
  pub sound-behind : (fits : Bool) → Fits old.left event fits → IsOpen → (now : ℕ) → now ≡ closes + length (given_by event) → IsSound (behind old event fits) now
  sound-behind fits is adds now due =
      sound-held fits is now
      (subst (λ (handles : List Handle). length handles ≤ now) (sym (adds (held_after_all [] old.log))) (omega (arith, length-append (held_after_all [] old.log) (given_by event), sound.closes_due, due)))
      (subst (λ (handles : List Handle). list_all (is_below (next_behind old.next (given_by event))) handles ≡ true) (sym (adds (held_after_all [] old.log))) (held_below (held_after_all [] old.log) (given_by event) old.next sound.all_below (fits_new fits is)))

-- a close that was due or not
pub sound-closed : (old : Replaying) {closes : ℕ} (sound : IsSound old closes) (handle : Handle) (fits : Bool) → Fits old.left (Close handle) fits → is_held (seen_of old).held handle ≡ true → (now : ℕ) → now + 1 ≡ closes → IsSound (behind old (Close handle) fits) now
sound-closed old sound handle fits is held now due =
    let held = held-filter is_given (held_after_all [] old.log) handle held in
    sound-held old sound (Close handle) fits is now
    (let fewer : length (without (held_after_all [] old.log) handle) < length (held_after_all [] old.log) = length-without (held_after_all [] old.log) handle held in omega (arith, fewer, sound.closes_due, due))
    (below_without (held_after_all [] old.log) handle old.next sound.all_below)

-- what is held behind a close
pub held-closed : (log : List Event) (handle : Handle) → filter is_given (held_after_all [] (log ++ Close handle ∷ [])) ≡ without (filter is_given (held_after_all [] log)) handle
held-closed log handle =
    ap (filter is_given) (held_after_all-append log (Close handle ∷ []) [])
    ∙ filter-swap is_given (λ (other : Handle). not (other.number == handle.number)) (held_after_all [] log)

-- some close is due where a handle is held
pub some_due : (old : Replaying) {closes : ℕ} (sound : IsSound old closes) (handle : Handle) → is_held (seen_of old).held handle ≡ true → 0 < closes
some_due old sound handle held =
    let fewer : length (without (held_after_all [] old.log) handle) < length (held_after_all [] old.log) = length-without (held_after_all [] old.log) handle (held-filter is_given (held_after_all [] old.log) handle held) in
    omega (arith, fewer, sound.closes_due)

-- the world behind a close
pub closed_is : (old : Replaying) (handle : Handle) (fits : Bool) (log left : List Event) → log ≡ old.log ++ Close handle ∷ [] → left ≡ (if fits then drop 1 old.left else []) → record { recorded = old.recorded; log = log; left = left; faults = old.faults; next = old.next } ≡ behind old (Close handle) fits
closed_is old handle fits log left told rest = λ i. record { recorded = old.recorded; log = told i; left = rest i; faults = old.faults; next = old.next }
