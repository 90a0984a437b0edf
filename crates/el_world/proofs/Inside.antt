-- What is inside a scripted world, as it is seen.
use Rattle.std.proofs.Common.{◌≡◌, ℕ, suc, ◌+◌, ◌-◌, ◌^◌, ◌<◌, ◌≤◌, min, Bool, true, false, List, [], ◌∷◌, ◌++◌, drop, filter, map, length, Result, Ok, Err, IfOk, refl, sym, ap, ◌∙◌, append-nil, arith, nat_lt, if◌then◌else◌}
use Rattle.std.proofs.Math.Seq.{drop-length}
use Rattle.std.proofs.lemmas.Bool.{le-leb}
use Rattle.std.proofs.lemmas.List.Elements.{filter-append}
use Rattle.std.proofs.lemmas.List.{map-append}
use mir.Val.{bool_byte}
use Rattle.el_world.specs.declared.answer.Answer.{Answer}
use Rattle.el_world.specs.declared.event.Handle.{Handle}
use Rattle.el_world.specs.declared.event.PipeEnds.{PipeEnds}
use Rattle.el_world.specs.declared.event.Fault.{Fault}
use Rattle.el_world.specs.declared.event.Event.{Event}
use Rattle.el_world.specs.World.{answering}
use Rattle.el_world.specs.Calls.{Call, call_of}
use Rattle.el_world.specs.Handles.{Gave, is_held, is_given, are_given, opened_handles}
use Rattle.el_world.specs.Scripted.{Script, seen_of, begun, counted, holding, numbered, after_call, after_calls, Replays, IsSound}
use Rattle.el_world.proofs.Held.{is_below, not_held, all-filter, filter-all}

drop-suc : (n : ℕ) (xs : List Answer) → drop (suc n) xs ≡ drop 1 (drop n xs)
drop-suc Prim.Native.Nat.zero xs = refl
drop-suc (suc n) [] = refl
drop-suc (suc n) (x ∷ xs) = drop-suc n xs

-- one answer is taken, where one is left
pub one_taken : (n m : ℕ) (xs : List Answer) → n ≤ length xs → length xs < 2 ^ 64 → m ≡ min (min (n + 1) (2 ^ 64 - 1)) (length xs) → drop m xs ≡ drop 1 (drop n xs)
one_taken n m xs within small is = by (nat_lt n (length xs)) refl
  where
    by : (b : Bool) → nat_lt n (length xs) ≡ b → drop m xs ≡ drop 1 (drop n xs)
    by true lt = let next : m ≡ suc n = let less : n < length xs = grind (arith, lt) in omega arith in ap (λ k. drop k xs) next ∙ drop-suc n xs
    by false ge =
        let over : n ≡ length xs = let more : length xs ≤ n = grind (arith, ge) in omega arith in
        let all : m ≡ length xs = omega arith in
        ap (λ k. drop k xs) all ∙ drop-length xs ∙ sym (ap (λ k. drop 1 (drop k xs)) over ∙ ap (λ ys. drop 1 ys) (drop-length xs))

pub counted-min : (failed : Bool) (faults : ℕ) → faults < 2 ^ 64 → min (faults + bool_byte failed) (2 ^ 64 - 1) ≡ counted failed faults
counted-min true faults small = by (nat_lt faults (2 ^ 64 - 1)) refl
  where
    by : (b : Bool) → nat_lt faults (2 ^ 64 - 1) ≡ b → min (faults + 1) (2 ^ 64 - 1) ≡ (if b then faults + 1 else faults)
    by true lt = let less : faults < 2 ^ 64 - 1 = grind (arith, lt) in omega arith
    by false ge = let more : 2 ^ 64 - 1 ≤ faults = grind (arith, ge) in omega arith
counted-min false faults small = omega arith

-- where nothing is given, nothing more is held
pub holding-none : (script : Script) (pid next : ℕ) → pid ≡ script.next_pid → next ≡ script.next_handle → numbered (holding script [] next) pid ≡ script
holding-none script pid next is at =
    λ i. record { origin = script.origin; log = script.log; answers = script.answers; faults = script.faults; held = append-nil script.held i; next_pid = is i; next_handle = at i }

-- ---- what is held

module _ (old new : Script) where
  -- what is given is shown behind what was
  shown-given : (handles : List Handle) → are_given handles ≡ true → new.held ≡ old.held ++ handles → (seen_of new).held ≡ (seen_of old).held ++ handles
  shown-given handles given held =
      ap (filter is_given) held ∙ filter-append is_given old.held handles ∙ ap (λ handles. filter is_given old.held ++ handles) (filter-all is_given handles given)

module _ (old new : Script) {taken closes : ℕ} where
  -- a handle from the next number on is fresh
  fresh-above : IsSound old taken closes → (handle : Handle) → old.next_handle ≤ handle.number → is_held (seen_of old).held handle ≡ false
  fresh-above sound handle above = not_held (seen_of old).held old.next_handle handle (all-filter (is_below old.next_handle) is_given old.held sound.all_below) above

  -- a call gave the next handle, or failed
  pub gave-opened : (answer : Result Handle Fault) (next : ℕ) → next ≡ old.next_handle → IfOk answer (λ handle. (handle.number ≡ next) × (next + 1 < 2 ^ 64)) → IsSound old taken closes
      → new.held ≡ old.held ++ opened_handles answer → new.next_handle ≡ old.next_handle + length (opened_handles answer) → new.origin ≡ old.origin → Gave (seen_of old) (seen_of new) (opened_handles answer)
  gave-opened (Err fault) next at is sound held after origin = record { held = shown-given old new [] refl held; rising = omega arith; fresh = refl; origin = ap answering origin }
  gave-opened (Ok handle) next at is sound held after origin =
      let fresh = fresh-above sound handle (omega (arith, is.0, at)) in
      let given = le-leb 3 handle.number (omega (arith, is.0, at, sound.own_below)) in
      record {
        held = shown-given old new (handle ∷ []) (rw given refl) held;
        rising = (omega (arith, is.0, at, sound.own_below), omega (arith, is.0, at), omega (arith, is.0, at, after));
        fresh = rw fresh refl;
        origin = ap answering origin;
      }

  -- and so it is with a pipe
  pub gave-piped : (ends : PipeEnds) (next : ℕ) → next ≡ old.next_handle → ends.reader.number ≡ next → ends.writer.number ≡ next + 1 → IsSound old taken closes
      → new.held ≡ old.held ++ (ends.reader ∷ ends.writer ∷ []) → new.next_handle ≡ next + 2 → new.origin ≡ old.origin → Gave (seen_of old) (seen_of new) (ends.reader ∷ ends.writer ∷ [])
  gave-piped ends next at reader writer sound held after origin =
      let fresh-reader = fresh-above sound ends.reader (omega (arith, reader, at)) in
      let fresh-writer = fresh-above sound ends.writer (omega (arith, writer, at)) in
      let given-reader = le-leb 3 ends.reader.number (omega (arith, reader, at, sound.own_below)) in
      let given-writer = le-leb 3 ends.writer.number (omega (arith, writer, at, sound.own_below)) in
      record {
        held = shown-given old new (ends.reader ∷ ends.writer ∷ []) (rw (given-reader, given-writer) refl) held;
        rising = (omega (arith, reader, at, sound.own_below), omega (arith, reader, at), (omega (arith, writer, at, sound.own_below), omega (arith, reader, writer), omega (arith, writer, after)));
        fresh = rw (fresh-reader, fresh-writer) refl;
        origin = ap answering origin;
      }

-- ---- what the answers give

after_calls-last : (script : Script) (calls : List Call) (call : Call) → after_calls script (calls ++ call ∷ []) ≡ after_call (after_calls script calls) call
after_calls-last script [] call = refl
after_calls-last script (first ∷ calls) call = after_calls-last (after_call script first) calls call

-- a further call goes on with it
pub replays-on : (old new : Script) (event : Event) → Replays old → new ≡ after_call old (call_of event) → new.origin ≡ old.origin → new.log ≡ old.log ++ event ∷ [] → Replays new
replays-on old new event replays is origin log = record {
  replayed =
      is ∙ ap (λ script. after_call script (call_of event)) replays.replayed ∙ sym (after_calls-last (begun old.origin) (map call_of old.log) (call_of event))
      ∙ sym (ap (λ answers. after_calls (begun answers) (map call_of new.log)) origin ∙ ap (after_calls (begun old.origin)) (ap (map call_of) log ∙ map-append call_of old.log (event ∷ [])));
}
