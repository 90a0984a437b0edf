-- What a record stands before is the end of its text.
use Rattle.std.proofs.Common.{◌≡◌, ℕ, ◌<◌, ◌-◌, List, [], ◌∷◌, ◌++◌, length, drop, Option, Some, None, Result, Ok, Err, refl, sym, ap, subst, ◌∙◌, arith, append_assoc, length-append}
use Rattle.std.specs.Fmt.{decimal}
use Rattle.std.specs.FinMap as map
use Rattle.std.proofs.lemmas.List.{drop_at}
use Rattle.el_world.specs.declared.event.Event.{Event}
use Rattle.el_world.specs.declared.event.Event.TheVariants.{Start, Wait, Opened, Pipe, Feed, Read, Write, Close, Enter}
use Rattle.el_world.specs.declared.event.Handle.{Handle}
use Rattle.el_world.specs.declared.event.Pid.{Pid}
use Rattle.el_world.specs.declared.event.PipeEnds.{PipeEnds}
use Rattle.el_world.specs.declared.event.Ended.{Ended}
use Rattle.el_world.specs.declared.event.Ended.TheVariants.{Exited, Killed}
use Rattle.el_world.specs.declared.event.Fault.{Fault}
use Rattle.el_world.specs.declared.event.StartFault.{StartFault}
use Rattle.el_world.specs.declared.event.StartFault.TheVariants.{NotFound, NotStartable, Failed as StartFailed, NoMemory as NoStartMemory}
use Rattle.el_record.specs.declared.trace.RunEnd.{RunEnd}
use Rattle.el_record.specs.declared.trace.RunEnd.TheVariants.{Status, Spent}
use Rattle.el_record.specs.Fields.{number_before, bytes_before}
use Rattle.el_record.specs.TraceText.{end_before, ends_before, each_before, pairs_before, mode_letter, start_answer_before, or_failed_before, ended_before, given_before, pipe_before, found_before, done_before, event_before, events_before, run_end_before}

-- a text ends with these bytes
pub record EndsWith (rest text : List ℕ) : Type 0 where
  pub front : List ℕ
  pub joined : front ++ rest ≡ text

pub itself : (rest : List ℕ) → EndsWith rest rest
itself rest = record { front = []; joined = refl }

byte : (b : ℕ) {rest text : List ℕ} → EndsWith rest text → EndsWith rest (b ∷ text)
byte b ends = record { front = b ∷ ends.front; joined = ap (λ t. b ∷ t) ends.joined }

more : (front : List ℕ) {rest text : List ℕ} → EndsWith rest text → EndsWith rest (front ++ text)
more front {rest} ends = record { front = front ++ ends.front; joined = append_assoc front ends.front rest ∙ ap (λ t. front ++ t) ends.joined }

number : (n : ℕ) {rest text : List ℕ} → EndsWith rest text → EndsWith rest (number_before n text)
number n ends = more (decimal n) (byte 59 ends)

bytes : (bs : List ℕ) {rest text : List ℕ} → EndsWith rest text → EndsWith rest (bytes_before bs text)
bytes bs ends = more (decimal (length bs)) (byte 58 (more bs (byte 44 ends)))

each : (words : List (List ℕ)) {rest text : List ℕ} → EndsWith rest text → EndsWith rest (each_before words text)
each [] ends = ends
each (word ∷ words) ends = bytes word (each words ends)

pairs : (ps : List (List ℕ × List ℕ)) {rest text : List ℕ} → EndsWith rest text → EndsWith rest (pairs_before ps text)
pairs [] ends = ends
pairs (pair ∷ ps) ends = bytes pair.0 (bytes pair.1 (pairs ps ends))

end_of : (end : Option Handle) {rest text : List ℕ} → EndsWith rest text → EndsWith rest (end_before end text)
end_of None ends = byte 45 ends
end_of (Some handle) ends = number handle.number ends

ends_of : (es : List (Option Handle)) {rest text : List ℕ} → EndsWith rest text → EndsWith rest (ends_before es text)
ends_of [] ends = ends
ends_of (e ∷ es) ends = end_of e (ends_of es ends)

start_answer : (answer : Result Pid StartFault) {rest text : List ℕ} → EndsWith rest text → EndsWith rest (start_answer_before answer text)
start_answer (Ok pid) ends = byte 80 (number pid.number ends)
start_answer (Err NotFound) ends = byte 110 ends
start_answer (Err NotStartable) ends = byte 120 ends
start_answer (Err StartFailed) ends = byte 102 ends
start_answer (Err NoStartMemory) ends = byte 102 ends

ended : (answer : Result Ended Fault) {rest text : List ℕ} → EndsWith rest text → EndsWith rest (or_failed_before ended_before answer text)
ended (Ok (Exited code)) ends = byte 69 (number code ends)
ended (Ok (Killed signal)) ends = byte 75 (number signal ends)
ended (Err fault) ends = byte 102 ends

given : (answer : Result Handle Fault) {rest text : List ℕ} → EndsWith rest text → EndsWith rest (or_failed_before given_before answer text)
given (Ok handle) ends = byte 72 (number handle.number ends)
given (Err fault) ends = byte 102 ends

piped : (answer : Result PipeEnds Fault) {rest text : List ℕ} → EndsWith rest text → EndsWith rest (or_failed_before pipe_before answer text)
piped (Ok both) ends = byte 72 (number both.reader.number (number both.writer.number ends))
piped (Err fault) ends = byte 102 ends

found : (answer : Result (List ℕ) Fault) {rest text : List ℕ} → EndsWith rest text → EndsWith rest (or_failed_before found_before answer text)
found (Ok bs) ends = byte 66 (bytes bs ends)
found (Err fault) ends = byte 102 ends

done : (answer : Result (Unit {0}) Fault) {rest text : List ℕ} → EndsWith rest text → EndsWith rest (or_failed_before done_before answer text)
done (Ok all) ends = byte 107 ends
done (Err fault) ends = byte 102 ends

-- and the bytes are fewer
record EndsInside (rest text : List ℕ) : Type 0 where
  ends : EndsWith rest text
  fewer : length rest < length text

behind : (b : ℕ) {rest text : List ℕ} → EndsWith rest text → EndsInside rest (b ∷ text)
behind b {rest} {text} ends = record { ends = byte b ends; fewer = omega (arith, ap length ends.joined, length-append ends.front rest) }

event_ends : (event : Event) {rest text : List ℕ} → EndsWith rest text → EndsInside rest (event_before event text)
event_ends (Start words env dir es answer) ends =
    behind 83 (number (length words) (each words (number (length (map.entries env)) (pairs (map.entries env) (bytes dir (ends_of es (start_answer answer (byte 10 ends))))))))
event_ends (Wait pid answer) ends = behind 87 (number pid.number (ended answer (byte 10 ends)))
event_ends (Opened dir path opened answer) ends = behind 79 (bytes dir (bytes path (byte (mode_letter opened) (given answer (byte 10 ends)))))
event_ends (Pipe answer) ends = behind 80 (piped answer (byte 10 ends))
event_ends (Feed bs answer) ends = behind 70 (bytes bs (given answer (byte 10 ends)))
event_ends (Read handle answer) ends = behind 82 (number handle.number (found answer (byte 10 ends)))
event_ends (Write handle bs answer) ends = behind 84 (number handle.number (bytes bs (done answer (byte 10 ends))))
event_ends (Close handle) ends = behind 67 (number handle.number (byte 10 ends))
event_ends (Enter dir path answer) ends = behind 68 (bytes dir (bytes path (found answer (byte 10 ends))))

-- a record takes a byte at least
pub event_shorter : (event : Event) (rest text : List ℕ) → event_before event rest ≡ text → length rest < length text
event_shorter event rest text is = subst (λ t. length rest < length t) is (event_ends event (itself rest)).fewer

pub events_end : (events : List Event) {rest text : List ℕ} → EndsWith rest text → EndsWith rest (events_before events text)
events_end [] ends = ends
events_end (event ∷ events) ends = (event_ends event (events_end events ends)).ends

pub run_end_ends : (end : RunEnd) {rest text : List ℕ} → EndsWith rest text → EndsWith rest (run_end_before end text)
run_end_ends (Status code) ends = byte 90 (byte 115 (number code (byte 10 ends)))
run_end_ends Spent ends = byte 90 (byte 108 (byte 10 ends))

-- the place at which the end begins
pub dropped : {rest text : List ℕ} → EndsWith rest text → drop (length text - length rest) text ≡ rest
dropped {rest} {text} ends =
    let front_is : length (ends.front ++ rest) - length rest ≡ length ends.front = omega (arith, length-append ends.front rest) in
    ap (λ t. drop (length t - length rest) t) (sym ends.joined)
    ∙ ap (λ n. drop n (ends.front ++ rest)) front_is
    ∙ drop_at ends.front rest (length ends.front) refl

-- one record more
pub events_more : (events : List Event) (event : Event) (rest : List ℕ) → events_before (events ++ event ∷ []) rest ≡ events_before events (event_before event rest)
events_more [] event rest = refl
events_more (first ∷ events) event rest = ap (λ text. event_before first text) (events_more events event rest)
