-- How a walk goes on, place by place.
use Rattle.std.proofs.Common.{◌≡◌, ℕ, suc, ◌+◌, ◌<◌, ◌≤◌, Bool, true, false, List, [], ◌∷◌, ◌++◌, length, drop, slice_index_or, Option, None, Some, Result, Ok, Err, refl, sym, ap, ◌∙◌, subst, arith, append_assoc, append-nil, IsErrOf, IfOk}
use Rattle.std.proofs.Math.Seq.{drop-cons}
use Rattle.std.proofs.lemmas.List.{get_or-drop}
use Rattle.el_test.specs.declared.operators.Question.{Question}
use Rattle.el_test.specs.declared.walking.Stop.{Stop}
use Rattle.el_test.specs.declared.walking.Halt.{Halt}
use Rattle.el_test.specs.declared.walking.Halt.TheVariants.{Wrong, Failed as FailedHalt, NoMemory}
use Rattle.el_test.specs.declared.asker.AskEvent.{AskEvent}
use Rattle.el_test.specs.declared.ask_answers.AskAnswer.{AskAnswer}
use Rattle.el_test.specs.declared.ask_answers.AskAnswer.TheVariants.{Fault}
use Rattle.el_test.specs.declared.asker.AskFault.{AskFault}
use Rattle.el_test.specs.declared.asker.AskFault.TheVariants.{Failed as AskFailed, NoMemory as NoAskMemory}
use Rattle.el_test.specs.Asker.{Heard, extended, ask_told, event_of, answer_in, answers_found, Rose}
use Rattle.el_test.specs.Walking.{Walking, Walked, Act, Went, Asks, Halts, Did, walk_step, walk, acted, before, answered, told, ended_of}
use Rattle.el_test.specs.Walks.{Walks, WalksTo, behind, ArrivesAt}

abbrev Words : Type 0
Words = List (List ℕ)

pub extended_none : (log : Option (List AskEvent)) → extended log [] ≡ log
unfolding extended
extended_none None = refl
extended_none (Some events) = ap Some (append-nil events)

extended_more : (log : Option (List AskEvent)) (one other : List AskEvent) → extended (extended log one) other ≡ extended log (one ++ other)
unfolding extended
extended_more None one other = refl
extended_more (Some events) one other = ap Some (append_assoc events one other)

found_more : (asks : List AskEvent) (event : AskEvent) (more : List AskAnswer) → answers_found (asks ++ event ∷ []) ++ more ≡ answers_found asks ++ (answer_in event.answer ∷ more)
found_more [] event more = refl
found_more (ask ∷ asks) event more = ap (λ l. answer_in ask.answer ∷ l) (found_more asks event more)

behind_more : (asks : List AskEvent) (event : AskEvent) (w : Walked) → behind asks (before event w) ≡ behind (asks ++ event ∷ []) w
behind_more asks event w = ap (λ l. record { asks = l; left = w.left; end = w.end }) (sym (append_assoc asks (event ∷ []) w.asks))

walk_next : (dir : List ℕ) (words : Words) (place : ℕ) (w : Walking) (more : List AskAnswer) → place < length words
    → walk dir (drop place words) w more
    ≡ acted (walk_step (slice_index_or words place []) (drop (place + 1) words) w) dir (slice_index_or words (place + 1) []) more (λ next left. walk dir (drop (place + 1) words) next left)
unfolding walk
walk_next dir words place w more lt =
    let one : suc place ≡ place + 1 = omega arith in
    let same : (place + 1) + 0 ≡ place + 1 = omega arith in
    let e : drop place words ≡ slice_index_or words place [] ∷ drop (place + 1) words = drop-cons words place [] lt ∙ ap (λ n. slice_index_or words place [] ∷ drop n words) one in
    let p : slice_index_or (drop (place + 1) words) 0 [] ≡ slice_index_or words (place + 1) [] = get_or-drop (place + 1) words 0 [] ∙ ap (λ n. slice_index_or words n []) same in
    ap (λ ws. walk dir ws w more) e
    ∙ ap (λ q. acted (walk_step (slice_index_or words place []) (drop (place + 1) words) w) dir q more (λ next left. walk dir (drop (place + 1) words) next left)) p

-- the act at a place
at_place : (dir : List ℕ) (words : Words) (place : ℕ) (w : Walking) (act : Act) (more : List AskAnswer) → place < length words
    → walk_step (slice_index_or words place []) (drop (place + 1) words) w ≡ act
    → walk dir (drop place words) w more ≡ acted act dir (slice_index_or words (place + 1) []) more (λ next left. walk dir (drop (place + 1) words) next left)
at_place dir words place w act more lt e =
    walk_next dir words place w more lt ∙ ap (λ a. acted a dir (slice_index_or words (place + 1) []) more (λ next left. walk dir (drop (place + 1) words) next left)) e

pub begins : (dir : List ℕ) (words : Words) (start : Walking) (heard : Heard) → WalksTo dir words start heard heard 0 start
begins dir words start heard = record { asks = []; log = sym (extended_none heard.log); later = omega arith; goes = λ more. refl }

pub went : (dir : List ℕ) (words : Words) (start from to : Walking) (old now : Heard) (place : ℕ) → place < length words
    → walk_step (slice_index_or words place []) (drop (place + 1) words) from ≡ Went to → WalksTo dir words start old now place from → WalksTo dir words start old now (place + 1) to
went dir words start from to old now place lt e w =
    record { asks = w.asks; log = w.log; later = w.later; goes = λ more. w.goes more ∙ ap (behind w.asks) (at_place dir words place from (Went to) more lt e) }

found_none : (asks : List AskEvent) → answers_found asks ++ [] ≡ answers_found asks
found_none asks = append-nil (answers_found asks)

pub stopped : (dir : List ℕ) (words : Words) (start from : Walking) (old now : Heard) (place : ℕ) (stop : Stop) → place < length words
    → walk_step (slice_index_or words place []) (drop (place + 1) words) from ≡ Halts stop → WalksTo dir words start old now place from → Walks dir words start old now (Err (Wrong stop))
stopped dir words start from old now place stop lt e w =
    record {
      asks = w.asks;
      log = w.log;
      later = w.later;
      ends = ap (walk dir words start) (sym (found_none w.asks)) ∙ w.goes [] ∙ ap (behind w.asks) (at_place dir words place from (Halts stop) [] lt e)
          ∙ ap (λ l. record { asks = l; left = []; end = Err stop }) (append-nil w.asks);
    }

-- without answers nothing is asked
unasked : (act : Act) (dir path : List ℕ) (more : Walking → List AskAnswer → Walked) → ((next : Walking) → (more next []).asks ≡ []) → (acted act dir path [] more).asks ≡ []
unasked (Went w) dir path more h = h w
unasked (Asks question w) dir path more h = refl
unasked (Halts stop) dir path more h = refl

pub silent : (dir : List ℕ) (words : Words) (w : Walking) → (walk dir words w []).asks ≡ []
unfolding walk
silent dir [] w = refl
silent dir (word ∷ rest) w = unasked (walk_step word rest w) dir (slice_index_or rest 0 []) (λ next left. walk dir rest next left) (λ next. silent dir rest next)

pub starved : (dir : List ℕ) (words : Words) (start from : Walking) (old now : Heard) (place : ℕ) → WalksTo dir words start old now place from → Walks dir words start old now (Err NoMemory)
starved dir words start from old now place w =
    record {
      asks = w.asks;
      log = w.log;
      later = w.later;
      ends = ap (λ a. (walk dir words start a).asks) (sym (found_none w.asks)) ∙ ap (λ x. x.asks) (w.goes []) ∙ ap (λ l. w.asks ++ l) (silent dir (drop place words) from) ∙ append-nil w.asks;
    }

-- a step that halts
pub halted : (dir : List ℕ) (words : Words) (start from to : Walking) (old now : Heard) (place : ℕ) (halt : Halt) → place < length words
    → Did (walk_step (slice_index_or words place []) (drop (place + 1) words) from) (Err halt) to → WalksTo dir words start old now place from → Walks dir words start old now (Err halt)
halted dir words start from to old now place (Wrong stop) lt e w = stopped dir words start from old now place stop lt e w
halted dir words start from to old now place FailedHalt lt e w = absurd e
halted dir words start from to old now place NoMemory lt e w = starved dir words start from old now place w

-- an ask of want of memory leaves the walk where it was
pub unheard : (dir : List ℕ) (words : Words) (start from : Walking) (old mid now : Heard) (place : ℕ) (path : List ℕ) (question : Question)
    → now.log ≡ extended mid.log (ask_told dir path question (Err NoAskMemory)) → mid.faults ≤ now.faults → WalksTo dir words start old mid place from → Walks dir words start old now (Err NoMemory)
unfolding ask_told
unheard dir words start from old mid now place path question log later w =
    starved dir words start from old now place (record { asks = w.asks; log = log ∙ extended_none mid.log ∙ w.log; later = omega arith; goes = w.goes })

log_more : (old mid now : Heard) (asks : List AskEvent) (event : AskEvent) → mid.log ≡ extended old.log asks → now.log ≡ extended mid.log (event ∷ []) → now.log ≡ extended old.log (asks ++ event ∷ [])
log_more old mid now asks event e f = f ∙ ap (λ l. extended l (event ∷ [])) e ∙ extended_more old.log asks (event ∷ [])

yes_or_no : (value : Bool) (question : Question) (to : Walking) (dir path : List ℕ) (more : List AskAnswer) (next : Walking → List AskAnswer → Walked)
    → acted (Asks question to) dir path (answer_in (Ok value) ∷ more) next ≡ before (event_of dir path question (Ok value)) (next (answered value to) more)
yes_or_no true question to dir path more next = refl
yes_or_no false question to dir path more next = refl

pub heard : (dir : List ℕ) (words : Words) (start from to : Walking) (old mid now : Heard) (place : ℕ) (path : List ℕ) (question : Question) (value : Bool) → place < length words
    → path ≡ slice_index_or words (place + 1) []
    → walk_step (slice_index_or words place []) (drop (place + 1) words) from ≡ Asks question to
    → now.log ≡ extended mid.log (ask_told dir path question (Ok value)) → mid.faults ≤ now.faults → WalksTo dir words start old mid place from
    → WalksTo dir words start old now (place + 1) (answered value to)
unfolding ask_told
heard dir words start from to old mid now place path question value lt same e log later w =
    let event : AskEvent = event_of dir path question (Ok value) in
    record {
      asks = w.asks ++ event ∷ [];
      log = log_more old mid now w.asks event w.log log;
      later = omega (arith, w.later, later);
      goes = λ more.
          ap (walk dir words start) (found_more w.asks event more)
          ∙ w.goes (answer_in (Ok value) ∷ more)
          ∙ ap (behind w.asks) (at_place dir words place from (Asks question to) (answer_in (Ok value) ∷ more) lt e
          ∙ ap (λ p. acted (Asks question to) dir p (answer_in (Ok value) ∷ more) (λ next left. walk dir (drop (place + 1) words) next left)) (sym same)
          ∙ yes_or_no value question to dir path more (λ next left. walk dir (drop (place + 1) words) next left))
          ∙ behind_more w.asks event (walk dir (drop (place + 1) words) (answered value to) more);
    }

rose_later : (old mid now : ℕ) → old ≤ mid → Rose mid now → Rose old now
rose_later old mid now le rose = omega (arith, le, rose)

pub failed : (dir : List ℕ) (words : Words) (start from to : Walking) (old mid now : Heard) (place : ℕ) (path : List ℕ) (question : Question) → place < length words
    → path ≡ slice_index_or words (place + 1) []
    → walk_step (slice_index_or words place []) (drop (place + 1) words) from ≡ Asks question to
    → now.log ≡ extended mid.log (ask_told dir path question (Err AskFailed)) → mid.faults ≤ now.faults → Rose mid.faults now.faults → WalksTo dir words start old mid place from
    → Walks dir words start old now (Err FailedHalt)
unfolding ask_told
failed dir words start from to old mid now place path question lt same e log later rose w =
    let event : AskEvent = event_of dir path question (Err AskFailed) in
    record {
      asks = w.asks ++ event ∷ [];
      log = log_more old mid now w.asks event w.log log;
      later = omega (arith, w.later, later);
      ends = (
        ap (walk dir words start) (sym (found_none (w.asks ++ event ∷ [])) ∙ found_more w.asks event [])
            ∙ w.goes (Fault ∷ [])
            ∙ ap (behind w.asks) (at_place dir words place from (Asks question to) (Fault ∷ []) lt e
            ∙ ap (λ p. acted (Asks question to) dir p (Fault ∷ []) (λ next left. walk dir (drop (place + 1) words) next left)) (sym same)),
        rose_later old.faults mid.faults now.faults w.later rose,
      );
    }

ends_as : (dir : List ℕ) (words : Words) (start from : Walking) (old now : Heard) (place : ℕ) (end : Result Bool Stop) → drop place words ≡ [] → ended_of from ≡ end → (w : WalksTo dir words start old now place from)
    → walk dir words start (answers_found w.asks) ≡ record { asks = w.asks; left = []; end = told end }
unfolding walk
ends_as dir words start from old now place end none e w =
    ap (walk dir words start) (sym (found_none w.asks)) ∙ w.goes [] ∙ ap (λ ws. behind w.asks (walk dir ws from [])) none
    ∙ ap (λ r. record { asks = w.asks ++ []; left = []; end = told r }) e ∙ ap (λ l. record { asks = l; left = []; end = told end }) (append-nil w.asks)

pub ended_well : (dir : List ℕ) (words : Words) (start from : Walking) (old now : Heard) (place : ℕ) (value : Bool) → drop place words ≡ [] → Ok value ≡ ended_of from → WalksTo dir words start old now place from
    → Walks dir words start old now (Ok value)
ended_well dir words start from old now place value none e w = record { asks = w.asks; log = w.log; later = w.later; ends = ends_as dir words start from old now place (Ok value) none (sym e) w }

pub ended_badly : (dir : List ℕ) (words : Words) (start from : Walking) (old now : Heard) (place : ℕ) (stop : Stop) → drop place words ≡ [] → Err stop ≡ ended_of from → WalksTo dir words start old now place from
    → Walks dir words start old now (Err (Wrong stop))
ended_badly dir words start from old now place stop none e w = record { asks = w.asks; log = w.log; later = w.later; ends = ends_as dir words start from old now place (Err stop) none (sym e) w }

-- ---- what a step did, by its answer

pub did_none : (act : Act) (result : Result (Option Question) Halt) (field : Option Question) (new : Walking) → Did act result new → result ≡ Ok field → field ≡ None → act ≡ Went new
did_none act result field new h is none = subst (λ r. Did act r new) (is ∙ ap Ok none) h

pub did_some : (act : Act) (result : Result (Option Question) Halt) (field : Option Question) (question : Question) (new : Walking) → Did act result new → result ≡ Ok field → field ≡ Some question → act ≡ Asks question new
did_some act result field question new h is some = subst (λ r. Did act r new) (is ∙ ap Ok some) h

pub did_err : (act : Act) (result : Result (Option Question) Halt) (halt : Halt) (new : Walking) → Did act result new → result ≡ Err halt → Did act (Err halt) new
did_err act result halt new h is = subst (λ r. Did act r new) is h

pub is_err_of : (result : Result Bool AskFault) (fault : AskFault) → result ≡ Err fault → fault ≡ AskFailed → IsErrOf result AskFailed
is_err_of result fault is same = subst (λ r. IsErrOf r AskFailed) (sym (is ∙ ap Err same)) refl

pub of_ok : {E : Type 0} (result : Result (List ℕ) E) (path to : List ℕ) → IfOk result (λ word. word ≡ to) → result ≡ Ok path → path ≡ to
of_ok result path to h is = subst (λ r. IfOk r (λ word. word ≡ to)) is h

pub arrives_ok : (result : Result (Unit {0}) Halt) (done : Unit {0}) (dir : List ℕ) (words : Words) (start : Walking) (before now : Heard) (place : ℕ) (to : Walking) → ArrivesAt result dir words start before now place to → result ≡ Ok done
    → WalksTo dir words start before now (place + 1) to
arrives_ok result done dir words start before now place to h is = subst (λ r. ArrivesAt r dir words start before now place to) is h

pub arrives_err : (result : Result (Unit {0}) Halt) (halt : Halt) (dir : List ℕ) (words : Words) (start : Walking) (before now : Heard) (place : ℕ) (to : Walking) → ArrivesAt result dir words start before now place to → result ≡ Err halt
    → Walks dir words start before now (Err halt)
arrives_err result halt dir words start before now place to h is = subst (λ r. ArrivesAt r dir words start before now place to) is h
