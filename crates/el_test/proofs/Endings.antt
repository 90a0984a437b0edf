-- How the two walks of eltest end.
use Rattle.std.proofs.Common.{◌≡◌, ℕ, ◌-◌, ◌<◌, ◌≤◌, Bool, List, [], ◌∷◌, length, Option, None, Some, Result, Ok, Err, MatchResult, refl, sym, ap, ◌∙◌, subst, arith}
use Rattle.el_test.specs.declared.asker.AskEvent.{AskEvent}
use Rattle.el_test.specs.declared.walking.Stop.{Stop}
use Rattle.el_test.specs.declared.walking.Halt.TheVariants.{Wrong, NoMemory}
use Rattle.el_test.specs.declared.walking.Standing.TheVariants.{Open as Undecided, Settled}
use Rattle.el_test.specs.declared.fault.TestFault.{TestFault}
use Rattle.el_test.specs.Asker.{Heard, extended, answers_found}
use Rattle.el_test.specs.Expressions.{Expression}
use Rattle.el_test.specs.Reading.{read_on, reading, placed, Due, outermost}
use Rattle.el_test.specs.Truth.{Answered, Verdict, False, truth, truth_in, verdict_of}
use Rattle.el_test.specs.Walking.{Walking, walk, fresh, Walked}
use Rattle.el_test.specs.Walks.{Walks, IsRead, Checked}
use Rattle.el_test.specs.WalkLaws.{read_end}
use Rattle.el_test.specs.declared.walking.Halt.{Halt}
use Rattle.el_test.specs.declared.end.TestEnd.{TestEnd}
use Rattle.el_test.specs.declared.end.TestEnd.TheVariants.{True as TrueEnd, False as FalseEnd, Refused, Failed as FailedEnd, NoMemory as NoMemoryEnd}
use Rattle.el_test.specs.Ends.{Write, Evaluates, Breaks, Ends}
use Rattle.el_test.proofs.ProperReads.{proper_is_read}
use Rattle.el_test.proofs.ReadsProper.{read_is_proper}
use Rattle.el_test.proofs.SettledWalks.{settled_reads}
use Rattle.el_test.proofs.OpenWalks.{open_tells}
use Rattle.el_test.proofs.Walked.{silent, extended_none}

abbrev walked : List AskEvent → Result Verdict Stop → Walked
walked asks end = record { asks = asks; left = []; end = end }

-- what nobody shows
abbrev pub told_nothing : Heard
told_nothing = record { log = None; faults = 0 }

abbrev Words : Type 0
Words = List (List ℕ)

-- what the reading came to, from the end of the settled walk
reading_ends : (dir : List ℕ) (words : Words) (asks : List AskEvent) (end : Result Verdict Stop) → walk dir words (fresh Settled) (answers_found asks) ≡ record { asks = asks; left = []; end = end }
    → read_end (read_on words (Due 255 outermost)) ≡ end
reading_ends dir words asks end e = sym (ap (λ (w : Walked). w.end) (settled_reads dir words (answers_found asks))) ∙ ap (λ (w : Walked). w.end) e

reading_is : (words : Words) → 0 < length words → reading words ≡ placed (length words) (read_on words (Due 255 outermost))
unfolding reading
reading_is [] lt = absurd (omega (arith, lt))
reading_is (word ∷ rest) lt = refl

was_wrong : (answer : Result Expression Stop) (stop : Stop) → read_end answer ≡ Err stop → answer ≡ Err stop
was_wrong (Ok expression) stop e = cc
was_wrong (Err other) stop e = cc

pub refused : (dir : List ℕ) (words : Words) (old new : Heard) (stop : Stop) → 0 < length words → Walks dir words (fresh Settled) old new (Err (Wrong stop))
    → reading words ≡ Err (record { kind = stop.kind; at = length words - stop.left })
refused dir words old new stop lt w = reading_is words lt ∙ ap (placed (length words)) (was_wrong (read_on words (Due 255 outermost)) stop (reading_ends dir words w.asks (Err stop) w.ends))

was_read : (words : Words) (value : Bool) (answer : Result Expression Stop) → read_end answer ≡ Ok (verdict_of value) → reading words ≡ placed (length words) answer → IsRead words
was_read words value (Ok expression) e is = record { expression = expression; whole = is }
was_read words value (Err stop) e is = cc

pub accepted : (dir : List ℕ) (words : Words) (old new : Heard) (value : Bool) → 0 < length words → Walks dir words (fresh Settled) old new (Ok value) → IsRead words
accepted dir words old new value lt w = was_read words value (read_on words (Due 255 outermost)) (reading_ends dir words w.asks (Ok (verdict_of value)) w.ends) (reading_is words lt)

-- ---- the second walk

walk_tells : (dir : List ℕ) (words : Words) (asks : List AskEvent) (read : IsRead words)
    → walk dir words (fresh Undecided) (answers_found asks)
    ≡ record { asks = (truth_in read.expression dir (answers_found asks)).asks; left = (truth_in read.expression dir (answers_found asks)).left; end = Ok (truth_in read.expression dir (answers_found asks)).verdict }
walk_tells dir words asks read =
    let both = read_is_proper words (Some read.expression) read.whole in
    ap (λ ws. walk dir ws (fresh Undecided) (answers_found asks)) (sym both.1) ∙ open_tells dir read.expression (answers_found asks) both.0

told_from : (a : Answered) (asks : List AskEvent) (verdict : Verdict) → record { asks = a.asks; left = a.left; end = Ok a.verdict } ≡ walked asks (Ok verdict) → a ≡ record { asks = asks; left = []; verdict = verdict }
told_from a asks verdict e =
    let one : a.asks ≡ asks = ap (λ (w : Walked). w.asks) e in
    let two : a.left ≡ [] = ap (λ (w : Walked). w.left) e in
    let end : Ok a.verdict ≡ Ok verdict = ap (λ (w : Walked). w.end) e in
    let three : a.verdict ≡ verdict = cc in
    ap (λ x. record { asks = x; left = a.left; verdict = a.verdict }) one ∙ ap (λ x. record { asks = asks; left = x; verdict = a.verdict }) two ∙ ap (λ x. record { asks = asks; left = []; verdict = x }) three

pub evaluated : (dir : List ℕ) (words : Words) (old new : Heard) (verdict : Verdict) (asks : List AskEvent) → IsRead words → new.log ≡ extended old.log asks → old.faults ≤ new.faults
    → walk dir words (fresh Undecided) (answers_found asks) ≡ walked asks (Ok verdict) → Evaluates dir words old new verdict
evaluated dir words old new verdict asks read log later e =
    let both = read_is_proper words (Some read.expression) read.whole in
    record {
      expression = Some read.expression;
      read = record { proper = both.0; words_of = both.1 };
      asks = asks;
      log = log;
      later = later;
      told = told_from (truth_in read.expression dir (answers_found asks)) asks verdict (sym (walk_tells dir words asks read) ∙ e);
    }

pub never_wrong : (dir : List ℕ) (words : Words) (old new : Heard) (stop : Stop) → IsRead words → Walks dir words (fresh Undecided) old new (Err (Wrong stop)) → ⊥
never_wrong dir words old new stop read w =
    let e : Ok (truth_in read.expression dir (answers_found w.asks)).verdict ≡ Err stop = ap (λ (x : Walked). x.end) (sym (walk_tells dir words w.asks read) ∙ w.ends) in cc

pub broken : (dir : List ℕ) (words : Words) (old new : Heard) → IsRead words → Walks dir words (fresh Undecided) old new (Err NoMemory) → Breaks dir words old new
broken dir words old new read w =
    record {
      asks = w.asks;
      log = w.log;
      later = w.later;
      begun = subst (λ r. MatchResult r (λ expression. (truth expression dir (answers_found w.asks)).asks ≡ w.asks) (λ fault. w.asks ≡ [])) (sym read.whole) (sym (ap (λ (x : Walked). x.asks) (walk_tells dir words w.asks read)) ∙ w.ends);
    }

-- ---- both

abbrev no_asks : List AskEvent
no_asks = []

-- on no answers nothing is asked
broken_early : (dir : List ℕ) (words : Words) (old : Heard) → Breaks dir words old old
broken_early dir words old = record { asks = []; log = sym (extended_none old.log); later = omega arith; begun = by (reading words) refl }
  where
    by : (answer : Result (Option Expression) TestFault) → reading words ≡ answer → MatchResult answer (λ expression. (truth expression dir []).asks ≡ []) (λ fault. no_asks ≡ [])
    by (Ok None) e = refl
    by (Ok (Some expression)) e = sym (ap (λ (x : Walked). x.asks) (walk_tells dir words [] (record { expression = expression; whole = e }))) ∙ silent dir words (fresh Undecided)
    by (Err fault) e = refl

-- words that the reading refuses are no proper expression's
improper : (words : Words) (fault : TestFault) (expression : Option Expression) → reading words ≡ Err fault → Write words expression → ⊥
improper words fault expression e w = let read : Ok expression ≡ Err fault = sym (proper_is_read expression w.proper) ∙ ap reading w.words_of ∙ e in cc

pub checked_err : (result : Result (Unit {0}) TestEnd) (end : TestEnd) (dir : List ℕ) (words : Words) (old : Heard) → Checked result words → result ≡ Err end → Ends end dir words old old
checked_err result end dir words old h e = by end (subst (λ r. Checked r words) e h)
  where
    by : (end : TestEnd) → Checked (Err end) words → Ends end dir words old old
    by TrueEnd h = absurd h
    by FalseEnd h = absurd h
    by (Refused fault) h = record { found = h; improper = λ expression w. improper words fault expression h w; unasked = refl }
    by FailedEnd h = absurd h
    by NoMemoryEnd h = broken_early dir words old

pub checked_ok : (result : Result (Unit {0}) TestEnd) (done : Unit {0}) (words : Words) → Checked result words → result ≡ Ok done → IsRead words
checked_ok result done words h e = subst (λ r. Checked r words) e h

pub no_words : (dir : List ℕ) (words : Words) (old : Heard) → words ≡ [] → Evaluates dir words old old False
no_words dir words old e = subst (λ ws. Evaluates dir ws old old False) (sym e)
    (record { expression = None; read = record { proper = tt; words_of = refl }; asks = []; log = sym (extended_none old.log); later = omega arith; told = refl })

pub with_result : (dir : List ℕ) (words : Words) (start : Walking) (old new : Heard) (result other : Result Bool Halt) → result ≡ other → Walks dir words start old new result → Walks dir words start old new other
with_result dir words start old new result other e w = subst (λ r. Walks dir words start old new r) e w
