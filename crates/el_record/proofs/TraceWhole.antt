-- A trace has one text, and a text that stops somewhere is no trace's.
use Rattle.std.proofs.Common.{◌≡◌, inl, inr, ℕ, ◌≤◌, ◌==◌, List, [], ◌∷◌, length, Some, None, refl, sym, ap, ap₂, subst, ◌∙◌, arith, drop, length-drop}
use Rattle.std.proofs.lemmas.Option.{some_pair_parts}
use Rattle.el_words.proofs.Truths.{none_is_some}
use Rattle.el_world.specs.declared.event.Event.{Event}
use Rattle.el_record.specs.declared.trace.RunEnd.{RunEnd}
use Rattle.el_record.specs.declared.trace.RunEnd.TheVariants.{Status, Spent}
use Rattle.el_record.specs.Reading.{and_read}
use Rattle.el_record.proofs.FieldLaws.{read_then, read_both}
use Rattle.el_record.specs.Fields.{number_before}
use Rattle.el_record.specs.TraceText.{event_before, events_before, run_end_before, trace_text}
use Rattle.el_record.specs.TraceReading.{event_at, run_end_at, end_by, end_behind}
use Rattle.el_record.specs.Laws.{TraceIsOne, BadIsNoTrace, BadPlaceIsOne, TextsAreReadBack}
use Rattle.el_record.specs.Recordable.{IsRecordable, AreRecordable, IsRunEnd}
use Rattle.el_record.proofs.TraceLaws.{below-read, below-written, event-read, was_checked, one_byte, is_byte, if_byte, none_is}
use Rattle.el_record.proofs.TraceRanges.{below_small}

pub run_end-read : (end : RunEnd) (rest : List ℕ) → IsRunEnd end → run_end_at (run_end_before end rest) ≡ Some (end, rest)
unfolding run_end_at and_read IsRunEnd
run_end-read (Status code) rest is = read_then _ _ (Status code) (10 ∷ rest) _ (read_then _ _ code (10 ∷ rest) _ (below-read 256 code (10 ∷ rest) is (omega arith)) refl) refl
run_end-read Spent rest is = refl

-- the end is no event
end_no_event : (end : RunEnd) (rest : List ℕ) → event_at (run_end_before end rest) ≡ None
unfolding event_at and_read
end_no_event (Status code) rest = refl
end_no_event Spent rest = refl

-- an event is what is read
event_is : (event other : Event) (rest more : List ℕ) → IsRecordable event → event_before event rest ≡ event_before other more → IsRecordable other → (event ≡ other) × (rest ≡ more)
event_is event other rest more is same other_is = some_pair_parts event other rest more (sym (event-read event rest is) ∙ ap event_at same ∙ event-read other more other_is)

-- a trace's text is no other's
pub one_trace : (events others : List Event) (end other : RunEnd) → AreRecordable events → AreRecordable others → IsRunEnd end → IsRunEnd other → trace_text events end ≡ trace_text others other → (events ≡ others) × (end ≡ other)
unfolding AreRecordable
one_trace [] [] end other p q r s same = (refl, (some_pair_parts end other [] [] (sym (run_end-read end [] r) ∙ ap run_end_at same ∙ run_end-read other [] s)).0)
one_trace [] (event ∷ others) end other p q r s same = none_is_some _ (sym (end_no_event end []) ∙ ap event_at same ∙ event-read event (trace_text others other) q.0)
one_trace (event ∷ events) [] end other p q r s same = none_is_some _ (sym (end_no_event other []) ∙ ap event_at (sym same) ∙ event-read event (trace_text events end) p.0)
one_trace (event ∷ events) (first ∷ others) end other p q r s same =
    let both = event_is event first (trace_text events end) (trace_text others other) p.0 same q.0 in
    let later = one_trace events others end other p.1 q.1 r s both.1 in
    (ap₂ (λ e es. e ∷ es) both.0 later.0, later.1)

-- where no record stands, no trace's text goes through
stops : (events : List Event) (end : RunEnd) (others : List Event) (rest : List ℕ) → AreRecordable events → IsRunEnd end → AreRecordable others → event_at rest ≡ None → run_end_at rest ≡ None → trace_text events end ≡ events_before others rest → ⊥
unfolding AreRecordable
stops [] end [] rest p r q no_event no_end same = none_is_some _ (sym no_end ∙ ap run_end_at (sym same) ∙ run_end-read end [] r)
stops [] end (other ∷ others) rest p r q no_event no_end same = none_is_some _ (sym (end_no_event end []) ∙ ap event_at same ∙ event-read other (events_before others rest) q.0)
stops (event ∷ events) end [] rest p r q no_event no_end same = none_is_some _ (sym no_event ∙ ap event_at (sym same) ∙ event-read event (trace_text events end) p.0)
stops (event ∷ events) end (other ∷ others) rest p r q no_event no_end same =
    let both = event_is event other (trace_text events end) (events_before others rest) p.0 same q.0 in
    stops events end others rest p.1 r q.1 no_event no_end both.1

-- nor where bytes stand behind the end
goes_on : (events : List Event) (end : RunEnd) (others : List Event) (other : RunEnd) (rest : List ℕ) → AreRecordable events → IsRunEnd end → AreRecordable others → IsRunEnd other → (rest ≡ [] → ⊥) → trace_text events end ≡ events_before others (run_end_before other rest) → ⊥
unfolding AreRecordable
goes_on [] end [] other rest p r q s more same = more (sym (some_pair_parts end other [] rest (sym (run_end-read end [] r) ∙ ap run_end_at same ∙ run_end-read other rest s)).1)
goes_on [] end (first ∷ others) other rest p r q s more same = none_is_some _ (sym (end_no_event end []) ∙ ap event_at same ∙ event-read first (events_before others (run_end_before other rest)) q.0)
goes_on (event ∷ events) end [] other rest p r q s more same = none_is_some _ (sym (end_no_event other rest) ∙ ap event_at (sym same) ∙ event-read event (trace_text events end) p.0)
goes_on (event ∷ events) end (first ∷ others) other rest p r q s more same =
    let both = event_is event first (trace_text events end) (events_before others (run_end_before other rest)) p.0 same q.0 in
    goes_on events end others other rest p.1 r q.1 s more both.1

-- ---- laws

pub trace_is_one : TraceIsOne
trace_is_one text events others end other is is_too = one_trace events others end other is.events_are is_too.events_are is.end_is is_too.end_is (is.same ∙ sym is_too.same)

pub bad_is_no_trace : BadIsNoTrace
bad_is_no_trace text at events end (inl bad) is = stops events end bad.events (drop at text) is.events_are is.end_is bad.events_are bad.no_event bad.no_end (is.same ∙ sym bad.filled)
bad_is_no_trace text at events end (inr bad) is = goes_on events end bad.events bad.end (drop at text) is.events_are is.end_is bad.events_are bad.end_is bad.more (is.same ∙ sym bad.filled)

-- where no event stands, one beginning of events ends
same_rest : (events others : List Event) (rest more : List ℕ) → AreRecordable events → AreRecordable others → event_at rest ≡ None → event_at more ≡ None → events_before events rest ≡ events_before others more → rest ≡ more
unfolding AreRecordable
same_rest [] [] rest more p q none none_too same = same
same_rest [] (other ∷ others) rest more p q none none_too same = none_is_some _ (sym none ∙ ap event_at same ∙ event-read other (events_before others more) q.0)
same_rest (event ∷ events) [] rest more p q none none_too same = none_is_some _ (sym none_too ∙ ap event_at (sym same) ∙ event-read event (events_before events rest) p.0)
same_rest (event ∷ events) (other ∷ others) rest more p q none none_too same =
    same_rest events others rest more p.1 q.1 none none_too (event_is event other (events_before events rest) (events_before others more) p.0 same q.0).1

-- within a list a place is known by what stands behind it
same_place : (text : List ℕ) (at other : ℕ) → at ≤ length text → other ≤ length text → drop at text ≡ drop other text → at ≡ other
same_place text at other within within_too same = omega (arith, within, within_too, ap length same, length-drop at text, length-drop other text)

something : (text : List ℕ) (at : ℕ) → (drop at text ≡ [] → ⊥) → at ≤ length text
something text at more = by (drop at text) refl
  where
    by : (rest : List ℕ) → drop at text ≡ rest → at ≤ length text
    by [] is = absurd (more is)
    by (byte ∷ rest) is = omega (arith, ap length is, length-drop at text)

pub bad_place_is_one : BadPlaceIsOne
bad_place_is_one text at other (inl bad) (inl bad_too) =
    same_place text at other bad.within bad_too.within
    (same_rest bad.events bad_too.events (drop at text) (drop other text) bad.events_are bad_too.events_are bad.no_event bad_too.no_event (bad.filled ∙ sym bad_too.filled))
bad_place_is_one text at other (inl bad) (inr bad_too) =
    let same = same_rest bad.events bad_too.events (drop at text) _ bad.events_are bad_too.events_are bad.no_event (end_no_event bad_too.end (drop other text)) (bad.filled ∙ sym bad_too.filled) in
    none_is_some _ (sym bad.no_end ∙ ap run_end_at same ∙ run_end-read bad_too.end (drop other text) bad_too.end_is)
bad_place_is_one text at other (inr bad) (inl bad_too) =
    let same = same_rest bad.events bad_too.events _ (drop other text) bad.events_are bad_too.events_are (end_no_event bad.end (drop at text)) bad_too.no_event (bad.filled ∙ sym bad_too.filled) in
    none_is_some _ (sym bad_too.no_end ∙ ap run_end_at (sym same) ∙ run_end-read bad.end (drop at text) bad.end_is)
bad_place_is_one text at other (inr bad) (inr bad_too) =
    let same = same_rest bad.events bad_too.events _ _ bad.events_are bad_too.events_are (end_no_event bad.end (drop at text)) (end_no_event bad_too.end (drop other text)) (bad.filled ∙ sym bad_too.filled) in
    let rests = some_pair_parts bad.end bad_too.end (drop at text) (drop other text) (sym (run_end-read bad.end (drop at text) bad.end_is) ∙ ap run_end_at same ∙ run_end-read bad_too.end (drop other text) bad_too.end_is) in
    same_place text at other (something text at bad.more) (something text other bad_too.more) rests.1

pub texts_are_read_back : TextsAreReadBack
texts_are_read_back events end answer are is answers = answers events end (record { same = refl; events_are = are; end_is = is })

-- ---- what is read as an end is its text

-- an end that was read, and its text
pub record IsEndRead (text : List ℕ) (end : RunEnd) (rest : List ℕ) : Type 0 where
  pub text_is : run_end_before end rest ≡ text
  pub fits : IsRunEnd end

end_kind : (letter : ℕ) (mid : List ℕ) (end : RunEnd) (rest : List ℕ) → end_by letter mid ≡ Some (end, 10 ∷ rest) → IsEndRead (90 ∷ letter ∷ mid) end rest
unfolding IsRunEnd
end_kind letter mid end rest e =
    let found : RunEnd × List ℕ = (end, 10 ∷ rest) in
    if_byte letter 115 _ _ found e (λ is e.
    let one = read_both _ _ end (10 ∷ rest) e in
    let parts = some_pair_parts (Status one.a) end one.mid (10 ∷ rest) one.next_is in
    record {
      text_is = ap (λ e. run_end_before e rest) (sym parts.0) ∙ ap (λ t. 90 ∷ 115 ∷ t) (ap (λ r. number_before one.a r) (sym parts.1) ∙ (below-written 256 mid one.a one.mid one.first_is).text_is) ∙ ap (λ l. 90 ∷ l ∷ mid) (sym is);
      fits = subst IsRunEnd parts.0 (below_small 256 mid one.a one.mid one.first_is);
    }) (λ e.
    if_byte letter 108 _ _ found e (λ is e.
    let parts = some_pair_parts Spent end mid (10 ∷ rest) e in
    record {
      text_is = ap (λ e. run_end_before e rest) (sym parts.0) ∙ ap (λ t. 90 ∷ 108 ∷ t) (sym parts.1) ∙ ap (λ l. 90 ∷ l ∷ mid) (sym is);
      fits = subst IsRunEnd parts.0 tt;
    }) (λ e. none_is found e))

pub run_end-written : (text : List ℕ) (end : RunEnd) (rest : List ℕ) → run_end_at text ≡ Some (end, rest) → IsEndRead text end rest
unfolding run_end_at
run_end-written text end rest e =
    let found : RunEnd × List ℕ = (end, rest) in
    let letter = one_byte text end_behind end rest e in
    if_byte letter.0 90 _ _ found letter.3 (λ is e.
    let kind = one_byte letter.1 _ end rest e in
    let body = read_both _ _ end rest kind.3 in
    let newline = one_byte body.mid _ end rest body.next_is in
    let passed = was_checked (newline.0 == 10) body.a newline.1 end rest newline.3 in
    let behind : body.mid ≡ 10 ∷ rest = newline.2 ∙ ap₂ (λ b r. b ∷ r) (is_byte newline.0 10 passed.passes) passed.left in
    let read = end_kind kind.0 kind.1 end rest (body.first_is ∙ ap₂ (λ e r. Some (e, r)) passed.same behind) in
    record { text_is = read.text_is ∙ ap (λ t. 90 ∷ t) (sym kind.2) ∙ ap (λ l. l ∷ letter.1) (sym is) ∙ sym letter.2; fits = read.fits }) (λ e. none_is found e)
