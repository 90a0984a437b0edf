-- What is written of an event is read, and what is read is written.
use Rattle.std.proofs.Common.{◌≡◌, ℕ, ◌<◌, ◌≤◌, ◌^◌, ◌==◌, Bool, true, false, nat_lt, if◌then◌else◌, List, [], ◌∷◌, length, Option, Some, None, Result, Ok, Err, refl, sym, ap, ap₂, subst, ◌∙◌, arith}
use Rattle.std.specs.Prelude.{suc, T}
use Rattle.std.specs.FinMap as map
use Rattle.std.specs.Cmp.Lexicographic.{slice_cmp}
use Rattle.std.specs.Ordering.{nat_cmp}
use Rattle.el_env.specs.Vars.{Vars}
use Rattle.el_world.specs.declared.event.StartFault.{StartFault}
use Rattle.el_world.specs.declared.event.StartFault.TheVariants.{NotFound, NotStartable, Failed as StartFailed, NoMemory as NoStartMemory}
use Rattle.std.specs.List.{list_all}
use Rattle.std.specs.Char.{is_ascii_digit}
use Rattle.std.specs.Prelude.{drop}
use Rattle.std.proofs.lemmas.List.Sums.{take_while-cons}
use Rattle.el_env.specs.Name.{is_good_name}
use Rattle.el_transform.specs.Computed.{length_of}
use Rattle.std.proofs.lemmas.Bool.{lt-ltb, and_from}
use Rattle.std.proofs.lemmas.Option.{some_pair_parts}
use Rattle.el_words.proofs.Truths.{left_of, none_is_some}
use Rattle.el_world.specs.declared.event.Event.{Event}
use Rattle.el_world.specs.declared.event.Event.TheVariants.{Start, Wait, Opened, Pipe, Feed, Read, Write, Close, Enter}
use Rattle.el_world.specs.declared.event.Handle.{Handle}
use Rattle.el_world.specs.declared.event.Pid.{Pid}
use Rattle.el_world.specs.declared.event.PipeEnds.{PipeEnds}
use Rattle.el_world.specs.declared.event.Mode.{Mode}
use Rattle.el_world.specs.declared.event.Mode.TheVariants as mode
use Rattle.el_world.specs.declared.event.Ended.{Ended}
use Rattle.el_world.specs.declared.event.Ended.TheVariants.{Exited, Killed}
use Rattle.el_world.specs.declared.event.Fault.{Fault}
use Rattle.el_world.specs.declared.event.Fault.TheVariants.{Failed, NoMemory}
use Rattle.el_world.specs.World.{is_wait_status}
use Rattle.el_world.specs.Lawful.{is_piece}
use Rattle.el_record.specs.Fields.{number_before, bytes_before}
use Rattle.el_record.specs.Reading.{and_read, byte_of, cut_semicolon, number_of_front, bytes_of_front}
use Rattle.el_record.specs.Recordable.{IsHandle, IsWordText, AreWordTexts, ArePairTexts, IsEnd, IsStarted, IsEnded, IsGood, IsStart, IsRecordable}
use Rattle.el_record.proofs.Numbers.{number-read, number-written}
use Rattle.el_record.proofs.FieldLaws.{bytes-read, bytes-written, read_both, read_then}
use Rattle.el_record.specs.TraceText.{handle_before, end_before, ends_before, each_before, pairs_before, words_before, env_before, start_answer_before, or_failed_before, ended_before, given_before, found_before, pipe_before, done_before, mode_letter, event_before}
use Rattle.el_record.specs.TraceReading.{FrontRead, checked, number_below, handle_at, pid_at, ended_by, ended_at, given_by_letter, given_at, found_by_letter, found_at, is_word, word_at, mode_by, mode_at, piped_by_letter, piped_at, done_by_letter, done_at, each_at, pairs_at, words_at, are_variables, env_at, end_at, started_by_letter, started_at, start_at, read_at, pipe_at, write_at, opened_at, enter_at, line_end, wait_at, feed_at, close_at, event_by, event_at}

-- ---- tests

pub record Checked {A : Type 0} (test : Bool) (a : A) (before : List ℕ) (b : A) (rest : List ℕ) : Type 0 where
  pub passes : test ≡ true
  pub same : a ≡ b
  pub left : before ≡ rest

pub was_checked : {A : Type 0} (test : Bool) (a : A) (before : List ℕ) (b : A) (rest : List ℕ) → checked test a before ≡ Some (b, rest) → Checked test a before b rest
was_checked true a before b rest e = let parts = some_pair_parts a b before rest e in record { passes = refl; same = parts.0; left = parts.1 }
was_checked false a before b rest e = absurd (cc)

pub below-read : (limit n : ℕ) (rest : List ℕ) → n < limit → limit ≤ 2 ^ 64 → number_below limit (number_before n rest) ≡ Some (n, rest)
unfolding number_below
below-read limit n rest small within = read_then _ _ n rest _ (number-read n rest (omega arith)) (rw (lt-ltb n limit small) refl)

pub record IsBelow (limit : ℕ) (text : List ℕ) (n : ℕ) (rest : List ℕ) : Type 0 where
  pub small : nat_lt n limit ≡ true
  pub text_is : number_before n rest ≡ text

pub below-written : (limit : ℕ) (text : List ℕ) (n : ℕ) (rest : List ℕ) → number_below limit text ≡ Some (n, rest) → IsBelow limit text n rest
unfolding number_below
below-written limit text n rest e =
    let both = read_both _ _ n rest e in
    let is = was_checked (nat_lt both.a limit) both.a both.mid n rest both.next_is in
    record { small = subst (λ m. nat_lt m limit ≡ true) is.same is.passes; text_is = ap₂ number_before (sym is.same) (sym is.left) ∙ number-written text both.a both.mid both.first_is }

-- ---- handles and processes

pub handle-read : (handle : Handle) (rest : List ℕ) → handle.number < 2 ^ 64 → handle_at (handle_before handle rest) ≡ Some (handle, rest)
unfolding handle_at
handle-read handle rest small = read_then _ _ handle.number rest _ (number-read handle.number rest small) refl

pub handle-written : (text : List ℕ) (handle : Handle) (rest : List ℕ) → handle_at text ≡ Some (handle, rest) → handle_before handle rest ≡ text
unfolding handle_at
handle-written text handle rest e =
    let both = read_both _ _ handle rest e in
    let parts = some_pair_parts (record { number = both.a }) handle both.mid rest both.next_is in
    ap₂ handle_before (sym parts.0) (sym parts.1) ∙ number-written text both.a both.mid both.first_is

pub pid-read : (pid : Pid) (rest : List ℕ) → pid.number < 2 ^ 32 → pid_at (number_before pid.number rest) ≡ Some (pid, rest)
unfolding pid_at
pid-read pid rest small = read_then _ _ pid.number rest _ (below-read (2 ^ 32) pid.number rest small (omega arith)) refl

pub pid-written : (text : List ℕ) (pid : Pid) (rest : List ℕ) → pid_at text ≡ Some (pid, rest) → number_before pid.number rest ≡ text
unfolding pid_at
pid-written text pid rest e =
    let both = read_both _ _ pid rest e in
    let parts = some_pair_parts (record { number = both.a }) pid both.mid rest both.next_is in
    ap₂ (λ (p : Pid) rest. number_before p.number rest) (sym parts.0) (sym parts.1) ∙ (below-written (2 ^ 32) text both.a both.mid both.first_is).text_is

-- ---- letters

-- the byte that is there
pub one_byte : {A : Type 0} (text : List ℕ) (next : ℕ → List ℕ → FrontRead A) (a : A) (rest : List ℕ) → and_read (byte_of text) next ≡ Some (a, rest) → (letter : ℕ) × (mid : List ℕ) × (text ≡ letter ∷ mid) × (next letter mid ≡ Some (a, rest))
unfolding and_read
one_byte [] next a rest e = absurd (cc)
one_byte (letter ∷ mid) next a rest e = (letter, mid, refl, e)

pub is_byte : (letter byte : ℕ) → (letter == byte) ≡ true → letter ≡ byte
is_byte letter byte e = grind (arith, e)

-- ---- answers

pub ended-read : (answer : Result Ended Fault) (rest : List ℕ) → IsEnded answer → ended_at (or_failed_before ended_before answer rest) ≡ Some (answer, rest)
unfolding ended_at and_read IsEnded
ended-read (Ok (Exited code)) rest is = read_then _ _ code rest _ (below-read 256 code rest is (omega arith)) refl
ended-read (Ok (Killed signal)) rest is = read_then _ _ signal rest _ (below-read 256 signal rest is.0 (omega arith)) (rw is.1 refl)
ended-read (Err Failed) rest is = refl
ended-read (Err NoMemory) rest is = absurd is

ended-by : (letter : ℕ) (mid : List ℕ) (answer : Result Ended Fault) (rest : List ℕ) → ended_by letter mid ≡ Some (answer, rest) → or_failed_before ended_before answer rest ≡ letter ∷ mid
ended-by letter mid answer rest e = by (letter == 69) refl (letter == 75) refl (letter == 102) refl e
  where
    by : (a : Bool) → (letter == 69) ≡ a → (b : Bool) → (letter == 75) ≡ b → (f : Bool) → (letter == 102) ≡ f
        → (if a then and_read (number_below 256 mid) (λ code rest. Some (Ok (Exited code), rest))
        else (if b then and_read (number_below 256 mid) (λ signal rest. checked (is_wait_status (Killed signal)) (Ok (Killed signal)) rest)
        else (if f then Some (Err Failed, mid) else None))) ≡ Some (answer, rest) → or_failed_before ended_before answer rest ≡ letter ∷ mid
    by true is b is' f is'' e =
        let both = read_both _ _ answer rest e in
        let parts = some_pair_parts (Ok (Exited both.a)) answer both.mid rest both.next_is in
        ap₂ (λ a r. or_failed_before ended_before a r) (sym parts.0) (sym parts.1) ∙ ap₂ (λ l m. l ∷ m) (sym (is_byte letter 69 is)) (below-written 256 mid both.a both.mid both.first_is).text_is
    by false is true is' f is'' e =
        let both = read_both _ _ answer rest e in
        let passed = was_checked (is_wait_status (Killed both.a)) (Ok (Killed both.a)) both.mid answer rest both.next_is in
        ap₂ (λ a r. or_failed_before ended_before a r) (sym passed.same) (sym passed.left) ∙ ap₂ (λ l m. l ∷ m) (sym (is_byte letter 75 is')) (below-written 256 mid both.a both.mid both.first_is).text_is
    by false is false is' true is'' e =
        let parts = some_pair_parts (Err Failed) answer mid rest e in
        ap₂ (λ a r. or_failed_before ended_before a r) (sym parts.0) (sym parts.1) ∙ ap (λ l. l ∷ mid) (sym (is_byte letter 102 is''))
    by false is false is' false is'' e = absurd (cc)

pub ended-written : (text : List ℕ) (answer : Result Ended Fault) (rest : List ℕ) → ended_at text ≡ Some (answer, rest) → or_failed_before ended_before answer rest ≡ text
unfolding ended_at
ended-written text answer rest e = let one = one_byte text ended_by answer rest e in ended-by one.0 one.1 answer rest one.3 ∙ sym one.2

-- ---- one kind of event, whole

pub wait-read : (pid : Pid) (answer : Result Ended Fault) (rest : List ℕ) → pid.number < 2 ^ 32 → IsEnded answer → event_at (event_before (Wait pid answer) rest) ≡ Some (Wait pid answer, rest)
unfolding event_at wait_at line_end and_read
wait-read pid answer rest small is =
    read_then _ _ (Wait pid answer) (10 ∷ rest) _ (read_then _ _ pid (or_failed_before ended_before answer (10 ∷ rest)) _ (pid-read pid (or_failed_before ended_before answer (10 ∷ rest)) small)
    (read_then _ _ answer (10 ∷ rest) _ (ended-read answer (10 ∷ rest) is) refl)) refl

pub wait-written : (text : List ℕ) (event : Event) (rest : List ℕ) → wait_at text ≡ Some (event, rest) → (pid : Pid) × (answer : Result Ended Fault) × (event ≡ Wait pid answer) × (number_before pid.number (or_failed_before ended_before answer rest) ≡ text)
unfolding wait_at
wait-written text event rest e =
    let one = read_both _ _ event rest e in
    let two = read_both _ _ event rest one.next_is in
    let parts = some_pair_parts (Wait one.a two.a) event two.mid rest two.next_is in
    (one.a, two.a, sym parts.0, ap (λ r. number_before one.a.number r) (ap (λ r. or_failed_before ended_before two.a r) (sym parts.1) ∙ ended-written one.mid two.a two.mid two.first_is) ∙ pid-written text one.a one.mid one.first_is)

-- ---- the other answers

pub given-read : (answer : Result Handle Fault) (rest : List ℕ) → IsGood IsHandle answer → given_at (or_failed_before given_before answer rest) ≡ Some (answer, rest)
unfolding given_at and_read IsGood IsHandle
given-read (Ok handle) rest is = read_then _ _ handle rest _ (handle-read handle rest is) refl
given-read (Err Failed) rest is = refl
given-read (Err NoMemory) rest is = absurd is

given-by : (letter : ℕ) (mid : List ℕ) (answer : Result Handle Fault) (rest : List ℕ) → given_by_letter letter mid ≡ Some (answer, rest) → or_failed_before given_before answer rest ≡ letter ∷ mid
given-by letter mid answer rest e = by (letter == 72) refl (letter == 102) refl e
  where
    by : (a : Bool) → (letter == 72) ≡ a → (f : Bool) → (letter == 102) ≡ f
        → (if a then and_read (handle_at mid) (λ handle rest. Some (Ok handle, rest)) else (if f then Some (Err Failed, mid) else None)) ≡ Some (answer, rest) → or_failed_before given_before answer rest ≡ letter ∷ mid
    by true is f is' e =
        let both = read_both _ _ answer rest e in
        let parts = some_pair_parts (Ok both.a) answer both.mid rest both.next_is in
        ap₂ (λ a r. or_failed_before given_before a r) (sym parts.0) (sym parts.1) ∙ ap₂ (λ l m. l ∷ m) (sym (is_byte letter 72 is)) (handle-written mid both.a both.mid both.first_is)
    by false is true is' e =
        let parts = some_pair_parts (Err Failed) answer mid rest e in
        ap₂ (λ a r. or_failed_before given_before a r) (sym parts.0) (sym parts.1) ∙ ap (λ l. l ∷ mid) (sym (is_byte letter 102 is'))
    by false is false is' e = absurd (cc)

pub given-written : (text : List ℕ) (answer : Result Handle Fault) (rest : List ℕ) → given_at text ≡ Some (answer, rest) → or_failed_before given_before answer rest ≡ text
unfolding given_at
given-written text answer rest e = let one = one_byte text given_by_letter answer rest e in given-by one.0 one.1 answer rest one.3 ∙ sym one.2

pub found-read : (test : List ℕ → Bool) (answer : Result (List ℕ) Fault) (rest : List ℕ) → IsGood (λ bytes. (length bytes < 2 ^ 64) × (test bytes ≡ true)) answer → found_at test (or_failed_before found_before answer rest) ≡ Some (answer, rest)
unfolding found_at and_read IsGood
found-read test (Ok bytes) rest is = read_then _ _ bytes rest _ (bytes-read bytes rest is.0) (rw is.1 refl)
found-read test (Err Failed) rest is = refl
found-read test (Err NoMemory) rest is = absurd is

found-by : (test : List ℕ → Bool) (letter : ℕ) (mid : List ℕ) (answer : Result (List ℕ) Fault) (rest : List ℕ) → found_by_letter test letter mid ≡ Some (answer, rest) → or_failed_before found_before answer rest ≡ letter ∷ mid
found-by test letter mid answer rest e = by (letter == 66) refl (letter == 102) refl e
  where
    by : (a : Bool) → (letter == 66) ≡ a → (f : Bool) → (letter == 102) ≡ f
        → (if a then and_read (bytes_of_front mid) (λ bytes rest. checked (test bytes) (Ok bytes) rest) else (if f then Some (Err Failed, mid) else None)) ≡ Some (answer, rest) → or_failed_before found_before answer rest ≡ letter ∷ mid
    by true is f is' e =
        let both = read_both _ _ answer rest e in
        let passed = was_checked (test both.a) (Ok both.a) both.mid answer rest both.next_is in
        ap₂ (λ a r. or_failed_before found_before a r) (sym passed.same) (sym passed.left) ∙ ap₂ (λ l m. l ∷ m) (sym (is_byte letter 66 is)) (bytes-written mid both.a both.mid both.first_is)
    by false is true is' e =
        let parts = some_pair_parts (Err Failed) answer mid rest e in
        ap₂ (λ a r. or_failed_before found_before a r) (sym parts.0) (sym parts.1) ∙ ap (λ l. l ∷ mid) (sym (is_byte letter 102 is'))
    by false is false is' e = absurd (cc)

pub found-written : (test : List ℕ → Bool) (text : List ℕ) (answer : Result (List ℕ) Fault) (rest : List ℕ) → found_at test text ≡ Some (answer, rest) → or_failed_before found_before answer rest ≡ text
unfolding found_at
found-written test text answer rest e = let one = one_byte text (found_by_letter test) answer rest e in found-by test one.0 one.1 answer rest one.3 ∙ sym one.2

-- ---- three more kinds of events

pub feed-written : (text : List ℕ) (event : Event) (rest : List ℕ) → feed_at text ≡ Some (event, rest) → (bytes : List ℕ) × (answer : Result Handle Fault) × (event ≡ Feed bytes answer) × (bytes_before bytes (or_failed_before given_before answer rest) ≡ text)
unfolding feed_at
feed-written text event rest e =
    let one = read_both _ _ event rest e in
    let two = read_both _ _ event rest one.next_is in
    let parts = some_pair_parts (Feed one.a two.a) event two.mid rest two.next_is in
    (one.a, two.a, sym parts.0, ap (λ r. bytes_before one.a r) (ap (λ r. or_failed_before given_before two.a r) (sym parts.1) ∙ given-written one.mid two.a two.mid two.first_is) ∙ bytes-written text one.a one.mid one.first_is)

pub close-written : (text : List ℕ) (event : Event) (rest : List ℕ) → close_at text ≡ Some (event, rest) → (handle : Handle) × (event ≡ Close handle) × (handle_before handle rest ≡ text)
unfolding close_at
close-written text event rest e =
    let one = read_both _ _ event rest e in
    let parts = some_pair_parts (Close one.a) event one.mid rest one.next_is in
    (one.a, sym parts.0, ap (λ r. handle_before one.a r) (sym parts.1) ∙ handle-written text one.a one.mid one.first_is)

pub read-written : (text : List ℕ) (event : Event) (rest : List ℕ) → read_at text ≡ Some (event, rest) → (handle : Handle) × (answer : Result (List ℕ) Fault) × (event ≡ Read handle answer) × (handle_before handle (or_failed_before found_before answer rest) ≡ text)
unfolding read_at
read-written text event rest e =
    let one = read_both _ _ event rest e in
    let two = read_both _ _ event rest one.next_is in
    let parts = some_pair_parts (Read one.a two.a) event two.mid rest two.next_is in
    (one.a, two.a, sym parts.0, ap (λ r. handle_before one.a r) (ap (λ r. or_failed_before found_before two.a r) (sym parts.1) ∙ found-written is_piece one.mid two.a two.mid two.first_is) ∙ handle-written text one.a one.mid one.first_is)

-- ---- by letters

-- the byte is this one, or it is read otherwise
pub if_byte : {A P : Type 0} (letter byte : ℕ) (here other : FrontRead A) (found : A × List ℕ) → (if letter == byte then here else other) ≡ Some found → (letter ≡ byte → here ≡ Some found → P) → (other ≡ Some found → P) → P
if_byte {A} {P} letter byte here other found e here_is other_is = by (letter == byte) refl e
  where
    by : (b : Bool) → (letter == byte) ≡ b → (if b then here else other) ≡ Some found → P
    by true is e = here_is (is_byte letter byte is) e
    by false is e = other_is e

pub none_is : {A P : Type 0} (found : A × List ℕ) → None ≡ Some found → P
none_is found e = absurd (cc)

mode-by : (letter : ℕ) (mid : List ℕ) (m : Mode) (rest : List ℕ) → mode_by letter mid ≡ Some (m, rest) → mode_letter m ∷ rest ≡ letter ∷ mid
mode-by letter mid m rest e =
    let found : Mode × List ℕ = (m, rest) in
    if_byte letter 114 _ _ found e (λ is e. one mode.Read 114 refl is e) (λ e.
    if_byte letter 119 _ _ found e (λ is e. one mode.Write 119 refl is e) (λ e.
    if_byte letter 117 _ _ found e (λ is e. one mode.Update 117 refl is e) (λ e.
    if_byte letter 97 _ _ found e (λ is e. one mode.Append 97 refl is e) (λ e.
    if_byte letter 99 _ _ found e (λ is e. one mode.AppendOld 99 refl is e) (λ e.
    if_byte letter 120 _ _ found e (λ is e. one mode.Create 120 refl is e) (λ e. none_is found e))))))
  where
    one : (n : Mode) (byte : ℕ) → mode_letter n ≡ byte → letter ≡ byte → ◌≡◌ {A = Option (Mode × List ℕ)} (Some (n, mid)) (Some (m, rest)) → mode_letter m ∷ rest ≡ letter ∷ mid
    one n byte of is e = let parts = some_pair_parts n m mid rest e in ap₂ (λ (m : Mode) r. mode_letter m ∷ r) (sym parts.0) (sym parts.1) ∙ ap (λ l. l ∷ mid) (of ∙ sym is)

pub mode-written : (text : List ℕ) (m : Mode) (rest : List ℕ) → mode_at text ≡ Some (m, rest) → mode_letter m ∷ rest ≡ text
unfolding mode_at
mode-written text m rest e = let one = one_byte text mode_by m rest e in mode-by one.0 one.1 m rest one.3 ∙ sym one.2

pub word-written : (text word rest : List ℕ) → word_at text ≡ Some (word, rest) → bytes_before word rest ≡ text
unfolding word_at
word-written text word rest e =
    let both = read_both _ _ word rest e in
    let passed = was_checked (is_word both.a) both.a both.mid word rest both.next_is in
    ap₂ bytes_before (sym passed.same) (sym passed.left) ∙ bytes-written text both.a both.mid both.first_is

pub piped-written : (text : List ℕ) (answer : Result PipeEnds Fault) (rest : List ℕ) → piped_at text ≡ Some (answer, rest) → or_failed_before pipe_before answer rest ≡ text
unfolding piped_at
piped-written text answer rest e =
    let found : Result PipeEnds Fault × List ℕ = (answer, rest) in
    let one = one_byte text piped_by_letter answer rest e in
    if_byte one.0 72 _ _ found one.3 (λ is e.
    let first = read_both _ _ answer rest e in
    let second = read_both _ _ answer rest first.next_is in
    let parts = some_pair_parts (Ok (record { reader = first.a; writer = second.a })) answer second.mid rest second.next_is in
    ap₂ (λ a r. or_failed_before pipe_before a r) (sym parts.0) (sym parts.1)
    ∙ ap₂ (λ l m. l ∷ m) (sym is) (ap (λ r. handle_before first.a r) (handle-written first.mid second.a second.mid second.first_is) ∙ handle-written one.1 first.a first.mid first.first_is)
    ∙ sym one.2) (λ e.
    if_byte one.0 102 _ _ found e (λ is e.
    let parts = some_pair_parts (Err Failed) answer one.1 rest e in
    ap₂ (λ a r. or_failed_before pipe_before a r) (sym parts.0) (sym parts.1) ∙ ap (λ l. l ∷ one.1) (sym is) ∙ sym one.2) (λ e. none_is found e))

pub done-written : (text : List ℕ) (answer : Result (Unit {0}) Fault) (rest : List ℕ) → done_at text ≡ Some (answer, rest) → or_failed_before done_before answer rest ≡ text
unfolding done_at
done-written text answer rest e =
    let found : Result (Unit {0}) Fault × List ℕ = (answer, rest) in
    let one = one_byte text done_by_letter answer rest e in
    if_byte one.0 107 _ _ found one.3 (λ is e.
    let parts = some_pair_parts (Ok tt) answer one.1 rest e in
    ap₂ (λ a r. or_failed_before done_before a r) (sym parts.0) (sym parts.1) ∙ ap (λ l. l ∷ one.1) (sym is) ∙ sym one.2) (λ e.
    if_byte one.0 102 _ _ found e (λ is e.
    let parts = some_pair_parts (Err Failed) answer one.1 rest e in
    ap₂ (λ a r. or_failed_before done_before a r) (sym parts.0) (sym parts.1) ∙ ap (λ l. l ∷ one.1) (sym is) ∙ sym one.2) (λ e. none_is found e))

-- ---- what is read of an event up to its newline is its text

wait-text : (mid : List ℕ) (event : Event) (rest : List ℕ) → wait_at mid ≡ Some (event, 10 ∷ rest) → event_before event rest ≡ 87 ∷ mid
wait-text mid event rest e = let w = wait-written mid event (10 ∷ rest) e in ap (λ e. event_before e rest) w.2 ∙ ap (λ t. 87 ∷ t) w.3

feed-text : (mid : List ℕ) (event : Event) (rest : List ℕ) → feed_at mid ≡ Some (event, 10 ∷ rest) → event_before event rest ≡ 70 ∷ mid
feed-text mid event rest e = let w = feed-written mid event (10 ∷ rest) e in ap (λ e. event_before e rest) w.2 ∙ ap (λ t. 70 ∷ t) w.3

close-text : (mid : List ℕ) (event : Event) (rest : List ℕ) → close_at mid ≡ Some (event, 10 ∷ rest) → event_before event rest ≡ 67 ∷ mid
close-text mid event rest e = let w = close-written mid event (10 ∷ rest) e in ap (λ e. event_before e rest) w.1 ∙ ap (λ t. 67 ∷ t) w.2

read-text : (mid : List ℕ) (event : Event) (rest : List ℕ) → read_at mid ≡ Some (event, 10 ∷ rest) → event_before event rest ≡ 82 ∷ mid
read-text mid event rest e = let w = read-written mid event (10 ∷ rest) e in ap (λ e. event_before e rest) w.2 ∙ ap (λ t. 82 ∷ t) w.3

pipe-text : (mid : List ℕ) (event : Event) (rest : List ℕ) → pipe_at mid ≡ Some (event, 10 ∷ rest) → event_before event rest ≡ 80 ∷ mid
unfolding pipe_at
pipe-text mid event rest e =
    let one = read_both _ _ event (10 ∷ rest) e in
    let parts = some_pair_parts (Pipe one.a) event one.mid (10 ∷ rest) one.next_is in
    ap (λ e. event_before e rest) (sym parts.0) ∙ ap (λ r. 80 ∷ or_failed_before pipe_before one.a r) (sym parts.1) ∙ ap (λ t. 80 ∷ t) (piped-written mid one.a one.mid one.first_is)

write-text : (mid : List ℕ) (event : Event) (rest : List ℕ) → write_at mid ≡ Some (event, 10 ∷ rest) → event_before event rest ≡ 84 ∷ mid
unfolding write_at
write-text mid event rest e =
    let one = read_both _ _ event (10 ∷ rest) e in
    let two = read_both _ _ event (10 ∷ rest) one.next_is in
    let three = read_both _ _ event (10 ∷ rest) two.next_is in
    let parts = some_pair_parts (Write one.a two.a three.a) event three.mid (10 ∷ rest) three.next_is in
    ap (λ e. event_before e rest) (sym parts.0)
    ∙ ap (λ r. 84 ∷ handle_before one.a (bytes_before two.a r)) (ap (λ r. or_failed_before done_before three.a r) (sym parts.1) ∙ done-written two.mid three.a three.mid three.first_is)
    ∙ ap (λ r. 84 ∷ handle_before one.a r) (bytes-written one.mid two.a two.mid two.first_is)
    ∙ ap (λ t. 84 ∷ t) (handle-written mid one.a one.mid one.first_is)

opened-text : (mid : List ℕ) (event : Event) (rest : List ℕ) → opened_at mid ≡ Some (event, 10 ∷ rest) → event_before event rest ≡ 79 ∷ mid
unfolding opened_at
opened-text mid event rest e =
    let one = read_both _ _ event (10 ∷ rest) e in
    let two = read_both _ _ event (10 ∷ rest) one.next_is in
    let three = read_both _ _ event (10 ∷ rest) two.next_is in
    let four = read_both _ _ event (10 ∷ rest) three.next_is in
    let parts = some_pair_parts (Opened one.a two.a three.a four.a) event four.mid (10 ∷ rest) four.next_is in
    ap (λ e. event_before e rest) (sym parts.0)
    ∙ ap (λ r. 79 ∷ bytes_before one.a (bytes_before two.a (mode_letter three.a ∷ r))) (ap (λ r. or_failed_before given_before four.a r) (sym parts.1) ∙ given-written three.mid four.a four.mid four.first_is)
    ∙ ap (λ r. 79 ∷ bytes_before one.a (bytes_before two.a r)) (mode-written two.mid three.a three.mid three.first_is)
    ∙ ap (λ r. 79 ∷ bytes_before one.a r) (word-written one.mid two.a two.mid two.first_is)
    ∙ ap (λ t. 79 ∷ t) (word-written mid one.a one.mid one.first_is)

enter-text : (mid : List ℕ) (event : Event) (rest : List ℕ) → enter_at mid ≡ Some (event, 10 ∷ rest) → event_before event rest ≡ 68 ∷ mid
unfolding enter_at
enter-text mid event rest e =
    let one = read_both _ _ event (10 ∷ rest) e in
    let two = read_both _ _ event (10 ∷ rest) one.next_is in
    let three = read_both _ _ event (10 ∷ rest) two.next_is in
    let parts = some_pair_parts (Enter one.a two.a three.a) event three.mid (10 ∷ rest) three.next_is in
    ap (λ e. event_before e rest) (sym parts.0)
    ∙ ap (λ r. 68 ∷ bytes_before one.a (bytes_before two.a r)) (ap (λ r. or_failed_before found_before three.a r) (sym parts.1) ∙ found-written is_word two.mid three.a three.mid three.first_is)
    ∙ ap (λ r. 68 ∷ bytes_before one.a r) (word-written one.mid two.a two.mid two.first_is)
    ∙ ap (λ t. 68 ∷ t) (word-written mid one.a one.mid one.first_is)

-- ---- a start

record Counted {A : Type 0} (before : List A → List ℕ → List ℕ) (count : ℕ) (text : List ℕ) (items : List A) (rest : List ℕ) : Type 0 where
  length_is : length items ≡ count
  text_is : before items rest ≡ text

length-one : {A : Type 0} (item : A) (items : List A) (count : ℕ) → length items ≡ count → length (item ∷ items) ≡ suc count
length-one item items count e = omega (arith, e)

each-written : (count : ℕ) (text : List ℕ) (words : List (List ℕ)) (rest : List ℕ) → each_at count text ≡ Some (words, rest) → Counted each_before count text words rest
each-written Prim.Native.Nat.zero text words rest e =
    let parts = some_pair_parts [] words text rest e in
    record { length_is = ap length (sym parts.0); text_is = ap₂ each_before (sym parts.0) (sym parts.1) }
each-written (suc count) text words rest e =
    let one = read_both _ _ words rest e in
    let two = read_both _ _ words rest one.next_is in
    let parts = some_pair_parts (one.a ∷ two.a) words two.mid rest two.next_is in
    let later = each-written count one.mid two.a two.mid two.first_is in
    record {
      length_is = ap length (sym parts.0) ∙ length-one one.a two.a count later.length_is;
      text_is = ap₂ each_before (sym parts.0) (sym parts.1) ∙ ap (λ r. bytes_before one.a r) later.text_is ∙ word-written text one.a one.mid one.first_is;
    }

pairs-written : (count : ℕ) (text : List ℕ) (pairs : List (List ℕ × List ℕ)) (rest : List ℕ) → pairs_at count text ≡ Some (pairs, rest) → Counted pairs_before count text pairs rest
pairs-written Prim.Native.Nat.zero text pairs rest e =
    let parts = some_pair_parts [] pairs text rest e in
    record { length_is = ap length (sym parts.0); text_is = ap₂ pairs_before (sym parts.0) (sym parts.1) }
pairs-written (suc count) text pairs rest e =
    let one = read_both _ _ pairs rest e in
    let two = read_both _ _ pairs rest one.next_is in
    let three = read_both _ _ pairs rest two.next_is in
    let parts = some_pair_parts ((one.a, two.a) ∷ three.a) pairs three.mid rest three.next_is in
    let later = pairs-written count two.mid three.a three.mid three.first_is in
    record {
      length_is = ap length (sym parts.0) ∙ length-one (one.a, two.a) three.a count later.length_is;
      text_is = ap₂ pairs_before (sym parts.0) (sym parts.1) ∙ ap (λ r. bytes_before one.a (bytes_before two.a r)) later.text_is ∙ ap (λ r. bytes_before one.a r) (word-written one.mid two.a two.mid two.first_is) ∙ word-written text one.a one.mid one.first_is;
    }

words-written : (text : List ℕ) (words : List (List ℕ)) (rest : List ℕ) → words_at text ≡ Some (words, rest) → words_before words rest ≡ text
unfolding words_at
words-written text words rest e =
    let one = read_both _ _ words rest e in
    let two = read_both _ _ words rest one.next_is in
    let passed = was_checked (nat_lt 0 (length two.a)) two.a two.mid words rest two.next_is in
    let all = each-written one.a one.mid two.a two.mid two.first_is in
    ap₂ words_before (sym passed.same) (sym passed.left) ∙ ap₂ number_before all.length_is all.text_is ∙ number-written text one.a one.mid one.first_is

env-written : (text : List ℕ) (env : Vars) (rest : List ℕ) → env_at text ≡ Some (env, rest) → env_before env rest ≡ text
unfolding env_at
env-written text env rest e =
    let one = read_both _ _ env rest e in
    let two = read_both _ _ env rest one.next_is in
    let passed = was_checked (are_variables two.a) (map.from_sorted two.a) two.mid env rest two.next_is in
    let sorted : T (map.is_sorted (slice_cmp nat_cmp) two.a) = subst T (sym (left_of (map.is_sorted (slice_cmp nat_cmp) two.a) _ passed.passes)) tt in
    let same : map.entries env ≡ two.a = ap map.entries (sym passed.same) ∙ map.entries-from_sorted (slice_cmp nat_cmp) two.a sorted in
    let all = pairs-written one.a one.mid two.a two.mid two.first_is in
    ap₂ (λ es r. number_before (length es) (pairs_before es r)) same (sym passed.left) ∙ ap₂ number_before all.length_is all.text_is ∙ number-written text one.a one.mid one.first_is

end-written : (text : List ℕ) (end : Option Handle) (rest : List ℕ) → end_at text ≡ Some (end, rest) → end_before end rest ≡ text
end-written [] end rest e = absurd (cc)
end-written (byte ∷ mid) end rest e =
    let found : Option Handle × List ℕ = (end, rest) in
    if_byte byte 45 _ _ found e (λ is e.
    let parts = some_pair_parts None end mid rest e in
    ap₂ end_before (sym parts.0) (sym parts.1) ∙ ap (λ b. b ∷ mid) (sym is)) (λ e.
    let one = read_both _ _ end rest e in
    let parts = some_pair_parts (Some one.a) end one.mid rest one.next_is in
    ap₂ end_before (sym parts.0) (sym parts.1) ∙ handle-written (byte ∷ mid) one.a one.mid one.first_is)

started-written : (text : List ℕ) (answer : Result Pid StartFault) (rest : List ℕ) → started_at text ≡ Some (answer, rest) → start_answer_before answer rest ≡ text
unfolding started_at
started-written text answer rest e =
    let letter = one_byte text started_by_letter answer rest e in
    let found : Result Pid StartFault × List ℕ = (answer, rest) in
    if_byte letter.0 80 _ _ found letter.3 (λ is e.
    let one = read_both _ _ answer rest e in
    let parts = some_pair_parts (Ok one.a) answer one.mid rest one.next_is in
    ap₂ start_answer_before (sym parts.0) (sym parts.1) ∙ ap₂ (λ l m. l ∷ m) (sym is) (pid-written letter.1 one.a one.mid one.first_is) ∙ sym letter.2) (λ e.
    if_byte letter.0 110 _ _ found e (λ is e. let parts = some_pair_parts (Err NotFound) answer letter.1 rest e in ap₂ start_answer_before (sym parts.0) (sym parts.1) ∙ ap (λ l. l ∷ letter.1) (sym is) ∙ sym letter.2) (λ e.
    if_byte letter.0 120 _ _ found e (λ is e. let parts = some_pair_parts (Err NotStartable) answer letter.1 rest e in ap₂ start_answer_before (sym parts.0) (sym parts.1) ∙ ap (λ l. l ∷ letter.1) (sym is) ∙ sym letter.2) (λ e.
    if_byte letter.0 102 _ _ found e (λ is e. let parts = some_pair_parts (Err StartFailed) answer letter.1 rest e in ap₂ start_answer_before (sym parts.0) (sym parts.1) ∙ ap (λ l. l ∷ letter.1) (sym is) ∙ sym letter.2) (λ e. none_is found e))))

start-text : (mid : List ℕ) (event : Event) (rest : List ℕ) → start_at mid ≡ Some (event, 10 ∷ rest) → event_before event rest ≡ 83 ∷ mid
unfolding start_at
start-text mid event rest e =
    let words = read_both _ _ event (10 ∷ rest) e in
    let env = read_both _ _ event (10 ∷ rest) words.next_is in
    let dir = read_both _ _ event (10 ∷ rest) env.next_is in
    let input = read_both _ _ event (10 ∷ rest) dir.next_is in
    let output = read_both _ _ event (10 ∷ rest) input.next_is in
    let error = read_both _ _ event (10 ∷ rest) output.next_is in
    let answer = read_both _ _ event (10 ∷ rest) error.next_is in
    let parts = some_pair_parts (Start words.a env.a dir.a (input.a ∷ output.a ∷ error.a ∷ []) answer.a) event answer.mid (10 ∷ rest) answer.next_is in
    ap (λ e. event_before e rest) (sym parts.0)
    ∙ ap (λ r. 83 ∷ words_before words.a (env_before env.a (bytes_before dir.a (end_before input.a (end_before output.a (end_before error.a r)))))) (ap (λ r. start_answer_before answer.a r) (sym parts.1) ∙ started-written error.mid answer.a answer.mid answer.first_is)
    ∙ ap (λ r. 83 ∷ words_before words.a (env_before env.a (bytes_before dir.a (end_before input.a (end_before output.a r))))) (end-written output.mid error.a error.mid error.first_is)
    ∙ ap (λ r. 83 ∷ words_before words.a (env_before env.a (bytes_before dir.a (end_before input.a r)))) (end-written input.mid output.a output.mid output.first_is)
    ∙ ap (λ r. 83 ∷ words_before words.a (env_before env.a (bytes_before dir.a r))) (end-written dir.mid input.a input.mid input.first_is)
    ∙ ap (λ r. 83 ∷ words_before words.a (env_before env.a r)) (word-written env.mid dir.a dir.mid dir.first_is)
    ∙ ap (λ r. 83 ∷ words_before words.a r) (env-written words.mid env.a env.mid env.first_is)
    ∙ ap (λ t. 83 ∷ t) (words-written mid words.a words.mid words.first_is)

by_letter : (letter : ℕ) (mid : List ℕ) (event : Event) (rest : List ℕ) → event_by letter mid ≡ Some (event, 10 ∷ rest) → event_before event rest ≡ letter ∷ mid
by_letter letter mid event rest e =
    if_byte letter 83 _ _ found e (λ is e. at 83 is (start-text mid event rest e)) (λ e.
    if_byte letter 87 _ _ found e (λ is e. at 87 is (wait-text mid event rest e)) (λ e.
    if_byte letter 79 _ _ found e (λ is e. at 79 is (opened-text mid event rest e)) (λ e.
    if_byte letter 80 _ _ found e (λ is e. at 80 is (pipe-text mid event rest e)) (λ e.
    if_byte letter 70 _ _ found e (λ is e. at 70 is (feed-text mid event rest e)) (λ e.
    if_byte letter 82 _ _ found e (λ is e. at 82 is (read-text mid event rest e)) (λ e.
    if_byte letter 84 _ _ found e (λ is e. at 84 is (write-text mid event rest e)) (λ e.
    if_byte letter 67 _ _ found e (λ is e. at 67 is (close-text mid event rest e)) (λ e.
    if_byte letter 68 _ _ found e (λ is e. at 68 is (enter-text mid event rest e)) (λ e. none_is found e)))))))))
  where
    found : Event × List ℕ
    found = (event, 10 ∷ rest)

    at : (byte : ℕ) → letter ≡ byte → event_before event rest ≡ byte ∷ mid → event_before event rest ≡ letter ∷ mid
    at byte is text = text ∙ ap (λ l. l ∷ mid) (sym is)

-- what is read as an event is its text
pub event-written : (text : List ℕ) (event : Event) (rest : List ℕ) → event_at text ≡ Some (event, rest) → event_before event rest ≡ text
unfolding event_at line_end
event-written text event rest e =
    let letter = one_byte text _ event rest e in
    let body = read_both _ _ event rest letter.3 in
    let newline = one_byte body.mid _ event rest body.next_is in
    let passed = was_checked (newline.0 == 10) body.a newline.1 event rest newline.3 in
    let behind : body.mid ≡ 10 ∷ rest = newline.2 ∙ ap₂ (λ b r. b ∷ r) (is_byte newline.0 10 passed.passes) passed.left in
    by_letter letter.0 letter.1 event rest (body.first_is ∙ ap₂ (λ e r. Some (e, r)) passed.same behind) ∙ sym letter.2

-- ---- and what is written is read

pub word-read : (word rest : List ℕ) → IsWordText word → word_at (bytes_before word rest) ≡ Some (word, rest)
unfolding word_at
word-read word rest is = read_then _ _ word rest _ (bytes-read word rest is.0) (rw is.1 refl)

pub mode-read : (m : Mode) (rest : List ℕ) → mode_at (mode_letter m ∷ rest) ≡ Some (m, rest)
unfolding mode_at and_read
mode-read mode.Read rest = refl
mode-read mode.Write rest = refl
mode-read mode.Update rest = refl
mode-read mode.Append rest = refl
mode-read mode.AppendOld rest = refl
mode-read mode.Create rest = refl

pub piped-read : (answer : Result PipeEnds Fault) (rest : List ℕ) → IsGood (λ (ends : PipeEnds). (ends.reader.number < 2 ^ 64) × (ends.writer.number < 2 ^ 64)) answer → piped_at (or_failed_before pipe_before answer rest) ≡ Some (answer, rest)
unfolding piped_at and_read IsGood
piped-read (Ok ends) rest is = read_then _ _ ends.reader (handle_before ends.writer rest) _ (handle-read ends.reader (handle_before ends.writer rest) is.0) (read_then _ _ ends.writer rest _ (handle-read ends.writer rest is.1) refl)
piped-read (Err Failed) rest is = refl
piped-read (Err NoMemory) rest is = absurd is

pub done-read : (answer : Result (Unit {0}) Fault) (rest : List ℕ) → IsGood (λ done. Unit {0}) answer → done_at (or_failed_before done_before answer rest) ≡ Some (answer, rest)
unfolding done_at and_read IsGood
done-read (Ok done) rest is = refl
done-read (Err Failed) rest is = refl
done-read (Err NoMemory) rest is = absurd is

-- ---- a start is read

each-read : (words : List (List ℕ)) (rest : List ℕ) → AreWordTexts words → each_at (length words) (each_before words rest) ≡ Some (words, rest)
unfolding AreWordTexts
each-read [] rest are = refl
each-read (word ∷ words) rest are = read_then _ _ word (each_before words rest) _ (word-read word (each_before words rest) are.0) (read_then _ _ words rest _ (each-read words rest are.1) refl)

pairs-read : (pairs : List (List ℕ × List ℕ)) (rest : List ℕ) → ArePairTexts pairs → pairs_at (length pairs) (pairs_before pairs rest) ≡ Some (pairs, rest)
unfolding ArePairTexts
pairs-read [] rest are = refl
pairs-read (pair ∷ pairs) rest are =
    read_then _ _ pair.0 (bytes_before pair.1 (pairs_before pairs rest)) _ (word-read pair.0 (bytes_before pair.1 (pairs_before pairs rest)) are.0)
    (read_then _ _ pair.1 (pairs_before pairs rest) _ (word-read pair.1 (pairs_before pairs rest) are.1) (read_then _ _ pairs rest _ (pairs-read pairs rest are.2) refl))

words-read : (words : List (List ℕ)) (rest : List ℕ) → 0 < length words → length words < 2 ^ 64 → AreWordTexts words → words_at (words_before words rest) ≡ Some (words, rest)
unfolding words_at
words-read words rest some small are =
    read_then _ _ (length words) (each_before words rest) _ (number-read (length words) (each_before words rest) small)
    (read_then _ _ words rest _ (each-read words rest are) (rw (lt-ltb 0 (length words) some) refl))

is_true : (b : Bool) → T b → b ≡ true
is_true true t = refl
is_true false t = absurd t

env-read : (env : Vars) (rest : List ℕ) → length (map.entries env) < 2 ^ 64 → ArePairTexts (map.entries env) → list_all (λ (pair : List ℕ × List ℕ). is_good_name pair.0) (map.entries env) ≡ true → env_at (env_before env rest) ≡ Some (env, rest)
unfolding env_at
env-read env rest small are good =
    let pairs = map.entries env in
    let same : map.from_sorted (map.entries env) ≡ env = map.same_entries_map (map.from_sorted (map.entries env)) env (map.entries-from_sorted (slice_cmp nat_cmp) (map.entries env) (map.entries_sorted env)) in
    let passes : are_variables (map.entries env) ≡ true = and_from (map.is_sorted (slice_cmp nat_cmp) (map.entries env)) _ (is_true _ (map.entries_sorted env)) good in
    read_then _ _ (length pairs) (pairs_before pairs rest) _ (number-read (length pairs) (pairs_before pairs rest) small)
    (read_then _ _ pairs rest _ (pairs-read pairs rest are) (rw passes (ap (λ (e : Vars). Some (e, rest)) same)))

no_number : (rest : List ℕ) → number_of_front (45 ∷ rest) ≡ None
unfolding number_of_front
no_number rest = ap (λ ds. cut_semicolon (length_of ds) (drop (length ds) (45 ∷ rest))) (take_while-cons is_ascii_digit 45 rest)

end-of-number : (text : List ℕ) (n : ℕ) (rest : List ℕ) → number_of_front text ≡ Some (n, rest) → end_at text ≡ Some (Some (record { number = n }), rest)
unfolding number_of_front handle_at
end-of-number [] n rest e = absurd (cc)
end-of-number (byte ∷ mid) n rest e = by (byte == 45) refl
  where
    by : (b : Bool) → (byte == 45) ≡ b → (if b then Some (None, mid) else and_read (handle_at (byte ∷ mid)) (λ handle rest. Some (Some handle, rest))) ≡ Some (Some (record { number = n }), rest)
    by true is = let none : number_of_front (byte ∷ mid) ≡ None = ap (λ b. number_of_front (b ∷ mid)) (is_byte byte 45 is) ∙ no_number mid in none_is_some _ (sym none ∙ e)
    by false is = read_then _ _ (record { number = n }) rest _ (read_then _ _ n rest _ e refl) refl

end-read : (end : Option Handle) (rest : List ℕ) → IsEnd end → end_at (end_before end rest) ≡ Some (end, rest)
unfolding IsEnd
end-read None rest is = refl
end-read (Some handle) rest is = end-of-number (handle_before handle rest) handle.number rest (number-read handle.number rest is)

started-read : (answer : Result Pid StartFault) (rest : List ℕ) → IsStarted answer → started_at (start_answer_before answer rest) ≡ Some (answer, rest)
unfolding started_at and_read IsStarted
started-read (Ok pid) rest is = read_then _ _ pid rest _ (pid-read pid rest is) refl
started-read (Err NotFound) rest is = refl
started-read (Err NotStartable) rest is = refl
started-read (Err StartFailed) rest is = refl
started-read (Err NoStartMemory) rest is = absurd is

start-read : (words : List (List ℕ)) (env : Vars) (dir : List ℕ) (ends : List (Option Handle)) (answer : Result Pid StartFault) (rest : List ℕ) → IsStart words env dir ends answer
    → start_at (words_before words (env_before env (bytes_before dir (ends_before ends (start_answer_before answer rest))))) ≡ Some (Start words env dir ends answer, rest)
unfolding start_at
start-read words env dir ends answer rest is =
    let tail = start_answer_before answer rest in
    let three = end_before is.error tail in
    let two = end_before is.output three in
    let one = end_before is.input two in
    ap (λ es. start_at (words_before words (env_before env (bytes_before dir (ends_before es tail))))) is.ends_are
    ∙ read_then _ _ words (env_before env (bytes_before dir one)) _ (words-read words (env_before env (bytes_before dir one)) is.some is.few is.words_are)
    (read_then _ _ env (bytes_before dir one) _ (env-read env (bytes_before dir one) is.few_variables is.variables_are is.names_are)
    (read_then _ _ dir one _ (word-read dir one is.dir_is)
    (read_then _ _ is.input two _ (end-read is.input two is.each_is.0)
    (read_then _ _ is.output three _ (end-read is.output three is.each_is.1)
    (read_then _ _ is.error tail _ (end-read is.error tail is.each_is.2)
    (read_then _ _ answer rest _ (started-read answer rest is.answer_is) (ap (λ es. Some (Start words env dir es answer, rest)) (sym is.ends_are))))))))

line-read : (event : Event) (rest : List ℕ) → line_end event (10 ∷ rest) ≡ Some (event, rest)
unfolding line_end and_read
line-read event rest = refl

opened-read : (dir path : List ℕ) (m : Mode) (answer : Result Handle Fault) (rest : List ℕ) → IsWordText dir → IsWordText path → IsGood IsHandle answer
    → opened_at (bytes_before dir (bytes_before path (mode_letter m ∷ or_failed_before given_before answer rest))) ≡ Some (Opened dir path m answer, rest)
unfolding opened_at
opened-read dir path m answer rest d p is =
    let tail = or_failed_before given_before answer rest in
    read_then _ _ dir (bytes_before path (mode_letter m ∷ tail)) _ (word-read dir (bytes_before path (mode_letter m ∷ tail)) d)
    (read_then _ _ path (mode_letter m ∷ tail) _ (word-read path (mode_letter m ∷ tail) p)
    (read_then _ _ m tail _ (mode-read m tail) (read_then _ _ answer rest _ (given-read answer rest is) refl)))

-- an event's text is read as that event
pub event-read : (event : Event) (rest : List ℕ) → IsRecordable event → event_at (event_before event rest) ≡ Some (event, rest)
unfolding event_at IsRecordable and_read wait_at pipe_at feed_at read_at write_at close_at enter_at
event-read (Start words env dir ends answer) rest is = read_then _ _ (Start words env dir ends answer) (10 ∷ rest) _ (start-read words env dir ends answer (10 ∷ rest) is) (line-read (Start words env dir ends answer) rest)
event-read (Wait pid answer) rest is = wait-read pid answer rest is.0 is.1
event-read (Opened dir path m answer) rest is = read_then _ _ (Opened dir path m answer) (10 ∷ rest) _ (opened-read dir path m answer (10 ∷ rest) is.0 is.1 is.2) (line-read (Opened dir path m answer) rest)
event-read (Pipe answer) rest is = read_then _ _ (Pipe answer) (10 ∷ rest) _ (read_then _ _ answer (10 ∷ rest) _ (piped-read answer (10 ∷ rest) is) refl) (line-read (Pipe answer) rest)
event-read (Feed bytes answer) rest is =
    let tail = or_failed_before given_before answer (10 ∷ rest) in
    read_then _ _ (Feed bytes answer) (10 ∷ rest) _ (read_then _ _ bytes tail _ (bytes-read bytes tail is.0) (read_then _ _ answer (10 ∷ rest) _ (given-read answer (10 ∷ rest) is.1) refl)) (line-read (Feed bytes answer) rest)
event-read (Read handle answer) rest is =
    let tail = or_failed_before found_before answer (10 ∷ rest) in
    read_then _ _ (Read handle answer) (10 ∷ rest) _ (read_then _ _ handle tail _ (handle-read handle tail is.0) (read_then _ _ answer (10 ∷ rest) _ (found-read is_piece answer (10 ∷ rest) is.1) refl)) (line-read (Read handle answer) rest)
event-read (Write handle bytes answer) rest is =
    let tail = or_failed_before done_before answer (10 ∷ rest) in
    read_then _ _ (Write handle bytes answer) (10 ∷ rest) _ (read_then _ _ handle (bytes_before bytes tail) _ (handle-read handle (bytes_before bytes tail) is.0)
    (read_then _ _ bytes tail _ (bytes-read bytes tail is.1) (read_then _ _ answer (10 ∷ rest) _ (done-read answer (10 ∷ rest) is.2) refl))) (line-read (Write handle bytes answer) rest)
event-read (Close handle) rest is = read_then _ _ (Close handle) (10 ∷ rest) _ (read_then _ _ handle (10 ∷ rest) _ (handle-read handle (10 ∷ rest) is) refl) (line-read (Close handle) rest)
event-read (Enter dir path answer) rest is =
    let tail = or_failed_before found_before answer (10 ∷ rest) in
    read_then _ _ (Enter dir path answer) (10 ∷ rest) _ (read_then _ _ dir (bytes_before path tail) _ (word-read dir (bytes_before path tail) is.0)
    (read_then _ _ path tail _ (word-read path tail is.1) (read_then _ _ answer (10 ∷ rest) _ (found-read is_word answer (10 ∷ rest) is.2) refl))) (line-read (Enter dir path answer) rest)
