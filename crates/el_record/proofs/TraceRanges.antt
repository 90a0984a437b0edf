-- What is read is in its range.
use Rattle.std.proofs.Common.{◌≡◌, ℕ, ◌<◌, ◌^◌, ◌==◌, Bool, true, false, nat_lt, if◌then◌else◌, List, [], ◌∷◌, length, take, drop, Option, Some, None, Result, Ok, Err, refl, sym, ap, subst, ◌∙◌, arith, length-take}
use Rattle.std.specs.Prelude.{suc, T}
use Rattle.std.specs.List.{list_all, take_while}
use Rattle.std.specs.Char.{is_ascii_digit}
use Rattle.std.specs.FinMap as map
use Rattle.std.specs.Cmp.Lexicographic.{slice_cmp}
use Rattle.std.specs.Ordering.{nat_cmp}
use Rattle.std.proofs.lemmas.Bool.{ltb-true, and_parts}
use Rattle.std.proofs.lemmas.Option.{some_pair_parts}
use Rattle.el_words.specs.Number.{are_digits, decimal_value, within_limit, number_of}
use Rattle.el_env.specs.Vars.{Vars}
use Rattle.el_env.specs.Name.{is_good_name}
use Rattle.el_transform.specs.Computed.{length_of, cut_comma, cut_word}
use Rattle.el_world.specs.declared.event.Event.{Event}
use Rattle.el_world.specs.declared.event.Event.TheVariants.{Start, Wait, Opened, Pipe, Feed, Read, Write, Close, Enter}
use Rattle.el_world.specs.declared.event.Handle.{Handle}
use Rattle.el_world.specs.declared.event.Pid.{Pid}
use Rattle.el_world.specs.declared.event.PipeEnds.{PipeEnds}
use Rattle.el_world.specs.declared.event.Ended.{Ended}
use Rattle.el_world.specs.declared.event.Ended.TheVariants.{Exited, Killed}
use Rattle.el_world.specs.declared.event.Fault.{Fault}
use Rattle.el_world.specs.declared.event.Fault.TheVariants.{Failed}
use Rattle.el_world.specs.declared.event.StartFault.{StartFault}
use Rattle.el_world.specs.declared.event.StartFault.TheVariants.{NotFound, NotStartable, Failed as StartFailed}
use Rattle.el_world.specs.World.{is_wait_status}
use Rattle.el_world.specs.Lawful.{is_piece}
use Rattle.el_record.specs.Reading.{cut_semicolon, number_of_front, bytes_of_front}
use Rattle.el_record.specs.Recordable.{IsHandle, IsWordText, AreWordTexts, ArePairTexts, IsEnd, IsStarted, IsEnded, IsGood, IsStart, IsRecordable}
use Rattle.el_record.specs.TraceReading.{number_below, handle_at, pid_at, ended_by, ended_at, given_by_letter, given_at, found_by_letter, found_at, is_word, word_at, piped_by_letter, piped_at, done_by_letter, done_at, each_at, pairs_at, words_at, are_variables, env_at, end_at, started_by_letter, started_at, start_at, read_at, pipe_at, write_at, opened_at, enter_at, line_end, wait_at, feed_at, close_at, event_by, event_at}
use Rattle.el_record.proofs.FieldLaws.{read_both}
use Rattle.el_record.proofs.TraceLaws.{was_checked, one_byte, if_byte, none_is, below-written}

-- ---- numbers and bytes

within : (m n : ℕ) → within_limit m ≡ Some n → n < 2 ^ 64
within m n e = by (nat_lt m (2 ^ 64)) refl e
  where
    by : (b : Bool) → nat_lt m (2 ^ 64) ≡ b → (if b then Some m else None) ≡ Some n → n < 2 ^ 64
    by true small e = let same : m ≡ n = cc in subst (λ k. k < 2 ^ 64) same (ltb-true m (2 ^ 64) small)
    by false large e = absurd (cc)

number_small : (digits : List ℕ) (n : ℕ) → number_of digits ≡ Some n → n < 2 ^ 64
number_small [] n e = absurd (cc)
number_small (digit ∷ digits) n e = by (are_digits (digit ∷ digits)) e
  where
    by : (b : Bool) → (if b then within_limit (decimal_value 0 (digit ∷ digits)) else None) ≡ Some n → n < 2 ^ 64
    by true e = within (decimal_value 0 (digit ∷ digits)) n e
    by false e = absurd (cc)

length_small : (digits : List ℕ) (n : ℕ) → length_of digits ≡ Some n → n < 2 ^ 64
length_small [] n e = absurd (cc)
length_small (digit ∷ []) n e = number_small (digit ∷ []) n e
length_small (digit ∷ next ∷ digits) n e = by (digit == 48) e
  where
    by : (b : Bool) → (if b then None else number_of (digit ∷ next ∷ digits)) ≡ Some n → n < 2 ^ 64
    by true e = absurd (cc)
    by false e = number_small (digit ∷ next ∷ digits) n e

cut_small : (number : Option ℕ) (bytes : List ℕ) (n : ℕ) (rest : List ℕ) → ((m : ℕ) → number ≡ Some m → m < 2 ^ 64) → cut_semicolon number bytes ≡ Some (n, rest) → n < 2 ^ 64
cut_small None bytes n rest small e = absurd (cc)
cut_small (Some m) [] n rest small e = absurd (cc)
cut_small (Some m) (byte ∷ bytes) n rest small e = by (byte == 59) e
  where
    by : (b : Bool) → if◌then◌else◌ {A = Option (ℕ × List ℕ)} b (Some (m, bytes)) None ≡ Some (n, rest) → n < 2 ^ 64
    by true e = subst (λ k. k < 2 ^ 64) (some_pair_parts m n bytes rest e).0 (small m refl)
    by false e = absurd (cc)

front_small : (text : List ℕ) (n : ℕ) (rest : List ℕ) → number_of_front text ≡ Some (n, rest) → n < 2 ^ 64
unfolding number_of_front
front_small text n rest e =
    let digits = take_while is_ascii_digit text in
    cut_small (length_of digits) (drop (length digits) text) n rest (length_small digits) e

comma_is : (front back word rest : List ℕ) → cut_comma front back ≡ Some (word, rest) → front ≡ word
comma_is front [] word rest e = absurd (cc)
comma_is front (byte ∷ back) word rest e = by (byte == 44) e
  where
    by : (b : Bool) → if◌then◌else◌ {A = Option (List ℕ × List ℕ)} b (Some (front, back)) None ≡ Some (word, rest) → front ≡ word
    by true e = (some_pair_parts front word back rest e).0
    by false e = absurd (cc)

word_small : (count : Option ℕ) (bytes word rest : List ℕ) → ((m : ℕ) → count ≡ Some m → m < 2 ^ 64) → cut_word count bytes ≡ Some (word, rest) → length word < 2 ^ 64
word_small None bytes word rest small e = absurd (cc)
word_small (Some m) [] word rest small e = absurd (cc)
word_small (Some m) (byte ∷ bytes) word rest small e = by (byte == 58) e
  where
    by : (b : Bool) → (if b then cut_comma (take m bytes) (drop m bytes) else None) ≡ Some (word, rest) → length word < 2 ^ 64
    by true e =
        let same : length (take m bytes) ≡ length word = ap length (comma_is (take m bytes) (drop m bytes) word rest e) in
        let few : m < 2 ^ 64 = small m refl in
        omega (arith, same, few, length-take m bytes)
    by false e = absurd (cc)

bytes_small : (text bytes rest : List ℕ) → bytes_of_front text ≡ Some (bytes, rest) → length bytes < 2 ^ 64
unfolding bytes_of_front
bytes_small text bytes rest e =
    let digits = take_while is_ascii_digit text in
    word_small (length_of digits) (drop (length digits) text) bytes rest (length_small digits) e

pub below_small : (limit : ℕ) (text : List ℕ) (n : ℕ) (rest : List ℕ) → number_below limit text ≡ Some (n, rest) → n < limit
below_small limit text n rest e = ltb-true n limit (below-written limit text n rest e).small

-- ---- parts

handle_fits : (text : List ℕ) (handle : Handle) (rest : List ℕ) → handle_at text ≡ Some (handle, rest) → handle.number < 2 ^ 64
unfolding handle_at
handle_fits text handle rest e =
    let one = read_both _ _ handle rest e in
    subst (λ (h : Handle). h.number < 2 ^ 64) (some_pair_parts (record { number = one.a }) handle one.mid rest one.next_is).0 (front_small text one.a one.mid one.first_is)

pid_fits : (text : List ℕ) (pid : Pid) (rest : List ℕ) → pid_at text ≡ Some (pid, rest) → pid.number < 2 ^ 32
unfolding pid_at
pid_fits text pid rest e =
    let one = read_both _ _ pid rest e in
    subst (λ (p : Pid). p.number < 2 ^ 32) (some_pair_parts (record { number = one.a }) pid one.mid rest one.next_is).0 (below_small (2 ^ 32) text one.a one.mid one.first_is)

word_fits : (text word rest : List ℕ) → word_at text ≡ Some (word, rest) → IsWordText word
unfolding word_at
word_fits text word rest e =
    let one = read_both _ _ word rest e in
    let passed = was_checked (is_word one.a) one.a one.mid word rest one.next_is in
    subst IsWordText passed.same (bytes_small text one.a one.mid one.first_is, passed.passes)

record EachFits (count : ℕ) (words : List (List ℕ)) : Type 0 where
  fits : AreWordTexts words
  counted : length words ≡ count

each_fits : (count : ℕ) (text : List ℕ) (words : List (List ℕ)) (rest : List ℕ) → each_at count text ≡ Some (words, rest) → EachFits count words
unfolding AreWordTexts
each_fits Prim.Native.Nat.zero text words rest e = subst (EachFits 0) (some_pair_parts [] words text rest e).0 (record { fits = tt; counted = refl })
each_fits (suc count) text words rest e =
    let one = read_both _ _ words rest e in
    let two = read_both _ _ words rest one.next_is in
    let later = each_fits count one.mid two.a two.mid two.first_is in
    subst (EachFits (suc count)) (some_pair_parts (one.a ∷ two.a) words two.mid rest two.next_is).0
    (record { fits = (word_fits text one.a one.mid one.first_is, later.fits); counted = ap suc later.counted })

record PairsFit (count : ℕ) (pairs : List (List ℕ × List ℕ)) : Type 0 where
  fit : ArePairTexts pairs
  counted : length pairs ≡ count

pairs_fit : (count : ℕ) (text : List ℕ) (pairs : List (List ℕ × List ℕ)) (rest : List ℕ) → pairs_at count text ≡ Some (pairs, rest) → PairsFit count pairs
unfolding ArePairTexts
pairs_fit Prim.Native.Nat.zero text pairs rest e = subst (PairsFit 0) (some_pair_parts [] pairs text rest e).0 (record { fit = tt; counted = refl })
pairs_fit (suc count) text pairs rest e =
    let one = read_both _ _ pairs rest e in
    let two = read_both _ _ pairs rest one.next_is in
    let three = read_both _ _ pairs rest two.next_is in
    let later = pairs_fit count two.mid three.a three.mid three.first_is in
    subst (PairsFit (suc count)) (some_pair_parts ((one.a, two.a) ∷ three.a) pairs three.mid rest three.next_is).0
    (record { fit = (word_fits text one.a one.mid one.first_is, word_fits one.mid two.a two.mid two.first_is, later.fit); counted = ap suc later.counted })

record WordsFit (words : List (List ℕ)) : Type 0 where
  some : 0 < length words
  few : length words < 2 ^ 64
  fit : AreWordTexts words

words_fit : (text : List ℕ) (words : List (List ℕ)) (rest : List ℕ) → words_at text ≡ Some (words, rest) → WordsFit words
unfolding words_at
words_fit text words rest e =
    let one = read_both _ _ words rest e in
    let two = read_both _ _ words rest one.next_is in
    let passed = was_checked (nat_lt 0 (length two.a)) two.a two.mid words rest two.next_is in
    let all = each_fits one.a one.mid two.a two.mid two.first_is in
    subst WordsFit passed.same
    (record { some = ltb-true 0 (length two.a) passed.passes; few = subst (λ n. n < 2 ^ 64) (sym all.counted) (front_small text one.a one.mid one.first_is); fit = all.fits })

record EnvFits (env : Vars) : Type 0 where
  few : length (map.entries env) < 2 ^ 64
  fit : ArePairTexts (map.entries env)
  good : list_all (λ (pair : List ℕ × List ℕ). is_good_name pair.0) (map.entries env) ≡ true

is_so : (b : Bool) → b ≡ true → T b
is_so true e = tt
is_so false e = absurd (cc)

env_fits : (text : List ℕ) (env : Vars) (rest : List ℕ) → env_at text ≡ Some (env, rest) → EnvFits env
unfolding env_at
env_fits text env rest e =
    let one = read_both _ _ env rest e in
    let two = read_both _ _ env rest one.next_is in
    let passed = was_checked (are_variables two.a) (map.from_sorted two.a) two.mid env rest two.next_is in
    let parts = and_parts (map.is_sorted (slice_cmp nat_cmp) two.a) _ passed.passes in
    let same : two.a ≡ map.entries env = sym (ap map.entries (sym passed.same) ∙ map.entries-from_sorted (slice_cmp nat_cmp) two.a (is_so _ parts.0)) in
    let all = pairs_fit one.a one.mid two.a two.mid two.first_is in
    record {
      few = subst (λ n. n < 2 ^ 64) (sym all.counted ∙ ap length same) (front_small text one.a one.mid one.first_is);
      fit = subst ArePairTexts same all.fit;
      good = subst (λ pairs. list_all (λ (pair : List ℕ × List ℕ). is_good_name pair.0) pairs ≡ true) same parts.1;
    }

end_fits : (text : List ℕ) (end : Option Handle) (rest : List ℕ) → end_at text ≡ Some (end, rest) → IsEnd end
unfolding IsEnd
end_fits [] end rest e = absurd (cc)
end_fits (byte ∷ mid) end rest e =
    let found : Option Handle × List ℕ = (end, rest) in
    if_byte byte 45 _ _ found e (λ is e. subst IsEnd (some_pair_parts None end mid rest e).0 tt) (λ e.
    let one = read_both _ _ end rest e in
    subst IsEnd (some_pair_parts (Some one.a) end one.mid rest one.next_is).0 (handle_fits (byte ∷ mid) one.a one.mid one.first_is))

-- ---- answers

started_fits : (text : List ℕ) (answer : Result Pid StartFault) (rest : List ℕ) → started_at text ≡ Some (answer, rest) → IsStarted answer
unfolding started_at IsStarted
started_fits text answer rest e =
    let letter = one_byte text started_by_letter answer rest e in
    let found : Result Pid StartFault × List ℕ = (answer, rest) in
    if_byte letter.0 80 _ _ found letter.3 (λ is e.
    let one = read_both _ _ answer rest e in
    subst IsStarted (some_pair_parts (Ok one.a) answer one.mid rest one.next_is).0 (pid_fits letter.1 one.a one.mid one.first_is)) (λ e.
    if_byte letter.0 110 _ _ found e (λ is e. subst IsStarted (some_pair_parts (Err NotFound) answer letter.1 rest e).0 tt) (λ e.
    if_byte letter.0 120 _ _ found e (λ is e. subst IsStarted (some_pair_parts (Err NotStartable) answer letter.1 rest e).0 tt) (λ e.
    if_byte letter.0 102 _ _ found e (λ is e. subst IsStarted (some_pair_parts (Err StartFailed) answer letter.1 rest e).0 tt) (λ e. none_is found e))))

ended_fits : (text : List ℕ) (answer : Result Ended Fault) (rest : List ℕ) → ended_at text ≡ Some (answer, rest) → IsEnded answer
unfolding ended_at IsEnded
ended_fits text answer rest e =
    let letter = one_byte text ended_by answer rest e in
    let found : Result Ended Fault × List ℕ = (answer, rest) in
    if_byte letter.0 69 _ _ found letter.3 (λ is e.
    let one = read_both _ _ answer rest e in
    subst IsEnded (some_pair_parts (Ok (Exited one.a)) answer one.mid rest one.next_is).0 (below_small 256 letter.1 one.a one.mid one.first_is)) (λ e.
    if_byte letter.0 75 _ _ found e (λ is e.
    let one = read_both _ _ answer rest e in
    let passed = was_checked (is_wait_status (Killed one.a)) (Ok (Killed one.a)) one.mid answer rest one.next_is in
    subst IsEnded passed.same (below_small 256 letter.1 one.a one.mid one.first_is, passed.passes)) (λ e.
    if_byte letter.0 102 _ _ found e (λ is e. subst IsEnded (some_pair_parts (Err Failed) answer letter.1 rest e).0 tt) (λ e. none_is found e)))

given_fits : (text : List ℕ) (answer : Result Handle Fault) (rest : List ℕ) → given_at text ≡ Some (answer, rest) → IsGood IsHandle answer
unfolding given_at IsGood IsHandle
given_fits text answer rest e =
    let letter = one_byte text given_by_letter answer rest e in
    let found : Result Handle Fault × List ℕ = (answer, rest) in
    if_byte letter.0 72 _ _ found letter.3 (λ is e.
    let one = read_both _ _ answer rest e in
    subst (IsGood IsHandle) (some_pair_parts (Ok one.a) answer one.mid rest one.next_is).0 (handle_fits letter.1 one.a one.mid one.first_is)) (λ e.
    if_byte letter.0 102 _ _ found e (λ is e. subst (IsGood IsHandle) (some_pair_parts (Err Failed) answer letter.1 rest e).0 tt) (λ e. none_is found e))

abbrev ArePipeEnds : PipeEnds → Type 0
ArePipeEnds ends = (ends.reader.number < 2 ^ 64) × (ends.writer.number < 2 ^ 64)

piped_fits : (text : List ℕ) (answer : Result PipeEnds Fault) (rest : List ℕ) → piped_at text ≡ Some (answer, rest) → IsGood ArePipeEnds answer
unfolding piped_at IsGood
piped_fits text answer rest e =
    let letter = one_byte text piped_by_letter answer rest e in
    let found : Result PipeEnds Fault × List ℕ = (answer, rest) in
    if_byte letter.0 72 _ _ found letter.3 (λ is e.
    let one = read_both _ _ answer rest e in
    let two = read_both _ _ answer rest one.next_is in
    subst (IsGood ArePipeEnds) (some_pair_parts (Ok (record { reader = one.a; writer = two.a })) answer two.mid rest two.next_is).0
    (handle_fits letter.1 one.a one.mid one.first_is, handle_fits one.mid two.a two.mid two.first_is)) (λ e.
    if_byte letter.0 102 _ _ found e (λ is e. subst (IsGood ArePipeEnds) (some_pair_parts (Err Failed) answer letter.1 rest e).0 tt) (λ e. none_is found e))

abbrev Passes : (List ℕ → Bool) → List ℕ → Type 0
Passes test bytes = (length bytes < 2 ^ 64) × (test bytes ≡ true)

found_fits : (test : List ℕ → Bool) (text : List ℕ) (answer : Result (List ℕ) Fault) (rest : List ℕ) → found_at test text ≡ Some (answer, rest) → IsGood (Passes test) answer
unfolding found_at IsGood
found_fits test text answer rest e =
    let letter = one_byte text (found_by_letter test) answer rest e in
    let found : Result (List ℕ) Fault × List ℕ = (answer, rest) in
    if_byte letter.0 66 _ _ found letter.3 (λ is e.
    let one = read_both _ _ answer rest e in
    let passed = was_checked (test one.a) (Ok one.a) one.mid answer rest one.next_is in
    subst (IsGood (Passes test)) passed.same (bytes_small letter.1 one.a one.mid one.first_is, passed.passes)) (λ e.
    if_byte letter.0 102 _ _ found e (λ is e. subst (IsGood (Passes test)) (some_pair_parts (Err Failed) answer letter.1 rest e).0 tt) (λ e. none_is found e))

done_fits : (text : List ℕ) (answer : Result (Unit {0}) Fault) (rest : List ℕ) → done_at text ≡ Some (answer, rest) → IsGood (λ done. Unit {0}) answer
unfolding done_at IsGood
done_fits text answer rest e =
    let letter = one_byte text done_by_letter answer rest e in
    let found : Result (Unit {0}) Fault × List ℕ = (answer, rest) in
    if_byte letter.0 107 _ _ found letter.3 (λ is e. subst (IsGood (λ done. Unit {0})) (some_pair_parts (Ok tt) answer letter.1 rest e).0 tt) (λ e.
    if_byte letter.0 102 _ _ found e (λ is e. subst (IsGood (λ done. Unit {0})) (some_pair_parts (Err Failed) answer letter.1 rest e).0 tt) (λ e. none_is found e))

-- ---- events

start_fits : (text : List ℕ) (event : Event) (rest : List ℕ) → start_at text ≡ Some (event, rest) → IsRecordable event
unfolding start_at IsRecordable
start_fits text event rest e =
    let words = read_both _ _ event rest e in
    let env = read_both _ _ event rest words.next_is in
    let dir = read_both _ _ event rest env.next_is in
    let input = read_both _ _ event rest dir.next_is in
    let output = read_both _ _ event rest input.next_is in
    let error = read_both _ _ event rest output.next_is in
    let answer = read_both _ _ event rest error.next_is in
    let parts = some_pair_parts (Start words.a env.a dir.a (input.a ∷ output.a ∷ error.a ∷ []) answer.a) event answer.mid rest answer.next_is in
    let ws = words_fit text words.a words.mid words.first_is in
    let vars = env_fits words.mid env.a env.mid env.first_is in
    let is : IsStart words.a env.a dir.a (input.a ∷ output.a ∷ error.a ∷ []) answer.a = record {
      some = ws.some;
      few = ws.few;
      words_are = ws.fit;
      few_variables = vars.few;
      variables_are = vars.fit;
      names_are = vars.good;
      dir_is = word_fits env.mid dir.a dir.mid dir.first_is;
      input = input.a;
      output = output.a;
      error = error.a;
      ends_are = refl;
      each_is = (end_fits dir.mid input.a input.mid input.first_is, end_fits input.mid output.a output.mid output.first_is, end_fits output.mid error.a error.mid error.first_is);
      answer_is = started_fits error.mid answer.a answer.mid answer.first_is;
    } in
    subst IsRecordable parts.0 is

wait_fits : (text : List ℕ) (event : Event) (rest : List ℕ) → wait_at text ≡ Some (event, rest) → IsRecordable event
unfolding wait_at IsRecordable
wait_fits text event rest e =
    let pid = read_both _ _ event rest e in
    let answer = read_both _ _ event rest pid.next_is in
    subst IsRecordable (some_pair_parts (Wait pid.a answer.a) event answer.mid rest answer.next_is).0
    (pid_fits text pid.a pid.mid pid.first_is, ended_fits pid.mid answer.a answer.mid answer.first_is)

opened_fits : (text : List ℕ) (event : Event) (rest : List ℕ) → opened_at text ≡ Some (event, rest) → IsRecordable event
unfolding opened_at IsRecordable
opened_fits text event rest e =
    let dir = read_both _ _ event rest e in
    let path = read_both _ _ event rest dir.next_is in
    let how = read_both _ _ event rest path.next_is in
    let answer = read_both _ _ event rest how.next_is in
    subst IsRecordable (some_pair_parts (Opened dir.a path.a how.a answer.a) event answer.mid rest answer.next_is).0
    (word_fits text dir.a dir.mid dir.first_is, word_fits dir.mid path.a path.mid path.first_is, given_fits how.mid answer.a answer.mid answer.first_is)

pipe_fits : (text : List ℕ) (event : Event) (rest : List ℕ) → pipe_at text ≡ Some (event, rest) → IsRecordable event
unfolding pipe_at IsRecordable
pipe_fits text event rest e =
    let answer = read_both _ _ event rest e in
    subst IsRecordable (some_pair_parts (Pipe answer.a) event answer.mid rest answer.next_is).0 (piped_fits text answer.a answer.mid answer.first_is)

feed_fits : (text : List ℕ) (event : Event) (rest : List ℕ) → feed_at text ≡ Some (event, rest) → IsRecordable event
unfolding feed_at IsRecordable
feed_fits text event rest e =
    let fed = read_both _ _ event rest e in
    let answer = read_both _ _ event rest fed.next_is in
    subst IsRecordable (some_pair_parts (Feed fed.a answer.a) event answer.mid rest answer.next_is).0
    (bytes_small text fed.a fed.mid fed.first_is, given_fits fed.mid answer.a answer.mid answer.first_is)

read_fits : (text : List ℕ) (event : Event) (rest : List ℕ) → read_at text ≡ Some (event, rest) → IsRecordable event
unfolding read_at IsRecordable
read_fits text event rest e =
    let handle = read_both _ _ event rest e in
    let answer = read_both _ _ event rest handle.next_is in
    subst IsRecordable (some_pair_parts (Read handle.a answer.a) event answer.mid rest answer.next_is).0
    (handle_fits text handle.a handle.mid handle.first_is, found_fits is_piece handle.mid answer.a answer.mid answer.first_is)

write_fits : (text : List ℕ) (event : Event) (rest : List ℕ) → write_at text ≡ Some (event, rest) → IsRecordable event
unfolding write_at IsRecordable
write_fits text event rest e =
    let handle = read_both _ _ event rest e in
    let written = read_both _ _ event rest handle.next_is in
    let answer = read_both _ _ event rest written.next_is in
    subst IsRecordable (some_pair_parts (Write handle.a written.a answer.a) event answer.mid rest answer.next_is).0
    (handle_fits text handle.a handle.mid handle.first_is, bytes_small handle.mid written.a written.mid written.first_is, done_fits written.mid answer.a answer.mid answer.first_is)

close_fits : (text : List ℕ) (event : Event) (rest : List ℕ) → close_at text ≡ Some (event, rest) → IsRecordable event
unfolding close_at IsRecordable
close_fits text event rest e =
    let handle = read_both _ _ event rest e in
    subst IsRecordable (some_pair_parts (Close handle.a) event handle.mid rest handle.next_is).0 (handle_fits text handle.a handle.mid handle.first_is)

enter_fits : (text : List ℕ) (event : Event) (rest : List ℕ) → enter_at text ≡ Some (event, rest) → IsRecordable event
unfolding enter_at IsRecordable
enter_fits text event rest e =
    let dir = read_both _ _ event rest e in
    let path = read_both _ _ event rest dir.next_is in
    let answer = read_both _ _ event rest path.next_is in
    subst IsRecordable (some_pair_parts (Enter dir.a path.a answer.a) event answer.mid rest answer.next_is).0
    (word_fits text dir.a dir.mid dir.first_is, word_fits dir.mid path.a path.mid path.first_is, found_fits is_word path.mid answer.a answer.mid answer.first_is)

letter_fits : (letter : ℕ) (mid : List ℕ) (event : Event) (rest : List ℕ) → event_by letter mid ≡ Some (event, rest) → IsRecordable event
letter_fits letter mid event rest e =
    let found : Event × List ℕ = (event, rest) in
    if_byte letter 83 _ _ found e (λ is e. start_fits mid event rest e) (λ e.
    if_byte letter 87 _ _ found e (λ is e. wait_fits mid event rest e) (λ e.
    if_byte letter 79 _ _ found e (λ is e. opened_fits mid event rest e) (λ e.
    if_byte letter 80 _ _ found e (λ is e. pipe_fits mid event rest e) (λ e.
    if_byte letter 70 _ _ found e (λ is e. feed_fits mid event rest e) (λ e.
    if_byte letter 82 _ _ found e (λ is e. read_fits mid event rest e) (λ e.
    if_byte letter 84 _ _ found e (λ is e. write_fits mid event rest e) (λ e.
    if_byte letter 67 _ _ found e (λ is e. close_fits mid event rest e) (λ e.
    if_byte letter 68 _ _ found e (λ is e. enter_fits mid event rest e) (λ e. none_is found e)))))))))

-- what is read as an event can be recorded
pub event_fits : (text : List ℕ) (event : Event) (rest : List ℕ) → event_at text ≡ Some (event, rest) → IsRecordable event
unfolding event_at line_end
event_fits text event rest e =
    let letter = one_byte text _ event rest e in
    let body = read_both _ _ event rest letter.3 in
    let newline = one_byte body.mid _ event rest body.next_is in
    let passed = was_checked (newline.0 == 10) body.a newline.1 event rest newline.3 in
    subst IsRecordable passed.same (letter_fits letter.0 letter.1 body.a body.mid body.first_is)
