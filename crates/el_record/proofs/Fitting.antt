-- A text can hold what is recorded.
use Rattle.std.proofs.Common.{◌≡◌, ℕ, suc, ◌+◌, ◌<◌, ◌≤◌, ◌^◌, ◌==◌, Bool, true, false, true≢false, ◌||◌, not, cond, is_some, List, [], ◌∷◌, ◌++◌, length, drop, slice_index_or, sum_by, All, map as mapped, Option, Some, None, Result, Ok, Err, OnOk, refl, sym, ap, subst, ◌∙◌, arith}
use Rattle.std.specs.List.{list_any, list_all}
use Rattle.std.specs.FinMap as map
use Rattle.std.specs.Ordering.{nat_cmp, eq_by_cmp}
use Rattle.std.specs.Cmp.Lexicographic.{slice_cmp, bytes_decides, texts_ties}
use Rattle.std.proofs.lemmas.Bool.{and_from}
use Rattle.std.proofs.lemmas.List.{length-map}
use Rattle.std.proofs.lemmas.List.Elements.{All-head, All-tail}
use Rattle.std.proofs.lemmas.List.Sums.{sum_by-cons}
use Rattle.el_words.specs.Word.{HasNul}
use Rattle.el_env.specs.Vars.{Vars}
use Rattle.el_env.specs.Name.{is_good_name, NamesAreGood}
use Rattle.el_env.specs.Inherited.{value_in}
use Rattle.el_env.specs.Variable.{pair_of}
use Rattle.el_env.specs.declared.env.variable.Variable.{Variable}
use Rattle.el_env.proofs.Lent.{next_lent, none_next}
use Rattle.el_world.specs.declared.event.Event.{Event}
use Rattle.el_world.specs.declared.event.Event.TheVariants.{Start, Close}
use Rattle.el_world.specs.declared.event.Handle.{Handle}
use Rattle.el_world.specs.declared.event.Pid.{Pid}
use Rattle.el_world.specs.declared.event.Ended.{Ended}
use Rattle.el_world.specs.declared.event.Ended.TheVariants.{Exited, Killed}
use Rattle.el_world.specs.declared.event.Fault.{Fault}
use Rattle.el_world.specs.declared.event.Fault.TheVariants.{Failed, NoMemory}
use Rattle.el_world.specs.declared.event.StartFault.{StartFault}
use Rattle.el_world.specs.declared.event.StartFault.TheVariants.{NotFound, NotStartable, Failed as StartFailed, NoMemory as NoStartMemory}
use Rattle.el_world.specs.World.{is_wait_status}
use Rattle.el_world.specs.Lawful.{is_answer, is_start_answer}
use Rattle.el_record.specs.Recordable.{IsEnd, IsWordText, AreWordTexts, ArePairTexts, IsStarted, IsEnded, IsGood, IsRecordable, AreRecordable}
use Rattle.el_record.specs.Fits.{AreVariables, AreThreeEnds, HasByte, HasStartParts}
use Rattle.el_record.specs.TraceReading.{is_word}

-- ---- events

pub recordable-append : (one two : List Event) → AreRecordable one → AreRecordable two → AreRecordable (one ++ two)
unfolding AreRecordable
recordable-append [] two is is_too = is_too
recordable-append (event ∷ one) two is is_too = (is.0, recordable-append one two is.1 is_too)

pub close_fits : (handle : Handle) → handle.number < 2 ^ 64 → AreRecordable (Close handle ∷ [])
unfolding AreRecordable IsRecordable
close_fits handle small = (small, tt)

pub told_fits : (told : Bool) (event : Event) → told ≡ true → IsRecordable event → AreRecordable (cond told (event ∷ []) [])
unfolding AreRecordable
told_fits told event is fits = subst (λ told. AreRecordable (cond told (event ∷ []) [])) (sym is) (fits, tt)

pub untold_fits : (told : Bool) (event : Event) → told ≡ false → AreRecordable (cond told (event ∷ []) [])
unfolding AreRecordable
untold_fits told event is = subst (λ told. AreRecordable (cond told (event ∷ []) [])) (sym is) tt

-- ---- words

nul_from : (bytes : List ℕ) → list_any (λ byte. byte == 0) bytes ≡ true → HasNul bytes
nul_from [] found = absurd (true≢false (sym found))
nul_from (b ∷ bs) found = by (b == 0) refl (nul_from bs)
  where
    by : (t : Bool) → (b == 0) ≡ t → (list_any (λ byte. byte == 0) bs ≡ true → HasNul bs) → HasNul (b ∷ bs)
    by true is later = let same : b ≡ 0 = grind (arith, is) in (0, omega arith, same)
    by false other later =
        let rest = later (sym (ap (λ t. t || list_any (λ byte. byte == 0) bs) other) ∙ found) in
        (suc rest.0, omega (arith, rest.1), rest.2)

pub word_text : (bytes : List ℕ) → length bytes < 2 ^ 64 → (HasNul bytes → ⊥) → IsWordText bytes
word_text bytes small none = (small, by (list_any (λ byte. byte == 0) bytes) refl)
  where
    by : (b : Bool) → list_any (λ byte. byte == 0) bytes ≡ b → is_word bytes ≡ true
    by true is = absurd (none (nul_from bytes is))
    by false is = ap not is

pub word_texts : (words : List (List ℕ)) → sum_by length words < 2 ^ 63 → All (λ word. HasNul word → ⊥) words → AreWordTexts words
unfolding AreWordTexts
word_texts [] few none = tt
word_texts (word ∷ words) few none =
    let all = sum_by-cons length word words in
    (word_text word (omega (arith, few, all)) (All-head (λ word. HasNul word → ⊥) word words none), word_texts words (omega (arith, few, all)) (All-tail (λ word. HasNul word → ⊥) word words none))

-- ---- variables

-- names that are good where they are found are good
good_names : (pairs : List (List ℕ × List ℕ)) → ((name : List ℕ) → is_some (value_in name pairs) ≡ true → is_good_name name ≡ true) → list_all (λ (pair : List ℕ × List ℕ). is_good_name pair.0) pairs ≡ true
good_names [] good = refl
good_names (pair ∷ pairs) good = and_from (is_good_name pair.0) (list_all (λ (pair : List ℕ × List ℕ). is_good_name pair.0) pairs) (good pair.0 first) (good_names pairs (λ name set. good name (later name set)))
  where
    first : is_some (value_in pair.0 (pair ∷ pairs)) ≡ true
    first = ap (λ b. is_some (cond b (Some pair.1) (value_in pair.0 pairs))) (sym (texts_ties pair.0 pair.0) ∙ (bytes_decides pair.0 pair.0).1 refl)

    later : (name : List ℕ) → is_some (value_in name pairs) ≡ true → is_some (value_in name (pair ∷ pairs)) ≡ true
    later name set = by (eq_by_cmp (slice_cmp nat_cmp) name pair.0)
      where
        by : (b : Bool) → is_some (cond b (Some pair.1) (value_in name pairs)) ≡ true
        by true = refl
        by false = set

pub names_fit : (vars : Vars) → NamesAreGood vars → list_all (λ (pair : List ℕ × List ℕ). is_good_name pair.0) (map.entries vars) ≡ true
names_fit vars good = good_names (map.entries vars) (λ name set. (good name (ap is_some (map.get-entries vars name) ∙ set)).good)

-- the first of those that are left can be written too
pub variable_before : (items : List Variable) (index : ℕ) (variable : Variable) → index < length items → variable ≡ slice_index_or items index variable → IsWordText variable.name.now → IsWordText variable.value.now
    → ArePairTexts (mapped pair_of (drop (index + 1) items)) → ArePairTexts (mapped pair_of (drop index items))
unfolding ArePairTexts
variable_before items index variable below is name value texts = subst ArePairTexts (sym (next_lent items index variable below is)) (name, value, texts)

pub none_left : (items : List Variable) (index : ℕ) → length items ≤ index → ArePairTexts (mapped pair_of (drop index items))
unfolding ArePairTexts
none_left items index le = subst ArePairTexts (sym (none_next items index le)) tt

pub variables_fit : (vars : Vars) (items seen : List Variable) → seen ≡ items → mapped pair_of items ≡ map.entries vars → length seen < 2 ^ 64 → ArePairTexts (map.entries vars) → NamesAreGood vars → AreVariables vars
variables_fit vars items seen same all few texts good =
    record { few = omega (arith, few, ap length same, ap length all, length-map items pair_of); texts = texts; names = names_fit vars good }

pub on_ok : {A E : Type 0} (P : Type 0) (result : Result A E) → P → OnOk result P
on_ok P (Ok value) holds = holds
on_ok P (Err error) holds = tt

-- ---- ends

pub end_fits : (end : Option Handle) (handle : Handle) → end ≡ Some handle → handle.number < 2 ^ 64 → IsEnd end
unfolding IsEnd
end_fits end handle is small = subst IsEnd (sym is) small

pub no_end_fits : (end : Option Handle) → end ≡ None → IsEnd end
unfolding IsEnd
no_end_fits end is = subst IsEnd (sym is) tt

pub three_ends : (ends : List (Option Handle)) → length ends ≡ 3 → IsEnd (slice_index_or ends 0 None) → IsEnd (slice_index_or ends 1 None) → IsEnd (slice_index_or ends 2 None) → AreThreeEnds ends
three_ends [] three one two last = absurd (omega (arith, three))
three_ends (input ∷ []) three one two last = absurd (omega (arith, three))
three_ends (input ∷ output ∷ []) three one two last = absurd (omega (arith, three))
three_ends (input ∷ output ∷ error ∷ []) three one two last = record { input = input; output = output; error = error; ends_are = refl; each_is = (one, two, last) }
three_ends (input ∷ output ∷ error ∷ more ∷ ends) three one two last = absurd (omega (arith, three))

-- ---- answers

module _ {T : Type 0} (fits : T → Type 0) (answer : Result T Fault) where
  pub ok_fits : (value : T) → answer ≡ Ok value → fits value → IsGood fits answer
  unfolding IsGood
  ok_fits value is fit = subst (IsGood fits) (sym is) fit

  pub err_fits : (test : T → Bool) (fault : Fault) → answer ≡ Err fault → is_answer test answer ≡ true → IsGood fits answer
  unfolding IsGood
  err_fits test fault is lawful = subst (IsGood fits) (sym is) (by fault (subst (λ (a : Result T Fault). is_answer test a ≡ true) is lawful))
    where
      by : (fault : Fault) → is_answer test (Err fault) ≡ true → IsGood fits (Err fault)
      by Failed lawful = tt
      by NoMemory isnt = absurd (true≢false (sym isnt))

-- the value passes the test
pub passed : {T : Type 0} (answer : Result T Fault) (test : T → Bool) (value : T) → answer ≡ Ok value → is_answer test answer ≡ true → test value ≡ true
passed {T} answer test value is lawful = subst (λ (a : Result T Fault). is_answer test a ≡ true) is lawful

pub written_fits : (answer : Result (Unit {0}) Fault) → is_answer (λ done. true) answer ≡ true → IsGood (λ done. Unit {0}) answer
unfolding IsGood
written_fits (Ok done) lawful = tt
written_fits (Err Failed) lawful = tt
written_fits (Err NoMemory) isnt = absurd (true≢false (sym isnt))

pub started_fits : (answer : Result Pid StartFault) (pid : Pid) → answer ≡ Ok pid → pid.number < 2 ^ 32 → IsStarted answer
unfolding IsStarted
started_fits answer pid is small = subst IsStarted (sym is) small

pub not_started_fits : (answer : Result Pid StartFault) (fault : StartFault) → answer ≡ Err fault → is_start_answer answer ≡ true → IsStarted answer
unfolding IsStarted
not_started_fits answer fault is lawful = subst IsStarted (sym is) (by fault (subst (λ (a : Result Pid StartFault). is_start_answer a ≡ true) is lawful))
  where
    by : (fault : StartFault) → is_start_answer (Err fault) ≡ true → IsStarted (Err fault)
    by NotFound lawful = tt
    by NotStartable lawful = tt
    by StartFailed lawful = tt
    by NoStartMemory isnt = absurd (true≢false (sym isnt))

pub ended_fits : (answer : Result Ended Fault) (ended : Ended) → answer ≡ Ok ended → HasByte ended → is_answer is_wait_status answer ≡ true → IsEnded answer
unfolding IsEnded
ended_fits answer ended is byte lawful = subst IsEnded (sym is) (by ended byte (subst (λ (a : Result Ended Fault). is_answer is_wait_status a ≡ true) is lawful))
  where
    by : (ended : Ended) → HasByte ended → is_wait_status ended ≡ true → IsEnded (Ok ended)
    by (Exited code) byte lawful = byte
    by (Killed signal) byte lawful = (byte, lawful)

pub not_ended_fits : (answer : Result Ended Fault) (fault : Fault) → answer ≡ Err fault → is_answer is_wait_status answer ≡ true → IsEnded answer
unfolding IsEnded
not_ended_fits answer fault is lawful = subst IsEnded (sym is) (by fault (subst (λ (a : Result Ended Fault). is_answer is_wait_status a ≡ true) is lawful))
  where
    by : (fault : Fault) → is_answer is_wait_status (Err fault) ≡ true → IsEnded (Err fault)
    by Failed lawful = tt
    by NoMemory isnt = absurd (true≢false (sym isnt))

-- ---- a start

pub start_fits : (words : List (List ℕ)) (env : Vars) (dir : List ℕ) (ends : List (Option Handle)) (answer : Result Pid StartFault) → HasStartParts (Start words env dir ends answer)
    → length words < 2 ^ 64 → AreWordTexts words → IsWordText dir → AreThreeEnds ends → IsStarted answer → IsRecordable (Start words env dir ends answer)
unfolding IsRecordable
start_fits words env dir ends answer parts few texts dir_is three answer_is = record {
  some = parts.0;
  few = few;
  words_are = texts;
  few_variables = parts.1.few;
  variables_are = parts.1.texts;
  names_are = parts.1.names;
  dir_is = dir_is;
  input = three.input;
  output = three.output;
  error = three.error;
  ends_are = three.ends_are;
  each_is = three.each_is;
  answer_is = answer_is;
}
