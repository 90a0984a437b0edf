-- What the lines of a sample come to, one after the other.
use Rattle.el_room.proofs.Vocabulary.{decimal, list_any, and_parts, sum_by-cons, Prog, Foreground, Pipeline, If, Args, nothing, word, spelled, are_digits, name_text, program_named, Vars, shape_of, Pairs, is_good_key, Scope, scope_value, Event, Pid, takes, ended, and_then, State, End, Task, then-assoc, Left, index_of, Way}
use Rattle.el_script.proofs.Vocabulary.{Tree, Command, Node, Places, unplaced, one_place, block_place, is_literal, scope_nil, scope_literal, literal_value}
use Rattle.el_machine.proofs.Vocabulary.{substituting, substitute_alone, last_command, effect}
use Rattle.std.proofs.Common.{◌≡◌, ℕ, zero, suc, ◌+◌, ◌-◌, ◌%◌, ◌^◌, ◌<◌, ◌≤◌, ◌==◌, ◌||◌, not, nat_le, Bool, true, false, cond, if◌then◌else◌, List, [], ◌∷◌, ◌++◌, count_by, refl, sym, ap, ◌∙◌, subst, codes, arith}
use Rattle.el_world.specs.States as end
use Rattle.el_check.specs.Operands.{tree_words}
use Rattle.el_meaning.specs.Operands.{read_in}
use Rattle.el_meaning.specs.Meaning.{commanded, going_on, meaning, block_meaning}
use Rattle.el_app.specs.declared.tallies.Numbers.{Numbers}
use Rattle.el_app.specs.Played.{Played, behind_event, behind_unit, played}
use Rattle.el_app.specs.Tallies.{is_start, is_wait, is_pipe, is_close}
use Rattle.el_app.specs.SampleTrees.{line_tree, lines_tree}
use Rattle.el_app.proofs.SampleTexts.{decimal-digits, of_four}
use Rattle.el_app.proofs.SampleTrees.{define_tree, foreground_tree, pipeline_tree, if_tree, numbered-literal}
use Rattle.el_app.proofs.SampleEffects.{standing, more_process, more_ends, pid_of, start_event, wait_event, pipe_event, block_event, close_event, told_status, told_kid, foreground-played, if-played, pipeline-played, pipeline-closed, wait_alone, command-played, command-closed}

-- ---- what a run comes to

-- so many units, events of each kind, and the end with status 0
pub record Comes (run : Played End ⊥) (units starts waits pipes closes : ℕ) : Type 0 where
  pub units_are : run.units ≡ units
  pub starts_are : count_by is_start run.events ≡ starts
  pub waits_are : count_by is_wait run.events ≡ waits
  pub pipes_are : count_by is_pipe run.events ≡ pipes
  pub closes_are : count_by is_close run.events ≡ closes
  pub ends_so : (state : State) × (run.outcome ≡ ended (end.Status 0 state))

counted : (p : Event → Bool) (event : Event) (events : List Event) (more : ℕ) → p event ≡ true → count_by p events ≡ more → count_by p (event ∷ events) ≡ more + 1
counted p event events more this is =
    let all : count_by p (event ∷ events) ≡ cond (p event) 1 0 + count_by p events = sum_by-cons (λ x. cond (p x) 1 0) event events in
    let one : ◌≡◌ {A = ℕ} (cond (p event) 1 0) 1 = ap (λ b. cond b 1 0) this in
    omega (arith, all, one, is)

passed : (p : Event → Bool) (event : Event) (events : List Event) (more : ℕ) → p event ≡ false → count_by p events ≡ more → count_by p (event ∷ events) ≡ more
passed p event events more other is =
    let all : count_by p (event ∷ events) ≡ cond (p event) 1 0 + count_by p events = sum_by-cons (λ x. cond (p x) 1 0) event events in
    let none : ◌≡◌ {A = ℕ} (cond (p event) 1 0) 0 = ap (λ b. cond b 1 0) other in
    omega (arith, all, none, is)

module _ {run : Played End ⊥} {units starts waits pipes closes : ℕ} (h : Comes run units starts waits pipes closes) where
  unit-more : Comes (behind_unit run) (units + 1) starts waits pipes closes
  unit-more = record { units_are = ap (λ n. n + 1) h.units_are; starts_are = h.starts_are; waits_are = h.waits_are; pipes_are = h.pipes_are; closes_are = h.closes_are; ends_so = h.ends_so }

  start-more : (event : Event) → is_start event ≡ true → is_wait event ≡ false → is_pipe event ≡ false → is_close event ≡ false → Comes (behind_event event run) units (starts + 1) waits pipes closes
  start-more event start wait pipe close = record {
    units_are = h.units_are;
    starts_are = counted is_start event run.events starts start h.starts_are;
    waits_are = passed is_wait event run.events waits wait h.waits_are;
    pipes_are = passed is_pipe event run.events pipes pipe h.pipes_are;
    closes_are = passed is_close event run.events closes close h.closes_are;
    ends_so = h.ends_so;
  }

  wait-more : (event : Event) → is_start event ≡ false → is_wait event ≡ true → is_pipe event ≡ false → is_close event ≡ false → Comes (behind_event event run) units starts (waits + 1) pipes closes
  wait-more event start wait pipe close = record {
    units_are = h.units_are;
    starts_are = passed is_start event run.events starts start h.starts_are;
    waits_are = counted is_wait event run.events waits wait h.waits_are;
    pipes_are = passed is_pipe event run.events pipes pipe h.pipes_are;
    closes_are = passed is_close event run.events closes close h.closes_are;
    ends_so = h.ends_so;
  }

  pipe-more : (event : Event) → is_start event ≡ false → is_wait event ≡ false → is_pipe event ≡ true → is_close event ≡ false → Comes (behind_event event run) units starts waits (pipes + 1) closes
  pipe-more event start wait pipe close = record {
    units_are = h.units_are;
    starts_are = passed is_start event run.events starts start h.starts_are;
    waits_are = passed is_wait event run.events waits wait h.waits_are;
    pipes_are = counted is_pipe event run.events pipes pipe h.pipes_are;
    closes_are = passed is_close event run.events closes close h.closes_are;
    ends_so = h.ends_so;
  }

  close-more : (event : Event) → is_start event ≡ false → is_wait event ≡ false → is_pipe event ≡ false → is_close event ≡ true → Comes (behind_event event run) units starts waits pipes (closes + 1)
  close-more event start wait pipe close = record {
    units_are = h.units_are;
    starts_are = passed is_start event run.events starts start h.starts_are;
    waits_are = passed is_wait event run.events waits wait h.waits_are;
    pipes_are = passed is_pipe event run.events pipes pipe h.pipes_are;
    closes_are = counted is_close event run.events closes close h.closes_are;
    ends_so = h.ends_so;
  }

comes-as : {run : Played End ⊥} {units starts waits pipes closes : ℕ} {units_too starts_too waits_too pipes_too closes_too : ℕ} → Comes run units starts waits pipes closes
    → units ≡ units_too → starts ≡ starts_too → waits ≡ waits_too → pipes ≡ pipes_too → closes ≡ closes_too → Comes run units_too starts_too waits_too pipes_too closes_too
comes-as h units starts waits pipes closes = record {
  units_are = h.units_are ∙ units;
  starts_are = h.starts_are ∙ starts;
  waits_are = h.waits_are ∙ waits;
  pipes_are = h.pipes_are ∙ pipes;
  closes_are = h.closes_are ∙ closes;
  ends_so = h.ends_so;
}

-- ---- words

no-ends : (bytes : List ℕ) → are_digits bytes ≡ true → list_any (λ byte. (byte == 36) || (byte == 125)) bytes ≡ false
no-ends [] are = refl
no-ends (byte ∷ bytes) are =
    let both = and_parts _ (are_digits bytes) are in
    let first : (byte == 36) ≡ false = grind (arith, both.0) in
    let second : (byte == 125) ≡ false = grind (arith, both.0) in
    rw (first, second) (no-ends bytes both.1)

numbered-key : (i : ℕ) → i < 2 ^ 64 → is_good_key (86 ∷ decimal i) ≡ true
numbered-key i small = ap not (no-ends (decimal i) (decimal-digits i small))

-- ---- a line

module _ (next : Left → Task ⊥) where
  -- a tree, and then what comes behind it
  abbrev pub goes : Tree → Scope → State → Task ⊥
  goes tree scope state = and_then (meaning tree scope state) next

  -- what comes behind a program
  abbrev behind : Places → Tree → Scope → Way → Task ⊥
  behind places rest scope way = and_then (going_on (λ pairs state. meaning rest (scope ++ pairs ∷ []) state) (λ nth state. block_meaning places (index_of nth) scope state) way) next

  node-goes : (program : Prog) (places : Places) (rest : Tree) (scope : Scope) (state : State)
      → goes (Node program [] places rest) scope state ≡ takes (end.Spent state) (and_then (effect program (read_in scope program [] places rest) state) (behind places rest scope))
  unfolding and_then
  node-goes program places rest scope state =
      ap (takes (end.Spent state))
      (then-assoc (effect program (read_in scope program [] places rest) state) (going_on (λ pairs state. meaning rest (scope ++ pairs ∷ []) state) (λ nth state. block_meaning places (index_of nth) scope state)) next)

  -- a definition puts its value in the rest
  define-goes : (i : ℕ) (rest : Tree) (scope : Scope) (state : State) → i < 2 ^ 64 → (pairs : Pairs) × (goes (define_tree i rest) scope state ≡ takes (end.Spent state) (goes rest (scope ++ pairs ∷ []) state))
  unfolding effect shape_of substitute_alone substituting and_then
  define-goes i rest scope state small = (
    (86 ∷ decimal i, (120 ∷ decimal i) ∷ []) ∷ [],
    rw (literal_value scope (86 ∷ decimal i) (numbered-literal 86 i refl small), literal_value scope (120 ∷ decimal i) (numbered-literal 120 i refl small), numbered-key i small) refl,
  )

-- ---- lines

-- Wherever these lines stand, they come to so much. Behind each pipe both of its ends are closed, the last reader by the last command,
-- and with it what was at number 0 before.
pub record Lines (next : Left → Task ⊥) (dir : List ℕ) (tree : Tree) (units starts waits pipes : ℕ) : Type 0 where
  pub come : (scope : Scope) (env : Vars) (number : ℕ) (kids : List Pid) (numbers : Numbers) (given : Bool) → nat_le 3 number ≡ given → number < numbers.handle → 3 ≤ numbers.handle
      → Comes (played (goes next tree scope (standing env number dir kids)) numbers) units starts waits pipes (pipes + pipes + cond given 1 0)

comes-by : {run other : Played End ⊥} {units starts waits pipes closes : ℕ} → run ≡ other → Comes other units starts waits pipes closes → Comes run units starts waits pipes closes
comes-by {run} {other} {units} {starts} {waits} {pipes} {closes} is h = subst (λ run. Comes run units starts waits pipes closes) (sym is) h

lines-as : {next : Left → Task ⊥} {dir : List ℕ} {tree : Tree} {units starts waits pipes : ℕ} {units_too starts_too waits_too pipes_too : ℕ} → Lines next dir tree units starts waits pipes
    → units ≡ units_too → starts ≡ starts_too → waits ≡ waits_too → pipes ≡ pipes_too → Lines next dir tree units_too starts_too waits_too pipes_too
lines-as h units starts waits pipes = record {
  come = λ scope env number kids numbers given is below least. comes-as (h.come scope env number kids numbers given is below least) units starts waits pipes (ap (λ n. n + n + cond given 1 0) pipes);
}

-- a block of a literal word and others
block-words : (scope : Scope) (text : List ℕ) (more : Args) → is_literal text ≡ true → tree_words scope (Command (word text more)) ≡ text ∷ scope_value scope (spelled 0 more)
block-words scope text more literal = scope_literal scope text (spelled 0 more) literal

plus-none : (n : ℕ) → n ≡ n + 0
plus-none n = omega arith

-- both ends of a pipe are closed, and with the second one what was at number 0
closed-own : (n : ℕ) → n + n + 1 + 1 ≡ n + 1 + (n + 1) + 0
closed-own n = omega arith

closed-given : (n : ℕ) → n + n + 1 + 1 + 1 ≡ n + 1 + (n + 1) + 1
closed-given n = omega arith

later : (n : ℕ) → n < n + 2
later n = omega arith

higher : (n : ℕ) → 3 ≤ n → 3 ≤ n + 2
higher n le = omega (arith, le)

given_now : (n : ℕ) → 3 ≤ n → nat_le 3 n ≡ true
given_now n le = grind (arith, le)

module _ {next : Left → Task ⊥} {dir : List ℕ} (i : ℕ) {rest : Tree} {units starts waits pipes : ℕ} (h : Lines next dir rest units starts waits pipes) where
  define-lines : i < 2 ^ 64 → Lines next dir (define_tree i rest) (units + 1) starts waits pipes
  unfolding played
  define-lines small = record {
    come = λ scope env number kids numbers given is below least.
        let line = define-goes next i rest scope (standing env number dir kids) small in
        comes-by (ap (λ task. played task numbers) line.1) (unit-more (h.come (scope ++ line.0 ∷ []) env number kids numbers given is below least));
  }

  foreground-lines : Lines next dir (foreground_tree i rest) (units + 1) (starts + 1) (waits + 1) pipes
  unfolding effect played
  foreground-lines = record {
    come = λ scope env number kids numbers given is below least.
        let more = word (codes "a") (word (codes "$V" ++ decimal (i - 1)) nothing) in
        let places = one_place (block_place (Command (word (codes "echo") more))) unplaced in
        let read = read_in scope Foreground [] places rest in
        comes-by
        (ap (λ task. played task numbers) (node-goes next Foreground places rest scope (standing env number dir kids))
        ∙ ap behind_unit (foreground-played read (behind next places rest scope) env number dir kids numbers (codes "echo") (scope_value scope (spelled 0 more)) (block-words scope (codes "echo") more refl)))
        (unit-more (start-more (wait-more (h.come (scope ++ [] ∷ []) (told_status env) number kids (more_process numbers) given is below least) (wait_event numbers) refl refl refl refl)
        (start_event (codes "echo" ∷ scope_value scope (spelled 0 more)) env number dir numbers) refl refl refl refl));
  }

  if-lines : Lines next dir (if_tree i rest) (units + 1) (starts + 1) (waits + 1) pipes
  unfolding effect shape_of played
  if-lines = record {
    come = λ scope env number kids numbers given is below least.
        let places = one_place (block_place (Command (word (codes "true") nothing))) unplaced in
        let read = read_in scope If [] places rest in
        comes-by
        (ap (λ task. played task numbers) (node-goes next If places rest scope (standing env number dir kids))
        ∙ ap behind_unit (if-played read (behind next places rest scope) env number dir kids numbers (codes "true") (scope_value scope []) (block-words scope (codes "true") nothing refl) refl))
        (unit-more (start-more (wait-more (h.come (scope ++ [] ∷ []) env number kids (more_process numbers) given is below least) (wait_event numbers) refl refl refl refl)
        (start_event (codes "true" ∷ scope_value scope []) env number dir numbers) refl refl refl refl));
  }

  piped-lines : (scope : Scope) (env : Vars) (number : ℕ) (kids : List Pid) (numbers : Numbers) → 3 ≤ numbers.handle → (given : Bool) → nat_le 3 number ≡ given → number < numbers.handle
      → Comes (played (goes next (pipeline_tree i rest) scope (standing env number dir kids)) numbers) (units + 1) (starts + 1) waits (pipes + 1) (pipes + 1 + (pipes + 1) + cond given 1 0)
  unfolding effect shape_of played
  piped-lines scope env number kids numbers least false is below =
      let more = word (codes "p") nothing in
      let places = one_place (block_place (Command (word (codes "echo") more))) unplaced in
      let read = read_in scope Pipeline [] places rest in
      comes-as
      (comes-by
      (ap (λ task. played task numbers) (node-goes next Pipeline places rest scope (standing env number dir kids))
      ∙ ap behind_unit (pipeline-played read (behind next places rest scope) env number dir kids numbers (codes "echo") (scope_value scope (spelled 0 more)) (block-words scope (codes "echo") more refl) refl is))
      (unit-more (pipe-more (start-more (close-more
      (h.come (scope ++ [] ∷ []) (told_kid env numbers) numbers.handle (kids ++ pid_of numbers ∷ []) (more_ends numbers) true (given_now numbers.handle least) (later numbers.handle) (higher numbers.handle least))
      (close_event (numbers.handle + 1)) refl refl refl refl) (block_event (codes "echo" ∷ scope_value scope (spelled 0 more)) env number dir numbers) refl refl refl refl) (pipe_event numbers) refl refl refl refl)))
      refl refl refl refl (closed-own pipes)
  piped-lines scope env number kids numbers least true is below =
      let more = word (codes "p") nothing in
      let places = one_place (block_place (Command (word (codes "echo") more))) unplaced in
      let read = read_in scope Pipeline [] places rest in
      comes-as
      (comes-by
      (ap (λ task. played task numbers) (node-goes next Pipeline places rest scope (standing env number dir kids))
      ∙ ap behind_unit (pipeline-closed read (behind next places rest scope) env number dir kids numbers (codes "echo") (scope_value scope (spelled 0 more)) (block-words scope (codes "echo") more refl) refl is below))
      (unit-more (pipe-more (start-more (close-more (close-more
      (h.come (scope ++ [] ∷ []) (told_kid env numbers) numbers.handle (kids ++ pid_of numbers ∷ []) (more_ends numbers) true (given_now numbers.handle least) (later numbers.handle) (higher numbers.handle least))
      (close_event number) refl refl refl refl) (close_event (numbers.handle + 1)) refl refl refl refl)
      (block_event (codes "echo" ∷ scope_value scope (spelled 0 more)) env number dir numbers) refl refl refl refl) (pipe_event numbers) refl refl refl refl)))
      refl refl refl refl (closed-given pipes)

  pipeline-lines : Lines next dir (pipeline_tree i rest) (units + 1) (starts + 1) waits (pipes + 1)
  pipeline-lines = record { come = λ scope env number kids numbers given is below least. piped-lines scope env number kids numbers least given is below }

  line-lines : i < 2 ^ 64 → Lines next dir (line_tree i rest) (units + 1) (starts + of_four i 0 1 1 1) (waits + of_four i 0 1 0 1) (pipes + of_four i 0 0 1 0)
  line-lines small = by (i % 4 == 1) (i % 4 == 2) (i % 4 == 3)
    where
      by : (one two three : Bool) → Lines next dir (if one then define_tree i rest else (if two then foreground_tree i rest else (if three then pipeline_tree i rest else if_tree i rest))) (units + 1)
          (starts + (if one then 0 else (if two then 1 else (if three then 1 else 1)))) (waits + (if one then 0 else (if two then 1 else (if three then 0 else 1)))) (pipes + (if one then 0 else (if two then 0 else (if three then 1 else 0))))
      by true two three = lines-as (define-lines small) refl (plus-none starts) (plus-none waits) (plus-none pipes)
      by false true three = lines-as foreground-lines refl refl refl (plus-none pipes)
      by false false true = lines-as pipeline-lines refl refl (plus-none waits) refl
      by false false false = lines-as if-lines refl refl refl (plus-none pipes)

-- ---- the last line

abbrev last_tree : Tree
last_tree = Command (word (codes "echo") (word (codes "end") nothing))

last-words : (scope : Scope) → scope_value scope (codes "echo" ∷ codes "end" ∷ []) ≡ codes "echo" ∷ codes "end" ∷ []
last-words scope =
    scope_literal scope (codes "echo") (codes "end" ∷ []) refl
    ∙ ap (λ (more : List (List ℕ)). codes "echo" ∷ more) (scope_literal scope (codes "end") [] refl ∙ ap (λ (more : List (List ℕ)). codes "end" ∷ more) (scope_nil scope))

module _ (next : Left → Task ⊥) (dir : List ℕ) where
  -- the command alone
  last-goes : (scope : Scope) (state : State) → goes next last_tree scope state ≡ and_then (last_command (codes "echo" ∷ codes "end" ∷ []) state) next
  unfolding program_named name_text
  last-goes scope state = ap (λ words. and_then (commanded words state) next) (last-words scope)

  wait-comes : (number : ℕ) (env : Vars) (kids : List Pid) (numbers : Numbers) (name : List ℕ) (words : List (List ℕ)) → Comes (wait_alone next env number dir kids numbers name words) 0 0 1 0 0
  wait-comes number env kids numbers name words = record { units_are = refl; starts_are = refl; waits_are = refl; pipes_are = refl; closes_are = refl; ends_so = (_, refl) }

  ended-lines : (scope : Scope) (env : Vars) (number : ℕ) (kids : List Pid) (numbers : Numbers) (given : Bool) → nat_le 3 number ≡ given → Comes (played (goes next last_tree scope (standing env number dir kids)) numbers) 1 1 1 0 (0 + 0 + cond given 1 0)
  ended-lines scope env number kids numbers false is =
      comes-as
      (comes-by (ap (λ task. played task numbers) (last-goes scope (standing env number dir kids)) ∙ command-played next env number dir kids numbers (codes "echo") (codes "end" ∷ []) is)
      (unit-more (start-more (wait-comes number env kids numbers (codes "echo") (codes "end" ∷ [])) (start_event (codes "echo" ∷ codes "end" ∷ []) env number dir numbers) refl refl refl refl)))
      refl refl refl refl refl
  ended-lines scope env number kids numbers true is =
      comes-as
      (comes-by (ap (λ task. played task numbers) (last-goes scope (standing env number dir kids)) ∙ command-closed next env number dir kids numbers (codes "echo") (codes "end" ∷ []) is)
      (unit-more (start-more (close-more (wait-comes number env kids numbers (codes "echo") (codes "end" ∷ [])) (close_event number) refl refl refl refl)
      (start_event (codes "echo" ∷ codes "end" ∷ []) env number dir numbers) refl refl refl refl)))
      refl refl refl refl refl

  last-lines : Lines next dir last_tree 1 1 1 0
  last-lines = record { come = λ scope env number kids numbers given is below least. ended-lines scope env number kids numbers given is }

-- ---- all lines

-- so much of this comes of so many lines from line i on
abbrev pub counts : (first second third fourth : ℕ) → (i n : ℕ) → ℕ
counts first second third fourth i zero = 0
counts first second third fourth i (suc n) = counts first second third fourth (i + 1) n + of_four i first second third fourth

units-more : (n : ℕ) → n + 1 + 1 ≡ suc n + 1
units-more n = omega arith

one-behind : (a b : ℕ) → a + 1 + b ≡ a + b + 1
one-behind a b = omega arith

pub all-lines : (next : Left → Task ⊥) (dir : List ℕ) (i n : ℕ) → i + n < 2 ^ 64 → Lines next dir (lines_tree i n) (n + 1) (counts 0 1 1 1 i n + 1) (counts 0 1 0 1 i n + 1) (counts 0 0 1 0 i n)
all-lines next dir i zero small = lines-as (last-lines next dir) refl refl refl refl
all-lines next dir i (suc n) small =
    lines-as (line-lines i (all-lines next dir (i + 1) n (omega (arith, small))) (omega (arith, small)))
    (units-more n) (one-behind (counts 0 1 1 1 (i + 1) n) (of_four i 0 1 1 1)) (one-behind (counts 0 1 0 1 (i + 1) n) (of_four i 0 1 0 1)) refl
