-- The bounds on programs, reads and turns say nothing where they are above the units.
use Rattle.el_room.proofs.Vocabulary.{Prog, Loopwhilex, name_text, Ended, Fault, Handle, read_act, ends, and_then, and_go_on, State, Status, Task, SameUpto, given-any, same-refl, same-takes, same-then, child, code_of, after_read, gathered, has_nul, before_nul, Left, Read, Way, entered}
use Rattle.el_machine.proofs.Vocabulary.{Turn, goes_on_behind, repeating, Looping, new_values, used, turns_behind, last_command, effect, flat_step, run_by, flat_within, first_program}
use Rattle.std.proofs.Common.{ℕ, zero, suc, ◌<◌, Bool, true, false, if◌then◌else◌, List, [], ◌∷◌, ◌++◌, Option, Some, None, Result, Ok, Err, arith}
use Rattle.el_world.specs.States.{Spent}
use Rattle.el_world.proofs.Upto.{same-go_on}
use Rattle.el_loops.specs.Loopwhilex.{after_turn}
use Rattle.el_loops.specs.Values as loop

-- ---- programs

-- words that were left go on with at most so many programs
abbrev pub flat_on : (programs : ℕ) → Left → Task ⊥
flat_on programs left = flat_within programs left.words left.state

-- one more program on both sides
flat-more : (n m u : ℕ) (first : Option Prog) (words : List (List ℕ)) (state : State) → ((w : ℕ) (left : Left) → w < u → SameUpto w (flat_on n left) (flat_on m left))
    → SameUpto u (run_by first words state (flat_on n)) (run_by first words state (flat_on m))
unfolding flat_step and_then
flat-more n m u None [] state next = same-refl u (ends (Status 0 state))
flat-more n m u None (word ∷ words) state next = same-refl u (last_command (word ∷ words) state)
flat-more n m u (Some program) words state next =
    same-takes (Spent state) (and_then done (flat_on n)) (and_then done (flat_on m)) u
    (λ w less. same-then done done (flat_on n) (flat_on m) w (same-refl w done)
    (given-any (λ left. SameUpto w (flat_on n left) (flat_on m left)) done (λ left. next w left less)))
  where
    done : Task Left
    done = entered (effect program) program words state

pub flat-enough : (n m u : ℕ) (words : List (List ℕ)) (state : State) → u < n → u < m → SameUpto u (flat_within n words state) (flat_within m words state)
unfolding flat_within
flat-enough zero m u words state a b = absurd (omega arith)
flat-enough (suc n) zero u words state a b = absurd (omega arith)
flat-enough (suc n) (suc m) u words state a b = flat-more n m u (first_program words) words state (λ w left less. flat-enough n m w left.words left.state (omega arith) (omega arith))

-- ---- reads

read-same : (u : ℕ) (f g : List ℕ → Task (Option (List ℕ))) (before : List ℕ) (answer : Result (List ℕ) Fault) → ((read : List ℕ) → SameUpto u (f read) (g read)) → SameUpto u (after_read f before answer) (after_read g before answer)
read-same u f g before (Ok []) next = same-refl u _
read-same u f g before (Ok (byte ∷ bytes)) next = next (before ++ byte ∷ bytes)
read-same u f g before (Err fault) next = same-refl u _

pub gathered-enough : (n m u : ℕ) (state : State) (handle : Handle) (before : List ℕ) → u < n → u < m → SameUpto u (gathered n state handle before) (gathered m state handle before)
unfolding gathered
gathered-enough zero m u state handle before a b = absurd (omega arith)
gathered-enough (suc n) zero u state handle before a b = absurd (omega arith)
gathered-enough (suc n) (suc m) u state handle before a b =
    same-takes (Spent state) (and_go_on (read_act handle) (after_read (gathered n state handle) before)) (and_go_on (read_act handle) (after_read (gathered m state handle) before)) u
    (λ w less. same-go_on (read_act handle) (after_read (gathered n state handle) before) (after_read (gathered m state handle) before) w
    (λ answer. read-same w (gathered n state handle) (gathered m state handle) before answer (λ read. gathered-enough n m w state handle read (omega arith) (omega arith))))

-- ---- turns of loopwhilex

turn-same : (u : ℕ) (state : State) (read : Read) (one other : Task Way) (code : ℕ) → SameUpto u one other → SameUpto u (after_turn state read one code) (after_turn state read other code)
turn-same u state read one other code same = by (goes_on_behind read code)
  where
    by : (on : Bool) → SameUpto u (if on then one else ends (Status code state)) (if on then other else ends (Status code state))
    by true = same
    by false = same-refl u (ends (Status code state))

pub turns-enough : (n m u : ℕ) (read : Read) (state : State) → u < n → u < m → SameUpto u (repeating n read state) (repeating m read state)
unfolding repeating
turns-enough zero m u read state a b = absurd (omega arith)
turns-enough (suc n) zero u read state a b = absurd (omega arith)
turns-enough (suc n) (suc m) u read state a b =
    same-takes (Spent state) (and_then turn (behind n)) (and_then turn (behind m)) u (λ w less. one-turn w (turns-enough n m w read state (omega arith) (omega arith)))
  where
    turn : Task Ended
    turn = child state (name_text Loopwhilex) read.rest

    behind : (turns : ℕ) → Ended → Task Way
    behind turns ended = after_turn state read (repeating turns read state) (code_of ended)

    one-turn : (w : ℕ) → SameUpto w (repeating n read state) (repeating m read state) → SameUpto w (and_then turn (behind n)) (and_then turn (behind m))
    one-turn w same =
        same-then turn turn (behind n) (behind m) w (same-refl w turn)
        (given-any (λ ended. SameUpto w (behind n ended) (behind m ended)) turn (λ ended. turn-same w state read (repeating n read state) (repeating m read state) (code_of ended) same))

-- ---- reads of a loop's input

piece-same : (u : ℕ) (looping : Looping) (f g : List ℕ → List Turn → Task (List Turn)) (before : List ℕ) (turns : List Turn) (answer : Result (List ℕ) Fault)
    → ((read : List ℕ) (turns : List Turn) → SameUpto u (f read turns) (g read turns)) → SameUpto u (loop.after_read looping f before turns answer) (loop.after_read looping g before turns answer)
piece-same u looping f g before turns (Ok []) next = same-refl u _
piece-same u looping f g before turns (Ok (byte ∷ bytes)) next =
    let piece = byte ∷ bytes in
    let first = used looping turns (new_values looping.read before (before_nul piece)) (has_nul piece) in
    same-then first first (f (before ++ piece)) (g (before ++ piece)) u (same-refl u first)
    (given-any (λ turns. SameUpto u (f (before ++ piece) turns) (g (before ++ piece) turns)) first (λ turns. next (before ++ piece) turns))
piece-same u looping f g before turns (Err fault) next = same-refl u _

pub loop-reads-enough : (n m u : ℕ) (looping : Looping) (handle : Handle) (before : List ℕ) (turns : List Turn) → u < n → u < m → SameUpto u (turns_behind n looping handle before turns) (turns_behind m looping handle before turns)
unfolding turns_behind
loop-reads-enough zero m u looping handle before turns a b = absurd (omega arith)
loop-reads-enough (suc n) zero u looping handle before turns a b = absurd (omega arith)
loop-reads-enough (suc n) (suc m) u looping handle before turns a b =
    same-takes (Spent looping.state) (and_go_on (read_act handle) (behind n)) (and_go_on (read_act handle) (behind m)) u
    (λ w less. same-go_on (read_act handle) (behind n) (behind m) w
    (λ answer. piece-same w looping (on n) (on m) before turns answer (λ read turns. loop-reads-enough n m w looping handle read turns (omega arith) (omega arith))))
  where
    on : (reads : ℕ) → List ℕ → List Turn → Task (List Turn)
    on reads before turns = turns_behind reads looping handle before turns

    behind : (reads : ℕ) → Result (List ℕ) Fault → Task (List Turn)
    behind reads answer = loop.after_read looping (on reads) before turns answer
