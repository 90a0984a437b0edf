-- What a walk does with its asker. Only the code's contracts need it.
use Rattle.std.specs.Prelude.{◌≡◌, ℕ, ◌+◌, ◌≤◌, Bool, List, [], ◌++◌, drop, Some, Result, Ok, Err}
use Rattle.el_test.specs.declared.asker.AskEvent.{AskEvent}
use Rattle.el_test.specs.declared.ask_answers.AskAnswer.{AskAnswer}
use Rattle.el_test.specs.declared.walking.Halt.{Halt}
use Rattle.el_test.specs.declared.walking.Halt.TheVariants.{Wrong, Failed as FailedHalt, NoMemory}
use Rattle.el_test.specs.declared.end.TestEnd.{TestEnd}
use Rattle.el_test.specs.declared.end.TestEnd.TheVariants.{True as TrueEnd, False as FalseEnd, Refused, Failed as FailedEnd, NoMemory as NoMemoryEnd}
use Rattle.el_test.specs.Asker.{Heard, extended, Rose, answers_found}
use Rattle.el_test.specs.Expressions.{Expression}
use Rattle.el_test.specs.Reading.{reading}
use Rattle.el_test.specs.Truth.{Failed, verdict_of}
use Rattle.el_test.specs.Walking.{Walking, Walked, walk}

-- how a walk ends, by what its asks found
abbrev pub EndsAs : Result Bool Halt → List AskEvent → Walked → (before now : ℕ) → Type 0
EndsAs (Ok value) asks w before now = w ≡ record { asks = asks; left = []; end = Ok (verdict_of value) }
EndsAs (Err (Wrong stopped)) asks w before now = w ≡ record { asks = asks; left = []; end = Err stopped }
EndsAs (Err FailedHalt) asks w before now = (w ≡ record { asks = asks; left = []; end = Ok Failed }) × Rose before now
EndsAs (Err NoMemory) asks w before now = w.asks ≡ asks

-- the asker was asked this, and the walk ended so on the answers found
pub record Walks (dir : List ℕ) (words : List (List ℕ)) (start : Walking) (old new : Heard) (result : Result Bool Halt) : Type 0 where
  pub asks : List AskEvent
  pub log : new.log ≡ extended old.log asks
  pub later : old.faults ≤ new.faults
  pub ends : EndsAs result asks (walk dir words start (answers_found asks)) old.faults new.faults

-- asks before a walk
abbrev pub behind : List AskEvent → Walked → Walked
behind asks w = record { asks = asks ++ w.asks; left = w.left; end = w.end }

-- so far the asker was asked this, and the walk goes on from a place
pub record WalksTo (dir : List ℕ) (words : List (List ℕ)) (start : Walking) (old new : Heard) (place : ℕ) (state : Walking) : Type 0 where
  pub asks : List AskEvent
  pub log : new.log ≡ extended old.log asks
  pub later : old.faults ≤ new.faults
  pub goes : (more : List AskAnswer) → walk dir words start (answers_found asks ++ more) ≡ behind asks (walk dir (drop place words) state more)

-- one place further, or the walk's end
abbrev pub ArrivesAt : Result (Unit {0}) Halt → (dir : List ℕ) → (words : List (List ℕ)) → Walking → (before now : Heard) → (place : ℕ) → Walking → Type 0
ArrivesAt (Ok done) dir words start before now place state = WalksTo dir words start before now (place + 1) state
ArrivesAt (Err halt) dir words start before now place state = Walks dir words start before now (Err halt)

-- wherever the walk began
pub record Advances (dir : List ℕ) (words : List (List ℕ)) (place : ℕ) (from : Walking) (old new : Heard) (result : Result (Unit {0}) Halt) (to : Walking) : Type 0 where
  pub arrives : (start : Walking) (before : Heard) → WalksTo dir words start before old place from → ArrivesAt result dir words start before new place to

-- ---- the first walk

-- the words are those of an expression
pub record IsRead (words : List (List ℕ)) : Type 0 where
  pub expression : Expression
  pub whole : reading words ≡ Ok (Some expression)

-- what the first walk says of the words; it may want memory
abbrev pub Checked : Result (Unit {0}) TestEnd → (words : List (List ℕ)) → Type 0
Checked (Ok done) words = IsRead words
Checked (Err (Refused fault)) words = reading words ≡ Err fault
Checked (Err NoMemoryEnd) words = Unit {0}
Checked (Err TrueEnd) words = ⊥
Checked (Err FalseEnd) words = ⊥
Checked (Err FailedEnd) words = ⊥
