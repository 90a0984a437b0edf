-- A script with a fault.
use Rattle.el_room.proofs.Vocabulary.{SpellFault, StrayClose, TooDeep, Unclosed, Finish, Seen, State, Follows, Refuses, follows_refused}
use Rattle.el_script.proofs.Vocabulary.{NoMemory as NoSpellMemory, LexFault, lexed, IsFaultOf}
use Rattle.std.proofs.Common.{◌≡◌, ℕ, List, Result, Err, refl, ap, inl, inr}
use Rattle.el_blocks.specs.Computed.{IsFaultOf as IsBraceFaultOf}
use Rattle.el_lex.specs.declared.fault.LexKind.TheVariants.{NoMemory}
use Rattle.el_app.specs.Names.{execlineb_name}
use Rattle.el_app.specs.Scripts.{script_trouble, brace_trouble, spelled_words, script_words}

-- the message of its fault, and the end
pub fault_refused : {A : Type 0} {old new : Seen} {state : State} {units : ℕ} {finish : Finish} {f : A → List (List ℕ)} (script : List ℕ) (fault : LexFault)
    → IsFaultOf (lexed script) fault → (fault.kind ≡ NoMemory → ⊥) → Refuses old new state.fds execlineb_name (script_trouble fault.kind fault.line) finish
    → Follows old new (script_words state script) units (Err finish) f state units
unfolding script_words
fault_refused script fault (inl none) known r = absurd (known (ap (λ (fault : LexFault). fault.kind) none))
fault_refused script fault (inr is) known r = rw is (follows_refused r)

-- and that of its first brace fault
pub brace_refused : {A : Type 0} {old new : Seen} {state : State} {units : ℕ} {finish : Finish} {f : A → List (List ℕ)} (answer : Result (List (List ℕ)) SpellFault) (fault : SpellFault)
    → IsBraceFaultOf answer fault → (fault ≡ NoSpellMemory → ⊥) → Refuses old new state.fds execlineb_name (brace_trouble fault) finish
    → Follows old new (spelled_words state answer) units (Err finish) f state units
unfolding spelled_words
brace_refused answer (StrayClose line) is known r = rw is (follows_refused r)
brace_refused answer (TooDeep line) is known r = rw is (follows_refused r)
brace_refused answer (Unclosed line) is known r = rw is (follows_refused r)
brace_refused answer NoSpellMemory is known r = absurd (known refl)
