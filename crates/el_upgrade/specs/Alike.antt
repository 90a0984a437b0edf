-- Events that differ by an upgrade alone.
use Rattle.el_room.specs.Vocabulary.{Importas, Import, name_text, Vars, Scope, Event, Start, Write, Fault, Handle, Pid, StartFault, Made, Trouble}
use Rattle.el_script.specs.Vocabulary.{Tree, upgraded}
use Rattle.std.specs.Prelude.{◌≡◌, ℕ, List, [], ◌∷◌, Option, Result}
use Rattle.el_proc.specs.Troubles.{message}
use Rattle.el_check.specs.Operands.{tree_words}

-- the words of a tree in a scope, and those of the upgraded tree in the same scope
pub record WordsUpgraded (one other : List (List ℕ)) : Type 0 where
  pub tree : Tree
  pub scope : Scope
  pub is_one : one ≡ tree_words scope tree
  pub is_other : other ≡ tree_words scope (upgraded tree)

-- two starts of such words with the same variables, directory, ends and answer
pub record StartsAlike (one other : Event) : Type 0 where
  pub words : List (List ℕ)
  pub others : List (List ℕ)
  pub are : WordsUpgraded words others
  pub env : Vars
  pub dir : List ℕ
  pub streams : List (Option Handle)
  pub answer : Result Pid StartFault
  pub is_one : one ≡ Start words env dir streams answer
  pub is_other : other ≡ Start others env dir streams answer

-- two writes of the same message to the same handle with the same answer, the one under import's name and the other under importas's
pub record MessagesAlike (one other : Event) : Type 0 where
  pub trouble : Trouble
  pub handle : Handle
  pub answer : Result (Unit {0}) Fault
  pub is_one : one ≡ Write handle (message (name_text Import) trouble) answer
  pub is_other : other ≡ Write handle (message (name_text Importas) trouble) answer

-- two events are the same, or are such starts or such messages
pub data Alike (one other : Event) : Type 0 where
  the_same : one ≡ other → Alike one other
  starts_alike : StartsAlike one other → Alike one other
  messages_alike : MessagesAlike one other → Alike one other

-- lists of one length, alike place by place
abbrev pub AllAlike : (one other : List Event) → Type 0
AllAlike [] [] = Unit {0}
AllAlike (event ∷ events) (like ∷ others) = Alike event like × AllAlike events others
AllAlike [] (like ∷ others) = ⊥
AllAlike (event ∷ events) [] = ⊥

module _ {E A : Type 0} where
  -- two plans made events that are alike, came out the same, and left the same units and answers
  pub record MadeAlike (one other : Made E A) : Type 0 where
    pub events : AllAlike one.events other.events
    pub outcome : one.outcome ≡ other.outcome
    pub units : one.units ≡ other.units
    pub left : one.left ≡ other.left
