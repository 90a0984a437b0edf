-- Which parts of a tree other processes are started for.
use Rattle.el_script.specs.Vocabulary.{Prog, Scope, shape_of, Tree, End, Command, Node, Places, unplaced, one_place, block_place, letters_of, Member, MeetsAll, member_of, IsAccepted}
use Rattle.el_room.specs.Vocabulary.{Ifte, Loopwhilex, Forx, Forstdin, Forbacktickx, Pairs, Found, made, State}
use Rattle.std.specs.Prelude.{◌≡◌, ◌⊎◌, ℕ, List, [], ◌∷◌, ◌++◌}
use Rattle.el_options.specs.Shapes.{Chain}
use Rattle.el_tree.specs.Marks.{Meets, adds_member, members_behind}
use Rattle.el_check.specs.Operands.{tree_words}
use Rattle.el_machine.specs.Starts.{StartsAre}
use Rattle.el_meaning.specs.Operands.{read_in}
use Rattle.el_meaning.specs.Meaning.{meaning}
use Rattle.el_meaning.specs.Turns.{turn_scope}

-- a tree in a scope, and the marks that are in force for it
pub record Part : Type 0 where
  pub tree : Tree
  pub members : List Member
  pub scope : Scope

-- ---- of one program

-- one of its blocks
abbrev pub IsBlock : Places → List Member → Scope → Part → Type 0
IsBlock unplaced members scope part = ⊥
IsBlock (one_place (block_place block) places) members scope part = (part ≡ record { tree = block; members = members; scope = scope }) ⊎ IsBlock places members scope part
IsBlock (one_place _ places) members scope part = IsBlock places members scope part

-- a loop's body in the scope of a turn, which is one for a value
abbrev pub IsTurn : Prog → (options : List (List ℕ)) → Places → (body : Tree) → List Member → Scope → Part → Type 0
IsTurn program options places body members scope part =
    (value : List ℕ) × (part ≡ record {
      tree = body;
      members = members_behind (adds_member program (letters_of program options)) members (member_of program (letters_of program options) places);
      scope = turn_scope scope (read_in scope program options places body) value;
    })

-- ifte and loopwhilex start their rest, and the other loops their turns
abbrev pub IsRest : Prog → (options : List (List ℕ)) → Places → (rest : Tree) → List Member → Scope → Part → Type 0
IsRest Ifte options places rest members scope part = part ≡ record { tree = rest; members = members; scope = scope }
IsRest Loopwhilex options places rest members scope part = part ≡ record { tree = rest; members = members; scope = scope }
IsRest Forx options places rest members scope part = IsTurn Forx options places rest members scope part
IsRest Forstdin options places rest members scope part = IsTurn Forstdin options places rest members scope part
IsRest Forbacktickx options places rest members scope part = IsTurn Forbacktickx options places rest members scope part
IsRest _ options places rest members scope part = ⊥

-- ---- of a tree

abbrev mutual
  -- A process that means this tree starts: its command; for each program that it comes to, a block, the rest or a turn. It comes to the
  -- rest of a chain, with the program's pairs put last, and to blocks.
  pub IsStarted : Tree → List Member → Scope → Part → Type 0
  IsStarted End members scope part = ⊥
  IsStarted (Command args) members scope part = part ≡ record { tree = Command args; members = members; scope = scope }
  IsStarted (Node program options places rest) members scope part =
      IsBlock places members scope part
      ⊎ (IsRest program options places rest members scope part
      ⊎ (IsStartedInBlock places members scope part
      ⊎ ((chain : (shape_of program).rest ≡ Chain) × (pairs : Pairs) × Meets pairs (member_of program (letters_of program options) places)
      × IsStarted rest (members ++ member_of program (letters_of program options) places ∷ []) (scope ++ pairs ∷ []) part)))

  -- what is started in one of the blocks at these places
  pub IsStartedInBlock : Places → List Member → Scope → Part → Type 0
  IsStartedInBlock unplaced members scope part = ⊥
  IsStartedInBlock (one_place (block_place block) places) members scope part = IsStarted block members scope part ⊎ IsStartedInBlock places members scope part
  IsStartedInBlock (one_place _ places) members scope part = IsStartedInBlock places members scope part

-- ---- the law

-- these are the words of a part that a tree starts a process for; that part is accepted, and its scope meets the marks
pub record StartsPart (tree : Tree) (members : List Member) (scope : Scope) (words : List (List ℕ)) : Type 0 where
  pub part : Part
  pub started : IsStarted tree members scope part
  pub accepted : IsAccepted part.members part.tree
  pub meets : MeetsAll part.scope part.members
  pub is : words ≡ tree_words part.scope part.tree

-- each start in what an accepted tree means, in a scope that meets the marks, has the words of such a part
abbrev pub StartsAreOfTheTree : Type 0
StartsAreOfTheTree = (tree : Tree) (members : List Member) (scope : Scope) (state : State) (units : ℕ) (found : List Found)
    → IsAccepted members tree → MeetsAll scope members → StartsAre (StartsPart tree members scope) (made (meaning tree scope state) units found).events
