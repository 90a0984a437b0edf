-- Laws on trees, beginnings and faults.
use Rattle.std.specs.Prelude.{◌≡◌, ℕ, Bool, List, [], ◌∷◌, ◌++◌, None, is_none}
use Rattle.el_lex.specs.declared.token.Token.{Token}
use Rattle.el_blocks.specs.Tokens.{TokenShape, shapes_of}
use Rattle.el_subst.specs.Parts.{Part}
use Rattle.el_tree.specs.declared.fault.Fault.{Fault}
use Rattle.el_tree.specs.Trees.{Tree, tokens_of}
use Rattle.el_tree.specs.WellFormed.{IsWellFormed}
use Rattle.el_tree.specs.declared.tree.Node.{Node}
use Rattle.el_tree.specs.Marks.{Member, keeps_one}
use Rattle.el_tree.specs.Accepted.{IsAccepted}
use Rattle.el_tree.specs.Beginnings.{Beginning, Chained, Tail, at_start, TestScope, printed, IsBeginning}
use Rattle.el_tree.specs.Faults.{Over, fault_after, place_fault}
use Rattle.el_tree.specs.Steps.{tree_before, tail_tree, push, next_shape, Fits, TreeRead, FaultRead, answer}
use Rattle.el_tree.specs.FirstFault.{IsFaultIn, IsTreeFault, IsFaultUnder}
use Rattle.el_tree.specs.Readings.{ReadsTokens, IsTreeIn}

-- a token that isn't wrong behind a beginning leaves a beginning, which prints it behind the others
abbrev pub Pushes : Type 0
Pushes = (scope : TestScope) (beginning : Beginning) (token : TokenShape) → IsBeginning scope beginning → fault_after scope beginning (next_shape token) ≡ None → Fits token beginning.around
    → IsBeginning scope (push beginning token) × (printed (push beginning token) ≡ printed beginning ++ token ∷ [])

-- a beginning in which nothing is open and whose end isn't wrong is a tree with the same tokens
abbrev pub Ends : Type 0
Ends = (scope : TestScope) (nodes : List Node) (tail : Tail) → IsBeginning scope (record { level = Chained nodes tail; around = [] }) → fault_after scope (record { level = Chained nodes tail; around = [] }) Over ≡ None
    → IsTreeIn scope (tree_before nodes (tail_tree tail)) × (tokens_of (tree_before nodes (tail_tree tail)) ≡ printed (record { level = Chained nodes tail; around = [] }))

-- a fixed place has no fault exactly where it keeps one word
abbrev pub PlaceIsTested : Type 0
PlaceIsTested = (touched : Bool) (members : List Member) (parts : List Part) → keeps_one touched members parts ≡ is_none (place_fault touched members parts)

-- the tokens of a beginning lead from the start to it, and none of them is wrong
abbrev pub Rereads : Type 0
Rereads = (scope : TestScope) (beginning : Beginning) → IsBeginning scope beginning → ReadsTokens scope at_start (printed beginning) beginning

-- tokens are those of one well-formed tree at most
abbrev pub OneTree : Type 0
OneTree = (one other : Tree) → IsWellFormed one → IsWellFormed other → tokens_of one ≡ tokens_of other → one ≡ other

-- tokens have one first fault at most, on one line
abbrev pub OneFault : Type 0
OneFault = (scope : TestScope) (tokens : List Token) (one other : Fault) (here there : ℕ) → IsFaultIn scope tokens one here → IsFaultIn scope tokens other there → (one ≡ other) × (here ≡ there)

-- the tokens of a well-formed tree have no fault
abbrev pub NeverBothInTrees : Type 0
NeverBothInTrees = (tokens : List Token) (tree : Tree) (fault : Fault) (line : ℕ) → IsWellFormed tree → tokens_of tree ≡ shapes_of tokens → IsTreeFault tokens fault line → ⊥

-- the tokens of an accepted tree have no fault under its marks
abbrev pub NeverBoth : Type 0
NeverBoth = (members : List Member) (tokens : List Token) (tree : Tree) (fault : Fault) (line : ℕ) → IsAccepted members tree → tokens_of tree ≡ shapes_of tokens → IsFaultUnder members tokens fault line → ⊥

-- what is computed as a tree is one with these tokens, and what is computed as a fault is the first one
abbrev pub AnswerIsRight : Type 0
AnswerIsRight = (scope : TestScope) (tokens : List Token) → ((tree : Tree) → answer scope tokens ≡ TreeRead tree → IsTreeIn scope tree × (tokens_of tree ≡ shapes_of tokens))
    × ((fault : Fault) (line : ℕ) → answer scope tokens ≡ FaultRead fault line → IsFaultIn scope tokens fault line)

-- a tree is computed from its tokens
abbrev pub TreeIsAnswered : Type 0
TreeIsAnswered = (scope : TestScope) (tokens : List Token) (tree : Tree) → IsTreeIn scope tree → tokens_of tree ≡ shapes_of tokens → answer scope tokens ≡ TreeRead tree

-- and so is the first fault
abbrev pub FaultIsAnswered : Type 0
FaultIsAnswered = (scope : TestScope) (tokens : List Token) (fault : Fault) (line : ℕ) → IsFaultIn scope tokens fault line → answer scope tokens ≡ FaultRead fault line
