-- Laws on what is known and made of a beginning.
use Rattle.el_script.specs.Vocabulary.{TokenShape, Beginning, TestScope, Over, next_shape, TreeRead}
use Rattle.std.specs.Prelude.{◌≡◌, [], None}
use Rattle.el_tree.specs.Beginnings.{IsBeginning}
use Rattle.el_tree.specs.Faults.{fault_after}
use Rattle.el_tree.specs.Steps.{push, Fits, end_answer}
use Rattle.el_reader.specs.Roles.{role_of}
use Rattle.el_reader.specs.Known.{known, verdict, judged, behind}
use Rattle.el_reader.specs.Made.{built, put, made_tree}

-- what is judged is the first fault, or what the token is
abbrev pub Judges : Type 0
Judges = (scope : TestScope) (beginning : Beginning) (token : TokenShape) → IsBeginning scope beginning → judged (known scope beginning) token ≡ verdict (fault_after scope beginning (next_shape token)) (role_of beginning token)

-- what is known goes on with a token that isn't wrong
abbrev pub Knows : Type 0
Knows = (scope : TestScope) (beginning : Beginning) (token : TokenShape) → IsBeginning scope beginning → fault_after scope beginning (next_shape token) ≡ None → Fits token beginning.around
    → known scope (push beginning token) ≡ behind (known scope beginning) token

-- a token that isn't wrong is put where what it is says
abbrev pub Makes : Type 0
Makes = (scope : TestScope) (beginning : Beginning) (token : TokenShape) → IsBeginning scope beginning → fault_after scope beginning (next_shape token) ≡ None → Fits token beginning.around
    → built (push beginning token) ≡ put (role_of beginning token) token (built beginning)

-- and in the end the tree is what is made
abbrev pub MakesTree : Type 0
MakesTree = (scope : TestScope) (beginning : Beginning) → IsBeginning scope beginning → fault_after scope beginning Over ≡ None → beginning.around ≡ [] → end_answer beginning ≡ TreeRead (made_tree (built beginning).made)
