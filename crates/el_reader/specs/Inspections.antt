-- A script that is read token by token: what is known of what is read so far. Only the code's contracts need it.
use Rattle.el_script.specs.Vocabulary.{Token, TokenShape, shapes_of, PlacedFault, Tree, Beginning, at_start, TestScope, fault_of, line_of, TreeRead, FaultRead, answer, Member, positional_member}
use Rattle.std.specs.Prelude.{◌≡◌, ◌≤◌, ℕ, Bool, List, [], ◌∷◌, length, take, reverse, Option, None, Some, Result, IfOk, if◌then◌else◌}
use Rattle.el_tree.specs.Readings.{ReadsTokens}
use Rattle.el_reader.specs.declared.role.Role.{Role}
use Rattle.el_reader.specs.declared.level.Level.{Level}
use Rattle.el_reader.specs.declared.scope.FixedPlaces.{FixedPlaces}
use Rattle.el_reader.specs.declared.scope.FixedPlaces.TheVariants.{Untested, Tested}
use Rattle.el_reader.specs.declared.scope.TestScope.{TestScope as ScopeStruct}
use Rattle.el_reader.specs.declared.inspection.Outer.{Outer}
use Rattle.el_reader.specs.declared.inspection.Inspection.{Inspection}
use Rattle.el_reader.specs.Known.{Scoped, Known, known, judged, behind_as}

-- ---- scopes

-- a scope, as the code holds it; none where fixed places aren't tested
abbrev pub scope_told : ScopeStruct → TestScope
scope_told scope = if scope.tested then Some scope.members else None

-- the scope of a script, where its fixed places are tested so
abbrev pub first_scope : FixedPlaces → TestScope
first_scope Untested = None
first_scope (Tested positionals) = Some (if positionals then positional_member ∷ [] else [])

-- the members of a scope stay, and others may stand behind them
pub record IsMore (old new : ScopeStruct) : Type 0 where
  pub front : take (length old.members) new.members ≡ old.members
  pub within : length old.members ≤ length new.members
  pub tested : new.tested ≡ old.tested

-- ---- levels

-- how many levels are open in that of the script
abbrev pub open_levels : Inspection → ℕ
open_levels inspection = length inspection.around.items

-- ---- what is known

-- of a level, and the members in force in it
abbrev pub scoped_told : Level → ScopeStruct → Scoped
scoped_told level scope = record { level = level; scope = scope_told scope }

-- the scope that some of the members are
abbrev pub scope_of : (tested : Bool) → List Member → TestScope
scope_of tested members = if tested then Some members else None

-- of the outer levels, from the inside outwards; the first members, as many as each says, are those in force in it
abbrev pub outers_told : (tested : Bool) → List Member → List Outer → List Scoped
outers_told tested members [] = []
outers_told tested members (outer ∷ outers) =
    record { level = outer.level; scope = scope_of tested (take outer.members members) } ∷ outers_told tested (take outer.members members) outers

-- of a script
abbrev pub inspection_told : Inspection → Known
inspection_told inspection = record {
  inner = scoped_told inspection.level inspection.scope;
  around = outers_told inspection.scope.tested inspection.scope.members (reverse inspection.around.items);
}

-- in each of the outer levels there are so many members as it says
abbrev pub AreWithin : List Member → List Outer → Type 0
AreWithin members [] = Unit {0}
AreWithin members (outer ∷ outers) = (outer.members ≤ length members) × AreWithin (take outer.members members) outers

-- the members in force in the outer levels are there
abbrev pub AreInForce : Inspection → Type 0
AreInForce inspection = AreWithin inspection.scope.members (reverse inspection.around.items)

-- these tokens were read, and none of them is wrong
pub record HasRead (first : TestScope) (inspection : Inspection) (before : List Token) : Type 0 where
  pub to : Beginning
  pub reads : ReadsTokens first at_start (shapes_of before) to
  pub is_known : inspection_told inspection ≡ known first to
  pub in_force : AreInForce inspection

-- ---- one token more

-- a token is read, which is this
pub record Goes (old : Inspection) (is : Role) (token : TokenShape) (new : Inspection) : Type 0 where
  pub is_known : inspection_told new ≡ behind_as is (inspection_told old) token
  pub in_force : AreInForce new

-- a token is judged, and read where it isn't wrong
abbrev pub IsJudged : (old : Inspection) → (token : TokenShape) → (new : Inspection) → Result Role PlacedFault → Type 0
IsJudged old token new read = (read ≡ judged (inspection_told old) token) × IfOk read (λ is. Goes old is token new)

-- ---- in the end

-- the tokens are those of a tree
pub record HasTree (first : TestScope) (tokens : List Token) : Type 0 where
  pub tree : Tree
  pub is : answer first tokens ≡ TreeRead tree

-- the tokens that were read are those of a tree, or this is wrong with their end
abbrev pub IsEnded : Inspection → Option PlacedFault → Type 0
IsEnded inspection None = (first : TestScope) (tokens : List Token) → HasRead first inspection tokens → open_levels inspection ≡ 0 → HasTree first tokens
IsEnded inspection (Some found) = (first : TestScope) (tokens : List Token) → HasRead first inspection tokens → answer first tokens ≡ FaultRead (fault_of found) (line_of tokens [] found)
