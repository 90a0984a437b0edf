-- An inspection goes on: what it knows is what is known of what is read so far.
use Rattle.el_script.proofs.Vocabulary.{result_err, reverse-append, nil_from_length, take-length, Token, TokenShape, Text, Open, Close, shapes_of, PlacedFault, Member, Level, Beginning, at_start, TestScope, IsBeginning, Over, fault_after, push, next_shape, Fits, TreeRead, answer, end_answer_in, wrong-answered, wrong-end-answered}
use Rattle.std.proofs.Common.{◌≡◌, ◌≤◌, ℕ, suc, Bool, List, [], ◌∷◌, ◌++◌, length, take, drop, reverse, Option, Some, None, Result, Ok, Err, OnOk, refl, sym, ap, ap₂, ◌∙◌, subst, arith}
use Rattle.std.proofs.lemmas.List.{length-reverse, take-append-drop, take-append-le}
use Rattle.el_words.specs.declared.memory.NoMemory.{NoMemory}
use Rattle.el_lex.specs.declared.token.Token.TheVariants.{Close as CloseToken}
use Rattle.el_blocks.specs.Tokens.{shape_of}
use Rattle.el_tree.proofs.Answered.{read-is, token-reads, end-answered}
use Rattle.el_reader.specs.declared.role.Role.{Role}
use Rattle.el_reader.specs.declared.role.Role.TheVariants as roles
use Rattle.el_reader.specs.declared.inspection.Outer.{Outer}
use Rattle.el_reader.specs.declared.inspection.Inspection.{Inspection}
use Rattle.el_reader.specs.declared.scope.TestScope.{TestScope as ScopeStruct}
use Rattle.el_reader.specs.declared.scope.FixedPlaces.{FixedPlaces}
use Rattle.el_reader.specs.Inspections.{scope_told, first_scope, IsMore, open_levels, scoped_told, scope_of, outers_told, inspection_told, AreWithin, AreInForce, HasRead, Goes, IsJudged, IsEnded}
use Rattle.el_reader.specs.Roles.{role_in, role_of}
use Rattle.el_reader.specs.declared.level.Level.TheVariants as levels
use Rattle.el_reader.specs.Made.{built, made_tree}
use Rattle.el_reader.specs.Known.{Scoped, Known, scoped_around, verdict, level_judged, judged, with_word, level_inside, level_outside, level_closed, behind_as, behind_judged, behind}
use Rattle.el_reader.specs.Readers.{MayCome, depth_behind, IsTaken}
use Rattle.el_reader.proofs.Scopes.{lean-first}
use Rattle.el_reader.proofs.KnownGoes.{judges-next, judges, knows}
use Rattle.el_reader.proofs.MadeGoes.{makes-tree}

-- a token fits where it may come
fits-there : (token : Token) (levels : List Level) → MayCome token (length levels) → Fits (shape_of token) levels
fits-there (CloseToken line) [] may = absurd (omega (arith, may))
fits-there (CloseToken line) (level ∷ levels) may = tt
fits-there token levels may = tt

-- ---- members that stay, and others behind them

as-before : (old new : List Member) (count : ℕ) → take (length old) new ≡ old → count ≤ length old → take count new ≡ take count old
as-before old new count front within =
    let rest = drop (length old) new in
    ap (take count) (sym (take-append-drop (length old) new) ∙ ap (λ (members : List Member). members ++ rest) front) ∙ take-append-le count old rest within

-- the outer levels are as they were
record Stay (tested tested' : Bool) (old new : List Member) (outers : List Outer) : Type 0 where
  told : outers_told tested' new outers ≡ outers_told tested old outers
  within : AreWithin new outers

outers-stay : (old new : ScopeStruct) (outers : List Outer) → IsMore old new → AreWithin old.members outers → Stay old.tested new.tested old.members new.members outers
outers-stay old new [] more within = record { told = refl; within = tt }
outers-stay old new (outer ∷ outers) more within =
    let stay = as-before old.members new.members outer.members more.front within.0 in
    let longer = more.within in
    let here = within.0 in
    record {
      told = λ i. record { level = outer.level; scope = scope_of (more.tested i) (stay i) } ∷ outers_told (more.tested i) (stay i) outers;
      within = (omega (arith, here, longer), subst (λ (members : List Member). AreWithin members outers) (sym stay) within.1);
    }

-- ---- words

pub word-goes : (old new : Inspection) (role : Role) (text : List ℕ) (result : Result Unit NoMemory) → AreInForce old → OnOk result (scoped_told new.level new.scope ≡ with_word role text (scoped_told old.level old.scope)) → OnOk result (IsMore old.scope new.scope)
    → new.around ≡ old.around → OnOk result (Goes old role (Text text) new)
word-goes old new role text (Ok unit) in_force after more around =
    let stay = outers-stay old.scope new.scope (reverse old.around.items) more in_force in
    let outers : reverse new.around.items ≡ reverse old.around.items = ap (λ a. reverse a.items) around in
    let told : outers_told new.scope.tested new.scope.members (reverse new.around.items) ≡ outers_told old.scope.tested old.scope.members (reverse old.around.items) =
    ap (outers_told new.scope.tested new.scope.members) outers ∙ stay.told in
    record { is_known = λ i. record { inner = after i; around = told i }; in_force = subst (AreWithin new.scope.members) (sym outers) stay.within }
word-goes old new role text (Err none) in_force after more around = tt

-- ---- blocks that begin

pub open-goes : (old new : Inspection) (outer : Outer) (role : Role) → AreInForce old → scoped_told outer.level new.scope ≡ level_outside role (scoped_told old.level old.scope) → new.level ≡ level_inside role → IsMore old.scope new.scope
    → outer.members ≡ length new.scope.members → new.around.items ≡ old.around.items ++ outer ∷ [] → Goes old role Open new
open-goes old new outer role in_force outside inside more members around =
    let before = reverse old.around.items in
    let stay = outers-stay old.scope new.scope before more in_force in
    let whole : take outer.members new.scope.members ≡ new.scope.members = ap (λ count. take count new.scope.members) members ∙ take-length new.scope.members in
    let outers : reverse new.around.items ≡ outer ∷ before = ap reverse around ∙ reverse-append old.around.items (outer ∷ []) in
    let all : outers_told new.scope.tested new.scope.members (reverse new.around.items) ≡ level_outside role (scoped_told old.level old.scope) ∷ (inspection_told old).around =
    ap (outers_told new.scope.tested new.scope.members) outers
    ∙ ap (λ (some : List Member). record { level = outer.level; scope = scope_of new.scope.tested some } ∷ outers_told new.scope.tested some before) whole
    ∙ ap₂ (λ (one : Scoped) (more : List Scoped). one ∷ more) outside stay.told in
    record {
      is_known = λ i. record { inner = record { level = inside i; scope = ap (λ (s : Scoped). s.scope) outside i }; around = all i };
      in_force = subst (AreWithin new.scope.members) (sym outers) (omega (arith, members), subst (λ (some : List Member). AreWithin some before) (sym whole) stay.within);
    }

-- ---- blocks that end

pub closes-one : (old new : Inspection) (outer : Outer) → AreInForce old → new.level ≡ level_closed outer.level old.level
    → old.around.items ≡ new.around.items ++ outer ∷ [] → new.scope.members ≡ take outer.members old.scope.members → new.scope.tested ≡ old.scope.tested → Goes old roles.Close Close new
closes-one old new outer in_force level around members tested =
    let after = reverse new.around.items in
    let outers : reverse old.around.items ≡ outer ∷ after = ap reverse around ∙ reverse-append new.around.items (outer ∷ []) in
    let within : AreWithin old.scope.members (outer ∷ after) = subst (AreWithin old.scope.members) outers in_force in
    record {
      is_known =
          (λ i. record { inner = record { level = level i; scope = scope_of (tested i) (members i) }; around = outers_told (tested i) (members i) after })
          ∙ sym (ap (λ (outers : List Outer). behind_as roles.Close (record { inner = scoped_told old.level old.scope; around = outers_told old.scope.tested old.scope.members outers }) Close) outers);
      in_force = subst (λ (some : List Member). AreWithin some after) (sym members) within.1;
    }

-- with no level around nothing is closed
pub closes-nothing : (old new : Inspection) → old.around.items ≡ [] → new.around.items ≡ [] → new.level ≡ old.level → new.scope ≡ old.scope → Goes old roles.Close Close new
closes-nothing old new none none' level scope = record {
  is_known =
      (λ i. record { inner = scoped_told (level i) (scope i); around = outers_told (scope i).tested (scope i).members (reverse (none' i)) })
      ∙ sym (ap (λ (outers : List Outer). behind_as roles.Close (record { inner = scoped_told old.level old.scope; around = outers_told old.scope.tested old.scope.members (reverse outers) }) Close) none);
  in_force = subst (λ (outers : List Outer). AreWithin new.scope.members (reverse outers)) (sym none') tt;
}

-- ---- how many levels are open

length-told : (tested : Bool) (members : List Member) (outers : List Outer) → length (outers_told tested members outers) ≡ length outers
length-told tested members [] = refl
length-told tested members (outer ∷ outers) = ap suc (length-told tested (take outer.members members) outers)

length-scoped : (first : TestScope) (around : List Level) → length (scoped_around first around) ≡ length around
length-scoped first [] = refl
length-scoped first (outer ∷ around) = ap suc (length-scoped first around)

told-depth : (inspection : Inspection) → length (inspection_told inspection).around ≡ open_levels inspection
told-depth inspection = length-told inspection.scope.tested inspection.scope.members (reverse inspection.around.items) ∙ length-reverse inspection.around.items

-- as many as around the beginning that is read
same-depth : (first : TestScope) (inspection : Inspection) (before : List Token) (has : HasRead first inspection before) → open_levels inspection ≡ length has.to.around
same-depth first inspection before has = sym (told-depth inspection) ∙ ap (λ (all : Known). length all.around) has.is_known ∙ length-scoped first has.to.around

behind-depth : (role : Role) (inner : Scoped) (around : List Scoped) (token : Token) → length (behind_as role (record { inner = inner; around = around }) (shape_of token)).around ≡ depth_behind token (length around)
behind-depth role inner [] (CloseToken line) = refl
behind-depth role inner (outer ∷ around) (CloseToken line) = omega arith
behind-depth role inner around token = refl

pub token-depth : (old new : Inspection) (token : Token) (role : Role) → IsJudged old (shape_of token) new (Ok role) → open_levels new ≡ depth_behind token (open_levels old)
token-depth old new token role judged =
    sym (told-depth new) ∙ ap (λ (all : Known). length all.around) judged.1.is_known ∙ behind-depth role (inspection_told old).inner (inspection_told old).around token ∙ ap (depth_behind token) (told-depth old)

-- ---- one token more

pub begins : (first : TestScope) (inspection : Inspection) (before : List Token) (has : HasRead first inspection before) → IsBeginning first has.to
begins first inspection before has = (read-is first has.to (shapes_of before) has.reads).begins

judged-so : (first : TestScope) (old : Inspection) (before : List Token) (has : HasRead first old before) (token : TokenShape) → judged (inspection_told old) token ≡ verdict (fault_after first has.to (next_shape token)) (role_of has.to token)
judged-so first old before has token = ap (λ all. judged all token) has.is_known ∙ judges first has.to token (begins first old before has)

verdict-err : (found : Option PlacedFault) (role : Role) → result_err (verdict found role) ≡ found
verdict-err None role = refl
verdict-err (Some found) role = refl

right-of : (found : Option PlacedFault) (right read : Role) → Ok read ≡ verdict found right → (found ≡ None) × (read ≡ right)
right-of None right read is = (refl, cc)
right-of (Some found) right read is = absurd (cc)

-- a token that isn't wrong leads from what is read to what is read with it
pub record GoesOn (first : TestScope) (to : Beginning) (token : Token) (role : Role) : Type 0 where
  pub right : fault_after first to (next_shape (shape_of token)) ≡ None
  pub is_role : role ≡ role_of to (shape_of token)
  pub fits : Fits (shape_of token) to.around

pub goes-on : (first : TestScope) (old : Inspection) (before : List Token) (has : HasRead first old before) (token : Token) (role : Role) → MayCome token (open_levels old) → Ok role ≡ judged (inspection_told old) (shape_of token)
    → GoesOn first has.to token role
goes-on first old before has token role may is =
    let right = right-of (fault_after first has.to (next_shape (shape_of token))) (role_of has.to (shape_of token)) role (is ∙ judged-so first old before has (shape_of token)) in
    record { right = right.0; is_role = right.1; fits = fits-there token has.to.around (subst (MayCome token) (same-depth first old before has) may) }

abbrev pub token-read : (first : TestScope) (old new : Inspection) (before : List Token) (has : HasRead first old before) (token : Token) (role : Role) → GoesOn first has.to token role → IsJudged old (shape_of token) new (Ok role) → HasRead first new (before ++ token ∷ [])
token-read first old new before has token role on judged = record {
  to = push has.to (shape_of token);
  reads = token-reads first has.to before token has.reads on.right on.fits;
  is_known =
      judged.1.is_known
      ∙ ap (λ read. behind_judged read (inspection_told old) (shape_of token)) judged.0
      ∙ ap (λ (all : Known). behind all (shape_of token)) has.is_known
      ∙ sym (knows first has.to (shape_of token) (begins first old before has) on.right on.fits);
  in_force = judged.1.in_force;
}

pub token-wrong : (first : TestScope) (old : Inspection) (before : List Token) (has : HasRead first old before) (token : Token) (found : PlacedFault) → Err found ≡ judged (inspection_told old) (shape_of token)
    → fault_after first has.to (next_shape (shape_of token)) ≡ Some found
token-wrong first old before has token found is =
    sym (verdict-err (fault_after first has.to (next_shape (shape_of token))) (role_of has.to (shape_of token))) ∙ sym (ap result_err (is ∙ judged-so first old before has (shape_of token)))

-- it is read, unless this is wrong with it
pub judged-taken : (old new : Inspection) (token : Token) (read : Result Role PlacedFault) → MayCome token (open_levels old) → IsJudged old (shape_of token) new read → IsTaken HasRead open_levels old new token (result_err read)
judged-taken old new token (Ok role) may judged =
    (λ first before has. token-read first old new before has token role (goes-on first old before has token role may judged.0) judged, token-depth old new token role judged)
judged-taken old new token (Err found) may judged = λ first before after has. wrong-answered first has.to before token after found has.reads (token-wrong first old before has token found judged.0)

-- ---- before anything is read

pub starts : (places : FixedPlaces) (new : Inspection) → new.level ≡ levels.Fresh → scope_told new.scope ≡ first_scope places → new.around.items ≡ [] → HasRead (first_scope places) new []
starts places new level scope around = record {
  to = at_start;
  reads = refl;
  is_known = λ i. record { inner = record { level = level i; scope = (scope ∙ lean-first places) i }; around = outers_told new.scope.tested new.scope.members (reverse (around i)) };
  in_force = subst (λ (outers : List Outer). AreWithin new.scope.members (reverse outers)) (sym around) tt;
}

-- ---- in the end

-- what is wrong with the end
end-fault : (first : TestScope) (inspection : Inspection) (before : List Token) (has : HasRead first inspection before) (result : Option PlacedFault)
    → result ≡ result_err (level_judged (inspection_told inspection).inner.scope (inspection_told inspection).inner.level Over) → fault_after first has.to Over ≡ result
end-fault first inspection before has result told =
    sym (told ∙ ap (λ (all : Known). result_err (level_judged all.inner.scope all.inner.level Over)) has.is_known ∙ ap result_err (judges-next first has.to Over (begins first inspection before has)) ∙ verdict-err (fault_after first has.to Over) (role_in has.to.level Over))

-- where nothing is wrong with it, and no level is open, the tree is what is made
pub tree-answered : (first : TestScope) (inspection : Inspection) (tokens : List Token) (has : HasRead first inspection tokens) → fault_after first has.to Over ≡ None → open_levels inspection ≡ 0 → answer first tokens ≡ TreeRead (made_tree (built has.to).made)
tree-answered first inspection tokens has right closed =
    let none = nil_from_length has.to.around (sym (same-depth first inspection tokens has) ∙ closed) in
    end-answered first has.to tokens has.reads right none ∙ ap (end_answer_in has.to.level) (sym none) ∙ makes-tree first has.to (begins first inspection tokens has) right none

pub ended : (inspection : Inspection) (result : Option PlacedFault) → result ≡ result_err (level_judged (inspection_told inspection).inner.scope (inspection_told inspection).inner.level Over) → IsEnded inspection result
ended inspection (Some found) told = λ first tokens has. wrong-end-answered first has.to tokens found has.reads (end-fault first inspection tokens has (Some found) told)
ended inspection None told = λ first tokens has closed. record { tree = _; is = tree-answered first inspection tokens has (end-fault first inspection tokens has None told) closed }
