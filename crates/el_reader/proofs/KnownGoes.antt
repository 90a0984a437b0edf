-- What is known of a beginning says what the next token is or what is wrong with it, and goes on token by token.
use Rattle.el_script.proofs.Vocabulary.{map-append, Prog, program_named, Args, nothing, TokenShape, Text, Open, Close, PlaceKind, ProgramBlock, ValueBlock, NameBlock, DirectiveBlock, PlacedFault, directives_of, Many, directives_member, Head, Fresh, Current, Level, Chained, Named, Directed, Beginning, kinds_left, TestScope, scope_at, scope_behind_all, scope_within, AreFinished, IsHead, IsLevel, MayOpen, IsBeginning, Next, Group, head_fault, level_fault, fault_after, Owned, Own, Foreign, text_for, node_of, opened_at, tail_named, goes_on, named_behind, chain_owned, directive_named, directive_owned, with_text, Opened, chain_opened, directive_opened, with_open, with_closed, push_in, next_shape, Fits}
use Rattle.std.proofs.Common.{◌≡◌, ℕ, Bool, true, false, List, [], ◌∷◌, ◌++◌, Option, Some, None, Result, refl, sym, ap, ap₂, ◌∙◌, subst}
use Rattle.el_tree.specs.declared.tree.Node.{Node}
use Rattle.el_tree.specs.Beginnings.{an_open, IsCurrentDirective}
use Rattle.el_tree.specs.Faults.{Text as NextText}
use Rattle.el_tree.proofs.TreeReadings.{scope-append}
use Rattle.el_tree.proofs.Answered.{pushes}
use Rattle.el_reader.specs.declared.role.Role.{Role}
use Rattle.el_reader.specs.declared.role.Role.TheVariants as role
use Rattle.el_reader.specs.declared.role.Part.{Part}
use Rattle.el_reader.specs.Known.{lean, Scoped, head_judged, known_head, known_level, scoped, scoped_around, known, verdict, role_judged, level_judged, entered, with_word, level_inside, level_outside, level_closed, behind_as, behind_judged}
use Rattle.el_reader.specs.Roles.{first_kind, part_at, part_for, begins, bare_role, role_by, role_in, role_of}
use Rattle.el_reader.specs.declared.level.Level.TheVariants as levels
use Rattle.el_reader.specs.Laws.{Judges, Knows}
use Rattle.el_reader.proofs.Scopes.{lean-level-fault}
use Rattle.el_reader.proofs.KnownHeads.{last-finished, enters, last-directive, directed-marks, head-known, start-known, Goes, goes, block-known}
use Rattle.el_reader.proofs.MadeGoes.{group-behind, group-part}

-- ---- what is judged

by-verdict : (found : Option PlacedFault) (part : Option Part) (behind : Role) → role_judged (verdict found part) behind ≡ verdict found (role_by part behind)
by-verdict None part behind = refl
by-verdict (Some found) part behind = refl

in-head : (scope : TestScope) (head : Head) (in_directives : Bool) (next : Next) (behind : Role) → IsHead head nothing
    → role_judged (head_judged scope (known_head head) in_directives next) behind ≡ verdict (head_fault scope head head.waiting in_directives next) (role_by (part_for head head.waiting next) behind)
in-head scope head in_directives next behind is =
    ap (λ judged. role_judged judged behind) (head-known scope head.program head.options head.waiting head.places nothing in_directives next is) ∙ by-verdict (head_fault scope head head.waiting in_directives next) (part_for head head.waiting next) behind

level-known : (scope : TestScope) (level : Level) (next : Next) → IsLevel level nothing → level_judged scope (known_level level) next ≡ verdict (level_fault scope level next) (role_in level next)
level-known scope (Chained nodes (Current head)) next is = in-head scope head false next (bare_role (goes_on head.program) next) is.2
level-known scope (Directed nodes (Some head)) next is = in-head scope head true next (bare_role true next) is.1.1
level-known scope level next is = refl

-- what comes next is judged right
pub judges-next : (scope : TestScope) (beginning : Beginning) (next : Next) → IsBeginning scope beginning
    → level_judged (known scope beginning).inner.scope (known scope beginning).inner.level next ≡ verdict (fault_after scope beginning next) (role_in beginning.level next)
judges-next scope beginning next is =
    let here = scope_at (scope_within scope beginning.around) beginning.level in
    level-known (lean here) beginning.level next is.within ∙ ap (λ found. verdict found (role_in beginning.level next)) (lean-level-fault here beginning.level next)

pub judges : Judges
judges scope beginning token is = judges-next scope beginning (next_shape token) is

-- ---- a word

chain-begins : (outer : TestScope) (nodes : List Node) (text : List ℕ) (named : Option Prog) → scoped outer (Chained nodes (tail_named named text)) ≡ with_word (begins named) text (scoped outer (Chained nodes Fresh))
chain-begins outer nodes text None = refl
chain-begins outer nodes text (Some program) = ap (λ head. record { level = levels.Program head; scope = lean (scope_behind_all outer nodes) }) (start-known program)

-- what is in force behind a program that is whole
scope-behind : (outer : TestScope) (nodes : List Node) (head : Head) (after : Args) → AreFinished (nodes ++ node_of head ∷ []) after → lean (scope_behind_all outer (nodes ++ node_of head ∷ [])) ≡ entered (lean (scope_behind_all outer nodes)) (known_head head).marks
scope-behind outer nodes head after are = ap lean (scope-append outer nodes (node_of head)) ∙ enters (scope_behind_all outer nodes) (node_of head) (last-finished nodes (node_of head) after are)

-- a program's own word, or one behind it
in-chain : (outer : TestScope) (nodes : List Node) (head : Head) (text : List ℕ) (part : Option Part) (owned : Owned) → Goes head text part owned → IsLevel (chain_owned nodes head text owned) nothing
    → scoped outer (chain_owned nodes head text owned) ≡ with_word (role_by part (bare_role (goes_on head.program) (NextText text))) text (scoped outer (Chained nodes (Current head)))
in-chain outer nodes head text None Foreign own is = by (named_behind head.program (program_named text)) (scope-behind outer nodes head _ is.0)
  where
    by : (named : Option Prog) → lean (scope_behind_all outer (nodes ++ node_of head ∷ [])) ≡ entered (lean (scope_behind_all outer nodes)) (known_head head).marks
        → scoped outer (Chained (nodes ++ node_of head ∷ []) (tail_named named text)) ≡ with_word (begins named) text (scoped outer (Chained nodes (Current head)))
    by None enters = ap (λ (scope : TestScope). record { level = levels.Items; scope = scope }) enters
    by (Some program) enters = ap₂ (λ head (scope : TestScope). record { level = levels.Program head; scope = scope }) (start-known program) enters
in-chain outer nodes head text (Some part) (Own more) own is = ap (λ head. record { level = levels.Program head; scope = lean (scope_behind_all outer nodes) }) own
in-chain outer nodes head text part owned own is = absurd own

directive-begins : (outer : TestScope) (nodes : List Node) (text : List ℕ) (named : Option Prog) → scoped outer (Directed nodes (directive_named named)) ≡ with_word (begins named) text (scoped outer (Directed nodes None))
directive-begins outer nodes text None = refl
directive-begins outer nodes text (Some program) = ap (λ head. record { level = levels.Directives (directives_member (directives_of nodes)) (Some head); scope = lean outer }) (start-known program)

-- behind a directive another one begins
never-none : (nodes : List Node) (node : Node) (opened : Args) → IsCurrentDirective None (nodes ++ node ∷ []) opened → ⊥
never-none [] node opened is = is
never-none (one ∷ nodes) node opened is = is

-- the same in a block of directives
in-directives : (outer : TestScope) (nodes : List Node) (head : Head) (text : List ℕ) (part : Option Part) (owned : Owned) → Goes head text part owned → IsLevel (directive_owned nodes head text owned) nothing
    → scoped outer (directive_owned nodes head text owned) ≡ with_word (role_by part (bare_role true (NextText text))) text (scoped outer (Directed nodes (Some head)))
in-directives outer nodes head text None Foreign own is = by (program_named text) is
  where
    by : (named : Option Prog) → IsLevel (Directed (nodes ++ node_of head ∷ []) (directive_named named)) nothing
        → scoped outer (Directed (nodes ++ node_of head ∷ []) (directive_named named)) ≡ with_word (begins named) text (scoped outer (Directed nodes (Some head)))
    by None is = absurd (never-none nodes (node_of head) nothing is.1)
    by (Some program) is =
        ap₂ (λ member head. record { level = levels.Directives member (Some head); scope = lean outer }) (directed-marks nodes head (last-directive nodes head is.2) (last-finished nodes (node_of head) _ is.0)) (start-known program)
in-directives outer nodes head text (Some part) (Own more) own is = ap (λ head. record { level = levels.Directives (directives_member (directives_of nodes)) (Some head); scope = lean outer }) own
in-directives outer nodes head text part owned own is = absurd own

text-known : (outer : TestScope) (level : Level) (text : List ℕ) → IsLevel level nothing → level_fault (scope_at outer level) level (NextText text) ≡ None → IsLevel (with_text level text) nothing
    → scoped outer (with_text level text) ≡ with_word (role_in level (NextText text)) text (scoped outer level)
text-known outer (Chained nodes Fresh) text is right next = chain-begins outer nodes text (program_named text)
text-known outer (Chained nodes (Current head)) text is right next = in-chain outer nodes head text _ (text_for head head.waiting text) (goes (scope_behind_all outer nodes) head.program head.options head.waiting head.places nothing false text is.2 right) next
text-known outer (Named names) text is right next =
    ap (λ marked. record { level = levels.Names (record { marked = marked; positional = false }); scope = lean outer }) (map-append (λ (name : List ℕ). (name, Many)) names (text ∷ []))
text-known outer (Directed nodes None) text is right next = directive-begins outer nodes text (program_named text)
text-known outer (Directed nodes (Some head)) text is right next =
    in-directives outer nodes head text _ (text_for head head.waiting text) (goes outer head.program head.options head.waiting head.places nothing true text is.1.1 right) next
text-known outer level text is right next = refl

-- ---- an Open

-- of the level that an Open begins, which is this, and of the one around it
record KnowsOpen (outer : TestScope) (level : Level) (is : Role) (opened : Opened) : Type 0 where
  inside : (scope : TestScope) → scoped scope opened.inner ≡ record { level = level_inside is; scope = lean scope }
  outside : scoped outer opened.outer ≡ level_outside is (scoped outer level)

chain-opens : (outer : TestScope) (nodes : List Node) (head : Head) (kinds : List PlaceKind) → IsLevel (chain_opened nodes head (opened_at kinds)).outer an_open
    → KnowsOpen outer (Chained nodes (Current head)) (role_by (part_at (first_kind kinds) Group) role.Group) (chain_opened nodes head (opened_at kinds))
chain-opens outer nodes head (ProgramBlock ∷ kinds) next = record { inside = λ scope. refl; outside = refl }
chain-opens outer nodes head (ValueBlock ∷ kinds) next = record { inside = λ scope. refl; outside = refl }
chain-opens outer nodes head (NameBlock ∷ kinds) next = record { inside = λ scope. refl; outside = refl }
chain-opens outer nodes head (DirectiveBlock ∷ kinds) next = record { inside = λ scope. refl; outside = refl }
chain-opens outer nodes head _ next = record { inside = λ scope. refl; outside = ap (λ (scope : TestScope). record { level = levels.Items; scope = scope }) (scope-behind outer nodes head _ next.0) }

directive-opens : (outer : TestScope) (nodes : List Node) (head : Head) (kinds : List PlaceKind) → KnowsOpen outer (Directed nodes (Some head)) (role_by (part_at (first_kind kinds) Group) role.Group) (directive_opened nodes head (opened_at kinds))
directive-opens outer nodes head (ProgramBlock ∷ kinds) = record { inside = λ scope. refl; outside = refl }
directive-opens outer nodes head kinds = record { inside = λ scope. refl; outside = refl }

-- where an Open isn't wrong, it is by what stands at the next place
group-role : (scope : TestScope) (head : Head) (in_directives : Bool) → head_fault scope head head.waiting in_directives Group ≡ None → role_by (part_at (first_kind (kinds_left head)) Group) role.Group ≡ role_by (part_for head head.waiting Group) role.Group
group-role scope head in_directives right = ap (λ part. role_by part role.Group) (sym (group-part head (group-behind scope head head.waiting in_directives right)))

opens-known : (outer : TestScope) (level : Level) → level_fault (scope_at outer level) level Group ≡ None → IsLevel (with_open level).outer an_open → KnowsOpen outer level (role_in level Group) (with_open level)
opens-known outer (Chained nodes (Current head)) right next =
    subst (λ is. KnowsOpen outer (Chained nodes (Current head)) is (chain_opened nodes head (opened_at (kinds_left head)))) (group-role (scope_behind_all outer nodes) head false right) (chain-opens outer nodes head (kinds_left head) next)
opens-known outer (Directed nodes (Some head)) right next =
    subst (λ is. KnowsOpen outer (Directed nodes (Some head)) is (directive_opened nodes head (opened_at (kinds_left head)))) (group-role outer head true right) (directive-opens outer nodes head (kinds_left head))
opens-known outer level right next = record { inside = λ scope. refl; outside = refl }

-- ---- a Close

closes-known : (scope : TestScope) (outer level : Level) → MayOpen outer level → IsLevel (with_closed outer level) nothing → scoped scope (with_closed outer level) ≡ record { level = level_closed (known_level outer) (known_level level); scope = lean (scope_at scope outer) }
closes-known scope (Chained nodes (Current head)) level may next = ap (λ head. record { level = levels.Program head; scope = lean (scope_behind_all scope nodes) }) (block-known head level may next.2.placed)
closes-known scope (Directed nodes (Some head)) level may next =
    ap (λ head. record { level = levels.Directives (directives_member (directives_of nodes)) (Some head); scope = lean scope }) (block-known head level may next.1.1.placed)
closes-known scope outer level may next = refl

-- ---- any token

goes-on : (scope : TestScope) (level : Level) (around : List Level) (token : TokenShape) → IsBeginning scope (record { level = level; around = around }) → fault_after scope (record { level = level; around = around }) (next_shape token) ≡ None → Fits token around
    → IsBeginning scope (push_in level around token) → known scope (push_in level around token) ≡ behind_as (role_in level (next_shape token)) (known scope (record { level = level; around = around })) token
goes-on scope level around (Text text) is right fits next =
    ap (λ (inner : Scoped). record { inner = inner; around = scoped_around scope around }) (text-known (scope_within scope around) level text is.within right next.within)
goes-on scope level around Open is right fits next =
    let outer = scope_within scope around in
    let opened = opens-known outer level right next.outside.0 in
    ap (λ (inner : Scoped). record { inner = inner; around = scoped outer (with_open level).outer ∷ scoped_around scope around }) (opened.inside (scope_at outer (with_open level).outer))
    ∙ ap (λ (around_it : Scoped). record { inner = record { level = level_inside (role_in level Group); scope = around_it.scope }; around = around_it ∷ scoped_around scope around }) opened.outside
goes-on scope level [] Close is right fits next = absurd fits
goes-on scope level (outer ∷ around) Close is right fits next =
    ap (λ (inner : Scoped). record { inner = inner; around = scoped_around scope around }) (closes-known (scope_within scope around) outer level is.outside.1 next.within)

pub knows : Knows
knows scope beginning token is right fits =
    goes-on scope beginning.level beginning.around token is right fits (pushes scope beginning token is right fits).0
    ∙ sym (ap (λ (read : Result Role PlacedFault). behind_judged read (known scope beginning) token) (judges scope beginning token is ∙ ap (λ found. verdict found (role_of beginning token)) right))
