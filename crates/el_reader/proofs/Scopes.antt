-- The first member that touches a word decides what is wrong with it; a literal word is right, and members that mark nothing change no test.
use Rattle.el_script.proofs.Vocabulary.{then_some, list_any, position_or_len, option_or, bytes_eq, or_from, and_right, drop_all, filter-append, Prog, Multisubstitute, Forx, Forstdin, Forbacktickx, Part, parts_of, references_of, PlaceKind, Name, Fixed, OptionalWord, Letter, shape_of, options_of, Fault, ManyWordsInOnePlace, ManyAfterValue, PlacedFault, At, One, Marked, Member, is_many, is_positional, is_all, is_plain_number, marks, marks_many, has_many, puts_many, touches, first_text, empty_member, own_member, member_of, adds_member, members_behind, place_fault, scope_fault, Next, Over, kind_fault, options_fault, shown_by, is_unplaced, ends_in, head_fault, level_fault, unplaced, Places, is_literal, letters_in, letters_of, TestScope, Head, Current, Level, Chained, Directed, kinds_left, scope_behind}
use Rattle.std.proofs.Common.{◌≡◌, ℕ, zero, suc, ◌<◌, ◌+◌, ◌%◌, ◌==◌, min, Bool, true, false, cond, not, ◌&&◌, ◌||◌, if◌then◌else◌, List, [], ◌∷◌, length, drop, drop-cons, slice_index_or, Option, None, Some, option_map, codes, refl, sym, ap, ◌∙◌, true≢false, arith, ◌++◌, append-nil}
use Rattle.std.proofs.lemmas.Bool.{or_parts, and_left}
use Rattle.std.proofs.lemmas.List.Sums.{position_or_len_is}
use Rattle.el_subst.specs.Parts.{Byte, Reference}
use Rattle.el_tree.specs.declared.tree.Node.{Node}
use Rattle.el_tree.specs.Faults.{Text}
use Rattle.el_tree.proofs.References.{touches-none, touches-next}
use Rattle.el_tree.proofs.TreeReadings.{scope-kept, literal-kept}
use Rattle.el_reader.specs.declared.scope.FixedPlaces.{FixedPlaces}
use Rattle.el_reader.specs.declared.scope.FixedPlaces.TheVariants.{Untested, Tested}
use Rattle.el_reader.specs.Inspections.{first_scope}
use Rattle.el_reader.specs.Known.{scope_with, marks_nothing, members_that_mark, lean}
use Rattle.el_reader.proofs.Indexes.{first-either}

-- ---- a member that doesn't touch a word puts nothing into it

-- what passes no test passes none that is more
none-more : {A : Type 0} (one more : A → Bool) → ((item : A) → one item ≡ false → more item ≡ false) → (items : List A) → list_any one items ≡ false → list_any more items ≡ false
none-more one more less [] none = refl
none-more one more less (item ∷ items) none = let both = or_parts (one item) (list_any one items) none in or_from (more item) (list_any more items) (less item both.0) (none-more one more less items both.1)

many-marked : (member : Member) (key : List ℕ) → marks member key ≡ false → marks_many member key ≡ false
many-marked member key none =
    let own : Marked → Bool = λ pair. bytes_eq pair.0 key in
    let own_many : Marked → Bool = λ pair. bytes_eq pair.0 key && is_many pair.1 in
    let both = or_parts (list_any own member.marked) (member.positional && is_positional key) none in
    or_from (list_any own_many member.marked) (member.positional && is_all key) (none-more own own_many (λ pair. and_left (own pair) (is_many pair.1)) member.marked both.0) (by member.positional both.1)
  where
    by : (positional : Bool) → (positional && is_positional key) ≡ false → (positional && is_all key) ≡ false
    by true none = (or_parts (is_all key) (bytes_eq key (codes "#") || is_plain_number key) none).0
    by false none = refl

untouched-puts : (member : Member) (parts : List Part) → list_any (touches member) parts ≡ false → list_any (puts_many member) parts ≡ false
untouched-puts member parts none = none-more (touches member) (puts_many member) by parts none
  where
    by : (part : Part) → touches member part ≡ false → puts_many member part ≡ false
    by (Byte byte) none = refl
    by (Reference slashes key text) none = and_right (not (slashes % 2 == 1)) (marks_many member key) (many-marked member key none)

-- ---- behind one that touches it

behind-touched : (members : List Member) (parts : List Part) → place_fault true members parts ≡ then_some (list_any has_many members) ManyAfterValue
behind-touched [] parts = refl
behind-touched (member ∷ members) parts = by (has_many member) (behind-touched members parts)
  where
    by : (many : Bool) → place_fault true members parts ≡ then_some (list_any has_many members) ManyAfterValue → (if many then Some ManyAfterValue else place_fault true members parts) ≡ then_some (many || list_any has_many members) ManyAfterValue
    by true rest = refl
    by false rest = rest

-- ---- the first that touches it

abbrev pub touching : List Part → Member → Bool
touching parts member = list_any (touches member) parts

-- what is said where the first puts in many words or not, and one behind it has a key of many words or not
abbrev pub decided : (puts many : Bool) → Option Fault
decided puts many = option_or (then_some puts ManyWordsInOnePlace) (then_some many ManyAfterValue)

-- the fault of a word that the first of these touches
abbrev fault_of_first : List Part → List Member → Option Fault
fault_of_first parts [] = None
fault_of_first parts (member ∷ behind) = decided (list_any (puts_many member) parts) (list_any has_many behind)

untouched-next : (member : Member) (members : List Member) (parts : List Part) → touching parts member ≡ false → place_fault false (member ∷ members) parts ≡ place_fault false members parts
untouched-next member members parts none =
    ap (λ (many : Bool). if many then Some ManyWordsInOnePlace else place_fault (list_any (touches member) parts) members parts) (untouched-puts member parts none)
    ∙ ap (λ (touched : Bool). place_fault touched members parts) none

touched-next : (member : Member) (members : List Member) (parts : List Part) → touching parts member ≡ true → place_fault false (member ∷ members) parts ≡ fault_of_first parts (member ∷ members)
touched-next member members parts touched = by (list_any (puts_many member) parts)
  where
    by : (puts : Bool) → (if puts then Some ManyWordsInOnePlace else place_fault (touching parts member) members parts) ≡ decided puts (list_any has_many members)
    by true = refl
    by false = ap (λ (touched : Bool). place_fault touched members parts) touched ∙ behind-touched members parts

first-decides : (members : List Member) (parts : List Part) (place : ℕ) → place ≡ position_or_len (touching parts) members → place_fault false members parts ≡ fault_of_first parts (drop place members)
first-decides [] parts zero is = refl
first-decides [] parts (suc place) is = refl
first-decides (first ∷ members) parts place is = by (touching parts first) refl place is (first-decides members parts)
  where
    by : (touched : Bool) → touching parts first ≡ touched → (place : ℕ) → place ≡ cond (not touched) (1 + position_or_len (touching parts) members) 0
        → ((place : ℕ) → place ≡ position_or_len (touching parts) members → place_fault false members parts ≡ fault_of_first parts (drop place members))
        → place_fault false (first ∷ members) parts ≡ fault_of_first parts (drop place (first ∷ members))
    by true touched zero is rest = touched-next first members parts touched
    by true touched (suc place) is rest = absurd (omega arith)
    by false none zero is rest = absurd (omega arith)
    by false none (suc place) is rest = untouched-next first members parts none ∙ rest place (omega arith)

-- it is right where none touches it
pub none-touching : (members : List Member) (parts : List Part) (place : ℕ) → place ≡ position_or_len (touching parts) members → place ≡ length members → place_fault false members parts ≡ None
none-touching members parts place is all = first-decides members parts place is ∙ ap (fault_of_first parts) (drop_all place members (omega arith))

pub first-touching : (members : List Member) (parts : List Part) (place : ℕ) (member : Member) → place ≡ position_or_len (touching parts) members → place < length members → member ≡ slice_index_or members place member
    → place_fault false members parts ≡ decided (list_any (puts_many member) parts) (list_any has_many (drop (suc place) members))
first-touching members parts place member is within at = first-decides members parts place is ∙ ap (fault_of_first parts) (drop-cons members place member within ∙ ap (λ first. first ∷ drop (suc place) members) (sym at))

-- ---- by the references of the word

pub touching-none : (members : List Member) (word : List ℕ) → references_of word ≡ [] → position_or_len (touching (parts_of word)) members ≡ length members
touching-none members word none = position_or_len_is (touching (parts_of word)) members (length members) empty_member (omega arith) (λ k before. touches-none (slice_index_or members k empty_member) word none) (λ before. absurd (omega arith))

pub touching-next : (members : List Member) (word rest : List ℕ) (slashes : ℕ) (key : List ℕ) → references_of word ≡ (slashes, key) ∷ references_of rest
    → position_or_len (touching (parts_of word)) members ≡ min (position_or_len (λ member. marks member key) members) (position_or_len (touching (parts_of rest)) members)
touching-next members word rest slashes key is =
    (λ i. position_or_len (λ (member : Member). touches-next member word rest slashes key is i) members) ∙ first-either (λ member. marks member key) (touching (parts_of rest)) members

pub literal-is-right : (scope : TestScope) (text : List ℕ) → is_literal text ≡ true → scope_fault scope text ≡ None
literal-is-right scope text literal = scope-kept scope text unplaced (literal-kept scope text literal)

pub ruleset scopes = (literal-is-right)

-- ---- one member more

pub lean-with : (scope : TestScope) (member : Member) → lean (scope_with scope member) ≡ (if marks_nothing member then lean scope else scope_with (lean scope) member)
lean-with None member = by (marks_nothing member)
  where
    by : (b : Bool) → lean None ≡ (if b then lean None else scope_with (lean None) member)
    by true = refl
    by false = refl
lean-with (Some members) member = ap Some (filter-append (λ member. not (marks_nothing member)) members (member ∷ [])) ∙ by (marks_nothing member)
  where
    by : (b : Bool) → Some (members_that_mark members ++ (if not b then member ∷ [] else [])) ≡ (if b then lean (Some members) else scope_with (lean (Some members)) member)
    by true = ap Some (append-nil (members_that_mark members))
    by false = refl

-- ---- the test of a fixed place

nothing-is : (member : Member) → marks_nothing member ≡ true → member ≡ empty_member
nothing-is member nothing = by member.marked member.positional nothing
  where
    by : (marked : List Marked) (positional : Bool) → marks_nothing (record { marked = marked; positional = positional }) ≡ true → record { marked = marked; positional = positional } ≡ empty_member
    by [] false nothing = refl
    by [] true nothing = absurd (true≢false (sym nothing))
    by (one ∷ marked) positional nothing = absurd (true≢false (sym nothing))

empty-touches : (parts : List Part) → touching parts empty_member ≡ false
empty-touches [] = refl
empty-touches (Byte byte ∷ parts) = empty-touches parts
empty-touches (Reference slashes key text ∷ parts) = empty-touches parts

lean-fault : (touched : Bool) (members : List Member) (parts : List Part) → place_fault touched (members_that_mark members) parts ≡ place_fault touched members parts
lean-fault touched [] parts = refl
lean-fault touched (member ∷ members) parts = by (marks_nothing member) refl touched (λ touched. lean-fault touched members parts)
  where
    by : (b : Bool) → marks_nothing member ≡ b → (touched : Bool) → ((touched : Bool) → place_fault touched (members_that_mark members) parts ≡ place_fault touched members parts)
        → place_fault touched (if not b then member ∷ members_that_mark members else members_that_mark members) parts ≡ place_fault touched (member ∷ members) parts
    by true nothing true same = same true ∙ sym (ap (λ (one : Member). place_fault true (one ∷ members) parts) (nothing-is member nothing))
    by true nothing false same = same false ∙ sym (ap (λ (one : Member). place_fault false (one ∷ members) parts) (nothing-is member nothing) ∙ untouched-next empty_member members parts (empty-touches parts))
    by false nothing true same = ap (λ (rest : Option Fault). if has_many member then Some ManyAfterValue else rest) (same true)
    by false nothing false same = ap (λ (rest : Option Fault). if list_any (puts_many member) parts then Some ManyWordsInOnePlace else rest) (same (list_any (touches member) parts))

scope-fault : (scope : TestScope) (text : List ℕ) → scope_fault (lean scope) text ≡ scope_fault scope text
scope-fault None text = refl
scope-fault (Some members) text = ap (option_map At) (lean-fault false members (parts_of text))

-- ---- a level

kind-fault : (scope : TestScope) (program : Prog) (in_directives : Bool) (kinds : List PlaceKind) (next : Next) → kind_fault (lean scope) program in_directives kinds next ≡ kind_fault scope program in_directives kinds next
kind-fault scope program in_directives (Fixed ∷ kinds) (Text text) = scope-fault scope text
kind-fault scope program in_directives (OptionalWord ∷ kinds) (Text text) = scope-fault scope text
kind-fault scope program in_directives (Name ∷ kinds) Over = refl
kind-fault scope program in_directives kinds next = refl

head-fault : (scope : TestScope) (head : Head) (waiting : Option (List ℕ)) (in_directives : Bool) (next : Next) → head_fault (lean scope) head waiting in_directives next ≡ head_fault scope head waiting in_directives next
head-fault scope head (Some text) in_directives next = refl
head-fault scope head None in_directives next =
    let read = options_of (shape_of head.program).letters head.options in
    ap (λ (place : Option PlacedFault). if is_unplaced head.places then options_fault head.program (letters_in read) (ends_in read) (shown_by (shape_of head.program).letters next) next place else place)
    (kind-fault scope head.program in_directives (kinds_left head) next)

pub lean-level-fault : (scope : TestScope) (level : Level) (next : Next) → level_fault (lean scope) level next ≡ level_fault scope level next
lean-level-fault scope (Chained nodes (Current head)) next = head-fault scope head head.waiting false next
lean-level-fault scope (Directed directives (Some head)) next = head-fault scope head head.waiting true next
lean-level-fault scope level next = refl

-- ---- what a program marks

pub own-marks : (program : Prog) (letters : List Letter) (places : Places) → (program ≡ Multisubstitute → ⊥) → own_member program letters places ≡ member_of program letters places
own-marks Multisubstitute letters places other = absurd (other refl)
own-marks program letters places other = refl

-- ---- behind a program

-- a loop without `E` marks nothing, and nor does any other program whose member isn't in force for its rest
idle : (program : Prog) (letters : List Letter) (places : Places) → adds_member program letters ≡ false → marks_nothing (member_of program letters places) ≡ true
unfolding shape_of
idle Forx _ places stops = ap (λ b. marks_nothing (record { marked = if b then (first_text places, One) ∷ [] else []; positional = false })) stops
idle Forstdin _ places stops = ap (λ b. marks_nothing (record { marked = if b then (first_text places, One) ∷ [] else []; positional = false })) stops
idle Forbacktickx _ places stops = ap (λ b. marks_nothing (record { marked = if b then (first_text places, One) ∷ [] else []; positional = false })) stops
idle program _ places stops = cc

-- the scope that is kept behind a program is that with its member, whatever the program is
pub scope-marked : (scope : TestScope) (node : Node) → lean (scope_behind scope node) ≡ lean (scope_with scope (member_of node.prog (letters_of node.prog node.options) node.places))
scope-marked None node = refl
scope-marked (Some members) node = by (adds_member node.prog (letters_of node.prog node.options)) refl
  where
    member : Member
    member = member_of node.prog (letters_of node.prog node.options) node.places

    by : (adds : Bool) → adds_member node.prog (letters_of node.prog node.options) ≡ adds → lean (Some (members_behind adds members member)) ≡ lean (scope_with (Some members) member)
    by true is = refl
    by false is =
        sym (lean-with (Some members) member ∙ ap (λ b. if b then lean (Some members) else scope_with (lean (Some members)) member) (idle node.prog (letters_of node.prog node.options) node.places is))

-- ---- before anything is read

pub lean-first : (places : FixedPlaces) → first_scope places ≡ lean (first_scope places)
lean-first Untested = refl
lean-first (Tested true) = refl
lean-first (Tested false) = refl
