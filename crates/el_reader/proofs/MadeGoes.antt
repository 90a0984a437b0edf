-- What is made goes on with each token that isn't wrong, by what the token is, and in the end it is the tree.
use Rattle.el_script.proofs.Vocabulary.{Prog, program_named, Args, nothing, group, ◌+++◌, TokenShape, Text, Open, Close, PlaceKind, ProgramBlock, ValueBlock, NameBlock, DirectiveBlock, OptionalNumber, Shown, Plain, Letters, Last, shape_of, is_number_text, End, unplaced, one_place, text_place, block_place, directives_place, directives_of, change_last, with_option, with_one_place, Head, Fresh, Current, Commanded, Level, Chained, Listed, Named, Directed, TestScope, scope_at, scope_within, kinds_left, waiting_words, IsOfKind, MayOpen, Over, Group, shown_by, head_fault, level_fault, Owned, Own, Foreign, with_place, text_at, option_at, text_for, reads_options, node_of, opened_at, tail_named, named_behind, chain_owned, directive_named, directive_owned, with_text, Opened, chain_opened, directive_opened, with_open, tree_before, closed, with_closed, push_in, next_shape, Fits, TreeRead, end_answer_in, never-some, bare-group-by}
use Rattle.std.proofs.Common.{◌≡◌, ℕ, Bool, true, false, if◌then◌else◌, List, [], ◌∷◌, ◌++◌, map, append-nil, append_assoc, Option, None, Some, refl, sym, ap, ap₂, ◌∙◌, subst}
use Rattle.el_tree.specs.declared.tree.Node.{Node}
use Rattle.el_tree.specs.Beginnings.{Tail, written_level, IsChain, AreAround}
use Rattle.el_tree.specs.Faults.{Text as NextText}
use Rattle.el_tree.specs.Steps.{tail_tree}
use Rattle.el_tree.specs.declared.tree.Last.TheVariants as last
use Rattle.el_tree.proofs.Facts.{plus-nothing}
use Rattle.el_tree.proofs.TreeReadings.{tree-append}
use Rattle.el_reader.specs.declared.role.Role.{Role}
use Rattle.el_reader.specs.declared.role.Role.TheVariants as role
use Rattle.el_reader.specs.declared.role.Part.{Part}
use Rattle.el_reader.specs.declared.role.Part.TheVariants.{Place as PlacePart, Block as BlockPart}
use Rattle.el_reader.specs.Roles.{first_kind, part_at, part_shown, part_for, begins, role_by, role_in, role_of}
use Rattle.el_reader.specs.declared.builder.Made.{Made}
use Rattle.el_reader.specs.declared.builder.Made.TheVariants as made
use Rattle.el_reader.specs.Made.{Built, built, made_node, made_of, changed, put_word, made_inside, made_outside, made_place, with_group, made_closed, put, made_tree}
use Rattle.el_reader.specs.Laws.{Makes, MakesTree}
use Rattle.el_reader.proofs.KnownHeads.{tree-of}

-- ---- what becomes of the last one

change-last : (change : Node → Node) (nodes : List Node) (node : Node) → change_last change (nodes ++ node ∷ []) ≡ nodes ++ change node ∷ []
change-last change (first ∷ next ∷ nodes) node = ap (λ nodes. first ∷ nodes) (change-last change (next ∷ nodes) node)
change-last change nodes node = refl

-- with these option words
abbrev node_with : Head → (options : List (List ℕ)) → Node
node_with head options = record { prog = head.program; options = options; places = head.places }

-- where no option word waits, the current program is made as a finished one
bare : (head : Head) → head.waiting ≡ None → made_node head ≡ node_of head
bare head none = ap (node_with head) (ap (λ waiting. head.options ++ waiting_words waiting) none ∙ append-nil head.options)

-- ---- a word to a program

-- what becomes of the program agrees with what the word is
abbrev Agrees : Head → (text : List ℕ) → Option Part → Owned → Type 0
Agrees head text None Foreign = head.waiting ≡ None
Agrees head text (Some PlacePart) (Own more) = made_node more ≡ with_one_place (one_place (text_place text) unplaced) (made_node head)
Agrees head text (Some (BlockPart kind)) owned = ⊥
Agrees head text (Some part) (Own more) = made_node more ≡ with_option text (made_node head)
Agrees head text part owned = ⊥

module _ (head : Head) (text : List ℕ) (none : head.waiting ≡ None) where
  -- by a test, both are one or the other
  if-agrees : (b : Bool) (part other_part : Option Part) (owned other_owned : Owned) → Agrees head text part owned → Agrees head text other_part other_owned
      → Agrees head text (if b then part else other_part) (if b then owned else other_owned)
  if-agrees true part other_part owned other_owned is too = is
  if-agrees false part other_part owned other_owned is too = too

  at-place : (kinds : List PlaceKind) → Agrees head text (part_at (first_kind kinds) (NextText text)) (text_at head kinds text)
  at-place [] = none
  at-place (OptionalNumber ∷ kinds) = if-agrees (is_number_text text) (Some PlacePart) None (Own (with_place head (one_place (text_place text) unplaced))) Foreign refl none
  at-place (_ ∷ kinds) = refl

  -- no option word waits before this one
  before : (head.options ++ waiting_words head.waiting) ++ text ∷ [] ≡ head.options ++ text ∷ []
  before = ap (λ waiting. (head.options ++ waiting_words waiting) ++ text ∷ []) none ∙ ap (λ options. options ++ text ∷ []) (append-nil head.options)

  optioned : made_node (record head { options = head.options ++ text ∷ [] }) ≡ with_option text (made_node head)
  optioned = ap (node_with head) (ap (λ waiting. (head.options ++ text ∷ []) ++ waiting_words waiting) none ∙ append-nil (head.options ++ text ∷ []) ∙ sym before)

  waited : made_node (record head { waiting = Some text }) ≡ with_option text (made_node head)
  waited = ap (node_with head) (sym before)

  as-shown : (is : Shown) (part : Option Part) (owned : Owned) → Agrees head text part owned → Agrees head text (part_shown is part) (option_at head text is owned)
  as-shown Plain part owned agrees = agrees
  as-shown (Letters (Last flags letter [])) part owned agrees = waited
  as-shown read part owned agrees = optioned

  free : Agrees head text (part_for head None (NextText text)) (text_for head None text)
  free =
      let shown = shown_by (shape_of head.program).letters (NextText text) in
      let part = part_at (first_kind (kinds_left head)) (NextText text) in
      let owned = text_at head (kinds_left head) text in
      if-agrees (reads_options head) (part_shown shown part) part (option_at head text shown owned) owned (as-shown shown part owned (at-place (kinds_left head))) (at-place (kinds_left head))

agrees : (head : Head) (text : List ℕ) → Agrees head text (part_for head head.waiting (NextText text)) (text_for head head.waiting text)
agrees head text = by head.waiting refl
  where
    by : (waiting : Option (List ℕ)) → head.waiting ≡ waiting → Agrees head text (part_for head waiting (NextText text)) (text_for head waiting text)
    by None is = free head text is
    by (Some option) is =
        ap (node_with head) (append-nil (head.options ++ option ∷ text ∷ []) ∙ sym (append_assoc head.options (option ∷ []) (text ∷ [])) ∙ sym (ap (λ waiting. (head.options ++ waiting_words waiting) ++ text ∷ []) is))

-- ---- a word in a level

began : (nodes : List Node) (text : List ℕ) (named : Option Prog) → made_of (Chained nodes (tail_named named text)) ≡ put_word (begins named) text (made_of (Chained nodes Fresh))
began nodes text None = refl
began nodes text (Some program) = refl

directive-began : (nodes : List Node) (text : List ℕ) (named : Option Prog) → made_of (Directed nodes (directive_named named)) ≡ put_word (begins named) text (made.Directives nodes)
directive-began nodes text None = refl
directive-began nodes text (Some program) = refl

-- a word to a program or directive, where its level is made so of it
in-level : (make : Node → Made) (head : Head) (text : List ℕ) (begins : Role) (part : Option Part) (owned : Owned) (level : Owned → Made)
    → ((change : Node → Node) (node : Node) → changed change (make node) ≡ make (change node)) → ((more : Head) → level (Own more) ≡ make (made_node more))
    → level Foreign ≡ put_word begins text (make (node_of head)) → Agrees head text part owned → level owned ≡ put_word (role_by part begins) text (make (made_node head))
in-level make head text begins (Some PlacePart) (Own more) level changes own foreign is = own more ∙ ap make is ∙ sym (changes (with_one_place (one_place (text_place text) unplaced)) (made_node head))
in-level make head text begins None Foreign level changes own foreign is = foreign ∙ ap (λ node. put_word begins text (make node)) (sym (bare head is))
in-level make head text begins (Some (BlockPart kind)) owned level changes own foreign is = absurd is
in-level make head text begins (Some part) (Own more) level changes own foreign is = own more ∙ ap make is ∙ sym (changes (with_option text) (made_node head))
in-level make head text begins part owned level changes own foreign is = absurd is

word-put : (level : Level) (text : List ℕ) → made_of (with_text level text) ≡ put_word (role_in level (NextText text)) text (made_of level)
word-put (Chained nodes Fresh) text = began nodes text (program_named text)
word-put (Chained nodes (Current head)) text =
    in-level (λ node. made.Chain (nodes ++ node ∷ []) None) head text _ _ _ (λ owned. made_of (chain_owned nodes head text owned)) (λ change node. ap (λ nodes. made.Chain nodes None) (change-last change nodes node)) (λ more. refl)
    (began (nodes ++ node_of head ∷ []) text (named_behind head.program (program_named text))) (agrees head text)
word-put (Directed nodes None) text = directive-began nodes text (program_named text)
word-put (Directed nodes (Some head)) text =
    in-level (λ node. made.Directives (nodes ++ node ∷ [])) head text _ _ _ (λ owned. made_of (directive_owned nodes head text owned)) (λ change node. ap made.Directives (change-last change nodes node)) (λ more. refl)
    (directive-began (nodes ++ node_of head ∷ []) text (program_named text)) (agrees head text)
word-put level text = refl

-- ---- an Open in a level

-- before a group no option word waits for its value
pub group-behind : (scope : TestScope) (head : Head) (waiting : Option (List ℕ)) (in_directives : Bool) → head_fault scope head waiting in_directives Group ≡ None → waiting ≡ None
group-behind scope head None in_directives none = refl
group-behind scope head (Some option) in_directives none = absurd (never-some none)

either-way : {A : Type 0} (b : Bool) (one : A) → (if b then one else one) ≡ one
either-way true one = refl
either-way false one = refl

-- and it is no option word
pub group-part : (head : Head) → head.waiting ≡ None → part_for head head.waiting Group ≡ part_at (first_kind (kinds_left head)) Group
group-part head none =
    ap (λ waiting. part_for head waiting Group) none
    ∙ ap (λ is. if reads_options head then part_shown is (part_at (first_kind (kinds_left head)) Group) else part_at (first_kind (kinds_left head)) Group) (bare-group-by (shape_of head.program).letters true).0
    ∙ either-way (reads_options head) (part_at (first_kind (kinds_left head)) Group)

-- what is made of the level that an Open begins, and of the one around it
record IsOpened (is : Role) (level : Level) (opened : Opened) : Type 0 where
  inside : made_of opened.inner ≡ made_inside is
  outside : made_of opened.outer ≡ made_outside is (made_of level)

-- at the next place it begins a block, or else none stands there
at-next : (P : Option Part → Option Level → Type 0) → ((kind : PlaceKind) (inner : Level) → made_of inner ≡ made_inside (role.Own (BlockPart kind)) → P (Some (BlockPart kind)) (Some inner)) → P None None
    → (kinds : List PlaceKind) → P (part_at (first_kind kinds) Group) (opened_at kinds)
at-next P block none (ProgramBlock ∷ kinds) = block ProgramBlock (Chained [] Fresh) refl
at-next P block none (ValueBlock ∷ kinds) = block ValueBlock (Listed nothing) refl
at-next P block none (NameBlock ∷ kinds) = block NameBlock (Named []) refl
at-next P block none (DirectiveBlock ∷ kinds) = block DirectiveBlock (Directed [] None) refl
at-next P block none kinds = none

opens : (scope : TestScope) (level : Level) → level_fault scope level Group ≡ None → IsOpened (role_in level Group) level (with_open level)
opens scope (Chained nodes (Current head)) none =
    let still = group-behind scope head head.waiting false none in
    subst (λ part. IsOpened (role_by part role.Group) (Chained nodes (Current head)) (chain_opened nodes head (opened_at (kinds_left head)))) (sym (group-part head still))
    (at-next (λ part opened. IsOpened (role_by part role.Group) (Chained nodes (Current head)) (chain_opened nodes head opened)) (λ kind inner is. record { inside = is; outside = refl })
    (record { inside = refl; outside = ap (λ node. made.Chain (nodes ++ node ∷ []) (Some nothing)) (sym (bare head still)) }) (kinds_left head))
opens scope (Chained nodes (Commanded items)) none = record { inside = refl; outside = ap (λ items. made.Chain nodes (Some items)) (sym (plus-nothing items)) }
opens scope (Directed nodes (Some head)) none =
    subst (λ part. IsOpened (role_by part role.Group) (Directed nodes (Some head)) (directive_opened nodes head (opened_at (kinds_left head)))) (sym (group-part head (group-behind scope head head.waiting true none)))
    (at-next (λ part opened. IsOpened (role_by part role.Group) (Directed nodes (Some head)) (directive_opened nodes head opened)) (λ kind inner is. record { inside = is; outside = refl }) (record { inside = refl; outside = refl }) (kinds_left head))
opens scope level none = record { inside = refl; outside = refl }

-- ---- a level that ends

-- at the end no option word waits for its value
end-behind : (scope : TestScope) (head : Head) (waiting : Option (List ℕ)) (in_directives : Bool) → head_fault scope head waiting in_directives Over ≡ None → waiting ≡ None
end-behind scope head None in_directives none = refl
end-behind scope head (Some option) in_directives none = absurd (never-some none)

tree-made : (scope : TestScope) (nodes : List Node) (tail : Tail) → level_fault scope (Chained nodes tail) Over ≡ None → tree_before nodes (tail_tree tail) ≡ made_tree (made_of (Chained nodes tail))
tree-made scope nodes (Current head) none =
    sym (tree-of (nodes ++ made_node head ∷ []) last.End ∙ ap (λ node. tree_before (nodes ++ node ∷ []) End) (bare head (end-behind scope head head.waiting false none)) ∙ tree-append nodes (node_of head) End)
tree-made scope nodes Fresh none = sym (tree-of nodes last.End)
tree-made scope nodes (Commanded items) none = sym (tree-of nodes (last.Command items))

place-made : (scope : TestScope) (level : Level) → level_fault scope level Over ≡ None → closed level ≡ made_place (made_of level)
place-made scope (Chained nodes Fresh) none = ap (λ tree. one_place (block_place tree) unplaced) (tree-made scope nodes Fresh none)
place-made scope (Chained nodes (Current head)) none = ap (λ tree. one_place (block_place tree) unplaced) (tree-made scope nodes (Current head) none)
place-made scope (Chained nodes (Commanded items)) none = ap (λ tree. one_place (block_place tree) unplaced) (tree-made scope nodes (Commanded items) none)
place-made scope (Directed nodes (Some head)) none = ap (λ node. one_place (directives_place (directives_of (nodes ++ node ∷ []))) unplaced) (sym (bare head (end-behind scope head head.waiting true none)))
place-made scope level none = refl

group-made : (items : Args) (level : Level) → IsOfKind level (ValueBlock ∷ []) → items +++ group (written_level level) nothing ≡ with_group items (made_of level)
group-made items (Listed inside) is = refl
group-made items _ is = absurd is

-- a level that is closed in the one around it
closes : (scope : TestScope) (outer level : Level) → MayOpen outer level → level_fault scope level Over ≡ None → made_of (with_closed outer level) ≡ made_closed (made_of outer) (made_of level)
closes scope (Chained nodes (Current head)) level may none =
    ap (λ nodes. made.Chain nodes None)
    (ap (λ place. nodes ++ with_one_place place (made_node head) ∷ []) (place-made scope level none) ∙ sym (change-last (with_one_place (made_place (made_of level))) nodes (made_node head)))
closes scope (Chained nodes (Commanded items)) level may none = ap (λ items. made.Chain nodes (Some items)) (group-made items level may)
closes scope (Listed items) level may none = ap made.List (group-made items level may)
closes scope (Directed nodes (Some head)) level may none =
    ap made.Directives
    (ap (λ place. nodes ++ with_one_place place (made_node head) ∷ []) (place-made scope level none) ∙ sym (change-last (with_one_place (made_place (made_of level))) nodes (made_node head)))
closes scope outer level may none = absurd may

-- ---- any token

-- of a level, and of those around it
abbrev built_of : Made → (around : List Made) → Built
built_of level around = record { made = level; around = around }

put-in : (scope : TestScope) (level : Level) (around : List Level) (token : TokenShape) → AreAround level around → level_fault scope level (next_shape token) ≡ None → Fits token around
    → built (push_in level around token) ≡ put (role_of (record { level = level; around = around }) token) token (built_of (made_of level) (map made_of around))
put-in scope level around (Text text) are none fits = ap (λ inside. built_of inside (map made_of around)) (word-put level text)
put-in scope level around Open are none fits = let opened = opens scope level none in ap₂ (λ inside outside. built_of inside (outside ∷ map made_of around)) opened.inside opened.outside
put-in scope level [] Close are none fits = absurd fits
put-in scope level (outer ∷ around) Close are none fits = ap (λ inside. built_of inside (map made_of around)) (closes scope outer level are.1 none)

-- a token that isn't wrong is put where what it is says
pub makes : Makes
makes scope beginning token is none fits = put-in (scope_at (scope_within scope beginning.around) beginning.level) beginning.level beginning.around token is.outside none fits

-- ---- in the end

end-made : (scope : TestScope) (level : Level) → IsChain level → level_fault scope level Over ≡ None → end_answer_in level [] ≡ TreeRead (made_tree (made_of level))
end-made scope (Chained nodes tail) is none = ap TreeRead (tree-made scope nodes tail none)
end-made scope _ is none = absurd is

-- the tree is what is made
pub makes-tree : MakesTree
makes-tree scope beginning is none alone =
    ap (end_answer_in beginning.level) alone ∙ end-made (scope_at (scope_within scope beginning.around) beginning.level) beginning.level (subst (AreAround beginning.level) alone is.outside) none
