-- Reading on, token by token. Only the code's reader and the proofs need it. A fault is looked for first, so what a step does
-- where there is one says nothing.
use Rattle.std.specs.Prelude.{ℕ, Bool, true, false, ◌&&◌, not, List, [], ◌∷◌, ◌++◌, Option, None, Some, if◌then◌else◌}
use Rattle.el_words.specs.declared.prog.Prog.{Prog}
use Rattle.el_words.specs.declared.prog.Prog.TheVariants.{Exit}
use Rattle.el_words.specs.Prog.{program_named}
use Rattle.el_words.specs.Args.{nothing, word, group, ◌+++◌}
use Rattle.el_lex.specs.declared.token.Token.{Token}
use Rattle.el_lex.specs.declared.token.Token.TheVariants.{Close as CloseToken}
use Rattle.el_blocks.specs.Tokens.{TokenShape, Text, Open, Close, shape_of as shape_of_token}
use Rattle.el_options.specs.declared.place.PlaceKind.{PlaceKind}
use Rattle.el_options.specs.declared.place.PlaceKind.TheVariants.{ProgramBlock, ValueBlock, NameBlock, DirectiveBlock, OptionalNumber}
use Rattle.el_options.specs.Reading.{Last, Shown, Plain, Letters}
use Rattle.el_options.specs.Shapes.{shape_of}
use Rattle.el_options.specs.Fronts.{options_of, is_number_text}
use Rattle.el_tree.specs.declared.fault.Fault.{Fault}
use Rattle.el_tree.specs.declared.fault.PlacedFault.{PlacedFault}
use Rattle.el_tree.specs.declared.tree.Node.{Node}
use Rattle.el_tree.specs.Trees.{Tree, End, Command, Node as node_tree, Places, unplaced, one_place, text_place, block_place, values_place, names_place, directives_place}
use Rattle.el_tree.specs.Lists.{directives_of, ◌with_places◌}
use Rattle.el_tree.specs.Beginnings.{Head, Tail, Fresh, Current, Commanded, Level, Chained, Listed, Named, Directed, Beginning, at_start, kinds_left, written_level, TestScope}
use Rattle.el_tree.specs.Faults.{Next, Over, Text as NextText, Group, shown_by, is_unplaced, ends_in, fault_of, fault_after}
use Rattle.el_tree.specs.FirstFault.{next_of, line_of}

-- ---- heads

-- a program of which only the name was read
abbrev pub head_start : Prog → Head
head_start program = record { program = program; options = []; waiting = None; places = unplaced }

-- with one more place behind those that were read
abbrev pub with_place : Head → Places → Head
with_place head place = record head { places = head.places with_places place }

-- a current program or directive as a finished one
abbrev pub node_of : Head → Node
node_of head = record { prog = head.program; options = head.options; places = head.places }

-- a token is the current program's own, which makes it this one; or it isn't its own
pub data Owned : Type 0 where
  Own : Head → Owned
  Foreign : Owned

-- a word at the next place
abbrev pub text_at : Head → List PlaceKind → (text : List ℕ) → Owned
text_at head [] text = Foreign
text_at head (OptionalNumber ∷ kinds) text = if is_number_text text then Own (with_place head (one_place (text_place text) unplaced)) else Foreign
text_at head (kind ∷ kinds) text = Own (with_place head (one_place (text_place text) unplaced))

-- a word where options are read: no option, an option that waits for its value, or another one
abbrev pub option_at : Head → (text : List ℕ) → Shown → (else_place : Owned) → Owned
option_at head text Plain else_place = else_place
option_at head text (Letters (Last flags letter [])) else_place = Own (record head { waiting = Some text })
option_at head text _ else_place = Own (record head { options = head.options ++ text ∷ [] })

-- options are read: no place was read yet, and no `--`
abbrev pub reads_options : Head → Bool
reads_options head = is_unplaced head.places && not (ends_in (options_of (shape_of head.program).letters head.options))

-- a word behind a program's own tokens: a value that a letter waits for, an option, or a word at the next place
abbrev pub text_for : Head → (waiting : Option (List ℕ)) → (text : List ℕ) → Owned
text_for head (Some option) text = Own (record head { options = head.options ++ option ∷ text ∷ []; waiting = None })
text_for head None text =
    let place = text_at head (kinds_left head) text in
    if reads_options head then option_at head text (shown_by (shape_of head.program).letters (NextText text)) place else place

-- the level that an Open begins at the next place; none where no block stands there
abbrev pub opened_at : List PlaceKind → Option Level
opened_at (ProgramBlock ∷ kinds) = Some (Chained [] Fresh)
opened_at (ValueBlock ∷ kinds) = Some (Listed nothing)
opened_at (NameBlock ∷ kinds) = Some (Named [])
opened_at (DirectiveBlock ∷ kinds) = Some (Directed [] None)
opened_at _ = None

-- ---- words

-- a chain goes on with this word
abbrev pub tail_named : Option Prog → (text : List ℕ) → Tail
tail_named None text = Commanded (word text nothing)
tail_named (Some program) text = Current (head_start program)

-- a word behind a program may begin another one: behind exit stands a command
abbrev pub goes_on : Prog → Bool
goes_on Exit = false
goes_on _ = true

-- the program that a word behind another one begins, if any
abbrev pub named_behind : Prog → (named : Option Prog) → Option Prog
named_behind program named = if goes_on program then named else None

-- a chain goes on behind this program with this word
abbrev pub tail_behind : Prog → (text : List ℕ) → Tail
tail_behind program text = tail_named (named_behind program (program_named text)) text

-- the word is the current program's own, or stands behind it, which is finished then
abbrev pub chain_owned : List Node → Head → (text : List ℕ) → Owned → Level
chain_owned nodes head text (Own more) = Chained nodes (Current more)
chain_owned nodes head text Foreign = Chained (nodes ++ node_of head ∷ []) (tail_behind head.program text)

-- a block of directives goes on with the directive that a word names, if any
abbrev pub directive_named : Option Prog → Option Head
directive_named None = None
directive_named (Some program) = Some (head_start program)

-- the word is the current directive's own, or begins the next one
abbrev pub directive_owned : List Node → Head → (text : List ℕ) → Owned → Level
directive_owned nodes head text (Own more) = Directed nodes (Some more)
directive_owned nodes head text Foreign = Directed (nodes ++ node_of head ∷ []) (directive_named (program_named text))

-- a level with one more word
abbrev pub with_text : Level → (text : List ℕ) → Level
with_text (Chained nodes Fresh) text = Chained nodes (tail_named (program_named text) text)
with_text (Chained nodes (Current head)) text = chain_owned nodes head text (text_for head head.waiting text)
with_text (Chained nodes (Commanded items)) text = Chained nodes (Commanded (items +++ word text nothing))
with_text (Listed items) text = Listed (items +++ word text nothing)
with_text (Named names) text = Named (names ++ text ∷ [])
with_text (Directed nodes None) text = Directed nodes (directive_named (program_named text))
with_text (Directed nodes (Some head)) text = directive_owned nodes head text (text_for head head.waiting text)

-- ---- blocks

-- an Open in a level: the level behind it, and the one that it begins
pub record Opened : Type 0 where
  pub outer : Level
  pub inner : Level

-- an Open behind a program: it begins a block at a place, or a command whose first item is a group
abbrev pub chain_opened : List Node → Head → Option Level → Opened
chain_opened nodes head (Some inner) = record { outer = Chained nodes (Current head); inner = inner }
chain_opened nodes head None = record { outer = Chained (nodes ++ node_of head ∷ []) (Commanded nothing); inner = Listed nothing }

-- an Open behind a directive: it begins a block at a place
abbrev pub directive_opened : List Node → Head → Option Level → Opened
directive_opened nodes head (Some inner) = record { outer = Directed nodes (Some head); inner = inner }
directive_opened nodes head None = record { outer = Directed nodes (Some head); inner = Listed nothing }

-- a level with an Open
abbrev pub with_open : Level → Opened
with_open (Chained nodes Fresh) = record { outer = Chained nodes (Commanded nothing); inner = Listed nothing }
with_open (Chained nodes (Current head)) = chain_opened nodes head (opened_at (kinds_left head))
with_open (Directed nodes (Some head)) = directive_opened nodes head (opened_at (kinds_left head))
with_open level = record { outer = level; inner = Listed nothing }

-- ---- levels that are closed

-- programs, before this rest
abbrev pub tree_before : List Node → (rest : Tree) → Tree
tree_before [] rest = rest
tree_before (node ∷ nodes) rest = node_tree node.prog node.options node.places (tree_before nodes rest)

-- what a chain ends in, as the rest of its programs
abbrev pub tail_tree : Tail → Tree
tail_tree Fresh = End
tail_tree (Current head) = node_tree head.program head.options head.places End
tail_tree (Commanded items) = Command items

-- the directives of a block that is closed, the current one among them
abbrev pub closed_directives : List Node → Option Head → List Node
closed_directives nodes None = nodes
closed_directives nodes (Some head) = nodes ++ node_of head ∷ []

-- a closed level as a place
abbrev pub closed : Level → Places
closed (Chained nodes tail) = one_place (block_place (tree_before nodes (tail_tree tail))) unplaced
closed (Listed items) = one_place (values_place items) unplaced
closed (Named names) = one_place (names_place names) unplaced
closed (Directed nodes current) = one_place (directives_place (directives_of (closed_directives nodes current))) unplaced

-- an outer level with a closed one in it
abbrev pub with_closed : (outer inner : Level) → Level
with_closed (Chained nodes (Current head)) inner = Chained nodes (Current (with_place head (closed inner)))
with_closed (Chained nodes (Commanded items)) inner = Chained nodes (Commanded (items +++ group (written_level inner) nothing))
with_closed (Listed items) inner = Listed (items +++ group (written_level inner) nothing)
with_closed (Directed nodes (Some head)) inner = Directed nodes (Some (with_place head (closed inner)))
with_closed outer inner = outer

-- ---- one more token

-- levels with one more token; a Close of the outermost one changes nothing
abbrev pub push_in : Level → (around : List Level) → TokenShape → Beginning
push_in level around (Text text) = record { level = with_text level text; around = around }
push_in level around Open = record { level = (with_open level).inner; around = (with_open level).outer ∷ around }
push_in level [] Close = record { level = level; around = [] }
push_in level (outer ∷ around) Close = record { level = with_closed outer level; around = around }

-- a beginning with one more token
abbrev pub push : Beginning → TokenShape → Beginning
push beginning token = push_in beginning.level beginning.around token

-- a token as what comes next; a Close is the end of a level
abbrev pub next_shape : TokenShape → Next
next_shape (Text text) = NextText text
next_shape Open = Group
next_shape Close = Over

-- a Close closes a level
abbrev pub Fits : TokenShape → (around : List Level) → Type 0
Fits Close [] = ⊥
Fits _ around = Unit {0}

-- ---- all tokens

-- what is read: a tree; a fault with its line; or, where the braces don't match, nothing
pub data Answer : Type 0 where
  TreeRead : Tree → Answer
  FaultRead : Fault → (line : ℕ) → Answer
  Unmatched : Answer

-- at the end: the tree of the outermost level; where another one is still open the braces don't match
abbrev pub end_answer_in : Level → (around : List Level) → Answer
end_answer_in (Chained nodes tail) [] = TreeRead (tree_before nodes (tail_tree tail))
end_answer_in _ around = Unmatched

-- the answer where the tokens end behind this beginning
abbrev pub end_answer : Beginning → Answer
end_answer beginning = end_answer_in beginning.level beginning.around

-- a Close with no open level
abbrev pub closes_nothing : Token → (around : List Level) → Bool
closes_nothing (CloseToken line) [] = true
closes_nothing token around = false

-- the fault with its line, if there is one, or else this answer
abbrev pub answer_or : (before after : List Token) → Option PlacedFault → (else_answer : Answer) → Answer
answer_or before after None else_answer = else_answer
answer_or before after (Some found) else_answer = FaultRead (fault_of found) (line_of before after found)

-- the answer to the tokens behind a beginning, where these were read before
abbrev pub answer_from : TestScope → Beginning → (before after : List Token) → Answer
answer_from scope beginning before [] = answer_or before [] (fault_after scope beginning Over) (end_answer beginning)
answer_from scope beginning before (token ∷ after) =
    answer_or before (token ∷ after) (fault_after scope beginning (next_of (token ∷ after)))
    (if closes_nothing token beginning.around then Unmatched else answer_from scope (push beginning (shape_of_token token)) (before ++ token ∷ []) after)

-- the tree or the first fault of tokens
abbrev pub answer : TestScope → List Token → Answer
answer scope tokens = answer_from scope at_start [] tokens
