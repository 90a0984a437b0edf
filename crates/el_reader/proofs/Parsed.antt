-- The clauses of `parse`: where the braces match a tree or a fault is computed, and without a scope never that many words may come after a value.
use Rattle.el_script.proofs.Vocabulary.{Args, nothing, word, group, Prog, program_named, number_of, Token, TokenShape, Close, shapes_of, shapes_in, Opt, PlaceKind, Name, Fixed, OptionalNumber, OptionalWord, Letter, Flags, Last, Bad, Shown, Dashes, Letters, is_bad_number, shape_of, lacks_letter, options_of, is_number_text, Fault, OptionNotLiteral, BadOption, BadNumber, ManyAfterValue, OptionFromValue, PlacedFault, At, Before, TestScope, Head, Current, Level, Chained, Named, Directed, Beginning, kinds_left, scope_at, scope_behind_all, scope_within, Unmatched, answer, is_literal, letters_in, ◌or_else◌, where_true, rank, fault_of, Next, Over, name_fault, names_directive, directive_fault, is_loop, kind_fault, value_fault, shown_by, unended_fault, text_in, options_fault, waiting_letter, is_unplaced, ends_in, head_fault, level_fault, fault_after, Tree, Closes, answer-is-right}
use Rattle.std.proofs.Common.{◌≡◌, ℕ, suc, List, [], ◌∷◌, ◌++◌, append_assoc, append-nil, sym, ◌∙◌, subst, Bool, true, false, ◌&&◌, not, if◌then◌else◌, Option, Some, None, refl, ap, Result, Ok, Err}
use Rattle.std.specs.Prelude.{nat_lt, is_none}
use Rattle.el_options.specs.Rules.{is_wrong_use}
use Rattle.el_tree.specs.declared.fault.Fault.TheVariants.{BlockMissing, BlockNotLiteral, NameNotLiteral, BadDirective, ArgumentMissing}
use Rattle.el_tree.specs.declared.tree.Node.{Node}
use Rattle.el_tree.specs.Faults.{Text, is_empty, option_fault}
use Rattle.el_tree.specs.FirstFault.{next_of}
use Rattle.el_tree.proofs.Answered.{IsRight, is-right}
use Rattle.el_reader.specs.declared.tree_fault.TreeKind.{TreeKind}
use Rattle.el_reader.specs.declared.reader.Misread.{Misread}
use Rattle.el_reader.specs.Parses.{AreMatched, Parses, fault_of_kind, IsFaultOrMemory}
use Rattle.el_reader.specs.Readers.{answer_told}

args-close : (args : Args) (depth : ℕ) (after : List TokenShape) → Closes depth after → Closes depth (shapes_in args ++ after)
args-close nothing depth after close = close
args-close (word text rest) depth after close = args-close rest depth after close
args-close (group inside rest) depth after close =
    subst (Closes (suc depth)) (sym (append_assoc (shapes_in inside) (Close ∷ shapes_in rest) after)) (args-close inside (suc depth) (Close ∷ (shapes_in rest ++ after)) (args-close rest depth after close))

pub matched-close : (tokens : List Token) → AreMatched tokens → Closes 0 (shapes_of tokens)
matched-close tokens matched = subst (Closes 0) (append-nil (shapes_in matched.args) ∙ matched.are_tokens) (args-close matched.args 0 [] tt)

pub matched-is-answered : (scope : TestScope) (tokens : List Token) → AreMatched tokens → answer scope tokens ≡ Unmatched → ⊥
matched-is-answered scope tokens matched is = subst (IsRight scope tokens) is (is-right scope tokens) (matched-close tokens matched)

-- ---- faults of other kinds

abbrev IsOther : Fault → Type 0
IsOther ManyAfterValue = ⊥
IsOther _ = Unit {0}

abbrev IsOtherOrNone : Option PlacedFault → Type 0
IsOtherOrNone None = Unit {0}
IsOtherOrNone (Some found) = IsOther (fault_of found)

if-other : (b : Bool) (one other : Option PlacedFault) → IsOtherOrNone one → IsOtherOrNone other → IsOtherOrNone (if b then one else other)
if-other true one other is too = is
if-other false one other is too = too

or-other : (one other : Option PlacedFault) → IsOtherOrNone one → IsOtherOrNone other → IsOtherOrNone (one or_else other)
or-other None other is too = too
or-other (Some found) None is too = is
or-other (Some found) (Some other) is too = if-other (nat_lt (rank (fault_of other)) (rank (fault_of found))) (Some other) (Some found) too is

where-other : (b : Bool) (found : PlacedFault) → IsOther (fault_of found) → IsOtherOrNone (where_true b found)
where-other true found is = is
where-other false found is = tt

where-or : (b : Bool) (found : PlacedFault) (other : Option PlacedFault) → IsOther (fault_of found) → IsOtherOrNone other → IsOtherOrNone (where_true b found or_else other)
where-or b found other is too = or-other (where_true b found) other (where-other b found is) too

-- ---- names, directives and places

name-other : (next : Next) → IsOtherOrNone (name_fault next)
name-other (Text text) = where-other (not (is_literal text)) (At NameNotLiteral) tt
name-other next = tt

directive-other : (next : Next) → IsOtherOrNone (directive_fault next)
directive-other (Text text) = where-other (not (names_directive (program_named text))) (At BadDirective) tt
directive-other next = tt

block-other : (literal : Bool) → IsOther (if literal then BlockMissing else BlockNotLiteral)
block-other true = tt
block-other false = tt

kind-other : (program : Prog) (in_directives : Bool) (kinds : List PlaceKind) (next : Next) → IsOtherOrNone (kind_fault None program in_directives kinds next)
kind-other program true [] next = directive-other next
kind-other program false [] Over = where-other (is_loop program) (Before ArgumentMissing) tt
kind-other program in_directives (Name ∷ kinds) (Text text) = name-other (Text text)
kind-other program in_directives (Fixed ∷ kinds) (Text text) = tt
kind-other program in_directives (OptionalWord ∷ kinds) (Text text) = tt
kind-other program in_directives (OptionalNumber ∷ kinds) (Text text) = where-or (not (is_literal text)) (At OptionNotLiteral) _ tt (where-other (is_number_text text && is_none (number_of text)) (At BadNumber) tt)
kind-other program in_directives (kind ∷ kinds) (Text text) = block-other (is_literal text)
kind-other program in_directives kinds next = tt

-- ---- options

option-other : (program : Prog) (text : List ℕ) (shown : Shown) → IsOtherOrNone (option_fault program text shown)
option-other program text (Letters (Flags letters)) = where-other (not (is_literal text)) (At OptionNotLiteral) tt
option-other program text (Letters (Bad letter)) = where-or (not (is_literal text)) (At OptionNotLiteral) (Some (At BadOption)) tt tt
option-other program text (Letters (Last flags letter value)) =
    where-or (not (is_literal text)) (At OptionNotLiteral) _ tt (where-other (not (is_empty value) && is_bad_number ((shape_of program).rule letter) value) (At BadNumber) tt)
option-other program text shown = tt

value-other : (program : Prog) (letter : ℕ) (next : Next) → IsOtherOrNone (value_fault program letter next)
value-other program letter (Text text) =
    where-or (not (is_literal text)) (At OptionNotLiteral) _ tt
    (where-or (is_wrong_use ((shape_of program).rule letter) text) (Before BadOption) _ tt (where-other (is_bad_number ((shape_of program).rule letter) text) (At BadNumber) tt))
value-other program letter next = tt

unended-other : (opts : Option (List Opt)) (ended : Bool) (next : Next) → IsOtherOrNone (unended_fault opts ended next)
unended-other (Some opts) false (Text text) = where-other (not (is_literal text)) (At OptionFromValue) tt
unended-other _ _ _ = tt

options-other : (program : Prog) (letters : List Letter) (ended : Bool) (shown : Shown) (next : Next) (place : Option PlacedFault) → IsOtherOrNone place → IsOtherOrNone (options_fault program letters ended shown next place)
options-other program letters false (Letters cluster) next place is = option-other program (text_in next) (Letters cluster)
options-other program letters false Dashes next place is = tt
options-other program letters ended _ next place is =
    where-or (lacks_letter (shape_of program) letters) (Before BadOption) _ tt
    (or-other place (unended_fault (shape_of program).letters ended next) is (unended-other (shape_of program).letters ended next))

-- ---- levels

head-other : (head : Head) (waiting : Option (List ℕ)) (in_directives : Bool) (next : Next) → IsOtherOrNone (head_fault None head waiting in_directives next)
head-other head (Some text) in_directives next = value-other head.program (waiting_letter (shown_by (shape_of head.program).letters (Text text))) next
head-other head None in_directives next =
    let read = options_of (shape_of head.program).letters head.options in
    let place = kind_fault None head.program in_directives (kinds_left head) next in
    let is = kind-other head.program in_directives (kinds_left head) next in
    if-other (is_unplaced head.places) _ place (options-other head.program (letters_in read) (ends_in read) (shown_by (shape_of head.program).letters next) next place is) is

level-other : (level : Level) (next : Next) → IsOtherOrNone (level_fault None level next)
level-other (Chained nodes (Current head)) next = head-other head head.waiting false next
level-other (Named names) next = name-other next
level-other (Directed directives None) next = directive-other next
level-other (Directed directives (Some head)) next = head-other head head.waiting true next
level-other level next = tt

-- in no level there is a scope where the script has none
none-behind : (nodes : List Node) → scope_behind_all None nodes ≡ None
none-behind [] = refl
none-behind (node ∷ nodes) = none-behind nodes

none-at : (level : Level) → scope_at None level ≡ None
none-at (Chained nodes tail) = none-behind nodes
none-at level = refl

none-within : (around : List Level) → scope_within None around ≡ None
none-within [] = refl
none-within (outer ∷ around) = ap (λ s. scope_at s outer) (none-within around) ∙ none-at outer

after-other : (beginning : Beginning) (next : Next) → IsOtherOrNone (fault_after None beginning next)
after-other beginning next = subst (λ s. IsOtherOrNone (level_fault s beginning.level next)) (sym (none-within (beginning.level ∷ beginning.around))) (level-other beginning.level next)

-- ---- answers, by what is read of a copy of the tokens

module _ (tokens copy : List Token) (read : Result Tree Misread) (told : answer_told read ≡ answer None copy) (same : copy ≡ tokens) where
  answered : (result : Result Tree Misread) → read ≡ result → answer None tokens ≡ answer_told result
  answered result is = ap (answer None) (sym same) ∙ sym told ∙ ap answer_told is

  pub tree-parsed : (tree : Tree) → read ≡ Ok tree → Parses tokens tree
  tree-parsed tree is = let right = (answer-is-right None tokens).0 tree (answered (Ok tree) is) in record { well_formed = right.0; are_tokens = right.1 }

  pub fault-parsed : (misread : Misread) (kind : TreeKind) → read ≡ Err misread → fault_of_kind kind ≡ Some misread.fault → IsFaultOrMemory tokens (fault_of_kind kind) misread.line
  fault-parsed misread kind is fault = subst (λ fault. IsFaultOrMemory tokens fault misread.line) (sym fault) ((answer-is-right None tokens).1 misread.fault misread.line (answered (Err misread) is))

  -- what is read is no fault of many words after a value
  pub never-many : (misread : Misread) → read ≡ Err misread → misread.fault ≡ ManyAfterValue → ⊥
  never-many misread is many =
      let fault = (answer-is-right None tokens).1 misread.fault misread.line (answered (Err misread) is) in
      subst IsOther (fault.is_fault ∙ many) (subst IsOtherOrNone fault.is_found (after-other fault.beginning (next_of fault.after)))
