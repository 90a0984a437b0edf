-- What is read token by token is a beginning, and in the end one tree or one first fault, which is what is computed.
use Rattle.std.proofs.Common.{◌≡◌, List, [], ◌∷◌, ◌++◌, append_assoc, append-nil, Some, None, refl, sym, ap, ◌∙◌, subst, ℕ, zero, suc, Bool, true, false, if◌then◌else◌, length, Option, true≢false}
use Rattle.el_lex.specs.declared.token.Token.{Token}
use Rattle.el_lex.specs.declared.token.Token.TheVariants.{Word as WordToken, Close as CloseToken, Open as OpenToken}
use Rattle.el_blocks.specs.Tokens.{TokenShape, shapes_in, shapes_of, Text, Open, Close, shape_of}
use Rattle.el_tree.specs.declared.fault.PlacedFault.{PlacedFault}
use Rattle.el_tree.specs.declared.tree.Node.{Node}
use Rattle.el_tree.specs.Trees.{Tree, unplaced, one_place, block_place, tokens_of}
use Rattle.el_tree.specs.WellFormed.{IsWellFormed}
use Rattle.el_tree.specs.Beginnings.{Tail, Chained, Beginning, at_start, TestScope, printed, IsBeginning, Level, Fresh}
use Rattle.el_tree.specs.Faults.{Over, fault_of, fault_after}
use Rattle.el_tree.specs.Steps.{closed, tree_before, tail_tree, push, next_shape, Fits, push_in, Answer, TreeRead, FaultRead, Unmatched, end_answer, answer_or, answer_from, end_answer_in, answer, closes_nothing}
use Rattle.el_tree.specs.FirstFault.{next_of, line_of, IsFaultIn}
use Rattle.el_tree.specs.Readings.{ReadsTokens, IsTreeIn}
use Rattle.el_tree.specs.Laws.{Pushes, Ends, AnswerIsRight, TreeIsAnswered, FaultIsAnswered, OneTree, OneFault, NeverBothInTrees, NeverBoth}
use Rattle.el_tree.proofs.HeadReadings.{at, IsReadAs}
use Rattle.el_tree.proofs.TreeReadings.{KeepTree, AtStart, tree-read as reads-tree}
use Rattle.el_tree.proofs.Closing.{closed-tree}
use Rattle.el_tree.proofs.Pushing.{pushed}
use Rattle.el_tree.proofs.Facts.{if-false}
use Rattle.el_tree.proofs.Rereadings.{reread}

pub pushes : Pushes
pushes scope beginning token is none fits = let next = pushed scope beginning.level beginning.around token is none fits in (next.begins, next.prints)

tree-in : (scope : TestScope) (tree : Tree) → IsWellFormed tree → KeepTree scope tree → IsTreeIn scope tree
tree-in None tree formed keeps = formed
tree-in (Some members) tree formed keeps = record { well_formed = formed; keeps = keeps }

pub ends : Ends
ends scope nodes tail is none =
    let tree = closed-tree scope nodes tail is.within is.keeps none in
    (tree-in scope (tree_before nodes (tail_tree tail)) tree.is tree.keeps, ap shapes_in tree.are_written)

start-keeps : (scope : TestScope) → IsBeginning scope at_start
start-keeps scope = record { within = (tt, tt, tt); outside = tt; keeps = (tt, tt); keeps_outside = tt }

-- tokens that are read lead from a beginning to a beginning, which prints them behind the others
pub record IsRead (scope : TestScope) (from to : Beginning) (tokens : List TokenShape) : Type 0 where
  pub begins : IsBeginning scope to
  pub prints : printed to ≡ printed from ++ tokens

reads-on : (scope : TestScope) (from to : Beginning) (tokens : List TokenShape) → IsBeginning scope from → ReadsTokens scope from tokens to → IsRead scope from to tokens
reads-on scope from to [] is reads = record { begins = subst (IsBeginning scope) reads is; prints = ap printed (sym reads) ∙ sym (append-nil (printed from)) }
reads-on scope from to (token ∷ tokens) is reads =
    let next = pushed scope from.level from.around token is reads.0 reads.1 in
    let more = reads-on scope (push from token) to tokens next.begins reads.2 in
    record { begins = more.begins; prints = more.prints ∙ ap (λ (x : List TokenShape). x ++ tokens) next.prints ∙ append_assoc (printed from) (token ∷ []) tokens }

pub read-is : (scope : TestScope) (to : Beginning) (tokens : List TokenShape) → ReadsTokens scope at_start tokens to → IsRead scope at_start to tokens
read-is scope to tokens reads = reads-on scope at_start to tokens (start-keeps scope) reads

-- one token more is read
pub reads-more : (scope : TestScope) (from to : Beginning) (tokens : List TokenShape) (token : TokenShape) → ReadsTokens scope from tokens to → fault_after scope to (next_shape token) ≡ None → Fits token to.around → ReadsTokens scope from (tokens ++ token ∷ []) (push to token)
reads-more scope from to [] token reads none fits =
    (subst (λ b. fault_after scope b (next_shape token) ≡ None) (sym reads) none, subst (λ (b : Beginning). Fits token b.around) (sym reads) fits, ap (λ b. push b token) reads)
reads-more scope from to (first ∷ tokens) token reads none fits = (reads.0, reads.1, reads-more scope (push from first) to tokens token reads.2 none fits)

-- ---- in the end

pub tree-read : (scope : TestScope) (tokens : List Token) (nodes : List Node) (tail : Tail) → ReadsTokens scope at_start (shapes_of tokens) (record { level = Chained nodes tail; around = [] }) → fault_after scope (record { level = Chained nodes tail; around = [] }) Over ≡ None
    → IsTreeIn scope (tree_before nodes (tail_tree tail)) × (tokens_of (tree_before nodes (tail_tree tail)) ≡ shapes_of tokens)
tree-read scope tokens nodes tail reads none =
    let read = read-is scope (record { level = Chained nodes tail; around = [] }) (shapes_of tokens) reads in
    let end = ends scope nodes tail read.begins none in
    (end.0, end.1 ∙ read.prints)

pub fault-read : (scope : TestScope) (tokens before after : List Token) (to : Beginning) (found : PlacedFault) → before ++ after ≡ tokens → ReadsTokens scope at_start (shapes_of before) to → fault_after scope to (next_of after) ≡ Some found
    → IsFaultIn scope tokens (fault_of found) (line_of before after found)
fault-read scope tokens before after to found are reads wrong =
    let read = read-is scope to (shapes_of before) reads in
    record { before = before; after = after; beginning = to; found = found; are_tokens = are; begins = read.begins; is_read = read.prints; is_found = wrong; is_fault = refl; is_line = refl }

pub shapes-append : (before : List Token) (token : Token) → shapes_of (before ++ token ∷ []) ≡ shapes_of before ++ shape_of token ∷ []
shapes-append [] token = refl
shapes-append (first ∷ before) token = ap (λ (x : List TokenShape). shape_of first ∷ x) (shapes-append before token)

next-is : (token : Token) (after : List Token) → next_of (token ∷ after) ≡ next_shape (shape_of token)
next-is (WordToken line text) after = refl
next-is token after = refl

pub fits : (token : Token) (around : List Level) → closes_nothing token around ≡ false → Fits (shape_of token) around
fits (CloseToken line) [] closes = absurd (true≢false closes)
fits (CloseToken line) (outer ∷ around) closes = tt
fits token around closes = tt

closes : (token : Token) (around : List Level) → Fits (shape_of token) around → closes_nothing token around ≡ false
closes (CloseToken line) [] fit = absurd fit
closes (CloseToken line) (outer ∷ around) fit = refl
closes token around fit = refl

-- one token more
pub token-reads : (first : TestScope) (to : Beginning) (before : List Token) (token : Token) → ReadsTokens first at_start (shapes_of before) to → fault_after first to (next_shape (shape_of token)) ≡ None → Fits (shape_of token) to.around
    → ReadsTokens first at_start (shapes_of (before ++ token ∷ [])) (push to (shape_of token))
token-reads first to before token reads right fits =
    subst (λ (shapes : List TokenShape). ReadsTokens first at_start shapes (push to (shape_of token))) (sym (shapes-append before token)) (reads-more first at_start to (shapes_of before) (shape_of token) reads right fits)

-- ---- tokens that close open levels

-- behind so many open levels the tokens close these and their own
abbrev pub Closes : (depth : ℕ) → List TokenShape → Type 0
Closes depth (Text text ∷ shapes) = Closes depth shapes
Closes depth (Open ∷ shapes) = Closes (suc depth) shapes
Closes zero (Close ∷ shapes) = ⊥
Closes (suc depth) (Close ∷ shapes) = Closes depth shapes
Closes zero [] = Unit {0}
Closes (suc depth) [] = ⊥

closes-on : (token : Token) (level : Level) (around : List Level) (shapes : List TokenShape) → Closes (length around) (shape_of token ∷ shapes)
    → (closes_nothing token around ≡ false) × Closes (length (push_in level around (shape_of token)).around) shapes
closes-on (CloseToken line) level [] shapes close = absurd close
closes-on (CloseToken line) level (outer ∷ around) shapes close = (refl, close)
closes-on token level around shapes close = (refl, close)

-- ---- what is answered is right

-- where the braces match a tree or a fault is answered
abbrev pub IsRight : TestScope → List Token → Answer → Type 0
IsRight scope tokens (TreeRead tree) = IsTreeIn scope tree × (tokens_of tree ≡ shapes_of tokens)
IsRight scope tokens (FaultRead fault line) = IsFaultIn scope tokens fault line
IsRight scope tokens Unmatched = Closes 0 (shapes_of tokens) → ⊥

right-or : (scope : TestScope) (tokens before after : List Token) (found : Option PlacedFault) (other : Answer) → ((one : PlacedFault) → found ≡ Some one → IsFaultIn scope tokens (fault_of one) (line_of before after one)) → (found ≡ None → IsRight scope tokens other)
    → IsRight scope tokens (answer_or before after found other)
right-or scope tokens before after None other wrong right = right refl
right-or scope tokens before after (Some found) other wrong right = wrong found refl

right-end : (scope : TestScope) (tokens : List Token) (level : Level) (around : List Level) → ReadsTokens scope at_start (shapes_of tokens) (at level around) → fault_after scope (at level around) Over ≡ None
    → (Closes 0 (shapes_of tokens) → Closes (length around) []) → IsRight scope tokens (end_answer (at level around))
right-end scope tokens (Chained nodes tail) [] reads none close = tree-read scope tokens nodes tail reads none
right-end scope tokens level [] reads none close = absurd (read-is scope (at level []) (shapes_of tokens) reads).begins.outside
right-end scope tokens (Chained nodes tail) (outer ∷ around) reads none close = close
right-end scope tokens level (outer ∷ around) reads none close = close

right-if : (scope : TestScope) (tokens : List Token) (b : Bool) (other : Answer) → (b ≡ true → IsRight scope tokens Unmatched) → (b ≡ false → IsRight scope tokens other) → IsRight scope tokens (if b then Unmatched else other)
right-if scope tokens true other wrong right = wrong refl
right-if scope tokens false other wrong right = right refl

right-from : (scope : TestScope) (tokens before after : List Token) (to : Beginning) → before ++ after ≡ tokens → ReadsTokens scope at_start (shapes_of before) to → (Closes 0 (shapes_of tokens) → Closes (length to.around) (shapes_of after))
    → IsRight scope tokens (answer_from scope to before after)
right-from scope tokens before [] to are reads close =
    right-or scope tokens before [] (fault_after scope to Over) (end_answer to) (λ one wrong. fault-read scope tokens before [] to one are reads wrong)
    (λ none. right-end scope tokens to.level to.around (subst (λ t. ReadsTokens scope at_start (shapes_of t) to) (sym (append-nil before) ∙ are) reads) none close)
right-from scope tokens before (token ∷ after) to are reads close =
    right-or scope tokens before (token ∷ after) (fault_after scope to (next_of (token ∷ after))) _ (λ one wrong. fault-read scope tokens before (token ∷ after) to one are reads wrong)
    (λ none. right-if scope tokens (closes_nothing token to.around) _ (λ closing all. true≢false (sym closing ∙ (closes-on token to.level to.around (shapes_of after) (close all)).0))
    (λ closing. right-from scope tokens (before ++ token ∷ []) after (push to (shape_of token)) (append_assoc before (token ∷ []) after ∙ are)
    (token-reads scope to before token reads (sym (ap (fault_after scope to) (next-is token after)) ∙ none) (fits token to.around closing))
    (λ all. (closes-on token to.level to.around (shapes_of after) (close all)).1)))

pub is-right : (scope : TestScope) (tokens : List Token) → IsRight scope tokens (answer scope tokens)
is-right scope tokens = right-from scope tokens [] tokens at_start refl refl (λ close. close)

pub answer-is-right : AnswerIsRight
answer-is-right scope tokens = (
  λ tree is. subst (IsRight scope tokens) is (is-right scope tokens),
  λ fault line is. subst (IsRight scope tokens) is (is-right scope tokens),
)

-- ---- what is right is answered

found-or : (before after : List Token) (found is : Option PlacedFault) (other : Answer) → found ≡ is → answer_or before after found other ≡ answer_or before after is other
found-or before after found is other same = ap (λ found. answer_or before after found other) same

-- the answer behind tokens that are read is that of what they lead to
pub follows : (scope : TestScope) (from to : Beginning) (before middle after : List Token) → ReadsTokens scope from (shapes_of middle) to → answer_from scope from before (middle ++ after) ≡ answer_from scope to (before ++ middle) after
follows scope from to before [] after reads = ap (λ b. answer_from scope b before after) reads ∙ ap (λ t. answer_from scope to t after) (sym (append-nil before))
follows scope from to before (token ∷ middle) after reads =
    found-or before (token ∷ (middle ++ after)) _ None _ (ap (fault_after scope from) (next-is token (middle ++ after)) ∙ reads.0)
    ∙ if-false (closes_nothing token from.around) Unmatched _ (closes token from.around reads.1)
    ∙ follows scope (push from (shape_of token)) to (before ++ token ∷ []) middle after reads.2
    ∙ ap (λ t. answer_from scope to t after) (append_assoc before (token ∷ []) middle)

answer-so-far : (first : TestScope) (tokens : List Token) (to : Beginning) → ReadsTokens first at_start (shapes_of tokens) to → answer first tokens ≡ answer_from first to tokens []
answer-so-far first tokens to reads = sym (ap (answer first) (append-nil tokens)) ∙ follows first at_start to [] tokens [] reads

pub end-answered : (first : TestScope) (to : Beginning) (tokens : List Token) → ReadsTokens first at_start (shapes_of tokens) to → fault_after first to Over ≡ None → to.around ≡ [] → answer first tokens ≡ end_answer_in to.level []
end-answered first to tokens reads right alone = answer-so-far first tokens to reads ∙ found-or tokens [] (fault_after first to Over) None (end_answer to) right ∙ ap (end_answer_in to.level) alone

formed-in : (scope : TestScope) (tree : Tree) → IsTreeIn scope tree → IsWellFormed tree
formed-in None tree is = is
formed-in (Some members) tree is = is.well_formed

keeps-in : (scope : TestScope) (tree : Tree) → IsTreeIn scope tree → KeepTree scope tree
keeps-in None tree is = tt
keeps-in (Some members) tree is = is.keeps

-- a level that closes as a tree is answered as this tree
closed-answered : (end : Level) (tree : Tree) → closed end ≡ one_place (block_place tree) unplaced → end_answer_in end [] ≡ TreeRead tree
closed-answered (Chained nodes tail) tree is = let same : tree_before nodes (tail_tree tail) ≡ tree = cc in ap TreeRead same
closed-answered _ tree is = absurd (cc)

pub tree-is-answered : TreeIsAnswered
tree-is-answered scope tokens tree is are =
    let formed = formed-in scope tree is in
    let read : IsReadAs scope [] (Chained [] Fresh) (tokens_of tree) (block_place tree) = reads-tree scope [] AtStart tree formed.formed formed.commands (keeps-in scope tree is) in
    end-answered scope (at read.end []) tokens (subst (λ s. ReadsTokens scope at_start s (at read.end [])) are read.reads) read.over refl ∙ closed-answered read.end tree read.is_closed

pub fault-there : (scope : TestScope) (to : Beginning) (before after : List Token) (one : PlacedFault) → fault_after scope to (next_of after) ≡ Some one → answer_from scope to before after ≡ FaultRead (fault_of one) (line_of before after one)
fault-there scope to before [] one wrong = found-or before [] _ (Some one) _ wrong
fault-there scope to before (token ∷ after) one wrong = found-or before (token ∷ after) _ (Some one) _ wrong

pub fault-is-answered : FaultIsAnswered
fault-is-answered scope tokens fault line is =
    ap (answer_from scope at_start []) (sym is.are_tokens)
    ∙ follows scope at_start is.beginning [] is.before is.after (subst (λ shapes. ReadsTokens scope at_start shapes is.beginning) is.is_read (reread scope is.beginning is.begins))
    ∙ fault-there scope is.beginning is.before is.after is.found is.is_found
    ∙ ap (λ f. FaultRead f (line_of is.before is.after is.found)) is.is_fault ∙ ap (FaultRead fault) is.is_line

-- ---- what is read token by token, whatever is made of it

pub wrong-answered : (first : TestScope) (to : Beginning) (before : List Token) (token : Token) (after : List Token) (found : PlacedFault) → ReadsTokens first at_start (shapes_of before) to → fault_after first to (next_shape (shape_of token)) ≡ Some found
    → answer first (before ++ token ∷ after) ≡ FaultRead (fault_of found) (line_of before (token ∷ after) found)
wrong-answered first to before token after found reads wrong =
    follows first at_start to [] before (token ∷ after) reads ∙ fault-there first to before (token ∷ after) found (ap (fault_after first to) (next-is token after) ∙ wrong)

pub wrong-end-answered : (first : TestScope) (to : Beginning) (tokens : List Token) (found : PlacedFault) → ReadsTokens first at_start (shapes_of tokens) to → fault_after first to Over ≡ Some found → answer first tokens ≡ FaultRead (fault_of found) (line_of tokens [] found)
wrong-end-answered first to tokens found reads wrong = answer-so-far first tokens to reads ∙ fault-there first to tokens [] found wrong

-- tokens of these shapes
abbrev some-tokens : List TokenShape → List Token
some-tokens [] = []
some-tokens (Text text ∷ shapes) = WordToken 0 text ∷ some-tokens shapes
some-tokens (Open ∷ shapes) = OpenToken 0 ∷ some-tokens shapes
some-tokens (Close ∷ shapes) = CloseToken 0 ∷ some-tokens shapes

have-shapes : (shapes : List TokenShape) → shapes ≡ shapes_of (some-tokens shapes)
have-shapes [] = refl
have-shapes (Text text ∷ shapes) = ap (λ (more : List TokenShape). Text text ∷ more) (have-shapes shapes)
have-shapes (Open ∷ shapes) = ap (λ (more : List TokenShape). Open ∷ more) (have-shapes shapes)
have-shapes (Close ∷ shapes) = ap (λ (more : List TokenShape). Close ∷ more) (have-shapes shapes)

pub one-tree : OneTree
one-tree one other is is' same =
    let tokens = some-tokens (tokens_of one) in
    let have = have-shapes (tokens_of one) in
    let both : TreeRead one ≡ TreeRead other = sym (tree-is-answered None tokens one is have) ∙ tree-is-answered None tokens other is' (sym same ∙ have) in
    cc

pub one-fault : OneFault
one-fault scope tokens one other here there is is' =
    let both : FaultRead one here ≡ FaultRead other there = sym (fault-is-answered scope tokens one here is) ∙ fault-is-answered scope tokens other there is' in
    (cc, cc)

pub never-both-in-trees : NeverBothInTrees
never-both-in-trees tokens tree fault line formed are is =
    let both : TreeRead tree ≡ FaultRead fault line = sym (tree-is-answered None tokens tree formed are) ∙ fault-is-answered None tokens fault line is in
    cc

pub never-both : NeverBoth
never-both members tokens tree fault line accepted are is =
    let both : TreeRead tree ≡ FaultRead fault line = sym (tree-is-answered (Some members) tokens tree accepted are) ∙ fault-is-answered (Some members) tokens fault line is in
    cc
