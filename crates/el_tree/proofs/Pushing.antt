-- A token that isn't wrong leaves a beginning, which prints it behind the others.
use Rattle.std.proofs.Common.{◌≡◌, ℕ, true, false, not, List, [], ◌∷◌, ◌++◌, append_assoc, append-nil, Option, Some, None, is_some, IfSome, refl, sym, ap, ap₂, ◌∙◌, subst}
use Rattle.std.proofs.lemmas.Bool.{not-false, and_from}
use Rattle.std.proofs.lemmas.Option.{same_Some}
use Rattle.el_words.specs.declared.prog.Prog.{Prog}
use Rattle.el_words.specs.declared.prog.Prog.TheVariants.{Exit}
use Rattle.el_words.specs.Prog.{name_text, program_named}
use Rattle.el_words.specs.Args.{Args, nothing, word, group, ◌+++◌}
use Rattle.el_words.proofs.Programs.{named}
use Rattle.el_blocks.specs.Tokens.{TokenShape, Text, Open, Close, shapes_in}
use Rattle.el_options.specs.declared.place.PlaceKind.{PlaceKind}
use Rattle.el_options.specs.declared.place.PlaceKind.TheVariants.{ProgramBlock, ValueBlock, NameBlock, DirectiveBlock}
use Rattle.el_options.specs.Shapes.{shape_of}
use Rattle.el_options.specs.Fronts.{is_directive}
use Rattle.el_tree.specs.declared.fault.PlacedFault.TheVariants.{At}
use Rattle.el_tree.specs.declared.fault.Fault.TheVariants.{BadDirective}
use Rattle.el_tree.specs.declared.tree.Node.{Node}
use Rattle.el_tree.specs.Trees.{undirected}
use Rattle.el_tree.specs.OptionWords.{is_literal}
use Rattle.el_tree.specs.WellFormed.{IsCommand}
use Rattle.el_tree.specs.Accepted.{DirectivesKeep}
use Rattle.el_tree.specs.Beginnings.{Head, Fresh, Current, Commanded, Tail, Level, Chained, Listed, Named, Directed, Beginning, TestScope, KeepPlaces, KeepNodes, KeepsTail, KeepsLevel, scope_at, scope_behind, scope_behind_all, scope_within, first_in, an_open, is_there, kinds_left, written_head, written_nodes, written_tail, written_level, printed_in, printed, IsHead, IsFinished, AreFinished, MayFollow, FollowsAll, IsTail, IsLevel, block_kind, BeginWith, IsOfKind, MayHold, MayOpen, AreAround, IsBeginning}
use Rattle.el_tree.specs.Faults.{Over, Text as NextText, Group, where_true, names_directive, head_fault, level_fault, fault_after}
use Rattle.el_tree.specs.Steps.{Owned, Own, Foreign, node_of, head_start, text_for, opened_at, tail_named, named_behind, tail_behind, chain_owned, directive_named, directive_owned, with_text, chain_opened, directive_opened, with_open, with_closed, push_in, next_shape, Fits}
use Rattle.el_tree.proofs.Facts.{never-some, all-append, not-true, plus-nothing, shapes-plus, words-plus}
use Rattle.el_tree.proofs.Rereadings.{nodes-plus, never-fresh, current-goes, never-empty}
use Rattle.el_tree.proofs.Finished.{none-read, first-first}
use Rattle.el_tree.proofs.HeadReadings.{Where, InChain, InDirectives, level-at, scope-there}
use Rattle.el_tree.proofs.HeadsGrow.{HeadGrows, always-keeps, stops-nothing, unplaced-keeps, own-grows, head-finishes, head-open, directive-behind}
use Rattle.el_tree.proofs.Closing.{head-behind, finished-append, all-direct, closed-place, closed-grows, directives-keep}

-- ---- levels of one kind

same-around : (one other : Level) (around : List Level) → block_kind one ≡ block_kind other → AreAround one around → AreAround other around
same-around one other [] same are = subst (λ kind. BeginWith kind (ProgramBlock ∷ [])) same are
same-around one other (outer ∷ around) same are = (are.0, subst (MayHold outer) same are.1, are.2)

-- ---- chains

keep-append : (scope : TestScope) (nodes : List Node) (node : Node) → KeepNodes scope nodes → KeepPlaces (scope_behind_all scope nodes) node.places → KeepNodes scope (nodes ++ node ∷ [])
keep-append scope [] node keep keeps = (keeps, tt)
keep-append scope (one ∷ nodes) node keep keeps = (keep.0, keep-append (scope_behind scope one) nodes node keep.1 keeps)

follows-append : (nodes : List Node) (node : Node) (head : Head) (tail : Tail) (opened after : Args) → FollowsAll nodes (Current head) opened → MayFollow node.prog tail after → FollowsAll (nodes ++ node ∷ []) tail after
follows-append [] node head tail opened after follows may = may
follows-append (one ∷ []) node head tail opened after follows may = (current-goes one.prog head opened follows, may)
follows-append (one ∷ next ∷ nodes) node head tail opened after follows may = (follows.0, follows-append (next ∷ nodes) node head tail opened after follows.1 may)

current-follows : (program : Prog) (head head' : Head) (opened opened' : Args) → MayFollow program (Current head) opened → MayFollow program (Current head') opened'
current-follows Exit head head' opened opened' follows = follows
current-follows _ head head' opened opened' follows = follows

current-same : (nodes : List Node) (head head' : Head) (opened opened' : Args) → FollowsAll nodes (Current head) opened → FollowsAll nodes (Current head') opened'
current-same [] head head' opened opened' all = tt
current-same (node ∷ []) head head' opened opened' all = current-follows node.prog head head' opened opened' all
current-same (node ∷ next ∷ nodes) head head' opened opened' all = (all.0, current-same (next ∷ nodes) head head' opened opened' all.1)

there-first : (args : Args) → is_there (first_in args) ≡ is_there args
there-first nothing = refl
there-first a = refl

command-follows : (program : Prog) (items items' opened opened' : Args) → first_in (items' +++ opened') ≡ first_in (items +++ opened) → MayFollow program (Commanded items) opened → MayFollow program (Commanded items') opened'
command-follows Exit items items' opened opened' same follows = sym (there-first (items' +++ opened')) ∙ ap is_there same ∙ there-first (items +++ opened) ∙ follows
command-follows _ items items' opened opened' same follows = subst IsCommand (sym same) follows

commands-same : (nodes : List Node) (items items' opened opened' : Args) → first_in (items' +++ opened') ≡ first_in (items +++ opened) → FollowsAll nodes (Commanded items) opened → FollowsAll nodes (Commanded items') opened'
commands-same [] items items' opened opened' same all = subst IsCommand (sym same) all
commands-same (node ∷ []) items items' opened opened' same all = command-follows node.prog items items' opened opened' same all
commands-same (node ∷ next ∷ nodes) items items' opened opened' same all = (all.0, commands-same (next ∷ nodes) items items' opened opened' same all.1)

pub nothing-follows : (nodes : List Node) → FollowsAll nodes (Commanded nothing) nothing → ⊥
nothing-follows [] follows = follows
nothing-follows (node ∷ []) follows = never-empty node.prog follows
nothing-follows (node ∷ next ∷ nodes) follows = nothing-follows (next ∷ nodes) follows.1

fresh-follows : (node : Node) (nodes : List Node) (opened : Args) → FollowsAll (node ∷ nodes) Fresh opened → ⊥
fresh-follows node [] opened follows = never-fresh node.prog opened follows
fresh-follows node (next ∷ nodes) opened follows = fresh-follows next nodes opened follows.1

-- ---- a program or directive at its start

start-head : (program : Prog) → IsHead (head_start program) nothing
start-head program =
    let opts = (shape_of program).letters in
    record {
      read = record { letters = []; used = 1; ended = not (is_some opts); are_read = none-read opts; literal = refl; in_rule = refl; enough = refl };
      waits = tt;
      stops = stops-nothing opts (not (is_some opts));
      placed = tt;
      commanded = tt;
    }

-- ---- a level with one more piece

pub record LevelGrows (scope : TestScope) (level more : Level) (piece : Args) : Type 0 where
  pub within : IsLevel more nothing
  pub same : block_kind level ≡ block_kind more
  pub keeps : KeepsLevel scope more
  pub are_written : written_level more ≡ written_level level +++ piece

named-tail : (scope : TestScope) (text : List ℕ) (is : Option Prog) → program_named text ≡ is → IfSome is (λ program. name_text program ≡ text) → LevelGrows scope (Chained [] Fresh) (Chained [] (tail_named is text)) (word text nothing)
named-tail scope text None same names = record { within = (tt, same, tt); same = refl; keeps = (tt, tt); are_written = refl }
named-tail scope text (Some program) same names = record { within = (tt, tt, start-head program); same = refl; keeps = (tt, unplaced-keeps scope); are_written = ap (λ t. word t nothing) names }

-- what goes on behind a program with a word
record TailBegins (program : Prog) (tail : Tail) (text : List ℕ) : Type 0 where
  are_written : written_tail tail ≡ word text nothing
  follows : MayFollow program tail nothing
  is : IsTail tail nothing
  keeps : (scope : TestScope) → KeepsTail scope tail

tail-begins : (program : Prog) (text : List ℕ) (is : Option Prog) → program_named text ≡ is → IfSome is (λ other. name_text other ≡ text) → TailBegins program (tail_named (named_behind program is) text) text
tail-begins Exit text is same names = record { are_written = refl; follows = refl; is = tt; keeps = λ scope. tt }
tail-begins _ text None same names = record { are_written = refl; follows = same; is = tt; keeps = λ scope. tt }
tail-begins _ text (Some other) same names = record { are_written = ap (λ t. word t nothing) names; follows = tt; is = start-head other; keeps = λ scope. unplaced-keeps scope }

-- a program or directive grows where it stands
head-grows : (scope : TestScope) (place : Where) (head more : Head) (piece opened : Args) → IsLevel (level-at place head) opened → KeepsLevel scope (level-at place head) → HeadGrows (scope-there scope place) head more piece
    → LevelGrows scope (level-at place head) (level-at place more) piece
head-grows scope (InChain nodes) head more piece opened is keeps grows = record {
  within = (subst (λ p. AreFinished nodes (word (name_text p) nothing)) (sym grows.same) is.0, current-same nodes head more opened nothing is.1, grows.is);
  same = refl;
  keeps = (keeps.0, grows.keeps);
  are_written = ap (written_nodes nodes) grows.are_written ∙ nodes-plus nodes (written_head head) piece;
}
head-grows scope (InDirectives nodes) head more piece opened is keeps grows = record {
  within = (subst (λ p. AreFinished nodes (word (name_text p) nothing)) (sym grows.same) is.0, (subst (λ p. is_directive p ≡ true) (sym grows.same) is.1.0, grows.is), is.2);
  same = refl;
  keeps = (keeps.0, grows.keeps);
  are_written = ap (written_nodes nodes) grows.are_written ∙ nodes-plus nodes (written_head head) piece;
}

chain-grows : (scope : TestScope) (nodes : List Node) (head : Head) (text : List ℕ) (owned : Owned) → IsLevel (Chained nodes (Current head)) nothing → KeepsLevel scope (Chained nodes (Current head))
    → head_fault (scope_behind_all scope nodes) head head.waiting false (NextText text) ≡ None → text_for head head.waiting text ≡ owned
    → LevelGrows scope (Chained nodes (Current head)) (chain_owned nodes head text owned) (word text nothing)
chain-grows scope nodes head text (Own more) is keeps none owned =
    head-grows scope (InChain nodes) head more (word text nothing) nothing is keeps (own-grows (scope_behind_all scope nodes) head.program head.options head.waiting head.places false text more is.2 keeps.1 none owned)
chain-grows scope nodes head text Foreign is keeps none owned =
    let ends = head-finishes (scope_behind_all scope nodes) head.program head.options head.waiting head.places false (NextText text) is.2 none owned in
    let begins = tail-begins head.program text (program_named text) refl (named text) in
    let first : first_in (first_in (written_tail (tail_behind head.program text) +++ nothing)) ≡ word text nothing = first-first (written_tail (tail_behind head.program text) +++ nothing) ∙ ap (λ a. first_in (a +++ nothing)) begins.are_written in
    record {
      within = (
        finished-append nodes (node_of head) (first_in (written_tail (tail_behind head.program text) +++ nothing)) is.0 (subst (IsFinished head.program head.options head.places) (sym first) ends.is),
        follows-append nodes (node_of head) head (tail_behind head.program text) nothing nothing is.1 begins.follows,
        begins.is,
      );
      same = refl;
      keeps = (keep-append scope nodes (node_of head) keeps.0 keeps.1, begins.keeps _);
      are_written = ap (written_nodes (nodes ++ node_of head ∷ [])) begins.are_written ∙ head-behind nodes head (word text nothing) ends.still;
    }

first-more : (items one other : Args) → (items ≡ nothing → first_in one ≡ first_in other) → first_in (items +++ one) ≡ first_in (items +++ other)
first-more nothing one other same = same refl
first-more a one other same = refl

-- a command goes on, where the first token stays
command-grows : (scope : TestScope) (nodes : List Node) (items items' piece opened : Args) → items' ≡ items +++ piece → first_in (items' +++ nothing) ≡ first_in (items +++ opened) → IsLevel (Chained nodes (Commanded items)) opened → KeepsLevel scope (Chained nodes (Commanded items))
    → LevelGrows scope (Chained nodes (Commanded items)) (Chained nodes (Commanded items')) piece
command-grows scope nodes items items' piece opened are first is keeps = record {
  within = (subst (AreFinished nodes) (sym first) is.0, commands-same nodes items items' opened nothing first is.1, tt);
  same = refl;
  keeps = keeps;
  are_written = ap (written_nodes nodes) are ∙ nodes-plus nodes items piece;
}

-- ---- directives

-- a word that isn't wrong there begins a directive
directive-begins : (text : List ℕ) (is : Option Prog) → IfSome is (λ program. name_text program ≡ text) → where_true (not (names_directive is)) (At BadDirective) ≡ None
    → (P : Option Head → Type 0) → ((program : Prog) → is_directive program ≡ true → name_text program ≡ text → P (Some (head_start program))) → P (directive_named is)
directive-begins text None names none P gives = absurd (never-some none)
directive-begins text (Some program) names none P gives = gives program (not-false (is_directive program) (not-true _ _ none)) names

directive-grows : (scope : TestScope) (nodes : List Node) (head : Head) (text : List ℕ) (owned : Owned) → IsLevel (Directed nodes (Some head)) nothing → KeepsLevel scope (Directed nodes (Some head))
    → head_fault scope head head.waiting true (NextText text) ≡ None → text_for head head.waiting text ≡ owned → LevelGrows scope (Directed nodes (Some head)) (directive_owned nodes head text owned) (word text nothing)
directive-grows scope nodes head text (Own more) is keeps none owned =
    head-grows scope (InDirectives nodes) head more (word text nothing) nothing is keeps (own-grows scope head.program head.options head.waiting head.places true text more is.1.1 keeps.1 none owned)
directive-grows scope nodes head text Foreign is keeps none owned =
    let ends = head-finishes scope head.program head.options head.waiting head.places true (NextText text) is.1.1 none owned in
    let done = nodes ++ node_of head ∷ [] in
    directive-begins text (program_named text) (named text) (directive-behind scope head (NextText text) is.1.0 ends) (λ current. LevelGrows scope (Directed nodes (Some head)) (Directed done current) (word text nothing))
    (λ program direct names.
    let written : word (name_text program) nothing ≡ word text nothing = ap (λ t. word t nothing) names in
    record {
      within = (
        finished-append nodes (node_of head) (word (name_text program) nothing) is.0 (subst (IsFinished head.program head.options head.places) (sym written) ends.is),
        (direct, start-head program),
        all-direct nodes head is.2 is.1.0,
      );
      same = refl;
      keeps = (directives-keep scope nodes head keeps.0 keeps.1, unplaced-keeps scope);
      are_written = ap (written_nodes done) written ∙ head-behind nodes head (word text nothing) ends.still;
    })

-- ---- one more word

pub text-pushed : (scope : TestScope) (level : Level) (text : List ℕ) → IsLevel level nothing → KeepsLevel scope level → level_fault (scope_at scope level) level (NextText text) ≡ None → LevelGrows scope level (with_text level text) (word text nothing)
text-pushed scope (Chained [] Fresh) text is keeps none = named-tail scope text (program_named text) refl (named text)
text-pushed scope (Chained (node ∷ nodes) Fresh) text is keeps none = absurd (fresh-follows node nodes nothing is.1)
text-pushed scope (Chained nodes (Current head)) text is keeps none = chain-grows scope nodes head text (text_for head head.waiting text) is keeps none refl
text-pushed scope (Chained nodes (Commanded items)) text is keeps none =
    command-grows scope nodes items (items +++ word text nothing) (word text nothing) nothing refl
    (ap first_in (plus-nothing (items +++ word text nothing)) ∙ first-more items (word text nothing) nothing (λ empty. absurd (nothing-follows nodes (subst (λ i. FollowsAll nodes (Commanded i) nothing) empty is.1)))) is keeps
text-pushed scope (Listed items) text is keeps none = record { within = tt; same = refl; keeps = tt; are_written = refl }
text-pushed scope (Named names) text is keeps none =
    record { within = all-append is_literal names (text ∷ []) is (and_from (is_literal text) true (not-false (is_literal text) (not-true _ _ none)) refl); same = refl; keeps = tt; are_written = words-plus names (text ∷ []) }
text-pushed scope (Directed [] None) text is keeps none =
    directive-begins text (program_named text) (named text) none (λ current. LevelGrows scope (Directed [] None) (Directed [] current) (word text nothing))
    (λ program is names. record { within = (tt, (is, start-head program), refl); same = refl; keeps = (keeps.0, unplaced-keeps scope); are_written = ap (λ t. word t nothing) names })
text-pushed scope (Directed (node ∷ nodes) None) text is keeps none = absurd is.1
text-pushed scope (Directed nodes (Some head)) text is keeps none = directive-grows scope nodes head text (text_for head head.waiting text) is keeps none refl

-- ---- an Open

-- a level that an Open begins
pub record Starts (inner : Level) : Type 0 where
  pub is : IsLevel inner nothing
  pub keeps : (scope : TestScope) → KeepsLevel scope inner
  pub none_written : written_level inner ≡ nothing

pub record LevelOpens (scope : TestScope) (level outer inner : Level) : Type 0 where
  pub outer_is : IsLevel outer an_open
  pub starts : Starts inner
  pub may : MayOpen outer inner
  pub same : block_kind level ≡ block_kind outer
  pub keeps : KeepsLevel scope outer
  pub are_written : written_level outer ≡ written_level level

values-start : Starts (Listed nothing)
values-start = record { is = tt; keeps = λ scope. tt; none_written = refl }

opened-starts : (kinds : List PlaceKind) (inner : Level) → opened_at kinds ≡ Some inner → Starts inner × IsOfKind inner kinds
opened-starts (ProgramBlock ∷ kinds) inner is = subst (λ l. Starts l × IsOfKind l (ProgramBlock ∷ kinds)) (same_Some _ inner is) (record { is = (tt, tt, tt); keeps = λ scope. (tt, tt); none_written = refl }, tt)
opened-starts (ValueBlock ∷ kinds) inner is = subst (λ l. Starts l × IsOfKind l (ValueBlock ∷ kinds)) (same_Some _ inner is) (values-start, tt)
opened-starts (NameBlock ∷ kinds) inner is = subst (λ l. Starts l × IsOfKind l (NameBlock ∷ kinds)) (same_Some _ inner is) (record { is = refl; keeps = λ scope. tt; none_written = refl }, tt)
opened-starts (DirectiveBlock ∷ kinds) inner is = subst (λ l. Starts l × IsOfKind l (DirectiveBlock ∷ kinds)) (same_Some _ inner is) (record { is = (tt, tt, refl); keeps = λ scope. (always-keeps scope (DirectivesKeep undirected) (λ members. tt), tt); none_written = refl }, tt)
opened-starts _ inner is = absurd (never-some (sym is))

command-after : (program : Prog) → MayFollow program (Commanded nothing) an_open
command-after Exit = refl
command-after _ = tt

chain-opens : (scope : TestScope) (nodes : List Node) (head : Head) (opened : Option Level) → IsLevel (Chained nodes (Current head)) nothing → KeepsLevel scope (Chained nodes (Current head))
    → head_fault (scope_behind_all scope nodes) head head.waiting false Group ≡ None → opened_at (kinds_left head) ≡ opened
    → LevelOpens scope (Chained nodes (Current head)) (chain_opened nodes head opened).outer (chain_opened nodes head opened).inner
chain-opens scope nodes head (Some inner) is keeps none opens =
    let start = opened-starts (kinds_left head) inner opens in
    record {
      outer_is = (is.0, current-same nodes head head nothing an_open is.1, head-open (scope_behind_all scope nodes) head.program head.options head.waiting head.places false is.2 none);
      starts = start.0;
      may = start.1;
      same = refl;
      keeps = keeps;
      are_written = refl;
    }
chain-opens scope nodes head None is keeps none opens =
    let ends = head-finishes (scope_behind_all scope nodes) head.program head.options head.waiting head.places false Group is.2 none opens in
    record {
      outer_is = (finished-append nodes (node_of head) an_open is.0 ends.is, follows-append nodes (node_of head) head (Commanded nothing) nothing an_open is.1 (command-after head.program), tt);
      starts = values-start;
      may = tt;
      same = refl;
      keeps = (keep-append scope nodes (node_of head) keeps.0 keeps.1, tt);
      are_written = head-behind nodes head nothing ends.still ∙ plus-nothing (written_nodes nodes (written_head head));
    }

directive-opens : (scope : TestScope) (nodes : List Node) (head : Head) (opened : Option Level) → IsLevel (Directed nodes (Some head)) nothing → KeepsLevel scope (Directed nodes (Some head))
    → head_fault scope head head.waiting true Group ≡ None → opened_at (kinds_left head) ≡ opened
    → LevelOpens scope (Directed nodes (Some head)) (directive_opened nodes head opened).outer (directive_opened nodes head opened).inner
directive-opens scope nodes head (Some inner) is keeps none opens =
    let start = opened-starts (kinds_left head) inner opens in
    record {
      outer_is = (is.0, (is.1.0, head-open scope head.program head.options head.waiting head.places true is.1.1 none), is.2);
      starts = start.0;
      may = start.1;
      same = refl;
      keeps = keeps;
      are_written = refl;
    }
directive-opens scope nodes head None is keeps none opens = absurd (never-some (directive-behind scope head Group is.1.0 (head-finishes scope head.program head.options head.waiting head.places true Group is.1.1 none opens)))

pub open-pushed : (scope : TestScope) (level : Level) → IsLevel level nothing → KeepsLevel scope level → level_fault (scope_at scope level) level Group ≡ None → LevelOpens scope level (with_open level).outer (with_open level).inner
open-pushed scope (Chained [] Fresh) is keeps none = record { outer_is = (tt, tt, tt); starts = values-start; may = tt; same = refl; keeps = (tt, tt); are_written = refl }
open-pushed scope (Chained (node ∷ nodes) Fresh) is keeps none = absurd (fresh-follows node nodes nothing is.1)
open-pushed scope (Chained nodes (Current head)) is keeps none = chain-opens scope nodes head (opened_at (kinds_left head)) is keeps none refl
open-pushed scope (Chained nodes (Commanded items)) is keeps none =
    let first = first-more items an_open nothing (λ empty. absurd (nothing-follows nodes (subst (λ i. FollowsAll nodes (Commanded i) nothing) empty is.1))) in
    record { outer_is = (subst (AreFinished nodes) (sym first) is.0, commands-same nodes items items nothing an_open first is.1, tt); starts = values-start; may = tt; same = refl; keeps = keeps; are_written = refl }
open-pushed scope (Listed items) is keeps none = record { outer_is = tt; starts = values-start; may = tt; same = refl; keeps = tt; are_written = refl }
open-pushed scope (Directed nodes (Some head)) is keeps none = directive-opens scope nodes head (opened_at (kinds_left head)) is keeps none refl
open-pushed scope level is keeps none = absurd (never-some none)

-- ---- a Close

pub close-pushed : (scope : TestScope) (outer level : Level) → IsLevel outer an_open → MayOpen outer level → KeepsLevel scope outer → IsLevel level nothing → KeepsLevel (scope_at scope outer) level → level_fault (scope_at (scope_at scope outer) level) level Over ≡ None
    → LevelGrows scope outer (with_closed outer level) (group (written_level level) nothing)
close-pushed scope (Chained nodes (Current head)) level is may keeps within kept none =
    let place = closed-place (scope_behind_all scope nodes) level (kinds_left head) within kept none may in
    head-grows scope (InChain nodes) head _ (group (written_level level) nothing) an_open is keeps (closed-grows (scope_behind_all scope nodes) head.program head.options head.waiting head.places level is.2 keeps.1 place)
close-pushed scope (Chained nodes (Commanded items)) level is may keeps within kept none =
    command-grows scope nodes items (items +++ group (written_level level) nothing) (group (written_level level) nothing) an_open refl
    (ap first_in (plus-nothing (items +++ group (written_level level) nothing)) ∙ first-more items (group (written_level level) nothing) an_open (λ empty. refl)) is keeps
close-pushed scope (Listed items) level is may keeps within kept none = record { within = tt; same = refl; keeps = tt; are_written = refl }
close-pushed scope (Directed nodes (Some head)) level is may keeps within kept none =
    let place = closed-place scope level (kinds_left head) within kept none may in
    head-grows scope (InDirectives nodes) head _ (group (written_level level) nothing) an_open is keeps (closed-grows scope head.program head.options head.waiting head.places level is.1.1 keeps.1 place)
close-pushed scope outer level is may keeps within kept none = absurd may

-- ---- any token

pub record IsPushed (scope : TestScope) (beginning more : Beginning) (token : TokenShape) : Type 0 where
  pub begins : IsBeginning scope more
  pub prints : printed more ≡ printed beginning ++ token ∷ []

written-more : (around : List Level) (level more : Level) (piece : Args) → written_level more ≡ written_level level +++ piece → printed_in more around ≡ printed_in level around ++ shapes_in piece
written-more [] level more piece are = ap shapes_in are ∙ shapes-plus (written_level level) piece
written-more (outer ∷ around) level more piece are =
    ap (λ (x : List TokenShape). printed_in outer around ++ (Open ∷ x)) (ap shapes_in are ∙ shapes-plus (written_level level) piece) ∙ sym (append_assoc (printed_in outer around) (Open ∷ shapes_in (written_level level)) (shapes_in piece))

-- a token that isn't wrong is pushed
pub pushed : (scope : TestScope) (level : Level) (around : List Level) (token : TokenShape) → IsBeginning scope (record { level = level; around = around }) → fault_after scope (record { level = level; around = around }) (next_shape token) ≡ None → Fits token around
    → IsPushed scope (record { level = level; around = around }) (push_in level around token) token
pushed scope level around (Text text) is none fits =
    let grows = text-pushed (scope_within scope around) level text is.within is.keeps none in
    record {
      begins = record { within = grows.within; outside = same-around level _ around grows.same is.outside; keeps = grows.keeps; keeps_outside = is.keeps_outside };
      prints = written-more around level _ (word text nothing) grows.are_written;
    }
pushed scope level around Open is none fits =
    let opens = open-pushed (scope_within scope around) level is.within is.keeps none in
    record {
      begins = record { within = opens.starts.is; outside = (opens.outer_is, opens.may, same-around level _ around opens.same is.outside); keeps = opens.starts.keeps _; keeps_outside = (opens.keeps, is.keeps_outside) };
      prints = ap₂ (λ (x y : List TokenShape). x ++ (Open ∷ y)) (written-more around level _ nothing (opens.are_written ∙ sym (plus-nothing (written_level level))) ∙ append-nil (printed_in level around)) (ap shapes_in opens.starts.none_written);
    }
pushed scope level [] Close is none fits = absurd fits
pushed scope level (outer ∷ around) Close is none fits =
    let grows = close-pushed (scope_within scope around) outer level is.outside.0 is.outside.1 is.keeps_outside.0 is.within is.keeps none in
    record {
      begins = record { within = grows.within; outside = same-around outer _ around grows.same is.outside.2; keeps = grows.keeps; keeps_outside = is.keeps_outside.1 };
      prints = written-more around outer _ (group (written_level level) nothing) grows.are_written ∙ sym (append_assoc (printed_in outer around) (Open ∷ shapes_in (written_level level)) (Close ∷ []));
    }
