-- The layout of a script makes the same calls as the script, and so does each text with the same tokens.
use Rattle.el_script.proofs.Vocabulary.{spelled, MAX_SCRIPT, LexKind, Token, Lexes, lexed, lexed-reads, reads-lexed, SpellFault, Spells, shapes_of, spelling_of, spelling-computed, execlineb_options, Tree, written, tokens_of, IsWellFormed, Answer, TreeRead, FaultRead, Unmatched, answer, answer-is-right, tree-is-answered, upgraded}
use Rattle.el_room.proofs.Vocabulary.{Vars, gives, and_then, State, Task, then-assoc, Left}
use Rattle.std.proofs.Common.{◌≡◌, ℕ, ◌≤◌, List, length, None, Result, Ok, Err, refl, sym, ap, ◌∙◌, subst}
use Rattle.el_machine.specs.Flat.{flat_run}
use Rattle.el_layout.specs.Layout.{layout}
use Rattle.el_layout.specs.ReadsBack.{LexesAs, HasNoNul}
use Rattle.el_layout.proofs.Layouts.{layout-reads, script-no_nul}
use Rattle.el_check.specs.declared.params.Params.{Params}
use Rattle.el_check.specs.Scripts.{first_marks, IsAcceptedScript}
use Rattle.el_check.specs.Checks.{tree_checked, braces_checked, lexing_checked, checked_in}
use Rattle.el_check.proofs.Unique.{accepted-spells}
use Rattle.el_upgrade.proofs.Accepted.{accepted-upgraded}
use Rattle.el_upgrade.proofs.Layouts.{reads-back}
use Rattle.el_upgrade.proofs.Meanings.{means-alike}
use Rattle.el_app.specs.declared.asked.Placement.{Placement}
use Rattle.el_app.specs.declared.asked.Asked.{Asked}
use Rattle.el_app.specs.declared.asked.Source.{Source}
use Rattle.el_app.specs.declared.asked.Source.TheVariants.{Inline, File}
use Rattle.el_app.specs.Options.{asked}
use Rattle.el_app.specs.Names.{execlineb_name}
use Rattle.el_app.specs.Files.{script_from}
use Rattle.el_app.specs.Params.{placed}
use Rattle.el_app.specs.Scripts.{words_in, spelled_words, script_words}
use Rattle.el_app.specs.Execlineb.{words_from, zero_of, prelude, asked_run, execlineb_run}
use Rattle.el_app.specs.First.{first_state}
use Rattle.el_app.specs.Headline.{state_at_reading}
use Rattle.el_app.specs.Layouts.{IsLaidOut, run_behind_reading, ReadAlike, UpgradedTextsMeanAlike}

-- ---- the words

-- a script that reads as the tokens of a well-formed tree and is spelled as these words
pub record Spelled (script : List ℕ) (tree : Tree) (words : List (List ℕ)) : Type 0 where
  pub tokens : List Token
  pub lexes : Lexes script tokens
  pub are_tokens : tokens_of tree ≡ shapes_of tokens
  pub well_formed : IsWellFormed tree
  pub spells : Spells tokens words

words-are : (state : State) (script : List ℕ) (tree : Tree) (words : List (List ℕ)) → Spelled script tree words → script_words state script ≡ gives words
unfolding script_words spelled_words
words-are state script tree words is = ap (words_in state) (reads-lexed script is.tokens is.lexes) ∙ ap (spelled_words state) ((spelling-computed is.tokens words).0 is.spells)

-- its layout is spelled so too
laid-spelled : (script : List ℕ) (tree : Tree) (words : List (List ℕ)) → Spelled script tree words → length (layout tree) ≤ MAX_SCRIPT → Spelled (layout tree) tree words
laid-spelled script tree words is short =
    let read : LexesAs (layout tree) (tokens_of tree) = layout-reads tree (script-no_nul script is.tokens tree is.lexes.reads (sym is.are_tokens)) short in
    record {
      tokens = read.tokens;
      lexes = read.lexes;
      are_tokens = sym read.are_shapes;
      well_formed = is.well_formed;
      spells = record { args = is.spells.args; are_tokens = is.spells.are_tokens ∙ sym is.are_tokens ∙ sym read.are_shapes; within = is.spells.within; are_words = is.spells.are_words };
    }

-- ---- what is laid out is spelled

-- a script with this tree has words
abbrev pub AreWords : List ℕ → Tree → Type 0
AreWords script tree = (words : List (List ℕ)) × Spelled script tree words

tree-read : (read : Answer) (tree : Tree) → tree_checked read ≡ Ok tree → read ≡ TreeRead tree
tree-read (TreeRead other) tree is = let same : other ≡ tree = cc in ap TreeRead same
tree-read (FaultRead fault line) tree is = absurd (cc)
tree-read Unmatched tree is = absurd (cc)

braces-spelled : (script : List ℕ) (tree : Tree) (tokens : List Token) → Lexes script tokens → (spelling : Result (List (List ℕ)) SpellFault) → spelling_of tokens ≡ spelling
    → braces_checked None tokens spelling ≡ Ok tree → AreWords script tree
braces-spelled script tree tokens lexes (Ok words) spells is =
    let right = (answer-is-right None tokens).0 tree (tree-read (answer None tokens) tree is) in
    (words, record { tokens = tokens; lexes = lexes; are_tokens = right.1; well_formed = right.0; spells = (spelling-computed tokens words).1 spells })
braces-spelled script tree tokens lexes (Err fault) spells is = absurd (cc)

lexing-spelled : (script : List ℕ) (tree : Tree) (lexing : Result (List Token) (LexKind × ℕ)) → lexed script ≡ lexing → lexing_checked None lexing ≡ Ok tree → AreWords script tree
lexing-spelled script tree (Ok tokens) reads is = braces-spelled script tree tokens (lexed-reads script tokens reads) (spelling_of tokens) refl is
lexing-spelled script tree (Err fault) reads is = absurd (cc)

pub checked-spelled : (script : List ℕ) (tree : Tree) → checked_in None script ≡ Ok tree → AreWords script tree
unfolding checked_in
checked-spelled script tree is = lexing-spelled script tree (lexed script) refl is

-- and a script that is spelled so has this tree
pub spelled-tree : (script : List ℕ) (tree : Tree) (words : List (List ℕ)) → Spelled script tree words → checked_in None script ≡ Ok tree
unfolding checked_in
spelled-tree script tree words is =
    ap (lexing_checked None) (reads-lexed script is.tokens is.lexes)
    ∙ ap (braces_checked None is.tokens) ((spelling-computed is.tokens words).0 is.spells)
    ∙ ap tree_checked (tree-is-answered None is.tokens tree is.well_formed is.are_tokens)

pub words-stay : (state : State) (script : List ℕ) (tree : Tree) → IsLaidOut script tree → script_words state (layout tree) ≡ script_words state script
words-stay state script tree is =
    let read = checked-spelled script tree is.is_tree in
    words-are state (layout tree) tree read.0 (laid-spelled script tree read.0 read.1 is.short) ∙ sym (words-are state script tree read.0 read.1)

-- ---- accepted scripts

accepted-tree : (params : Params) (script : List ℕ) (tree : Tree) → IsAcceptedScript params script tree → checked_in None script ≡ Ok tree
accepted-tree params script tree is =
    spelled-tree script tree (spelled 0 (written tree))
    (record { tokens = is.tokens; lexes = is.lexes; are_tokens = is.are_tokens; well_formed = is.accepted.well_formed; spells = accepted-spells params script tree is })

pub accepted-stays : (params : Params) (script : List ℕ) (tree : Tree) → IsAcceptedScript params script tree → length (layout tree) ≤ MAX_SCRIPT → IsLaidOut script tree × IsAcceptedScript params (layout tree) tree
accepted-stays params script tree is short =
    let read : LexesAs (layout tree) (tokens_of tree) = layout-reads tree (script-no_nul script is.tokens tree is.lexes.reads (sym is.are_tokens)) short in
    (record { is_tree = accepted-tree params script tree is; short = short }, record { tokens = read.tokens; lexes = read.lexes; are_tokens = sym read.are_shapes; within = is.within; accepted = is.accepted })

-- ---- a call

read-words : (state : State) (source : Source) → words_from state source ≡ and_then (script_from execlineb_name state source) (script_words state)
unfolding and_then
read-words state (Inline script) = refl
read-words state (File path) = refl

pub runs-what-it-reads : (words : List (List ℕ)) (env : Vars) (dir : List ℕ) (asking : Asked) → asked execlineb_options words ≡ Ok asking
    → (let state = state_at_reading asking env dir in
    execlineb_run words (first_state env dir) ≡ and_then (script_from execlineb_name state asking.source) (run_behind_reading asking.placement (zero_of asking.source) asking.args state))
unfolding execlineb_run asked_run prelude
runs-what-it-reads words env dir asking is =
    ap (λ answer. asked_run answer (first_state env dir)) is
    ∙ ap (λ read. and_then (and_then read with) on) (read-words state asking.source)
    ∙ then-assoc (and_then first (script_words state)) with on
    ∙ then-assoc first (script_words state) (λ script. and_then (with script) on)
  where
    state : State
    state = state_at_reading asking env dir

    first : Task (List ℕ)
    first = script_from execlineb_name state asking.source

    with : List (List ℕ) → Task Left
    with script = placed asking.placement (zero_of asking.source) asking.args script state

    on : Left → Task ⊥
    on left = flat_run left.words left.state

pub changes-no-call : (placement : Placement) (zero : List ℕ) (args : List (List ℕ)) (state : State) (script : List ℕ) (tree : Tree) → IsLaidOut script tree
    → run_behind_reading placement zero args state (layout tree) ≡ run_behind_reading placement zero args state script
changes-no-call placement zero args state script tree is =
    ap (λ read. and_then read (λ words. and_then (placed placement zero args words state) (λ (left : Left). flat_run left.words left.state))) (words-stay state script tree is)

-- ---- the same tokens

-- tokens of the same shapes are spelled as the same words
spells-too : (tokens others : List Token) (words : List (List ℕ)) → shapes_of others ≡ shapes_of tokens → Spells tokens words → Spells others words
spells-too tokens others words same spells = record { args = spells.args; are_tokens = spells.are_tokens ∙ sym same; within = spells.within; are_words = spells.are_words }

-- a script that lexes as these tokens has their words
words-of : (state : State) (script : List ℕ) (tokens : List Token) (words : List (List ℕ)) → Lexes script tokens → Spells tokens words → script_words state script ≡ gives words
unfolding script_words spelled_words
words-of state script tokens words lexes spells = ap (words_in state) (reads-lexed script tokens lexes) ∙ ap (spelled_words state) ((spelling-computed tokens words).0 spells)

pub same-tokens : (placement : Placement) (zero : List ℕ) (args : List (List ℕ)) (state : State) (script other : List ℕ) → ReadAlike script other
    → run_behind_reading placement zero args state other ≡ run_behind_reading placement zero args state script
same-tokens placement zero args state script other alike =
    ap (λ read. and_then read (λ words. and_then (placed placement zero args words state) (λ (left : Left). flat_run left.words left.state)))
    (words-of state other alike.others alike.words alike.other_lexes (spells-too alike.tokens alike.others alike.words alike.same alike.spells) ∙ sym (words-of state script alike.tokens alike.words alike.lexes alike.spells))

-- ---- upgraded texts

pub upgraded-means : UpgradedTextsMeanAlike
upgraded-means params script tree is short =
    let no_nul : HasNoNul tree = script-no_nul script is.tokens tree is.lexes.reads (sym is.are_tokens) in
    let back = reads-back tree no_nul in
    let read : LexesAs (layout (upgraded tree)) (tokens_of (upgraded tree)) = back.0.lexes short in
    record {
      accepted = record {
        tokens = read.tokens;
        lexes = read.lexes;
        are_tokens = sym read.are_shapes;
        within = subst (λ n. n ≤ 255) (sym back.1) is.within;
        accepted = accepted-upgraded (first_marks params) tree is.accepted;
      };
      means = λ scope state units found meets. means-alike (first_marks params) tree scope state units found is.accepted meets;
    }
