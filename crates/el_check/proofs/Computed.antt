-- What is computed of a script: its tree or its first fault.
use Rattle.el_script.proofs.Vocabulary.{spelled, MAX_SCRIPT, Token, LexKind, Lexes, Cut, Cause, nul, AtGap, scan, lexed, scanned-fault, lexed-reads, reads-lexed, SpellFault, Spells, IsBraceFault, spelling_of, spelling-computed, fault-computed, Fault, Tree, written, Answer, TreeRead, FaultRead, Unmatched, answer, answer-is-right, tree-is-answered, never-some}
use Rattle.std.proofs.Common.{◌≡◌, ◌≤◌, ℕ, Bool, true, false, if◌then◌else◌, List, length, Some, Result, Ok, Err, IfOk, IfErr, refl, sym, ap, ◌∙◌, subst}
use Rattle.std.specs.Prelude.{nat_lt, OnOk}
use Rattle.std.specs.Option.{option_map}
use Rattle.el_lex.specs.declared.fault.LexKind.TheVariants as lex
use Rattle.el_lex.proofs.Lexed.{lexed-faults, faults-lexed}
use Rattle.el_blocks.specs.declared.fault.SpellFault.TheVariants as brace
use Rattle.el_tree.specs.declared.fault.Fault.TheVariants as tree
use Rattle.el_tree.proofs.Answered.{fault-is-answered}
use Rattle.el_reader.specs.Parses.{AreMatched}
use Rattle.el_reader.proofs.Parsed.{matched-is-answered}
use Rattle.el_check.specs.declared.params.Params.{Params}
use Rattle.el_check.specs.declared.kind.CheckFault.{CheckFault}
use Rattle.el_check.specs.declared.kind.CheckKind.{CheckKind}
use Rattle.el_check.specs.declared.kind.CheckKind.TheVariants.{NoMemory}
use Rattle.el_check.specs.Scripts.{first_marks, IsAcceptedScript}
use Rattle.el_check.specs.Faults.{lex_kind, brace_kind, tree_kind, IsScriptFault, in_lexing, in_braces, in_tree}
use Rattle.el_check.specs.Checks.{IsFaultOrMemory, IsCheckFault, Checked, at_line, or_memory, tree_checked, braces_checked, lexing_checked, checked_in, checked, IsFaultOf, IsAnswer}
use Rattle.el_check.specs.Surveys.{IsVerdict, IsAcceptedAs}
use Rattle.el_check.specs.Laws.{TreeIsComputed, FaultIsComputed, MemoryIsNeverComputed}
use Rattle.el_check.proofs.Levels.{same-levels}

-- ---- want of memory is never computed

abbrev IsCaused : LexKind → Type 0
IsCaused lex.NoMemory = ⊥
IsCaused _ = Unit {0}

abbrev IsCausedOrRead : Result (List Token) (LexKind × ℕ) → Type 0
IsCausedOrRead (Ok tokens) = Unit {0}
IsCausedOrRead (Err fault) = IsCaused fault.0

is-caused : (kind : LexKind) (cut : Cut) (rest : List ℕ) → Cause kind cut rest → IsCaused kind
is-caused kind cut rest (nul next) = tt
is-caused kind cut rest _ = tt

lexed-caused : (script : List ℕ) (line : ℕ) → lexed script ≡ Err (lex.NoMemory, line) → ⊥
unfolding lexed
lexed-caused script line is = by (nat_lt MAX_SCRIPT (length script)) is
  where
    by : (long : Bool) → (if long then Err (lex.TooLong, 1) else scan script 0 AtGap 1) ≡ Err (lex.NoMemory, line) → ⊥
    by true is = subst IsCausedOrRead is tt
    by false is = let at = scanned-fault script lex.NoMemory line is in is-caused lex.NoMemory at.cut at.rest at.cause

-- ---- what is computed is right

abbrev IsRight : Params → (script : List ℕ) → Checked → Type 0
IsRight params script (Ok tree) = IsAcceptedScript params script tree
IsRight params script (Err fault) = IsScriptFault params script fault.0 fault.1

are-matched : (tokens : List Token) (words : List (List ℕ)) → Spells tokens words → AreMatched tokens
are-matched tokens words spells = record { args = spells.args; are_tokens = spells.are_tokens; within = spells.within }

right-tree : (params : Params) (script : List ℕ) (tokens : List Token) (words : List (List ℕ)) (read : Answer) → Lexes script tokens → Spells tokens words → answer (Some (first_marks params)) tokens ≡ read
    → IsRight params script (tree_checked read)
right-tree params script tokens words (TreeRead tree) lexes spells is =
    let read = (answer-is-right (Some (first_marks params)) tokens).0 tree is in
    record { tokens = tokens; lexes = lexes; are_tokens = read.1; within = subst (λ n. n ≤ 255) (same-levels spells.args (written tree) (spells.are_tokens ∙ sym read.1)) spells.within; accepted = read.0 }
right-tree params script tokens words (FaultRead fault line) lexes spells is =
    in_tree (record { tokens = tokens; words = words; lexes = lexes; spells = spells; fault = fault; is_first = (answer-is-right (Some (first_marks params)) tokens).1 fault line is; is_kind = refl })
right-tree params script tokens words Unmatched lexes spells is = absurd (matched-is-answered (Some (first_marks params)) tokens (are-matched tokens words spells) is)

right-brace : (params : Params) (script : List ℕ) (tokens : List Token) (fault : SpellFault) → Lexes script tokens → (fault ≡ brace.NoMemory → ⊥) → IsBraceFault tokens fault → IsRight params script (Err (or_memory (brace_kind fault)))
right-brace params script tokens brace.NoMemory lexes known is = absurd (known refl)
right-brace params script tokens fault lexes known is = in_braces (record { tokens = tokens; lexes = lexes; fault = fault; is_first = is; is_kind = refl })

right-braces : (params : Params) (script : List ℕ) (tokens : List Token) (spelling : Result (List (List ℕ)) SpellFault) → Lexes script tokens → spelling_of tokens ≡ spelling
    → IsRight params script (braces_checked (Some (first_marks params)) tokens spelling)
right-braces params script tokens (Ok words) lexes is = right-tree params script tokens words (answer (Some (first_marks params)) tokens) lexes ((spelling-computed tokens words).1 is) refl
right-braces params script tokens (Err fault) lexes is = let found = (fault-computed tokens fault).1 is in right-brace params script tokens fault lexes found.0 found.1

right-lex : (params : Params) (script : List ℕ) (fault : LexKind) (line : ℕ) → lexed script ≡ Err (fault, line) → IsRight params script (Err (at_line line (lex_kind fault)))
right-lex params script lex.NoMemory line is = absurd (lexed-caused script line is)
right-lex params script fault line is = in_lexing (record { fault = fault; is_first = lexed-faults script fault line is; is_kind = refl })

right-lexing : (params : Params) (script : List ℕ) (lexing : Result (List Token) (LexKind × ℕ)) → lexed script ≡ lexing → IsRight params script (lexing_checked (Some (first_marks params)) lexing)
right-lexing params script (Ok tokens) is = right-braces params script tokens (spelling_of tokens) (lexed-reads script tokens is) refl
right-lexing params script (Err (fault, line)) is = right-lex params script fault line is

is-right : (params : Params) (script : List ℕ) → IsRight params script (checked params script)
unfolding checked_in
is-right params script = right-lexing params script (lexed script) refl

computed-tree : (params : Params) (script : List ℕ) (tree : Tree) → checked params script ≡ Ok tree → IsAcceptedScript params script tree
computed-tree params script tree is = subst (IsRight params script) is (is-right params script)

computed-fault : (params : Params) (script : List ℕ) (kind : CheckKind) (line : ℕ) → checked params script ≡ Err (kind, line) → IsScriptFault params script kind line
computed-fault params script kind line is = subst (IsRight params script) is (is-right params script)

-- ---- what is right is computed

lex-memory : (fault : LexKind) (kind : CheckKind) → lex_kind fault ≡ Some kind → fault ≡ lex.NoMemory → ⊥
lex-memory fault kind is none = never-some (sym is ∙ ap lex_kind none)

brace-memory : (fault : SpellFault) (kind : CheckKind) (line : ℕ) → brace_kind fault ≡ Some (kind, line) → fault ≡ brace.NoMemory → ⊥
brace-memory fault kind line is none = never-some (sym is ∙ ap brace_kind none)

pub accepted-spells : (params : Params) (script : List ℕ) (tree : Tree) (is : IsAcceptedScript params script tree) → Spells is.tokens (spelled 0 (written tree))
accepted-spells params script tree is = record { args = written tree; are_tokens = is.are_tokens; within = is.within; are_words = refl }

lexing-checked : (params : Params) (script : List ℕ) (lexing : Result (List Token) (LexKind × ℕ)) → lexed script ≡ lexing → checked params script ≡ lexing_checked (Some (first_marks params)) lexing
unfolding checked_in
lexing-checked params script lexing is = ap (lexing_checked (Some (first_marks params))) is

braces-checked : (params : Params) (script : List ℕ) (tokens : List Token) (spelling : Result (List (List ℕ)) SpellFault) → Lexes script tokens → spelling_of tokens ≡ spelling
    → checked params script ≡ braces_checked (Some (first_marks params)) tokens spelling
braces-checked params script tokens spelling lexes is = lexing-checked params script (Ok tokens) (reads-lexed script tokens lexes) ∙ ap (braces_checked (Some (first_marks params)) tokens) is

tree-checked : (params : Params) (script : List ℕ) (tokens : List Token) (words : List (List ℕ)) (read : Answer) → Lexes script tokens → Spells tokens words → answer (Some (first_marks params)) tokens ≡ read
    → checked params script ≡ tree_checked read
tree-checked params script tokens words read lexes spells is = braces-checked params script tokens (Ok words) lexes ((spelling-computed tokens words).0 spells) ∙ ap tree_checked is

pub accepted-checked : (params : Params) (script : List ℕ) (tree : Tree) → IsAcceptedScript params script tree → checked params script ≡ Ok tree
accepted-checked params script tree is =
    tree-checked params script is.tokens (spelled 0 (written tree)) (TreeRead tree) is.lexes (accepted-spells params script tree is)
    (tree-is-answered (Some (first_marks params)) is.tokens tree is.accepted is.are_tokens)

pub fault-checked : (params : Params) (script : List ℕ) (kind : CheckKind) (line : ℕ) → IsScriptFault params script kind line → checked params script ≡ Err (kind, line)
fault-checked params script kind line (in_lexing is) =
    lexing-checked params script (Err (is.fault, line)) (faults-lexed script is.fault line (lex-memory is.fault kind is.is_kind) is.is_first) ∙ ap (λ k. Err (at_line line k)) is.is_kind
fault-checked params script kind line (in_braces is) =
    braces-checked params script is.tokens (Err is.fault) is.lexes ((fault-computed is.tokens is.fault).0 (brace-memory is.fault kind line is.is_kind, is.is_first)) ∙ ap (λ k. Err (or_memory k)) is.is_kind
fault-checked params script kind line (in_tree is) =
    tree-checked params script is.tokens is.words (FaultRead is.fault line) is.lexes is.spells (fault-is-answered (Some (first_marks params)) is.tokens is.fault line is.is_first) ∙ ap (λ k. Err (k, line)) is.is_kind

-- ---- want of memory is no first fault

lex-known : (fault : LexKind) → lex_kind fault ≡ Some NoMemory → ⊥
lex-known lex.NoMemory is = cc
lex-known _ is = cc

brace-known : (fault : SpellFault) → option_map (λ (found : CheckKind × ℕ). found.0) (brace_kind fault) ≡ Some NoMemory → ⊥
brace-known brace.NoMemory is = cc
brace-known _ is = cc

tree-known : (fault : Fault) → tree_kind fault ≡ NoMemory → ⊥
tree-known tree.BlockMissing is = cc
tree-known _ is = cc

fault-known : (params : Params) (script : List ℕ) (line : ℕ) → IsScriptFault params script NoMemory line → ⊥
fault-known params script line (in_lexing is) = lex-known is.fault is.is_kind
fault-known params script line (in_braces is) = brace-known is.fault (ap (option_map (λ (found : CheckKind × ℕ). found.0)) is.is_kind)
fault-known params script line (in_tree is) = tree-known is.fault is.is_kind

-- ---- the law

pub tree-is-computed : TreeIsComputed
tree-is-computed params script tree = (accepted-checked params script tree, computed-tree params script tree)

pub fault-is-computed : FaultIsComputed
fault-is-computed params script kind line = (fault-checked params script kind line, computed-fault params script kind line)

pub never-memory : MemoryIsNeverComputed
never-memory params script line is = fault-known params script line (computed-fault params script NoMemory line is)

-- ---- the clauses of `check` and `first_fault`

pub answer-ok : (params : Params) (script : List ℕ) (result : Result Tree CheckFault) → IsAnswer (checked params script) result → IfOk result (IsAcceptedScript params script)
answer-ok params script (Ok tree) is = computed-tree params script tree is
answer-ok params script (Err fault) is = tt

first-fault : (params : Params) (script : List ℕ) (kind : CheckKind) (line : ℕ) → IsFaultOf (checked params script) kind line → IsFaultOrMemory params script kind line
first-fault params script NoMemory line is = is
first-fault params script kind line is = computed-fault params script kind line is

pub answer-fault : (params : Params) (script : List ℕ) (result : Result Tree CheckFault) → IsAnswer (checked params script) result → IfErr result (IsCheckFault params script)
answer-fault params script (Ok tree) is = tt
answer-fault params script (Err fault) is = first-fault params script fault.kind fault.line is

pub verdict-ok : (params : Params) (script : List ℕ) (result : Result (Unit {0}) CheckFault) → IsVerdict (checked params script) result → OnOk result (IsAcceptedAs params script)
verdict-ok params script (Ok done) has = record { tree = has.tree; accepted = computed-tree params script has.tree has.is }
verdict-ok params script (Err fault) is = tt

pub verdict-fault : (params : Params) (script : List ℕ) (result : Result (Unit {0}) CheckFault) → IsVerdict (checked params script) result → IfErr result (IsCheckFault params script)
verdict-fault params script (Ok done) has = tt
verdict-fault params script (Err fault) is = first-fault params script fault.kind fault.line is
