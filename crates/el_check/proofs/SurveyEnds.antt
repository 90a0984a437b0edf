-- What is answered of a script behind a survey of it.
use Rattle.el_script.proofs.Vocabulary.{option_or, Token, LexFault, LexKind, lexed, in_front, IsFaultOf as IsLexFaultOf, SpellFault, spelling_of, spelled_from, Fault, At, Before, PlacedFault, Tree, TestScope, fault_of, last_line, line_of, FaultRead, answer}
use Rattle.std.proofs.Common.{◌≡◌, ◌∙◌, ◌++◌, ℕ, suc, List, [], Option, None, Some, Result, Ok, Err, refl, sym, ap, ap₂, subst, append-nil, inl, inr}
use Rattle.std.proofs.lemmas.Option.{same_Some}
use Rattle.el_lex.specs.declared.fault.LexKind.TheVariants as lex
use Rattle.el_lex.proofs.Scans.{fault_along, fault_behind as lex_fault_behind}
use Rattle.el_blocks.specs.declared.fault.SpellFault.TheVariants as brace
use Rattle.el_tree.specs.declared.fault.Fault.TheVariants as tree
use Rattle.el_reader.specs.declared.reader.Misread.{Misread}
use Rattle.el_reader.specs.declared.reader.Reader.{Reader}
use Rattle.el_reader.specs.declared.inspection.Inspection.{Inspection}
use Rattle.el_reader.specs.Readers.{HoldsTokens, open_levels as reader_depth, fault_line, answer_told}
use Rattle.el_reader.specs.Inspections.{open_levels, HasRead, IsEnded}
use Rattle.el_check.specs.declared.survey.Survey.{Survey}
use Rattle.el_check.specs.declared.survey.Surveyed.{Surveyed}
use Rattle.el_check.specs.declared.kind.CheckKind.{CheckKind}
use Rattle.el_check.specs.declared.kind.CheckFault.{CheckFault}
use Rattle.el_check.specs.Faults.{lex_kind, brace_kind, tree_kind}
use Rattle.el_check.specs.Braces.{fault_in, fault_behind}
use Rattle.el_check.specs.Checks.{Checked, at_line, or_memory, tree_checked, braces_checked, lexing_checked, checked_in, IsFaultOf}
use Rattle.el_check.specs.Surveys.{Lexed, IsTreeKnown, IsSurvey, IsSurveying, HasReadAll, EndsAs, AnswersTree}

-- ---- faults that are told

-- a fault, by its kind and line
abbrev FaultsAs : Checked → CheckKind × ℕ → Type 0
FaultsAs answer fault = IsFaultOf answer fault.0 fault.1

lex-fault : (kind : LexKind) (line : ℕ) → FaultsAs (Err (at_line line (lex_kind kind))) (at_line line (lex_kind kind))
lex-fault lex.NoMemory line = refl
lex-fault _ line = refl

brace-fault : (fault : SpellFault) → FaultsAs (Err (or_memory (brace_kind fault))) (or_memory (brace_kind fault))
brace-fault brace.NoMemory = refl
brace-fault _ = refl

tree-fault : (fault : Fault) (line : ℕ) → FaultsAs (Err (tree_kind fault, line)) (tree_kind fault, line)
tree-fault tree.BlockMissing line = refl
tree-fault _ line = refl

-- the answer is this fault, which the code tells
verdict : (answer : Checked) (found : CheckKind × ℕ) (fault : CheckFault) → answer ≡ Err found → FaultsAs (Err found) found → (fault.kind, fault.line) ≡ found → IsFaultOf answer fault.kind fault.line
verdict answer found fault is faults gives = subst (FaultsAs answer) (sym gives) (subst (λ a. FaultsAs a found) (sym is) faults)

pub lex-verdict : (first : TestScope) (script : Lexed) (found : LexFault) (fault : CheckFault) → IsLexFaultOf script found → (fault.kind, fault.line) ≡ at_line found.line (lex_kind found.kind) → IsFaultOf (lexing_checked first script) fault.kind fault.line
lex-verdict first script found fault (inl none) gives = subst (FaultsAs (lexing_checked first script)) (sym (gives ∙ ap (λ (f : LexFault). at_line f.line (lex_kind f.kind)) none)) refl
lex-verdict first script found fault (inr is) gives = verdict _ _ fault (ap (lexing_checked first) is) (lex-fault found.kind found.line) gives

tree-verdict : (answer : Checked) (misread : Misread) (fault : CheckFault) → answer ≡ Err (tree_kind misread.fault, misread.line) → fault ≡ record { kind = tree_kind misread.fault; line = misread.line } → IsFaultOf answer fault.kind fault.line
tree-verdict answer misread fault is gives = verdict answer _ fault is (tree-fault misread.fault misread.line) (ap (λ (f : CheckFault). (f.kind, f.line)) gives)

-- ---- where nothing more comes

brace-checked : (scope : TestScope) (tokens : List Token) (spelled : Result (List (List ℕ)) SpellFault) (fault : SpellFault) → fault_in spelled ≡ Some fault → braces_checked scope tokens spelled ≡ Err (or_memory (brace_kind fault))
brace-checked scope tokens (Ok words) fault is = absurd (cc)
brace-checked scope tokens (Err other) fault is = ap (λ f. Err (or_memory (brace_kind f))) (same_Some other fault is)

no-brace-checked : (scope : TestScope) (tokens : List Token) (spelled : Result (List (List ℕ)) SpellFault) → fault_in spelled ≡ None → braces_checked scope tokens spelled ≡ tree_checked (answer scope tokens)
no-brace-checked scope tokens (Ok words) none = refl
no-brace-checked scope tokens (Err fault) none = absurd (cc)

all-closed : (fault : Option SpellFault) (depth outermost : ℕ) → None ≡ option_or fault (fault_in (spelled_from depth outermost [])) → (fault ≡ None) × (depth ≡ 0)
all-closed None Prim.Native.Nat.zero outermost none = (refl, refl)
all-closed None (suc depth) outermost none = absurd (cc)
all-closed (Some fault) depth outermost none = absurd (cc)

module _ {R : Type 0} (has_read : TestScope → R → List Token → Type 0) (depth : R → ℕ) (first : TestScope) (survey : Survey R) (tokens : List Token) (known : IsSurvey has_read depth first survey tokens) where
  spelled-behind : (found : Option SpellFault) → found ≡ fault_behind survey.blocks [] → fault_in (spelling_of tokens) ≡ found
  spelled-behind found end = ap (λ t. fault_in (spelling_of t)) (sym (append-nil tokens)) ∙ known.0 [] ∙ sym end

  pub braces-wrong : (found : SpellFault) (fault : CheckFault) → Some found ≡ fault_behind survey.blocks [] → (fault.kind, fault.line) ≡ or_memory (brace_kind found) → IsFaultOf (braces_checked first tokens (spelling_of tokens)) fault.kind fault.line
  braces-wrong found fault end gives = verdict _ _ fault (brace-checked first tokens (spelling_of tokens) found (spelled-behind (Some found) end)) (brace-fault found) gives

  tree-known : (misread : Option Misread) → None ≡ fault_behind survey.blocks [] → survey.misread ≡ misread → IsTreeKnown has_read depth first survey tokens misread
  tree-known misread end is = subst (IsTreeKnown has_read depth first survey tokens) is (known.1 (all-closed survey.blocks.fault survey.blocks.depth survey.blocks.outermost end).0)

  answered : None ≡ fault_behind survey.blocks [] → braces_checked first tokens (spelling_of tokens) ≡ tree_checked (answer first tokens)
  answered end = no-brace-checked first tokens (spelling_of tokens) (spelled-behind None end)

  pub tree-wrong : (misread : Misread) (fault : CheckFault) → None ≡ fault_behind survey.blocks [] → survey.misread ≡ Some misread → fault ≡ record { kind = tree_kind misread.fault; line = misread.line }
      → IsFaultOf (braces_checked first tokens (spelling_of tokens)) fault.kind fault.line
  tree-wrong misread fault end some gives =
      tree-verdict _ misread fault (answered end ∙ ap tree_checked (ap (answer first) (sym (append-nil tokens)) ∙ tree-known (Some misread) end some [])) gives

  pub nothing-wrong : None ≡ fault_behind survey.blocks [] → survey.misread ≡ None → HasReadAll has_read depth first (braces_checked first tokens (spelling_of tokens)) (record { reader = survey.reader; last_line = survey.last_line })
  nothing-wrong end right =
      let read = tree-known None end right in
      record { tokens = tokens; read = read.0; closed = read.1 ∙ (all-closed survey.blocks.fault survey.blocks.depth survey.blocks.outermost end).1; last = read.2; is = answered end }

-- ---- a script to its end

lexes-all : (script coming behind : Lexed) (before part : List Token) → script ≡ in_front before coming → coming ≡ in_front part behind → part ≡ [] → behind ≡ Ok [] → script ≡ Ok before
lexes-all script coming behind before part is comes none over =
    let all : coming ≡ Ok [] = comes ∙ ap (in_front part) over ∙ ap (λ tokens. Ok (tokens ++ [])) none in
    is ∙ ap (in_front before) all ∙ ap Ok (append-nil before)

module _ {R : Type 0} (has_read : TestScope → R → List Token → Type 0) (depth : R → ℕ) (first : TestScope) (text : List ℕ) (coming : Lexed) (survey : Survey R) (is : IsSurveying has_read depth first (lexed text) survey coming) where
  pub lex-wrong : (found : LexFault) (fault : CheckFault) → IsLexFaultOf coming found → (fault.kind, fault.line) ≡ at_line found.line (lex_kind found.kind) → IsFaultOf (lexing_checked first (lexed text)) fault.kind fault.line
  lex-wrong found fault wrong gives = lex-verdict first (lexed text) found fault (fault_along _ _ _ is.is (lex_fault_behind is.before _ _ wrong)) gives

  pub survey-ends : (behind : Lexed) (part : List Token) (result : Result (Surveyed R) CheckFault) → coming ≡ in_front part behind → part ≡ [] → behind ≡ Ok []
      → ((tokens : List Token) → IsSurvey has_read depth first survey tokens → EndsAs has_read depth first (braces_checked first tokens (spelling_of tokens)) result) → EndsAs has_read depth first (checked_in first text) result
  unfolding checked_in
  survey-ends behind part result comes none over ends =
      subst (λ read. EndsAs has_read depth first (lexing_checked first read) result) (sym (lexes-all (lexed text) coming behind is.before part is.is comes none over)) (ends is.before is.known)

-- ---- an inspection to its end

end-line : (tokens : List Token) (found : PlacedFault) (last : ℕ) → last ≡ last_line tokens → fault_line found 0 last ≡ line_of tokens [] found
end-line tokens (At fault) last is = refl
end-line tokens (Before fault) last is = is

module _ (first : TestScope) (answered : Checked) (surveyed : Surveyed Inspection) (has : HasReadAll HasRead open_levels first answered surveyed) where
  pub end-wrong : (found : PlacedFault) (misread : Misread) (fault : CheckFault) → IsEnded surveyed.reader (Some found) → misread.fault ≡ fault_of found → misread.line ≡ fault_line found 0 surveyed.last_line → fault ≡ record { kind = tree_kind misread.fault; line = misread.line }
      → IsFaultOf answered fault.kind fault.line
  end-wrong found misread fault ended is_fault is_line gives =
      let told = ap₂ FaultRead is_fault (is_line ∙ end-line has.tokens found surveyed.last_line has.last) in
      tree-verdict answered misread fault (has.is ∙ ap tree_checked (ended first has.tokens has.read ∙ sym told)) gives

  pub end-right : IsEnded surveyed.reader None → AnswersTree answered
  end-right ended =
      let tree = ended first has.tokens has.read has.closed in
      record { tree = tree.tree; is = has.is ∙ ap tree_checked tree.is }

-- ---- a tree to its end

module _ (first : TestScope) (answered : Checked) (surveyed : Surveyed Reader) (has : HasReadAll HoldsTokens reader_depth first answered surveyed) (read : Result Tree Misread)
    (told : (first : TestScope) (tokens : List Token) → HoldsTokens first surveyed.reader tokens → surveyed.last_line ≡ last_line tokens → answer_told read ≡ answer first tokens) where
  read-as : (result : Result Tree Misread) → read ≡ result → answered ≡ tree_checked (answer_told result)
  read-as result is = has.is ∙ ap tree_checked (sym (told first has.tokens has.read has.last) ∙ ap answer_told is)

  pub read-right : (tree : Tree) → read ≡ Ok tree → answered ≡ Ok tree
  read-right tree is = read-as (Ok tree) is

  pub read-wrong : (misread : Misread) (fault : CheckFault) → read ≡ Err misread → fault ≡ record { kind = tree_kind misread.fault; line = misread.line } → IsFaultOf answered fault.kind fault.line
  read-wrong misread fault is gives = tree-verdict answered misread fault (read-as (Err misread) is) gives
