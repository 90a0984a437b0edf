-- A script that is read token by token, by whatever takes its tokens. Only the code's contracts need it.
use Rattle.el_script.specs.Vocabulary.{LexKind, Token, spelling_of, Tree, TestScope, last_line, FaultRead, answer}
use Rattle.std.specs.Prelude.{◌≡◌, ℕ, List, ◌++◌, Option, None, Some, Result, Ok, Err}
use Rattle.el_lex.specs.Scan.{in_front}
use Rattle.el_reader.specs.declared.reader.Misread.{Misread}
use Rattle.el_check.specs.declared.params.Params.{Params}
use Rattle.el_check.specs.declared.kind.CheckFault.{CheckFault}
use Rattle.el_check.specs.declared.survey.Survey.{Survey}
use Rattle.el_check.specs.declared.survey.Surveyed.{Surveyed}
use Rattle.el_check.specs.Scripts.{IsAcceptedScript}
use Rattle.el_check.specs.Braces.{fault_in, fault_behind}
use Rattle.el_check.specs.Checks.{Checked, tree_checked, IsFaultOf}

-- ---- what is known behind the tokens that were read, by what their reader has read and how many levels are open in it

module _ {R : Type 0} (has_read : TestScope → R → List Token → Type 0) (depth : R → ℕ) where
  -- the first fault as a tree, if there is one so far
  abbrev pub IsTreeKnown : (first : TestScope) → Survey R → (before : List Token) → Option Misread → Type 0
  IsTreeKnown first survey before (Some misread) = (after : List Token) → answer first (before ++ after) ≡ FaultRead misread.fault misread.line
  IsTreeKnown first survey before None = has_read first survey.reader before × (depth survey.reader ≡ survey.blocks.depth) × (survey.last_line ≡ last_line before)

  -- what the survey knows of these tokens is right: their first fault as braces, and where there is none so far, as a tree
  abbrev pub IsSurvey : (first : TestScope) → Survey R → (before : List Token) → Type 0
  IsSurvey first survey before =
      ((after : List Token) → fault_in (spelling_of (before ++ after)) ≡ fault_behind survey.blocks after)
      × (survey.blocks.fault ≡ None → IsTreeKnown first survey before survey.misread)

-- what the survey knows of some tokens is right
pub record HasSurveyed {R : Type 0} (has_read : TestScope → R → List Token → Type 0) (depth : R → ℕ) (survey : Survey R) : Type 0 where
  pub first : TestScope
  pub before : List Token
  pub known : IsSurvey has_read depth first survey before

-- what is lexed
abbrev pub Lexed : Type 0
Lexed = Result (List Token) (LexKind × ℕ)

-- some tokens of a script are known, and this is to come
pub record IsSurveying {R : Type 0} (has_read : TestScope → R → List Token → Type 0) (depth : R → ℕ) (first : TestScope) (script : Lexed) (survey : Survey R) (coming : Lexed) : Type 0 where
  pub before : List Token
  pub is : script ≡ in_front before coming
  pub known : IsSurvey has_read depth first survey before

-- the reader has read tokens to their end, and their tree gives the answer
pub record HasReadAll {R : Type 0} (has_read : TestScope → R → List Token → Type 0) (depth : R → ℕ) (first : TestScope) (answered : Checked) (surveyed : Surveyed R) : Type 0 where
  pub tokens : List Token
  pub read : has_read first surveyed.reader tokens
  pub closed : depth surveyed.reader ≡ 0
  pub last : surveyed.last_line ≡ last_line tokens
  pub is : answered ≡ tree_checked (answer first tokens)

module _ {R : Type 0} (has_read : TestScope → R → List Token → Type 0) (depth : R → ℕ) where
  -- from these tokens to come to those
  abbrev pub GoesOn : (old : Survey R) → (part : List Token) → (new : Survey R) → (rest : List Token) → Type 0
  GoesOn old part new rest = (first : TestScope) (script coming : Lexed) → IsSurveying has_read depth first script old (in_front part coming) → IsSurveying has_read depth first script new (in_front rest coming)

  -- in the end all is read, or the answer is this fault
  abbrev pub EndsAs : (first : TestScope) → (answered : Checked) → Result (Surveyed R) CheckFault → Type 0
  EndsAs first answered (Ok surveyed) = HasReadAll has_read depth first answered surveyed
  EndsAs first answered (Err fault) = IsFaultOf answered fault.kind fault.line

-- ---- what comes of it

-- a tree is computed
pub record AnswersTree (answer : Checked) : Type 0 where
  pub tree : Tree
  pub is : answer ≡ Ok tree

-- the computed answer is a tree, or this fault, or there was no memory
abbrev pub IsVerdict : Checked → Result (Unit {0}) CheckFault → Type 0
IsVerdict answer (Ok done) = AnswersTree answer
IsVerdict answer (Err fault) = IsFaultOf answer fault.kind fault.line

-- the script is accepted with some tree
pub record IsAcceptedAs (params : Params) (script : List ℕ) : Type 0 where
  pub tree : Tree
  pub accepted : IsAcceptedScript params script tree
