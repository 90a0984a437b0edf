-- The first fault of a script.
use Rattle.el_script.specs.Vocabulary.{Token, LexKind, Lexes, SpellFault, Spells, Fault}
use Rattle.std.specs.Prelude.{◌≡◌, ℕ, List, Option, None, Some}
use Rattle.el_lex.specs.declared.fault.LexKind.TheVariants as lex
use Rattle.el_lex.specs.Faults.{IsFirstFault}
use Rattle.el_blocks.specs.declared.fault.SpellFault.TheVariants as brace
use Rattle.el_blocks.specs.Braces.{IsBraceFault}
use Rattle.el_tree.specs.declared.fault.Fault.TheVariants as tree
use Rattle.el_tree.specs.FirstFault.{IsFaultUnder}
use Rattle.el_check.specs.declared.params.Params.{Params}
use Rattle.el_check.specs.declared.kind.CheckKind.{CheckKind}
use Rattle.el_check.specs.declared.kind.CheckKind.TheVariants.{TooLong, Nul, EndAfterBackslash, BadNumber, ByteTooLarge, NulEscape, OpenQuote, StrayClose, TooDeep, Unclosed, BlockMissing, BlockNotLiteral, OptionNotLiteral, NameNotLiteral, BadOption, BadDirective, ArgumentMissing, ManyWordsInOnePlace, ManyAfterValue, OptionFromValue}
use Rattle.el_check.specs.Scripts.{first_marks}

-- ---- the kinds of the parts; want of memory is none of a script's

-- the kind of a fault of lexing; none for want of memory
abbrev pub lex_kind : LexKind → Option CheckKind
lex_kind lex.TooLong = Some TooLong
lex_kind lex.Nul = Some Nul
lex_kind lex.EndAfterBackslash = Some EndAfterBackslash
lex_kind lex.BadNumber = Some BadNumber
lex_kind lex.ByteTooLarge = Some ByteTooLarge
lex_kind lex.NulEscape = Some NulEscape
lex_kind lex.OpenQuote = Some OpenQuote
lex_kind lex.NoMemory = None

-- the kind of a brace fault with its line; none for want of memory
abbrev pub brace_kind : SpellFault → Option (CheckKind × ℕ)
brace_kind (brace.StrayClose line) = Some (StrayClose, line)
brace_kind (brace.TooDeep line) = Some (TooDeep, line)
brace_kind (brace.Unclosed line) = Some (Unclosed, line)
brace_kind brace.NoMemory = None

-- the kind of a fault of the tree
abbrev pub tree_kind : Fault → CheckKind
tree_kind tree.BlockMissing = BlockMissing
tree_kind tree.BlockNotLiteral = BlockNotLiteral
tree_kind tree.OptionNotLiteral = OptionNotLiteral
tree_kind tree.NameNotLiteral = NameNotLiteral
tree_kind tree.BadOption = BadOption
tree_kind tree.BadNumber = BadNumber
tree_kind tree.BadDirective = BadDirective
tree_kind tree.ArgumentMissing = ArgumentMissing
tree_kind tree.ManyWordsInOnePlace = ManyWordsInOnePlace
tree_kind tree.ManyAfterValue = ManyAfterValue
tree_kind tree.OptionFromValue = OptionFromValue

-- ---- the first fault

-- the first fault is one of lexing
pub record InLexing (script : List ℕ) (kind : CheckKind) (line : ℕ) : Type 0 where
  pub fault : LexKind
  pub is_first : IsFirstFault script fault line
  pub is_kind : lex_kind fault ≡ Some kind

-- the script lexes, and the first fault is one of its braces
pub record InBraces (script : List ℕ) (kind : CheckKind) (line : ℕ) : Type 0 where
  pub tokens : List Token
  pub lexes : Lexes script tokens
  pub fault : SpellFault
  pub is_first : IsBraceFault tokens fault
  pub is_kind : brace_kind fault ≡ Some (kind, line)

-- the script lexes and its braces match, and the first fault is one of the tree under the first marks
pub record InTree (params : Params) (script : List ℕ) (kind : CheckKind) (line : ℕ) : Type 0 where
  pub tokens : List Token
  pub words : List (List ℕ)
  pub lexes : Lexes script tokens
  pub spells : Spells tokens words
  pub fault : Fault
  pub is_first : IsFaultUnder (first_marks params) tokens fault line
  pub is_kind : tree_kind fault ≡ kind

-- the first fault of lexing, or else that of the braces, or else that of the tree under the first marks
pub data IsScriptFault (params : Params) (script : List ℕ) (kind : CheckKind) (line : ℕ) : Type 0 where
  in_lexing : InLexing script kind line → IsScriptFault params script kind line
  in_braces : InBraces script kind line → IsScriptFault params script kind line
  in_tree : InTree params script kind line → IsScriptFault params script kind line
