-- The text of a fault, as messages show it.
use Rattle.std.specs.Prelude.{ℕ, List, ◌++◌, codes}
use Rattle.std.specs.Fmt.{decimal}
use Rattle.el_check.specs.declared.kind.CheckFault.{CheckFault}
use Rattle.el_check.specs.declared.kind.CheckKind.{CheckKind}
use Rattle.el_check.specs.declared.kind.CheckKind.TheVariants.{TooLong, Nul, EndAfterBackslash, BadNumber, ByteTooLarge, NulEscape, OpenQuote, StrayClose, TooDeep, Unclosed, BlockMissing, BlockNotLiteral, OptionNotLiteral, NameNotLiteral, BadOption, BadDirective, ArgumentMissing, ManyWordsInOnePlace, ManyAfterValue, OptionFromValue, NoMemory}

-- the name of a kind
unfoldable pub kind_name : CheckKind → List ℕ
kind_name TooLong = codes "TooLong"
kind_name Nul = codes "Nul"
kind_name EndAfterBackslash = codes "EndAfterBackslash"
kind_name BadNumber = codes "BadNumber"
kind_name ByteTooLarge = codes "ByteTooLarge"
kind_name NulEscape = codes "NulEscape"
kind_name OpenQuote = codes "OpenQuote"
kind_name StrayClose = codes "StrayClose"
kind_name TooDeep = codes "TooDeep"
kind_name Unclosed = codes "Unclosed"
kind_name BlockMissing = codes "BlockMissing"
kind_name BlockNotLiteral = codes "BlockNotLiteral"
kind_name OptionNotLiteral = codes "OptionNotLiteral"
kind_name NameNotLiteral = codes "NameNotLiteral"
kind_name BadOption = codes "BadOption"
kind_name BadDirective = codes "BadDirective"
kind_name ArgumentMissing = codes "ArgumentMissing"
kind_name ManyWordsInOnePlace = codes "ManyWordsInOnePlace"
kind_name ManyAfterValue = codes "ManyAfterValue"
kind_name OptionFromValue = codes "OptionFromValue"
kind_name NoMemory = codes "NoMemory"

-- the line and the name of the kind; want of memory has no line
unfoldable pub text_on_line : (line : ℕ) → CheckKind → List ℕ
text_on_line line NoMemory = codes "no memory"
text_on_line line kind = codes "line " ++ decimal line ++ codes ": " ++ kind_name kind

-- the text of a fault
abbrev pub fault_text : CheckFault → List ℕ
fault_text fault = text_on_line fault.line fault.kind
