-- The text of a fault, as messages show it. Only the code's contracts need it.
use Rattle.std.specs.Prelude.{ℕ, List, ◌++◌, codes}
use Rattle.std.specs.Fmt.{decimal}
use Rattle.el_lex.specs.declared.fault.LexFault.{LexFault}
use Rattle.el_lex.specs.declared.fault.LexKind.{LexKind}
use Rattle.el_lex.specs.declared.fault.LexKind.TheVariants.{TooLong, Nul, EndAfterBackslash, BadNumber, ByteTooLarge, NulEscape, OpenQuote, NoMemory}

-- the name of a kind
unfoldable pub kind_name : LexKind → List ℕ
kind_name TooLong = codes "TooLong"
kind_name Nul = codes "Nul"
kind_name EndAfterBackslash = codes "EndAfterBackslash"
kind_name BadNumber = codes "BadNumber"
kind_name ByteTooLarge = codes "ByteTooLarge"
kind_name NulEscape = codes "NulEscape"
kind_name OpenQuote = codes "OpenQuote"
kind_name NoMemory = codes "NoMemory"

-- the line and the name of the kind; want of memory has no line
unfoldable pub text_on_line : (line : ℕ) → LexKind → List ℕ
text_on_line line NoMemory = codes "no memory"
text_on_line line kind = codes "line " ++ decimal line ++ codes ": " ++ kind_name kind

-- the text of a fault
abbrev pub fault_text : LexFault → List ℕ
fault_text fault = text_on_line fault.line fault.kind
