-- The text of a fault, as messages show it. Only the code's contracts need it.
use Rattle.std.specs.Prelude.{ℕ, List, ◌++◌, codes}
use Rattle.std.specs.Fmt.{decimal}
use Rattle.el_reader.specs.declared.tree_fault.TreeKind.{TreeKind}
use Rattle.el_reader.specs.declared.tree_fault.TreeKind.TheVariants.{BlockMissing, BlockNotLiteral, OptionNotLiteral, NameNotLiteral, BadOption, BadNumber, BadDirective, ArgumentMissing, ManyWordsInOnePlace, OptionFromValue, NoMemory}

-- the name of a kind
unfoldable pub kind_name : TreeKind → List ℕ
kind_name BlockMissing = codes "BlockMissing"
kind_name BlockNotLiteral = codes "BlockNotLiteral"
kind_name OptionNotLiteral = codes "OptionNotLiteral"
kind_name NameNotLiteral = codes "NameNotLiteral"
kind_name BadOption = codes "BadOption"
kind_name BadNumber = codes "BadNumber"
kind_name BadDirective = codes "BadDirective"
kind_name ArgumentMissing = codes "ArgumentMissing"
kind_name ManyWordsInOnePlace = codes "ManyWordsInOnePlace"
kind_name OptionFromValue = codes "OptionFromValue"
kind_name NoMemory = codes "NoMemory"

-- the line and the name of the kind; want of memory has no line
unfoldable pub text_on_line : (line : ℕ) → TreeKind → List ℕ
text_on_line line NoMemory = codes "no memory"
text_on_line line kind = codes "line " ++ decimal line ++ codes ": " ++ kind_name kind
