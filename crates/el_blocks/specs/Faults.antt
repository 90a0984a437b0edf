-- The text of a fault, as messages show it. Only the code's contracts need it.
use Rattle.std.specs.Prelude.{ℕ, List, ◌++◌, codes}
use Rattle.std.specs.Fmt.{decimal}
use Rattle.el_blocks.specs.declared.fault.SpellFault.{SpellFault}
use Rattle.el_blocks.specs.declared.fault.SpellFault.TheVariants.{StrayClose, TooDeep, Unclosed, NoMemory}

-- the name of a kind
unfoldable pub fault_name : SpellFault → List ℕ
fault_name (StrayClose line) = codes "StrayClose"
fault_name (TooDeep line) = codes "TooDeep"
fault_name (Unclosed line) = codes "Unclosed"
fault_name NoMemory = codes "NoMemory"

-- the line and the name of the kind; want of memory has no line
unfoldable pub fault_text : SpellFault → List ℕ
fault_text (StrayClose line) = codes "line " ++ decimal line ++ codes ": " ++ fault_name (StrayClose line)
fault_text (TooDeep line) = codes "line " ++ decimal line ++ codes ": " ++ fault_name (TooDeep line)
fault_text (Unclosed line) = codes "line " ++ decimal line ++ codes ": " ++ fault_name (Unclosed line)
fault_text NoMemory = codes "no memory"

-- what is said of a block that doesn't end
unfoldable pub unterminated_text : List ℕ
unterminated_text = codes "unterminated block"
