-- Brace faults, told without the spelling. Only the code's contracts need it.
use Rattle.el_script.specs.Vocabulary.{option_or, Token, SpellFault}
use Rattle.std.specs.Prelude.{ℕ, List, Option, None, Some, Result, Ok, Err}
use Rattle.el_blocks.specs.Computed.{spelled_from}
use Rattle.el_check.specs.declared.braces.OpenBlocks.{OpenBlocks}

-- the fault, where the spelling is none
abbrev pub fault_in : Result (List (List ℕ)) SpellFault → Option SpellFault
fault_in (Ok words) = None
fault_in (Err fault) = Some fault

-- the first fault of tokens behind open blocks, if none was found before
abbrev pub fault_behind : OpenBlocks → List Token → Option SpellFault
fault_behind blocks tokens = option_or blocks.fault (fault_in (spelled_from blocks.depth blocks.outermost tokens))
