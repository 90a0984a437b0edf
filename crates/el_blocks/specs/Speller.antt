-- What is spelled from where a speller stands. Only the code's contracts need it.
use Rattle.std.specs.Prelude.{ℕ, List, Result}
use Rattle.el_lex.specs.declared.token.Token.{Token}
use Rattle.el_blocks.specs.declared.fault.SpellFault.{SpellFault}
use Rattle.el_blocks.specs.declared.speller.Speller.{Speller}
use Rattle.el_blocks.specs.Computed.{in_front, spelled_from}

-- the words so far, with what the tokens behind give
abbrev pub given : Speller → List Token → Result (List (List ℕ)) SpellFault
given speller tokens = in_front speller.words (spelled_from speller.depth speller.outermost tokens)
