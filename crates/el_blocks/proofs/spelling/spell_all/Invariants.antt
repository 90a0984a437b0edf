use Rattle.std.proofs.Common.{◌≡◌}
use Rattle.std.specs.Slice.Iter.{iter_rest}
use Rattle.el_blocks.specs.Computed.{spelling_of}
use Rattle.el_blocks.specs.Speller.{given}
use Rattle.el_blocks.proofs.spelling.spell_all.Given as goal

abbrev pub invariant-loop-token : goal.invariant-loop-token
invariant-loop-token l = spelling_of l.tokens ≡ given l.speller (iter_rest l.token-iterator)
