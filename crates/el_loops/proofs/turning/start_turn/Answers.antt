use Rattle.std.proofs.Common.{sym, ◌∙◌}
use Rattle.el_world.proofs.Follows.{memory_short}
use Rattle.el_loops.proofs.turning.start_turn.Goals as goal

pub returns-then-not-puts_values-clause-run : goal.returns-then-not-puts_values-clause-run
returns-then-not-puts_values-clause-run g c =
    let alone = sym c.puts_values.ensures ∙ c.if-not-puts_values.true in
    rw alone c.start.ensures.run

pub value_pairs-requires-clause-good : goal.value_pairs-requires-clause-good
value_pairs-requires-clause-good g c =
    let puts = sym c.puts_values.ensures ∙ c.if-not-puts_values.false in
    rw puts at c.requires.good

pub returns-in_err-pairs-clause-run : goal.returns-in_err-pairs-clause-run
returns-in_err-pairs-clause-run g c = memory_short c.from_residual.ensures.1

pub returns-in_err-words-clause-run : goal.returns-in_err-words-clause-run
returns-in_err-words-clause-run g c = memory_short c.from_residual-in_err-words.ensures.1

pub returns-clause-run : goal.returns-clause-run
returns-clause-run g c =
    let puts = sym c.puts_values.ensures ∙ c.if-not-puts_values.false in
    let words = rw c.in_ok-pairs.ensures at c.in_ok-words.ensures.values in
    rw puts (rw words at c.start-2.ensures.run)
