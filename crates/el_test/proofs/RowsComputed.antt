-- The worked rows, computed.
use Rattle.std.proofs.Common.{refl}
use Rattle.el_test.specs.Operators.{binary_text, prefix_text, joiner_text, binary_named, prefix_named, joiner_named, holds}
use Rattle.el_test.specs.Reading.{read_on, reading}
use Rattle.el_test.specs.Rows.{WorkedRows}

pub worked_rows : WorkedRows
unfolding reading read_on binary_named prefix_named joiner_named binary_text prefix_text joiner_text holds
worked_rows = record {
  first_operand_is_no_number = refl;
  a_word_too_many = refl;
  open_group = refl;
  stray_close = refl;
  second_operand_is_no_number = refl;
  comparison_before_a_unary_operator = refl;
  comparison_in_an_open_group = refl;
  lone_word = refl;
  comparison_without_its_end = refl;
  three_plain_words = refl;
  unary_operator_alone = refl;
  joiner_at_the_end = refl;
  empty_group = refl;
  not_alone = refl;
  unary_operators = refl;
  numbers = refl;
  bytes = refl;
  group_and_more = refl;
  or_stops = refl;
  ask_fails = refl;
  answers_run_out = refl;
  no_words = refl;
  not_is_compared = refl;
  two_negations = refl;
  group_negated = refl;
  and_before_or = refl;
}
