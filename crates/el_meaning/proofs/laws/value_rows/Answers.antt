use Rattle.el_room.proofs.Vocabulary.{program_named, name_text, shape_of, and_do, start_act, wait_act, write_act, close_act, pipe_act, read_act, and_then, and_go_on, starting, unstarted_code, closing, whole_input, gathered, most_units, trouble_text, trouble_status, message, complaint, refused}
use Rattle.el_machine.proofs.Vocabulary.{piped, started_at, backtick, output_of, written_by, value_from, going_on, begun, turns, turn, started, after_started, turn_code, loop_end, first_ending, ending, breaking_off, forx, waiting, running as last_running, last_command, effect}
use Rattle.std.proofs.Common.{refl}
use Rattle.std.specs.Fmt.{digits}
use Rattle.el_pipes.specs.Backtick.{read_from, waited_for as tick_wait}
use Rattle.el_meaning.proofs.laws.value_rows.Goals as goal

pub returns-clause-turns : goal.returns-clause-turns
unfolding and_do start_act wait_act write_act close_act pipe_act read_act and_then and_go_on starting unstarted_code closing trouble_text trouble_status message complaint refused whole_input gathered most_units forx begun turns turn started after_started turn_code loop_end first_ending ending breaking_off piped started_at backtick output_of written_by read_from tick_wait value_from going_on waiting last_running last_command effect program_named name_text shape_of digits
returns-clause-turns c = record { are_events = refl; is_end = refl; is_left = refl; none_left = refl }

pub returns-clause-put : goal.returns-clause-put
unfolding and_do start_act wait_act write_act close_act pipe_act read_act and_then and_go_on starting unstarted_code closing trouble_text trouble_status message complaint refused whole_input gathered most_units forx begun turns turn started after_started turn_code loop_end first_ending ending breaking_off piped started_at backtick output_of written_by read_from tick_wait value_from going_on waiting last_running last_command effect program_named name_text shape_of digits
returns-clause-put c = record { are_events = refl; is_end = refl; is_left = refl; none_left = refl }

pub returns-clause-refused : goal.returns-clause-refused
unfolding and_do start_act wait_act write_act close_act pipe_act read_act and_then and_go_on starting unstarted_code closing trouble_text trouble_status message complaint refused whole_input gathered most_units forx begun turns turn started after_started turn_code loop_end first_ending ending breaking_off piped started_at backtick output_of written_by read_from tick_wait value_from going_on waiting last_running last_command effect program_named name_text shape_of digits
returns-clause-refused c = record { are_events = refl; is_end = refl; is_left = refl; none_left = refl }
