use Rattle.el_room.proofs.Vocabulary.{program_named, name_text, shape_of, and_do, start_act, wait_act, write_act, and_then, and_go_on, closing, trouble_text, trouble_status, message, complaint, refused}
use Rattle.el_machine.proofs.Vocabulary.{substituting, import, waiting, running as last_running, last_command, effect}
use Rattle.std.proofs.Common.{refl}
use Rattle.std.specs.Fmt.{digits}
use Rattle.el_meaning.proofs.Lookups.{lookups}
use Rattle.el_meaning.proofs.laws.import_rows.Goals as goal

pub returns-clause-put : goal.returns-clause-put
unfolding and_do start_act wait_act write_act and_then and_go_on closing trouble_text trouble_status message complaint refused substituting import waiting last_running last_command effect program_named name_text shape_of digits
returns-clause-put c = record { are_events = simp lookups refl; is_end = simp lookups refl; is_left = simp lookups refl; none_left = simp lookups refl }

pub returns-clause-unset : goal.returns-clause-unset
unfolding and_do start_act wait_act write_act and_then and_go_on closing trouble_text trouble_status message complaint refused substituting import waiting last_running last_command effect program_named name_text shape_of digits
returns-clause-unset c = record { are_events = simp lookups refl; is_end = simp lookups refl; is_left = simp lookups refl; none_left = simp lookups refl }
