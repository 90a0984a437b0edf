use Rattle.el_record.proofs.Records.{events_are_read, none_is_read, ends_are_read, no_end_is_read}
use Rattle.el_record.proofs.laws.records_are_read.Goals as goal

pub returns-clause-event : goal.returns-clause-event
returns-clause-event c = events_are_read

pub returns-clause-no_event : goal.returns-clause-no_event
returns-clause-no_event c = none_is_read

pub returns-clause-end : goal.returns-clause-end
returns-clause-end c = ends_are_read

pub returns-clause-no_end : goal.returns-clause-no_end
returns-clause-no_end c = no_end_is_read
