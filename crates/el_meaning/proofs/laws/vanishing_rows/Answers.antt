use Rattle.el_room.proofs.Vocabulary.{program_named, name_text, shape_of, and_do, start_act, wait_act, open_act, write_act, close_act, and_then, and_go_on, starting, failing, waited_for, unstarted, running, child_with, closing, trouble_text, trouble_status, message, complaint, refused, front_of, strict_name, warnings, after_telling, acting, entered}
use Rattle.el_machine.proofs.Vocabulary.{substituting, substitute_alone, foreground, number_read, numbers_read, redirfd, fdmove, waiting, running as last_running, last_command, effect, flat_step, flat_within}
use Rattle.std.proofs.Common.{[], false, refl, lit<}
use Rattle.std.specs.Fmt.{digits}
use Rattle.std.specs.FinMap as finite
use Rattle.el_front.specs.Fronts.{reading}
use Rattle.el_meaning.proofs.Worked.{whole_within, whole-made}
use Rattle.el_meaning.proofs.Lookups.{lookups}
use Rattle.el_meaning.specs.Rows.{IsMade, Ends, whole, begun_with, vanishing, vanishing_events}
use Rattle.el_meaning.proofs.laws.vanishing_rows.Goals as goal

pub returns-clause-accepted : goal.returns-clause-accepted
unfolding program_named name_text shape_of
returns-clause-accepted c = record {
  well_formed = record {
    formed = (
      record { letters = []; used = 1; ended = false; are_read = refl; literal = refl; in_rule = refl; enough = refl },
      (refl, refl),
      (refl, tt),
      tt,
      tt,
    );
    commands = (tt, refl);
  };
  keeps = ((refl, (refl, tt)), tt);
}

pub returns-clause-handed : goal.returns-clause-handed
unfolding and_then and_go_on complaint refused substituting substitute_alone last_command effect program_named name_text shape_of
returns-clause-handed c = record { are_events = simp lookups refl; is_end = simp lookups refl; is_left = simp lookups refl; none_left = simp lookups refl }

run_within : IsMade (whole (whole_within 10 vanishing [] (begun_with finite.empty))) 9 vanishing_events (Ends 0) 6
unfolding and_do start_act wait_act open_act write_act close_act and_then and_go_on starting failing waited_for unstarted running child_with closing trouble_text trouble_status message complaint refused substituting substitute_alone foreground number_read numbers_read redirfd fdmove waiting last_running last_command effect program_named name_text shape_of digits flat_within flat_step entered acting reading after_telling warnings strict_name front_of
run_within = record { are_events = simp lookups refl; is_end = simp lookups refl; is_left = simp lookups refl; none_left = simp lookups refl }

pub returns-clause-run_on : goal.returns-clause-run_on
returns-clause-run_on c = whole-made 10 9 vanishing [] (begun_with finite.empty) vanishing_events (Ends 0) 6 (lit< tt) (lit< tt) run_within
