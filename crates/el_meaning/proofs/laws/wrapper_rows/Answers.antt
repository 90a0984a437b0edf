use Rattle.el_room.proofs.Vocabulary.{program_named, name_text, flag, shape_of, and_do, start_act, wait_act, open_act, write_act, close_act, and_then, and_go_on, starting, failing, waited_for, unstarted, running, child_with, closing, trouble_text, trouble_status, message, complaint, refused}
use Rattle.el_machine.proofs.Vocabulary.{substituting, substitute_alone, foreground, number_read, numbers_read, redirfd, fdmove, waiting, running as last_running, last_command, effect}
use Rattle.el_script.proofs.Vocabulary.{Token, Word as WordToken, scan, lexed, lexed-reads, IsAccepted}
use Rattle.std.proofs.Common.{◌≡◌, List, Ok, codes, arith, [], ◌∷◌, false, true, refl}
use Rattle.std.specs.Fmt.{digits}
use Rattle.el_lex.specs.declared.token.Token.TheVariants.{Open as OpenToken, Close as CloseToken}
use Rattle.el_meaning.specs.Rows.{wrapper, wrapper_members, wrapper_text}
use Rattle.el_meaning.proofs.Lookups.{lookups}
use Rattle.el_meaning.proofs.laws.wrapper_rows.Goals as goal

wrapper_accepted : IsAccepted wrapper_members wrapper
unfolding program_named name_text shape_of
wrapper_accepted = record {
  well_formed = record {
    formed = (
      record { letters = flag 105 ∷ []; used = 2; ended = false; are_read = refl; literal = refl; in_rule = refl; enough = refl },
      (refl, refl),
      (refl, tt),
      tt,
      (
        record { letters = flag 97 ∷ []; used = 2; ended = false; are_read = refl; literal = refl; in_rule = refl; enough = refl },
        (refl, refl),
        tt,
        tt,
        (
          record { letters = flag 99 ∷ []; used = 2; ended = false; are_read = refl; literal = refl; in_rule = refl; enough = refl },
          (refl, refl),
          tt,
          tt,
          (record { letters = []; used = 1; ended = true; are_read = refl; literal = refl; in_rule = refl; enough = refl }, tt, (tt, tt), tt, tt),
        ),
      ),
    );
    commands = (tt, (tt, (tt, ((refl, tt), refl))));
  };
  keeps = ((refl, (refl, tt)), ((refl, (refl, tt)), ((refl, (refl, tt)), ((tt, tt), tt))));
}

pub returns-clause-accepted : goal.returns-clause-accepted
returns-clause-accepted c = wrapper_accepted

wrapper_tokens : List Token
wrapper_tokens =
    WordToken 2 (codes "importas") ∷ WordToken 2 (codes "-i") ∷ WordToken 2 (codes "HOME") ∷ WordToken 2 (codes "HOME")
    ∷ WordToken 3 (codes "redirfd") ∷ WordToken 3 (codes "-a") ∷ WordToken 3 (codes "1") ∷ WordToken 3 (codes "${HOME}/log")
    ∷ WordToken 4 (codes "fdmove") ∷ WordToken 4 (codes "-c") ∷ WordToken 4 (codes "2") ∷ WordToken 4 (codes "1")
    ∷ WordToken 5 (codes "foreground") ∷ OpenToken 5 ∷ WordToken 5 (codes "echo") ∷ WordToken 5 (codes "start") ∷ CloseToken 5
    ∷ WordToken 6 (codes "$@") ∷ []

wrapper_lexed : lexed wrapper_text ≡ Ok wrapper_tokens
unfolding lexed scan wrapper_tokens
wrapper_lexed = refl

pub returns-clause-script : goal.returns-clause-script
unfolding wrapper_tokens name_text
returns-clause-script c = record { tokens = wrapper_tokens; lexes = lexed-reads wrapper_text wrapper_tokens wrapper_lexed; are_tokens = refl; within = omega arith; accepted = wrapper_accepted }

pub returns-clause-ended : goal.returns-clause-ended
unfolding and_do start_act wait_act open_act write_act close_act and_then and_go_on starting failing waited_for unstarted running child_with closing trouble_text trouble_status message complaint refused substituting substitute_alone foreground number_read numbers_read redirfd fdmove waiting last_running last_command effect program_named name_text shape_of digits
returns-clause-ended c = record { are_events = simp lookups refl; is_end = simp lookups refl; is_left = simp lookups refl; none_left = simp lookups refl }

pub returns-clause-handed : goal.returns-clause-handed
unfolding and_do start_act wait_act open_act write_act close_act and_then and_go_on starting failing waited_for unstarted running child_with closing trouble_text trouble_status message complaint refused substituting substitute_alone foreground number_read numbers_read redirfd fdmove waiting last_running last_command effect program_named name_text shape_of digits
returns-clause-handed c = record { are_events = simp lookups refl; is_end = simp lookups refl; is_left = simp lookups refl; none_left = simp lookups refl }
