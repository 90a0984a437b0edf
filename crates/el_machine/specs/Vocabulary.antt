-- The names that the definitions and clauses above cite most, passed on from one place. Declares nothing.
pub use Rattle.el_world.specs.declared.event.Event.TheVariants.{Read}
pub use Rattle.el_room.specs.Vocabulary.{Added, AnswerOf, Args, Backtick, BadNumber, Call, Choice, Close, Decides, Define, Does, End, Ended, Enter, Event, Exit, Exited, Failed, Fault, Fdmove, Fdswap, Feed, Finish, Follows, Forbacktickx, Foreground, Forstdin, Forx, Found, Handle, HasNul, Heredoc, If, Ifelse, Ifte, Import, Importas, Left, Lenient, Letter, LettersRead, Loopwhilex, Made, Multidefine, NoMemory, NoValue, Opened, Opt, Options, Outcome, Pid, Pipe, Piperw, Plan, PlanAgrees, Prog, Ran, RanWith, Reading, Redirfd, Referred, Refusing, Scope, Script, Seen, Spent, Start, StartFault, State, Status, Strictness, Task, Tells, Trouble, Unknown, Usage, Vars, Wait, Warning, Write, are_good_opts, are_lawful, bytes_eq, call_of, calls, chosen_by, close, decimal, ended, ends, enter, event_of, events_of, feed, filter, first_byte, found_in, given, given_by, gives, group, groups_told, has_bad_last_number, held_after_all, is_fault, is_given, is_held, is_in_force, is_lawful, left_of, list_any, listed_rules, made, nothing, number_of, open_file, opened_handles, option_copied, pipe, piped_handles, positional_pairs, positionals_rule, read, reading, references_of, shifted_pairs, slice_split, spelled, standard_fds, start, starts_with, starved, state_of, takes, value_by, wait, word, words_by, words_value, write}
unfoldable pub use Rattle.el_room.specs.Vocabulary.{and_go_on, and_then, close_act, elcheck_options, ends_as, execlineb_options, name_text, open_act, program_named, refused, strict_name, trouble_status, write_act}
pub use Rattle.el_redir.specs.Numbers.{is_descriptor, number_or}
pub use Rattle.el_machine.specs.Flat.{first_program}
unfoldable pub use Rattle.el_machine.specs.Flat.{flat_run}
