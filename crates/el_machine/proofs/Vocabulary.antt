-- The names that the proofs above cite most, passed on from one place. Declares nothing.
pub use Rattle.el_words.proofs.Truths.{left_of}
pub use Rattle.el_world.specs.declared.finish.Finish.TheVariants.{Status}
pub use Rattle.el_proc.specs.declared.child.Started.TheVariants.{NotFound, NotStartable}
pub use Rattle.el_room.proofs.Vocabulary.{Act, AreEventsOf, BACKTICK, Bor, CallLetters, CallRead, Chain, DEFINE, DirectiveBlock, Empty, FORBACKTICKX, FORSTDIN, FORX, Fixed, Frame, FrameTooDeep, Gave, IfOk-weaker, Keeps, Name, NameBlock, OptionalNumber, OptionalWord, PlaceKind, ProgramBlock, Rising, Running, SameUpto, Spent, Splits, UnknownProgram, UsageFault, ValueBlock, act_then, after_event, after_last, after_read, all-append, all-filter, all_name_held, and_from, and_parts, answered, any_value, are_digits, below_more, below_without, blocks_of, by_outcome, bytes_eq-Decides, chosen, common_steps, concat, counted, counts, crunched, crunched_after, decimal_value, digits, directive_read, drop_more, eq_by_cmp, eqb-true, false_from_ne_true, faulty, flag, flat_map, follows_done, follows_refused, frame_of, get_or_from_slice_get, given-any, given-weaker, given_handles, given_in, go_on, go_on-then, held-filter, held_after, index_of, is_bad_number, is_below, is_directive, is_failed, is_kid, is_piece, is_start_failed, is_wait_status, iter_rest, kids_with, lack_by, last_number, leb-true, left_by, made-does, made-ends_as, made-then, made_as, most, names_of, nat_cmp, nat_tests, no_call, none, none_is_lost, not-true, on_ok_weaker, one_call, or-false, or-true, outcome_as, pair_of, past, plan_then, pointwise, range_with_len, read_by, right_of, same-refl, same-takes, same-then, scope_value, seen_of, slice_cmp, slice_eq-Decides, slice_get, slice_get_within, streams_in, strictness_of, sum_by-cons, taken, tells, texts_of, then-assoc, trouble_of, within_limit, without, without_given, without_pid, words, written_to, ◌+++◌}
unfoldable pub use Rattle.el_room.proofs.Vocabulary.{acting, after_telling, and_do, came_out, child_with, complaint, extended, failing, gathered, message, shape_of, start_act, trouble_text, unstarted, waited_for, warnings}
pub use Rattle.el_room.specs.Vocabulary.{Added, AnswerOf, Args, Background, Backtick, BadName, BadNumber, Call, Cd, Choice, Close, Decides, Define, DirectiveRead, Does, Effect, Elgetpositionals, Emptyenv, End, Ended, Enter, Envfile, Event, Exec, Exit, Exited, Export, Failed, Fault, Fdclose, Fdmove, Fdswap, Feed, Finish, First, Follows, Forbacktickx, Foreground, Forstdin, Forx, Found, Handle, HasNul, Heredoc, If, Ifelse, Ifte, Ifthenelse, Import, Importas, IsWaitStatus, Killed, Left, Lenient, Letter, LettersRead, Loopwhilex, Made, Missing, Mode, Multidefine, Multisubstitute, NoMemory, NoValue, NotOpen, NotSet, Nth, NulInput, Opened, Opt, Options, Outcome, Pairs, Pid, Pipe, PipeEnds, Pipeline, Piperw, Plan, PlanAgrees, Prog, Ran, RanWith, Read, Reading, Redirfd, Referred, Refuses, Refusing, Scope, Script, Second, Seen, Shift, Start, StartFault, Started, State, Strictness, Task, Tells, Trouble, Unexport, Unknown, Usage, Vars, Wait, Warning, Way, Withstdinas, Write, are_good_opts, are_lawful, are_usable, before_nul, block_at, bytes_eq, call_of, calls, child, chosen_by, close, code_of, decimal, directive_has, directive_text, directive_value, ended, ends, enter, event_of, events_of, feed, filter, finished, first_byte, first_word, found_in, given, given_by, gives, group, groups_told, has, has_bad_last_number, has_fault, has_nul, held_after_all, held_at, held_in, in_force, into, is_at_some, is_fault, is_given, is_good_key, is_good_name, is_held, is_in_force, is_lawful, list_all, list_any, listed_rules, made, nothing, number_of, on, onward, open_file, opened_handles, option_copied, own_directive, pipe, piped_handles, positional_pairs, positionals_of, positionals_rule, read, read_from, reading, references_of, running_pid, shifted_pairs, slice_split, spelled, standard_fds, start, starts_with, starved, state_of, streams_of, takes, text_at, the_text, under, value_by, wait, word, words_by, words_value, write}
unfoldable pub use Rattle.el_room.specs.Vocabulary.{and_go_on, and_then, close_act, closing, elcheck_options, ends_as, entered, execlineb_options, most_units, name_text, open_act, pipe_act, program_named, read_act, refused, starting, strict_name, trouble_status, unstarted_code, wait_act, whole_input, write_act}
unfoldable pub use Rattle.el_control.specs.Background.{background}
unfoldable pub use Rattle.el_control.specs.Cd.{cd}
pub use Rattle.el_control.specs.Endings.{code_named}
unfoldable pub use Rattle.el_control.specs.Exec.{exec}
pub use Rattle.el_control.specs.Exit.{exit_code, exit_with}
unfoldable pub use Rattle.el_control.specs.Exit.{exit}
unfoldable pub use Rattle.el_control.specs.Foreground.{foreground}
unfoldable pub use Rattle.el_control.specs.If.{if_then}
unfoldable pub use Rattle.el_control.specs.Ifelse.{ifelse}
unfoldable pub use Rattle.el_control.specs.Ifte.{ifte}
pub use Rattle.el_control.specs.Ifthenelse.{branch}
unfoldable pub use Rattle.el_control.specs.Ifthenelse.{ifthenelse}
unfoldable pub use Rattle.el_control.specs.Tests.{tested}
pub use Rattle.el_pipes.specs.Backtick.{output_by, put_in}
unfoldable pub use Rattle.el_pipes.specs.Backtick.{backtick, going_on, output_of, value_from, written_by}
pub use Rattle.el_pipes.specs.Pipeline.{block_side}
unfoldable pub use Rattle.el_pipes.specs.Pipeline.{pipeline, starting_kid}
pub use Rattle.el_pipes.specs.Pipes.{streams_with}
unfoldable pub use Rattle.el_pipes.specs.Pipes.{piped, started_at}
pub use Rattle.el_pipes.specs.Putting.{names_well, puts_values, value_pairs}
pub use Rattle.el_pipes.specs.declared.side.Side.{Side}
pub use Rattle.el_pipes.specs.declared.side.Side.TheVariants.{Output}
unfoldable pub use Rattle.el_redir.specs.Fdclose.{fdclose}
unfoldable pub use Rattle.el_redir.specs.Fdmove.{fdmove}
unfoldable pub use Rattle.el_redir.specs.Fdswap.{fdswap}
unfoldable pub use Rattle.el_redir.specs.Heredoc.{heredoc}
pub use Rattle.el_redir.specs.Numbers.{found_or_refused, is_descriptor, number_or, one_number, two_numbers}
unfoldable pub use Rattle.el_redir.specs.Numbers.{number_read, numbers_read}
unfoldable pub use Rattle.el_redir.specs.Piperw.{piperw}
unfoldable pub use Rattle.el_redir.specs.Redirfd.{redirfd}
pub use Rattle.el_vars.specs.Elgetpositionals.{positioned}
unfoldable pub use Rattle.el_vars.specs.Emptyenv.{emptyenv}
unfoldable pub use Rattle.el_vars.specs.Envfile.{envfile}
unfoldable pub use Rattle.el_vars.specs.Export.{export}
pub use Rattle.el_vars.specs.Import.{as_importas}
unfoldable pub use Rattle.el_vars.specs.Import.{import}
pub use Rattle.el_vars.specs.Importas.{imported, imported_words, unset_words}
pub use Rattle.el_vars.specs.Multidefine.{is_good_part, pairs_named}
pub use Rattle.el_vars.specs.Multisubstitute.{all_pairs, has_good_names, joined_pairs, pairs_by, put_or_refused}
unfoldable pub use Rattle.el_vars.specs.Multisubstitute.{multisubstitute, substitute_alone, substituting}
unfoldable pub use Rattle.el_vars.specs.Shift.{shift}
unfoldable pub use Rattle.el_vars.specs.Unexport.{unexport}
pub use Rattle.el_vars.specs.Values.{paired, transformed}
unfoldable pub use Rattle.el_vars.specs.Withstdinas.{withstdinas}
pub use Rattle.el_loops.specs.Forbacktickx.{forbacktickx_loop, over_started}
unfoldable pub use Rattle.el_loops.specs.Forbacktickx.{forbacktickx, over_block, over_pipe, over_reader}
pub use Rattle.el_loops.specs.Forstdin.{forstdin_loop, over_input}
unfoldable pub use Rattle.el_loops.specs.Forstdin.{forstdin, over_number}
pub use Rattle.el_loops.specs.Forx.{forx_loop}
unfoldable pub use Rattle.el_loops.specs.Forx.{forx}
pub use Rattle.el_loops.specs.Loopwhilex.{goes_on_behind}
unfoldable pub use Rattle.el_loops.specs.Loopwhilex.{loopwhilex, repeating}
pub use Rattle.el_loops.specs.Turns.{Looping, is_ending, is_parallel, needing_words, or_first, turn_by, turn_words}
unfoldable pub use Rattle.el_loops.specs.Turns.{after_started, begun, breaking_off, ending, first_ending, loop_end, started, turn, turn_code, turns}
pub use Rattle.el_loops.specs.Values.{delimiters_of, ended_values, last_values, new_values, values_in}
unfoldable pub use Rattle.el_loops.specs.Values.{turns_behind, turns_over, used}
pub use Rattle.el_loops.specs.declared.turn.Turn.{Turn}
pub use Rattle.el_loops.specs.declared.turn.Turn.TheVariants.{Over, Pending}
pub use Rattle.el_machine.proofs.Holds.{Goes, Kept, Now, goes-then}
pub use Rattle.el_machine.proofs.HoldsRuns.{at_first}
pub use Rattle.el_machine.proofs.HoldsTasks.{goes-refused}
pub use Rattle.el_machine.specs.Causes.{HasCauseUnlessFailed}
pub use Rattle.el_machine.specs.Commands.{after_start, after_wait, start_trouble}
unfoldable pub use Rattle.el_machine.specs.Commands.{last_command, running, waiting}
unfoldable pub use Rattle.el_machine.specs.Effects.{effect}
pub use Rattle.el_machine.specs.Exact.{HoldsExactly}
pub use Rattle.el_machine.specs.Flat.{first_program, run_by}
unfoldable pub use Rattle.el_machine.specs.Flat.{flat_run, flat_step, flat_within}
pub use Rattle.el_machine.specs.Ways.{have_trees_alone}
