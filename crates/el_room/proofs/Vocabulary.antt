-- The names that the proofs above cite most, passed on from one place. Declares nothing.
pub use Rattle.std.proofs.Math.Bool.{and-true, or-false, or-true}
pub use Rattle.std.proofs.Math.Path.{fun_ext}
pub use Rattle.std.proofs.lemmas.Bool.{and_from, and_parts, and_right, eqb-true, false_from_ne_true, false≢true, leb-true, ne_eqb, not-true, or_cases, or_from, or_right}
pub use Rattle.std.proofs.lemmas.Bool.Decides.{nat_tests}
pub use Rattle.std.proofs.lemmas.Grind.{common_steps}
pub use Rattle.std.proofs.lemmas.Iterator.Search.{any_from_yields_List}
pub use Rattle.std.proofs.lemmas.Iterator.Splits.{YieldsList-from_slice_split}
pub use Rattle.std.proofs.lemmas.List.{append-nil, append_assoc, drop_all, drop_more, map-append}
pub use Rattle.std.proofs.lemmas.List.Sums.{sum_by-cons}
pub use Rattle.std.proofs.lemmas.Option.{get_or_from_slice_get, slice_get_within}
pub use Rattle.std.proofs.lemmas.Result.{IfOk-weaker, on_ok_weaker}
pub use Rattle.std.proofs.lemmas.Slice.Eq.{bytes_eq-Decides, slice_eq-Decides}
pub use Rattle.std.specs.Bool.{Decides}
pub use Rattle.std.specs.Borrow.{Bor}
pub use Rattle.std.specs.Char.{is_ascii_alphanumeric}
pub use Rattle.std.specs.Cmp.Lexicographic.{bytes_decides, nat_list_cmp_total, pointwise, slice_cmp, texts_ties}
pub use Rattle.std.specs.FinMap.{get-insert, get-remove, get-retain_keys, nat_cmp-IsAntisymmetric, slice_cmp-IsAntisymmetric}
pub use Rattle.std.specs.Fmt.{decimal, digits}
pub use Rattle.std.specs.List.{after_first, after_last, before_first, concat, filter, filter_map, find, flat_map, list_all, list_any, position_or_len, range_with_len, slice_get, slice_split, starts_with}
pub use Rattle.std.specs.Option.{option_and_then, option_copied}
pub use Rattle.std.specs.Ordering.{eq_by_cmp, nat_cmp}
pub use Rattle.std.specs.Result.{IsErrAnd}
pub use Rattle.std.specs.Slice.Iter.{iter_rest}
pub use Rattle.std.specs.Str.{bytes_eq}
pub use denote.Param.Weighed.{most}
pub use Rattle.el_words.proofs.Numbers.{number_of-decimal}
pub use Rattle.el_words.proofs.Truths.{right_of}
pub use Rattle.el_words.specs.Args.{Args, group, nothing, spelled, word, words, ◌+++◌}
pub use Rattle.el_words.specs.Number.{are_digits, decimal_value, number_of, within_limit}
unfoldable pub use Rattle.el_words.specs.Prog.{name_text, program_named}
pub use Rattle.el_words.specs.Word.{HasNul}
pub use Rattle.el_words.specs.declared.prog.Prog.{Prog}
pub use Rattle.el_words.specs.declared.prog.Prog.TheVariants.{Background, Backtick, Cd, Define, Elgetpositionals, Emptyenv, Envfile, Exec, Exit, Export, Fdclose, Fdmove, Fdswap, Forbacktickx, Foreground, Forstdin, Forx, Heredoc, If, Ifelse, Ifte, Ifthenelse, Import, Importas, Loopwhilex, Multidefine, Multisubstitute, Pipeline, Piperw, Redirfd, Shift, Unexport, Withstdinas}
pub use Rattle.el_env.specs.Frames.{Frame, frame_of}
pub use Rattle.el_env.specs.Name.{is_good_name}
pub use Rattle.el_env.specs.Positionals.{positionals_of, with_numbered, with_positionals}
pub use Rattle.el_env.specs.Variable.{pair_of}
pub use Rattle.el_env.specs.Vars.{Vars}
pub use Rattle.el_env.specs.declared.env.EnvFault.{EnvFault}
pub use Rattle.el_transform.proofs.Pieces.{fed-append, values_of-append}
pub use Rattle.el_transform.proofs.Whole.{transformed-listed}
pub use Rattle.el_transform.specs.Computed.{Rules, crunched_after, listed_rules, prepared_by, split_behind, words_by}
pub use Rattle.el_transform.specs.Crunching.{Delimiters, crunched, is_delimiter}
pub use Rattle.el_transform.specs.Splitter.{Splitting, fed, last_value, values_of}
pub use Rattle.el_transform.specs.Splitting.{Splits, last_word}
pub use Rattle.el_transform.specs.declared.transforming.How.{How}
pub use Rattle.el_blocks.proofs.Chains.{all-words}
pub use Rattle.el_blocks.proofs.Runs.{spelling-answered}
pub use Rattle.el_blocks.specs.Computed.{spelling_of}
pub use Rattle.el_blocks.specs.Tokens.{Spells, Text, TokenShape, levels, shapes_of}
pub use Rattle.el_blocks.specs.declared.fault.SpellFault.{SpellFault}
pub use Rattle.el_blocks.specs.declared.fault.SpellFault.TheVariants.{StrayClose, TooDeep, Unclosed}
pub use Rattle.el_subst.specs.Pairs.{is_good_key, positional_pairs, shifted_pairs}
pub use Rattle.el_subst.specs.Parts.{Part, parts_of}
pub use Rattle.el_subst.specs.References.{Referred, references_of}
pub use Rattle.el_subst.specs.Scopes.{Scope, scope_value}
pub use Rattle.el_subst.specs.Values.{Pairs, words_value}
pub use Rattle.el_world.proofs.Algebra.{go_on-then, then-assoc}
pub use Rattle.el_world.proofs.Calls.{none_is_lost}
pub use Rattle.el_world.proofs.Ends.{made-ends_as, made_as, ran-ends_as}
pub use Rattle.el_world.proofs.Follows.{act_assoc, act_short, act_then, ends_then, follows_done, follows_exit, follows_spent, follows_units, gives_then, memory_short, plan_assoc, plan_stopped, plan_then, unit_then}
pub use Rattle.el_world.proofs.Held.{all-append, all-filter, below_more, below_without, held-filter, is_below, usable_held}
pub use Rattle.el_world.proofs.Plans.{made-does}
pub use Rattle.el_world.proofs.Runs.{go_on, tells}
pub use Rattle.el_world.proofs.Told.{counts, no_call, one_call}
pub use Rattle.el_world.proofs.Upto.{by_outcome, given-any, given-weaker, made-then, same-refl, same-takes, same-then}
pub use Rattle.el_world.specs.Acts.{Act}
unfoldable pub use Rattle.el_world.specs.Acts.{and_do, close_act, enter_act, feed_act, open_act, pipe_act, read_act, start_act, wait_act, write_act}
pub use Rattle.el_world.specs.Calls.{AnswerOf, Call, Found, call_of, close, enter, event_of, feed, found_in, has_fault, is_fault, open_file, pipe, read, start, taken, wait, write}
pub use Rattle.el_world.specs.Follows.{Follows, finished}
unfoldable pub use Rattle.el_world.specs.Follows.{came_out}
pub use Rattle.el_world.specs.Handles.{Gave, Keeps, Rising, all_name_held, are_fresh, are_usable, given_by, given_in, held_after, held_after_all, is_held, is_usable, opened_handles, piped_handles, without}
pub use Rattle.el_world.specs.Lawful.{MayAnswer, are_lawful, is_answer, is_lawful, is_piece, is_start_answer}
pub use Rattle.el_world.specs.Log.{events_of}
pub use Rattle.el_world.specs.Plans.{Does, Made, Outcome, Plan, after_event, answered, calls, ended, ends, given, gives, made, outcome_as, starved, takes}
unfoldable pub use Rattle.el_world.specs.Plans.{and_go_on, and_then, ends_as}
pub use Rattle.el_world.specs.Runs.{Added, AreEventsOf, Done, PlanAgrees, Ran, RanWith, Tells, ok_value}
pub use Rattle.el_world.specs.Scripted.{counted, seen_of}
pub use Rattle.el_world.specs.States.{End, State, Status, Task, standard_fds}
pub use Rattle.el_world.specs.Upto.{AllGiven, SameUpto}
pub use Rattle.el_world.specs.World.{IsWaitStatus, Seen, is_failed, is_start_failed, is_wait_status, none, past}
unfoldable pub use Rattle.el_world.specs.World.{extended}
pub use Rattle.el_world.specs.declared.event.Ended.{Ended}
pub use Rattle.el_world.specs.declared.event.Ended.TheVariants.{Exited, Killed}
pub use Rattle.el_world.specs.declared.event.Event.{Event}
pub use Rattle.el_world.specs.declared.event.Event.TheVariants.{Close, Enter, Feed, Opened, Pipe, Start, Wait, Write}
pub use Rattle.el_world.specs.declared.event.Fault.{Fault}
pub use Rattle.el_world.specs.declared.event.Handle.{Handle}
pub use Rattle.el_world.specs.declared.event.Mode.{Mode}
pub use Rattle.el_world.specs.declared.event.Mode.TheVariants.{Append}
pub use Rattle.el_world.specs.declared.event.Pid.{Pid}
pub use Rattle.el_world.specs.declared.event.PipeEnds.{PipeEnds}
pub use Rattle.el_world.specs.declared.event.StartFault.{StartFault}
pub use Rattle.el_world.specs.declared.event.StartFault.TheVariants.{NotFound, NotStartable}
pub use Rattle.el_world.specs.declared.finish.Finish.{Finish}
pub use Rattle.el_world.specs.declared.finish.Finish.TheVariants.{NoMemory, Spent}
pub use Rattle.el_options.specs.Fronts.{Front, Lacking, Taken, Whole, is_directive, names_of, options_of, texts_of}
unfoldable pub use Rattle.el_options.specs.Fronts.{front_of}
pub use Rattle.el_options.specs.Reader.{cluster_read}
pub use Rattle.el_options.specs.Reading.{Bad, Cluster, Dashes, Flags, Last, Letter, Letters, LettersRead, NoValue, Plain, Reading, Unknown, Value, after_flag, cluster_by, cluster_of, flag, in_front, read_from, reading, shown, with_value, word_read}
pub use Rattle.el_options.specs.Rules.{if_this, in_force, is_among, is_bad_number, last_among}
pub use Rattle.el_options.specs.Shapes.{Chain, Options, has_bad_last_number, positionals_rule}
unfoldable pub use Rattle.el_options.specs.Shapes.{elcheck_options, execlineb_options, shape_of}
pub use Rattle.el_options.specs.Slots.{are_good_opts, faulty}
pub use Rattle.el_options.specs.declared.place.PlaceKind.{PlaceKind}
pub use Rattle.el_options.specs.declared.place.PlaceKind.TheVariants.{DirectiveBlock, Fixed, Name, NameBlock, OptionalNumber, OptionalWord, ProgramBlock, ValueBlock}
pub use Rattle.el_options.specs.declared.read.UsageFault.{UsageFault}
pub use Rattle.el_options.specs.declared.strictness.Strictness.{Strictness}
pub use Rattle.el_options.specs.declared.strictness.Strictness.TheVariants.{Lenient, Refusing, Warning}
pub use Rattle.el_options.specs.declared.table.Opt.{Opt}
pub use Rattle.el_options.specs.declared.tables.TheConstants.{BACKTICK, DEFINE, FORBACKTICKX, FORSTDIN, FORX}
pub use Rattle.el_proc.proofs.Changes.{lost_is_gone, lost_is_held, usable_given, usable_set}
pub use Rattle.el_proc.proofs.Refusals.{follows_refused, refused_then}
pub use Rattle.el_proc.proofs.Usable.{usable_streams}
pub use Rattle.el_proc.specs.Children.{child, code_of, first_word, running_pid, started_by, unless_failed}
unfoldable pub use Rattle.el_proc.specs.Children.{child_with, failing, running, starting, unstarted, unstarted_code, waited_for}
pub use Rattle.el_proc.specs.Descriptors.{copied, given_handles, handles_in, held_at, held_in, is_at_some, is_given, is_same, is_this, lost_handles, moved, streams_in, streams_of, swapped, without_given}
unfoldable pub use Rattle.el_proc.specs.Descriptors.{closing}
pub use Rattle.el_proc.specs.Inputs.{after_read, before_nul, has_nul, input_word, text_of}
unfoldable pub use Rattle.el_proc.specs.Inputs.{gathered, most_units, whole_input}
pub use Rattle.el_proc.specs.Kids.{is_kid, kid_name, kid_of, kid_text, kids_with, noted, without_pid}
pub use Rattle.el_proc.specs.Processes.{Left, left_of, state_of, way_of}
pub use Rattle.el_proc.specs.Troubles.{IsHeard, Refuses, written_to}
unfoldable pub use Rattle.el_proc.specs.Troubles.{complaint, message, refused, trouble_status, trouble_text}
pub use Rattle.el_proc.specs.declared.child.Started.{Started}
pub use Rattle.el_proc.specs.declared.child.Started.TheVariants.{Empty, Running}
pub use Rattle.el_proc.specs.declared.next.Next.{Next}
pub use Rattle.el_proc.specs.declared.next.Next.TheVariants.{Go}
pub use Rattle.el_proc.specs.declared.process.Proc.{Proc}
pub use Rattle.el_proc.specs.declared.trouble.TheConstants.{FAILED_CALL}
pub use Rattle.el_proc.specs.declared.trouble.Trouble.{Trouble}
pub use Rattle.el_proc.specs.declared.trouble.Trouble.TheVariants.{BadLine, BadName, BadNetstring, BadNumber, Failed, FrameTooDeep, Missing, NoFrame, NotOpen, NotSet, NulInput, OutOfRange, Script, UnknownProgram, Usage}
pub use Rattle.el_front.proofs.Calls.{last_number}
pub use Rattle.el_front.proofs.Rooms.{acted, refusal_behind, refusal_then, short_of}
pub use Rattle.el_front.specs.Calls.{CallRead}
pub use Rattle.el_front.specs.Choosing.{groups_told}
pub use Rattle.el_front.specs.Fronts.{Told, complains, front_told, reads, strictness_of, told_by, trouble_of}
unfoldable pub use Rattle.el_front.specs.Fronts.{after_telling, strict_name, warnings}
pub use Rattle.el_front.specs.Letters.{lack_by}
pub use Rattle.el_front.specs.Reads.{DirectiveRead, Read, block_at, blocks_of, chosen, chosen_by, directive_has, directive_read, directive_text, directive_told, directive_value, first_byte, has, index_of, is_in_force, own_directive, read_by, read_of, text_at, the_text, value_by, value_of}
pub use Rattle.el_front.specs.Steps.{Acts, Effect, IsRefusal, OnlyToRefuse, Way, into, left_by, on, onward, under}
unfoldable pub use Rattle.el_front.specs.Steps.{acting, entered}
pub use Rattle.el_front.specs.Testing.{any_value}
pub use Rattle.el_front.specs.declared.call.CallLetters.{CallLetters}
pub use Rattle.el_front.specs.declared.choice.Choice.{Choice}
pub use Rattle.el_front.specs.declared.front.Nth.{Nth}
pub use Rattle.el_front.specs.declared.front.Nth.TheVariants.{First, Second}
