-- The names that the definitions and clauses above cite most, passed on from one place. Declares nothing.
pub use Rattle.std.specs.Bool.{Decides}
pub use Rattle.std.specs.Char.{is_ascii_alphanumeric}
pub use Rattle.std.specs.Fmt.{decimal}
pub use Rattle.std.specs.List.{after_first, before_first, filter, list_all, list_any, slice_split, starts_with}
pub use Rattle.std.specs.Option.{option_copied}
pub use Rattle.std.specs.Str.{bytes_eq}
pub use Rattle.el_words.specs.Args.{Args, group, nothing, spelled, word}
pub use Rattle.el_words.specs.Number.{number_of}
unfoldable pub use Rattle.el_words.specs.Prog.{name_text, program_named}
pub use Rattle.el_words.specs.Word.{HasNul}
pub use Rattle.el_words.specs.declared.prog.Prog.{Prog}
pub use Rattle.el_words.specs.declared.prog.Prog.TheVariants.{Background, Backtick, Cd, Define, Elgetpositionals, Emptyenv, Envfile, Exec, Exit, Export, Fdclose, Fdmove, Fdswap, Forbacktickx, Foreground, Forstdin, Forx, Heredoc, If, Ifelse, Ifte, Ifthenelse, Import, Importas, Loopwhilex, Multidefine, Multisubstitute, Pipeline, Piperw, Redirfd, Shift, Unexport, Withstdinas}
pub use Rattle.el_env.specs.Name.{is_good_name}
pub use Rattle.el_env.specs.Positionals.{positionals_of, with_positionals}
pub use Rattle.el_env.specs.Vars.{Vars}
pub use Rattle.el_transform.specs.Computed.{Rules, listed_rules, words_by}
pub use Rattle.el_blocks.specs.Computed.{spelling_of}
pub use Rattle.el_blocks.specs.Tokens.{Spells, shapes_of}
pub use Rattle.el_subst.specs.Pairs.{is_good_key, positional_pairs, shifted_pairs}
pub use Rattle.el_subst.specs.References.{Referred, references_of}
pub use Rattle.el_subst.specs.Scopes.{Scope}
pub use Rattle.el_subst.specs.Values.{Pairs, words_value}
unfoldable pub use Rattle.el_world.specs.Acts.{close_act, enter_act, feed_act, open_act, pipe_act, read_act, wait_act, write_act}
pub use Rattle.el_world.specs.Calls.{AnswerOf, Call, Found, call_of, close, enter, event_of, feed, found_in, has_fault, is_fault, open_file, pipe, read, start, wait, write}
pub use Rattle.el_world.specs.Follows.{Follows, finished}
pub use Rattle.el_world.specs.Handles.{are_usable, given_by, held_after_all, is_given, is_held, is_usable, opened_handles, piped_handles}
pub use Rattle.el_world.specs.Lawful.{are_lawful, is_lawful}
pub use Rattle.el_world.specs.Log.{events_of}
pub use Rattle.el_world.specs.Plans.{Does, Made, Outcome, Plan, calls, ended, ends, given, gives, made, starved, takes}
unfoldable pub use Rattle.el_world.specs.Plans.{and_go_on, and_then, ends_as}
pub use Rattle.el_world.specs.Runs.{Added, Done, PlanAgrees, Ran, RanWith, Tells, ok_value}
pub use Rattle.el_world.specs.States.{End, Spent, State, Status, Task, standard_fds}
pub use Rattle.el_world.specs.World.{IsWaitStatus, Seen}
pub use Rattle.el_world.specs.declared.event.Ended.{Ended}
pub use Rattle.el_world.specs.declared.event.Ended.TheVariants.{Exited, Killed}
pub use Rattle.el_world.specs.declared.event.Event.{Event}
pub use Rattle.el_world.specs.declared.event.Event.TheVariants.{Close, Enter, Feed, Opened, Pipe, Start, Wait, Write}
pub use Rattle.el_world.specs.declared.event.Fault.{Fault}
pub use Rattle.el_world.specs.declared.event.Handle.{Handle}
pub use Rattle.el_world.specs.declared.event.Mode.{Mode}
pub use Rattle.el_world.specs.declared.event.Mode.TheVariants.{Append}
pub use Rattle.el_world.specs.declared.event.Pid.{Pid}
pub use Rattle.el_world.specs.declared.event.PipeEnds.{PipeEnds}
pub use Rattle.el_world.specs.declared.event.StartFault.{StartFault}
pub use Rattle.el_world.specs.declared.event.StartFault.TheVariants.{NotFound, NotStartable}
pub use Rattle.el_world.specs.declared.finish.Finish.{Finish}
pub use Rattle.el_world.specs.declared.finish.Finish.TheVariants.{NoMemory}
pub use Rattle.el_options.specs.Reading.{Letter, LettersRead, NoValue, Reading, Unknown, cluster_of, read_from, reading}
pub use Rattle.el_options.specs.Rules.{in_force}
pub use Rattle.el_options.specs.Shapes.{Options, has_bad_last_number, positionals_rule}
unfoldable pub use Rattle.el_options.specs.Shapes.{elcheck_options, execlineb_options}
pub use Rattle.el_options.specs.Slots.{are_good_opts}
pub use Rattle.el_options.specs.declared.strictness.Strictness.{Strictness}
pub use Rattle.el_options.specs.declared.strictness.Strictness.TheVariants.{Lenient, Refusing, Warning}
pub use Rattle.el_options.specs.declared.table.Opt.{Opt}
pub use Rattle.el_proc.specs.Children.{child, code_of, first_word, running_pid}
unfoldable pub use Rattle.el_proc.specs.Children.{starting, unstarted_code}
pub use Rattle.el_proc.specs.Descriptors.{handles_in, held_at, held_in, is_at_some, lost_handles, streams_of, swapped}
unfoldable pub use Rattle.el_proc.specs.Descriptors.{closing}
pub use Rattle.el_proc.specs.Inputs.{before_nul, has_nul, input_word}
unfoldable pub use Rattle.el_proc.specs.Inputs.{most_units, whole_input}
pub use Rattle.el_proc.specs.Kids.{noted}
pub use Rattle.el_proc.specs.Processes.{Left, left_of, state_of}
pub use Rattle.el_proc.specs.Troubles.{Refuses}
unfoldable pub use Rattle.el_proc.specs.Troubles.{refused, trouble_status}
pub use Rattle.el_proc.specs.declared.child.Started.{Started}
pub use Rattle.el_proc.specs.declared.next.Next.{Next}
pub use Rattle.el_proc.specs.declared.next.Next.TheVariants.{Go}
pub use Rattle.el_proc.specs.declared.process.Proc.{Proc}
pub use Rattle.el_proc.specs.declared.trouble.TheConstants.{FAILED_CALL}
pub use Rattle.el_proc.specs.declared.trouble.Trouble.{Trouble}
pub use Rattle.el_proc.specs.declared.trouble.Trouble.TheVariants.{BadName, BadNumber, Failed, Missing, NoFrame, NotOpen, NotSet, NulInput, Script, Usage}
pub use Rattle.el_front.specs.Choosing.{groups_told}
unfoldable pub use Rattle.el_front.specs.Fronts.{strict_name}
pub use Rattle.el_front.specs.Reads.{DirectiveRead, Read, block_at, chosen_by, directive_has, directive_text, directive_told, directive_value, first_byte, has, is_in_force, own_directive, read_of, text_at, the_text, value_by, value_of}
pub use Rattle.el_front.specs.Steps.{Acts, Effect, IsRefusal, OnlyToRefuse, Way, into, on, onward, under}
unfoldable pub use Rattle.el_front.specs.Steps.{entered}
pub use Rattle.el_front.specs.declared.choice.Choice.{Choice}
pub use Rattle.el_front.specs.declared.front.Nth.{Nth}
pub use Rattle.el_front.specs.declared.front.Nth.TheVariants.{First, Second}
