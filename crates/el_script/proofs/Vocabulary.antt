-- The names that the proofs above cite most, passed on from one place. Declares nothing.
pub use Rattle.std.proofs.Math.Bool.{and-false, or-false, or-true, or_assoc}
pub use Rattle.std.proofs.Math.Seq.{take-length}
pub use Rattle.std.proofs.lemmas.Bool.{and_from, and_parts, and_right, eqb-true, false_from_ne_true, leb-true, lt-ltb, not-true, or_from}
pub use Rattle.std.proofs.lemmas.Bool.Decides.{nat_tests}
pub use Rattle.std.proofs.lemmas.Grind.{common_steps, flat_map-append}
pub use Rattle.std.proofs.lemmas.List.{drop_all, drop_more, map-append, nil_from_length, reverse-append}
pub use Rattle.std.proofs.lemmas.List.Elements.{filter-append}
pub use Rattle.std.proofs.lemmas.List.Sums.{sum_by-cons}
pub use Rattle.std.proofs.lemmas.Option.{get_or_from_slice_get, slice_get_within}
pub use Rattle.std.proofs.lemmas.Result.{IfOk-weaker, on_ok_weaker}
pub use Rattle.std.proofs.lemmas.Slice.Eq.{bytes_eq-Decides, slice_eq-Decides}
pub use Rattle.std.specs.Bool.{Decides, then_some}
pub use Rattle.std.specs.Borrow.{Bor}
pub use Rattle.std.specs.Char.{is_ascii_control}
pub use Rattle.std.specs.Cmp.Lexicographic.{bytes_decides, pointwise, slice_cmp}
pub use Rattle.std.specs.Fmt.{decimal, digits}
pub use Rattle.std.specs.List.{after_last, concat, filter, find, flat_map, list_all, list_any, position_or_len, range_with_len, slice_get, slice_split, starts_with}
pub use Rattle.std.specs.Option.{option_copied, option_or}
pub use Rattle.std.specs.Ordering.{eq_by_cmp, nat_cmp}
pub use Rattle.std.specs.Result.{result_err}
pub use Rattle.std.specs.Slice.Iter.{iter_rest}
pub use Rattle.std.specs.Str.{bytes_eq}
pub use Rattle.std.specs.Vec.Iter.{into_iter_items, into_iter_len}
pub use Rattle.std.specs.declared.alloc.Global.{Global}
pub use denote.Param.Weighed.{most}
pub use Rattle.el_words.proofs.Truths.{left_of, none_there, right_of}
pub use Rattle.el_words.specs.Args.{Args, group, nothing, spelled, word, words, ◌+++◌}
pub use Rattle.el_words.specs.Number.{are_digits, decimal_value, number_of, within_limit}
unfoldable pub use Rattle.el_words.specs.Prog.{name_text, program_named}
pub use Rattle.el_words.specs.Word.{HasNul}
pub use Rattle.el_words.specs.declared.prog.Prog.{Prog}
pub use Rattle.el_words.specs.declared.prog.Prog.TheVariants.{Background, Backtick, Cd, Define, Elgetpositionals, Emptyenv, Envfile, Exec, Exit, Export, Fdclose, Fdmove, Fdswap, Forbacktickx, Foreground, Forstdin, Forx, Heredoc, If, Ifelse, Ifte, Ifthenelse, Import, Importas, Loopwhilex, Multidefine, Multisubstitute, Pipeline, Piperw, Redirfd, Shift, Unexport, Wait, Withstdinas}
pub use Rattle.el_lex.proofs.Found.{scanned-fault}
pub use Rattle.el_lex.proofs.Lexed.{lexed-reads, reads-lexed}
pub use Rattle.el_lex.proofs.Printed.{differs}
pub use Rattle.el_lex.proofs.Stops.{one-reading}
pub use Rattle.el_lex.specs.Bytes.{is_digit, is_one_of, is_over_or, is_whitespace}
pub use Rattle.el_lex.specs.Faults.{Cause, Cut, nul}
pub use Rattle.el_lex.specs.Lexers.{to_come}
pub use Rattle.el_lex.specs.Pieces.{Piece, Quoted, fit_pieces, fits_piece, pieces_text, pieces_value}
pub use Rattle.el_lex.specs.Reading.{Blank, Comment, Item, Lexes, Reads, Wordly, fit, fits_item, item_text, newlines_in, text, token_of, tokens_from}
pub use Rattle.el_lex.specs.Scan.{AtGap, IsFaultOf, in_front}
unfoldable pub use Rattle.el_lex.specs.Scan.{lexed, scan}
pub use Rattle.el_lex.specs.declared.fault.LexFault.{LexFault}
pub use Rattle.el_lex.specs.declared.fault.LexKind.{LexKind}
pub use Rattle.el_lex.specs.declared.lexer.TheConstants.{MAX_SCRIPT}
pub use Rattle.el_lex.specs.declared.token.Token.{Token}
pub use Rattle.el_lex.specs.declared.token.Token.TheVariants.{Word}
pub use Rattle.el_blocks.proofs.Found.{fault-computed, spelling-computed}
pub use Rattle.el_blocks.proofs.Runs.{spelling-answered}
pub use Rattle.el_blocks.specs.Braces.{IsBraceFault}
pub use Rattle.el_blocks.specs.Computed.{spelled_from, spelling_of}
pub use Rattle.el_blocks.specs.Tokens.{Close, Open, Spells, Text, TokenShape, levels, shapes_in, shapes_of}
pub use Rattle.el_blocks.specs.declared.fault.SpellFault.{SpellFault}
pub use Rattle.el_blocks.specs.declared.fault.SpellFault.TheVariants.{NoMemory, StrayClose, TooDeep, Unclosed}
pub use Rattle.el_subst.specs.Pairs.{is_good_key, positional_pairs, shifted_pairs}
pub use Rattle.el_subst.specs.Parts.{Part, parts_of}
pub use Rattle.el_subst.specs.References.{Referred, references_of}
pub use Rattle.el_subst.specs.Scopes.{Scope, scope_value}
pub use Rattle.el_subst.specs.Values.{Pairs, words_value}
pub use Rattle.el_options.specs.Fronts.{Directive, Front, Operand, Program, Taken, Whole, is_directive, is_number_text, names_of, options_of, texts_of}
unfoldable pub use Rattle.el_options.specs.Fronts.{front_of}
pub use Rattle.el_options.specs.Reading.{Bad, Cluster, Dashes, Flags, Last, Letter, Letters, LettersRead, NoValue, Plain, Reading, Shown, Unknown, after_flag, cluster_by, cluster_of, flag, read_from, reading, shown, shown_behind_dash, takes}
pub use Rattle.el_options.specs.Rules.{if_this, in_force, is_among, is_bad_number, last_among}
pub use Rattle.el_options.specs.Shapes.{Chain, Options, has_bad_last_number, lacks_letter, positionals_rule}
unfoldable pub use Rattle.el_options.specs.Shapes.{elcheck_options, execlineb_options, shape_of}
pub use Rattle.el_options.specs.Slots.{are_good_opts, faulty}
pub use Rattle.el_options.specs.declared.place.PlaceKind.{PlaceKind}
pub use Rattle.el_options.specs.declared.place.PlaceKind.TheVariants.{DirectiveBlock, Fixed, Name, NameBlock, OptionalNumber, OptionalWord, ProgramBlock, ValueBlock}
pub use Rattle.el_options.specs.declared.read.UsageFault.{UsageFault}
pub use Rattle.el_options.specs.declared.strictness.Strictness.{Strictness}
pub use Rattle.el_options.specs.declared.strictness.Strictness.TheVariants.{Lenient, Refusing, Warning}
pub use Rattle.el_options.specs.declared.table.Opt.{Opt}
pub use Rattle.el_options.specs.declared.tables.TheConstants.{BACKTICK, DEFINE, FORBACKTICKX, FORSTDIN, FORX}
pub use Rattle.el_tree.proofs.Answered.{Closes, answer-is-right, tree-is-answered, wrong-answered, wrong-end-answered}
pub use Rattle.el_tree.proofs.Facts.{all-right, never-some}
pub use Rattle.el_tree.proofs.Finished.{bare-group-by}
pub use Rattle.el_tree.proofs.Fits.{AllFit, fit-meets, positional-fit}
pub use Rattle.el_tree.proofs.InScope.{literal_value, scope_literal, scope_more, scope_nil}
pub use Rattle.el_tree.proofs.Lists.{args-again, args-fall, places-again, places-fall}
pub use Rattle.el_tree.proofs.Programs.{name_literal, named}
pub use Rattle.el_tree.specs.Accepted.{DirectivesKeep, IsAccepted, KeepsWords, PlacesKeep}
pub use Rattle.el_tree.specs.Beginnings.{AreFinished, Beginning, Chained, Commanded, Current, Directed, Fresh, Head, IsBeginning, IsHead, IsLevel, IsOfKind, Level, Listed, MayOpen, Named, TestScope, Waits, at_start, count, kinds_left, scope_at, scope_behind, scope_behind_all, scope_within, waiting_words}
pub use Rattle.el_tree.specs.Falls.{nodes_fall, tree_falls}
pub use Rattle.el_tree.specs.Faults.{Group, Next, Over, directive_fault, ends_in, fault_after, fault_of, head_fault, is_loop, is_unplaced, kind_fault, level_fault, name_fault, names_directive, options_fault, place_fault, rank, scope_fault, shown_by, text_in, unended_fault, value_fault, waiting_letter, where_true, ◌or_else◌}
pub use Rattle.el_tree.specs.FirstFault.{last_line, line_of, token_line}
pub use Rattle.el_tree.specs.Items.{AreThere, args_of, args_size, items_of}
pub use Rattle.el_tree.specs.Lists.{change_last, directives_of, last_tree, place_list, places_of, tree_of, with_one_place, with_option}
pub use Rattle.el_tree.specs.Marks.{Marked, Meets, MeetsAll, Member, adds_member, block_member, both_members, define_mark, directives_member, empty_member, first_text, has_letter, has_many, importas_mark, is_all, is_many, is_plain_number, is_positional, keeps_one, marks, marks_many, member_of, members_behind, names_in, own_member, positional_member, puts_many, reads_positionals, touches, value_marks}
pub use Rattle.el_tree.specs.OptionWords.{HasOptions, StopsOptions, is_literal, letters_in, letters_of}
pub use Rattle.el_tree.specs.Readings.{ReadsTokens}
pub use Rattle.el_tree.specs.Settled.{the_value}
pub use Rattle.el_tree.specs.Sizes.{nodes_size, places_size}
pub use Rattle.el_tree.specs.Steps.{Answer, FaultRead, Fits, Foreign, Opened, Own, Owned, TreeRead, Unmatched, answer, chain_opened, chain_owned, closed, directive_named, directive_opened, directive_owned, end_answer_in, goes_on, named_behind, next_shape, node_of, opened_at, option_at, push, push_in, reads_options, tail_named, text_at, text_for, tree_before, with_closed, with_open, with_place, with_text}
pub use Rattle.el_tree.specs.Trees.{Command, Directives, End, Node, Places, Tree, block_place, directed, directives_place, names_place, one_place, text_place, tokens_of, undirected, unplaced, values_place, written, written_directives, written_places}
pub use Rattle.el_tree.specs.Upgrade.{newer, newer_places, upgraded, upgraded_places}
pub use Rattle.el_tree.specs.ValueLaws.{KeepsStructure}
pub use Rattle.el_tree.specs.WellFormed.{AreDirectives, HasCommands, HasNoNumber, HasRestCommands, HavePlaces, IsFormed, IsWellFormed}
pub use Rattle.el_tree.specs.declared.fault.Fault.{Fault}
pub use Rattle.el_tree.specs.declared.fault.Fault.TheVariants.{BadNumber, BadOption, ManyAfterValue, ManyWordsInOnePlace, OptionFromValue, OptionNotLiteral}
pub use Rattle.el_tree.specs.declared.fault.PlacedFault.{PlacedFault}
pub use Rattle.el_tree.specs.declared.fault.PlacedFault.TheVariants.{At, Before}
pub use Rattle.el_tree.specs.declared.items.Arg.{Arg}
pub use Rattle.el_tree.specs.declared.items.Group.TheDeep.{deep-Arg}
pub use Rattle.el_tree.specs.declared.mark.Mark.{Mark}
pub use Rattle.el_tree.specs.declared.mark.Mark.TheVariants.{Many, One}
pub use Rattle.el_tree.specs.declared.tree.Nodes.TheDeep.{deep-Node, deep-Place}
pub use Rattle.el_tree.specs.declared.tree.Place.{Place}
pub use Rattle.el_tree.specs.declared.tree.Place.TheVariants.{Block, Names, Values}
