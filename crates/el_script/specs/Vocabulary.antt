-- The names that the definitions and clauses above cite most, passed on from one place. Declares nothing.
pub use Rattle.std.specs.Bool.{Decides}
pub use Rattle.std.specs.Fmt.{decimal}
pub use Rattle.std.specs.List.{filter, list_all, list_any, position_or_len, slice_split, starts_with}
pub use Rattle.std.specs.Option.{option_copied, option_or}
pub use Rattle.std.specs.Str.{bytes_eq}
pub use Rattle.el_words.specs.Args.{Args, group, nothing, spelled, word, words, ◌+++◌}
pub use Rattle.el_words.specs.Number.{number_of}
unfoldable pub use Rattle.el_words.specs.Prog.{name_text, program_named}
pub use Rattle.el_words.specs.Word.{HasNul}
pub use Rattle.el_words.specs.declared.prog.Prog.{Prog}
pub use Rattle.el_words.specs.declared.prog.Prog.TheVariants.{Backtick, Define, Exit, Fdmove, Fdswap, Forbacktickx, Foreground, Forstdin, Forx, Heredoc, If, Ifelse, Ifte, Import, Importas, Loopwhilex, Multidefine, Multisubstitute, Piperw, Redirfd}
pub use Rattle.el_lex.specs.Reading.{Lexes}
unfoldable pub use Rattle.el_lex.specs.Scan.{lexed}
pub use Rattle.el_lex.specs.declared.fault.LexKind.{LexKind}
pub use Rattle.el_lex.specs.declared.fault.LexKind.TheVariants.{NoMemory}
pub use Rattle.el_lex.specs.declared.lexer.TheConstants.{MAX_SCRIPT}
pub use Rattle.el_lex.specs.declared.token.Token.{Token}
pub use Rattle.el_lex.specs.declared.token.Token.TheVariants.{Word}
pub use Rattle.el_blocks.specs.Computed.{spelling_of}
pub use Rattle.el_blocks.specs.Tokens.{Close, Open, Spells, Text, TokenShape, levels, shapes_of}
pub use Rattle.el_blocks.specs.declared.fault.SpellFault.{SpellFault}
pub use Rattle.el_subst.specs.Pairs.{positional_pairs, shifted_pairs}
pub use Rattle.el_subst.specs.References.{Referred, references_of}
pub use Rattle.el_subst.specs.Scopes.{Scope, scope_value}
pub use Rattle.el_subst.specs.Values.{words_value}
pub use Rattle.el_options.specs.Reading.{Dashes, Flags, Last, Letter, Letters, LettersRead, NoValue, Plain, Reading, Shown, Unknown, flag, reading}
pub use Rattle.el_options.specs.Shapes.{Options, has_bad_last_number, positionals_rule}
unfoldable pub use Rattle.el_options.specs.Shapes.{elcheck_options, execlineb_options, shape_of}
pub use Rattle.el_options.specs.Slots.{are_good_opts}
pub use Rattle.el_options.specs.declared.place.PlaceKind.{PlaceKind}
pub use Rattle.el_options.specs.declared.place.PlaceKind.TheVariants.{DirectiveBlock, NameBlock, ProgramBlock}
pub use Rattle.el_options.specs.declared.strictness.Strictness.{Strictness}
pub use Rattle.el_options.specs.declared.strictness.Strictness.TheVariants.{Lenient, Refusing, Warning}
pub use Rattle.el_options.specs.declared.table.Opt.{Opt}
pub use Rattle.el_tree.specs.Accepted.{IsAccepted}
pub use Rattle.el_tree.specs.Beginnings.{Beginning, Chained, Current, Directed, Fresh, Head, Level, Listed, Named, TestScope, at_start}
pub use Rattle.el_tree.specs.Faults.{Next, Over, directive_fault, fault_of, is_loop, kind_fault, name_fault, shown_by, text_in, unended_fault, value_fault, ◌or_else◌}
pub use Rattle.el_tree.specs.FirstFault.{last_line, line_of, token_line}
pub use Rattle.el_tree.specs.Items.{args_of}
pub use Rattle.el_tree.specs.Lists.{directives_of, places_of, tree_of, with_one_place, with_option}
pub use Rattle.el_tree.specs.Marks.{Marked, MeetsAll, Member, both_members, directives_member, has_letter, has_many, is_plain_number, is_positional, marks_many, member_of, names_in, own_member, positional_member, reads_positionals}
pub use Rattle.el_tree.specs.OptionWords.{is_literal, letters_of}
pub use Rattle.el_tree.specs.Steps.{Answer, FaultRead, TreeRead, answer, goes_on, next_shape}
pub use Rattle.el_tree.specs.Trees.{Command, Directives, End, Node, Places, Tree, block_place, directed, directives_place, names_place, one_place, text_place, tokens_of, undirected, unplaced, values_place, written, written_directives, written_places}
pub use Rattle.el_tree.specs.Upgrade.{upgraded}
pub use Rattle.el_tree.specs.WellFormed.{IsWellFormed}
pub use Rattle.el_tree.specs.declared.fault.Fault.{Fault}
pub use Rattle.el_tree.specs.declared.fault.PlacedFault.{PlacedFault}
pub use Rattle.el_tree.specs.declared.fault.PlacedFault.TheVariants.{At, Before}
