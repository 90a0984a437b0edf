-- What elfmt does.
use Rattle.el_room.specs.Vocabulary.{Options, and_then, State, Task, Trouble, Script, Failed, refused}
use Rattle.el_script.specs.Vocabulary.{Tree, upgraded}
use Rattle.std.specs.Prelude.{ℕ, Bool, List, [], None, Result, Ok, Err, if◌then◌else◌}
use Rattle.el_options.specs.declared.tables.TheConstants.{ELFMT}
use Rattle.el_proc.specs.declared.kind.Kind.TheVariants as kind
use Rattle.el_layout.specs.Layout.{layout}
use Rattle.el_keep.specs.Texts.{kept_text, kept_wider}
use Rattle.el_check.specs.declared.kind.CheckKind.{CheckKind}
use Rattle.el_check.specs.declared.kind.CheckKind.TheVariants.{TooLong, Nul, EndAfterBackslash, BadNumber, ByteTooLarge, NulEscape, OpenQuote, StrayClose, TooDeep, Unclosed, BlockMissing, BlockNotLiteral, OptionNotLiteral, NameNotLiteral, BadOption, BadDirective, ArgumentMissing, ManyWordsInOnePlace, ManyAfterValue, OptionFromValue, NoMemory}
use Rattle.el_check.specs.Checks.{Checked, checked_in}
use Rattle.el_app.specs.declared.asked.Asked.{Asked}
use Rattle.el_app.specs.Options.{call_options, asked}
use Rattle.el_app.specs.Names.{elfmt_name}
use Rattle.el_app.specs.Files.{script_from}
use Rattle.el_app.specs.Output.{put_out}

-- the trouble of a fault on a line; want of memory is none of a script's
abbrev pub fault_trouble : CheckKind → (line : ℕ) → Trouble
fault_trouble TooLong line = Script line kind.TooLong
fault_trouble Nul line = Script line kind.Nul
fault_trouble EndAfterBackslash line = Script line kind.EndAfterBackslash
fault_trouble BadNumber line = Script line kind.BadNumber
fault_trouble ByteTooLarge line = Script line kind.ByteTooLarge
fault_trouble NulEscape line = Script line kind.NulEscape
fault_trouble OpenQuote line = Script line kind.OpenQuote
fault_trouble StrayClose line = Script line kind.StrayClose
fault_trouble TooDeep line = Script line kind.TooDeep
fault_trouble Unclosed line = Script line kind.Unclosed
fault_trouble BlockMissing line = Script line kind.BlockMissing
fault_trouble BlockNotLiteral line = Script line kind.BlockNotLiteral
fault_trouble OptionNotLiteral line = Script line kind.OptionNotLiteral
fault_trouble NameNotLiteral line = Script line kind.NameNotLiteral
fault_trouble BadOption line = Script line kind.BadOption
fault_trouble BadDirective line = Script line kind.BadDirective
fault_trouble ArgumentMissing line = Script line kind.ArgumentMissing
fault_trouble ManyWordsInOnePlace line = Script line kind.ManyWordsInOnePlace
fault_trouble ManyAfterValue line = Script line kind.ManyAfterValue
fault_trouble OptionFromValue line = Script line kind.OptionFromValue
fault_trouble NoMemory line = Failed

-- the tree that is written: the script's own, or the upgraded one
abbrev pub written_tree : (upgrades : Bool) → Tree → Tree
written_tree upgrades tree = if upgrades then upgraded tree else tree

-- its layout with the comments of the script: that of the upgraded tree has more words than the script
abbrev pub kept_layout : (upgrades : Bool) → (script : List ℕ) → Tree → List ℕ
kept_layout upgrades script tree = if upgrades then kept_wider (layout tree) (layout (upgraded tree)) script else kept_text (layout tree) script

-- its layout, with the comments where they are kept
abbrev pub written_text : (upgrades keeps : Bool) → (script : List ℕ) → Tree → List ℕ
written_text upgrades keeps script tree = if keeps then kept_layout upgrades script tree else layout (written_tree upgrades tree)

-- what is made of this tree is written, with status 0; the first fault of a script is complained of
unfoldable pub laid_out : (written : Tree → List ℕ) → State → Checked → Task ⊥
laid_out written state (Ok tree) = put_out state (written tree) 0
laid_out written state (Err fault) = refused state elfmt_name (fault_trouble fault.0 fault.1)

-- the script that is asked for is laid out, whatever values may come into it; or the words are complained of
unfoldable pub lays_out_asked : Result Asked Trouble → State → Task ⊥
lays_out_asked (Ok asked) state = and_then (script_from elfmt_name state asked.source) (λ script. laid_out (written_text asked.upgrades asked.keeps script) state (checked_in None script))
lays_out_asked (Err trouble) state = refused state elfmt_name trouble

-- the letters say that the script is a word, that its tree is upgraded, and that its comments are kept
abbrev pub formatter_options : Options
formatter_options = call_options [] ELFMT.opts

-- what elfmt does with its words, of which the first is its name
unfoldable pub elfmt_run : (words : List (List ℕ)) → State → Task ⊥
elfmt_run words state = lays_out_asked (asked formatter_options words) state
