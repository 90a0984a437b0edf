-- The words of a script.
use Rattle.el_room.specs.Vocabulary.{spelling_of, gives, State, Task, Trouble, Script, Failed, refused}
use Rattle.el_script.specs.Vocabulary.{SpellFault, LexKind, NoMemory, Token, lexed}
use Rattle.std.specs.Prelude.{ℕ, List, Result, Ok, Err}
use Rattle.el_blocks.specs.declared.fault.SpellFault.TheVariants.{StrayClose, TooDeep, Unclosed, NoMemory as NoSpellMemory}
use Rattle.el_lex.specs.declared.fault.LexKind.TheVariants.{TooLong, Nul, EndAfterBackslash, BadNumber, ByteTooLarge, NulEscape, OpenQuote}
use Rattle.el_proc.specs.declared.kind.Kind.TheVariants as kind
use Rattle.el_app.specs.Names.{execlineb_name}

-- the trouble of a lexing fault on a line; want of memory is none of a script's
abbrev pub script_trouble : LexKind → (line : ℕ) → Trouble
script_trouble TooLong line = Script line kind.TooLong
script_trouble Nul line = Script line kind.Nul
script_trouble EndAfterBackslash line = Script line kind.EndAfterBackslash
script_trouble BadNumber line = Script line kind.BadNumber
script_trouble ByteTooLarge line = Script line kind.ByteTooLarge
script_trouble NulEscape line = Script line kind.NulEscape
script_trouble OpenQuote line = Script line kind.OpenQuote
script_trouble NoMemory line = Failed

-- the trouble of a brace fault; want of memory is none of a script's
abbrev pub brace_trouble : SpellFault → Trouble
brace_trouble (StrayClose line) = Script line kind.StrayClose
brace_trouble (TooDeep line) = Script line kind.TooDeep
brace_trouble (Unclosed line) = Script line kind.Unclosed
brace_trouble NoSpellMemory = Failed

-- the words that tokens are spelled as; the first brace fault is complained of
unfoldable pub spelled_words : State → Result (List (List ℕ)) SpellFault → Task (List (List ℕ))
spelled_words state (Ok words) = gives words
spelled_words state (Err fault) = refused state execlineb_name (brace_trouble fault)

-- the words of the tokens of a script; its first fault of lexing is complained of
abbrev pub words_in : State → Result (List Token) (LexKind × ℕ) → Task (List (List ℕ))
words_in state (Ok tokens) = spelled_words state (spelling_of tokens)
words_in state (Err fault) = refused state execlineb_name (script_trouble fault.0 fault.1)

-- the words of a script; its first fault of lexing, or else its first brace fault, is complained of
unfoldable pub script_words : State → (script : List ℕ) → Task (List (List ℕ))
script_words state script = words_in state (lexed script)
