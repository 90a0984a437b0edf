-- What the scanner gives from where a cursor stands. Only the code's contracts need it.
use Rattle.std.specs.Prelude.{ℕ, List, Result}
use Rattle.el_lex.specs.declared.cursor.Cursor.{Cursor}
use Rattle.el_lex.specs.declared.draft.Draft.{Draft}
use Rattle.el_lex.specs.declared.fault.LexKind.{LexKind}
use Rattle.el_lex.specs.declared.token.Token.{Token}
use Rattle.el_lex.specs.Pieces.{Inner}
use Rattle.el_lex.specs.Escapes.{EscapeRead}
use Rattle.el_lex.specs.Scan.{Mode, AtWord, AtQuotes, Step, after_step, scan}

-- in this word
abbrev pub in_word : Draft → Mode
in_word draft = AtWord draft.line draft.bytes

-- in a quoted string of this word
abbrev pub in_quotes : Draft → (opened : ℕ) → Mode
in_quotes draft opened = AtQuotes draft.line draft.bytes opened

-- what is given from there
abbrev pub given : Mode → Cursor → Result (List Token) (LexKind × ℕ)
given mode cursor = scan cursor.rest.now 0 mode cursor.line

-- what is given by a step of the byte in front
abbrev pub given_by : Step → Cursor → Result (List Token) (LexKind × ℕ)
given_by step cursor = after_step (scan cursor.rest.now) step

-- an escape was read, and the cursor went behind it
abbrev pub IsEscapeRead : Result Inner LexKind → (meant : List ℕ) → (old new : Cursor) → Type 0
IsEscapeRead answer meant old new = EscapeRead answer meant old.rest.now new.rest.now old.line new.line
