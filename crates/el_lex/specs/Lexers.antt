-- What a lexer has still to give. Only the code's contracts need it.
use Rattle.std.specs.Prelude.{◌≡◌, ◌⊎◌, ℕ, ◌<◌, List, [], length, Result, Ok}
use Rattle.el_lex.specs.declared.cursor.Cursor.{Cursor}
use Rattle.el_lex.specs.declared.fault.LexKind.{LexKind}
use Rattle.el_lex.specs.declared.lexer.Lexer.{Lexer}
use Rattle.el_lex.specs.declared.lexer.TheConstants.{MAX_PART}
use Rattle.el_lex.specs.declared.token.Token.{Token}
use Rattle.el_lex.specs.Scan.{AtGap}
use Rattle.el_lex.specs.Cursors.{given}

-- the tokens that are to come, or the kind and the line of the first fault
abbrev pub to_come : Lexer → Result (List Token) (LexKind × ℕ)
to_come lexer = given AtGap lexer.cursor

-- how many bytes of the script are to come
abbrev pub bytes_left : Lexer → ℕ
bytes_left lexer = length lexer.cursor.rest.now

-- these are as many tokens as asked for, or fewer where none is to come behind them
abbrev pub IsPartOf : (most : ℕ) → List Token → (behind : Cursor) → Type 0
IsPartOf most part behind = (length part ≡ most) ⊎ ((length part < most) × (given AtGap behind ≡ Ok []))

-- the same of a lexer's part
abbrev pub IsPart : List Token → (behind : Lexer) → Type 0
IsPart part behind = IsPartOf MAX_PART part behind.cursor
