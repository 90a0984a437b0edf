use Rattle.std.proofs.Common.{◌≡◌, ◌+◌, ◌≤◌, length}
use Rattle.el_lex.specs.Scan.{AtGap, in_front}
use Rattle.el_lex.specs.Cursors.{given}
use Rattle.el_lex.proofs.lexer.read_part.Given as goal

-- what is given stays the same, and a token takes a byte at least
abbrev pub invariant-loop-alloc : goal.invariant-loop-alloc
invariant-loop-alloc l = (given AtGap l.fn.cursor ≡ in_front l.tokens (given AtGap l.cursor)) × (length l.tokens + length l.cursor.rest.now ≤ length l.fn.cursor.rest.now) × (length l.tokens ≤ l.fn.most)

abbrev pub decreases-loop-alloc : goal.decreases-loop-alloc
decreases-loop-alloc l = length l.cursor.rest.now
