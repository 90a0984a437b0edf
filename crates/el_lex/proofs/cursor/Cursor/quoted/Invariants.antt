use Rattle.std.proofs.Common.{◌≡◌, ◌≤◌, length}
use Rattle.el_lex.specs.Scan.{AtQuotes, scan}
use Rattle.el_lex.proofs.cursor.Cursor.quoted.Given as goal

abbrev pub invariant-loop-self : goal.invariant-loop-self
invariant-loop-self l = record {
  same : scan l.fn.self.rest.now 0 (AtQuotes l.fn.draft.line l.fn.draft.bytes l.fn.self.line) l.fn.self.line ≡ scan l.self.rest.now 0 (AtQuotes l.draft.line l.draft.bytes l.fn.self.line) l.self.line;
  shorter : length l.self.rest.now ≤ length l.fn.self.rest.now;
}

abbrev pub decreases-loop-self : goal.decreases-loop-self
decreases-loop-self l = length l.self.rest.now
