use Rattle.std.proofs.Common.{◌≡◌, ◌<◌, ◌⊎◌, length}
use Rattle.el_lex.specs.Scan.{AtWord, scan}
use Rattle.el_lex.proofs.cursor.Cursor.pieces.Given as goal

abbrev pub invariant-loop-byte : goal.invariant-loop-byte
invariant-loop-byte l = record {
  same : scan l.fn.self.rest.now 0 (AtWord l.fn.draft.line l.fn.draft.bytes) l.fn.self.line ≡ scan l.self.rest.now 0 (AtWord l.draft.line l.draft.bytes) l.self.line;
  shorter : (l.self.rest.now ≡ l.fn.self.rest.now) ⊎ (length l.self.rest.now < length l.fn.self.rest.now);
}

abbrev pub decreases-loop-byte : goal.decreases-loop-byte
decreases-loop-byte l = length l.self.rest.now
