use Rattle.std.proofs.Common.{◌≡◌, length}
use Rattle.std.specs.Vec.Iter.{into_iter_items, into_iter_len}
use Rattle.el_reader.specs.Inspections.{first_scope}
use Rattle.el_reader.proofs.ReaderReads.{IsReading}
use Rattle.el_reader.proofs.reader.read_tree.Given as goal

-- what the tokens before those that are left lead to is held
abbrev pub invariant-loop-token : goal.invariant-loop-token
invariant-loop-token l = IsReading (first_scope l.fn.places) l.fn.tokens l.reader l.last_line (into_iter_items l.token-iterator) × (into_iter_len l.token-iterator ≡ length (into_iter_items l.token-iterator))
