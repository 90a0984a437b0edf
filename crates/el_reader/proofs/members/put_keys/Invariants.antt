use Rattle.std.proofs.Common.{take}
use Rattle.el_reader.specs.Index.{ArePut}
use Rattle.el_reader.proofs.members.put_keys.Given as goal

-- those so far are put in
abbrev pub invariant-loop-one : goal.invariant-loop-one
invariant-loop-one l = ArePut (take l.one-index l.marked) l.place l.fn.firsts.entries l.firsts.entries
