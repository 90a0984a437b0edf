use Rattle.std.proofs.Common.{◌≡◌, ◌-◌}
use Rattle.el_record.specs.TraceReading.{each_at}
use Rattle.el_record.proofs.Read.{each_behind}
use Rattle.el_record.proofs.reading.each_at.Given as goal

-- what is read and what is to be read
abbrev pub invariant-loop : goal.invariant-loop
invariant-loop l = each_behind l.words (l.count - l.counter) l.reader.rest.now ≡ each_at l.count l.fn.reader.rest.now
