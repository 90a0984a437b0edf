use Rattle.std.proofs.Common.{sym, subst}
use Rattle.el_record.specs.Read.{IsRead}
use Rattle.el_record.proofs.Read.{dash_end, other_end}
use Rattle.el_record.proofs.reading.end_at.Goals as goal

pub returns-then-is_dash_next : goal.returns-then-is_dash_next
returns-then-is_dash_next c = subst (λ found. IsRead found c.no_end_at.result c.no_end_at.new.reader.rest.now) (dash_end _ (sym c.if-is_dash_next.ensures)) c.no_end_at.ensures

pub returns : goal.returns
returns c = subst (λ found. IsRead found c.some_end_at.result c.some_end_at.new.reader.rest.now) (other_end _ (sym c.if-is_dash_next.ensures)) c.some_end_at.ensures
