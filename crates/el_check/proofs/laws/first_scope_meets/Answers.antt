use Rattle.el_check.proofs.Scopes.{first-meets, shifted-meets}
use Rattle.el_check.proofs.laws.first_scope_meets.Goals as goal

pub returns-clause-meets : goal.returns-clause-meets
returns-clause-meets c = first-meets

pub returns-clause-shifted : goal.returns-clause-shifted
returns-clause-shifted c = shifted-meets
