use Rattle.el_upgrade.proofs.Imports.{lacks-import, others-stay, upgrades-once}
use Rattle.el_upgrade.proofs.laws.upgrade_replaces_import.Goals as goal

pub returns : goal.returns
returns c = record { lacks = lacks-import; others = others-stay; once = upgrades-once }
