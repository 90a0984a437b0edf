use Rattle.std.proofs.Common.{refl}
use Rattle.el_app.proofs.Modes.{fewer-accept, strictest}
use Rattle.el_app.proofs.laws.modes_are_ordered.Goals as goal

pub returns-clause-marks : goal.returns-clause-marks
returns-clause-marks c = fewer-accept

pub returns-clause-strictest : goal.returns-clause-strictest
returns-clause-strictest c = strictest

pub returns-clause-least : goal.returns-clause-least
returns-clause-least c = λ least other script. refl

pub returns-clause-frame : goal.returns-clause-frame
returns-clause-frame c = λ script. refl
