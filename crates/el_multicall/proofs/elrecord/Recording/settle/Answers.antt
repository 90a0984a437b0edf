use Rattle.std.proofs.Common.{inl, inr, refl, sym}
use Rattle.el_multicall.proofs.elrecord.Recording.settle.Goals as goal

pub returns-in-Some : goal.returns-in-Some
returns-in-Some g c = inl (record { whole_is = c.if-is_whole.true; end = c.in-Some.end; end_is = sym c.in-Some.ensures.end; fits = c.in-Some.ensures.fits; save = c.save.ensures })

pub returns-in_default : goal.returns-in_default
returns-in_default g c = inr (refl, refl)
