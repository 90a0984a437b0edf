use Rattle.std.proofs.Common.{refl, sym, ap, ◌∙◌, length, arith}
use Rattle.el_proc.proofs.Closings.{none_closed, one_closed, all_closed, given_held, usable_without, no_given}
use Rattle.el_proc.proofs.closing.close_given.Goals as goal

pub handles-init : goal.handles-init
handles-init g c = record { closes = none_closed; own = refl; usable = c.requires }

pub close-requires : goal.close-requires
close-requires g c = given_held _ c.handles.fds c.in-Some.handle _ c.in-Some.ensures.some c.handles.invariant.usable

pub handles-smaller : goal.handles-smaller
handles-smaller g c = let fewer = ap length c.in-Some.ensures.some in omega (arith, fewer)

pub handles-preserved : goal.handles-preserved
handles-preserved g c = record {
  closes = one_closed c.handles.invariant.closes c.in-Some.ensures.some c.close.ensures.run;
  own = c.in-Some.ensures.others ∙ c.handles.invariant.own;
  usable = rw (c.close.ensures.held, c.in-Some.ensures.taken) (usable_without _ c.handles.fds c.in-Some.handle c.handles.invariant.usable);
}

pub returns-clause-run : goal.returns-clause-run
returns-clause-run g c = all_closed c.handles.invariant.closes c.in_default.ensures.none

pub returns-clause-fds : goal.returns-clause-fds
returns-clause-fds g c = c.in_default.ensures.same ∙ sym (no_given c.handles.fds c.in_default.ensures.none) ∙ c.handles.invariant.own
