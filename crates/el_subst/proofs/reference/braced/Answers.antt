use Rattle.std.proofs.Common.{◌≡◌, ◌<◌, ap, sym, ◌∙◌, Some, ℕ, ◌+◌, take, length, length-take, arith}
use Rattle.el_subst.specs.Parts.{found_braced}
use Rattle.el_subst.proofs.References.{braced_key-none, braced_key-dollar, braced_key-brace}
use Rattle.el_subst.proofs.reference.braced.Goals as goal

pub returns-in_err-end-clause-found : goal.returns-in_err-end-clause-found
returns-in_err-end-clause-found c = rw c.from_residual.ensures (sym (ap found_braced (braced_key-none c.args.rest.now c.in_err-end.ensures)))

pub returns-then-rest-end-eq36-clause-found : goal.returns-then-rest-end-eq36-clause-found
returns-then-rest-end-eq36-clause-found c = sym (ap found_braced (braced_key-dollar c.args.rest.now c.in_ok-end.end c.in_ok-end.ensures c.if-rest-end-eq36.true))

pub returns-clause-found : goal.returns-clause-found
returns-clause-found c =
    let within : c.in_ok-end.end < length c.args.rest.now = c.in_ok-end.ensures.0.high in
    let size : length (take c.in_ok-end.end c.args.rest.now) ≡ c.in_ok-end.end = omega (arith, length-take c.in_ok-end.end c.args.rest.now) in
    sym (ap found_braced (braced_key-brace c.args.rest.now c.in_ok-end.end c.in_ok-end.ensures c.if-rest-end-eq36.false)
    ∙ ap (λ (n : ℕ). Some (take c.in_ok-end.end c.args.rest.now, n + 2)) size)
