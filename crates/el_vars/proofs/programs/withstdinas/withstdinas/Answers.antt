use Rattle.el_room.proofs.Vocabulary.{State, memory_short, plan_then, plan_stopped, plan_assoc, gives_then, follows_done, refused_then, First, read_of, the_text, acting, acted}
use Rattle.std.proofs.Common.{sym, ◌∙◌}
use Rattle.std.specs.FinMap as map
use Rattle.el_vars.specs.Withstdinas.{withstdinas}
use Rattle.el_vars.proofs.programs.withstdinas.withstdinas.Goals as goal

pub returns-then-not-is_good_name : goal.returns-then-not-is_good_name
unfolding acting withstdinas
returns-then-not-is_good_name g c =
    let bad = rw c.text.ensures.same at (sym c.is_good_name.ensures ∙ c.if-not-is_good_name.true) in
    acted (rw bad (refused_then _ c.refused.ensures.run)) c.refused.ensures.usable

pub returns-in_err-value : goal.returns-in_err-value
unfolding acting withstdinas
returns-in_err-value g c =
    let good = rw c.text.ensures.same at (sym c.is_good_name.ensures ∙ c.if-not-is_good_name.false) in
    let read = rw c.has.ensures at c.in_err-value.ensures.run in
    acted (rw good (plan_assoc _ _ _ (plan_stopped _ read c.from_residual.ensures.1))) c.in_err-value.ensures.usable

pub returns-in_err-set : goal.returns-in_err-set
unfolding acting withstdinas
returns-in_err-set g c =
    let good = rw c.text.ensures.same at (sym c.is_good_name.ensures ∙ c.if-not-is_good_name.false) in
    let read = rw c.has.ensures at c.in_ok-value.ensures.run in
    acted (rw good (plan_assoc _ _ _ (plan_then _ read (memory_short c.from_residual-in_err-set.ensures.1)))) c.in_ok-value.ensures.usable

pub returns : goal.returns
unfolding acting withstdinas
returns g c =
    let good = rw c.text.ensures.same at (sym c.is_good_name.ensures ∙ c.if-not-is_good_name.false) in
    let read = rw c.has.ensures at c.in_ok-value.ensures.run in
    let name = the_text First (read_of c.args.front) in
    acted
    (rw (c.into_rest.ensures, c.in_ok-set.ensures, good)
    (plan_assoc _ _ _ (plan_then _ read (gives_then _ _
    (follows_done (λ i. let state : State = sym c.in_ok-value.ensures.state i in record { words = (read_of c.args.front).rest; state = record state { env = map.insert state.env name c.in_ok-value.value } }))))))
    c.in_ok-value.ensures.usable
