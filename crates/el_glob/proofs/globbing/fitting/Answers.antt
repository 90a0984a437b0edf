use Rattle.std.proofs.Common.{subst, ℕ, List}
use Rattle.el_glob.proofs.Lists.{Went, went-start, went-listed, went-fault, went-short, short_err}
use Rattle.el_glob.proofs.globbing.fitting.Goals as goal

pub loop-path-init : goal.loop-path-init
loop-path-init g c = rw (c.into_iter-path-iterator.ensures.into_iter_gives.0, c.new-found.ensures) (went-start _ _ _ _)

pub loop-path-preserved : goal.loop-path-preserved
loop-path-preserved g c =
    let here = subst (λ (rest : List (List ℕ)). Went c.args.dir.now c.args.component.now c.args.paths.now (g.L.Lister.seen c.args.lister.now) (g.L.Lister.seen c.loop-path.lister) rest c.loop-path.found) c.in-Some.ensures.steps.0 c.loop-path.invariant in
    rw c.in_ok-add_listed-in-Ok.ensures (went-listed _ _ _ c.in-Some.path.now c.in-Ok.listed here c.in-Ok.ensures)

pub loop-path-preserved-in_ok-add_listed-in-Ok : goal.loop-path-preserved-in_ok-add_listed-in-Ok
loop-path-preserved-in_ok-add_listed-in-Ok g c =
    let here = subst (λ (rest : List (List ℕ)). Went c.args.dir.now c.args.component.now c.args.paths.now (g.L.Lister.seen c.args.lister.now) (g.L.Lister.seen c.loop-path.lister) rest c.loop-path.found) c.in-Some.ensures.steps.0 c.loop-path.invariant in
    rw c.in_ok-add_listed-in-Ok.ensures (went-listed _ _ _ c.in-Some.path.now c.in-Ok.listed here c.in-Ok.ensures)

pub loop-path-preserved-in_ok-add_listed-in-Ok-2 : goal.loop-path-preserved-in_ok-add_listed-in-Ok-2
loop-path-preserved-in_ok-add_listed-in-Ok-2 g c =
    let here = subst (λ (rest : List (List ℕ)). Went c.args.dir.now c.args.component.now c.args.paths.now (g.L.Lister.seen c.args.lister.now) (g.L.Lister.seen c.loop-path.lister) rest c.loop-path.found) c.in-Some.ensures.steps.0 c.loop-path.invariant in
    rw c.in_ok-add_listed-in-Ok.ensures (went-listed _ _ _ c.in-Some.path.now c.in-Ok.listed here c.in-Ok.ensures)

pub returns-in_err-add_listed-in-Ok : goal.returns-in_err-add_listed-in-Ok
returns-in_err-add_listed-in-Ok g c =
    let here = subst (λ (rest : List (List ℕ)). Went c.args.dir.now c.args.component.now c.args.paths.now (g.L.Lister.seen c.args.lister.now) (g.L.Lister.seen c.loop-path.lister) rest c.loop-path.found) c.in-Some.ensures.steps.0 c.loop-path.invariant in
    short_err c.from_residual.result c.from_residual.ensures.1
    (went-short _ _ _ (went-listed _ _ _ c.in-Some.path.now c.in-Ok.listed here c.in-Ok.ensures))

pub returns-in-Err : goal.returns-in-Err
returns-in-Err g c =
    let here = subst (λ (rest : List (List ℕ)). Went c.args.dir.now c.args.component.now c.args.paths.now (g.L.Lister.seen c.args.lister.now) (g.L.Lister.seen c.loop-path.lister) rest c.loop-path.found) c.in-Some.ensures.steps.0 c.loop-path.invariant in
    went-fault _ _ _ _ _ _ c.in-Some.path.now c.in-Err.fault here c.in-Err.ensures

pub returns-in_err-to_words : goal.returns-in_err-to_words
returns-in_err-to_words g c = short_err c.from_residual-in_err-to_words.result c.from_residual-in_err-to_words.ensures.1 (went-short _ _ _ c.loop-path.invariant)
