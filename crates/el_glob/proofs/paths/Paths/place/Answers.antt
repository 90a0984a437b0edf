use Rattle.std.proofs.Common.{◌∙◌, sym, ap, ℕ, List, []}
use Rattle.std.proofs.lemmas.Result.{on_ok_weaker}
use Rattle.el_glob.specs.Listings.{placed}
use Rattle.el_glob.specs.PathsKept.{all_placed}
use Rattle.el_glob.proofs.Placing.{all_placed-more, join-nothing}
use Rattle.el_glob.proofs.paths.Paths.place.Goals as goal

pub returns-then-is_empty : goal.returns-then-is_empty
returns-then-is_empty c =
    let whole = join-nothing c.args.path.now c.args.name.now (sym c.is_empty.ensures ∙ c.if-is_empty.true) in
    on_ok_weaker c.push.result (λ pushed. ap (λ (paths : List (List ℕ)). all_placed paths []) pushed ∙ all_placed-more c.self.inside.paths c.args.name.now [] ∙ ap (λ (found : List (List ℕ)). placed found c.args.name.now) c.self.view_is
    ∙ sym (ap (λ (path : List ℕ). placed c.args.self.now path) whole)) c.push.ensures.ok

pub returns : goal.returns
returns c =
    on_ok_weaker c.push-2.result (λ pushed. ap (λ (paths : List (List ℕ)). all_placed paths []) pushed ∙ all_placed-more c.self.inside.paths c.deref.result.now [] ∙ ap (λ (found : List (List ℕ)). placed found c.deref.result.now) c.self.view_is
    ∙ ap (λ (path : List ℕ). placed c.args.self.now path) (c.deref.ensures.value ∙ c.in_ok-whole.ensures.same)) c.push-2.ensures.ok
