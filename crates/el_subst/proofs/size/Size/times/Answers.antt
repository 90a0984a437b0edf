use Rattle.std.proofs.Common.{◌+◌, ◌∙◌}
use Rattle.el_subst.specs.Sizes.{capped}
use Rattle.el_subst.proofs.Sizes.{size_of-joins}
use Rattle.el_subst.proofs.size.Size.times.Goals as goal

pub returns : goal.returns
returns c = λ xs ys first second.
    let sizes = size_of-joins c.args.self c.args.others xs ys first second in
    let words = c.saturating_mul.ensures ∙ sizes.0 in
    let bytes = c.saturating_add.ensures ∙ (λ i. capped (c.saturating_mul-firsts.ensures i + c.saturating_mul-seconds.ensures i)) ∙ sizes.1 in
    λ i. record { words = words i; bytes = bytes i }
