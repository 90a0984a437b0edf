use Rattle.std.proofs.Common.{◌≡◌, ◌+◌, ◌++◌, ap, ◌∙◌, arith}
use Rattle.std.specs.List.{flat_map, range_with_len}
use Rattle.el_app.specs.Sample.{sample_line, sample}
use Rattle.el_app.proofs.Sampling.{lines_more}
use Rattle.el_app.proofs.samples.sample.Goals as goal

pub loop-before-preserved : goal.loop-before-preserved
loop-before-preserved c = c.in_ok-put_line.ensures ∙ ap (λ text. text ++ sample_line (c.loop-before.before + 1)) c.loop-before.invariant ∙ lines_more c.loop-before.before

pub returns : goal.returns
unfolding sample
returns c =
    let all : c.loop-before.before ≡ c.args.lines = omega arith in
    c.in_ok-append.ensures.ok
    ∙ ap (λ text. text ++ c.last_line.result.now) (c.loop-before.invariant ∙ ap (λ n. flat_map sample_line (range_with_len 1 n)) all)
    ∙ ap (λ last. flat_map sample_line (range_with_len 1 c.args.lines) ++ last) c.last_line.ensures
