use Rattle.std.proofs.Common.{◌≡◌, ◌∙◌, ◌<◌, ◌^◌, length, arith, ap, if◌then◌else◌}
use Rattle.std.proofs.lemmas.Result.{err_from_is_err_and}
use Rattle.el_transform.specs.Crunching.{crunched}
use Rattle.el_transform.proofs.Crunched.{crunched-no_nul}
use Rattle.el_transform.proofs.Whole.{kept_is_right, no_memory_is_right}
use Rattle.el_transform.proofs.transforming.transform.Goals as goal

pub returns-in_err-kept : goal.returns-in_err-kept
returns-in_err-kept c =
    let p = err_from_is_err_and c.from_residual.result c.from_residual.ensures.1 in
    let is = no_memory_is_right c.args.how.now c.args.value.now c.from_residual.result (rw p.2 at p.1) in
    record { ok = is.ok; bad = is.bad; exact = is.exact }

pub chomp_and_split-requires : goal.chomp_and_split-requires
chomp_and_split-requires c =
    rw (c.deref.ensures.value, c.in_ok-kept.ensures, c.as_bytes.ensures.same) (crunched-no_nul c.args.how.now.delims c.args.value.now c.as_bytes.ensures.no_nul)

pub returns-in_ok-kept : goal.returns-in_ok-kept
returns-in_ok-kept c =
    let small : length c.args.value.now < 2 ^ 64 = omega (arith, ap length c.as_bytes.ensures.same) in
    let kept : c.deref.result.now ≡ (if c.args.how.now.crunch then crunched c.args.how.now.delims c.args.value.now else c.args.value.now) =
    c.deref.ensures.value ∙ c.in_ok-kept.ensures ∙ rw c.if-how.true (ap (λ v. crunched c.args.how.now.delims v) c.as_bytes.ensures.same) in
    let is = kept_is_right c.args.how.now c.args.value.now c.deref.result.now c.chomp_and_split.result small kept c.chomp_and_split.ensures in
    record { ok = is.ok; bad = is.bad; exact = is.exact }

pub returns-else-how : goal.returns-else-how
returns-else-how c =
    let small : length c.args.value.now < 2 ^ 64 = omega (arith, ap length c.as_bytes-else-how.ensures.same) in
    let kept : c.as_bytes-else-how.result.now ≡ (if c.args.how.now.crunch then crunched c.args.how.now.delims c.args.value.now else c.args.value.now) =
    rw c.if-how.false c.as_bytes-else-how.ensures.same in
    let is = kept_is_right c.args.how.now c.args.value.now c.as_bytes-else-how.result.now c.chomp_and_split-else-how.result small kept c.chomp_and_split-else-how.ensures in
    record { ok = is.ok; bad = is.bad; exact = is.exact }
