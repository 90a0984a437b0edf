use Rattle.std.proofs.Common.{ap, ◌∙◌}
use Rattle.el_transform.specs.Computed.{cut_word}
use Rattle.el_transform.proofs.FirstNetstring.{cut-digits, count_within}
use Rattle.el_transform.proofs.netstrings.first_netstring.Goals as goal

pub split_at-requires : goal.split_at-requires
split_at-requires c = count_within c.args.bytes.now c.count_digits.result c.count_digits.ensures

pub returns-in_err-parse_length : goal.returns-in_err-parse_length
returns-in_err-parse_length c =
    let text = c.split_at.result.1.now in
    rw c.from_residual.ensures
    (ap (λ n. cut_word n text) c.in_err-parse_length.ensures
    ∙ cut-digits _ _ text c.count_digits.result c.count_digits.ensures c.split_at.ensures.front c.split_at.ensures.back)

pub returns : goal.returns
returns c =
    let text = c.split_at.result.1.now in
    c.cut_word.ensures
    ∙ ap (λ n. cut_word n text) c.in_ok-parse_length.ensures
    ∙ cut-digits _ _ text c.count_digits.result c.count_digits.ensures c.split_at.ensures.front c.split_at.ensures.back
