use Rattle.el_room.proofs.Vocabulary.{any_from_yields_List, YieldsList-from_slice_split, bytes_eq}
use Rattle.std.proofs.Common.{rules, tests}
use Rattle.el_lint.specs.Allowances.{is_blank}
use Rattle.el_lint.proofs.allowance.names_one.Goals as goal

pub returns : goal.returns
returns c =
    any_from_yields_List (λ part. bytes_eq part c.args.name.now) _ _ _ c.any.ensures.ran
    (YieldsList-from_slice_split _ is_blank c.args.names.now c.split.ensures.rest c.split.ensures.done c.split.ensures.closure (λ x b q k. search (rules, tests)))
    (λ x b q k. search (rules, tests))
