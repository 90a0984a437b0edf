use Rattle.std.proofs.Common.{◌==◌, rules, tests}
use Rattle.std.proofs.lemmas.Iterator.Search.{all_from_yields_List}
use Rattle.std.proofs.lemmas.Iterator.Splits.{YieldsList-from_slice_split}
use Rattle.el_options.specs.Rules.{is_number_up_to}
use Rattle.el_options.proofs.rules.are_numbers_up_to.Goals as goal

pub returns : goal.returns
returns c =
    all_from_yields_List (is_number_up_to c.args.most) _ _ _ c.all.ensures.ran
    (YieldsList-from_slice_split _ (λ byte. byte == 44) c.args.text.now c.split.ensures.rest c.split.ensures.done c.split.ensures.closure (λ x b q k. search (rules, tests)))
    (λ x b q k. search (rules, tests))
