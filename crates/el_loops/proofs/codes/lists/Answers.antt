use Rattle.el_room.proofs.Vocabulary.{any_from_yields_List, YieldsList-from_slice_split}
use Rattle.std.proofs.Common.{◌==◌, rules, tests}
use Rattle.el_loops.specs.Codes.{writes}
use Rattle.el_loops.proofs.codes.lists.Goals as goal

pub returns : goal.returns
returns c =
    any_from_yields_List (λ number. writes number c.args.code) _ _ _ c.any.ensures.ran
    (YieldsList-from_slice_split _ (λ byte. byte == 44) c.args.text.now c.split.ensures.rest c.split.ensures.done c.split.ensures.closure (λ x b q k. search (rules, tests)))
    (λ x b q k. search (rules, tests))
