use Rattle.std.proofs.Common.{ap, ◌∙◌, arith}
use Rattle.el_env.specs.Name.{is_good_name}
use Rattle.el_getopt.proofs.Names.{good-name, named-at}
use Rattle.el_getopt.proofs.environment.set_options.Goals as goal

pub insert-requires-clause-good : goal.insert-requires-clause-good
insert-requires-clause-good c =
    ap is_good_name (c.as_bytes.ensures.same ∙ c.in_ok-name.ensures) ∙ good-name _ (named-at c.args.found.now c.loop-one.one-index _ c.requires (omega arith))
