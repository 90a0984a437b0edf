use Rattle.std.proofs.Common.{ap}
use Rattle.el_layout.specs.Layout.{layout}
use Rattle.el_layout.proofs.Layouts.{other-tree}
use Rattle.el_layout.proofs.laws.second_layout_is_the_first.Goals as goal

pub returns : goal.returns
returns c = λ tree other none formed other_formed read. ap layout (other-tree tree other none formed other_formed read)
