-- The tables are good.
use Rattle.std.proofs.Common.{◌≡◌, true, refl}
use Rattle.el_words.specs.declared.prog.Prog.{Prog}
use Rattle.el_words.specs.declared.prog.Prog.TheVariants.{Define}
use Rattle.el_options.specs.Slots.{are_good_letters}
use Rattle.el_options.specs.Shapes.{shape_of}

pub good-letters : (program : Prog) → are_good_letters (shape_of program).letters ≡ true
unfolding shape_of
good-letters Define = refl
good-letters _ = refl
