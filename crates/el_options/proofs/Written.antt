-- The tables hold the letters that are written out.
use Rattle.std.proofs.Common.{◌≡◌, refl}
use Rattle.std.specs.Prelude.{option_map}
use Rattle.el_words.specs.declared.prog.Prog.{Prog}
use Rattle.el_words.specs.declared.prog.Prog.TheVariants.{Define}
use Rattle.el_options.specs.Letters.{shown, letters_written}
use Rattle.el_options.specs.Shapes.{shape_of}

pub letters-written : (program : Prog) → option_map shown (shape_of program).letters ≡ letters_written program
unfolding shape_of
letters-written Define = refl
letters-written _ = refl
