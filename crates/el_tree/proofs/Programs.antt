-- The names of programs, as words.
use Rattle.std.proofs.Common.{◌≡◌, true, Some, refl}
use Rattle.el_words.specs.declared.prog.Prog.{Prog}
use Rattle.el_words.specs.declared.prog.Prog.TheVariants.{Define}
use Rattle.el_words.specs.Prog.{name_text, program_named}
use Rattle.el_tree.specs.OptionWords.{is_literal}

pub named : (program : Prog) → program_named (name_text program) ≡ Some program
unfolding program_named name_text
named Define = refl
named _ = refl

pub name_literal : (program : Prog) → is_literal (name_text program) ≡ true
unfolding name_text
name_literal Define = refl
name_literal _ = refl
