use Rattle.std.proofs.Common.{List, find, refl, sym, ap, ◌∙◌, arith}
use Rattle.std.proofs.lemmas.List.{nil_from_length}
use Rattle.std.specs.Str.{bytes_eq}
use Rattle.el_words.specs.declared.prog.Prog.{Prog}
use Rattle.el_words.specs.Prog.{name_text, program_named}
use Rattle.el_words.proofs.Programs.{by_first, by_nothing}
use Rattle.el_words.proofs.prog.find_named.Goals as goal

pub returns-in-empty : goal.returns-in-empty
returns-in-empty c = sym (ap program_named (nil_from_length c.args.word.now (omega arith)) ∙ by_nothing)

pub returns-in-len1-up : goal.returns-in-len1-up
returns-in-len1-up c =
    c.find_among.ensures
    ∙ ap (λ (programs : List Prog). find (λ (program : Prog). bytes_eq (name_text program) c.args.word.now) programs) c.beginning_with.ensures
    ∙ by_first c.args.word.now _ refl
