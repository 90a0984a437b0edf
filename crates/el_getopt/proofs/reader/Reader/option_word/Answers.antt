use Rattle.el_room.proofs.Vocabulary.{bytes_eq-Decides, shown}
use Rattle.std.proofs.Common.{◌≡◌, ◌∙◌, sym, ap, [], ◌∷◌, get_or, ◌<◌, length, arith}
use Rattle.el_options.proofs.Steps.{plain-word, dashes-word}
use Rattle.el_getopt.specs.Optstring.{letters_in}
use Rattle.el_getopt.proofs.Steps.{stops-before, stops-behind}
use Rattle.el_getopt.proofs.reader.Reader.option_word.Goals as goal

pub returns-then-not-is_option-clause-ok : goal.returns-then-not-is_option-clause-ok
returns-then-not-is_option-clause-ok c =
    let same : c.at-text.result.now ≡ get_or c.args.args.now c.args.self.now.used [] = c.at-text.ensures.same in
    let inside : c.args.self.now.used < length c.args.args.now = omega (arith, c.requires.at.is_within) in
    stops-before c.args.optstring.now c.args.args.now c.args.self.now.found.items c.args.self.now.used c.requires.at inside
    (ap (shown (letters_in c.args.optstring.now)) (sym same) ∙ plain-word (letters_in c.args.optstring.now) c.at-text.result.now (λ is. let told = c.if-not-is_option.ensures.1 is in cc told))

pub returns-then-eq-clause-ok : goal.returns-then-eq-clause-ok
returns-then-eq-clause-ok c =
    let same : c.at-text.result.now ≡ get_or c.args.args.now c.args.self.now.used [] = c.at-text.ensures.same in
    let inside : c.args.self.now.used < length c.args.args.now = omega (arith, c.requires.at.is_within) in
    let dashes : c.at-text.result.now ≡ 45 ∷ 45 ∷ [] = (bytes_eq-Decides c.at-text.result.now c.as_slice.result.now).0 (sym c.if-eq.ensures) ∙ c.as_slice.ensures in
    stops-behind c.args.optstring.now c.args.args.now c.args.self.now.found.items c.args.self.now.used c.requires.at inside
    (ap (shown (letters_in c.args.optstring.now)) (sym same) ∙ dashes-word (letters_in c.args.optstring.now) c.at-text.result.now dashes)
