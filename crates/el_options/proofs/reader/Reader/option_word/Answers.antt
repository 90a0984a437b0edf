use Rattle.std.proofs.Common.{◌≡◌, ◌∙◌, sym, ap, [], ◌∷◌, get_or, ◌<◌, length, arith}
use Rattle.std.proofs.lemmas.Slice.Eq.{bytes_eq-Decides}
use Rattle.el_options.specs.Reading.{shown}
use Rattle.el_options.proofs.Steps.{stops-before, stops-behind, plain-word, dashes-word}
use Rattle.el_options.proofs.reader.Reader.option_word.Goals as goal

pub returns-then-not-is_option-clause-ok : goal.returns-then-not-is_option-clause-ok
returns-then-not-is_option-clause-ok g c =
    let same : c.at-text.result.now ≡ get_or c.args.words.now c.args.self.now.used [] = c.at-text.ensures.same in
    let inside : c.args.self.now.used < length c.args.words.now = omega (arith, c.requires.at.is_within) in
    stops-before c.args.table.now.opts c.args.words.now c.args.self.now.slots c.args.self.now.count c.args.self.now.used c.requires.at inside
    (ap (shown c.args.table.now.opts) (sym same) ∙ plain-word c.args.table.now.opts c.at-text.result.now (λ is. let told = c.if-not-is_option.ensures.1 is in cc told))

pub returns-then-eq-clause-ok : goal.returns-then-eq-clause-ok
returns-then-eq-clause-ok g c =
    let same : c.at-text.result.now ≡ get_or c.args.words.now c.args.self.now.used [] = c.at-text.ensures.same in
    let inside : c.args.self.now.used < length c.args.words.now = omega (arith, c.requires.at.is_within) in
    let dashes : c.at-text.result.now ≡ 45 ∷ 45 ∷ [] = (bytes_eq-Decides c.at-text.result.now c.as_slice.result.now).0 (sym c.if-eq.ensures) ∙ c.as_slice.ensures in
    stops-behind c.args.table.now.opts c.args.words.now c.args.self.now.slots c.args.self.now.count c.args.self.now.used c.requires.at inside
    (ap (shown c.args.table.now.opts) (sym same) ∙ dashes-word c.args.table.now.opts c.at-text.result.now dashes)
