use Rattle.std.proofs.Common.{◌≡◌, ◌∙◌, ◌++◌, ap, arith, replicate}
use Rattle.std.proofs.lemmas.Grind.{common_steps}
use Rattle.el_words.specs.Args.{indented}
use Rattle.el_blocks.proofs.Indented.{indented-spaces}
use Rattle.el_blocks.proofs.speller.Speller.push.Goals as goal

pub returns-clause-words : goal.returns-clause-words
returns-clause-words c =
    let spaces : c.resize.new.self.items ≡ replicate c.args.self.now.depth 32 = grind (arith, common_steps) in
    let same : c.deref.result.now ≡ indented c.args.self.now.depth c.args.text.now =
    c.deref.ensures.value ∙ c.in_ok-extend_from_slice.ensures.items ∙ ap (λ s. s ++ c.args.text.now) spaces ∙ indented-spaces c.args.self.now.depth c.args.text.now in
    rw same at c.push-2.ensures.ok
