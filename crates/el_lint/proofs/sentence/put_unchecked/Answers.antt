use Rattle.std.proofs.Common.{◌∷◌, ◌++◌}
use Rattle.std.specs.Prelude.{codes}
use Rattle.std.proofs.lemmas.Result.{on_ok_weaker}
use Rattle.el_lint.specs.Sentences.{shown, sentence}
use Rattle.el_lint.proofs.Putting.{put-more}
use Rattle.el_lint.proofs.sentence.put_unchecked.Goals as goal

pub returns : goal.returns
unfolding sentence
returns c =
    let name = shown (36 ∷ c.args.name.now) in
    let before = codes "backtick goes on where its block fails, and words behind a command that takes away hold " in
    let begun = put-more c.args.text.now c.append.new.self c.put_reference.new.text before name c.in_ok-append.ensures.ok c.in_ok-put_reference.ensures in
    on_ok_weaker c.append-2.result (put-more c.args.text.now c.put_reference.new.text c.append-2.new.self (before ++ name) (codes ": -i ends the script there") begun) c.append-2.ensures.ok
