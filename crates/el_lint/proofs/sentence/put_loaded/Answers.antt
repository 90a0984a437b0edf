use Rattle.el_room.proofs.Vocabulary.{on_ok_weaker, name_text}
use Rattle.std.proofs.Common.{ℕ, List, ◌++◌, ap, ◌∙◌}
use Rattle.std.specs.Prelude.{codes}
use Rattle.el_lint.specs.Sentences.{shown, sentence}
use Rattle.el_lint.proofs.Putting.{put-more}
use Rattle.el_lint.proofs.sentence.put_loaded.Goals as goal

pub returns : goal.returns
unfolding sentence
returns c =
    let name = shown (name_text c.args.program) in
    let before = codes "the command in front looks for " in
    let named = c.in_ok-put_shown.ensures ∙ ap (λ (name : List ℕ). c.append.new.self ++ shown name) c.name.ensures in
    let begun = put-more c.args.text.now c.append.new.self c.put_shown.new.text before name c.in_ok-append.ensures.ok named in
    on_ok_weaker c.append-2.result (put-more c.args.text.now c.put_shown.new.text c.append-2.new.self (before ++ name) (codes " in PATH: `execline` stands before it") begun) c.append-2.ensures.ok
