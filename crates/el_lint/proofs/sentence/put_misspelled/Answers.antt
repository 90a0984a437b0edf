use Rattle.std.proofs.Common.{ℕ, List, ◌++◌, ap, ◌∙◌}
use Rattle.std.proofs.lemmas.Result.{on_ok_weaker}
use Rattle.el_lint.specs.Sentences.{shown, sentence}
use Rattle.el_lint.proofs.Putting.{put-more}
use Rattle.el_lint.proofs.sentence.put_misspelled.Goals as goal

pub returns : goal.returns
unfolding sentence
returns c =
    let named = c.in_ok-put_shown-2.ensures ∙ ap (λ (name : List ℕ). c.append.new.self ++ shown name) c.name.ensures in
    on_ok_weaker c.append-2.result (put-more _ _ _ _ _ (put-more _ _ _ _ _ (put-more _ _ _ _ _ c.in_ok-put_shown.ensures c.in_ok-append.ensures.ok) named)) c.append-2.ensures.ok
