use Rattle.el_script.proofs.Vocabulary.{on_ok_weaker, items_of}
use Rattle.std.proofs.Common.{◌≡◌, List, ◌++◌, Some, ap, ◌∙◌, append_assoc, rules}
use Rattle.std.specs.Prelude.{slice_get}
use Rattle.el_tree.specs.declared.items.Arg.TheVariants.{Word}
use Rattle.el_lint.specs.declared.lint.Lint.{Lint}
use Rattle.el_lint.specs.KnownTold.{known_told}
use Rattle.el_lint.specs.Lints.{first_lints}
use Rattle.el_lint.specs.Negated.{negated_lints}
use Rattle.el_lint.proofs.Walking.{begun-word}
use Rattle.el_lint.proofs.walk.put_begun.Goals as goal

pub returns-in_ok-put_first-in-Some-Word : goal.returns-in_ok-put_first-in-Some-Word
returns-in_ok-put_first-in-Some-Word c =
    let text = c.as_bytes-text.result.now in
    let old = c.args.lints.now.items in
    let first = first_lints (known_told c.args.known.now) text in
    let negated = negated_lints c.args.is_test text in
    let there : slice_get (items_of c.args.args.now) 0 ≡ Some (Word text) = search rules in
    on_ok_weaker c.put_negated.result
    (λ put.
    put ∙ ap (λ (lints : List Lint). lints ++ negated) c.in_ok-put_first-in-Some-Word.ensures ∙ append_assoc old first negated
    ∙ ap (λ (lints : List Lint). old ++ lints) (begun-word (known_told c.args.known.now) c.args.is_test c.args.args.now text there))
    c.put_negated.ensures
