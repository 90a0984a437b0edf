use Rattle.el_script.proofs.Vocabulary.{on_ok_weaker, places_of}
use Rattle.std.proofs.Common.{◌∙◌, ◌++◌, [], ◌∷◌, List, ℕ, sym, ap}
use Rattle.el_layout.specs.Layout.{places_layout}
use Rattle.el_layout.proofs.Printing.{directives-block}
use Rattle.el_layout.proofs.printer.+print.Goals as goal

pub print_place-returns-in-Directives : goal.print_place-returns-in-Directives
print_place-returns-in-Directives t c =
    on_ok_weaker c.print_block-in-Directives.result
    (λ printed.
    printed ∙ ap (λ (block : List ℕ). c.args.out.now ++ block) (directives-block c.args.depth c.in-Directives.directives)
    ∙ ap (λ place. c.args.out.now ++ places_layout c.args.depth (places_of (place ∷ []))) (sym c.in-Directives.is))
    c.print_block-in-Directives.ensures
