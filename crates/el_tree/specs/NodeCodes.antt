-- The code of a list of programs. Only the code's contracts need it.
use Rattle.std.specs.Prelude.{ℕ, List}
use Rattle.std.proofs.Common.{refl}
use Rattle.std.specs.Coded.{Coded, code_by, coded×, coded_list}
use Rattle.el_words.specs.declared.prog.Prog.{Prog}
use Rattle.el_tree.specs.Trees.{Places}
use Rattle.el_tree.specs.Codes.{coded_prog, coded_texts, places_coded}
use Rattle.el_tree.specs.declared.tree.Node.{Node}

-- the codes of lists of programs
abbrev pub nodes_coded : Coded (List Node)
nodes_coded =
    coded_list (code_by (Prog × (List (List ℕ) × Places)) (coded× coded_prog (coded× coded_texts places_coded)) (λ node. (node.prog, (node.options, node.places)))
    (λ parts. record { prog = parts.0; options = parts.1.0; places = parts.1.1 }) (λ node. refl))
