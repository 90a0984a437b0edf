-- What is read at the front of a program that stands in a tree.
use Rattle.el_script.specs.Vocabulary.{Prog, Args, words, ◌+++◌, spelled, Scope, scope_value, Strictness, shape_of, Places, written_places, Member, MeetsAll}
use Rattle.std.specs.Prelude.{◌≡◌, ℕ, List}
use Rattle.el_options.specs.Fronts.{Whole, front_of}
use Rattle.el_tree.specs.OptionWords.{HasOptions, StopsOptions}
use Rattle.el_tree.specs.WellFormed.{HavePlaces}
use Rattle.el_tree.specs.Accepted.{PlacesKeep}
use Rattle.el_check.specs.Operands.{operands_in}

-- What is read at the front of a spelled program, without a warning: its letters and operands, and behind them the spelling of its rest.
abbrev pub FrontIsRead : Type 0
FrontIsRead = (strict : Strictness) (program : Prog) (options : List (List ℕ)) (places : Places) (rest : Args) (read : HasOptions program options) (scope : Scope) (members : List Member) → MeetsAll scope members
    → StopsOptions (shape_of program).letters read.ended (written_places places +++ rest) → HavePlaces places (shape_of program).places rest → PlacesKeep places members
    → front_of strict program (scope_value scope (spelled 0 (words options +++ (written_places places +++ rest))))
    ≡ Whole 0 (record { letters = read.letters; operands = operands_in scope places; rest = scope_value scope (spelled 0 rest) })
