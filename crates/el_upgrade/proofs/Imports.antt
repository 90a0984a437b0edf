-- An upgraded tree has no import, and others stay.
use Rattle.el_script.proofs.Vocabulary.{Prog, Import, End, Command, Node, Places, unplaced, one_place, text_place, block_place, newer, newer_places, upgraded, upgraded_places}
use Rattle.std.proofs.Common.{◌≡◌, false, refl, ap, ◌∙◌}
use Rattle.el_upgrade.specs.Imports.{is_import, PlacesLack}
use Rattle.el_upgrade.specs.Laws.{UpgradeLacksImport, OthersStay, UpgradesOnce}

newer-lacks : (program : Prog) → is_import (newer program) ≡ false
newer-lacks Import = refl
newer-lacks program = refl

twice-lacks : (program : Prog) (places : Places) → PlacesLack places → PlacesLack (newer_places program places)
twice-lacks Import unplaced h = h
twice-lacks Import (one_place (text_place text) places) h = h
twice-lacks Import (one_place _ places) h = h
twice-lacks program places h = h

mutual
  pub lacks-import : UpgradeLacksImport
  lacks-import End = tt
  lacks-import (Command args) = tt
  lacks-import (Node program options places rest) = (newer-lacks program, twice-lacks program (upgraded_places places) (places-lack places), lacks-import rest)

  places-lack : (places : Places) → PlacesLack (upgraded_places places)
  places-lack unplaced = tt
  places-lack (one_place (block_place block) places) = (lacks-import block, places-lack places)
  places-lack (one_place _ places) = places-lack places

-- ---- other trees

newer-stays : (program : Prog) → is_import program ≡ false → newer program ≡ program
newer-stays Import e = absurd (cc)
newer-stays program e = refl

places-new : (program : Prog) (places : Places) → is_import program ≡ false → newer_places program places ≡ places
places-new Import places e = absurd (cc)
places-new program places e = refl

mutual
  pub others-stay : OthersStay
  others-stay End h = refl
  others-stay (Command args) h = refl
  others-stay (Node program options places rest) h = λ i. Node (newer-stays program h.0 i) options ((places-new program (upgraded_places places) h.0 ∙ places-stay places h.1) i) (others-stay rest h.2 i)

  places-stay : (places : Places) → PlacesLack places → upgraded_places places ≡ places
  places-stay unplaced h = refl
  places-stay (one_place (block_place block) places) h = λ i. one_place (block_place (others-stay block h.0 i)) (places-stay places h.1 i)
  places-stay (one_place place places) h = ap (one_place place) (places-stay places h)

pub upgrades-once : UpgradesOnce
upgrades-once tree = others-stay (upgraded tree) (lacks-import tree)
