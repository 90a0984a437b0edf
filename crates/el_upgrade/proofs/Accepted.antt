-- An upgraded tree is accepted under the same marks.
use Rattle.el_script.proofs.Vocabulary.{Prog, Define, Import, Importas, Multidefine, Multisubstitute, Forx, Forstdin, Forbacktickx, Backtick, shape_of, Tree, End, Command, Node, Places, unplaced, one_place, text_place, block_place, values_place, names_place, directives_place, letters_of, Many, Marked, has_letter, Member, define_mark, importas_mark, value_marks, adds_member, first_text, names_in, block_member, member_of, members_behind, KeepsWords, PlacesKeep, newer, newer_places, upgraded, upgraded_places}
use Rattle.std.proofs.Common.{◌≡◌, ℕ, List, [], ◌∷◌, map, false, refl, sym, ap, subst, codes}
use Rattle.el_upgrade.specs.Laws.{UpgradeIsAccepted}
use Rattle.el_upgrade.proofs.Formed.{same-adds, well-formed-upgraded}

-- ---- marks

first-stays : (program : Prog) (places : Places) → first_text (newer_places program (upgraded_places places)) ≡ first_text places
first-stays Import unplaced = refl
first-stays Import (one_place (text_place text) places) = refl
first-stays Import (one_place _ places) = refl
first-stays program unplaced = refl
first-stays program (one_place (text_place text) places) = refl
first-stays program (one_place _ places) = refl

names-stay : (places : Places) → names_in (upgraded_places places) ≡ names_in places
names-stay unplaced = refl
names-stay (one_place (names_place names) places) = refl
names-stay (one_place _ places) = names-stay places

block-stays : (places : Places) → block_member (upgraded_places places) ≡ block_member places
block-stays unplaced = refl
block-stays (one_place (directives_place directives) places) = refl
block-stays (one_place _ places) = refl

-- a member of these marks alone
abbrev of_marks : List Marked → Member
of_marks marked = record { marked = marked; positional = false }

member-stays : (program : Prog) (options : List (List ℕ)) (places : Places)
    → member_of (newer program) (letters_of (newer program) options) (newer_places program (upgraded_places places)) ≡ member_of program (letters_of program options) places
unfolding shape_of
member-stays Define options places = ap (λ key. of_marks ((key, define_mark (letters_of Define options)) ∷ [])) (first-stays Define places)
member-stays Import options places = ap (λ key. of_marks ((key, importas_mark (letters_of Import options)) ∷ [])) (first-stays Import places)
member-stays Importas options places = ap (λ key. of_marks ((key, importas_mark (letters_of Importas options)) ∷ [])) (first-stays Importas places)
member-stays Multidefine options places = ap (λ names. of_marks (map (λ (name : List ℕ). (name, Many)) names)) (names-stay places)
member-stays Multisubstitute options places = block-stays places
member-stays Forx options places = ap (λ key. of_marks (value_marks (has_letter Forx (codes "E") (letters_of Forx options)) key)) (first-stays Forx places)
member-stays Forstdin options places = ap (λ key. of_marks (value_marks (has_letter Forstdin (codes "E") (letters_of Forstdin options)) key)) (first-stays Forstdin places)
member-stays Forbacktickx options places = ap (λ key. of_marks (value_marks (has_letter Forbacktickx (codes "E") (letters_of Forbacktickx options)) key)) (first-stays Forbacktickx places)
member-stays Backtick options places = ap (λ key. of_marks (value_marks (has_letter Backtick (codes "E") (letters_of Backtick options)) key)) (first-stays Backtick places)
member-stays program options places = refl

-- ---- words

twice-keep : (program : Prog) (places : Places) (members : List Member) → PlacesKeep places members → PlacesKeep (newer_places program places) members
twice-keep Import unplaced members h = h
twice-keep Import (one_place (text_place text) places) members h = (h.0, h)
twice-keep Import (one_place _ places) members h = h
twice-keep program places members h = h

mutual
  keeps-upgraded : (tree : Tree) (members : List Member) → KeepsWords tree members → KeepsWords (upgraded tree) members
  keeps-upgraded End members h = tt
  keeps-upgraded (Command args) members h = tt
  keeps-upgraded (Node program options places rest) members h = (
    twice-keep program (upgraded_places places) members (places-keep places members h.0),
    subst (KeepsWords (upgraded rest)) (sym (λ i. members_behind (same-adds program options i) members (member-stays program options places i)))
        (keeps-upgraded rest (members_behind (adds_member program (letters_of program options)) members (member_of program (letters_of program options) places)) h.1),
  )

  places-keep : (places : Places) (members : List Member) → PlacesKeep places members → PlacesKeep (upgraded_places places) members
  places-keep unplaced members h = tt
  places-keep (one_place (text_place text) places) members h = (h.0, places-keep places members h.1)
  places-keep (one_place (block_place block) places) members h = (keeps-upgraded block members h.0, places-keep places members h.1)
  places-keep (one_place (values_place values) places) members h = places-keep places members h
  places-keep (one_place (names_place names) places) members h = places-keep places members h
  places-keep (one_place (directives_place directives) places) members h = (h.0, places-keep places members h.1)

pub accepted-upgraded : UpgradeIsAccepted
accepted-upgraded members tree h = record { well_formed = well-formed-upgraded tree h.well_formed; keeps = keeps-upgraded tree members h.keeps }
