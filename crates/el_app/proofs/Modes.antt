-- What is accepted under more marks is accepted under fewer.
use Rattle.el_script.proofs.Vocabulary.{list_any, not-true, and_parts, and_from, Part, parts_of, Tree, End, Command, Node, Places, unplaced, one_place, text_place, block_place, values_place, names_place, directives_place, Directives, undirected, directed, letters_of, Member, positional_member, has_many, puts_many, touches, keeps_one, member_of, adds_member, members_behind, KeepsWords, PlacesKeep, DirectivesKeep, IsAccepted}
use Rattle.std.proofs.Common.{◌≡◌, ℕ, Bool, true, false, not, List, [], ◌∷◌, ◌++◌, refl, ap}
use Rattle.el_tree.proofs.OneWord.{none-put}
use Rattle.el_check.specs.declared.params.Params.{Params}
use Rattle.el_check.specs.declared.params.Params.TheVariants.{Frame, Leave, Subst}
use Rattle.el_check.specs.Scripts.{first_marks, IsAcceptedScript}

-- ---- one word

-- members that keep a word which was touched keep one that wasn't
touched-keeps : (touched : Bool) (members : List Member) (parts : List Part) → keeps_one true members parts ≡ true → keeps_one touched members parts ≡ true
touched-keeps touched [] parts k = refl
touched-keeps true (member ∷ members) parts k = k
touched-keeps false (member ∷ members) parts k =
    let both = and_parts (not (has_many member)) (keeps_one true members parts) k in
    and_from (not (list_any (puts_many member) parts)) (keeps_one (list_any (touches member) parts) members parts)
    (ap not (none-put member parts (not-true (has_many member) both.0)))
    (touched-keeps (list_any (touches member) parts) members parts both.1)

inner-keeps : (member : Member) (members : List Member) (parts : List Part) → keeps_one false (member ∷ members) parts ≡ true → keeps_one false members parts ≡ true
inner-keeps member members parts k = by (list_any (touches member) parts) (and_parts (not (list_any (puts_many member) parts)) (keeps_one (list_any (touches member) parts) members parts) k).1
  where
    by : (touched : Bool) → keeps_one touched members parts ≡ true → keeps_one false members parts ≡ true
    by true k = touched-keeps false members parts k
    by false k = k

-- ---- a tree, without the outermost member

mutual
  tree-keeps : (tree : Tree) (member : Member) (members : List Member) → KeepsWords tree (member ∷ members) → KeepsWords tree members
  tree-keeps End member members k = tt
  tree-keeps (Command args) member members k = tt
  tree-keeps (Node program options places rest) member members k =
      (places-keep places member members k.0, behind (adds_member program (letters_of program options)) (member_of program (letters_of program options) places) member members (λ members. tree-keeps rest member members) k.1)
    where
      behind : (adds : Bool) (own member : Member) (members : List Member) → ((members : List Member) → KeepsWords rest (member ∷ members) → KeepsWords rest members)
          → KeepsWords rest (members_behind adds (member ∷ members) own) → KeepsWords rest (members_behind adds members own)
      behind true own member members keep k = keep (members ++ own ∷ []) k
      behind false own member members keep k = keep members k

  places-keep : (places : Places) (member : Member) (members : List Member) → PlacesKeep places (member ∷ members) → PlacesKeep places members
  places-keep unplaced member members k = tt
  places-keep (one_place (text_place text) places) member members k = (inner-keeps member members (parts_of text) k.0, places-keep places member members k.1)
  places-keep (one_place (block_place block) places) member members k = (tree-keeps block member members k.0, places-keep places member members k.1)
  places-keep (one_place (values_place values) places) member members k = places-keep places member members k
  places-keep (one_place (names_place names) places) member members k = places-keep places member members k
  places-keep (one_place (directives_place directives) places) member members k = (directives-keep directives member members k.0, places-keep places member members k.1)

  directives-keep : (directives : Directives) (member : Member) (members : List Member) → DirectivesKeep directives (member ∷ members) → DirectivesKeep directives members
  directives-keep undirected member members k = tt
  directives-keep (directed program options places directives) member members k = (places-keep places member members k.0, directives-keep directives member members k.1)

-- ---- the laws

pub fewer-accept : (outer inner : List Member) (tree : Tree) → IsAccepted (outer ++ inner) tree → IsAccepted inner tree
fewer-accept [] inner tree accepted = accepted
fewer-accept (member ∷ outer) inner tree accepted = fewer-accept outer inner tree (record { well_formed = accepted.well_formed; keeps = tree-keeps tree member (outer ++ inner) accepted.keeps })

pub strictest : (least : ℕ) (params : Params) (script : List ℕ) (tree : Tree) → IsAcceptedScript (Subst least) script tree → IsAcceptedScript params script tree
strictest least params script tree accepted =
    record { tokens = accepted.tokens; lexes = accepted.lexes; are_tokens = accepted.are_tokens; within = accepted.within; accepted = by params accepted.accepted }
  where
    by : (params : Params) → IsAccepted (positional_member ∷ []) tree → IsAccepted (first_marks params) tree
    by Frame accepted = fewer-accept (positional_member ∷ []) [] tree accepted
    by Leave accepted = fewer-accept (positional_member ∷ []) [] tree accepted
    by (Subst least) accepted = accepted
