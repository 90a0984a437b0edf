-- Names that are known, behind one program after the other.
use Rattle.el_script.proofs.Vocabulary.{or_assoc, or-false, Prog, Multisubstitute, Letter, Places, unplaced, one_place, directives_place, place_list, directives_of, Marked, Member, empty_member, both_members, own_member, block_member, directives_member, member_of}
use Rattle.std.proofs.Common.{◌≡◌, ℕ, List, [], ◌∷◌, ◌++◌, map, Some, refl, sym, ap, ◌∙◌, append_assoc, append-nil}
use Rattle.std.specs.Prelude.{slice_get}
use Rattle.el_tree.specs.declared.tree.Place.TheVariants.{Directives}
use Rattle.el_tree.specs.declared.tree.Node.{Node}
use Rattle.el_tree.specs.Lists.{directive_list}
use Rattle.el_tree.proofs.Lists.{directives-again}
use Rattle.el_lint.specs.Known.{Known, names_put, known_with}

map-append : (one other : List Marked) → map (λ (marked : Marked). marked.0) (one ++ other) ≡ map (λ (marked : Marked). marked.0) one ++ map (λ (marked : Marked). marked.0) other
map-append [] other = refl
map-append (marked ∷ one) other = ap (λ (names : List (List ℕ)). marked.0 ∷ names) (map-append one other)

-- nothing is put in
pub known-same : (known : Known) → known_with known empty_member ≡ known
known-same known = λ i. record { names = append-nil known.names i; positional = or-false known.positional i }

-- one after the other is both at once
pub known-both : (known : Known) (one other : Member) → known_with known (both_members one other) ≡ known_with (known_with known one) other
known-both known one other =
    λ i. record {
      names = (ap (λ (names : List (List ℕ)). known.names ++ names) (map-append one.marked other.marked) ∙ sym (append_assoc known.names (names_put one) (names_put other))) i;
      positional = sym (or_assoc known.positional one.positional other.positional) i;
    }

-- ---- by program

pub own-behind : (program : Prog) (letters : List Letter) (places : Places) → (program ≡ Multisubstitute → ⊥) → member_of program letters places ≡ own_member program letters places
own-behind Multisubstitute letters places other = absurd (other refl)
own-behind program letters places other = refl

pub block-behind : (places : Places) (directives : List Node) → slice_get (place_list places) 0 ≡ Some (Directives directives) → block_member places ≡ directives_member (directives_of directives)
block-behind unplaced directives is = absurd (cc)
block-behind (one_place (directives_place block) places) directives is = let same : directive_list block ≡ directives = cc in ap directives_member (sym (directives-again block) ∙ ap directives_of same)
block-behind (one_place _ places) directives is = absurd (cc)

pub no-block-behind : (places : Places) → ((directives : List Node) → slice_get (place_list places) 0 ≡ Some (Directives directives) → ⊥) → block_member places ≡ empty_member
no-block-behind unplaced none = refl
no-block-behind (one_place (directives_place block) places) none = absurd (none (directive_list block) refl)
no-block-behind (one_place _ places) none = refl

-- one directive more is known
pub directive-known : (now new all : Known) (one other : Member) → known_with now (both_members one other) ≡ all → new ≡ known_with now one → known_with new other ≡ all
directive-known now new all one other still learnt = ap (λ (known : Known). known_with known other) learnt ∙ sym (known-both now one other) ∙ still

pub ruleset knowing = (known-same, known-both, own-behind, block-behind, no-block-behind, append_assoc, append-nil)
