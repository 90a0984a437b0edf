-- The layout of an upgraded tree reads back: its blocks stand as deep as those of the tree, and no word has a NUL where none of the tree has.
use Rattle.el_script.proofs.Vocabulary.{list_all, and_parts, HasNul, Args, nothing, word, group, ◌+++◌, words, differs, levels, Prog, Import, name_text, Tree, End, Command, Node, Places, unplaced, one_place, text_place, block_place, values_place, names_place, directives_place, written, written_places, written_directives, newer, newer_places, upgraded, upgraded_places}
use Rattle.std.proofs.Common.{◌≡◌, ℕ, suc, max, Bool, true, List, [], ◌∷◌, refl, sym, ap, ap₂, ◌∙◌, arith}
use Rattle.std.specs.Prelude.{◌==◌, not, codes}
use Rattle.el_layout.specs.ReadsBack.{HaveNoNul, HasNoNul}
use Rattle.el_layout.proofs.Layouts.{layout-reads, layout-tokens}
use Rattle.el_upgrade.specs.Laws.{UpgradeReadsBack}

-- ---- levels

levels-words : (texts : List (List ℕ)) (args : Args) → levels (words texts +++ args) ≡ levels args
levels-words [] args = refl
levels-words (text ∷ texts) args = levels-words texts args

twice-levels : (program : Prog) (places : Places) (args : Args) → levels (written_places (newer_places program places) +++ args) ≡ levels (written_places places +++ args)
twice-levels Import unplaced args = refl
twice-levels Import (one_place (text_place text) places) args = refl
twice-levels Import (one_place _ places) args = refl
twice-levels program places args = refl

mutual
  levels-stay : (tree : Tree) → levels (written (upgraded tree)) ≡ levels (written tree)
  levels-stay End = refl
  levels-stay (Command args) = refl
  levels-stay (Node program options places rest) =
      levels-words options (written_places (newer_places program (upgraded_places places)) +++ written (upgraded rest))
      ∙ twice-levels program (upgraded_places places) (written (upgraded rest))
      ∙ places-levels places (written rest) (written (upgraded rest)) (levels-stay rest)
      ∙ sym (levels-words options (written_places places +++ written rest))

  places-levels : (places : Places) (one other : Args) → levels other ≡ levels one → levels (written_places (upgraded_places places) +++ other) ≡ levels (written_places places +++ one)
  places-levels unplaced one other e = e
  places-levels (one_place (text_place text) places) one other e = places-levels places one other e
  places-levels (one_place (block_place block) places) one other e = ap₂ (λ a b. max (suc a) b) (levels-stay block) (places-levels places one other e)
  places-levels (one_place (values_place values) places) one other e = ap (λ b. max (suc (levels values)) b) (places-levels places one other e)
  places-levels (one_place (names_place names) places) one other e = ap (λ b. max (suc (levels (words names))) b) (places-levels places one other e)
  places-levels (one_place (directives_place directives) places) one other e = ap (λ b. max (suc (levels (written_directives directives))) b) (places-levels places one other e)

-- ---- NUL

abbrev is_not_nul : ℕ → Bool
is_not_nul byte = not (byte == 0)

no_nul : (bytes : List ℕ) → list_all is_not_nul bytes ≡ true → HasNul bytes → ⊥
no_nul [] are (k, below, is) = omega (arith, below)
no_nul (byte ∷ bytes) are (Prim.Native.Nat.zero, below, is) = differs is_not_nul byte 0 (and_parts (is_not_nul byte) (list_all is_not_nul bytes) are).0 refl is
no_nul (byte ∷ bytes) are (suc k, below, is) = no_nul bytes (and_parts (is_not_nul byte) (list_all is_not_nul bytes) are).1 (k, omega (arith, below), is)

new-name : (program : Prog) → (HasNul (name_text program) → ⊥) → HasNul (name_text (newer program)) → ⊥
unfolding name_text
new-name Import h = no_nul (codes "importas") refl
new-name program h = h

pub none-first : (one other : Args) → HaveNoNul (one +++ other) → HaveNoNul one
none-first nothing other h = tt
none-first (word text rest) other h = (h.0, none-first rest other h.1)
none-first (group inside rest) other h = (h.0, none-first rest other h.1)

pub none-last : (one other : Args) → HaveNoNul (one +++ other) → HaveNoNul other
none-last nothing other h = h
none-last (word text rest) other h = none-last rest other h.1
none-last (group inside rest) other h = none-last rest other h.1

none-both : (one other : Args) → HaveNoNul one → HaveNoNul other → HaveNoNul (one +++ other)
none-both nothing other h k = k
none-both (word text rest) other h k = (h.0, none-both rest other h.1 k)
none-both (group inside rest) other h k = (h.0, none-both rest other h.1 k)

twice-none : (program : Prog) (places : Places) → HaveNoNul (written_places places) → HaveNoNul (written_places (newer_places program places))
twice-none Import unplaced h = h
twice-none Import (one_place (text_place text) places) h = (h.0, h)
twice-none Import (one_place _ places) h = h
twice-none program places h = h

mutual
  pub none-upgraded : (tree : Tree) → HaveNoNul (written tree) → HaveNoNul (written (upgraded tree))
  none-upgraded End h = tt
  none-upgraded (Command args) h = h
  none-upgraded (Node program options places rest) h =
      let behind : HaveNoNul (written_places places +++ written rest) = none-last (words options) (written_places places +++ written rest) h.1 in (
        new-name program h.0,
        none-both (words options) (written_places (newer_places program (upgraded_places places)) +++ written (upgraded rest)) (none-first (words options) (written_places places +++ written rest) h.1)
            (none-both (written_places (newer_places program (upgraded_places places))) (written (upgraded rest)) (twice-none program (upgraded_places places) (places-none places (none-first (written_places places) (written rest) behind))) (none-upgraded rest (none-last (written_places places) (written rest) behind))),
      )

  places-none : (places : Places) → HaveNoNul (written_places places) → HaveNoNul (written_places (upgraded_places places))
  places-none unplaced h = tt
  places-none (one_place (block_place block) places) h = (none-upgraded block h.0, places-none places h.1)
  places-none (one_place _ places) h = (h.0, places-none places h.1)

pub reads-back : UpgradeReadsBack
reads-back tree h =
    let none : HasNoNul (upgraded tree) = none-upgraded tree h in (
      record {
        lexes = layout-reads (upgraded tree) none;
        spells = λ tokens lexes within. record { args = written (upgraded tree); are_tokens = sym (layout-tokens (upgraded tree) tokens none lexes); within = within; are_words = refl };
      },
      levels-stay tree,
    )
