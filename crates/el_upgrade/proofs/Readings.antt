-- What a program reads in a tree and in the upgraded one: the same but for words that are started alike.
use Rattle.el_script.proofs.Vocabulary.{Prog, spelled, Pairs, words_value, Scope, scope_value, texts_of, Tree, Places, unplaced, one_place, text_place, block_place, values_place, names_place, directives_place, letters_of, the_value, upgraded, upgraded_places}
use Rattle.el_room.proofs.Vocabulary.{Nth, Read, index_of, block_at, chosen, blocks_of, directive_read}
use Rattle.std.proofs.Common.{◌≡◌, ℕ, zero, suc, List, [], ◌∷◌, ◌++◌, map, refl, sym, ap, slice_index_or}
use Rattle.el_front.specs.Reads.{directives_of}
use Rattle.el_check.specs.Operands.{tree_words, operands_in, directives_in}
use Rattle.el_meaning.specs.Operands.{read_in}
use Rattle.el_upgrade.proofs.Words.{WordsAlike, words-same, words-upgraded, words-put}

-- the same but for the words of the blocks and of the rest
abbrev pub with_words : Read → (blocks : List (List (List ℕ))) → (rest : List (List ℕ)) → Read
with_words read blocks rest = record read { blocks = blocks; rest = rest }

-- these are started alike
pub record ReadsAlike (read : Read) (blocks : List (List (List ℕ))) (rest : List (List ℕ)) : Type 0 where
  pub each : (nth : Nth) → WordsAlike (block_at nth read) (slice_index_or blocks (index_of nth) [])
  pub rests : WordsAlike read.rest rest
  pub put : (pairs : Pairs) → WordsAlike (words_value pairs read.rest) (words_value pairs rest)

texts-stay : (scope : Scope) (places : Places) → texts_of (operands_in scope (upgraded_places places)) ≡ texts_of (operands_in scope places)
texts-stay scope unplaced = refl
texts-stay scope (one_place (text_place text) places) = ap (λ (texts : List (List ℕ)). the_value scope text ∷ texts) (texts-stay scope places)
texts-stay scope (one_place _ places) = texts-stay scope places

directives-stay : (scope : Scope) (places : Places) → directives_of (operands_in scope (upgraded_places places)) ≡ directives_of (operands_in scope places)
directives-stay scope unplaced = refl
directives-stay scope (one_place (directives_place directives) places) = ap (λ more. map directive_read (directives_in scope directives) ++ more) (directives-stay scope places)
directives-stay scope (one_place _ places) = directives-stay scope places

blocks-alike : (scope : Scope) (places : Places) (number : ℕ) → WordsAlike (slice_index_or (blocks_of (operands_in scope places)) number []) (slice_index_or (blocks_of (operands_in scope (upgraded_places places))) number [])
blocks-alike scope unplaced number = words-same []
blocks-alike scope (one_place (text_place text) places) number = blocks-alike scope places number
blocks-alike scope (one_place (block_place block) places) zero = words-upgraded scope block
blocks-alike scope (one_place (values_place values) places) zero = words-same (scope_value scope (spelled 0 values))
blocks-alike scope (one_place (names_place names) places) zero = words-same names
blocks-alike scope (one_place (directives_place directives) places) number = blocks-alike scope places number
blocks-alike scope (one_place _ places) (suc number) = blocks-alike scope places number

module _ (scope : Scope) (program : Prog) (options : List (List ℕ)) (places : Places) (rest : Tree) where
  -- the blocks that are read in the upgraded tree
  abbrev pub new_blocks : List (List (List ℕ))
  new_blocks = blocks_of (operands_in scope (upgraded_places places))

  pub read-upgraded : with_words (read_in scope program options places rest) new_blocks (tree_words scope (upgraded rest)) ≡ read_in scope program options (upgraded_places places) (upgraded rest)
  read-upgraded = λ i. record {
    letters = chosen program (letters_of program options);
    texts = sym (texts-stay scope places) i;
    blocks = new_blocks;
    directives = sym (directives-stay scope places) i;
    rest = tree_words scope (upgraded rest);
  }

  pub reads-alike : ReadsAlike (read_in scope program options places rest) new_blocks (tree_words scope (upgraded rest))
  reads-alike = record { each = λ nth. blocks-alike scope places (index_of nth); rests = words-upgraded scope rest; put = λ pairs. words-put scope pairs rest }
