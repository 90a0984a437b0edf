-- Words that are started alike, and the names under which messages are alike.
use Rattle.el_script.proofs.Vocabulary.{Prog, Importas, Import, name_text, Args, spelled, words, ◌+++◌, Pairs, words_value, Scope, scope_value, Tree, End, Command, Node, written, written_places, newer, newer_places, upgraded, upgraded_places, scope_literal, scope_more, name_literal}
use Rattle.el_room.proofs.Vocabulary.{Vars, Start, Write, Fault, Handle, Pid, StartFault, Trouble, first_word, message}
use Rattle.std.proofs.Common.{◌≡◌, ◌⊎◌, inl, inr, ℕ, List, [], ◌∷◌, ◌++◌, Option, Result, refl, sym, ap, subst}
use Rattle.el_check.specs.Operands.{tree_words}
use Rattle.el_upgrade.specs.Alike.{Alike, the_same, starts_alike, messages_alike}

-- ---- names

-- the same name, or import and importas
abbrev pub NamesAlike : (one other : List ℕ) → Type 0
NamesAlike one other = (one ≡ other) ⊎ ((one ≡ name_text Import) × (other ≡ name_text Importas))

pub message-alike : (one other : List ℕ) (trouble : Trouble) (handle : Handle) (answer : Result (Unit {0}) Fault) → NamesAlike one other → Alike (Write handle (message one trouble) answer) (Write handle (message other trouble) answer)
message-alike one other trouble handle answer (inl e) = the_same (ap (λ name. Write handle (message name trouble) answer) e)
message-alike one other trouble handle answer (inr e) =
    messages_alike (record { trouble = trouble; handle = handle; answer = answer; is_one = ap (λ name. Write handle (message name trouble) answer) e.0; is_other = ap (λ name. Write handle (message name trouble) answer) e.1 })

-- ---- words

-- both lists are empty, or their first words are names that are alike
abbrev pub HeadsAlike : (one other : List (List ℕ)) → Type 0
HeadsAlike [] [] = Unit {0}
HeadsAlike (name ∷ words) (like ∷ others) = NamesAlike name like
HeadsAlike [] (like ∷ others) = ⊥
HeadsAlike (name ∷ words) [] = ⊥

-- they are so, and what starts them is alike
pub record WordsAlike (one other : List (List ℕ)) : Type 0 where
  pub heads : HeadsAlike one other
  pub starts : (env : Vars) (dir : List ℕ) (streams : List (Option Handle)) (answer : Result Pid StartFault) → Alike (Start one env dir streams answer) (Start other env dir streams answer)

heads-same : (words : List (List ℕ)) → HeadsAlike words words
heads-same [] = tt
heads-same (word ∷ words) = inl refl

pub words-same : (words : List (List ℕ)) → WordsAlike words words
words-same words = record { heads = heads-same words; starts = λ env dir streams answer. the_same refl }

pub first-alike : (one other : List (List ℕ)) → HeadsAlike one other → NamesAlike (first_word one) (first_word other)
first-alike [] [] h = inl refl
first-alike (name ∷ words) (like ∷ others) h = h
first-alike [] (like ∷ others) h = absurd h
first-alike (name ∷ words) [] h = absurd h

pub name-upgraded : (program : Prog) → NamesAlike (name_text program) (name_text (newer program))
name-upgraded Import = inr (refl, refl)
name-upgraded program = inl refl

-- the words of a program begin with its name
heads-named : (scope : Scope) (program like : Prog) (args others : Args) → NamesAlike (name_text program) (name_text like) → HeadsAlike (scope_value scope (name_text program ∷ spelled 0 args)) (scope_value scope (name_text like ∷ spelled 0 others))
heads-named scope program like args others h =
    subst (HeadsAlike (scope_value scope (name_text program ∷ spelled 0 args))) (sym (scope_literal scope (name_text like) (spelled 0 others) (name_literal like)))
    (subst (λ one. HeadsAlike one (name_text like ∷ scope_value scope (spelled 0 others))) (sym (scope_literal scope (name_text program) (spelled 0 args) (name_literal program))) h)

heads-upgraded : (scope : Scope) (tree : Tree) → HeadsAlike (tree_words scope tree) (tree_words scope (upgraded tree))
heads-upgraded scope End = heads-same (tree_words scope End)
heads-upgraded scope (Command args) = heads-same (tree_words scope (Command args))
heads-upgraded scope (Node program options places rest) =
    heads-named scope program (newer program) (words options +++ (written_places places +++ written rest)) (words options +++ (written_places (newer_places program (upgraded_places places)) +++ written (upgraded rest))) (name-upgraded program)

-- a tree's words and the upgraded tree's are started alike
pub words-upgraded : (scope : Scope) (tree : Tree) → WordsAlike (tree_words scope tree) (tree_words scope (upgraded tree))
words-upgraded scope tree = record {
  heads = heads-upgraded scope tree;
  starts = λ env dir streams answer. starts_alike (record {
    words = tree_words scope tree;
    others = tree_words scope (upgraded tree);
    are = record { tree = tree; scope = scope; is_one = refl; is_other = refl };
    env = env;
    dir = dir;
    streams = streams;
    answer = answer;
    is_one = refl;
    is_other = refl;
  });
}

-- with values put in, they are those in the scope with these put last
pub words-put : (scope : Scope) (pairs : Pairs) (tree : Tree) → WordsAlike (words_value pairs (tree_words scope tree)) (words_value pairs (tree_words scope (upgraded tree)))
words-put scope pairs tree =
    subst (WordsAlike (words_value pairs (tree_words scope tree))) (scope_more scope (pairs ∷ []) (spelled 0 (written (upgraded tree))))
    (subst (λ one. WordsAlike one (tree_words (scope ++ pairs ∷ []) (upgraded tree))) (scope_more scope (pairs ∷ []) (spelled 0 (written tree))) (words-upgraded (scope ++ pairs ∷ []) tree))
