-- Each program acts alike in a tree and in the upgraded one.
use Rattle.el_script.proofs.Vocabulary.{list_all, Prog, Import, Foreground, Background, If, Ifelse, Ifte, Ifthenelse, Loopwhilex, Forx, Forstdin, Forbacktickx, Pipeline, Backtick, Args, Scope, PlaceKind, Name, Fixed, ProgramBlock, ValueBlock, NameBlock, DirectiveBlock, OptionalNumber, OptionalWord, shape_of, Tree, Places, unplaced, one_place, text_place, block_place, values_place, names_place, directives_place, HavePlaces, newer, newer_places, upgraded, upgraded_places}
use Rattle.el_machine.proofs.Vocabulary.{multisubstitute, substitute_alone, export, unexport, emptyenv, envfile, withstdinas, shift, foreground, background, if_then, ifelse, ifte, ifthenelse, cd, exec, exit, loopwhilex, forx, forstdin, forbacktickx, pipeline, backtick, number_read, numbers_read, redirfd, fdmove, fdclose, fdswap, piperw, heredoc, effect}
use Rattle.el_room.proofs.Vocabulary.{State, First, Read, block_at, Effect}
use Rattle.std.proofs.Common.{◌≡◌, ℕ, Bool, true, false, List, ◌∷◌, refl, sym, ap, ◌∙◌}
use Rattle.el_control.specs.Wait.{wait}
use Rattle.el_check.specs.Operands.{tree_words}
use Rattle.el_meaning.specs.Operands.{read_in}
use Rattle.el_upgrade.proofs.Tasks.{TasksAlike, alike-is, alike-as}
use Rattle.el_upgrade.proofs.Readings.{with_words, ReadsAlike, new_blocks, read-upgraded, reads-alike}
use Rattle.el_upgrade.proofs.Control.{foreground-alike, background-alike, if-alike, ifelse-alike, ifte-alike, ifthenelse-alike}
use Rattle.el_upgrade.proofs.Pipes.{pipeline-alike, backtick-alike}
use Rattle.el_upgrade.proofs.Loops.{loopwhilex-alike, forx-alike, forstdin-alike, forbacktickx-alike}
use Rattle.el_upgrade.proofs.Import.{import-alike}

-- ---- places without program blocks

abbrev is_plain_kind : PlaceKind → Bool
is_plain_kind ProgramBlock = false
is_plain_kind _ = true

plain-stay : (places : Places) (kinds : List PlaceKind) (after : Args) → list_all is_plain_kind kinds ≡ true → HavePlaces places kinds after → upgraded_places places ≡ places
plain-stay unplaced kinds after e h = refl
plain-stay (one_place (text_place text) places) (Name ∷ kinds) after e h = ap (one_place (text_place text)) (plain-stay places kinds after e h.1)
plain-stay (one_place (text_place text) places) (Fixed ∷ kinds) after e h = ap (one_place (text_place text)) (plain-stay places kinds after e h)
plain-stay (one_place (text_place text) places) (OptionalWord ∷ kinds) after e h = ap (one_place (text_place text)) (plain-stay places kinds after e h)
plain-stay (one_place (text_place text) places) (OptionalNumber ∷ kinds) after e h = ap (one_place (text_place text)) (plain-stay places kinds after e h.3)
plain-stay (one_place (block_place block) places) (ProgramBlock ∷ kinds) after e h = absurd (cc)
plain-stay (one_place (values_place values) places) (ValueBlock ∷ kinds) after e h = ap (one_place (values_place values)) (plain-stay places kinds after e h)
plain-stay (one_place (names_place names) places) (NameBlock ∷ kinds) after e h = ap (one_place (names_place names)) (plain-stay places kinds after e h.1)
plain-stay (one_place (directives_place directives) places) (DirectiveBlock ∷ kinds) after e h = ap (one_place (directives_place directives)) (plain-stay places kinds after e h.1)
plain-stay _ _ after e h = absurd h

-- ---- all programs

-- the words of the rest say nothing
RestSaysNothing : Prog → Type 0
RestSaysNothing program = (read : Read) (rest : List (List ℕ)) (state : State) → effect program read state ≡ effect program (record read { rest = rest }) state

module _ (scope : Scope) (options : List (List ℕ)) (places : Places) (rest : Tree) (state : State) where
  -- a program without program blocks that doesn't look at the words of its rest
  plain : (program : Prog) (after : Args) → list_all is_plain_kind (shape_of program).places ≡ true → HavePlaces places (shape_of program).places after → RestSaysNothing program
      → TasksAlike (effect program (read_in scope program options places rest) state) (effect program (read_in scope program options (upgraded_places places) (upgraded rest)) state)
  unfolding RestSaysNothing
  plain program after e h nothing =
      alike-is (ap (λ places. effect program (read_in scope program options places rest) state) (sym (plain-stay places (shape_of program).places after e h)) ∙ nothing (read_in scope program options (upgraded_places places) rest) (tree_words scope (upgraded rest)) state)

  -- one that is alike on words that are started alike
  by-words : (program : Prog) (acts : Effect)
      → (ReadsAlike (read_in scope program options places rest) (new_blocks scope program options places rest) (tree_words scope (upgraded rest)) → (state : State)
      → TasksAlike (acts (read_in scope program options places rest) state) (acts (with_words (read_in scope program options places rest) (new_blocks scope program options places rest) (tree_words scope (upgraded rest))) state))
      → TasksAlike (acts (read_in scope program options places rest) state) (acts (read_in scope program options (upgraded_places places) (upgraded rest)) state)
  by-words program acts h = alike-as refl (ap (λ read. acts read state) (read-upgraded scope program options places rest)) (h (reads-alike scope program options places rest) state)

pub effect-alike : (program : Prog) (scope : Scope) (options : List (List ℕ)) (places : Places) (rest : Tree) (state : State) (after : Args) → HavePlaces places (shape_of program).places after
    → TasksAlike (effect program (read_in scope program options places rest) state) (effect (newer program) (read_in scope (newer program) options (newer_places program (upgraded_places places)) (upgraded rest)) state)
unfolding shape_of effect RestSaysNothing substitute_alone multisubstitute export unexport emptyenv envfile withstdinas shift wait cd exec exit number_read numbers_read redirfd fdmove fdclose fdswap piperw heredoc
effect-alike Import scope options (one_place (text_place text) unplaced) rest state after h = import-alike scope options text rest state
effect-alike Import scope options (one_place (text_place text) _) rest state after h = absurd h.1
effect-alike Import scope options _ rest state after h = absurd h
effect-alike Foreground scope options places rest state after h = by-words scope options places rest state Foreground foreground foreground-alike
effect-alike Background scope options places rest state after h = by-words scope options places rest state Background background background-alike
effect-alike If scope options places rest state after h = by-words scope options places rest state If if_then if-alike
effect-alike Ifelse scope options places rest state after h = by-words scope options places rest state Ifelse ifelse ifelse-alike
effect-alike Ifte scope options places rest state after h = by-words scope options places rest state Ifte ifte ifte-alike
effect-alike Ifthenelse scope options places rest state after h = by-words scope options places rest state Ifthenelse ifthenelse ifthenelse-alike
effect-alike Loopwhilex scope options places rest state after h = by-words scope options places rest state Loopwhilex loopwhilex loopwhilex-alike
effect-alike Forstdin scope options places rest state after h = by-words scope options places rest state Forstdin forstdin forstdin-alike
effect-alike Forbacktickx scope options places rest state after h = by-words scope options places rest state Forbacktickx forbacktickx forbacktickx-alike
effect-alike Pipeline scope options places rest state after h = by-words scope options places rest state Pipeline pipeline pipeline-alike
effect-alike Backtick scope options places rest state after h = by-words scope options places rest state Backtick backtick backtick-alike
effect-alike Forx scope options places rest state after h =
    by-words scope options places rest state Forx forx (λ alike state. forx-alike alike state (ap (λ places. block_at First (read_in scope Forx options places rest)) (sym (plain-stay places (shape_of Forx).places after refl h))))
effect-alike program scope options places rest state after h = plain scope options places rest state program after refl h (λ read rest state. refl)
