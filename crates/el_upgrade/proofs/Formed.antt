-- An upgraded tree is well formed.
use Rattle.el_script.proofs.Vocabulary.{Args, nothing, word, group, ◌+++◌, Opt, PlaceKind, Name, Fixed, ProgramBlock, ValueBlock, NameBlock, DirectiveBlock, OptionalNumber, OptionalWord, Prog, Import, Exit, Loopwhilex, Forx, Forstdin, Forbacktickx, name_text, shape_of, Tree, End, Command, Node, Places, unplaced, one_place, text_place, block_place, values_place, names_place, directives_place, written, written_places, letters_of, HasOptions, StopsOptions, adds_member, HasNoNumber, IsFormed, HavePlaces, HasRestCommands, HasCommands, IsWellFormed, newer, newer_places, upgraded, upgraded_places}
use Rattle.std.proofs.Common.{◌≡◌, inl, inr, ℕ, Bool, true, false, List, [], ◌∷◌, Option, None, Some, refl, sym, subst}
use Rattle.el_tree.specs.WellFormed.{IsRest, HasTokens, HaveCommands}
use Rattle.el_upgrade.proofs.Words.{NamesAlike, name-upgraded}

-- ---- what stands first

-- both are empty, both begin with a block or with the same word, or the one with import and the other with importas
abbrev StartAlike : (one other : Args) → Type 0
StartAlike nothing nothing = Unit {0}
StartAlike (word text rest) (word like others) = NamesAlike text like
StartAlike (group inside rest) (group insides others) = Unit {0}
StartAlike _ _ = ⊥

start-same : (args : Args) → StartAlike args args
start-same nothing = tt
start-same (word text rest) = inl refl
start-same (group inside rest) = tt

start-upgraded : (tree : Tree) → StartAlike (written tree) (written (upgraded tree))
start-upgraded End = tt
start-upgraded (Command args) = start-same args
start-upgraded (Node program options places rest) = name-upgraded program

start-places : (program : Prog) (places : Places) (one other : Args) → StartAlike one other → StartAlike (written_places places +++ one) (written_places (newer_places program (upgraded_places places)) +++ other)
start-places Import unplaced one other h = h
start-places Import (one_place (text_place text) places) one other h = inl refl
start-places Import (one_place _ places) one other h = tt
start-places program unplaced one other h = h
start-places program (one_place (text_place text) places) one other h = inl refl
start-places program (one_place _ places) one other h = tt

no-number : (one other : Args) → StartAlike one other → HasNoNumber one → HasNoNumber other
unfolding name_text
no-number nothing nothing s h = tt
no-number (word text rest) (word like others) (inl e) h = subst (λ text. HasNoNumber (word text others)) e h
no-number (word text rest) (word like others) (inr e) h = subst (λ text. HasNoNumber (word text others)) (sym e.1) (refl, refl)
no-number (group inside rest) (group insides others) s h = tt
no-number _ _ s h = absurd s

no-word : (one other : Args) → StartAlike one other → one ≡ nothing → other ≡ nothing
no-word nothing nothing s h = refl
no-word (word text rest) (word like others) s h = absurd (cc)
no-word (group inside rest) (group insides others) s h = absurd (cc)
no-word _ _ s h = absurd s

stops-alike : (opts : Option (List Opt)) (ended : Bool) (one other : Args) → StartAlike one other → StopsOptions opts ended one → StopsOptions opts ended other
unfolding name_text
stops-alike opts true one other s h = tt
stops-alike None false one other s h = tt
stops-alike (Some opts) false nothing nothing s h = tt
stops-alike (Some opts) false (word text rest) (word like others) (inl e) h = subst (λ text. StopsOptions (Some opts) false (word text others)) e h
stops-alike (Some opts) false (word text rest) (word like others) (inr e) h = subst (λ text. StopsOptions (Some opts) false (word text others)) (sym e.1) (refl, refl)
stops-alike (Some opts) false (group inside rest) (group insides others) s h = tt
stops-alike (Some opts) false _ _ s h = absurd s

-- ---- programs

same-letters : (program : Prog) → (shape_of (newer program)).letters ≡ (shape_of program).letters
unfolding shape_of
same-letters Import = refl
same-letters program = refl

pub same-adds : (program : Prog) (options : List (List ℕ)) → adds_member (newer program) (letters_of (newer program) options) ≡ adds_member program (letters_of program options)
unfolding shape_of
same-adds Import options = refl
same-adds program options = refl

same-options : (program : Prog) (options : List (List ℕ)) (read : HasOptions program options) → (new : HasOptions (newer program) options) × (new.ended ≡ read.ended)
unfolding shape_of
same-options Import options read = (record { letters = read.letters; used = read.used; ended = read.ended; are_read = read.are_read; literal = read.literal; in_rule = read.in_rule; enough = read.enough }, refl)
same-options program options read = (read, refl)

rest-upgraded : (program : Prog) (rest : Tree) → IsRest program rest → IsRest (newer program) (upgraded rest)
rest-upgraded Exit End h = tt
rest-upgraded Exit (Command args) h = tt
rest-upgraded Exit (Node program options places rest) h = absurd h
rest-upgraded Loopwhilex End h = absurd h
rest-upgraded Loopwhilex (Command args) h = tt
rest-upgraded Loopwhilex (Node program options places rest) h = tt
rest-upgraded Forx End h = absurd h
rest-upgraded Forx (Command args) h = tt
rest-upgraded Forx (Node program options places rest) h = tt
rest-upgraded Forstdin End h = absurd h
rest-upgraded Forstdin (Command args) h = tt
rest-upgraded Forstdin (Node program options places rest) h = tt
rest-upgraded Forbacktickx End h = absurd h
rest-upgraded Forbacktickx (Command args) h = tt
rest-upgraded Forbacktickx (Node program options places rest) h = tt
rest-upgraded program rest h = tt

-- the places of an import are those of an importas, with its name twice
own-places : (program : Prog) (places : Places) (one other : Args) → HavePlaces places (shape_of program).places one → HavePlaces (upgraded_places places) (shape_of program).places other → HavePlaces (newer_places program (upgraded_places places)) (shape_of (newer program)).places other
unfolding shape_of
own-places Import (one_place (text_place text) unplaced) one other h k = (h.0, tt)
own-places Import (one_place (text_place text) _) one other h k = absurd h.1
own-places Import _ one other h k = absurd h
own-places program places one other h k = k

-- ---- trees

mutual
  formed-upgraded : (tree : Tree) → IsFormed tree → IsFormed (upgraded tree)
  formed-upgraded End h = tt
  formed-upgraded (Command args) h = tt
  formed-upgraded (Node program options places rest) h =
      let read = same-options program options h.0 in (
        read.0,
        subst (λ ended. StopsOptions (shape_of (newer program)).letters ended (written_places (newer_places program (upgraded_places places)) +++ written (upgraded rest))) (sym read.1)
            (subst (λ letters. StopsOptions letters h.0.ended (written_places (newer_places program (upgraded_places places)) +++ written (upgraded rest))) (sym (same-letters program))
            (stops-alike (shape_of program).letters h.0.ended (written_places places +++ written rest) (written_places (newer_places program (upgraded_places places)) +++ written (upgraded rest)) (start-places program places (written rest) (written (upgraded rest)) (start-upgraded rest)) h.1)),
        own-places program places (written rest) (written (upgraded rest)) h.2 (places-formed places (shape_of program).places (written rest) (written (upgraded rest)) (start-upgraded rest) h.2),
        rest-upgraded program rest h.3,
        formed-upgraded rest h.4,
      )

  places-formed : (places : Places) (kinds : List PlaceKind) (one other : Args) → StartAlike one other → HavePlaces places kinds one → HavePlaces (upgraded_places places) kinds other
  places-formed unplaced [] one other s h = tt
  places-formed unplaced (OptionalNumber ∷ []) one other s h = no-number one other s h
  places-formed unplaced (OptionalWord ∷ []) one other s h = no-word one other s h
  places-formed (one_place (text_place text) places) (Name ∷ kinds) one other s h = (h.0, places-formed places kinds one other s h.1)
  places-formed (one_place (text_place text) places) (Fixed ∷ kinds) one other s h = places-formed places kinds one other s h
  places-formed (one_place (text_place text) places) (OptionalWord ∷ kinds) one other s h = places-formed places kinds one other s h
  places-formed (one_place (text_place text) places) (OptionalNumber ∷ kinds) one other s h = (h.0, h.1, h.2, places-formed places kinds one other s h.3)
  places-formed (one_place (block_place block) places) (ProgramBlock ∷ kinds) one other s h = (formed-upgraded block h.0, places-formed places kinds one other s h.1)
  places-formed (one_place (values_place values) places) (ValueBlock ∷ kinds) one other s h = places-formed places kinds one other s h
  places-formed (one_place (names_place names) places) (NameBlock ∷ kinds) one other s h = (h.0, places-formed places kinds one other s h.1)
  places-formed (one_place (directives_place directives) places) (DirectiveBlock ∷ kinds) one other s h = (h.0, places-formed places kinds one other s h.1)
  places-formed _ _ one other s h = absurd h

-- ---- commands

tokens-upgraded : (tree : Tree) → HasTokens tree → HasTokens (upgraded tree)
tokens-upgraded End h = tt
tokens-upgraded (Command args) h = h
tokens-upgraded (Node program options places rest) h = tt

rest-commands : (program : Prog) (rest : Tree) → (HasCommands rest → HasCommands (upgraded rest)) → HasRestCommands program rest (HasCommands rest) → HasRestCommands (newer program) (upgraded rest) (HasCommands (upgraded rest))
rest-commands Exit rest f h = tokens-upgraded rest h
rest-commands program rest f h = f h

twice-commands : (program : Prog) (places : Places) → HaveCommands places → HaveCommands (newer_places program places)
twice-commands Import unplaced h = h
twice-commands Import (one_place (text_place text) places) h = h
twice-commands Import (one_place _ places) h = h
twice-commands program places h = h

mutual
  commands-upgraded : (tree : Tree) → HasCommands tree → HasCommands (upgraded tree)
  commands-upgraded End h = tt
  commands-upgraded (Command args) h = h
  commands-upgraded (Node program options places rest) h =
      (twice-commands program (upgraded_places places) (place-commands places h.0), rest-commands program rest (λ h. commands-upgraded rest h) h.1)

  place-commands : (places : Places) → HaveCommands places → HaveCommands (upgraded_places places)
  place-commands unplaced h = tt
  place-commands (one_place (block_place block) places) h = (commands-upgraded block h.0, place-commands places h.1)
  place-commands (one_place _ places) h = place-commands places h

pub well-formed-upgraded : (tree : Tree) → IsWellFormed tree → IsWellFormed (upgraded tree)
well-formed-upgraded tree h = record { formed = formed-upgraded tree h.formed; commands = commands-upgraded tree h.commands }
