-- Which trees are well formed: they are what a reader of their tokens reads.
use Rattle.std.specs.Prelude.{◌≡◌, true, false, List, [], ◌∷◌, is_some, None}
use Rattle.el_words.specs.declared.prog.Prog.{Prog}
use Rattle.el_words.specs.declared.prog.Prog.TheVariants.{Exit, Loopwhilex, Forx, Forstdin, Forbacktickx}
use Rattle.el_words.specs.Prog.{program_named}
use Rattle.el_words.specs.Number.{number_of}
use Rattle.el_words.specs.Args.{Args, nothing, word, group, ◌+++◌}
use Rattle.el_options.specs.declared.place.PlaceKind.{PlaceKind}
use Rattle.el_options.specs.declared.place.PlaceKind.TheVariants.{Name, Fixed, ProgramBlock, ValueBlock, NameBlock, DirectiveBlock, OptionalNumber, OptionalWord}
use Rattle.el_options.specs.Shapes.{shape_of}
use Rattle.el_options.specs.Fronts.{is_number_text, is_directive}
use Rattle.el_tree.specs.Trees.{Tree, End, Command, Node, Places, unplaced, one_place, text_place, block_place, values_place, names_place, directives_place, Directives, undirected, directed, written, written_places, written_directives}
use Rattle.el_tree.specs.OptionWords.{is_literal, are_literal, HasOptions, StopsOptions}

-- ---- places and rests

-- the next token isn't the word of a number, whatever the values are
abbrev pub HasNoNumber : (after : Args) → Type 0
HasNoNumber nothing = Unit {0}
HasNoNumber (group inside rest) = Unit {0}
HasNoNumber (word text rest) = (is_number_text text ≡ false) × (is_literal text ≡ true)

-- there is something left
abbrev pub IsThere : Tree → Type 0
IsThere End = ⊥
IsThere _ = Unit {0}

-- behind exit stand no words, or any tokens
abbrev pub IsIgnored : Tree → Type 0
IsIgnored (Node program options places rest) = ⊥
IsIgnored _ = Unit {0}

-- what a program's rest must be: a loop has a body, and behind exit no program is read
abbrev pub IsRest : Prog → (rest : Tree) → Type 0
IsRest Exit rest = IsIgnored rest
IsRest Loopwhilex rest = IsThere rest
IsRest Forx rest = IsThere rest
IsRest Forstdin rest = IsThere rest
IsRest Forbacktickx rest = IsThere rest
IsRest _ rest = Unit {0}

-- ---- trees

-- the programs have their options, places and rests, whatever the commands are
abbrev mutual
  -- each program has its options, then its places, and then its rest
  pub IsFormed : Tree → Type 0
  IsFormed End = Unit {0}
  IsFormed (Command args) = Unit {0}
  IsFormed (Node program options places rest) =
      (read : HasOptions program options)
      × StopsOptions (shape_of program).letters read.ended (written_places places +++ written rest)
      × HavePlaces places (shape_of program).places (written rest)
      × IsRest program rest
      × IsFormed rest

  -- the places are of these kinds, before what is written behind them
  pub HavePlaces : Places → List PlaceKind → (after : Args) → Type 0
  HavePlaces unplaced [] after = Unit {0}
  HavePlaces unplaced (OptionalNumber ∷ []) after = HasNoNumber after
  HavePlaces unplaced (OptionalWord ∷ []) after = after ≡ nothing
  HavePlaces (one_place place places) [] after = ⊥
  HavePlaces (one_place (text_place text) places) (Name ∷ kinds) after = (is_literal text ≡ true) × HavePlaces places kinds after
  HavePlaces (one_place (text_place text) places) (Fixed ∷ kinds) after = HavePlaces places kinds after
  HavePlaces (one_place (text_place text) places) (OptionalWord ∷ kinds) after = HavePlaces places kinds after
  HavePlaces (one_place (text_place text) places) (OptionalNumber ∷ kinds) after = (is_number_text text ≡ true) × (is_some (number_of text) ≡ true) × (is_literal text ≡ true) × HavePlaces places kinds after
  HavePlaces (one_place (block_place block) places) (ProgramBlock ∷ kinds) after = IsFormed block × HavePlaces places kinds after
  HavePlaces (one_place (values_place values) places) (ValueBlock ∷ kinds) after = HavePlaces places kinds after
  HavePlaces (one_place (names_place names) places) (NameBlock ∷ kinds) after = (are_literal names ≡ true) × HavePlaces places kinds after
  HavePlaces (one_place (directives_place directives) places) (DirectiveBlock ∷ kinds) after = AreDirectives directives × HavePlaces places kinds after
  HavePlaces _ _ after = ⊥

  -- each directive has its options, and then its places
  pub AreDirectives : Directives → Type 0
  AreDirectives undirected = Unit {0}
  AreDirectives (directed program options places directives) =
      (read : HasOptions program options)
      × (is_directive program ≡ true)
      × StopsOptions (shape_of program).letters read.ended (written_places places +++ written_directives directives)
      × HavePlaces places (shape_of program).places (written_directives directives)
      × AreDirectives directives

-- ---- commands

-- a command has a first token, which names no program
abbrev pub IsCommand : Args → Type 0
IsCommand nothing = ⊥
IsCommand (group inside rest) = Unit {0}
IsCommand (word text rest) = program_named text ≡ None

-- there are tokens, where this is a command
abbrev pub HasTokens : Tree → Type 0
HasTokens (Command nothing) = ⊥
HasTokens _ = Unit {0}

-- the rest of a program has its commands; behind exit a command may begin with any token
abbrev pub HasRestCommands : Prog → (rest : Tree) → (has_commands : Type 0) → Type 0
HasRestCommands Exit rest has_commands = HasTokens rest
HasRestCommands _ rest has_commands = has_commands

-- each command has a first token, which names no program
abbrev mutual
  -- the command in which a chain ends, and those in the program blocks of its programs
  pub HasCommands : Tree → Type 0
  HasCommands End = Unit {0}
  HasCommands (Command args) = IsCommand args
  HasCommands (Node program options places rest) = HaveCommands places × HasRestCommands program rest (HasCommands rest)

  -- in the program blocks among the places
  pub HaveCommands : Places → Type 0
  HaveCommands unplaced = Unit {0}
  HaveCommands (one_place (block_place block) places) = HasCommands block × HaveCommands places
  HaveCommands (one_place _ places) = HaveCommands places

-- a tree that is formed, and whose commands are commands
pub record IsWellFormed (tree : Tree) : Type 0 where
  pub formed : IsFormed tree
  pub commands : HasCommands tree
