-- What a program reads at the front of a spelled tree.
use Rattle.el_script.proofs.Vocabulary.{lt-ltb, position_or_len, Prog, Define, Importas, Multidefine, Elgetpositionals, name_text, Args, nothing, word, group, words, ◌+++◌, spelled, parts_of, Scope, scope_value, Opt, PlaceKind, Name, Fixed, ProgramBlock, ValueBlock, NameBlock, DirectiveBlock, OptionalNumber, OptionalWord, Strictness, Lenient, Warning, Refusing, Letter, LettersRead, shape_of, Operand, Program, Directive, Taken, Front, Whole, is_number_text, options_of, texts_of, names_of, is_directive, front_of, Places, unplaced, one_place, text_place, block_place, values_place, names_place, directives_place, Directives, undirected, directed, written, written_places, written_directives, letters_in, letters_of, HasOptions, StopsOptions, HasNoNumber, HavePlaces, AreDirectives, Member, MeetsAll, keeps_one, PlacesKeep, DirectivesKeep, the_value, scope_nil, scope_literal, literal_value, named, name_literal}
use Rattle.std.proofs.Common.{◌≡◌, ℕ, zero, suc, ◌<◌, ◌≤◌, Bool, true, false, ◌||◌, cond, if◌then◌else◌, List, [], ◌∷◌, ◌++◌, map, take, drop, length, Option, Some, None, refl, sym, ap, ◌∙◌, subst, arith, le_refl, length-append}
use Rattle.el_blocks.specs.Block.{is_empty_word, block_length, unquoted}
use Rattle.el_options.specs.Reading.{StopsAt}
use Rattle.el_options.specs.Rules.{has_wrong_use}
use Rattle.el_options.specs.Shapes.{Shape, is_number_fault}
use Rattle.el_options.specs.Fronts.{Text, Listed, Directed, Lacking, DirectiveName, front_map, and_read, Cut, loose_count, with_loose, block_by, block_front, Placed, placed, none_placed, place_front, with_operand, places_front, with_letters, behind_letters, front_by, front_with, directive_of, no_directives, directive_front, directives_within, directives_front}
use Rattle.el_options.proofs.Places.{read-back}
use Rattle.el_options.proofs.Keeping.{no-wrong-use, no-bad-number}
use Rattle.el_tree.proofs.OneWord.{fixed_single}
use Rattle.el_tree.proofs.InScope.{single_next, names_words, spaced, group_words, scope_options, length_behind}
use Rattle.el_check.specs.Operands.{operands_in, directives_in}

-- ---- blocks

before_empty : (ws more : List (List ℕ)) → position_or_len is_empty_word (spaced ws ++ [] ∷ more) ≡ length ws
before_empty [] more = refl
before_empty (w ∷ ws) more = let next = before_empty ws more in omega arith

length_spaced : (ws : List (List ℕ)) → length (spaced ws) ≡ length ws
length_spaced [] = refl
length_spaced (w ∷ ws) = let next = length_spaced ws in omega arith

take_front : (ws more : List (List ℕ)) → take (length ws) (spaced ws ++ more) ≡ spaced ws
take_front [] more = refl
take_front (w ∷ ws) more = ap (λ (r : List (List ℕ)). (32 ∷ w) ∷ r) (take_front ws more)

drop_front : (ws more : List (List ℕ)) → drop (suc (length ws)) (spaced ws ++ [] ∷ more) ≡ more
drop_front [] more = refl
drop_front (w ∷ ws) more = drop_front ws more

block_ends : (ws more : List (List ℕ)) → block_length (spaced ws ++ [] ∷ more) ≡ Some (length ws)
block_ends ws more =
    let within : position_or_len is_empty_word (spaced ws ++ [] ∷ more) < length (spaced ws ++ [] ∷ more) = omega (arith, before_empty ws more, length_spaced ws, length-append (spaced ws) ([] ∷ more)) in
    ap (λ b. cond b (Some (position_or_len is_empty_word (spaced ws ++ [] ∷ more))) None) (lt-ltb _ _ within) ∙ ap Some (before_empty ws more)

none_loose : (ws : List (List ℕ)) → loose_count (spaced ws) ≡ 0
none_loose [] = refl
none_loose (w ∷ ws) = let next = none_loose ws in omega arith

unquoted_spaced : (ws : List (List ℕ)) → map unquoted (spaced ws) ≡ ws
unquoted_spaced [] = refl
unquoted_spaced (w ∷ ws) = ap (λ (r : List (List ℕ)). w ∷ r) (unquoted_spaced ws)

no_warnings : {A : Type 0} (strict : Strictness) (read : A) → with_loose strict 0 read ≡ Whole 0 read
no_warnings Lenient read = refl
no_warnings Warning read = refl
no_warnings Refusing read = refl

abbrev cut_of : (block rest : List (List ℕ)) → Cut
cut_of block rest = record { block = block; rest = rest }

block_read : (strict : Strictness) (ws more : List (List ℕ)) → block_front strict (spaced ws ++ [] ∷ more) ≡ Whole 0 (cut_of ws more)
block_read strict ws more =
    ap (block_by strict (spaced ws ++ [] ∷ more)) (block_ends ws more)
    ∙ ap (λ (front : List (List ℕ)). with_loose strict (loose_count front) (cut_of (map unquoted front) (drop (suc (length ws)) (spaced ws ++ [] ∷ more)))) (take_front ws ([] ∷ more))
    ∙ ap (λ (behind : List (List ℕ)). with_loose strict (loose_count (spaced ws)) (cut_of (map unquoted (spaced ws)) behind)) (drop_front ws more)
    ∙ ap (λ (block : List (List ℕ)). with_loose strict (loose_count (spaced ws)) (cut_of block more)) (unquoted_spaced ws)
    ∙ ap (λ n. with_loose strict n (cut_of ws more)) (none_loose ws)
    ∙ no_warnings strict (cut_of ws more)

-- a block at the place of a group
group_read : (strict : Strictness) (scope : Scope) (inside rest : Args)
    → block_front strict (scope_value scope (spelled 0 (group inside rest))) ≡ Whole 0 (cut_of (scope_value scope (spelled 0 inside)) (scope_value scope (spelled 0 rest)))
group_read strict scope inside rest = ap (block_front strict) (group_words scope inside rest) ∙ block_read strict (scope_value scope (spelled 0 inside)) (scope_value scope (spelled 0 rest))

-- ---- options

stops_at : (opts : List Opt) (scope : Scope) (after : Args) → StopsOptions (Some opts) false after → StopsAt opts (scope_value scope (spelled 0 after))
stops_at opts scope nothing h = subst (StopsAt opts) (sym (scope_nil scope)) tt
stops_at opts scope (word text rest) h = subst (StopsAt opts) (sym (scope_literal scope text (spelled 0 rest) h.1)) h.0
stops_at opts scope (group inside rest) h = subst (StopsAt opts) (sym (group_words scope inside rest)) (at_group (scope_value scope (spelled 0 inside)))
  where
    at_group : (ws : List (List ℕ)) → StopsAt opts (spaced ws ++ [] ∷ scope_value scope (spelled 0 rest))
    at_group [] = refl
    at_group (w ∷ ws) = refl

options_spelled : (opts : Option (List Opt)) (scope : Scope) (options : List (List ℕ)) (after : Args) (letters : List Letter) (used : ℕ) (ended : Bool) → options_of opts options ≡ LettersRead letters used [] ended → StopsOptions opts ended after
    → options_of opts (options ++ scope_value scope (spelled 0 after)) ≡ LettersRead letters used (scope_value scope (spelled 0 after)) ended
options_spelled None scope options after letters used ended e h =
    let none : options ≡ [] = cc in ap (λ (r : List (List ℕ)). LettersRead [] 1 (r ++ scope_value scope (spelled 0 after)) true) none ∙ cc
options_spelled (Some opts) scope options after letters used true e h = read-back opts 1 options (scope_value scope (spelled 0 after)) letters used true e (λ f. absurd (cc))
options_spelled (Some opts) scope options after letters used false e h = read-back opts 1 options (scope_value scope (spelled 0 after)) letters used false e (λ f. stops_at opts scope after h)

pub letters_read : (program : Prog) (options : List (List ℕ)) (read : HasOptions program options) → letters_of program options ≡ read.letters
letters_read program options read = ap letters_in read.are_read

-- ---- places, where directives are read so

abbrev taken_of : List Operand → (rest : List (List ℕ)) → Taken
taken_of operands rest = record { letters = []; operands = operands; rest = rest }

abbrev NeedsReader : List PlaceKind → Type 0
NeedsReader [] = ⊥
NeedsReader (DirectiveBlock ∷ kinds) = Unit {0}
NeedsReader (_ ∷ kinds) = NeedsReader kinds

-- directives are read from their spelling
record ReadsFronts (direct : List (List ℕ) → Front (List Directive)) (scope : Scope) (members : List Member) : Type 0 where
  pub by : (directives : Directives) → AreDirectives directives → DirectivesKeep directives members → direct (scope_value scope (spelled 0 (written_directives directives))) ≡ Whole 0 (directives_in scope directives)

module _ (direct : List (List ℕ) → Front (List Directive)) (strict : Strictness) (scope : Scope) (members : List Member) where
  -- a place, and then the others
  place_then : (kind : PlaceKind) (kinds : List PlaceKind) (ws : List (List ℕ)) (here : Placed) (operands : List Operand) (rest : List (List ℕ)) → place_front direct strict kind ws ≡ Whole 0 here
      → places_front direct strict kinds here.rest ≡ Whole 0 (taken_of operands rest) → places_front direct strict (kind ∷ kinds) ws ≡ Whole 0 (with_operand here.operand (taken_of operands rest))
  place_then kind kinds ws here operands rest one others =
      ap (λ front. and_read front (λ here. front_map (with_operand here.operand) (places_front direct strict kinds here.rest))) one
      ∙ ap (λ front. and_read (Whole 0 here) (λ _. front_map (with_operand here.operand) front)) others

  -- no number stands next
  no_number : (after : Args) → HasNoNumber after → places_front direct strict (OptionalNumber ∷ []) (scope_value scope (spelled 0 after)) ≡ Whole 0 (taken_of [] (scope_value scope (spelled 0 after)))
  no_number nothing h = subst (λ ws. places_front direct strict (OptionalNumber ∷ []) ws ≡ Whole 0 (taken_of [] ws)) (sym (scope_nil scope)) refl
  no_number (word text rest) h =
      subst (λ ws. places_front direct strict (OptionalNumber ∷ []) ws ≡ Whole 0 (taken_of [] ws)) (sym (scope_literal scope text (spelled 0 rest) h.1))
      (place_then OptionalNumber [] (text ∷ scope_value scope (spelled 0 rest)) (none_placed (text ∷ scope_value scope (spelled 0 rest))) [] (text ∷ scope_value scope (spelled 0 rest))
      (ap (λ (b : Bool). Whole 0 (if b then placed (Text text) (scope_value scope (spelled 0 rest)) else none_placed (text ∷ scope_value scope (spelled 0 rest)))) h.0) refl)
  no_number (group inside rest) h =
      subst (λ ws. places_front direct strict (OptionalNumber ∷ []) ws ≡ Whole 0 (taken_of [] ws)) (sym (group_words scope inside rest)) (at_group (scope_value scope (spelled 0 inside)))
    where
      at_group : (ws : List (List ℕ)) → places_front direct strict (OptionalNumber ∷ []) (spaced ws ++ [] ∷ scope_value scope (spelled 0 rest)) ≡ Whole 0 (taken_of [] (spaced ws ++ [] ∷ scope_value scope (spelled 0 rest)))
      at_group [] = refl
      at_group (w ∷ ws) = refl

  number_case : (text value : List ℕ) (behind : List (List ℕ)) → is_number_text text ≡ true → value ≡ text → place_front direct strict OptionalNumber (value ∷ behind) ≡ Whole 0 (placed (Text value) behind)
  number_case text value behind h e = ap (λ (b : Bool). Whole 0 (if b then placed (Text value) behind else none_placed (value ∷ behind))) (ap is_number_text e ∙ h)

  -- a single word, where its place reads one
  word_place : (kind : PlaceKind) (kinds : List PlaceKind) (text : List ℕ) (after : Args) (operands : List Operand) (rest : List (List ℕ)) → MeetsAll scope members → keeps_one false members (parts_of text) ≡ true
      → place_front direct strict kind (the_value scope text ∷ scope_value scope (spelled 0 after)) ≡ Whole 0 (placed (Text (the_value scope text)) (scope_value scope (spelled 0 after)))
      → places_front direct strict kinds (scope_value scope (spelled 0 after)) ≡ Whole 0 (taken_of operands rest)
      → places_front direct strict (kind ∷ kinds) (scope_value scope (spelled 0 (word text after))) ≡ Whole 0 (taken_of (Text (the_value scope text) ∷ operands) rest)
  word_place kind kinds text after operands rest m k one others =
      ap (places_front direct strict (kind ∷ kinds)) (single_next scope text (spelled 0 after) (fixed_single scope members text m k))
      ∙ place_then kind kinds (the_value scope text ∷ scope_value scope (spelled 0 after)) (placed (Text (the_value scope text)) (scope_value scope (spelled 0 after))) operands rest one others

  -- a block, where its place reads one
  block_then : (kind : PlaceKind) (kinds : List PlaceKind) (inside after : Args) (operand : Operand) (operands : List Operand) (rest : List (List ℕ))
      → place_front direct strict kind (scope_value scope (spelled 0 (group inside after))) ≡ Whole 0 (placed operand (scope_value scope (spelled 0 after)))
      → places_front direct strict kinds (scope_value scope (spelled 0 after)) ≡ Whole 0 (taken_of operands rest)
      → places_front direct strict (kind ∷ kinds) (scope_value scope (spelled 0 (group inside after))) ≡ Whole 0 (taken_of (operand ∷ operands) rest)
  block_then kind kinds inside after operand operands rest one others =
      place_then kind kinds (scope_value scope (spelled 0 (group inside after))) (placed operand (scope_value scope (spelled 0 after))) operands rest one others

  places_by : (places : Places) (kinds : List PlaceKind) (after : Args) → (NeedsReader kinds → ReadsFronts direct scope members) → MeetsAll scope members → HavePlaces places kinds after → PlacesKeep places members
      → places_front direct strict kinds (scope_value scope (spelled 0 (written_places places +++ after))) ≡ Whole 0 (taken_of (operands_in scope places) (scope_value scope (spelled 0 after)))
  places_by unplaced [] after r m h k = refl
  places_by unplaced (OptionalNumber ∷ []) after r m h k = no_number after h
  places_by unplaced (OptionalWord ∷ []) after r m h k =
      subst (λ a. places_front direct strict (OptionalWord ∷ []) (scope_value scope (spelled 0 a)) ≡ Whole 0 (taken_of [] (scope_value scope (spelled 0 a)))) (sym h) (subst (λ ws. places_front direct strict (OptionalWord ∷ []) ws ≡ Whole 0 (taken_of [] ws)) (sym (scope_nil scope)) refl)
  places_by (one_place (text_place text) places) (Name ∷ kinds) after r m h k =
      word_place Name kinds text (written_places places +++ after) (operands_in scope places) (scope_value scope (spelled 0 after)) m k.0 refl (places_by places kinds after r m h.1 k.1)
  places_by (one_place (text_place text) places) (Fixed ∷ kinds) after r m h k =
      word_place Fixed kinds text (written_places places +++ after) (operands_in scope places) (scope_value scope (spelled 0 after)) m k.0 refl (places_by places kinds after r m h k.1)
  places_by (one_place (text_place text) places) (OptionalWord ∷ kinds) after r m h k =
      word_place OptionalWord kinds text (written_places places +++ after) (operands_in scope places) (scope_value scope (spelled 0 after)) m k.0 refl (places_by places kinds after r m h k.1)
  places_by (one_place (text_place text) places) (OptionalNumber ∷ kinds) after r m h k =
      word_place OptionalNumber kinds text (written_places places +++ after) (operands_in scope places) (scope_value scope (spelled 0 after)) m k.0
      (number_case text (the_value scope text) (scope_value scope (spelled 0 (written_places places +++ after))) h.0 (literal_value scope text h.2)) (places_by places kinds after r m h.3 k.1)
  places_by (one_place (block_place block) places) (ProgramBlock ∷ kinds) after r m h k =
      block_then ProgramBlock kinds (written block) (written_places places +++ after) (Program (scope_value scope (spelled 0 (written block)))) (operands_in scope places) (scope_value scope (spelled 0 after))
      (ap (front_map (λ (cut : Cut). placed (Program cut.block) cut.rest)) (group_read strict scope (written block) (written_places places +++ after))) (places_by places kinds after r m h.1 k.1)
  places_by (one_place (values_place values) places) (ValueBlock ∷ kinds) after r m h k =
      block_then ValueBlock kinds values (written_places places +++ after) (Listed (scope_value scope (spelled 0 values))) (operands_in scope places) (scope_value scope (spelled 0 after))
      (ap (front_map (λ (cut : Cut). placed (Listed cut.block) cut.rest)) (group_read strict scope values (written_places places +++ after))) (places_by places kinds after r m h k)
  places_by (one_place (names_place names) places) (NameBlock ∷ kinds) after r m h k =
      block_then NameBlock kinds (words names) (written_places places +++ after) (Listed names) (operands_in scope places) (scope_value scope (spelled 0 after))
      (ap (front_map (λ (cut : Cut). placed (Listed cut.block) cut.rest)) (group_read strict scope (words names) (written_places places +++ after))
      ∙ ap (λ (listed : List (List ℕ)). Whole 0 (placed (Listed listed) (scope_value scope (spelled 0 (written_places places +++ after))))) (names_words scope names h.0))
      (places_by places kinds after r m h.1 k)
  places_by (one_place (directives_place directives) places) (DirectiveBlock ∷ kinds) after r m h k =
      block_then DirectiveBlock kinds (written_directives directives) (written_places places +++ after) (Directed (directives_in scope directives)) (operands_in scope places) (scope_value scope (spelled 0 after))
      (ap (λ front. and_read front (λ cut. front_map (λ found. placed (Directed found) cut.rest) (direct cut.block))) (group_read strict scope (written_directives directives) (written_places places +++ after))
      ∙ ap (λ front. and_read (Whole 0 (cut_of (scope_value scope (spelled 0 (written_directives directives))) (scope_value scope (spelled 0 (written_places places +++ after))))) (λ cut. front_map (λ found. placed (Directed found) cut.rest) front)) ((r tt).by directives h.0 k.0))
      (places_by places kinds after (λ _. r tt) m h.1 k.1)
  places_by _ _ after r m h k = absurd h

  -- the whole front of a program or a directive
  front_by_places : (program : Prog) (options : List (List ℕ)) (places : Places) (after : Args) (read : HasOptions program options) → (NeedsReader (shape_of program).places → ReadsFronts direct scope members) → MeetsAll scope members
      → StopsOptions (shape_of program).letters read.ended (written_places places +++ after) → HavePlaces places (shape_of program).places after → PlacesKeep places members
      → front_with direct strict (shape_of program) (scope_value scope (spelled 0 (words options +++ (written_places places +++ after))))
      ≡ Whole 0 (record { letters = read.letters; operands = operands_in scope places; rest = scope_value scope (spelled 0 after) })
  front_by_places program options places after read r m stops h k =
      ap (front_with direct strict shape) (scope_options scope options (written_places places +++ after) read.literal)
      ∙ ap (λ reading. front_by shape reading (places_front direct strict shape.places)) (options_spelled shape.letters scope options (written_places places +++ after) read.letters read.used read.ended read.are_read stops)
      ∙ ap (λ b. behind_letters b (is_number_fault shape read.letters) read.letters at_places) (ap (λ b. b || has_wrong_use shape.groups shape.rule read.letters) read.enough ∙ no-wrong-use shape.groups shape.rule read.letters read.in_rule)
      ∙ ap (λ b. behind_letters false b read.letters at_places) (no-bad-number shape.groups shape.rule read.letters read.in_rule)
      ∙ ap (front_map (with_letters read.letters)) (places_by places shape.places after r m h k)
    where
      shape : Shape
      shape = shape_of program

      at_places : Front Taken
      at_places = places_front direct strict shape.places (scope_value scope (spelled 0 (written_places places +++ after)))

-- ---- directives

no_reader : (program : Prog) → is_directive program ≡ true → NeedsReader (shape_of program).places → ⊥
unfolding shape_of
no_reader Define e h = h
no_reader Importas e h = h
no_reader Multidefine e h = h
no_reader Elgetpositionals e h = h
no_reader _ e h = cc

directives_spelled : (directives : Directives) (most : ℕ) (strict : Strictness) (scope : Scope) (members : List Member) → length (scope_value scope (spelled 0 (written_directives directives))) ≤ most → MeetsAll scope members → AreDirectives directives → DirectivesKeep directives members
    → directives_within most strict (scope_value scope (spelled 0 (written_directives directives))) ≡ Whole 0 (directives_in scope directives)
directives_spelled undirected most strict scope members le m h k = ap (directives_within most strict) (scope_nil scope) ∙ empty most
  where
    empty : (most : ℕ) → directives_within most strict [] ≡ Whole 0 []
    empty zero = refl
    empty (suc most) = refl
directives_spelled (directed program options places directives) zero strict scope members le m h k =
    absurd (let e = ap length (scope_literal scope (name_text program) (spelled 0 (words options +++ (written_places places +++ written_directives directives))) (name_literal program)) in omega arith)
directives_spelled (directed program options places directives) (suc most) strict scope members le m h k =
    ap (directives_within (suc most) strict) (scope_literal scope (name_text program) (spelled 0 (words options +++ (written_places places +++ written_directives directives))) (name_literal program))
    ∙ ap (λ o. directive_front strict o all (directives_within most strict)) (named program)
    ∙ ap (λ (b : Bool). if b then (and_read (front_with no_directives strict (shape_of program) all) next) else Lacking 0 DirectiveName) h.1
    ∙ ap (λ (front : Front Taken). and_read front next) (front_by_places no_directives strict scope members program options places (written_directives directives) h.0 (λ n. absurd (no_reader program h.1 n)) m h.2 h.3 k.0)
    ∙ ap (λ (front : Front (List Directive)). and_read (Whole 0 here) (λ (taken : Taken). front_map (λ (found : List Directive). directive_of program here ∷ found) front)) (directives_spelled directives most strict scope members shorter m h.4 k.1)
    ∙ ap (λ letters. Whole 0 (directive_with letters ∷ directives_in scope directives)) (sym (letters_read program options h.0))
  where
    all : List (List ℕ)
    all = scope_value scope (spelled 0 (words options +++ (written_places places +++ written_directives directives)))

    here : Taken
    here = record { letters = h.0.letters; operands = operands_in scope places; rest = scope_value scope (spelled 0 (written_directives directives)) }

    next : Taken → Front (List Directive)
    next taken = front_map (λ (found : List Directive). directive_of program taken ∷ found) (directives_within most strict taken.rest)

    directive_with : List Letter → Directive
    directive_with letters = record { program = program; letters = letters; texts = texts_of (operands_in scope places); names = names_of (operands_in scope places) }

    shorter : length (scope_value scope (spelled 0 (written_directives directives))) ≤ most
    shorter =
        let e = ap length (scope_literal scope (name_text program) (spelled 0 (words options +++ (written_places places +++ written_directives directives))) (name_literal program)) in
        let a = length_behind scope (words options) (written_places places +++ written_directives directives) in
        let b = length_behind scope (written_places places) (written_directives directives) in
        omega arith

-- ---- the whole front

pub front_spelled : (program : Prog) (options : List (List ℕ)) (places : Places) (rest : Args) (read : HasOptions program options) (strict : Strictness) (scope : Scope) (members : List Member) → MeetsAll scope members
    → StopsOptions (shape_of program).letters read.ended (written_places places +++ rest) → HavePlaces places (shape_of program).places rest → PlacesKeep places members
    → front_of strict program (scope_value scope (spelled 0 (words options +++ (written_places places +++ rest)))) ≡ Whole 0 (record { letters = read.letters; operands = operands_in scope places; rest = scope_value scope (spelled 0 rest) })
unfolding front_of
front_spelled program options places rest read strict scope members m stops h k =
    front_by_places (directives_front strict) strict scope members program options places rest read
    (λ _. record { by = λ directives d k. directives_spelled directives (length (scope_value scope (spelled 0 (written_directives directives)))) strict scope members (le_refl _) m d k })
    m stops h k
