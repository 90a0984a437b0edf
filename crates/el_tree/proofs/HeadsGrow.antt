-- One more token leaves a program or directive right so far, or finishes it.
use Rattle.std.proofs.Common.{◌≡◌, ℕ, zero, suc, ◌+◌, Bool, true, false, not, ◌&&◌, if◌then◌else◌, List, [], ◌∷◌, ◌++◌, append-nil, map, length, take, drop, Option, Some, None, refl, sym, ap, ap₂, ◌∙◌, subst, true≢false}
use Rattle.std.specs.Prelude.{is_none, ◌==◌, ◌||◌, option_map}
use Rattle.std.specs.Str.{bytes_eq}
use Rattle.std.proofs.lemmas.Bool.Decides.{Decides-eqb}
use Rattle.std.proofs.lemmas.Slice.Eq.{bytes_eq-Decides}
use Rattle.std.proofs.lemmas.Bool.{not-false, and_from, and_right}
use Rattle.el_words.specs.declared.prog.Prog.{Prog}
use Rattle.el_words.specs.declared.prog.Prog.TheVariants.{Shift, Exit}
use Rattle.el_words.specs.Prog.{name_text}
use Rattle.el_words.specs.Args.{Args, nothing, word, ◌+++◌, words}
use Rattle.el_words.specs.Number.{number_of}
use Rattle.el_options.specs.declared.table.Opt.{Opt}
use Rattle.el_options.specs.declared.place.PlaceKind.{PlaceKind}
use Rattle.el_options.specs.declared.place.PlaceKind.TheVariants.{Name, Fixed, ProgramBlock, ValueBlock, NameBlock, DirectiveBlock, OptionalNumber, OptionalWord}
use Rattle.el_options.specs.Reading.{Letter, flag, with_value, LettersRead, Flags, Last, Bad, Shown, Plain, Dashes, Letters, cluster_of, shown, shown_behind_dash, in_front, read_from}
use Rattle.el_options.specs.Rules.{Rule, AnyText, keeps_rule, keep_rules, is_wrong_use, is_bad_number}
use Rattle.el_options.specs.Shapes.{shape_of, lacks_letter}
use Rattle.el_options.specs.Fronts.{options_of, is_number_text, is_directive}
use Rattle.el_tree.specs.declared.fault.PlacedFault.{PlacedFault}
use Rattle.el_tree.specs.declared.fault.PlacedFault.TheVariants.{At, Before}
use Rattle.el_tree.specs.declared.fault.Fault.TheVariants.{OptionNotLiteral, BadNumber, BadOption}
use Rattle.el_tree.specs.Trees.{Places, unplaced, one_place, text_place, block_place, values_place, names_place, directives_place, written_places}
use Rattle.el_tree.specs.Lists.{◌with_places◌}
use Rattle.el_tree.specs.OptionWords.{is_literal, are_literal, HasOptions, StopsOptions, letters_in}
use Rattle.el_tree.specs.WellFormed.{HavePlaces, HaveCommands}
use Rattle.el_tree.specs.Marks.{Member}
use Rattle.el_tree.specs.Accepted.{PlacesKeep}
use Rattle.el_tree.specs.Beginnings.{Head, TestScope, WhereTested, KeepPlaces, an_open, count, kinds_left, waiting_words, written_head, Waits, IsHead, IsFinished}
use Rattle.el_tree.specs.Faults.{Next, Over, Text, Group, ◌or_else◌, where_true, directive_fault, scope_fault, place_fault, kind_fault, options_fault, value_fault, shown_by, unended_fault, waiting_letter, ends_in, is_unplaced, head_fault}
use Rattle.el_tree.specs.Steps.{Owned, Own, Foreign, with_place, text_at, option_at, text_for, reads_options}
use Rattle.el_tree.proofs.Facts.{never-some, never-word, never-group, all-append, not-true, or-left, or-right, some-none, plus-nothing, plus-assoc, words-plus, places-plus}
use Rattle.el_tree.proofs.HeadReadings.{read-on, head-of, dashes-read, flags-read, last-read, value-read-on}
use Rattle.el_tree.proofs.Finished.{Finishes, left-over, bare-group-by, bare-over-by, next-args, IsForeign, with-enough, all-read, there-placed, stops-same}
use Rattle.el_subst.specs.Parts.{parts_of}
use Rattle.el_tree.proofs.TreeReadings.{place-tested, literal-kept, NoOptional, directive-kinds}

-- ---- owned tokens

same-own : {one other : Head} → Own one ≡ Own other → one ≡ other
same-own same = cc

-- ---- places

-- places that are the first ones, and more that are the next ones, are the first ones
pub have-more : (places more : Places) (kinds : List PlaceKind) → HavePlaces places (take (count places) kinds) nothing → HavePlaces more (take (count more) (drop (count places) kinds)) nothing
    → HavePlaces (places with_places more) (take (count (places with_places more)) kinds) nothing
have-more unplaced more kinds have next = next
have-more (one_place (text_place text) places) more (Name ∷ kinds) have next = (have.0, have-more places more kinds have.1 next)
have-more (one_place (text_place text) places) more (Fixed ∷ kinds) have next = have-more places more kinds have next
have-more (one_place (text_place text) places) more (OptionalWord ∷ kinds) have next = have-more places more kinds have next
have-more (one_place (text_place text) places) more (OptionalNumber ∷ kinds) have next = (have.0, have.1, have.2, have-more places more kinds have.3 next)
have-more (one_place (block_place block) places) more (ProgramBlock ∷ kinds) have next = (have.0, have-more places more kinds have.1 next)
have-more (one_place (values_place values) places) more (ValueBlock ∷ kinds) have next = have-more places more kinds have next
have-more (one_place (names_place names) places) more (NameBlock ∷ kinds) have next = (have.0, have-more places more kinds have.1 next)
have-more (one_place (directives_place directives) places) more (DirectiveBlock ∷ kinds) have next = (have.0, have-more places more kinds have.1 next)
have-more places more [] have next = absurd have
have-more _ more _ have next = absurd have

pub commands-more : (places more : Places) → HaveCommands places → HaveCommands more → HaveCommands (places with_places more)
commands-more unplaced more have next = next
commands-more (one_place (block_place block) places) more have next = (have.0, commands-more places more have.1 next)
commands-more (one_place _ places) more have next = commands-more places more have next

members-keep-more : (places more : Places) (members : List Member) → PlacesKeep places members → PlacesKeep more members → PlacesKeep (places with_places more) members
members-keep-more unplaced more members keep next = next
members-keep-more (one_place (values_place values) places) more members keep next = members-keep-more places more members keep next
members-keep-more (one_place (names_place names) places) more members keep next = members-keep-more places more members keep next
members-keep-more (one_place _ places) more members keep next = (keep.0, members-keep-more places more members keep.1 next)

-- what follows of what keeps its words, where they are tested
pub where-tested : (scope : TestScope) (one other keeps : List Member → Type 0) → ((members : List Member) → one members → other members → keeps members) → WhereTested scope one → WhereTested scope other → WhereTested scope keeps
where-tested None one other keeps gives keep next = tt
where-tested (Some members) one other keeps gives keep next = gives members keep next

pub always-keeps : (scope : TestScope) (keeps : List Member → Type 0) → ((members : List Member) → keeps members) → WhereTested scope keeps
always-keeps None keeps keep = tt
always-keeps (Some members) keeps keep = keep members

-- a number or a word that may be missing is the last place
abbrev OptionalLast : List PlaceKind → Type 0
OptionalLast [] = Unit {0}
OptionalLast (OptionalNumber ∷ kinds) = kinds ≡ []
OptionalLast (OptionalWord ∷ kinds) = kinds ≡ []
OptionalLast (kind ∷ kinds) = OptionalLast kinds

optional-last : (program : Prog) → OptionalLast (shape_of program).places
unfolding shape_of
optional-last Shift = refl
optional-last Exit = refl
optional-last _ = tt

have-finished : (places : Places) (kinds : List PlaceKind) (after : Args) → OptionalLast kinds → HavePlaces places (take (count places) kinds) nothing → Finishes (drop (count places) kinds) after → HavePlaces places kinds after
have-finished unplaced [] after last have finishes = tt
have-finished unplaced (OptionalNumber ∷ kinds) after last have finishes = subst (λ k. HavePlaces unplaced (OptionalNumber ∷ k) after) (sym last) finishes
have-finished unplaced (OptionalWord ∷ kinds) after last have finishes = subst (λ k. HavePlaces unplaced (OptionalWord ∷ k) after) (sym last) finishes
have-finished unplaced (_ ∷ kinds) after last have finishes = absurd finishes
have-finished (one_place (text_place text) places) (Name ∷ kinds) after last have finishes = (have.0, have-finished places kinds after last have.1 finishes)
have-finished (one_place (text_place text) places) (Fixed ∷ kinds) after last have finishes = have-finished places kinds after last have finishes
have-finished (one_place (text_place text) places) (OptionalWord ∷ kinds) after last have finishes = have-finished places kinds after (subst OptionalLast (sym last) tt) have finishes
have-finished (one_place (text_place text) places) (OptionalNumber ∷ kinds) after last have finishes = (have.0, have.1, have.2, have-finished places kinds after (subst OptionalLast (sym last) tt) have.3 finishes)
have-finished (one_place (block_place block) places) (ProgramBlock ∷ kinds) after last have finishes = (have.0, have-finished places kinds after last have.1 finishes)
have-finished (one_place (values_place values) places) (ValueBlock ∷ kinds) after last have finishes = have-finished places kinds after last have finishes
have-finished (one_place (names_place names) places) (NameBlock ∷ kinds) after last have finishes = (have.0, have-finished places kinds after last have.1 finishes)
have-finished (one_place (directives_place directives) places) (DirectiveBlock ∷ kinds) after last have finishes = (have.0, have-finished places kinds after last have.1 finishes)
have-finished places [] after last have finishes = absurd have
have-finished _ _ after last have finishes = absurd have

-- ---- where options are over

-- the token is at the next place, and nothing is wrong with it there
record IsPast (scope : TestScope) (head : Head) (in_directives : Bool) (next : Next) : Type 0 where
  read : HasOptions head.program head.options
  free : kind_fault scope head.program in_directives (kinds_left head) next ≡ None
  stops : StopsOptions (shape_of head.program).letters read.ended (written_places head.places +++ next-args next)

stops-next : (opts : Option (List Opt)) (ended : Bool) (next : Next) → (ended ≡ false → shown_by opts next ≡ Plain) → unended_fault opts ended next ≡ None → StopsOptions opts ended (next-args next)
stops-next None false next plain none = tt
stops-next (Some opts) false (Text text) plain none = (plain refl, not-false (is_literal text) (not-true _ _ none))
stops-next opts ended next plain none = tt

past-options : (program : Prog) (letters : List Letter) (ended : Bool) (is : Shown) (next : Next) (place : Option PlacedFault) → (ended ≡ false → is ≡ Plain) → options_fault program letters ended is next place ≡ None
    → (where_true (lacks_letter (shape_of program) letters) (Before BadOption) or_else (place or_else unended_fault (shape_of program).letters ended next)) ≡ None
past-options program letters true is next place plain none = none
past-options program letters false is next place plain none = subst (λ s. options_fault program letters false s next place ≡ None) (plain refl) none

-- behind a place the options of a head are over already
past : (scope : TestScope) (program : Prog) (options : List (List ℕ)) (in_directives : Bool) (places : Places) (next : Next) (is : IsHead (head-of program options None places) nothing)
    → (is_unplaced places ≡ true → is.read.ended ≡ false → shown_by (shape_of program).letters next ≡ Plain)
    → head_fault scope (head-of program options None places) None in_directives next ≡ None → IsPast scope (head-of program options None places) in_directives next
past scope program options in_directives unplaced next is plain none =
    let place = kind_fault scope program in_directives (shape_of program).places next in
    let opts = (shape_of program).letters in
    let unended = unended_fault opts is.read.ended next in
    let read = subst (λ r. options_fault program (letters_in r) (ends_in r) (shown_by opts next) next place ≡ None) is.read.are_read none in
    let all = past-options program is.read.letters is.read.ended (shown_by opts next) next place (plain refl) read in
    let more = or-right (where_true (lacks_letter (shape_of program) is.read.letters) (Before BadOption)) (place or_else unended) all in
    record { read = with-enough is.read (not-true _ (Before BadOption) (or-left _ (place or_else unended) all)); free = or-left place unended more; stops = stops-next opts is.read.ended next (plain refl) (or-right place unended more) }
past scope program options in_directives places next is plain none =
    record { read = all-read is.read (there-placed places nothing refl); free = none; stops = stops-same (shape_of program).letters is.read.ended places nothing (next-args next) (λ first. absurd (true≢false (sym first))) is.stops }

-- ---- a finished program

-- it finishes the program before it, which doesn't wait, and isn't wrong at the next place
pub record HeadFinishes (scope : TestScope) (head : Head) (in_directives : Bool) (next : Next) : Type 0 where
  pub still : head.waiting ≡ None
  pub is : IsFinished head.program head.options head.places (next-args next)
  pub free : kind_fault scope head.program in_directives (kinds_left head) next ≡ None

kinds-finish : (scope : TestScope) (program : Prog) (in_directives : Bool) (head : Head) (kinds : List PlaceKind) (next : Next) → IsForeign (text_at head kinds) kinds next → kind_fault scope program in_directives kinds next ≡ None → Finishes kinds (next-args next)
kinds-finish scope program in_directives head [] next foreign none = tt
kinds-finish scope program in_directives head (OptionalNumber ∷ kinds) (Text text) foreign none =
    (number (is_number_text text) foreign, not-false (is_literal text) (not-true _ _ (or-left _ (where_true (is_number_text text && is_none (number_of text)) (At BadNumber)) none)))
  where
    number : (b : Bool) → (if b then Own (with_place head (one_place (text_place text) unplaced)) else Foreign) ≡ Foreign → b ≡ false
    number true foreign = absurd (cc)
    number false foreign = refl
kinds-finish scope program in_directives head (OptionalNumber ∷ kinds) next foreign none = tt
kinds-finish scope program in_directives head (OptionalWord ∷ kinds) Over foreign none = refl
kinds-finish scope program in_directives head (OptionalWord ∷ kinds) Group foreign none = absurd (never-some none)
kinds-finish scope program in_directives head (Name ∷ kinds) Group foreign none = absurd (never-some none)
kinds-finish scope program in_directives head (Fixed ∷ kinds) Group foreign none = absurd (never-some none)
kinds-finish scope program in_directives head (_ ∷ kinds) Group foreign none = absurd (never-some foreign)
kinds-finish scope program in_directives head (_ ∷ kinds) Over foreign none = absurd (never-some none)
kinds-finish scope program in_directives head (_ ∷ kinds) (Text text) foreign none = absurd (cc)

-- a word shows no option, and isn't the next place's
foreign-both : (reads : Bool) (one : Head) (text : List ℕ) (shows : Shown) (owned : Owned) → (if reads then option_at one text shows owned else owned) ≡ Foreign → (reads ≡ true → shows ≡ Plain) × (owned ≡ Foreign)
foreign-both false one text shows owned foreign = (λ reads. absurd (true≢false (sym reads)), foreign)
foreign-both true one text Plain owned foreign = (λ reads. refl, foreign)
foreign-both true one text (Letters (Last flags letter [])) owned foreign = absurd (cc)
foreign-both true one text read owned foreign = absurd (cc)

-- so any token
foreign-parts : (program : Prog) (options : List (List ℕ)) (places : Places) (next : Next) (is : IsHead (head-of program options None places) nothing) → IsForeign (text_for (head-of program options None places) None) (drop (count places) (shape_of program).places) next
    → (is_unplaced places ≡ true → is.read.ended ≡ false → shown_by (shape_of program).letters next ≡ Plain) × IsForeign (text_at (head-of program options None places) (drop (count places) (shape_of program).places)) (drop (count places) (shape_of program).places) next
foreign-parts program options places Over is foreign = (λ first ended. (bare-over-by (shape_of program).letters true).0, tt)
foreign-parts program options places Group is foreign = (λ first ended. (bare-group-by (shape_of program).letters true).0, foreign)
foreign-parts program options places (Text text) is foreign =
    let head : Head = head-of program options None places in
    let so = foreign-both (reads_options head) head text (shown_by (shape_of program).letters (Text text)) (text_at head (kinds_left head) text) foreign in
    (λ first not_ended. so.0 (ap₂ (λ (a b : Bool). a && not b) first (ap ends_in is.read.are_read ∙ not_ended)), so.1)

-- a token that isn't wrong, and isn't its own, finishes it
pub head-finishes : (scope : TestScope) (program : Prog) (options : List (List ℕ)) (waiting : Option (List ℕ)) (places : Places) (in_directives : Bool) (next : Next) → IsHead (head-of program options waiting places) nothing
    → head_fault scope (head-of program options waiting places) waiting in_directives next ≡ None → IsForeign (text_for (head-of program options waiting places) waiting) (drop (count places) (shape_of program).places) next
    → HeadFinishes scope (head-of program options waiting places) in_directives next
head-finishes scope program options (Some option) places in_directives (Text text) is none foreign = absurd (cc)
head-finishes scope program options (Some option) places in_directives next is none foreign = absurd (never-some none)
head-finishes scope program options None places in_directives next is none foreign =
    let so = foreign-parts program options places next is foreign in
    let ends = past scope program options in_directives places next is so.0 none in
    let finish = kinds-finish scope program in_directives (head-of program options None places) (drop (count places) (shape_of program).places) next so.1 ends.free in
    record {
      still = refl;
      is = record { read = ends.read; stops = ends.stops; placed = have-finished places (shape_of program).places (next-args next) (optional-last program) is.placed finish; commanded = is.commanded };
      free = ends.free;
    }

-- where a block opens at its next place
pub head-open : (scope : TestScope) (program : Prog) (options : List (List ℕ)) (waiting : Option (List ℕ)) (places : Places) (in_directives : Bool) → IsHead (head-of program options waiting places) nothing
    → head_fault scope (head-of program options waiting places) waiting in_directives Group ≡ None → IsHead (head-of program options waiting places) an_open
head-open scope program options (Some option) places in_directives is none = absurd (never-some none)
head-open scope program options None places in_directives is none =
    let opens = past scope program options in_directives places Group is (λ first ended. (bare-group-by (shape_of program).letters true).0) none in
    record { read = with-enough opens.read (and_right _ _ opens.read.enough); waits = tt; stops = opens.stops; placed = is.placed; commanded = is.commanded }

-- ---- one more token of its own

-- the program or directive with one more of its own
pub record HeadGrows (scope : TestScope) (head more : Head) (piece : Args) : Type 0 where
  pub same : more.program ≡ head.program
  pub is : IsHead more nothing
  pub keeps : KeepPlaces scope more.places
  pub are_written : written_head more ≡ written_head head +++ piece

pub stops-nothing : (opts : Option (List Opt)) (ended : Bool) → StopsOptions opts ended nothing
stops-nothing None false = tt
stops-nothing (Some opts) false = tt
stops-nothing opts ended = tt

-- one place more, where what stands at it was open
pub placed-grows : (scope : TestScope) (program : Prog) (options : List (List ℕ)) (places one : Places) (opened : Args) → IsHead (head-of program options None places) opened → (read : HasOptions program options)
    → StopsOptions (shape_of program).letters read.ended (written_places places +++ (written_places one +++ nothing))
    → HavePlaces one (take (count one) (drop (count places) (shape_of program).places)) nothing → HaveCommands one → KeepPlaces scope places → KeepPlaces scope one
    → HeadGrows scope (head-of program options None places) (head-of program options None (places with_places one)) (written_places one)
placed-grows scope program options places one opened is read stops next commanded keeps kept = record {
  same = refl;
  is = record {
    read = with-enough read (and_right _ _ read.enough);
    waits = tt;
    stops = subst (StopsOptions (shape_of program).letters read.ended) (sym (plus-assoc (written_places places) (written_places one) nothing) ∙ ap (λ a. a +++ nothing) (sym (places-plus places one))) stops;
    placed = have-more places one (shape_of program).places is.placed next;
    commanded = commands-more places one is.commanded commanded;
  };
  keeps = where-tested scope (PlacesKeep places) (PlacesKeep one) (PlacesKeep (places with_places one)) (members-keep-more places one) keeps kept;
  are_written = ap (λ a. word (name_text program) (words options +++ a)) (places-plus places one) ∙ ap (word (name_text program)) (sym (plus-assoc (words options) (written_places places) (written_places one)));
}

none-mapped : {A B : Type 0} (make : A → B) (value : Option A) → option_map make value ≡ None → is_none value ≡ true
none-mapped make None none = refl
none-mapped make (Some value) none = absurd (never-some none)

fault-kept : (scope : TestScope) (text : List ℕ) → scope_fault scope text ≡ None → KeepPlaces scope (one_place (text_place text) unplaced)
fault-kept None text none = tt
fault-kept (Some members) text none = (place-tested false members (parts_of text) ∙ none-mapped At (place_fault false members (parts_of text)) none, tt)

-- a word at the next place
text-placed : (scope : TestScope) (head more : Head) (program : Prog) (in_directives : Bool) (kinds : List PlaceKind) (text : List ℕ) → text_at head kinds text ≡ Own more → kind_fault scope program in_directives kinds (Text text) ≡ None
    → (with_place head (one_place (text_place text) unplaced) ≡ more) × HavePlaces (one_place (text_place text) unplaced) (take 1 kinds) nothing × KeepPlaces scope (one_place (text_place text) unplaced)
text-placed scope head more program in_directives [] text own none = absurd (cc)
text-placed scope head more program in_directives (Name ∷ kinds) text own none = let literal = not-false (is_literal text) (not-true _ _ none) in (same-own own, (literal, tt), literal-kept scope text literal)
text-placed scope head more program in_directives (Fixed ∷ kinds) text own none = (same-own own, tt, fault-kept scope text none)
text-placed scope head more program in_directives (OptionalWord ∷ kinds) text own none = (same-own own, tt, fault-kept scope text none)
text-placed scope head more program in_directives (OptionalNumber ∷ kinds) text own none =
    by (is_number_text text) refl own (not-true _ _ (or-right (where_true (not (is_literal text)) (At OptionNotLiteral)) _ none))
  where
    literal : is_literal text ≡ true
    literal = not-false (is_literal text) (not-true _ _ (or-left _ (where_true (is_number_text text && is_none (number_of text)) (At BadNumber)) none))

    by : (b : Bool) → is_number_text text ≡ b → (if b then Own (with_place head (one_place (text_place text) unplaced)) else Foreign) ≡ Own more → (b && is_none (number_of text)) ≡ false
        → (with_place head (one_place (text_place text) unplaced) ≡ more) × HavePlaces (one_place (text_place text) unplaced) (OptionalNumber ∷ []) nothing × KeepPlaces scope (one_place (text_place text) unplaced)
    by true is own number = (same-own own, (is, some-none (number_of text) number, literal, tt), literal-kept scope text literal)
    by false is own number = absurd (cc)
text-placed scope head more program in_directives (_ ∷ kinds) text own none = absurd (never-some none)

text-grows : (scope : TestScope) (program : Prog) (options : List (List ℕ)) (places : Places) (in_directives : Bool) (text : List ℕ) (more : Head) → IsHead (head-of program options None places) nothing → KeepPlaces scope places
    → IsPast scope (head-of program options None places) in_directives (Text text) → text_at (head-of program options None places) (drop (count places) (shape_of program).places) text ≡ Own more
    → HeadGrows scope (head-of program options None places) more (word text nothing)
text-grows scope program options places in_directives text more is keeps past own =
    let next = text-placed scope (head-of program options None places) more program in_directives (drop (count places) (shape_of program).places) text own past.free in
    subst (λ m. HeadGrows scope (head-of program options None places) m (word text nothing)) next.0
    (placed-grows scope program options places (one_place (text_place text) unplaced) nothing is past.read past.stops next.1 tt keeps next.2)

flags-keep : (rule : ℕ → Rule) (flags : List ℕ) (more : List Letter) → keep_rules rule more ≡ true → keep_rules rule (map flag flags ++ more) ≡ true
flags-keep rule [] more keep = keep
flags-keep rule (letter ∷ flags) more keep = flags-keep rule flags more keep

never-wrong : (rule : Rule) (byte : ℕ) (bytes : List ℕ) → is_wrong_use rule (byte ∷ bytes) ≡ false
never-wrong AnyText byte bytes = refl
never-wrong rule byte bytes = refl

value-keeps : (rule : Rule) (number from : ℕ) (text : List ℕ) → is_wrong_use rule text ≡ false → is_bad_number rule text ≡ false → (keeps_rule rule (Some (record { word = number; from = from; text = text })) && true) ≡ true
value-keeps rule number from text right good = ap₂ (λ a b. not (a || b) && true) right good

-- `--` is literal
behind-dash : (opts : List Opt) (text : List ℕ) → shown_behind_dash opts text ≡ Dashes → text ≡ 45 ∷ []
behind-dash opts [] is = absurd (cc)
behind-dash opts (byte ∷ bytes) is = by (bytes_eq (byte ∷ bytes) (45 ∷ [])) refl is
  where
    by : (b : Bool) → bytes_eq (byte ∷ bytes) (45 ∷ []) ≡ b → (if b then Dashes else Letters (cluster_of opts (byte ∷ bytes))) ≡ Dashes → byte ∷ bytes ≡ 45 ∷ []
    by true same is = (bytes_eq-Decides (byte ∷ bytes) (45 ∷ [])).0 same
    by false same is = absurd (cc)

dashes-literal : (opts : List Opt) (text : List ℕ) → shown opts text ≡ Dashes → is_literal text ≡ true
dashes-literal opts [] is = absurd (cc)
dashes-literal opts (first ∷ text) is = by (first == 45) refl is
  where
    by : (b : Bool) → (first == 45) ≡ b → (if b then shown_behind_dash opts text else Plain) ≡ Dashes → is_literal (first ∷ text) ≡ true
    by true dash is = ap₂ (λ (n : ℕ) (more : List ℕ). is_literal (n ∷ more)) ((Decides-eqb first 45).0 dash) (behind-dash opts text is)
    by false dash is = absurd (cc)

pub unplaced-keeps : (scope : TestScope) → KeepPlaces scope unplaced
unplaced-keeps scope = always-keeps scope (PlacesKeep unplaced) (λ members. tt)

-- an option word more, perhaps behind one that waits
option-grows : (scope : TestScope) (program : Prog) (options : List (List ℕ)) (waiting : Option (List ℕ)) (text : List ℕ) (opts : List Opt) → (shape_of program).letters ≡ Some opts → (is : IsHead (head-of program options waiting unplaced) nothing) → is.read.ended ≡ false
    → (more : List Letter) (used : ℕ) (ended : Bool) → read_from opts is.read.used None (waiting_words waiting ++ text ∷ []) ≡ LettersRead more used [] ended → are_literal (waiting_words waiting ++ text ∷ []) ≡ true → keep_rules (shape_of program).rule more ≡ true
    → HeadGrows scope (head-of program options waiting unplaced) (head-of program (options ++ (waiting_words waiting ++ text ∷ [])) None unplaced) (word text nothing)
option-grows scope program options waiting text opts tables is not_ended more used ended reads literal rules =
    let before = waiting_words waiting in
    let read = is.read in
    let all = options ++ (before ++ text ∷ []) in
    record {
      same = refl;
      is = record {
        read = record {
          letters = read.letters ++ more;
          used = used;
          ended = ended;
          are_read = subst (λ t. options_of t all ≡ LettersRead (read.letters ++ more) used [] ended) (sym tables)
              (read-on opts 1 None options (before ++ text ∷ []) read.letters read.used (sym (ap (λ t. options_of t options) tables) ∙ read.are_read ∙ ap (LettersRead read.letters read.used []) not_ended) ∙ ap (in_front read.letters) reads);
          literal = all-append is_literal options (before ++ text ∷ []) read.literal literal;
          in_rule = all-append (λ (l : Letter). keeps_rule ((shape_of program).rule l.letter) l.value) read.letters more read.in_rule rules;
          enough = refl;
        };
        waits = tt;
        stops = stops-nothing (shape_of program).letters ended;
        placed = tt;
        commanded = tt;
      };
      keeps = unplaced-keeps scope;
      are_written = ap (word (name_text program))
          (plus-nothing (words all) ∙ words-plus options (before ++ text ∷ []) ∙ ap (λ a. words options +++ a) (words-plus before (text ∷ []) ∙ ap (λ a. a +++ word text nothing) (sym (plus-nothing (words before))))
          ∙ sym (plus-assoc (words options) (words before +++ nothing) (word text nothing)));
    }

module _ (scope : TestScope) (program : Prog) (options : List (List ℕ)) (in_directives : Bool) (text : List ℕ) (more : Head) (is : IsHead (head-of program options None unplaced) nothing) where
  abbrev head : Head
  head = head-of program options None unplaced

  abbrev Grows : Head → Type 0
  Grows more = HeadGrows scope head more (word text nothing)

  letters-grow : (opts : List Opt) → (shape_of program).letters ≡ Some opts → is.read.ended ≡ false → (shows : Shown) → shown opts text ≡ shows → (place : Option PlacedFault) → options_fault program is.read.letters false shows (Text text) place ≡ None
      → (owned : Owned) → option_at head text shows owned ≡ Own more → (shows ≡ Plain → Grows more) → Grows more
  letters-grow opts tables not_ended Plain shows place none owned own plain = plain refl
  letters-grow opts tables not_ended Dashes shows place none owned own plain =
      subst Grows (same-own own) (option-grows scope program options None text opts tables is not_ended [] (is.read.used + 1) true (dashes-read opts text is.read.used shows) (and_from _ _ (dashes-literal opts text shows) refl) refl)
  letters-grow opts tables not_ended (Letters (Bad letter)) shows place none owned own plain = absurd (never-some (or-right (where_true (not (is_literal text)) (At OptionNotLiteral)) (Some (At BadOption)) none))
  letters-grow opts tables not_ended (Letters (Flags flags)) shows place none owned own plain =
      subst Grows (same-own own)
      (option-grows scope program options None text opts tables is not_ended (map flag flags ++ []) (is.read.used + 1) false (flags-read opts text flags is.read.used shows)
      (and_from _ _ (not-false (is_literal text) (not-true _ _ none)) refl) (flags-keep (shape_of program).rule flags [] refl))
  letters-grow opts tables not_ended (Letters (Last flags letter (byte ∷ bytes))) shows place none owned own plain =
      let rule = (shape_of program).rule letter in
      let value : Letter = with_value letter (record { word = is.read.used; from = length flags + 2; text = byte ∷ bytes }) in
      let good = not-true _ _ (or-right (where_true (not (is_literal text)) (At OptionNotLiteral)) (where_true (is_bad_number rule (byte ∷ bytes)) (At BadNumber)) none) in
      let literal = not-false (is_literal text) (not-true _ _ (or-left _ (where_true (is_bad_number rule (byte ∷ bytes)) (At BadNumber)) none)) in
      subst Grows (same-own own)
      (option-grows scope program options None text opts tables is not_ended (map flag flags ++ value ∷ []) (is.read.used + 1) false
      (last-read opts text flags letter byte bytes is.read.used shows ∙ ap (λ (letters : List Letter). LettersRead letters (is.read.used + 1) [] false) (append-nil (map flag flags ++ value ∷ [])))
      (and_from _ _ literal refl) (flags-keep (shape_of program).rule flags (value ∷ []) (value-keeps rule is.read.used (length flags + 2) (byte ∷ bytes) (never-wrong rule byte bytes) good)))
  letters-grow opts tables not_ended (Letters (Last flags letter [])) shows place none owned own plain =
      let literal = not-false (is_literal text) (not-true _ _ (or-left (where_true (not (is_literal text)) (At OptionNotLiteral)) None none)) in
      subst Grows (same-own own)
      (record {
        same = refl;
        is = record { read = is.read; waits = (subst (λ t. Waits t text) (sym tables) (flags, letter, shows), literal, not_ended, refl); stops = is.stops; placed = tt; commanded = tt };
        keeps = unplaced-keeps scope;
        are_written = ap (word (name_text program)) (ap (λ a. a +++ word text nothing) (sym (plus-nothing (words options))));
      })

  module _ (none : head_fault scope head None in_directives (Text text) ≡ None) where
    abbrev place : Owned
    place = text_at head (shape_of program).places text

    first-grows : (is.read.ended ≡ false → shown_by (shape_of program).letters (Text text) ≡ Plain) → place ≡ Own more → Grows more
    first-grows plain own = text-grows scope program options unplaced in_directives text more is (unplaced-keeps scope) (past scope program options in_directives unplaced (Text text) is (λ first. plain) none) own

    -- where no place is read yet, the token is an option or at the first place
    bare : (opts : Option (List Opt)) → (shape_of program).letters ≡ opts → (ended : Bool) → is.read.ended ≡ ended → (if not ended then option_at head text (shown_by opts (Text text)) place else place) ≡ Own more → Grows more
    bare opts tables true ended own = first-grows (λ not_ended. absurd (true≢false (sym ended ∙ not_ended))) own
    bare None tables false ended own = first-grows (λ not_ended. ap (λ t. shown_by t (Text text)) tables) own
    bare (Some opts) tables false ended own =
        let fault = kind_fault scope program in_directives (shape_of program).places (Text text) in
        let read = subst (λ r. options_fault program (letters_in r) (ends_in r) (shown_by (shape_of program).letters (Text text)) (Text text) fault ≡ None) (is.read.are_read ∙ ap (LettersRead is.read.letters is.read.used []) ended) none in
        letters-grow opts tables ended (shown opts text) refl fault (subst (λ t. options_fault program is.read.letters false (shown_by t (Text text)) (Text text) fault ≡ None) tables read) place own
        (λ plain. first-grows (λ not_ended. ap (λ t. shown_by t (Text text)) tables ∙ plain) (sym (ap (λ s. option_at head text s place) plain) ∙ own))

    bare-grows : text_for head None text ≡ Own more → Grows more
    bare-grows own = bare (shape_of program).letters refl is.read.ended refl (sym (ap (λ r. if not (ends_in r) then option_at head text (shown_by (shape_of program).letters (Text text)) place else place) is.read.are_read) ∙ own)

-- the value of the letter that waits
value-grows : (scope : TestScope) (program : Prog) (options : List (List ℕ)) (option text : List ℕ) (opts : Option (List Opt)) → (shape_of program).letters ≡ opts → (is : IsHead (head-of program options (Some option) unplaced) nothing) → Waits opts option
    → value_fault program (waiting_letter (shown_by opts (Text option))) (Text text) ≡ None
    → HeadGrows scope (head-of program options (Some option) unplaced) (head-of program (options ++ option ∷ text ∷ []) None unplaced) (word text nothing)
value-grows scope program options option text None tables is waits none = absurd waits
value-grows scope program options option text (Some opts) tables is waits none =
    let letter = waits.1 in
    let rule = (shape_of program).rule letter in
    let value : Letter = with_value letter (record { word = is.read.used + 1; from = 0; text = text }) in
    let fault = subst (λ s. value_fault program (waiting_letter s) (Text text) ≡ None) waits.2 none in
    let more = or-right (where_true (not (is_literal text)) (At OptionNotLiteral)) (where_true (is_wrong_use rule text) (Before BadOption) or_else where_true (is_bad_number rule text) (At BadNumber)) fault in
    let literal = not-false (is_literal text) (not-true _ _ (or-left _ (where_true (is_wrong_use rule text) (Before BadOption) or_else where_true (is_bad_number rule text) (At BadNumber)) fault)) in
    let right = not-true _ _ (or-left (where_true (is_wrong_use rule text) (Before BadOption)) (where_true (is_bad_number rule text) (At BadNumber)) more) in
    let good = not-true _ _ (or-right (where_true (is_wrong_use rule text) (Before BadOption)) (where_true (is_bad_number rule text) (At BadNumber)) more) in
    option-grows scope program options (Some option) text opts tables is is.waits.2 (map flag waits.0 ++ value ∷ []) (is.read.used + 1 + 1) false (value-read-on opts option text waits.0 letter is.read.used waits.2)
    (and_from _ _ is.waits.1 (and_from _ _ literal refl)) (flags-keep (shape_of program).rule waits.0 (value ∷ []) (value-keeps rule (is.read.used + 1) 0 text right good))

-- a word of its own
pub own-grows : (scope : TestScope) (program : Prog) (options : List (List ℕ)) (waiting : Option (List ℕ)) (places : Places) (in_directives : Bool) (text : List ℕ) (more : Head) (is : IsHead (head-of program options waiting places) nothing) → KeepPlaces scope places
    → head_fault scope (head-of program options waiting places) waiting in_directives (Text text) ≡ None → text_for (head-of program options waiting places) waiting text ≡ Own more
    → HeadGrows scope (head-of program options waiting places) more (word text nothing)
own-grows scope program options (Some option) unplaced in_directives text more is keeps none own =
    subst (λ m. HeadGrows scope (head-of program options (Some option) unplaced) m (word text nothing)) (same-own own) (value-grows scope program options option text (shape_of program).letters refl is is.waits.0 none)
own-grows scope program options (Some option) (one_place (text_place a) places) in_directives text more is keeps none own = absurd (never-word is.waits.3)
own-grows scope program options (Some option) places in_directives text more is keeps none own = absurd (never-group is.waits.3)
own-grows scope program options None unplaced in_directives text more is keeps none own = bare-grows scope program options in_directives text more is none own
own-grows scope program options None places in_directives text more is keeps none own =
    text-grows scope program options places in_directives text more is keeps (past scope program options in_directives places (Text text) is (λ first. absurd (true≢false (sym first))) none) own

-- ---- what stands behind a directive

one-less : (kind : PlaceKind) (kinds : List PlaceKind) → NoOptional (kind ∷ kinds) → NoOptional kinds
one-less OptionalNumber kinds is = absurd is
one-less OptionalWord kinds is = absurd is
one-less _ kinds is = is

pub all-less : (n : ℕ) (kinds : List PlaceKind) → NoOptional kinds → NoOptional (drop n kinds)
all-less zero kinds is = is
all-less (suc n) [] is = tt
all-less (suc n) (kind ∷ kinds) is = all-less n kinds (one-less kind kinds is)

none-left : (kinds : List PlaceKind) (after : Args) → NoOptional kinds → Finishes kinds after → kinds ≡ []
none-left [] after is finishes = refl
none-left (OptionalNumber ∷ kinds) after is finishes = absurd is
none-left (OptionalWord ∷ kinds) after is finishes = absurd is
none-left (_ ∷ kinds) after is finishes = absurd finishes

-- a token that isn't a directive's own may begin the next one
pub directive-behind : (scope : TestScope) (head : Head) (next : Next) → is_directive head.program ≡ true → HeadFinishes scope head true next → directive_fault next ≡ None
directive-behind scope head next is ends =
    let none = none-left (kinds_left head) (next-args next) (all-less (count head.places) (shape_of head.program).places (directive-kinds head.program is).1) (left-over head.places (shape_of head.program).places (next-args next) ends.is.placed) in
    subst (λ kinds. kind_fault scope head.program true kinds next ≡ None) none ends.free
