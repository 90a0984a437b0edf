-- Finished programs and directives: what they stand before, and that no token belongs to them.
use Rattle.std.proofs.Common.{◌≡◌, ℕ, Bool, true, false, not, ◌&&◌, if◌then◌else◌, List, [], ◌∷◌, take, drop, Option, Some, None, refl, sym, ap, ◌∙◌, subst, true≢false}
use Rattle.std.specs.Prelude.{is_none, is_some}
use Rattle.el_words.specs.declared.prog.Prog.{Prog}
use Rattle.el_words.specs.Args.{Args, nothing, word, ◌+++◌}
use Rattle.el_words.specs.Number.{number_of}
use Rattle.el_options.specs.declared.table.Opt.{Opt}
use Rattle.el_options.specs.declared.place.PlaceKind.{PlaceKind}
use Rattle.el_options.specs.declared.place.PlaceKind.TheVariants.{Name, Fixed, ProgramBlock, ValueBlock, NameBlock, DirectiveBlock, OptionalNumber, OptionalWord}
use Rattle.el_options.specs.Reading.{Letter, LettersRead, Shown, Plain}
use Rattle.el_options.specs.Fronts.{options_of}
use Rattle.el_options.specs.Shapes.{shape_of, lacks_letter}
use Rattle.el_tree.specs.declared.fault.PlacedFault.{PlacedFault}
use Rattle.el_tree.specs.Trees.{Places, unplaced, one_place, text_place, block_place, values_place, names_place, directives_place, written_places}
use Rattle.el_tree.specs.OptionWords.{letters_in, OptionsRead, HasOptions, StopsOptions}
use Rattle.el_tree.specs.WellFormed.{HasNoNumber, HavePlaces}
use Rattle.el_tree.specs.Beginnings.{Head, TestScope, first_in, an_open, is_there, count, IsFinished}
use Rattle.el_tree.specs.Faults.{Next, Over, Text, Group, kind_fault, rest_fault, options_fault, shown_by, unended_fault, ends_in, is_unplaced, head_fault}
use Rattle.el_tree.specs.Steps.{Owned, Own, Foreign, text_at, option_at, text_for, opened_at, with_place}
use Rattle.el_tree.proofs.Facts.{never-word, never-group, or-none, where-false}

-- ---- option words

pub none-read : (opts : Option (List Opt)) → options_of opts [] ≡ LettersRead [] 1 [] (not (is_some opts))
none-read None = refl
none-read (Some opts) = refl

-- read as before, where no letter is missing
abbrev pub with-enough : {program : Prog} {options : List (List ℕ)} {over other : Bool} (read : OptionsRead program options over) → (other && lacks_letter (shape_of program) read.letters) ≡ false → OptionsRead program options other
with-enough read enough = record { letters = read.letters; used = read.used; ended = read.ended; are_read = read.are_read; literal = read.literal; in_rule = read.in_rule; enough = enough }

abbrev pub all-read : {program : Prog} {options : List (List ℕ)} {over : Bool} (read : OptionsRead program options over) → over ≡ true → HasOptions program options
all-read {program = program} read is = with-enough read (subst (λ over. (over && lacks_letter (shape_of program) read.letters) ≡ false) is read.enough)

-- ---- what comes first counts alone

pub first-first : (args : Args) → first_in (first_in args) ≡ first_in args
first-first nothing = refl
first-first a = refl

pub there-placed : (places : Places) (opened : Args) → is_unplaced places ≡ false → is_there (written_places places +++ opened) ≡ true
there-placed unplaced opened placed = absurd (true≢false placed)
there-placed (one_place (text_place text) places) opened placed = refl
there-placed places opened placed = refl

first-placed : (places : Places) (one other : Args) → (is_unplaced places ≡ true → first_in one ≡ first_in other) → first_in (written_places places +++ one) ≡ first_in (written_places places +++ other)
first-placed unplaced one other same = same refl
first-placed (one_place (text_place text) places) one other same = refl
first-placed places one other same = refl

stops-first : (opts : Option (List Opt)) (ended : Bool) (after : Args) → (StopsOptions opts ended after → StopsOptions opts ended (first_in after)) × (StopsOptions opts ended (first_in after) → StopsOptions opts ended after)
stops-first None false after = (λ stops. tt, λ stops. tt)
stops-first (Some opts) false (word text rest) = (λ stops. stops, λ stops. stops)
stops-first opts ended after = (λ stops. tt, λ stops. tt)

pub stops-same : (opts : Option (List Opt)) (ended : Bool) (places : Places) (one other : Args) → (is_unplaced places ≡ true → first_in one ≡ first_in other)
    → StopsOptions opts ended (written_places places +++ one) → StopsOptions opts ended (written_places places +++ other)
stops-same opts ended places one other same stops =
    (stops-first opts ended (written_places places +++ other)).1 (subst (StopsOptions opts ended) (first-placed places one other same) ((stops-first opts ended (written_places places +++ one)).0 stops))

number-first : (after : Args) → (HasNoNumber after → HasNoNumber (first_in after)) × (HasNoNumber (first_in after) → HasNoNumber after)
number-first (word text rest) = (λ number. number, λ number. number)
number-first a = (λ number. tt, λ number. tt)

nothing-first : (after : Args) → first_in after ≡ nothing → after ≡ nothing
nothing-first nothing none = refl
nothing-first after none = absurd (cc)

pub have-same : (places : Places) (kinds : List PlaceKind) (one other : Args) → first_in one ≡ first_in other → HavePlaces places kinds one → HavePlaces places kinds other
have-same unplaced [] one other same have = tt
have-same unplaced (OptionalNumber ∷ []) one other same have = (number-first other).1 (subst HasNoNumber same ((number-first one).0 have))
have-same unplaced (OptionalWord ∷ []) one other same have = nothing-first other (sym same ∙ ap first_in have)
have-same (one_place (text_place text) places) (Name ∷ kinds) one other same have = (have.0, have-same places kinds one other same have.1)
have-same (one_place (text_place text) places) (Fixed ∷ kinds) one other same have = have-same places kinds one other same have
have-same (one_place (text_place text) places) (OptionalWord ∷ kinds) one other same have = have-same places kinds one other same have
have-same (one_place (text_place text) places) (OptionalNumber ∷ kinds) one other same have = (have.0, have.1, have.2, have-same places kinds one other same have.3)
have-same (one_place (block_place block) places) (ProgramBlock ∷ kinds) one other same have = (have.0, have-same places kinds one other same have.1)
have-same (one_place (values_place values) places) (ValueBlock ∷ kinds) one other same have = have-same places kinds one other same have
have-same (one_place (names_place names) places) (NameBlock ∷ kinds) one other same have = (have.0, have-same places kinds one other same have.1)
have-same (one_place (directives_place directives) places) (DirectiveBlock ∷ kinds) one other same have = (have.0, have-same places kinds one other same have.1)
have-same _ _ one other same have = absurd have

pub finished-same : (program : Prog) (options : List (List ℕ)) (places : Places) (one other : Args) → first_in one ≡ first_in other → IsFinished program options places one → IsFinished program options places other
finished-same program options places one other same is = record {
  read = is.read;
  stops = stops-same (shape_of program).letters is.read.ended places one other (λ first. same) is.stops;
  placed = have-same places (shape_of program).places one other same is.placed;
  commanded = is.commanded;
}

-- ---- the places that a finished program has no more

-- no place is to come that must be there, before what follows
abbrev pub Finishes : List PlaceKind → (after : Args) → Type 0
Finishes [] after = Unit {0}
Finishes (OptionalNumber ∷ kinds) after = HasNoNumber after
Finishes (OptionalWord ∷ kinds) after = after ≡ nothing
Finishes _ after = ⊥

-- the places that are there are the first ones, and no others must be there
pub have-parts : (places : Places) (kinds : List PlaceKind) (after : Args) → HavePlaces places kinds after → HavePlaces places (take (count places) kinds) nothing × Finishes (drop (count places) kinds) after
have-parts unplaced [] after have = (tt, tt)
have-parts unplaced (OptionalNumber ∷ []) after have = (tt, have)
have-parts unplaced (OptionalWord ∷ []) after have = (tt, have)
have-parts (one_place (text_place text) places) (Name ∷ kinds) after have = let parts = have-parts places kinds after have.1 in ((have.0, parts.0), parts.1)
have-parts (one_place (text_place text) places) (Fixed ∷ kinds) after have = have-parts places kinds after have
have-parts (one_place (text_place text) places) (OptionalWord ∷ kinds) after have = have-parts places kinds after have
have-parts (one_place (text_place text) places) (OptionalNumber ∷ kinds) after have = let parts = have-parts places kinds after have.3 in ((have.0, have.1, have.2, parts.0), parts.1)
have-parts (one_place (block_place block) places) (ProgramBlock ∷ kinds) after have = let parts = have-parts places kinds after have.1 in ((have.0, parts.0), parts.1)
have-parts (one_place (values_place values) places) (ValueBlock ∷ kinds) after have = have-parts places kinds after have
have-parts (one_place (names_place names) places) (NameBlock ∷ kinds) after have = let parts = have-parts places kinds after have.1 in ((have.0, parts.0), parts.1)
have-parts (one_place (directives_place directives) places) (DirectiveBlock ∷ kinds) after have = let parts = have-parts places kinds after have.1 in ((have.0, parts.0), parts.1)
have-parts _ _ after have = absurd have

pub left-over : (places : Places) (kinds : List PlaceKind) (after : Args) → HavePlaces places kinds after → Finishes (drop (count places) kinds) after
left-over places kinds after have = (have-parts places kinds after have).1

-- ---- a token behind the options

-- the token shows no option, and none from a value
abbrev pub IsBare : Prog → (ended : Bool) → Next → Type 0
IsBare program ended next = ended ≡ false → (shown_by (shape_of program).letters next ≡ Plain) × (unended_fault (shape_of program).letters ended next ≡ None)

pub stops-bare-text : (opts : Option (List Opt)) (ended : Bool) (text : List ℕ) (rest : Args) → StopsOptions opts ended (word text rest) → ended ≡ false → (shown_by opts (Text text) ≡ Plain) × (unended_fault opts ended (Text text) ≡ None)
stops-bare-text opts true text rest stops is = absurd (true≢false is)
stops-bare-text None false text rest stops is = (refl, refl)
stops-bare-text (Some opts) false text rest stops is = (stops.0, where-false _ _ (ap not stops.1))

pub bare-group-by : (opts : Option (List Opt)) (ended : Bool) → (shown_by opts Group ≡ Plain) × (unended_fault opts ended Group ≡ None)
bare-group-by (Some opts) false = (refl, refl)
bare-group-by opts ended = (refl, refl)

pub bare-over-by : (opts : Option (List Opt)) (ended : Bool) → (shown_by opts Over ≡ Plain) × (unended_fault opts ended Over ≡ None)
bare-over-by (Some opts) false = (refl, refl)
bare-over-by opts ended = (refl, refl)

unended-true : (opts : Option (List Opt)) (next : Next) → unended_fault opts true next ≡ None
unended-true None next = refl
unended-true (Some opts) next = refl

options-free : (program : Prog) (letters : List Letter) (ended : Bool) (next : Next) (place : Option PlacedFault) → lacks_letter (shape_of program) letters ≡ false → place ≡ None → IsBare program ended next
    → options_fault program letters ended (shown_by (shape_of program).letters next) next place ≡ None
options-free program letters true next place enough none bare = or-none _ _ (where-false _ _ enough) (or-none _ _ none (unended-true (shape_of program).letters next))
options-free program letters false next place enough none bare =
    subst (λ is. options_fault program letters false is next place ≡ None) (sym (bare refl).0) (or-none _ _ (where-false _ _ enough) (or-none _ _ none (bare refl).1))

-- nothing is wrong with a token at a place where nothing is wrong with it
pub place-free : (scope : TestScope) (program : Prog) (options : List (List ℕ)) (places : Places) (in_directives : Bool) (next : Next) (read : HasOptions program options)
    → (is_unplaced places ≡ true → IsBare program read.ended next) → kind_fault scope program in_directives (drop (count places) (shape_of program).places) next ≡ None
    → head_fault scope (record { program = program; options = options; waiting = None; places = places }) None in_directives next ≡ None
place-free scope program options unplaced in_directives next read bare none =
    subst (λ r. options_fault program (letters_in r) (ends_in r) (shown_by (shape_of program).letters next) next (kind_fault scope program in_directives (shape_of program).places next) ≡ None) (sym read.are_read)
    (options-free program read.letters read.ended next _ read.enough none (bare refl))
place-free scope program options places in_directives next read bare none = none

own-first : (ended : Bool) (text : List ℕ) (head : Head) (is : Shown) (owned : Owned) → (ended ≡ false → is ≡ Plain) → (if not ended then option_at head text is owned else owned) ≡ owned
own-first true text head is owned plain = refl
own-first false text head is owned plain = ap (λ s. option_at head text s owned) (plain refl)

-- a word there is the next place's, or foreign
pub place-owns : (program : Prog) (options : List (List ℕ)) (places : Places) (text : List ℕ) (read : HasOptions program options) → (is_unplaced places ≡ true → IsBare program read.ended (Text text))
    → text_for (record { program = program; options = options; waiting = None; places = places }) None text ≡ text_at (record { program = program; options = options; waiting = None; places = places }) (drop (count places) (shape_of program).places) text
place-owns program options unplaced text read bare =
    let head : Head = record { program = program; options = options; waiting = None; places = unplaced } in
    let owned = text_at head (shape_of program).places text in
    ap (λ r. if not (ends_in r) then option_at head text (shown_by (shape_of program).letters (Text text)) owned else owned) read.are_read
    ∙ own-first read.ended text head (shown_by (shape_of program).letters (Text text)) owned (λ not_ended. (bare refl not_ended).0)
place-owns program options places text read bare = refl

-- ---- a token behind a finished program

abbrev pub next-args : Next → Args
next-args Over = nothing
next-args (Text text) = word text nothing
next-args Group = an_open

-- the token isn't its own, nor does it open a block at the next of these places
abbrev pub IsForeign : (owned : List ℕ → Owned) → List PlaceKind → Next → Type 0
IsForeign owned kinds Over = Unit {0}
IsForeign owned kinds (Text text) = owned text ≡ Foreign
IsForeign owned kinds Group = opened_at kinds ≡ None

pub finished-kinds : (scope : TestScope) (program : Prog) (in_directives : Bool) (head : Head) (kinds : List PlaceKind) (next : Next) → Finishes kinds (next-args next) → rest_fault program in_directives next ≡ None
    → (kind_fault scope program in_directives kinds next ≡ None) × IsForeign (text_at head kinds) kinds next
finished-kinds scope program in_directives head [] Over finishes none = (none, tt)
finished-kinds scope program in_directives head [] (Text text) finishes none = (none, refl)
finished-kinds scope program in_directives head [] Group finishes none = (none, refl)
finished-kinds scope program in_directives head (OptionalNumber ∷ kinds) Over finishes none = (refl, tt)
finished-kinds scope program in_directives head (OptionalNumber ∷ kinds) (Text text) finishes none =
    (or-none _ _ (where-false _ _ (ap not finishes.1)) (where-false _ _ (ap (λ b. b && is_none (number_of text)) finishes.0)), ap (λ b. if b then Own (with_place head (one_place (text_place text) unplaced)) else Foreign) finishes.0)
finished-kinds scope program in_directives head (OptionalNumber ∷ kinds) Group finishes none = (refl, refl)
finished-kinds scope program in_directives head (OptionalWord ∷ kinds) Over finishes none = (refl, tt)
finished-kinds scope program in_directives head (OptionalWord ∷ kinds) (Text text) finishes none = absurd (never-word finishes)
finished-kinds scope program in_directives head (OptionalWord ∷ kinds) Group finishes none = absurd (never-group finishes)
finished-kinds scope program in_directives head (_ ∷ kinds) next finishes none = absurd finishes
