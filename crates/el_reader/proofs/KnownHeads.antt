-- What is known of a program or directive says what a token is to it or what is wrong with it, goes on with its own tokens, and says what
-- it marks.
use Rattle.el_script.proofs.Vocabulary.{or_assoc, or-false, common_steps, Prog, Define, Importas, Import, Forx, Forstdin, Forbacktickx, Backtick, Multidefine, Multisubstitute, Args, nothing, ◌+++◌, left_of, PlaceKind, Name, OptionalNumber, Letter, LettersRead, Last, Bad, Shown, Plain, Letters, Flags, Dashes, shape_of, lacks_letter, is_directive, options_of, is_number_text, Opt, is_bad_number, BadOption, OptionNotLiteral, BadNumber, PlacedFault, At, Before, Node as node_tree, Places, unplaced, one_place, text_place, names_place, directives_place, written_places, last_tree, tree_of, directives_of, letters_of, is_literal, letters_in, HavePlaces, AreDirectives, One, Many, Member, empty_member, names_in, block_member, directives_member, both_members, own_member, member_of, value_marks, reads_positionals, Head, Fresh, Level, Chained, Named, Directed, TestScope, count, scope_behind, AreFinished, IsOfKind, kinds_left, Waits, IsHead, is_unplaced, Next, ◌or_else◌, where_true, options_fault, unended_fault, kind_fault, shown_by, waiting_letter, ends_in, head_fault, rank, fault_of, text_in, tree_before, node_of, closed, with_place, Owned, Own, Foreign, text_at, option_at, text_for, all-right, never-some}
use Rattle.std.proofs.Common.{◌≡◌, ℕ, suc, ◌==◌, nat_lt, length, Bool, true, false, true≢false, if◌then◌else◌, List, [], ◌∷◌, ◌++◌, map, drop, take, Option, Some, None, refl, sym, ap, ◌∙◌, subst, arith, not, ◌&&◌, Result, Err, append_assoc, append-nil}
use Rattle.std.proofs.Math.Seq.{drop-nil}
use Rattle.el_options.specs.Shapes.{is_nothing}
use Rattle.el_tree.specs.declared.tree.Last.{Last as ChainEnd}
use Rattle.el_tree.specs.declared.tree.Node.{Node}
use Rattle.el_tree.specs.Trees.{Place}
use Rattle.el_tree.specs.Lists.{◌with_places◌}
use Rattle.el_tree.specs.Beginnings.{all_directives}
use Rattle.el_tree.specs.Faults.{Text}
use Rattle.el_tree.specs.Steps.{head_start}
use Rattle.el_tree.proofs.Finished.{none-read}
use Rattle.el_tree.proofs.Facts.{or-right}
use Rattle.el_tree.proofs.HeadReadings.{head-of}
use Rattle.el_tree.proofs.Rereadings.{waits-bare}
use Rattle.el_reader.specs.declared.seen.LettersSeen.{LettersSeen}
use Rattle.el_reader.specs.declared.role.Part.{Part}
use Rattle.el_reader.specs.declared.role.Part.TheVariants.{Value, Option as OptionPart, Waiting, Place as PlacePart}
use Rattle.el_reader.specs.Known.{lean, names_member, left, marks_so_far, known_head, known_level, counted, with_key, first_mark, entered, marks_names, marks_directives, block_marks, started, taken, with_block, plain_fault, verdict, letters_judged, word_judged, or_place, first_judged, head_judged}
use Rattle.el_reader.specs.Roles.{seen_of, first_kind, nothing_seen, both_seen, seen_in, ends_options, part_at, part_shown, part_for}
use Rattle.el_reader.proofs.Scopes.{lean-with, own-marks, scope-marked}
use Rattle.el_reader.proofs.LettersSeen.{define-seen, importas-seen, puts-in-force, both-nothing, IsOption, option-sees, value-sees}

-- ---- chains that are closed, as trees

pub tree-of : (nodes : List Node) (last : ChainEnd) → tree_of nodes last ≡ tree_before nodes (last_tree last)
tree-of [] last = refl
tree-of (node ∷ nodes) last = ap (node_tree node.prog node.options node.places) (tree-of nodes last)

-- ---- places

suc-zero : (n : ℕ) → (suc n == 0) ≡ false
suc-zero n = grind arith

count-with : (places place : Places) → count place ≡ 1 → count (places with_places place) ≡ suc (count places)
count-with unplaced place one = one
count-with (one_place _ places) place one = ap suc (count-with places place one)

names-same : (places place : Places) → names_in place ≡ [] → names_in (places with_places place) ≡ names_in places
names-same unplaced place none = none
names-same (one_place (names_place names) places) place none = refl
names-same (one_place _ places) place none = names-same places place none

-- ---- which programs mark what

-- a name stands at the first place, as with all that mark the word there
abbrev begins_name : List PlaceKind → Bool
begins_name (Name ∷ kinds) = true
begins_name _ = false

abbrev no_key : Prog → Member
no_key program = record { marked = []; positional = reads_positionals program }

-- the other ones mark no word
bare-marks : (program : Prog) (letters : List Letter) (places : Places) → begins_name (shape_of program).places ≡ false → (marks_names program ≡ true → names_in places ≡ []) → (marks_directives program ≡ true → block_member places ≡ empty_member)
    → member_of program letters places ≡ no_key program
unfolding shape_of
bare-marks Multidefine letters places may names block = ap (λ (names : List (List ℕ)). record { marked = map (λ name. (name, Many)) names; positional = false }) (names refl)
bare-marks Multisubstitute letters places may names block = block refl
bare-marks program letters places may names block = cc

-- behind the first place one more changes nothing but the names
more-marks : (program : Prog) (letters : List Letter) (one : Place) (places place : Places) → (marks_names program ≡ true → names_in place ≡ [])
    → member_of program letters (one_place one (places with_places place)) ≡ member_of program letters (one_place one places)
more-marks Multidefine letters one places place none = ap names_member (names-same (one_place one places) place (none refl))
more-marks program letters (text_place text) places place none = refl
more-marks program letters (directives_place directives) places place none = refl
more-marks program letters one places place none = refl

-- ---- a word at the next place

put-marks : (puts : Bool) (text : List ℕ) → record { marked = value_marks puts text; positional = false } ≡ with_key empty_member text (if puts then Some One else None)
put-marks true text = refl
put-marks false text = refl

first-marks : (program : Prog) (letters : List Letter) (text : List ℕ) → member_of program letters (one_place (text_place text) unplaced) ≡ with_key (no_key program) text (first_mark program (seen_of letters))
unfolding shape_of
first-marks Define letters text = ap (λ mark. record { marked = (text, mark) ∷ []; positional = false }) (define-seen letters)
first-marks Importas letters text = ap (λ mark. record { marked = (text, mark) ∷ []; positional = false }) (importas-seen letters)
first-marks Import letters text = ap (λ mark. record { marked = (text, mark) ∷ []; positional = false }) (importas-seen letters)
first-marks Forx letters text = ap (λ puts. record { marked = value_marks puts text; positional = false }) (puts-in-force letters) ∙ put-marks (seen_of letters).puts text
first-marks Forstdin letters text = ap (λ puts. record { marked = value_marks puts text; positional = false }) (puts-in-force letters) ∙ put-marks (seen_of letters).puts text
first-marks Forbacktickx letters text = ap (λ puts. record { marked = value_marks puts text; positional = false }) (puts-in-force letters) ∙ put-marks (seen_of letters).puts text
first-marks Backtick letters text = ap (λ puts. record { marked = value_marks puts text; positional = false }) (puts-in-force letters) ∙ put-marks (seen_of letters).puts text
first-marks program letters text = refl

-- it is marked at the first one alone
text-marks : (program : Prog) (letters : List Letter) (places : Places) (text : List ℕ)
    → marks_so_far program letters (places with_places one_place (text_place text) unplaced) ≡ (if count places == 0 then with_key (marks_so_far program letters places) text (first_mark program (seen_of letters)) else marks_so_far program letters places)
text-marks program letters unplaced text = first-marks program letters text
text-marks program letters (one_place one places) text =
    more-marks program letters one places (one_place (text_place text) unplaced) (λ may. refl)
    ∙ sym (ap (λ first. if first then with_key (member_of program letters (one_place one places)) text (first_mark program (seen_of letters)) else member_of program letters (one_place one places)) (suc-zero (count places)))

-- ---- programs that are whole

-- its places are all there
pub record HasPlaces (program : Prog) (places : Places) : Type 0 where
  pub after : Args
  pub placed : HavePlaces places (shape_of program).places after

-- what it marks so far is what it marks
pub whole-marks : (program : Prog) (letters : List Letter) (places : Places) → HasPlaces program places → marks_so_far program letters places ≡ member_of program letters places
whole-marks program letters unplaced has = sym (bare-marks program letters unplaced (by (shape_of program).places has.placed) (λ may. refl) (λ may. refl))
  where
    by : (kinds : List PlaceKind) → HavePlaces unplaced kinds has.after → begins_name kinds ≡ false
    by (Name ∷ kinds) have = absurd have
    by kinds have = refl
whole-marks program letters places has = refl

pub last-finished : (nodes : List Node) (node : Node) (after : Args) → AreFinished (nodes ++ node ∷ []) after → HasPlaces node.prog node.places
last-finished [] node after are = record { after = _; placed = are.0.placed }
last-finished (one ∷ nodes) node after are = last-finished nodes node after are.1

-- and is in force behind it
pub enters : (scope : TestScope) (node : Node) → HasPlaces node.prog node.places → lean (scope_behind scope node) ≡ entered (lean scope) (marks_so_far node.prog (letters_of node.prog node.options) node.places)
enters scope node has =
    let letters = letters_of node.prog node.options in
    scope-marked scope node ∙ lean-with scope (member_of node.prog letters node.places) ∙ ap (entered (lean scope)) (sym (whole-marks node.prog letters node.places has))

-- ---- directives

both-assoc : (a b c : Member) → both_members (both_members a b) c ≡ both_members a (both_members b c)
both-assoc a b c = λ i. record { marked = append_assoc a.marked b.marked c.marked i; positional = or_assoc a.positional b.positional c.positional i }

both-empty : (a : Member) → both_members a empty_member ≡ a
both-empty a = λ i. record { marked = append-nil a.marked i; positional = or-false a.positional i }

pub last-directive : (nodes : List Node) (head : Head) → all_directives (nodes ++ node_of head ∷ []) ≡ true → is_directive head.program ≡ true
last-directive nodes head are = left_of (is_directive head.program) true (all-right (λ node. is_directive node.prog) nodes (node_of head ∷ []) are)

closed-directive : (nodes : List Node) (head : Head) → AreDirectives (directives_of (nodes ++ node_of head ∷ [])) → (is_directive head.program ≡ true) × HasPlaces head.program head.places
closed-directive [] head are = (are.1, record { after = _; placed = are.3 })
closed-directive (node ∷ nodes) head are = closed-directive nodes head are.4

-- with one directive more
pub directed-marks : (nodes : List Node) (head : Head) → is_directive head.program ≡ true → HasPlaces head.program head.places
    → directives_member (directives_of (nodes ++ node_of head ∷ [])) ≡ both_members (directives_member (directives_of nodes)) (marks_so_far head.program (letters_of head.program head.options) head.places)
directed-marks [] head is has =
    let letters = letters_of head.program head.options in
    both-empty (own_member head.program letters head.places) ∙ own-marks head.program letters head.places (λ same. true≢false (sym is ∙ ap is_directive same)) ∙ sym (whole-marks head.program letters head.places has)
directed-marks (node ∷ nodes) head is has =
    let own = own_member node.prog (letters_of node.prog node.options) node.places in
    ap (both_members own) (directed-marks nodes head is has) ∙ sym (both-assoc own (directives_member (directives_of nodes)) (known_head head).marks)

-- ---- a block at the next place

no-kind : (level : Level) → IsOfKind level [] → ⊥
no-kind (Chained nodes tail) is = is
no-kind level is = is

no-name : (level : Level) (kinds : List PlaceKind) → IsOfKind level kinds → begins_name kinds ≡ false
no-name (Chained nodes tail) (Name ∷ kinds) is = absurd is
no-name level (Name ∷ kinds) is = absurd is
no-name level kinds is = refl

-- none is left behind the last place
none-left : (level : Level) (n : ℕ) → IsOfKind level (drop n []) → ⊥
none-left level n is = no-kind level (subst (IsOfKind level) (drop-nil n) is)

-- one place more is read where one is left, as where a block stands
one-left : (kinds : List PlaceKind) (n : ℕ) (kind : PlaceKind) (left : List PlaceKind) → drop n kinds ≡ kind ∷ left → suc n ≡ counted kinds n
one-left kinds n kind left are =
    let some : length (drop n kinds) ≡ suc (length left) = ap length are in
    let less : nat_lt n (length kinds) ≡ true = grind (arith, common_steps) in
    rw less refl

block-counted : (level : Level) (kinds left : List PlaceKind) (n : ℕ) → drop n kinds ≡ left → IsOfKind level left → suc n ≡ counted kinds n
block-counted level kinds [] n are is = absurd (no-kind level is)
block-counted level kinds (kind ∷ left) n are is = one-left kinds n kind left are

-- it changes nothing, where it isn't what the program marks
kept : (program : Prog) (letters : List Letter) (places : Places) (level : Level) → IsOfKind level (drop (count places) (shape_of program).places) → marks_so_far program letters (closed level) ≡ member_of program letters (closed level)
    → (marks_names program ≡ true → names_in (closed level) ≡ []) → (marks_directives program ≡ true → block_member (closed level) ≡ empty_member) → marks_so_far program letters (places with_places closed level) ≡ marks_so_far program letters places
kept program letters unplaced level is whole names block = whole ∙ bare-marks program letters (closed level) (no-name level (shape_of program).places is) names block
kept program letters (one_place one places) level is whole names block = more-marks program letters one places (closed level) names

-- its names or what its directives mark is all that its program marks
block-marked : (program : Prog) (letters : List Letter) (places : Places) (level : Level) → IsOfKind level (drop (count places) (shape_of program).places)
    → HavePlaces (places with_places closed level) (take (count (places with_places closed level)) (shape_of program).places) nothing
    → marks_so_far program letters (places with_places closed level) ≡ block_marks program (marks_so_far program letters places) (known_level level)
unfolding shape_of
block-marked Multidefine letters unplaced (Named names) is have = refl
block-marked Multidefine letters (one_place (text_place text) unplaced) (Named names) is have = refl
block-marked Multidefine letters (one_place (text_place text) places) (Named names) is have = absurd (none-left (Named names) _ is)
block-marked Multidefine letters places (Named names) is have = absurd have
block-marked Multisubstitute letters unplaced (Directed nodes None) is have = refl
block-marked Multisubstitute letters unplaced (Directed nodes (Some head)) is have = let last = closed-directive nodes head have.0 in directed-marks nodes head last.0 last.1
block-marked Multisubstitute letters places (Directed nodes current) is have = absurd (none-left (Directed nodes current) _ is)
block-marked program letters places (Chained nodes Fresh) is have = kept program letters places (Chained nodes Fresh) is refl (λ may. refl) (λ may. refl)
block-marked program letters places level is have = kept program letters places level is refl (λ may. cc) (λ may. cc)

-- ---- what comes next to it, or what is wrong with it

seen-nothing : (letters : List Letter) → not (both_seen (seen_of letters) nothing_seen).any ≡ is_nothing letters
seen-nothing [] = refl
seen-nothing (letter ∷ letters) = refl

-- a `$` in an option word is told before what else is wrong with it
literal-first : (literal bad : Bool) (found : PlacedFault) (part : Part) (place : Result (Option Part) PlacedFault) → nat_lt (rank (fault_of found)) 2 ≡ false
    → or_place (Some (if literal then verdict (where_true bad found) part else Err (At OptionNotLiteral))) place ≡ verdict (where_true (not literal) (At OptionNotLiteral) or_else where_true bad found) (Some part)
literal-first true true found part place later = refl
literal-first true false found part place later = refl
literal-first false true found part place later = ap (λ less. verdict (if less then Some found else Some (At OptionNotLiteral)) (Some part)) (sym later)
literal-first false false found part place later = refl

module _ (program : Prog) (letters : List Letter) (next : Next) (fault : Option PlacedFault) (place : Option Part) where
  -- what is no option
  abbrev plain : (ended : Bool) → Result (Option Part) PlacedFault
  plain ended = verdict (plain_fault program (both_seen (seen_of letters) nothing_seen) ended next fault) place

  plain-is : (ended : Bool) → plain ended ≡ verdict (where_true (lacks_letter (shape_of program) letters) (Before BadOption) or_else (fault or_else unended_fault (shape_of program).letters ended next)) place
  plain-is ended =
      ap (λ none. verdict (where_true ((shape_of program).needs_letter && none) (Before BadOption) or_else (fault or_else unended_fault (shape_of program).letters ended next)) place) (seen-nothing letters)

  shown-is : (ended : Bool) (read : Shown) → or_place (word_judged program (text_in next) (if ended then Plain else read)) (plain ended) ≡ verdict (options_fault program letters ended read next fault) (if not ended then part_shown read place else place)
  shown-is true read = plain-is true
  shown-is false Plain = plain-is false
  shown-is false Dashes = refl
  shown-is false (Letters (Flags flags)) = by (is_literal (text_in next))
    where
      by : (literal : Bool) → or_place (Some (if literal then letters_judged program nothing_seen (Flags flags) else Err (At OptionNotLiteral))) (plain false) ≡ verdict (where_true (not literal) (At OptionNotLiteral)) (part_shown (Letters (Flags flags)) place)
      by true = refl
      by false = refl
  shown-is false (Letters (Bad letter)) = literal-first (is_literal (text_in next)) true (At BadOption) (OptionPart nothing_seen false) (plain false) refl
  shown-is false (Letters (Last before letter [])) = literal-first (is_literal (text_in next)) false (At BadNumber) (Waiting (seen_in (Letters (Last before letter []))) letter) (plain false) refl
  shown-is false (Letters (Last before letter (byte ∷ bytes))) =
      literal-first (is_literal (text_in next)) (is_bad_number ((shape_of program).rule letter) (byte ∷ bytes)) (At BadNumber) (OptionPart (seen_in (Letters (Last before letter (byte ∷ bytes)))) false) (plain false) refl

-- a letter waits before the first place alone
never-waits : (one : Place) (places : Places) (opened : Args) → written_places (one_place one places) +++ opened ≡ nothing → ⊥
never-waits one places opened none = true≢false (sym (ap is_unplaced (waits-bare (one_place one places) opened none)))

pub head-known : (scope : TestScope) (program : Prog) (options : List (List ℕ)) (waiting : Option (List ℕ)) (places : Places) (opened : Args) (in_directives : Bool) (next : Next) → IsHead (head-of program options waiting places) opened
    → head_judged scope (known_head (head-of program options waiting places)) in_directives next
    ≡ verdict (head_fault scope (head-of program options waiting places) waiting in_directives next) (part_for (head-of program options waiting places) waiting next)
head-known scope program options None unplaced opened in_directives next is =
    shown-is program (letters_of program options) next (kind_fault scope program in_directives (shape_of program).places next) (part_at (first_kind (shape_of program).places) next) (ends_in (options_of (shape_of program).letters options))
    (shown_by (shape_of program).letters next)
head-known scope program options None (one_place one places) opened in_directives next is =
    let head = known_head (head-of program options None (one_place one places)) in
    ap (λ first. if first then first_judged scope head None in_directives next else verdict (kind_fault scope program in_directives (left head) next) (part_at (first_kind (left head)) next)) (suc-zero (count places))
head-known scope program options (Some text) unplaced opened in_directives next is = refl
head-known scope program options (Some text) (one_place one places) opened in_directives next is = absurd (never-waits one places opened is.waits.3)

-- ---- before any token of it is read

pub start-known : (program : Prog) → known_head (head_start program) ≡ started program
start-known program =
    ap
    (λ reading. record { program = program; waiting = None; seen = both_seen (seen_of (letters_in reading)) nothing_seen; ended = ends_in reading; count = 0; marks = record { marked = []; positional = reads_positionals program } })
    (none-read (shape_of program).letters)

-- ---- its own words

-- what is known of what a word makes of it agrees with what the word is to it
abbrev pub Goes : Head → (text : List ℕ) → Option Part → Owned → Type 0
Goes head text None Foreign = Unit {0}
Goes head text (Some part) (Own more) = known_head more ≡ taken (known_head head) part text
Goes head text _ _ = ⊥

module _ (program : Prog) (options : List (List ℕ)) (text : List ℕ) where
  abbrev opts : Option (List Opt)
  opts = (shape_of program).letters

  -- the letters so far
  abbrev so_far : LettersSeen
  so_far = seen_of (letters_of program options)

  -- a word at the next place
  put-there : (places : Places) → suc (count places) ≡ counted (shape_of program).places (count places)
      → known_head (with_place (head-of program options None places) (one_place (text_place text) unplaced)) ≡ taken (known_head (head-of program options None places)) PlacePart text
  put-there places there =
      let letters = letters_of program options in
      let counts = count-with places (one_place (text_place text) unplaced) refl ∙ there in
      let marks = text-marks program letters places text
      ∙ ap (λ seen. if count places == 0 then with_key (marks_so_far program letters places) text (first_mark program seen) else marks_so_far program letters places) (sym (both-nothing so_far)) in
      λ i. record (known_head (head-of program options None places)) { count = counts i; marks = marks i }

  at-place : (places : Places) (kinds : List PlaceKind) → drop (count places) (shape_of program).places ≡ kinds
      → Goes (head-of program options None places) text (part_at (first_kind kinds) (Text text)) (text_at (head-of program options None places) kinds text)
  at-place places [] left = tt
  at-place places (OptionalNumber ∷ kinds) left = by (is_number_text text)
    where
      by : (number : Bool) → Goes (head-of program options None places) text (if number then Some PlacePart else None) (if number then Own (with_place (head-of program options None places) (one_place (text_place text) unplaced)) else Foreign)
      by true = put-there places (one-left (shape_of program).places (count places) OptionalNumber kinds left)
      by false = tt
  at-place places (kind ∷ kinds) left = put-there places (one-left (shape_of program).places (count places) kind kinds left)

  module _ (letters : List Letter) (used : ℕ) (whole : options_of opts options ≡ LettersRead letters used [] false) where
    -- the value that a letter waits for
    valued : (option : List ℕ) → Waits opts option → known_head (head-of program (options ++ option ∷ text ∷ []) None unplaced) ≡ taken (known_head (head-of program options (Some option) unplaced)) Value text
    valued option waits =
        let more = value-sees opts options option text letters used whole waits in
        let seen = both-nothing (seen_of (letters_of program (options ++ option ∷ text ∷ []))) ∙ more.0 in
        let ended = more.1 ∙ sym (ap ends_in whole) in
        λ i. record (known_head (head-of program options (Some option) unplaced)) { waiting = None; seen = seen i; ended = ended i }

    -- an option word
    optioned : (read : Shown) → shown_by opts (Text text) ≡ read → IsOption read
        → known_head (head-of program (options ++ text ∷ []) None unplaced) ≡ taken (known_head (head-of program options None unplaced)) (OptionPart (seen_in read) (ends_options read)) text
    optioned read shows option =
        let more = option-sees opts options text letters used read whole shows option in
        let seen = both-nothing (seen_of (letters_of program (options ++ text ∷ []))) ∙ more.0 ∙ ap (λ seen. both_seen seen (seen_in read)) (sym (both-nothing so_far)) in
        λ i. record (known_head (head-of program options None unplaced)) { seen = seen i; ended = more.1 i }

  -- one whose last letter waits
  waited : (before : List ℕ) (letter : ℕ) → shown_by opts (Text text) ≡ Letters (Last before letter [])
      → known_head (head-of program options (Some text) unplaced) ≡ taken (known_head (head-of program options None unplaced)) (Waiting (seen_in (Letters (Last before letter []))) letter) text
  waited before letter shows =
      let seen = ap (λ read. both_seen so_far (seen_in read)) shows ∙ ap (λ seen. both_seen seen (seen_in (Letters (Last before letter [])))) (sym (both-nothing so_far)) in
      λ i. record (known_head (head-of program options None unplaced)) { waiting = Some (waiting_letter (shows i)); seen = seen i }

  -- before the first place, where the options are over or not
  as-shown : (letters : List Letter) (used : ℕ) (ended : Bool) (read : Shown) (fault : Option PlacedFault) → options_of opts options ≡ LettersRead letters used [] ended → shown_by opts (Text text) ≡ read
      → options_fault program (letters_of program options) ended read (Text text) fault ≡ None
      → Goes (head-of program options None unplaced) text (if not ended then part_shown read (part_at (first_kind (shape_of program).places) (Text text)) else part_at (first_kind (shape_of program).places) (Text text))
      (if not ended then option_at (head-of program options None unplaced) text read (text_at (head-of program options None unplaced) (shape_of program).places text) else text_at (head-of program options None unplaced) (shape_of program).places text)
  as-shown letters used true read fault whole shows right = at-place unplaced (shape_of program).places refl
  as-shown letters used false Plain fault whole shows right = at-place unplaced (shape_of program).places refl
  as-shown letters used false (Letters (Last before letter [])) fault whole shows right = waited before letter shows
  as-shown letters used false (Letters (Bad letter)) fault whole shows right = absurd (never-some (or-right (where_true (not (is_literal text)) (At OptionNotLiteral)) (Some (At BadOption)) right))
  as-shown letters used false read fault whole shows right = optioned letters used whole read shows tt

pub goes : (scope : TestScope) (program : Prog) (options : List (List ℕ)) (waiting : Option (List ℕ)) (places : Places) (opened : Args) (in_directives : Bool) (text : List ℕ) → IsHead (head-of program options waiting places) opened
    → head_fault scope (head-of program options waiting places) waiting in_directives (Text text) ≡ None
    → Goes (head-of program options waiting places) text (part_for (head-of program options waiting places) waiting (Text text)) (text_for (head-of program options waiting places) waiting text)
goes scope program options None unplaced opened in_directives text is right =
    let ended = ap ends_in is.read.are_read in
    as-shown program options text is.read.letters is.read.used (ends_in (options_of (shape_of program).letters options)) (shown_by (shape_of program).letters (Text text))
    (kind_fault scope program in_directives (shape_of program).places (Text text)) (is.read.are_read ∙ ap (LettersRead is.read.letters is.read.used []) (sym ended)) refl right
goes scope program options None (one_place one places) opened in_directives text is right = at-place program options text (one_place one places) (drop (count (one_place one places)) (shape_of program).places) refl
goes scope program options (Some option) unplaced opened in_directives text is right =
    valued program options text is.read.letters is.read.used (is.read.are_read ∙ ap (LettersRead is.read.letters is.read.used []) is.waits.2) option is.waits.0
goes scope program options (Some option) (one_place one places) opened in_directives text is right = absurd (never-waits one places opened is.waits.3)

-- ---- a block at the next place

count-closed : (level : Level) → count (closed level) ≡ 1
count-closed (Chained nodes tail) = refl
count-closed level = refl

pub block-known : (head : Head) (level : Level) → IsOfKind level (kinds_left head)
    → HavePlaces (head.places with_places closed level) (take (count (head.places with_places closed level)) (shape_of head.program).places) nothing
    → known_head (with_place head (closed level)) ≡ with_block (known_head head) (known_level level)
block-known head level is have =
    let letters = letters_of head.program head.options in
    let counts = count-with head.places (closed level) (count-closed level) ∙ block-counted level (shape_of head.program).places (kinds_left head) (count head.places) refl is in
    let marks = block-marked head.program letters head.places level is have in
    λ i. record (known_head head) { count = counts i; marks = marks i }
