-- How the option words and places of a program or directive are read.
use Rattle.std.proofs.Common.{◌≡◌, ℕ, ◌+◌, false, List, [], ◌∷◌, ◌++◌, map, length, Option, Some, None, refl, sym, ap, ◌∙◌, Bool, true, not, append_assoc, append-nil, subst}
use Rattle.std.specs.List.{list_all}
use Rattle.el_words.specs.declared.prog.Prog.{Prog}
use Rattle.el_words.specs.Args.{words as args_of_words}
use Rattle.el_words.proofs.Truths.{left_of, right_of, neither_of}
use Rattle.el_blocks.specs.Tokens.{TokenShape, Text, Open, Close, shapes_in}
use Rattle.el_options.specs.declared.table.Opt.{Opt}
use Rattle.el_options.specs.Reading.{Letter, flag, with_value, Reading, Unknown, LettersRead, Flags, Last, Bad, Shown, Plain, Dashes, Letters, shown, in_front, word_read, read_from}
use Rattle.el_options.proofs.Places.{without}
use Rattle.el_options.proofs.Steps.{in_front-append}
use Rattle.el_options.specs.Rules.{Rule, keeps_rule, keep_rules, is_wrong_use, is_bad_number}
use Rattle.el_options.specs.Shapes.{shape_of}
use Rattle.el_options.specs.Fronts.{options_of}
use Rattle.el_tree.specs.declared.fault.PlacedFault.{PlacedFault}
use Rattle.el_tree.specs.declared.tree.Node.{Node}
use Rattle.el_tree.specs.Trees.{Place, Places, unplaced, one_place}
use Rattle.el_tree.specs.OptionWords.{is_literal, are_literal}
use Rattle.el_tree.specs.Beginnings.{Head, Chained, Directed, Current, Level, Beginning, TestScope, scope_at, scope_within, scope_behind_all, kinds_left}
use Rattle.el_tree.specs.Faults.{Over, Text as NextText, Group, options_fault, shown_by, head_fault, level_fault}
use Rattle.el_tree.specs.Steps.{Owned, Own, with_place, option_at, text_for, opened_at, closed, chain_owned, directive_owned, chain_opened, directive_opened, push}
use Rattle.el_tree.specs.Readings.{ReadsTokens}
use Rattle.el_tree.proofs.Facts.{all-left, all-right, or-none, where-false}

in-front-nil : (reading : Reading) → in_front [] reading ≡ reading
in-front-nil (Unknown letter) = refl
in-front-nil reading = refl

-- a whole reading that may go on is read on from where it stands
pub read-on : (opts : List Opt) (at : ℕ) (wanted : Option ℕ) (words more : List (List ℕ)) (letters : List Letter) (used : ℕ)
    → read_from opts at wanted words ≡ LettersRead letters used [] false → read_from opts at wanted (words ++ more) ≡ in_front letters (read_from opts used None more)
read-on opts at None [] more letters used is =
    let none : [] ≡ letters = cc in
    let same : at ≡ used = cc in
    sym (in-front-nil (read_from opts at None more)) ∙ ap (λ l. in_front l (read_from opts at None more)) none ∙ ap (λ n. in_front letters (read_from opts n None more)) same
read-on opts at (Some letter) [] more letters used is = absurd (cc)
read-on opts at (Some letter) (word ∷ words) more letters used is =
    let value : Letter = with_value letter (record { word = at; from = 0; text = word }) in
    let behind = without (value ∷ []) letters (read_from opts (at + 1) None words) used [] false is in
    ap (in_front (value ∷ [])) (read-on opts (at + 1) None words more behind.more used behind.is_reading) ∙ sym (in_front-append (value ∷ []) behind.more (read_from opts used None more)) ∙ ap (λ all. in_front all (read_from opts used None more)) behind.are_all
read-on opts at None (word ∷ words) more letters used is =
    by_shown (shown opts word) is (λ wanted letters next. read-on opts (at + 1) wanted words more letters used next)
  where
    by_shown : (shown : Shown) → word_read shown at word words (λ wanted. read_from opts (at + 1) wanted words) ≡ LettersRead letters used [] false
        → ((wanted : Option ℕ) (letters : List Letter) → read_from opts (at + 1) wanted words ≡ LettersRead letters used [] false → read_from opts (at + 1) wanted (words ++ more) ≡ in_front letters (read_from opts used None more))
        → word_read shown at word (words ++ more) (λ wanted. read_from opts (at + 1) wanted (words ++ more)) ≡ in_front letters (read_from opts used None more)
    by_shown Plain is next = absurd (cc)
    by_shown Dashes is next = absurd (cc)
    by_shown (Letters (Flags flags)) is next =
        let behind = without (map flag flags) letters (read_from opts (at + 1) None words) used [] false is in
        ap (in_front (map flag flags)) (next None behind.more behind.is_reading) ∙ sym (in_front-append (map flag flags) behind.more (read_from opts used None more)) ∙ ap (λ all. in_front all (read_from opts used None more)) behind.are_all
    by_shown (Letters (Bad letter)) is next = absurd (cc)
    by_shown (Letters (Last before letter [])) is next =
        let behind = without (map flag before) letters (read_from opts (at + 1) (Some letter) words) used [] false is in
        ap (in_front (map flag before)) (next (Some letter) behind.more behind.is_reading) ∙ sym (in_front-append (map flag before) behind.more (read_from opts used None more)) ∙ ap (λ all. in_front all (read_from opts used None more)) behind.are_all
    by_shown (Letters (Last before letter (byte ∷ bytes))) is next =
        let taken : List Letter = map flag before ++ with_value letter (record { word = at; from = length before + 2; text = byte ∷ bytes }) ∷ [] in
        let behind = without taken letters (read_from opts (at + 1) None words) used [] false is in
        ap (in_front taken) (next None behind.more behind.is_reading) ∙ sym (in_front-append taken behind.more (read_from opts used None more)) ∙ ap (λ all. in_front all (read_from opts used None more)) behind.are_all

-- ---- one reading behind the other

abbrev pub at : Level → List Level → Beginning
at level around = record { level = level; around = around }

pub reads-then : (scope : TestScope) (from between to : Beginning) (tokens more : List TokenShape) → ReadsTokens scope from tokens between → ReadsTokens scope between more to → ReadsTokens scope from (tokens ++ more) to
reads-then scope from between to [] more first second = subst (λ b. ReadsTokens scope b more to) (sym first) second
reads-then scope from between to (token ∷ tokens) more first second = (first.0, first.1, reads-then scope (push from token) between to tokens more first.2 second)

pub reads-to : (scope : TestScope) (from to other : Beginning) (tokens : List TokenShape) → ReadsTokens scope from tokens to → to ≡ other → ReadsTokens scope from tokens other
reads-to scope from to other [] reads same = reads ∙ same
reads-to scope from to other (token ∷ tokens) reads same = (reads.0, reads.1, reads-to scope (push from token) to other tokens reads.2 same)

-- ---- where a program or directive is read

pub data Where : Type 0 where
  InChain : List Node → Where
  InDirectives : List Node → Where

abbrev pub level-at : Where → Head → Level
level-at (InChain nodes) head = Chained nodes (Current head)
level-at (InDirectives nodes) head = Directed nodes (Some head)

abbrev pub is-directive-at : Where → Bool
is-directive-at (InChain nodes) = false
is-directive-at (InDirectives directives) = true

-- the scope there, from that around
abbrev pub scope-there : TestScope → Where → TestScope
scope-there scope (InChain nodes) = scope_behind_all scope nodes
scope-there scope (InDirectives directives) = scope

abbrev pub head-of : Prog → List (List ℕ) → Option (List ℕ) → Places → Head
head-of program options waiting places = record { program = program; options = options; waiting = waiting; places = places }

-- a word of its own
pub own-text : (scope : TestScope) (around : List Level) (place : Where) (head more : Head) (text : List ℕ)
    → head_fault (scope-there (scope_within scope around) place) head head.waiting (is-directive-at place) (NextText text) ≡ None
    → text_for head head.waiting text ≡ Own more
    → ReadsTokens scope (at (level-at place head) around) (Text text ∷ []) (at (level-at place more) around)
own-text scope around (InChain nodes) head more text none own = (none, tt, ap (λ owned. at (chain_owned nodes head text owned) around) own)
own-text scope around (InDirectives directives) head more text none own = (none, tt, ap (λ owned. at (directive_owned directives head text owned) around) own)

-- tokens are read from this level to one that closes as this place, and whose end isn't wrong
pub record IsReadAs (scope : TestScope) (around : List Level) (from : Level) (tokens : List TokenShape) (place : Place) : Type 0 where
  pub end : Level
  pub reads : ReadsTokens scope (at from around) tokens (at end around)
  pub is_closed : closed end ≡ one_place place unplaced
  pub over : level_fault (scope_at (scope_within scope around) end) end Over ≡ None

-- a block of its own, from its Open to its Close
pub own-block : (scope : TestScope) (around : List Level) (place : Where) (head : Head) (start : Level) (tokens : List TokenShape) (block : Place)
    → head_fault (scope-there (scope_within scope around) place) head head.waiting (is-directive-at place) Group ≡ None
    → opened_at (kinds_left head) ≡ Some start
    → IsReadAs scope (level-at place head ∷ around) start tokens block
    → ReadsTokens scope (at (level-at place head) around) (Open ∷ (tokens ++ Close ∷ [])) (at (level-at place (with_place head (one_place block unplaced))) around)
own-block scope around (InChain nodes) head start tokens block none opens inner = (
  none,
  tt,
  subst (λ opened. ReadsTokens scope (at (chain_opened nodes head opened).inner ((chain_opened nodes head opened).outer ∷ around)) (tokens ++ Close ∷ []) (at (Chained nodes (Current (with_place head (one_place block unplaced)))) around)) (sym opens)
      (reads-then scope _ (at inner.end (Chained nodes (Current head) ∷ around)) _ tokens (Close ∷ []) inner.reads (inner.over, tt, ap (λ places. at (Chained nodes (Current (with_place head places))) around) inner.is_closed)),
)
own-block scope around (InDirectives nodes) head start tokens block none opens inner = (
  none,
  tt,
  subst (λ opened. ReadsTokens scope (at (directive_opened nodes head opened).inner ((directive_opened nodes head opened).outer ∷ around)) (tokens ++ Close ∷ []) (at (Directed nodes (Some (with_place head (one_place block unplaced)))) around)) (sym opens)
      (reads-then scope _ (at inner.end (Directed nodes (Some head) ∷ around)) _ tokens (Close ∷ []) inner.reads (inner.over, tt, ap (λ places. at (Directed nodes (Some (with_place head places))) around) inner.is_closed)),
)

-- ---- option words

-- an option word where options are still read
option-free : (scope : TestScope) (program : Prog) (options : List (List ℕ)) (in_directives : Bool) (text : List ℕ) (letters : List Letter) (used : ℕ) (is : Shown)
    → options_of (shape_of program).letters options ≡ LettersRead letters used [] false → shown_by (shape_of program).letters (NextText text) ≡ is
    → ((place : Option PlacedFault) → options_fault program letters false is (NextText text) place ≡ None)
    → head_fault scope (head-of program options None unplaced) None in_directives (NextText text) ≡ None
option-free scope program options in_directives text letters used is read shows none =
    rw (read, shows) (none _)

option-own : (program : Prog) (options : List (List ℕ)) (text : List ℕ) (letters : List Letter) (used : ℕ) (is : Shown) (more : Head)
    → options_of (shape_of program).letters options ≡ LettersRead letters used [] false → shown_by (shape_of program).letters (NextText text) ≡ is
    → ((place : Owned) → option_at (head-of program options None unplaced) text is place ≡ Own more)
    → text_for (head-of program options None unplaced) None text ≡ Own more
option-own program options text letters used is more read shows own =
    rw (read, shows) (own _)

literal-word : (text : List ℕ) (texts : List (List ℕ)) → are_literal (text ∷ texts) ≡ true → not (is_literal text) ≡ false
literal-word text texts literal = ap not (left_of (is_literal text) (list_all is_literal texts) literal)

-- a whole reading with one more word, of letters that don't wait
pub one-more-word : (opts : List Opt) (options : List (List ℕ)) (text : List ℕ) (letters more : List Letter) (used : ℕ) → read_from opts 1 None options ≡ LettersRead letters used [] false
    → read_from opts used None (text ∷ []) ≡ LettersRead more (used + 1) [] false → read_from opts 1 None (options ++ text ∷ []) ≡ LettersRead (letters ++ more) (used + 1) [] false
one-more-word opts options text letters more used read next = read-on opts 1 None options (text ∷ []) letters used read ∙ ap (in_front letters) next

pub dashes-read : (opts : List Opt) (text : List ℕ) (used : ℕ) → shown opts text ≡ Dashes → read_from opts used None (text ∷ []) ≡ LettersRead [] (used + 1) [] true
dashes-read opts text used shows = ap (λ is. word_read is used text [] (λ wanted. read_from opts (used + 1) wanted [])) shows

pub flags-read : (opts : List Opt) (text : List ℕ) (flags : List ℕ) (used : ℕ) → shown opts text ≡ Letters (Flags flags) → read_from opts used None (text ∷ []) ≡ LettersRead (map flag flags ++ []) (used + 1) [] false
flags-read opts text flags used shows = ap (λ is. word_read is used text [] (λ wanted. read_from opts (used + 1) wanted [])) shows

pub last-read : (opts : List Opt) (text : List ℕ) (before : List ℕ) (letter byte : ℕ) (bytes : List ℕ) (used : ℕ) → shown opts text ≡ Letters (Last before letter (byte ∷ bytes))
    → read_from opts used None (text ∷ []) ≡ LettersRead ((map flag before ++ with_value letter (record { word = used; from = length before + 2; text = byte ∷ bytes }) ∷ []) ++ []) (used + 1) [] false
last-read opts text before letter byte bytes used shows = ap (λ is. word_read is used text [] (λ wanted. read_from opts (used + 1) wanted [])) shows

pub value-read-on : (opts : List Opt) (text value : List ℕ) (before : List ℕ) (letter : ℕ) (used : ℕ) → shown opts text ≡ Letters (Last before letter [])
    → read_from opts used None (text ∷ value ∷ []) ≡ LettersRead (map flag before ++ (with_value letter (record { word = used + 1; from = 0; text = value }) ∷ [])) (used + 1 + 1) [] false
value-read-on opts text value before letter used shows = ap (λ is. word_read is used text (value ∷ []) (λ wanted. read_from opts (used + 1) wanted (value ∷ []))) shows

rule-keeps : (rule : Rule) (number from : ℕ) (text : List ℕ) → keeps_rule rule (Some (record { word = number; from = from; text = text })) ≡ true → (is_wrong_use rule text ≡ false) × (is_bad_number rule text ≡ false)
rule-keeps rule number from text keeps = neither_of (is_wrong_use rule text) (is_bad_number rule text) keeps

module _ (scope : TestScope) (around : List Level) (place : Where) (program : Prog) (opts : List Opt) (tables : (shape_of program).letters ≡ Some opts) where
  -- with these option words, and perhaps one that waits
  abbrev with-options : List (List ℕ) → Option (List ℕ) → Beginning
  with-options options waiting = at (level-at place (head-of program options waiting unplaced)) around

  abbrev test : Letter → Bool
  test letter = keeps_rule ((shape_of program).rule letter.letter) letter.value

  -- these words are read behind any whole reading, the first of them as the value of this letter where it waits
  abbrev Follow : List (List ℕ) → (end : ℕ) → (ended : Bool) → Type 0
  Follow words end ended = (before : List (List ℕ)) (letters more : List Letter) (used : ℕ) → read_from opts 1 None before ≡ LettersRead letters used [] false → read_from opts used None words ≡ LettersRead more end [] ended
      → are_literal words ≡ true → keep_rules (shape_of program).rule more ≡ true → ReadsTokens scope (with-options before None) (shapes_in (args_of_words words)) (with-options (before ++ words) None)

  abbrev FollowValue : List (List ℕ) → (end : ℕ) → (ended : Bool) → Type 0
  FollowValue words end ended = (before : List (List ℕ)) (option : List ℕ) (letters more : List Letter) (used : ℕ) (flags : List ℕ) (letter : ℕ) → read_from opts 1 None before ≡ LettersRead letters used [] false
      → shown opts option ≡ Letters (Last flags letter []) → read_from opts (used + 1) (Some letter) words ≡ LettersRead more end [] ended
      → are_literal words ≡ true → keep_rules (shape_of program).rule more ≡ true → ReadsTokens scope (with-options before (Some option)) (shapes_in (args_of_words words)) (with-options (before ++ option ∷ words) None)

  pub taken : (before : List (List ℕ)) (text : List ℕ) (letters : List Letter) (used : ℕ) (is : Shown) (more : Head) → read_from opts 1 None before ≡ LettersRead letters used [] false → shown opts text ≡ is
      → ((found : Option PlacedFault) → options_fault program letters false is (NextText text) found ≡ None)
      → ((owned : Owned) → option_at (head-of program before None unplaced) text is owned ≡ Own more)
      → ReadsTokens scope (with-options before None) (Text text ∷ []) (at (level-at place more) around)
  taken before text letters used is more whole shows none own =
      own-text scope around place (head-of program before None unplaced) more text
      (option-free (scope-there (scope_within scope around) place) program before (is-directive-at place) text letters used is (rw tables whole) (rw tables shows) none)
      (option-own program before text letters used is more (rw tables whole) (rw tables shows) own)

  onward : (before : List (List ℕ)) (text : List ℕ) (words : List (List ℕ)) (letters more rest : List Letter) (used end : ℕ) (ended : Bool) → Follow words end ended
      → read_from opts 1 None before ≡ LettersRead letters used [] false
      → ReadsTokens scope (with-options before None) (Text text ∷ []) (with-options (before ++ text ∷ []) None)
      → read_from opts used None (text ∷ []) ≡ LettersRead more (used + 1) [] false → read_from opts (used + 1) None words ≡ LettersRead rest end [] ended
      → are_literal words ≡ true → keep_rules (shape_of program).rule rest ≡ true
      → ReadsTokens scope (with-options before None) (Text text ∷ shapes_in (args_of_words words)) (with-options (before ++ text ∷ words) None)
  onward before text words letters more rest used end ended follow whole first one next literal keeps =
      reads-to scope _ (with-options ((before ++ text ∷ []) ++ words) None) _ (Text text ∷ shapes_in (args_of_words words))
      (reads-then scope _ (with-options (before ++ text ∷ []) None) _ (Text text ∷ []) (shapes_in (args_of_words words)) first
      (follow (before ++ text ∷ []) (letters ++ more) rest (used + 1) (one-more-word opts before text letters more used whole one) next literal keeps))
      (ap (λ (options : List (List ℕ)). with-options options None) (append_assoc before (text ∷ []) words))

  first-read : (before : List (List ℕ)) (text : List ℕ) (words : List (List ℕ)) (letters more : List Letter) (used end : ℕ) (ended : Bool) → Follow words end ended → FollowValue words end ended
      → read_from opts 1 None before ≡ LettersRead letters used [] false → are_literal (text ∷ words) ≡ true → keep_rules (shape_of program).rule more ≡ true
      → (is : Shown) → shown opts text ≡ is → word_read is used text words (λ wanted. read_from opts (used + 1) wanted words) ≡ LettersRead more end [] ended
      → ReadsTokens scope (with-options before None) (Text text ∷ shapes_in (args_of_words words)) (with-options (before ++ text ∷ words) None)
  first-read before text words letters more used end ended follow value whole literal rules Dashes shows reads =
      let none : words ≡ [] = cc in
      subst (λ (w : List (List ℕ)). ReadsTokens scope (with-options before None) (Text text ∷ shapes_in (args_of_words w)) (with-options (before ++ text ∷ w) None)) (sym none)
      (taken before text letters used Dashes (head-of program (before ++ text ∷ []) None unplaced) whole shows (λ found. refl) (λ owned. refl))
  first-read before text words letters more used end ended follow value whole literal rules (Letters (Flags flags)) shows reads =
      let behind = without (map flag flags) more (read_from opts (used + 1) None words) end [] ended reads in
      onward before text words letters (map flag flags ++ []) behind.more used end ended follow whole
      (taken before text letters used (Letters (Flags flags)) (head-of program (before ++ text ∷ []) None unplaced) whole shows (λ found. where-false _ _ (literal-word text words literal)) (λ owned. refl))
      (flags-read opts text flags used shows) behind.is_reading (right_of (is_literal text) (are_literal words) literal)
      (all-right test (map flag flags) behind.more (subst (λ all. keep_rules (shape_of program).rule all ≡ true) (sym behind.are_all) rules))
  first-read before text words letters more used end ended follow value whole literal rules (Letters (Last flags letter (byte ∷ bytes))) shows reads =
      let read_letters : List Letter = map flag flags ++ with_value letter (record { word = used; from = length flags + 2; text = byte ∷ bytes }) ∷ [] in
      let behind = without read_letters more (read_from opts (used + 1) None words) end [] ended reads in
      let all : list_all test (read_letters ++ behind.more) ≡ true = subst (λ all. keep_rules (shape_of program).rule all ≡ true) (sym behind.are_all) rules in
      let kept = rule-keeps ((shape_of program).rule letter) used (length flags + 2) (byte ∷ bytes) (left_of _ _ (all-right test (map flag flags) _ (all-left test read_letters behind.more all))) in
      onward before text words letters (read_letters ++ []) behind.more used end ended follow whole
      (taken before text letters used (Letters (Last flags letter (byte ∷ bytes))) (head-of program (before ++ text ∷ []) None unplaced) whole shows (λ found. or-none _ _ (where-false _ _ (literal-word text words literal)) (where-false _ _ kept.1)) (λ owned. refl))
      (last-read opts text flags letter byte bytes used shows) behind.is_reading (right_of (is_literal text) (are_literal words) literal) (all-right test read_letters behind.more all)
  first-read before text words letters more used end ended follow value whole literal rules (Letters (Last flags letter [])) shows reads =
      let behind = without (map flag flags) more (read_from opts (used + 1) (Some letter) words) end [] ended reads in
      reads-then scope _ (with-options before (Some text)) _ (Text text ∷ []) (shapes_in (args_of_words words))
      (taken before text letters used (Letters (Last flags letter [])) (head-of program before (Some text) unplaced) whole shows (λ found. or-none _ _ (where-false _ _ (literal-word text words literal)) refl) (λ owned. refl))
      (value before text letters behind.more used flags letter whole shows behind.is_reading (right_of (is_literal text) (are_literal words) literal)
      (all-right test (map flag flags) behind.more (subst (λ all. keep_rules (shape_of program).rule all ≡ true) (sym behind.are_all) rules)))
  first-read before text words letters more used end ended follow value whole literal rules read shows reads = absurd (cc)

  value-first : (before : List (List ℕ)) (option text : List ℕ) (words : List (List ℕ)) (letters more : List Letter) (used end : ℕ) (ended : Bool) (flags : List ℕ) (letter : ℕ) → Follow words end ended
      → read_from opts 1 None before ≡ LettersRead letters used [] false → shown opts option ≡ Letters (Last flags letter []) → read_from opts (used + 1) (Some letter) (text ∷ words) ≡ LettersRead more end [] ended
      → are_literal (text ∷ words) ≡ true → keep_rules (shape_of program).rule more ≡ true
      → ReadsTokens scope (with-options before (Some option)) (Text text ∷ shapes_in (args_of_words words)) (with-options (before ++ option ∷ text ∷ words) None)
  value-first before option text words letters more used end ended flags letter follow whole shows read literal rules =
      let value : Letter = with_value letter (record { word = used + 1; from = 0; text = text }) in
      let behind = without (value ∷ []) more (read_from opts (used + 1 + 1) None words) end [] ended read in
      let all : keep_rules (shape_of program).rule (value ∷ behind.more) ≡ true = subst (λ all. keep_rules (shape_of program).rule all ≡ true) (sym behind.are_all) rules in
      let kept = rule-keeps ((shape_of program).rule letter) (used + 1) 0 text (left_of _ _ all) in
      reads-to scope _ (with-options ((before ++ option ∷ text ∷ []) ++ words) None) _ (Text text ∷ shapes_in (args_of_words words))
      (reads-then scope _ (with-options (before ++ option ∷ text ∷ []) None) _ (Text text ∷ []) (shapes_in (args_of_words words))
      (own-text scope around place (head-of program before (Some option) unplaced) (head-of program (before ++ option ∷ text ∷ []) None unplaced) text
      (rw (tables, shows) (or-none _ _ (where-false _ _ (literal-word text words literal)) (or-none _ _ (where-false _ _ kept.0) (where-false _ _ kept.1))))
      refl)
      (follow (before ++ option ∷ text ∷ []) (letters ++ (map flag flags ++ value ∷ [])) behind.more (used + 1 + 1)
      (read-on opts 1 None before (option ∷ text ∷ []) letters used whole ∙ ap (in_front letters) (value-read-on opts option text flags letter used shows))
      behind.is_reading (right_of (is_literal text) (are_literal words) literal) (right_of _ _ all)))
      (ap (λ (options : List (List ℕ)). with-options options None) (append_assoc before (option ∷ text ∷ []) words))

  mutual
    -- option words are read behind a whole reading
    pub options-read : (words : List (List ℕ)) (end : ℕ) (ended : Bool) → Follow words end ended
    options-read [] end ended before letters more used whole read literal rules = ap (λ (options : List (List ℕ)). with-options options None) (sym (append-nil before))
    options-read (text ∷ words) end ended before letters more used whole read literal rules =
        first-read before text words letters more used end ended (options-read words end ended) (value-read words end ended) whole literal rules (shown opts text) refl read

    -- the value of the letter that waits, and the option words behind it
    value-read : (words : List (List ℕ)) (end : ℕ) (ended : Bool) → FollowValue words end ended
    value-read [] end ended before option letters more used flags letter whole shows read literal rules = absurd (cc)
    value-read (text ∷ words) end ended before option letters more used flags letter whole shows read literal rules =
        value-first before option text words letters more used end ended flags letter (options-read words end ended) whole shows read literal rules
