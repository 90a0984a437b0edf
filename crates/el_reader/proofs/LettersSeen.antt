-- What is seen of letters: of those of a word and of all words. It decides the marks, as one of a group is in force exactly where one of
-- them was read.
use Rattle.el_script.proofs.Vocabulary.{or_assoc, or-false, common_steps, bytes_eq, list_any, find, Prog, Letter, flag, Cluster, Flags, Last, Bad, after_flag, Dashes, Letters, takes, cluster_by, cluster_of, shown_behind_dash, LettersRead, Shown, shown, read_from, Opt, shape_of, options_of, is_among, last_among, if_this, OptionNotLiteral, At, is_literal, letters_in, Waits, shown_by, ends_in, One, Many, define_mark, importas_mark}
use Rattle.std.proofs.Common.{◌≡◌, ℕ, List, [], ◌∷◌, ◌++◌, map, refl, sym, ap, ◌∙◌, if◌then◌else◌, ◌==◌, true≢false, Bool, ◌≤◌, ◌-◌, length, take, drop, slice_index_or, Some, Ok, Err, false, ap₂, arith, true, append-nil, Option, None, subst, ◌||◌, not, cond, reverse}
use Rattle.std.specs.Prelude.{is_some}
use Rattle.std.proofs.lemmas.Bool.Decides.{Decides-eqb, same_from_decides}
use Rattle.std.proofs.lemmas.List.Sorted.{list_any-IsPermutation, IsPermutation-reverse}
use Rattle.el_options.specs.Reading.{in_front}
use Rattle.el_options.specs.Shapes.{takes_of, takes_in}
use Rattle.el_tree.specs.Faults.{Text}
use Rattle.el_tree.proofs.HeadReadings.{read-on, dashes-read, flags-read, last-read, value-read-on}
use Rattle.el_reader.specs.declared.seen.LettersSeen.{LettersSeen}
use Rattle.el_reader.specs.declared.role.Part.TheVariants.{Option as OptionPart}
use Rattle.el_reader.specs.Roles.{nothing_seen, seen_letter, both_seen, seen_of, seen_in, ends_options}
use Rattle.el_reader.specs.Known.{value_judged, letters_judged, word_judged, mark_of}

both-assoc : (a b c : LettersSeen) → both_seen (both_seen a b) c ≡ both_seen a (both_seen b c)
both-assoc a b c = λ i. record { any = or_assoc a.any b.any c.any i; split = or_assoc a.split b.split c.split i; default = or_assoc a.default b.default c.default i; puts = or_assoc a.puts b.puts c.puts i }

pub both-nothing : (a : LettersSeen) → both_seen a nothing_seen ≡ a
both-nothing a = λ i. record { any = or-false a.any i; split = or-false a.split i; default = or-false a.default i; puts = or-false a.puts i }

seen-append : (a b : List Letter) → seen_of (a ++ b) ≡ both_seen (seen_of a) (seen_of b)
seen-append [] b = refl
seen-append (read ∷ a) b = ap (both_seen (seen_letter read.letter)) (seen-append a b) ∙ sym (both-assoc (seen_letter read.letter) (seen_of a) (seen_of b))

-- ---- the letters of an option word, one by one

after-judged : (program : Prog) (seen : LettersSeen) (letter : ℕ) (cluster : Cluster) → letters_judged program seen (after_flag letter cluster) ≡ letters_judged program (both_seen seen (seen_letter letter)) cluster
after-judged program seen letter (Flags letters) = ap (λ seen. Ok (OptionPart seen false)) (sym (both-assoc seen (seen_letter letter) (seen_of (map flag letters))))
after-judged program seen letter (Last before last value) =
    ap (λ seen. value_judged program seen last value)
    (ap (both_seen seen) (both-assoc (seen_letter letter) (seen_of (map flag before)) (seen_letter last)) ∙ sym (both-assoc seen (seen_letter letter) (both_seen (seen_of (map flag before)) (seen_letter last))))
after-judged program seen letter (Bad bad) = refl

take-rest : (letter : ℕ) (more : List ℕ) → take (length (letter ∷ more) - 1) (drop 1 (letter ∷ more)) ≡ more
take-rest letter more = grind (arith, common_steps)

-- a letter without a value, behind those before it
pub letter-judged : (program : Prog) (opts : List Opt) (letters rest : List ℕ) (seen all : LettersSeen) → 1 ≤ length rest → (shape_of program).letters ≡ Some opts → takes_of (shape_of program) (slice_index_or rest 0 0) ≡ Some false
    → letters_judged program nothing_seen (cluster_of opts letters) ≡ letters_judged program seen (cluster_of opts rest) → all ≡ both_seen seen (seen_letter (slice_index_or rest 0 0))
    → letters_judged program nothing_seen (cluster_of opts letters) ≡ letters_judged program all (cluster_of opts (take (length rest - 1) (drop 1 rest)))
letter-judged program opts letters [] seen all there is takes same sees = absurd (omega (arith, there))
letter-judged program opts letters (letter ∷ more) seen all there is takes same sees =
    let none : takes_in (Some opts) letter ≡ Some false = ap (λ l. takes_in l letter) (sym is) ∙ takes in
    same
    ∙ ap (λ t. letters_judged program seen (cluster_by t letter more (cluster_of opts more))) none
    ∙ after-judged program seen letter (cluster_of opts more)
    ∙ ap₂ (λ (seen : LettersSeen) (more : List ℕ). letters_judged program seen (cluster_of opts more)) (sym sees) (sym (take-rest letter more))

-- what stands behind a dash, where it is neither nothing nor another dash
pub dash-judged : (program : Prog) (opts : List Opt) (text bytes : List ℕ) (literal : Bool) → (length bytes == 0) ≡ false → bytes_eq bytes (45 ∷ []) ≡ false → is_literal text ≡ literal
    → Some (if literal then letters_judged program nothing_seen (cluster_of opts bytes) else Err (At OptionNotLiteral)) ≡ word_judged program text (shown_behind_dash opts bytes)
dash-judged program opts text [] literal some other is = absurd (true≢false some)
dash-judged program opts text (byte ∷ bytes) literal some other is =
    ap (λ literal. Some (if literal then letters_judged program nothing_seen (cluster_of opts (byte ∷ bytes)) else Err (At OptionNotLiteral))) (sym is)
    ∙ sym (ap (λ dashes. word_judged program text (if dashes then Dashes else Letters (cluster_of opts (byte ∷ bytes)))) other)

-- ---- option words

-- with more words this is seen besides, and the options are over or not
abbrev pub SeesMore : Option (List Opt) → (options more : List (List ℕ)) → LettersSeen → (ended : Bool) → Type 0
SeesMore opts options more seen ended =
    (seen_of (letters_in (options_of opts (options ++ more))) ≡ both_seen (seen_of (letters_in (options_of opts options))) seen) × (ends_in (options_of opts (options ++ more)) ≡ ended)

-- an option word of known letters that waits for nothing
abbrev pub IsOption : Shown → Type 0
IsOption Dashes = Unit {0}
IsOption (Letters (Flags flags)) = Unit {0}
IsOption (Letters (Last before letter (byte ∷ bytes))) = Unit {0}
IsOption read = ⊥

value-seen : (before : List ℕ) (value : Letter) → seen_of (map flag before ++ value ∷ []) ≡ both_seen (seen_of (map flag before)) (seen_letter value.letter)
value-seen before value = seen-append (map flag before) (value ∷ []) ∙ ap (both_seen (seen_of (map flag before))) (both-nothing (seen_letter value.letter))

module _ (opts : List Opt) (options : List (List ℕ)) (letters : List Letter) (used : ℕ) (whole : read_from opts 1 None options ≡ LettersRead letters used [] false) where
  sees : (more : List (List ℕ)) (added : List Letter) (next : ℕ) (ended : Bool) (seen : LettersSeen) → read_from opts used None more ≡ LettersRead added next [] ended → seen_of added ≡ seen → SeesMore (Some opts) options more seen ended
  sees more added next ended seen reads adds =
      let all = read-on opts 1 None options more letters used whole ∙ ap (in_front letters) reads in
      (ap (λ reading. seen_of (letters_in reading)) all ∙ seen-append letters added ∙ ap₂ both_seen (sym (ap (λ reading. seen_of (letters_in reading)) whole)) adds, ap ends_in all)

  one-sees : (text : List ℕ) (read : Shown) → shown opts text ≡ read → IsOption read → SeesMore (Some opts) options (text ∷ []) (seen_in read) (ends_options read)
  one-sees text Dashes shows option = sees (text ∷ []) [] _ true _ (dashes-read opts text used shows) refl
  one-sees text (Letters (Flags flags)) shows option = sees (text ∷ []) _ _ false _ (flags-read opts text flags used shows) (ap seen_of (append-nil (map flag flags)))
  one-sees text (Letters (Last before letter (byte ∷ bytes))) shows option =
      sees (text ∷ []) _ _ false _ (last-read opts text before letter byte bytes used shows) (ap seen_of (append-nil _) ∙ value-seen before _)
  one-sees text read shows option = absurd option

pub option-sees : (opts : Option (List Opt)) (options : List (List ℕ)) (text : List ℕ) (letters : List Letter) (used : ℕ) (read : Shown) → options_of opts options ≡ LettersRead letters used [] false → shown_by opts (Text text) ≡ read → IsOption read
    → SeesMore opts options (text ∷ []) (seen_in read) (ends_options read)
option-sees None options text letters used read whole shows option = absurd (subst IsOption (sym shows) option)
option-sees (Some opts) options text letters used read whole shows option = one-sees opts options letters used whole text read shows option

-- an option word, and the value that it waits for
pub value-sees : (opts : Option (List Opt)) (options : List (List ℕ)) (text value : List ℕ) (letters : List Letter) (used : ℕ) → options_of opts options ≡ LettersRead letters used [] false → Waits opts text
    → SeesMore opts options (text ∷ value ∷ []) (seen_in (shown_by opts (Text text))) false
value-sees None options text value letters used whole waits = absurd waits
value-sees (Some opts) options text value letters used whole (flags, letter, shows) =
    subst (λ (read : Shown). SeesMore (Some opts) options (text ∷ value ∷ []) (seen_in read) false) (sym shows)
    (sees opts options letters used whole (text ∷ value ∷ []) _ _ false _ (value-read-on opts text value flags letter used shows) (value-seen flags _))

-- ---- the last of a group that was read

eqb-sym : (a b : ℕ) → (a == b) ≡ (b == a)
eqb-sym a b = same_from_decides (a == b) (b == a) (Decides-eqb a b) (λ e. sym ((Decides-eqb b a).0 e), λ e. (Decides-eqb b a).1 (sym e))

-- one of a group is in force, where this one of its letters was read last
abbrev any_in_force : List ℕ → Option Letter → Bool
any_in_force group last = list_any (λ letter. is_some (if_this letter last)) group

if-this : (letter : ℕ) (read : Letter) → is_some (if_this letter (Some read)) ≡ (letter == read.letter)
if-this letter read = by (read.letter == letter) ∙ eqb-sym read.letter letter
  where
    by : (same : Bool) → is_some (cond same (Some read) None) ≡ same
    by true = refl
    by false = refl

-- where none was read, none is in force
none-in-force : (group : List ℕ) → any_in_force group None ≡ false
none-in-force [] = refl
none-in-force (letter ∷ group) = none-in-force group

one-in-force : (group : List ℕ) (read : Letter) → any_in_force group (Some read) ≡ is_among group read.letter
one-in-force [] read = refl
one-in-force (letter ∷ group) read = ap₂ (λ here more. here || more) (if-this letter read) (one-in-force group read)

module _ (group : List ℕ) where
  abbrev is_read : Letter → Bool
  is_read read = is_among group read.letter

  found-in-force : (letters : List Letter) → any_in_force group (find is_read letters) ≡ list_any is_read letters
  found-in-force [] = none-in-force group
  found-in-force (read ∷ letters) = by (is_read read) (one-in-force group read) (found-in-force letters)
    where
      by : (here : Bool) → any_in_force group (Some read) ≡ here → any_in_force group (find is_read letters) ≡ list_any is_read letters → any_in_force group (cond here (Some read) (find is_read letters)) ≡ (here || list_any is_read letters)
      by true one more = one
      by false one more = more

  -- one of a group is in force where one of them was read, as this part of what is seen says
  group-seen : (part : LettersSeen → Bool) → false ≡ part nothing_seen → ((letter : ℕ) (more : LettersSeen) → (is_among group letter || part more) ≡ part (both_seen (seen_letter letter) more))
      → (letters : List Letter) → any_in_force group (last_among group letters) ≡ part (seen_of letters)
  group-seen part none one letters = found-in-force (reverse letters) ∙ sym (list_any-IsPermutation is_read letters (reverse letters) (IsPermutation-reverse letters)) ∙ by letters
    where
      by : (letters : List Letter) → list_any is_read letters ≡ part (seen_of letters)
      by [] = none
      by (read ∷ letters) = ap (λ more. is_read read || more) (by letters) ∙ one read.letter (seen_of letters)

-- ---- the marks

letter-seen : (letter : ℕ) (part : LettersSeen → Bool) → false ≡ part nothing_seen → ((read : ℕ) (more : LettersSeen) → ((read == letter) || part more) ≡ part (both_seen (seen_letter read) more))
    → (letters : List Letter) → is_some (if_this letter (last_among (letter ∷ []) letters)) ≡ part (seen_of letters)
letter-seen letter part none one letters =
    sym (or-false (is_some (if_this letter (last_among (letter ∷ []) letters))))
    ∙ group-seen (letter ∷ []) part none (λ read more. ap (λ here. here || part more) (or-false (letter == read) ∙ eqb-sym letter read) ∙ one read more) letters

-- `E` is in force where it was read
pub puts-in-force : (letters : List Letter) → is_some (if_this 69 (last_among (69 ∷ []) letters)) ≡ (seen_of letters).puts
puts-in-force letters = letter-seen 69 (λ seen. seen.puts) refl (λ read more. refl) letters

split-in-force : (letters : List Letter) → is_some (if_this 115 (last_among (115 ∷ []) letters)) ≡ (seen_of letters).split
split-in-force letters = letter-seen 115 (λ seen. seen.split) refl (λ read more. refl) letters

default-in-force : (letters : List Letter) → (is_some (if_this 105 (last_among (105 ∷ 68 ∷ []) letters)) || is_some (if_this 68 (last_among (105 ∷ 68 ∷ []) letters))) ≡ (seen_of letters).default
default-in-force letters =
    ap (λ b. is_some (if_this 105 (last_among (105 ∷ 68 ∷ []) letters)) || b) (sym (or-false (is_some (if_this 68 (last_among (105 ∷ 68 ∷ []) letters)))))
    ∙ group-seen (105 ∷ 68 ∷ []) (λ seen. seen.default) refl (λ read more. rw (or-false (68 == read), eqb-sym 105 read, eqb-sym 68 read) refl) letters

pub define-seen : (letters : List Letter) → define_mark letters ≡ mark_of (seen_of letters).split
unfolding shape_of
define-seen letters = ap (λ split. cond split Many One) (split-in-force letters)

pub importas-seen : (letters : List Letter) → importas_mark letters ≡ mark_of ((seen_of letters).split || not (seen_of letters).default)
unfolding shape_of
importas-seen letters = ap₂ (λ split default. cond split Many (cond default One Many)) (split-in-force letters) (default-in-force letters) ∙ by (seen_of letters).split (seen_of letters).default
  where
    by : (split default : Bool) → cond split Many (cond default One Many) ≡ mark_of (split || not default)
    by true default = refl
    by false true = refl
    by false false = refl
