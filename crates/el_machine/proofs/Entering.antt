-- A program that takes memory only for a message reads its front, and then acts.
use Rattle.el_room.proofs.Vocabulary.{false≢true, Prog, Multisubstitute, Exit, Fdmove, Fdclose, Fdswap, Fixed, OptionalWord, Strictness, Letter, Reading, Unknown, NoValue, LettersRead, shape_of, Front, Lacking, Whole, Taken, options_of, front_of, Handle, gives, and_go_on, State, IsHeard, Read, Told, complains, reads, told_by, strictness_of, front_told, warnings, after_telling, IsRefusal}
use Rattle.std.proofs.Common.{◌≡◌, ℕ, ◌<◌, Bool, true, false, List, [], ◌∷◌, Option, drop, refl, ap, arith}
use Rattle.el_options.specs.Shapes.{Shape, is_usage_fault, is_number_fault}
use Rattle.el_options.specs.Fronts.{behind_letters, front_by, places_front, directives_front}
use Rattle.el_front.specs.Fronts.{warned_of, reading, IsMessageDue, IsRead}
use Rattle.el_machine.specs.Effects.{takes_no_memory}

-- ---- programs without blocks warn of nothing

abbrev WarnsOfNone : Prog → Front Taken → Type 0
WarnsOfNone program front = warned_of (told_by program front) ≡ 0

module _ (program : Prog) (strict : Strictness) where
  none_behind : (usage number : Bool) (letters : List Letter) (places : Front Taken) → WarnsOfNone program places → WarnsOfNone program (behind_letters usage number letters places)
  none_behind true number letters places none = refl
  none_behind false true letters places none = refl
  none_behind false false letters (Lacking count lack) none = none
  none_behind false false letters (Whole count taken) none = none

  none_by : (shape : Shape) (reading : Reading) → ((rest : List (List ℕ)) → WarnsOfNone program (places_front (directives_front strict) strict shape.places rest))
      → WarnsOfNone program (front_by shape reading (places_front (directives_front strict) strict shape.places))
  none_by shape (Unknown letter) places = refl
  none_by shape (NoValue letter) places = refl
  none_by shape (LettersRead letters used rest ended) places = none_behind (is_usage_fault shape letters) (is_number_fault shape letters) letters _ (places rest)

  optional_word : (words : List (List ℕ)) → WarnsOfNone program (places_front (directives_front strict) strict (OptionalWord ∷ []) words)
  optional_word [] = refl
  optional_word (word ∷ words) = refl

  one_word : (words : List (List ℕ)) → WarnsOfNone program (places_front (directives_front strict) strict (Fixed ∷ []) words)
  one_word [] = refl
  one_word (word ∷ words) = refl

  two_words : (words : List (List ℕ)) → WarnsOfNone program (places_front (directives_front strict) strict (Fixed ∷ Fixed ∷ []) words)
  two_words [] = refl
  two_words (word ∷ []) = refl
  two_words (word ∷ behind ∷ words) = refl

front_warned : (program : Prog) (strict : Strictness) → takes_no_memory program ≡ true → (words : List (List ℕ)) → WarnsOfNone program (front_of strict program words)
unfolding front_of shape_of
front_warned Exit strict none words = none_by Exit strict (shape_of Exit) (options_of (shape_of Exit).letters words) (optional_word Exit strict)
front_warned Fdclose strict none words = none_by Fdclose strict (shape_of Fdclose) (options_of (shape_of Fdclose).letters words) (one_word Fdclose strict)
front_warned Fdmove strict none words = none_by Fdmove strict (shape_of Fdmove) (options_of (shape_of Fdmove).letters words) (two_words Fdmove strict)
front_warned Fdswap strict none words = none_by Fdswap strict (shape_of Fdswap) (options_of (shape_of Fdswap).letters words) (two_words Fdswap strict)
front_warned _ strict none words = absurd (false≢true none)

-- ---- what they read

-- a message is due, for which number 2 holds a handle
abbrev IsDue : (fds : List (Option Handle)) → Told → Type 0
IsDue fds (complains count trouble) = IsHeard fds
IsDue fds (reads count read) = (0 < count) × IsHeard fds

is_due : (program : Prog) (fds : List (Option Handle)) (told : Told) → takes_no_memory program ≡ true → IsMessageDue program fds told → IsDue fds told
is_due Multisubstitute fds told none due = absurd (false≢true none)
is_due _ fds (complains count trouble) none due = due
is_due _ fds (reads count read) none due = due

module _ (program : Prog) (words : List (List ℕ)) (state : State) (none : takes_no_memory program ≡ true) where
  no_warnings : warned_of (front_told (strictness_of state.env) program words) ≡ 0
  no_warnings = front_warned program (strictness_of state.env) none (drop 1 words)

  refused_by : (told : Told) → warned_of told ≡ 0 → IsDue state.fds told → IsRefusal program state (after_telling program state told)
  unfolding after_telling warnings and_go_on
  refused_by (complains count trouble) zero due = rw zero (record { trouble = trouble; is = refl; heard = due })
  refused_by (reads count read) zero due = let more : 0 < count = due.0 in absurd (omega (arith, more, zero))

  -- a message is due
  pub reading_refused : IsMessageDue program state.fds (front_told (strictness_of state.env) program words) → IsRefusal program state (reading program words state)
  unfolding reading
  reading_refused due = refused_by (front_told (strictness_of state.env) program words) no_warnings (is_due program state.fds (front_told (strictness_of state.env) program words) none due)

  gives_by : (told : Told) (read : Read) → warned_of told ≡ 0 → IsRead told read → after_telling program state told ≡ gives read
  unfolding after_telling warnings and_go_on
  gives_by (complains count trouble) read zero is = absurd is
  gives_by (reads count told) read zero is = rw zero (ap gives is)

  -- this was read
  pub reading_gives : (read : Read) → IsRead (front_told (strictness_of state.env) program words) read → reading program words state ≡ gives read
  unfolding reading
  reading_gives read is = gives_by (front_told (strictness_of state.env) program words) read no_warnings is
