-- How the words are walked along, with the truth so far in place of the trees. Only the code's contracts need it.
use Rattle.std.specs.Prelude.{◌≡◌, ℕ, suc, ◌-◌, Bool, true, false, not, nat_lt, List, [], ◌∷◌, length, slice_get, slice_index_or, Option, None, Some, unwrap_or, is_some, Result, Ok, Err}
use Rattle.el_words.specs.Number.{number_of}
use Rattle.el_test.specs.declared.operators.Question.{Question}
use Rattle.el_test.specs.declared.operators.Unary.{Unary}
use Rattle.el_test.specs.declared.operators.Unary.TheVariants.{Filled, Blank, Asked}
use Rattle.el_test.specs.declared.operators.Prefix.{Prefix}
use Rattle.el_test.specs.declared.operators.Prefix.TheVariants.{Not, Open, On}
use Rattle.el_test.specs.declared.operators.Binary.{Binary}
use Rattle.el_test.specs.declared.operators.Joiner.{Joiner}
use Rattle.el_test.specs.declared.operators.Joiner.TheVariants.{And, Or, Close}
use Rattle.el_test.specs.declared.fault.TestKind.{TestKind}
use Rattle.el_test.specs.declared.fault.TestKind.TheVariants.{Incomplete, Unexpected, TooDeep}
use Rattle.el_test.specs.declared.walking.Stop.{Stop}
use Rattle.el_test.specs.declared.walking.Standing.{Standing}
use Rattle.el_test.specs.declared.walking.Standing.TheVariants.{Open as Undecided, Lost, Settled}
use Rattle.el_test.specs.declared.walking.Frame.{Frame}
use Rattle.el_test.specs.declared.walking.Frame.TheVariants.{Not as NotFrame, Group}
use Rattle.el_test.specs.declared.walking.Look.{Look}
use Rattle.el_test.specs.declared.walking.Look.TheVariants.{Compared, Known, Asks as Asking, Not as NotLook, Open as OpenLook}
use Rattle.el_test.specs.declared.walking.Halt.{Halt}
use Rattle.el_test.specs.declared.walking.Halt.TheVariants.{Wrong, Failed as FailedHalt, NoMemory}
use Rattle.el_test.specs.declared.asker.AskEvent.{AskEvent}
use Rattle.el_test.specs.declared.ask_answers.AskAnswer.{AskAnswer}
use Rattle.el_test.specs.declared.ask_answers.AskAnswer.TheVariants.{Yes, No, Fault}
use Rattle.el_test.specs.declared.asker.AskFault.TheVariants.{Failed as AskFailed}
use Rattle.el_test.specs.Operators.{binary_named, prefix_named, joiner_named, is_numeric, holds}
use Rattle.el_test.specs.Reading.{stop, numbers_checked}
use Rattle.el_test.specs.Truth.{Verdict, Failed, Starved, verdict_of, has_bytes}

-- what is open, from the inside outwards; how the innermost level stands; how many words of the test are still ahead; and
-- the test's value, once it was read
pub record Walking : Type 0 where
  pub frames : List Frame
  pub standing : Standing
  pub ahead : ℕ
  pub value : Option Bool

-- ---- what begins at a word, with so many words left from it on

-- the binary operator of a comparison that begins here
unfoldable pub binary_at : (second third : Option (List ℕ)) → Option Binary
binary_at (Some second) (Some third) = binary_named second
binary_at _ _ = None

-- a first word that begins no test, before one last word
abbrev pub stray_if : Bool → Result Look Stop
stray_if true = stop Incomplete 0
stray_if false = stop Unexpected 1

-- a first word that begins no test
abbrev pub stray : (second third : Option (List ℕ)) → (left : ℕ) → Result Look Stop
stray None third left = stop Incomplete 0
stray (Some second) None left = stray_if (is_some (binary_named second))
stray (Some second) (Some third) left = stop Unexpected (left - 1)

-- an operator on one word, with that word
abbrev pub text_look : Unary → (text : List ℕ) → Look
text_look Filled text = Known (has_bytes text)
text_look Blank text = Known (not (has_bytes text))
text_look (Asked question) text = Asking question

-- the same, where that word may be missing
abbrev pub unary_look : Unary → (second : Option (List ℕ)) → Result Look Stop
unary_look operator None = stop Incomplete 0
unary_look operator (Some text) = Ok (text_look operator text)

-- a test that is no comparison
unfoldable pub prefix_look : Option Prefix → (second third : Option (List ℕ)) → (left : ℕ) → Result Look Stop
prefix_look None second third left = stray second third left
prefix_look (Some Not) second third left = Ok NotLook
prefix_look (Some Open) second third left = Ok OpenLook
prefix_look (Some (On operator)) second third left = unary_look operator second

-- a comparison, or another test
unfoldable pub binary_look : Option Binary → (first : List ℕ) → (second third : Option (List ℕ)) → (left : ℕ) → Result Look Stop
binary_look None first second third left = prefix_look (prefix_named first) second third left
binary_look (Some operator) first second third left =
    numbers_checked (is_numeric operator) (is_some (number_of first)) (is_some (number_of (unwrap_or third []))) left (left - 2) (Compared (holds operator first (unwrap_or third [])))

-- what begins here
unfoldable pub look_of : (first : List ℕ) → (second third : Option (List ℕ)) → (left : ℕ) → Result Look Stop
look_of first second third left = binary_look (binary_at second third) first second third left

-- ---- standings

-- within a `(`, and what stands so around it
abbrev pub inside : Standing → Standing
inside Undecided = Undecided
inside _ = Settled

-- behind `-a`, and behind `-o`
abbrev pub behind_and : Standing → Bool → Standing
behind_and Undecided true = Undecided
behind_and Undecided false = Lost
behind_and standing value = standing

abbrev pub behind_or : Standing → Bool → Standing
behind_or Undecided true = Settled
behind_or Undecided false = Undecided
behind_or Lost value = Undecided
behind_or Settled value = Settled

-- at the end of the level
abbrev pub value_of : Standing → Bool → Bool
value_of Undecided value = value
value_of Lost value = false
value_of Settled value = true

-- ---- steps

-- what a word does: the walk goes on, asks a question on the next word, or stops
pub data Act : Type 0 where
  Went : Walking → Act
  Asks : Question → Walking → Act
  Halts : Stop → Act

-- a fault
abbrev pub halt : TestKind → ℕ → Act
halt kind left = Halts (record { kind = kind; left = left })

-- a test was read, with so many words ahead
abbrev pub passed : ℕ → Bool → Walking → Walking
passed ahead value w = record { frames = w.frames; standing = w.standing; ahead = ahead; value = Some value }

-- a question is asked only where it decides
abbrev pub asks_if : Standing → Question → Walking → Act
asks_if Undecided question w = Asks question w
asks_if _ question w = Went w

-- one deeper, where there is room
abbrev pub opened : Bool → (left : ℕ) → Walking → Act
opened true left w = Went w
opened false left w = halt TooDeep left

-- a test begins
unfoldable pub begun : Result Look Stop → Walking → (left : ℕ) → Act
begun (Err stopped) w left = Halts stopped
begun (Ok (Compared value)) w left = Went (passed 2 value w)
begun (Ok (Known value)) w left = Went (passed 1 value w)
begun (Ok (Asking question)) w left = asks_if w.standing question (passed 1 false w)
begun (Ok NotLook) w left = opened (nat_lt (length w.frames) 255) left (record { frames = NotFrame ∷ w.frames; standing = w.standing; ahead = 0; value = None })
begun (Ok OpenLook) w left = opened (nat_lt (length w.frames) 255) left (record { frames = Group w.standing ∷ w.frames; standing = inside w.standing; ahead = 0; value = None })

-- what waits around a test and its `!`, and its value with them
pub record Unnegated : Type 0 where
  pub frames : List Frame
  pub value : Bool

-- each `!` directly before the test turns its value
abbrev pub unnegated : List Frame → Bool → Unnegated
unnegated [] value = record { frames = []; value = value }
unnegated (NotFrame ∷ frames) value = unnegated frames (not value)
unnegated (Group standing ∷ frames) value = record { frames = Group standing ∷ frames; value = value }

-- a `!` waits innermost
abbrev pub starts_with_not : List Frame → Bool
starts_with_not (NotFrame ∷ frames) = true
starts_with_not _ = false

-- a `)` ends a group
abbrev pub left_group : List Frame → Bool → (left : ℕ) → Act
left_group (Group standing ∷ frames) value left = Went (record { frames = frames; standing = standing; ahead = 0; value = Some value })
left_group frames value left = halt Unexpected left

-- what stands behind a test
unfoldable pub joined_at : Option Joiner → Unnegated → Standing → (left : ℕ) → Act
joined_at None u standing left = halt Unexpected left
joined_at (Some And) u standing left = Went (record { frames = u.frames; standing = behind_and standing u.value; ahead = 0; value = None })
joined_at (Some Or) u standing left = Went (record { frames = u.frames; standing = behind_or standing u.value; ahead = 0; value = None })
joined_at (Some Close) u standing left = left_group u.frames (value_of standing u.value) left

-- by what the walk waits for
abbrev pub step_in : (ahead : ℕ) → (value : Option Bool) → (word : List ℕ) → (rest : List (List ℕ)) → Walking → Act
step_in (suc ahead) value word rest w = Went (record { frames = w.frames; standing = w.standing; ahead = ahead; value = value })
step_in Prim.Native.Nat.zero None word rest w = begun (look_of word (slice_get rest 0) (slice_get rest 1) (suc (length rest))) w (suc (length rest))
step_in Prim.Native.Nat.zero (Some value) word rest w = joined_at (joiner_named word) (unnegated w.frames value) w.standing (suc (length rest))

-- one word further
unfoldable pub walk_step : (word : List ℕ) → (rest : List (List ℕ)) → Walking → Act
walk_step word rest w = step_in w.ahead w.value word rest w

-- what a step answers and leaves; it may want memory
abbrev pub Did : Act → Result (Option Question) Halt → Walking → Type 0
Did act (Ok None) new = act ≡ Went new
Did act (Ok (Some question)) new = act ≡ Asks question new
Did act (Err (Wrong stopped)) new = act ≡ Halts stopped
Did act (Err FailedHalt) new = ⊥
Did act (Err NoMemory) new = Unit {0}

-- ---- the end

-- nothing is open any more
abbrev pub ended_in : List Frame → Bool → Result Bool Stop
ended_in [] value = Ok value
ended_in (frame ∷ frames) value = stop Incomplete 0

-- by what the walk waits for
abbrev pub ended_with : (ahead : ℕ) → (value : Option Bool) → Walking → Result Bool Stop
ended_with Prim.Native.Nat.zero (Some value) w = ended_in (unnegated w.frames value).frames (value_of w.standing (unnegated w.frames value).value)
ended_with ahead value w = stop Incomplete 0

-- the end of the words
unfoldable pub ended_of : Walking → Result Bool Stop
ended_of w = ended_with w.ahead w.value w

-- ---- the whole walk

-- the asks made, the answers left, and the verdict or the fault
pub record Walked : Type 0 where
  pub asks : List AskEvent
  pub left : List AskAnswer
  pub end : Result Verdict Stop

-- how a walk comes out
abbrev pub told : Result Bool Stop → Result Verdict Stop
told (Ok value) = Ok (verdict_of value)
told (Err stopped) = Err stopped

-- an ask before what follows
abbrev pub before : AskEvent → Walked → Walked
before event w = record { asks = event ∷ w.asks; left = w.left; end = w.end }

-- the answer to the question
abbrev pub answered : Bool → Walking → Walking
answered value w = record { frames = w.frames; standing = w.standing; ahead = w.ahead; value = Some value }

-- what an act comes to, with what is done after it
abbrev pub acted : Act → (dir path : List ℕ) → List AskAnswer → (Walking → List AskAnswer → Walked) → Walked
acted (Went w) dir path answers more = more w answers
acted (Halts stopped) dir path answers more = record { asks = []; left = answers; end = Err stopped }
acted (Asks question w) dir path [] more = record { asks = []; left = []; end = Ok Starved }
acted (Asks question w) dir path (Yes ∷ answers) more = before (record { dir = dir; path = path; question = question; answer = Ok true }) (more (answered true w) answers)
acted (Asks question w) dir path (No ∷ answers) more = before (record { dir = dir; path = path; question = question; answer = Ok false }) (more (answered false w) answers)
acted (Asks question w) dir path (Fault ∷ answers) more =
    record { asks = record { dir = dir; path = path; question = question; answer = Err AskFailed } ∷ []; left = answers; end = Ok Failed }

-- the words from here on, on these answers
unfoldable pub walk : (dir : List ℕ) → (words : List (List ℕ)) → Walking → List AskAnswer → Walked
walk dir [] w answers = record { asks = []; left = answers; end = told (ended_of w) }
walk dir (word ∷ rest) w answers = acted (walk_step word rest w) dir (slice_index_or rest 0 []) answers (λ next left. walk dir rest next left)

-- nothing is open; asked, or only read
abbrev pub fresh : Standing → Walking
fresh standing = record { frames = []; standing = standing; ahead = 0; value = None }
