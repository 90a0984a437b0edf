-- How words are read as an expression, from the left, word by word.
--
-- Where a test is due, the first of these holds:
--   no word is left                                            Incomplete
--   behind the word stand a binary operator and a third word   a comparison; an operand that is no number is BadNumber
--   the word is `!` or `(`                                     a test, or an expression, is due within; the 256th is TooDeep
--   it is an operator on one word                              it takes the next word, or is Incomplete
--   it is the last one, or a binary operator is                Incomplete
--   anything else                                              Unexpected, at the word behind it
-- Behind a test stand `-a`, `-o`, the `)` of a group, or the end; another word is Unexpected.
use Rattle.std.specs.Prelude.{ℕ, suc, ◌-◌, Bool, true, false, List, [], ◌∷◌, length, Option, None, Some, is_some, Result, Ok, Err}
use Rattle.el_words.specs.Number.{number_of}
use Rattle.el_test.specs.declared.operators.Prefix.{Prefix}
use Rattle.el_test.specs.declared.operators.Prefix.TheVariants.{Not, Open, On}
use Rattle.el_test.specs.declared.operators.Joiner.{Joiner}
use Rattle.el_test.specs.declared.operators.Joiner.TheVariants.{And, Or, Close}
use Rattle.el_test.specs.declared.fault.TestKind.{TestKind}
use Rattle.el_test.specs.declared.fault.TestKind.TheVariants.{Incomplete, Unexpected, BadNumber, TooDeep}
use Rattle.el_test.specs.declared.fault.TestFault.{TestFault}
use Rattle.el_test.specs.declared.walking.Stop.{Stop}
use Rattle.el_test.specs.Operators.{binary_named, prefix_named, joiner_named, is_numeric}
use Rattle.el_test.specs.Expressions.{Test, compared, applied, negated, grouped, Conjunction, only, both, Expression, alone, either}
use Rattle.el_test.specs.Proper.{Comparing, comparing}

-- what is open around the place that is read, from the inside outwards
pub data Frames : Type 0 where
  outermost : Frames
  negation : Frames → Frames
  group : Frames → Frames
  behind_and : Test → Frames → Frames
  behind_or : Conjunction → Frames → Frames

-- so many more `!` and `(` may be opened; a test is due, or one was read, of which so many words are still ahead
pub data State : Type 0 where
  Due : (room : ℕ) → Frames → State
  Past : (ahead room : ℕ) → Frames → Test → State

-- a fault, and how many words are left from its word on
abbrev pub stop : {T : Type 0} → TestKind → ℕ → Result T Stop
stop kind left = Err (record { kind = kind; left = left })

-- ---- a test is due, with the words behind the one that is read

-- the operands of a comparison are numbers, or need not be
abbrev pub numbers_checked : {T : Type 0} → (numeric is_left is_right : Bool) → (left right : ℕ) → T → Result T Stop
numbers_checked false is_left is_right left right next = Ok next
numbers_checked true false is_right left right next = stop BadNumber left
numbers_checked true true false left right next = stop BadNumber right
numbers_checked true true true left right next = Ok next

-- one deeper, where there is room
abbrev pub deeper : ℕ → (Frames → Frames) → Frames → (left : ℕ) → Result State Stop
deeper Prim.Native.Nat.zero framed frames left = stop TooDeep left
deeper (suc room) framed frames left = Ok (Due room (framed frames))

-- a word that begins no test: at the end Incomplete, and otherwise the next word is Unexpected
abbrev pub ended_if : Bool → Result State Stop
ended_if true = stop Incomplete 0
ended_if false = stop Unexpected 1

abbrev pub astray : (rest : List (List ℕ)) → Result State Stop
astray [] = stop Incomplete 0
astray (second ∷ []) = ended_if (is_some (binary_named second))
astray (second ∷ third ∷ rest) = stop Unexpected (length (second ∷ third ∷ rest))

-- an operator on the next word
abbrev pub applied_to : Prefix → ℕ → Frames → (rest : List (List ℕ)) → Result State Stop
applied_to (On operator) room frames (text ∷ rest) = Ok (Past 1 room frames (applied operator text))
applied_to prefix room frames rest = stop Incomplete 0

-- by what the word is
abbrev pub by_prefix : Option Prefix → ℕ → Frames → (rest : List (List ℕ)) → Result State Stop
by_prefix None room frames rest = astray rest
by_prefix (Some Not) room frames rest = deeper room negation frames (suc (length rest))
by_prefix (Some Open) room frames rest = deeper room group frames (suc (length rest))
by_prefix (Some (On operator)) room frames rest = applied_to (On operator) room frames rest

-- a comparison is seen first
abbrev pub by_comparing : Option Comparing → (word : List ℕ) → ℕ → Frames → (rest : List (List ℕ)) → Result State Stop
by_comparing (Some c) word room frames rest =
    numbers_checked (is_numeric c.operator) (is_some (number_of word)) (is_some (number_of c.right)) (suc (length rest)) (suc (length c.behind))
    (Past 2 room frames (compared word c.operator c.right))
by_comparing None word room frames rest = by_prefix (prefix_named word) room frames rest

-- ---- a test was read

-- what is finished, with what is open around it then
pub record Finished (T : Type 0) : Type 0 where
  pub room : ℕ
  pub frames : Frames
  pub value : T

-- the test with each `!` directly before it
abbrev pub finished_test : ℕ → Frames → Test → Finished Test
finished_test room (negation frames) test = finished_test (suc room) frames (negated test)
finished_test room frames test = record { room = room; frames = frames; value = test }

-- the conjunction that ends with it
abbrev pub finished_all : ℕ → Frames → Conjunction → Finished Conjunction
finished_all room (behind_and test frames) rest = finished_all room frames (both test rest)
finished_all room frames rest = record { room = room; frames = frames; value = rest }

-- the expression that ends with it
abbrev pub finished_in : ℕ → Frames → Expression → Finished Expression
finished_in room (behind_or conjunction frames) rest = finished_in room frames (either conjunction rest)
finished_in room frames rest = record { room = room; frames = frames; value = rest }

-- the same from what they end with
abbrev pub all_of : Finished Test → Finished Conjunction
all_of f = finished_all f.room f.frames (only f.value)

abbrev pub in_of : Finished Conjunction → Finished Expression
in_of f = finished_in f.room f.frames (alone f.value)

-- a `)` ends a group
abbrev pub closed_by : (room : ℕ) → Frames → Expression → (left : ℕ) → Result State Stop
closed_by room (group frames) expression left = Ok (Past 0 (suc room) frames (grouped expression))
closed_by room frames expression left = stop Unexpected left

abbrev pub closed : Finished Expression → (left : ℕ) → Result State Stop
closed f left = closed_by f.room f.frames f.value left

-- a test is due behind `-a`, and behind `-o`
abbrev pub after_and : Finished Test → State
after_and f = Due f.room (behind_and f.value f.frames)

abbrev pub after_or : Finished Conjunction → State
after_or f = Due f.room (behind_or f.value f.frames)

-- what stands behind a test
abbrev pub by_joiner : Option Joiner → Finished Test → (left : ℕ) → Result State Stop
by_joiner None f left = stop Unexpected left
by_joiner (Some And) f left = Ok (after_and f)
by_joiner (Some Or) f left = Ok (after_or (all_of f))
by_joiner (Some Close) f left = closed (in_of (all_of f)) left

-- ---- the words, one after the other

-- a word, with those behind it
abbrev pub step : (word : List ℕ) → (rest : List (List ℕ)) → State → Result State Stop
step word rest (Due room frames) = by_comparing (comparing rest) word room frames rest
step word rest (Past Prim.Native.Nat.zero room frames test) = by_joiner (joiner_named word) (finished_test room frames test) (suc (length rest))
step word rest (Past (suc ahead) room frames test) = Ok (Past ahead room frames test)

-- nothing is open at the end of the words
abbrev pub whole_of : Frames → Expression → Result Expression Stop
whole_of outermost expression = Ok expression
whole_of frames expression = stop Incomplete 0

abbrev pub whole : Finished Expression → Result Expression Stop
whole f = whole_of f.frames f.value

-- the words are at their end
abbrev pub end : State → Result Expression Stop
end (Past Prim.Native.Nat.zero room frames test) = whole (in_of (all_of (finished_test room frames test)))
end state = stop Incomplete 0

-- the next step, unless it stopped
abbrev pub go_on : Result State Stop → (State → Result Expression Stop) → Result Expression Stop
go_on (Ok state) more = more state
go_on (Err stopped) more = Err stopped

-- the words from a state on
unfoldable pub read_on : List (List ℕ) → State → Result Expression Stop
read_on [] state = end state
read_on (word ∷ rest) state = go_on (step word rest state) (λ next. read_on rest next)

-- a fault at its place among so many words
abbrev pub placed : (count : ℕ) → Result Expression Stop → Result (Option Expression) TestFault
placed count (Ok expression) = Ok (Some expression)
placed count (Err stopped) = Err (record { kind = stopped.kind; at = count - stopped.left })

-- the expression that words are, or their first fault
unfoldable pub reading : List (List ℕ) → Result (Option Expression) TestFault
reading [] = Ok None
reading (word ∷ rest) = placed (length (word ∷ rest)) (read_on (word ∷ rest) (Due 255 outermost))
