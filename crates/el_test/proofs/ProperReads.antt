-- A proper expression is read from its words.
use Rattle.std.proofs.Common.{◌≡◌, ℕ, suc, Bool, true, false, not, ◌||◌, ◌&&◌, List, [], ◌∷◌, ◌++◌, length, None, Some, Ok, refl, sym, ap, ◌∙◌, is_some, append_assoc, append-nil, true≢false}
use Rattle.el_words.specs.Number.{number_of}
use Rattle.el_test.specs.declared.operators.Binary.{Binary}
use Rattle.el_test.specs.declared.operators.Prefix.{Prefix}
use Rattle.el_test.specs.declared.operators.Prefix.TheVariants.{Not, Open, On}
use Rattle.el_test.specs.declared.operators.Joiner.TheVariants.{And, Or, Close}
use Rattle.el_test.specs.Operators.{binary_text, prefix_text, joiner_text, is_numeric, operands_fit}
use Rattle.el_test.specs.Expressions.{Test, compared, applied, negated, grouped, Conjunction, only, both, Expression, alone, either, written_test, written_all, written_in}
use Rattle.el_test.specs.Proper.{comparing, comparing_by, IsProperTest, AreProper, IsProperIn}
use Rattle.el_test.specs.Reading.{Frames, outermost, negation, group, behind_and, behind_or, Due, Past, numbers_checked, by_comparing, by_prefix, after_or, step, read_on, placed, reading}
use Rattle.el_test.specs.Laws.{ProperIsRead, WrittenIsInjective}
use Rattle.el_test.proofs.Framed.{IsLevel, IsOuter, outer_is_level}
use Rattle.el_test.proofs.After.{read_step, at_end, all_finished, negation_over, after_all, after_in, joined_by, or_behind, close_in, end_in}
use Rattle.el_test.proofs.Named.{binary_is_named, prefix_is_named, joiner_is_named}

-- ---- one step

-- a first word that is no comparison's
step_prefix : (prefix : Prefix) (rest : List (List ℕ)) (room : ℕ) (frames : Frames) → comparing rest ≡ None
    → step (prefix_text prefix) rest (Due room frames) ≡ by_prefix (Some prefix) room frames rest
step_prefix prefix rest room frames h =
    ap (λ c. by_comparing c (prefix_text prefix) room frames rest) h ∙ ap (λ p. by_prefix p room frames rest) (prefix_is_named prefix)

pub checked_fits : {T : Type 0} (numeric is_left is_right : Bool) (left right : ℕ) (next : T) → (not numeric || (is_left && is_right)) ≡ true
    → numbers_checked numeric is_left is_right left right next ≡ Ok next
checked_fits false is_left is_right left right next h = refl
checked_fits true false is_right left right next h = absurd (true≢false (sym h))
checked_fits true true false left right next h = absurd (true≢false (sym h))
checked_fits true true true left right next h = refl

step_comparison : (left right : List ℕ) (operator : Binary) (rest : List (List ℕ)) (room : ℕ) (frames : Frames) → operands_fit operator left right ≡ true
    → step left (binary_text operator ∷ right ∷ rest) (Due room frames) ≡ Ok (Past 2 room frames (compared left operator right))
step_comparison left right operator rest room frames h =
    ap (λ o. by_comparing (comparing_by o right rest) left room frames (binary_text operator ∷ right ∷ rest)) (binary_is_named operator)
    ∙ checked_fits (is_numeric operator) (is_some (number_of left)) (is_some (number_of right)) _ _ _ h

-- ---- the reading

mutual
  reads_test : (test : Test) (room : ℕ) (frames : Frames) (rest : List (List ℕ)) → IsProperTest room test rest → read_on (written_test test ++ rest) (Due room frames) ≡ read_on rest (Past 0 room frames test)
  reads_test (compared left operator right) room frames rest h =
      read_step left (binary_text operator ∷ right ∷ rest) (Due room frames) (Past 2 room frames (compared left operator right)) (step_comparison left right operator rest room frames h)
      ∙ read_step (binary_text operator) (right ∷ rest) (Past 2 room frames (compared left operator right)) (Past 1 room frames (compared left operator right)) refl
      ∙ read_step right rest (Past 1 room frames (compared left operator right)) (Past 0 room frames (compared left operator right)) refl
  reads_test (applied operator text) room frames rest h =
      read_step (prefix_text (On operator)) (text ∷ rest) (Due room frames) (Past 1 room frames (applied operator text)) (step_prefix (On operator) (text ∷ rest) room frames h)
      ∙ read_step text rest (Past 1 room frames (applied operator text)) (Past 0 room frames (applied operator text)) refl
  reads_test (negated test) Prim.Native.Nat.zero frames rest h = absurd h
  reads_test (negated test) (suc room) frames rest h =
      read_step (prefix_text Not) (written_test test ++ rest) (Due (suc room) frames) (Due room (negation frames)) (step_prefix Not (written_test test ++ rest) (suc room) frames h.0)
      ∙ reads_test test room (negation frames) rest h.1
      ∙ negation_over rest room frames test
  reads_test (grouped expression) Prim.Native.Nat.zero frames rest h = absurd h
  reads_test (grouped expression) (suc room) frames rest h =
      ap (λ words. read_on (prefix_text Open ∷ words) (Due (suc room) frames)) (append_assoc (written_in expression) (joiner_text Close ∷ []) rest)
      ∙ read_step (prefix_text Open) (written_in expression ++ joiner_text Close ∷ rest) (Due (suc room) frames) (Due room (group frames))
      (step_prefix Open (written_in expression ++ joiner_text Close ∷ rest) (suc room) frames h.0)
      ∙ reads_in expression room (group frames) (joiner_text Close ∷ rest) tt h.1
      ∙ read_step (joiner_text Close) rest (after_in room (group frames) expression) (Past 0 (suc room) frames (grouped expression)) (close_in (joiner_text Close) (joiner_is_named Close) rest room (group frames) expression tt)

  reads_all : (conjunction : Conjunction) (room : ℕ) (frames : Frames) (rest : List (List ℕ)) → IsLevel frames → AreProper room conjunction rest
      → read_on (written_all conjunction ++ rest) (Due room frames) ≡ read_on rest (after_all room frames conjunction)
  reads_all (only test) room frames rest l h = reads_test test room frames rest h
  reads_all (both test more) room frames rest l h =
      ap (λ words. read_on words (Due room frames)) (append_assoc (written_test test) (joiner_text And ∷ written_all more) rest)
      ∙ reads_test test room frames (joiner_text And ∷ (written_all more ++ rest)) h.0
      ∙ read_step (joiner_text And) (written_all more ++ rest) (Past 0 room frames test) (Due room (behind_and test frames)) (joined_by (joiner_text And) And (joiner_is_named And) (written_all more ++ rest) room frames test l)
      ∙ reads_all more room (behind_and test frames) rest tt h.1

  reads_in : (expression : Expression) (room : ℕ) (frames : Frames) (rest : List (List ℕ)) → IsOuter frames → IsProperIn room expression rest
      → read_on (written_in expression ++ rest) (Due room frames) ≡ read_on rest (after_in room frames expression)
  reads_in (alone conjunction) room frames rest o h = reads_all conjunction room frames rest (outer_is_level frames o) h
  reads_in (either conjunction more) room frames rest o h =
      ap (λ words. read_on words (Due room frames)) (append_assoc (written_all conjunction) (joiner_text Or ∷ written_in more) rest)
      ∙ reads_all conjunction room frames (joiner_text Or ∷ (written_in more ++ rest)) (outer_is_level frames o) h.0
      ∙ read_step (joiner_text Or) (written_in more ++ rest) (after_all room frames conjunction) (Due room (behind_or conjunction frames))
      (or_behind (joiner_text Or) (joiner_is_named Or) (written_in more ++ rest) room frames conjunction (outer_is_level frames o) ∙ ap (λ f. Ok (after_or f)) (all_finished room frames conjunction o))
      ∙ reads_in more room (behind_or conjunction frames) rest tt h.1

placed_reading : (words : List (List ℕ)) (expression : Expression) → read_on words (Due 255 outermost) ≡ Ok expression → reading words ≡ Ok (Some expression)
unfolding reading read_on
placed_reading [] expression e = cc
placed_reading (word ∷ rest) expression e = ap (placed (length (word ∷ rest))) e

pub proper_is_read : ProperIsRead
unfolding reading
proper_is_read None h = refl
proper_is_read (Some expression) h = placed_reading (written_in expression) expression (
    ap (λ words. read_on words (Due 255 outermost)) (sym (append-nil (written_in expression)))
    ∙ reads_in expression 255 outermost [] tt h
    ∙ at_end (after_in 255 outermost expression)
    ∙ end_in 255 outermost expression tt)

pub written_is_injective : WrittenIsInjective
written_is_injective one other h k e = let same : Ok one ≡ Ok other = sym (proper_is_read one h) ∙ ap reading e ∙ proper_is_read other k in cc
