-- What the code knows of a program and of an open level is what is known of it.
use Rattle.el_script.proofs.Vocabulary.{slice_get, take-length, Opt, PlaceKind, OptionFromValue, At, is_literal, Over, Group, where_true, unended_fault, bare-group-by}
use Rattle.std.proofs.Common.{◌≡◌, ℕ, zero, suc, ◌+◌, ◌<◌, ◌≤◌, nat_lt, Bool, true, false, not, ◌&&◌, List, [], ◌∷◌, length, drop, is_some, Option, Some, None, refl, sym, arith, add-one}
use Rattle.el_tree.specs.Faults.{Text}
use Rattle.el_tree.proofs.Finished.{bare-over-by}
use Rattle.el_reader.specs.declared.scope.TestScope.{TestScope as ScopeStruct}
use Rattle.el_reader.specs.Roles.{first_kind}
use Rattle.el_reader.specs.Known.{counted}
use Rattle.el_reader.specs.Inspections.{IsMore}

-- ---- places

pub first-dropped : (n : ℕ) (kinds : List PlaceKind) → first_kind (drop n kinds) ≡ slice_get kinds n
first-dropped zero [] = refl
first-dropped zero (kind ∷ kinds) = refl
first-dropped (suc n) [] = refl
first-dropped (suc n) (kind ∷ kinds) = first-dropped n kinds

-- the count goes on where a place is left, and else stays
pub counts-on : (kinds : List PlaceKind) (n : ℕ) → n < length kinds → n + 1 ≡ counted kinds n
counts-on kinds n within = let less : nat_lt n (length kinds) ≡ true = grind arith in rw less (add-one n)

pub counts-still : (kinds : List PlaceKind) (n : ℕ) → length kinds ≤ n → n ≡ counted kinds n
counts-still kinds n over = let no : nat_lt n (length kinds) ≡ false = grind arith in rw no refl

-- ---- the first token that is no option

pub unended-text : (opts : Option (List Opt)) (ended : Bool) (text : List ℕ) → where_true (is_some opts && (not ended && not (is_literal text))) (At OptionFromValue) ≡ unended_fault opts ended (Text text)
unended-text None ended text = refl
unended-text (Some opts) true text = refl
unended-text (Some opts) false text = refl

pub unended-over : (opts : Option (List Opt)) (ended : Bool) → None ≡ unended_fault opts ended Over
unended-over opts ended = sym (bare-over-by opts ended).1

pub unended-group : (opts : Option (List Opt)) (ended : Bool) → None ≡ unended_fault opts ended Group
unended-group opts ended = sym (bare-group-by opts ended).1

pub ruleset heads = (first-dropped, counts-on, counts-still)

pub ruleset unended = (unended-text, unended-over, unended-group)

pub more-same : (scope : ScopeStruct) → IsMore scope scope
more-same scope = record { front = take-length scope.members; within = omega arith; tested = refl }

pub ruleset levels = (more-same)
