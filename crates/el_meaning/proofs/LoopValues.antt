-- The values of a loop's input are a splitting of it, whatever its pieces.
use Rattle.el_room.proofs.Vocabulary.{fun_ext, concat, is_delimiter, crunched, Splits, last_word, crunched_after, split_behind, fed, values_of, last_value, fed-append, values_of-append, Read, has}
use Rattle.std.proofs.Common.{◌≡◌, ℕ, Bool, true, false, List, [], ◌∷◌, ◌++◌, length, drop, refl, sym, ap, ap₂, ◌∙◌, subst, codes}
use Rattle.std.specs.Prelude.{if◌then◌else◌}
use Rattle.std.specs.FinSet as set
use Rattle.el_transform.specs.Splitter.{all_values}
use Rattle.el_transform.proofs.Crunched.{crunched-is}
use Rattle.el_transform.proofs.Pieces.{all_values-split}
use Rattle.el_transform.proofs.Split.{split_behind_splits, split_behind-splits}
use Rattle.el_loops.specs.Loops.{unread, listed}
use Rattle.el_loops.specs.Values.{delimiters_of, values_in, ended_values}
use Rattle.el_loops.proofs.ValuesOf.{new-is, last-is}
use Rattle.el_meaning.specs.LoopValues.{delimiters_in, turned_values, values_so_far}

-- ---- a whole input

-- what is split
abbrev kept_of : Read → List ℕ → List ℕ
kept_of read input = if has (codes "C") read then crunched (delimiters_in read) input else input

values-are : (read : Read) (input : List ℕ) → values_in read input ≡ split_behind (is_delimiter (delimiters_in read)) [] (kept_of read input)
values-are read input =
    ap (λ (test : ℕ → Bool). split_behind test [] (if has (codes "C") read then crunched_after test false input else input)) (fun_ext (λ byte. sym (set.contains-from_list_nat (delimiters_of read) byte)))
    ∙ ap (λ crunches. split_behind (is_delimiter (delimiters_in read)) [] (if has (codes "C") read then crunches else input)) (sym (crunched-is (delimiters_in read) input))

pub values-split : (read : Read) (input : List ℕ) → Splits (delimiters_in read) (kept_of read input) (values_in read input)
values-split read input = subst (Splits (delimiters_in read) (kept_of read input)) (sym (values-are read input)) (split_behind_splits (delimiters_in read) [] (kept_of read input) refl)

-- ---- an input in pieces

last-listed : (bytes : List ℕ) → listed (last_value bytes) ≡ last_word bytes
last-listed [] = refl
last-listed (byte ∷ bytes) = refl

turned-all : (read : Read) (before : List ℕ) (pieces : List (List ℕ)) → turned_values read before pieces ≡ all_values (fed (unread read) before) pieces
turned-all read before [] = last-is read before ∙ last-listed (fed (unread read) before).unfinished
turned-all read before (piece ∷ pieces) =
    ap₂ (λ (now later : List (List ℕ)). now ++ later) (new-is read before piece) (turned-all read (before ++ piece) pieces ∙ ap (λ s. all_values s pieces) (fed-append (unread read) before piece))

pub pieces-say-nothing : (read : Read) (pieces : List (List ℕ)) → turned_values read [] pieces ≡ values_in read (concat pieces)
pieces-say-nothing read pieces =
    turned-all read [] pieces ∙ sym (split_behind-splits (all_values-split (has (codes "C") read) (delimiters_in read) pieces)) ∙ split_behind-splits (values-split read (concat pieces))

-- ---- before a read

so-far-is : (read : Read) (before : List ℕ) (pieces : List (List ℕ)) → values_so_far read before pieces ≡ values_of (fed (unread read) before) (concat pieces)
so-far-is read before [] = refl
so-far-is read before (piece ∷ pieces) =
    ap₂ (λ (now later : List (List ℕ)). now ++ later) (new-is read before piece) (so-far-is read (before ++ piece) pieces ∙ ap (λ s. values_of s (concat pieces)) (fed-append (unread read) before piece))
    ∙ sym (values_of-append (fed (unread read) before) piece (concat pieces))

-- without bytes no value has ended
none-ended : (read : Read) → ended_values read [] ≡ []
none-ended read = values-are read [] ∙ ap (split_behind (is_delimiter (delimiters_in read)) []) (by (has (codes "C") read))
  where
    by : (crunches : Bool) → (if crunches then crunched (delimiters_in read) [] else []) ≡ []
    by true = refl
    by false = refl

pub turns-come-in-time : (read : Read) (pieces : List (List ℕ)) → values_so_far read [] pieces ≡ ended_values read (concat pieces)
turns-come-in-time read pieces =
    so-far-is read [] pieces
    ∙ sym (new-is read [] (concat pieces))
    ∙ ap (λ (ended : List (List ℕ)). drop (length ended) (ended_values read (concat pieces))) (none-ended read)
