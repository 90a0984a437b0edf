-- The steps of the reader.
use Rattle.el_room.proofs.Vocabulary.{is_ascii_alphanumeric, drop_all, map-append, Opt, flag, with_value, Reading, Unknown, NoValue, LettersRead, Cluster, Flags, Last, Bad, after_flag, cluster_of, cluster_by, Plain, Dashes, Letters, shown, in_front, word_read, read_from, cluster_read}
use Rattle.std.proofs.Common.{◌≡◌, ℕ, suc, ◌+◌, ◌<◌, ◌≤◌, ◌&&◌, Bool, true, false, List, [], ◌∷◌, ◌++◌, map, get_or, drop, drop-cons, add-one, length, length-drop, append-nil, Option, Some, None, refl, sym, ap, ◌∙◌, arith}
use Rattle.std.proofs.lemmas.List.Folds.{list_all-append}
use Rattle.el_options.specs.Reading.{takes}
use Rattle.el_options.proofs.Steps.{in_front-append}
use Rattle.el_getopt.specs.declared.reader.FoundLetter.{FoundLetter}
use Rattle.el_getopt.specs.Optstring.{letters_in}
use Rattle.el_getopt.specs.Parsing.{args_read}
use Rattle.el_getopt.specs.Reader.{letter_told, letters_told, are_letters, IsAt, IsInside, IsRead}

-- ---- letters in front

in_front-nothing : (reading : Reading) → in_front [] reading ≡ reading
in_front-nothing (Unknown letter) = refl
in_front-nothing (NoValue letter) = refl
in_front-nothing (LettersRead more used rest ended) = refl

-- ---- clusters

cluster-flag : (cluster : Cluster) (letter at from : ℕ) (next : Option ℕ → Reading) → cluster_read (after_flag letter cluster) at from next ≡ in_front (flag letter ∷ []) (cluster_read cluster at (suc from) next)
cluster-flag (Flags letters) letter at from next = in_front-append (flag letter ∷ []) (map flag letters) (next None)
cluster-flag (Bad bad) letter at from next = refl
cluster-flag (Last before last []) letter at from next = in_front-append (flag letter ∷ []) (map flag before) (next (Some last))
cluster-flag (Last before last (byte ∷ bytes)) letter at from next =
    ap (λ n. in_front (flag letter ∷ (map flag before ++ with_value last (record { word = at; from = n; text = byte ∷ bytes }) ∷ [])) (next None)) (omega arith)
    ∙ in_front-append (flag letter ∷ []) (map flag before ++ with_value last (record { word = at; from = length before + suc (suc from); text = byte ∷ bytes }) ∷ []) (next None)

cluster-word : (cluster : Cluster) (at : ℕ) (word : List ℕ) (words : List (List ℕ)) (next : Option ℕ → Reading) → word_read (Letters cluster) at word words next ≡ cluster_read cluster at 1 next
cluster-word (Flags letters) at word words next = refl
cluster-word (Bad bad) at word words next = refl
cluster-word (Last before last []) at word words next = refl
cluster-word (Last before last (byte ∷ bytes)) at word words next = refl

-- the cluster from a byte on
from-byte : (opts : List Opt) (word : List ℕ) (from letter : ℕ) (test : Option Bool) → from < length word → get_or word from 0 ≡ letter → takes opts letter ≡ test
    → cluster_of opts (drop from word) ≡ cluster_by test letter (drop (from + 1) word) (cluster_of opts (drop (from + 1) word))
from-byte opts word from letter test inside is takes_is =
    ap (cluster_of opts) (drop-cons word from 0 inside ∙ ap (λ n. get_or word from 0 ∷ drop n word) (sym (add-one from)))
    ∙ ap (λ letter. cluster_by (takes opts letter) letter (drop (from + 1) word) (cluster_of opts (drop (from + 1) word))) is
    ∙ ap (λ test. cluster_by test letter (drop (from + 1) word) (cluster_of opts (drop (from + 1) word))) takes_is

last-value : (rest : List ℕ) (letter at from : ℕ) (next : Option ℕ → Reading) → 0 < length rest
    → cluster_read (Last [] letter rest) at from next ≡ in_front (with_value letter (record { word = at; from = from + 1; text = rest }) ∷ []) (next None)
last-value [] letter at from next some = absurd (omega arith)
last-value (byte ∷ bytes) letter at from next some =
    ap (λ n. in_front (with_value letter (record { word = at; from = n; text = byte ∷ bytes }) ∷ []) (next None)) (omega arith)

-- ---- one more letter

told-last : (args : List (List ℕ)) (found : List FoundLetter) (one : FoundLetter) (reading : Reading) → in_front (letters_told args (found ++ one ∷ [])) reading ≡ in_front (letters_told args found) (in_front (letter_told args one ∷ []) reading)
told-last args found one reading = ap (λ letters. in_front letters reading) (map-append (letter_told args) found (one ∷ [])) ∙ in_front-append (letters_told args found) (letter_told args one ∷ []) reading

named-last : (found : List FoundLetter) (one : FoundLetter) → are_letters found ≡ true → is_ascii_alphanumeric one.letter ≡ true → are_letters (found ++ one ∷ []) ≡ true
named-last found one all is =
    list_all-append (λ (one : FoundLetter). is_ascii_alphanumeric one.letter) found (one ∷ [])
    ∙ ap (λ first. first && (is_ascii_alphanumeric one.letter && true)) all
    ∙ ap (λ last. last && true) is

-- ---- words behind others

first : (args : List (List ℕ)) (used : ℕ) → used < length args → drop used args ≡ get_or args used [] ∷ drop (used + 1) args
first args used inside = drop-cons args used [] inside ∙ ap (λ n. get_or args used [] ∷ drop n args) (sym (add-one used))

-- what is read from the argument at this place on, whose number is one more
abbrev behind : (opts : List Opt) → (args : List (List ℕ)) → (used : ℕ) → (wanted : Option ℕ) → Reading
behind opts args used wanted = read_from opts (used + 1) wanted (drop used args)

behind-word : (opts : List Opt) (args : List (List ℕ)) (used : ℕ) → used < length args
    → behind opts args used None ≡ word_read (shown opts (get_or args used [])) (used + 1) (get_or args used []) (drop (used + 1) args) (behind opts args (used + 1))
behind-word opts args used inside = ap (read_from opts (used + 1) None) (first args used inside)

module _ (optstring : List ℕ) (args : List (List ℕ)) where
  abbrev opts : List Opt
  opts = letters_in optstring

  -- ---- inside a cluster

  pub inside-start : (found : List FoundLetter) (used : ℕ) → IsAt optstring args None found used → used < length args → shown opts (get_or args used []) ≡ Letters (cluster_of opts (drop 1 (get_or args used [])))
      → IsInside optstring args used 1 found
  inside-start found used at inside is = record {
    is_within = inside;
    is_reading = at.is_reading ∙ ap (in_front (letters_told args found)) (behind-word opts args used inside
        ∙ ap (λ shown. word_read shown (used + 1) (get_or args used []) (drop (used + 1) args) (behind opts args (used + 1))) is
        ∙ cluster-word (cluster_of opts (drop 1 (get_or args used []))) (used + 1) (get_or args used []) (drop (used + 1) args) (behind opts args (used + 1)));
    are_named = at.are_named;
  }

  module _ (found : List FoundLetter) (at from letter : ℕ) (here : IsInside optstring args at from found) (is : get_or (get_or args at []) from 0 ≡ letter) where
    pub inside-flag : from < length (get_or args at []) → takes opts letter ≡ Some false → is_ascii_alphanumeric letter ≡ true → IsInside optstring args at (from + 1) (found ++ record { letter = letter; value = None } ∷ [])
    inside-flag inside plain named = record {
      is_within = here.is_within;
      is_reading = here.is_reading
          ∙ ap (in_front (letters_told args found)) (ap (λ cluster. cluster_read cluster (at + 1) from (behind opts args (at + 1))) (from-byte opts (get_or args at []) from letter (Some false) inside is plain)
          ∙ cluster-flag (cluster_of opts (drop (from + 1) (get_or args at []))) letter (at + 1) from (behind opts args (at + 1))
          ∙ ap (λ n. in_front (flag letter ∷ []) (cluster_read (cluster_of opts (drop (from + 1) (get_or args at []))) (at + 1) n (behind opts args (at + 1)))) (sym (add-one from)))
          ∙ sym (told-last args found (record { letter = letter; value = None }) _);
      are_named = named-last found (record { letter = letter; value = None }) here.are_named named;
    }

    pub inside-value : from + 1 < length (get_or args at []) → takes opts letter ≡ Some true → is_ascii_alphanumeric letter ≡ true
        → IsAt optstring args None (found ++ record { letter = letter; value = Some (record { word = at; from = from + 1 }) } ∷ []) (at + 1)
    inside-value inside valued named = record {
      is_within = omega (arith, here.is_within);
      is_reading = here.is_reading
          ∙ ap (in_front (letters_told args found)) (ap (λ cluster. cluster_read cluster (at + 1) from (behind opts args (at + 1))) (from-byte opts (get_or args at []) from letter (Some true) (omega arith) is valued)
          ∙ last-value (drop (from + 1) (get_or args at [])) letter (at + 1) from (behind opts args (at + 1)) (omega (arith, length-drop (from + 1) (get_or args at []))))
          ∙ sym (told-last args found (record { letter = letter; value = Some (record { word = at; from = from + 1 }) }) _);
      are_named = named-last found (record { letter = letter; value = Some (record { word = at; from = from + 1 }) }) here.are_named named;
    }

    pub inside-wanted : from + 1 ≡ length (get_or args at []) → takes opts letter ≡ Some true → IsAt optstring args (Some letter) found (at + 1)
    inside-wanted last valued = record {
      is_within = omega (arith, here.is_within);
      is_reading = here.is_reading
          ∙ ap (in_front (letters_told args found)) (ap (λ cluster. cluster_read cluster (at + 1) from (behind opts args (at + 1))) (from-byte opts (get_or args at []) from letter (Some true) (omega arith) is valued)
          ∙ ap (λ rest. cluster_read (Last [] letter rest) (at + 1) from (behind opts args (at + 1))) (drop_all (from + 1) (get_or args at []) (omega arith))
          ∙ in_front-nothing (behind opts args (at + 1) (Some letter)));
      are_named = here.are_named;
    }

    pub inside-unknown : from < length (get_or args at []) → takes opts letter ≡ None → args_read optstring args ≡ Unknown letter
    inside-unknown inside none =
        here.is_reading ∙ ap (in_front (letters_told args found)) (ap (λ cluster. cluster_read cluster (at + 1) from (behind opts args (at + 1))) (from-byte opts (get_or args at []) from letter None inside is none))

  pub inside-end : (found : List FoundLetter) (at from : ℕ) → IsInside optstring args at from found → length (get_or args at []) ≤ from → IsAt optstring args None found (at + 1)
  inside-end found at from here end = record {
    is_within = omega (arith, here.is_within);
    is_reading = here.is_reading
        ∙ ap (in_front (letters_told args found)) (ap (λ bytes. cluster_read (cluster_of opts bytes) (at + 1) from (behind opts args (at + 1))) (drop_all from (get_or args at []) end)
        ∙ in_front-nothing (behind opts args (at + 1) None));
    are_named = here.are_named;
  }

  -- ---- the value behind a word

  pub value-taken : (found : List FoundLetter) (used letter : ℕ) → IsAt optstring args (Some letter) found used → used < length args → is_ascii_alphanumeric letter ≡ true
      → IsAt optstring args None (found ++ record { letter = letter; value = Some (record { word = used; from = 0 }) } ∷ []) (used + 1)
  value-taken found used letter here inside named = record {
    is_within = omega arith;
    is_reading = here.is_reading
        ∙ ap (λ words. in_front (letters_told args found) (read_from opts (used + 1) (Some letter) words)) (first args used inside)
        ∙ sym (told-last args found (record { letter = letter; value = Some (record { word = used; from = 0 }) }) _);
    are_named = named-last found (record { letter = letter; value = Some (record { word = used; from = 0 }) }) here.are_named named;
  }

  pub value-missing : (found : List FoundLetter) (used letter : ℕ) → IsAt optstring args (Some letter) found used → used ≡ length args → args_read optstring args ≡ NoValue letter
  value-missing found used letter here end =
      here.is_reading ∙ ap (λ words. in_front (letters_told args found) (read_from opts (used + 1) (Some letter) words)) (drop_all used args (omega arith))

  -- ---- the beginning and the end

  pub at-start : IsAt optstring args None [] 0
  at-start = record { is_within = omega arith; is_reading = sym (in_front-nothing (read_from opts 1 None args)); are_named = refl }

  pub ends-there : (found : List FoundLetter) (used : ℕ) → IsAt optstring args None found used → used ≡ length args → IsRead optstring args found used
  ends-there found used here end = record {
    ended = false;
    is_within = here.is_within;
    is_reading = here.is_reading
        ∙ ap (λ words. in_front (letters_told args found) (read_from opts (used + 1) None words)) (drop_all used args (omega arith))
        ∙ ap (λ all. LettersRead all (used + 1) [] false) (append-nil (letters_told args found))
        ∙ ap (λ rest. LettersRead (letters_told args found) (used + 1) rest false) (sym (drop_all used args (omega arith)));
    are_named = here.are_named;
  }

  pub stops-before : (found : List FoundLetter) (used : ℕ) → IsAt optstring args None found used → used < length args → shown opts (get_or args used []) ≡ Plain → IsRead optstring args found used
  stops-before found used here inside is = record {
    ended = false;
    is_within = here.is_within;
    is_reading = here.is_reading
        ∙ ap (in_front (letters_told args found)) (behind-word opts args used inside ∙ ap (λ shown. word_read shown (used + 1) (get_or args used []) (drop (used + 1) args) (behind opts args (used + 1))) is)
        ∙ ap (λ all. LettersRead all (used + 1) (get_or args used [] ∷ drop (used + 1) args) false) (append-nil (letters_told args found))
        ∙ ap (λ rest. LettersRead (letters_told args found) (used + 1) rest false) (sym (first args used inside));
    are_named = here.are_named;
  }

  pub stops-behind : (found : List FoundLetter) (used : ℕ) → IsAt optstring args None found used → used < length args → shown opts (get_or args used []) ≡ Dashes → IsRead optstring args found (used + 1)
  stops-behind found used here inside is = record {
    ended = true;
    is_within = omega arith;
    is_reading = here.is_reading
        ∙ ap (in_front (letters_told args found)) (behind-word opts args used inside ∙ ap (λ shown. word_read shown (used + 1) (get_or args used []) (drop (used + 1) args) (behind opts args (used + 1))) is)
        ∙ ap (λ all. LettersRead all (used + 1 + 1) (drop (used + 1) args) true) (append-nil (letters_told args found));
    are_named = here.are_named;
  }
