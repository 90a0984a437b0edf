-- The letters in force, as a program has read them.
use Rattle.el_room.proofs.Vocabulary.{list_any, list_all, find, position_or_len, bytes_eq, eqb-true, and_parts, and_right, or_right, Opt, Value, Letter, flag, with_value, Reading, LettersRead, Cluster, Flags, Last, Bad, after_flag, cluster_by, cluster_of, Plain, Dashes, Letters, shown, word_read, read_from, is_among, last_among, if_this, in_force, Choice, is_in_force, value_by, chosen_by}
use Rattle.std.proofs.Common.{◌≡◌, ℕ, suc, ◌+◌, ◌==◌, Bool, true, false, not, ◌&&◌, ◌||◌, cond, if◌then◌else◌, List, [], ◌∷◌, ◌++◌, map, length, reverse, Option, Some, None, is_some, option_map, nat_lt, refl, sym, ap, ◌∙◌, true≢false, arith}
use Rattle.std.specs.List.{cons_option, position}
use Rattle.el_options.specs.Reading.{takes, Shown, shown_behind_dash}
use Rattle.el_options.specs.Rules.{rivals, text_of}
use Rattle.el_options.proofs.Places.{IsBehind, without}
use Rattle.el_front.specs.Reads.{value_at, choice_of}

-- ---- which letters are in force

-- the letter stands in the table
abbrev pub stands_in : List Opt → (letter : ℕ) → Bool
stands_in opts letter = list_any (λ (opt : Opt). opt.letter == letter) opts

this-letter : (letter : ℕ) (last : Option Letter) (read : Letter) → if_this letter last ≡ Some read → read.letter ≡ letter
this-letter letter None read is = absurd (cc)
this-letter letter (Some last) read is = by (last.letter == letter) refl is
  where
    by : (same : Bool) → (last.letter == letter) ≡ same → (if same then Some last else None) ≡ Some read → read.letter ≡ letter
    by true same is = let one : last ≡ read = cc in ap (λ (letter : Letter). letter.letter) (sym one) ∙ eqb-true last.letter letter same
    by false other is = absurd (cc)

module _ (groups : List (List ℕ)) (letters : List Letter) (letter : ℕ) where
  -- a letter of the table is chosen where it is in force
  pub chosen-has : (opts : List Opt) → is_in_force (chosen_by groups opts letters) letter ≡ (stands_in opts letter && is_some (in_force groups letter letters))
  chosen-has [] = refl
  chosen-has (opt ∷ opts) = by (in_force groups opt.letter letters) refl (opt.letter == letter) refl (chosen-has opts)
    where
      there : List Choice
      there = chosen_by groups opts letters

      by : (found : Option Letter) → in_force groups opt.letter letters ≡ found → (same : Bool) → (opt.letter == letter) ≡ same
          → is_in_force there letter ≡ (stands_in opts letter && is_some (in_force groups letter letters))
          → is_in_force (cons_option (choice_of found) there) letter ≡ ((same || stands_in opts letter) && is_some (in_force groups letter letters))
      by None none true same others =
          let gone : is_some (in_force groups letter letters) ≡ false = ap (λ letter. is_some (in_force groups letter letters)) (sym (eqb-true opt.letter letter same)) ∙ ap is_some none in
          others ∙ ap (λ b. stands_in opts letter && b) gone ∙ and_right (stands_in opts letter) _ refl ∙ sym gone
      by None none false other others = others
      by (Some read) is true same others =
          let here : read.letter ≡ opt.letter = this-letter opt.letter (last_among (rivals groups opt.letter) letters) read is in
          let found : is_some (in_force groups letter letters) ≡ true = ap (λ letter. is_some (in_force groups letter letters)) (sym (eqb-true opt.letter letter same)) ∙ ap is_some is in
          ap (λ b. b || is_in_force there letter) (ap (λ n. n == letter) here ∙ same) ∙ sym found
      by (Some read) is false other others =
          let here : read.letter ≡ opt.letter = this-letter opt.letter (last_among (rivals groups opt.letter) letters) read is in
          ap (λ b. b || is_in_force there letter) (ap (λ n. n == letter) here ∙ other) ∙ others

-- ---- values

-- where it is this letter, it has a value
abbrev pub has_value : (letter : ℕ) → Letter → Bool
has_value letter read = not (read.letter == letter) || is_some read.value

module _ {X : Type 0} (test : X → Bool) where
  all-onto : (xs ys : List X) → list_all test xs ≡ true → list_all test ys ≡ true → list_all test (mathlib.Core.List.reverse_aux xs ys) ≡ true
  all-onto [] ys here there = there
  all-onto (x ∷ xs) ys here there =
      let holds = and_parts (test x) (list_all test xs) here in
      all-onto xs (x ∷ ys) holds.1 (ap (λ b. b && list_all test ys) holds.0 ∙ there)

  -- what is found passes the test of all
  found-passes : (wanted : X → Bool) (xs : List X) (x : X) → list_all test xs ≡ true → find wanted xs ≡ Some x → test x ≡ true
  found-passes wanted [] x all is = absurd (cc)
  found-passes wanted (y ∷ xs) x all is = by (wanted y) is (λ is. found-passes wanted xs x holds.1 is)
    where
      holds : (test y ≡ true) × (list_all test xs ≡ true)
      holds = and_parts (test y) (list_all test xs) all

      by : (here : Bool) → cond here (Some y) (find wanted xs) ≡ Some x → (find wanted xs ≡ Some x → test x ≡ true) → test x ≡ true
      by true is next = let same : y ≡ x = cc in ap test (sym same) ∙ holds.0
      by false is next = next is

  all-append : (xs ys : List X) → list_all test xs ≡ true → list_all test ys ≡ true → list_all test (xs ++ ys) ≡ true
  all-append [] ys here there = there
  all-append (x ∷ xs) ys here there =
      let holds = and_parts (test x) (list_all test xs) here in
      ap (λ b. b && list_all test (xs ++ ys)) holds.0 ∙ all-append xs ys holds.1 there

-- a choice of this letter has a value
abbrev chosen_value : (letter : ℕ) → Choice → Bool
chosen_value letter choice = not (choice.letter == letter) || is_some choice.value

module _ (groups : List (List ℕ)) (letters : List Letter) (letter : ℕ) (valued : list_all (has_value letter) letters ≡ true) where
  chosen-valued : (opts : List Opt) → list_all (chosen_value letter) (chosen_by groups opts letters) ≡ true
  chosen-valued [] = refl
  chosen-valued (opt ∷ opts) = by (last_among (rivals groups opt.letter) letters) refl (chosen-valued opts)
    where
      text-some : (value : Option Value) → is_some (text_of value) ≡ is_some value
      text-some None = refl
      text-some (Some value) = refl

      by_read : (read : Letter) (same : Bool) → has_value letter read ≡ true → list_all (chosen_value letter) (chosen_by groups opts letters) ≡ true
          → list_all (chosen_value letter) (cons_option (choice_of (if same then Some read else None)) (chosen_by groups opts letters)) ≡ true
      by_read read true holds others = ap (λ b. (not (read.letter == letter) || b) && list_all (chosen_value letter) (chosen_by groups opts letters)) (text-some read.value) ∙ ap (λ b. b && list_all (chosen_value letter) (chosen_by groups opts letters)) holds ∙ others
      by_read read false holds others = others

      by : (last : Option Letter) → last_among (rivals groups opt.letter) letters ≡ last → list_all (chosen_value letter) (chosen_by groups opts letters) ≡ true
          → list_all (chosen_value letter) (cons_option (choice_of (if_this opt.letter last)) (chosen_by groups opts letters)) ≡ true
      by None is others = others
      by (Some read) is others =
          by_read read (read.letter == opt.letter)
          (found-passes (has_value letter) (λ (read : Letter). is_among (rivals groups opt.letter) read.letter) (reverse letters) read (all-onto (has_value letter) letters [] valued refl) is) others

-- the place of what is found, one further on
position-more : {X : Type 0} (test : X → Bool) (x : X) (xs : List X) → test x ≡ false → position test (x ∷ xs) ≡ option_map suc (position test xs)
position-more test x xs fails =
    let further : position_or_len test (x ∷ xs) ≡ suc (position_or_len test xs) = ap (λ b. cond (not b) (1 + position_or_len test xs) 0) fails ∙ omega arith in
    ap (λ n. cond (nat_lt n (length (x ∷ xs))) (Some n) None) further ∙ by (nat_lt (position_or_len test xs) (length xs)) refl
  where
    by : (below : Bool) → nat_lt (position_or_len test xs) (length xs) ≡ below
        → cond (nat_lt (suc (position_or_len test xs)) (length (x ∷ xs))) (Some (suc (position_or_len test xs))) None ≡ option_map suc (cond below (Some (position_or_len test xs)) None)
    by true is = let below : nat_lt (suc (position_or_len test xs)) (length (x ∷ xs)) ≡ true = grind (arith, is) in ap (λ b. cond b (Some (suc (position_or_len test xs))) None) below
    by false is = let past : nat_lt (suc (position_or_len test xs)) (length (x ∷ xs)) ≡ false = grind (arith, is) in ap (λ b. cond b (Some (suc (position_or_len test xs))) None) past

-- a letter in force that has values gives one
pub value-given : (letter : ℕ) (choices : List Choice) → list_all (chosen_value letter) choices ≡ true → is_in_force choices letter ≡ true → is_some (value_by choices letter) ≡ true
value-given letter [] valued is = absurd (cc)
value-given letter (choice ∷ choices) valued is = by (choice.letter == letter) refl is (λ is. value-given letter choices holds.1 is)
  where
    holds : (chosen_value letter choice ≡ true) × (list_all (chosen_value letter) choices ≡ true)
    holds = and_parts (chosen_value letter choice) (list_all (chosen_value letter) choices) valued

    on : Option ℕ → Option ℕ
    on place = option_map suc place

    further : (place : Option ℕ) → value_at (choice ∷ choices) (on place) ≡ value_at choices place
    further None = refl
    further (Some place) = refl

    by : (here : Bool) → (choice.letter == letter) ≡ here → (here || is_in_force choices letter) ≡ true → (is_in_force choices letter ≡ true → is_some (value_by choices letter) ≡ true) → is_some (value_by (choice ∷ choices) letter) ≡ true
    by true same is next =
        let first : nat_lt 0 (length (choice ∷ choices)) ≡ true = grind arith in
        ap (λ n. is_some (value_at (choice ∷ choices) (cond (nat_lt n (length (choice ∷ choices))) (Some n) None))) (ap (λ b. cond (not b) (1 + position_or_len (λ choice. choice.letter == letter) choices) 0) same)
        ∙ ap (λ below. is_some (value_at (choice ∷ choices) (cond below (Some 0) None))) first
        ∙ sym (ap (λ b. not b || is_some choice.value) same) ∙ holds.0
    by false other is next =
        ap (λ place. is_some (value_at (choice ∷ choices) place)) (position-more (λ choice. choice.letter == letter) choice choices other)
        ∙ ap is_some (further (position (λ choice. choice.letter == letter) choices))
        ∙ next is

pub chosen-gives : (groups : List (List ℕ)) (opts : List Opt) (letters : List Letter) (letter : ℕ) → list_all (has_value letter) letters ≡ true → is_in_force (chosen_by groups opts letters) letter ≡ true → is_some (value_by (chosen_by groups opts letters) letter) ≡ true
chosen-gives groups opts letters letter valued is = value-given letter (chosen_by groups opts letters) (chosen-valued groups letters letter valued opts) is

-- ---- letters that take values are read with them

module _ (opts : List Opt) (letter : ℕ) (taking : takes opts letter ≡ Some true) where
  abbrev is_other : ℕ → Bool
  is_other other = not (other == letter)

  FreeCluster : Cluster → Type 0
  FreeCluster (Flags letters) = list_all is_other letters ≡ true
  FreeCluster (Last before last rest) = list_all is_other before ≡ true
  FreeCluster (Bad bad) = Unit {0}

  FreeShown : Shown → Type 0
  FreeShown Plain = Unit {0}
  FreeShown Dashes = Unit {0}
  FreeShown (Letters cluster) = FreeCluster cluster

  cluster-free : (bytes : List ℕ) → FreeCluster (cluster_of opts bytes)
  unfolding FreeCluster
  cluster-free [] = refl
  cluster-free (byte ∷ bytes) = by (takes opts byte) refl (cluster_of opts bytes) (cluster-free bytes)
    where
      apart : takes opts byte ≡ Some false → is_other byte ≡ true
      apart flag = by_same (byte == letter) refl
        where
          by_same : (same : Bool) → (byte == letter) ≡ same → not same ≡ true
          by_same true same = absurd (let both : Some true ≡ Some false = sym taking ∙ ap (takes opts) (sym (eqb-true byte letter same)) ∙ flag in let no : true ≡ false = cc in true≢false no)
          by_same false other = refl

      more : takes opts byte ≡ Some false → (cluster : Cluster) → FreeCluster cluster → FreeCluster (after_flag byte cluster)
      more flag (Flags letters) free = ap (λ b. b && list_all is_other letters) (apart flag) ∙ free
      more flag (Last before last rest) free = ap (λ b. b && list_all is_other before) (apart flag) ∙ free
      more flag (Bad bad) free = tt

      by : (taken : Option Bool) → takes opts byte ≡ taken → (cluster : Cluster) → FreeCluster cluster → FreeCluster (cluster_by taken byte bytes cluster)
      by None is cluster free = tt
      by (Some true) is cluster free = refl
      by (Some false) is cluster free = more is cluster free

  shown-free : (word : List ℕ) → FreeShown (shown opts word)
  unfolding FreeShown
  shown-free [] = tt
  shown-free (byte ∷ bytes) = by (byte == 45) bytes
    where
      dashed : (is : Bool) (bytes : List ℕ) → FreeShown (if is then Dashes else Letters (cluster_of opts bytes))
      dashed true bytes = tt
      dashed false bytes = cluster-free bytes

      by : (dash : Bool) (bytes : List ℕ) → FreeShown (if dash then shown_behind_dash opts bytes else Plain)
      by true [] = tt
      by true (byte ∷ bytes) = dashed (bytes_eq (byte ∷ bytes) (45 ∷ [])) (byte ∷ bytes)
      by false bytes = tt

  flags-valued : (flags : List ℕ) → list_all is_other flags ≡ true → list_all (has_value letter) (map flag flags) ≡ true
  flags-valued [] free = refl
  flags-valued (other ∷ flags) free =
      let both = and_parts (is_other other) (list_all is_other flags) free in
      ap (λ b. (b || false) && list_all (has_value letter) (map flag flags)) both.0 ∙ flags-valued flags both.1

  value-valued : (other : ℕ) (value : Value) → has_value letter (with_value other value) ≡ true
  value-valued other value = or_right (not (other == letter)) true refl

  behind-valued : {front all : List Letter} {reading : Reading} {used : ℕ} {rest : List (List ℕ)} {ended : Bool} → list_all (has_value letter) front ≡ true → IsBehind front all reading used rest ended
      → ((more : List Letter) → reading ≡ LettersRead more used rest ended → list_all (has_value letter) more ≡ true) → list_all (has_value letter) all ≡ true
  behind-valued {front} here behind next = ap (list_all (has_value letter)) (sym behind.are_all) ∙ all-append (has_value letter) front behind.more here (next behind.more behind.is_reading)

  pub read-valued : (at : ℕ) (wanted : Option ℕ) (words : List (List ℕ)) (letters : List Letter) (used : ℕ) (rest : List (List ℕ)) (ended : Bool)
      → read_from opts at wanted words ≡ LettersRead letters used rest ended → list_all (has_value letter) letters ≡ true
  unfolding FreeCluster FreeShown
  read-valued at None [] letters used rest ended is = let none : [] ≡ letters = cc in ap (list_all (has_value letter)) (sym none)
  read-valued at (Some other) [] letters used rest ended is = absurd (cc)
  read-valued at (Some other) (word ∷ words) letters used rest ended is =
      let value : Value = record { word = at; from = 0; text = word } in
      behind-valued {front = with_value other value ∷ []} (ap (λ b. b && true) (value-valued other value)) (without (with_value other value ∷ []) letters (read_from opts (at + 1) None words) used rest ended is)
      (λ more is. read-valued (at + 1) None words more used rest ended is)
  read-valued at None (word ∷ words) letters used rest ended is = by (shown opts word) (shown-free word) is (λ wanted more is. read-valued (at + 1) wanted words more used rest ended is)
    where
      by : (shown : Shown) → FreeShown shown → word_read shown at word words (λ wanted. read_from opts (at + 1) wanted words) ≡ LettersRead letters used rest ended
          → ((wanted : Option ℕ) (more : List Letter) → read_from opts (at + 1) wanted words ≡ LettersRead more used rest ended → list_all (has_value letter) more ≡ true) → list_all (has_value letter) letters ≡ true
      by Plain free is next = let none : [] ≡ letters = cc in ap (list_all (has_value letter)) (sym none)
      by Dashes free is next = let none : [] ≡ letters = cc in ap (list_all (has_value letter)) (sym none)
      by (Letters (Flags flags)) free is next =
          behind-valued (flags-valued flags free) (without (map flag flags) letters (read_from opts (at + 1) None words) used rest ended is) (λ more is. next None more is)
      by (Letters (Bad bad)) free is next = absurd (cc)
      by (Letters (Last before last [])) free is next =
          behind-valued (flags-valued before free) (without (map flag before) letters (read_from opts (at + 1) (Some last) words) used rest ended is) (λ more is. next (Some last) more is)
      by (Letters (Last before last (byte ∷ bytes))) free is next =
          let value : Value = record { word = at; from = length before + 2; text = byte ∷ bytes } in
          behind-valued (all-append (has_value letter) (map flag before) (with_value last value ∷ []) (flags-valued before free) (ap (λ b. b && true) (value-valued last value)))
          (without (map flag before ++ with_value last value ∷ []) letters (read_from opts (at + 1) None words) used rest ended is) (λ more is. next None more is)
