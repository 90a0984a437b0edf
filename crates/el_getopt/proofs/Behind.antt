-- The environment behind a parsing, name by name.
use Rattle.el_room.proofs.Vocabulary.{find, decimal, get-retain_keys, get-remove, slice_cmp-IsAntisymmetric, nat_cmp-IsAntisymmetric, nat_cmp, eq_by_cmp, slice_cmp, bytes_decides, texts_ties, nat_list_cmp_total, eqb-true, number_of, number_of-decimal, Vars, with_numbered, Letter, is_among, last_among, if_this}
use Rattle.std.proofs.Common.{◌≡◌, ◌≢◌, ℕ, zero, suc, ◌+◌, ◌-◌, ◌^◌, ◌<◌, ◌≤◌, ◌||◌, ◌==◌, Bool, true, false, not, if◌then◌else◌, List, [], ◌∷◌, reverse, length, Option, None, Some, option_map, codes, eq-eqb, refl, sym, ap, ◌∙◌, arith}
use Rattle.std.specs.Option.{option_or}
use Rattle.std.specs.FinMap as map
use Rattle.std.proofs.lemmas.List.{reverse-append}
use Rattle.std.proofs.lemmas.List.Folds.{find-append}
use Rattle.std.proofs.lemmas.Fmt.{decimal_injective}
use Rattle.el_env.proofs.Arguments.{get-insert_same, get-insert_other, ArePositionals-set}
use Rattle.el_vars.specs.Numbered.{without_numbered}
use Rattle.el_getopt.specs.Environment.{option_prefix, option_name, option_value, is_option_name, without_options, with_options, parsed_environment}
use Rattle.el_getopt.specs.Laws.{IsBehindParsing}

-- ---- names that are no numbers

-- no number is a letter's name
name-no_number : (letter number : ℕ) → number < 2 ^ 64 → option_name letter ≡ decimal number → ⊥
unfolding option_prefix
name-no_number letter number small same =
    let none : number_of (option_name letter) ≡ None = refl in
    let never : None ≡ Some number = sym none ∙ ap number_of same ∙ number_of-decimal number small in
    cc

name-no_count : (letter : ℕ) → option_name letter ≡ codes "#" → ⊥
unfolding option_prefix
name-no_count letter same = cc

name-no_zero : (letter : ℕ) → option_name letter ≡ codes "0" → ⊥
unfolding option_prefix
name-no_zero letter same = cc

other-removed : (env : Vars) (name other : List ℕ) → (other ≡ name → ⊥) → map.get (map.remove env name) other ≡ map.get env other
other-removed env name other apart = get-remove nat_list_cmp_total env name other ∙ by (eq_by_cmp (slice_cmp nat_cmp) other name) refl
  where
    by : (tie : Bool) → eq_by_cmp (slice_cmp nat_cmp) other name ≡ tie → (if tie then None else map.get env other) ≡ map.get env other
    by true tie = absurd (apart ((bytes_decides other name).0 (texts_ties other name ∙ tie)))
    by false tie = refl

same-removed : (env : Vars) (name : List ℕ) → map.get (map.remove env name) name ≡ None
same-removed env name = get-remove nat_list_cmp_total env name name ∙ ap (λ tie. if tie then None else map.get env name) (sym (texts_ties name name) ∙ (bytes_decides name name).1 refl)

other-numbered : (args : List (List ℕ)) (n : ℕ) (env : Vars) (name : List ℕ) → ((number : ℕ) → n ≤ number → number < n + length args → name ≡ decimal number → ⊥) → map.get (with_numbered n args env) name ≡ map.get env name
other-numbered [] n env name apart = refl
other-numbered (arg ∷ args) n env name apart =
    other-numbered args (suc n) (map.insert env (decimal n) arg) name (λ number from below same. apart number (omega arith) (omega arith) same)
    ∙ get-insert_other env (decimal n) arg name (λ same. apart n (omega arith) (omega arith) same)

other-without : (count n : ℕ) (env : Vars) (name : List ℕ) → ((number : ℕ) → n ≤ number → number < n + count → name ≡ decimal number → ⊥) → map.get (without_numbered count n env) name ≡ map.get env name
other-without zero n env name apart = refl
other-without (suc count) n env name apart =
    other-without count (suc n) (map.remove env (decimal n)) name (λ number from below same. apart number (omega arith) (omega arith) same)
    ∙ other-removed env (decimal n) name (λ same. apart n (omega arith) (omega arith) same)

-- a number among those is gone
gone-without : (count n number : ℕ) (env : Vars) → n ≤ number → number < n + count → n + count ≤ 2 ^ 64 → map.get (without_numbered count n env) (decimal number) ≡ None
gone-without zero n number env from below small = absurd (omega arith)
gone-without (suc count) n number env from below small = by (n == number) refl (λ more. gone-without count (suc n) number (map.remove env (decimal n)) more (omega arith) (omega arith))
  where
    by : (same : Bool) → (n == number) ≡ same → (suc n ≤ number → map.get (without_numbered count (suc n) (map.remove env (decimal n))) (decimal number) ≡ None) → map.get (without_numbered count (suc n) (map.remove env (decimal n))) (decimal number) ≡ None
    by true is more =
        let same : n ≡ number = eqb-true n number is in
        other-without count (suc n) (map.remove env (decimal n)) (decimal number) (λ later from below equal. let e : number ≡ later = decimal_injective number later (omega arith) (omega arith) equal in absurd (omega arith))
        ∙ ap (λ (m : ℕ). map.get (map.remove env (decimal n)) (decimal m)) (sym same)
        ∙ same-removed env (decimal n)
    by false is more = let apart : n ≢ number = (λ same. let never : true ≡ false = sym (eq-eqb n number same) ∙ is in cc) in more (omega arith)

-- ---- letters

abbrev is_this : (letter : ℕ) → Letter → Bool
is_this letter read = is_among (letter ∷ []) read.letter

-- the value of what was found, or else this
abbrev value_or : Option Letter → Option (List ℕ) → Option (List ℕ)
value_or found before = option_or (option_map option_value found) before

value_or-or : (one other : Option Letter) (before : Option (List ℕ)) → value_or (option_or one other) before ≡ value_or one (value_or other before)
value_or-or None other before = refl
value_or-or (Some read) other before = refl

last-cons : (letter : ℕ) (read : Letter) (letters : List Letter) → last_among (letter ∷ []) (read ∷ letters) ≡ option_or (last_among (letter ∷ []) letters) (find (is_this letter) (read ∷ []))
last-cons letter read letters = ap (find (is_this letter)) (reverse-append (read ∷ []) letters) ∙ find-append (is_this letter) (reverse letters) (read ∷ [])

same-letter : (one other : ℕ) → option_name one ≡ option_name other → one ≡ other
unfolding option_prefix
same-letter one other same = cc

-- what one letter sets
one-set : (env : Vars) (read : Letter) (letter : ℕ) → map.get (map.insert env (option_name read.letter) (option_value read)) (option_name letter) ≡ value_or (find (is_this letter) (read ∷ [])) (map.get env (option_name letter))
one-set env read letter = by (letter == read.letter) refl
  where
    found : (same : Bool) → (letter == read.letter) ≡ same → find (is_this letter) (read ∷ []) ≡ (if same then Some read else None)
    found true is = ap (λ (same : Bool). if same || false then Some read else None) is
    found false is = ap (λ (same : Bool). if same || false then Some read else None) is

    by : (same : Bool) → (letter == read.letter) ≡ same → map.get (map.insert env (option_name read.letter) (option_value read)) (option_name letter) ≡ value_or (find (is_this letter) (read ∷ [])) (map.get env (option_name letter))
    by true is =
        ap (λ letter. map.get (map.insert env (option_name read.letter) (option_value read)) (option_name letter)) (eqb-true letter read.letter is)
        ∙ get-insert_same env (option_name read.letter) (option_value read)
        ∙ ap (λ found. value_or found (map.get env (option_name letter))) (sym (found true is))
    by false is =
        get-insert_other env (option_name read.letter) (option_value read) (option_name letter) (λ same. apart (same-letter letter read.letter same))
        ∙ ap (λ found. value_or found (map.get env (option_name letter))) (sym (found false is))
      where
        apart : letter ≡ read.letter → ⊥
        apart same = let never : true ≡ false = sym (eq-eqb letter read.letter same) ∙ is in cc

-- what all of them set
all-set : (letters : List Letter) (env : Vars) (letter : ℕ) → map.get (with_options letters env) (option_name letter) ≡ value_or (last_among (letter ∷ []) letters) (map.get env (option_name letter))
all-set [] env letter = refl
all-set (read ∷ letters) env letter =
    all-set letters (map.insert env (option_name read.letter) (option_value read)) letter
    ∙ ap (value_or (last_among (letter ∷ []) letters)) (one-set env read letter)
    ∙ sym (value_or-or (last_among (letter ∷ []) letters) (find (is_this letter) (read ∷ [])) (map.get env (option_name letter)))
    ∙ ap (λ found. value_or found (map.get env (option_name letter))) (sym (last-cons letter read letters))

-- the letter that was read last is in force
found-this : (letter : ℕ) (letters : List Letter) → if_this letter (find (is_this letter) letters) ≡ find (is_this letter) letters
found-this letter [] = refl
found-this letter (read ∷ letters) = by (letter == read.letter) refl (found-this letter letters)
  where
    by : (same : Bool) → (letter == read.letter) ≡ same → if_this letter (find (is_this letter) letters) ≡ find (is_this letter) letters → if_this letter (find (is_this letter) (read ∷ letters)) ≡ find (is_this letter) (read ∷ letters)
    by true is more =
        let here : find (is_this letter) (read ∷ letters) ≡ Some read = ap (λ (same : Bool). if same || false then Some read else find (is_this letter) letters) is in
        ap (if_this letter) here
        ∙ ap (λ (same : Bool). if same then Some read else None) (eq-eqb read.letter letter (sym (eqb-true letter read.letter is)))
        ∙ sym here
    by false is more =
        let later : find (is_this letter) (read ∷ letters) ≡ find (is_this letter) letters = ap (λ (same : Bool). if same || false then Some read else find (is_this letter) letters) is in
        ap (if_this letter) later ∙ more ∙ sym later

or-none : (value : Option (List ℕ)) → option_or value None ≡ value
or-none None = refl
or-none (Some value) = refl

none-before : (env : Vars) (letter : ℕ) → map.get (without_options env) (option_name letter) ≡ None
unfolding option_prefix
none-before env letter =
    get-retain_keys env (λ name. not (is_option_name name)) (option_name letter) (λ other tie. ap (λ name. not (is_option_name name)) (sym (slice_cmp-IsAntisymmetric nat_cmp-IsAntisymmetric (option_name letter) other tie)))

-- ---- all names

decimal-no_count : (number : ℕ) → number < 2 ^ 64 → decimal number ≡ codes "#" → ⊥
decimal-no_count number small same = let never : Some number ≡ None = sym (number_of-decimal number small) ∙ ap number_of same in cc

decimal-no_zero : (number : ℕ) → number < 2 ^ 64 → 0 < number → decimal number ≡ codes "0" → ⊥
decimal-no_zero number small some same = let none : Some number ≡ Some 0 = sym (number_of-decimal number small) ∙ ap number_of same in let zeroth : number ≡ 0 = cc in absurd (omega arith)

module _ (letters : List Letter) (zero_arg : List ℕ) (args left : List (List ℕ)) (env : Vars) (few : length args < 2 ^ 63) (among : length left ≤ length args) where
  lower : Vars
  lower = without_numbered (length args - length left) (length left + 1) (with_options letters (without_options env))

  numbered : Vars
  numbered = with_numbered 1 left (map.insert lower (codes "0") zero_arg)

  -- a name that is none of the positional parameters
  behind-numbers : (name : List ℕ) → (name ≡ codes "#" → ⊥) → (name ≡ codes "0" → ⊥) → ((number : ℕ) → 1 ≤ number → number < 1 + length left → name ≡ decimal number → ⊥)
      → map.get (parsed_environment letters zero_arg args left env) name ≡ map.get lower name
  unfolding lower numbered
  behind-numbers name count zeroth number =
      get-insert_other numbered (codes "#") (decimal (length left)) name count
      ∙ other-numbered left 1 (map.insert lower (codes "0") zero_arg) name number
      ∙ get-insert_other lower (codes "0") zero_arg name zeroth

  pub behind-parsing : IsBehindParsing letters zero_arg (length args) left (parsed_environment letters zero_arg args left env)
  unfolding lower
  behind-parsing = record {
    options = λ letter.
        behind-numbers (option_name letter) (name-no_count letter) (name-no_zero letter) (λ number from below same. name-no_number letter number (omega arith) same)
        ∙ other-without (length args - length left) (length left + 1) (with_options letters (without_options env)) (option_name letter) (λ number from below same. name-no_number letter number (omega arith) same)
        ∙ all-set letters (without_options env) letter
        ∙ ap (value_or (last_among (letter ∷ []) letters)) (none-before env letter)
        ∙ or-none (option_map option_value (last_among (letter ∷ []) letters))
        ∙ ap (option_map option_value) (sym (found-this letter (reverse letters)));
    positionals = ArePositionals-set zero_arg left lower (omega arith);
    above = λ number over within.
        behind-numbers (decimal number) (decimal-no_count number (omega arith)) (decimal-no_zero number (omega arith) (omega arith))
        (λ other from below same. let e : number ≡ other = decimal_injective number other (omega arith) (omega arith) same in absurd (omega arith))
        ∙ gone-without (length args - length left) (length left + 1) number (with_options letters (without_options env)) (omega arith) (omega arith) (omega arith);
  }
