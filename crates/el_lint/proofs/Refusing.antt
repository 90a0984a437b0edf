-- Programs with a word that they refuse.
use Rattle.el_room.proofs.Vocabulary.{filter, list_all, list_any, and_parts, not-true, Prog, Define, Importas, Import, Multidefine, Multisubstitute, Elgetpositionals, Export, Unexport, Withstdinas, Exit, Forx, Forstdin, Forbacktickx, Backtick, Redirfd, Fdmove, Fdclose, Fdswap, Piperw, Heredoc, name_text, Args, is_good_name, positionals_of, Vars, is_good_key, Scope, Pairs, crunched_after, prepared_by, listed_rules, words_by, DEFINE, FORX, FORSTDIN, FORBACKTICKX, BACKTICK, Letter, shape_of, is_directive, texts_of, names_of, Act, Plan, gives, ends, takes, calls, and_then, and_go_on, State, Status, Task, Trouble, BadNumber, OutOfRange, BadName, BadNetstring, NotSet, Missing, trouble_status, complaint, refused, Read, DirectiveRead, directive_read, own_directive, directive_has, directive_value, directive_text, is_in_force, chosen, the_text, First, Second}
use Rattle.el_machine.proofs.Vocabulary.{export, unexport, withstdinas, as_importas, import, transformed, paired, unset_words, imported_words, is_good_part, pairs_named, positioned, has_good_names, pairs_by, joined_pairs, all_pairs, put_or_refused, substituting, multisubstitute, substitute_alone, code_named, exit, exit_code, exit_with, number_or, is_descriptor, one_number, two_numbers, found_or_refused, number_read, numbers_read, redirfd, fdmove, fdclose, fdswap, piperw, heredoc, names_well, backtick, needing_words, begun, forx, forstdin, forbacktickx, effect}
use Rattle.el_script.proofs.Vocabulary.{Tree, Places, unplaced, one_place, text_place, block_place, values_place, names_place, directives_place, Directives, undirected, directed, written, written_directives, is_literal, letters_of, has_letter, names_in, HavePlaces, AreDirectives, the_value, literal_value}
use Rattle.std.proofs.Common.{◌≡◌, ◌⊎◌, inl, inr, ℕ, Bool, true, false, not, ◌&&◌, if◌then◌else◌, List, [], ◌∷◌, ◌++◌, map, Option, Some, None, is_some, Contains, refl, sym, ap, subst, ◌∙◌, append-nil, arith}
use Rattle.std.specs.Prelude.{Result, Ok, Err, is_ok, slice_get, unwrap_or, length, nat_eq, codes}
use Rattle.std.specs.FinMap as finite
use Rattle.el_transform.specs.Computed.{chomped_by, netstrings_of}
use Rattle.el_world.specs.Acts as act
use Rattle.el_world.specs.States.{Spent}
use Rattle.el_vars.specs.Values.{rules_for, or_bad_netstring}
use Rattle.el_vars.specs.Multisubstitute.{pairs_of}
use Rattle.el_redir.specs.Numbers.{is_number}
use Rattle.el_check.specs.Operands.{operands_in, directives_in}
use Rattle.el_meaning.specs.Operands.{read_in}
use Rattle.el_meaning.proofs.InForce.{chosen-has}
use Rattle.el_lint.specs.declared.lint.Lint.{Lint}
use Rattle.el_lint.specs.declared.lint.Lint.TheVariants.{Refused}
use Rattle.el_lint.specs.declared.wanted.Wanted.{Wanted}
use Rattle.el_lint.specs.declared.wanted.Wanted.TheVariants.{Status as StatusWord, Descriptor, Name, Key, NameAndKey, Netstrings}
use Rattle.el_lint.specs.Lints.{place_texts}
use Rattle.el_lint.specs.Refused.{is_empty_value, has_no_delimiters, netstrings_where, is_right, is_refused, refused_as, is_bad_part, refused_lints}
use Rattle.el_lint.specs.Laws.{EndsRefused, directives_refused, all_refused, RefusedWordsEnd}

-- ---- a refusal ends the process, whatever would come after it

module _ {E A B : Type 0} (next : A → Plan E B) where
  go-on-then : {X : Type 0} (first : Act X) (behind : X → Plan E A) → and_then (and_go_on first behind) next ≡ and_go_on first (λ x. and_then (behind x) next)
  unfolding and_then and_go_on
  go-on-then (act.gives x) behind = refl
  go-on-then (act.calls call after) behind = ap (calls call) (λ i answer. go-on-then (after answer) behind i)

refused-ends : {A B : Type 0} (next : A → Task B) (state : State) (name : List ℕ) (trouble : Trouble) → and_then (refused state name trouble) next ≡ refused state name trouble
unfolding refused and_then
refused-ends next state name trouble = go-on-then next (complaint state.fds name trouble) (λ _. ends (Status (trouble_status trouble) state))

module _ {A B : Type 0} (next : A → Task B) where
  -- nor does what would come after it mean anything
  refused-means : (state : State) (task : Task A) (name : List ℕ) (trouble : Trouble) → task ≡ refused state name trouble → takes (Spent state) (and_then task next) ≡ takes (Spent state) (refused state name trouble)
  refused-means state task name trouble is = ap (λ (task : Task A). takes (Spent state) (and_then task next)) is ∙ ap (takes (Spent state)) (refused-ends next state name trouble)

-- a task is a refusal with 100
record IsRefused {A : Type 0} (program : Prog) (state : State) (task : Task A) : Type 0 where
  trouble : Trouble
  status : trouble_status trouble ≡ 100
  is : task ≡ refused state (name_text program) trouble

-- so is what comes after it
refused-then : {A B : Type 0} (program : Prog) (state : State) (task : Task A) (next : A → Task B) → IsRefused program state task → IsRefused program state (and_then task next)
refused-then program state task next refusal =
    record { trouble = refusal.trouble; status = refusal.status; is = ap (λ (task : Task _). and_then task next) refusal.is ∙ refused-ends next state (name_text program) refusal.trouble }

-- where a program's effect is a refusal, so is what the program means
ends-refused : (program : Prog) (options : List (List ℕ)) (places : Places) (rest : Tree) (scope : Scope) (state : State) → IsRefused program state (effect program (read_in scope program options places rest) state)
    → EndsRefused program options places rest scope state
ends-refused program options places rest scope state refusal =
    record {
      trouble = refusal.trouble;
      status = refusal.status;
      means = refused-means _ state (effect program (read_in scope program options places rest) state) (name_text program) refusal.trouble refusal.is;
    }

-- ---- numbers that are none

record IsBad {A : Type 0} (found : Result A Trouble) : Type 0 where
  trouble : Trouble
  status : trouble_status trouble ≡ 100
  is : found ≡ Err trouble

bad-number : {A : Type 0} → IsBad {A = A} (Err BadNumber)
unfolding trouble_status
bad-number = record { trouble = BadNumber; status = refl; is = refl }

bad-range : {A : Type 0} → IsBad {A = A} (Err OutOfRange)
unfolding trouble_status
bad-range = record { trouble = OutOfRange; status = refl; is = refl }

one-bad : (text : List ℕ) → is_descriptor text ≡ false → IsBad (one_number text)
one-bad text bad = by (is_number text) (is_descriptor text) bad
  where
    by : (number descriptor : Bool) → descriptor ≡ false → IsBad {A = ℕ} (if not number then Err BadNumber else (if descriptor then Ok (number_or 0 text) else Err OutOfRange))
    by false descriptor bad = bad-number
    by true true bad = absurd (let no : true ≡ false = bad in cc)
    by true false bad = bad-range

two-bad : (one other : List ℕ) → (is_descriptor one && is_descriptor other) ≡ false → IsBad (two_numbers one other)
two-bad one other bad = by (is_number one && is_number other) (is_descriptor one && is_descriptor other) _ bad
  where
    by : {B : Type 0} (numbers descriptors : Bool) (made : B) → descriptors ≡ false → IsBad {A = B} (if not numbers then Err BadNumber else (if descriptors then Ok made else Err OutOfRange))
    by false descriptors made bad = bad-number
    by true true made bad = absurd (let no : true ≡ false = bad in cc)
    by true false made bad = bad-range

-- a number that is bad is a refusal
number-refused : {A : Type 0} (program : Prog) (state : State) (found : Result A Trouble) → IsBad found → IsRefused program state (found_or_refused state program found)
number-refused program state found bad = record { trouble = bad.trouble; status = bad.status; is = ap (λ (found : Result _ Trouble). found_or_refused state program found) bad.is }

-- whatever a program would do with it
one-refused : {A : Type 0} (program : Prog) (read : Read) (state : State) (next : ℕ → Task A) → is_descriptor (the_text First read) ≡ false → IsRefused program state (and_then (number_read program read state) next)
unfolding number_read
one-refused program read state next none = refused-then program state _ next (number-refused program state (one_number (the_text First read)) (one-bad (the_text First read) none))

two-refused : {A : Type 0} (program : Prog) (read : Read) (state : State) (next : _ → Task A) → (is_descriptor (the_text First read) && is_descriptor (the_text Second read)) ≡ false
    → IsRefused program state (and_then (numbers_read program read state) next)
unfolding numbers_read
two-refused program read state next none =
    refused-then program state _ next (number-refused program state (two_numbers (the_text First read) (the_text Second read)) (two-bad (the_text First read) (the_text Second read) none))

none-named : (found : Option ℕ) → is_some found ≡ false → found ≡ None
none-named None is = refl
none-named (Some code) is = absurd (let no : true ≡ false = is in cc)

exit-refused : (read : Read) (state : State) (text : List ℕ) → slice_get read.texts 0 ≡ Some text → is_some (code_named text) ≡ false → IsRefused Exit state (effect Exit read state)
unfolding effect exit trouble_status
exit-refused read state text there none =
    record {
      trouble = BadNumber;
      status = refl;
      is = ap (λ text. exit_with state (exit_code text)) there ∙ ap (exit_with state) (none-named (code_named text) none);
    }

redirfd-refused : (read : Read) (state : State) → is_descriptor (the_text First read) ≡ false → IsRefused Redirfd state (effect Redirfd read state)
unfolding effect redirfd
redirfd-refused read state none = one-refused Redirfd read state _ none

fdclose-refused : (read : Read) (state : State) → is_descriptor (the_text First read) ≡ false → IsRefused Fdclose state (effect Fdclose read state)
unfolding effect fdclose
fdclose-refused read state none = one-refused Fdclose read state _ none

heredoc-refused : (read : Read) (state : State) → is_descriptor (the_text First read) ≡ false → IsRefused Heredoc state (effect Heredoc read state)
unfolding effect heredoc
heredoc-refused read state none = one-refused Heredoc read state _ none

fdmove-refused : (read : Read) (state : State) → (is_descriptor (the_text First read) && is_descriptor (the_text Second read)) ≡ false → IsRefused Fdmove state (effect Fdmove read state)
unfolding effect fdmove
fdmove-refused read state none = two-refused Fdmove read state _ none

fdswap-refused : (read : Read) (state : State) → (is_descriptor (the_text First read) && is_descriptor (the_text Second read)) ≡ false → IsRefused Fdswap state (effect Fdswap read state)
unfolding effect fdswap
fdswap-refused read state none = two-refused Fdswap read state _ none

piperw-refused : (read : Read) (state : State) → (is_descriptor (the_text First read) && is_descriptor (the_text Second read)) ≡ false → IsRefused Piperw state (effect Piperw read state)
unfolding effect piperw
piperw-refused read state none = two-refused Piperw read state _ none

-- ---- names that aren't good

bad-name : {A : Type 0} (program : Prog) (state : State) (good : Bool) (task : Task A) → good ≡ false → IsRefused program state (if good then task else refused state (name_text program) BadName)
unfolding trouble_status
bad-name program state true task bad = absurd (let no : true ≡ false = bad in cc)
bad-name program state false task bad = record { trouble = BadName; status = refl; is = refl }

export-refused : (read : Read) (state : State) → is_good_name (the_text First read) ≡ false → IsRefused Export state (effect Export read state)
unfolding effect export
export-refused read state bad = bad-name Export state (is_good_name (the_text First read)) _ bad

unexport-refused : (read : Read) (state : State) → is_good_name (the_text First read) ≡ false → IsRefused Unexport state (effect Unexport read state)
unfolding effect unexport
unexport-refused read state bad = bad-name Unexport state (is_good_name (the_text First read)) _ bad

withstdinas-refused : (read : Read) (state : State) → is_good_name (the_text First read) ≡ false → IsRefused Withstdinas state (effect Withstdinas read state)
unfolding effect withstdinas
withstdinas-refused read state bad = bad-name Withstdinas state (is_good_name (the_text First read)) _ bad

backtick-refused : (read : Read) (state : State) → names_well read ≡ false → IsRefused Backtick state (effect Backtick read state)
unfolding effect backtick
backtick-refused read state bad = bad-name Backtick state (names_well read) _ bad

-- a loop ends before its first turn: without words for its turns, or with a bad name
begun-refused : (program : Prog) (read : Read) (state : State) → names_well read ≡ false → IsRefused program state (begun program read state)
unfolding begun and_then trouble_status
begun-refused program read state bad = by read.rest
  where
    tested : Task (Unit {0})
    tested = if names_well read then gives tt else refused state (name_text program) BadName

    by : (words : List (List ℕ)) → IsRefused program state (and_then (needing_words program words state) (λ _. tested))
    by [] = refused-then program state (needing_words program [] state) _ (record { trouble = Missing; status = refl; is = refl })
    by (word ∷ words) = bad-name program state (names_well read) (gives tt) bad

forx-refused : (read : Read) (state : State) → names_well read ≡ false → IsRefused Forx state (effect Forx read state)
unfolding effect forx
forx-refused read state bad = refused-then Forx state (begun Forx read state) _ (begun-refused Forx read state bad)

forstdin-refused : (read : Read) (state : State) → names_well read ≡ false → IsRefused Forstdin state (effect Forstdin read state)
unfolding effect forstdin
forstdin-refused read state bad = refused-then Forstdin state (begun Forstdin read state) _ (begun-refused Forstdin read state bad)

forbacktickx-refused : (read : Read) (state : State) → names_well read ≡ false → IsRefused Forbacktickx state (effect Forbacktickx read state)
unfolding effect forbacktickx
forbacktickx-refused read state bad = refused-then Forbacktickx state (begun Forbacktickx read state) _ (begun-refused Forbacktickx read state bad)

-- directives of which one has a name that isn't good
substituting-refused : (program : Prog) (directives : List DirectiveRead) (state : State) → list_all has_good_names directives ≡ false → IsRefused program state (substituting program directives state)
unfolding substituting
substituting-refused program directives state bad = bad-name program state (list_all has_good_names directives) _ bad

-- or a value that isn't good
pairs-refused : (program : Prog) (directives : List DirectiveRead) (state : State) → IsBad (all_pairs directives state.env) → IsRefused program state (substituting program directives state)
unfolding substituting trouble_status
pairs-refused program directives state bad = by (list_all has_good_names directives)
  where
    by : (good : Bool) → IsRefused program state (if good then put_or_refused program directives state (all_pairs directives state.env) else refused state (name_text program) BadName)
    by true = record { trouble = bad.trouble; status = bad.status; is = ap (put_or_refused program directives state) bad.is }
    by false = record { trouble = BadName; status = refl; is = refl }

-- ---- values that aren't good

-- whatever is wrong with them has status 100
Only100 : {A : Type 0} → Result A Trouble → Type 0
Only100 (Ok value) = Unit {0}
Only100 (Err trouble) = trouble_status trouble ≡ 100

made-100 : (found : Result (List (List ℕ)) ℕ) → Only100 (or_bad_netstring found)
unfolding Only100 trouble_status
made-100 (Ok words) = tt
made-100 (Err place) = refl

paired-100 : (key : List ℕ) (words : Result (List (List ℕ)) Trouble) → Only100 words → Only100 (paired key words)
unfolding Only100
paired-100 key (Ok words) only = tt
paired-100 key (Err trouble) only = only

named-100 : (names : List (List ℕ)) (words : Result (List (List ℕ)) Trouble) → Only100 words → Only100 (pairs_named names words)
unfolding Only100
named-100 names (Ok words) only = tt
named-100 names (Err trouble) only = only

imported-100 : (directive : DirectiveRead) (value : Option (List ℕ)) → Only100 (imported_words directive value)
unfolding Only100 trouble_status
imported-100 directive (Some value) = made-100 _
imported-100 directive None = by (directive_value (codes "D") directive) (directive_has (codes "i") directive)
  where
    by : (default : Option (List ℕ)) (insists : Bool) → Only100 (unset_words directive default)
    by (Some value) insists = made-100 _
    by None insists = insisting (directive_has (codes "i") directive)
      where
        insisting : (insists : Bool) → Only100 {A = List (List ℕ)} (if insists then Err NotSet else Ok [])
        insisting true = refl
        insisting false = tt

positioned-100 : (least : ℕ) (found : Option (List ℕ × List (List ℕ))) → Only100 (positioned least found)
unfolding Only100 trouble_status
positioned-100 least None = refl
positioned-100 least (Some found) = tt

pairs-100 : (program : Prog) (directive : DirectiveRead) (env : Vars) → Only100 (pairs_by program directive env)
unfolding Only100
pairs-100 Define directive env = paired-100 (directive_text First directive) _ (made-100 _)
pairs-100 Importas directive env = paired-100 (directive_text First directive) _ (imported-100 directive (finite.get env (directive_text Second directive)))
pairs-100 Multidefine directive env = named-100 directive.names _ (made-100 _)
pairs-100 Elgetpositionals directive env = positioned-100 _ (positionals_of env)
pairs-100 _ directive env = tt

-- one bad value, and none of what stands in front of it can be worse
bad-here : (pairs more : Result Pairs Trouble) → IsBad pairs → IsBad (joined_pairs pairs more)
bad-here pairs more bad = record { trouble = bad.trouble; status = bad.status; is = ap (λ (pairs : Result Pairs Trouble). joined_pairs pairs more) bad.is }

bad-behind : (pairs more : Result Pairs Trouble) → Only100 pairs → IsBad more → IsBad (joined_pairs pairs more)
unfolding Only100
bad-behind (Ok pairs) more only bad = record { trouble = bad.trouble; status = bad.status; is = ap (joined_pairs (Ok pairs)) bad.is }
bad-behind (Err trouble) more only bad = record { trouble = trouble; status = only; is = refl }

-- ---- netstrings

crunched-same : (bytes : List ℕ) → crunched_after (λ byte. list_any (λ delimiter. nat_eq delimiter byte) []) false bytes ≡ bytes
crunched-same [] = refl
crunched-same (byte ∷ bytes) = ap (λ (more : List ℕ). byte ∷ more) (crunched-same bytes)

chomped-same : (bytes : List ℕ) → chomped_by (λ byte. list_any (λ delimiter. nat_eq delimiter byte) []) bytes ≡ bytes
chomped-same [] = refl
chomped-same (byte ∷ []) = refl
chomped-same (byte ∷ next ∷ bytes) = ap (λ (more : List ℕ). byte ∷ more) (chomped-same (next ∷ bytes))

-- without delimiters nothing is crunched or chomped
prepared-same : (crunch chomp : Bool) (text : List ℕ) → prepared_by (listed_rules crunch chomp true []) text ≡ text
prepared-same false false text = refl
prepared-same false true text = chomped-same text
prepared-same true false text = crunched-same text
prepared-same true true text = ap (chomped_by (λ byte. list_any (λ delimiter. nat_eq delimiter byte) [])) (crunched-same text) ∙ chomped-same text

words-same : (crunch chomp : Bool) (text : List ℕ) → words_by (listed_rules crunch chomp true []) text ≡ words_by (listed_rules false false true []) text
words-same crunch chomp text = ap (λ (bytes : List ℕ). netstrings_of (length bytes) bytes) (prepared-same crunch chomp text)

netstrings-bad : (found : Result (List (List ℕ)) ℕ) → is_ok found ≡ false → IsBad (or_bad_netstring found)
unfolding trouble_status
netstrings-bad (Ok words) bad = absurd (let no : true ≡ false = bad in cc)
netstrings-bad (Err place) bad = record { trouble = BadNetstring; status = refl; is = refl }

-- an empty value of `d` gives no delimiters
no-delimiters : (value : Option (List ℕ)) → is_empty_value value ≡ true → unwrap_or value (codes " \n\r\t") ≡ []
no-delimiters (Some []) is = refl
no-delimiters (Some (byte ∷ bytes)) is = absurd (let no : false ≡ true = is in cc)
no-delimiters None is = absurd (let no : false ≡ true = is in cc)

-- a directive that splits has no words of a value that isn't netstrings
transformed-bad : (directive : DirectiveRead) (split : Bool) (text : List ℕ) → split ≡ true → is_empty_value (directive_value (codes "d") directive) ≡ true → is_right Netstrings text ≡ false → IsBad (transformed directive split text)
transformed-bad directive split text splits empty wrong =
    netstrings-bad (words_by (rules_for directive split) text)
    (ap (λ (split : Bool). is_ok (words_by (rules_for directive split) text)) splits
    ∙ ap (λ (delimiters : List ℕ). is_ok (words_by (listed_rules (directive_has (codes "C") directive) (directive_has (codes "n") directive) true delimiters) text)) (no-delimiters (directive_value (codes "d") directive) empty)
    ∙ ap is_ok (words-same (directive_has (codes "C") directive) (directive_has (codes "n") directive) text) ∙ wrong)

-- ---- words that are refused

-- of two tests one fails
either-fails : (one other : Bool) → (one ≡ false) ⊎ (other ≡ false) → (one && other) ≡ false
either-fails true other (inl is) = absurd (let no : true ≡ false = is in cc)
either-fails false other (inl is) = refl
either-fails true other (inr is) = is
either-fails false other (inr is) = refl

-- a word that is refused is literal, so that its value isn't what must stand there either
value-refused : (wanted : Wanted) (scope : Scope) (text : List ℕ) → is_refused wanted text ≡ true → is_right wanted (the_value scope text) ≡ false
value-refused wanted scope text is =
    let parts = and_parts (is_literal text) (not (is_right wanted text)) is in ap (is_right wanted) (literal_value scope text parts.0) ∙ not-true (is_right wanted text) parts.1

-- the one word is refused, or nothing is found
found-one : (program : Prog) (wanted : Wanted) (text : List ℕ) → ((refused_as program (Some wanted) (Some text) ++ []) ++ [] ≡ []) ⊎ (is_refused wanted text ≡ true)
found-one program wanted text = by (is_refused wanted text)
  where
    by : (is : Bool) → (((if is then Refused program wanted text ∷ [] else []) ++ []) ++ [] ≡ []) ⊎ (is ≡ true)
    by true = inr refl
    by false = inl refl

-- one of two words is
found-two : (program : Prog) (wanted further : Wanted) (one other : List ℕ)
    → ((refused_as program (Some wanted) (Some one) ++ refused_as program (Some further) (Some other)) ++ [] ≡ []) ⊎ ((is_refused wanted one ≡ true) ⊎ (is_refused further other ≡ true))
found-two program wanted further one other = by (is_refused wanted one) (is_refused further other)
  where
    by : (first second : Bool) → (((if first then Refused program wanted one ∷ [] else []) ++ (if second then Refused program further other ∷ [] else [])) ++ [] ≡ []) ⊎ ((first ≡ true) ⊎ (second ≡ true))
    by true second = inr (inl refl)
    by false true = inr (inr refl)
    by false false = inl refl

-- what follows from the second of two
or-then : {A B C : Type 0} → A ⊎ B → (B → C) → A ⊎ C
or-then (inl a) next = inl a
or-then (inr b) next = inr (next b)

-- nothing is found in a program, or it is refused
IsCleanOr : Prog → (options : List (List ℕ)) → Places → (rest : Tree) → Scope → State → Type 0
IsCleanOr program options places rest scope state = (all_refused program options places ≡ []) ⊎ EndsRefused program options places rest scope state

module _ (program : Prog) (options : List (List ℕ)) (places : Places) (rest : Tree) (scope : Scope) (state : State) where
  read : Read
  read = read_in scope program options places rest

  -- a program with one such word
  one-ends : (wanted : Wanted) (text : List ℕ) → (is_right wanted (the_value scope text) ≡ false → IsRefused program state (effect program read state))
      → ((refused_as program (Some wanted) (Some text) ++ []) ++ [] ≡ []) ⊎ EndsRefused program options places rest scope state
  unfolding read
  one-ends wanted text refuses =
      or-then (found-one program wanted text) (λ refused. ends-refused program options places rest scope state (refuses (value-refused wanted scope text refused)))

  -- and with two
  two-end : (wanted further : Wanted) (one other : List ℕ) → ((is_right wanted (the_value scope one) && is_right further (the_value scope other)) ≡ false → IsRefused program state (effect program read state))
      → ((refused_as program (Some wanted) (Some one) ++ refused_as program (Some further) (Some other)) ++ [] ≡ []) ⊎ EndsRefused program options places rest scope state
  unfolding read
  two-end wanted further one other refuses =
      or-then (found-two program wanted further one other) (λ refused. ends-refused program options places rest scope state (refuses (either-fails _ _ (failing refused))))
    where
      failing : (is_refused wanted one ≡ true) ⊎ (is_refused further other ≡ true) → (is_right wanted (the_value scope one) ≡ false) ⊎ (is_right further (the_value scope other) ≡ false)
      failing (inl is) = inl (value-refused wanted scope one is)
      failing (inr is) = inr (value-refused further scope other is)

-- ---- names of values

-- what the word of a value must be is what the program tests
as-tested : (puts : Bool) (text : List ℕ) → is_right (if puts then Key else Name) text ≡ (if puts then is_good_key text else is_good_name text)
as-tested true text = refl
as-tested false text = refl

-- it isn't
ill-named : (puts has : Bool) (text : List ℕ) → has ≡ puts → is_right (if puts then Key else Name) text ≡ false → (if has then is_good_key text else is_good_name text) ≡ false
ill-named puts has text same wrong = ap (λ b. if b then is_good_key text else is_good_name text) same ∙ sym (as-tested puts text) ∙ wrong

-- ---- directives

-- the names of a block are keys or empty, or one is found
found-parts : (names : List (List ℕ)) → (map (Refused Multidefine Key) (filter is_bad_part names) ≡ []) ⊎ (list_all is_good_part names ≡ false)
found-parts [] = inl refl
found-parts (name ∷ names) = by (is_good_part name) (found-parts names)
  where
    by : (good : Bool) → (map (Refused Multidefine Key) (filter is_bad_part names) ≡ []) ⊎ (list_all is_good_part names ≡ false)
        → (map (Refused Multidefine Key) (if not good then name ∷ filter is_bad_part names else filter is_bad_part names) ≡ []) ⊎ ((good && list_all is_good_part names) ≡ false)
    by false others = inr refl
    by true others = others

-- what a directive reads in a scope
the-directive : Scope → Prog → (options : List (List ℕ)) → Places → DirectiveRead
the-directive scope program options places =
    directive_read (record { program = program; letters = letters_of program options; texts = texts_of (operands_in scope places); names = names_of (operands_in scope places) })

-- a directive's names aren't good, or it has no words, whatever the variables are
IsIll : DirectiveRead → Type 0
IsIll directive = (has_good_names directive ≡ false) ⊎ ((env : Vars) → IsBad (pairs_of directive env))

-- so it is with one of several
AreIll : List DirectiveRead → Type 0
AreIll directives = (list_all has_good_names directives ≡ false) ⊎ ((env : Vars) → IsBad (all_pairs directives env))

ill-refused : (program : Prog) (directives : List DirectiveRead) (state : State) → AreIll directives → IsRefused program state (substituting program directives state)
unfolding AreIll
ill-refused program directives state (inl bad) = substituting-refused program directives state bad
ill-refused program directives state (inr bad) = pairs-refused program directives state (bad state.env)

ill-alone : (directive : DirectiveRead) → IsIll directive → AreIll (directive ∷ [])
unfolding IsIll AreIll
ill-alone directive (inl bad) = inl (either-fails _ _ (inl bad))
ill-alone directive (inr bad) = inr (λ env. bad-here _ _ (bad env))

paired-bad : (key : List ℕ) (words : Result (List (List ℕ)) Trouble) → IsBad words → IsBad (paired key words)
paired-bad key words bad = record { trouble = bad.trouble; status = bad.status; is = ap (paired key) bad.is }

named-bad : (names : List (List ℕ)) (words : Result (List (List ℕ)) Trouble) → IsBad words → IsBad (pairs_named names words)
named-bad names words bad = record { trouble = bad.trouble; status = bad.status; is = ap (pairs_named names) bad.is }

module _ (options : List (List ℕ)) (scope : Scope) where
  define-clean : (text value : List ℕ) → let places = one_place (text_place text) (one_place (text_place value) unplaced) in
      (refused_lints Define (letters_of Define options) (place_texts places) (names_in places) ≡ []) ⊎ IsIll (the-directive scope Define options places)
  unfolding IsIll the-directive shape_of
  define-clean text value = by (has_letter Define (codes "s") letters && has_no_delimiters Define letters) refl
    where
      letters : List Letter
      letters = letters_of Define options

      directive : DirectiveRead
      directive = the-directive scope Define options (one_place (text_place text) (one_place (text_place value) unplaced))

      failing : (has_letter Define (codes "s") letters && has_no_delimiters Define letters) ≡ true → (is_refused Key text ≡ true) ⊎ (is_refused Netstrings value ≡ true) → IsIll directive
      failing is (inl wrong) = inl (value-refused Key scope text wrong)
      failing is (inr wrong) =
          let both = and_parts _ _ is in
          inr (λ env. paired-bad _ _ (transformed-bad directive (directive_has (codes "s") directive) (the_value scope value) (chosen-has [] letters 115 DEFINE.opts ∙ both.0) both.1 (value-refused Netstrings scope value wrong)))

      by : (are : Bool) → (has_letter Define (codes "s") letters && has_no_delimiters Define letters) ≡ are
          → ((refused_as Define (Some Key) (Some text) ++ refused_as Define (netstrings_where are) (Some value)) ++ [] ≡ []) ⊎ IsIll directive
      by false is = or-then (found-one Define Key text) (λ refused. inl (value-refused Key scope text refused))
      by true is = or-then (found-two Define Key Netstrings text value) (failing is)

  multidefine-clean : (text : List ℕ) (names : List (List ℕ)) → let places = one_place (text_place text) (one_place (names_place names) unplaced) in
      (refused_lints Multidefine (letters_of Multidefine options) (place_texts places) (names_in places) ≡ []) ⊎ IsIll (the-directive scope Multidefine options places)
  unfolding IsIll the-directive shape_of
  multidefine-clean text names = by (has_no_delimiters Multidefine letters) refl
    where
      letters : List Letter
      letters = letters_of Multidefine options

      directive : DirectiveRead
      directive = the-directive scope Multidefine options (one_place (text_place text) (one_place (names_place names) unplaced))

      parts : List Lint
      parts = map (Refused Multidefine Key) (filter is_bad_part names)

      by_value : has_no_delimiters Multidefine letters ≡ true → (is : Bool) → is_refused Netstrings text ≡ is → (((if is then Refused Multidefine Netstrings text ∷ [] else []) ++ []) ++ parts ≡ []) ⊎ IsIll directive
      by_value empty true wrong = inr (inr (λ env. named-bad names _ (transformed-bad directive true (the_value scope text) refl empty (value-refused Netstrings scope text wrong))))
      by_value empty false right = or-then (found-parts names) inl

      by : (are : Bool) → has_no_delimiters Multidefine letters ≡ are → ((refused_as Multidefine (netstrings_where are) (Some text) ++ []) ++ parts ≡ []) ⊎ IsIll directive
      by false is = or-then (found-parts names) inl
      by true is = by_value is (is_refused Netstrings text) refl

-- nothing is found in a directive, or it is ill
directive-clean : (program : Prog) (options : List (List ℕ)) (places : Places) (scope : Scope) (after : Args) → is_directive program ≡ true → HavePlaces places (shape_of program).places after
    → (refused_lints program (letters_of program options) (place_texts places) (names_in places) ≡ []) ⊎ IsIll (the-directive scope program options places)
unfolding shape_of the-directive IsIll
directive-clean Define options (one_place (text_place text) (one_place (text_place value) unplaced)) scope after is have = define-clean options scope text value
directive-clean Importas options (one_place (text_place text) (one_place (text_place name) unplaced)) scope after is have = or-then (found-two Importas Key Name text name) failing
  where
    failing : (is_refused Key text ≡ true) ⊎ (is_refused Name name ≡ true) → IsIll (the-directive scope Importas options (one_place (text_place text) (one_place (text_place name) unplaced)))
    failing (inl is) = inl (either-fails _ _ (inl (value-refused Key scope text is)))
    failing (inr is) = inl (either-fails _ _ (inr (value-refused Name scope name is)))
directive-clean Multidefine options (one_place (text_place text) (one_place (names_place names) unplaced)) scope after is have = multidefine-clean options scope text names
directive-clean Elgetpositionals options places scope after is have = inl refl
directive-clean Define options (one_place (text_place text) places) scope after is have = absurd have.1
directive-clean Define options places scope after is have = absurd have
directive-clean Importas options (one_place (text_place text) places) scope after is have = absurd have.1
directive-clean Importas options places scope after is have = absurd have
directive-clean Multidefine options (one_place (text_place text) (one_place (names_place names) places)) scope after is have = absurd have.1
directive-clean Multidefine options places scope after is have = absurd have
directive-clean program options places scope after is have = absurd (let no : false ≡ true = is in cc)

-- nor in a block of them, or one is ill
directives-clean : (scope : Scope) (directives : Directives) → AreDirectives directives → (directives_refused directives ≡ []) ⊎ AreIll (map directive_read (directives_in scope directives))
unfolding AreIll the-directive IsIll
directives-clean scope undirected formed = inl refl
directives-clean scope (directed program options places directives) formed =
    by (directive-clean program options places scope (written_directives directives) formed.1 formed.3) (directives-clean scope directives formed.4)
  where
    directive : DirectiveRead
    directive = the-directive scope program options places

    there : List DirectiveRead
    there = map directive_read (directives_in scope directives)

    lints : List Lint
    lints = refused_lints program (letters_of program options) (place_texts places) (names_in places)

    by : (lints ≡ []) ⊎ IsIll directive → (directives_refused directives ≡ []) ⊎ AreIll there → (lints ++ directives_refused directives ≡ []) ⊎ AreIll (directive ∷ there)
    by (inr (inl bad)) others = inr (inl (either-fails _ _ (inl bad)))
    by (inr (inr bad)) others = inr (inr (λ env. bad-here _ _ (bad env)))
    by (inl clean) (inr (inl bad)) = inr (inl (either-fails _ _ (inr bad)))
    by (inl clean) (inr (inr bad)) = inr (inr (λ env. bad-behind _ _ (pairs-100 program directive env) (bad env)))
    by (inl clean) (inl none) = inl (ap (λ (lints : List Lint). lints ++ directives_refused directives) clean ∙ none)

-- a program that is a directive too
alone-refused : (program : Prog) (read : Read) (state : State) → IsIll (own_directive program read) → IsRefused program state (substitute_alone program read state)
unfolding substitute_alone
alone-refused program read state ill = ill-refused program (own_directive program read ∷ []) state (ill-alone (own_directive program read) ill)

define-refused : (read : Read) (state : State) → IsIll (own_directive Define read) → IsRefused Define state (effect Define read state)
unfolding effect
define-refused read state ill = alone-refused Define read state ill

importas-refused : (read : Read) (state : State) → IsIll (own_directive Importas read) → IsRefused Importas state (effect Importas read state)
unfolding effect
importas-refused read state ill = alone-refused Importas read state ill

multidefine-refused : (read : Read) (state : State) → IsIll (own_directive Multidefine read) → IsRefused Multidefine state (effect Multidefine read state)
unfolding effect
multidefine-refused read state ill = alone-refused Multidefine read state ill

import-refused : (read : Read) (state : State) → (is_good_key (the_text First read) && is_good_name (the_text First read)) ≡ false → IsRefused Import state (effect Import read state)
unfolding effect import
import-refused read state bad = substituting-refused Import (as_importas read ∷ []) state (either-fails _ _ (inl bad))

multisubstitute-refused : (read : Read) (state : State) → AreIll read.directives → IsRefused Multisubstitute state (effect Multisubstitute read state)
unfolding effect multisubstitute
multisubstitute-refused read state ill = ill-refused Multisubstitute read.directives state ill

-- ---- programs

by-program : (program : Prog) (options : List (List ℕ)) (places : Places) (rest : Tree) (scope : Scope) (state : State) (after : Args) → HavePlaces places (shape_of program).places after
    → IsCleanOr program options places rest scope state
unfolding shape_of IsCleanOr the-directive IsIll read
by-program Exit options unplaced rest scope state after have = inl refl
by-program Exit options (one_place (text_place text) unplaced) rest scope state after have =
    one-ends Exit options (one_place (text_place text) unplaced) rest scope state StatusWord text (exit-refused _ state (the_value scope text) refl)
by-program Redirfd options (one_place (text_place text) (one_place (text_place file) unplaced)) rest scope state after have =
    one-ends Redirfd options (one_place (text_place text) (one_place (text_place file) unplaced)) rest scope state Descriptor text (redirfd-refused _ state)
by-program Fdclose options (one_place (text_place text) unplaced) rest scope state after have = one-ends Fdclose options (one_place (text_place text) unplaced) rest scope state Descriptor text (fdclose-refused _ state)
by-program Heredoc options (one_place (text_place text) (one_place (text_place input) unplaced)) rest scope state after have =
    one-ends Heredoc options (one_place (text_place text) (one_place (text_place input) unplaced)) rest scope state Descriptor text (heredoc-refused _ state)
by-program Fdmove options (one_place (text_place one) (one_place (text_place other) unplaced)) rest scope state after have =
    two-end Fdmove options (one_place (text_place one) (one_place (text_place other) unplaced)) rest scope state Descriptor Descriptor one other (fdmove-refused _ state)
by-program Fdswap options (one_place (text_place one) (one_place (text_place other) unplaced)) rest scope state after have =
    two-end Fdswap options (one_place (text_place one) (one_place (text_place other) unplaced)) rest scope state Descriptor Descriptor one other (fdswap-refused _ state)
by-program Piperw options (one_place (text_place one) (one_place (text_place other) unplaced)) rest scope state after have =
    two-end Piperw options (one_place (text_place one) (one_place (text_place other) unplaced)) rest scope state Descriptor Descriptor one other (piperw-refused _ state)
by-program Export options (one_place (text_place text) (one_place (text_place value) unplaced)) rest scope state after have =
    one-ends Export options (one_place (text_place text) (one_place (text_place value) unplaced)) rest scope state Name text (export-refused _ state)
by-program Unexport options (one_place (text_place text) unplaced) rest scope state after have = one-ends Unexport options (one_place (text_place text) unplaced) rest scope state Name text (unexport-refused _ state)
by-program Withstdinas options (one_place (text_place text) unplaced) rest scope state after have = one-ends Withstdinas options (one_place (text_place text) unplaced) rest scope state Name text (withstdinas-refused _ state)
by-program Forx options (one_place (text_place text) (one_place (values_place values) unplaced)) rest scope state after have =
    let letters = letters_of Forx options in
    one-ends Forx options (one_place (text_place text) (one_place (values_place values) unplaced)) rest scope state _ text
    (λ wrong. forx-refused _ state (ill-named (has_letter Forx (codes "E") letters) (is_in_force (chosen Forx letters) 69) (the_value scope text) (chosen-has (codes "ox" ∷ []) letters 69 FORX.opts) wrong))
by-program Forstdin options (one_place (text_place text) unplaced) rest scope state after have =
    let letters = letters_of Forstdin options in
    one-ends Forstdin options (one_place (text_place text) unplaced) rest scope state _ text
    (λ wrong. forstdin-refused _ state (ill-named (has_letter Forstdin (codes "E") letters) (is_in_force (chosen Forstdin letters) 69) (the_value scope text) (chosen-has (codes "ox" ∷ []) letters 69 FORSTDIN.opts) wrong))
by-program Forbacktickx options (one_place (text_place text) (one_place (block_place block) unplaced)) rest scope state after have =
    let letters = letters_of Forbacktickx options in
    one-ends Forbacktickx options (one_place (text_place text) (one_place (block_place block) unplaced)) rest scope state _ text
    (λ wrong.
    forbacktickx-refused _ state (ill-named (has_letter Forbacktickx (codes "E") letters) (is_in_force (chosen Forbacktickx letters) 69) (the_value scope text) (chosen-has (codes "ox" ∷ []) letters 69 FORBACKTICKX.opts) wrong))
by-program Backtick options (one_place (text_place text) (one_place (block_place block) unplaced)) rest scope state after have =
    let letters = letters_of Backtick options in
    one-ends Backtick options (one_place (text_place text) (one_place (block_place block) unplaced)) rest scope state _ text
    (λ wrong.
    backtick-refused _ state
    (ill-named (has_letter Backtick (codes "E") letters) (is_in_force (chosen Backtick letters) 69) (the_value scope text) (chosen-has (codes "iID" ∷ codes "nN" ∷ []) letters 69 BACKTICK.opts) wrong))
by-program Define options (one_place (text_place text) (one_place (text_place value) unplaced)) rest scope state after have =
    or-then (directive-clean Define options (one_place (text_place text) (one_place (text_place value) unplaced)) scope after refl have)
    (λ ill. ends-refused Define options (one_place (text_place text) (one_place (text_place value) unplaced)) rest scope state (define-refused _ state ill))
by-program Importas options (one_place (text_place text) (one_place (text_place name) unplaced)) rest scope state after have =
    or-then (directive-clean Importas options (one_place (text_place text) (one_place (text_place name) unplaced)) scope after refl have)
    (λ bad. ends-refused Importas options (one_place (text_place text) (one_place (text_place name) unplaced)) rest scope state (importas-refused _ state bad))
by-program Multidefine options (one_place (text_place text) (one_place (names_place names) unplaced)) rest scope state after have =
    or-then (directive-clean Multidefine options (one_place (text_place text) (one_place (names_place names) unplaced)) scope after refl have)
    (λ bad. ends-refused Multidefine options (one_place (text_place text) (one_place (names_place names) unplaced)) rest scope state (multidefine-refused _ state bad))
by-program Import options (one_place (text_place text) unplaced) rest scope state after have = one-ends Import options (one_place (text_place text) unplaced) rest scope state NameAndKey text (import-refused _ state)
by-program Multisubstitute options (one_place (directives_place directives) unplaced) rest scope state after have =
    or-then (directives-clean scope directives have.0)
    (λ bad.
    ends-refused Multisubstitute options (one_place (directives_place directives) unplaced) rest scope state
    (multisubstitute-refused _ state (subst AreIll (sym (append-nil (map directive_read (directives_in scope directives)))) bad)))
by-program Exit options places rest scope state after have = absurd have
by-program Redirfd options places rest scope state after have = absurd have
by-program Fdclose options places rest scope state after have = absurd have
by-program Heredoc options places rest scope state after have = absurd have
by-program Fdmove options places rest scope state after have = absurd have
by-program Fdswap options places rest scope state after have = absurd have
by-program Piperw options places rest scope state after have = absurd have
by-program Export options places rest scope state after have = absurd have
by-program Unexport options places rest scope state after have = absurd have
by-program Withstdinas options (one_place (text_place text) places) rest scope state after have = absurd have.1
by-program Withstdinas options places rest scope state after have = absurd have
by-program Forx options (one_place (text_place text) places) rest scope state after have = absurd have.1
by-program Forx options places rest scope state after have = absurd have
by-program Forstdin options (one_place (text_place text) places) rest scope state after have = absurd have.1
by-program Forstdin options places rest scope state after have = absurd have
by-program Forbacktickx options (one_place (text_place text) (one_place (block_place block) places)) rest scope state after have = absurd have.1.1
by-program Forbacktickx options (one_place (text_place text) places) rest scope state after have = absurd have.1
by-program Forbacktickx options places rest scope state after have = absurd have
by-program Backtick options (one_place (text_place text) (one_place (block_place block) places)) rest scope state after have = absurd have.1.1
by-program Backtick options (one_place (text_place text) places) rest scope state after have = absurd have.1
by-program Backtick options places rest scope state after have = absurd have
by-program Define options (one_place (text_place text) places) rest scope state after have = absurd have.1
by-program Define options places rest scope state after have = absurd have
by-program Importas options (one_place (text_place text) places) rest scope state after have = absurd have.1
by-program Importas options places rest scope state after have = absurd have
by-program Multidefine options (one_place (text_place text) (one_place (names_place names) places)) rest scope state after have = absurd have.1
by-program Multidefine options places rest scope state after have = absurd have
by-program Import options (one_place (text_place text) places) rest scope state after have = absurd have.1
by-program Import options places rest scope state after have = absurd have
by-program Multisubstitute options (one_place (directives_place directives) places) rest scope state after have = absurd have.1
by-program Multisubstitute options places rest scope state after have = absurd have
by-program program options places rest scope state after have = inl refl

none-found : (lint : Lint) → Contains [] lint → ⊥
none-found lint found = omega (arith, found.1)

pub words-end : RefusedWordsEnd
unfolding IsCleanOr
words-end program options places rest scope state lint formed found = by (by-program program options places rest scope state (written rest) formed.2)
  where
    by : (all_refused program options places ≡ []) ⊎ EndsRefused program options places rest scope state → EndsRefused program options places rest scope state
    by (inl clean) = absurd (none-found lint (subst (λ (lints : List Lint). Contains lints lint) clean found))
    by (inr ended) = ended
