-- The option words of programs and directives in a tree.
use Rattle.std.specs.Prelude.{◌≡◌, ℕ, Bool, true, false, not, ◌&&◌, ◌==◌, List, [], Option, None, Some}
use Rattle.std.specs.List.{list_all, list_any}
use Rattle.el_words.specs.declared.prog.Prog.{Prog}
use Rattle.el_words.specs.Args.{Args, nothing, word, group}
use Rattle.el_options.specs.declared.table.Opt.{Opt}
use Rattle.el_options.specs.Reading.{Letter, Reading, Unknown, NoValue, LettersRead, Plain, shown}
use Rattle.el_options.specs.Rules.{keep_rules}
use Rattle.el_options.specs.Shapes.{shape_of, lacks_letter}
use Rattle.el_options.specs.Fronts.{options_of}

-- a word without `$` (36)
abbrev pub is_literal : List ℕ → Bool
is_literal text = not (list_any (λ byte. byte == 36) text)

-- every word is literal
abbrev pub are_literal : List (List ℕ) → Bool
are_literal texts = list_all is_literal texts

-- the letters that were read
abbrev pub letters_in : Reading → List Letter
letters_in (Unknown letter) = []
letters_in (NoValue letter) = []
letters_in (LettersRead letters used rest ended) = letters

-- the letters that a program reads in these words
abbrev pub letters_of : Prog → (options : List (List ℕ)) → List Letter
letters_of program options = letters_in (options_of (shape_of program).letters options)

-- The option words are literal and one whole reading. Each value keeps the rule of its letter, also one that a later letter
-- replaces. Where the options are over, one of the letters stands where it must.
pub record OptionsRead (program : Prog) (options : List (List ℕ)) (over : Bool) : Type 0 where
  pub letters : List Letter
  pub used : ℕ
  pub ended : Bool
  pub are_read : options_of (shape_of program).letters options ≡ LettersRead letters used [] ended
  pub literal : are_literal options ≡ true
  pub in_rule : keep_rules (shape_of program).rule letters ≡ true
  pub enough : (over && lacks_letter (shape_of program) letters) ≡ false

-- all its option words
abbrev pub HasOptions : Prog → (options : List (List ℕ)) → Type 0
HasOptions program options = OptionsRead program options true

-- Without `--` the reading of options stops before the next token, whatever the values are: it is a block, or a literal word
-- and no option word.
abbrev pub StopsOptions : Option (List Opt) → (ended : Bool) → (after : Args) → Type 0
StopsOptions opts true after = Unit {0}
StopsOptions None false after = Unit {0}
StopsOptions (Some opts) false nothing = Unit {0}
StopsOptions (Some opts) false (group inside rest) = Unit {0}
StopsOptions (Some opts) false (word text rest) = (shown opts text ≡ Plain) × (is_literal text ≡ true)
