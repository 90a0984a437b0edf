-- The letters of tables, and what they say of names. Only the code's contracts need it.
use Rattle.el_script.specs.Vocabulary.{list_any, Prog, Forx, Forstdin, Forbacktickx, Backtick, Opt, Letter, has_letter}
use Rattle.std.specs.Prelude.{ℕ, Bool, false, ◌==◌, List, codes}

-- the letter stands in the table
abbrev pub stands_in : List Opt → (letter : ℕ) → Bool
stands_in opts letter = list_any (λ (opt : Opt). opt.letter == letter) opts

-- a loop over values, or backtick, puts its value in under `E`
abbrev pub puts_value : Prog → List Letter → Bool
puts_value Forx letters = has_letter Forx (codes "E") letters
puts_value Forstdin letters = has_letter Forstdin (codes "E") letters
puts_value Forbacktickx letters = has_letter Forbacktickx (codes "E") letters
puts_value Backtick letters = has_letter Backtick (codes "E") letters
puts_value _ letters = false
