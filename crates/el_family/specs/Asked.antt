-- What elfamily's words ask for.
use Rattle.std.specs.Prelude.{ℕ, List, [], ◌∷◌, Option, None, Some, nat_le, bytes_eq, option_map, if◌then◌else◌, codes}
use Rattle.el_words.specs.Number.{number_of}
use Rattle.el_family.specs.declared.asked.Asked.{Asked}
use Rattle.el_family.specs.declared.asked.Form.{Form}
use Rattle.el_family.specs.declared.asked.Form.TheVariants.{Lines, Tree}
use Rattle.el_family.specs.declared.asked.TheConstants.{MAX_BUDGET}

-- the word before N that asks for the tree
unfoldable pub tree_option : List ℕ
tree_option = codes "--tree"

-- a budget is at most so large
abbrev pub budget_from : Option ℕ → Option ℕ
budget_from None = None
budget_from (Some units) = if nat_le units MAX_BUDGET then Some units else None

-- N and the process's words, which may be none
abbrev pub numbered : Form → (words : List (List ℕ)) → Option Asked
numbered form [] = None
numbered form (word ∷ words) = option_map (λ budget. record { form = form; budget = budget; words = words }) (budget_from (number_of word))

-- what the words behind the name ask for; other words are no use of it
abbrev pub asked : (words : List (List ℕ)) → Option Asked
asked [] = None
asked (word ∷ words) = if bytes_eq word tree_option then numbered Tree words else numbered Lines (word ∷ words)
