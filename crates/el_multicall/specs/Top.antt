-- The words of the top call.
use Rattle.std.specs.Prelude.{ℕ, List, [], ◌∷◌, bytes_eq, if◌then◌else◌, codes}
use Rattle.el_app.specs.Names.{base_name, execline_name}

-- the name under which the program is built
unfoldable pub built_name : List ℕ
built_name = codes "el_multicall"

-- the words of a process with these: the name under which it is built stands for `execline`
abbrev pub top_words : List (List ℕ) → List (List ℕ)
top_words [] = []
top_words (word ∷ words) = (if bytes_eq (base_name word) built_name then execline_name else word) ∷ words
