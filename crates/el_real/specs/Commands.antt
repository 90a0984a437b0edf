-- What a start hands to the system: the program, its arguments, its environment and its directory.
use Rattle.std.specs.Prelude.{ℕ, Bool, ◌||◌, ◌==◌, List, [], ◌∷◌, ◌++◌, is_some, slice_index_or, bytes_eq, codes, if◌then◌else◌, map as mapped}
use Rattle.std.specs.List.{list_any}
use Rattle.std.specs.Path.{path_join, path_with_file_name}
use Rattle.std.specs.FinMap as map
use Rattle.el_words.specs.Prog.{program_named}
use Rattle.el_env.specs.Vars.{Vars}

-- the name of the installed binary
unfoldable pub execline_name : List ℕ
execline_name = codes "execline"

-- the programs of this project that read scripts
unfoldable pub reads_scripts : List ℕ → Bool
reads_scripts word = bytes_eq word (codes "execlineb") || (bytes_eq word (codes "elcheck") || bytes_eq word (codes "elfmt"))

-- a program of this project: one of those, or of a chain
abbrev pub is_own : List ℕ → Bool
is_own word = is_some (program_named word) || reads_scripts word

-- a program of this project that scripts call and that has a binary of its own
unfoldable pub is_beside : List ℕ → Bool
is_beside word = bytes_eq word (codes "eltest") || (bytes_eq word (codes "elglob") || bytes_eq word (codes "elgetopt"))

-- the word is a path: it holds a slash
abbrev pub is_path : List ℕ → Bool
is_path word = list_any (λ byte. byte == 47) word

-- the binary beside the file that was called, as meant from this directory; for a bare name a bare one, for which PATH is searched
abbrev pub binary_beside : (dir called : List ℕ) → List ℕ
binary_beside dir called = if is_path called then path_join dir (path_with_file_name called execline_name) else execline_name

-- the program of a start: the binary for a program of this project, and otherwise what the first word names
abbrev pub program_of : (binary : List ℕ) → List (List ℕ) → List ℕ
program_of binary words = if is_own (slice_index_or words 0 []) then binary else slice_index_or words 0 []

-- its arguments, of which the first is its name: all words behind execline's name for the binary, and otherwise the words
abbrev pub arguments_of : List (List ℕ) → List (List ℕ)
arguments_of words = if is_own (slice_index_or words 0 []) then execline_name ∷ words else words

-- the entry of a variable: its name, `=` and its value
abbrev pub entry_of : List ℕ × List ℕ → List ℕ
entry_of variable = variable.0 ++ 61 ∷ variable.1

-- the entries of these variables, one for each
abbrev pub entries_of : Vars → List (List ℕ)
entries_of vars = mapped entry_of (map.entries vars)

-- the directory that a start names: none where it is that of this process
abbrev pub named_dir : (own dir : List ℕ) → List ℕ
named_dir own dir = if bytes_eq dir own then [] else dir

-- texts as the system takes them, each with a NUL behind it
abbrev pub ended : List (List ℕ) → List ℕ
ended [] = []
ended (text ∷ texts) = text ++ 0 ∷ ended texts

-- where a program is searched whose name is no path, by a process that has no `PATH`
unfoldable pub default_path : List ℕ
default_path = codes "/bin:/usr/bin"
