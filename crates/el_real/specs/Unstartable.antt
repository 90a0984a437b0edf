-- Why a command doesn't run, in a line that is written before its message.
use Rattle.std.specs.Prelude.{◌≡◌, ◌⊎◌, ℕ, Bool, true, false, Contains, ◌==◌, List, [], ◌++◌, drop, Option, None, Some, codes, if◌then◌else◌}
use Rattle.std.specs.List.{starts_with, ends_with, slice_split}
use Rattle.std.specs.Option.{unwrap_or}
use Rattle.el_real.specs.Commands.{is_path, default_path}
use Rattle.el_real.specs.Shown.{shown}

-- the directory with a slash behind it
abbrev pub folder_of : (dir : List ℕ) → List ℕ
folder_of dir = if ends_with (λ a b. a == b) dir (codes "/") then dir else dir ++ codes "/"

-- a name without the `./` that it begins with
abbrev pub without_dot : (name : List ℕ) → List ℕ
without_dot name = if starts_with (λ a b. a == b) name (codes "./") then drop 2 name else name

-- the file that a name means in a directory
abbrev pub file_named : (dir name : List ℕ) → List ℕ
file_named dir name = if starts_with (λ a b. a == b) name (codes "/") then name else folder_of dir ++ without_dot name

-- a program's file in a folder of `PATH`; an empty one means the directory of the child
abbrev pub file_in : (folder program : List ℕ) → List ℕ
file_in [] program = program
file_in folder program = folder ++ codes "/" ++ program

unfoldable pub absent_text : List ℕ
absent_text = codes " isn't there\n"

unfoldable pub broken_text : List ℕ
broken_text = codes " is there, but the interpreter in its first line (or its loader) isn't\n"

unfoldable pub directory_text : List ℕ
directory_text = codes " is a directory\n"

unfoldable pub no_name_text : List ℕ
no_name_text = codes "the command's name is empty\n"

unfoldable pub in_path_text : List ℕ
in_path_text = codes " in PATH, which is "

unfoldable pub no_path_text : List ℕ
no_path_text = codes "PATH isn't set, and neither /bin nor /usr/bin has "

-- the line of a file that isn't there
abbrev pub missing_line : (file : List ℕ) → List ℕ
missing_line file = codes "execline: " ++ shown file ++ absent_text

-- the line of a name that no folder of this `PATH` has
abbrev pub in_path_line : (path program : List ℕ) → List ℕ
in_path_line path program = codes "execline: no " ++ shown program ++ in_path_text ++ shown path ++ codes "\n"

-- the same where there is no `PATH`
abbrev pub no_path_line : (program : List ℕ) → List ℕ
no_path_line program = codes "execline: " ++ no_path_text ++ shown program ++ codes "\n"

-- the line of a name that isn't in `PATH`
abbrev pub searched_line : (path : Option (List ℕ)) (program : List ℕ) → List ℕ
searched_line path [] = codes "execline: " ++ no_name_text
searched_line None program = no_path_line program
searched_line (Some path) program = in_path_line path program

-- the line of a program that isn't there
abbrev pub absent_line : (path : Option (List ℕ)) (dir program : List ℕ) → List ℕ
absent_line path dir program = if is_path program then missing_line (file_named dir program) else searched_line path program

-- the line of one that is there, and of which the system says that it isn't
abbrev pub broken_line : (file : List ℕ) → List ℕ
broken_line file = codes "execline: " ++ shown file ++ broken_text

-- the line of one whose name is that of a directory
abbrev pub directory_line : (file : List ℕ) → List ℕ
directory_line file = codes "execline: " ++ shown file ++ directory_text

-- the folders of a `PATH`, between its colons (58)
abbrev pub folders_of : (path : List ℕ) → List (List ℕ)
folders_of path = slice_split (λ byte. byte == 58) path

-- the `PATH` that is searched: the one that is set, or else the one that stands for it
abbrev pub searched_path : Option (List ℕ) → List ℕ
searched_path path = unwrap_or path default_path

-- the file of a program: for a name that is a path it is what that means, and for any other what a folder of this `PATH` has by it
abbrev pub IsFileBy : (by_path : Bool) → (path dir program file : List ℕ) → Type 0
IsFileBy true path dir program file = file ≡ file_named dir program
IsFileBy false path dir program file = (folder : List ℕ) × Contains (folders_of path) folder × (file ≡ file_named dir (file_in folder program))

-- the file is one that the program's name may mean
abbrev pub IsFileOf : (path dir program file : List ℕ) → Type 0
IsFileOf path dir program file = IsFileBy (is_path program) path dir program file

-- the line of a command that isn't found: it isn't there, or it is there and what it needs isn't
abbrev pub IsUnfoundLine : (path : Option (List ℕ)) (dir program line : List ℕ) → Type 0
IsUnfoundLine path dir program line = (line ≡ absent_line path dir program) ⊎ ((file : List ℕ) × IsFileOf (searched_path path) dir program file × (line ≡ broken_line file))
