-- The script that `elcheck --sample` makes.
use Rattle.std.specs.Prelude.{ℕ, ◌-◌, ◌%◌, ◌==◌, List, ◌++◌, if◌then◌else◌, codes}
use Rattle.std.specs.Fmt.{decimal}
use Rattle.std.specs.List.{flat_map, range_with_len}

-- ---- the four kinds of lines

-- a variable of its own for line i
unfoldable pub define_line : (i : ℕ) → List ℕ
define_line i = codes "define V" ++ decimal i ++ codes " x" ++ decimal i ++ codes "\n"

-- a command with the variable of the line before line i
unfoldable pub foreground_line : (i : ℕ) → List ℕ
foreground_line i = codes "foreground { echo a $V" ++ decimal (i - 1) ++ codes " }\n"

-- a pipe to what follows, from one command
unfoldable pub pipeline_line : List ℕ
pipeline_line = codes "pipeline { echo p }\n"

-- a test that holds
unfoldable pub if_line : List ℕ
if_line = codes "if { true }\n"

-- the command in which a sample ends
unfoldable pub last_line : List ℕ
last_line = codes "echo end\n"

-- ---- the script

-- line i
abbrev pub sample_line : (i : ℕ) → List ℕ
sample_line i =
    if i % 4 == 1 then define_line i
    else (if i % 4 == 2 then foreground_line i
    else (if i % 4 == 3 then pipeline_line else if_line))

-- the lines 1 to n, and the last line
unfoldable pub sample : (n : ℕ) → List ℕ
sample n = flat_map sample_line (range_with_len 1 n) ++ last_line
