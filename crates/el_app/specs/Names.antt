-- The names of the programs that are called by hand.
use Rattle.std.specs.Prelude.{ℕ, ◌==◌, List, Option, Some, None, if◌then◌else◌, codes}
use Rattle.std.specs.List.{after_last}
use Rattle.std.specs.Str.{bytes_eq}
use Rattle.el_app.specs.declared.names.Tool.{Tool}
use Rattle.el_app.specs.declared.names.Tool.TheVariants.{Execlineb, Elcheck, Elfmt}

-- the name under which execlineb is called, and under which it complains
unfoldable pub execlineb_name : List ℕ
execlineb_name = codes "execlineb"

-- the name of the top call, whose next word chooses the tool
unfoldable pub execline_name : List ℕ
execline_name = codes "execline"

-- the name under which elcheck is called, and under which it complains
unfoldable pub elcheck_name : List ℕ
elcheck_name = codes "elcheck"

-- the name under which elfmt is called, and under which it complains
unfoldable pub elfmt_name : List ℕ
elfmt_name = codes "elfmt"

-- the tool that the word names, compared whole
abbrev pub tool_named : List ℕ → Option Tool
tool_named word =
    if bytes_eq word execlineb_name then Some Execlineb
    else (if bytes_eq word elcheck_name then Some Elcheck
    else (if bytes_eq word elfmt_name then Some Elfmt else None))

-- the part of a word after its last slash (47)
unfoldable pub base_name : List ℕ → List ℕ
base_name word = after_last (λ byte. byte == 47) word
