-- What is said of a finding.
use Rattle.std.specs.Prelude.{ℕ, ◌||◌, ◌==◌, nat_lt, List, [], ◌∷◌, ◌++◌, map, codes, if◌then◌else◌}
use Rattle.el_words.specs.Prog.{name_text}
use Rattle.el_lint.specs.declared.lint.Lint.{Lint}
use Rattle.el_lint.specs.declared.lint.Lint.TheVariants.{Misspelled, Stranger, Unset, Unused, Refused, Valued, Coded, Loaded, Opened, Worded, Unchecked, Inherited, Negated}
use Rattle.el_lint.specs.declared.wanted.Wanted.{Wanted}
use Rattle.el_lint.specs.declared.wanted.Wanted.TheVariants.{Status, Descriptor, Name, Key, NameAndKey, Netstrings}
use Rattle.el_lint.specs.Strangers.{stranger_name, stranger_cure}

-- the name of a lint, by which comments allow it
unfoldable pub lint_name : Lint → List ℕ
lint_name (Misspelled word program) = codes "typo"
lint_name (Stranger stranger) = codes "absent"
lint_name (Unset key) = codes "unset"
lint_name (Unused name) = codes "unused"
lint_name (Refused program wanted word) = codes "refused"
lint_name (Valued word) = codes "value"
lint_name (Coded word) = codes "code"
lint_name (Loaded program) = codes "loader"
lint_name (Opened word) = codes "path"
lint_name (Worded program) = codes "words"
lint_name (Unchecked name) = codes "unchecked"
lint_name (Inherited program word) = codes "inherited"
lint_name (Negated word) = codes "negated"

-- a byte as a line shows it: a control byte is a `?` (63)
abbrev pub shown_byte : ℕ → ℕ
shown_byte byte = if nat_lt byte 32 || (byte == 127) then 63 else byte

-- a word as a line shows it, between backticks (96)
unfoldable pub shown : List ℕ → List ℕ
shown text = 96 ∷ map shown_byte text ++ 96 ∷ []

-- what must stand in the place of a word that a program refuses
unfoldable pub wanted_text : Wanted → List ℕ
wanted_text Status = codes "a status is a number up to 255"
wanted_text Descriptor = codes "a descriptor is a number up to 63"
wanted_text Name = codes "a variable's name isn't empty, and has no `=`"
wanted_text Key = codes "the name of a reference isn't empty, and has no `$` and no `}`"
wanted_text NameAndKey = codes "the name of a variable and of a reference isn't empty, and has no `=`, no `$` and no `}`"
wanted_text Netstrings = codes "netstrings are written `2:ab,0:,`"

-- the sentence
unfoldable pub sentence : Lint → List ℕ
sentence (Misspelled word program) = shown word ++ codes " is no program here: is " ++ shown (name_text program) ++ codes " meant?"
sentence (Stranger stranger) = shown (stranger_name stranger) ++ codes " of skarnet's execline isn't here: " ++ stranger_cure stranger
sentence (Unset key) = codes "nothing puts a value in for " ++ shown (36 ∷ key)
sentence (Unused name) = shown name ++ codes " is put in, and no word refers to it"
sentence (Refused program wanted word) = shown (name_text program) ++ codes " refuses " ++ shown word ++ codes ": " ++ wanted_text wanted
sentence (Valued word) = shown word ++ codes " has the command's name from a value: what that starts isn't looked into"
sentence (Coded word) = codes "a value is put in the shell's text " ++ shown word ++ codes ": it is read as code"
sentence (Loaded program) = codes "the command in front looks for " ++ shown (name_text program) ++ codes " in PATH: `execline` stands before it"
sentence (Opened word) = shown word ++ codes " isn't the script's descriptor: fdmove takes that"
sentence (Worded program) = shown (name_text program) ++ codes " has a turn for each word: with -d \"\\n\" it has one for each line"
sentence (Unchecked name) = codes "backtick goes on where its block fails, and words behind a command that takes away hold " ++ shown (36 ∷ name) ++ codes ": -i ends the script there"
sentence (Inherited program word) = shown (name_text program) ++ codes " needs the descriptor " ++ shown word ++ codes ": no program makes it, and one that is inherited isn't there"
sentence (Negated word) = shown word ++ codes " is a test under -n: where it isn't found, the script goes on"
