-- The shapes of the programs, one row each: their option letters, their places, what their rest is, the letters that exclude
-- each other, and the rules on letters.
use Rattle.std.specs.Prelude.{ℕ, Bool, true, false, ◌&&◌, ◌||◌, List, [], ◌∷◌, Option, Some, None, codes}
use Rattle.el_words.specs.declared.prog.Prog.{Prog}
use Rattle.el_words.specs.declared.prog.Prog.TheVariants.{Define, Importas, Import, Multidefine, Multisubstitute, Elgetpositionals, Export, Unexport, Emptyenv, Envfile, Withstdinas, Shift, Foreground, Background, If, Ifelse, Ifte, Ifthenelse, Wait, Cd, Exec, Exit, Loopwhilex, Forx, Forstdin, Forbacktickx, Pipeline, Backtick, Redirfd, Fdmove, Fdclose, Fdswap, Piperw, Heredoc}
use Rattle.el_options.specs.declared.table.Opt.{Opt}
use Rattle.el_options.specs.declared.place.PlaceKind.{PlaceKind}
use Rattle.el_options.specs.declared.place.PlaceKind.TheVariants.{Name, Fixed, ProgramBlock, ValueBlock, NameBlock, DirectiveBlock, OptionalNumber, OptionalWord}
use Rattle.el_options.specs.declared.tables.TheConstants.{DEFINE, IMPORTAS, MULTIDEFINE, ELGETPOSITIONALS, EMPTYENV, ENVFILE, WITHSTDINAS, BACKGROUND, IF, IFELSE, IFTE, IFTHENELSE, WAIT, EXEC, LOOPWHILEX, FORX, FORSTDIN, FORBACKTICKX, PIPELINE, BACKTICK, REDIRFD, FDMOVE, HEREDOC, EXECLINEB, ELCHECK, ELFMT}
use Rattle.el_options.specs.Reading.{Letter, takes}
use Rattle.el_options.specs.Rules.{Rule, Number, Numbers, NonEmpty, any_text, ruled, has_wrong_use, has_bad_number}

-- the rest goes on in the same process, is run as a child, or isn't looked at
pub data RestKind : Type 0 where
  Chain Child Ignored : RestKind

-- The letters, or none where a program reads no options, so that a word that begins with `-` is an ordinary word; the places;
-- what the rest is; the letters that exclude each other, group by group, of which the last one read counts; the rule on each
-- letter's value; and whether one of the letters must stand.
pub record Shape : Type 0 where
  pub letters : Option (List Opt)
  pub places : List PlaceKind
  pub rest : RestKind
  pub groups : List (List ℕ)
  pub rule : (letter : ℕ) → Rule
  pub needs_letter : Bool

-- ---- the table

-- a row in which no letter must stand
abbrev pub row : Option (List Opt) → List PlaceKind → RestKind → (groups : List (List ℕ)) → (rule : ℕ → Rule) → Shape
row letters places rest groups rule = record { letters = letters; places = places; rest = rest; groups = groups; rule = rule; needs_letter = false }

-- one of the letters must stand
abbrev pub with_a_letter : Shape → Shape
with_a_letter shape = record shape { needs_letter = true }

-- the exit statuses of loops, and delimiters
abbrev pub loop_rule : (letter : ℕ) → Rule
loop_rule = ruled (codes "ox") (Numbers 255) (ruled (codes "d") NonEmpty any_text)

-- the row of each program
unfoldable pub shape_of : Prog → Shape
shape_of Define = row (Some DEFINE.opts) (Name ∷ Fixed ∷ []) Chain [] any_text
shape_of Importas = row (Some IMPORTAS.opts) (Name ∷ Fixed ∷ []) Chain (codes "iD" ∷ []) any_text
shape_of Import = row (Some IMPORTAS.opts) (Name ∷ []) Chain (codes "iD" ∷ []) any_text
shape_of Multidefine = row (Some MULTIDEFINE.opts) (Fixed ∷ NameBlock ∷ []) Chain [] any_text
shape_of Multisubstitute = row None (DirectiveBlock ∷ []) Chain [] any_text
shape_of Elgetpositionals = row (Some ELGETPOSITIONALS.opts) [] Chain [] (ruled (codes "P") (Number 65535) any_text)
shape_of Export = row None (Fixed ∷ Fixed ∷ []) Chain [] any_text
shape_of Unexport = row None (Fixed ∷ []) Chain [] any_text
shape_of Emptyenv = row (Some EMPTYENV.opts) [] Chain [] any_text
shape_of Envfile = row (Some ENVFILE.opts) (Fixed ∷ []) Chain (codes "iI" ∷ []) any_text
shape_of Withstdinas = row (Some WITHSTDINAS.opts) (Name ∷ []) Chain (codes "nN" ∷ []) any_text
shape_of Shift = row None (OptionalNumber ∷ []) Chain [] any_text
shape_of Foreground = row None (ProgramBlock ∷ []) Chain [] any_text
shape_of Background = row (Some BACKGROUND.opts) (ProgramBlock ∷ []) Chain [] any_text
shape_of If = row (Some IF.opts) (ProgramBlock ∷ []) Chain (codes "tx" ∷ []) (ruled (codes "x") (Number 255) any_text)
shape_of Ifelse = row (Some IFELSE.opts) (ProgramBlock ∷ ProgramBlock ∷ []) Chain [] any_text
shape_of Ifte = row (Some IFTE.opts) (ProgramBlock ∷ ProgramBlock ∷ []) Child [] any_text
shape_of Ifthenelse = row (Some IFTHENELSE.opts) (ProgramBlock ∷ ProgramBlock ∷ ProgramBlock ∷ []) Chain [] any_text
shape_of Wait = row (Some WAIT.opts) (ValueBlock ∷ []) Chain [] any_text
shape_of Cd = row None (Fixed ∷ []) Chain [] any_text
shape_of Exec = row (Some EXEC.opts) [] Chain [] any_text
shape_of Exit = row None (OptionalWord ∷ []) Ignored [] any_text
shape_of Loopwhilex = row (Some LOOPWHILEX.opts) [] Child [] loop_rule
shape_of Forx = row (Some FORX.opts) (Name ∷ ValueBlock ∷ []) Child (codes "ox" ∷ []) loop_rule
shape_of Forstdin = row (Some FORSTDIN.opts) (Name ∷ []) Child (codes "ox" ∷ []) loop_rule
shape_of Forbacktickx = row (Some FORBACKTICKX.opts) (Name ∷ ProgramBlock ∷ []) Child (codes "ox" ∷ []) loop_rule
shape_of Pipeline = row (Some PIPELINE.opts) (ProgramBlock ∷ []) Chain (codes "rw" ∷ []) any_text
shape_of Backtick = row (Some BACKTICK.opts) (Name ∷ ProgramBlock ∷ []) Chain (codes "iID" ∷ codes "nN" ∷ []) any_text
shape_of Redirfd = with_a_letter (row (Some REDIRFD.opts) (Fixed ∷ Fixed ∷ []) Chain (codes "rwuacx" ∷ []) any_text)
shape_of Fdmove = row (Some FDMOVE.opts) (Fixed ∷ Fixed ∷ []) Chain [] any_text
shape_of Fdclose = row None (Fixed ∷ []) Chain [] any_text
shape_of Fdswap = row None (Fixed ∷ Fixed ∷ []) Chain [] any_text
shape_of Piperw = row None (Fixed ∷ Fixed ∷ []) Chain [] any_text
shape_of Heredoc = row (Some HEREDOC.opts) (Fixed ∷ Fixed ∷ []) Chain [] any_text

-- whether a letter takes a value; none where it isn't known
abbrev pub takes_in : Option (List Opt) → (letter : ℕ) → Option Bool
takes_in None letter = None
takes_in (Some opts) letter = takes opts letter

-- the same by a program's shape
abbrev pub takes_of : Shape → (letter : ℕ) → Option Bool
takes_of shape letter = takes_in shape.letters letter

-- ---- the same of the commands that stand in no chain

-- the letters, those that exclude each other, and the rule on each letter's value
pub record Options : Type 0 where
  pub letters : List Opt
  pub groups : List (List ℕ)
  pub rule : (letter : ℕ) → Rule

-- the number of least positionals
abbrev pub positionals_rule : (letter : ℕ) → Rule
positionals_rule = ruled (codes "Ss") (Number 65535) any_text

-- of execlineb: the last of `-q`, `-w` and `-W` counts, and the last of `-P`, `-S` and `-s`
unfoldable pub execlineb_options : Options
execlineb_options = record { letters = EXECLINEB.opts; groups = codes "qwW" ∷ codes "PSs" ∷ []; rule = positionals_rule }

-- of elcheck: the last of `-P`, `-S` and `-s` counts
unfoldable pub elcheck_options : Options
elcheck_options = record { letters = ELCHECK.opts; groups = codes "PSs" ∷ []; rule = positionals_rule }

-- of elfmt: no letters exclude each other, and values may be any text
unfoldable pub elfmt_options : Options
elfmt_options = record { letters = ELFMT.opts; groups = []; rule = any_text }

-- their numbers are tested as if no letters excluded each other: those of the last `-S` and of the last `-s` also where `-P` counts
abbrev pub has_bad_last_number : Options → List Letter → Bool
has_bad_last_number options letters = has_bad_number [] options.rule letters

-- ---- what is refused

-- no letter was read
abbrev pub is_nothing : List Letter → Bool
is_nothing [] = true
is_nothing (letter ∷ letters) = false

-- one of the letters must stand, and none was read
abbrev pub lacks_letter : Shape → List Letter → Bool
lacks_letter shape letters = shape.needs_letter && is_nothing letters

-- the letters in force are wrongly used, or one that must stand lacks
abbrev pub is_usage_fault : Shape → List Letter → Bool
is_usage_fault shape letters = lacks_letter shape letters || has_wrong_use shape.groups shape.rule letters

-- a number in force is bad
abbrev pub is_number_fault : Shape → List Letter → Bool
is_number_fault shape letters = has_bad_number shape.groups shape.rule letters
