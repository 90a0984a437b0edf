-- The programs and their names.
use Rattle.std.specs.Prelude.{◌≡◌, ◌==◌, ℕ, List, [], ◌∷◌, Option, codes, find, if◌then◌else◌}
use Rattle.std.specs.Str.{bytes_eq}
use Rattle.el_words.specs.declared.prog.TheConstants.{PROGRAMS}
use Rattle.el_words.specs.declared.prog.Prog.{Prog}
use Rattle.el_words.specs.declared.prog.Prog.TheVariants.{Define, Importas, Import, Multidefine, Multisubstitute, Elgetpositionals, Export, Unexport, Emptyenv, Envfile, Withstdinas, Shift, Foreground, Background, If, Ifelse, Ifte, Ifthenelse, Wait, Cd, Exec, Exit, Loopwhilex, Forx, Forstdin, Forbacktickx, Pipeline, Backtick, Redirfd, Fdmove, Fdclose, Fdswap, Piperw, Heredoc}

-- the word that names a program
unfoldable pub name_text : Prog → List ℕ
name_text Define = codes "define"
name_text Importas = codes "importas"
name_text Multidefine = codes "multidefine"
name_text Multisubstitute = codes "multisubstitute"
name_text Elgetpositionals = codes "elgetpositionals"
name_text Export = codes "export"
name_text Unexport = codes "unexport"
name_text Emptyenv = codes "emptyenv"
name_text Envfile = codes "envfile"
name_text Withstdinas = codes "withstdinas"
name_text Shift = codes "shift"
name_text Foreground = codes "foreground"
name_text Background = codes "background"
name_text If = codes "if"
name_text Ifelse = codes "ifelse"
name_text Ifte = codes "ifte"
name_text Ifthenelse = codes "ifthenelse"
name_text Wait = codes "wait"
name_text Cd = codes "cd"
name_text Exec = codes "exec"
name_text Exit = codes "exit"
name_text Loopwhilex = codes "loopwhilex"
name_text Forx = codes "forx"
name_text Forstdin = codes "forstdin"
name_text Forbacktickx = codes "forbacktickx"
name_text Pipeline = codes "pipeline"
name_text Backtick = codes "backtick"
name_text Redirfd = codes "redirfd"
name_text Fdmove = codes "fdmove"
name_text Fdclose = codes "fdclose"
name_text Fdswap = codes "fdswap"
name_text Piperw = codes "piperw"
name_text Heredoc = codes "heredoc"
name_text Import = codes "import"

-- the word is the name of a program
abbrev pub IsProgramName : List ℕ → Type 0
IsProgramName word = (program : Prog) × (name_text program ≡ word)

-- the program that a word names
unfoldable pub program_named : List ℕ → Option Prog
program_named word = find (λ program. bytes_eq (name_text program) word) PROGRAMS

-- the programs whose names begin with this byte; only the code's contracts need it
abbrev pub beginning_with : (first : ℕ) → List Prog
beginning_with first =
    if first == 98 then Background ∷ Backtick ∷ [] else
    (if first == 99 then Cd ∷ [] else
    (if first == 100 then Define ∷ [] else
    (if first == 101 then Export ∷ Exec ∷ Exit ∷ Elgetpositionals ∷ Emptyenv ∷ Envfile ∷ [] else
    (if first == 102 then Foreground ∷ Forx ∷ Forstdin ∷ Forbacktickx ∷ Fdmove ∷ Fdclose ∷ Fdswap ∷ [] else
    (if first == 104 then Heredoc ∷ [] else
    (if first == 105 then If ∷ Ifelse ∷ Importas ∷ Ifthenelse ∷ Ifte ∷ Import ∷ [] else
    (if first == 108 then Loopwhilex ∷ [] else
    (if first == 109 then Multidefine ∷ Multisubstitute ∷ [] else
    (if first == 112 then Pipeline ∷ Piperw ∷ [] else
    (if first == 114 then Redirfd ∷ [] else
    (if first == 115 then Shift ∷ [] else
    (if first == 117 then Unexport ∷ [] else
    (if first == 119 then Wait ∷ Withstdinas ∷ [] else [])))))))))))))
