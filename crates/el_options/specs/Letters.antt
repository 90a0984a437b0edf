-- The option letters of each program, written out: this file names no constant of the code.
use Rattle.std.specs.Prelude.{ℕ, List, [], ◌∷◌, Option, Some, None, if◌then◌else◌, codes}
use Rattle.el_words.specs.declared.prog.Prog.{Prog}
use Rattle.el_words.specs.declared.prog.Prog.TheVariants.{Define, Importas, Import, Multidefine, Multisubstitute, Elgetpositionals, Export, Unexport, Emptyenv, Envfile, Withstdinas, Shift, Foreground, Background, If, Ifelse, Ifte, Ifthenelse, Wait, Cd, Exec, Exit, Loopwhilex, Forx, Forstdin, Forbacktickx, Pipeline, Backtick, Redirfd, Fdmove, Fdclose, Fdswap, Piperw, Heredoc}
use Rattle.el_options.specs.declared.table.Opt.{Opt}

-- letters as one text, with `:` (58) after each letter that takes a value
abbrev pub shown : List Opt → List ℕ
shown [] = []
shown (opt ∷ opts) = opt.letter ∷ (if opt.takes then 58 ∷ shown opts else shown opts)

-- the letters of each program, or None if it reads no options
abbrev pub letters_written : Prog → Option (List ℕ)
letters_written Define = Some (codes "Cnsd:")
letters_written Importas = Some (codes "iD:uCnsd:")
letters_written Import = Some (codes "iD:uCnsd:")
letters_written Multidefine = Some (codes "Cnd:")
letters_written Elgetpositionals = Some (codes "P:")
letters_written Emptyenv = Some (codes "p")
letters_written Envfile = Some (codes "iI")
letters_written Withstdinas = Some (codes "nN")
letters_written Background = Some []
letters_written If = Some (codes "Xntx:")
letters_written Ifelse = Some (codes "Xn")
letters_written Ifte = Some (codes "Xn")
letters_written Ifthenelse = Some (codes "X")
letters_written Wait = Some []
letters_written Exec = Some (codes "c")
letters_written Loopwhilex = Some (codes "nx:")
letters_written Forx = Some (codes "pEo:x:")
letters_written Forstdin = Some (codes "pEo:x:Cd:")
letters_written Forbacktickx = Some (codes "pEo:x:Cd:")
letters_written Pipeline = Some (codes "rw")
letters_written Backtick = Some (codes "iID:nNE")
letters_written Redirfd = Some (codes "rwuacx")
letters_written Fdmove = Some (codes "c")
letters_written Heredoc = Some []
letters_written program = None
