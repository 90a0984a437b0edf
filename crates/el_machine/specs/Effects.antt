-- What each program of a chain does.
use Rattle.el_room.specs.Vocabulary.{Prog, Define, Importas, Import, Multidefine, Multisubstitute, Elgetpositionals, Export, Unexport, Emptyenv, Envfile, Withstdinas, Shift, Foreground, Background, If, Ifelse, Ifte, Ifthenelse, Cd, Exec, Exit, Loopwhilex, Forx, Forstdin, Forbacktickx, Pipeline, Backtick, Redirfd, Fdmove, Fdclose, Fdswap, Piperw, Heredoc, Effect}
use Rattle.std.specs.Prelude.{Bool, true, false}
use Rattle.el_words.specs.declared.prog.Prog.TheVariants.{Wait}
use Rattle.el_vars.specs.Multisubstitute.{multisubstitute, substitute_alone}
use Rattle.el_vars.specs.Import.{import}
use Rattle.el_vars.specs.Export.{export}
use Rattle.el_vars.specs.Unexport.{unexport}
use Rattle.el_vars.specs.Emptyenv.{emptyenv}
use Rattle.el_vars.specs.Envfile.{envfile}
use Rattle.el_vars.specs.Withstdinas.{withstdinas}
use Rattle.el_vars.specs.Shift.{shift}
use Rattle.el_control.specs.Foreground.{foreground}
use Rattle.el_control.specs.Background.{background}
use Rattle.el_control.specs.If.{if_then}
use Rattle.el_control.specs.Ifelse.{ifelse}
use Rattle.el_control.specs.Ifte.{ifte}
use Rattle.el_control.specs.Ifthenelse.{ifthenelse}
use Rattle.el_control.specs.Wait.{wait}
use Rattle.el_control.specs.Cd.{cd}
use Rattle.el_control.specs.Exec.{exec}
use Rattle.el_control.specs.Exit.{exit}
use Rattle.el_loops.specs.Loopwhilex.{loopwhilex}
use Rattle.el_loops.specs.Forx.{forx}
use Rattle.el_loops.specs.Forstdin.{forstdin}
use Rattle.el_loops.specs.Forbacktickx.{forbacktickx}
use Rattle.el_pipes.specs.Pipeline.{pipeline}
use Rattle.el_pipes.specs.Backtick.{backtick}
use Rattle.el_redir.specs.Redirfd.{redirfd}
use Rattle.el_redir.specs.Fdmove.{fdmove}
use Rattle.el_redir.specs.Fdclose.{fdclose}
use Rattle.el_redir.specs.Fdswap.{fdswap}
use Rattle.el_redir.specs.Piperw.{piperw}
use Rattle.el_redir.specs.Heredoc.{heredoc}

-- what a program does with what it has read
unfoldable pub effect : Prog → Effect
effect Define = substitute_alone Define
effect Importas = substitute_alone Importas
effect Import = import
effect Multidefine = substitute_alone Multidefine
effect Multisubstitute = multisubstitute
effect Elgetpositionals = substitute_alone Elgetpositionals
effect Export = export
effect Unexport = unexport
effect Emptyenv = emptyenv
effect Envfile = envfile
effect Withstdinas = withstdinas
effect Shift = shift
effect Foreground = foreground
effect Background = background
effect If = if_then
effect Ifelse = ifelse
effect Ifte = ifte
effect Ifthenelse = ifthenelse
effect Wait = wait
effect Cd = cd
effect Exec = exec
effect Exit = exit
effect Loopwhilex = loopwhilex
effect Forx = forx
effect Forstdin = forstdin
effect Forbacktickx = forbacktickx
effect Pipeline = pipeline
effect Backtick = backtick
effect Redirfd = redirfd
effect Fdmove = fdmove
effect Fdclose = fdclose
effect Fdswap = fdswap
effect Piperw = piperw
effect Heredoc = heredoc

-- the programs that take memory only for a message
abbrev pub takes_no_memory : Prog → Bool
takes_no_memory Exit = true
takes_no_memory Fdmove = true
takes_no_memory Fdclose = true
takes_no_memory Fdswap = true
takes_no_memory _ = false
