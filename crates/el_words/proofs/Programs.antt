-- Every program is found by its name, and nothing else is.
use Rattle.std.proofs.Common.{◌≡◌, ℕ, ◌<◌, Bool, true, false, List, [], ◌∷◌, Option, None, Some, refl, sym, ap, subst, ◌∙◌, length, IfSome, IfNone, find, Contains, lit<, true≢false, arith, suc, slice_index_or}
use Rattle.std.specs.Str.{bytes_eq}
use Rattle.std.specs.Cmp.Lexicographic.{bytes_decides}
use Rattle.el_words.specs.declared.prog.Prog.{Prog}
use Rattle.el_words.specs.declared.prog.TheConstants.{PROGRAMS}
use Rattle.el_words.specs.declared.prog.Prog.TheVariants.{Define, Importas, Multidefine, Multisubstitute, Elgetpositionals, Export, Unexport, Emptyenv, Envfile, Withstdinas, Shift, Foreground, Background, If, Ifelse, Ifte, Ifthenelse, Wait, Cd, Exec, Exit, Loopwhilex, Forx, Forstdin, Forbacktickx, Pipeline, Backtick, Redirfd, Fdmove, Fdclose, Fdswap, Piperw, Heredoc, Import}
use Rattle.el_words.specs.Prog.{name_text, program_named, IsProgramName, beginning_with}

abbrev is_named : List ℕ → Prog → Bool
is_named word program = bytes_eq (name_text program) word

found : (word : List ℕ) (programs : List Prog) → IfSome (find (is_named word) programs) (λ program. name_text program ≡ word)
found word [] = tt
found word (p ∷ ps) = by (is_named word p) refl (found word ps)
  where
    by : (b : Bool) → is_named word p ≡ b → IfSome (find (is_named word) ps) (λ program. name_text program ≡ word)
        → IfSome (find (is_named word) (p ∷ ps)) (λ program. name_text program ≡ word)
    by true same others = rw same ((bytes_decides (name_text p) word).0 same)
    by false other others = rw other others

-- the program that a word names has this name
pub named : (word : List ℕ) → IfSome (program_named word) (λ program. name_text program ≡ word)
unfolding program_named
named word = found word PROGRAMS

-- every program stands among them
among : (program : Prog) → Contains PROGRAMS program
among Define = (0, lit< tt, refl)
among Importas = (1, lit< tt, refl)
among Multidefine = (2, lit< tt, refl)
among Multisubstitute = (3, lit< tt, refl)
among Elgetpositionals = (4, lit< tt, refl)
among Export = (5, lit< tt, refl)
among Unexport = (6, lit< tt, refl)
among Emptyenv = (7, lit< tt, refl)
among Envfile = (8, lit< tt, refl)
among Withstdinas = (9, lit< tt, refl)
among Shift = (10, lit< tt, refl)
among Foreground = (11, lit< tt, refl)
among Background = (12, lit< tt, refl)
among If = (13, lit< tt, refl)
among Ifelse = (14, lit< tt, refl)
among Ifte = (15, lit< tt, refl)
among Ifthenelse = (16, lit< tt, refl)
among Wait = (17, lit< tt, refl)
among Cd = (18, lit< tt, refl)
among Exec = (19, lit< tt, refl)
among Exit = (20, lit< tt, refl)
among Loopwhilex = (21, lit< tt, refl)
among Forx = (22, lit< tt, refl)
among Forstdin = (23, lit< tt, refl)
among Forbacktickx = (24, lit< tt, refl)
among Pipeline = (25, lit< tt, refl)
among Backtick = (26, lit< tt, refl)
among Redirfd = (27, lit< tt, refl)
among Fdmove = (28, lit< tt, refl)
among Fdclose = (29, lit< tt, refl)
among Fdswap = (30, lit< tt, refl)
among Piperw = (31, lit< tt, refl)
among Heredoc = (32, lit< tt, refl)
among Import = (33, lit< tt, refl)

passed_over : (word : List ℕ) (programs : List Prog) → find (is_named word) programs ≡ None → (program : Prog) → Contains programs program → name_text program ≡ word → ⊥
passed_over word [] none program (k, below, at) same = absurd (omega (arith, below))
passed_over word (p ∷ ps) none program (k, below, at) same = by (λ later k below at. passed_over word ps later program (k, below, at) same) (is_named word p) refl k below at
  where
    by : (find (is_named word) ps ≡ None → (k : ℕ) → k < length ps → slice_index_or ps k program ≡ program → ⊥)
        → (b : Bool) → is_named word p ≡ b → (k : ℕ) → k < length (p ∷ ps) → slice_index_or (p ∷ ps) k program ≡ program → ⊥
    by later true is k below at = none_of_some (sym none ∙ is_found is)
      where
        is_found : is_named word p ≡ true → find (is_named word) (p ∷ ps) ≡ Some p
        is_found is = rw is refl

        none_of_some : None ≡ Some p → ⊥
        none_of_some e = cc
    by later false other Prim.Native.Nat.zero below at = true≢false (sym ((bytes_decides (name_text p) word).1 (ap name_text at ∙ same)) ∙ other)
    by later false other (suc k) below at = later (sym (is_later other) ∙ none) k (omega arith) at
      where
        is_later : is_named word p ≡ false → find (is_named word) (p ∷ ps) ≡ find (is_named word) ps
        is_later other = rw other refl

-- a word that names no program is not the name of one
pub unknown : (word : List ℕ) → IfNone (program_named word) (IsProgramName word → ⊥)
unfolding program_named
unknown word = by (find (is_named word) PROGRAMS) refl
  where
    by : (found : Option Prog) → find (is_named word) PROGRAMS ≡ found → IfNone found (IsProgramName word → ⊥)
    by None none = λ (program, same). passed_over word PROGRAMS none program (among program) same
    by (Some program) some = tt

pub ruleset names = (named, unknown)

-- ---- by the first byte

-- every program stands among those that begin as it does
begins : (program : Prog) → Contains (beginning_with (slice_index_or (name_text program) 0 0)) program
unfolding name_text
begins Background = (0, lit< tt, refl)
begins Backtick = (1, lit< tt, refl)
begins Cd = (0, lit< tt, refl)
begins Define = (0, lit< tt, refl)
begins Export = (0, lit< tt, refl)
begins Exec = (1, lit< tt, refl)
begins Exit = (2, lit< tt, refl)
begins Elgetpositionals = (3, lit< tt, refl)
begins Emptyenv = (4, lit< tt, refl)
begins Envfile = (5, lit< tt, refl)
begins Foreground = (0, lit< tt, refl)
begins Forx = (1, lit< tt, refl)
begins Forstdin = (2, lit< tt, refl)
begins Forbacktickx = (3, lit< tt, refl)
begins Fdmove = (4, lit< tt, refl)
begins Fdclose = (5, lit< tt, refl)
begins Fdswap = (6, lit< tt, refl)
begins Heredoc = (0, lit< tt, refl)
begins If = (0, lit< tt, refl)
begins Ifelse = (1, lit< tt, refl)
begins Importas = (2, lit< tt, refl)
begins Ifthenelse = (3, lit< tt, refl)
begins Ifte = (4, lit< tt, refl)
begins Import = (5, lit< tt, refl)
begins Loopwhilex = (0, lit< tt, refl)
begins Multidefine = (0, lit< tt, refl)
begins Multisubstitute = (1, lit< tt, refl)
begins Pipeline = (0, lit< tt, refl)
begins Piperw = (1, lit< tt, refl)
begins Redirfd = (0, lit< tt, refl)
begins Shift = (0, lit< tt, refl)
begins Unexport = (0, lit< tt, refl)
begins Wait = (0, lit< tt, refl)
begins Withstdinas = (1, lit< tt, refl)

-- each program is found by its own name
pub own_name : (program : Prog) → program_named (name_text program) ≡ Some program
unfolding program_named name_text
own_name Define = refl
own_name Importas = refl
own_name Multidefine = refl
own_name Multisubstitute = refl
own_name Elgetpositionals = refl
own_name Export = refl
own_name Unexport = refl
own_name Emptyenv = refl
own_name Envfile = refl
own_name Withstdinas = refl
own_name Shift = refl
own_name Foreground = refl
own_name Background = refl
own_name If = refl
own_name Ifelse = refl
own_name Ifte = refl
own_name Ifthenelse = refl
own_name Wait = refl
own_name Cd = refl
own_name Exec = refl
own_name Exit = refl
own_name Loopwhilex = refl
own_name Forx = refl
own_name Forstdin = refl
own_name Forbacktickx = refl
own_name Pipeline = refl
own_name Backtick = refl
own_name Redirfd = refl
own_name Fdmove = refl
own_name Fdclose = refl
own_name Fdswap = refl
own_name Piperw = refl
own_name Heredoc = refl
own_name Import = refl

pub ruleset own_names = (own_name)

-- among those that begin as the word does it is found
pub by_first : (word : List ℕ) (first : ℕ) → slice_index_or word 0 0 ≡ first → find (λ (program : Prog). bytes_eq (name_text program) word) (beginning_with first) ≡ program_named word
by_first word first is = by (find (is_named word) (beginning_with first)) refl (found word (beginning_with first))
  where
    by : (here : Option Prog) → find (is_named word) (beginning_with first) ≡ here → IfSome here (λ program. name_text program ≡ word) → here ≡ program_named word
    by (Some program) there same = sym (own_name program) ∙ ap program_named same
    by None none tt = elsewhere (program_named word) refl (named word)
      where
        elsewhere : (all : Option Prog) → program_named word ≡ all → IfSome all (λ program. name_text program ≡ word) → None ≡ program_named word
        elsewhere None all tt = sym all
        elsewhere (Some program) all same =
            absurd (passed_over word (beginning_with first) none program (subst (λ n. Contains (beginning_with n) program) (ap (λ text. slice_index_or text 0 0) same ∙ is) (begins program)) same)

pub by_nothing : program_named [] ≡ None
unfolding program_named name_text
by_nothing = refl
