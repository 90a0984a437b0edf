-- The letters in force, as a call reads them.
use Rattle.el_room.proofs.Vocabulary.{Prog, Importas, Import, shape_of, Opt, UsageFault, reading, read_from, in_force, faulty, Choice, CallLetters, is_in_force, value_by, chosen_by, CallRead}
use Rattle.std.proofs.Common.{◌≡◌, ◌⊎◌, inl, inr, ℕ, Bool, true, false, ◌&&◌, List, [], ◌∷◌, None, is_some, refl, sym, ap, ◌∙◌}
use Rattle.el_options.specs.declared.read.UsageFault.TheVariants.{Unknown, NoValue}
use Rattle.el_tree.specs.OptionWords.{letters_in, letters_of}
use Rattle.el_meaning.proofs.InForce.{chosen-has}
use Rattle.el_lint.specs.Refused.{is_empty_value}
use Rattle.el_lint.specs.Lints.{does_more}
use Rattle.el_lint.specs.LetterTables.{stands_in}

-- what the call has read is in force among the option words behind its name
pub letter-found : (groups : List (List ℕ)) (opts : List Opt) (options words : List (List ℕ)) (call : CallLetters) (letter : ℕ) (has : Bool) → words ≡ [] ∷ options → CallRead groups opts words call
    → stands_in opts letter ≡ true → has ≡ is_in_force call.in_force.items letter → has ≡ is_some (in_force groups letter (letters_in (read_from opts 1 None options)))
letter-found groups opts options words call letter has is read stands found =
    found ∙ ap (λ (choices : List Choice). is_in_force choices letter) read.in_force ∙ chosen-has groups read.letters letter opts
    ∙ ap (λ b. b && is_some (in_force groups letter read.letters)) stands
    ∙ sym (ap (λ reading. is_some (in_force groups letter (letters_in reading))) (sym (ap (reading opts) is) ∙ read.is_reading))

-- behind a bad letter none counts
pub none-found : (groups : List (List ℕ)) (opts : List Opt) (options words : List (List ℕ)) (fault : UsageFault) (letter : ℕ) → words ≡ [] ∷ options → reading opts words ≡ faulty fault
    → false ≡ is_some (in_force groups letter (letters_in (read_from opts 1 None options)))
none-found groups opts options words fault letter is bad =
    by fault ∙ sym (ap (λ reading. is_some (in_force groups letter (letters_in reading))) (sym (ap (reading opts) is) ∙ bad))
  where
    by : (fault : UsageFault) → false ≡ is_some (in_force groups letter (letters_in (faulty fault)))
    by (Unknown bad) = refl
    by (NoValue bad) = refl

-- the value that the call has read is in force among them
pub value-found : (opts : List Opt) (options words : List (List ℕ)) (call : CallLetters) → words ≡ [] ∷ options → CallRead [] opts words call
    → value_by call.in_force.items 100 ≡ value_by (chosen_by [] opts (letters_in (read_from opts 1 None options))) 100
value-found opts options words call is read =
    ap (λ (choices : List Choice). value_by choices 100) read.in_force
    ∙ sym (ap (λ reading. value_by (chosen_by [] opts (letters_in reading)) 100) (sym (ap (reading opts) is) ∙ read.is_reading))

none-chosen : (opts : List Opt) → chosen_by [] opts [] ≡ []
none-chosen [] = refl
none-chosen (opt ∷ opts) = none-chosen opts

-- behind a bad letter there is none
pub no-value : (opts : List Opt) (options words : List (List ℕ)) (fault : UsageFault) → words ≡ [] ∷ options → reading opts words ≡ faulty fault
    → false ≡ is_empty_value (value_by (chosen_by [] opts (letters_in (read_from opts 1 None options))) 100)
no-value opts options words fault is bad =
    by fault ∙ sym (ap (λ reading. is_empty_value (value_by (chosen_by [] opts (letters_in reading)) 100)) (sym (ap (reading opts) is) ∙ bad))
  where
    by : (fault : UsageFault) → false ≡ is_empty_value (value_by (chosen_by [] opts (letters_in (faulty fault))) 100)
    by (Unknown bad) = sym (ap (λ (choices : List Choice). is_empty_value (value_by choices 100)) (none-chosen opts))
    by (NoValue bad) = sym (ap (λ (choices : List Choice). is_empty_value (value_by choices 100)) (none-chosen opts))

-- import has the letters of importas
pub imports-alike : (program : Prog) (options : List (List ℕ)) (does : Bool) → (program ≡ Importas) ⊎ (program ≡ Import) → does ≡ does_more Importas (letters_of Importas options) → does ≡ does_more program (letters_of program options)
unfolding shape_of
imports-alike program options does (inl is) here = here ∙ ap (λ program. does_more program (letters_of program options)) (sym is)
imports-alike program options does (inr is) here = here ∙ ap (λ program. does_more program (letters_of program options)) (sym is)

pub ruleset letters = (letter-found, none-found, value-found, no-value)
