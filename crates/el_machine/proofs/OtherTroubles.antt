-- The values of directives are never refused with 111.
use Rattle.el_room.proofs.Vocabulary.{Prog, Define, Importas, Multidefine, Elgetpositionals, positionals_of, Vars, Pairs, words_by, Trouble, NotSet, First, Second, DirectiveRead, directive_has, directive_value, directive_text}
use Rattle.std.proofs.Common.{ℕ, Bool, true, false, List, [], ◌∷◌, Option, Some, None, Result, Ok, Err, IfErr, codes, if◌then◌else◌}
use Rattle.std.specs.FinMap as map
use Rattle.el_vars.specs.Importas.{unset_words, imported_words}
use Rattle.el_vars.specs.Multidefine.{pairs_named}
use Rattle.el_vars.specs.Values.{rules_for, or_bad_netstring, transformed, paired}
use Rattle.el_vars.specs.Elgetpositionals.{least_of, positioned}
use Rattle.el_vars.specs.Multisubstitute.{pairs_of, pairs_by, joined_pairs, all_pairs}
use Rattle.el_machine.proofs.HoldsTasks.{IsOther}

other_transformed : (directive : DirectiveRead) (split : Bool) (value : List ℕ) → IfErr (transformed directive split value) IsOther
other_transformed directive split value = by (words_by (rules_for directive split) value)
  where
    by : (words : Result (List (List ℕ)) ℕ) → IfErr (or_bad_netstring words) IsOther
    by (Ok words) = tt
    by (Err place) = tt

other_paired : (key : List ℕ) (words : Result (List (List ℕ)) Trouble) → IfErr words IsOther → IfErr (paired key words) IsOther
other_paired key (Ok words) other = tt
other_paired key (Err trouble) other = other

other_unset : (directive : DirectiveRead) (default : Option (List ℕ)) → IfErr (unset_words directive default) IsOther
other_unset directive (Some value) = other_transformed directive (directive_has (codes "s") directive) value
other_unset directive None = by (directive_has (codes "i") directive)
  where
    by : (stops : Bool) → IfErr {T = List (List ℕ)} {E = Trouble} (if stops then Err NotSet else Ok []) IsOther
    by true = tt
    by false = tt

other_imported : (directive : DirectiveRead) (value : Option (List ℕ)) → IfErr (imported_words directive value) IsOther
other_imported directive (Some value) = other_transformed directive (directive_has (codes "s") directive) value
other_imported directive None = other_unset directive (directive_value (codes "D") directive)

other_named : (names : List (List ℕ)) (words : Result (List (List ℕ)) Trouble) → IfErr words IsOther → IfErr (pairs_named names words) IsOther
other_named names (Ok words) other = tt
other_named names (Err trouble) other = other

other_positioned : (least : ℕ) (found : Option (List ℕ × List (List ℕ))) → IfErr (positioned least found) IsOther
other_positioned least None = tt
other_positioned least (Some found) = tt

other_pairs : (program : Prog) (directive : DirectiveRead) (env : Vars) → IfErr (pairs_by program directive env) IsOther
other_pairs Define directive env =
    let split = directive_has (codes "s") directive in
    let value = directive_text Second directive in
    other_paired (directive_text First directive) (transformed directive split value) (other_transformed directive split value)
other_pairs Importas directive env =
    let value = map.get env (directive_text Second directive) in
    other_paired (directive_text First directive) (imported_words directive value) (other_imported directive value)
other_pairs Multidefine directive env =
    let value = directive_text First directive in
    other_named directive.names (transformed directive true value) (other_transformed directive true value)
other_pairs Elgetpositionals directive env = other_positioned (least_of directive) (positionals_of env)
other_pairs _ directive env = tt

other_joined : (first rest : Result Pairs Trouble) → IfErr first IsOther → IfErr rest IsOther → IfErr (joined_pairs first rest) IsOther
other_joined (Ok pairs) (Ok more) one two = tt
other_joined (Ok pairs) (Err trouble) one two = two
other_joined (Err trouble) rest one two = one

pub other_all : (directives : List DirectiveRead) (env : Vars) → IfErr (all_pairs directives env) IsOther
other_all [] env = tt
other_all (directive ∷ directives) env = other_joined (pairs_of directive env) (all_pairs directives env) (other_pairs directive.program directive env) (other_all directives env)
