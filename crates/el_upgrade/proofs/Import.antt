-- import acts as importas does with the name in both places, but for the name in messages.
use Rattle.el_room.proofs.Vocabulary.{list_all, Importas, Import, name_text, Pairs, Scope, shape_of, State, Trouble, BadName, refused, DirectiveRead, own_directive}
use Rattle.el_machine.proofs.Vocabulary.{has_good_names, all_pairs, put_or_refused, substituting, substitute_alone, as_importas, import}
use Rattle.el_script.proofs.Vocabulary.{Tree, unplaced, one_place, text_place, upgraded}
use Rattle.std.proofs.Common.{◌≡◌, ℕ, Bool, true, false, List, [], ◌∷◌, Result, Ok, Err, inr, refl, ap, if◌then◌else◌}
use Rattle.el_meaning.specs.Operands.{read_in}
use Rattle.el_upgrade.proofs.Tasks.{TasksAlike, alike-same, alike-as}
use Rattle.el_upgrade.proofs.Children.{refused-alike}

module _ (directives : List DirectiveRead) (state : State) where
  -- the same directives are refused under their program's name
  substituting-alike : TasksAlike (substituting Import directives state) (substituting Importas directives state)
  unfolding substituting
  substituting-alike = by (list_all has_good_names directives)
    where
      with-pairs : (pairs : Result Pairs Trouble) → TasksAlike (put_or_refused Import directives state pairs) (put_or_refused Importas directives state pairs)
      with-pairs (Ok pairs) = alike-same
      with-pairs (Err trouble) = refused-alike state trouble (inr (refl, refl))

      by : (good : Bool) → TasksAlike (if good then put_or_refused Import directives state (all_pairs directives state.env) else refused state (name_text Import) BadName)
          (if good then put_or_refused Importas directives state (all_pairs directives state.env) else refused state (name_text Importas) BadName)
      by true = with-pairs (all_pairs directives state.env)
      by false = refused-alike state BadName (inr (refl, refl))

module _ (scope : Scope) (options : List (List ℕ)) (text : List ℕ) (rest : Tree) where
  -- import reads what importas reads with the name in both places
  same-directive : as_importas (read_in scope Import options (one_place (text_place text) unplaced) rest) ≡ own_directive Importas (read_in scope Importas options (one_place (text_place text) (one_place (text_place text) unplaced)) (upgraded rest))
  unfolding shape_of
  same-directive = refl

  pub import-alike : (state : State) → TasksAlike (import (read_in scope Import options (one_place (text_place text) unplaced) rest) state) (substitute_alone Importas (read_in scope Importas options (one_place (text_place text) (one_place (text_place text) unplaced)) (upgraded rest)) state)
  unfolding import substitute_alone
  import-alike state = alike-as refl (ap (λ directive. substituting Importas (directive ∷ []) state) same-directive) (substituting-alike (as_importas (read_in scope Import options (one_place (text_place text) unplaced) rest) ∷ []) state)
