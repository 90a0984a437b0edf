-- What becomes of the words behind a script: the positional parameters.
use Rattle.el_room.specs.Vocabulary.{list_any, Vars, with_positionals, words_value, positional_pairs, shifted_pairs, gives, State, Task, Left, refused}
use Rattle.std.specs.Prelude.{ℕ, ◌-◌, ◌^◌, ◌==◌, Bool, false, List, Option, None, Some, if◌then◌else◌}
use Rattle.std.specs.FinMap as map
use Rattle.el_env.specs.Frames.{Frame, frame_of, pushed}
use Rattle.el_proc.specs.declared.trouble.Trouble.TheVariants.{FrameTooDeep}
use Rattle.el_check.specs.declared.params.Params.{Params}
use Rattle.el_check.specs.declared.params.Params.TheVariants.{Frame as InFrame, Leave, Subst}
use Rattle.el_app.specs.declared.asked.Placement.{Placement}
use Rattle.el_app.specs.declared.asked.Placement.TheVariants.{By, Shifted}
use Rattle.el_app.specs.Names.{execlineb_name}

-- a frame name at the greatest depth; a name that is no frame name isn't
abbrev pub is_deepest : Option Frame → Bool
is_deepest None = false
is_deepest (Some frame) = frame.depth == 2 ^ 64 - 1

-- a name at the greatest depth is set
abbrev pub is_too_deep : Vars → Bool
is_too_deep vars = list_any (λ name. is_deepest (frame_of name)) (map.keys vars)

-- behind a new frame, the words are the positionals
abbrev pub in_new_frame : (zero : List ℕ) → (args : List (List ℕ)) → Vars → Vars
in_new_frame zero args env = with_positionals zero args (pushed env)

-- The script's words, and the state in which they are run. The words behind the script aren't used; or they are put in the script's
-- words, where `@` may leave out the first of them; or they are the positionals of a new frame, which can be refused.
unfoldable pub placed : Placement → (zero : List ℕ) → (args : List (List ℕ)) → (script : List (List ℕ)) → State → Task Left
placed (By Leave) zero args script state = gives (record { words = script; state = state })
placed (By (Subst least)) zero args script state = gives (record { words = words_value (positional_pairs zero args least) script; state = state })
placed (Shifted least) zero args script state = gives (record { words = words_value (shifted_pairs zero args least) script; state = state })
placed (By InFrame) zero args script state =
    if is_too_deep state.env then refused state execlineb_name FrameTooDeep
    else gives (record { words = script; state = record state { env = in_new_frame zero args state.env } })

-- the mode in which a script is checked that is called so
abbrev pub params_of : Placement → Params
params_of (By params) = params
params_of (Shifted least) = Subst least
