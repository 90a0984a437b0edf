-- What a chain is to the process that runs it.
use Rattle.el_room.specs.Vocabulary.{Prog, Ifelse, Ifte, Letter}
use Rattle.std.specs.Prelude.{ℕ, Bool, true, false, List, if◌then◌else◌}
use Rattle.el_lint.specs.declared.context.Context.{Context}
use Rattle.el_lint.specs.Negated.{tests_block, tests_rest}
use Rattle.el_lint.specs.Inherited.{none_made, made_behind}

-- a script's chain is no test, and no descriptor is made
abbrev pub first_context : Context
first_context = record { is_test = false; made = none_made }

-- the process of a program goes on with one of its blocks, and not only with its rest
abbrev pub goes_on_inside : Prog → Bool
goes_on_inside Ifelse = true
goes_on_inside Ifte = true
goes_on_inside _ = false

-- in the block at the first place of a program with these letters
abbrev pub context_inside : Context → Prog → List Letter → Context
context_inside context program letters = record { is_test = tests_block program letters; made = if goes_on_inside program then context.made else none_made }

-- in the block at a later one, which is no test
abbrev pub context_later : Context → Context
context_later context = record { is_test = false; made = context.made }

-- in the rest of a program with these letters and single words
abbrev pub context_behind : Context → Prog → List Letter → (texts : List (List ℕ)) → Context
context_behind context program letters texts = record { is_test = tests_rest context.is_test program letters; made = made_behind context.made program texts }
