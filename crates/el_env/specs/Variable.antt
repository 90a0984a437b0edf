-- Variables that are lent. Only the code's contracts need it.
use Rattle.std.specs.Prelude.{ℕ, List}
use Rattle.el_env.specs.declared.env.variable.Variable.{Variable}

-- its name and its value
abbrev pub pair_of : Variable → List ℕ × List ℕ
pair_of variable = (variable.name.now, variable.value.now)
