-- Where the variables of an environment lie. This file is the code's own: a contract sees the map alone.
use Rattle.std.specs.Prelude.{Option, None, Some, Box}
use Rattle.std.specs.FinMap as map
use Rattle.std.specs.declared.alloc.Global.{Global}
use Rattle.el_env.specs.Vars.{Vars}

-- the variables of an environment that has a table only where one was set
abbrev pub tabled : Option (Box Vars Global) → Vars
tabled None = map.empty
tabled (Some table) = table.value
