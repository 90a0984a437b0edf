-- What EXECLINE_STRICT says.
use Rattle.std.specs.Prelude.{ℕ, List, Option, Some, None, if◌then◌else◌, codes}
use Rattle.std.specs.Str.{bytes_eq}
use Rattle.el_options.specs.declared.strictness.Strictness.{Strictness}
use Rattle.el_options.specs.declared.strictness.Strictness.TheVariants.{Lenient, Warning, Refusing}

-- by the variable's value: exactly `1` warns and exactly `2` refuses; any other, or none, says nothing
abbrev pub strictness_by : Option (List ℕ) → Strictness
strictness_by None = Lenient
strictness_by (Some value) = if bytes_eq value (codes "1") then Warning else (if bytes_eq value (codes "2") then Refusing else Lenient)
