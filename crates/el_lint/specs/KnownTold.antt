-- The names that are known, as the code tells of them. Only the code's contracts need it.
use Rattle.el_lint.specs.declared.known.KnownNames.{KnownNames}
use Rattle.el_lint.specs.Known.{Known}

-- the names that the code holds
abbrev pub known_told : KnownNames → Known
known_told known = record { names = known.names.items; positional = known.positional }
