-- How the code tells of a rule on a value. Only the code's contracts need it.
use Rattle.el_options.specs.Rules.{Rule as ValueRule, AnyText, Number, Numbers, NonEmpty}
use Rattle.el_options.specs.declared.rules.Rule.{Rule}
use Rattle.el_options.specs.declared.rules.Rule.TheVariants.{AnyText as AnyTextRule, Number as NumberRule, Numbers as NumbersRule, NonEmpty as NonEmptyRule}

-- the code's rule as that of the definitions
abbrev pub rule_told : Rule → ValueRule
rule_told AnyTextRule = AnyText
rule_told (NumberRule most) = Number most
rule_told (NumbersRule most) = Numbers most
rule_told NonEmptyRule = NonEmpty
