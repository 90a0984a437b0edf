use Rattle.std.proofs.Common.{ap, ◌∙◌, sym}
use Rattle.std.proofs.lemmas.Result.{err_from_is_err_and}
use Rattle.std.specs.Option.{option_copied}
use Rattle.el_words.specs.Word.{HasNul}
use Rattle.el_env.proofs.Arguments.{IfSome-at, ArePositionals-read, NoPositionals-read, positionals_of-read, positionals_of-no_count, positionals_of-no_zero, positionals_of-gap}
use Rattle.el_env.proofs.env.Env.positionals.Goals as goal

pub returns-clause-value : goal.returns-clause-value
returns-clause-value c =
    positionals_of-read _ _ _ _ _ (sym c.count.ensures ∙ c.in_ok-count.ensures.ok_part) (sym c.get.ensures.value ∙ ap option_copied c.in_ok-zero.ensures.ok_part)
    c.in_ok-of.ensures c.in_ok-numbered.ensures.value

pub returns-clause-ok : goal.returns-clause-ok
returns-clause-ok c = ArePositionals-read _ _ _ (returns-clause-value c)

pub returns-in_err-count-clause-no_value : goal.returns-in_err-count-clause-no_value
returns-in_err-count-clause-no_value c = λ _. positionals_of-no_count _ (sym c.count.ensures ∙ c.in_err-count.ensures.ok_part)

pub returns-in_err-count-clause-none : goal.returns-in_err-count-clause-none
returns-in_err-count-clause-none c = λ _. NoPositionals-read _ (positionals_of-no_count _ (sym c.count.ensures ∙ c.in_err-count.ensures.ok_part))

pub returns-in_err-zero-clause-no_value : goal.returns-in_err-zero-clause-no_value
returns-in_err-zero-clause-no_value c = λ _. positionals_of-no_zero _ (sym c.get.ensures.value ∙ ap option_copied c.in_err-zero.ensures.ok_part)

pub returns-in_err-zero-clause-none : goal.returns-in_err-zero-clause-none
returns-in_err-zero-clause-none c = λ _. NoPositionals-read _ (positionals_of-no_zero _ (sym c.get.ensures.value ∙ ap option_copied c.in_err-zero.ensures.ok_part))

pub returns-in_err-numbered-clause-no_value : goal.returns-in_err-numbered-clause-no_value
returns-in_err-numbered-clause-no_value c = λ gap.
    let p = err_from_is_err_and c.from_residual-in_err-numbered.result c.from_residual-in_err-numbered.ensures.1 in
    positionals_of-gap _ _ _ (sym c.count.ensures ∙ c.in_ok-count.ensures.ok_part) (sym c.get.ensures.value ∙ ap option_copied c.in_ok-zero.ensures.ok_part)
    (c.in_err-numbered.ensures.no_value (cc (sym p.1 ∙ gap, p.2)))

pub returns-in_err-numbered-clause-none : goal.returns-in_err-numbered-clause-none
returns-in_err-numbered-clause-none c = λ gap. NoPositionals-read _ (returns-in_err-numbered-clause-no_value c gap)

pub of-requires : goal.of-requires
of-requires c = IfSome-at c.get.result c.in_ok-zero.zero (λ value. HasNul value.now → ⊥) c.in_ok-zero.ensures.ok_part c.get.ensures.no_nul
