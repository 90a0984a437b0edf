use Rattle.std.proofs.Common.{◌∙◌, ℕ, List, Ok, Err, sym, ap, refl, drop, length, arith}
use Rattle.std.specs.Option.{option_copied}
use Rattle.std.proofs.lemmas.Result.{err_from_is_err_and}
use Rattle.el_getopt.proofs.Parsed.{no_optstring, two_words, no_letters, no_positionals, bad_letter, all_read}
use Rattle.el_getopt.proofs.parsing.parse.Goals as goal

pub returns-in_default : goal.returns-in_default
returns-in_default c = (no_optstring c.args.words.now c.args.env.now (sym c.get.ensures ∙ ap option_copied c.in_default.is), refl)

pub returns-then-not-is_optstring : goal.returns-then-not-is_optstring
returns-then-not-is_optstring c = (no_letters c.args.words.now c.args.env.now c.in-Some.optstring.now (sym c.in-Some.ensures) (sym c.if-not-is_optstring.ensures), refl)

pub returns-in_err-positionals : goal.returns-in_err-positionals
returns-in_err-positionals c =
    let p = err_from_is_err_and c.from_residual.result c.from_residual.ensures.1 in
    rw (p.1, p.2) (no_positionals c.args.words.now c.args.env.now c.in-Some.optstring.now (sym c.in-Some.ensures) (sym c.if-not-is_optstring.ensures) c.in_err-positionals.field-0.0 (λ is. c.in_err-positionals.ensures.no_value (ap Err is)))

pub returns-in_err-reader : goal.returns-in_err-reader
returns-in_err-reader c =
    let p = err_from_is_err_and c.from_residual-in_err-reader.result c.from_residual-in_err-reader.ensures.1 in
    rw (p.1, p.2)
    (bad_letter c.args.words.now c.args.env.now c.in-Some.optstring.now (sym c.in-Some.ensures) c.in_ok-positionals.positionals.zero c.in_ok-positionals.positionals.args (sym c.if-not-is_optstring.ensures) c.in_ok-positionals.ensures.value
    c.in_err-reader.field-0.0 c.in_err-reader.ensures.fault)

pub drop_front-requires : goal.drop_front-requires
drop_front-requires c = omega (arith, ap length c.in_ok-rest.ensures, two_words c.args.words.now c.in-Some.optstring.now (sym c.in-Some.ensures))

pub returns : goal.returns
returns c =
    all_read c.args.words.now c.args.env.now c.in-Some.optstring.now (sym c.in-Some.ensures) c.in_ok-positionals.positionals.zero c.in_ok-positionals.positionals.args (sym c.if-not-is_optstring.ensures) c.in_ok-positionals.ensures.value
    c.in_ok-reader.reader.found.items c.in_ok-reader.reader.used c.set_parsed.new.env c.in_ok-reader.ensures.ok c.in_ok-set_parsed.ensures
    ∙ ap (λ (rest : List (List ℕ)). Ok (record { rest = rest; env = c.set_parsed.new.env })) (sym (c.drop_front.ensures ∙ ap (drop 2) c.in_ok-rest.ensures))
