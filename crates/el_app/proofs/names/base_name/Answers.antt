use Rattle.std.proofs.Common.{◌≡◌, take, drop, length, ◌-◌, ◌+◌, ◌∙◌, arith}
use Rattle.std.proofs.lemmas.Grind.{common_steps}
use Rattle.el_app.specs.Names.{base_name}
use Rattle.el_app.proofs.Parts.{after_last-found, after_last-none}
use Rattle.el_app.proofs.names.base_name.Goals as goal

pub returns-in-Some : goal.returns-in-Some
unfolding base_name
returns-in-Some c =
    let word = c.args.word.now in
    let all : take (length word - (c.in-Some.place + 1)) (drop (c.in-Some.place + 1) word) ≡ drop (c.in-Some.place + 1) word = grind (arith, common_steps) in
    all ∙ after_last-found _ word c.in-Some.place c.in-Some.ensures

pub returns-in-None : goal.returns-in-None
unfolding base_name
returns-in-None c = after_last-none _ c.args.word.now c.in-None.ensures
