use Rattle.std.proofs.Common.{ap, ◌∙◌, drop}
use Rattle.std.proofs.lemmas.Result.{IfOk-weaker}
use Rattle.el_glob.specs.Asked.{elglob_letters, asked_behind}
use Rattle.el_glob.proofs.Askings.{letter_refused, letters_ask}
use Rattle.el_glob.proofs.asked.read_asked.Goals as goal

pub returns-in-Ok : goal.returns-in-Ok
unfolding elglob_letters
returns-in-Ok c =
    let asks = letters_ask c.args.words.now c.in-Ok.letters (rw c.in-Ok.is at c.in_ok-letters.ensures) in
    IfOk-weaker c.asked_behind.result _ _ (λ read is. is ∙ ap (λ none. asked_behind none (drop c.in-Ok.letters.used c.args.words.now)) c.has.ensures ∙ asks) c.asked_behind.ensures

pub returns-in-Err : goal.returns-in-Err
unfolding elglob_letters
returns-in-Err c = rw c.trouble_of.ensures (letter_refused c.args.words.now c.in-Err.fault (rw c.in-Err.is at c.in_ok-letters.ensures))

pub asked_behind-requires : goal.asked_behind-requires
asked_behind-requires c = (rw c.in-Ok.is at c.in_ok-letters.ensures).within
