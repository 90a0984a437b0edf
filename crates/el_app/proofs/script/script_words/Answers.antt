use Rattle.std.proofs.Common.{sym, true≢false}
use Rattle.el_app.proofs.Faults.{fault_refused}
use Rattle.el_app.proofs.script.script_words.Goals as goal

pub returns-in_ok-trouble-in-Err : goal.returns-in_ok-trouble-in-Err
returns-in_ok-trouble-in-Err g c =
    let named = c.in_ok-trouble-in-Err.ensures in
    fault_refused c.args.script.now c.in-Err.fault c.in-Err.ensures.exact (λ none. true≢false (sym (named.memory.1 none))) (rw (c.execlineb_name.ensures.same, named.ok) at c.refused.ensures.run)
