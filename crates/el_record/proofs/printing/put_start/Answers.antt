use Rattle.el_record.proofs.Printed.{puts_then}
use Rattle.el_record.proofs.printing.put_start.Goals as goal

pub returns : goal.returns
returns c = puts_then (puts_then (puts_then (puts_then (puts_then (puts_then c.in_ok-put_byte.ensures c.in_ok-put_words.ensures) c.in_ok-put_env.ensures) (rw c.as_bytes.ensures.same at c.in_ok-put_bytes.ensures)) c.in_ok-put_ends.ensures) c.in_ok-put_start_answer.ensures) c.in_ok-put_byte-2.ensures
