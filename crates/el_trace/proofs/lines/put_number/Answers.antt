use Rattle.el_trace.proofs.lines.put_number.Goals as goal

pub returns : goal.returns
returns c = rw (c.as_bytes.ensures.same, c.in_ok-digits.ensures.text) at c.in_ok-put_text.ensures
