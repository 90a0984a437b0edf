use Rattle.std.proofs.Common.{arith, ap, length}
use Rattle.el_record.proofs.Fitting.{word_text}
use Rattle.el_record.proofs.fits.word_fits.Goals as goal

pub returns : goal.returns
returns c = word_text c.args.word.now (omega (arith, ap length c.as_bytes-bytes.ensures.same)) c.as_bytes-bytes.ensures.no_nul
