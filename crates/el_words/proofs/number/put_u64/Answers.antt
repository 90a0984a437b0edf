use Rattle.std.proofs.Common.{◌∙◌, Result, Ok, Err, IfOk, ◌≡◌, ℕ, List, Some, ap}
use Rattle.el_words.specs.Number.{number_of}
use Rattle.el_words.proofs.Numbers.{decimal-no_nul, number_of-decimal}
use Rattle.el_words.proofs.number.put_u64.Goals as goal

pub of-requires : goal.of-requires
of-requires c = rw (c.as_bytes.ensures.value, c.in_ok-text.ensures.ok) (decimal-no_nul c.args.number c.ranges.number.fits)

read : {E : Type 0} (r : Result (List ℕ) E) (bytes : List ℕ) (n : ℕ) → IfOk r (λ word. word ≡ bytes) → number_of bytes ≡ Some n → IfOk r (λ word. number_of word ≡ Some n)
read (Ok word) bytes n same reads = ap number_of same ∙ reads
read (Err e) bytes n same reads = tt

pub returns-clause-reads_back : goal.returns-clause-reads_back
returns-clause-reads_back c =
    read _ _ c.args.number c.of.ensures (ap number_of (c.as_bytes.ensures.value ∙ c.in_ok-text.ensures.ok) ∙ number_of-decimal c.args.number c.ranges.number.fits)
