use Rattle.std.proofs.Common.{nat_le}
use Rattle.std.proofs.lemmas.Fn.{always_returns_same}
use Rattle.std.proofs.Common.{rules, of_calls, arith}
use Rattle.std.proofs.lemmas.Bool.{leb-true, leb-false}
use Rattle.std.proofs.lemmas.List.Sorted.{IsPartitionedBy-leb}
use Rattle.el_words.proofs.words.buffer.ending_by.Goals as goal

pub returns : goal.returns
returns c =
    let point = c.partition_point.ensures.partitioned (λ end. nat_le end c.args.place) (always_returns_same _ _ _ (λ a r f k. search (rules, of_calls))) (IsPartitionedBy-leb (λ end. end) c.args.ends.now c.args.place c.requires) in
    record {
      within = c.partition_point.ensures.bound;
      below = λ k lt. leb-true _ c.args.place (point.0 k 0 (omega arith) lt);
      above = λ k le lt. leb-false _ c.args.place (point.1 k 0 le lt);
    }
