use Rattle.std.proofs.Common.{refl}
use Rattle.std.specs.Ordering.{nat_cmp, is_lt}
use Rattle.std.specs.Cmp.Lexicographic.{slice_cmp}
use Rattle.std.proofs.lemmas.Cmp.{same_from_slice_cmp_tested}
use Rattle.el_record.proofs.Variables.{more_compared}
use Rattle.el_record.proofs.reading.rises.Goals as goal

pub returns : goal.returns
returns c = same_from_slice_cmp_tested nat_cmp is_lt (λ xs ys. is_lt (slice_cmp nat_cmp xs ys)) refl (λ y ys. refl) (λ x xs. refl) more_compared c.args.last.now c.args.name.now c.lt.result c.lt.ensures
