use Rattle.std.proofs.Common.{◌≡◌, IsTrue, ◌↔◌, not, subst}
use Rattle.std.specs.Ordering.{nat_cmp}
use Rattle.std.specs.FinSet as set
use Rattle.el_words.proofs.Flags.{empty-flags}
use Rattle.el_words.proofs.byte_set.ByteSet.is_empty.Goals as goal

pub returns : goal.returns
returns c =
    let P : set.FinSet nat_cmp → Type 0 = λ s. IsTrue (not c.contains.result) ↔ (s ≡ set.empty) in
    subst P c.self.view_is (empty-flags c.self.inside.members c.contains.result c.contains.ensures.value)
