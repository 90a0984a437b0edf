use Rattle.std.proofs.Common.{◌≡◌, ℕ, List, ◌<◌, arith, take, subst}
use Rattle.std.proofs.lemmas.Grind.{common_steps}
use Rattle.el_words.proofs.Flags.{Flags, no_flags, one_more_flag, from_list-flags}
use Rattle.el_words.proofs.byte_set.ByteSet.of.Goals as goal

pub loop-byte-init : goal.loop-byte-init
loop-byte-init c = (omega arith, no_flags 256)

pub loop-byte-preserved : goal.loop-byte-preserved
loop-byte-preserved c =
    let fits : c.from.result < 256 = let bound = c.type_inv.bytes c.loop-byte.byte-index in omega (arith, bound, c.from.ensures) in
    (grind (arith, common_steps), one_more_flag _ _ _ _ (omega (arith, c.loop-byte.invariant.0)) c.loop-byte-test.true c.from.ensures c.loop-byte.invariant.1)

pub returns : goal.returns
returns c =
    let P : List ℕ → Type 0 = λ bytes. Flags c.loop-byte.members bytes in
    let all : take c.loop-byte.byte-index c.args.bytes.now ≡ c.args.bytes.now = grind (arith, common_steps) in
    from_list-flags _ _ (subst P all c.loop-byte.invariant.1)
