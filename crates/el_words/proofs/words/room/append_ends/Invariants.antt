use Rattle.std.proofs.Common.{◌≡◌, ◌≤◌, ◌+◌, ◌-◌, ◌++◌, map, take, vec_len, vec_capacity}
use Rattle.el_words.proofs.words.room.append_ends.Given as goal

abbrev pub invariant-loop-end : goal.invariant-loop-end
invariant-loop-end l =
    (l.ends.items ≡ l.fn.ends.items ++ map (λ end. end - l.start + l.base) (take l.end-index l.more))
    × (vec_len l.ends ≡ vec_len l.fn.ends + l.end-index)
    × (vec_capacity l.fn.ends ≤ vec_capacity l.ends)
