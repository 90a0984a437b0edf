use Rattle.std.proofs.Common.{arith, ◌≤◌, ◌<◌, ◌+◌, ◌-◌, ◌^◌, ◌∙◌, ap, sym, subst, ◌++◌, ℕ, List, length, slice_range, All}
use Rattle.el_words.proofs.Slices.{sum_by-length}
use Rattle.el_words.proofs.Between.{length-slice_range, length-word_ends, word_ends-bounds, appended-room}
use Rattle.el_words.proofs.words.room.Room.append.Goals as goal

pub append_ends-requires-clause-room : goal.append_ends-requires-clause-room
append_ends-requires-clause-room c =
    let texts = slice_range c.args.words.now c.args.from c.args.to in
    omega (
      arith,
      c.self.invariant.1,
      c.requires.fits_words,
      ap (λ room. room.spare_words) c.self.view_is,
      ap length c.ends_between-start.ensures,
      length-word_ends c.ends_between-start.result.0 texts,
      length-slice_range c.args.words.now c.args.from c.args.to c.requires.order c.requires.within,
    )

pub append_ends-requires-clause-bounds : goal.append_ends-requires-clause-bounds
append_ends-requires-clause-bounds c =
    let texts = slice_range c.args.words.now c.args.from c.args.to in
    let P : List ℕ → Type 0 = All (λ end. (c.ends_between-start.result.0 ≤ end) × (end - c.ends_between-start.result.0 + c.len.result < 2 ^ 64)) in
    subst P (sym c.ends_between-start.ensures)
    (λ k d lt.
    let bounds = word_ends-bounds c.ends_between-start.result.0 texts k d lt in
    (bounds.0, omega (arith, bounds.1, c.len.ensures, c.self.invariant.2, c.requires.fits_bytes, ap (λ room. room.spare_bytes) c.self.view_is, sum_by-length texts)))

pub append-requires : goal.append-requires
append-requires c =
    omega (arith, c.self.invariant.2, c.requires.fits_bytes, ap (λ room. room.spare_bytes) c.self.view_is, ap length c.joined_between-more.ensures.same, sum_by-length (slice_range c.args.words.now c.args.from c.args.to))

pub overflow_sub-self-3 : goal.overflow_sub-self-3
overflow_sub-self-3 c =
    omega (arith, c.requires.fits_bytes, ap (λ room. room.spare_bytes) c.self.view_is, ap length c.joined_between-more.ensures.same, sum_by-length (slice_range c.args.words.now c.args.from c.args.to))

pub invariant_of-self : goal.invariant_of-self
invariant_of-self c =
    let texts = slice_range c.args.words.now c.args.from c.args.to in (
      (appended-room _ _ _ _ _ _ c.ends_between-start.result.0 c.len.result texts c.self.invariant.0 c.joined_between-more.ensures.no_nul c.joined_between-more.ensures.same
          c.ends_between-start.ensures (omega (arith, c.len.ensures)) c.append.ensures.items c.append_ends.ensures.items).0,
      omega (
        arith,
        c.self.invariant.1,
        c.append_ends.ensures.len,
        c.append_ends.ensures.capacity,
        c.requires.fits_words,
        ap (λ room. room.spare_words) c.self.view_is,
        ap length c.ends_between-start.ensures,
        length-word_ends c.ends_between-start.result.0 texts,
        length-slice_range c.args.words.now c.args.from c.args.to c.requires.order c.requires.within,
      ),
      omega (
        arith,
        c.self.invariant.2,
        c.append.ensures.len,
        c.append.ensures.capacity,
        c.requires.fits_bytes,
        ap (λ room. room.spare_bytes) c.self.view_is,
        ap length c.joined_between-more.ensures.same,
        sum_by-length texts,
      ),
    )

pub returns-clause-words : goal.returns-clause-words
returns-clause-words c =
    let texts = slice_range c.args.words.now c.args.from c.args.to in
    (appended-room _ _ _ _ _ _ c.ends_between-start.result.0 c.len.result texts c.self.invariant.0 c.joined_between-more.ensures.no_nul c.joined_between-more.ensures.same
    c.ends_between-start.ensures (omega (arith, c.len.ensures)) c.append.ensures.items c.append_ends.ensures.items).1
    ∙ ap (λ room. room.words ++ texts) c.self.view_is

pub returns-clause-spare_bytes : goal.returns-clause-spare_bytes
returns-clause-spare_bytes c =
    omega (arith, c.requires.fits_bytes, ap (λ room. room.spare_bytes) c.self.view_is, ap length c.joined_between-more.ensures.same, sum_by-length (slice_range c.args.words.now c.args.from c.args.to))
