use Rattle.std.proofs.Common.{◌≡◌, ◌+◌, ◌++◌, ap, ap₂, refl, sym, ◌∙◌, arith, length}
use Rattle.el_words.specs.Room.{Filling}
use Rattle.el_transform.proofs.Split.{left_at, left_at-other, length-slice, ends-delimiter, ends-other, step-delimiter, end-rest, end-none}
use Rattle.el_transform.proofs.splitting.split.Goals as goal
use Rattle.el_transform.proofs.splitting.split.Goals.{then-has, else-has, then-start-bytes, else-start-bytes}

pub loop-end-preserved : goal.loop-end-preserved
loop-end-preserved c =
    let delims = c.args.delims.now in
    let bytes = c.args.bytes.now in
    let place = c.loop-end.«end» in
    elim c.if-has.branch [
      | then-has w ↦ record {
        begun = omega (arith, w.start-is);
        so_far = c.loop-end.invariant.so_far ∙ step-delimiter delims bytes _ _ _ c.loop-end.start _ place c.loop-end-test.true (sym w.if-has.ensures) refl (ap (λ (room : Filling). room.words) w.words-is ∙ w.push.ensures.words) w.start-is;
        has_places = omega (arith, ends-delimiter delims bytes place c.loop-end-test.true (sym w.if-has.ensures), ap (λ (room : Filling). room.spare_words) w.words-is, w.push.ensures.spare_words, c.loop-end.invariant.has_places);
        has_room = omega (arith, w.start-is, ap (λ (room : Filling). room.spare_bytes) w.words-is, w.push.ensures.spare_bytes, length-slice bytes c.loop-end.start place c.loop-end-test.true, c.loop-end.invariant.begun, c.loop-end.invariant.has_room);
      }
      | else-has w ↦ record {
        begun = omega (arith, w.start-is, c.loop-end.invariant.begun);
        so_far =
            c.loop-end.invariant.so_far
            ∙ ap (λ rest. c.loop-end.words.words ++ rest) (left_at-other delims bytes c.loop-end.start place c.loop-end.invariant.begun c.loop-end-test.true (sym w.if-has.ensures))
            ∙ ap₂ (λ (room : Filling) start. room.words ++ left_at delims bytes start (place + 1)) (sym w.words-is) (sym w.start-is);
        has_places = omega (arith, ends-other delims bytes place c.loop-end-test.true (sym w.if-has.ensures), ap (λ (room : Filling). room.spare_words) w.words-is, c.loop-end.invariant.has_places);
        has_room = omega (arith, w.start-is, ap (λ (room : Filling). room.spare_bytes) w.words-is, c.loop-end.invariant.has_room);
      }
    ]

pub returns : goal.returns
returns c =
    let at_end : c.loop-end.«end» ≡ length c.args.bytes.now = omega (arith, c.loop-end-test.false, c.loop-end.auto.end-end) in
    elim c.if-start-bytes.branch [
      | then-start-bytes w ↦
          rw c.into_words.ensures (end-rest c.args.delims.now c.args.bytes.now _ _ _ c.loop-end.start c.loop-end.«end» at_end w.if-start-bytes.true refl (ap (λ (room : Filling). room.words) w.words-is ∙ w.push-then-start-bytes.ensures.words) c.loop-end.invariant.so_far)
      | else-start-bytes w ↦
          rw (c.into_words.ensures, w.words-is) (end-none c.args.delims.now c.args.bytes.now _ c.loop-end.start c.loop-end.«end» at_end w.if-start-bytes.false c.loop-end.invariant.so_far)
    ]
