use Rattle.std.proofs.Common.{◌<◌, ◌∷◌, ◌++◌, ◌∙◌, [], length, sym, ap, arith}
use Rattle.el_blocks.specs.Block.{unquoted}
use Rattle.el_blocks.proofs.Blocks.{unspelled-next, bytes-next, bytes-within, bytes-between, length-unquoted, unquoted-no_nul}
use Rattle.el_blocks.proofs.block.unspell_at.Goals as goal

pub loop-place-init : goal.loop-place-init
loop-place-init c = record {
  so_far = c.in_ok-block.ensures.empty;
  has_places = omega (arith, c.in_ok-block.ensures.words);
  has_room = omega (arith, c.in_ok-block.ensures.bytes, c.bytes_between.ensures, bytes-between c.args.words.now c.args.from c.args.len);
}

pub push-requires-clause-no_nul : goal.push-requires-clause-no_nul
push-requires-clause-no_nul c = rw c.unquoted.ensures (unquoted-no_nul c.at.result.now c.at.ensures.no_nul)

pub push-requires-clause-fits : goal.push-requires-clause-fits
push-requires-clause-fits c =
    let inside : c.loop-place.place < c.args.len = omega arith in
    let next = bytes-next c.args.words.now c.args.from c.args.len c.loop-place.place inside c.requires in
    let within = bytes-within c.args.words.now c.args.from c.args.len c.loop-place.place inside c.requires in
    omega (arith, ap length c.unquoted.ensures, length-unquoted c.at.result.now, ap length c.at.ensures.same, next, within, c.loop-place.invariant.has_room)

pub loop-place-preserved : goal.loop-place-preserved
loop-place-preserved c =
    let inside : c.loop-place.place < c.args.len = omega arith in
    let next = bytes-next c.args.words.now c.args.from c.args.len c.loop-place.place inside c.requires in
    record {
      so_far = c.push.ensures.words ∙ (λ i. c.loop-place.invariant.so_far i ++ (c.unquoted.ensures ∙ ap unquoted c.at.ensures.same) i ∷ [])
          ∙ sym (unspelled-next c.args.words.now c.args.from c.args.len c.loop-place.place inside c.requires);
      has_places = omega (arith, c.push.ensures.spare_words, c.loop-place.invariant.has_places);
      has_room = omega (arith, ap length c.unquoted.ensures, length-unquoted c.at.result.now, ap length c.at.ensures.same, next, c.push.ensures.spare_bytes, c.loop-place.invariant.has_room);
    }
