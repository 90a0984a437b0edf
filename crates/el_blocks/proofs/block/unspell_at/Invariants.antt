use Rattle.std.proofs.Common.{◌≡◌, ◌+◌, ◌≤◌, length, take, drop, sum_by}
use Rattle.el_blocks.specs.Block.{unspelled}
use Rattle.el_blocks.proofs.block.unspell_at.Given as goal

abbrev pub invariant-loop-place : goal.invariant-loop-place
invariant-loop-place l = record {
  so_far : l.block.words ≡ unspelled l.place (drop l.from l.words);
  has_places : l.len ≤ l.place + l.block.spare_words;
  has_room : sum_by length (take l.len (drop l.from l.words)) ≤ sum_by length (take l.place (drop l.from l.words)) + l.block.spare_bytes;
}
