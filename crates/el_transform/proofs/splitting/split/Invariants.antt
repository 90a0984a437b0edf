use Rattle.std.proofs.Common.{◌≡◌, ◌<◌, ◌≤◌, ◌+◌, ◌++◌, [], count_by, drop, length}
use Rattle.el_transform.specs.Crunching.{is_delimiter}
use Rattle.el_transform.specs.Computed.{split_behind}
use Rattle.el_transform.proofs.Split.{left_at}
use Rattle.el_transform.proofs.splitting.split.Given as goal

abbrev pub invariant-loop-end : goal.invariant-loop-end
invariant-loop-end l = record {
  begun : l.start ≤ l.«end»;
  so_far : split_behind (is_delimiter l.delims) [] l.bytes ≡ l.words.words ++ left_at l.delims l.bytes l.start l.«end»;
  has_places : count_by (is_delimiter l.delims) (drop l.«end» l.bytes) < l.words.spare_words;
  has_room : length l.bytes ≤ l.start + l.words.spare_bytes;
}
