use Rattle.std.proofs.Common.{◌≡◌, ◌++◌, drop}
use Rattle.std.specs.Prelude.{flat_map, codes}
use Rattle.el_family.specs.Trees.{byte_text}
use Rattle.el_family.proofs.tree.put_word.Given as goal

-- the bytes so far, and those that are to come
abbrev pub invariant-loop-byte : goal.invariant-loop-byte
invariant-loop-byte l = l.lines ++ flat_map byte_text (drop l.byte-index l.word) ≡ (l.fn.lines ++ codes " \"") ++ flat_map byte_text l.word
