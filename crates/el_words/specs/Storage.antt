-- Where a word's bytes lie. Only the code's contracts need it.
use Rattle.std.specs.Prelude.{ℕ, List}
use Rattle.el_words.specs.declared.storage.Storage.{Storage}
use Rattle.el_words.specs.declared.storage.Storage.TheVariants.{Inline, Heap}

-- the bytes, wherever they lie
abbrev pub stored : Storage → List ℕ
stored (Inline bytes) = bytes
stored (Heap bytes) = bytes.value.items
