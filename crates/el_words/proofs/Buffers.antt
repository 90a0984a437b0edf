-- The words of a list that has a buffer are its buffer's, and others have none.
use Rattle.std.proofs.Common.{◌≡◌, ℕ, List, [], subst, sym, ap, ◌∙◌, length, Option, None, Some, Box, arith}
use Rattle.std.specs.declared.alloc.Global.{Global}
use Rattle.memchr.specs.Find.{IsFirst}
use Rattle.el_words.specs.Word.{HoldsByteAt}
use Rattle.el_words.specs.Words.{buffered}

pub buffered-value : (held : Option (Box (List (List ℕ)) Global)) (buffer : Box (List (List ℕ)) Global) (value words : List (List ℕ)) → buffered held ≡ words → held ≡ Some buffer → value ≡ buffer.value → value ≡ words
buffered-value held buffer value words words_are held_is value_is = value_is ∙ sym (ap buffered held_is) ∙ words_are

-- without words none holds a byte
none-holds : (byte : ℕ) → IsFirst (HoldsByteAt [] byte) 0 0 None
none-holds byte place low high holds = absurd (omega (arith, high))

pub unbuffered-holds : (held : Option (Box (List (List ℕ)) Global)) (words : List (List ℕ)) (byte : ℕ) → buffered held ≡ words → held ≡ None → IsFirst (HoldsByteAt words byte) 0 (length words) None
unbuffered-holds held words byte words_are held_is =
    let P : List (List ℕ) → Type 0 = λ words. IsFirst (HoldsByteAt words byte) 0 (length words) None in
    subst P (sym (ap buffered held_is) ∙ words_are) (none-holds byte)
