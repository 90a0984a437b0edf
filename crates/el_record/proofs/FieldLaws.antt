-- What is written is read, and what is read is written.
use Rattle.std.proofs.Common.{◌≡◌, ℕ, ◌<◌, ◌^◌, List, [], ◌∷◌, ◌++◌, Option, Some, None, refl, sym, ap, ◌∙◌, length, append_assoc, Result, Ok, Err, IfOk}
use Rattle.std.specs.Fmt.{decimal}
use Rattle.el_transform.specs.Netstrings.{netstring_text}
use Rattle.el_transform.specs.Computed.{netstring_of}
use Rattle.el_transform.proofs.FirstNetstring.{netstring_of-some, netstring_of-text}
use Rattle.el_record.specs.Fields.{bytes_before}
use Rattle.el_record.specs.Reading.{and_read, bytes_of_front}

text_of : (bytes rest : List ℕ) → netstring_text bytes ++ rest ≡ bytes_before bytes rest
text_of bytes rest =
    append_assoc (decimal (length bytes)) (58 ∷ (bytes ++ 44 ∷ [])) rest
    ∙ ap (λ text. decimal (length bytes) ++ 58 ∷ text) (append_assoc bytes (44 ∷ []) rest)

pub bytes-read : (bytes rest : List ℕ) → length bytes < 2 ^ 64 → bytes_of_front (bytes_before bytes rest) ≡ Some (bytes, rest)
unfolding bytes_of_front
bytes-read bytes rest small = ap netstring_of (sym (text_of bytes rest)) ∙ netstring_of-text bytes rest small

pub bytes-written : (text bytes rest : List ℕ) → bytes_of_front text ≡ Some (bytes, rest) → bytes_before bytes rest ≡ text
unfolding bytes_of_front
bytes-written text bytes rest e = sym (text_of bytes rest) ∙ netstring_of-some text bytes rest e

module _ {A B : Type 0} where
  -- what was read first where something was read behind it
  pub record ReadBoth (first : Option (A × List ℕ)) (next : A → List ℕ → Option (B × List ℕ)) (b : B) (rest : List ℕ) : Type 0 where
    pub a : A
    pub mid : List ℕ
    pub first_is : first ≡ Some (a, mid)
    pub next_is : next a mid ≡ Some (b, rest)

  pub read_both : (first : Option (A × List ℕ)) (next : A → List ℕ → Option (B × List ℕ)) (b : B) (rest : List ℕ) → and_read first next ≡ Some (b, rest) → ReadBoth first next b rest
  unfolding and_read
  read_both None next b rest e = absurd (cc)
  read_both (Some found) next b rest e = record { a = found.0; mid = found.1; first_is = refl; next_is = e }

  pub read_then : (first : Option (A × List ℕ)) (next : A → List ℕ → Option (B × List ℕ)) (a : A) (mid : List ℕ) (found : Option (B × List ℕ)) → first ≡ Some (a, mid) → next a mid ≡ found → and_read first next ≡ found
  unfolding and_read
  read_then first next a mid found is e = rw is e

  pub read_none : (first : Option (A × List ℕ)) (next : A → List ℕ → Option (B × List ℕ)) → first ≡ None → and_read first next ≡ None
  unfolding and_read
  read_none first next is = rw is refl

  -- where what is read behind it is a call's answer
  pub then_ok : {E : Type 0} (r : Result B E) (first : Option (A × List ℕ)) (next : A → List ℕ → Option (B × List ℕ)) (a : A) (mid rest : List ℕ) → first ≡ Some (a, mid)
      → IfOk r (λ b. next a mid ≡ Some (b, rest)) → IfOk r (λ b. and_read first next ≡ Some (b, rest))
  then_ok (Ok b) first next a mid rest is e = read_then first next a mid (Some (b, rest)) is e
  then_ok (Err fault) first next a mid rest is e = tt

-- what `search` needs to follow a reader
pub ruleset reading = (read_then, read_none)
