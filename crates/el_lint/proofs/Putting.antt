-- Parts of a text, put one behind the other.
use Rattle.std.proofs.Common.{◌≡◌, ℕ, List, ◌++◌, ap, ◌∙◌, append_assoc}

-- one part more is put behind
pub put-more : (old mid new some more : List ℕ) → mid ≡ old ++ some → new ≡ mid ++ more → new ≡ old ++ (some ++ more)
put-more old mid new some more before put = put ∙ ap (λ (text : List ℕ). text ++ more) before ∙ append_assoc old some more
