-- Words behind spaces.
use Rattle.std.proofs.Common.{◌≡◌, ℕ, zero, suc, List, ◌∷◌, ◌++◌, refl, ap, replicate}
use Rattle.el_words.specs.Args.{indented}

pub indented-spaces : (depth : ℕ) (text : List ℕ) → replicate depth 32 ++ text ≡ indented depth text
indented-spaces zero text = refl
indented-spaces (suc depth) text = ap (λ bytes. 32 ∷ bytes) (indented-spaces depth text)
