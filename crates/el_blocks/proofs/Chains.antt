-- What chains over the words of a list give.
use Rattle.std.proofs.Common.{◌≡◌, ℕ, List, ap, length, take}
use Rattle.std.specs.Iterator.Adapters.{take_source, take_count, take_steps}
use Rattle.std.specs.declared.iter.Take.{Take}
use Rattle.std.proofs.lemmas.Iterator.{YieldsList, YieldsList-from_take}
use Rattle.std.proofs.lemmas.Iterator.Consumers.{YieldsList-from_shown, YieldsList-at}
use Rattle.el_words.specs.Word.{YieldsFirstWord}

pub all-words : {left : List (List ℕ)} (words : List (List ℕ)) → left ≡ words → YieldsList YieldsFirstWord (λ text. text.now) left words
all-words words is = YieldsList-at is (YieldsList-from_shown YieldsFirstWord (λ text. text.now) (λ rest. rest) (λ old new step. ap length step.0.0) (λ old text new step. step.0) words)

pub first-words : {taken : Take (List (List ℕ))} (count : ℕ) (words : List (List ℕ)) → take_source taken ≡ words → take_count taken ≡ count
    → YieldsList (take_steps YieldsFirstWord) (λ text. text.now) taken (take count words)
first-words count words is is_count = YieldsList-from_take count (all-words words is) is_count
