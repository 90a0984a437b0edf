-- How texts are shown, by their length.
use Rattle.std.proofs.Common.{◌≡◌, ℕ, ◌<◌, ◌≤◌, Bool, List, [], ◌∷◌, ◌++◌, length, take, Option, Some, None, refl, ap, ◌∙◌, arith}
use Rattle.std.specs.Prelude.{nat_lt, codes, if◌then◌else◌}
use Rattle.std.proofs.lemmas.List.{take_all, append-nil}
use Rattle.std.proofs.lemmas.Bool.{le-ltb, lt-ltb}
use Rattle.el_real.specs.Shown.{plain, cut, shown}
use Rattle.el_real.specs.Unstartable.{in_path_line, no_path_line, searched_line}

-- a text that isn't empty is shown by its first bytes
pub shown-some : (text : List ℕ) → 0 < length text → shown text ≡ cut text
shown-some [] some = absurd (omega (arith, some))
shown-some (byte ∷ bytes) some = refl

pub ruleset shown_texts = (shown-some)

-- what stands for the bytes that aren't shown
abbrev dots : Bool → List ℕ
dots b = if b then codes ".." else []

-- a short text is shown whole
pub cut-short : (text : List ℕ) → length text ≤ 400 → cut text ≡ plain text
cut-short text few =
    ap (λ front. plain front ++ dots (nat_lt 400 (length text))) (take_all 400 text few)
    ∙ ap (λ b. plain text ++ dots b) (le-ltb 400 (length text) few)
    ∙ append-nil (plain text)

-- of a longer one the first bytes are shown
pub cut-long : (text : List ℕ) → 400 < length text → cut text ≡ plain (take 400 text) ++ codes ".."
cut-long text many = ap (λ b. plain (take 400 text) ++ dots b) (lt-ltb 400 (length text) many)

pub ruleset cuts = (cut-short, cut-long)

-- ---- a name that isn't in `PATH`

-- a name that isn't empty is looked for in the folders of `PATH`
pub searched-in : (path program : List ℕ) → 0 < length program → searched_line (Some path) program ≡ in_path_line path program
searched-in path [] some = absurd (omega (arith, some))
searched-in path (byte ∷ bytes) some = refl

-- or in those that stand for it
pub searched-no : (program : List ℕ) → 0 < length program → searched_line None program ≡ no_path_line program
searched-no [] some = absurd (omega (arith, some))
searched-no (byte ∷ bytes) some = refl

pub ruleset searched_names = (searched-in, searched-no)
