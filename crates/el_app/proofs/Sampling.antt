-- The lines of a sample, one after the other.
use Rattle.el_room.proofs.Vocabulary.{decimal, flat_map, range_with_len}
use Rattle.std.proofs.Common.{◌≡◌, ℕ, ◌+◌, ◌-◌, [], ◌++◌, map, codes, refl, sym, ap, ◌∙◌, append_assoc, arith}
use Rattle.std.proofs.lemmas.List.{flat_map_more}
use Rattle.std.proofs.lemmas.List.Folds.{flat_map-map}
use Rattle.std.proofs.lemmas.List.FromFn.{map-range_with_len_more}
use Rattle.el_app.specs.Sample.{define_line, foreground_line, sample_line}

-- behind n lines comes line n + 1
pub lines_more : (n : ℕ) → flat_map sample_line (range_with_len 1 n) ++ sample_line (n + 1) ≡ flat_map sample_line (range_with_len 1 (n + 1))
lines_more n =
    let same : ℕ → ℕ = λ i. i in
    let e : 1 + n ≡ n + 1 = omega arith in
    ap (λ text. text ++ sample_line (n + 1)) (sym (flat_map-map sample_line same (range_with_len 1 n)))
    ∙ flat_map_more sample_line [] (map same (range_with_len 1 n)) (n + 1)
    ∙ ap (flat_map sample_line) (sym (map-range_with_len_more same 1 n (n + 1) e))
    ∙ flat_map-map sample_line same (range_with_len 1 (n + 1))

-- as the text of a line is put together
pub define_is : (i : ℕ) → codes "define V" ++ (decimal i ++ (codes " x" ++ (decimal i ++ codes "\n"))) ≡ define_line i
unfolding define_line
define_is i = simp append_assoc refl

pub foreground_is : (i : ℕ) → codes "foreground { echo a $V" ++ (decimal (i - 1) ++ codes " }\n") ≡ foreground_line i
unfolding foreground_line
foreground_is i = simp append_assoc refl
