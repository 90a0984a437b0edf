use Rattle.std.proofs.Common.{◌≡◌, ◌∙◌, sym, ap, ℕ, ◌-◌, ◌<◌, false, List, ◌∷◌, [], drop, length, arith}
use Rattle.std.specs.Borrow.{Bor}
use Rattle.std.specs.List.{list_any}
use Rattle.std.specs.Str.{bytes_eq}
use Rattle.std.proofs.Math.ListN.{drop_of_length-le}
use Rattle.std.proofs.lemmas.Bool.{not-true, not-false}
use Rattle.el_glob.specs.Names.{is_among, are_entry_names}
use Rattle.el_glob.proofs.NamesSeen.{here_names, more_seen, seen_more, not_entry, seen_already, bad_later}
use Rattle.el_glob.proofs.names.are_entry_names.Goals as goal
use Rattle.el_glob.proofs.names.are_entry_names.Goals.{then-not-is_entry_name-via-then-not-is_entry_name, then-not-is_entry_name-via-else-not-is_entry_name+in_ok-insert+then-not-branch}

pub loop-place-init : goal.loop-place-init
loop-place-init c =
    let end : drop c.len-place.result c.args.names.now ≡ [] = drop_of_length-le c.args.names.now (omega (arith, c.len-place.ensures.count)) in (
      omega (arith, c.len-place.ensures.count),
      ap are_entry_names end,
      λ bytes. ap (list_any (λ (other : Bor (List ℕ)). bytes_eq bytes.now other.now)) c.in_ok-seen.ensures.empty ∙ sym (ap (λ (names : List (List ℕ)). is_among names bytes.now) end),
    )

pub loop-place-preserved : goal.loop-place-preserved
loop-place-preserved c =
    let place = c.loop-place.place in
    let some : 0 < place = omega (arith, c.loop-place-test.true) in
    let within = c.loop-place.invariant.0 in
    let lt : place - 1 < length c.args.names.now = omega (arith, some, within) in
    let rest = drop place c.args.names.now in
    let whole = here_names c.args.names.now place c.at-name.result.now some lt c.at-name.ensures.same in
    let fresh : is_among rest c.at-name.result.now ≡ false = sym (c.loop-place.invariant.2 c.at-name.result) ∙ not-true _ (sym c.in_ok-insert.ensures.added ∙ c.if-not-branch.false) in
    let good = seen_more c.at-name.result.now rest (sym c.is_entry_name.ensures ∙ c.if-not-is_entry_name.false) fresh c.loop-place.invariant.1 in (
      omega (arith, lt),
      ap are_entry_names whole ∙ good,
      λ bytes. more_seen c.at-name.result.now bytes.now rest _ _ (c.in_ok-insert.ensures.updates.0 bytes) (c.loop-place.invariant.2 bytes) ∙ sym (ap (λ (names : List (List ℕ)). is_among names bytes.now) whole),
    )

pub returns-then-not-is_entry_name : goal.returns-then-not-is_entry_name
returns-then-not-is_entry_name c =
    let place = c.loop-place.place in
    let some : 0 < place = omega (arith, c.loop-place-test.true) in
    let within = c.loop-place.invariant.0 in
    let lt : place - 1 < length c.args.names.now = omega (arith, some, within) in
    let rest = drop place c.args.names.now in
    let whole = here_names c.args.names.now place c.at-name.result.now some lt c.at-name.ensures.same in
    let bad : false ≡ are_entry_names (c.at-name.result.now ∷ rest) = elim c.then-not-is_entry_name.branch [
      | then-not-is_entry_name-via-then-not-is_entry_name w ↦ not_entry c.at-name.result.now rest (sym c.is_entry_name.ensures ∙ w.if-not-is_entry_name.true)
      | then-not-is_entry_name-via-else-not-is_entry_name+in_ok-insert+then-not-branch w ↦ seen_already c.at-name.result.now rest (sym (c.loop-place.invariant.2 c.at-name.result) ∙ not-false _ (sym w.in_ok-insert.ensures.added ∙ w.if-not-branch.true))
    ] in
    bad_later c.args.names.now (place - 1) (bad ∙ sym (ap are_entry_names whole))

pub returns : goal.returns
returns c =
    let none : c.loop-place.place ≡ 0 = omega (arith, c.loop-place-test.false) in
    sym (ap (λ n. are_entry_names (drop n c.args.names.now)) (sym none) ∙ c.loop-place.invariant.1)
