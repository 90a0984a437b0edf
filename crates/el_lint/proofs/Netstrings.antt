-- Values that are netstrings.
use Rattle.el_room.proofs.Vocabulary.{How, listed_rules, words_by, transformed-listed}
use Rattle.std.proofs.Common.{◌≡◌, ℕ, true, false, List, [], Ok, Err, sym, ap, ◌∙◌}
use Rattle.std.specs.Prelude.{is_ok}
use Rattle.std.specs.FinSet as set
use Rattle.el_transform.specs.Computed.{transformed}

module _ (how : How) (value text : List ℕ) (crunch : how.crunch ≡ false) (chomp : how.chomp ≡ false) (split : how.split ≡ true) (delims : how.delims ≡ set.from_list []) (same : value ≡ text) where
  made : transformed how value ≡ words_by (listed_rules false false true []) text
  made =
      transformed-listed how [] value delims
      ∙ ap (λ crunch. words_by (listed_rules crunch how.chomp how.split []) value) crunch
      ∙ ap (λ chomp. words_by (listed_rules false chomp how.split []) value) chomp
      ∙ ap (λ split. words_by (listed_rules false false split []) value) split
      ∙ ap (words_by (listed_rules false false true [])) same

  pub are-netstrings : (words : List (List ℕ)) → transformed how value ≡ Ok words → true ≡ is_ok (words_by (listed_rules false false true []) text)
  are-netstrings words is = sym (ap is_ok (sym made ∙ is))

  pub are-none : (place : ℕ) → transformed how value ≡ Err place → false ≡ is_ok (words_by (listed_rules false false true []) text)
  are-none place is = sym (ap is_ok (sym made ∙ is))

pub ruleset netstrings = (are-netstrings, are-none)
