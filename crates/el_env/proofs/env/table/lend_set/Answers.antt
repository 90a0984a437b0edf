use Rattle.std.proofs.Common.{ℕ, List, ◌++◌, ap, ◌∙◌, sym, subst, map as mapped}
use Rattle.el_words.specs.Word.{HasNul}
use Rattle.el_env.specs.Entries.{named}
use Rattle.el_env.specs.Variable.{pair_of}
use Rattle.el_env.proofs.Lent.{stored, none_lent, one_lent, all_lent, next_is_set}
use Rattle.el_env.proofs.env.table.lend_set.Goals as goal

abbrev word : List ℕ → Type 0
word bytes = HasNul bytes → ⊥

pub loop-name-init : goal.loop-name-init
loop-name-init c = none_lent _ _

pub invariant_of-push : goal.invariant_of-push
invariant_of-push c =
    let entries = c.into_iter-name-iterator.ensures.into_iter_gives ∙ c.iter-name-items.ensures.rest in
    record {
      name_is_word = subst word (sym c.deref.ensures.value)
          (c.requires c.in-Some.name.now.items (next_is_set _ _ _ _ _ _ _ _ c.in-Some.ensures.steps (ap stored entries) c.loop-name.invariant)).no_nul;
      value_is_word = subst word (sym c.as_bytes.ensures.same) c.as_bytes.ensures.no_nul;
    }

pub loop-name-preserved : goal.loop-name-preserved
loop-name-preserved c =
    one_lent _ _ _ _ _ _ _ _ _ c.in-Some.ensures.steps c.in_ok-push.ensures.items (λ i. (c.deref.ensures.value i, c.as_bytes.ensures.same i)) c.loop-name.invariant

pub returns : goal.returns
returns c =
    let entries = c.into_iter-name-iterator.ensures.into_iter_gives ∙ c.iter-name-items.ensures.rest in
    all_lent _ _ _ _ c.in-None.ensures.steps.0 c.loop-name.invariant ∙ ap (λ es. mapped pair_of c.args.variables.now.items ++ named es) entries
