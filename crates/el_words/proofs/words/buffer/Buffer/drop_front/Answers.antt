use Rattle.std.proofs.Common.{◌-◌, ◌+◌, arith, drop, List, ℕ, subst}
use Rattle.std.proofs.lemmas.List.{drop-drop}
use Rattle.el_words.specs.Words.{slices}
use Rattle.el_words.specs.Plain.{ArePlain}
use Rattle.el_words.proofs.Slices.{length-value}
use Rattle.el_words.proofs.Plain.{plain-dropped}
use Rattle.el_words.proofs.words.buffer.Buffer.drop_front.Goals as goal

pub overflow_add-self : goal.overflow_add-self
overflow_add-self c = omega (arith, c.requires, length-value _ _ _ c.self.invariant.0 _ c.self.view_is)

pub invariant_of-self : goal.invariant_of-self
invariant_of-self c =
    let words = slices c.self.inside.bytes.items 0 c.self.inside.ends.items in (
      record {
        whole = c.self.invariant.0.whole;
        no_nul = c.self.invariant.0.no_nul;
        among = omega (arith, c.requires, length-value _ _ _ c.self.invariant.0 _ c.self.view_is);
      },
      let P : List (List ℕ) → Type 0 = λ left. ArePlain left (c.self.inside.plain - (c.self.inside.first + c.args.count)) in
          subst P (drop-drop c.args.count c.self.inside.first words) (plain-dropped (drop c.self.inside.first words) c.self.inside.first c.self.inside.plain c.args.count c.self.invariant.1),
    )
