use Rattle.std.proofs.Common.{◌≡◌, ℕ, List, [], ◌∷◌, suc, drop, slice_get, refl, ap, ◌∙◌}
use Rattle.el_world.specs.declared.answer.Answer.{Answer}
use Rattle.el_world.specs.Scripted.{Script, due, or_plain}
use Rattle.el_world.proofs.scripted.Scripted.due.Goals as goal

due-drop : (answers : List Answer) (n : ℕ) → or_plain (slice_get answers n) ≡ due (drop n answers)
due-drop [] Prim.Native.Nat.zero = refl
due-drop [] (suc n) = refl
due-drop (answer ∷ answers) Prim.Native.Nat.zero = refl
due-drop (answer ∷ answers) (suc n) = due-drop answers n

pub returns : goal.returns
returns c =
    ap or_plain c.get.ensures ∙ due-drop c.self.inside.answers c.self.inside.taken ∙ ap (λ (s : Script). due s.answers) c.self.view_is
