-- Handles that are closed: what is held then.
use Rattle.el_room.proofs.Vocabulary.{nat_tests, and-true, Close, Handle, is_held, without, close_act, and_do, closing}
use Rattle.std.proofs.Common.{◌≡◌, Bool, true, false, not, ◌&&◌, ◌||◌, ◌==◌, List, [], ◌∷◌, refl, sym, ap, ◌∙◌, arith}
use Rattle.el_machine.proofs.ExactHandles.{held-filter}
use Rattle.el_machine.proofs.Holds.{Now, Terms, behind, HoldsAct}

-- without these handles
pub record HoldsOthers (handles held after : List Handle) : Type 0 where
  pub others : (x : Handle) → is_held after x ≡ (is_held held x && not (is_held handles x))

-- once one was closed
one_closed : (held after : List Handle) (handle : Handle) (handles : List Handle) → HoldsOthers handles (without held handle) after → HoldsOthers (handle ∷ handles) held after
one_closed held after handle handles h = record {
  others = λ x. h.others x ∙ ap (λ b. b && not (is_held handles x)) (held-filter (λ other. not (other.number == handle.number)) held x)
      ∙ by x (is_held held x) (is_held handles x) (x.number == handle.number) refl (handle.number == x.number) refl;
}
  where
    by : (x : Handle) (a b c : Bool) → (x.number == handle.number) ≡ c → (d : Bool) → (handle.number == x.number) ≡ d → ((a && not c) && not b) ≡ (a && not (d || b))
    by x true b true e true f = refl
    by x true b false e false f = refl
    by x false b c e d f = refl
    by x true b true e false f = absurd (grind (arith, nat_tests))
    by x true b false e true f = absurd (grind (arith, nat_tests))

-- behind closings the others are held, and nothing failed
pub record Closed (handles : List Handle) (before after : Now) : Type 0 where
  pub held : HoldsOthers handles before.held after.held
  pub ok : after.ok ≡ before.ok

pub holds-closing : (terms : Terms) (handles : List Handle) (now : Now) (P : Unit {0} → Now → Type 0) → ((after : Now) → Closed handles now after → P tt after) → HoldsAct terms now (closing handles) P
unfolding closing close_act and_do
holds-closing terms [] now P f = f now (record { held = record { others = λ x. sym (and-true (is_held now.held x)) }; ok = refl })
holds-closing terms (handle ∷ handles) now P f = (
  tt,
  λ answer may. holds-closing terms handles (behind now (Close handle)) P (λ after closed. f after (record { held = one_closed now.held after.held handle handles closed.held; ok = closed.ok })),
)
