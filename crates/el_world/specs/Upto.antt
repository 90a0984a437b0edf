-- What a plan may give, and plans that are the same up to a number of units. Only the code's contracts need it.
use Rattle.std.specs.Prelude.{◌≡◌, ℕ, ◌≤◌, List}
use Rattle.el_world.specs.Calls.{AnswerOf, Found}
use Rattle.el_world.specs.Plans.{Plan, gives, ends, takes, calls, made}

module _ {E A : Type 0} where
  -- `P` of each result that the plan may give
  abbrev pub AllGiven : (A → Type 0) → Plan E A → Type 0
  AllGiven P (gives a) = P a
  AllGiven P (ends end) = Unit {0}
  AllGiven P (takes end plan) = AllGiven P plan
  AllGiven P (calls call after) = (answer : AnswerOf call) → AllGiven P (after answer)

  -- two plans make the same with at most so many units
  pub record SameUpto (units : ℕ) (one other : Plan E A) : Type 0 where
    pub same : (u : ℕ) → u ≤ units → (found : List Found) → made one u found ≡ made other u found
