-- A child that doesn't run counts as ended with its code.
use Rattle.std.proofs.Common.{◌≡◌, ℕ, List, Option, None, Some, Ok, refl, sym, subst}
use Rattle.el_world.specs.declared.event.Ended.TheVariants.{Exited}
use Rattle.el_world.specs.declared.event.Handle.{Handle}
use Rattle.el_world.specs.World.{Seen}
use Rattle.el_world.specs.Acts.{gives, and_do}
use Rattle.el_world.specs.Runs.{Done}
use Rattle.el_world.proofs.Algebra.{do-assoc}
use Rattle.el_world.proofs.Runs.{done_then, done_short, done_at_once}
use Rattle.el_proc.specs.declared.child.Started.{Started}
use Rattle.el_proc.specs.declared.child.Started.TheVariants.{Empty, Running, NotFound, NotStartable}
use Rattle.el_proc.specs.declared.trouble.Trouble.TheVariants.{NotFound as CommandNotFound, NotStartable as CommandNotStartable}
use Rattle.el_proc.specs.Children.{running_pid, unstarted_code, unstarted, after_start}
use Rattle.el_proc.specs.Troubles.{complaint}

module _ (fds : List (Option Handle)) (name command : List ℕ) where
  is_over : (started : Started) → running_pid started ≡ None → after_start fds name command (Ok started) ≡ and_do (unstarted_code fds command started) (λ code. gives (Ok (Exited code)))
  unfolding unstarted_code unstarted and_do
  is_over Empty none = refl
  is_over (Running pid) none = let no : ⊥ = cc in absurd no
  is_over NotFound none = sym (do-assoc (complaint fds command CommandNotFound) _ _)
  is_over NotStartable none = sym (do-assoc (complaint fds command CommandNotStartable) _ _)

  module _ {old new : Seen} (started : Started) (none : running_pid started ≡ None) where
    pub over : {code : ℕ} → Done old new (unstarted_code fds command started) (Some code) → Done old new (after_start fds name command (Ok started)) (Some (Ok (Exited code)))
    over {code} done = subst (λ act. Done old new act (Some (Ok (Exited code)))) (sym (is_over started none)) (done_then _ done (done_at_once _))

    pub over_short : Done old new (unstarted_code fds command started) None → Done old new (after_start fds name command (Ok started)) None
    over_short done = subst (λ act. Done old new act None) (sym (is_over started none)) (done_short _ done)
