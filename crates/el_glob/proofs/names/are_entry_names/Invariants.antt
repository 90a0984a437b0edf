use Rattle.std.proofs.Common.{◌≡◌, ◌≤◌, ℕ, List, true, drop, length}
use Rattle.std.specs.Borrow.{Bor}
use Rattle.std.specs.Str.{bytes_eq}
use Rattle.std.specs.HashSet.{contains}
use Rattle.el_glob.specs.Names.{is_among, are_entry_names}
use Rattle.el_glob.proofs.names.are_entry_names.Given as goal

-- the names from here on are good, and they are those that were seen
abbrev pub invariant-loop-place : goal.invariant-loop-place
invariant-loop-place l = (l.place ≤ length l.names) × (are_entry_names (drop l.place l.names) ≡ true) × ((bytes : Bor (List ℕ)) → contains (λ one other. bytes_eq one.now other.now) l.seen bytes ≡ is_among (drop l.place l.names) bytes.now)
