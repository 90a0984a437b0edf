-- Calls and children of words that are started alike.
use Rattle.el_room.proofs.Vocabulary.{Vars, Fault, Handle, start_act, write_act, and_go_on, State, Started, Empty, Running, Trouble, first_word, starting, unstarted_code, unstarted, running, child_with, child, message, written_to, complaint, refused, held_in, streams_of}
use Rattle.std.proofs.Common.{ℕ, List, [], ◌∷◌, Option, Some, None, Result, Ok, Err}
use Rattle.el_proc.specs.declared.child.Started.TheVariants.{NotFound, NotStartable}
use Rattle.el_proc.specs.declared.trouble.Trouble.TheVariants.{NotFound as CommandNotFound, NotStartable as CommandNotStartable}
use Rattle.el_proc.specs.Children.{after_start}
use Rattle.el_upgrade.proofs.Tasks.{TasksAlike, alike-same, alike-start, alike-write, alike-act, ActsAlike, acts-same, acts-do}
use Rattle.el_upgrade.proofs.Words.{NamesAlike, message-alike, HeadsAlike, WordsAlike, first-alike}

-- ---- messages

write-alike : {one other : List ℕ} (handle : Handle) (trouble : Trouble) → NamesAlike one other → ActsAlike (write_act handle (message one trouble)) (write_act handle (message other trouble))
unfolding write_act and_go_on
write-alike {one} {other} handle trouble h = record { tasks = alike-write (λ answer. message-alike one other trouble handle answer h) (λ answer. alike-same) }

pub complaint-alike : {one other : List ℕ} (fds : List (Option Handle)) (trouble : Trouble) → NamesAlike one other → ActsAlike (complaint fds one trouble) (complaint fds other trouble)
unfolding complaint
complaint-alike {one} {other} fds trouble h = by (held_in fds 2)
  where
    by : (holds : Option Handle) → ActsAlike (written_to holds (message one trouble)) (written_to holds (message other trouble))
    by None = acts-same
    by (Some handle) = acts-do (write-alike handle trouble h) (λ _. acts-same)

pub refused-alike : {A : Type 0} {one other : List ℕ} (state : State) (trouble : Trouble) → NamesAlike one other → TasksAlike {A = A} (refused state one trouble) (refused state other trouble)
unfolding refused
refused-alike state trouble h = alike-act (complaint-alike state.fds trouble h) (λ _. alike-same)

-- ---- starts

start-alike : {one other : List (List ℕ)} (env : Vars) (dir : List ℕ) (streams : List (Option Handle)) → WordsAlike one other → ActsAlike (start_act one env dir streams) (start_act other env dir streams)
unfolding start_act and_go_on
start-alike env dir streams h = record { tasks = alike-start (h.starts env dir streams) (λ answer. alike-same) }

pub starting-alike : {one other : List (List ℕ)} (env : Vars) (dir : List ℕ) (streams : List (Option Handle)) → WordsAlike one other → ActsAlike (starting one env dir streams) (starting other env dir streams)
unfolding starting
starting-alike {one} {other} env dir streams h = by one other h h.heads
  where
    by : (one other : List (List ℕ)) → WordsAlike one other → HeadsAlike one other → ActsAlike (starting one env dir streams) (starting other env dir streams)
    by [] [] h heads = acts-same
    by (word ∷ words) (like ∷ others) h heads = acts-do (start-alike env dir streams h) (λ answer. acts-same)
    by [] (like ∷ others) h heads = absurd heads
    by (word ∷ words) [] h heads = absurd heads

-- what doesn't run is complained of under its own name
pub unstarted-code : {one other : List (List ℕ)} (fds : List (Option Handle)) (started : Started) → WordsAlike one other → ActsAlike (unstarted_code fds (first_word one) started) (unstarted_code fds (first_word other) started)
unfolding unstarted_code
unstarted-code {one} {other} fds Empty h = acts-same
unstarted-code {one} {other} fds (Running pid) h = acts-same
unstarted-code {one} {other} fds NotFound h = acts-do (complaint-alike fds CommandNotFound (first-alike one other h.heads)) (λ _. acts-same)
unstarted-code {one} {other} fds NotStartable h = acts-do (complaint-alike fds CommandNotStartable (first-alike one other h.heads)) (λ _. acts-same)

-- ---- children that are waited for

module _ (fds : List (Option Handle)) (name : List ℕ) {one other : List ℕ} where
  unstarted-alike : (trouble : Trouble) → NamesAlike one other → ActsAlike (unstarted fds one trouble) (unstarted fds other trouble)
  unfolding unstarted
  unstarted-alike trouble h = acts-do (complaint-alike fds trouble h) (λ _. acts-same)

  after-alike : (answer : Result Started Fault) → NamesAlike one other → ActsAlike (after_start fds name one answer) (after_start fds name other answer)
  after-alike (Ok Empty) h = acts-same
  after-alike (Ok (Running pid)) h = acts-same
  after-alike (Ok NotFound) h = unstarted-alike CommandNotFound h
  after-alike (Ok NotStartable) h = unstarted-alike CommandNotStartable h
  after-alike (Err fault) h = acts-same

running-alike : {one other : List (List ℕ)} (state : State) (name : List ℕ) (env : Vars) (streams : List (Option Handle)) → WordsAlike one other → ActsAlike (running state name one env streams) (running state name other env streams)
unfolding running
running-alike {one} {other} state name env streams h = acts-do (starting-alike env state.dir streams h) (λ answer. after-alike state.fds name answer (first-alike one other h.heads))

pub child-alike : {one other : List (List ℕ)} (state : State) (name : List ℕ) → WordsAlike one other → TasksAlike (child state name one) (child state name other)
unfolding child_with
child-alike state name h = alike-act (running-alike state name state.env (streams_of state) h) (λ answer. alike-same)
