-- Worked scripts: their trees, and what these mean.
use Rattle.el_room.specs.Vocabulary.{Importas, Import, Redirfd, Fdmove, Foreground, Forx, Backtick, nothing, word, group, Vars, positional_pairs, Scope, Event, Start, Wait, Opened, Pipe, Write, Close, Exited, Handle, Append, Pid, found_in, and_then, Outcome, given, ended, starved, made, State, End, Task, standard_fds, Left}
use Rattle.el_script.specs.Vocabulary.{Tree, Command, Node, unplaced, one_place, text_place, block_place, values_place, Member, positional_member}
use Rattle.std.specs.Prelude.{◌≡◌, ℕ, List, [], ◌∷◌, Option, Some, Ok, codes}
use Rattle.std.specs.FinMap as finite
use Rattle.el_world.specs.declared.event.Event.TheVariants.{Read}
use Rattle.el_world.specs.States as end

-- ---- how a row is stated

-- how it ends: with a status, spent, starved, or with words that are handed on
pub data RowEnd : Type 0 where
  Ends : (code : ℕ) → RowEnd
  Spends Starves : RowEnd
  Hands : (words : List (List ℕ)) → RowEnd

-- an outcome as a row tells of it, its state left aside
abbrev pub row_end : Outcome End Left → RowEnd
row_end (given left) = Hands left.words
row_end (ended (end.Status code state)) = Ends code
row_end (ended (end.Spent state)) = Spends
row_end starved = Starves

-- with so many units a task makes these events on their answers, of which none is left over; so it ends, with so many units left
pub record IsMade (task : Task Left) (units : ℕ) (events : List Event) (row : RowEnd) (left : ℕ) : Type 0 where
  pub are_events : (made task units (found_in events)).events ≡ events
  pub is_end : row_end (made task units (found_in events)).outcome ≡ row
  pub is_left : (made task units (found_in events)).units ≡ left
  pub none_left : (made task units (found_in events)).left ≡ []

-- a whole meaning as such a task, which hands nothing on
abbrev pub whole : Task ⊥ → Task Left
whole task = and_then task (λ never. absurd never)

-- the handle with this number
abbrev pub at : ℕ → Handle
at number = record { number = number }

-- the process with this number
abbrev pub pid : ℕ → Pid
pid number = record { number = number }

-- a process with these variables, in the directory `/`, with its own handles and no kids
abbrev pub begun_with : Vars → State
begun_with env = record { env = env; fds = standard_fds; dir = codes "/"; kids = [] }

-- a child that ends with status 0
abbrev pub child_events : (words : List (List ℕ)) → Vars → (streams : List (Option Handle)) → (number : ℕ) → List Event → List Event
child_events words env streams number more = Start words env (codes "/") streams (Ok (pid number)) ∷ Wait (pid number) (Ok (Exited 0)) ∷ more

-- ---- a wrapper, which opens a log, says so, and runs its arguments

-- importas -i HOME HOME redirfd -a 1 ${HOME}/log fdmove -c 2 1 foreground { echo start } $@
abbrev pub wrapper : Tree
wrapper =
    Node Importas (codes "-i" ∷ []) (one_place (text_place (codes "HOME")) (one_place (text_place (codes "HOME")) unplaced))
    (Node Redirfd (codes "-a" ∷ []) (one_place (text_place (codes "1")) (one_place (text_place (codes "${HOME}/log")) unplaced))
    (Node Fdmove (codes "-c" ∷ []) (one_place (text_place (codes "2")) (one_place (text_place (codes "1")) unplaced))
    (Node Foreground [] (one_place (block_place (Command (word (codes "echo") (word (codes "start") nothing)))) unplaced)
    (Command (word (codes "$@") nothing)))))

-- the first scope for some arguments
abbrev pub wrapper_scope : (args : List (List ℕ)) → Scope
wrapper_scope args = positional_pairs (codes "run") args 1 ∷ []

-- the marks of every such scope: those of the positionals
abbrev pub wrapper_members : List Member
wrapper_members = positional_member ∷ []

-- the variables of the wrapper's call: `HOME` alone
abbrev pub home : Vars
home = finite.insert finite.empty (codes "HOME") (codes "/home/u")

-- with what the last child's end tells
abbrev pub told : Vars → Vars
told env = finite.insert env (codes "?") (codes "0")

-- what the wrapper's children find: its input, and the log as output and for messages
abbrev pub log_streams : List (Option Handle)
log_streams = Some (at 0) ∷ Some (at 4) ∷ Some (at 4) ∷ []

-- the calls of the wrapper up to its arguments
abbrev pub wrapper_events : (more : List Event) → List Event
wrapper_events more = Opened (codes "/") (codes "/home/u/log") Append (Ok (at 4)) ∷ child_events (codes "echo" ∷ codes "start" ∷ []) home log_streams 100 more

-- a command as the last one, behind whose start the log is closed
abbrev pub wrapped_events : (words : List (List ℕ)) → Vars → (number : ℕ) → List Event
wrapped_events words env number = Start words env (codes "/") log_streams (Ok (pid number)) ∷ Close (at 4) ∷ Wait (pid number) (Ok (Exited 0)) ∷ []

-- ---- a program from a word that vanishes

-- importas V V $V foreground { a } b
abbrev pub vanishing : Tree
vanishing =
    Node Importas [] (one_place (text_place (codes "V")) (one_place (text_place (codes "V")) unplaced))
    (Command (word (codes "$V") (word (codes "foreground") (group (word (codes "a") nothing) (word (codes "b") nothing)))))

-- what children find at 0 to 2 where nothing is redirected
abbrev pub own_streams : List (Option Handle)
own_streams = Some (at 0) ∷ Some (at 1) ∷ Some (at 2) ∷ []

-- its calls where `V` isn't set: foreground runs `a`, and `b` is the last command
abbrev pub vanishing_events : List Event
vanishing_events = child_events (codes "a" ∷ []) finite.empty own_streams 100 (child_events (codes "b" ∷ []) (told finite.empty) own_streams 101 [])

-- the wrapper as a script
abbrev pub wrapper_text : List ℕ
wrapper_text = codes "#!/bin/execlineb -S1\nimportas -i HOME HOME\nredirfd -a 1 ${HOME}/log\nfdmove -c 2 1\nforeground { echo start }\n$@\n"

-- ---- import

-- import -i V echo $V
abbrev pub importing : Tree
importing = Node Import (codes "-i" ∷ []) (one_place (text_place (codes "V")) unplaced) (Command (word (codes "echo") (word (codes "$V") nothing)))

-- `V` is `x`
abbrev pub x_set : Vars
x_set = finite.insert finite.empty (codes "V") (codes "x")

-- its calls then
abbrev pub imported_events : List Event
imported_events = child_events (codes "echo" ∷ codes "x" ∷ []) x_set own_streams 100 []

-- and where `V` isn't set
abbrev pub unset_events : List Event
unset_events = Write (at 2) (codes "import: variable not set\n") (Ok tt) ∷ []

-- ---- the letter E

-- forx -E v { a b } echo $v
abbrev pub turning : Tree
turning = Node Forx (codes "-E" ∷ []) (one_place (text_place (codes "v")) (one_place (values_place (word (codes "a") (word (codes "b") nothing))) unplaced)) (Command (word (codes "echo") (word (codes "$v") nothing)))

-- no variable is set, once this one was removed
abbrev pub without : (name : List ℕ) → Vars
without name = finite.remove finite.empty name

-- a turn for each value
abbrev pub turning_events : List Event
turning_events =
    child_events (codes "echo" ∷ codes "a" ∷ []) (without (codes "v")) own_streams 100
    (child_events (codes "echo" ∷ codes "b" ∷ []) (without (codes "v")) own_streams 101 [])

-- backtick V { g } echo $V, with these letters
abbrev pub ticking : (letters : List ℕ) → Tree
ticking letters = Node Backtick (letters ∷ []) (one_place (text_place (codes "V")) (one_place (block_place (Command (word (codes "g") nothing))) unplaced)) (Command (word (codes "echo") (word (codes "$V") nothing)))

-- its calls up to the end of the block, which writes `x` and a newline
abbrev pub ticked_events : (code : ℕ) → List Event → List Event
ticked_events code more =
    Pipe (Ok (record { reader = at 3; writer = at 4 })) ∷ Start (codes "g" ∷ []) finite.empty (codes "/") (Some (at 0) ∷ Some (at 4) ∷ Some (at 2) ∷ []) (Ok (pid 100))
    ∷ Close (at 4) ∷ Read (at 3) (Ok (codes "x\n")) ∷ Read (at 3) (Ok []) ∷ Close (at 3) ∷ Wait (pid 100) (Ok (Exited code)) ∷ more

-- the output is put in the rest, and `V` isn't set
abbrev pub put_events : List Event
put_events = ticked_events 0 (child_events (codes "echo" ∷ codes "x" ∷ []) (without (codes "V")) own_streams 101 [])

-- a block that ends with status 1 gives no value under `I`, and there is nothing to put in
abbrev pub refused_events : List Event
refused_events = ticked_events 1 (Write (at 2) (codes "backtick: variable not set\n") (Ok tt) ∷ [])
