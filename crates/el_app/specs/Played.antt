-- A plan played in a world in memory in which all goes well.
use Rattle.el_room.specs.Vocabulary.{Event, Exited, Call, AnswerOf, event_of, start, wait, open_file, pipe, feed, read, write, close, enter, Plan, gives, ends, takes, calls, Outcome, given, ended}
use Rattle.std.specs.Prelude.{ℕ, ◌+◌, List, [], ◌∷◌, Ok}
use Rattle.el_app.specs.declared.tallies.Numbers.{Numbers}

-- the first process is 100, and the first handle is 3, since a process has 0 to 2 of its own
abbrev pub first_numbers : Numbers
first_numbers = record { process = 100; handle = 3 }

-- what a call answers: the next process, an end with status 0, the next handle or the next two, the end of input, a whole write, the path
-- itself
abbrev pub plain_answer : (call : Call) → Numbers → AnswerOf call
plain_answer (start words env dir streams) numbers = Ok (record { number = numbers.process })
plain_answer (wait pid) numbers = Ok (Exited 0)
plain_answer (open_file dir path mode) numbers = Ok (record { number = numbers.handle })
plain_answer pipe numbers = Ok (record { reader = record { number = numbers.handle }; writer = record { number = numbers.handle + 1 } })
plain_answer (feed bytes) numbers = Ok (record { number = numbers.handle })
plain_answer (read handle) numbers = Ok []
plain_answer (write handle bytes) numbers = Ok tt
plain_answer (close handle) numbers = tt
plain_answer (enter dir path) numbers = Ok path

-- the next numbers behind a call, whose answer took its own
abbrev pub numbers_after : Call → Numbers → Numbers
numbers_after (start words env dir streams) numbers = record numbers { process = numbers.process + 1 }
numbers_after (open_file dir path mode) numbers = record numbers { handle = numbers.handle + 1 }
numbers_after pipe numbers = record numbers { handle = numbers.handle + 2 }
numbers_after (feed bytes) numbers = record numbers { handle = numbers.handle + 1 }
numbers_after call numbers = numbers

-- what comes of it: the events, how the plan comes out, and how many units it took
pub record Played (E A : Type 0) : Type 0 where
  pub events : List Event
  pub outcome : Outcome E A
  pub units : ℕ

module _ {E A : Type 0} where
  -- one event before the rest
  abbrev pub behind_event : Event → Played E A → Played E A
  behind_event event rest = record rest { events = event ∷ rest.events }

  -- one unit before the rest
  abbrev pub behind_unit : Played E A → Played E A
  behind_unit rest = record rest { units = rest.units + 1 }

  -- each call gets its plain answer, and a unit is always there
  unfoldable pub played : Plan E A → Numbers → Played E A
  played (gives a) numbers = record { events = []; outcome = given a; units = 0 }
  played (ends end) numbers = record { events = []; outcome = ended end; units = 0 }
  played (takes end plan) numbers = behind_unit (played plan numbers)
  played (calls call after) numbers = behind_event (event_of call (plain_answer call numbers)) (played (after (plain_answer call numbers)) (numbers_after call numbers))
