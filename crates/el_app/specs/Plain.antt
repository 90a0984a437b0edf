-- The events of a sample's run, each with its plain answer. This file is the code's own: a contract sees what is played.
use Rattle.el_room.specs.Vocabulary.{Event, Start, Wait, Pipe, Close, Exited}
use Rattle.std.specs.Prelude.{◌≡◌, ℕ, ◌+◌, ◌-◌, ◌<◌, List, [], ◌∷◌, Ok, ⊤}
use Rattle.el_app.specs.declared.tallies.Numbers.{Numbers}
use Rattle.el_app.specs.Played.{first_numbers}
use Rattle.el_app.specs.Tallies.{tally_of, tally_line}

-- a sample makes calls of four kinds
abbrev pub IsPlain : Event → Numbers → Type 0
IsPlain (Start words env dir streams answer) numbers = answer ≡ Ok (record { number = numbers.process })
IsPlain (Wait pid answer) numbers = answer ≡ Ok (Exited 0)
IsPlain (Pipe answer) numbers = answer ≡ Ok (record { reader = record { number = numbers.handle }; writer = record { number = numbers.handle + 1 } })
IsPlain (Close handle) numbers = ⊤
IsPlain event numbers = ⊥

-- the next numbers behind an event
abbrev pub numbers_behind : Event → Numbers → Numbers
numbers_behind (Start words env dir streams answer) numbers = record numbers { process = numbers.process + 1 }
numbers_behind (Pipe answer) numbers = record numbers { handle = numbers.handle + 2 }
numbers_behind event numbers = numbers

-- each event in turn is plain
abbrev pub ArePlain : List Event → Numbers → Type 0
ArePlain [] numbers = ⊤
ArePlain (event ∷ events) numbers = IsPlain event numbers × ArePlain events (numbers_behind event numbers)

-- this is the line of a run that ended with a code, left a unit at least, and had these events, which are plain
abbrev pub IsPlayedLine : (code left : ℕ) → List Event → (line : List ℕ) → Type 0
IsPlayedLine code left events line = (0 < left) × ArePlain events first_numbers × (line ≡ tally_line (18446744073709551615 - left) (tally_of events) code)
