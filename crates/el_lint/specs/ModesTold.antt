-- Calls, as the code tells of them. Only the code's contracts need it.
use Rattle.el_room.specs.Vocabulary.{Opt, Options, positionals_rule, Trouble}
use Rattle.std.specs.Prelude.{ℕ, List, drop, Result, Ok, Err}
use Rattle.el_lint.specs.declared.mode.Asked.{Asked}
use Rattle.el_lint.specs.declared.mode.Called.{Called}
use Rattle.el_lint.specs.Modes.{Call}

-- options with these letters, of which those of a group exclude each other
abbrev pub options_of : (groups : List (List ℕ)) → List Opt → Options
options_of groups opts = record { letters = opts; groups = groups; rule = positionals_rule }

-- the words behind those that were read
abbrev pub called_told : (words : List (List ℕ)) → Result Called Trouble → Result Call Trouble
called_told words (Ok called) = Ok (record { mode = called.mode; rest = drop called.used words })
called_told words (Err trouble) = Err trouble

-- what is asked for
abbrev pub asked_told : Result Asked Trouble → Result Call Trouble
asked_told (Ok asked) = Ok (record { mode = asked.mode; rest = asked.files })
asked_told (Err trouble) = Err trouble
