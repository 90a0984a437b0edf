-- Which words a program starts other processes with.
use Rattle.el_room.specs.Vocabulary.{Prog, Ifte, Loopwhilex, Forx, Forstdin, Forbacktickx, Event, Start, Nth, Read, block_at}
use Rattle.std.specs.Prelude.{◌≡◌, ◌≢◌, ◌⊎◌, ℕ, true, List, [], ◌∷◌}
use Rattle.el_loops.specs.Turns.{turn_words}
use Rattle.el_machine.specs.Ways.{have_trees_alone}
use Rattle.el_options.specs.Shapes.{shape_of}

-- a program with blocks of programs starts one of these
pub record StartsBlock (program : Prog) (read : Read) (words : List (List ℕ)) : Type 0 where
  pub trees : have_trees_alone (shape_of program).places ≡ true
  pub nth : Nth
  pub is : words ≡ block_at nth read

-- ifte and loopwhilex start their rest, and the other loops a turn of it for a value
abbrev pub StartsRest : Prog → Read → (words : List (List ℕ)) → Type 0
StartsRest Ifte read words = words ≡ read.rest
StartsRest Loopwhilex read words = words ≡ read.rest
StartsRest Forx read words = (value : List ℕ) × (words ≡ turn_words read value)
StartsRest Forstdin read words = (value : List ℕ) × (words ≡ turn_words read value)
StartsRest Forbacktickx read words = (value : List ℕ) × (words ≡ turn_words read value)
StartsRest _ read words = ⊥

-- by what it read, a program starts no process with other words, and none without words
pub record StartsWith (program : Prog) (read : Read) (words : List (List ℕ)) : Type 0 where
  pub some : words ≢ []
  pub which : StartsBlock program read words ⊎ StartsRest program read words

-- ---- events

-- an event that is a start has such words
abbrev pub IsStart : ((words : List (List ℕ)) → Type 0) → Event → Type 0
IsStart may (Start words env dir ends answer) = may words
IsStart may _ = Unit {0}

-- and so has each start among these events
abbrev pub StartsAre : ((words : List (List ℕ)) → Type 0) → List Event → Type 0
StartsAre may [] = Unit {0}
StartsAre may (event ∷ events) = IsStart may event × StartsAre may events
