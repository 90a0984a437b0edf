-- What a text says as a pattern.
use Rattle.std.specs.Prelude.{◌≡◌, ◌==◌, nat_lt, Bool, true, false, ℕ, List, [], ◌∷◌, length, Option, Some, None, Result, Ok, Err, if◌then◌else◌}
use Rattle.std.specs.List.{slice_split}
use Rattle.std.specs.Str.{bytes_eq}
use Rattle.el_glob.specs.declared.piece.Piece.{Piece}
use Rattle.el_glob.specs.declared.part.Part.{Part}
use Rattle.el_glob.specs.declared.part.Part.TheVariants.{Dot, DotDot, Names}
use Rattle.el_glob.specs.declared.pattern.TheConstants.{MAX_PATTERN}
use Rattle.el_glob.specs.declared.fault.PatternFault.{PatternFault}
use Rattle.el_glob.specs.declared.fault.PatternFault.TheVariants.{Bad, NoMemory}
use Rattle.el_glob.specs.Reading.{pieces_of}
use Rattle.el_glob.specs.Written.{Written}

-- the part that pieces are
abbrev pub as_names : Option (List Piece) → Option Part
as_names None = None
as_names (Some pieces) = Some (Names pieces)

-- the part that a text between two `/` writes: no empty text, `.` (46) and `..` themselves, and else pieces
abbrev pub part_of : List ℕ → Option Part
part_of text =
    if length text == 0 then None
    else (if bytes_eq text (46 ∷ []) then Some Dot
    else (if bytes_eq text (46 ∷ 46 ∷ []) then Some DotDot
    else as_names (pieces_of text)))

-- one part in front
abbrev pub with_part : Option Part → Option (List Part) → Option (List Part)
with_part None more = None
with_part (Some part) None = None
with_part (Some part) (Some parts) = Some (part ∷ parts)

-- the parts that texts write
abbrev pub parts_of : List (List ℕ) → Option (List Part)
parts_of [] = Some []
parts_of (text ∷ texts) = with_part (part_of text) (parts_of texts)

-- parts behind a leading `/` (47), or none
abbrev pub as_pattern : (rooted : Bool) → Option (List Part) → Option Written
as_pattern rooted None = None
as_pattern rooted (Some parts) = Some (record { rooted = rooted; parts = parts })

-- the parts between the `/` of a text
abbrev pub split_parts : List ℕ → Option (List Part)
split_parts text = parts_of (slice_split (λ byte. byte == 47) text)

-- a leading `/` is no part
abbrev pub read_pattern : List ℕ → Option Written
read_pattern [] = None
read_pattern (byte ∷ bytes) = if byte == 47 then as_pattern true (split_parts bytes) else as_pattern false (split_parts (byte ∷ bytes))

-- the pattern that a text of 1 to 4,096 bytes writes
abbrev pub pattern_of : List ℕ → Option Written
pattern_of text = if nat_lt MAX_PATTERN (length text) then None else read_pattern text

-- a fault that is right; want of memory may come at any text
abbrev pub IsFaultOf : {A : Type 0} → Option A → PatternFault → Type 0
IsFaultOf answer Bad = answer ≡ None
IsFaultOf answer NoMemory = Unit {0}

-- the same of a result
abbrev pub IsRefusal : {A B : Type 0} → Option A → Result B PatternFault → Type 0
IsRefusal answer (Ok value) = Unit {0}
IsRefusal answer (Err Bad) = answer ≡ None
IsRefusal answer (Err NoMemory) = Unit {0}
