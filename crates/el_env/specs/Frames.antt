-- Frames of positional variables, pushed and popped.
use Rattle.std.specs.Prelude.{◌≡◌, ℕ, suc, ◌-◌, ◌^◌, true, ◌||◌, not, ◌==◌, List, [], ◌∷◌, ◌++◌, length, drop, map, Option, None, Some, option_map, if◌then◌else◌}
use Rattle.std.specs.List.{take_while, filter_map}
use Rattle.std.specs.Char.{is_ascii_digit}
use Rattle.std.specs.Fmt.{decimal}
use Rattle.std.specs.FinMap as finite
use Rattle.el_words.specs.Number.{number_of}
use Rattle.el_env.specs.Vars.{Vars}

-- a frame name: V at depth 0, or V:n at depth n
pub record Frame : Type 0 where
  pub base : List ℕ
  pub depth : ℕ

-- V at this depth
abbrev pub frame_at : List ℕ → ℕ → Frame
frame_at base depth = record { base = base; depth = depth }

-- V, or V, a colon (58) and the depth in decimal
abbrev pub frame_text : Frame → List ℕ
frame_text frame = elim frame.depth [ Prim.Native.Nat.zero ↦ frame.base | suc n ↦ frame.base ++ 58 ∷ decimal (suc n) ]

-- a depth: a number from 1 that is written without leading zeros (48)
abbrev pub depth_of : List ℕ → Option ℕ
depth_of [] = None
depth_of (digit ∷ digits) = if digit == 48 then None else number_of (digit ∷ digits)

-- what stands behind V: nothing, or a colon and a depth
abbrev pub with_depth : List ℕ → List ℕ → Option Frame
with_depth base [] = Some (record { base = base; depth = 0 })
with_depth base (colon ∷ digits) = option_map (λ n. record { base = base; depth = n }) (depth_of digits)

-- the bytes before the first colon
abbrev pub base_of : List ℕ → List ℕ
base_of name = take_while (λ byte. not (byte == 58)) name

-- the frame that a name is; V begins with `#` (35) or a digit
abbrev pub frame_of : List ℕ → Option Frame
frame_of [] = None
frame_of (byte ∷ bytes) =
    if (byte == 35) || is_ascii_digit byte then with_depth (base_of (byte ∷ bytes)) (drop (length (base_of (byte ∷ bytes))) (byte ∷ bytes)) else None

-- the name one depth further: V:1 for V, and V:n+1 for V:n
abbrev pub deeper : Frame → List ℕ
deeper frame = frame_text (record frame { depth = suc frame.depth })

-- what a push makes of a name; one that is no frame name stays
abbrev pub pushed_name : List ℕ → List ℕ
pushed_name name = elim (frame_of name) [ None ↦ name | Some frame ↦ deeper frame ]

-- each V:n becomes V:n+1 and each V becomes V:1, all at once; other names stay
abbrev pub pushed : Vars → Vars
pushed vars = finite.from_entries (map (λ e. (pushed_name e.0, e.1)) (finite.entries vars))

-- the name one depth less; V has none
abbrev pub shallower : Frame → Option (List ℕ)
shallower frame = elim frame.depth [ Prim.Native.Nat.zero ↦ None | suc n ↦ Some (frame_text (record frame { depth = n })) ]

-- what a pop makes of a name: none where it goes; one that is no frame name stays
abbrev pub popped_name : List ℕ → Option (List ℕ)
popped_name name = elim (frame_of name) [ None ↦ Some name | Some frame ↦ shallower frame ]

-- each V is removed, V:1 becomes V and V:n+1 becomes V:n, all at once; other names stay
abbrev pub popped : Vars → Vars
popped vars = finite.from_entries (filter_map (λ e. option_map (λ name. (name, e.1)) (popped_name e.0)) (finite.entries vars))

-- no frame name is set
abbrev pub HasNoFrames : Vars → Type 0
HasNoFrames vars = (name : List ℕ) → finite.contains_key vars name ≡ true → frame_of name ≡ None

-- a frame name at the greatest depth
pub record IsDeepest (name : List ℕ) : Type 0 where
  pub base : List ℕ
  pub is_frame : frame_of name ≡ Some (frame_at base (2 ^ 64 - 1))

-- a name at the greatest depth is set
pub record IsTooDeep (vars : Vars) : Type 0 where
  pub name : List ℕ
  pub is_deepest : IsDeepest name
  pub is_set : finite.contains_key vars name ≡ true
