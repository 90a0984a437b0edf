-- The parts of a word: literal bytes and references.
use Rattle.std.specs.Prelude.{ℕ, zero, suc, ◌+◌, Bool, true, false, ◌&&◌, ◌||◌, ◌==◌, nat_le, List, [], ◌∷◌, ◌++◌, take, length, replicate, Option, Some, None, option_map, if◌then◌else◌}
use Rattle.std.specs.List.{take_while, list_any, flat_map}

-- a byte, or a reference: the number of backslashes directly before its `$`, its key, and its text
pub data Part : Type 0 where
  Byte : ℕ → Part
  Reference : (slashes : ℕ) → (key text : List ℕ) → Part

-- an ASCII letter, a digit or `_`
abbrev pub is_name_byte : ℕ → Bool
is_name_byte byte =
    (nat_le 48 byte && nat_le byte 57) || ((nat_le 65 byte && nat_le byte 90) || ((nat_le 97 byte && nat_le byte 122) || (byte == 95)))

-- `#`, `@`, `!`, `?` and `*`
abbrev pub is_special : ℕ → Bool
is_special byte = list_any (λ other. other == byte) (35 ∷ 64 ∷ 33 ∷ 63 ∷ 42 ∷ [])

-- what stands before the first `}` (125), where one comes before any `$` (36)
abbrev pub braced_key : List ℕ → Option (List ℕ)
braced_key [] = None
braced_key (byte ∷ bytes) = if byte == 125 then Some [] else (if byte == 36 then None else option_map (λ key. byte ∷ key) (braced_key bytes))

-- a key, and the number of bytes that a reference with it takes after its `$`
abbrev pub FoundKey : Type 0
FoundKey = Option (List ℕ × ℕ)

-- a key in braces, which take two more bytes; where no `}` ends it there is none
abbrev pub found_braced : Option (List ℕ) → FoundKey
found_braced None = None
found_braced (Some key) = Some (key, length key + 2)

-- a key of name bytes, of which there must be one at least
abbrev pub found_run : List ℕ → FoundKey
found_run [] = None
found_run (byte ∷ key) = Some (byte ∷ key, length (byte ∷ key))

-- a key without braces: a special byte, or all name bytes that follow each other
abbrev pub found_plain : List ℕ → FoundKey
found_plain [] = None
found_plain (byte ∷ bytes) = if is_special byte then Some (byte ∷ [], 1) else found_run (take_while is_name_byte (byte ∷ bytes))

-- The reference that a `$` begins, by what stands after it: `{`, a key and `}`; or the longest run of name bytes; or one
-- special byte. There is none before anything else.
abbrev pub found_after : List ℕ → FoundKey
found_after [] = None
found_after (byte ∷ bytes) = if byte == 123 then found_braced (braced_key bytes) else found_plain (byte ∷ bytes)

-- so many backslashes (92)
abbrev pub slashes : ℕ → List ℕ
slashes n = replicate n 92

-- so many backslashes, as parts of a word
abbrev pub slash_parts : ℕ → List Part
slash_parts n = replicate n (Byte 92)

-- the parts from a byte on: whether it is a backslash, or a `$`, the reference that a `$` there begins, and the backslashes before it
abbrev pub part_at : (is_slash is_dollar : Bool) → FoundKey → (n byte : ℕ) → List ℕ → (ℕ → ℕ → List Part) → List Part
part_at true is_dollar found n byte bytes more = more 0 (suc n)
part_at false false found n byte bytes more = slash_parts n ++ Byte byte ∷ more 0 0
part_at false true None n byte bytes more = slash_parts n ++ Byte byte ∷ more 0 0
part_at false true (Some found) n byte bytes more = Reference n found.0 (byte ∷ take found.1 bytes) ∷ more found.1 0

-- the parts of a word from a place on: `skip` bytes belong to the reference before, and n backslashes stand directly before the place
abbrev pub parts_from : (skip n : ℕ) → List ℕ → List Part
parts_from skip n [] = slash_parts n
parts_from (suc skip) n (byte ∷ bytes) = parts_from skip 0 bytes
parts_from zero n (byte ∷ bytes) = part_at (byte == 92) (byte == 36) (found_after bytes) n byte bytes (λ skip k. parts_from skip k bytes)

-- the parts of a word, whatever the keys are
abbrev pub parts_of : List ℕ → List Part
parts_of word = parts_from 0 0 word

-- the bytes of a part: for a reference its backslashes and its text
abbrev pub part_text : Part → List ℕ
part_text (Byte byte) = byte ∷ []
part_text (Reference n key text) = slashes n ++ text

-- the bytes of parts, one after the other
abbrev pub parts_text : List Part → List ℕ
parts_text parts = flat_map part_text parts
