-- What a message is about, in a line that is written before it.
use Rattle.std.specs.Prelude.{◌≡◌, ◌⊎◌, ℕ, List, [], ◌++◌, Option, None, Some, option_map, codes}
use Rattle.std.specs.Fmt.{decimal}
use Rattle.el_world.specs.declared.subject.Subject.{Subject}
use Rattle.el_real.specs.Shown.{shown, plain}

-- the thing behind its kind; nothing if the kind says all
abbrev pub with_text : Option (List ℕ) → List ℕ
with_text None = []
with_text (Some text) = codes " " ++ shown text

-- its line behind that, if it has one
abbrev pub with_line : Option ℕ → List ℕ
with_line None = []
with_line (Some line) = codes ", line " ++ decimal line

-- and what is wrong with it, or wanted in its place, if the message doesn't say so
abbrev pub with_note : List ℕ → List ℕ
with_note [] = []
with_note note = codes ": " ++ plain note

-- the line of a subject: what it is, the thing, its line, and the note
abbrev pub hint_line : (kind : List ℕ) (text : Option (List ℕ)) (line : Option ℕ) (note : List ℕ) → List ℕ
hint_line kind text line note = codes "execline: " ++ plain kind ++ with_text text ++ with_line line ++ with_note note ++ codes "\n"

-- the line is that of the subject; it is empty if there is no memory for it
abbrev pub IsHint : Subject → (line : List ℕ) → Type 0
IsHint subject line = (line ≡ []) ⊎ (line ≡ hint_line subject.kind.now (option_map (λ text. text.now) subject.text) subject.line subject.note.now)
