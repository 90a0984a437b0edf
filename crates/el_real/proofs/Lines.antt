-- A line before a message is one line, whatever it tells of.
use Rattle.std.proofs.Common.{◌≡◌, ◌⊎◌, ℕ, zero, suc, ◌+◌, ◌-◌, ◌/◌, ◌%◌, ◌==◌, ◌<◌, ◌≤◌, nat_lt, Bool, true, false, ◌&&◌, not, Option, Some, None, List, [], ◌∷◌, ◌++◌, length, take, map, codes, Result, Ok, Err, option_map, inl, inr, refl, sym, ap, subst, ◌∙◌, append_assoc, arith, if◌then◌else◌}
use Rattle.std.specs.List.{list_all}
use Rattle.std.specs.Fmt.{decimal, digits, digits_onto, digit_glyph}
use Rattle.std.specs.Char.{is_ascii_control}
use Rattle.el_world.specs.declared.event.StartFault.{StartFault}
use Rattle.el_world.specs.declared.event.StartFault.TheVariants.{NotFound, NotStartable, Failed as StartFailed, NoMemory as NoStartMemory}
use Rattle.el_world.specs.declared.subject.Subject.{Subject}
use Rattle.el_words.proofs.Truths.{left_of, right_of}
use Rattle.el_real.specs.declared.lack.Lack.{Lack}
use Rattle.el_real.specs.declared.lack.Lack.TheVariants.{Refused, NotText, Failed, NoMemory}
use Rattle.el_real.specs.declared.unstarted.Unstarted.{Unstarted}
use Rattle.el_real.specs.declared.unstarted.Unstarted.TheVariants.{Lacking, NoDirectory, Refused as RefusedStart}
use Rattle.el_real.specs.declared.reason.Call.{Call}
use Rattle.el_real.specs.declared.reason.Call.TheVariants.{Start, Wait, Open, Pipe, Feed, Read, Write, Output, Enter, Directory}
use Rattle.el_real.specs.Commands.{is_path}
use Rattle.el_real.specs.Shown.{shown_byte, plain, cut, shown, max_shown, are_plain, IsLine}
use Rattle.el_real.specs.Hints.{with_text, with_line, with_note, hint_line, IsHint}
use Rattle.el_real.specs.Starts.{command_fault_of}
use Rattle.el_real.specs.Unstartable.{file_named, directory_line, directory_text, absent_text, missing_line, broken_text, broken_line, no_name_text, in_path_text, in_path_line, no_path_text, no_path_line, searched_line, absent_line, IsUnfoundLine}
use Rattle.el_real.specs.Reasons.{call_word, named, not_text, reason_line, IsReason, IsKept, IsKeptOfCommand, IsKeptOfUnstarted}

-- ---- bytes without a control byte

both : (b c : Bool) → b ≡ true → c ≡ true → (b && c) ≡ true
both b c p q = rw (p, q) refl

both_plain : (front rest : List ℕ) → are_plain front ≡ true → are_plain rest ≡ true → are_plain (front ++ rest) ≡ true
both_plain [] rest p q = q
both_plain (byte ∷ front) rest p q = both _ _ (left_of _ _ p) (both_plain front rest (right_of _ _ p) q)

byte-plain : (byte : ℕ) → not (is_ascii_control (shown_byte byte)) ≡ true
byte-plain byte = by (is_ascii_control byte) refl
  where
    by : (b : Bool) → is_ascii_control byte ≡ b → not (is_ascii_control (if b then 63 else byte)) ≡ true
    by true is = refl
    by false is = rw is refl

plain-plain : (bytes : List ℕ) → are_plain (plain bytes) ≡ true
plain-plain [] = refl
plain-plain (byte ∷ bytes) = both _ _ (byte-plain byte) (plain-plain bytes)

cut-plain : (text : List ℕ) → are_plain (cut text) ≡ true
cut-plain text = both_plain (plain (take max_shown text)) _ (plain-plain (take max_shown text)) (by (nat_lt max_shown (length text)))
  where
    by : (b : Bool) → are_plain (if b then codes ".." else []) ≡ true
    by true = refl
    by false = refl

shown-plain : (text : List ℕ) → are_plain (shown text) ≡ true
shown-plain [] = refl
shown-plain (byte ∷ bytes) = cut-plain (byte ∷ bytes)

-- a digit isn't one
digit-plain : (d : ℕ) → d < 10 → not (is_ascii_control (digit_glyph false d)) ≡ true
digit-plain d less = rw (let small : nat_lt d 10 ≡ true = grind (arith, less) in small) (let fine : not (is_ascii_control (48 + d)) ≡ true = grind (arith, less) in fine)

digits-plain : (k n : ℕ) (behind : List ℕ) → are_plain behind ≡ true → are_plain (digits_onto k 10 false n behind) ≡ true
digits-plain zero n behind fine = fine
digits-plain (suc k) n behind fine = by (n / 10 == 0) (digits-plain k (n / 10) (digit_glyph false (n % 10) ∷ behind) one)
  where
    one : are_plain (digit_glyph false (n % 10) ∷ behind) ≡ true
    one = both _ _ (digit-plain (n % 10) (omega arith)) fine

    by : (b : Bool) → are_plain (digits_onto k 10 false (n / 10) (digit_glyph false (n % 10) ∷ behind)) ≡ true
        → are_plain (if b then digit_glyph false (n % 10) ∷ behind else digits_onto k 10 false (n / 10) (digit_glyph false (n % 10) ∷ behind)) ≡ true
    by true rest = one
    by false rest = rest

decimal-plain : (n : ℕ) → are_plain (decimal n) ≡ true
unfolding digits
decimal-plain n = digits-plain 64 n [] refl

-- ---- lines

-- a line that isn't empty
abbrev IsWhole : List ℕ → Type 0
IsWhole line = (bytes : List ℕ) × (line ≡ bytes ++ 10 ∷ []) × (are_plain bytes ≡ true)

-- it is one behind further bytes
behind : (front rest : List ℕ) → are_plain front ≡ true → IsWhole rest → IsWhole (front ++ rest)
behind front rest fine whole = (front ++ whole.0, ap (λ line. front ++ line) whole.1 ∙ sym (append_assoc front whole.0 (10 ∷ [])), both_plain front whole.0 fine whole.2)

-- and so are bytes without a control byte with a newline behind
ended : (front : List ℕ) → are_plain front ≡ true → IsWhole (front ++ codes "\n")
ended front fine = (front, refl, fine)

call-plain : (call : Call) → are_plain (call_word call) ≡ true
unfolding call_word
call-plain Start = refl
call-plain Wait = refl
call-plain Open = refl
call-plain Pipe = refl
call-plain Feed = refl
call-plain Read = refl
call-plain Write = refl
call-plain Output = refl
call-plain Enter = refl
call-plain Directory = refl

named-plain : (name : List ℕ) → are_plain (named name) ≡ true
named-plain [] = refl
named-plain (byte ∷ bytes) = both_plain (codes " ") (shown (byte ∷ bytes)) refl (shown-plain (byte ∷ bytes))

reason-whole : (call : Call) (name text : List ℕ) → IsWhole (reason_line call name text)
reason-whole call name text =
    let called : List ℕ = codes "execline: " ++ call_word call in
    let with_name : List ℕ = called ++ named name in
    let parted : List ℕ = with_name ++ codes ": " in
    ended (parted ++ plain text)
    (both_plain parted (plain text) (both_plain with_name (codes ": ") (both_plain called (named name) (both_plain (codes "execline: ") (call_word call) refl (call-plain call)) (named-plain name)) refl) (plain-plain text))

directory-whole : (file : List ℕ) → IsWhole (directory_line file)
unfolding directory_text
directory-whole file = behind (codes "execline: ") _ refl (behind (shown file) _ (shown-plain file) (codes " is a directory", refl, refl))

missing-whole : (file : List ℕ) → IsWhole (missing_line file)
unfolding absent_text
missing-whole file = behind (codes "execline: ") _ refl (behind (shown file) _ (shown-plain file) (codes " isn't there", refl, refl))

broken-whole : (file : List ℕ) → IsWhole (broken_line file)
unfolding broken_text
broken-whole file = behind (codes "execline: ") _ refl (behind (shown file) _ (shown-plain file) (codes " is there, but the interpreter in its first line (or its loader) isn't", refl, refl))

in_path-plain : are_plain in_path_text ≡ true
unfolding in_path_text
in_path-plain = refl

no_path-plain : are_plain no_path_text ≡ true
unfolding no_path_text
no_path-plain = refl

no_path-whole : (program : List ℕ) → IsWhole (no_path_line program)
no_path-whole program =
    let front : List ℕ = codes "execline: " ++ no_path_text in
    ended (front ++ shown program) (both_plain front (shown program) (both_plain (codes "execline: ") no_path_text refl no_path-plain) (shown-plain program))

in_path-whole : (path program : List ℕ) → IsWhole (in_path_line path program)
in_path-whole path program =
    let front : List ℕ = codes "execline: no " ++ shown program in
    let middle : List ℕ = front ++ in_path_text in
    ended (middle ++ shown path)
    (both_plain middle (shown path) (both_plain front in_path_text (both_plain (codes "execline: no ") (shown program) refl (shown-plain program)) in_path-plain) (shown-plain path))

searched-whole : (path : Option (List ℕ)) (program : List ℕ) → IsWhole (searched_line path program)
unfolding no_name_text
searched-whole path [] = (codes "execline: the command's name is empty", refl, refl)
searched-whole None (byte ∷ bytes) = no_path-whole (byte ∷ bytes)
searched-whole (Some path) (byte ∷ bytes) = in_path-whole path (byte ∷ bytes)

absent-whole : (path : Option (List ℕ)) (dir program : List ℕ) → IsWhole (absent_line path dir program)
absent-whole path dir program = by (is_path program)
  where
    by : (b : Bool) → IsWhole (if b then missing_line (file_named dir program) else searched_line path program)
    by true = missing-whole (file_named dir program)
    by false = searched-whole path program

text-plain : (text : Option (List ℕ)) → are_plain (with_text text) ≡ true
text-plain None = refl
text-plain (Some text) = both_plain (codes " ") (shown text) refl (shown-plain text)

line-plain : (line : Option ℕ) → are_plain (with_line line) ≡ true
line-plain None = refl
line-plain (Some line) = both_plain (codes ", line ") (decimal line) refl (decimal-plain line)

note-plain : (note : List ℕ) → are_plain (with_note note) ≡ true
note-plain [] = refl
note-plain (byte ∷ bytes) = both_plain (codes ": ") (plain (byte ∷ bytes)) refl (plain-plain (byte ∷ bytes))

hint-whole : (kind : List ℕ) (text : Option (List ℕ)) (line : Option ℕ) (note : List ℕ) → IsWhole (hint_line kind text line note)
hint-whole kind text line note =
    let said : List ℕ = codes "execline: " ++ plain kind in
    let told : List ℕ = said ++ with_text text in
    let placed : List ℕ = told ++ with_line line in
    ended (placed ++ with_note note)
    (both_plain placed (with_note note)
    (both_plain told (with_line line) (both_plain said (with_text text) (both_plain (codes "execline: ") (plain kind) refl (plain-plain kind)) (text-plain text)) (line-plain line))
    (note-plain note))

-- ---- what is kept

-- a line that is another one
line_is : (line whole : List ℕ) → line ≡ whole → IsWhole whole → IsLine line
line_is line whole is fine = inr (fine.0, is ∙ fine.1, fine.2)

reason-line : (call : Call) (name : List ℕ) (lack : Lack) (line : List ℕ) → IsReason call name lack line → IsLine line
reason-line call name (Refused number) line reason = line_is line _ reason.1 (reason-whole call name reason.0)
reason-line call name NotText line reason = line_is line _ reason (reason-whole call name not_text)
reason-line call name Failed line reason = inl reason
reason-line call name NoMemory line reason = inl reason

pub kept-line : (call : Call) (name : List ℕ) (lack : Lack) (line : List ℕ) → IsKept call name lack line → IsLine line
kept-line call name lack line (inl none) = inl none
kept-line call name lack line (inr reason) = reason-line call name lack line reason

unfound-line : (path : Option (List ℕ)) (dir program line : List ℕ) → IsUnfoundLine path dir program line → IsLine line
unfound-line path dir program line (inl absent) = line_is line _ absent (absent-whole path dir program)
unfound-line path dir program line (inr broken) = line_is line _ broken.2 (broken-whole broken.0)

command-line : (fault : StartFault) (path : Option (List ℕ)) (dir program : List ℕ) (lack : Lack) (line : List ℕ) → IsKeptOfCommand fault path dir program lack line → IsLine line
command-line NotFound path dir program lack line (inl none) = inl none
command-line NotFound path dir program lack line (inr unfound) = unfound-line path dir program line unfound
command-line NotStartable path dir program lack line (inl kept) = kept-line Start program lack line kept
command-line NotStartable path dir program lack line (inr directory) = line_is line _ directory (directory-whole (file_named dir program))
command-line StartFailed path dir program lack line kept = kept-line Start program lack line kept
command-line NoStartMemory path dir program lack line kept = kept-line Start program lack line kept

pub unstarted-line : (path : Option (List ℕ)) (dir program : List ℕ) (unstarted : Unstarted) (line : List ℕ) → IsKeptOfUnstarted path dir program unstarted line → IsLine line
unstarted-line path dir program (Lacking lack) line kept = kept-line Start program lack line kept
unstarted-line path dir program (NoDirectory lack) line kept = kept-line Enter dir lack line kept
unstarted-line path dir program (RefusedStart lack) line kept = command-line (command_fault_of lack) path dir program lack line kept

pub hinted-line : (subject : Subject) (line : List ℕ) → IsHint subject line → IsLine line
hinted-line subject line (inl none) = inl none
hinted-line subject line (inr hint) = line_is line _ hint (hint-whole _ _ _ _)
