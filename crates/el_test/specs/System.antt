-- What is asked of the system about a path, and what its answer says. Only the code's contracts need it.
use Rattle.std.specs.Prelude.{ℕ, ℤ, pos, Bool, true, false, ◌||◌, ◌==◌, ◌&&◌, not, nat_lt, List, Option, None, Some, Result, Ok, Err, bit_and, if◌then◌else◌}
use Rattle.std.specs.List.{before_first}
use Rattle.std.specs.Ordering.{int_eq}
use Rattle.std.specs.IoError.{error_kind, raw_os_error}
use Rattle.std.specs.Fs.{metadata_len, file_type}
use Rattle.std.specs.declared.fs.attrs.Metadata.{Metadata}
use Rattle.std.specs.declared.io.ErrorKind.{ErrorKind}
use Rattle.std.specs.declared.io.ErrorKind.TheVariants.{OutOfMemory}
use Rattle.std.specs.declared.io.Error.{Error}
use Rattle.el_test.specs.declared.asker.AskFault.{AskFault}
use Rattle.el_test.specs.declared.asker.AskFault.TheVariants.{Failed, NoMemory}
use Rattle.el_test.specs.declared.operators.Question.{Question}
use Rattle.el_test.specs.declared.operators.Question.TheVariants.{Exists, File, Dir, Readable, Writable, Runnable, NotEmpty, Link}
use Rattle.el_test.specs.declared.system.Call.{Call}
use Rattle.el_test.specs.declared.system.Call.TheVariants.{Access, Status, LinkStatus}

-- ---- which call a question is asked by

-- access(2) with F_OK, R_OK, W_OK or X_OK; stat(2), which follows links; or lstat(2), which doesn't
abbrev pub call_of : Question → Call
call_of Exists = Access (pos 0)
call_of Readable = Access (pos 4)
call_of Writable = Access (pos 2)
call_of Runnable = Access (pos 1)
call_of File = Status
call_of Dir = Status
call_of NotEmpty = Status
call_of Link = LinkStatus

-- ---- what an error's number answers

-- the path names nothing: ENOENT, ENOTDIR or ELOOP
abbrev pub names_nothing : ℤ → Bool
names_nothing number = int_eq number (pos 2) || (int_eq number (pos 20) || int_eq number (pos 40))

-- the process may not use what the path names: EACCES, EPERM or EROFS
abbrev pub forbids : ℤ → Bool
forbids number = int_eq number (pos 13) || (int_eq number (pos 1) || int_eq number (pos 30))

-- the system has no memory: ENOMEM
abbrev pub lacks_memory : ℤ → Bool
lacks_memory number = int_eq number (pos 12)

-- an error that says neither yes nor no
abbrev pub fault_of : (lacks : Bool) → AskFault
fault_of lacks = if lacks then NoMemory else Failed

-- what access(2) answers for a use, by the number of its error: 0 is no error. A use that is forbidden is none; that the way to a file
-- is forbidden says nothing of whether it is there.
abbrev pub answer_to_use : (mode number : ℤ) → Result Bool AskFault
answer_to_use mode number =
    if int_eq number (pos 0) then Ok true
    else (if names_nothing number || (forbids number && not (int_eq mode (pos 0))) then Ok false
    else Err (fault_of (lacks_memory number)))

-- what stat(2) and lstat(2) answer where they fail, by their error's number
abbrev pub answer_to_number : Option ℤ → Result Bool AskFault
answer_to_number None = Err Failed
answer_to_number (Some number) = if names_nothing number then Ok false else Err Failed

-- and want of memory, which has a kind of its own
abbrev pub answer_to_refused_look : ErrorKind → Option ℤ → Result Bool AskFault
answer_to_refused_look OutOfMemory number = Err NoMemory
answer_to_refused_look kind number = answer_to_number number

-- ---- what is found

-- whether what was found is as the question asks: a file, a directory, something longer than 0 bytes, or a link
abbrev pub is_of_kind : Question → Metadata → Bool
is_of_kind File found = (file_type found).bits == 0o100000
is_of_kind Dir found = (file_type found).bits == 0o040000
is_of_kind NotEmpty found = nat_lt 0 (metadata_len found)
is_of_kind Link found = (file_type found).bits == 0o120000
is_of_kind question found = true

-- what a look-up answers
abbrev pub answer_to_look : Question → Result Metadata Error → Result Bool AskFault
answer_to_look question (Ok found) = Ok (is_of_kind question found)
answer_to_look question (Err error) = answer_to_refused_look (error_kind error) (raw_os_error error)

-- ---- how a path is handed over

-- what the system reads of bytes: all before the first NUL
abbrev pub text_in : List ℕ → List ℕ
text_in bytes = before_first (λ byte. byte == 0) bytes
