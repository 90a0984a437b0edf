-- Which stream stands behind which handle, and by which descriptor a child gets it.
use Rattle.std.specs.Prelude.{◌≡◌, ℕ, ℤ, pos, negsuc, Bool, ◌==◌, nat_lt, List, Option, None, Some, option_map, Result, Ok, Err, IfOk, if◌then◌else◌}
use Rattle.std.specs.List.{list_any}
use Rattle.std.specs.Ordering.{int_eq}
use Rattle.std.specs.Fd.{file_raw_fd, pipe_reader_raw_fd, pipe_writer_raw_fd}
use Rattle.std.specs.declared.fs.File.{File as OpenFile}
use Rattle.el_world.specs.declared.event.Handle.{Handle}
use Rattle.el_world.specs.declared.event.PipeEnds.{PipeEnds}
use Rattle.el_real.specs.declared.lack.Lack.{Lack}
use Rattle.el_real.specs.declared.lack.Lack.TheVariants.{Failed}
use Rattle.el_real.specs.declared.source.Source.{Source}
use Rattle.el_real.specs.declared.source.Source.TheVariants.{Null, Inherited, Copied}
use Rattle.el_real.specs.declared.stream.Held.{Held}
use Rattle.el_real.specs.declared.stream.Stream.{Stream}
use Rattle.el_real.specs.declared.stream.Stream.TheVariants.{File, Reader, Writer}
use Rattle.el_real.specs.Held.{stream_of}

-- ---- what is held

-- this stream stands behind this handle now, and behind every other what stood there before
abbrev pub StandsBehind : (old new : List Held) → Handle → Stream → Type 0
StandsBehind old new handle stream = (other : Handle) → stream_of new other ≡ (if handle.number == other.number then Some stream else stream_of old other)

-- the two ends of a pipe stand behind their handles now, and behind every other handle what stood there before
abbrev pub StandBehind : (old new : List Held) → PipeEnds → (reader writer : Stream) → Type 0
StandBehind old new ends reader writer =
    (other : Handle) → stream_of new other ≡ (if ends.reader.number == other.number then Some reader else (if ends.writer.number == other.number then Some writer else stream_of old other))

-- nothing stands behind this handle now, and behind every other what stood there before
abbrev pub IsTakenOut : (old new : List Held) → Handle → Type 0
IsTakenOut old new handle = (other : Handle) → stream_of new other ≡ (if handle.number == other.number then None else stream_of old other)

-- ---- the numbers of descriptors

-- the number of a stream's descriptor
abbrev pub number_of : Stream → ℤ
number_of (File file) = file_raw_fd file
number_of (Reader reader) = pipe_reader_raw_fd reader
number_of (Writer writer) = pipe_writer_raw_fd writer

-- the number of the descriptor behind a handle: of the handles 0 to 2 the handle's own, and of another that of the stream behind it
abbrev pub number_behind : List Held → Handle → Option ℤ
number_behind held handle = if nat_lt handle.number 3 then Some (pos handle.number) else option_map number_of (stream_of held handle)

-- a number, or a failure where there is none
abbrev pub given : Option ℤ → Result ℤ Lack
given None = Err Failed
given (Some number) = Ok number

-- one of these files has this number
abbrev pub are_at : List OpenFile → (number : ℕ) → Bool
are_at files number = list_any (λ file. int_eq (file_raw_fd file) (pos number)) files

-- the null device is lent by this number: it is the file that was lent already, or a new one, and it is lent from now on
abbrev pub IsLent : (old new : Option OpenFile) → (number : ℤ) → Type 0
IsLent None None number = ⊥
IsLent None (Some file) number = number ≡ file_raw_fd file
IsLent (Some file) None number = ⊥
IsLent (Some file) (Some same) number = (same ≡ file) × (number ≡ file_raw_fd file)

-- what a child is started with for a source: the number of the null device that is lent, a number below 0 for what this process has itself, or the number of
-- the descriptor behind the handle
abbrev pub IsEnd : List Held → (old new : Option OpenFile) → Source → Result ℤ Lack → Type 0
IsEnd held old new Null result = IfOk result (IsLent old new)
IsEnd held old new Inherited result = (new ≡ old) × (result ≡ Ok (negsuc 0))
IsEnd held old new (Copied handle) result = (new ≡ old) × (result ≡ given (number_behind held handle))
