-- How files are opened, and by which name.
use Rattle.std.specs.Prelude.{ℕ, Bool, true, false, List, bytes_eq, if◌then◌else◌}
use Rattle.std.specs.Fs.{new_options, with_read, with_write, with_append, with_truncate, with_create, with_create_new}
use Rattle.std.specs.declared.fs.options.OpenOptions.{OpenOptions}
use Rattle.std.specs.Path.{path_join}
use Rattle.el_world.specs.declared.event.Mode.{Mode}
use Rattle.el_world.specs.declared.event.Mode.TheVariants.{Read, Write, Update, Append, AppendOld, Create}

-- options that ask for these, in the order of the table below
abbrev pub asking : Bool → Bool → Bool → Bool → Bool → Bool → OpenOptions
asking read write append truncate create create_new =
    with_create_new (with_create (with_truncate (with_append (with_write (with_read new_options read) write) append) truncate) create) create_new

-- the options of each mode
abbrev pub options_of : Mode → OpenOptions
--                 read  write append truncate create create_new
options_of Read = asking true false false false false false
options_of Write = asking false true false true true false
options_of Update = asking true true false false false false
options_of Append = asking false false true false true false
options_of AppendOld = asking false false true false false false
options_of Create = asking false true false false false true

-- what a path means from a directory, as the system is told it: the path alone from the process's own one, in which it stands
abbrev pub told_name : (own dir path : List ℕ) → List ℕ
told_name own dir path = if bytes_eq dir own then path else path_join dir path
