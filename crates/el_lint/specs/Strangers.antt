-- Programs of skarnet's execline that this project hasn't.
use Rattle.std.specs.Prelude.{ℕ, List, Option, codes, find}
use Rattle.std.specs.Str.{bytes_eq}
use Rattle.el_lint.specs.declared.stranger.Stranger.{Stranger}
use Rattle.el_lint.specs.declared.stranger.Stranger.TheVariants.{Case, Dollarat, Fdblock, Fdreserve, For, Forbacktick, Getcwd, Getpid, Homeof, Loopwhile, PosixCd, PosixUmask, Runblock, Trap, Tryexec, Umask}
use Rattle.el_lint.specs.declared.stranger.TheConstants.{STRANGERS}

-- its name
unfoldable pub stranger_name : Stranger → List ℕ
stranger_name Case = codes "case"
stranger_name Dollarat = codes "dollarat"
stranger_name Fdblock = codes "fdblock"
stranger_name Fdreserve = codes "fdreserve"
stranger_name For = codes "for"
stranger_name Forbacktick = codes "forbacktick"
stranger_name Getcwd = codes "getcwd"
stranger_name Getpid = codes "getpid"
stranger_name Homeof = codes "homeof"
stranger_name Loopwhile = codes "loopwhile"
stranger_name PosixCd = codes "posix-cd"
stranger_name PosixUmask = codes "posix-umask"
stranger_name Runblock = codes "runblock"
stranger_name Trap = codes "trap"
stranger_name Tryexec = codes "tryexec"
stranger_name Umask = codes "umask"

-- what serves in its place
unfoldable pub stranger_cure : Stranger → List ℕ
stranger_cure Case = codes "ifelse with a test for each case serves"
stranger_cure Dollarat = codes "execlineb -S0 and $@ serve"
stranger_cure Fdblock = codes "nothing serves in its place"
stranger_cure Fdreserve = codes "nothing serves in its place"
stranger_cure For = codes "forx serves"
stranger_cure Forbacktick = codes "forbacktickx serves"
stranger_cure Getcwd = codes "backtick with pwd serves"
stranger_cure Getpid = codes "backtick with sh -c \"echo $PPID\" serves"
stranger_cure Homeof = codes "backtick with getent serves"
stranger_cure Loopwhile = codes "loopwhilex serves"
stranger_cure PosixCd = codes "cd serves"
stranger_cure PosixUmask = codes "a shell's umask serves"
stranger_cure Runblock = codes "nothing serves in its place"
stranger_cure Trap = codes "a shell's trap serves"
stranger_cure Tryexec = codes "nothing serves in its place"
stranger_cure Umask = codes "a shell's umask serves"

-- the one that a word names
abbrev pub stranger_named : (word : List ℕ) → Option Stranger
stranger_named word = find (λ stranger. bytes_eq (stranger_name stranger) word) STRANGERS
