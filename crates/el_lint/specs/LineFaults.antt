-- What is said of a first line by which a script can't be called.
use Rattle.std.specs.Prelude.{ℕ, List, codes}
use Rattle.el_lint.specs.declared.line_fault.LineFault.{LineFault}
use Rattle.el_lint.specs.declared.line_fault.LineFault.TheVariants.{NotExecline, ByteOrderMark, CarriageReturn, SeveralWords, TakenWhole, BadOption, BadNumber, WordBehind}

-- the kind, as elcheck-files names it
unfoldable pub line_fault_kind : LineFault → List ℕ
line_fault_kind NotExecline = codes "NotExecline"
line_fault_kind ByteOrderMark = codes "ByteOrderMark"
line_fault_kind BadNumber = codes "BadNumber"
line_fault_kind CarriageReturn = codes "BadOption"
line_fault_kind SeveralWords = codes "BadOption"
line_fault_kind TakenWhole = codes "BadOption"
line_fault_kind BadOption = codes "BadOption"
line_fault_kind WordBehind = codes "BadOption"

-- the sentence
unfoldable pub line_fault_sentence : LineFault → List ℕ
line_fault_sentence NotExecline = codes "the first line names another program than execlineb"
line_fault_sentence ByteOrderMark = codes "the file begins with a byte order mark, which is part of its first word: save it without one"
line_fault_sentence CarriageReturn = codes "the first line ends with a carriage return, which is part of its last word: end lines with a newline alone"
line_fault_sentence SeveralWords = codes "the system passes all words after the path as one: `#!/usr/bin/env -S execlineb ..` takes them apart"
line_fault_sentence TakenWhole = codes "the system passes all words after `env` as one, which is taken as a program's name: write `env -S execlineb ..`"
line_fault_sentence BadOption = codes "execlineb lacks this option or its value: the options are -P, -S N, -s N, -q, -w and -W"
line_fault_sentence BadNumber = codes "the number of -S or -s is none up to 65535"
line_fault_sentence WordBehind = codes "a word follows the options of execlineb, which takes it as the script's file"
