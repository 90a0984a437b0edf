-- How the operators are written, and what the comparisons say.
use Rattle.std.specs.Prelude.{ℕ, Bool, true, false, not, ◌||◌, ◌&&◌, List, Option, codes, find, is_some, unwrap_or}
use Rattle.std.specs.Cmp.Lexicographic.{slice_cmp}
use Rattle.std.specs.Ordering.{nat_cmp}
use Rattle.std.specs.declared.cmp.Ordering.{Ordering}
use Rattle.std.specs.declared.cmp.Ordering.TheVariants.{Less, Equal as EqualOrder, Greater}
use Rattle.std.specs.Str.{bytes_eq}
use Rattle.el_words.specs.Number.{number_of}
use Rattle.el_test.specs.declared.operators.TheConstants.{BINARIES, PREFIXES, JOINERS}
use Rattle.el_test.specs.declared.operators.Question.TheVariants.{Exists, File, Dir, Readable, Writable, Runnable, NotEmpty, Link}
use Rattle.el_test.specs.declared.operators.Unary.TheVariants.{Filled, Blank, Asked}
use Rattle.el_test.specs.declared.operators.Prefix.{Prefix}
use Rattle.el_test.specs.declared.operators.Prefix.TheVariants.{Not, Open, On}
use Rattle.el_test.specs.declared.operators.Binary.{Binary}
use Rattle.el_test.specs.declared.operators.Binary.TheVariants.{Same, Differs, Before, Behind, Equal, Unequal, Below, AtMost, Above, AtLeast}
use Rattle.el_test.specs.declared.operators.Joiner.{Joiner}
use Rattle.el_test.specs.declared.operators.Joiner.TheVariants.{And, Or, Close}

-- ---- how they are written

-- between two words
unfoldable pub binary_text : Binary → List ℕ
binary_text Same = codes "="
binary_text Differs = codes "!="
binary_text Before = codes "<"
binary_text Behind = codes ">"
binary_text Equal = codes "-eq"
binary_text Unequal = codes "-ne"
binary_text Below = codes "-lt"
binary_text AtMost = codes "-le"
binary_text Above = codes "-gt"
binary_text AtLeast = codes "-ge"

-- before a test
unfoldable pub prefix_text : Prefix → List ℕ
prefix_text Not = codes "!"
prefix_text Open = codes "("
prefix_text (On Filled) = codes "-n"
prefix_text (On Blank) = codes "-z"
prefix_text (On (Asked Exists)) = codes "-e"
prefix_text (On (Asked File)) = codes "-f"
prefix_text (On (Asked Dir)) = codes "-d"
prefix_text (On (Asked Readable)) = codes "-r"
prefix_text (On (Asked Writable)) = codes "-w"
prefix_text (On (Asked Runnable)) = codes "-x"
prefix_text (On (Asked NotEmpty)) = codes "-s"
prefix_text (On (Asked Link)) = codes "-h"

-- behind a test
unfoldable pub joiner_text : Joiner → List ℕ
joiner_text And = codes "-a"
joiner_text Or = codes "-o"
joiner_text Close = codes ")"

-- ---- what a word is, by its text

-- the binary operator that a word is
unfoldable pub binary_named : List ℕ → Option Binary
binary_named word = find (λ operator. bytes_eq (binary_text operator) word) BINARIES

-- what begins a test and is no comparison
unfoldable pub prefix_named : List ℕ → Option Prefix
prefix_named word = find (λ prefix. bytes_eq (prefix_text prefix) word) PREFIXES

-- what may stand behind a test
unfoldable pub joiner_named : List ℕ → Option Joiner
joiner_named word = find (λ joiner. bytes_eq (joiner_text joiner) word) JOINERS

-- ---- comparisons

-- the six on numbers
abbrev pub is_numeric : Binary → Bool
is_numeric Same = false
is_numeric Differs = false
is_numeric Before = false
is_numeric Behind = false
is_numeric _ = true

-- the operands of a comparison on numbers are numbers
abbrev pub operands_fit : Binary → (left right : List ℕ) → Bool
operands_fit operator left right = not (is_numeric operator) || (is_some (number_of left) && is_some (number_of right))

-- an order of two operands
abbrev pub is_equal : Ordering → Bool
is_equal EqualOrder = true
is_equal _ = false

abbrev pub is_less : Ordering → Bool
is_less Less = true
is_less _ = false

abbrev pub is_greater : Ordering → Bool
is_greater Greater = true
is_greater _ = false

-- whether the operator accepts this order of its operands
abbrev pub accepts : Binary → Ordering → Bool
accepts Same order = is_equal order
accepts Differs order = not (is_equal order)
accepts Before order = is_less order
accepts Behind order = is_greater order
accepts Equal order = is_equal order
accepts Unequal order = not (is_equal order)
accepts Below order = is_less order
accepts AtMost order = not (is_greater order)
accepts Above order = is_greater order
accepts AtLeast order = not (is_less order)

-- the order of two words, as bytes or as numbers
abbrev pub order_of : (numeric : Bool) → (left right : List ℕ) → Ordering
order_of false left right = slice_cmp nat_cmp left right
order_of true left right = nat_cmp (unwrap_or (number_of left) 0) (unwrap_or (number_of right) 0)

-- whether a comparison holds
unfoldable pub holds : Binary → (left right : List ℕ) → Bool
holds operator left right = accepts operator (order_of (is_numeric operator) left right)
