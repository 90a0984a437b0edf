-- The spelling of tokens, computed, for definitions that need the words as a value. What a spelling and a brace fault mean,
-- `Tokens` and `Braces` say as relations; the clauses of `spell` and the laws tie this to them.
use Rattle.std.specs.Prelude.{◌≡◌, ℕ, suc, nat_lt, List, [], ◌∷◌, ◌++◌, Result, Ok, Err, if◌then◌else◌}
use Rattle.el_words.specs.Args.{indented}
use Rattle.el_lex.specs.declared.token.Token.{Token}
use Rattle.el_lex.specs.declared.token.Token.TheVariants.{Word as WordToken, Open as OpenToken, Close as CloseToken}
use Rattle.el_blocks.specs.declared.fault.SpellFault.{SpellFault}
use Rattle.el_blocks.specs.declared.fault.SpellFault.TheVariants.{StrayClose, TooDeep, Unclosed, NoMemory}

-- words in front of those of a result
abbrev pub in_front : List (List ℕ) → Result (List (List ℕ)) SpellFault → Result (List (List ℕ)) SpellFault
in_front words (Ok more) = Ok (words ++ more)
in_front words (Err fault) = Err fault

-- the line of the outermost open block, when one more is opened on a line: that one's if none was open
abbrev pub outermost_of : (depth outermost line : ℕ) → ℕ
outermost_of Prim.Native.Nat.zero outermost line = line
outermost_of (suc depth) outermost line = outermost

-- at the end no block may be open
abbrev pub spelled_end : (depth outermost : ℕ) → Result (List (List ℕ)) SpellFault
spelled_end Prim.Native.Nat.zero outermost = Ok []
spelled_end (suc depth) outermost = Err (Unclosed outermost)

-- a Close ends the innermost open block, behind which is what the tokens behind give
abbrev pub spelled_close : (depth line : ℕ) → (ℕ → Result (List (List ℕ)) SpellFault) → Result (List (List ℕ)) SpellFault
spelled_close Prim.Native.Nat.zero line behind = Err (StrayClose line)
spelled_close (suc depth) line behind = in_front (indented depth [] ∷ []) (behind depth)

-- the spelling of tokens behind so many open blocks, of which the outermost begins on a line
abbrev pub spelled_from : (depth outermost : ℕ) → List Token → Result (List (List ℕ)) SpellFault
spelled_from depth outermost [] = spelled_end depth outermost
spelled_from depth outermost (WordToken line text ∷ tokens) = in_front (indented depth text ∷ []) (spelled_from depth outermost tokens)
spelled_from depth outermost (OpenToken line ∷ tokens) =
    if nat_lt depth 255 then spelled_from (suc depth) (outermost_of depth outermost line) tokens else Err (TooDeep line)
spelled_from depth outermost (CloseToken line ∷ tokens) = spelled_close depth line (λ less. spelled_from less outermost tokens)

-- the spelling of tokens, or their first brace fault
abbrev pub spelling_of : List Token → Result (List (List ℕ)) SpellFault
spelling_of tokens = spelled_from 0 0 tokens

-- the fault is that of the answer, or want of memory, of which nothing is said
abbrev pub IsFaultOf : Result (List (List ℕ)) SpellFault → SpellFault → Type 0
IsFaultOf answer (StrayClose line) = answer ≡ Err (StrayClose line)
IsFaultOf answer (TooDeep line) = answer ≡ Err (TooDeep line)
IsFaultOf answer (Unclosed line) = answer ≡ Err (Unclosed line)
IsFaultOf answer NoMemory = Unit {0}

-- a result is the answer, but for want of memory
abbrev pub IsAnswer : Result (List (List ℕ)) SpellFault → Result (List (List ℕ)) SpellFault → Type 0
IsAnswer answer (Ok words) = answer ≡ Ok words
IsAnswer answer (Err fault) = IsFaultOf answer fault
