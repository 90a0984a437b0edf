-- Words and groups of words, as tokens and spelled as a flat list of words.
use Rattle.std.specs.Prelude.{ℕ, suc, List, [], ◌∷◌, ◌++◌}

-- a list of words and of groups of such, as blocks are
pub data Args : Type 0 where
  nothing : Args
  word : (text : List ℕ) → (rest : Args) → Args
  group : (inside rest : Args) → Args

infixr 60 ◌+++◌
-- one list behind the other
abbrev pub ◌+++◌ : Args → Args → Args
nothing +++ more = more
word text rest +++ more = word text (rest +++ more)
group inside rest +++ more = group inside (rest +++ more)

-- words alone
abbrev pub words : List (List ℕ) → Args
words [] = nothing
words (text ∷ texts) = word text (words texts)

-- so many spaces (32) and a word
abbrev pub indented : ℕ → List ℕ → List ℕ
indented Prim.Native.Nat.zero text = text
indented (suc depth) text = 32 ∷ indented depth text

-- The spelling at a depth: a word has one space per open block; a group is its items one level deeper, and then the word
-- of one space per block that is still open after it.
abbrev pub spelled : (depth : ℕ) → Args → List (List ℕ)
spelled depth nothing = []
spelled depth (word text rest) = indented depth text ∷ spelled depth rest
spelled depth (group inside rest) = spelled (suc depth) inside ++ (indented depth [] ∷ spelled depth rest)
