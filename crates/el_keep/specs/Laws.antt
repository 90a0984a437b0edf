-- What is said of a layout with the comments of a script.
use Rattle.std.specs.Prelude.{◌≡◌, ℕ, ◌+◌, Bool, true, false, ◌&&◌, nat_le, List, [], ◌∷◌}
use Rattle.el_lex.specs.declared.token.Token.{Token}
use Rattle.el_lex.specs.Reading.{Item, Blank, Comment, Wordly, text, fit, newlines_in, Reads}
use Rattle.el_blocks.specs.Tokens.{shapes_of}
use Rattle.el_keep.specs.Comments.{comments_of}
use Rattle.el_keep.specs.Widened.{has_break, count_words, count_own, spread_from}

-- both read as tokens, which are the same but for their lines
pub record AreAlike (layout script : List ℕ) : Type 0 where
  pub layout_tokens : List Token
  pub script_tokens : List Token
  pub layout_reads : Reads layout layout_tokens
  pub script_reads : Reads script script_tokens
  pub are_same : shapes_of layout_tokens ≡ shapes_of script_tokens

-- the script has these comments before each of its tokens and before its end
pub record HasComments (script : List ℕ) (comments : List (List (List ℕ))) : Type 0 where
  pub items : List Item
  pub fits : fit items [] ≡ true
  pub is_text : text items ≡ script
  pub are_comments : comments_of items ≡ comments

-- no two empty lines follow each other: whitespace has two newlines at most, those before it among them
abbrev pub has_few_breaks : (breaks : ℕ) → List Item → Bool
has_few_breaks breaks [] = true
has_few_breaks breaks (Blank byte ∷ items) = nat_le (breaks + newlines_in (byte ∷ [])) 2 && has_few_breaks (breaks + newlines_in (byte ∷ [])) items
has_few_breaks breaks (Comment bytes ∷ items) = has_few_breaks 0 items
has_few_breaks breaks (Wordly piece pieces ∷ items) = has_few_breaks 0 items

-- no two empty lines of the script follow each other
pub record HasFewBreaks (script : List ℕ) : Type 0 where
  pub items : List Item
  pub fits : fit items [] ≡ true
  pub is_text : text items ≡ script
  pub are_few : has_few_breaks 0 items ≡ true

-- the layout has the words of the plain one, which are as many as the script's, and more, each last on its line
pub record IsWider (plain layout script : List ℕ) : Type 0 where
  pub alike : AreAlike plain script
  pub tokens : List Token
  pub reads : Reads layout tokens
  pub begins : has_break alike.layout_reads.items ≡ false
  pub as_many : count_own false alike.layout_reads.items reads.items ≡ count_words alike.layout_reads.items

-- the comments before each token of such a layout and before its end: none before a token that the plain one hasn't
abbrev pub spread : {plain layout script : List ℕ} → IsWider plain layout script → (comments : List (List (List ℕ))) → List (List (List ℕ))
spread wider comments = spread_from false wider.alike.layout_reads.items wider.reads.items comments
