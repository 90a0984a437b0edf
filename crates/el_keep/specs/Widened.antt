-- A script with the words of a layout that has more of them than the script: each of these stands last on its line.
use Rattle.std.specs.Prelude.{ℕ, suc, Bool, true, false, ◌&&◌, ◌||◌, not, ◌==◌, List, [], ◌∷◌, ◌++◌, take, drop}
use Rattle.el_lex.specs.Reading.{Item, Blank, Comment, Wordly}
use Rattle.el_keep.specs.Kept.{past_word}

-- what stands before the next word, or the end
abbrev pub before_word : List Item → List Item
before_word [] = []
before_word (Blank byte ∷ items) = Blank byte ∷ before_word items
before_word (Comment bytes ∷ items) = Comment bytes ∷ before_word items
before_word (Wordly piece pieces ∷ items) = []

-- a line ends there
abbrev pub has_break : List Item → Bool
has_break [] = false
has_break (Blank byte ∷ items) = (byte == 10) || has_break items
has_break (Comment bytes ∷ items) = has_break items
has_break (Wordly piece pieces ∷ items) = false

-- a word of the layout is added where the line ends in the plain layout, which has the script's words alone, and goes on in the layout
abbrev pub is_added : (ends breaks : Bool) → Bool
is_added ends breaks = ends && not breaks

-- before an added word is one space (32), and before another what the script has before its next word
abbrev pub gap_at : (added : Bool) → (script : List Item) → List Item
gap_at true script = Blank 32 ∷ []
gap_at false script = before_word script

-- an added word is none of the script's, and of the plain layout's
abbrev pub left_at : (added : Bool) → List Item → List Item
left_at true items = items
left_at false items = past_word items

-- behind some of what stands before the next word of the layout, with a line's end among it or without
abbrev pub widened_from : (breaks : Bool) → (plain layout script : List Item) → List Item
widened_from breaks plain [] script = before_word script
widened_from breaks plain (Blank byte ∷ layout) script = widened_from (breaks || (byte == 10)) plain layout script
widened_from breaks plain (Comment bytes ∷ layout) script = widened_from breaks plain layout script
widened_from breaks plain (Wordly piece pieces ∷ layout) script =
    gap_at (is_added (has_break plain) breaks) script
    ++ (Wordly piece pieces ∷ widened_from false (left_at (is_added (has_break plain) breaks) plain) layout (left_at (is_added (has_break plain) breaks) script))

-- a whole script with the words of a whole layout
abbrev pub widened : (plain layout script : List Item) → List Item
widened plain layout script = widened_from false plain layout script

-- ---- comments

-- before an added word are none
abbrev pub comments_at : (added : Bool) → (comments : List (List (List ℕ))) → List (List (List ℕ))
comments_at true comments = [] ∷ []
comments_at false comments = take 1 comments

-- those before the words behind it
abbrev pub comments_left : (added : Bool) → (comments : List (List (List ℕ))) → List (List (List ℕ))
comments_left true comments = comments
comments_left false comments = drop 1 comments

-- those before each word of the layout and before the end, by those before each word of the script and before the end
abbrev pub spread_from : (breaks : Bool) → (plain layout : List Item) → (comments : List (List (List ℕ))) → List (List (List ℕ))
spread_from breaks plain [] comments = comments
spread_from breaks plain (Blank byte ∷ layout) comments = spread_from (breaks || (byte == 10)) plain layout comments
spread_from breaks plain (Comment bytes ∷ layout) comments = spread_from breaks plain layout comments
spread_from breaks plain (Wordly piece pieces ∷ layout) comments =
    comments_at (is_added (has_break plain) breaks) comments
    ++ spread_from false (left_at (is_added (has_break plain) breaks) plain) layout (comments_left (is_added (has_break plain) breaks) comments)

-- ---- how many words there are

abbrev pub count_words : List Item → ℕ
count_words [] = 0
count_words (Blank byte ∷ items) = count_words items
count_words (Comment bytes ∷ items) = count_words items
count_words (Wordly piece pieces ∷ items) = suc (count_words items)

-- an added word doesn't count
abbrev pub count_at : (added : Bool) → ℕ → ℕ
count_at true count = count
count_at false count = suc count

-- the words of the layout that aren't added
abbrev pub count_own : (breaks : Bool) → (plain layout : List Item) → ℕ
count_own breaks plain [] = 0
count_own breaks plain (Blank byte ∷ layout) = count_own (breaks || (byte == 10)) plain layout
count_own breaks plain (Comment bytes ∷ layout) = count_own breaks plain layout
count_own breaks plain (Wordly piece pieces ∷ layout) = count_at (is_added (has_break plain) breaks) (count_own false (left_at (is_added (has_break plain) breaks) plain) layout)
