-- A text has one list of comments.
use Rattle.std.proofs.Common.{◌≡◌, ℕ, Bool, true, false, List, [], ◌∷◌, ◌++◌, refl, sym, ap, ap₂, ◌∙◌, true≢false, drop, length}
use Rattle.std.specs.Prelude.{◌==◌, ◌&&◌, not}
use Rattle.std.specs.List.{list_all}
use Rattle.std.proofs.lemmas.Bool.{and_parts}
use Rattle.el_lex.specs.Bytes.{is_one_of, is_whitespace, is_over_or}
use Rattle.el_lex.specs.Pieces.{Piece, Plain, Escaped, Quoted, pieces_text, fits_piece, fit_pieces}
use Rattle.el_lex.specs.Reading.{Item, Blank, Comment, Wordly, text, fit, is_comment}
use Rattle.el_lex.proofs.Printed.{nor_parts}
use Rattle.el_keep.specs.declared.place.Place.TheVariants.{Gap as GapPlace}
use Rattle.el_keep.specs.Parts.{run_from}
use Rattle.el_keep.specs.Comments.{comments_from}
use Rattle.el_keep.specs.Laws.{HasComments}
use Rattle.el_keep.proofs.Words.{fit-parts, comment-byte, word-run, drop-front}

-- the byte may begin a word
abbrev pub begins_word : ℕ → Bool
begins_word byte = not (is_whitespace byte) && not (byte == 35)

pub word-begins : (piece : Piece) (pieces : List Piece) (behind bytes : List ℕ) (byte : ℕ) → fit_pieces (piece ∷ pieces) ≡ true → pieces_text (piece ∷ pieces) ++ behind ≡ byte ∷ bytes
    → begins_word byte ≡ true
word-begins (Plain first) pieces behind bytes byte fits is =
    let parts = and_parts (list_all fits_piece (Plain first ∷ pieces)) (not (first == 35)) fits in
    let here = nor_parts (is_one_of (0 ∷ 34 ∷ 92 ∷ []) first) (is_whitespace first) (and_parts (fits_piece (Plain first)) (list_all fits_piece pieces) parts.0).0 in
    let same : first ≡ byte = cc in
    let begins : begins_word first ≡ true = rw (here.1, parts.1) refl in
    ap begins_word (sym same) ∙ begins
word-begins (Escaped escaped) pieces behind bytes byte fits is = let same : 92 ≡ byte = cc in ap begins_word (sym same)
word-begins (Quoted inners) pieces behind bytes byte fits is = let same : 34 ≡ byte = cc in ap begins_word (sym same)

-- a comment is over before the next newline
pub one-comment : (one other behind after : List ℕ) → is_comment one ≡ true → is_comment other ≡ true → is_over_or (λ byte. byte == 10) behind ≡ true → is_over_or (λ byte. byte == 10) after ≡ true
    → one ++ behind ≡ other ++ after → (one ≡ other) × (behind ≡ after)
one-comment [] [] behind after is also ends over same = (refl, same)
one-comment [] (byte ∷ other) behind after is also ends over same =
    let here = (comment-byte byte other also).0 in
    absurd (true≢false (sym ends ∙ ap (is_over_or (λ b. b == 10)) same ∙ here))
one-comment (byte ∷ one) [] behind after is also ends over same =
    let here = (comment-byte byte one is).0 in
    absurd (true≢false (sym over ∙ ap (is_over_or (λ b. b == 10)) (sym same) ∙ here))
one-comment (byte ∷ one) (first ∷ other) behind after is also ends over same =
    let head : byte ≡ first = cc in
    let tail : one ++ behind ≡ other ++ after = cc in
    let rest = one-comment one other behind after (comment-byte byte one is).1 (comment-byte first other also).1 ends over tail in
    (ap₂ (λ (b : ℕ) (bytes : List ℕ). b ∷ bytes) head rest.0, rest.1)

-- a word is over before the next whitespace
one-word : (one other behind after : List ℕ) → run_from false GapPlace (one ++ behind) ≡ one → run_from false GapPlace (other ++ after) ≡ other → one ++ behind ≡ other ++ after
    → behind ≡ after
one-word one other behind after is also same =
    let word : one ≡ other = sym is ∙ ap (run_from false GapPlace) same ∙ also in
    sym (drop-front one behind) ∙ ap (drop (length one)) same ∙ ap (λ (word : List ℕ). drop (length word) (other ++ after)) word ∙ drop-front other after

pub not_both : (byte : ℕ) → is_whitespace byte ≡ true → begins_word byte ≡ true → ⊥
not_both byte white begins = true≢false (sym begins ∙ ap (λ (b : Bool). not b && not (byte == 35)) white)

pub one-list : (one other : List Item) (before : List (List ℕ)) → fit one [] ≡ true → fit other [] ≡ true → text one ≡ text other → comments_from before one ≡ comments_from before other
one-list [] [] before fits also same = refl
one-list [] (Blank byte ∷ other) before fits also same = let no : ⊥ = cc in absurd no
one-list [] (Comment bytes ∷ other) before fits also same = let no : ⊥ = cc in absurd no
one-list [] (Wordly (Plain byte) pieces ∷ other) before fits also same = let no : ⊥ = cc in absurd no
one-list [] (Wordly (Escaped byte) pieces ∷ other) before fits also same = let no : ⊥ = cc in absurd no
one-list [] (Wordly (Quoted inners) pieces ∷ other) before fits also same = let no : ⊥ = cc in absurd no
one-list (Blank byte ∷ one) [] before fits also same = let no : ⊥ = cc in absurd no
one-list (Blank byte ∷ one) (Blank first ∷ other) before fits also same =
    let tail : text one ≡ text other = cc in
    one-list one other before (fit-parts (Blank byte) one fits).1 (fit-parts (Blank first) other also).1 tail
one-list (Blank byte ∷ one) (Comment bytes ∷ other) before fits also same =
    let head : byte ≡ 35 = cc in
    absurd (true≢false (sym (fit-parts (Blank byte) one fits).0 ∙ ap is_whitespace head))
one-list (Blank byte ∷ one) (Wordly piece pieces ∷ other) before fits also same =
    let parts = fit-parts (Wordly piece pieces) other also in
    let is = and_parts (fit_pieces (piece ∷ pieces)) (is_over_or is_whitespace (text other)) parts.0 in
    absurd (not_both byte (fit-parts (Blank byte) one fits).0 (word-begins piece pieces (text other) (text one) byte is.0 (sym same)))
one-list (Comment bytes ∷ one) [] before fits also same = let no : ⊥ = cc in absurd no
one-list (Comment bytes ∷ one) (Blank byte ∷ other) before fits also same =
    let head : byte ≡ 35 = cc in
    absurd (true≢false (sym (fit-parts (Blank byte) other also).0 ∙ ap is_whitespace head))
one-list (Comment bytes ∷ one) (Comment others ∷ other) before fits also same =
    let parts = fit-parts (Comment bytes) one fits in
    let others_parts = fit-parts (Comment others) other also in
    let is = and_parts (is_comment bytes) (is_over_or (λ byte. byte == 10) (text one)) parts.0 in
    let are = and_parts (is_comment others) (is_over_or (λ byte. byte == 10) (text other)) others_parts.0 in
    let tail : bytes ++ text one ≡ others ++ text other = cc in
    let rest = one-comment bytes others (text one) (text other) is.0 are.0 is.1 are.1 tail in
    ap (λ (comment : List ℕ). comments_from (before ++ comment ∷ []) one) rest.0 ∙ one-list one other (before ++ others ∷ []) parts.1 others_parts.1 rest.1
one-list (Comment bytes ∷ one) (Wordly piece pieces ∷ other) before fits also same =
    let parts = fit-parts (Wordly piece pieces) other also in
    let is = and_parts (fit_pieces (piece ∷ pieces)) (is_over_or is_whitespace (text other)) parts.0 in
    let no = word-begins piece pieces (text other) (bytes ++ text one) 35 is.0 (sym same) in
    absurd (true≢false (sym no))
one-list (Wordly piece pieces ∷ one) [] before fits also same =
    let parts = fit-parts (Wordly piece pieces) one fits in
    absurd (no_text piece same)
  where
    no_text : (piece : Piece) → pieces_text (piece ∷ pieces) ++ text one ≡ [] → ⊥
    no_text (Plain byte) none = cc
    no_text (Escaped byte) none = cc
    no_text (Quoted inners) none = cc
one-list (Wordly piece pieces ∷ one) (Blank byte ∷ other) before fits also same =
    let parts = fit-parts (Wordly piece pieces) one fits in
    let is = and_parts (fit_pieces (piece ∷ pieces)) (is_over_or is_whitespace (text one)) parts.0 in
    absurd (not_both byte (fit-parts (Blank byte) other also).0 (word-begins piece pieces (text one) (text other) byte is.0 same))
one-list (Wordly piece pieces ∷ one) (Comment bytes ∷ other) before fits also same =
    let parts = fit-parts (Wordly piece pieces) one fits in
    let is = and_parts (fit_pieces (piece ∷ pieces)) (is_over_or is_whitespace (text one)) parts.0 in
    let no = word-begins piece pieces (text one) (bytes ++ text other) 35 is.0 same in
    absurd (true≢false (sym no))
one-list (Wordly piece pieces ∷ one) (Wordly first others ∷ other) before fits also same =
    let parts = fit-parts (Wordly piece pieces) one fits in
    let others_parts = fit-parts (Wordly first others) other also in
    let is = and_parts (fit_pieces (piece ∷ pieces)) (is_over_or is_whitespace (text one)) parts.0 in
    let are = and_parts (fit_pieces (first ∷ others)) (is_over_or is_whitespace (text other)) others_parts.0 in
    let tail = one-word (pieces_text (piece ∷ pieces)) (pieces_text (first ∷ others)) (text one) (text other)
    (word-run piece pieces (text one) is.0 is.1) (word-run first others (text other) are.0 are.1) same in
    ap (λ (more : List (List (List ℕ))). before ∷ more) (one-list one other [] parts.1 others_parts.1 tail)

pub one-list_of_comments : (script : List ℕ) (one other : List (List (List ℕ))) → HasComments script one → HasComments script other → one ≡ other
one-list_of_comments script one other has also =
    sym has.are_comments ∙ one-list has.items also.items [] has.fits also.fits (has.is_text ∙ sym also.is_text) ∙ also.are_comments
