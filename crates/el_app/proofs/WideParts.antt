-- Parts of a layout, and the same parts of one with more words, each last on its line.
use Rattle.el_script.proofs.Vocabulary.{flat_map-append, and_parts, is_whitespace, is_over_or, Piece, pieces_text, fit_pieces, Item, Blank, Comment, Wordly, item_text, text, fits_item, fit, TokenShape}
use Rattle.std.proofs.Common.{◌≡◌, ℕ, suc, Bool, true, false, List, [], ◌∷◌, ◌++◌, refl, sym, ap, ◌∙◌, append_assoc, append-nil}
use Rattle.std.specs.Prelude.{◌==◌, ◌||◌}
use Rattle.el_keep.specs.Kept.{past_word}
use Rattle.el_keep.specs.Widened.{has_break, is_added, count_words, count_own}
use Rattle.el_keep.proofs.Fits.{fit-front}
use Rattle.el_keep.proofs.WideItems.{or-parts}
use Rattle.el_layout.proofs.Layouts.{Laid}

-- ---- own words

-- of the layout's words those that aren't added are as many as the plain one's, behind whatever of a gap
pub record Widens (plain layout : List Item) : Type 0 where
  pub counts : (breaks : Bool) (left : List Item) → has_break left ≡ (breaks || has_break plain) → past_word left ≡ past_word plain → count_own breaks left layout ≡ count_words plain

blank-widens : (byte : ℕ) {plain layout : List Item} → Widens plain layout → Widens (Blank byte ∷ plain) (Blank byte ∷ layout)
blank-widens byte {plain} behind = record {
  counts = λ breaks left breaking past. behind.counts (breaks || (byte == 10)) left (breaking ∙ sym (or-parts breaks (byte == 10) (has_break plain))) past;
}

none-added : (breaks left : Bool) → left ≡ (breaks || false) → is_added left breaks ≡ false
none-added true left is = ap (λ (b : Bool). is_added b true) is
none-added false left is = ap (λ (b : Bool). is_added b false) is

word-widens : (piece other : Piece) (pieces others : List Piece) {plain layout : List Item} → Widens plain layout → Widens (Wordly piece pieces ∷ plain) (Wordly other others ∷ layout)
word-widens piece other pieces others {plain} {layout} behind = record {
  counts = λ breaks left breaking past.
      rw (none-added breaks (has_break left) breaking) (ap suc (behind.counts false (past_word left) (ap has_break past) (ap past_word past)));
}

-- a word that is last on its line is added once more behind itself
added-widens : (piece : Piece) (pieces : List Piece) {plain layout : List Item} → has_break plain ≡ true → Widens plain layout
    → Widens (Wordly piece pieces ∷ plain) (Wordly piece pieces ∷ Blank 32 ∷ Wordly piece pieces ∷ layout)
added-widens piece pieces {plain} {layout} ends behind = record {
  counts = λ breaks left breaking past.
      rw (none-added breaks (has_break left) breaking, ap has_break past ∙ ends) (ap suc (behind.counts false (past_word left) (ap has_break past) (ap past_word past)));
}

same-widen : (items : List Item) {plain layout : List Item} → Widens plain layout → Widens (items ++ plain) (items ++ layout)
same-widen [] behind = behind
same-widen (Blank byte ∷ items) behind = blank-widens byte (same-widen items behind)
same-widen (Comment bytes ∷ items) behind = let more = same-widen items behind in record { counts = more.counts }
same-widen (Wordly piece pieces ∷ items) behind = word-widens piece piece pieces pieces (same-widen items behind)

-- ---- what stands behind a part

-- anything
pub record Whole (plain layout : List Item) : Type 0 where
  pub fits : fit plain [] ≡ true
  pub others_fit : fit layout [] ≡ true
  pub widens : Widens plain layout

-- what may stand behind a word
pub record Behind (plain layout : List Item) : Type 0 where
  pub whole : Whole plain layout
  pub over : is_over_or is_whitespace (text plain) ≡ true
  pub others_over : is_over_or is_whitespace (text layout) ≡ true

-- the end of a line
pub record Ending (plain layout : List Item) : Type 0 where
  pub behind : Behind plain layout
  pub ends : has_break plain ≡ true

pub nothing-behind : Whole [] []
nothing-behind = record { fits = refl; others_fit = refl; widens = record { counts = λ breaks left breaking past. refl } }

-- ---- parts

-- both are written as items: before what may stand behind them so, they may stand behind a part so
pub record Part (Next Here : List Item → List Item → Type 0) (plain layout : List ℕ) : Type 0 where
  pub items : List Item
  pub others : List Item
  pub is_text : text items ≡ plain
  pub are_text : text others ≡ layout
  pub goes : (behind more : List Item) → Next behind more → Here (items ++ behind) (others ++ more)

pub nothing-part : Part Behind Behind [] []
nothing-part = record { items = []; others = []; is_text = refl; are_text = refl; goes = λ behind more next. next }

pub join : {Last Next Here : List Item → List Item → Type 0} {one more other others : List ℕ} → Part Next Here one other → Part Last Next more others → Part Last Here (one ++ more) (other ++ others)
join {Last} {Next} {Here} {one} {more} {other} {others} part next = record {
  items = part.items ++ next.items;
  others = part.others ++ next.others;
  is_text = flat_map-append item_text part.items next.items ∙ ap (λ (t : List ℕ). t ++ text next.items) part.is_text ∙ ap (λ (t : List ℕ). one ++ t) next.is_text;
  are_text = flat_map-append item_text part.others next.others ∙ ap (λ (t : List ℕ). t ++ text next.others) part.are_text ∙ ap (λ (t : List ℕ). other ++ t) next.are_text;
  goes = λ last lasts goes_on.
      rw (append_assoc part.items next.items last, append_assoc part.others next.others lasts)
      (part.goes (next.items ++ last) (next.others ++ lasts) (next.goes last lasts goes_on));
}

-- whatever may stand behind a word may stand at the end of its line
pub ended : {Here : List Item → List Item → Type 0} {plain layout : List ℕ} → Part Behind Here plain layout → Part Ending Here plain layout
ended part = record { items = part.items; others = part.others; is_text = part.is_text; are_text = part.are_text; goes = λ behind more next. part.goes behind more next.behind }

-- whitespace before anything
pub blank : (byte : ℕ) → is_whitespace byte ≡ true → Part Whole Behind (byte ∷ []) (byte ∷ [])
blank byte is = record {
  items = Blank byte ∷ [];
  others = Blank byte ∷ [];
  is_text = refl;
  are_text = refl;
  goes = λ behind more next. record {
    whole = record { fits = fit-front (Blank byte) behind is next.fits; others_fit = fit-front (Blank byte) more is next.others_fit; widens = blank-widens byte next.widens };
    over = is;
    others_over = is;
  };
}

pub space : Part Whole Behind (32 ∷ []) (32 ∷ [])
space = blank 32 refl

pub line-end : Part Whole Ending (10 ∷ []) (10 ∷ [])
unfolding blank
line-end =
    let newline = blank 10 refl in
    record { items = newline.items; others = newline.others; is_text = refl; are_text = refl; goes = λ behind more next. record { behind = newline.goes behind more next; ends = refl } }

-- whole lines, which are the same in both
fit-behind : (items behind : List Item) → fit items (text behind) ≡ true → fit behind [] ≡ true → fit (items ++ behind) [] ≡ true
fit-behind [] behind fits next = next
fit-behind (item ∷ items) behind fits next =
    let parts = and_parts (fits_item item (text items ++ text behind)) (fit items (text behind)) fits in
    fit-front item (items ++ behind) (ap (fits_item item) (flat_map-append item_text items behind) ∙ parts.0) (fit-behind items behind parts.1 next)

pub lines : {bytes : List ℕ} {shapes : List TokenShape} → Laid true bytes shapes → Part Whole Whole bytes bytes
lines laid = record {
  items = laid.items;
  others = laid.items;
  is_text = laid.is_text;
  are_text = laid.is_text;
  goes = λ behind more next. record {
    fits = fit-behind laid.items behind (laid.fits (text behind) refl) next.fits;
    others_fit = fit-behind laid.items more (laid.fits (text more) refl) next.others_fit;
    widens = same-widen laid.items next.widens;
  };
}

-- ---- words

-- the bytes are one word
pub record OneWord (bytes : List ℕ) : Type 0 where
  pub piece : Piece
  pub pieces : List Piece
  pub is_text : pieces_text (piece ∷ pieces) ≡ bytes
  pub fits : fit_pieces (piece ∷ pieces) ≡ true

word-fits : {bytes : List ℕ} (word : OneWord bytes) (behind : List Item) → is_over_or is_whitespace (text behind) ≡ true → fit behind [] ≡ true → fit (Wordly word.piece word.pieces ∷ behind) [] ≡ true
word-fits word behind over fits = fit-front (Wordly word.piece word.pieces) behind (rw (word.fits, over) refl) fits

-- a word in place of a word
pub word : {one other : List ℕ} → OneWord one → OneWord other → Part Behind Whole one other
word one other = record {
  items = Wordly one.piece one.pieces ∷ [];
  others = Wordly other.piece other.pieces ∷ [];
  is_text = append-nil (pieces_text (one.piece ∷ one.pieces)) ∙ one.is_text;
  are_text = append-nil (pieces_text (other.piece ∷ other.pieces)) ∙ other.is_text;
  goes = λ behind more next. record {
    fits = word-fits one behind next.over next.whole.fits;
    others_fit = word-fits other more next.others_over next.whole.others_fit;
    widens = word-widens one.piece other.piece one.pieces other.pieces next.whole.widens;
  };
}

-- a word twice, where it was last on its line
pub word-twice : {bytes : List ℕ} → OneWord bytes → Part Ending Whole (bytes ++ []) (bytes ++ 32 ∷ (bytes ++ []))
word-twice one = record {
  items = Wordly one.piece one.pieces ∷ [];
  others = Wordly one.piece one.pieces ∷ Blank 32 ∷ Wordly one.piece one.pieces ∷ [];
  is_text = ap (λ (t : List ℕ). t ++ []) one.is_text;
  are_text = ap (λ (t : List ℕ). t ++ 32 ∷ (t ++ [])) one.is_text;
  goes = λ behind more next. record {
    fits = word-fits one behind next.behind.over next.behind.whole.fits;
    others_fit =
        let last = word-fits one more next.behind.others_over next.behind.whole.others_fit in
        word-fits one (Blank 32 ∷ Wordly one.piece one.pieces ∷ more) refl (fit-front (Blank 32) (Wordly one.piece one.pieces ∷ more) refl last);
    widens = added-widens one.piece one.pieces next.ends next.behind.whole.widens;
  };
}
