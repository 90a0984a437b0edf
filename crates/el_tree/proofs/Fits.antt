-- Pairs that fit what a member marks, as those of positional parameters do, whatever words `@` has.
use Rattle.std.proofs.Common.{◌≡◌, ℕ, zero, suc, ◌+◌, ◌-◌, ◌^◌, ◌<◌, ◌≤◌, ◌==◌, ◌&&◌, ◌||◌, not, Bool, true, false, if◌then◌else◌, List, [], ◌∷◌, ◌++◌, length, get_or, Some, None, refl, sym, ap, ◌∙◌, subst, codes, arith}
use Rattle.std.specs.List.{list_any}
use Rattle.std.specs.Str.{bytes_eq}
use Rattle.std.specs.Fmt.{decimal}
use Rattle.std.proofs.lemmas.Fmt.{first_decimal}
use Rattle.std.specs.Cmp.Lexicographic.{bytes_decides}
use Rattle.std.proofs.lemmas.Bool.{and_parts, or_parts, or_right}
use Rattle.std.proofs.lemmas.List.Folds.{list_any-append}
use Rattle.el_words.specs.Number.{number_of, are_digits, within_limit, decimal_value}
use Rattle.el_words.proofs.Numbers.{number_of-decimal}
use Rattle.el_subst.specs.Pairs.{numbered, numbered_pairs}
use Rattle.el_subst.specs.Values.{Pairs, words_of}
use Rattle.el_tree.specs.Marks.{Mark, Member, positional_member, is_plain_number, is_many, is_all, is_positional, marks, marks_many, IsSingle, Meets, both_members}

-- ---- equal words

pub bytes-refl : (xs : List ℕ) → bytes_eq xs xs ≡ true
bytes-refl xs = (bytes_decides xs xs).1 refl

-- ---- pairs that fit a member

-- the key is marked, and where it isn't marked Many there is one word
pub record Fits (member : Member) (key : List ℕ) (values : List (List ℕ)) : Type 0 where
  pub is_marked : marks member key ≡ true
  pub is_single : marks_many member key ≡ false → IsSingle values

abbrev pub AllFit : Member → Pairs → Type 0
AllFit member [] = Unit {0}
AllFit member (pair ∷ pairs) = Fits member pair.0 pair.1 × AllFit member pairs

fit-found : (member : Member) (pairs : Pairs) (key : List ℕ) (values : List (List ℕ)) → AllFit member pairs → words_of pairs key ≡ Some values → Fits member key values
fit-found member [] key values h e = absurd (cc)
fit-found member (pair ∷ pairs) key values h e = go (bytes_eq pair.0 key) refl e (λ e. fit-found member pairs key values h.1 e)
  where
    go : (b : Bool) → bytes_eq pair.0 key ≡ b → (if b then Some pair.1 else words_of pairs key) ≡ Some values → (words_of pairs key ≡ Some values → Fits member key values) → Fits member key values
    go true same e next =
        let is : pair.1 ≡ values = cc in
        subst (λ v. Fits member key v) is (subst (λ k. Fits member k pair.1) ((bytes_decides pair.0 key).0 same) h.0)
    go false same e next = next e

pub fit-meets : (member : Member) (pairs : Pairs) → AllFit member pairs → Meets pairs member
fit-meets member pairs h = record {
  are_marked = λ key values e. (fit-found member pairs key values h e).is_marked;
  are_single = λ key values e many. (fit-found member pairs key values h e).is_single many;
}

-- ---- two members as one

joined : (A B a b P : Bool) → ((A || B) || ((a || b) && P)) ≡ ((A || (a && P)) || (B || (b && P)))
joined true B a b P = refl
joined false B false b P = refl
joined false true true b true = refl
joined false false true b true = refl
joined false false true true false = refl
joined A B a b P = refl

module _ (a b : Member) (key : List ℕ) (values : List (List ℕ)) where
  marks-joined : marks (both_members a b) key ≡ (marks a key || marks b key)
  marks-joined =
      let is_key : List ℕ × Mark → Bool = λ pair. bytes_eq pair.0 key in
      ap (λ x. x || ((a.positional || b.positional) && is_positional key)) (list_any-append is_key a.marked b.marked) ∙ joined (list_any is_key a.marked) _ a.positional b.positional (is_positional key)

  many-joined : marks_many (both_members a b) key ≡ (marks_many a key || marks_many b key)
  many-joined =
      let is_many_key : List ℕ × Mark → Bool = λ pair. bytes_eq pair.0 key && is_many pair.1 in
      ap (λ x. x || ((a.positional || b.positional) && is_all key)) (list_any-append is_many_key a.marked b.marked) ∙ joined (list_any is_many_key a.marked) _ a.positional b.positional (is_all key)

  pub fits-left : Fits a key values → Fits (both_members a b) key values
  fits-left h = record { is_marked = marks-joined ∙ ap (λ x. x || marks b key) h.is_marked; is_single = λ e. h.is_single (or_parts (marks_many a key) (marks_many b key) (sym many-joined ∙ e)).0 }

  pub fits-right : Fits b key values → Fits (both_members a b) key values
  fits-right h = record { is_marked = marks-joined ∙ or_right (marks a key) (marks b key) h.is_marked; is_single = λ e. h.is_single (or_parts (marks_many a key) (marks_many b key) (sym many-joined ∙ e)).1 }

pub all-left : (a b : Member) (pairs : Pairs) → AllFit a pairs → AllFit (both_members a b) pairs
all-left a b [] h = tt
all-left a b (pair ∷ pairs) h = (fits-left a b pair.0 pair.1 h.0, all-left a b pairs h.1)

pub all-right : (a b : Member) (pairs : Pairs) → AllFit b pairs → AllFit (both_members a b) pairs
all-right a b [] h = tt
all-right a b (pair ∷ pairs) h = (fits-right a b pair.0 pair.1 h.0, all-right a b pairs h.1)

pub all-append : (member : Member) (pairs more : Pairs) → AllFit member pairs → AllFit member more → AllFit member (pairs ++ more)
all-append member [] more h g = g
all-append member (pair ∷ pairs) more h g = (h.0, all-append member pairs more h.1 g)

-- ---- positional parameters

single-fits : (key text : List ℕ) → is_positional key ≡ true → Fits positional_member key (text ∷ [])
single-fits key text e = record { is_marked = e; is_single = λ _. record { word = text; is = refl } }

-- a decimal number has digits, and no zero in front
plain-decimal : (n : ℕ) → 0 < n → n < 2 ^ 64 → is_plain_number (decimal n) ≡ true
plain-decimal n some small = by (decimal n) (first_decimal n some small) (number_of-decimal n small)
  where
    digits : (b : Bool) (m : ℕ) → (if b then within_limit m else None) ≡ Some n → b ≡ true
    digits true m e = refl
    digits false m e = absurd (cc)

    by : (ds : List ℕ) → 48 < get_or ds 0 0 → number_of ds ≡ Some n → is_plain_number ds ≡ true
    by [] first is = absurd (omega arith)
    by (d ∷ []) first is = (and_parts _ true (digits (are_digits (d ∷ [])) (decimal_value 0 (d ∷ [])) is)).0
    by (d ∷ next ∷ ds) first is =
        let other : (d == 48) ≡ false = grind arith in
        ap (λ b. not b && are_digits (d ∷ next ∷ ds)) other ∙ digits (are_digits (d ∷ next ∷ ds)) (decimal_value 0 (d ∷ next ∷ ds)) is

decimal-positional : (n : ℕ) → 0 < n → n < 2 ^ 64 → is_positional (decimal n) ≡ true
decimal-positional n some small = or_right (is_all (decimal n)) _ (or_right (bytes_eq (decimal n) (codes "#")) _ (plain-decimal n some small))

numbered-fit : (n more : ℕ) (args : List (List ℕ)) → 0 < n → n + more + length args ≤ 2 ^ 64 → AllFit positional_member (numbered n more args)
numbered-fit n zero [] some small = tt
numbered-fit n (suc more) [] some small = (single-fits (decimal n) [] (decimal-positional n some (omega arith)), numbered-fit (suc n) more [] (omega arith) (omega arith))
numbered-fit n zero (arg ∷ args) some small = (single-fits (decimal n) arg (decimal-positional n some (omega arith)), numbered-fit (suc n) zero args (omega arith) (omega arith))
numbered-fit n (suc more) (arg ∷ args) some small = (single-fits (decimal n) arg (decimal-positional n some (omega arith)), numbered-fit (suc n) (suc more) args (omega arith) (omega arith))

all-fits : (args : List (List ℕ)) → Fits positional_member (codes "@") args
all-fits args = record { is_marked = refl; is_single = λ e. absurd (cc) }

pub positional-fit : (first : List ℕ) (args : List (List ℕ)) (least : ℕ) (all : List (List ℕ)) → length args < 2 ^ 64 → least < 2 ^ 64 → AllFit positional_member (numbered_pairs first args least all)
positional-fit first args least all few small = (
  single-fits (codes "#") (decimal (length args)) refl,
  (
    single-fits (codes "0") first refl,
    all-append positional_member (numbered 1 (least - length args) args) ((codes "@", all) ∷ []) (numbered-fit 1 (least - length args) args (omega arith) (omega arith)) (all-fits all, tt),
  ),
)
