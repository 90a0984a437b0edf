-- The pairs that a program puts in fit the marks that it adds.
use Rattle.el_room.proofs.Vocabulary.{list_all, option_and_then, decimal, Define, Importas, Import, Backtick, number_of, are_digits, within_limit, decimal_value, Vars, positionals_of, positional_pairs, Pairs, DEFINE, BACKTICK, Letter, shape_of, Trouble, NotSet, Choice, First, Second, DirectiveRead, is_in_force, directive_has, directive_value, directive_text, value_by, chosen}
use Rattle.el_script.proofs.Vocabulary.{HasOptions, Mark, One, Many, Marked, Member, positional_member, is_many, is_all, is_positional, has_letter, define_mark, importas_mark, AllFit, positional-fit}
use Rattle.el_machine.proofs.Vocabulary.{transformed, paired, unset_words, imported_words, imported, pairs_named, positioned}
use Rattle.std.proofs.Common.{◌≡◌, ℕ, zero, suc, ◌^◌, ◌<◌, ◌&&◌, ◌||◌, Bool, true, false, if◌then◌else◌, List, [], ◌∷◌, map, length, take, drop, Option, Some, None, is_some, option_map, nat_lt, unwrap_or, Result, Ok, Err, refl, sym, ap, ◌∙◌, subst, codes, lit<, arith}
use Rattle.std.specs.FinMap as finite
use Rattle.std.proofs.lemmas.Bool.{ltb-true}
use Rattle.el_env.specs.Positionals.{positionals_counted, numbered_of, with_argument}
use Rattle.el_options.specs.declared.tables.TheConstants.{IMPORTAS}
use Rattle.el_vars.specs.Define.{defined}
use Rattle.el_vars.specs.Importas.{imported_value}
use Rattle.el_vars.specs.Multidefine.{named_pairs}
use Rattle.el_tree.specs.Marks.{IsSingle}
use Rattle.el_tree.proofs.Fits.{bytes-refl, Fits, fits-left, all-right}
use Rattle.el_meaning.proofs.InForce.{has_value, chosen-has, chosen-gives, read-valued}

-- ---- one directive

abbrev pub marked_alone : List Marked → Member
marked_alone marked = record { marked = marked; positional = false }

-- a key that is marked fits where it is marked Many or has one word
one-key : (key : List ℕ) (mark : Mark) (values : List (List ℕ)) → (is_many mark ≡ false → IsSingle values) → Fits (marked_alone ((key, mark) ∷ [])) key values
one-key key mark values h = record {
  is_marked = ap (λ b. (b || false) || (false && is_positional key)) (bytes-refl key);
  is_single = λ e. h (many (is_many mark) (sym (ap (λ b. ((b && is_many mark) || false) || (false && is_all key)) (bytes-refl key)) ∙ e));
}
  where
    many : (m : Bool) → (((true && m) || false) || (false && is_all key)) ≡ false → m ≡ false
    many true e = e
    many false e = refl

-- one word fits each mark
pub word-fits : (key word : List ℕ) → AllFit (marked_alone ((key, One) ∷ [])) ((key, word ∷ []) ∷ [])
word-fits key word = (one-key key One (word ∷ []) (λ _. record { word = word; is = refl }), tt)

paired-fit : (key : List ℕ) (mark : Mark) (found : Result (List (List ℕ)) Trouble) (pairs : Pairs) → ((values : List (List ℕ)) → found ≡ Ok values → is_many mark ≡ false → IsSingle values) → paired key found ≡ Ok pairs → AllFit (marked_alone ((key, mark) ∷ [])) pairs
paired-fit key mark (Ok values) pairs h e =
    let same : (key, values) ∷ [] ≡ pairs = cc in
    subst (AllFit (marked_alone ((key, mark) ∷ []))) same (one-key key mark values (h values refl), tt)
paired-fit key mark (Err trouble) pairs h e = absurd (cc)

-- without splitting a value is one word
unsplit : (directive : DirectiveRead) (split : Bool) (value : List ℕ) (values : List (List ℕ)) → split ≡ false → transformed directive split value ≡ Ok values → IsSingle values
unsplit directive true value values e t = absurd (cc)
unsplit directive false value values e t = record { word = _; is = sym (ok-same _ values t) }
  where
    ok-same : (a b : List (List ℕ)) → (let one : Result (List (List ℕ)) Trouble = Ok a in one ≡ Ok b) → a ≡ b
    ok-same a b e = cc

-- ---- letters in force

define-splits : (letters : List Letter) → is_in_force (chosen Define letters) 115 ≡ has_letter Define (codes "s") letters
unfolding shape_of
define-splits letters = chosen-has [] letters 115 DEFINE.opts

pub backtick-puts : (letters : List Letter) → is_in_force (chosen Backtick letters) 69 ≡ has_letter Backtick (codes "E") letters
unfolding shape_of
backtick-puts letters = chosen-has (codes "iID" ∷ codes "nN" ∷ []) letters 69 BACKTICK.opts

module _ (letters : List Letter) where
  importas-splits : is_in_force (chosen Importas letters) 115 ≡ has_letter Importas (codes "s") letters
  unfolding shape_of
  importas-splits = chosen-has (codes "iD" ∷ []) letters 115 IMPORTAS.opts

  importas-insists : is_in_force (chosen Importas letters) 105 ≡ has_letter Importas (codes "i") letters
  unfolding shape_of
  importas-insists = chosen-has (codes "iD" ∷ []) letters 105 IMPORTAS.opts

  importas-defaults : is_in_force (chosen Importas letters) 68 ≡ has_letter Importas (codes "D") letters
  unfolding shape_of
  importas-defaults = chosen-has (codes "iD" ∷ []) letters 68 IMPORTAS.opts

  -- `-D` has a value
  default-given : list_all (has_value 68) letters ≡ true → has_letter Importas (codes "D") letters ≡ true → is_some (value_by (chosen Importas letters) 68) ≡ true
  unfolding shape_of
  default-given valued has = chosen-gives (codes "iD" ∷ []) IMPORTAS.opts letters 68 valued (importas-defaults ∙ has)

pub default-valued : (options : List (List ℕ)) (read : HasOptions Importas options) → list_all (has_value 68) read.letters ≡ true
unfolding shape_of
default-valued options read = read-valued IMPORTAS.opts 68 refl 1 None options read.letters read.used [] read.ended read.are_read

-- and so has that of import
pub import-valued : (options : List (List ℕ)) (read : HasOptions Import options) → list_all (has_value 68) read.letters ≡ true
unfolding shape_of
import-valued options read = read-valued IMPORTAS.opts 68 refl 1 None options read.letters read.used [] read.ended read.are_read

-- ---- define and importas

split-many : (split : Bool) → is_many (if split then Many else One) ≡ false → split ≡ false
split-many true e = absurd (cc)
split-many false e = refl

pub defined-fit : (letters : List Letter) (directive : DirectiveRead) (key : List ℕ) (pairs : Pairs) → directive.letters ≡ chosen Define letters → directive_text First directive ≡ key → defined directive ≡ Ok pairs
    → AllFit (marked_alone ((key, define_mark letters) ∷ [])) pairs
defined-fit letters directive key pairs same is e =
    paired-fit key (define_mark letters) (transformed directive (directive_has (codes "s") directive) (directive_text Second directive)) pairs
    (λ values t many. unsplit directive (directive_has (codes "s") directive) (directive_text Second directive) values (ap (λ (choices : List Choice). is_in_force choices 115) same ∙ define-splits letters ∙ split-many (has_letter Define (codes "s") letters) many) t)
    (ap (λ (key : List ℕ). paired key (transformed directive (directive_has (codes "s") directive) (directive_text Second directive))) (sym is) ∙ e)

abbrev mark_at : (splits insists defaults : Bool) → Mark
mark_at splits insists defaults = if splits then Many else (if insists || defaults then One else Many)

mark-splits : (splits insists defaults : Bool) → is_many (mark_at splits insists defaults) ≡ false → splits ≡ false
mark-splits true insists defaults e = absurd (cc)
mark-splits false insists defaults e = refl

-- one word alone is marked where the variable must be set, or where there is a default
mark-insists : (splits insists defaults : Bool) → insists ≡ false → is_many (mark_at splits insists defaults) ≡ false → defaults ≡ true
mark-insists true insists defaults never e = absurd (cc)
mark-insists false true defaults never e = absurd (cc)
mark-insists false false true never e = refl
mark-insists false false false never e = absurd (cc)

module _ (letters : List Letter) (directive : DirectiveRead) (key : List ℕ) (pairs : Pairs) (same : directive.letters ≡ chosen Importas letters) (valued : list_all (has_value 68) letters ≡ true) where
  Imported : Result (List (List ℕ)) Trouble → Type 0
  Imported words = paired key words ≡ Ok pairs → AllFit (marked_alone ((key, importas_mark letters) ∷ [])) pairs

  value-fit : (value : List ℕ) → Imported (imported_value directive value)
  unfolding Imported
  value-fit value e =
      paired-fit key (importas_mark letters) (imported_value directive value) pairs
      (λ values t many. unsplit directive (directive_has (codes "s") directive) value values
      (ap (λ (choices : List Choice). is_in_force choices 115) same ∙ importas-splits letters ∙ mark-splits (has_letter Importas (codes "s") letters) (has_letter Importas (codes "i") letters) (has_letter Importas (codes "D") letters) many) t) e

  unset-fit : (default : Option (List ℕ)) → directive_value (codes "D") directive ≡ default → Imported (unset_words directive default)
  unfolding Imported
  unset-fit (Some value) is e = value-fit value e
  unset-fit None is e = by (directive_has (codes "i") directive) refl e
    where
      no_default : has_letter Importas (codes "i") letters ≡ false → is_many (importas_mark letters) ≡ false → ⊥
      no_default never many =
          let has = mark-insists (has_letter Importas (codes "s") letters) (has_letter Importas (codes "i") letters) (has_letter Importas (codes "D") letters) never many in
          let given : is_some (directive_value (codes "D") directive) ≡ true = ap (λ (choices : List Choice). is_some (value_by choices 68)) same ∙ default-given letters valued has in
          let none : is_some (directive_value (codes "D") directive) ≡ false = ap is_some is in
          cc

      by : (insists : Bool) → directive_has (codes "i") directive ≡ insists → paired key (if insists then Err NotSet else Ok []) ≡ Ok pairs → AllFit (marked_alone ((key, importas_mark letters) ∷ [])) pairs
      by true is e = absurd (cc)
      by false is e =
          let one : (key, []) ∷ [] ≡ pairs = cc in
          let not_in_force : has_letter Importas (codes "i") letters ≡ false = sym (importas-insists letters) ∙ sym (ap (λ (choices : List Choice). is_in_force choices 105) same) ∙ is in
          subst (AllFit (marked_alone ((key, importas_mark letters) ∷ []))) one (one-key key (importas_mark letters) [] (λ many. absurd (no_default not_in_force many)), tt)

  words-fit : (value : Option (List ℕ)) → Imported (imported_words directive value)
  words-fit (Some value) = value-fit value
  words-fit None = unset-fit (directive_value (codes "D") directive) refl

  pub imported-fit : (env : Vars) → directive_text First directive ≡ key → imported directive env ≡ Ok pairs → AllFit (marked_alone ((key, importas_mark letters) ∷ [])) pairs
  unfolding Imported
  imported-fit env is e =
      let found = finite.get env (directive_text Second directive) in
      words-fit found (ap (λ (key : List ℕ). paired key (imported_words directive found)) (sym is) ∙ e)

-- ---- multidefine

-- names are marked Many
abbrev pub names_member : List (List ℕ) → Member
names_member names = marked_alone (map (λ name. (name, Many)) names)

named-fit : (names words : List (List ℕ)) → AllFit (names_member names) (named_pairs names words)
named-fit [] words = tt
named-fit ([] ∷ names) words = all-right (marked_alone (([], Many) ∷ [])) (names_member names) (named_pairs names (drop 1 words)) (named-fit names (drop 1 words))
named-fit ((byte ∷ bytes) ∷ names) words = (
  fits-left (marked_alone ((byte ∷ bytes, Many) ∷ [])) (names_member names) (byte ∷ bytes) (take 1 words) (one-key (byte ∷ bytes) Many (take 1 words) (λ e. absurd (cc))),
  all-right (marked_alone ((byte ∷ bytes, Many) ∷ [])) (names_member names) (named_pairs names (drop 1 words)) (named-fit names (drop 1 words)),
)

pub multidefined-fit : (names : List (List ℕ)) (found : Result (List (List ℕ)) Trouble) (pairs : Pairs) → pairs_named names found ≡ Ok pairs → AllFit (names_member names) pairs
multidefined-fit names (Ok words) pairs e = let same : named_pairs names words ≡ pairs = cc in subst (AllFit (names_member names)) same (named-fit names words)
multidefined-fit names (Err trouble) pairs e = absurd (cc)

-- ---- elgetpositionals

-- a number has 64 bits
within-small : (m n : ℕ) → within_limit m ≡ Some n → n < 2 ^ 64
within-small m n e = go (nat_lt m (2 ^ 64)) refl e
  where
    go : (b : Bool) → nat_lt m (2 ^ 64) ≡ b → (if b then Some m else None) ≡ Some n → n < 2 ^ 64
    go true lt e = let same : m ≡ n = cc in subst (λ k. k < 2 ^ 64) same (ltb-true m (2 ^ 64) lt)
    go false lt e = absurd (cc)

number-small : (text : List ℕ) (n : ℕ) → number_of text ≡ Some n → n < 2 ^ 64
number-small [] n e = absurd (cc)
number-small (byte ∷ bytes) n e = go (are_digits (byte ∷ bytes)) e
  where
    go : (b : Bool) → (if b then within_limit (decimal_value 0 (byte ∷ bytes)) else None) ≡ Some n → n < 2 ^ 64
    go true e = within-small (decimal_value 0 (byte ∷ bytes)) n e
    go false e = absurd (cc)

pub least-small : (text : Option (List ℕ)) → unwrap_or (option_and_then number_of text) 0 < 2 ^ 64
least-small None = lit< tt
least-small (Some text) = by (number_of text) refl
  where
    by : (number : Option ℕ) → number_of text ≡ number → unwrap_or number 0 < 2 ^ 64
    by None e = lit< tt
    by (Some n) e = number-small text n e

numbered-length : (count n : ℕ) (env : Vars) (args : List (List ℕ)) → numbered_of count n env ≡ Some args → length args ≡ count
numbered-length zero n env args e = let none : [] ≡ args = cc in ap length (sym none)
numbered-length (suc count) n env args e = go (finite.get env (decimal n)) (numbered_of count (suc n) env) e (λ others e. numbered-length count (suc n) env others e)
  where
    go : (first : Option (List ℕ)) (others : Option (List (List ℕ))) → with_argument first others ≡ Some args → ((found : List (List ℕ)) → others ≡ Some found → length found ≡ count) → length args ≡ suc count
    go None others e next = absurd (cc)
    go (Some first) None e next = absurd (cc)
    go (Some first) (Some found) e next = let same : first ∷ found ≡ args = cc in ap length (sym same) ∙ ap suc (next found refl)

positionals-few : (env : Vars) (first : List ℕ) (args : List (List ℕ)) → positionals_of env ≡ Some (first, args) → length args < 2 ^ 64
positionals-few env first args e = by_text (finite.get env (codes "#")) (finite.get env (codes "0")) e
  where
    by_args : (count : ℕ) (found : Option (List (List ℕ))) (z : List ℕ) → count < 2 ^ 64 → ((others : List (List ℕ)) → found ≡ Some others → length others ≡ count) → option_map {U = List ℕ × List (List ℕ)} (λ (args : List (List ℕ)). (z, args)) found ≡ Some (first, args) → length args < 2 ^ 64
    by_args count None z small len e = absurd (cc)
    by_args count (Some others) z small len e =
        let both : ◌≡◌ {A = List ℕ × List (List ℕ)} (z, others) (first, args) = cc in
        let same : others ≡ args = ap (λ (p : List ℕ × List (List ℕ)). p.1) both in
        let is = len others refl in
        subst (λ (xs : List (List ℕ)). length xs < 2 ^ 64) same (omega arith)

    by_count : (count : Option ℕ) (z : Option (List ℕ)) → ((n : ℕ) → count ≡ Some n → n < 2 ^ 64) → positionals_counted count z env ≡ Some (first, args) → length args < 2 ^ 64
    by_count None z small e = absurd (cc)
    by_count (Some count) None small e = absurd (cc)
    by_count (Some count) (Some z) small e = by_args count (numbered_of count 1 env) z (small count refl) (λ others e. numbered-length count 1 env others e) e

    by_text : (text z : Option (List ℕ)) → positionals_counted (option_and_then number_of text) z env ≡ Some (first, args) → length args < 2 ^ 64
    by_text None z e = absurd (cc)
    by_text (Some text) z e = by_count (number_of text) z (λ n e. number-small text n e) e

pub positioned-fit : (least : ℕ) (env : Vars) (pairs : Pairs) → least < 2 ^ 64 → positioned least (positionals_of env) ≡ Ok pairs → AllFit positional_member pairs
positioned-fit least env pairs small e = by (positionals_of env) refl e
  where
    by : (found : Option (List ℕ × List (List ℕ))) → positionals_of env ≡ found → positioned least found ≡ Ok pairs → AllFit positional_member pairs
    by None f e = absurd (cc)
    by (Some found) f e =
        let same : positional_pairs found.0 found.1 least ≡ pairs = cc in
        subst (AllFit positional_member) same (positional-fit found.0 found.1 least found.1 (positionals-few env found.0 found.1 f) small)
