-- What is computed of a whole value is what the relations say of it.
use Rattle.std.proofs.Common.{◌≡◌, ◌↔◌, ℕ, ◌<◌, ◌≤◌, ◌^◌, ◌&&◌, ◌||◌, ◌==◌, nat_eq, eq-eqb, true≢false, Bool, true, false, if◌then◌else◌, List, [], ◌∷◌, Result, Ok, Err, MatchResult, IfOk, IfErr, refl, sym, ap, ap₂, ◌∙◌, subst, length, arith}
use Rattle.std.specs.Bool.{MatchBool}
use Rattle.std.specs.List.{list_any}
use Rattle.std.proofs.Math.Path.{fun_ext}
use Rattle.std.specs.Ordering.{nat_cmp}
use Rattle.std.specs.FinSet as set
use Rattle.std.proofs.lemmas.Result.{MatchResult-at_ok, MatchResult-at_err}
use Rattle.el_transform.specs.declared.transforming.How.{How}
use Rattle.el_transform.specs.declared.transforming.TransformFault.{TransformFault}
use Rattle.el_transform.specs.declared.transforming.TransformFault.TheVariants.{BadNetstring, NoMemory}
use Rattle.el_transform.specs.Crunching.{Delimiters, is_delimiter, crunched, chomped}
use Rattle.el_transform.specs.Splitting.{Splits}
use Rattle.el_transform.specs.Netstrings.{netstrings_text, FailsAt}
use Rattle.el_transform.specs.Transform.{prepared, has_no_delimiters, Transforms, IsBadNetstring, IsFaultAt, IsFault}
use Rattle.el_transform.specs.Computed.{crunched_after, chomped_by, split_behind, netstrings_of, Rules, prepared_by, parted_by, words_by, rules_of, listed_rules, transformed, IsAnswer}
use Rattle.el_transform.proofs.Crunched.{crunched-is, chomped-is}
use Rattle.el_transform.proofs.Split.{split_behind_splits, split_behind-splits}
use Rattle.el_transform.proofs.Filled.{netstrings_of-says, netstrings_of-text, netstrings_of-fails}

chosen : (b : Bool) (xs ys zs : List ℕ) → xs ≡ ys → (if b then xs else zs) ≡ (if b then ys else zs)
chosen true xs ys zs e = e
chosen false xs ys zs e = refl

pub prepared-is : (how : How) (value : List ℕ) → prepared how value ≡ prepared_by (rules_of how) value
prepared-is how value =
    let kept : (if how.crunch then crunched how.delims value else value) ≡ (if how.crunch then crunched_after (is_delimiter how.delims) false value else value) = chosen how.crunch _ _ value (crunched-is how.delims value) in
    ap (λ v. if how.chomp then chomped how.delims v else v) kept ∙ chosen how.chomp _ _ _ (chomped-is how.delims _)

length-crunched : (test : ℕ → Bool) (after : Bool) (bytes : List ℕ) → length (crunched_after test after bytes) ≤ length bytes
length-crunched test after [] = omega arith
length-crunched test after (byte ∷ bytes) = by (after && test byte) (length-crunched test true bytes) (length-crunched test (test byte) bytes)
  where
    by : (b : Bool) → length (crunched_after test true bytes) ≤ length bytes → length (crunched_after test (test byte) bytes) ≤ length bytes
        → length (if b then crunched_after test true bytes else byte ∷ crunched_after test (test byte) bytes) ≤ length (byte ∷ bytes)
    by true passed kept = omega arith
    by false passed kept = omega arith

length-chomped : (test : ℕ → Bool) (bytes : List ℕ) → length (chomped_by test bytes) ≤ length bytes
length-chomped test [] = omega arith
length-chomped test (byte ∷ []) = by (test byte)
  where
    by : (b : Bool) → length (if b then [] else byte ∷ []) ≤ length (byte ∷ [])
    by true = omega arith
    by false = omega arith
length-chomped test (byte ∷ next ∷ bytes) = omega (arith, length-chomped test (next ∷ bytes))

pub length-prepared : (rules : Rules) (value : List ℕ) → length (prepared_by rules value) ≤ length value
length-prepared rules value = by rules.crunch rules.chomp
  where
    by : (crunch chomp : Bool) → length (prepared_by (record rules { crunch = crunch; chomp = chomp }) value) ≤ length value
    by true true = omega (arith, length-chomped rules.ends_word (crunched_after rules.ends_word false value), length-crunched rules.ends_word false value)
    by true false = length-crunched rules.ends_word false value
    by false true = length-chomped rules.ends_word value
    by false false = omega arith

-- the words of prepared bytes, by the parts of the rules
abbrev parted : (split none : Bool) → Delimiters → List ℕ → Result (List (List ℕ)) ℕ
parted split none delims bytes = if split then (if none then netstrings_of (length bytes) bytes else Ok (split_behind (is_delimiter delims) [] bytes)) else Ok (bytes ∷ [])

abbrev AreWords : (split none : Bool) → Delimiters → List ℕ → List (List ℕ) → Type 0
AreWords split none delims bytes words = MatchBool split (MatchBool none (netstrings_text words ≡ bytes) (Splits delims bytes words)) (words ≡ bytes ∷ [])

record IsBad (split none : Bool) (bytes : List ℕ) (at : ℕ) : Type 0 where
  split_is : split ≡ true
  none_is : none ≡ true
  fails : FailsAt bytes at

parted-says : (split none : Bool) (delims : Delimiters) (bytes : List ℕ) → length bytes < 2 ^ 64 → MatchResult (parted split none delims bytes) (AreWords split none delims bytes) (IsBad split none bytes)
parted-says true true delims bytes small = by (netstrings_of (length bytes) bytes) (netstrings_of-says (length bytes) bytes (omega arith) small)
  where
    by : (r : Result (List (List ℕ)) ℕ) → MatchResult r (λ words. netstrings_text words ≡ bytes) (FailsAt bytes) → MatchResult r (AreWords true true delims bytes) (IsBad true true bytes)
    by (Ok words) is = is
    by (Err at) is = record { split_is = refl; none_is = refl; fails = is }
parted-says true false delims bytes small = split_behind_splits delims [] bytes refl
parted-says false none delims bytes small = refl

parted-words : (split none : Bool) (delims : Delimiters) (bytes : List ℕ) (words : List (List ℕ)) → length bytes < 2 ^ 64 → AreWords split none delims bytes words → parted split none delims bytes ≡ Ok words
parted-words true true delims bytes words small are = netstrings_of-text bytes words small are
parted-words true false delims bytes words small are = ap Ok (split_behind-splits are)
parted-words false none delims bytes words small are = ap Ok (sym are)

parted-bad : (split none : Bool) (delims : Delimiters) (bytes : List ℕ) (at : ℕ) → length bytes < 2 ^ 64 → IsBad split none bytes at → parted split none delims bytes ≡ Err at
parted-bad split none delims bytes at small bad = rw (bad.split_is, bad.none_is) (netstrings_of-fails bytes at small bad.fails)

prepared_small : (how : How) (value : List ℕ) → length value < 2 ^ 64 → length (prepared how value) < 2 ^ 64
prepared_small how value small = omega (arith, ap length (prepared-is how value), length-prepared (rules_of how) value)

pub transformed-is : (how : How) (value : List ℕ) → transformed how value ≡ parted_by (rules_of how) (prepared how value)
transformed-is how value = ap (parted_by (rules_of how)) (sym (prepared-is how value))

-- what is computed of a value is so
pub transformed-says : (how : How) (value : List ℕ) → length value < 2 ^ 64 → MatchResult (transformed how value) (Transforms how value) (IsBadNetstring how value)
transformed-says how value small = rw (transformed-is how value) (by _ (parted-says how.split (has_no_delimiters how) how.delims (prepared how value) (prepared_small how value small)))
  where
    by : (r : Result (List (List ℕ)) ℕ) → MatchResult r (Transforms how value) (IsBad how.split (has_no_delimiters how) (prepared how value)) → MatchResult r (Transforms how value) (IsBadNetstring how value)
    by (Ok words) is = is
    by (Err at) is = record { split = is.split_is; no_delimiters = is.none_is; fails = is.fails }

pub transformed-words : (how : How) (value : List ℕ) (words : List (List ℕ)) → length value < 2 ^ 64 → (transformed how value ≡ Ok words) ↔ Transforms how value words
transformed-words how value words small = (
  λ e. MatchResult-at_ok (Transforms how value) (IsBadNetstring how value) words e (transformed-says how value small),
  λ are. transformed-is how value ∙ parted-words how.split (has_no_delimiters how) how.delims (prepared how value) words (prepared_small how value small) are,
)

pub transformed-bad : (how : How) (value : List ℕ) (at : ℕ) → length value < 2 ^ 64 → (transformed how value ≡ Err at) ↔ IsBadNetstring how value at
transformed-bad how value at small = (
  λ e. MatchResult-at_err (Transforms how value) (IsBadNetstring how value) at e (transformed-says how value small),
  λ bad. transformed-is how value ∙ parted-bad how.split (has_no_delimiters how) how.delims (prepared how value) at (prepared_small how value small) (record { split_is = bad.split; none_is = bad.no_delimiters; fails = bad.fails }),
)

-- an answer that is the computed one is right
pub record IsRight (how : How) (value : List ℕ) (r : Result (List (List ℕ)) TransformFault) : Type 0 where
  pub ok : IfOk r (Transforms how value)
  pub bad : IfErr r (IsFault how value)
  pub exact : IsAnswer (transformed how value) r

answer_is_right : (how : How) (value : List ℕ) (r : Result (List (List ℕ)) TransformFault) → length value < 2 ^ 64 → IsAnswer (transformed how value) r → IsRight how value r
answer_is_right how value (Ok words) small is = record { ok = (transformed-words how value words small).0 is; bad = tt; exact = is }
answer_is_right how value (Err (BadNetstring at)) small is = record { ok = tt; bad = (transformed-bad how value at small).0 is; exact = is }
answer_is_right how value (Err NoMemory) small is = record { ok = tt; bad = tt; exact = tt }

-- and so is the answer for what crunching keeps
pub kept_is_right : (how : How) (value kept : List ℕ) (r : Result (List (List ℕ)) TransformFault) → length value < 2 ^ 64 → kept ≡ (if how.crunch then crunched how.delims value else value)
    → IsAnswer (parted_by (rules_of how) (if how.chomp then chomped how.delims kept else kept)) r → IsRight how value r
kept_is_right how value kept r small is answer =
    answer_is_right how value r small
    (subst (λ computed. IsAnswer computed r) (ap (λ v. parted_by (rules_of how) (if how.chomp then chomped how.delims v else v)) is ∙ sym (transformed-is how value)) answer)

pub no_memory_is_right : (how : How) (value : List ℕ) (r : Result (List (List ℕ)) TransformFault) → r ≡ Err NoMemory → IsRight how value r
no_memory_is_right how value r is = rw is (record { ok = tt; bad = tt; exact = tt })

-- the set is empty exactly where it has no delimiters
pub no_delimiters : (how : How) → how.delims ≡ set.empty → has_no_delimiters how ≡ true
no_delimiters how empty = ap (λ delims. set.len delims == 0) empty ∙ ap (λ n. n == 0) (set.len-empty nat_cmp)

pub some_delimiter : (how : How) → (how.delims ≡ set.empty → ⊥) → has_no_delimiters how ≡ false
some_delimiter how some = by (set.len how.delims == 0) refl
  where
    by : (b : Bool) → (set.len how.delims == 0) ≡ b → b ≡ false
    by true none = let is : set.len how.delims ≡ 0 = grind (arith, none) in absurd (some (set.empty_of_len how.delims is))
    by false other = refl

-- what is read as netstrings is the answer where these are asked for
pub answer-netstrings : (how : How) (bytes : List ℕ) (r : Result (List (List ℕ)) TransformFault) → length bytes < 2 ^ 64 → how.split ≡ true → has_no_delimiters how ≡ true
    → IfOk r (λ words. netstrings_text words ≡ bytes) → IfErr r (IsFaultAt (FailsAt bytes)) → IsAnswer (parted_by (rules_of how) bytes) r
answer-netstrings how bytes (Ok words) small split none ok bad = rw (split, none) (netstrings_of-text bytes words small ok)
answer-netstrings how bytes (Err (BadNetstring at)) small split none ok bad = rw (split, none) (netstrings_of-fails bytes at small bad)
answer-netstrings how bytes (Err NoMemory) small split none ok bad = tt

-- and a splitting where delimiters are given
pub answer-split : (how : How) (bytes : List ℕ) (words : List (List ℕ)) → how.split ≡ true → has_no_delimiters how ≡ false
    → Splits how.delims bytes words → parted_by (rules_of how) bytes ≡ Ok words
answer-split how bytes words split some splits = rw (split, some) (ap Ok (split_behind-splits splits))

-- a set that is made of a list has its bytes
listed : (delims : List ℕ) (byte : ℕ) → set.contains {R = nat_cmp} (set.from_list delims) byte ≡ list_any (λ delimiter. nat_eq delimiter byte) delims
listed delims byte = set.contains-from_list_nat delims byte

none_listed : (delims : List ℕ) → (set.len {R = nat_cmp} (set.from_list delims) == 0) ≡ (length delims == 0)
none_listed [] = ap (λ n. n == 0) (set.len-empty nat_cmp)
none_listed (delim ∷ delims) =
    let some : (length (delim ∷ delims) == 0) ≡ false = grind arith in
    by (set.len {R = nat_cmp} (set.from_list (delim ∷ delims)) == 0) refl ∙ sym some
  where
    itself : nat_eq delim delim ≡ true
    itself = eq-eqb delim delim refl

    by : (b : Bool) → (set.len {R = nat_cmp} (set.from_list (delim ∷ delims)) == 0) ≡ b → b ≡ false
    by true none =
        let no_bytes : set.len {R = nat_cmp} (set.from_list (delim ∷ delims)) ≡ 0 = grind (arith, none) in
        absurd (true≢false
        (sym (ap (λ b. b || list_any (λ delimiter. nat_eq delimiter delim) delims) itself)
        ∙ sym (listed (delim ∷ delims) delim)
        ∙ ap (λ s. set.contains {R = nat_cmp} s delim) (set.empty_of_len _ no_bytes)
        ∙ set.contains-empty nat_cmp delim))
    by false some = refl

pub transformed-listed : (how : How) (delims value : List ℕ) → how.delims ≡ set.from_list delims → transformed how value ≡ words_by (listed_rules how.crunch how.chomp how.split delims) value
transformed-listed how delims value is =
    ap₂ (λ none test. words_by (record { crunch = how.crunch; chomp = how.chomp; split = how.split; no_delimiters = none; ends_word = test }) value)
    (ap (λ s. set.len s == 0) is ∙ none_listed delims)
    (fun_ext (λ byte. ap (λ s. set.contains s byte) is ∙ listed delims byte))
