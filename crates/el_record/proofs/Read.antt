-- Readers, one behind the other.
use Rattle.std.proofs.Common.{◌≡◌, ℕ, ◌<◌, ◌≤◌, ◌==◌, nat_lt, if◌then◌else◌, Bool, true, false, true≢false, List, [], ◌∷◌, ◌++◌, Option, Some, None, Result, Err, refl, sym, ap, ap₂, ◌∙◌, append_assoc, append-nil}
use Rattle.std.specs.Prelude.{suc}
use Rattle.std.specs.List.{list_any}
use Rattle.std.proofs.lemmas.Bool.{lt-ltb, le-ltb}
use Rattle.std.proofs.lemmas.Option.{some_pair_parts}
use Rattle.el_record.specs.declared.reader.ReadFault.{ReadFault}
use Rattle.el_record.specs.declared.reader.ReadFault.TheVariants.{Absent, NoMemory}
use Rattle.el_world.specs.declared.event.Handle.{Handle}
use Rattle.el_record.specs.Reading.{and_read, number_of_front}
use Rattle.el_record.specs.TraceReading.{FrontRead, checked, is_word, word_at, each_at, handle_at, end_at}
use Rattle.el_record.specs.Read.{IsRead, is_dash_next, no_end_at, some_end_at}

module _ {A B : Type 0} where
  -- what stands behind what was read
  pub then_read : (first : FrontRead A) (next : A → List ℕ → FrontRead B) (a : A) (mid : List ℕ) (result : Result B ReadFault) (rest : List ℕ)
      → first ≡ Some (a, mid) → IsRead (next a mid) result rest → IsRead (and_read first next) result rest
  unfolding and_read
  then_read first next a mid result rest is read = rw is read

  -- nothing was read, and so nothing behind it
  pub fails : (first : FrontRead A) (next : A → List ℕ → FrontRead B) (fault : ReadFault) (mid : List ℕ) (result : Result B ReadFault) (rest : List ℕ)
      → IsRead first (Err fault) mid → result ≡ Err fault → IsRead (and_read first next) result rest
  unfolding and_read
  fails first next Absent mid result rest none is = rw is (rw none refl)
  fails first next NoMemory mid result rest none is = rw is tt

-- there was no memory
pub no_memory : {B : Type 0} (found : FrontRead B) (result : Result B ReadFault) (rest : List ℕ) → result ≡ Err NoMemory → IsRead found result rest
no_memory found result rest is = rw is tt

-- the same fault of the same reading
pub fails_so : {A B : Type 0} (found : FrontRead A) (other : FrontRead B) (fault : ReadFault) (mid : List ℕ) (result : Result B ReadFault) (rest : List ℕ)
    → (found ≡ None → other ≡ None) → IsRead found (Err fault) mid → result ≡ Err fault → IsRead other result rest
fails_so found other Absent mid result rest so none is = rw is (so none)
fails_so found other NoMemory mid result rest so none is = rw is tt

-- ---- tests

pub passes : {A : Type 0} (test : Bool) (a : A) (rest : List ℕ) → test ≡ true → checked test a rest ≡ Some (a, rest)
passes test a rest is = rw is refl

pub passes_not : {A : Type 0} (test : Bool) (a : A) (rest : List ℕ) → test ≡ false → checked test a rest ≡ None
passes_not test a rest is = rw is refl

-- what passes a test is the same in another form
pub passing_as : {A B : Type 0} (found : FrontRead A) (test : A → Bool) (of : A → B) (a : A) (rest : List ℕ)
    → and_read found (λ a rest. checked (test a) a rest) ≡ Some (a, rest) → and_read found (λ a rest. checked (test a) (of a) rest) ≡ Some (of a, rest)
unfolding and_read
passing_as None test of a rest e = absurd (cc)
passing_as (Some found) test of a rest e = by (test found.0) e
  where
    by : (b : Bool) → checked b found.0 found.1 ≡ Some (a, rest) → checked b (of found.0) found.1 ≡ Some (of a, rest)
    by true e = let parts = some_pair_parts found.0 a found.1 rest e in ap₂ (λ a rest. Some (of a, rest)) parts.0 parts.1
    by false e = absurd (cc)

pub passing_none : {A B : Type 0} (found : FrontRead A) (test : A → Bool) (of : A → B) → and_read found (λ a rest. checked (test a) a rest) ≡ None → and_read found (λ a rest. checked (test a) (of a) rest) ≡ None
unfolding and_read
passing_none None test of e = refl
passing_none (Some found) test of e = by (test found.0) e
  where
    by : (b : Bool) → checked b found.0 found.1 ≡ None → checked b (of found.0) found.1 ≡ None
    by true e = absurd (cc)
    by false e = refl

pub word_is : (bytes rest : List ℕ) → list_any (λ byte. byte == 0) bytes ≡ false → checked (is_word bytes) bytes rest ≡ Some (bytes, rest)
word_is bytes rest none = rw none refl

pub word_is_not : (bytes rest : List ℕ) → list_any (λ byte. byte == 0) bytes ≡ true → checked (is_word bytes) bytes rest ≡ None
word_is_not bytes rest some = rw some refl

pub is_below : (limit n m : ℕ) (rest : List ℕ) → n < limit → n ≡ m → checked (nat_lt n limit) n rest ≡ Some (m, rest)
is_below limit n m rest below same = rw (lt-ltb n limit below) (ap (λ n. Some (n, rest)) same)

pub is_not_below : (limit n : ℕ) (rest : List ℕ) → limit ≤ n → checked (nat_lt n limit) n rest ≡ None
is_not_below limit n rest above = rw (le-ltb n limit above) refl

-- ---- ends of a started process

pub dash_end : (text : List ℕ) → is_dash_next text ≡ true → no_end_at text ≡ end_at text
unfolding and_read
dash_end [] is = absurd (true≢false (sym is))
dash_end (byte ∷ rest) is = ap (λ b. if◌then◌else◌ {A = FrontRead (Option Handle)} b (Some (None, rest)) (some_end_at (byte ∷ rest))) (sym is)

pub other_end : (text : List ℕ) → is_dash_next text ≡ false → some_end_at text ≡ end_at text
unfolding and_read handle_at number_of_front
other_end [] is = refl
other_end (byte ∷ rest) is = ap (λ b. if◌then◌else◌ {A = FrontRead (Option Handle)} b (Some (None, rest)) (some_end_at (byte ∷ rest))) (sym is)

-- ---- words

-- so many words, behind those that were read
unfoldable pub each_behind : (before : List (List ℕ)) → (count : ℕ) → List ℕ → FrontRead (List (List ℕ))
each_behind before count bytes = and_read (each_at count bytes) (λ words rest. Some (before ++ words, rest))

-- at first none were read
pub each_none : (count : ℕ) (bytes : List ℕ) → each_behind [] count bytes ≡ each_at count bytes
unfolding each_behind and_read
each_none count bytes = by (each_at count bytes)
  where
    by : (found : FrontRead (List (List ℕ))) → and_read found (λ words rest. Some ([] ++ words, rest)) ≡ found
    by None = refl
    by (Some found) = refl

-- one more word
pub each_more : (before : List (List ℕ)) (count : ℕ) (bytes word rest : List ℕ) → word_at bytes ≡ Some (word, rest) → each_behind before (suc count) bytes ≡ each_behind (before ++ word ∷ []) count rest
unfolding each_behind and_read
each_more before count bytes word rest is = rw is (by (each_at count rest))
  where
    by : (found : FrontRead (List (List ℕ))) → and_read (and_read found (λ words rest. Some (word ∷ words, rest))) (λ words rest. Some (before ++ words, rest)) ≡ and_read found (λ words rest. Some ((before ++ word ∷ []) ++ words, rest))
    by None = refl
    by (Some found) = ap (λ words. Some (words, found.1)) (sym (append_assoc before (word ∷ []) found.0))

-- no further word stands there
pub each_absent : (before : List (List ℕ)) (count : ℕ) (bytes : List ℕ) → word_at bytes ≡ None → each_behind before (suc count) bytes ≡ None
unfolding each_behind and_read
each_absent before count bytes is = rw is refl

-- all were read
pub each_all : (before : List (List ℕ)) (bytes : List ℕ) → each_behind before 0 bytes ≡ Some (before, bytes)
unfolding each_behind and_read
each_all before bytes = ap (λ words. Some (words, bytes)) (append-nil before)

-- ---- the loop over words

pub each_start : (words : List (List ℕ)) (left count : ℕ) (bytes : List ℕ) → words ≡ [] → left ≡ count → each_behind words left bytes ≡ each_at count bytes
each_start words left count bytes none all = rw (none, all) (each_none count bytes)

pub each_step : (before words : List (List ℕ)) (left fewer : ℕ) (bytes word rest : List ℕ) (found : FrontRead (List (List ℕ)))
    → each_behind before left bytes ≡ found → left ≡ suc fewer → word_at bytes ≡ Some (word, rest) → words ≡ before ++ word ∷ [] → each_behind words fewer rest ≡ found
each_step before words left fewer bytes word rest found so_far one is more =
    ap (λ words. each_behind words fewer rest) more ∙ sym (each_more before fewer bytes word rest is) ∙ ap (λ n. each_behind before n bytes) (sym one) ∙ so_far

pub each_gone : (before : List (List ℕ)) (left fewer : ℕ) (bytes : List ℕ) (found : FrontRead (List (List ℕ))) → each_behind before left bytes ≡ found → left ≡ suc fewer → word_at bytes ≡ None → found ≡ None
each_gone before left fewer bytes found so_far one none = sym so_far ∙ ap (λ n. each_behind before n bytes) one ∙ each_absent before fewer bytes none

pub each_end : (before : List (List ℕ)) (left : ℕ) (bytes : List ℕ) (found : FrontRead (List (List ℕ))) → each_behind before left bytes ≡ found → left ≡ 0 → found ≡ Some (before, bytes)
each_end before left bytes found so_far none = sym so_far ∙ ap (λ n. each_behind before n bytes) none ∙ each_all before bytes
