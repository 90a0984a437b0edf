-- The index of members: places of the first that pass a test, with one member more and with the last one gone.
use Rattle.el_script.proofs.Vocabulary.{and-false, or-false, or-true, drop_all, map-append, reverse-append, list_any, position_or_len, bytes_decides, bytes_eq, Global, none_there, Member, marks, is_positional, Marked, has_many}
use Rattle.std.proofs.Common.{◌≡◌, ℕ, suc, ◌≤◌, min, nat_lt, nat_eq, ◌+◌, Bool, true, false, cond, not, ◌&&◌, ◌||◌, if◌then◌else◌, List, [], ◌∷◌, ◌++◌, Option, None, Some, length, position, refl, sym, ap, ap₂, ◌∙◌, subst, arith, Vec, take, drop, reverse, is_some, append-nil, true≢false}
use Rattle.std.proofs.Math.Bool.{and-true}
use Rattle.std.proofs.Math.Seq.{take-append_seam}
use Rattle.std.proofs.lemmas.List.{append_assoc, drop-append-le, length-append, length-map, reverse-reverse}
use Rattle.std.proofs.lemmas.List.Folds.{list_any-append, position_or_len_push}
use Rattle.std.proofs.lemmas.List.Sums.{prefix_len-le-length}
use Rattle.std.specs.Option.{unwrap_or}
use Rattle.std.specs.Cmp.Lexicographic.{nat_list_eq_equiv}
use Rattle.indexmap.specs.IndexMap.{IndexMap, insert_entry}
use Rattle.indexmap.proofs.CallerLemmas.{insert_entry-new}
use Rattle.el_reader.specs.declared.members.Entered.{Entered}
use Rattle.el_reader.specs.Index.{first_or, has_key, KeyPlaces, stored_place, ArePut, Tells, entered_members, AreKept, IsIndexOf}

-- ---- the first that passes

-- it isn't behind the end
pub within-length : {A : Type 0} (passes : A → Bool) (items : List A) → position_or_len passes items ≤ length items
within-length passes items = prefix_len-le-length (λ item. not (passes item)) items

position-more : {A : Type 0} (passes : A → Bool) (items : List A) (item : A) → position passes (items ++ item ∷ []) ≡ first_or (position passes items) (passes item) (length items)
position-more passes items item = by (passes item) (position_or_len passes items) _ _ (position_or_len_push passes items item) (length-append items (item ∷ [])) (within-length passes items)
  where
    by : (has : Bool) (place more long : ℕ) → more ≡ cond (nat_eq place (length items)) (length items + cond has 0 1) place → long ≡ length items + 1 → place ≤ length items
        → cond (nat_lt more long) (Some more) None ≡ first_or (cond (nat_lt place (length items)) (Some place) None) has (length items)
    by true place more long is long_is within = grind arith
    by false place more long is long_is within = grind arith

-- by what is stored
pub stored-first : {A : Type 0} (passes : A → Bool) (items : List A) (stored : Option ℕ) (long : ℕ) → stored ≡ position passes items → long ≡ length items → unwrap_or stored long ≡ position_or_len passes items
stored-first passes items stored long is long_is = ap₂ (λ (stored : Option ℕ) (long : ℕ). unwrap_or stored long) is long_is ∙ by (position_or_len passes items) (within-length passes items)
  where
    by : (place : ℕ) → place ≤ length items → unwrap_or (cond (nat_lt place (length items)) (Some place) None) (length items) ≡ place
    by place within = grind arith

pub first-either : {A : Type 0} (one other : A → Bool) (items : List A) → position_or_len (λ item. one item || other item) items ≡ min (position_or_len one items) (position_or_len other items)
first-either one other [] = omega arith
first-either one other (item ∷ items) = by (one item) (other item) (first-either one other items)
  where
    by : (a b : Bool) → position_or_len (λ item. one item || other item) items ≡ min (position_or_len one items) (position_or_len other items)
        → cond (not (a || b)) (1 + position_or_len (λ item. one item || other item) items) 0 ≡ min (cond (not a) (1 + position_or_len one items) 0) (cond (not b) (1 + position_or_len other items) 0)
    by true b rest = omega arith
    by false true rest = omega arith
    by false false rest = omega (arith, rest)

-- a key is marked as one of the member's own, or as one of the positionals'
pub first-marked : (members : List Member) (key : List ℕ) (positional : Bool) → is_positional key ≡ positional
    → position_or_len (λ member. marks member key) members
    ≡ (if positional then min (position_or_len (λ (member : Member). has_key member.marked key) members) (position_or_len (λ (member : Member). member.positional) members) else position_or_len (λ (member : Member). has_key member.marked key) members)
first-marked members key true is =
    (λ i. position_or_len (λ (member : Member). has_key member.marked key || (ap (λ b. member.positional && b) is ∙ and-true member.positional) i) members)
    ∙ first-either (λ (member : Member). has_key member.marked key) (λ (member : Member). member.positional) members
first-marked members key false is = λ i. position_or_len (λ (member : Member). (ap (λ b. has_key member.marked key || (member.positional && b)) is ∙ ap (λ b. has_key member.marked key || b) (and-false member.positional) ∙ or-false (has_key member.marked key)) i) members

-- ---- keys that are put in

first_or-twice : (first : Option ℕ) (one other : Bool) (place : ℕ) → first_or (first_or first one place) other place ≡ first_or first (one || other) place
first_or-twice None true other place = refl
first_or-twice None false other place = refl
first_or-twice (Some first) one other place = refl

first_or-no : (first : Option ℕ) (place : ℕ) → first_or first false place ≡ first
first_or-no None place = refl
first_or-no (Some first) place = refl

stored-last : (places : KeyPlaces) (entry : Vec ℕ Global × ℕ) (key : List ℕ) → stored_place (places ++ entry ∷ []) key ≡ first_or (stored_place places key) (bytes_eq key entry.0.items) entry.1
stored-last [] entry key = by (bytes_eq key entry.0.items)
  where
    by : (same : Bool) → (if same then Some entry.1 else None) ≡ first_or None same entry.1
    by true = refl
    by false = refl
stored-last (first ∷ places) entry key = by (bytes_eq key first.0.items) (stored-last places entry key)
  where
    by : (same : Bool) → stored_place (places ++ entry ∷ []) key ≡ first_or (stored_place places key) (bytes_eq key entry.0.items) entry.1
        → (if same then Some first.1 else stored_place (places ++ entry ∷ []) key) ≡ first_or (if same then Some first.1 else stored_place places key) (bytes_eq key entry.0.items) entry.1
    by true rest = refl
    by false rest = rest

pub none-put : (place : ℕ) (old : KeyPlaces) → ArePut [] place old old
none-put place old = record { more = []; is = sym (append-nil old); added = λ key. sym (first_or-no (stored_place old key) place) }

-- one more, by what that key adds
more-put : (marked : List Marked) (one : Marked) (place : ℕ) (old now more : KeyPlaces) → ArePut marked place old now → ((key : List ℕ) → stored_place (now ++ more) key ≡ first_or (stored_place now key) (bytes_eq one.0 key) place)
    → ArePut (marked ++ one ∷ []) place old (now ++ more)
more-put marked one place old now more put adds = record {
  more = put.more ++ more;
  is = ap (λ places. places ++ more) put.is ∙ append_assoc old put.more more;
  added = λ key.
      adds key ∙ ap (λ first. first_or first (bytes_eq one.0 key) place) (put.added key) ∙ first_or-twice (stored_place old key) (has_key marked key) (bytes_eq one.0 key) place
      ∙ ap (λ has. first_or (stored_place old key) has place) (ap (λ b. has_key marked key || b) (sym (or-false (bytes_eq one.0 key))) ∙ sym (list_any-append (λ (one : Marked). bytes_eq one.0 key) marked (one ∷ [])));
}

-- a new one
pub new-put : {S : Type 0} (marked : List Marked) (one : Marked) (place : ℕ) (old : KeyPlaces) (now : IndexMap (Vec ℕ Global) ℕ S) (new : KeyPlaces) (stored : Vec ℕ Global) → ArePut marked place old now.entries
    → stored.items ≡ one.0 → is_some (stored_place now.entries one.0) ≡ false → new ≡ insert_entry (λ k l. bytes_eq k.items l.items) now.entries stored place → ArePut (marked ++ one ∷ []) place old new
new-put marked one place old now new stored put key_is none is =
    let absent : stored_place now.entries stored.items ≡ None = ap (stored_place now.entries) key_is ∙ none_there (stored_place now.entries one.0) none in
    subst (ArePut (marked ++ one ∷ []) place old) (sym (is ∙ insert_entry-new (λ k l. bytes_eq k.items l.items) now stored place absent))
    (more-put marked one place old now.entries ((stored, place) ∷ []) put
    (λ key. stored-last now.entries (stored, place) key ∙ ap (λ same. first_or (stored_place now.entries key) same place) (ap (bytes_eq key) key_is ∙ nat_list_eq_equiv.symm key one.0)))

-- one that is there
pub there-put : (marked : List Marked) (one : Marked) (place : ℕ) (old now : KeyPlaces) → ArePut marked place old now → is_some (stored_place now one.0) ≡ true → ArePut (marked ++ one ∷ []) place old now
there-put marked one place old now put there =
    subst (ArePut (marked ++ one ∷ []) place old) (append-nil now)
    (more-put marked one place old now [] put (λ key. ap (λ places. stored_place places key) (append-nil now) ∙ by key (bytes_eq one.0 key) refl (stored_place now key) refl))
  where
    by : (key : List ℕ) (same : Bool) → bytes_eq one.0 key ≡ same → (found : Option ℕ) → stored_place now key ≡ found → found ≡ first_or found same place
    by key same e (Some found) is = refl
    by key false e None is = refl
    by key true e None is = absurd (true≢false (sym there ∙ ap is_some (ap (stored_place now) ((bytes_decides one.0 key).0 e) ∙ is)))

-- ---- what it tells

behind-more : (members : List Member) (member : Member) (many : ℕ) → ((place : ℕ) → list_any has_many (drop (suc place) members) ≡ nat_lt place many)
    → (place : ℕ) → list_any has_many (drop (suc place) (members ++ member ∷ [])) ≡ nat_lt place (if has_many member then length members else many)
behind-more members member many behind place = by (nat_lt place (length members)) refl (has_many member) refl
  where
    by : (within : Bool) → nat_lt place (length members) ≡ within → (has : Bool) → has_many member ≡ has → list_any has_many (drop (suc place) (members ++ member ∷ [])) ≡ nat_lt place (if has then length members else many)
    by true within has is =
        ap (list_any has_many) (drop-append-le (suc place) members (member ∷ []) (grind arith)) ∙ list_any-append has_many (drop (suc place) members) (member ∷ [])
        ∙ ap₂ (λ (one other : Bool). one || (other || false)) (behind place) is ∙ either has
      where
        either : (has : Bool) → (nat_lt place many || (has || false)) ≡ nat_lt place (if has then length members else many)
        either true = or-true (nat_lt place many) ∙ sym within
        either false = or-false (nat_lt place many)
    by false within has is =
        let long : length (members ++ member ∷ []) ≤ suc place = grind (arith, length-append members (member ∷ [])) in
        ap (list_any has_many) (drop_all (suc place) (members ++ member ∷ []) long) ∙ neither has
      where
        neither : (has : Bool) → false ≡ nat_lt place (if has then length members else many)
        neither true = sym within
        neither false = sym (ap (list_any has_many) (drop_all (suc place) members (grind arith))) ∙ behind place

-- ---- the index

pub no-index : IsIndexOf [] [] None 0
no-index = record { tells = record { firsts = λ key. refl; first = refl; behind = λ place. grind arith }; kept = tt }

pub index-more : (entered all : List Entered) (member : Member) (keys place : ℕ) (old new : KeyPlaces) (positional : Option ℕ) (many : ℕ) → IsIndexOf entered old positional many → keys ≡ length old → place ≡ length entered
    → ArePut member.marked place old new → all ≡ entered ++ record { member = member; keys = keys; positional = positional; many = many } ∷ []
    → IsIndexOf all new (first_or positional member.positional place) (if has_many member then place else many)
index-more entered all member keys place old new positional many is keys_is place_is put all_is =
    let members = entered_members entered in
    let last : Entered = record { member = member; keys = keys; positional = positional; many = many } in
    let long : length members ≡ place = length-map entered (λ (one : Entered). one.member) ∙ sym place_is in
    let all_members : members ++ member ∷ [] ≡ entered_members all = sym (ap entered_members all_is ∙ map-append (λ (one : Entered). one.member) entered (last ∷ [])) in
    let more : ArePut member.marked (length members) old new = subst (λ n. ArePut member.marked n old new) (sym long) put in
    let back : old ≡ take keys new = sym (ap₂ (λ (n : ℕ) (places : KeyPlaces). take n places) keys_is put.is ∙ take-append_seam old put.more) in
    record {
      tells =
          subst (λ n. Tells (entered_members all) new (first_or positional member.positional n) (if has_many member then n else many)) long
          (subst (λ all. Tells all new (first_or positional member.positional (length members)) (if has_many member then length members else many)) all_members (record {
            firsts = λ key. more.added key ∙ ap (λ first. first_or first (has_key member.marked key) (length members)) (is.tells.firsts key) ∙ sym (position-more (λ (member : Member). has_key member.marked key) members member);
            first = ap (λ first. first_or first member.positional (length members)) is.tells.first ∙ sym (position-more (λ (member : Member). member.positional) members member);
            behind = behind-more members member many is.tells.behind;
          }));
      kept =
          subst (λ before. AreKept before new) (sym (ap reverse all_is ∙ reverse-append entered (last ∷ []))) (
            subst (λ before. Tells (entered_members before) (take keys new) positional many) (sym (reverse-reverse entered)) (subst (λ places. Tells members places positional many) back is.tells),
            subst (AreKept (reverse entered)) back is.kept,
          );
    }

pub index-fewer : (old new : List Entered) (last : Entered) (places : KeyPlaces) (positional : Option ℕ) (many : ℕ) → old ≡ new ++ last ∷ [] → IsIndexOf old places positional many
    → IsIndexOf new (take last.keys places) last.positional last.many
index-fewer old new last places positional many split is =
    let kept : AreKept (last ∷ reverse new) places = subst (λ all. AreKept all places) (ap reverse split ∙ reverse-append new (last ∷ [])) is.kept in
    record { tells = subst (λ before. Tells (entered_members before) (take last.keys places) last.positional last.many) (reverse-reverse new) kept.0; kept = kept.1 }
