-- Listing after listing.
use Rattle.std.proofs.Common.{◌≡◌, ◌∙◌, sym, refl, ap, subst, ℕ, Bool, true, false, List, [], ◌∷◌, ◌++◌, append_assoc, append-nil, Some, Result, Ok, Err, cond}
use Rattle.std.specs.List.{filter}
use Rattle.std.specs.Result.{IsErrAnd, IfOk}
use Rattle.std.proofs.lemmas.Result.{err_from_is_err_and}
use Rattle.el_world.specs.World.{HasCause}
use Rattle.el_glob.specs.declared.piece.Piece.{Piece}
use Rattle.el_glob.specs.declared.part.Part.{Part}
use Rattle.el_glob.specs.declared.listed.Listed.{Listed as Directory}
use Rattle.el_glob.specs.declared.listed.Listed.TheVariants.{Names, NoDirectory}
use Rattle.el_glob.specs.declared.listed.ListFault.{ListFault}
use Rattle.el_glob.specs.declared.listed.ListFault.TheVariants.{Failed, NoMemory}
use Rattle.el_glob.specs.declared.listed.ListEvent.{ListEvent}
use Rattle.el_glob.specs.Names.{IsListing}
use Rattle.el_glob.specs.Listers.{ListerSeen, extended, listing}
use Rattle.el_glob.specs.Fits.{fits}
use Rattle.el_glob.specs.Listings.{Answer, Globbed, Next, join, placed, asked_first, one_asked, listed, with_names, with_listed, part_step, globbed_from}
use Rattle.el_glob.specs.Lists.{Listed as Added, answers_in, fitting, FitAlike, ListsFor, Lists, GoesOn, CutOff, Follows, Globs, GlobsShort, GlobsAs}
use Rattle.el_glob.proofs.Listers.{nothing_added, added_after, listed_added, failure_added, shortage_added, no_listing, no_cause, answers_in-append}

asked_first-more : (a b : List ListEvent) (globbed : Globbed) → asked_first a (asked_first b globbed) ≡ asked_first (a ++ b) globbed
asked_first-more a b globbed = ap (λ (asked : List ListEvent). record { asked = asked; found = globbed.found }) (sym (append_assoc a b globbed.asked))

-- what is left of answers behind those of two lists of events
answers-apart : (a b : List ListEvent) (more : List Answer) → answers_in (a ++ b) ++ more ≡ answers_in a ++ (answers_in b ++ more)
answers-apart a b more = ap (λ answers. answers ++ more) (answers_in-append a b) ∙ append_assoc (answers_in a) (answers_in b) more

-- ---- what fits of a listing

-- names that fit, and others among them
with_names-filter : (pieces : List Piece) (path : List ℕ) (names found : List (List ℕ)) → with_names pieces path (filter (fits pieces) names) found ≡ with_names pieces path names found
with_names-filter pieces path [] found = refl
with_names-filter pieces path (name ∷ names) found = by (fits pieces name) refl (λ found. with_names-filter pieces path names found) where
  by : (b : Bool) → fits pieces name ≡ b → ((found : List (List ℕ)) → with_names pieces path (filter (fits pieces) names) found ≡ with_names pieces path names found)
      → with_names pieces path (cond b (name ∷ filter (fits pieces) names) (filter (fits pieces) names)) found ≡ with_names pieces path names (cond b (placed found (join path name)) found)
  by true is rest = ap (λ b. with_names pieces path (filter (fits pieces) names) (cond b (placed found (join path name)) found)) is ∙ rest (placed found (join path name))
  by false is rest = rest found

with_listed-fitting : (pieces : List Piece) (path : List ℕ) (there : Directory) (found : List (List ℕ)) → with_listed pieces path there found ≡ with_names pieces path (fitting pieces there) found
with_listed-fitting pieces path (Names names) found = sym (with_names-filter pieces path names found)
with_listed-fitting pieces path NoDirectory found = refl

with_listed-alike : (pieces : List Piece) (path : List ℕ) (whole part : Directory) (found : List (List ℕ)) → fitting pieces whole ≡ fitting pieces part → with_listed pieces path whole found ≡ with_listed pieces path part found
with_listed-alike pieces path whole part found same =
    with_listed-fitting pieces path whole found ∙ ap (λ names. with_names pieces path names found) same ∙ sym (with_listed-fitting pieces path part found)

-- an answer that is handed on as it is
pub lists_itself : (old new : ListerSeen) (dir path : List ℕ) (pieces : List Piece) (answer : Answer) → new.log ≡ extended old.log (listing dir path answer) → HasCause {T = Directory} {E = ListFault} old.faults new.faults answer Failed → IfOk answer IsListing
    → ListsFor old new dir path pieces answer
lists_itself old new dir path pieces answer log cause names = record { whole = answer; log = log; cause = cause; names = names; alike = alike answer } where
  alike : (answer : Answer) → FitAlike pieces answer answer
  alike (Ok there) = refl
  alike (Err fault) = refl

-- a listing for which there is no memory
pub lists_short : (lister : ListerSeen) (dir path : List ℕ) (pieces : List Piece) (answer : Answer) → IsErrAnd answer (λ e. e ≡ NoMemory) → ListsFor lister lister dir path pieces answer
lists_short lister dir path pieces answer is = lists_itself lister lister dir path pieces answer (no_listing lister.log dir path answer is) (no_cause lister.faults answer is) (let p = err_from_is_err_and answer is in rw p.1 tt)

-- ---- one part

module _ (dir : List ℕ) (pieces : List Piece) (paths : List (List ℕ)) where
  -- On the answers found these listings were made, and what is left is to be listed from here on.
  pub record Went (old new : ListerSeen) (rest found : List (List ℕ)) : Type 0 where
    pub events : List ListEvent
    pub added : Added old new events
    pub goes_on : (more : List Answer) (next : Next) → listed dir pieces paths [] (answers_in events ++ more) next ≡ asked_first events (listed dir pieces rest found more next)

  pub went-start : (lister : ListerSeen) → Went lister lister paths []
  went-start lister = record { events = []; added = nothing_added lister; goes_on = λ more next. refl }

  -- one more answer
  went-more : {old mid new : ListerSeen} {rest found : List (List ℕ)} (found' : List (List ℕ)) (path : List ℕ) (answer : Answer) → Went old mid (path ∷ rest) found → Added mid new (one_asked dir path answer)
      → ((more : List Answer) (next : Next) → listed dir pieces (path ∷ rest) found (answer ∷ more) next ≡ asked_first (one_asked dir path answer) (listed dir pieces rest found' more next))
      → Went old new rest found'
  went-more {rest = rest} found' path answer h one step = record {
    events = h.events ++ one_asked dir path answer;
    added = added_after h.added one;
    goes_on = λ more next. ap (λ answers. listed dir pieces paths [] answers next) (answers-apart h.events (one_asked dir path answer) more) ∙ h.goes_on (answer ∷ more) next
        ∙ ap (asked_first h.events) (step more next) ∙ asked_first-more h.events (one_asked dir path answer) (listed dir pieces rest found' more next);
  }

  pub went-listed : {old mid new : ListerSeen} {rest found : List (List ℕ)} (path : List ℕ) (there : Directory) → Went old mid (path ∷ rest) found → ListsFor mid new dir path pieces (Ok there)
      → Went old new rest (with_listed pieces path there found)
  went-listed {old} {mid} {new} {rest} {found} path there h l = by l.whole l.log l.cause l.names l.alike where
    by : (whole : Answer) → new.log ≡ extended mid.log (listing dir path whole) → HasCause {T = Directory} {E = ListFault} mid.faults new.faults whole Failed → IfOk whole IsListing → FitAlike pieces whole (Ok there)
        → Went old new rest (with_listed pieces path there found)
    by (Ok whole) told cause is alike = subst (λ found'. Went old new rest found') (with_listed-alike pieces path whole there found alike)
        (went-more (with_listed pieces path whole found) path (Ok whole) h (listed_added dir path whole told cause is) (λ more next. refl))
    by (Err fault) told cause is alike = let no : ⊥ = cc in absurd no

  -- ---- how it stops

  pub went-short : {old new : ListerSeen} {rest found : List (List ℕ)} → Went old new rest found → CutOff old new (listed dir pieces paths [])
  went-short {rest = rest} {found = found} h = record {
    events = h.events;
    added = h.added;
    begun = λ more next. ((listed dir pieces rest found more next).asked, ap (λ (globbed : Globbed). globbed.asked) (h.goes_on more next));
  }

  went-none : {old mid new : ListerSeen} {rest found : List (List ℕ)} → Went old mid rest found → Added mid new [] → Went old new rest found
  went-none {old} {mid} {new} {rest} {found} h none = record {
    events = h.events;
    added = subst (λ events. Added old new events) (append-nil h.events) (added_after h.added none);
    goes_on = h.goes_on;
  }

  -- a listing that has no answer
  pub went-fault : (old mid new : ListerSeen) {rest found : List (List ℕ)} (path : List ℕ) (fault : ListFault) → Went old mid (path ∷ rest) found → ListsFor mid new dir path pieces (Err fault)
      → Follows old new (listed dir pieces paths []) (Err fault)
  went-fault old mid new {rest} {found} path fault h l = by fault l.whole l.log l.cause l.alike where
    by : (fault : ListFault) (whole : Answer) → new.log ≡ extended mid.log (listing dir path whole) → HasCause {T = Directory} {E = ListFault} mid.faults new.faults whole Failed → FitAlike pieces whole (Err fault)
        → Follows old new (listed dir pieces paths []) (Err fault)
    by fault (Ok whole) told cause alike = let no : ⊥ = cc in absurd no
    by Failed (Err Failed) told cause alike = record {
      events = h.events ++ one_asked dir path (Err Failed);
      added = added_after h.added (failure_added dir path told cause);
      ends = λ more next. ap (λ answers. listed dir pieces paths [] answers next) (answers-apart h.events (one_asked dir path (Err Failed)) more) ∙ h.goes_on (Err Failed ∷ more) next;
    }
    by NoMemory (Err NoMemory) told cause alike = went-short (went-none h (shortage_added dir path told cause))
    by Failed (Err NoMemory) told cause alike = let no : ⊥ = cc in absurd no
    by NoMemory (Err Failed) told cause alike = let no : ⊥ = cc in absurd no

  pub went-end : {old new : ListerSeen} {found : List (List ℕ)} → Went old new [] found → GoesOn old new (listed dir pieces paths []) found
  went-end h = record { events = h.events; added = h.added; goes_on = h.goes_on }

-- ---- want of memory

-- at the exit of a `?`
pub short_err : {old new : ListerSeen} {lists : Lists} (r : Result (List (List ℕ)) ListFault) → IsErrAnd r (λ e. e ≡ NoMemory) → CutOff old new lists → Follows old new lists r
short_err r is h = let p = err_from_is_err_and r is in rw (p.1, p.2) h

pub globs_short_err : {old new : ListerSeen} {pattern : List Answer → Globbed} (r : Result (List (List ℕ)) ListFault) → IsErrAnd r (λ e. e ≡ NoMemory) → GlobsShort old new pattern → GlobsAs old new pattern r
globs_short_err r is h = let p = err_from_is_err_and r is in rw (p.1, p.2) h

pub not_begun : (lister : ListerSeen) (lists : Lists) → CutOff lister lister lists
not_begun lister lists = record { events = []; added = nothing_added lister; begun = λ more next. ((lists more next).asked, refl) }

pub nothing_globbed : (lister : ListerSeen) (pattern : List Answer → Globbed) → GlobsShort lister lister pattern
nothing_globbed lister pattern = record { events = []; added = nothing_added lister; later = (pattern []).asked; begun = refl }

-- ---- parts

module _ (dir : List ℕ) (all : List Part) (start : List (List ℕ)) where
  -- On the answers found these listings were made, and what is left of the parts goes on from these paths.
  pub record Through (old new : ListerSeen) (rest : List Part) (paths : List (List ℕ)) : Type 0 where
    pub events : List ListEvent
    pub added : Added old new events
    pub goes_on : (more : List Answer) → globbed_from dir all start (answers_in events ++ more) ≡ asked_first events (globbed_from dir rest paths more)

  pub through-start : (lister : ListerSeen) → Through lister lister all start
  through-start lister = record { events = []; added = nothing_added lister; goes_on = λ more. refl }

  pub through-part : {old mid new : ListerSeen} (rest : List Part) (part : Part) (paths found : List (List ℕ)) → Through old mid (part ∷ rest) paths
      → GoesOn mid new (part_step dir part paths) found → Through old new rest found
  through-part rest part paths found h s = record {
    events = h.events ++ s.events;
    added = added_after h.added s.added;
    goes_on = λ more. ap (globbed_from dir all start) (answers-apart h.events s.events more) ∙ h.goes_on (answers_in s.events ++ more)
        ∙ ap (asked_first h.events) (s.goes_on more (globbed_from dir rest)) ∙ asked_first-more h.events s.events (globbed_from dir rest found more);
  }

  -- a part that stops
  pub through-stop : (old mid new : ListerSeen) (rest : List Part) (part : Part) (paths : List (List ℕ)) (fault : ListFault) → Through old mid (part ∷ rest) paths
      → Follows mid new (part_step dir part paths) (Err fault) → GlobsAs old new (globbed_from dir all start) (Err fault)
  through-stop old mid new rest part paths Failed h s = record {
    events = h.events ++ s.events;
    added = added_after h.added s.added;
    made = ap (globbed_from dir all start) (sym (append-nil (answers_in (h.events ++ s.events)))) ∙ ap (globbed_from dir all start) (answers-apart h.events s.events [])
        ∙ h.goes_on (answers_in s.events ++ []) ∙ ap (asked_first h.events) (s.ends [] (globbed_from dir rest));
  }
  through-stop old mid new rest part paths NoMemory h s =
      let begun = s.begun [] (globbed_from dir rest) in
      record {
        events = h.events ++ s.events;
        added = added_after h.added s.added;
        later = begun.0;
        begun = ap (λ answers. (globbed_from dir all start answers).asked) (sym (append-nil (answers_in (h.events ++ s.events))) ∙ answers-apart h.events s.events [])
            ∙ ap (λ (globbed : Globbed). globbed.asked) (h.goes_on (answers_in s.events ++ [])) ∙ ap (λ asked. h.events ++ asked) begun.1 ∙ sym (append_assoc h.events s.events begun.0);
      }

  pub through-end : {old new : ListerSeen} (paths : List (List ℕ)) → Through old new [] paths → Globs old new (globbed_from dir all start) (Some paths)
  through-end paths h = record {
    events = h.events;
    added = h.added;
    made = ap (globbed_from dir all start) (sym (append-nil (answers_in h.events))) ∙ h.goes_on [] ∙ ap (λ (asked : List ListEvent). record { asked = asked; found = Some paths }) (append-nil h.events);
  }

-- what is listed nowhere
pub goes-on-at_once : (lister : ListerSeen) (lists : Lists) (found : List (List ℕ)) → ((answers : List Answer) (next : Next) → lists answers next ≡ next found answers) → GoesOn lister lister lists found
goes-on-at_once lister lists found step = record { events = []; added = nothing_added lister; goes_on = λ more next. step more next }
