-- What is found is exactly what is reached.
use Rattle.std.proofs.Common.{◌≡◌, ◌∙◌, ◌↔◌, sym, refl, ap, subst, ℕ, suc, ◌<◌, ◌≤◌, true, List, [], ◌∷◌, ◌++◌, append_assoc, Some, Ok, Err, inl, inr, ◌⊎◌, arith}
use Rattle.std.specs.List.{list_all}
use Rattle.std.proofs.lemmas.Bool.{and_parts}
use Rattle.el_glob.specs.declared.piece.Piece.{Piece}
use Rattle.el_glob.specs.declared.part.Part.{Part}
use Rattle.el_glob.specs.declared.part.Part.TheVariants.{Dot, DotDot, Names}
use Rattle.el_glob.specs.declared.listed.Listed.TheVariants.{Names as NamesOf, NoDirectory}
use Rattle.el_glob.specs.declared.listed.ListEvent.{ListEvent}
use Rattle.el_glob.specs.Fits.{fits}
use Rattle.el_glob.specs.Names.{IsIn}
use Rattle.el_glob.specs.Listers.{is_lawful}
use Rattle.el_glob.specs.Listings.{Answer, Globbed, Next, asked_first, one_asked, join, listed, with_names, with_joined, globbed_from, start_path, globbed}
use Rattle.el_glob.specs.Matches.{HasName, Reaches, IsMatch}
use Rattle.el_glob.specs.Written.{Written}
use Rattle.el_glob.proofs.Matches.{fits-is}
use Rattle.el_glob.proofs.Found.{in-names, names-keep, names-in, in-joined, joined-in}
use Rattle.el_glob.proofs.Depths.{depth, entries-depth, dot-depth, dots-depth, depth-join}

-- ---- listings

pub has-left : (a b : List ListEvent) (path name : List ℕ) → HasName a path name → HasName (a ++ b) path name
has-left [] b path name h = absurd h
has-left (event ∷ a) b path name (inl h) = inl h
has-left (event ∷ a) b path name (inr h) = inr (has-left a b path name h)

pub has-right : (a b : List ListEvent) (path name : List ℕ) → HasName b path name → HasName (a ++ b) path name
has-right [] b path name h = h
has-right (event ∷ a) b path name h = inr (has-right a b path name h)

has-split : (a b : List ListEvent) (path name : List ℕ) → HasName (a ++ b) path name → HasName a path name ⊎ HasName b path name
has-split [] b path name h = inr h
has-split (event ∷ a) b path name (inl h) = inl (inl h)
has-split (event ∷ a) b path name (inr h) = elim (has-split a b path name h) [ inl left ↦ inl (inr left) | inr right ↦ inr right ]

reaches-right : (a b : List ListEvent) (parts : List Part) (here path : List ℕ) → Reaches b here parts path → Reaches (a ++ b) here parts path
reaches-right a b [] here path h = h
reaches-right a b (Dot ∷ parts) here path h = reaches-right a b parts (join here (46 ∷ [])) path h
reaches-right a b (DotDot ∷ parts) here path h = reaches-right a b parts (join here (46 ∷ 46 ∷ [])) path h
reaches-right a b (Names pieces ∷ parts) here path h = (h.0, has-right a b here h.0 h.1, h.2, reaches-right a b parts (join here h.0) path h.3)

-- all answers are lawful
abbrev AreLawful : List Answer → Type 0
AreLawful answers = list_all is_lawful answers ≡ true

-- ---- one part

module _ (dir : List ℕ) (pieces : List Piece) where
  -- the path of a name of one of these directories, which fits
  abbrev Came : List ListEvent → (paths : List (List ℕ)) → (q : List ℕ) → Type 0
  Came events paths q = (path : List ℕ) × ((name : List ℕ) × (IsIn paths path × (HasName events path name × ((fits pieces name ≡ true) × (q ≡ join path name)))))

  -- What a part lists and finds, where no listing fails: its listings are of these directories, and it finds what they have that fits.
  record Unrolled (paths found : List (List ℕ)) (answers : List Answer) (next : Next) : Type 0 where
    events : List ListEvent
    found' : List (List ℕ)
    left : List Answer
    whole : listed dir pieces paths found answers next ≡ asked_first events (next found' left)
    lawful : AreLawful left
    within : (path name : List ℕ) → HasName events path name → IsIn paths path × (depth name ≡ 1)
    came : (q : List ℕ) → IsIn found' q → IsIn found q ⊎ Came events paths q
    kept : (q : List ℕ) → IsIn found q → IsIn found' q
    has : (path name : List ℕ) → HasName events path name → fits pieces name ≡ true → IsIn found' (join path name)

  -- a directory that has no names, in front
  nothing-more : (path : List ℕ) (paths found : List (List ℕ)) (answers rest : List Answer) (next : Next)
      → listed dir pieces (path ∷ paths) found answers next ≡ asked_first (one_asked dir path (Ok NoDirectory)) (listed dir pieces paths found rest next)
      → Unrolled paths found rest next → Unrolled (path ∷ paths) found answers next
  nothing-more path paths found answers rest next step u = record {
    events = one_asked dir path (Ok NoDirectory) ++ u.events;
    found' = u.found';
    left = u.left;
    whole = step ∙ ap (asked_first (one_asked dir path (Ok NoDirectory))) u.whole;
    lawful = u.lawful;
    within = λ other name h. within other name h;
    came = λ q h. elim (u.came q h) [ inl old ↦ inl old | inr c ↦ inr (c.0, (c.1.0, (inr c.1.1.0, (inr c.1.1.1.0, c.1.1.1.1)))) ];
    kept = u.kept;
    has = λ other name h is. has other name h is;
  } where
    within : (other name : List ℕ) → HasName (one_asked dir path (Ok NoDirectory) ++ u.events) other name → IsIn (path ∷ paths) other × (depth name ≡ 1)
    within other name (inl h) = absurd h.1
    within other name (inr h) = let w = u.within other name h in (inr w.0, w.1)

    has : (other name : List ℕ) → HasName (one_asked dir path (Ok NoDirectory) ++ u.events) other name → fits pieces name ≡ true → IsIn u.found' (join other name)
    has other name (inl h) is = absurd h.1
    has other name (inr h) is = u.has other name h is

  -- a directory with names, in front
  names-more : (path : List ℕ) (paths found names : List (List ℕ)) (answers : List Answer) (next : Next) → is_lawful (Ok (NamesOf names)) ≡ true
      → Unrolled paths (with_names pieces path names found) answers next → Unrolled (path ∷ paths) found (Ok (NamesOf names) ∷ answers) next
  names-more path paths found names answers next good u = record {
    events = one_asked dir path (Ok (NamesOf names)) ++ u.events;
    found' = u.found';
    left = u.left;
    whole = ap (asked_first (one_asked dir path (Ok (NamesOf names)))) u.whole;
    lawful = u.lawful;
    within = λ other name h. within other name h;
    came = λ q h. by q (u.came q h);
    kept = λ q h. u.kept q (names-keep pieces path names found q h);
    has = λ other name h is. has other name h is;
  } where
    within : (other name : List ℕ) → HasName (one_asked dir path (Ok (NamesOf names)) ++ u.events) other name → IsIn (path ∷ paths) other × (depth name ≡ 1)
    within other name (inl h) = (inl (sym h.0), entries-depth names name good h.1)
    within other name (inr h) = let w = u.within other name h in (inr w.0, w.1)

    by : (q : List ℕ) → IsIn (with_names pieces path names found) q ⊎ Came u.events paths q → IsIn found q ⊎ Came (one_asked dir path (Ok (NamesOf names)) ++ u.events) (path ∷ paths) q
    by q (inl h) = elim (in-names pieces path names found q h) [ inl old ↦ inl old | inr of ↦ inr (path, (of.0, (inl refl, (inl (refl, of.1.0), of.1.1)))) ]
    by q (inr c) = inr (c.0, (c.1.0, (inr c.1.1.0, (inr c.1.1.1.0, c.1.1.1.1))))

    has : (other name : List ℕ) → HasName (one_asked dir path (Ok (NamesOf names)) ++ u.events) other name → fits pieces name ≡ true → IsIn u.found' (join other name)
    has other name (inl h) is = subst (λ (p : List ℕ). IsIn u.found' (join p name)) h.0 (u.kept (join path name) (names-in pieces path names found name h.1 is))
    has other name (inr h) is = u.has other name h is

  unrolled : (paths found : List (List ℕ)) (answers : List Answer) (next : Next) (out : List (List ℕ)) → AreLawful answers → (listed dir pieces paths found answers next).found ≡ Some out → Unrolled paths found answers next
  unrolled [] found answers next out good is = record {
    events = [];
    found' = found;
    left = answers;
    whole = refl;
    lawful = good;
    within = λ path name h. absurd h;
    came = λ q h. inl h;
    kept = λ q h. h;
    has = λ path name h fit. absurd h;
  }
  unrolled (path ∷ paths) found [] next out good is = nothing-more path paths found [] [] next refl (unrolled paths found [] next out good is)
  unrolled (path ∷ paths) found (Ok (NamesOf names) ∷ answers) next out good is =
      let both = and_parts (is_lawful (Ok (NamesOf names))) (list_all is_lawful answers) good in
      names-more path paths found names answers next both.0 (unrolled paths (with_names pieces path names found) answers next out both.1 is)
  unrolled (path ∷ paths) found (Ok NoDirectory ∷ answers) next out good is = nothing-more path paths found (Ok NoDirectory ∷ answers) answers next refl (unrolled paths found answers next out good is)
  unrolled (path ∷ paths) found (Err fault ∷ answers) next out good is = let fails : ⊥ = cc in absurd fails

module _ (dir : List ℕ) where
  -- what goes on behind a part, where no listing fails
  after : {pieces : List Piece} {paths found : List (List ℕ)} {answers : List Answer} {next : Next} (out : List (List ℕ)) (u : Unrolled dir pieces paths found answers next)
      → (listed dir pieces paths found answers next).found ≡ Some out → (next u.found' u.left).found ≡ Some out
  after out u is = sym (ap (λ (globbed : Globbed). globbed.found) u.whole) ∙ is

  asked-after : {pieces : List Piece} {paths found : List (List ℕ)} {answers : List Answer} {next : Next} (u : Unrolled dir pieces paths found answers next)
      → (listed dir pieces paths found answers next).asked ≡ u.events ++ (next u.found' u.left).asked
  asked-after u = ap (λ (globbed : Globbed). globbed.asked) u.whole

  -- ---- found, so reached

  -- what is reached from one of the paths
  abbrev FromSome : List ListEvent → (paths : List (List ℕ)) → List Part → (q : List ℕ) → Type 0
  FromSome events paths parts q = (here : List ℕ) × (IsIn paths here × Reaches events here parts q)

  pub sound : (parts : List Part) (paths : List (List ℕ)) (answers : List Answer) (out : List (List ℕ)) (q : List ℕ) → AreLawful answers → (globbed_from dir parts paths answers).found ≡ Some out → IsIn out q
      → FromSome (globbed_from dir parts paths answers).asked paths parts q
  sound [] paths answers out q good is h = let same : paths ≡ out = cc in (q, (subst (λ (ps : List (List ℕ)). IsIn ps q) (sym same) h, refl))
  sound (Dot ∷ parts) paths answers out q good is h =
      let r = sound parts (with_joined (46 ∷ []) paths []) answers out q good is h in
      elim (in-joined (46 ∷ []) paths [] r.0 r.1.0) [
        | inl none ↦ absurd none
        | inr of ↦ (of.0, (of.1.0, subst (λ (p : List ℕ). Reaches (globbed_from dir parts (with_joined (46 ∷ []) paths []) answers).asked p parts q) of.1.1 r.1.1))
      ]
  sound (DotDot ∷ parts) paths answers out q good is h =
      let r = sound parts (with_joined (46 ∷ 46 ∷ []) paths []) answers out q good is h in
      elim (in-joined (46 ∷ 46 ∷ []) paths [] r.0 r.1.0) [
        | inl none ↦ absurd none
        | inr of ↦ (of.0, (of.1.0, subst (λ (p : List ℕ). Reaches (globbed_from dir parts (with_joined (46 ∷ 46 ∷ []) paths []) answers).asked p parts q) of.1.1 r.1.1))
      ]
  sound (Names pieces ∷ parts) paths answers out q good is h =
      let u = unrolled dir pieces paths [] answers (globbed_from dir parts) out good is in
      let later = (globbed_from dir parts u.found' u.left).asked in
      let r = sound parts u.found' u.left out q u.lawful (after out u is) h in
      elim (u.came r.0 r.1.0) [
        | inl none ↦ absurd none
        | inr c ↦ (
          c.0,
          (
            c.1.1.0,
            subst (λ (events : List ListEvent). Reaches events c.0 (Names pieces ∷ parts) q) (sym (asked-after u)) (
              c.1.0,
              has-left u.events later c.0 c.1.0 c.1.1.1.0,
              (fits-is pieces c.1.0).0 c.1.1.1.1.0,
              reaches-right u.events later parts (join c.0 c.1.0) q (subst (λ (p : List ℕ). Reaches later p parts q) c.1.1.1.1.1 r.1.1),
            ),
          ),
        )
      ]

  -- ---- reached, so found

  -- all of these lie so deep
  abbrev AreAt : (deep : ℕ) → List (List ℕ) → Type 0
  AreAt deep paths = (path : List ℕ) → IsIn paths path → depth path ≡ deep

  joined-at : (name : List ℕ) (deep : ℕ) (paths : List (List ℕ)) → depth name ≡ 1 → AreAt deep paths → AreAt (suc deep) (with_joined name paths [])
  joined-at name deep paths one at path h = elim (in-joined name paths [] path h) [
    | inl none ↦ absurd none
    | inr of ↦ ap depth of.1.1 ∙ depth-join of.0 name one ∙ ap (λ n. suc n) (at of.0 of.1.0)
  ]

  found-at : (pieces : List Piece) (deep : ℕ) (paths : List (List ℕ)) (answers : List Answer) (next : Next) (u : Unrolled dir pieces paths [] answers next) → AreAt deep paths → AreAt (suc deep) u.found'
  found-at pieces deep paths answers next u at path h = elim (u.came path h) [
    | inl none ↦ absurd none
    | inr c ↦ ap depth c.1.1.1.1.1 ∙ depth-join c.0 c.1.0 (u.within c.0 c.1.0 c.1.1.1.0).1 ∙ ap (λ n. suc n) (at c.0 c.1.1.0)
  ]

  -- what is listed lies as deep as what it begins with, or deeper
  deeper : (parts : List Part) (deep : ℕ) (paths : List (List ℕ)) (answers : List Answer) (out : List (List ℕ)) → AreLawful answers → AreAt deep paths → (globbed_from dir parts paths answers).found ≡ Some out
      → (path name : List ℕ) → HasName (globbed_from dir parts paths answers).asked path name → deep ≤ depth path
  deeper [] deep paths answers out good at is path name h = absurd h
  deeper (Dot ∷ parts) deep paths answers out good at is path name h =
      let le = deeper parts (suc deep) (with_joined (46 ∷ []) paths []) answers out good (joined-at (46 ∷ []) deep paths dot-depth at) is path name h in omega (arith, le)
  deeper (DotDot ∷ parts) deep paths answers out good at is path name h =
      let le = deeper parts (suc deep) (with_joined (46 ∷ 46 ∷ []) paths []) answers out good (joined-at (46 ∷ 46 ∷ []) deep paths dots-depth at) is path name h in omega (arith, le)
  deeper (Names pieces ∷ parts) deep paths answers out good at is path name h =
      let u = unrolled dir pieces paths [] answers (globbed_from dir parts) out good is in
      let later = (globbed_from dir parts u.found' u.left).asked in
      elim (has-split u.events later path name (subst (λ (events : List ListEvent). HasName events path name) (asked-after u) h)) [
        | inl here ↦ let same = at path (u.within path name here).0 in omega (arith, same)
        | inr there ↦ let le = deeper parts (suc deep) u.found' u.left out u.lawful (found-at pieces deep paths answers (globbed_from dir parts) u at) (after out u is) path name there in omega (arith, le)
      ]

  -- all that these listings have names of lies less deep
  abbrev IsShallow : (deep : ℕ) → List ListEvent → Type 0
  IsShallow deep events = (path name : List ℕ) → HasName events path name → depth path < deep

  shallow-more : (deep : ℕ) (events : List ListEvent) → IsShallow deep events → IsShallow (suc deep) events
  shallow-more deep events shallow path name h = let lt = shallow path name h in omega (arith, lt)

  pub complete : (parts : List Part) (deep : ℕ) (before : List ListEvent) (paths : List (List ℕ)) (answers : List Answer) (out : List (List ℕ)) → AreLawful answers → AreAt deep paths → IsShallow deep before
      → (globbed_from dir parts paths answers).found ≡ Some out → (here q : List ℕ) → IsIn paths here → Reaches (before ++ (globbed_from dir parts paths answers).asked) here parts q → IsIn out q
  complete [] deep before paths answers out good at shallow is here q h reached =
      let same : paths ≡ out = cc in
      subst (λ (ps : List (List ℕ)). IsIn ps q) same (subst (λ (p : List ℕ). IsIn paths p) (sym reached) h)
  complete (Dot ∷ parts) deep before paths answers out good at shallow is here q h reached =
      complete parts (suc deep) before (with_joined (46 ∷ []) paths []) answers out good (joined-at (46 ∷ []) deep paths dot-depth at) (shallow-more deep before shallow) is (join here (46 ∷ [])) q
      (joined-in (46 ∷ []) paths [] here h) reached
  complete (DotDot ∷ parts) deep before paths answers out good at shallow is here q h reached =
      complete parts (suc deep) before (with_joined (46 ∷ 46 ∷ []) paths []) answers out good (joined-at (46 ∷ 46 ∷ []) deep paths dots-depth at) (shallow-more deep before shallow) is (join here (46 ∷ 46 ∷ [])) q
      (joined-in (46 ∷ 46 ∷ []) paths [] here h) reached
  complete (Names pieces ∷ parts) deep before paths answers out good at shallow is here q h reached =
      complete parts (suc deep) (before ++ u.events) u.found' u.left out u.lawful deeper-at both (after out u is) (join here reached.0) q
      (u.has here reached.0 (which (has-split before (u.events ++ later) here reached.0 (subst (λ (asked : List ListEvent). HasName (before ++ asked) here reached.0) (asked-after u) reached.1))) ((fits-is pieces reached.0).1 reached.2))
      (subst (λ (events : List ListEvent). Reaches events (join here reached.0) parts q) (ap (λ asked. before ++ asked) (asked-after u) ∙ sym (append_assoc before u.events later)) reached.3)
    where
      u : Unrolled dir pieces paths [] answers (globbed_from dir parts)
      u = unrolled dir pieces paths [] answers (globbed_from dir parts) out good is

      later : List ListEvent
      later = (globbed_from dir parts u.found' u.left).asked

      deeper-at : AreAt (suc deep) u.found'
      deeper-at = found-at pieces deep paths answers (globbed_from dir parts) u at

      both : IsShallow (suc deep) (before ++ u.events)
      both path name has = elim (has-split before u.events path name has) [
        | inl old ↦ let lt = shallow path name old in omega (arith, lt)
        | inr new ↦ let same = at path (u.within path name new).0 in omega (arith, same)
      ]

      which : HasName before here reached.0 ⊎ HasName (u.events ++ later) here reached.0 → HasName u.events here reached.0
      which (inl old) = let lt = shallow here reached.0 old in let same = at here h in absurd (omega (arith, lt, same))
      which (inr new) = elim (has-split u.events later here reached.0 new) [
        | inl now ↦ now
        | inr deep' ↦ let le = deeper parts (suc deep) u.found' u.left out u.lawful deeper-at (after out u is) here reached.0 deep' in let same = at here h in absurd (omega (arith, le, same))
      ]

-- ---- a pattern

in-one : (start path : List ℕ) → IsIn (start ∷ []) path → path ≡ start
in-one start path (inl is) = is
in-one start path (inr none) = absurd none

pub matched : (dir : List ℕ) (pattern : Written) (answers : List Answer) (paths : List (List ℕ)) → AreLawful answers → (globbed dir pattern answers).found ≡ Some paths → (path : List ℕ) → IsIn paths path ↔ IsMatch (globbed dir pattern answers).asked pattern path
matched dir pattern answers paths good is path = (
  (λ h. let r = sound dir pattern.parts (start_path pattern.rooted ∷ []) answers paths path good is h in
      subst (λ (here : List ℕ). Reaches (globbed dir pattern answers).asked here pattern.parts path) (in-one (start_path pattern.rooted) r.0 r.1.0) r.1.1),
  (λ reached. complete dir pattern.parts (depth (start_path pattern.rooted)) [] (start_path pattern.rooted ∷ []) answers paths good
      (λ p h. ap depth (in-one (start_path pattern.rooted) p h)) (λ p name none. absurd none) is (start_path pattern.rooted) path (inl refl) reached),
)
