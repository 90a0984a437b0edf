-- The values of an accepted tree, put into its words and groups, are the tree with its values put in, which is formed and keeps its words
-- under the marks that its own programs add.
use Rattle.std.proofs.Common.{◌≡◌, ⊎_elim, ℕ, Bool, true, false, not, List, [], ◌∷◌, ◌++◌, map, append-nil, append_assoc, Option, Some, None, refl, sym, ap, ap₂, ◌∙◌, subst, codes}
use Rattle.std.specs.List.{list_any}
use Rattle.el_words.specs.declared.prog.Prog.{Prog}
use Rattle.el_words.specs.declared.prog.Prog.TheVariants.{Define, Importas, Import, Backtick, Multidefine, Multisubstitute, Exit, Forx, Forstdin, Forbacktickx}
use Rattle.el_words.specs.Prog.{name_text}
use Rattle.el_words.specs.Args.{Args, nothing, word, group, words, ◌+++◌}
use Rattle.el_subst.specs.Parts.{Part, parts_of}
use Rattle.el_subst.specs.Values.{word_value}
use Rattle.el_subst.specs.Scopes.{Scope, scope_value, put_in_scope}
use Rattle.el_options.specs.declared.table.Opt.{Opt}
use Rattle.el_options.specs.Reading.{Letter}
use Rattle.el_options.specs.declared.place.PlaceKind.{PlaceKind}
use Rattle.el_options.specs.declared.place.PlaceKind.TheVariants.{Name, Fixed, ProgramBlock, ValueBlock, NameBlock, DirectiveBlock, OptionalNumber, OptionalWord}
use Rattle.el_options.specs.Shapes.{shape_of}
use Rattle.el_options.specs.Fronts.{is_number_text}
use Rattle.el_words.specs.Number.{number_of}
use Rattle.std.specs.Prelude.{is_some}
use Rattle.std.proofs.lemmas.Bool.{cases_Bool, not-true, and_parts, and_from}
use Rattle.el_tree.specs.Trees.{Tree, End, Command, Node, Places, unplaced, one_place, text_place, block_place, values_place, names_place, directives_place, Directives, undirected, directed, written, written_places, written_directives}
use Rattle.el_tree.specs.OptionWords.{is_literal, are_literal, letters_of, StopsOptions}
use Rattle.el_tree.specs.WellFormed.{HasNoNumber, HavePlaces, AreDirectives, IsRest, IsFormed}
use Rattle.el_tree.specs.Marks.{Many, Member, has_many, puts_many, touches, keeps_one, MeetsAll, Marked, define_mark, importas_mark, names_in, marked_by, reads_positionals, own_member, both_members, directives_member, block_member, member_of, first_text, value_marks, has_letter, adds_member, members_behind}
use Rattle.el_tree.specs.Accepted.{KeepsWords, PlacesKeep, DirectivesKeep, IsAccepted}
use Rattle.el_tree.specs.ValueLaws.{KeepsStructure}
use Rattle.el_tree.specs.Settled.{the_value, settled, settled_places, settled_directives}
use Rattle.el_tree.proofs.OneWord.{none-put, value_stays, fixed_single}
use Rattle.el_tree.proofs.InScope.{scope-put-group, scope-put-none, names-stay, scope-put-literals, scope-put-single, literal_value}
use Rattle.el_tree.proofs.Programs.{name_literal}

-- ---- the next token

literal-next : (scope : Scope) (text : List ℕ) (rest : Args) → is_literal text ≡ true → put_in_scope scope (word text rest) ≡ word text (put_in_scope scope rest)
literal-next scope text rest h = scope-put-literals scope (text ∷ []) rest (and_from (is_literal text) true h refl)

stops-put : (opts : Option (List Opt)) (ended : Bool) (scope : Scope) (after : Args) → StopsOptions opts ended after → StopsOptions opts ended (put_in_scope scope after)
stops-put None false scope after h = tt
stops-put (Some opts) false scope nothing h = subst (StopsOptions (Some opts) false) (sym (scope-put-none scope)) tt
stops-put (Some opts) false scope (word text rest) h = subst (StopsOptions (Some opts) false) (sym (literal-next scope text rest h.1)) h
stops-put (Some opts) false scope (group inside rest) h = subst (StopsOptions (Some opts) false) (sym (scope-put-group scope inside rest)) tt
stops-put opts ended scope after h = tt

no-number-put : (scope : Scope) (after : Args) → HasNoNumber after → HasNoNumber (put_in_scope scope after)
no-number-put scope nothing h = subst HasNoNumber (sym (scope-put-none scope)) tt
no-number-put scope (word text rest) h = subst HasNoNumber (sym (literal-next scope text rest h.1)) h
no-number-put scope (group inside rest) h = subst HasNoNumber (sym (scope-put-group scope inside rest)) tt

-- ---- rests

rest-settled : (program : Prog) (rest : Tree) (scope : Scope) → IsRest program rest → IsRest program (settled scope rest)
rest-settled Exit (Command args) scope h = h
rest-settled Exit (Node p options places rest) scope h = h
rest-settled _ End scope h = h
rest-settled _ (Command args) scope h = h
rest-settled _ (Node p options places rest) scope h = h

-- ---- words keep one word

-- a word that keeps one word under members does under the outer ones among them
keeps-outer : (touched : Bool) (outer inner : List Member) (parts : List Part) → keeps_one touched (outer ++ inner) parts ≡ true → keeps_one touched outer parts ≡ true
keeps-outer touched [] inner parts k = refl
keeps-outer true (member ∷ outer) inner parts k =
    let both = and_parts (not (has_many member)) (keeps_one true (outer ++ inner) parts) k in
    and_from (not (has_many member)) (keeps_one true outer parts) both.0 (keeps-outer true outer inner parts both.1)
keeps-outer false (member ∷ outer) inner parts k =
    let both = and_parts (not (list_any (puts_many member) parts)) (keeps_one (list_any (touches member) parts) (outer ++ inner) parts) k in
    and_from (not (list_any (puts_many member) parts)) (keeps_one (list_any (touches member) parts) outer parts) both.0 (keeps-outer (list_any (touches member) parts) outer inner parts both.1)

pub single-value : (scope : Scope) (outer inner : List Member) (text : List ℕ) → MeetsAll scope outer → keeps_one false (outer ++ inner) (parts_of text) ≡ true → scope_value scope (text ∷ []) ≡ the_value scope text ∷ []
single-value scope outer inner text m k =
    let single = fixed_single scope outer text m (keeps-outer false outer inner (parts_of text) k) in
    single.is ∙ ap (λ (x : List ℕ). x ∷ []) (sym (ap (λ (r : List (List ℕ)). Rattle.std.specs.Prelude.slice_index_or r 0 []) single.is))

pub behind-outer-assoc : (adds : Bool) (outer inner : List Member) (member : Member) → members_behind adds (outer ++ inner) member ≡ outer ++ members_behind adds inner member
behind-outer-assoc true outer inner member = append_assoc outer inner (member ∷ [])
behind-outer-assoc false outer inner member = refl

-- behind a member that touched a word any word is kept
no-many-keeps : (touched : Bool) (members : List Member) (parts other : List Part) → keeps_one true members parts ≡ true → keeps_one touched members other ≡ true
no-many-keeps touched [] parts other k = refl
no-many-keeps true (member ∷ members) parts other k =
    let both = and_parts (not (has_many member)) (keeps_one true members parts) k in
    and_from (not (has_many member)) (keeps_one true members other) both.0 (no-many-keeps true members parts other both.1)
no-many-keeps false (member ∷ members) parts other k =
    let both = and_parts (not (has_many member)) (keeps_one true members parts) k in
    and_from (not (list_any (puts_many member) other)) (keeps_one (list_any (touches member) other) members other)
    (ap not (none-put member other (not-true (has_many member) both.0)))
    (no-many-keeps (list_any (touches member) other) members parts other both.1)

behind-outer : (outer inner : List Member) (parts : List Part) → keeps_one true (outer ++ inner) parts ≡ true → keeps_one true inner parts ≡ true
behind-outer [] inner parts k = k
behind-outer (member ∷ outer) inner parts k = behind-outer outer inner parts (and_parts (not (has_many member)) (keeps_one true (outer ++ inner) parts) k).1

value-kept : (scope : Scope) (outer inner : List Member) (text : List ℕ) → MeetsAll scope outer → keeps_one false (outer ++ inner) (parts_of text) ≡ true → keeps_one false inner (parts_of (the_value scope text)) ≡ true
value-kept [] [] inner text m k = k
value-kept [] (member ∷ outer) inner text m k = absurd m
value-kept (pairs ∷ scope) [] inner text m k = absurd m
value-kept (pairs ∷ scope) (member ∷ outer) inner text m k =
    let parts = parts_of text in
    let both = and_parts (not (list_any (puts_many member) parts)) (keeps_one (list_any (touches member) parts) (outer ++ inner) parts) k in
    ⊎_elim (λ e. no-many-keeps false inner parts (parts_of (the_value (pairs ∷ scope) text)) (behind-outer outer inner parts (subst (λ b. keeps_one b (outer ++ inner) parts ≡ true) e both.1)))
    (λ e. subst (λ (words : List (List ℕ)). keeps_one false inner (parts_of (Rattle.std.specs.Prelude.slice_index_or (scope_value scope words) 0 [])) ≡ true)
    (sym (append-nil (word_value pairs text) ∙ value_stays pairs member text m.0 e)) (value-kept scope outer inner text m.1 (subst (λ b. keeps_one b (outer ++ inner) parts ≡ true) e both.1)))
    (cases_Bool (list_any (touches member) parts))

-- ---- the marks of a tree's own programs

names-settled : (places : Places) (scope : Scope) → names_in (settled_places scope places) ≡ names_in places
names-settled (one_place (names_place names) places) scope = refl
names-settled (one_place _ places) scope = names-settled places scope
names-settled places scope = refl

first-settled : (places : Places) (kinds : List PlaceKind) (after : Args) (scope : Scope) → HavePlaces places (Name ∷ kinds) after → first_text (settled_places scope places) ≡ first_text places
first-settled (one_place (text_place text) places) kinds after scope h = literal_value scope text h.0
first-settled places kinds after scope h = absurd h

-- a name is literal, and so are the names of a block
marked-settled : (program : Prog) (letters : List Letter) (places : Places) (after : Args) (scope : Scope) → HavePlaces places (shape_of program).places after
    → marked_by program letters (settled_places scope places) ≡ marked_by program letters places
unfolding shape_of
marked-settled Define letters places after scope h = ap (λ (key : List ℕ). (key, define_mark letters) ∷ []) (first-settled places _ after scope h)
marked-settled Importas letters places after scope h = ap (λ (key : List ℕ). (key, importas_mark letters) ∷ []) (first-settled places _ after scope h)
marked-settled Import letters places after scope h = ap (λ (key : List ℕ). (key, importas_mark letters) ∷ []) (first-settled places _ after scope h)
marked-settled Forx letters places after scope h = ap (value_marks (has_letter Forx (codes "E") letters)) (first-settled places _ after scope h)
marked-settled Forstdin letters places after scope h = ap (value_marks (has_letter Forstdin (codes "E") letters)) (first-settled places _ after scope h)
marked-settled Forbacktickx letters places after scope h = ap (value_marks (has_letter Forbacktickx (codes "E") letters)) (first-settled places _ after scope h)
marked-settled Backtick letters places after scope h = ap (value_marks (has_letter Backtick (codes "E") letters)) (first-settled places _ after scope h)
marked-settled Multidefine letters places after scope h = ap (λ (names : List (List ℕ)). map (λ name. (name, Many)) names) (names-settled places scope)
marked-settled program letters places after scope h = refl

own-settled : (program : Prog) (letters : List Letter) (places : Places) (after : Args) (scope : Scope) → HavePlaces places (shape_of program).places after → own_member program letters (settled_places scope places) ≡ own_member program letters places
own-settled program letters places after scope h =
    ap (λ (marked : List Marked). let one : Member = record { marked = marked; positional = reads_positionals program } in one) (marked-settled program letters places after scope h)

directives-member-settled : (directives : Directives) (scope : Scope) → AreDirectives directives → directives_member (settled_directives scope directives) ≡ directives_member directives
directives-member-settled undirected scope h = refl
directives-member-settled (directed program options places directives) scope h =
    ap₂ both_members (own-settled program (letters_of program options) places (written_directives directives) scope h.3) (directives-member-settled directives scope h.4)

block-settled : (places : Places) (kinds : List PlaceKind) (after : Args) (scope : Scope) → HavePlaces places kinds after → block_member (settled_places scope places) ≡ block_member places
block-settled (one_place (directives_place directives) places) (DirectiveBlock ∷ kinds) after scope h = directives-member-settled directives scope h.0
block-settled (one_place (directives_place directives) places) kinds after scope h = absurd h
block-settled places kinds after scope h = refl

member-settled : (program : Prog) (letters : List Letter) (places : Places) (after : Args) (scope : Scope) → HavePlaces places (shape_of program).places after → member_of program letters (settled_places scope places) ≡ member_of program letters places
member-settled Multisubstitute letters places after scope h = block-settled places (shape_of Multisubstitute).places after scope h
member-settled program letters places after scope h = own-settled program letters places after scope h

-- ---- an accepted tree

record Settles (scope : Scope) (inner : List Member) (tree : Tree) : Type 0 where
  are_values : put_in_scope scope (written tree) ≡ written (settled scope tree)
  formed : IsFormed (settled scope tree)
  keeps : KeepsWords (settled scope tree) inner

record SettlesPlaces (scope : Scope) (inner : List Member) (places : Places) (kinds : List PlaceKind) (after : Args) : Type 0 where
  are_values : (behind : Args) → put_in_scope scope (written_places places +++ behind) ≡ written_places (settled_places scope places) +++ put_in_scope scope behind
  have : HavePlaces (settled_places scope places) kinds (put_in_scope scope after)
  keeps : PlacesKeep (settled_places scope places) inner

record SettlesDirectives (scope : Scope) (inner : List Member) (directives : Directives) : Type 0 where
  are_values : put_in_scope scope (written_directives directives) ≡ written_directives (settled_directives scope directives)
  are : AreDirectives (settled_directives scope directives)
  keeps : DirectivesKeep (settled_directives scope directives) inner

-- a name before what stands behind it
named-values : (scope : Scope) (program : Prog) (options : List (List ℕ)) (args values : Args) → are_literal options ≡ true → put_in_scope scope args ≡ values
    → put_in_scope scope (word (name_text program) (words options +++ args)) ≡ word (name_text program) (words options +++ values)
named-values scope program options args values literal is =
    scope-put-literals scope (name_text program ∷ options) args (and_from (is_literal (name_text program)) (are_literal options) (name_literal program) literal) ∙ ap (λ x. word (name_text program) (words options +++ x)) is

module _ (outer : List Member) (scope : Scope) (m : MeetsAll scope outer) where
  text-settles : (inner : List Member) (text : List ℕ) (places : Places) (kind : PlaceKind) (kinds : List PlaceKind) (after : Args) → keeps_one false (outer ++ inner) (parts_of text) ≡ true → SettlesPlaces scope inner places kinds after
      → HavePlaces (one_place (text_place (the_value scope text)) (settled_places scope places)) (kind ∷ kinds) (put_in_scope scope after) → SettlesPlaces scope inner (one_place (text_place text) places) (kind ∷ kinds) after
  text-settles inner text places kind kinds after k more have = record {
    are_values = λ behind. scope-put-single scope text (the_value scope text) (written_places places +++ behind) (single-value scope outer inner text m k) ∙ ap (word (the_value scope text)) (more.are_values behind);
    have = have;
    keeps = (value-kept scope outer inner text m k, more.keeps);
  }

  mutual
    settles : (tree : Tree) (inner : List Member) → IsFormed tree → KeepsWords tree (outer ++ inner) → Settles scope inner tree
    settles End inner f k = record { are_values = scope-put-none scope; formed = tt; keeps = tt }
    settles (Command args) inner f k = record { are_values = refl; formed = tt; keeps = tt }
    settles (Node program options places rest) inner f k =
        let letters = letters_of program options in
        let adds = adds_member program letters in
        let own : List Member = members_behind adds inner (member_of program letters places) in
        let next = settles-places places (shape_of program).places (written rest) inner f.2 k.0 in
        let more = settles rest own f.4 (subst (KeepsWords rest) (behind-outer-assoc adds outer inner (member_of program letters places)) k.1) in
        let values = next.are_values (written rest) ∙ ap (λ x. written_places (settled_places scope places) +++ x) more.are_values in
        record {
          are_values = named-values scope program options _ _ f.0.literal values;
          formed = (
            f.0,
            subst (StopsOptions (shape_of program).letters f.0.ended) values (stops-put (shape_of program).letters f.0.ended scope (written_places places +++ written rest) f.1),
            subst (HavePlaces (settled_places scope places) (shape_of program).places) more.are_values next.have,
            rest-settled program rest scope f.3,
            more.formed,
          );
          keeps = (next.keeps, subst (λ member. KeepsWords (settled scope rest) (members_behind adds inner member)) (sym (member-settled program letters places (written rest) scope f.2)) more.keeps);
        }

    settles-places : (places : Places) (kinds : List PlaceKind) (after : Args) (inner : List Member) → HavePlaces places kinds after → PlacesKeep places (outer ++ inner) → SettlesPlaces scope inner places kinds after
    settles-places unplaced [] after inner h k = record { are_values = λ behind. refl; have = tt; keeps = tt }
    settles-places unplaced (OptionalNumber ∷ []) after inner h k = record { are_values = λ behind. refl; have = no-number-put scope after h; keeps = tt }
    settles-places unplaced (OptionalWord ∷ []) after inner h k = record { are_values = λ behind. refl; have = ap (put_in_scope scope) h ∙ scope-put-none scope; keeps = tt }
    settles-places (one_place (text_place text) places) (Name ∷ kinds) after inner h k =
        let more = settles-places places kinds after inner h.1 k.1 in
        text-settles inner text places Name kinds after k.0 more (subst (λ t. is_literal t ≡ true) (sym (literal_value scope text h.0)) h.0, more.have)
    settles-places (one_place (text_place text) places) (Fixed ∷ kinds) after inner h k = let more = settles-places places kinds after inner h k.1 in text-settles inner text places Fixed kinds after k.0 more more.have
    settles-places (one_place (text_place text) places) (OptionalWord ∷ kinds) after inner h k = let more = settles-places places kinds after inner h k.1 in text-settles inner text places OptionalWord kinds after k.0 more more.have
    settles-places (one_place (text_place text) places) (OptionalNumber ∷ kinds) after inner h k =
        let more = settles-places places kinds after inner h.3 k.1 in
        let same = sym (literal_value scope text h.2) in
        text-settles inner text places OptionalNumber kinds after k.0 more
        (subst (λ t. is_number_text t ≡ true) same h.0, subst (λ t. is_some (number_of t) ≡ true) same h.1, subst (λ t. is_literal t ≡ true) same h.2, more.have)
    settles-places (one_place (block_place block) places) (ProgramBlock ∷ kinds) after inner h k =
        let one = settles block inner h.0 k.0 in
        let more = settles-places places kinds after inner h.1 k.1 in
        record { are_values = λ behind. scope-put-group scope (written block) (written_places places +++ behind) ∙ ap₂ group one.are_values (more.are_values behind); have = (one.formed, more.have); keeps = (one.keeps, more.keeps) }
    settles-places (one_place (values_place values) places) (ValueBlock ∷ kinds) after inner h k =
        let more = settles-places places kinds after inner h k in
        record { are_values = λ behind. scope-put-group scope values (written_places places +++ behind) ∙ ap (group (put_in_scope scope values)) (more.are_values behind); have = more.have; keeps = more.keeps }
    settles-places (one_place (names_place names) places) (NameBlock ∷ kinds) after inner h k =
        let more = settles-places places kinds after inner h.1 k in
        record { are_values = λ behind. scope-put-group scope (words names) (written_places places +++ behind) ∙ ap₂ group (names-stay scope names h.0) (more.are_values behind); have = (h.0, more.have); keeps = more.keeps }
    settles-places (one_place (directives_place directives) places) (DirectiveBlock ∷ kinds) after inner h k =
        let one = settles-directives directives inner h.0 k.0 in
        let more = settles-places places kinds after inner h.1 k.1 in
        record { are_values = λ behind. scope-put-group scope (written_directives directives) (written_places places +++ behind) ∙ ap₂ group one.are_values (more.are_values behind); have = (one.are, more.have); keeps = (one.keeps, more.keeps) }
    settles-places _ _ after inner h k = absurd h

    settles-directives : (directives : Directives) (inner : List Member) → AreDirectives directives → DirectivesKeep directives (outer ++ inner) → SettlesDirectives scope inner directives
    settles-directives undirected inner h k = record { are_values = scope-put-none scope; are = tt; keeps = tt }
    settles-directives (directed program options places directives) inner h k =
        let next = settles-places places (shape_of program).places (written_directives directives) inner h.3 k.0 in
        let more = settles-directives directives inner h.4 k.1 in
        let values = next.are_values (written_directives directives) ∙ ap (λ x. written_places (settled_places scope places) +++ x) more.are_values in
        record {
          are_values = named-values scope program options _ _ h.0.literal values;
          are = (
            h.0,
            h.1,
            subst (StopsOptions (shape_of program).letters h.0.ended) values (stops-put (shape_of program).letters h.0.ended scope (written_places places +++ written_directives directives) h.2),
            subst (HavePlaces (settled_places scope places) (shape_of program).places) more.are_values next.have,
            more.are,
          );
          keeps = (next.keeps, more.keeps);
        }

pub keeps-structure : (tree : Tree) (members : List Member) (scope : Scope) → IsAccepted members tree → MeetsAll scope members → KeepsStructure scope tree
keeps-structure tree members scope accepted meets =
    let all = settles members scope meets tree [] accepted.well_formed.formed (subst (KeepsWords tree) (sym (append-nil members)) accepted.keeps) in
    record { are_values = all.are_values; formed = all.formed; keeps = all.keeps }
