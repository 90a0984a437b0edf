-- What each program puts in meets the marks that it adds, and it goes on with its rest only where that is a chain.
use Rattle.el_script.proofs.Vocabulary.{list_all, Prog, Define, Importas, Import, Multidefine, Multisubstitute, Elgetpositionals, Backtick, name_text, Args, Pairs, Scope, PlaceKind, Name, Fixed, ProgramBlock, ValueBlock, DirectiveBlock, OptionalNumber, OptionalWord, Letter, shape_of, Chain, is_directive, texts_of, names_of, Tree, Places, unplaced, one_place, text_place, block_place, values_place, names_place, directives_place, Directives, undirected, directed, written_directives, letters_of, HasOptions, HavePlaces, AreDirectives, One, Member, Meets, value_marks, names_in, own_member, both_members, directives_member, member_of, literal_value, AllFit, fit-meets}
use Rattle.el_room.proofs.Vocabulary.{Vars, and_then, State, AllGiven, given-any, given-weaker, Trouble, BadName, NotSet, complaint, refused, First, DirectiveRead, Read, block_at, chosen, blocks_of, directive_value, own_directive, directive_read, Way, onward, under, into, on}
use Rattle.el_machine.proofs.Vocabulary.{imported, as_importas, import, has_good_names, pairs_by, joined_pairs, all_pairs, put_or_refused, substituting, multisubstitute, substitute_alone, puts_values, names_well, value_pairs, output_of, value_from, put_in, going_on, backtick, effect, have_trees_alone}
use Rattle.std.proofs.Common.{◌≡◌, ℕ, Bool, true, false, if◌then◌else◌, List, [], ◌∷◌, ◌++◌, map, append-nil, slice_index_or, Option, Some, None, codes, Result, Ok, Err, refl, sym, ap, ◌∙◌, subst}
use Rattle.el_world.proofs.Upto.{given-then, given-go_on}
use Rattle.el_pipes.specs.Backtick.{set_to}
use Rattle.el_machine.specs.Ways.{MayGo, puts_in}
use Rattle.el_machine.proofs.HoldsPrograms.{effect-ways}
use Rattle.el_tree.proofs.Fits.{all-left, all-right, all-append}
use Rattle.el_check.specs.Operands.{operands_in, directives_in}
use Rattle.el_meaning.specs.Operands.{read_in}
use Rattle.el_check.proofs.Fronts.{letters_read}
use Rattle.el_meaning.proofs.InForce.{has_value}
use Rattle.el_meaning.proofs.Pairs.{marked_alone, word-fits, names_member, backtick-puts, default-valued, import-valued, defined-fit, imported-fit, multidefined-fit, least-small, positioned-fit}

-- ---- ways

-- with its rest a program goes on only where that is a chain, and its pairs meet the member; with a block only where its blocks are
-- program blocks
abbrev pub WayMeets : Prog → Member → Way → Type 0
WayMeets program member (onward state) = (shape_of program).rest ≡ Chain
WayMeets program member (under pairs state) = ((shape_of program).rest ≡ Chain) × Meets pairs member
WayMeets program member (into block state) = have_trees_alone (shape_of program).places ≡ true

-- a program that puts in no values goes on as its shape says
others-meet : (program : Prog) (member : Member) (read : Read) (state : State) → puts_in program ≡ false → AllGiven (WayMeets program member) (effect program read state)
others-meet program member read state none =
    given-weaker (MayGo program) (WayMeets program member) (effect program read state) (elim [ onward state ↦ λ h. h | under pairs state ↦ λ h. let puts = h.1 in absurd (cc) | into block state ↦ λ h. h ])
    (effect-ways program read state)

refused-given : {A : Type 0} (P : A → Type 0) (state : State) (name : List ℕ) (trouble : Trouble) → AllGiven P (refused state name trouble)
unfolding refused
refused-given P state name trouble = given-go_on P (complaint state.fds name trouble) _ (λ _. tt)

-- ---- one directive

-- its blocks are of names
abbrev is_name_kind : PlaceKind → Bool
is_name_kind ProgramBlock = false
is_name_kind ValueBlock = false
is_name_kind _ = true

names-listed : (places : Places) (kinds : List PlaceKind) (after : Args) (scope : Scope) → list_all is_name_kind kinds ≡ true → HavePlaces places kinds after → names_of (operands_in scope places) ≡ names_in places
names-listed unplaced kinds after scope e h = refl
names-listed (one_place (text_place text) places) (Name ∷ kinds) after scope e h = names-listed places kinds after scope e h.1
names-listed (one_place (text_place text) places) (Fixed ∷ kinds) after scope e h = names-listed places kinds after scope e h
names-listed (one_place (text_place text) places) (OptionalWord ∷ kinds) after scope e h = names-listed places kinds after scope e h
names-listed (one_place (text_place text) places) (OptionalNumber ∷ kinds) after scope e h = names-listed places kinds after scope e h.3
names-listed (one_place (block_place block) places) (ProgramBlock ∷ kinds) after scope e h = absurd (cc)
names-listed (one_place (values_place values) places) (ValueBlock ∷ kinds) after scope e h = absurd (cc)
names-listed (one_place (names_place names) places) kinds after scope e h = refl
names-listed (one_place (directives_place directives) places) (DirectiveBlock ∷ kinds) after scope e h = names-listed places kinds after scope e h.1
names-listed _ _ after scope e h = absurd h

names-first : (places : Places) (kinds : List PlaceKind) (after : Args) (scope : Scope) → list_all is_name_kind kinds ≡ true → HavePlaces places kinds after → slice_index_or (blocks_of (operands_in scope places)) 0 [] ≡ names_in places
names-first unplaced kinds after scope e h = refl
names-first (one_place (text_place text) places) (Name ∷ kinds) after scope e h = names-first places kinds after scope e h.1
names-first (one_place (text_place text) places) (Fixed ∷ kinds) after scope e h = names-first places kinds after scope e h
names-first (one_place (text_place text) places) (OptionalWord ∷ kinds) after scope e h = names-first places kinds after scope e h
names-first (one_place (text_place text) places) (OptionalNumber ∷ kinds) after scope e h = names-first places kinds after scope e h.3
names-first (one_place (block_place block) places) (ProgramBlock ∷ kinds) after scope e h = absurd (cc)
names-first (one_place (values_place values) places) (ValueBlock ∷ kinds) after scope e h = absurd (cc)
names-first (one_place (names_place names) places) kinds after scope e h = refl
names-first (one_place (directives_place directives) places) (DirectiveBlock ∷ kinds) after scope e h = names-first places kinds after scope e h.1
names-first _ _ after scope e h = absurd h

lists-names : (program : Prog) → is_directive program ≡ true → list_all is_name_kind (shape_of program).places ≡ true
unfolding shape_of
lists-names Define d = refl
lists-names Importas d = refl
lists-names Multidefine d = refl
lists-names Elgetpositionals d = refl
lists-names program d = absurd (cc)

-- a directive as its program read it in a scope
record IsReadAs (program : Prog) (letters : List Letter) (places : Places) (scope : Scope) (directive : DirectiveRead) : Type 0 where
  pub letters_are : directive.letters ≡ chosen program letters
  pub texts_are : directive.texts ≡ texts_of (operands_in scope places)
  pub names_are : directive.names ≡ names_in places

pairs-fit : (program : Prog) (options : List (List ℕ)) (places : Places) (after : Args) (scope : Scope) (directive : DirectiveRead) (env : Vars) (pairs : Pairs) → HasOptions program options → HavePlaces places (shape_of program).places after
    → IsReadAs program (letters_of program options) places scope directive → pairs_by program directive env ≡ Ok pairs → AllFit (own_member program (letters_of program options) places) pairs
unfolding shape_of
pairs-fit Define options (one_place (text_place text) places) after scope directive env pairs read h is e =
    defined-fit (letters_of Define options) directive text pairs is.letters_are (ap (λ (texts : List (List ℕ)). slice_index_or texts 0 []) is.texts_are ∙ literal_value scope text h.0) e
pairs-fit Define options places after scope directive env pairs read h is e = absurd h
pairs-fit Importas options (one_place (text_place text) places) after scope directive env pairs read h is e =
    imported-fit (letters_of Importas options) directive text pairs is.letters_are (ap (list_all (has_value 68)) (letters_read Importas options read) ∙ default-valued options read) env
    (ap (λ (texts : List (List ℕ)). slice_index_or texts 0 []) is.texts_are ∙ literal_value scope text h.0) e
pairs-fit Importas options places after scope directive env pairs read h is e = absurd h
pairs-fit Multidefine options places after scope directive env pairs read h is e =
    subst (λ (names : List (List ℕ)). AllFit (names_member names) pairs) is.names_are (multidefined-fit directive.names _ pairs e)
pairs-fit Elgetpositionals options places after scope directive env pairs read h is e =
    positioned-fit _ env pairs (least-small (directive_value (codes "P") directive)) e
pairs-fit program options places after scope directive env pairs read h is e =
    let none : [] ≡ pairs = cc in subst (AllFit (own_member program (letters_of program options) places)) none tt

-- ---- all of a block

all-fit : (directives : Directives) (scope : Scope) (env : Vars) (pairs : Pairs) → AreDirectives directives → all_pairs (map directive_read (directives_in scope directives)) env ≡ Ok pairs → AllFit (directives_member directives) pairs
all-fit undirected scope env pairs h e = let none : [] ≡ pairs = cc in subst (AllFit (directives_member undirected)) none tt
all-fit (directed program options places directives) scope env pairs h e =
    by (pairs_by program one env) (all_pairs (map directive_read (directives_in scope directives)) env)
    (λ pairs e. pairs-fit program options places (written_directives directives) scope one env pairs h.0 h.3 (record { letters_are = refl; texts_are = refl; names_are = names-listed places (shape_of program).places (written_directives directives) scope (lists-names program h.1) h.3 }) e)
    (λ pairs e. all-fit directives scope env pairs h.4 e) e
  where
    one : DirectiveRead
    one = record { program = program; letters = chosen program (letters_of program options); texts = texts_of (operands_in scope places); names = names_of (operands_in scope places) }

    own : Member
    own = own_member program (letters_of program options) places

    by : (first others : Result Pairs Trouble) → ((pairs : Pairs) → first ≡ Ok pairs → AllFit own pairs) → ((pairs : Pairs) → others ≡ Ok pairs → AllFit (directives_member directives) pairs)
        → joined_pairs first others ≡ Ok pairs → AllFit (both_members own (directives_member directives)) pairs
    by (Ok first) (Ok more) f g e =
        let same : first ++ more ≡ pairs = cc in
        subst (AllFit (both_members own (directives_member directives))) same
        (all-append (both_members own (directives_member directives)) first more (all-left own (directives_member directives) first (f first refl)) (all-right own (directives_member directives) more (g more refl)))
    by (Ok first) (Err trouble) f g e = absurd (cc)
    by (Err trouble) others f g e = absurd (cc)

-- ---- programs that put in values

substituting-meets : (program : Prog) (member : Member) (directives : List DirectiveRead) (state : State) → (shape_of program).rest ≡ Chain → ((pairs : Pairs) → all_pairs directives state.env ≡ Ok pairs → AllFit member pairs)
    → AllGiven (WayMeets program member) (substituting program directives state)
unfolding substituting
substituting-meets program member directives state chain fit = by (list_all has_good_names directives)
  where
    put : (found : Result Pairs Trouble) → ((pairs : Pairs) → found ≡ Ok pairs → AllFit member pairs) → AllGiven (WayMeets program member) (put_or_refused program directives state found)
    put (Ok pairs) fit = (chain, fit-meets member pairs (fit pairs refl))
    put (Err trouble) fit = refused-given (WayMeets program member) state (name_text program) trouble

    by : (good : Bool) → AllGiven (WayMeets program member) (if good then put_or_refused program directives state (all_pairs directives state.env) else refused state (name_text program) BadName)
    by true = put (all_pairs directives state.env) fit
    by false = refused-given (WayMeets program member) state (name_text program) BadName

-- the pairs of one directive
alone-fit : (member : Member) (found : Result Pairs Trouble) (pairs : Pairs) → ((pairs : Pairs) → found ≡ Ok pairs → AllFit member pairs) → joined_pairs found (Ok []) ≡ Ok pairs → AllFit member pairs
alone-fit member (Ok first) pairs f e = let same : first ++ [] ≡ pairs = cc in subst (AllFit member) (sym (append-nil first) ∙ same) (f first refl)
alone-fit member (Err trouble) pairs f e = absurd (cc)

alone-meets : (program : Prog) (options : List (List ℕ)) (places : Places) (after : Args) (scope : Scope) (rest : Tree) (state : State) → is_directive program ≡ true → (shape_of program).rest ≡ Chain → HasOptions program options → HavePlaces places (shape_of program).places after
    → AllGiven (WayMeets program (own_member program (letters_of program options) places)) (substitute_alone program (read_in scope program options places rest) state)
unfolding substitute_alone
alone-meets program options places after scope rest state d chain read h =
    substituting-meets program own (one ∷ []) state chain (λ pairs e. alone-fit own (pairs_by program one state.env) pairs
    (λ pairs e. pairs-fit program options places after scope one state.env pairs read h (record { letters_are = refl; texts_are = refl; names_are = names-first places (shape_of program).places after scope (lists-names program d) h }) e) e)
  where
    one : DirectiveRead
    one = own_directive program (read_in scope program options places rest)

    own : Member
    own = own_member program (letters_of program options) places

-- import puts in what importas does
import-meets : (options : List (List ℕ)) (places : Places) (after : Args) (scope : Scope) (rest : Tree) (state : State) → HasOptions Import options → HavePlaces places (shape_of Import).places after
    → AllGiven (WayMeets Import (own_member Import (letters_of Import options) places)) (import (read_in scope Import options places rest) state)
unfolding import shape_of
import-meets options (one_place (text_place text) places) after scope rest state read h =
    substituting-meets Import own (one ∷ []) state refl (λ pairs e. alone-fit own (imported one state.env) pairs
    (λ pairs e. imported-fit (letters_of Import options) one text pairs refl (ap (list_all (has_value 68)) (letters_read Import options read) ∙ import-valued options read) state.env (literal_value scope text h.0) e) e)
  where
    one : DirectiveRead
    one = as_importas (read_in scope Import options (one_place (text_place text) places) rest)

    own : Member
    own = own_member Import (letters_of Import options) (one_place (text_place text) places)
import-meets options places after scope rest state read h = absurd h

block-meets : (options : List (List ℕ)) (places : Places) (after : Args) (scope : Scope) (rest : Tree) (state : State) → HavePlaces places (shape_of Multisubstitute).places after
    → AllGiven (WayMeets Multisubstitute (member_of Multisubstitute (letters_of Multisubstitute options) places)) (multisubstitute (read_in scope Multisubstitute options places rest) state)
unfolding multisubstitute shape_of
block-meets options (one_place (directives_place directives) unplaced) after scope rest state h =
    substituting-meets Multisubstitute (directives_member directives) (map directive_read (directives_in scope directives) ++ []) state refl
    (λ pairs e. all-fit directives scope state.env pairs h.0 (sym (ap (λ all. all_pairs all state.env) (append-nil (map directive_read (directives_in scope directives)))) ∙ e))
block-meets options (one_place (directives_place directives) places) after scope rest state h = absurd h.1
block-meets options places after scope rest state h = absurd h

-- under `E` the word of backtick, which has no reference, stands for one word
backtick-meets : (options : List (List ℕ)) (places : Places) (after : Args) (scope : Scope) (rest : Tree) (state : State) → HavePlaces places (shape_of Backtick).places after
    → AllGiven (WayMeets Backtick (own_member Backtick (letters_of Backtick options) places)) (backtick (read_in scope Backtick options places rest) state)
unfolding backtick going_on shape_of
backtick-meets options (one_place (text_place text) places) after scope rest state h = good (names_well read)
  where
    read : Read
    read = read_in scope Backtick options (one_place (text_place text) places) rest

    own : Member
    own = own_member Backtick (letters_of Backtick options) (one_place (text_place text) places)

    meets : (value : List ℕ) → puts_values read ≡ true → Meets (value_pairs read value) own
    meets value puts =
        subst (λ key. Meets ((key, value ∷ []) ∷ []) own) (sym (literal_value scope text h.0))
        (subst (λ puts. Meets ((text, value ∷ []) ∷ []) (marked_alone (value_marks puts text))) (sym puts ∙ backtick-puts (letters_of Backtick options)) (fit-meets (marked_alone ((text, One) ∷ [])) ((text, value ∷ []) ∷ []) (word-fits text value)))

    goes : (value : Option (List ℕ)) (puts : Bool) → puts_values read ≡ puts → AllGiven (WayMeets Backtick own) (if puts then put_in read state value else on (set_to read state value))
    goes value false is = refl
    goes None true is = refused-given (WayMeets Backtick own) (set_to read state None) (name_text Backtick) NotSet
    goes (Some value) true is = (refl, meets value is)

    good : (good : Bool) → AllGiven (WayMeets Backtick own) (if good then and_then (output_of state (block_at First read)) (λ output. and_then (value_from read state output) (going_on read state)) else refused state (name_text Backtick) BadName)
    good true =
        given-then (WayMeets Backtick own) (λ _. Unit {0}) (output_of state (block_at First read)) (λ output. and_then (value_from read state output) (going_on read state))
        (λ output _. given-then (WayMeets Backtick own) (λ _. Unit {0}) (value_from read state output) (going_on read state) (λ value _. goes value (puts_values read) refl) (given-any (λ _. Unit {0}) (value_from read state output) (λ _. tt)))
        (given-any (λ _. Unit {0}) (output_of state (block_at First read)) (λ _. tt))
    good false = refused-given (WayMeets Backtick own) state (name_text Backtick) BadName
backtick-meets options places after scope rest state h = absurd h

-- ---- all programs

-- the ways that a program may go, in every scope
pub effect-meets : (program : Prog) (options : List (List ℕ)) (places : Places) (after : Args) (scope : Scope) (rest : Tree) (state : State) → HasOptions program options → HavePlaces places (shape_of program).places after
    → AllGiven (WayMeets program (member_of program (letters_of program options) places)) (effect program (read_in scope program options places rest) state)
unfolding effect shape_of
effect-meets Define options places after scope rest state read h = alone-meets Define options places after scope rest state refl refl read h
effect-meets Importas options places after scope rest state read h = alone-meets Importas options places after scope rest state refl refl read h
effect-meets Import options places after scope rest state read h = import-meets options places after scope rest state read h
effect-meets Multidefine options places after scope rest state read h = alone-meets Multidefine options places after scope rest state refl refl read h
effect-meets Elgetpositionals options places after scope rest state read h = alone-meets Elgetpositionals options places after scope rest state refl refl read h
effect-meets Multisubstitute options places after scope rest state read h = block-meets options places after scope rest state h
effect-meets Backtick options places after scope rest state read h = backtick-meets options places after scope rest state h
effect-meets program options places after scope rest state read h = others-meet program (member_of program (letters_of program options) places) (read_in scope program options places rest) state refl
