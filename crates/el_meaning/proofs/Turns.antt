-- The turns of a loop run its body in their scope.
use Rattle.el_script.proofs.Vocabulary.{Prog, Loopwhilex, Forx, Forstdin, Forbacktickx, Args, spelled, words_value, Scope, FORX, FORSTDIN, FORBACKTICKX, Letter, shape_of, Tree, Places, unplaced, one_place, text_place, written, letters_of, HavePlaces, HasCommands, HasRestCommands, One, Member, Meets, MeetsAll, has_letter, first_text, value_marks, member_of, adds_member, members_behind, IsAccepted, is_loop, scope_more, literal_value, fit-meets}
use Rattle.el_room.proofs.Vocabulary.{made, First, Read, is_in_force, chosen, the_text}
use Rattle.el_machine.proofs.Vocabulary.{puts_values, value_pairs, flat_run}
use Rattle.std.proofs.Common.{◌≡◌, ℕ, Bool, true, false, if◌then◌else◌, List, [], ◌∷◌, ◌++◌, refl, sym, ap, ◌∙◌, subst, codes, true≢false}
use Rattle.el_options.specs.declared.tables.TheConstants.{LOOPWHILEX}
use Rattle.el_check.specs.Operands.{tree_words}
use Rattle.el_meaning.specs.Operands.{read_in}
use Rattle.el_meaning.specs.Turns.{turn_scope, TurnWordsAreBody, TurnMeetsMarks, TurnIsMeaning}
use Rattle.el_meaning.proofs.InForce.{chosen-has}
use Rattle.el_meaning.proofs.Pairs.{marked_alone, word-fits}
use Rattle.el_meaning.proofs.Simulation.{meets-more}
use Rattle.el_meaning.proofs.Whole.{run-is-meaning}

-- ---- words

pub turn-words : TurnWordsAreBody
turn-words program options places body scope value = by (puts_values read)
  where
    read : Read
    read = read_in scope program options places body

    by : (puts : Bool) → (if puts then words_value (value_pairs read value) read.rest else read.rest) ≡ tree_words (if puts then scope ++ value_pairs read value ∷ [] else scope) body
    by true = sym (scope_more scope (value_pairs read value ∷ []) (spelled 0 (written body)))
    by false = refl

-- ---- marks

-- whether a loop puts its value in, by its letter `E`; what it marks then, and its word, which has no reference
record IsLoop (program : Prog) (letters : List Letter) (places : Places) : Type 0 where
  puts_in : Bool
  puts : is_in_force (chosen program letters) 69 ≡ puts_in
  adds : adds_member program letters ≡ puts_in
  marks : puts_in ≡ true → member_of program letters places ≡ marked_alone (value_marks true (first_text places))
  reads : (scope : Scope) (options : List (List ℕ)) (body : Tree) → the_text First (read_in scope program options places body) ≡ first_text places

is-loop : (program : Prog) (letters : List Letter) (places : Places) (after : Args) → is_loop program ≡ true → HavePlaces places (shape_of program).places after → IsLoop program letters places
unfolding shape_of
is-loop Loopwhilex letters unplaced after loops h = record { puts_in = false; puts = chosen-has [] letters 69 LOOPWHILEX.opts; adds = refl; marks = λ no. absurd (true≢false (sym no)); reads = λ scope options body. refl }
is-loop Forx letters (one_place (text_place text) places) after loops h = record {
  puts_in = has_letter Forx (codes "E") letters;
  puts = chosen-has (codes "ox" ∷ []) letters 69 FORX.opts;
  adds = refl;
  marks = λ puts. ap (λ puts. marked_alone (value_marks puts text)) puts;
  reads = λ scope options body. literal_value scope text h.0;
}
is-loop Forstdin letters (one_place (text_place text) places) after loops h = record {
  puts_in = has_letter Forstdin (codes "E") letters;
  puts = chosen-has (codes "ox" ∷ []) letters 69 FORSTDIN.opts;
  adds = refl;
  marks = λ puts. ap (λ puts. marked_alone (value_marks puts text)) puts;
  reads = λ scope options body. literal_value scope text h.0;
}
is-loop Forbacktickx letters (one_place (text_place text) places) after loops h = record {
  puts_in = has_letter Forbacktickx (codes "E") letters;
  puts = chosen-has (codes "ox" ∷ []) letters 69 FORBACKTICKX.opts;
  adds = refl;
  marks = λ puts. ap (λ puts. marked_alone (value_marks puts text)) puts;
  reads = λ scope options body. literal_value scope text h.0;
}
is-loop Loopwhilex letters _ after loops h = absurd h
is-loop Forx letters _ after loops h = absurd h
is-loop Forstdin letters _ after loops h = absurd h
is-loop Forbacktickx letters _ after loops h = absurd h
is-loop program letters places after loops h = absurd (cc)

pub turn-meets : TurnMeetsMarks
turn-meets program options places body members scope value loops accepted meets =
    let formed = accepted.well_formed.formed in
    by (is-loop program letters places (written body) loops formed.2)
  where
    letters : List Letter
    letters = letters_of program options

    read : Read
    read = read_in scope program options places body

    own : Member
    own = member_of program letters places

    -- the value, for this word
    fits : (key : List ℕ) → Meets ((key, value ∷ []) ∷ []) (marked_alone (value_marks true key))
    fits key = fit-meets (marked_alone ((key, One) ∷ [])) ((key, value ∷ []) ∷ []) (word-fits key value)

    both : (puts : Bool) (member : Member) → (puts ≡ true → Meets (value_pairs read value) member) → MeetsAll (if puts then scope ++ value_pairs read value ∷ [] else scope) (members_behind puts members member)
    both true member put = meets-more scope members (value_pairs read value) member meets (put refl)
    both false member put = meets

    by : IsLoop program letters places → MeetsAll (turn_scope scope read value) (members_behind (adds_member program letters) members own)
    by is =
        subst (λ adds. MeetsAll (turn_scope scope read value) (members_behind adds members own)) (is.puts ∙ sym is.adds)
        (both (puts_values read) own (λ puts.
        subst (λ member. Meets (value_pairs read value) member) (sym (is.marks (sym is.puts ∙ puts)))
        (subst (λ key. Meets ((key, value ∷ []) ∷ []) (marked_alone (value_marks true (first_text places)))) (sym (is.reads scope options body)) (fits (first_text places)))))

-- ---- runs

body-commands : (program : Prog) (body : Tree) → is_loop program ≡ true → HasRestCommands program body (HasCommands body) → HasCommands body
body-commands Loopwhilex body loops h = h
body-commands Forx body loops h = h
body-commands Forstdin body loops h = h
body-commands Forbacktickx body loops h = h
body-commands program body loops h = absurd (cc)

pub turn-is-meaning : TurnIsMeaning
turn-is-meaning program options places body members scope value state units found loops accepted meets few =
    let formed = accepted.well_formed.formed in
    let commands = accepted.well_formed.commands in
    let behind : List Member = members_behind (adds_member program (letters_of program options)) members (member_of program (letters_of program options) places) in
    let accepts : IsAccepted behind body = record { well_formed = record { formed = formed.4; commands = body-commands program body loops commands.1 }; keeps = accepted.keeps.1 } in
    ap (λ words. made (flat_run words state) units found) (turn-words program options places body scope value)
    ∙ run-is-meaning body behind (turn_scope scope (read_in scope program options places body) value) state units found accepts (turn-meets program options places body members scope value loops accepted meets) few
