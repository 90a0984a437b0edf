-- What a call tells is what its script means, where that is accepted.
use Rattle.el_room.proofs.Vocabulary.{bytes_eq, spelled, program_named, spelling-answered, Vars, Reading, Unknown, NoValue, LettersRead, reading, Options, execlineb_options, has_bad_last_number, Event, Finish, Seen, Found, found_in, gives, and_then, Outcome, given, Made, made, AreEventsOf, Tells, State, End, Task, then-assoc, made_as, made-ends_as, by_outcome, made-then, BadNumber, Left, Choice, first_byte, value_by, chosen_by}
use Rattle.el_script.proofs.Vocabulary.{reads-lexed, Tree, written, MeetsAll}
use Rattle.std.proofs.Common.{◌≡◌, ℕ, ◌≤◌, ◌<◌, ◌^◌, Bool, true, false, if◌then◌else◌, List, [], ◌∷◌, ◌++◌, drop, length, length-drop, Option, None, Some, Ok, Err, refl, sym, ap, ◌∙◌, subst, codes, arith, le_refl}
use Rattle.el_options.proofs.Places.{rest-stands}
use Rattle.el_world.proofs.Upto.{made-units}
use Rattle.el_machine.specs.Flat.{flat_run}
use Rattle.el_check.specs.declared.params.Params.{Params}
use Rattle.el_check.specs.declared.params.Params.TheVariants.{Frame, Leave, Subst}
use Rattle.el_check.specs.Scripts.{first_marks, IsAcceptedScript}
use Rattle.el_check.specs.ScopeLaws.{HasSmallLeast}
use Rattle.el_check.proofs.Scopes.{first-meets, shifted-meets}
use Rattle.el_check.specs.Operands.{tree_words}
use Rattle.el_meaning.specs.Meaning.{whole_meaning}
use Rattle.el_meaning.proofs.Pairs.{least-small}
use Rattle.el_meaning.proofs.Whole.{run-is-meaning}
use Rattle.el_app.specs.declared.asked.Source.{Source}
use Rattle.el_app.specs.declared.asked.Source.TheVariants.{Inline, File}
use Rattle.el_app.specs.declared.asked.Placement.{Placement}
use Rattle.el_app.specs.declared.asked.Placement.TheVariants.{By, Shifted}
use Rattle.el_app.specs.declared.asked.Asked.{Asked}
use Rattle.el_app.specs.declared.names.Tool.{Tool}
use Rattle.el_app.specs.declared.names.Tool.TheVariants.{Execlineb, Elcheck, Elfmt}
use Rattle.el_app.specs.Names.{execlineb_name, execline_name, tool_named, base_name}
use Rattle.el_app.specs.Options.{has, strictness_in, placement_by, placement_in, upgrades_in, keeps_in, source_by, args_of, asked_with, asked_behind, asked_by, asked}
use Rattle.el_app.specs.Files.{file_script, script_from}
use Rattle.el_app.specs.Scripts.{words_in, spelled_words, script_words}
use Rattle.el_app.specs.Params.{placed, params_of}
use Rattle.el_app.specs.Execlineb.{zero_of, words_from, prelude, asked_run, execlineb_run}
use Rattle.el_app.specs.Execline.{tool_run, tool_or, after_execline, program_or_unknown, named_run, execline_run}
use Rattle.el_app.specs.Calls.{ending_of, outcome_of, execlineb_call}
use Rattle.el_app.specs.First.{first_state}
use Rattle.el_app.proofs.Calls.{answered}
use Rattle.el_app.specs.Headline.{state_at_reading, begun_state, is_frame_refused, begun_scope, meaning_run, IsAcceptedCall, meant, MakesItsMeaning, EndsAsItMeans, if_execlineb, behind_execline, execlineb_words}

-- ---- what is asked for

-- the least number of positionals has 64 bits, and there are no more arguments than words
record IsModest (words : List (List ℕ)) (asking : Asked) : Type 0 where
  pub small : HasSmallLeast (params_of asking.placement)
  pub few : length asking.args ≤ length words

placement-small : (choices : List Choice) → HasSmallLeast (params_of (placement_in choices))
placement-small choices = by (has (codes "P") choices) (value_by choices (first_byte (codes "S"))) (value_by choices (first_byte (codes "s")))
  where
    by : (leaves : Bool) (put_in shifted : Option (List ℕ)) → HasSmallLeast (params_of (if leaves then By Leave else placement_by put_in shifted))
    by true put_in shifted = tt
    by false (Some text) shifted = least-small (Some text)
    by false None (Some text) = least-small (Some text)
    by false None None = tt

fewer : (n : ℕ) (words : List (List ℕ)) → length (drop n words) ≤ length words
fewer n words = omega (arith, length-drop n words)

args-few : (source : Source) (rest : List (List ℕ)) → length (args_of source rest) ≤ length rest
args-few (Inline script) rest = le_refl (length rest)
args-few (File path) rest = fewer 1 rest

with-modest : (choices : List Choice) (rest : List (List ℕ)) (source : Option Source) (asking : Asked) → asked_with choices rest source ≡ Ok asking → IsModest rest asking
with-modest choices rest None asking is = absurd (cc)
with-modest choices rest (Some source) asking is =
    let same : (let one : Asked = record { source = source; strict = strictness_in choices; placement = placement_in choices; upgrades = upgrades_in choices; keeps = keeps_in choices; args = args_of source rest } in one) ≡ asking = cc in
    subst (IsModest rest) same (record { small = placement-small choices; few = args-few source rest })

asked-modest : (options : Options) (words : List (List ℕ)) (asking : Asked) → asked options words ≡ Ok asking → IsModest words asking
unfolding asked
asked-modest options words asking is = by (reading options.letters words) refl is
  where
    tested : (bad : Bool) (choices : List Choice) (rest : List (List ℕ)) → (if bad then Err BadNumber else asked_behind choices rest) ≡ Ok asking → IsModest rest asking
    tested true choices rest is = absurd (cc)
    tested false choices rest is = with-modest choices rest (source_by (value_by choices (first_byte (codes "c"))) rest) asking is

    by : (read : Reading) → reading options.letters words ≡ read → asked_by options read ≡ Ok asking → IsModest words asking
    by (Unknown letter) read is = absurd (cc)
    by (NoValue letter) read is = absurd (cc)
    by (LettersRead letters used rest stops) read is =
        let modest = tested (has_bad_last_number options letters) (chosen_by options.groups options.letters letters) rest is in
        let within : length rest ≤ length words = subst (λ (rest : List (List ℕ)). length rest ≤ length words) (sym (rest-stands options.letters words letters used rest stops read)) (fewer used words) in
        record { small = modest.small; few = let most = modest.few in omega arith }

-- ---- the words of an accepted script

pub accepted-words : (state : State) (params : Params) (script : List ℕ) (tree : Tree) → IsAcceptedScript params script tree → script_words state script ≡ gives (spelled 0 (written tree))
unfolding script_words spelled_words
accepted-words state params script tree accepted =
    ap (words_in state) (reads-lexed script accepted.tokens accepted.lexes)
    ∙ ap (spelled_words state) (spelling-answered accepted.tokens (spelled 0 (written tree)) (record { args = written tree; are_tokens = accepted.are_tokens; within = accepted.within; are_words = refl }))

-- the words and the state that a run begins with
abbrev begins_with : Placement → (zero : List ℕ) → (args : List (List ℕ)) → Tree → State → Left
begins_with placement zero args tree state = record { words = tree_words (begun_scope placement zero args) tree; state = begun_state (params_of placement) zero args state }

begun : (placement : Placement) (zero : List ℕ) (args : List (List ℕ)) (tree : Tree) (state : State) → is_frame_refused (params_of placement) state ≡ false
    → placed placement zero args (spelled 0 (written tree)) state ≡ gives (begins_with placement zero args tree state)
unfolding placed
begun (By Frame) zero args tree state fits = rw fits refl
begun (By Leave) zero args tree state fits = refl
begun (By (Subst least)) zero args tree state fits = refl
begun (Shifted least) zero args tree state fits = refl

begun-meets : (placement : Placement) (zero : List ℕ) (args : List (List ℕ)) → HasSmallLeast (params_of placement) → length args < 2 ^ 64 → MeetsAll (begun_scope placement zero args) (first_marks (params_of placement))
begun-meets (By params) zero args small few = first-meets params zero args small few
begun-meets (Shifted least) zero args small few = shifted-meets zero args least small few

-- ---- the prelude, and the run

abbrev on_from : Left → Task ⊥
on_from left = flat_run left.words left.state

module _ (asking : Asked) (state : State) where
  -- what comes behind the reading of the script
  behind : List ℕ → Task ⊥
  behind script = and_then (and_then (script_words state script) (λ words. placed asking.placement (zero_of asking.source) asking.args words state)) on_from

  prelude-reads : and_then (prelude asking state) on_from ≡ and_then (script_from execlineb_name state asking.source) behind
  unfolding prelude and_then behind
  prelude-reads = by asking.source
    where
      with : List (List ℕ) → Task Left
      with words = placed asking.placement (zero_of asking.source) asking.args words state

      by : (source : Source) → and_then (and_then (words_from state source) with) on_from ≡ and_then (script_from execlineb_name state source) (λ script. and_then (and_then (script_words state script) with) on_from)
      by (Inline script) = refl
      by (File path) =
          ap (λ task. and_then task on_from) (then-assoc (file_script execlineb_name state path) (script_words state) with)
          ∙ then-assoc (file_script execlineb_name state path) (λ script. and_then (script_words state script) with) on_from

  module _ (tree : Tree) (script : List ℕ) (modest : HasSmallLeast (params_of asking.placement)) (few : length asking.args < 2 ^ 64) (accepted : IsAcceptedScript (params_of asking.placement) script tree) (fits : is_frame_refused (params_of asking.placement) state ≡ false) where
    abbrev means : Task ⊥
    means = whole_meaning tree (begun_scope asking.placement (zero_of asking.source) asking.args) (begun_state (params_of asking.placement) (zero_of asking.source) asking.args state)

    -- behind the reading the run makes what the tree means
    behind-means : (units : ℕ) (found : List Found) → units < 2 ^ 64 → made (behind script) units found ≡ made means units found
    unfolding behind and_then
    behind-means units found small =
        ap (λ (read : Task (List (List ℕ))). made (and_then (and_then read (λ words. placed asking.placement (zero_of asking.source) asking.args words state)) on_from) units found) (accepted-words state (params_of asking.placement) script tree accepted)
        ∙ ap (λ (task : Task Left). made (and_then task on_from) units found) (begun asking.placement (zero_of asking.source) asking.args tree state fits)
        ∙ run-is-meaning tree (first_marks (params_of asking.placement)) (begun_scope asking.placement (zero_of asking.source) asking.args) (begun_state (params_of asking.placement) (zero_of asking.source) asking.args state) units found
        accepted.accepted (begun-meets asking.placement (zero_of asking.source) asking.args modest few) small

    -- where the script is read so, the whole makes what the tree means
    all-means : (units : ℕ) (found : List Found) → units < 2 ^ 64 → (made (script_from execlineb_name state asking.source) units found).outcome ≡ given script
        → made (and_then (prelude asking state) on_from) units found ≡ made (meaning_run asking tree state) units found
    unfolding meaning_run
    all-means units found small is =
        ap (λ plan. made plan units found) prelude-reads
        ∙ made-then behind (script_from execlineb_name state asking.source) units found
        ∙ by (made (script_from execlineb_name state asking.source) units found).outcome is
        ∙ sym (made-then (λ script. means) (script_from execlineb_name state asking.source) units found)
      where
        reads : Made End (List ℕ)
        reads = made (script_from execlineb_name state asking.source) units found

        less : reads.units < 2 ^ 64
        less = let most : reads.units ≤ units = made-units (script_from execlineb_name state asking.source) units found in omega arith

        by : (outcome : Outcome End (List ℕ)) → outcome ≡ given script → by_outcome behind reads.events outcome reads.units reads.left ≡ by_outcome (λ script. means) reads.events outcome reads.units reads.left
        by outcome is =
            ap (λ outcome. by_outcome behind reads.events outcome reads.units reads.left) is
            ∙ ap (λ (rest : Made End ⊥). record rest { events = reads.events ++ rest.events }) (behind-means reads.units reads.left less)
            ∙ ap (λ outcome. by_outcome (λ script. means) reads.events outcome reads.units reads.left) (sym is)

-- ---- a call

module _ (words : List (List ℕ)) (env : Vars) (dir : List ℕ) (units : ℕ) (few : length words < 2 ^ 64) (small : units < 2 ^ 64) where
  call-means : (added : List Event) (asking : Asked) (tree : Tree) → IsAcceptedCall words env dir units added asking tree → made (execlineb_call words env dir) units (found_in added) ≡ meant asking tree env dir units added
  unfolding execlineb_run asked_run
  call-means added asking tree call =
      let modest = asked-modest execlineb_options words asking call.is_asked in
      let fewer : length asking.args < 2 ^ 64 = let most = modest.few in omega arith in
      made-ends_as ending_of (execlineb_run words (first_state env dir)) units (found_in added)
      ∙ ap (made_as ending_of)
      (ap (λ answer. made (asked_run answer (first_state env dir)) units (found_in added)) call.is_asked
      ∙ all-means asking (state_at_reading asking env dir) tree call.script modest.small fewer call.accepted call.has_frame units (found_in added) small call.is_read)
      ∙ sym (made-ends_as ending_of (meaning_run asking tree (state_at_reading asking env dir)) units (found_in added))

  module _ {old new : Seen} {result : Finish} (tells : Tells old new (execlineb_call words env dir) units (outcome_of result)) where
    pub makes_its_meaning : MakesItsMeaning old new words env dir units result
    makes_its_meaning = record {
      told = λ before is. let told = tells.told before is in (told.0, told.1, λ asking tree call. subst (λ meant. AreEventsOf told.0 meant (outcome_of result)) (call-means told.0 asking tree call) told.3);
    }

    pub ends_as_it_means : EndsAsItMeans old new words env dir units result
    ends_as_it_means = record {
      told = λ before is. let told = makes_its_meaning.told before is in (told.0, told.1, λ asking tree code call ends. answered result told.0 (meant asking tree env dir units told.0) code (told.2 asking tree call) ends);
    }

-- ---- the top call

-- it does what execlineb does with its words
pub record IsCall (words call : List (List ℕ)) (state : State) : Type 0 where
  pub runs : execline_run words state ≡ execlineb_run call state
  pub few : length call ≤ length words

module _ (call : List (List ℕ)) (state : State) where
  tool-is : (tool : Option Tool) (words : List (List ℕ)) (other : Task ⊥) → if_execlineb tool words ≡ Some call → tool_or tool words state other ≡ execlineb_run call state
  unfolding tool_run
  tool-is None words other is = absurd (cc)
  tool-is (Some Execlineb) words other is = let same : words ≡ call = cc in ap (λ words. execlineb_run words state) same
  tool-is (Some Elcheck) words other is = absurd (cc)
  tool-is (Some Elfmt) words other is = absurd (cc)

  tool-few : (tool : Option Tool) (words : List (List ℕ)) → if_execlineb tool words ≡ Some call → length call ≤ length words
  tool-few None words is = absurd (cc)
  tool-few (Some Execlineb) words is = let same : words ≡ call = cc in subst (λ (call : List (List ℕ)). length call ≤ length words) same (le_refl (length words))
  tool-few (Some Elcheck) words is = absurd (cc)
  tool-few (Some Elfmt) words is = absurd (cc)

  behind-is : (words : List (List ℕ)) → behind_execline words ≡ Some call → (after_execline words state ≡ execlineb_run call state) × (length call ≤ length words)
  unfolding after_execline
  behind-is [] is = absurd (cc)
  behind-is (word ∷ words) is = (tool-is (tool_named word) (word ∷ words) (flat_run (word ∷ words) state) is, tool-few (tool_named word) (word ∷ words) is)

  pub call-is : (words : List (List ℕ)) → execlineb_words words ≡ Some call → IsCall words call state
  unfolding execline_run named_run
  call-is [] is = absurd (cc)
  call-is (word ∷ words) is =
      let found = by (bytes_eq (base_name word) execline_name) is in
      record { runs = found.0; few = found.1 }
    where
      by : (is_execline : Bool) → (if is_execline then behind_execline words else if_execlineb (tool_named (base_name word)) (base_name word ∷ words)) ≡ Some call
          → ((if is_execline then after_execline words state else named_run (base_name word) words state) ≡ execlineb_run call state) × (length call ≤ length (word ∷ words))
      by true is = let found = behind-is words is in (found.0, (let most = found.1 in omega arith))
      by false is = (
        tool-is (tool_named (base_name word)) (base_name word ∷ words) (program_or_unknown (program_named (base_name word)) (base_name word) words state) is,
        tool-few (tool_named (base_name word)) (base_name word ∷ words) is,
      )
