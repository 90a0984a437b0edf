-- The run of a spelled tree makes what the tree means.
use Rattle.el_room.proofs.Vocabulary.{Prog, name_text, program_named, Args, words, ◌+++◌, spelled, Pairs, words_value, Scope, scope_value, PlaceKind, Name, Fixed, ProgramBlock, ValueBlock, NameBlock, DirectiveBlock, OptionalNumber, OptionalWord, Letter, shape_of, Chain, Front, Taken, Ended, Fault, Pid, StartFault, start_act, wait_act, gives, ends, takes, and_then, and_go_on, State, Status, Task, SameUpto, then-assoc, go_on-then, given-weaker, same-refl, same-takes, same-then, Trouble, Failed, first_word, streams_of, given_handles, without_given, closing, Left, trouble_status, complaint, refused, Read, index_of, blocks_of, read_by, strictness_of, told_by, warnings, after_telling, Way, onward, under, into, left_by, acting, entered}
use Rattle.el_script.proofs.Vocabulary.{Tree, End, Command, Node, Places, unplaced, one_place, text_place, block_place, values_place, names_place, directives_place, written, written_places, letters_of, HasOptions, StopsOptions, HavePlaces, IsFormed, Member, Meets, MeetsAll, member_of, adds_member, members_behind, KeepsWords, PlacesKeep, scope_nil, scope_literal, scope_more, fit-meets, named, name_literal}
use Rattle.el_machine.proofs.Vocabulary.{start_trouble, after_wait, waiting, after_start, running, last_command, effect, have_trees_alone, flat_step, run_by, flat_within}
use Rattle.std.proofs.Common.{◌≡◌, ℕ, zero, suc, ◌<◌, true, List, [], ◌∷◌, ◌++◌, slice_index_or, Option, Some, None, Result, Ok, Err, refl, sym, ap, ◌∙◌, subst, arith}
use Rattle.el_subst.proofs.Values.{words_value-empty}
use Rattle.el_world.specs.States as end
use Rattle.el_world.specs.States.{Spent}
use Rattle.el_world.proofs.Upto.{same-as, same-trans}
use Rattle.el_front.specs.Fronts.{reading}
use Rattle.el_tree.specs.Marks.{puts_in_child, reaches_rest}
use Rattle.el_check.specs.Operands.{tree_words, operands_in}
use Rattle.el_meaning.specs.Operands.{read_in}
use Rattle.el_meaning.specs.Meaning.{command_by, commanded, going_on, meaning, block_meaning}
use Rattle.el_check.proofs.Fronts.{letters_read, front_spelled}
use Rattle.el_meaning.proofs.Bounds.{flat_on, flat-enough}
use Rattle.el_meaning.proofs.Meets.{WayMeets, effect-meets}

-- ---- the last command ends, whatever would come after it

module _ {A B : Type 0} (next : A → Task B) where
  refused-ends : (state : State) (name : List ℕ) (trouble : Trouble) → and_then (refused state name trouble) next ≡ refused state name trouble
  unfolding refused and_then
  refused-ends state name trouble = go_on-then (complaint state.fds name trouble) (λ _. ends (end.Status (trouble_status trouble) state)) next

  wait-ends : (state : State) (name : List ℕ) (answer : Result Ended Fault) → and_then (after_wait state name answer) next ≡ after_wait state name answer
  unfolding and_then
  wait-ends state name (Ok ended) = refl
  wait-ends state name (Err fault) = refused-ends state name Failed

  waiting-ends : (state : State) (name : List ℕ) (pid : Pid) → and_then (waiting state name pid) next ≡ waiting state name pid
  unfolding waiting
  waiting-ends state name pid =
      let behind : State = record state { fds = without_given state.fds } in
      go_on-then (closing (given_handles state.fds)) (λ _. and_go_on (wait_act pid) (after_wait behind name)) next
      ∙ ap (and_go_on (closing (given_handles state.fds))) (λ i _. go_on-then (wait_act pid) (after_wait behind name) next i)
      ∙ ap (λ f. and_go_on (closing (given_handles state.fds)) (λ _. and_go_on (wait_act pid) f)) (λ i answer. wait-ends behind name answer i)

  start-ends : (state : State) (name : List ℕ) (answer : Result Pid StartFault) → and_then (after_start state name answer) next ≡ after_start state name answer
  start-ends state name (Ok pid) = waiting-ends state name pid
  start-ends state name (Err fault) = refused-ends state name (start_trouble fault)

  last-ends : (words : List (List ℕ)) (state : State) → and_then (last_command words state) next ≡ last_command words state
  unfolding last_command running and_then
  last-ends words state =
      ap (takes (Spent state))
      (go_on-then (start_act words state.env state.dir (streams_of state)) (after_start state (first_word words)) next
      ∙ ap (and_go_on (start_act words state.env state.dir (streams_of state))) (λ i answer. start-ends state (first_word words) answer i))

-- ---- words that are run on

end-case : (ws : List (List ℕ)) (state : State) (u n m : ℕ) → ws ≡ [] → u < n → SameUpto u (flat_within n ws state) (and_then (ends (Status 0 state)) (flat_on m))
unfolding flat_within and_then
end-case ws state u zero m e a = absurd (omega arith)
end-case ws state u (suc n) m e a = same-as u (ap (λ ws. flat_within (suc n) ws state) e)

command-case : (ws : List (List ℕ)) (state : State) (u n m : ℕ) → u < n → u < m → SameUpto u (flat_within n ws state) (and_then (commanded ws state) (flat_on m))
unfolding flat_within and_then
command-case ws state u zero m a b = absurd (omega arith)
command-case [] state u (suc n) m a b = same-refl u (ends (Status 0 state))
command-case (word ∷ ws) state u (suc n) m a b = by (program_named word) refl
  where
    by : (first : Option Prog) → program_named word ≡ first → SameUpto u (flat_within (suc n) (word ∷ ws) state) (and_then (command_by first (word ∷ ws) state) (flat_on m))
    by None e = same-as u (ap (λ first. run_by first (word ∷ ws) state (flat_on n)) e ∙ sym (last-ends (flat_on m) (word ∷ ws) state))
    by (Some program) e = flat-enough (suc n) m u (word ∷ ws) state a b

-- a program whose front was read so has its effect
entered-acts : (program : Prog) (words : List (List ℕ)) (state : State) (read : Read) → reading program words state ≡ gives read
    → entered (effect program) program words state ≡ and_then (effect program read state) (λ way. gives (left_by read way))
unfolding entered acting and_then
entered-acts program words state read is = ap (λ (front : Task Read). and_then front (acting (effect program) state)) is

-- ---- marks

pub meets-more : (scope : Scope) (members : List Member) (pairs : Pairs) (member : Member) → MeetsAll scope members → Meets pairs member → MeetsAll (scope ++ pairs ∷ []) (members ++ member ∷ [])
meets-more [] [] pairs member h k = (k, tt)
meets-more [] (other ∷ members) pairs member h k = absurd h
meets-more (others ∷ scope) [] pairs member h k = absurd h
meets-more (others ∷ scope) (other ∷ members) pairs member h k = (h.0, meets-more scope members pairs member h.1 k)

-- ---- a program

-- the words and the meaning of a tree go on alike, in each scope that meets the members
abbrev TreeGoes : Tree → List Member → ℕ → Type 0
TreeGoes tree members u = (scope : Scope) (state : State) (w n m : ℕ) → MeetsAll scope members → w < u → w < n → w < m → SameUpto w (flat_within n (tree_words scope tree) state) (and_then (meaning tree scope state) (flat_on m))

-- and so do those of blocks
abbrev BlocksGo : Places → List Member → ℕ → Type 0
BlocksGo places members u = (scope : Scope) (state : State) (w n m k : ℕ) → MeetsAll scope members → w < u → w < n → w < m
    → SameUpto w (flat_within n (slice_index_or (blocks_of (operands_in scope places)) k []) state) (and_then (block_meaning places k scope state) (flat_on m))

module _ (program : Prog) (options : List (List ℕ)) (places : Places) (rest : Tree) (members : List Member) (has_options : HasOptions program options) where
  abbrev own : Member
  own = member_of program (letters_of program options) places

  -- what the program reads
  abbrev read : Scope → Read
  read scope = read_in scope program options places rest

  -- what is done after it
  after : Scope → Way → Task Left
  after scope = going_on (λ pairs state. meaning rest (scope ++ pairs ∷ []) state) (λ nth state. block_meaning places (index_of nth) scope state)

  -- the rest goes on in the scope with the pairs that are put in
  rest-case : (scope : Scope) (w n m u : ℕ) → MeetsAll scope members → TreeGoes rest (members_behind (adds_member program (letters_of program options)) members own) u → w < u → w < n → w < m
      → (pairs : Pairs) (state : State) (ws : List (List ℕ)) → ws ≡ words_value pairs (tree_words scope rest) → (shape_of program).rest ≡ Chain → Meets pairs own
      → SameUpto w (flat_within n ws state) (and_then (meaning rest (scope ++ pairs ∷ []) state) (flat_on m))
  rest-case scope w n m u h tree less enough enough' pairs state ws is chain meets =
      same-trans
      (same-as w (ap (λ ws. flat_within n ws state) (is ∙ sym (scope_more scope (pairs ∷ []) (spelled 0 (written rest))))))
      (tree (scope ++ pairs ∷ []) state w n m (subst (λ kind. MeetsAll (scope ++ pairs ∷ []) (members_behind (reaches_rest kind (puts_in_child program (letters_of program options))) members own)) (sym chain) (meets-more scope members pairs own h meets)) less enough enough')

  next-case : (scope : Scope) (w n m u : ℕ) → MeetsAll scope members → TreeGoes rest (members_behind (adds_member program (letters_of program options)) members own) u → (have_trees_alone (shape_of program).places ≡ true → BlocksGo places members u) → w < u → w < n → w < m
      → (way : Way) → WayMeets program own way → SameUpto w (flat_on n (left_by (read scope) way)) (and_then (after scope way) (flat_on m))
  unfolding after
  next-case scope w n m u h tree blocks less enough enough' (onward state) k =
      rest-case scope w n m u h tree less enough enough' [] state (tree_words scope rest) (sym (words_value-empty (tree_words scope rest))) k (fit-meets own [] tt)
  next-case scope w n m u h tree blocks less enough enough' (under pairs state) k =
      rest-case scope w n m u h tree less enough enough' pairs state (words_value pairs (tree_words scope rest)) refl k.0 k.1
  next-case scope w n m u h tree blocks less enough enough' (into nth state) k = blocks k scope state w n m (index_of nth) h less enough enough'

  -- the front is read, without a word more or less
  front-read : (scope : Scope) (state : State) → MeetsAll scope members → StopsOptions (shape_of program).letters has_options.ended (written_places places +++ written rest) → HavePlaces places (shape_of program).places (written rest) → PlacesKeep places members
      → reading program (name_text program ∷ scope_value scope (spelled 0 (words options +++ (written_places places +++ written rest)))) state ≡ gives (read scope)
  unfolding reading after_telling warnings and_go_on
  front-read scope state m stops h k =
      ap (λ (front : Front Taken). after_telling program state (told_by program front)) (front_spelled program options places (written rest) has_options (strictness_of state.env) scope members m stops h k)
      ∙ ap (λ (letters : List Letter). let taken : Taken = record { letters = letters; operands = operands_in scope places; rest = tree_words scope rest } in gives (read_by program taken)) (sym (letters_read program options has_options))

  node-case : (scope : Scope) (state : State) (u n m : ℕ) → StopsOptions (shape_of program).letters has_options.ended (written_places places +++ written rest) → HavePlaces places (shape_of program).places (written rest) → PlacesKeep places members
      → MeetsAll scope members → TreeGoes rest (members_behind (adds_member program (letters_of program options)) members own) u → (have_trees_alone (shape_of program).places ≡ true → BlocksGo places members u) → u < n → u < m
      → SameUpto u (flat_within n (tree_words scope (Node program options places rest)) state) (and_then (meaning (Node program options places rest) scope state) (flat_on m))
  unfolding flat_within flat_step and_then after
  node-case scope state u zero m stops h k meets tree blocks a b = absurd (omega arith)
  node-case scope state u (suc n) m stops h k meets tree blocks a b =
      same-trans (same-as u first-step)
      (same-takes (Spent state) (and_then done (flat_on n)) (and_then (and_then acts (after scope)) (flat_on m)) u
      (λ w less. same-trans (same-as w act-step)
      (same-trans
      (same-then acts acts (λ way. flat_on n (left_by (read scope) way)) (λ way. and_then (after scope way) (flat_on m)) w (same-refl w acts)
      (given-weaker (WayMeets program own) (λ way. SameUpto w (flat_on n (left_by (read scope) way)) (and_then (after scope way) (flat_on m))) acts
      (λ way k. next-case scope w n m u meets tree blocks less (omega arith) (omega arith) way k)
      (effect-meets program options places (written rest) scope rest state has_options h)))
      (same-as w (sym (then-assoc acts (after scope) (flat_on m)))))))
    where
      ws : List (List ℕ)
      ws = scope_value scope (spelled 0 (words options +++ (written_places places +++ written rest)))

      acts : Task Way
      acts = effect program (read scope) state

      done : Task Left
      done = entered (effect program) program (name_text program ∷ ws) state

      first-step : flat_within (suc n) (tree_words scope (Node program options places rest)) state ≡ takes (Spent state) (and_then done (flat_on n))
      first-step =
          ap (λ ws. flat_within (suc n) ws state) (scope_literal scope (name_text program) (spelled 0 (words options +++ (written_places places +++ written rest))) (name_literal program))
          ∙ ap (λ first. run_by first (name_text program ∷ ws) state (flat_on n)) (named program)

      act-step : and_then done (flat_on n) ≡ and_then acts (λ way. flat_on n (left_by (read scope) way))
      act-step =
          ap (λ (task : Task Left). and_then task (flat_on n)) (entered-acts program (name_text program ∷ ws) state (read scope) (front-read scope state meets stops h k))
          ∙ then-assoc acts (λ way. gives (left_by (read scope) way)) (flat_on n)

-- ---- all trees

mutual
  pub simulates : (tree : Tree) (members : List Member) (scope : Scope) (state : State) (u n m : ℕ) → IsFormed tree → KeepsWords tree members → MeetsAll scope members → u < n → u < m
      → SameUpto u (flat_within n (tree_words scope tree) state) (and_then (meaning tree scope state) (flat_on m))
  simulates End members scope state u n m f h k a b = end-case (scope_value scope []) state u n m (scope_nil scope) a
  simulates (Command args) members scope state u n m f h k a b = command-case (scope_value scope (spelled 0 args)) state u n m a b
  simulates (Node program options places rest) members scope state u n m f h k a b =
      node-case program options places rest members f.0 scope state u n m f.1 f.2 h.0 k
      (λ scope' state' w n' m' k' less enough enough'. simulates rest (members_behind (adds_member program (letters_of program options)) members (member_of program (letters_of program options) places)) scope' state' w n' m' f.4 h.1 k' enough enough')
      (λ trees scope' state' w n' m' j k' less enough enough'. simulates-blocks places (shape_of program).places members (written rest) scope' state' w n' m' j trees f.2 h.0 k' enough enough')
      a b

  simulates-blocks : (places : Places) (kinds : List PlaceKind) (members : List Member) (behind : Args) (scope : Scope) (state : State) (u n m k : ℕ) → have_trees_alone kinds ≡ true → HavePlaces places kinds behind → PlacesKeep places members → MeetsAll scope members → u < n → u < m
      → SameUpto u (flat_within n (slice_index_or (blocks_of (operands_in scope places)) k []) state) (and_then (block_meaning places k scope state) (flat_on m))
  simulates-blocks unplaced kinds members behind scope state u n m k t h p c a b = end-case [] state u n m refl a
  simulates-blocks (one_place (block_place block) places) (ProgramBlock ∷ kinds) members behind scope state u n m zero t h p c a b = simulates block members scope state u n m h.0 p.0 c a b
  simulates-blocks (one_place (block_place block) places) (ProgramBlock ∷ kinds) members behind scope state u n m (suc k) t h p c a b = simulates-blocks places kinds members behind scope state u n m k t h.1 p.1 c a b
  simulates-blocks (one_place (text_place text) places) (Name ∷ kinds) members behind scope state u n m k t h p c a b = simulates-blocks places kinds members behind scope state u n m k t h.1 p.1 c a b
  simulates-blocks (one_place (text_place text) places) (Fixed ∷ kinds) members behind scope state u n m k t h p c a b = simulates-blocks places kinds members behind scope state u n m k t h p.1 c a b
  simulates-blocks (one_place (text_place text) places) (OptionalWord ∷ kinds) members behind scope state u n m k t h p c a b = simulates-blocks places kinds members behind scope state u n m k t h p.1 c a b
  simulates-blocks (one_place (text_place text) places) (OptionalNumber ∷ kinds) members behind scope state u n m k t h p c a b = simulates-blocks places kinds members behind scope state u n m k t h.3 p.1 c a b
  simulates-blocks (one_place (values_place values) places) (ValueBlock ∷ kinds) members behind scope state u n m k t h p c a b = absurd (cc)
  simulates-blocks (one_place (names_place names) places) (NameBlock ∷ kinds) members behind scope state u n m k t h p c a b = absurd (cc)
  simulates-blocks (one_place (directives_place directives) places) (DirectiveBlock ∷ kinds) members behind scope state u n m k t h p c a b = simulates-blocks places kinds members behind scope state u n m k t h.1 p.1 c a b
  simulates-blocks _ _ members behind scope state u n m k t h p c a b = absurd h
