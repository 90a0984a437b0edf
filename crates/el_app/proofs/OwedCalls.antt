-- Runs, the tools and the top call wait only for processes that they started.
use Rattle.el_room.proofs.Vocabulary.{bytes_eq, Prog, program_named, SpellFault, spelling_of, Strictness, execlineb_options, elcheck_options, Fault, Handle, Plan, and_then, Outcome, RanWith, PlanAgrees, State, Task, Seen, Trouble, Failed, FrameTooDeep, UnknownProgram, after_read}
use Rattle.el_script.proofs.Vocabulary.{LexKind, MAX_SCRIPT, Token, lexed, Tree}
use Rattle.std.proofs.Common.{◌≡◌, ℕ, suc, nat_lt, List, [], ◌∷◌, ◌++◌, length, drop, Option, Some, None, Result, Ok, Err, refl, sym, subst}
use Rattle.el_world.specs.declared.event.Mode.TheVariants.{Read as ForReading}
use Rattle.el_machine.specs.Flat.{flat_run}
use Rattle.el_check.specs.declared.params.Params.TheVariants.{Frame, Leave, Subst}
use Rattle.el_check.specs.Checks.{Checked, checked, checked_in}
use Rattle.el_app.specs.declared.asked.Asked.{Asked}
use Rattle.el_app.specs.declared.asked.Placement.{Placement}
use Rattle.el_app.specs.declared.asked.Placement.TheVariants.{By, Shifted}
use Rattle.el_app.specs.declared.asked.Source.{Source}
use Rattle.el_app.specs.declared.asked.Source.TheVariants.{Inline, File}
use Rattle.el_app.specs.declared.names.Tool.{Tool}
use Rattle.el_app.specs.declared.names.Tool.TheVariants.{Execlineb, Elcheck, Elfmt}
use Rattle.el_app.specs.Names.{execlineb_name, execline_name, elcheck_name, elfmt_name, tool_named, base_name}
use Rattle.el_app.specs.Options.{asked}
use Rattle.el_app.specs.Files.{reading, whole_file, unless_failed, opened_script, after_open, file_script, script_from}
use Rattle.el_app.specs.Scripts.{script_trouble, brace_trouble, spelled_words, words_in, script_words}
use Rattle.el_app.specs.Params.{is_too_deep, placed, params_of}
use Rattle.el_app.specs.Output.{output, after_output, put_out}
use Rattle.el_app.specs.Execlineb.{with_strictness, words_from, zero_of, prelude, asked_run, execlineb_run}
use Rattle.el_app.specs.Sample.{sample}
use Rattle.el_app.specs.Elcheck.{fault_line, verdict, checks_asked, lines_asked, asks_for_sample, line_told, run_told, sampled, elcheck_run}
use Rattle.el_app.specs.Elfmt.{fault_trouble, written_text, laid_out, lays_out_asked, formatter_options, elfmt_run}
use Rattle.el_app.specs.Execline.{tool_run, tool_or, after_execline, program_or_unknown, named_run, execline_run}
use Rattle.el_app.specs.Calls.{ending_of}
use Rattle.el_app.specs.First.{first_state}
use Rattle.el_app.specs.Waits.{RunsWaitForTheirOwn, CallsWaitForTheirOwn}
use Rattle.el_app.proofs.Owed.{Owed, PlanWaits, AreOwed, does-owed, begins-owed, waits-ends_as, Waits, Still, waits-gives, waits-ends, waits-takes, waits-both, waits-behind, waits-after, waits-if}
use Rattle.el_app.proofs.OwedEvents.{are-due, are-first}
use Rattle.el_app.proofs.OwedKids.{AreKids, none, no_kids}
use Rattle.el_app.proofs.OwedTasks.{LeftKids, still-open, still-read, still-write, still-close, waits-refused}
use Rattle.el_app.proofs.OwedPrograms.{run-waits}

-- ---- a script

module _ {owed : Owed} (state : State) where
  still-pieces : (handle : Handle) (reads : ℕ) (before : List ℕ) → Waits owed (Still owed) (reading reads state handle before)
  unfolding reading
  still-pieces handle Prim.Native.Nat.zero before = waits-gives refl
  still-pieces handle (suc reads) before =
      waits-if (nat_lt MAX_SCRIPT (length before)) (waits-gives refl) (waits-takes (waits-behind (still-read handle) (λ answer. by answer (λ read. still-pieces handle reads read))))
    where
      by : (answer : Result (List ℕ) Fault) → ((read : List ℕ) → Waits owed (Still owed) (reading reads state handle read)) → Waits owed (Still owed) (after_read (λ read. reading reads state handle read) before answer)
      by (Ok []) next = waits-gives refl
      by (Ok (byte ∷ bytes)) next = next (before ++ byte ∷ bytes)
      by (Err fault) next = waits-gives refl

  still-file : (name path : List ℕ) → Waits owed (Still owed) (file_script name state path)
  unfolding file_script opened_script whole_file
  still-file name path = waits-behind (still-open state.dir path ForReading) by
    where
      told : (read : Option (List ℕ)) → Waits owed (Still owed) (unless_failed name state read)
      told (Some script) = waits-gives refl
      told None = waits-refused state name Failed

      by : (answer : Result Handle Fault) → Waits owed (Still owed) (after_open name state answer)
      by (Ok handle) = waits-after (still-pieces handle (suc MAX_SCRIPT) []) (λ read. waits-behind (still-close handle) (λ _. told read))
      by (Err fault) = waits-refused state name Failed

  still-script : (name : List ℕ) (source : Source) → Waits owed (Still owed) (script_from name state source)
  still-script name (Inline script) = waits-gives refl
  still-script name (File path) = still-file name path

  still-words : (script : List ℕ) → Waits owed (Still owed) (script_words state script)
  unfolding script_words spelled_words
  still-words script = by (lexed script)
    where
      spelled : (words : Result (List (List ℕ)) SpellFault) → Waits owed (Still owed) (spelled_words state words)
      spelled (Ok words) = waits-gives refl
      spelled (Err fault) = waits-refused state execlineb_name (brace_trouble fault)

      by : (tokens : Result (List Token) (LexKind × ℕ)) → Waits owed (Still owed) (words_in state tokens)
      by (Ok tokens) = spelled (spelling_of tokens)
      by (Err fault) = waits-refused state execlineb_name (script_trouble fault.0 fault.1)

-- ---- execlineb

module _ {owed : Owed} (state : State) (h : AreKids state.kids owed) where
  placed-keeps : (placement : Placement) (zero : List ℕ) (args script : List (List ℕ)) → Waits owed LeftKids (placed placement zero args script state)
  unfolding placed
  placed-keeps (By Leave) zero args script = waits-gives h
  placed-keeps (By (Subst least)) zero args script = waits-gives h
  placed-keeps (Shifted least) zero args script = waits-gives h
  placed-keeps (By Frame) zero args script = waits-if (is_too_deep state.env) (waits-refused state execlineb_name FrameTooDeep) (waits-gives (record { within = h.within }))

  still-from : (source : Source) → Waits owed (Still owed) (words_from state source)
  still-from (Inline script) = still-words state script
  still-from (File path) = waits-after (still-file state execlineb_name path) (still-words state)

  prelude-keeps : (asking : Asked) → Waits owed LeftKids (prelude asking state)
  unfolding prelude
  prelude-keeps asking = waits-after (still-from asking.source) (λ script. placed-keeps asking.placement (zero_of asking.source) asking.args script)

-- whatever a call gives
abbrev Any : ⊥ → Owed → Type 0
Any never later = Unit {0}

module _ {owed : Owed} where
  prepared-waits : (asking : Asked) (state : State) → AreKids state.kids owed → Waits owed Any (and_then (prelude asking state) (λ left. flat_run left.words left.state))
  prepared-waits asking state h = waits-both (prelude-keeps state h asking) (λ left later k. run-waits left.words left.state k)

  asked-waits : (asking : Result Asked Trouble) (state : State) → AreKids state.kids owed → Waits owed Any (asked_run asking state)
  unfolding asked_run
  asked-waits (Ok asking) state h = by asking.strict
    where
      by : (strict : Option Strictness) → Waits owed Any (and_then (prelude asking (with_strictness strict state)) (λ left. flat_run left.words left.state))
      by None = prepared-waits asking state h
      by (Some strictness) = prepared-waits asking (with_strictness (Some strictness) state) (record { within = h.within })
  asked-waits (Err trouble) state h = waits-refused state execlineb_name trouble

  -- ---- the other tools

  put-waits : (state : State) (text : List ℕ) (code : ℕ) → Waits owed Any (put_out state text code)
  unfolding put_out
  put-waits state text code = waits-behind (still-write output text) by
    where
      by : (answer : Result (Unit {0}) Fault) → Waits owed Any (after_output state code answer)
      by (Ok done) = waits-ends
      by (Err fault) = waits-ends

  verdict-waits : (state : State) (checked : Checked) → Waits owed Any (verdict state checked)
  unfolding verdict
  verdict-waits state (Ok tree) = waits-ends
  verdict-waits state (Err fault) = put-waits state (fault_line fault) 100

  line-waits : (state : State) (line : Option (List ℕ)) → Waits owed Any (line_told state line)
  unfolding line_told
  line-waits state (Some line) = put-waits state line 0
  line-waits state None = waits-ends

  sample-waits : (lines : Result ℕ Trouble) (state : State) → Waits owed Any (sampled lines state)
  unfolding sampled run_told
  sample-waits (Ok lines) state = by (checked Leave (sample lines))
    where
      by : (checked : Checked) → Waits owed Any (run_told state (sample lines) checked)
      by (Ok tree) = line-waits state _
      by (Err fault) = put-waits state (fault_line fault) 100
  sample-waits (Err trouble) state = waits-refused state elcheck_name trouble

  check-waits : (asking : Result Asked Trouble) (state : State) → Waits owed Any (checks_asked asking state)
  unfolding checks_asked
  check-waits (Ok asking) state = waits-after (still-script state elcheck_name asking.source) (λ script. verdict-waits state (checked (params_of asking.placement) script))
  check-waits (Err trouble) state = waits-refused state elcheck_name trouble

  elcheck-waits : (words : List (List ℕ)) (state : State) → Waits owed Any (elcheck_run words state)
  unfolding elcheck_run
  elcheck-waits words state = waits-if (asks_for_sample words) (sample-waits (lines_asked (drop 2 words)) state) (check-waits (asked elcheck_options words) state)

  laid-waits : (written : Tree → List ℕ) (state : State) (checked : Checked) → Waits owed Any (laid_out written state checked)
  unfolding laid_out
  laid-waits written state (Ok tree) = put-waits state _ 0
  laid-waits written state (Err fault) = waits-refused state elfmt_name (fault_trouble fault.0 fault.1)

  lays-waits : (asking : Result Asked Trouble) (state : State) → Waits owed Any (lays_out_asked asking state)
  unfolding lays_out_asked
  lays-waits (Ok asking) state = waits-after (still-script state elfmt_name asking.source) (λ script. laid-waits (written_text asking.upgrades asking.keeps script) state (checked_in None script))
  lays-waits (Err trouble) state = waits-refused state elfmt_name trouble

  -- ---- the top call

  tool-waits : (tool : Tool) (words : List (List ℕ)) (state : State) → AreKids state.kids owed → Waits owed Any (tool_run tool words state)
  unfolding tool_run execlineb_run elfmt_run
  tool-waits Execlineb words state h = asked-waits (asked execlineb_options words) state h
  tool-waits Elcheck words state h = elcheck-waits words state
  tool-waits Elfmt words state h = lays-waits (asked formatter_options words) state

  tool_or-waits : (tool : Option Tool) (words : List (List ℕ)) (state : State) (other : Task ⊥) → AreKids state.kids owed → Waits owed Any other → Waits owed Any (tool_or tool words state other)
  tool_or-waits None words state other h one = one
  tool_or-waits (Some tool) words state other h one = tool-waits tool words state h

  behind-waits : (words : List (List ℕ)) (state : State) → AreKids state.kids owed → Waits owed Any (after_execline words state)
  unfolding after_execline
  behind-waits [] state h = run-waits [] state h
  behind-waits (word ∷ words) state h = tool_or-waits (tool_named word) (word ∷ words) state (flat_run (word ∷ words) state) h (run-waits (word ∷ words) state h)

  program-waits : (program : Option Prog) (name : List ℕ) (words : List (List ℕ)) (state : State) → AreKids state.kids owed → Waits owed Any (program_or_unknown program name words state)
  program-waits None name words state h = waits-refused state execline_name UnknownProgram
  program-waits (Some program) name words state h = run-waits (name ∷ words) state h

  top-waits : (words : List (List ℕ)) (state : State) → AreKids state.kids owed → Waits owed Any (execline_run words state)
  unfolding execline_run named_run
  top-waits [] state h = waits-ends
  top-waits (word ∷ words) state h =
      waits-if (bytes_eq (base_name word) execline_name) (behind-waits words state h)
      (tool_or-waits (tool_named (base_name word)) (base_name word ∷ words) state (program_or_unknown (program_named (base_name word)) (base_name word) words state) h
      (program-waits (program_named (base_name word)) (base_name word) words state h))

-- ---- the laws

module _ {E : Type 0} (P : ⊥ → Owed → Type 0) where
  ran-owed : {old new : Seen} {plan : Plan E ⊥} {units : ℕ} {outcome : Option (Outcome E ⊥)} (run : RanWith old new plan units outcome) → PlanWaits none plan P → AreOwed none run.ran.events
  ran-owed {plan = plan} {units} {outcome} run h = by outcome run.ran.agrees
    where
      by : (outcome : Option (Outcome E ⊥)) → PlanAgrees plan units run.ran.events outcome run.left → AreOwed none run.ran.events
      by (Some outcome) does = does-owed P plan none units run.ran.events outcome run.left h does
      by None begins = begins-owed P plan none units run.ran.events h begins

kids-none : (state : State) → state.kids ≡ [] → AreKids state.kids none
kids-none state is = subst (λ kids. AreKids kids none) (sym is) no_kids

pub runs-wait : RunsWaitForTheirOwn
runs-wait old new words state units outcome run is =
    let due = are-due run.ran.events (ran-owed Any run (run-waits {P = Any} {owed = none} words state (kids-none state is)).so) in
    (due, are-first run.ran.events due)

pub calls-wait : CallsWaitForTheirOwn
calls-wait old new words env dir units outcome run =
    let due = are-due run.ran.events (ran-owed Any run (waits-ends_as ending_of Any (execline_run words (first_state env dir)) none (top-waits words (first_state env dir) no_kids).so)) in
    (due, are-first run.ran.events due)
