-- The text of the worked trace.
use Rattle.std.proofs.Common.{◌≡◌, ℕ, List, [], ◌∷◌, ◌++◌, length, Option, Some, Ok, refl, sym, ap, ◌∙◌, arith}
use Rattle.std.specs.Prelude.{codes}
use Rattle.std.specs.Fmt.{digits}
use Rattle.std.specs.FinMap as map
use Rattle.el_env.specs.Vars.{Vars}
use Rattle.el_world.specs.declared.event.Event.{Event}
use Rattle.el_world.specs.declared.event.Event.TheVariants.{Start, Wait}
use Rattle.el_world.specs.declared.event.Handle.{Handle}
use Rattle.el_world.specs.declared.event.Ended.TheVariants.{Exited}
use Rattle.el_record.specs.declared.trace.RunEnd.TheVariants.{Status}
use Rattle.el_record.specs.Fields.{number_before, bytes_before}
use Rattle.el_record.specs.TraceText.{pairs_before, env_before, words_before, ends_before, start_answer_before, event_before, run_end_before, trace_text}

none_of : {A : Type 0} (es : List A) → length es ≡ 0 → es ≡ []
none_of [] e = refl
none_of (x ∷ es) e = absurd (omega arith)

no_entries : (env : Vars) → map.len env ≡ 0 → map.entries env ≡ []
no_entries env e = none_of (map.entries env) (sym (map.len-entries env) ∙ e)

env-empty : (rest : List ℕ) → env_before map.empty rest ≡ number_before 0 rest
env-empty rest = ap (λ es. number_before (length es) (pairs_before es rest)) (no_entries map.empty (map.len-empty _ _))

abbrev own : ℕ → Option Handle
own n = Some (record { number = n })

abbrev row_words : List (List ℕ)
row_words = codes "echo" ∷ codes "a" ∷ codes "b c" ∷ []

abbrev row_events : List Event
row_events = Start row_words map.empty (codes "/") (own 0 ∷ own 1 ∷ own 2 ∷ []) (Ok (record { number = 100 })) ∷ Wait (record { number = 100 }) (Ok (Exited 0)) ∷ []

abbrev row_text : List ℕ
row_text = codes "S3;4:echo,1:a,3:b c,0;1:/,0;1;2;P100;" ++ 10 ∷ codes "W100;E0;" ++ 10 ∷ codes "Zs0;" ++ 10 ∷ []

pub the_row : trace_text row_events (Status 0) ≡ row_text
unfolding digits
the_row =
    ap (λ rest. 83 ∷ words_before row_words rest)
    (env-empty (bytes_before (codes "/") (ends_before (own 0 ∷ own 1 ∷ own 2 ∷ []) (start_answer_before (Ok (record { number = 100 })) (10 ∷ event_before (Wait (record { number = 100 }) (Ok (Exited 0))) (run_end_before (Status 0) []))))))
