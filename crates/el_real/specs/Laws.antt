-- Laws over the definitions.
use Rattle.std.specs.Prelude.{ℕ, List, Option}
use Rattle.std.specs.FinMap as map
use Rattle.el_env.specs.Vars.{Vars}
use Rattle.el_real.specs.Commands.{entries_of}
use Rattle.el_env.specs.Inherited.{HaveGoodNames}
use Rattle.el_real.specs.Variables.{AreVariables}
use Rattle.el_world.specs.declared.subject.Subject.{Subject}
use Rattle.el_real.specs.declared.lack.Lack.{Lack}
use Rattle.el_real.specs.declared.reason.Call.{Call}
use Rattle.el_real.specs.declared.unstarted.Unstarted.{Unstarted}
use Rattle.el_real.specs.Hints.{IsHint}
use Rattle.el_real.specs.Reasons.{IsKept, IsKeptOfUnstarted}
use Rattle.el_real.specs.Shown.{IsLine}

-- the entries made of variables hold just these
abbrev pub EntriesReadBack : Type 0
EntriesReadBack = (vars : Vars) → HaveGoodNames (map.entries vars) → AreVariables (entries_of vars) vars

-- each line that may be written before a message is one line, whatever it tells of: why a call failed, why nothing was started, or what the message is about
pub record LinesAreSingle : Type 0 where
  pub reasons : (call : Call) (name : List ℕ) (lack : Lack) (line : List ℕ) → IsKept call name lack line → IsLine line
  pub starts : (path : Option (List ℕ)) (dir program : List ℕ) (unstarted : Unstarted) (line : List ℕ) → IsKeptOfUnstarted path dir program unstarted line → IsLine line
  pub hints : (subject : Subject) (line : List ℕ) → IsHint subject line → IsLine line
