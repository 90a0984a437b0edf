-- What the run of a sample comes to.
use Rattle.std.specs.Prelude.{◌≡◌, ℕ, ◌+◌, ◌*◌, ◌/◌, ◌≤◌, List, Some, Ok}
use Rattle.el_world.specs.States.{State}
use Rattle.el_app.specs.declared.tallies.Tally.{Tally}
use Rattle.el_app.specs.Sample.{sample}
use Rattle.el_app.specs.Tallies.{tally_line, line_of}
use Rattle.el_app.specs.Output.{put_out}
use Rattle.el_app.specs.Elcheck.{most_lines, run_played, sampled}

-- of so many lines the 2nd, the 6th and so on run a command
abbrev pub foreground_lines : (lines : ℕ) → ℕ
foreground_lines lines = (lines + 2) / 4

-- the 3rd, the 7th and so on make a pipe
abbrev pub pipeline_lines : (lines : ℕ) → ℕ
pipeline_lines lines = (lines + 1) / 4

-- the 4th, the 8th and so on test a command
abbrev pub if_lines : (lines : ℕ) → ℕ
if_lines lines = lines / 4

-- Each of these starts a process, and so does the last line. The one at a pipe isn't waited for. Both ends of a pipe are closed.
abbrev pub sample_tally : (lines : ℕ) → Tally
sample_tally lines = record {
  starts = foreground_lines lines + pipeline_lines lines + if_lines lines + 1;
  waits = foreground_lines lines + if_lines lines + 1;
  pipes = pipeline_lines lines;
  closes = 2 * pipeline_lines lines;
}

-- a unit for each line and for the last one, so many events, and status 0
abbrev pub sample_told : (lines : ℕ) → List ℕ
sample_told lines = tally_line (lines + 1) (sample_tally lines) 0

-- the run of a sample, as it is played, ends with this line
abbrev pub SamplesEnd : Type 0
SamplesEnd = (lines : ℕ) → lines ≤ most_lines → line_of (run_played (sample lines)) ≡ Some (sample_told lines)

-- so elcheck writes it, and answers 0
abbrev pub SamplesAreTold : Type 0
SamplesAreTold = (lines : ℕ) (state : State) → lines ≤ most_lines → sampled (Ok lines) state ≡ put_out state (sample_told lines) 0
