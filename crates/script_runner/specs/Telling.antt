-- What a report tells, with the census of its domain: its lines, each without its line feed. All of it is own.
use Rattle.std.specs.Prelude.{ℕ, suc, cond, ◌++◌, List, [], ◌∷◌, Result, Ok, Err}
use Rattle.std.specs.Prelude.{◌≡◌}
use Rattle.std.specs.List.{flat_map}
use Rattle.std.specs.Global.{Vec}
use Rattle.control_block.specs.Census.{CensusNow, is_free, owners_in, weaks_in}
use Rattle.control_block.specs.Desks.{DeskNow, DomainNow}
use Rattle.script_runner.specs.Programs.{IsClosed}
use Rattle.step_threads.specs.declared.said.Said.{Said}
use Rattle.step_threads.specs.Stocks.{from}
use Rattle.script_text.specs.Drafts.{ScriptView}
use Rattle.script_text.specs.Grammar.{ReadsAs, Refuses, ended}
use Rattle.script_text.specs.declared.fault.Fault.{Fault}
use Rattle.script_stepper.specs.Lines.{block_text, said_lines, totals_text}
use Rattle.script_runner.specs.Reports.{IsReport, domain_shape}
use Rattle.script_runner.specs.declared.reports.report.Report.{Report}

-- the lines of threads, of which the first has this number
abbrev pub threads_lines : ℕ → List (Vec Said) → List (List ℕ)
threads_lines thread [] = []
threads_lines thread (said ∷ others) = flat_map (said_lines thread) said.items ++ threads_lines (suc thread) others

-- the line of a block that isn't vacant
abbrev pub closed_block_lines : CensusNow → ℕ → List (List ℕ)
closed_block_lines c b =
    cond (is_free c b) [] (block_text b (record { owners = owners_in c b; weaks = weaks_in c b }) ∷ [])

-- those of all blocks, in order
abbrev pub closed_census_lines : CensusNow → List (List ℕ)
closed_census_lines c = flat_map (closed_block_lines c) (from 1 c.blocks)

-- all lines of a report with a census
abbrev pub report_lines : Report → CensusNow → List (List ℕ)
report_lines report census = threads_lines 1 report.lines.items ++ closed_census_lines census
    ++ totals_text report.totals.made report.totals.ended ∷ []

-- the text of a report of a run of the script, whose desk then closed the domain with this census, which tells of all
-- blocks
pub record IsReportText (script : ScriptView) (text : List ℕ) : Type 0 where
  pub report : Report
  pub domain : DomainNow
  pub desk : DeskNow ℕ
  pub run : IsReport script report domain desk
  pub census : CensusNow
  pub closed : IsClosed desk (domain_shape script) census
  pub says : text ≡ ended (report_lines report census)

-- such a text of the script which the bytes read as, or the refusal that the bytes have
abbrev pub TellsReport : List ℕ → Result (List ℕ) Fault → Type 0
TellsReport bytes (Ok text) = (script : ScriptView) × ReadsAs bytes script × IsReportText script text
TellsReport bytes (Err fault) = Refuses fault bytes
