-- What a run of a script on real workers leaves: a report, and the domain with its sole desk. All of it is own.
use Rattle.std.specs.Prelude.{◌≡◌, ℕ, ◌*◌, ◌/◌, All, length, List, map}
use Rattle.std.specs.List.{AllZip}
use Rattle.control_block.specs.Desks.{Belongs, DeskNow, DomainNow, IsFirstDesk}
use Rattle.control_block.specs.Rule.{opening_of}
use Rattle.control_word.specs.declared.model.event.Entry.{Entry}
use Rattle.control_word.specs.declared.shape.Shape.{Shape}
use Rattle.script_runner.specs.Parting.{AbsorbsAll, IsNew, IsPartedInto, WindsUp}
use Rattle.script_runner.specs.Programs.{CanClose}
use Rattle.script_runner.specs.Tables.{TableNow}
use Rattle.script_runner.specs.declared.table.staff.Share.{Share}
use Rattle.ownership_ledger.specs.Now.{ShareNow}
use Rattle.script_text.specs.Beginnings.{script_shape}
use Rattle.script_text.specs.Drafts.{ScriptView}
use Rattle.script_text.specs.Scripts.{program_in}
use Rattle.script_text.specs.Versions.{blocks_in}
use Rattle.script_runner.specs.Deals.{field_0}
use Rattle.script_runner.specs.Teams.{IsInterleaved}
use Rattle.script_runner.specs.Totals.{count_ended_by, count_ended_in, made_by, count_made_in}
use Rattle.script_runner.specs.declared.reports.report.Report.{Report}
use Rattle.step_threads.specs.declared.said.Said.{Said}

-- the domain of a script's workers has as many blocks and cells as its world, and room for each worker's allowance
abbrev pub domain_shape : ScriptView → Shape
domain_shape script = record (script_shape script) { allowance = 65536 * length script.threads }

-- what each of a script's workers has: 36 slots, an allowance of 65,535, and a store of as many blocks as each other
abbrev pub share_for : ScriptView → Share
share_for script =
    record { slots = 36; allowance = 65535; blocks = blocks_in script.version / length script.threads }

-- So many workers had tables of a new domain's parts, each with such a share, and the domain's first table absorbed
-- what they left. Then all handles left it, and what was left to end did so
pub record HadWorkers (domain : DomainNow) (share : Share) (count : ℕ) (last : DeskNow ℕ) : Type 0 where
  pub first : TableNow ℕ
  pub begins : IsFirstDesk domain first.desk
  pub new : IsNew share.slots first
  pub lent : List (TableNow ℕ)
  pub many : length lent ≡ count
  pub between : DeskNow ℕ
  pub parts : IsPartedInto first.desk share.allowance share.blocks lent between
  pub each_new : All (IsNew share.slots) lent
  pub left : List (TableNow ℕ)
  pub all : length left ≡ count
  pub after : TableNow ℕ
  pub absorbs : AbsorbsAll (record first { desk = between }) left after
  pub winds_up : WindsUp after last

-- what was added to a share is what the history has under a name
abbrev pub HasAdded : {V : Type 0} → List (Entry V) → ℕ → ShareNow → Type 0
HasAdded h n s = (s.own.made ≡ made_by n h) × (s.own.ended ≡ count_ended_by n h)

-- A worker for each thread was there, and worked in the domain with its share of it, and this desk has all that they
-- left: no handle is in any hands, and the desk can close the domain. What it has seen is an interleaving of the
-- threads, each with its lines, and with what it did under the name of a desk that was split off for it
pub record IsPerformed (script : ScriptView) (lines : List (List Said)) (domain : DomainNow) (desk : DeskNow ℕ)
    : Type 0 where
  pub many : length lines ≡ length script.threads
  pub of : domain.shape ≡ domain_shape script
  pub here : Belongs desk domain
  pub can_close : CanClose desk (domain_shape script)
  pub works : HadWorkers domain (share_for script) (length script.threads) desk
  pub interleaved : IsInterleaved field_0 (opening_of (domain_shape script)) desk.seen
      (program_in script.threads) lines

-- so it was, and each worker's share of a book has what its desk made, and the ends of its objects
pub record IsCounted (script : ScriptView) (lines : List (List Said)) (domain : DomainNow) (desk : DeskNow ℕ)
    (shares : List ShareNow) : Type 0 where
  pub run : IsPerformed script lines domain desk
  pub added : AllZip (HasAdded desk.seen) run.interleaved.names shares

-- a run of the script, with its totals: as many objects as the desk's history makes, and as end in it
pub record IsReport (script : ScriptView) (report : Report) (domain : DomainNow) (desk : DeskNow ℕ) : Type 0 where
  pub run : IsPerformed script (map (λ v. v.items) report.lines.items) domain desk
  pub made : report.totals.made ≡ count_made_in desk.seen
  pub ended : report.totals.ended ≡ count_ended_in desk.seen
