-- Workers, their assignments and the threads that they are for. All of it is own.
use Rattle.std.specs.Prelude.{◌≡◌, ◌+◌, ◌≤◌, ℕ, false, List, [], ◌∷◌, length, vec_capacity}
use Rattle.atomic_table.specs.Seated.{TableId}
use Rattle.ownership_ledger.specs.Now.{ShareNow}
use Rattle.ownership_ledger.specs.Rule.{zeros}
use Rattle.script_runner.specs.Totals.{objects_asked}
use Rattle.script_runner.specs.Works.{IsFor}
use Rattle.script_runner.specs.declared.workers.assignment.Assignment.{Assignment}
use Rattle.script_runner.specs.declared.workers.worker.Worker.{Worker}
use Rattle.step_threads.specs.Acts.{acts}
use Rattle.step_threads.specs.Programs.{Part}
use Rattle.step_threads.specs.declared.programs.act.Act.{Act}
use Rattle.step_threads.specs.declared.programs.call.Call.{Call}

-- how many objects acts ask for, calls, and the threads of a script together
abbrev pub asked_by : List Act → ℕ
asked_by [] = 0
asked_by (a ∷ rest) = objects_asked a + asked_by rest

abbrev pub asked_by_calls : List Call → ℕ
asked_by_calls [] = 0
asked_by_calls (c ∷ cs) = asked_by (acts c) + asked_by_calls cs

abbrev pub asked_by_all : List Part → ℕ
asked_by_all [] = 0
asked_by_all (p ∷ ps) = asked_by_calls p.calls + asked_by_all ps

-- what a worker needs of this thread, where all threads ask for so many objects: its tasks, and room for a line of each
-- of them and of each of the objects
abbrev pub IsAssignmentFor : ℕ → Part → Assignment → Type 0
IsAssignmentFor objects part a =
    IsFor part a.kinds.items a.tasks.items × (length a.tasks.items + objects ≤ vec_capacity a.said)

-- a share of this book, to which nothing was added
abbrev pub IsNewShare : TableId → ShareNow → Type 0
IsNewShare book s = (s.book ≡ book) × (s.own ≡ zeros)

module _ {G : Type 0} where
  -- a worker with this assignment that did nothing yet, and with a new share of this book
  pub record HasAssignment (book : TableId) (a : Assignment) (w : Worker G) : Type 0 where
    pub kinds : w.kinds ≡ a.kinds
    pub tasks : w.tasks ≡ a.tasks
    pub taken : w.log.taken ≡ false
    pub said : w.log.said ≡ a.said
    pub on : w.log.full ≡ false
    pub share : IsNewShare book w.log.share

  -- a worker that is at its thread's first act and has noted nothing, with room for all that it may have to
  pub record IsReadyFor (objects : ℕ) (part : Part) (w : Worker G) : Type 0 where
    pub tasks : IsFor part w.kinds.items w.tasks.items
    pub said : w.log.said.items ≡ []
    pub memory : length w.tasks.items + objects ≤ vec_capacity w.log.said
    pub on : w.log.full ≡ false
    pub own : w.log.share.own ≡ zeros
