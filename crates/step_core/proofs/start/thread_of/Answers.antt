use Rattle.std.proofs.Common.{◌≡◌, ℕ, ◌+◌, ◌≤◌, List, length, All, sym, ap, ◌∙◌, subst, arith}
use Rattle.step_core.proofs.Prelude.{Call, first_ghost, HasCell, HoldsBag, no_slots, part_of}
use Rattle.step_core.proofs.Prelude.{Slots, Task, tasks_from}
use Rattle.step_threads.specs.Endings.{Stack}
use Rattle.step_threads.proofs.holding.Ends.{ends_none}
use Rattle.step_core.proofs.Starts.{holds_start, idle_start, ready_start, tasks_cells}
use Rattle.step_core.proofs.start.thread_of.Goals as goal

pub settle-requires-clause-ready : goal.settle-requires-clause-ready
settle-requires-clause-ready c =
    let n : c.len-names.result ≡ length c.args.actor.now.kinds.items = omega arith in
    ready_start (part_of c.args.actor.now) c.in_ok-tasks.tasks.items c.in_ok-registers.registers.slots.items _ c.requires.part c.requires.fields
    (c.in_ok-tasks.ensures ∙ ap (λ (l : List Call). tasks_from 1 l c.len-names.result) c.as_slice.ensures.value
    ∙ ap (λ (m : ℕ). tasks_from 1 c.args.actor.now.calls.items m) n)
    (c.in_ok-registers.ensures ∙ ap no_slots n)

pub returns-clause-fits : goal.returns-clause-fits
returns-clause-fits c =
    record {
      seat = c.requires.desk;
      holds = c.settle.ensures.holds c.args.desk (first_ghost c.args.extent.now)
          (subst (λ (s : Slots). HoldsBag c.args.desk s (first_ghost c.args.extent.now)) (sym c.in_ok-registers.ensures)
          (holds_start c.args.desk (c.len-names.result + 2) c.args.extent.now));
      within = c.settle.ensures.within;
      ready = c.settle.ensures.ready;
      still = c.settle.ensures.still;
      pending_call = idle_start c.args.desk c.args.extent.now c.requires.desk;
      next = tt;
      stocks = c.in_ok-stock.ensures;
      endings =
          ends_none c.args.desk c.settle.new.self (first_ghost c.args.extent.now)
          (ap (λ (z : Stack). z.list) c.settle.ensures.endings ∙ c.in_ok-endings.ensures.none)
          (subst (λ (z : Stack). c.args.extent.now.shape.blocks ≤ z.room) (sym c.settle.ensures.endings) c.in_ok-endings.ensures.room);
      cells =
          let t = c.settle.ensures.tasks in
          let i = c.in_ok-tasks.ensures ∙ ap (λ (l : List Call). tasks_from 1 l c.len-names.result) c.as_slice.ensures.value in
          let e : c.settle.new.self.tasks.items ≡ tasks_from 1 c.args.actor.now.calls.items c.len-names.result = cc in
          subst (λ (l : List Task). All (λ (x : Task). HasCell c.args.extent.now.shape x.act) l) (sym e)
          (tasks_cells c.args.extent.now.shape 1 c.len-names.result c.args.actor.now.calls.items c.requires.cells);
    }
