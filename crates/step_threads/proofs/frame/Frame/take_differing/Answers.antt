use Rattle.std.proofs.Common.{◌≡◌, true, false, cond, ◌==◌, Some, sym, ap, ◌∙◌, subst}
use Rattle.step_threads.proofs.Prelude
use Prelude.{as_word, CanCompare, cell_bits, cell_of_name, Compare, compared_in, Comparing}
use Prelude.{cond-true, differed, false≢true, frame_settled, ghost_after_step, hand, HasCell}
use Prelude.{held_in, IsIn, IsOpenTo, IsReady, kind_in_state, model_state, OnCell, other}
use Prelude.{Registers, rest, same_value, Site, slot_of, slot_value, Slots, Take, word_of_cell}
use Rattle.step_threads.proofs.CellNames.{cell_open, cell_named}
use Rattle.step_threads.proofs.Compares.{can_compare, may_compare}
use Rattle.step_threads.proofs.Going.{comes, differs_ready}
use Rattle.step_threads.proofs.frame.Frame.take_differing.Goals as goal

pub take_differing-took-requires-clause-open : goal.take_differing-took-requires-clause-open
take_differing-took-requires-clause-open c =
    let v = c.args.table.now in
    let t = c.args.self.now in
    let can = c.requires.can in
    let h : IsIn v.extent.shape c.args.cell = subst (HasCell v.extent.shape) c.requires.act can.cell in
    let there = (may_compare t c.args.name c.args.cell c.args.weak can.within can.ready c.requires.act can.still).0 in
    subst (λ (x : Site). IsOpenTo v c.args.desk x) (sym c.cell-cell.ensures) (cell_open v c.args.desk t.registers.slots.items c.args.cell h can.holds there)

pub take_differing-took-requires-clause-compare : goal.take_differing-took-requires-clause-compare
take_differing-took-requires-clause-compare c =
    let v = c.args.table.now in
    let t = c.args.self.now in
    let slots = t.registers.slots.items in
    let can = c.requires.can in
    subst (λ (x : Site). CanCompare (kind_in_state (model_state v) x) slots c.comparing-comparing.result) (sym c.cell-cell.ensures)
    (subst (λ (y : Comparing). CanCompare (kind_in_state (model_state v) (cell_of_name (model_state v) slots c.args.cell)) slots y)
    (sym c.comparing-comparing.ensures)
    (can_compare t c.args.name c.args.cell c.args.weak can.within can.ready c.requires.act v can.still can.cell))

pub returns-else-took-clause-stays : goal.returns-else-took-clause-stays
returns-else-took-clause-stays c = λ e.
    let t = c.args.self.now in
    ap (λ (h : Registers). record { tasks = t.tasks; at = t.at; registers = h; taken = t.taken; endings = t.endings }) (c.take_differing-took.ensures.stays e)

pub cell-cell-requires-clause-named : goal.cell-cell-requires-clause-named
cell-cell-requires-clause-named c =
    let t = c.args.self.now in
    let can = c.requires.can in
    cell_named t.registers.slots.items c.args.cell
    (comes t (Compare c.args.name c.args.cell c.args.weak) can.within can.ready c.requires.act).1

pub cell-cell-requires-clause-there : goal.cell-cell-requires-clause-there
cell-cell-requires-clause-there c =
    let can = c.requires.can in
    (may_compare c.args.self.now c.args.name c.args.cell c.args.weak can.within can.ready c.requires.act can.still).0

pub take_differing-took-requires-clause-differs : goal.take_differing-took-requires-clause-differs
take_differing-took-requires-clause-differs c =
    let v = c.args.table.now in
    let t = c.args.self.now in
    let slots = t.registers.slots.items in
    subst (λ (y : Comparing). same_value c.args.seen (as_word (slot_value slots y.expected)) ≡ false) (sym c.comparing-comparing.ensures) c.requires.differs

pub take-requires-clause-ready : goal.take-requires-clause-ready
take-requires-clause-ready c =
    let v = c.args.table.now in
    let t = c.args.self.now in
    let slots = t.registers.slots.items in
    let s = model_state v in
    let x = slot_of s (held_in s c.cell-cell.result) in
    let e = c.take_differing-took.ensures.slots ∙ cond-true c.take_differing-took.result _ _ c.if-took.true
    ∙ ap (λ (y : Comparing). differed y.new y.other slots x) c.comparing-comparing.ensures
    ∙ ap (λ (y : Site). differed (hand slots) (other slots) slots (slot_of s (held_in s y))) c.cell-cell.ensures in
    subst (λ (l : Slots). IsReady l true t.endings.list (rest t)) (sym e)
    (differs_ready t c.args.name c.args.cell c.args.weak _ c.requires.can.within c.requires.can.ready c.requires.act)

pub returns-then-took-clause-same : goal.returns-then-took-clause-same
returns-then-took-clause-same c = c.take_differing-took.ensures.same ∙ ap (λ (y : Site). word_of_cell c.args.table.now y == cell_bits c.args.seen)
    c.cell-cell.ensures

pub returns-then-took-clause-table : goal.returns-then-took-clause-table
returns-then-took-clause-table c =
    let v = c.args.table.now in
    let t = c.args.self.now in
    let slots = t.registers.slots.items in
    let at = cell_of_name (model_state v) slots c.args.cell in
    c.take_differing-took.ensures.table
    ∙ ap (λ (y : Site). cond c.take_differing-took.result (ghost_after_step v c.args.desk (OnCell (Take y c.args.seen (Some (compared_in slots
    c.comparing-comparing.result))))) v) c.cell-cell.ensures
    ∙ ap (λ (y : Comparing). cond c.take_differing-took.result (ghost_after_step v c.args.desk (OnCell (Take at c.args.seen (Some (compared_in slots
    y))))) v) c.comparing-comparing.ensures

pub returns-then-took-clause-stays : goal.returns-then-took-clause-stays
returns-then-took-clause-stays c = λ q. absurd (false≢true (sym q ∙ c.if-took.true))

pub returns-then-took-clause-frame_view : goal.returns-then-took-clause-frame_view
returns-then-took-clause-frame_view c =
    λ q.
    let v = c.args.table.now in
    let t = c.args.self.now in
    let slots = t.registers.slots.items in
    let s = model_state v in
    let x = slot_of s (held_in s c.cell-cell.result) in
    let e = c.take_differing-took.ensures.slots ∙ cond-true c.take_differing-took.result _ _ c.if-took.true
    ∙ ap (λ (y : Comparing). differed y.new y.other slots x) c.comparing-comparing.ensures
    ∙ ap (λ (y : Site). differed (hand slots) (other slots) slots (slot_of s (held_in s y))) c.cell-cell.ensures in
    c.take.ensures.frame_view ∙ ap (λ (l : Slots). frame_settled l true t.endings.list (rest t)) e

pub returns-then-took-clause-on : goal.returns-then-took-clause-on
returns-then-took-clause-on c = λ q. c.take.ensures.on c.args.desk c.take_differing-took.new.table c.take_differing-took.ensures.holds

pub returns-else-took-clause-same : goal.returns-else-took-clause-same
returns-else-took-clause-same c = c.take_differing-took.ensures.same ∙ ap (λ (y : Site). word_of_cell c.args.table.now y == cell_bits c.args.seen)
    c.cell-cell.ensures

pub returns-else-took-clause-table : goal.returns-else-took-clause-table
returns-else-took-clause-table c =
    let v = c.args.table.now in
    let t = c.args.self.now in
    let slots = t.registers.slots.items in
    let at = cell_of_name (model_state v) slots c.args.cell in
    c.take_differing-took.ensures.table
    ∙ ap (λ (y : Site). cond c.take_differing-took.result (ghost_after_step v c.args.desk (OnCell (Take y c.args.seen (Some (compared_in slots
    c.comparing-comparing.result))))) v) c.cell-cell.ensures
    ∙ ap (λ (y : Comparing). cond c.take_differing-took.result (ghost_after_step v c.args.desk (OnCell (Take at c.args.seen (Some (compared_in slots
    y))))) v) c.comparing-comparing.ensures

pub returns-else-took-clause-frame_view : goal.returns-else-took-clause-frame_view
returns-else-took-clause-frame_view c = λ q. absurd (false≢true (sym c.if-took.false ∙ q))

pub returns-else-took-clause-on : goal.returns-else-took-clause-on
returns-else-took-clause-on c = λ q. absurd (false≢true (sym c.if-took.false ∙ q))
