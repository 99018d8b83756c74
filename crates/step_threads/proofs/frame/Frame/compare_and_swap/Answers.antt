use Rattle.std.proofs.Common.{◌≡◌, true, false, cond, ◌==◌, sym, ap, ◌∙◌, subst}
use Rattle.step_threads.proofs.Prelude
use Prelude.{as_word, CanCompare, cell_bits, cell_of_name, Compare, compared_in, CompareSwap}
use Prelude.{Comparing, comparing, cond-true, false≢true, frame_settled, ghost_after_step, hand}
use Prelude.{HasCell, held_in, IsIn, IsOpenTo, IsReady, kind_in_state, model_state, OnCell, other}
use Prelude.{owing_for, pending, Registers, rest, same_value, Site, slot_of, slot_value, Slots}
use Prelude.{slots_swapped, word_of_cell}
use Rattle.step_threads.proofs.CellNames.{cell_open, cell_named}
use Rattle.step_threads.proofs.Compares.{can_compare, may_compare, swapped_ready}
use Rattle.step_threads.proofs.Going.{comes}
use Rattle.step_threads.proofs.frame.Frame.compare_and_swap.Goals as goal

pub compare_and_swap-swapped-requires-clause-open : goal.compare_and_swap-swapped-requires-clause-open
compare_and_swap-swapped-requires-clause-open c =
    let v = c.args.table.now in
    let t = c.args.self.now in
    let r = c.requires in
    let h : IsIn v.extent.shape c.args.cell = subst (HasCell v.extent.shape) r.act r.cell in
    let there = (may_compare t c.args.name c.args.cell c.args.weak r.within r.ready r.act r.still).0 in
    subst (λ (x : Site). IsOpenTo v c.args.desk x) (sym c.cell-cell.ensures) (cell_open v c.args.desk t.registers.slots.items c.args.cell h r.holds there)

pub compare_and_swap-swapped-requires-clause-compare : goal.compare_and_swap-swapped-requires-clause-compare
compare_and_swap-swapped-requires-clause-compare c =
    let v = c.args.table.now in
    let t = c.args.self.now in
    let slots = t.registers.slots.items in
    let m = comparing slots c.args.name c.args.weak in
    subst (λ (x : Site). CanCompare (kind_in_state (model_state v) x) slots c.comparing-comparing.result) (sym c.cell-cell.ensures)
    (subst (λ (y : Comparing). CanCompare (kind_in_state (model_state v) (cell_of_name (model_state v) slots c.args.cell)) slots y)
    (sym c.comparing-comparing.ensures)
    (can_compare t c.args.name c.args.cell c.args.weak c.requires.within c.requires.ready c.requires.act v c.requires.still c.requires.cell))

pub take-requires-clause-ready : goal.take-requires-clause-ready
take-requires-clause-ready c =
    let t = c.args.self.now in
    let slots = t.registers.slots.items in
    let s = model_state c.args.table.now in
    let x = slot_of s (held_in s c.cell-cell.result) in
    let e =
    c.compare_and_swap-swapped.ensures.slots ∙ cond-true c.compare_and_swap-swapped.result _ _ c.if-swapped.true
    ∙ ap (λ (y : Comparing). slots_swapped y.new y.other slots x) c.comparing-comparing.ensures in
    subst (λ (l : Slots). IsReady l false t.endings.list (rest t)) (sym e)
    (swapped_ready t c.args.name c.args.cell c.args.weak c.requires.within c.requires.ready c.requires.act x)

pub returns-else-swapped-clause-stays : goal.returns-else-swapped-clause-stays
returns-else-swapped-clause-stays c = λ e.
    let t = c.args.self.now in
    ap (λ (h : Registers). record { tasks = t.tasks; at = t.at; registers = h; taken = t.taken; endings = t.endings })
    (c.compare_and_swap-swapped.ensures.stays e)

pub cell-cell-requires-clause-named : goal.cell-cell-requires-clause-named
cell-cell-requires-clause-named c =
    let t = c.args.self.now in
    let can = c.requires in
    cell_named t.registers.slots.items c.args.cell
    (comes t (Compare c.args.name c.args.cell c.args.weak) can.within can.ready c.requires.act).1

pub cell-cell-requires-clause-there : goal.cell-cell-requires-clause-there
cell-cell-requires-clause-there c =
    let can = c.requires in
    (may_compare c.args.self.now c.args.name c.args.cell c.args.weak can.within can.ready c.requires.act can.still).0

pub compare_and_swap-swapped-requires-clause-alike : goal.compare_and_swap-swapped-requires-clause-alike
compare_and_swap-swapped-requires-clause-alike c =
    let v = c.args.table.now in
    let t = c.args.self.now in
    let slots = t.registers.slots.items in
    subst (λ (y : Comparing). same_value c.args.seen (as_word (slot_value slots y.expected)) ≡ true) (sym c.comparing-comparing.ensures) c.requires.alike

pub compare_and_swap-swapped-requires-clause-owes : goal.compare_and_swap-swapped-requires-clause-owes
compare_and_swap-swapped-requires-clause-owes c =
    let v = c.args.table.now in
    let t = c.args.self.now in
    let slots = t.registers.slots.items in
    subst (λ (y : Comparing). pending v c.args.desk ≡ owing_for (model_state v) (slot_value slots y.new) 256) (sym c.comparing-comparing.ensures)
    c.requires.owes

pub returns-then-swapped-clause-same : goal.returns-then-swapped-clause-same
returns-then-swapped-clause-same c = c.compare_and_swap-swapped.ensures.same ∙ ap (λ (y : Site). word_of_cell c.args.table.now y == cell_bits
    c.args.seen) c.cell-cell.ensures

pub returns-then-swapped-clause-table : goal.returns-then-swapped-clause-table
returns-then-swapped-clause-table c =
    let v = c.args.table.now in
    let t = c.args.self.now in
    let slots = t.registers.slots.items in
    let at = cell_of_name (model_state v) slots c.args.cell in
    c.compare_and_swap-swapped.ensures.table
    ∙ ap (λ (y : Site). cond c.compare_and_swap-swapped.result (ghost_after_step v c.args.desk (OnCell (CompareSwap y c.args.seen (compared_in slots
    c.comparing-comparing.result)))) v) c.cell-cell.ensures
    ∙ ap (λ (y : Comparing). cond c.compare_and_swap-swapped.result (ghost_after_step v c.args.desk (OnCell (CompareSwap at c.args.seen (compared_in
    slots y)))) v) c.comparing-comparing.ensures

pub returns-then-swapped-clause-stays : goal.returns-then-swapped-clause-stays
returns-then-swapped-clause-stays c = λ q. absurd (false≢true (sym q ∙ c.if-swapped.true))

pub returns-then-swapped-clause-frame_view : goal.returns-then-swapped-clause-frame_view
returns-then-swapped-clause-frame_view c =
    λ q.
    let v = c.args.table.now in
    let t = c.args.self.now in
    let slots = t.registers.slots.items in
    let s = model_state v in
    let x = slot_of s (held_in s c.cell-cell.result) in
    let e = c.compare_and_swap-swapped.ensures.slots ∙ cond-true c.compare_and_swap-swapped.result _ _ c.if-swapped.true
    ∙ ap (λ (y : Comparing). slots_swapped y.new y.other slots x) c.comparing-comparing.ensures
    ∙ ap (λ (y : Site). slots_swapped (hand slots) (other slots) slots (slot_of s (held_in s y))) c.cell-cell.ensures in
    c.take.ensures.frame_view ∙ ap (λ (l : Slots). frame_settled l false t.endings.list (rest t)) e

pub returns-then-swapped-clause-on : goal.returns-then-swapped-clause-on
returns-then-swapped-clause-on c = λ q. c.take.ensures.on c.args.desk c.compare_and_swap-swapped.new.table c.compare_and_swap-swapped.ensures.holds

pub returns-else-swapped-clause-same : goal.returns-else-swapped-clause-same
returns-else-swapped-clause-same c = c.compare_and_swap-swapped.ensures.same ∙ ap (λ (y : Site). word_of_cell c.args.table.now y == cell_bits
    c.args.seen) c.cell-cell.ensures

pub returns-else-swapped-clause-table : goal.returns-else-swapped-clause-table
returns-else-swapped-clause-table c =
    let v = c.args.table.now in
    let t = c.args.self.now in
    let slots = t.registers.slots.items in
    let at = cell_of_name (model_state v) slots c.args.cell in
    c.compare_and_swap-swapped.ensures.table
    ∙ ap (λ (y : Site). cond c.compare_and_swap-swapped.result (ghost_after_step v c.args.desk (OnCell (CompareSwap y c.args.seen (compared_in slots
    c.comparing-comparing.result)))) v) c.cell-cell.ensures
    ∙ ap (λ (y : Comparing). cond c.compare_and_swap-swapped.result (ghost_after_step v c.args.desk (OnCell (CompareSwap at c.args.seen (compared_in
    slots y)))) v) c.comparing-comparing.ensures

pub returns-else-swapped-clause-frame_view : goal.returns-else-swapped-clause-frame_view
returns-else-swapped-clause-frame_view c = λ q. absurd (false≢true (sym c.if-swapped.false ∙ q))

pub returns-else-swapped-clause-on : goal.returns-else-swapped-clause-on
returns-else-swapped-clause-on c = λ q. absurd (false≢true (sym c.if-swapped.false ∙ q))
