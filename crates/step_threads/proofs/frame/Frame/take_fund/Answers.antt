use Rattle.std.proofs.Common.{ℕ, true, cond, set, ◌==◌, None, sym, refl, ap, ◌∙◌, subst}
use Rattle.step_threads.proofs.Prelude.{cell_bits, cond-true, false≢true, frame_settled}
use Rattle.step_threads.proofs.Prelude.{ghost_after_step, hand, HasCell, held_in, IsIn, IsOpenTo}
use Rattle.step_threads.proofs.Prelude.{IsReady, Load, model_state, OnCell, Registers, rest, Site}
use Rattle.step_threads.proofs.Prelude.{slot_of, slot_pointer, Slots, Take, word_of_cell}
use Rattle.step_threads.proofs.CellNames.{cell_open, cell_named}
use Rattle.step_threads.proofs.Going.{comes, hand_bare, hand_in, takes_ready}
use Rattle.step_threads.proofs.frame.Frame.take_fund.Goals as goal

pub take_fund-took-requires-clause-open : goal.take_fund-took-requires-clause-open
take_fund-took-requires-clause-open c =
    let v = c.args.table.now in
    let h : IsIn v.extent.shape c.args.cell = subst (HasCell v.extent.shape) c.requires.act c.requires.can.cell in
    subst (λ (x : Site). IsOpenTo v c.args.desk x) (sym c.cell-cell.ensures)
    (cell_open v c.args.desk c.args.self.now.registers.slots.items c.args.cell h c.requires.can.holds c.requires.there)

pub returns-else-took-clause-stays : goal.returns-else-took-clause-stays
returns-else-took-clause-stays c = λ e.
    let t = c.args.self.now in
    ap (λ (h : Registers). record { tasks = t.tasks; at = t.at; registers = h; taken = t.taken; endings = t.endings }) (c.take_fund-took.ensures.stays e)

pub cell-cell-requires-clause-named : goal.cell-cell-requires-clause-named
cell-cell-requires-clause-named c =
    let t = c.args.self.now in
    let can = c.requires.can in
    cell_named t.registers.slots.items c.args.cell (comes t (Load c.args.cell) can.within can.ready c.requires.act).0

pub take_fund-took-requires-clause-inside : goal.take_fund-took-requires-clause-inside
take_fund-took-requires-clause-inside c = hand_in c.args.self.now c.requires.can.ready c.hand-hand.result c.hand-hand.ensures

pub take_fund-took-requires-clause-empty : goal.take_fund-took-requires-clause-empty
take_fund-took-requires-clause-empty c =
    let t = c.args.self.now in
    let can = c.requires.can in
    ap (slot_pointer t.registers.slots.items) c.hand-hand.ensures
    ∙ hand_bare t can.ready can.ended (comes t (Load c.args.cell) can.within can.ready c.requires.act).1

pub take-requires-clause-ready : goal.take-requires-clause-ready
take-requires-clause-ready c =
    let v = c.args.table.now in
    let t = c.args.self.now in
    let slots = t.registers.slots.items in
    let s = model_state v in
    let x = slot_of s (held_in s c.cell-cell.result) in
    let e = c.take_fund-took.ensures.slots ∙ cond-true c.take_fund-took.result _ _ c.if-took.true
    ∙ ap (λ (i : ℕ). set slots i x) c.hand-hand.ensures
    ∙ ap (λ (y : Site). set slots (hand slots) (slot_of s (held_in s y))) c.cell-cell.ensures in
    subst (λ (l : Slots). IsReady l true t.endings.list (rest t)) (sym e)
    (takes_ready t (Load c.args.cell) c.requires.can.within c.requires.can.ready c.requires.act (λ q. q) _ refl)

pub returns-then-took-clause-same : goal.returns-then-took-clause-same
returns-then-took-clause-same c = c.take_fund-took.ensures.same ∙ ap (λ (y : Site). word_of_cell c.args.table.now y == cell_bits c.args.seen)
    c.cell-cell.ensures

pub returns-then-took-clause-table : goal.returns-then-took-clause-table
returns-then-took-clause-table c =
    let v = c.args.table.now in
    let t = c.args.self.now in
    let slots = t.registers.slots.items in
    c.take_fund-took.ensures.table
    ∙ ap (λ (y : Site). cond c.take_fund-took.result (ghost_after_step v c.args.desk (OnCell (Take y c.args.seen None))) v) c.cell-cell.ensures

pub returns-then-took-clause-stays : goal.returns-then-took-clause-stays
returns-then-took-clause-stays c = λ q. absurd (false≢true (sym q ∙ c.if-took.true))

pub returns-then-took-clause-frame_view : goal.returns-then-took-clause-frame_view
returns-then-took-clause-frame_view c =
    λ q.
    let v = c.args.table.now in
    let t = c.args.self.now in
    let slots = t.registers.slots.items in
    let s = model_state v in
    let x = slot_of s (held_in s c.cell-cell.result) in
    let e = c.take_fund-took.ensures.slots ∙ cond-true c.take_fund-took.result _ _ c.if-took.true
    ∙ ap (λ (i : ℕ). set slots i x) c.hand-hand.ensures
    ∙ ap (λ (y : Site). set slots (hand slots) (slot_of s (held_in s y))) c.cell-cell.ensures in
    c.take.ensures.frame_view ∙ ap (λ (l : Slots). frame_settled l true t.endings.list (rest t)) e

pub returns-then-took-clause-on : goal.returns-then-took-clause-on
returns-then-took-clause-on c = λ q. c.take.ensures.on c.args.desk c.take_fund-took.new.table c.take_fund-took.ensures.holds

pub returns-else-took-clause-same : goal.returns-else-took-clause-same
returns-else-took-clause-same c = c.take_fund-took.ensures.same ∙ ap (λ (y : Site). word_of_cell c.args.table.now y == cell_bits c.args.seen)
    c.cell-cell.ensures

pub returns-else-took-clause-table : goal.returns-else-took-clause-table
returns-else-took-clause-table c =
    let v = c.args.table.now in
    let t = c.args.self.now in
    let slots = t.registers.slots.items in
    c.take_fund-took.ensures.table
    ∙ ap (λ (y : Site). cond c.take_fund-took.result (ghost_after_step v c.args.desk (OnCell (Take y c.args.seen None))) v) c.cell-cell.ensures

pub returns-else-took-clause-frame_view : goal.returns-else-took-clause-frame_view
returns-else-took-clause-frame_view c = λ q. absurd (false≢true (sym c.if-took.false ∙ q))

pub returns-else-took-clause-on : goal.returns-else-took-clause-on
returns-else-took-clause-on c = λ q. absurd (false≢true (sym c.if-took.false ∙ q))
