use Rattle.std.proofs.Common.{◌≡◌, ℕ, true, false, cond, set, is_some, None, sym, refl, ap, ◌∙◌}
use Rattle.std.proofs.Common.{subst}
use Rattle.step_threads.proofs.Prelude.{cond-false, false≢true, frame_settled, ghost_after_step}
use Rattle.step_threads.proofs.Prelude.{hand, HasCell, held_in, IsIn, IsOpenTo, IsReady, Load}
use Rattle.step_threads.proofs.Prelude.{Look, model_state, OnCell, Registers, rest, seen, Site}
use Rattle.step_threads.proofs.Prelude.{slot_of, slot_pointer, Slots}
use Rattle.step_threads.proofs.CellNames.{cell_open, cell_named}
use Rattle.step_threads.proofs.Going.{comes, hand_bare, hand_in, takes_ready}
use Rattle.step_threads.proofs.frame.Frame.look_to_load.Goals as goal

pub look_to_load-found-requires-clause-open : goal.look_to_load-found-requires-clause-open
look_to_load-found-requires-clause-open c =
    let v = c.args.table.now in
    let h : IsIn v.extent.shape c.args.cell = subst (HasCell v.extent.shape) c.requires.act c.requires.can.cell in
    subst (λ (x : Site). IsOpenTo v c.args.desk x) (sym c.cell-cell.ensures)
    (cell_open v c.args.desk c.args.self.now.registers.slots.items c.args.cell h c.requires.can.holds c.requires.there)

pub returns-else-is_none-clause-stays : goal.returns-else-is_none-clause-stays
returns-else-is_none-clause-stays c = λ e.
    let t = c.args.self.now in
    ap (λ (h : Registers). record { tasks = t.tasks; at = t.at; registers = h; taken = t.taken; endings = t.endings }) (c.look_to_load-found.ensures.stays e)

pub cell-cell-requires-clause-named : goal.cell-cell-requires-clause-named
cell-cell-requires-clause-named c =
    let t = c.args.self.now in
    let can = c.requires.can in
    cell_named t.registers.slots.items c.args.cell (comes t (Load c.args.cell) can.within can.ready c.requires.act).0

pub look_to_load-found-requires-clause-inside : goal.look_to_load-found-requires-clause-inside
look_to_load-found-requires-clause-inside c = hand_in c.args.self.now c.requires.can.ready c.hand-hand.result c.hand-hand.ensures

pub look_to_load-found-requires-clause-empty : goal.look_to_load-found-requires-clause-empty
look_to_load-found-requires-clause-empty c =
    let t = c.args.self.now in
    let can = c.requires.can in
    ap (slot_pointer t.registers.slots.items) c.hand-hand.ensures
    ∙ hand_bare t can.ready can.ended (comes t (Load c.args.cell) can.within can.ready c.requires.act).1

pub take-requires-clause-ready : goal.take-requires-clause-ready
take-requires-clause-ready c =
    let v = c.args.table.now in
    let t = c.args.self.now in
    let slots = t.registers.slots.items in
    let bare : is_some c.look_to_load-found.result.owned ≡ false = c.if-is_none.ensures in
    let s = model_state v in
    let x = slot_of s (held_in s c.cell-cell.result) in
    let e = c.look_to_load-found.ensures.slots ∙ cond-false (is_some c.look_to_load-found.result.owned) _ _ bare
    ∙ ap (λ (i : ℕ). set slots i x) c.hand-hand.ensures
    ∙ ap (λ (y : Site). set slots (hand slots) (slot_of s (held_in s y))) c.cell-cell.ensures in
    subst (λ (l : Slots). IsReady l true t.endings.list (rest t)) (sym e)
    (takes_ready t (Load c.args.cell) c.requires.can.within c.requires.can.ready c.requires.act (λ q. q) _ refl)

pub returns-then-is_none-clause-found : goal.returns-then-is_none-clause-found
returns-then-is_none-clause-found c = c.look_to_load-found.ensures.found ∙ ap (seen c.args.table.now) c.cell-cell.ensures

pub returns-then-is_none-clause-table : goal.returns-then-is_none-clause-table
returns-then-is_none-clause-table c =
    let v = c.args.table.now in
    let t = c.args.self.now in
    let slots = t.registers.slots.items in
    c.look_to_load-found.ensures.table
    ∙ ap (λ (y : Site). cond (is_some c.look_to_load-found.result.owned) v (ghost_after_step v c.args.desk (OnCell (Look y
    c.look_to_load-found.result None)))) c.cell-cell.ensures

pub returns-then-is_none-clause-stays : goal.returns-then-is_none-clause-stays
returns-then-is_none-clause-stays c =
    let bare : is_some c.look_to_load-found.result.owned ≡ false = c.if-is_none.ensures in
    λ q. absurd (false≢true (sym bare ∙ q))

pub returns-then-is_none-clause-frame_view : goal.returns-then-is_none-clause-frame_view
returns-then-is_none-clause-frame_view c =
    λ q.
    let v = c.args.table.now in
    let t = c.args.self.now in
    let slots = t.registers.slots.items in
    let bare : is_some c.look_to_load-found.result.owned ≡ false = c.if-is_none.ensures in
    let s = model_state v in
    let x = slot_of s (held_in s c.cell-cell.result) in
    let e = c.look_to_load-found.ensures.slots ∙ cond-false (is_some c.look_to_load-found.result.owned) _ _ bare
    ∙ ap (λ (i : ℕ). set slots i x) c.hand-hand.ensures
    ∙ ap (λ (y : Site). set slots (hand slots) (slot_of s (held_in s y))) c.cell-cell.ensures in
    c.take.ensures.frame_view ∙ ap (λ (l : Slots). frame_settled l true t.endings.list (rest t)) e

pub returns-then-is_none-clause-on : goal.returns-then-is_none-clause-on
returns-then-is_none-clause-on c = λ q. c.take.ensures.on c.args.desk c.look_to_load-found.new.table c.look_to_load-found.ensures.holds

pub returns-else-is_none-clause-found : goal.returns-else-is_none-clause-found
returns-else-is_none-clause-found c = c.look_to_load-found.ensures.found ∙ ap (seen c.args.table.now) c.cell-cell.ensures

pub returns-else-is_none-clause-table : goal.returns-else-is_none-clause-table
returns-else-is_none-clause-table c =
    let v = c.args.table.now in
    let t = c.args.self.now in
    let slots = t.registers.slots.items in
    c.look_to_load-found.ensures.table
    ∙ ap (λ (y : Site). cond (is_some c.look_to_load-found.result.owned) v (ghost_after_step v c.args.desk (OnCell (Look y
    c.look_to_load-found.result None)))) c.cell-cell.ensures

pub returns-else-is_none-clause-frame_view : goal.returns-else-is_none-clause-frame_view
returns-else-is_none-clause-frame_view c =
    let full : is_some c.look_to_load-found.result.owned ≡ true = c.if-is_none.ensures in
    λ q. absurd (false≢true (sym q ∙ full))

pub returns-else-is_none-clause-on : goal.returns-else-is_none-clause-on
returns-else-is_none-clause-on c =
    let full : is_some c.look_to_load-found.result.owned ≡ true = c.if-is_none.ensures in
    λ q. absurd (false≢true (sym q ∙ full))
