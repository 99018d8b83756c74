use Rattle.std.proofs.Common.{◌≡◌, ℕ, true, set, sym, refl, ap, ◌∙◌, subst}
use Rattle.step_threads.proofs.Prelude
use Prelude.{as_word, cell_of_name, Exchange, frame_settled, ghost_after_step, HasCell, held_in}
use Prelude.{is_of, IsIn, IsOpenTo, IsReady, kind_at, kind_in_state, model_state, OnCell}
use Prelude.{owing_for, pending, rest, seen, Site, slot_of, slot_value, Slots}
use Rattle.step_threads.proofs.CellNames.{cell_open, goes_in, cell_named}
use Rattle.step_table.specs.declared.cell_steps.cell_step.CellStep.TheVariants.{Swap as Swaps}
use Rattle.step_threads.proofs.Going.{comes, named_slot, sets_ready}
use Rattle.step_threads.proofs.frame.Frame.exchange.Goals as goal

pub exchange-found-requires-clause-open : goal.exchange-found-requires-clause-open
exchange-found-requires-clause-open c =
    let v = c.args.table.now in
    let h : IsIn v.extent.shape c.args.cell = subst (HasCell v.extent.shape) c.requires.act c.requires.cell in
    subst (λ (x : Site). IsOpenTo v c.args.desk x) (sym c.cell-cell.ensures)
    (cell_open v c.args.desk c.args.self.now.registers.slots.items c.args.cell h c.requires.holds c.requires.there)

pub exchange-found-requires-clause-kind : goal.exchange-found-requires-clause-kind
exchange-found-requires-clause-kind c =
    let v = c.args.table.now in
    let x = slot_value c.args.self.now.registers.slots.items c.from.result in
    let h : IsIn v.extent.shape c.args.cell = subst (HasCell v.extent.shape) c.requires.act c.requires.cell in
    subst (λ (y : Site). is_of (kind_in_state (model_state v) y) x ≡ true) (sym c.cell-cell.ensures)
    (goes_in v c.args.self.now.registers.slots.items c.args.cell x h
    (subst (λ (n : ℕ). is_of (kind_at c.args.cell) (slot_value c.args.self.now.registers.slots.items n) ≡ true) (sym c.from.ensures) c.requires.kind))

pub cell-cell-requires-clause-named : goal.cell-cell-requires-clause-named
cell-cell-requires-clause-named c =
    let t = c.args.self.now in
    let r = c.requires in
    cell_named t.registers.slots.items c.args.cell (comes t (Exchange c.args.name c.args.cell) r.within r.ready r.act).1

pub exchange-found-requires-clause-inside : goal.exchange-found-requires-clause-inside
exchange-found-requires-clause-inside c =
    let t = c.args.self.now in
    let r = c.requires in
    named_slot t.registers.slots.items c.args.name c.from.result (comes t (Exchange c.args.name c.args.cell) r.within r.ready r.act).0 c.from.ensures

pub exchange-found-requires-clause-owes : goal.exchange-found-requires-clause-owes
exchange-found-requires-clause-owes c =
    let v = c.args.table.now in
    let t = c.args.self.now in
    let slots = t.registers.slots.items in
    subst (λ (i : ℕ). pending v c.args.desk ≡ owing_for (model_state v) (slot_value slots i) 256) (sym c.from.ensures) c.requires.owes

pub go_on-requires-clause-ready : goal.go_on-requires-clause-ready
go_on-requires-clause-ready c =
    let v = c.args.table.now in
    let t = c.args.self.now in
    let slots = t.registers.slots.items in
    let s = model_state v in
    let x = slot_of s (held_in s c.cell-cell.result) in
    let e = c.exchange-found.ensures.slots ∙ ap (λ (i : ℕ). set slots i x) c.from.ensures
    ∙ ap (λ (y : Site). set slots c.args.name (slot_of s (held_in s y))) c.cell-cell.ensures in
    let r = c.requires in
    let a = Exchange c.args.name c.args.cell in
    subst (λ (l : Slots). IsReady l t.taken t.endings.list (rest t)) (sym e)
    (sets_ready t a r.within r.ready r.act (λ q. q) c.args.name _ (comes t a r.within r.ready r.act).0 refl)

pub returns-clause-found : goal.returns-clause-found
returns-clause-found c = c.exchange-found.ensures.found ∙ ap (seen c.args.table.now) c.cell-cell.ensures

pub returns-clause-table : goal.returns-clause-table
returns-clause-table c =
    let v = c.args.table.now in
    let t = c.args.self.now in
    let slots = t.registers.slots.items in
    c.exchange-found.ensures.table
    ∙ ap (λ (y : Site). ghost_after_step v c.args.desk (OnCell (Swaps y (as_word (slot_value slots c.from.result)) c.exchange-found.result)))
    c.cell-cell.ensures
    ∙ ap (λ (i : ℕ). ghost_after_step v c.args.desk (OnCell (Swaps (cell_of_name (model_state v) slots c.args.cell) (as_word (slot_value slots i))
    c.exchange-found.result))) c.from.ensures

pub returns-clause-frame_view : goal.returns-clause-frame_view
returns-clause-frame_view c =
    let v = c.args.table.now in
    let t = c.args.self.now in
    let slots = t.registers.slots.items in
    let s = model_state v in
    let x = slot_of s (held_in s c.cell-cell.result) in
    let e = c.exchange-found.ensures.slots ∙ ap (λ (i : ℕ). set slots i x) c.from.ensures
    ∙ ap (λ (y : Site). set slots c.args.name (slot_of s (held_in s y))) c.cell-cell.ensures in
    c.go_on.ensures.frame_view ∙ ap (λ (l : Slots). frame_settled l t.taken t.endings.list (rest t)) e

pub returns-clause-on : goal.returns-clause-on
returns-clause-on c = c.go_on.ensures.on c.args.desk c.exchange-found.new.table c.exchange-found.ensures.holds
