use Rattle.std.proofs.Common.{◌≡◌, ℕ, true, sym, refl, ap, ◌∙◌, subst}
use Rattle.step_threads.proofs.Prelude.{as_word, cell_of_name, ghost_after_step, HasCell, Holds}
use Rattle.step_threads.proofs.Prelude.{is_of, IsIn, IsOpenTo, kind_at, kind_in_state, model_state}
use Rattle.step_threads.proofs.Prelude.{OnCell, Site, slot_value}
use Rattle.step_table.specs.Contents.{is_held}
use Rattle.step_table.specs.declared.cell_steps.cell_step.CellStep.TheVariants.{Holds as HoldsStep}
use Rattle.step_threads.proofs.CellNames.{cell_open, goes_in, cell_named}
use Rattle.step_threads.proofs.Going.{comes, named_slot, stays_ready}
use Rattle.step_threads.proofs.frame.Frame.holds.Goals as goal

pub cell-cell-requires-clause-named : goal.cell-cell-requires-clause-named
cell-cell-requires-clause-named c =
    let t = c.args.self.now in
    let can = c.requires.can in
    cell_named t.registers.slots.items c.args.cell (comes t (Holds c.args.name c.args.cell) can.within can.ready c.requires.act).1

pub holds-holds-requires-clause-open : goal.holds-holds-requires-clause-open
holds-holds-requires-clause-open c =
    let v = c.args.table.now in
    let h : IsIn v.extent.shape c.args.cell = subst (HasCell v.extent.shape) c.requires.act c.requires.can.cell in
    subst (λ (x : Site). IsOpenTo v c.args.desk x) (sym c.cell-cell.ensures)
    (cell_open v c.args.desk c.args.self.now.registers.slots.items c.args.cell h c.requires.can.holds c.requires.there)

pub holds-holds-requires-clause-inside : goal.holds-holds-requires-clause-inside
holds-holds-requires-clause-inside c =
    let t = c.args.self.now in
    let can = c.requires.can in
    named_slot t.registers.slots.items c.args.name c.from.result (comes t (Holds c.args.name c.args.cell) can.within can.ready c.requires.act).0 c.from.ensures

pub holds-holds-requires-clause-kind : goal.holds-holds-requires-clause-kind
holds-holds-requires-clause-kind c =
    let v = c.args.table.now in
    let slots = c.args.self.now.registers.slots.items in
    let x = slot_value slots c.from.result in
    let h : IsIn v.extent.shape c.args.cell = subst (HasCell v.extent.shape) c.requires.act c.requires.can.cell in
    subst (λ (y : Site). is_of (kind_in_state (model_state v) y) x ≡ true) (sym c.cell-cell.ensures)
    (goes_in v slots c.args.cell x h (subst (λ (n : ℕ). is_of (kind_at c.args.cell) (slot_value slots n) ≡ true) (sym c.from.ensures) c.requires.kind))

pub go_on-requires-clause-ready : goal.go_on-requires-clause-ready
go_on-requires-clause-ready c =
    let can = c.requires.can in
    stays_ready c.args.self.now (Holds c.args.name c.args.cell) can.within can.ready c.requires.act (λ e. e) refl

pub returns-clause-exact : goal.returns-clause-exact
returns-clause-exact c =
    let s = model_state c.args.table.now in
    let slots = c.args.self.now.registers.slots.items in
    c.holds-holds.ensures.exact ∙ ap (λ (y : Site). is_held s y (slot_value slots c.from.result)) c.cell-cell.ensures
    ∙ ap (λ (i : ℕ). is_held s (cell_of_name s slots c.args.cell) (slot_value slots i)) c.from.ensures

pub returns-clause-table : goal.returns-clause-table
returns-clause-table c =
    let v = c.args.table.now in
    let slots = c.args.self.now.registers.slots.items in
    c.holds-holds.ensures.table
    ∙ ap (λ (y : Site). ghost_after_step v c.args.desk (OnCell (HoldsStep y (as_word (slot_value slots c.from.result)) c.holds-holds.result)))
    c.cell-cell.ensures
    ∙ ap (λ (i : ℕ). ghost_after_step v c.args.desk (OnCell (HoldsStep (cell_of_name (model_state v) slots c.args.cell) (as_word (slot_value slots i))
    c.holds-holds.result))) c.from.ensures

pub returns-clause-on : goal.returns-clause-on
returns-clause-on c = c.go_on.ensures.on c.args.desk c.holds-holds.new.table c.holds-holds.ensures.holds
