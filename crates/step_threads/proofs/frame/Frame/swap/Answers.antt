use Rattle.std.proofs.Common.{◌≡◌, ℕ, true, false, sym, ap, ◌∙◌, subst}
use Rattle.step_threads.proofs.Prelude
use Prelude.{as_word, cell_of_name, frame_settled, ghost_after_step, hand, HasCell, held_in, is_of}
use Prelude.{IsIn, IsOpenTo, IsReady, kind_at, kind_in_state, model_state, OnCell, other}
use Prelude.{owing_for, pending, rest, seen, Site, slot_of, slot_value, Slots, slots_swapped, Swap}
use Rattle.step_threads.proofs.CellNames.{cell_open, goes_in, cell_named}
use Rattle.step_table.specs.declared.cell_steps.cell_step.CellStep.TheVariants.{Swap as Swaps}
use Rattle.step_threads.proofs.Going.{apart_other, comes, hand_in, other_bare, other_in}
use Rattle.step_threads.proofs.Going.{swaps_ready}
use Rattle.step_threads.proofs.frame.Frame.swap.Goals as goal

pub swap-found-requires-clause-open : goal.swap-found-requires-clause-open
swap-found-requires-clause-open c =
    let v = c.args.table.now in
    let h : IsIn v.extent.shape c.args.cell = subst (HasCell v.extent.shape) c.requires.act c.requires.cell in
    subst (λ (x : Site). IsOpenTo v c.args.desk x) (sym c.cell-cell.ensures)
    (cell_open v c.args.desk c.args.self.now.registers.slots.items c.args.cell h c.requires.holds c.requires.there)

pub swap-found-requires-clause-kind : goal.swap-found-requires-clause-kind
swap-found-requires-clause-kind c =
    let v = c.args.table.now in
    let x = slot_value c.args.self.now.registers.slots.items c.hand-hand.result in
    let h : IsIn v.extent.shape c.args.cell = subst (HasCell v.extent.shape) c.requires.act c.requires.cell in
    subst (λ (y : Site). is_of (kind_in_state (model_state v) y) x ≡ true) (sym c.cell-cell.ensures)
    (goes_in v c.args.self.now.registers.slots.items c.args.cell x h
    (subst (λ (n : ℕ). is_of (kind_at c.args.cell) (slot_value c.args.self.now.registers.slots.items n) ≡ true) (sym c.hand-hand.ensures) c.requires.kind))

pub cell-cell-requires-clause-named : goal.cell-cell-requires-clause-named
cell-cell-requires-clause-named c =
    let t = c.args.self.now in
    let r = c.requires in
    cell_named t.registers.slots.items c.args.cell (comes t (Swap c.args.cell) r.within r.ready r.act)

pub swap-found-requires-clause-from : goal.swap-found-requires-clause-from
swap-found-requires-clause-from c = hand_in c.args.self.now c.requires.ready c.hand-hand.result c.hand-hand.ensures

pub swap-found-requires-clause-inside : goal.swap-found-requires-clause-inside
swap-found-requires-clause-inside c = other_in c.args.self.now c.requires.ready c.other-other.result c.other-other.ensures

pub swap-found-requires-clause-apart : goal.swap-found-requires-clause-apart
swap-found-requires-clause-apart c =
    apart_other c.args.self.now c.requires.ready c.hand-hand.result c.other-other.result c.hand-hand.ensures c.other-other.ensures

pub swap-found-requires-clause-empty : goal.swap-found-requires-clause-empty
swap-found-requires-clause-empty c =
    let r = c.requires in
    other_bare c.args.self.now (Swap c.args.cell) r.within r.ready r.act (λ q. q) c.other-other.result c.other-other.ensures

pub swap-found-requires-clause-owes : goal.swap-found-requires-clause-owes
swap-found-requires-clause-owes c =
    let v = c.args.table.now in
    let t = c.args.self.now in
    let slots = t.registers.slots.items in
    subst (λ (i : ℕ). pending v c.args.desk ≡ owing_for (model_state v) (slot_value slots i) 256) (sym c.hand-hand.ensures) c.requires.owes

pub take-requires-clause-ready : goal.take-requires-clause-ready
take-requires-clause-ready c =
    let v = c.args.table.now in
    let t = c.args.self.now in
    let slots = t.registers.slots.items in
    let s = model_state v in
    let x = slot_of s (held_in s c.cell-cell.result) in
    let e = c.swap-found.ensures.slots ∙ ap (λ (i : ℕ). slots_swapped i c.other-other.result slots x) c.hand-hand.ensures
    ∙ ap (λ (i : ℕ). slots_swapped (hand slots) i slots x) c.other-other.ensures
    ∙ ap (λ (y : Site). slots_swapped (hand slots) (other slots) slots (slot_of s (held_in s y))) c.cell-cell.ensures in
    subst (λ (l : Slots). IsReady l false t.endings.list (rest t)) (sym e)
    (swaps_ready t c.args.cell _ c.requires.within c.requires.ready c.requires.act)

pub returns-clause-found : goal.returns-clause-found
returns-clause-found c = c.swap-found.ensures.found ∙ ap (seen c.args.table.now) c.cell-cell.ensures

pub returns-clause-table : goal.returns-clause-table
returns-clause-table c =
    let v = c.args.table.now in
    let t = c.args.self.now in
    let slots = t.registers.slots.items in
    c.swap-found.ensures.table
    ∙ ap (λ (y : Site). ghost_after_step v c.args.desk (OnCell (Swaps y (as_word (slot_value slots c.hand-hand.result)) c.swap-found.result)))
    c.cell-cell.ensures
    ∙ ap (λ (i : ℕ). ghost_after_step v c.args.desk (OnCell (Swaps (cell_of_name (model_state v) slots c.args.cell) (as_word (slot_value slots i))
    c.swap-found.result))) c.hand-hand.ensures

pub returns-clause-frame_view : goal.returns-clause-frame_view
returns-clause-frame_view c =
    let v = c.args.table.now in
    let t = c.args.self.now in
    let slots = t.registers.slots.items in
    let s = model_state v in
    let x = slot_of s (held_in s c.cell-cell.result) in
    let e = c.swap-found.ensures.slots ∙ ap (λ (i : ℕ). slots_swapped i c.other-other.result slots x) c.hand-hand.ensures
    ∙ ap (λ (i : ℕ). slots_swapped (hand slots) i slots x) c.other-other.ensures
    ∙ ap (λ (y : Site). slots_swapped (hand slots) (other slots) slots (slot_of s (held_in s y))) c.cell-cell.ensures in
    c.take.ensures.frame_view ∙ ap (λ (l : Slots). frame_settled l false t.endings.list (rest t)) e

pub returns-clause-on : goal.returns-clause-on
returns-clause-on c = c.take.ensures.on c.args.desk c.swap-found.new.table c.swap-found.ensures.holds
