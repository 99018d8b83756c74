use Rattle.std.proofs.Common.{Bool, cond, set, is_some, None, sym, refl, ap, ◌∙◌, subst}
use Rattle.step_table.proofs.Prelude.{cond-false, cond-true, false≢true, ghost_after_step}
use Rattle.step_table.proofs.Prelude.{GhostState, held_in, HoldsBag, Look, model_state, OnCell}
use Rattle.step_table.proofs.Prelude.{Slot, slot_of}
use Rattle.step_table.proofs.contained.Coming.{comes, holds_seen, open_shown}
use Rattle.step_table.proofs.contained.Told.{shows_seen}
use Rattle.step_table.proofs.slots.registers.Registers.look_to_load.Goals as goal

pub returns-then-is_some-clause-found : goal.returns-then-is_some-clause-found
returns-then-is_some-clause-found c =
    let v = c.args.table.now in
    let x = c.look_cell-found.result in
    shows_seen v c.args.desk c.args.cell x
    (open_shown v c.args.desk c.args.cell x c.assert_invariant.ensures c.requires.seat c.requires.open c.look_cell-found.ensures.found)

pub returns-clause-found : goal.returns-clause-found
returns-clause-found c =
    let v = c.args.table.now in
    let x = c.look_cell-found.result in
    shows_seen v c.args.desk c.args.cell x
    (open_shown v c.args.desk c.args.cell x c.assert_invariant.ensures c.requires.seat c.requires.open c.look_cell-found.ensures.found)

pub returns-clause-slots : goal.returns-clause-slots
returns-clause-slots c =
    let v = c.args.table.now in
    let x = c.look_cell-found.result in
    let slots = c.args.self.now.slots.items in
    let found = open_shown v c.args.desk c.args.cell x c.assert_invariant.ensures c.requires.seat c.requires.open c.look_cell-found.ensures.found in
    ap (λ (z : Slot). set slots c.args.to z)
    (comes v c.args.desk c.args.cell x c.kind_in-kind.result c.slot_in.result found c.kind_in-kind.ensures c.slot_in.ensures)
    ∙ sym (cond-false (is_some x.owned) slots (set slots c.args.to (slot_of (model_state v) (held_in (model_state v) c.args.cell)))
    (sym c.is_some.ensures ∙ c.if-is_some.false))

pub returns-clause-holds : goal.returns-clause-holds
returns-clause-holds c =
    let v = c.args.table.now in
    let d = c.args.desk in
    let slots = c.args.self.now.slots.items in
    let x = c.look_cell-found.result in
    let found = open_shown v c.args.desk c.args.cell x c.assert_invariant.ensures c.requires.seat c.requires.open c.look_cell-found.ensures.found in
    let y = comes v d c.args.cell x c.kind_in-kind.result c.slot_in.result found c.kind_in-kind.ensures c.slot_in.ensures in
    let w = ghost_after_step v d (OnCell (Look c.args.cell x None)) in
    let t = c.look_cell-found.ensures.after ∙ ap (λ (b : Bool). cond b v w) (sym c.is_some.ensures ∙ c.if-is_some.false) in
    subst (λ (z : Slot). HoldsBag d (set slots c.args.to z) c.look_cell-found.new.self) (sym y)
    (subst (λ (u : GhostState). HoldsBag d (set slots c.args.to (slot_of (model_state v) (held_in (model_state v) c.args.cell))) u) (sym t)
    (holds_seen d slots v c.args.to c.args.cell x c.requires.holds found c.requires.inside c.requires.empty None))

pub returns-then-is_some-clause-slots : goal.returns-then-is_some-clause-slots
returns-then-is_some-clause-slots c =
    sym (cond-true (is_some c.look_cell-found.result.owned) _ _ (sym c.is_some.ensures ∙ c.if-is_some.true))

pub returns-then-is_some-clause-stays : goal.returns-then-is_some-clause-stays
returns-then-is_some-clause-stays c = λ q. refl

pub returns-clause-stays : goal.returns-clause-stays
returns-clause-stays c = λ q. absurd (false≢true (sym (sym c.is_some.ensures ∙ c.if-is_some.false) ∙ q))

pub returns-then-is_some-clause-holds : goal.returns-then-is_some-clause-holds
returns-then-is_some-clause-holds c =
    subst (λ (u : GhostState). HoldsBag c.args.desk c.args.self.now.slots.items u)
    (sym (c.look_cell-found.ensures.after
    ∙ cond-true (is_some c.look_cell-found.result.owned) _ _ (sym c.is_some.ensures ∙ c.if-is_some.true))) c.requires.holds
