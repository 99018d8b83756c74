use Rattle.std.proofs.Common.{Bool, cond, set, None, sym, refl, ap, ◌∙◌, subst, eqb-true}
use Rattle.step_table.proofs.Prelude.{cond-false, cond-true, false≢true, ghost_after_step}
use Rattle.step_table.proofs.Prelude.{GhostState, held_in, HoldsBag, model_state, OnCell, Slot}
use Rattle.step_table.proofs.Prelude.{slot_of, Take}
use Rattle.step_table.proofs.contained.Coming.{comes, holds_taken, open_found}
use Rattle.step_table.proofs.holding.Owning.{has_room}
use Rattle.step_table.proofs.slots.registers.Registers.take_fund.Goals as goal

pub take_fund-requires-clause-room : goal.take_fund-requires-clause-room
take_fund-requires-clause-room c =
    has_room c.args.desk c.args.self.now.slots.items c.args.table.now c.args.to c.assert_invariant.ensures c.requires.seat c.requires.holds c.args.self.now.few
    c.requires.inside c.requires.empty

pub returns-clause-slots : goal.returns-clause-slots
returns-clause-slots c =
    let v = c.args.table.now in
    let bits = eqb-true _ _ (sym c.take_fund.ensures.same ∙ c.if-not-take_fund.false) in
    let found = open_found v c.args.desk c.args.cell c.args.seen c.assert_invariant.ensures c.requires.seat c.requires.open c.requires.seen.0 bits in
    ap (λ (y : Slot). set c.args.self.now.slots.items c.args.to y)
    (comes v c.args.desk c.args.cell c.args.seen c.kind_in-kind.result c.slot_in.result found c.kind_in-kind.ensures c.slot_in.ensures)

pub returns-clause-holds : goal.returns-clause-holds
returns-clause-holds c =
    let v = c.args.table.now in
    let d = c.args.desk in
    let slots = c.args.self.now.slots.items in
    let bits = eqb-true _ _ (sym c.take_fund.ensures.same ∙ c.if-not-take_fund.false) in
    let found = open_found v d c.args.cell c.args.seen c.assert_invariant.ensures c.requires.seat c.requires.open c.requires.seen.0 bits in
    let y = comes v d c.args.cell c.args.seen c.kind_in-kind.result c.slot_in.result found c.kind_in-kind.ensures c.slot_in.ensures in
    let w = ghost_after_step v d (OnCell (Take c.args.cell c.args.seen None)) in
    let t = c.take_fund.ensures.after ∙ ap (λ (b : Bool). cond b w v) c.if-not-take_fund.false in
    subst (λ (x : Slot). HoldsBag d (set slots c.args.to x) c.take_fund.new.self) (sym y)
    (subst (λ (u : GhostState). HoldsBag d (set slots c.args.to (slot_of (model_state v) (held_in (model_state v) c.args.cell))) u) (sym t)
    (holds_taken d slots v c.args.to c.args.cell c.args.seen c.requires.holds found c.requires.inside c.requires.empty None))

pub returns-then-not-take_fund-clause-same : goal.returns-then-not-take_fund-clause-same
returns-then-not-take_fund-clause-same c = sym c.if-not-take_fund.true ∙ c.take_fund.ensures.same

pub returns-then-not-take_fund-clause-table : goal.returns-then-not-take_fund-clause-table
returns-then-not-take_fund-clause-table c = c.take_fund.ensures.after ∙ cond-false c.take_fund.result _ _ c.if-not-take_fund.true

pub returns-then-not-take_fund-clause-stays : goal.returns-then-not-take_fund-clause-stays
returns-then-not-take_fund-clause-stays c = λ q. refl

pub returns-then-not-take_fund-clause-holds : goal.returns-then-not-take_fund-clause-holds
returns-then-not-take_fund-clause-holds c =
    subst (λ (u : GhostState). HoldsBag c.args.desk c.args.self.now.slots.items u)
    (sym (c.take_fund.ensures.after ∙ cond-false c.take_fund.result _ _ c.if-not-take_fund.true)) c.requires.holds

pub returns-clause-same : goal.returns-clause-same
returns-clause-same c = sym c.if-not-take_fund.false ∙ c.take_fund.ensures.same

pub returns-clause-table : goal.returns-clause-table
returns-clause-table c =
    c.take_fund.ensures.after ∙ cond-true c.take_fund.result _ _ c.if-not-take_fund.false

pub returns-clause-stays : goal.returns-clause-stays
returns-clause-stays c = λ q. absurd (false≢true (sym q))
