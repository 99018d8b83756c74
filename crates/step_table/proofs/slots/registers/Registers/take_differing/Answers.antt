use Rattle.std.proofs.Common.{Bool, cond, Some, sym, refl, ap, ◌∙◌, subst, eqb-true}
use Rattle.step_table.proofs.Prelude.{Compared, cond-false, cond-true, differed, false≢true}
use Rattle.step_table.proofs.Prelude.{ghost_after_step, GhostState, held_in, HoldsBag, model_state}
use Rattle.step_table.proofs.Prelude.{OnCell, Slot, slot_of, Slots, Take}
use Rattle.step_table.proofs.contained.Coming.{comes, open_found}
use Rattle.step_table.proofs.contained.Comparing.{alike_in, holds_differed}
use Rattle.step_table.proofs.contained.Offered.{goes_in_hand}
use Rattle.step_table.proofs.holding.Owning.{has_room}
use Rattle.step_table.proofs.slots.registers.Registers.take_differing.Goals as goal

pub take_differing-requires-clause-expected : goal.take_differing-requires-clause-expected
take_differing-requires-clause-expected c =
    goes_in_hand c.args.desk c.args.self.now.slots.items c.args.table.now c.args.comparing.expected c.args.cell c.compared-compared.result.expected
    c.assert_invariant.ensures c.requires.holds
    c.requires.compare.kinds.0 (ap (λ (q : Compared). q.expected) c.compared-compared.ensures)

pub take_differing-requires-clause-hand : goal.take_differing-requires-clause-hand
take_differing-requires-clause-hand c =
    goes_in_hand c.args.desk c.args.self.now.slots.items c.args.table.now c.args.comparing.new c.args.cell c.compared-compared.result.new
    c.assert_invariant.ensures c.requires.holds
    c.requires.compare.kinds.1 (ap (λ (q : Compared). q.new) c.compared-compared.ensures)

pub take_differing-requires-clause-differs : goal.take_differing-requires-clause-differs
take_differing-requires-clause-differs c =
    alike_in c.args.desk c.args.self.now.slots.items c.args.table.now c.args.cell c.args.seen c.args.comparing c.compared-compared.result
    c.assert_invariant.ensures c.requires.holds c.compared-compared.ensures
    ∙ c.requires.differs

pub take_differing-requires-clause-room : goal.take_differing-requires-clause-room
take_differing-requires-clause-room c =
    has_room c.args.desk c.args.self.now.slots.items c.args.table.now c.args.comparing.other c.assert_invariant.ensures c.requires.seat
    c.requires.holds c.args.self.now.few
    c.requires.compare.other c.requires.compare.empty

pub returns-clause-slots : goal.returns-clause-slots
returns-clause-slots c =
    let v = c.args.table.now in
    let bits = eqb-true _ _ (sym c.take_differing.ensures.same ∙ c.if-not-take_differing.false) in
    let found = open_found v c.args.desk c.args.cell c.args.seen c.assert_invariant.ensures c.requires.seat c.requires.open c.requires.seen.0 bits in
    c.differ.ensures ∙ ap (λ (y : Slot). differed c.args.comparing.new c.args.comparing.other c.args.self.now.slots.items y)
    (comes v c.args.desk c.args.cell c.args.seen c.kind_in-kind.result c.slot_in.result found c.kind_in-kind.ensures c.slot_in.ensures)

pub returns-clause-holds : goal.returns-clause-holds
returns-clause-holds c =
    let v = c.args.table.now in
    let d = c.args.desk in
    let l = c.args.self.now.slots.items in
    let m = c.args.comparing in
    let bits = eqb-true _ _ (sym c.take_differing.ensures.same ∙ c.if-not-take_differing.false) in
    let found = open_found v d c.args.cell c.args.seen c.assert_invariant.ensures c.requires.seat c.requires.open c.requires.seen.0 bits in
    let y = comes v d c.args.cell c.args.seen c.kind_in-kind.result c.slot_in.result found c.kind_in-kind.ensures c.slot_in.ensures in
    let w = ghost_after_step v d (OnCell (Take c.args.cell c.args.seen (Some c.compared-compared.result))) in
    let t = c.take_differing.ensures.after ∙ ap (λ (b : Bool). cond b w v) c.if-not-take_differing.false in
    let s = c.differ.ensures ∙ ap (λ (z : Slot). differed m.new m.other l z) y in
    subst (λ (k : Slots). HoldsBag d k c.take_differing.new.self) (sym s)
    (subst (λ (u : GhostState). HoldsBag d (differed m.new m.other l (slot_of (model_state v) (held_in (model_state v) c.args.cell))) u) (sym t)
    (holds_differed d l v m.new m.other c.args.cell c.args.seen c.compared-compared.result c.requires.holds found c.requires.compare.new
    c.requires.compare.other c.requires.compare.apart
    c.requires.compare.empty))

pub returns-then-not-take_differing-clause-same : goal.returns-then-not-take_differing-clause-same
returns-then-not-take_differing-clause-same c = sym c.if-not-take_differing.true ∙ c.take_differing.ensures.same

pub returns-then-not-take_differing-clause-table : goal.returns-then-not-take_differing-clause-table
returns-then-not-take_differing-clause-table c = c.take_differing.ensures.after ∙ cond-false c.take_differing.result _ _ c.if-not-take_differing.true

pub returns-then-not-take_differing-clause-stays : goal.returns-then-not-take_differing-clause-stays
returns-then-not-take_differing-clause-stays c = λ q. refl

pub returns-then-not-take_differing-clause-holds : goal.returns-then-not-take_differing-clause-holds
returns-then-not-take_differing-clause-holds c =
    subst (λ (u : GhostState). HoldsBag c.args.desk c.args.self.now.slots.items u)
    (sym (c.take_differing.ensures.after ∙ cond-false c.take_differing.result _ _ c.if-not-take_differing.true)) c.requires.holds

pub returns-clause-same : goal.returns-clause-same
returns-clause-same c = sym c.if-not-take_differing.false ∙ c.take_differing.ensures.same

pub returns-clause-table : goal.returns-clause-table
returns-clause-table c =
    c.take_differing.ensures.after ∙ cond-true c.take_differing.result _ _ c.if-not-take_differing.false
    ∙ ap (λ (y : Compared). ghost_after_step c.args.table.now c.args.desk (OnCell (Take c.args.cell c.args.seen (Some y)))) c.compared-compared.ensures

pub returns-clause-stays : goal.returns-clause-stays
returns-clause-stays c = λ q. absurd (false≢true (sym q))
