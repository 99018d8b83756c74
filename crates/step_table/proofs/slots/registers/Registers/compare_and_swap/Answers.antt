use Rattle.std.proofs.Common.{Bool, cond, sym, refl, ap, ◌∙◌, subst, eqb-true}
use Rattle.step_table.proofs.Prelude.{Compared, CompareSwap, cond-false, cond-true, false≢true}
use Rattle.step_table.proofs.Prelude.{ghost_after_step, GhostState, held_in, HoldsBag, model_state}
use Rattle.step_table.proofs.Prelude.{OnCell, Slot, slot_of, slots_swapped}
use Rattle.step_table.proofs.contained.Coming.{comes, open_found}
use Rattle.step_table.proofs.contained.Comparing.{alike_in}
use Rattle.step_table.proofs.contained.Going.{holds_compared}
use Rattle.step_table.proofs.contained.Offered.{goes_in_hand, goes_paid, goes_roomy, goes_valid}
use Rattle.step_table.proofs.slots.registers.Registers.compare_and_swap.Goals as goal

pub compare_and_swap-requires-clause-expected : goal.compare_and_swap-requires-clause-expected
compare_and_swap-requires-clause-expected c =
    goes_in_hand c.args.desk c.args.self.now.slots.items c.args.table.now c.args.comparing.expected c.args.cell c.compared-compared.result.expected
    c.assert_invariant.ensures c.requires.holds
    c.requires.compare.kinds.0 (ap (λ (q : Compared). q.expected) c.compared-compared.ensures)

pub compare_and_swap-requires-clause-hand : goal.compare_and_swap-requires-clause-hand
compare_and_swap-requires-clause-hand c =
    goes_in_hand c.args.desk c.args.self.now.slots.items c.args.table.now c.args.comparing.new c.args.cell c.compared-compared.result.new
    c.assert_invariant.ensures c.requires.holds
    c.requires.compare.kinds.1 (ap (λ (q : Compared). q.new) c.compared-compared.ensures)

pub compare_and_swap-requires-clause-alike : goal.compare_and_swap-requires-clause-alike
compare_and_swap-requires-clause-alike c =
    alike_in c.args.desk c.args.self.now.slots.items c.args.table.now c.args.cell c.args.seen c.args.comparing c.compared-compared.result
    c.assert_invariant.ensures c.requires.holds c.compared-compared.ensures
    ∙ c.requires.alike

pub compare_and_swap-requires-clause-new : goal.compare_and_swap-requires-clause-new
compare_and_swap-requires-clause-new c =
    goes_valid c.args.desk c.args.self.now.slots.items c.args.table.now c.args.comparing.new c.args.cell c.compared-compared.result.new
    c.assert_invariant.ensures c.requires.holds
    c.requires.compare.kinds.1 (ap (λ (q : Compared). q.new) c.compared-compared.ensures)

pub compare_and_swap-requires-clause-owes : goal.compare_and_swap-requires-clause-owes
compare_and_swap-requires-clause-owes c =
    goes_paid c.args.desk c.args.self.now.slots.items c.args.table.now c.args.comparing.new c.args.cell c.compared-compared.result.new
    c.assert_invariant.ensures c.requires.holds
    c.requires.compare.kinds.1 (ap (λ (q : Compared). q.new) c.compared-compared.ensures) c.requires.owes

pub compare_and_swap-requires-clause-room : goal.compare_and_swap-requires-clause-room
compare_and_swap-requires-clause-room c =
    goes_roomy c.args.desk c.args.self.now.slots.items c.args.table.now c.args.comparing.new c.args.cell c.compared-compared.result.new
    c.assert_invariant.ensures c.requires.holds
    c.requires.compare.kinds.1 (ap (λ (q : Compared). q.new) c.compared-compared.ensures) c.requires.seat c.args.self.now.few c.requires.compare.new

pub returns-clause-slots : goal.returns-clause-slots
returns-clause-slots c =
    let v = c.args.table.now in
    let m = c.args.comparing in
    let bits = eqb-true _ _ (sym c.compare_and_swap.ensures.same ∙ c.if-not-compare_and_swap.false) in
    let found = open_found v c.args.desk c.args.cell c.args.seen c.assert_invariant.ensures c.requires.seat c.requires.open c.requires.seen bits in
    ap (λ (y : Slot). slots_swapped m.new m.other c.args.self.now.slots.items y)
    (comes v c.args.desk c.args.cell c.args.seen c.kind_in-kind.result c.slot_in.result found c.kind_in-kind.ensures c.slot_in.ensures)

pub returns-clause-holds : goal.returns-clause-holds
returns-clause-holds c =
    let v = c.args.table.now in
    let d = c.args.desk in
    let l = c.args.self.now.slots.items in
    let m = c.args.comparing in
    let bits = eqb-true _ _ (sym c.compare_and_swap.ensures.same ∙ c.if-not-compare_and_swap.false) in
    let found = open_found v d c.args.cell c.args.seen c.assert_invariant.ensures c.requires.seat c.requires.open c.requires.seen bits in
    let y = comes v d c.args.cell c.args.seen c.kind_in-kind.result c.slot_in.result found c.kind_in-kind.ensures c.slot_in.ensures in
    let w = ghost_after_step v d (OnCell (CompareSwap c.args.cell c.args.seen c.compared-compared.result)) in
    let t = c.compare_and_swap.ensures.after ∙ ap (λ (b : Bool). cond b w v) c.if-not-compare_and_swap.false in
    subst (λ (z : Slot). HoldsBag d (slots_swapped m.new m.other l z) c.compare_and_swap.new.self) (sym y)
    (subst (λ (u : GhostState). HoldsBag d (slots_swapped m.new m.other l (slot_of (model_state v) (held_in (model_state v) c.args.cell))) u) (sym t)
    (holds_compared d l v m.new c.args.cell c.args.seen c.requires.holds found c.requires.compare.kinds.1 c.requires.compare.new m.other
    c.requires.compare.other
    c.requires.compare.apart c.requires.compare.empty c.compared-compared.result (ap (λ (q : Compared). q.new) c.compared-compared.ensures)))

pub returns-then-not-compare_and_swap-clause-same : goal.returns-then-not-compare_and_swap-clause-same
returns-then-not-compare_and_swap-clause-same c = sym c.if-not-compare_and_swap.true ∙ c.compare_and_swap.ensures.same

pub returns-then-not-compare_and_swap-clause-table : goal.returns-then-not-compare_and_swap-clause-table
returns-then-not-compare_and_swap-clause-table c = c.compare_and_swap.ensures.after ∙ cond-false c.compare_and_swap.result _ _ c.if-not-compare_and_swap.true

pub returns-then-not-compare_and_swap-clause-stays : goal.returns-then-not-compare_and_swap-clause-stays
returns-then-not-compare_and_swap-clause-stays c = λ q. refl

pub returns-then-not-compare_and_swap-clause-holds : goal.returns-then-not-compare_and_swap-clause-holds
returns-then-not-compare_and_swap-clause-holds c =
    subst (λ (u : GhostState). HoldsBag c.args.desk c.args.self.now.slots.items u)
    (sym (c.compare_and_swap.ensures.after ∙ cond-false c.compare_and_swap.result _ _ c.if-not-compare_and_swap.true)) c.requires.holds

pub returns-clause-same : goal.returns-clause-same
returns-clause-same c = sym c.if-not-compare_and_swap.false ∙ c.compare_and_swap.ensures.same

pub returns-clause-table : goal.returns-clause-table
returns-clause-table c =
    c.compare_and_swap.ensures.after ∙ cond-true c.compare_and_swap.result _ _ c.if-not-compare_and_swap.false
    ∙ ap (λ (y : Compared). ghost_after_step c.args.table.now c.args.desk (OnCell (CompareSwap c.args.cell c.args.seen y))) c.compared-compared.ensures

pub returns-clause-stays : goal.returns-clause-stays
returns-clause-stays c = λ q. absurd (false≢true (sym q))
