use Rattle.std.proofs.Common.{is_some, Some, sym, ap, ◌∙◌, subst}
use Rattle.step_table.proofs.Prelude.{as_word, Compared, compared_in, differed, ghost_after_step}
use Rattle.step_table.proofs.Prelude.{GhostState, held_in, HoldsBag, Look, model_state, OnCell}
use Rattle.step_table.proofs.Prelude.{same_value, Slot, slot_of, slot_value, Slots}
use Rattle.step_table.proofs.contained.Coming.{comes, open_shown}
use Rattle.step_table.proofs.contained.Comparing.{done_if, holds_unlike, left_first, left_next}
use Rattle.step_table.proofs.contained.Comparing.{looked_in}
use Rattle.step_table.proofs.contained.Offered.{goes_in_hand}
use Rattle.step_table.proofs.contained.Told.{shows_seen}
use Rattle.step_table.proofs.slots.registers.Registers.look_to_compare.Goals as goal

pub look_to_compare-found-requires-clause-expected : goal.look_to_compare-found-requires-clause-expected
look_to_compare-found-requires-clause-expected c =
    goes_in_hand c.args.desk c.args.self.now.slots.items c.args.table.now c.args.comparing.expected c.args.cell c.compared-compared.result.expected
    c.assert_invariant.ensures c.requires.holds
    c.requires.compare.kinds.0 (ap (λ (q : Compared). q.expected) c.compared-compared.ensures)

pub look_to_compare-found-requires-clause-hand : goal.look_to_compare-found-requires-clause-hand
look_to_compare-found-requires-clause-hand c =
    goes_in_hand c.args.desk c.args.self.now.slots.items c.args.table.now c.args.comparing.new c.args.cell c.compared-compared.result.new
    c.assert_invariant.ensures c.requires.holds
    c.requires.compare.kinds.1 (ap (λ (q : Compared). q.new) c.compared-compared.ensures)

pub returns-then-is_some-clause-found : goal.returns-then-is_some-clause-found
returns-then-is_some-clause-found c =
    let v = c.args.table.now in
    let x = c.look_to_compare-found.result in
    shows_seen v c.args.desk c.args.cell x
    (open_shown v c.args.desk c.args.cell x c.assert_invariant.ensures c.requires.seat c.requires.open c.look_to_compare-found.ensures.found)

pub returns-then-is_some-clause-slots : goal.returns-then-is_some-clause-slots
returns-then-is_some-clause-slots c =
    let v = c.args.table.now in
    let d = c.args.desk in
    let l = c.args.self.now.slots.items in
    let m = c.args.comparing in
    let x = c.look_to_compare-found.result in
    left_first (is_some x.owned) (same_value x (as_word (slot_value l m.expected))) l
    (differed m.new m.other l (slot_of (model_state v) (held_in (model_state v) c.args.cell)))
    (sym c.is_some.ensures ∙ c.if-is_some.true)

pub returns-then-is_some-clause-table : goal.returns-then-is_some-clause-table
returns-then-is_some-clause-table c =
    let v = c.args.table.now in
    let d = c.args.desk in
    let l = c.args.self.now.slots.items in
    let m = c.args.comparing in
    let x = c.look_to_compare-found.result in
    c.look_to_compare-found.ensures.after ∙ looked_in d l v c.args.cell x m c.compared-compared.result c.assert_invariant.ensures c.requires.holds
    c.compared-compared.ensures

pub returns-then-is_some-clause-holds : goal.returns-then-is_some-clause-holds
returns-then-is_some-clause-holds c =
    let v = c.args.table.now in
    let d = c.args.desk in
    let l = c.args.self.now.slots.items in
    let m = c.args.comparing in
    let x = c.look_to_compare-found.result in
    let same = same_value x (as_word (slot_value l m.expected)) in
    let w = ghost_after_step v d (OnCell (Look c.args.cell x (Some (compared_in l m)))) in
    let t = c.look_to_compare-found.ensures.after ∙ looked_in d l v c.args.cell x m c.compared-compared.result c.assert_invariant.ensures c.requires.holds
    c.compared-compared.ensures in
    subst (λ (u : GhostState). HoldsBag d l u) (left_first (is_some x.owned) same v w (sym c.is_some.ensures ∙ c.if-is_some.true) ∙ sym t) c.requires.holds

pub returns-then-is_same_value-clause-found : goal.returns-then-is_same_value-clause-found
returns-then-is_same_value-clause-found c =
    let v = c.args.table.now in
    let x = c.look_to_compare-found.result in
    shows_seen v c.args.desk c.args.cell x
    (open_shown v c.args.desk c.args.cell x c.assert_invariant.ensures c.requires.seat c.requires.open c.look_to_compare-found.ensures.found)

pub returns-then-is_same_value-clause-slots : goal.returns-then-is_same_value-clause-slots
returns-then-is_same_value-clause-slots c =
    let v = c.args.table.now in
    let d = c.args.desk in
    let l = c.args.self.now.slots.items in
    let m = c.args.comparing in
    let x = c.look_to_compare-found.result in
    left_next (is_some x.owned) (same_value x (as_word (slot_value l m.expected))) l
    (differed m.new m.other l (slot_of (model_state v) (held_in (model_state v) c.args.cell)))
    (sym (c.is_same_value.ensures ∙ ap (λ (q : Compared). same_value x q.expected) c.compared-compared.ensures) ∙ c.if-is_same_value.true)

pub returns-then-is_same_value-clause-table : goal.returns-then-is_same_value-clause-table
returns-then-is_same_value-clause-table c =
    let v = c.args.table.now in
    let d = c.args.desk in
    let l = c.args.self.now.slots.items in
    let m = c.args.comparing in
    let x = c.look_to_compare-found.result in
    c.look_to_compare-found.ensures.after ∙ looked_in d l v c.args.cell x m c.compared-compared.result c.assert_invariant.ensures c.requires.holds
    c.compared-compared.ensures

pub returns-then-is_same_value-clause-holds : goal.returns-then-is_same_value-clause-holds
returns-then-is_same_value-clause-holds c =
    let v = c.args.table.now in
    let d = c.args.desk in
    let l = c.args.self.now.slots.items in
    let m = c.args.comparing in
    let x = c.look_to_compare-found.result in
    let same = same_value x (as_word (slot_value l m.expected)) in
    let w = ghost_after_step v d (OnCell (Look c.args.cell x (Some (compared_in l m)))) in
    let t = c.look_to_compare-found.ensures.after ∙ looked_in d l v c.args.cell x m c.compared-compared.result c.assert_invariant.ensures c.requires.holds
    c.compared-compared.ensures in
    let alike = sym (c.is_same_value.ensures ∙ ap (λ (q : Compared). same_value x q.expected) c.compared-compared.ensures) ∙ c.if-is_same_value.true in
    subst (λ (u : GhostState). HoldsBag d l u) (left_next (is_some x.owned) same v w alike ∙ sym t) c.requires.holds

pub returns-clause-found : goal.returns-clause-found
returns-clause-found c =
    let v = c.args.table.now in
    let x = c.look_to_compare-found.result in
    shows_seen v c.args.desk c.args.cell x
    (open_shown v c.args.desk c.args.cell x c.assert_invariant.ensures c.requires.seat c.requires.open c.look_to_compare-found.ensures.found)

pub returns-clause-slots : goal.returns-clause-slots
returns-clause-slots c =
    let v = c.args.table.now in
    let d = c.args.desk in
    let l = c.args.self.now.slots.items in
    let m = c.args.comparing in
    let x = c.look_to_compare-found.result in
    let found = open_shown v d c.args.cell x c.assert_invariant.ensures c.requires.seat c.requires.open c.look_to_compare-found.ensures.found in
    let y = comes v d c.args.cell x c.kind_in-kind.result c.slot_in.result found c.kind_in-kind.ensures c.slot_in.ensures in
    let s = c.differ.ensures ∙ ap (λ (z : Slot). differed m.new m.other l z) y in
    let some = sym c.is_some.ensures ∙ c.if-is_some.false in
    let unlike = sym (c.is_same_value.ensures ∙ ap (λ (q : Compared). same_value x q.expected) c.compared-compared.ensures) ∙ c.if-is_same_value.false in
    s ∙ done_if (is_some x.owned) (same_value x (as_word (slot_value l m.expected))) l
    (differed m.new m.other l (slot_of (model_state v) (held_in (model_state v) c.args.cell))) some unlike

pub returns-clause-table : goal.returns-clause-table
returns-clause-table c =
    let v = c.args.table.now in
    let d = c.args.desk in
    let l = c.args.self.now.slots.items in
    let m = c.args.comparing in
    let x = c.look_to_compare-found.result in
    c.look_to_compare-found.ensures.after ∙ looked_in d l v c.args.cell x m c.compared-compared.result c.assert_invariant.ensures c.requires.holds
    c.compared-compared.ensures

pub returns-clause-holds : goal.returns-clause-holds
returns-clause-holds c =
    let v = c.args.table.now in
    let d = c.args.desk in
    let l = c.args.self.now.slots.items in
    let m = c.args.comparing in
    let x = c.look_to_compare-found.result in
    let found = open_shown v d c.args.cell x c.assert_invariant.ensures c.requires.seat c.requires.open c.look_to_compare-found.ensures.found in
    let y = comes v d c.args.cell x c.kind_in-kind.result c.slot_in.result found c.kind_in-kind.ensures c.slot_in.ensures in
    let s = c.differ.ensures ∙ ap (λ (z : Slot). differed m.new m.other l z) y in
    let some = sym c.is_some.ensures ∙ c.if-is_some.false in
    let unlike = sym (c.is_same_value.ensures ∙ ap (λ (q : Compared). same_value x q.expected) c.compared-compared.ensures) ∙ c.if-is_same_value.false in
    let same = same_value x (as_word (slot_value l m.expected)) in
    let w = ghost_after_step v d (OnCell (Look c.args.cell x (Some (compared_in l m)))) in
    let t = c.look_to_compare-found.ensures.after ∙ looked_in d l v c.args.cell x m c.compared-compared.result c.assert_invariant.ensures c.requires.holds
    c.compared-compared.ensures in
    subst (λ (k : Slots). HoldsBag d k c.look_to_compare-found.new.self) (sym s)
    (subst (λ (u : GhostState). HoldsBag d (differed m.new m.other l (slot_of (model_state v) (held_in (model_state v) c.args.cell))) u)
    (done_if (is_some x.owned) same v w some unlike ∙ sym t)
    (holds_unlike d l v m.new m.other c.args.cell x (compared_in l m) c.requires.holds found c.requires.compare.new c.requires.compare.other
    c.requires.compare.apart
    c.requires.compare.empty))
