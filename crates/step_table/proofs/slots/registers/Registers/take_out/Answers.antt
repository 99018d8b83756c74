use Rattle.std.proofs.Common.{not, set, is_some, sym, ap, ◌∙◌, subst}
use Rattle.step_table.proofs.Prelude.{cond-true, GhostState, held_in, HoldsBag, Member}
use Rattle.step_table.proofs.Prelude.{model_state, Slot, slot_of}
use Rattle.step_table.proofs.contained.Coming.{comes, holds_taken_out, holds_taken_bare}
use Rattle.step_table.proofs.contained.Coming.{member_found, none_owned}
use Rattle.step_table.proofs.contained.Told.{shows_seen}
use Rattle.step_table.proofs.holding.Owning.{has_room}
use Rattle.step_table.proofs.slots.registers.Registers.take_out.Goals as goal

pub take_out-found-requires-clause-room : goal.take_out-found-requires-clause-room
take_out-found-requires-clause-room c =
    has_room c.args.desk c.args.self.now.slots.items c.args.table.now c.args.to c.assert_invariant.ensures c.requires.seat c.requires.holds c.args.self.now.few
    c.requires.inside c.requires.empty

pub returns-then-is_none-clause-found : goal.returns-then-is_none-clause-found
returns-then-is_none-clause-found c =
    let v = c.args.table.now in
    let x = c.take_out-found.result in
    shows_seen v c.args.desk (Member c.args.block c.args.member) x
    (member_found v c.args.desk c.args.block c.args.member x c.assert_invariant.ensures c.requires.seat c.requires.ending c.requires.member
    c.take_out-found.ensures.found)

pub returns-then-is_none-clause-holds : goal.returns-then-is_none-clause-holds
returns-then-is_none-clause-holds c =
    let v = c.args.table.now in
    let x = c.take_out-found.result in
    subst (λ (u : GhostState). HoldsBag c.args.desk c.args.self.now.slots.items u) (sym c.take_out-found.ensures.after)
    (holds_taken_bare c.args.desk c.args.self.now.slots.items v c.args.block c.args.member x c.requires.holds
    (none_owned x.owned (c.is_none.ensures ∙ ap not c.if-is_none.true)))

pub returns-clause-found : goal.returns-clause-found
returns-clause-found c =
    let v = c.args.table.now in
    let x = c.take_out-found.result in
    shows_seen v c.args.desk (Member c.args.block c.args.member) x
    (member_found v c.args.desk c.args.block c.args.member x c.assert_invariant.ensures c.requires.seat c.requires.ending c.requires.member
    c.take_out-found.ensures.found)

pub returns-clause-slots : goal.returns-clause-slots
returns-clause-slots c =
    let v = c.args.table.now in
    let x = c.take_out-found.result in
    let n = Member c.args.block c.args.member in
    let found = member_found v c.args.desk c.args.block c.args.member x c.assert_invariant.ensures c.requires.seat c.requires.ending c.requires.member
    c.take_out-found.ensures.found in
    let slots = c.args.self.now.slots.items in
    ap (λ (z : Slot). set slots c.args.to z) (comes v c.args.desk n x c.kind_in-kind.result c.slot_in.result found c.kind_in-kind.ensures c.slot_in.ensures)
    ∙ sym
    (cond-true (is_some x.owned) (set slots c.args.to (slot_of (model_state v) (held_in (model_state v) n))) slots
    (c.is_none.ensures ∙ ap not c.if-is_none.false))

pub returns-clause-holds : goal.returns-clause-holds
returns-clause-holds c =
    let v = c.args.table.now in
    let d = c.args.desk in
    let slots = c.args.self.now.slots.items in
    let x = c.take_out-found.result in
    let n = Member c.args.block c.args.member in
    let found = member_found v d c.args.block c.args.member x c.assert_invariant.ensures c.requires.seat c.requires.ending c.requires.member
    c.take_out-found.ensures.found in
    let y = comes v d n x c.kind_in-kind.result c.slot_in.result found c.kind_in-kind.ensures c.slot_in.ensures in
    subst (λ (z : Slot). HoldsBag d (set slots c.args.to z) c.take_out-found.new.self) (sym y)
    (subst (λ (u : GhostState). HoldsBag d (set slots c.args.to (slot_of (model_state v) (held_in (model_state v) n))) u) (sym c.take_out-found.ensures.after)
    (holds_taken_out d slots v c.args.to c.args.block c.args.member x c.requires.holds found c.requires.inside c.requires.empty))
