use Rattle.std.proofs.Common.{set, sym, ap, ◌∙◌, subst}
use Rattle.step_table.proofs.Prelude.{as_word, CellWord, get_or_read, ghost_after_step, GhostState}
use Rattle.step_table.proofs.Prelude.{held_in, HoldsBag, model_state, OnCell, plain, Slot, slot_of}
use Rattle.step_table.proofs.Prelude.{Swap}
use Rattle.step_table.proofs.contained.Coming.{comes, open_shown}
use Rattle.step_table.proofs.contained.Going.{holds_exchanged}
use Rattle.step_table.proofs.contained.Offered.{goes_in_hand, goes_paid, goes_roomy, goes_valid}
use Rattle.step_table.proofs.contained.Told.{shows_seen}
use Rattle.step_table.proofs.slots.registers.Registers.exchange.Goals as goal

pub swap_cell-found-requires-clause-new : goal.swap_cell-found-requires-clause-new
swap_cell-found-requires-clause-new c =
    let l = c.args.self.now.slots.items in
    let e = get_or_read l c.args.at c.index.result.now c.requires.inside c.index.ensures plain in
    goes_valid c.args.desk l c.args.table.now c.args.at c.args.cell c.word-new.result c.assert_invariant.ensures c.requires.holds c.requires.kind
    (c.word-new.ensures ∙ ap as_word e)

pub swap_cell-found-requires-clause-hand : goal.swap_cell-found-requires-clause-hand
swap_cell-found-requires-clause-hand c =
    let l = c.args.self.now.slots.items in
    let e = get_or_read l c.args.at c.index.result.now c.requires.inside c.index.ensures plain in
    goes_in_hand c.args.desk l c.args.table.now c.args.at c.args.cell c.word-new.result c.assert_invariant.ensures c.requires.holds c.requires.kind
    (c.word-new.ensures ∙ ap as_word e)

pub swap_cell-found-requires-clause-owes : goal.swap_cell-found-requires-clause-owes
swap_cell-found-requires-clause-owes c =
    let l = c.args.self.now.slots.items in
    let e = get_or_read l c.args.at c.index.result.now c.requires.inside c.index.ensures plain in
    goes_paid c.args.desk l c.args.table.now c.args.at c.args.cell c.word-new.result c.assert_invariant.ensures c.requires.holds c.requires.kind
    (c.word-new.ensures ∙ ap as_word e) c.requires.owes

pub swap_cell-found-requires-clause-room : goal.swap_cell-found-requires-clause-room
swap_cell-found-requires-clause-room c =
    let l = c.args.self.now.slots.items in
    let e = get_or_read l c.args.at c.index.result.now c.requires.inside c.index.ensures plain in
    goes_roomy c.args.desk l c.args.table.now c.args.at c.args.cell c.word-new.result c.assert_invariant.ensures c.requires.holds c.requires.kind
    (c.word-new.ensures ∙ ap as_word e)
    c.requires.seat c.args.self.now.few c.requires.inside

pub returns-clause-found : goal.returns-clause-found
returns-clause-found c =
    let v = c.args.table.now in
    let x = c.swap_cell-found.result in
    shows_seen v c.args.desk c.args.cell x
    (open_shown v c.args.desk c.args.cell x c.assert_invariant.ensures c.requires.seat c.requires.open c.swap_cell-found.ensures.found)

pub returns-clause-few : goal.returns-clause-few
returns-clause-few c = c.swap_cell-found.ensures.found.few

pub returns-clause-slots : goal.returns-clause-slots
returns-clause-slots c =
    let v = c.args.table.now in
    let x = c.swap_cell-found.result in
    let found = open_shown v c.args.desk c.args.cell x c.assert_invariant.ensures c.requires.seat c.requires.open c.swap_cell-found.ensures.found in
    ap (λ (y : Slot). set c.args.self.now.slots.items c.args.at y)
    (comes v c.args.desk c.args.cell x c.kind_in-kind.result c.slot_in.result found c.kind_in-kind.ensures c.slot_in.ensures)

pub returns-clause-holds : goal.returns-clause-holds
returns-clause-holds c =
    let v = c.args.table.now in
    let d = c.args.desk in
    let l = c.args.self.now.slots.items in
    let x = c.swap_cell-found.result in
    let found = open_shown v d c.args.cell x c.assert_invariant.ensures c.requires.seat c.requires.open c.swap_cell-found.ensures.found in
    let y = comes v d c.args.cell x c.kind_in-kind.result c.slot_in.result found c.kind_in-kind.ensures c.slot_in.ensures in
    let e = c.word-new.ensures ∙ ap as_word (get_or_read l c.args.at c.index.result.now c.requires.inside c.index.ensures plain) in
    let t = c.swap_cell-found.ensures.after ∙ ap (λ (w : CellWord). ghost_after_step v d (OnCell (Swap c.args.cell w x))) e in
    subst (λ (z : Slot). HoldsBag d (set l c.args.at z) c.swap_cell-found.new.self) (sym y)
    (subst (λ (u : GhostState). HoldsBag d (set l c.args.at (slot_of (model_state v) (held_in (model_state v) c.args.cell))) u) (sym t)
    (holds_exchanged d l v c.args.at c.args.cell x c.requires.holds found c.requires.kind c.requires.inside))
