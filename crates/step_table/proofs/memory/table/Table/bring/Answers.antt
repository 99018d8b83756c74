use Rattle.std.proofs.Common.{◌≡◌, ℕ, ◌+◌, ◌*◌, length, get_or, ap, arith}
use Rattle.step_table.proofs.Prelude.{Bring, GhostState, OnCell, slot, spot, TableInvariant}
use Rattle.step_table.proofs.tables.Funds.{kept_bring, slot_few}
use Rattle.step_table.proofs.tables.Owners.{room_above}
use Rattle.step_table.proofs.tables.Places.{handle_busy, inside, there}
use Rattle.step_table.proofs.tables.Standing.{found, kept_as, kept_now}
use Rattle.step_table.proofs.memory.table.Table.bring.Goals as goal

pub count_word-requires : goal.count_word-requires
count_word-requires c =
    let k : TableInvariant c.args.self.now = kept_now _ _ _ _ c.args.self.now c.self.invariant c.self.view_is in
    let h = there c.args.self.now c.args.pointer.block k
    (handle_busy c.args.self.now c.args.desk c.args.pointer.kind c.args.pointer.block _ k c.requires.held) in
    h.1.0

pub count_word-requires-2 : goal.count_word-requires-2
count_word-requires-2 c =
    let k : TableInvariant c.args.self.now = kept_now _ _ _ _ c.args.self.now c.self.invariant c.self.view_is in
    let h = there c.args.self.now c.args.pointer.block k
    (handle_busy c.args.self.now c.args.desk c.args.pointer.kind c.args.pointer.block _ k c.requires.held) in
    h.1.0

pub get-found-requires : goal.get-found-requires
get-found-requires c =
    let k : TableInvariant c.args.self.now = kept_now _ _ _ _ c.args.self.now c.self.invariant c.self.view_is in
    let w : c.self.inside.words ≡ c.args.self.now.words = ap (λ (s : GhostState). s.words) c.self.view_is in
    let h = there c.args.self.now c.args.pointer.block k
    (handle_busy c.args.self.now c.args.desk c.args.pointer.kind c.args.pointer.block _ k c.requires.held) in
    let i = inside c.args.self.now c.args.pointer.block (slot c.args.pointer.kind) k h.1 (slot_few c.args.pointer.kind) in
    let b = c.count_word.ensures in
    omega (arith, i, b, ap (length {A = ℕ}) w)

pub set-requires : goal.set-requires
set-requires c =
    let k : TableInvariant c.args.self.now = kept_now _ _ _ _ c.args.self.now c.self.invariant c.self.view_is in
    let w : c.self.inside.words ≡ c.args.self.now.words = ap (λ (s : GhostState). s.words) c.self.view_is in
    let h = there c.args.self.now c.args.pointer.block k
    (handle_busy c.args.self.now c.args.desk c.args.pointer.kind c.args.pointer.block _ k c.requires.held) in
    let i = inside c.args.self.now c.args.pointer.block (slot c.args.pointer.kind) k h.1 (slot_few c.args.pointer.kind) in
    let b = c.count_word-2.ensures in
    omega (arith, i, b, ap (length {A = ℕ}) w)

pub with_funds-requires : goal.with_funds-requires
with_funds-requires c =
    let k : TableInvariant c.args.self.now = kept_now _ _ _ _ c.args.self.now c.self.invariant c.self.view_is in
    let w : c.self.inside.words ≡ c.args.self.now.words = ap (λ (s : GhostState). s.words) c.self.view_is in
    let h = there c.args.self.now c.args.pointer.block k
    (handle_busy c.args.self.now c.args.desk c.args.pointer.kind c.args.pointer.block _ k c.requires.held) in
    let f = found c.self.inside.words c.args.self.now.words c.count_word.result _ _ w c.count_word.ensures c.get-found.ensures in
    let r = room_above c.args.self.now c.args.desk c.args.pointer.kind c.args.pointer.kind c.args.pointer.block c.args.pointer.place k c.requires.seat
    c.requires.idle c.requires.held in
    let q = c.requires.few in omega (arith, f, r, q)

pub invariant_of-self : goal.invariant_of-self
invariant_of-self c =
    let k : TableInvariant c.args.self.now = kept_now _ _ _ _ c.args.self.now c.self.invariant c.self.view_is in
    let w : c.self.inside.words ≡ c.args.self.now.words = ap (λ (s : GhostState). s.words) c.self.view_is in
    let h = there c.args.self.now c.args.pointer.block k
    (handle_busy c.args.self.now c.args.desk c.args.pointer.kind c.args.pointer.block _ k c.requires.held) in
    let f = found c.self.inside.words c.args.self.now.words c.count_word.result _ _ w c.count_word.ensures c.get-found.ensures in
    kept_as c.args.self.now c.args.desk (OnCell (Bring c.args.pointer.kind c.args.pointer.block c.args.pointer.place c.args.funds)) _ _ _ _
    (kept_bring c.args.self.now c.args.desk c.args.pointer.kind c.args.pointer.block c.args.pointer.place c.args.funds k c.requires.seat c.requires.idle
    c.requires.held c.requires.few)
    (ap (λ (s : GhostState). s.extent) c.self.view_is)
    (let e = c.count_word-2.ensures in
    let g : c.with_funds.result ≡ get_or c.args.self.now.words (spot c.args.pointer.block.0 (slot c.args.pointer.kind)) 0 + 4294967296 * c.args.funds =
    let q = c.with_funds.ensures.word in omega (arith, f, q) in let s = c.set.ensures in cc)
    c.then-ghost_history.ensures
