use Rattle.std.proofs.Common.{◌≡◌, ℕ, ◌-◌, length, get_or, ap, arith}
use Rattle.step_table.proofs.Prelude.{GhostState, OnCell, slot, spot, TableInvariant, Turn}
use Rattle.step_table.proofs.tables.Funds.{fund_there, kept_turn, paying_there, slot_few}
use Rattle.step_table.proofs.tables.Places.{inside}
use Rattle.step_table.proofs.tables.Standing.{found, kept_as, kept_now}
use Rattle.step_table.proofs.memory.table.Table.turn_fund.Goals as goal

pub count_word-requires : goal.count_word-requires
count_word-requires c =
    let k : TableInvariant c.args.self.now = kept_now _ _ _ _ c.args.self.now c.self.invariant c.self.view_is in
    let h = paying_there c.args.self.now c.args.desk c.args.kind c.args.block c.requires.owes.0 1 1 k c.requires.seat c.requires.owes.1 in
    h.1.0

pub count_word-requires-2 : goal.count_word-requires-2
count_word-requires-2 c =
    let k : TableInvariant c.args.self.now = kept_now _ _ _ _ c.args.self.now c.self.invariant c.self.view_is in
    let h = paying_there c.args.self.now c.args.desk c.args.kind c.args.block c.requires.owes.0 1 1 k c.requires.seat c.requires.owes.1 in
    h.1.0

pub get-found-requires : goal.get-found-requires
get-found-requires c =
    let k : TableInvariant c.args.self.now = kept_now _ _ _ _ c.args.self.now c.self.invariant c.self.view_is in
    let w : c.self.inside.words ≡ c.args.self.now.words = ap (λ (s : GhostState). s.words) c.self.view_is in
    let h = paying_there c.args.self.now c.args.desk c.args.kind c.args.block c.requires.owes.0 1 1 k c.requires.seat c.requires.owes.1 in
    let i = inside c.args.self.now c.args.block (slot c.args.kind) k h.1 (slot_few c.args.kind) in
    let b = c.count_word.ensures in
    omega (arith, i, b, ap (length {A = ℕ}) w)

pub set-requires : goal.set-requires
set-requires c =
    let k : TableInvariant c.args.self.now = kept_now _ _ _ _ c.args.self.now c.self.invariant c.self.view_is in
    let w : c.self.inside.words ≡ c.args.self.now.words = ap (λ (s : GhostState). s.words) c.self.view_is in
    let h = paying_there c.args.self.now c.args.desk c.args.kind c.args.block c.requires.owes.0 1 1 k c.requires.seat c.requires.owes.1 in
    let i = inside c.args.self.now c.args.block (slot c.args.kind) k h.1 (slot_few c.args.kind) in
    let b = c.count_word-2.ensures in
    omega (arith, i, b, ap (length {A = ℕ}) w)

pub with_fund_turned-requires-clause-fund : goal.with_fund_turned-requires-clause-fund
with_fund_turned-requires-clause-fund c =
    let k : TableInvariant c.args.self.now = kept_now _ _ _ _ c.args.self.now c.self.invariant c.self.view_is in
    let w : c.self.inside.words ≡ c.args.self.now.words = ap (λ (s : GhostState). s.words) c.self.view_is in
    let h = paying_there c.args.self.now c.args.desk c.args.kind c.args.block c.requires.owes.0 1 1 k c.requires.seat c.requires.owes.1 in
    let f = found c.self.inside.words c.args.self.now.words c.count_word.result _ _ w c.count_word.ensures c.get-found.ensures in
    let q = (fund_there c.args.self.now c.args.desk c.args.kind c.args.block c.requires.owes.0 k c.requires.seat c.requires.owes.1).0 in
    omega (arith, f, q)

pub with_fund_turned-requires-clause-room : goal.with_fund_turned-requires-clause-room
with_fund_turned-requires-clause-room c =
    let k : TableInvariant c.args.self.now = kept_now _ _ _ _ c.args.self.now c.self.invariant c.self.view_is in
    let w : c.self.inside.words ≡ c.args.self.now.words = ap (λ (s : GhostState). s.words) c.self.view_is in
    let h = paying_there c.args.self.now c.args.desk c.args.kind c.args.block c.requires.owes.0 1 1 k c.requires.seat c.requires.owes.1 in
    let f = found c.self.inside.words c.args.self.now.words c.count_word.result _ _ w c.count_word.ensures c.get-found.ensures in
    let q = (fund_there c.args.self.now c.args.desk c.args.kind c.args.block c.requires.owes.0 k c.requires.seat c.requires.owes.1).1 in
    omega (arith, f, q)

pub invariant_of-self : goal.invariant_of-self
invariant_of-self c =
    let k : TableInvariant c.args.self.now = kept_now _ _ _ _ c.args.self.now c.self.invariant c.self.view_is in
    let w : c.self.inside.words ≡ c.args.self.now.words = ap (λ (s : GhostState). s.words) c.self.view_is in
    let h = paying_there c.args.self.now c.args.desk c.args.kind c.args.block c.requires.owes.0 1 1 k c.requires.seat c.requires.owes.1 in
    let f = found c.self.inside.words c.args.self.now.words c.count_word.result _ _ w c.count_word.ensures c.get-found.ensures in
    kept_as c.args.self.now c.args.desk (OnCell (Turn c.args.kind c.args.block)) _ _ _ _
    (kept_turn c.args.self.now c.args.desk c.args.kind c.args.block c.requires.owes.0 k c.requires.seat c.requires.owes.1)
    (ap (λ (s : GhostState). s.extent) c.self.view_is)
    (let e = c.count_word-2.ensures in
    let g : c.with_fund_turned.result ≡ get_or c.args.self.now.words (spot c.args.block.0 (slot c.args.kind)) 0 - 4294967295 =
    let q = c.with_fund_turned.ensures.word in omega (arith, f, q) in let s = c.set.ensures in cc)
    c.then-ghost_history.ensures
