use Rattle.std.proofs.Common.{◌≡◌, ◌<◌, ◌≤◌, sym, ap, ◌∙◌, subst, arith}
use Rattle.scene_structures.proofs.Prelude.{AddsEvent, bag_of, Cell, endings_of, Free, IsOpenSite}
use Rattle.scene_structures.proofs.Prelude.{KeepsEndings, Load, node_in, opening_of, Shape}
use Rattle.scene_structures.proofs.Prelude.{shared_cell, StackNow, WalksOver}
use Rattle.scene_structures.proofs.Calls.{hands_one}
use Rattle.scene_structures.proofs.Told.{told_list}
use Rattle.scene_structures.proofs.Others.{all_others, others_both, others_call}
use Rattle.scene_structures.proofs.observers.Observers.each.Given.{Over}
use Rattle.scene_structures.proofs.Kept.{same_call, same_then, carries_call, granted}
use Rattle.scene_structures.proofs.Rooms.{far, serves}
use Rattle.scene_structures.proofs.Orders.{order_both, order_clear, order_event}
use Rattle.scene_structures.proofs.observers.Observers.each.Goals as goal

pub walk-requires-clause-bag : goal.walk-requires-clause-bag
walk-requires-clause-bag g c =
    let d = c.args.desk.now in let e = c.in-Ok.ensures in
    (bag_of d, hands_one d c.load.new.desk c.in-Ok.top c.assert_invariant.ensures.bag e.bag e.held)

others : (g : Over) (c : goal.After-walk g) → KeepsEndings c.args.desk.now c.walk.new.desk × (endings_of c.walk.new.desk ≡ endings_of c.args.desk.now)
others g c =
    all_others c.args.desk.now c.walk.new.desk _ _ c.self.invariant c.walk.ensures.none
    (others_both (others_call _ c.in-Ok.ensures.keeps) c.walk.ensures.others)

pub returns-clause-own : goal.returns-clause-own
returns-clause-own g c =
    let d = c.args.desk.now in let m = c.load.new.desk in let top = c.in-Ok.top in let e = c.in-Ok.ensures in let w = c.walk.ensures in
    let same : c.self.inside.cell ≡ c.args.self.now.cell = ap (λ (s : StackNow). s.cell) c.self.view_is in
    let loads = subst (λ (k : Cell). AddsEvent d (Load k (node_in m top)) m) (ap (shared_cell d) c.free.ensures ∙ ap Free same) e.event in
    let over : WalksOver d (Free c.args.self.now.cell) w.own.0 c.walk.new.desk = record { first = node_in m top; loaded = m; loads = loads; walks = w.own.1 } in
    let shape : d.shape.shared_cells ≡ c.args.domain.now.shape.shared_cells = ap (λ (k : Shape). k.shared_cells) c.requires.domain.shape in
    let cell = c.requires.stands.cell in
    let lt : c.args.self.now.cell < (opening_of d.shape).cells = omega arith in
    let bag = (w.bag (bag_of d) (hands_one d m top c.assert_invariant.ensures.bag e.bag e.held)).bag in (
      w.own.0,
      over,
      w.own.2,
      λ sole. told_list d c.walk.new.desk c.args.self.now.cell w.own.0 over c.assert_invariant.ensures.legal sole lt (others g c).0 bag,
    )

pub returns-clause-endings : goal.returns-clause-endings
returns-clause-endings g c = (others g c).0

pub returns-clause-count : goal.returns-clause-count
returns-clause-count g c = (others g c).1

pub returns-clause-stands : goal.returns-clause-stands
returns-clause-stands g c =
    let same : c.self.inside.cell ≡ c.args.self.now.cell = ap (λ (s : StackNow). s.cell) c.self.view_is in
    let there = subst (λ n. n < c.args.domain.now.shape.shared_cells) (sym same) c.requires.stands.cell in
    (same, record { cell = there; room = c.walk.ensures.carries.room })

pub returns-clause-bag : goal.returns-clause-bag
returns-clause-bag g c =
    let d = c.args.desk.now in let e = c.in-Ok.ensures in
    (c.walk.ensures.bag (bag_of d) (hands_one d c.load.new.desk c.in-Ok.top c.assert_invariant.ensures.bag e.bag e.held)).bag

pub returns-clause-held : goal.returns-clause-held
returns-clause-held g c = let one = c.in-Ok.ensures.held in let two = c.walk.ensures.held in omega arith

pub returns-clause-desk : goal.returns-clause-desk
returns-clause-desk g c = same_then (same_call c.in-Ok.ensures.keeps) c.walk.ensures.desk

pub load-requires-clause-cell : goal.load-requires-clause-cell
load-requires-clause-cell g c =
    let same : c.self.inside.cell ≡ c.args.self.now.cell = ap (λ (s : StackNow). s.cell) c.self.view_is in
    let there = subst (λ n. n < c.args.domain.now.shape.shared_cells) (sym same) c.requires.stands.cell in
    subst (IsOpenSite c.args.desk.now) (sym c.free.ensures)
    (subst (λ (z : Shape). c.self.inside.cell < z.shared_cells) (sym c.requires.domain.shape) there)

pub walk-requires-clause-empty : goal.walk-requires-clause-empty
walk-requires-clause-empty g c = c.self.invariant

pub walk-requires-clause-carries : goal.walk-requires-clause-carries
walk-requires-clause-carries g c =
    let room = subst (λ n. c.args.domain.now.shape.blocks ≤ n) (sym (ap (λ (s : StackNow). s.room) c.self.view_is)) c.requires.stands.room in
    carries_call (serves c.args.domain.now c.args.desk.now c.self.inside.pile c.requires.domain c.self.invariant room) c.in-Ok.ensures.keeps

pub walk-requires-clause-room : goal.walk-requires-clause-room
walk-requires-clause-room g c =
    let far' = far c.is_near_limit.ensures c.if-is_near_limit.false in
    let one = c.in-Ok.ensures.held in let a = c.in-Ok.ensures.keeps.allowance in omega arith

pub unreachable-requires : goal.unreachable-requires
unreachable-requires g c =
    let far' = far c.is_near_limit.ensures c.if-is_near_limit.false in
    granted c.args.desk.now c.load.result c.load.ensures.limit (omega arith) c.in_default.not-Ok

pub returns-clause-order : goal.returns-clause-order
returns-clause-order g c =
    let d = c.args.desk.now in
    order_clear d c.walk.new.desk _ _ c.self.invariant c.walk.ensures.none
    (order_both (order_event d c.load.new.desk _ _ c.in-Ok.ensures.event tt) c.walk.ensures.order)
