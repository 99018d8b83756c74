use Rattle.std.proofs.Common.{◌≡◌, ◌<◌, ◌≤◌, MatchOption, sym, ap, ◌∙◌, subst, arith}
use Rattle.scene_structures.proofs.Prelude.{AddsEvent, bag_of, Cell, endings_of, FindsNone, Free}
use Rattle.scene_structures.proofs.Prelude.{IsOpenSite, KeepsEndings, Load, Looks, node_in}
use Rattle.scene_structures.proofs.Prelude.{opening_of, Shape, shared_cell, StackNow, TakesNode}
use Rattle.scene_structures.proofs.Calls.{got_lists, hands_one, popped_or_bare}
use Rattle.scene_structures.proofs.Looks.{looks_first}
use Rattle.scene_structures.proofs.Others.{all_others, others_both, others_call}
use Rattle.scene_structures.proofs.stack.Stack.pop.Given.{Over}
use Rattle.scene_structures.proofs.Kept.{same_call, same_then, carries_call, granted}
use Rattle.scene_structures.proofs.Rooms.{far, serves, bag_taken, holds_taken, held_taken}
use Rattle.scene_structures.proofs.Orders.{order_both, order_clear, order_event}
use Rattle.scene_structures.proofs.stack.Stack.pop.Goals as goal

pub returns-clause-own : goal.returns-clause-own
returns-clause-own g c =
    let d = c.args.desk.now in let m = c.load.new.desk in let top = c.in-Ok.top in
    let same : c.self.inside.cell ≡ c.args.self.now.cell = ap (λ (s : StackNow). s.cell) c.self.view_is in
    let loads = subst (λ (k : Cell). AddsEvent d (Load k (node_in m top)) m) (ap (shared_cell d) c.free.ensures ∙ ap Free same) c.in-Ok.ensures.event in
    subst (λ n. MatchOption c.take.result (FindsNone d (Free n) c.take.new.desk) (λ h. TakesNode d (Free n) h c.take.new.desk)) same
    (c.take.ensures.own d (subst (λ n. Looks d (Free n) top m) (sym same)
    (looks_first d m (Free c.args.self.now.cell) top loads (got_lists d m top c.in-Ok.ensures.bag))))

pub returns-clause-list : goal.returns-clause-list
returns-clause-list g c sole =
    let d = c.args.desk.now in let m = c.load.new.desk in let top = c.in-Ok.top in let e = c.in-Ok.ensures in let s = c.assert_invariant.ensures in
    let few = s.bag in
    let shape : d.shape.shared_cells ≡ c.args.domain.now.shape.shared_cells = ap (λ (k : Shape). k.shared_cells) c.requires.domain.shape in
    let cell = c.requires.stands.cell in
    let lt : c.args.self.now.cell < (opening_of d.shape).cells = omega arith in
    popped_or_bare d c.take.new.desk c.args.self.now.cell (bag_of d) c.take.result (returns-clause-own g c)
    (c.take.ensures.bag (bag_of d) (hands_one d m top few e.bag e.held)) s.legal lt sole

others : (g : Over) (c : goal.After-take g) → KeepsEndings c.args.desk.now c.take.new.desk × (endings_of c.take.new.desk ≡ endings_of c.args.desk.now)
others g c =
    all_others c.args.desk.now c.take.new.desk _ _ c.self.invariant c.take.ensures.none
    (others_both (others_call _ c.in-Ok.ensures.keeps) c.take.ensures.others)

pub returns-clause-endings : goal.returns-clause-endings
returns-clause-endings g c = (others g c).0

pub returns-clause-count : goal.returns-clause-count
returns-clause-count g c = (others g c).1

pub returns-clause-stands : goal.returns-clause-stands
returns-clause-stands g c =
    let same : c.self.inside.cell ≡ c.args.self.now.cell = ap (λ (s : StackNow). s.cell) c.self.view_is in
    let there = subst (λ n. n < c.args.domain.now.shape.shared_cells) (sym same) c.requires.stands.cell in
    (same, record { cell = there; room = c.take.ensures.carries.room })

pub returns-clause-bag : goal.returns-clause-bag
returns-clause-bag g c =
    let d = c.args.desk.now in let e = c.in-Ok.ensures in
    let has = c.take.ensures.bag (bag_of d) (hands_one d c.load.new.desk c.in-Ok.top c.assert_invariant.ensures.bag e.bag e.held) in
    bag_taken c.take.new.desk (bag_of d) c.take.result has

pub returns-clause-holds : goal.returns-clause-holds
returns-clause-holds g c =
    let d = c.args.desk.now in let e = c.in-Ok.ensures in
    let has = c.take.ensures.bag (bag_of d) (hands_one d c.load.new.desk c.in-Ok.top c.assert_invariant.ensures.bag e.bag e.held) in
    holds_taken c.take.new.desk (bag_of d) c.take.result has

pub returns-clause-held : goal.returns-clause-held
returns-clause-held g c =
    held_taken c.args.desk.now c.load.new.desk c.take.new.desk c.take.result c.in-Ok.ensures.held c.take.ensures.held

pub returns-clause-desk : goal.returns-clause-desk
returns-clause-desk g c = same_then (same_call c.in-Ok.ensures.keeps) c.take.ensures.desk

pub load-requires-clause-cell : goal.load-requires-clause-cell
load-requires-clause-cell g c =
    let same : c.self.inside.cell ≡ c.args.self.now.cell = ap (λ (s : StackNow). s.cell) c.self.view_is in
    let there = subst (λ n. n < c.args.domain.now.shape.shared_cells) (sym same) c.requires.stands.cell in
    subst (IsOpenSite c.args.desk.now) (sym c.free.ensures)
    (subst (λ (z : Shape). c.self.inside.cell < z.shared_cells) (sym c.requires.domain.shape) there)

pub take-requires-clause-cell : goal.take-requires-clause-cell
take-requires-clause-cell g c =
    let same : c.self.inside.cell ≡ c.args.self.now.cell = ap (λ (s : StackNow). s.cell) c.self.view_is in
    let there = subst (λ n. n < c.args.domain.now.shape.shared_cells) (sym same) c.requires.stands.cell in
    subst (λ (z : Shape). c.self.inside.cell < z.shared_cells) (sym (c.in-Ok.ensures.keeps.shape ∙ c.requires.domain.shape)) there

pub take-requires-clause-bag : goal.take-requires-clause-bag
take-requires-clause-bag g c =
    let d = c.args.desk.now in let e = c.in-Ok.ensures in
    (bag_of d, hands_one d c.load.new.desk c.in-Ok.top c.assert_invariant.ensures.bag e.bag e.held)

pub take-requires-clause-empty : goal.take-requires-clause-empty
take-requires-clause-empty g c = c.self.invariant

pub take-requires-clause-carries : goal.take-requires-clause-carries
take-requires-clause-carries g c =
    let room = subst (λ n. c.args.domain.now.shape.blocks ≤ n) (sym (ap (λ (s : StackNow). s.room) c.self.view_is)) c.requires.stands.room in
    carries_call (serves c.args.domain.now c.args.desk.now c.self.inside.pile c.requires.domain c.self.invariant room) c.in-Ok.ensures.keeps

pub take-requires-clause-room : goal.take-requires-clause-room
take-requires-clause-room g c =
    let far' = far c.is_near_limit.ensures c.if-is_near_limit.false in
    let one = c.in-Ok.ensures.held in let a = c.in-Ok.ensures.keeps.allowance in omega arith

pub unreachable-requires : goal.unreachable-requires
unreachable-requires g c =
    let far' = far c.is_near_limit.ensures c.if-is_near_limit.false in
    granted c.args.desk.now c.load.result c.load.ensures.limit (omega arith) c.in_default.not-Ok

pub returns-clause-order : goal.returns-clause-order
returns-clause-order g c =
    let d = c.args.desk.now in
    order_clear d c.take.new.desk _ _ c.self.invariant c.take.ensures.none
    (order_both (order_event d c.load.new.desk _ _ c.in-Ok.ensures.event tt) c.take.ensures.order)
