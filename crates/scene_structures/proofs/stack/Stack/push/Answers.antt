use Rattle.std.proofs.Common.{◌≡◌, ◌<◌, ◌≤◌, false, [], ◌∷◌, sym, ap, ◌∙◌, subst, arith}
use Rattle.scene_structures.proofs.Prelude.{bag_of, Cell, endings_of, Free, iff_false, IsOpenBy}
use Rattle.scene_structures.proofs.Prelude.{IsOpenSite, KeepsEndings, node_in, opening_of, Rises}
use Rattle.scene_structures.proofs.Prelude.{Shape, shared_cell, SharedSite, StackNow}
use Rattle.scene_structures.proofs.Hands.{hands_got}
use Rattle.scene_structures.proofs.Calls.{hands_one, pushes}
use Rattle.scene_structures.proofs.Sole.{pushed_list}
use Rattle.scene_structures.proofs.Others.{all_others, others_both, others_call, others_kept}
use Rattle.scene_structures.proofs.stack.Stack.push.Given.{Over}
use Rattle.scene_structures.proofs.Kept.{same_call, same_then, carries_call, carries_over, granted}
use Rattle.scene_structures.proofs.Rooms.{far, made_within, serves}
use Rattle.scene_structures.proofs.Orders.{order_both, order_clear, order_event, order_makes}
use Rattle.scene_structures.proofs.stack.Stack.push.Goals as goal

pub returns-clause-own : goal.returns-clause-own
returns-clause-own g c =
    let d = c.args.desk.now in let m = c.make.new.desk in let l = c.load.new.desk in let e = c.in_ok-node.ensures in let node = c.in_ok-node.node in
    let same : c.self.inside.cell ≡ c.args.self.now.cell = ap (λ (s : StackNow). s.cell) c.self.view_is in
    pushes d m l c.raise.new.desk (Free c.args.self.now.cell) _ c.args.fields c.args.value node _ e.event e.bag c.in-Ok.ensures.event
    (subst (λ (k : Cell). Rises l k (node_in l node) c.raise.new.desk) (ap (shared_cell l) c.free-at.ensures ∙ ap Free same) c.raise.ensures.own)

pub returns-clause-list : goal.returns-clause-list
returns-clause-list g c sole =
    let d = c.args.desk.now in
    let shape : d.shape.shared_cells ≡ c.args.domain.now.shape.shared_cells = ap (λ (k : Shape). k.shared_cells) c.requires.domain.shape in
    let cell = c.requires.stands.cell in
    let lt : c.args.self.now.cell < (opening_of d.shape).cells = omega arith in
    pushed_list d c.raise.new.desk c.args.self.now.cell c.args.fields c.args.value (returns-clause-own g c) c.assert_invariant.ensures.legal sole lt

pub raise-requires-clause-bag : goal.raise-requires-clause-bag
raise-requires-clause-bag g c =
    let d = c.args.desk.now in let m = c.make.new.desk in let l = c.load.new.desk in let e = c.in_ok-node.ensures in let node = c.in_ok-node.node in
    let top = c.in-Ok.top in let t = c.in-Ok.ensures in
    let h = hands_one d m node c.assert_invariant.ensures.bag e.bag e.held in
    let same : c.self.inside.cell ≡ c.args.self.now.cell = ap (λ (s : StackNow). s.cell) c.self.view_is in
    let shape : l.shape.shared_cells ≡ c.args.domain.now.shape.shared_cells =
    ap (λ (k : Shape). k.shared_cells) (t.keeps.shape ∙ (e.desk.shape ∙ c.requires.domain.shape)) in
    let cell = c.requires.stands.cell in
    let lt : c.self.inside.cell < l.shape.shared_cells = omega arith in (
      bag_of d,
      hands_got m l (bag_of d) top (node ∷ []) h t.bag t.held,
      subst (λ (s : SharedSite). IsOpenBy (bag_of d) l.shape s) (sym c.free-at.ensures) lt,
    )

others : (g : Over) (c : goal.After-raise g)
    → KeepsEndings c.args.desk.now c.raise.new.desk × (endings_of c.raise.new.desk ≡ endings_of c.args.desk.now)
others g c =
    let d = c.args.desk.now in let m = c.in_ok-node.ensures in
    all_others c.args.desk.now c.raise.new.desk _ _ c.self.invariant c.raise.ensures.none
    (others_both (others_kept d c.make.new.desk _ m.endings m.count) (others_both (others_call _ c.in-Ok.ensures.keeps) c.raise.ensures.others))

pub returns-clause-endings : goal.returns-clause-endings
returns-clause-endings g c = (others g c).0

pub returns-clause-count : goal.returns-clause-count
returns-clause-count g c = (others g c).1

pub returns-clause-stands : goal.returns-clause-stands
returns-clause-stands g c =
    let same : c.self.inside.cell ≡ c.args.self.now.cell = ap (λ (s : StackNow). s.cell) c.self.view_is in
    let there = subst (λ n. n < c.args.domain.now.shape.shared_cells) (sym same) c.requires.stands.cell in
    (same, record { cell = there; room = c.raise.ensures.carries.room })

pub returns-clause-refusals : goal.returns-clause-refusals
returns-clause-refusals g c = (iff_false c.is_near_limit.ensures c.if-is_near_limit.false, c.in_ok-node.ensures.refusals.1)

pub returns-clause-bag : goal.returns-clause-bag
returns-clause-bag g c =
    let d = c.args.desk.now in let m = c.make.new.desk in let l = c.load.new.desk in let e = c.in_ok-node.ensures in let node = c.in_ok-node.node in
    let t = c.in-Ok.ensures in
    (c.raise.ensures.bag (bag_of d)
    (hands_got m l (bag_of d) c.in-Ok.top (node ∷ []) (hands_one d m node c.assert_invariant.ensures.bag e.bag e.held) t.bag t.held)).bag

pub returns-clause-desk : goal.returns-clause-desk
returns-clause-desk g c = same_then c.in_ok-node.ensures.desk (same_then (same_call c.in-Ok.ensures.keeps) c.raise.ensures.desk)

pub returns-clause-held : goal.returns-clause-held
returns-clause-held g c =
    let one = c.in_ok-node.ensures.held in let two = c.in-Ok.ensures.held in let three = c.raise.ensures.held in omega arith

pub load-requires-clause-cell : goal.load-requires-clause-cell
load-requires-clause-cell g c =
    let same : c.self.inside.cell ≡ c.args.self.now.cell = ap (λ (s : StackNow). s.cell) c.self.view_is in
    let there = subst (λ n. n < c.args.domain.now.shape.shared_cells) (sym same) c.requires.stands.cell in
    let shape = c.in_ok-node.ensures.desk.shape ∙ c.requires.domain.shape in
    subst (IsOpenSite c.make.new.desk) (sym c.free-at.ensures) (subst (λ (z : Shape). c.self.inside.cell < z.shared_cells) (sym shape) there)

pub raise-requires-clause-carries : goal.raise-requires-clause-carries
raise-requires-clause-carries g c =
    let room = subst (λ n. c.args.domain.now.shape.blocks ≤ n) (sym (ap (λ (s : StackNow). s.room) c.self.view_is)) c.requires.stands.room in
    carries_call (carries_over (serves c.args.domain.now c.args.desk.now c.self.inside.pile c.requires.domain c.self.invariant room)
    c.in_ok-node.ensures.desk c.in_ok-node.ensures.endings) c.in-Ok.ensures.keeps

pub raise-requires-clause-node : goal.raise-requires-clause-node
raise-requires-clause-node g c =
    let node = c.in_ok-node.node in
    made_within c.args.desk.now c.make.new.desk c.args.fields c.args.value node.block node.place c.in_ok-node.ensures.event

pub raise-requires-clause-room : goal.raise-requires-clause-room
raise-requires-clause-room g c =
    let far' = far c.is_near_limit.ensures c.if-is_near_limit.false in
    let one = c.in_ok-node.ensures.held in let two = c.in-Ok.ensures.held in
    let a = c.in_ok-node.ensures.desk.allowance in let b = c.in-Ok.ensures.keeps.allowance in omega arith

pub unreachable-requires : goal.unreachable-requires
unreachable-requires g c =
    let far' = far c.is_near_limit.ensures c.if-is_near_limit.false in
    let one = c.in_ok-node.ensures.held in let a = c.in_ok-node.ensures.desk.allowance in
    granted c.make.new.desk c.load.result c.load.ensures.limit (omega arith) c.in_default.not-Ok

pub returns-clause-order : goal.returns-clause-order
returns-clause-order g c =
    let d = c.args.desk.now in let m = c.make.new.desk in let l = c.load.new.desk in let node = c.in_ok-node.node in
    order_clear d c.raise.new.desk _ _ c.self.invariant c.raise.ensures.none
    (order_both (order_makes d m false false c.args.fields c.args.value node.block node.place _ c.in_ok-node.ensures.event)
    (order_both (order_event m l _ _ c.in-Ok.ensures.event tt) c.raise.ensures.order))
