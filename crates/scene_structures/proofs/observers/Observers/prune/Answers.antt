use Rattle.std.proofs.Common.{◌≡◌, ◌<◌, ◌≤◌, None, sym, refl, ap, subst, arith}
use Rattle.scene_structures.proofs.Prelude.{bag_of, endings_of, Free, KeepsEndings, opening_of}
use Rattle.scene_structures.proofs.Prelude.{Prunes, Shape, StackNow}
use Rattle.scene_structures.proofs.Few.{exactly}
use Rattle.scene_structures.proofs.Sifted.{pruned_list}
use Rattle.scene_structures.proofs.Others.{all_others}
use Rattle.scene_structures.proofs.observers.Observers.prune.Given.{Over}
use Rattle.scene_structures.proofs.Rooms.{far, serves}
use Rattle.scene_structures.proofs.Orders.{order_clear}
use Rattle.scene_structures.proofs.observers.Observers.prune.Goals as goal

pub returns-clause-own : goal.returns-clause-own
returns-clause-own g c =
    let d = c.args.desk.now in let m = c.args.self.now.cell in
    let e = c.clear_list.new.desk in let w = c.clear_list.ensures.own in
    let same : c.self.inside.cell ≡ m = ap (λ (s : StackNow). s.cell) c.self.view_is in
    let prunes = subst (λ k. Prunes d (Free k) w.2.0 w.0 None e) same w.2.1 in
    let shape : d.shape.shared_cells ≡ c.args.domain.now.shape.shared_cells = ap (λ (k : Shape). k.shared_cells) c.requires.domain.shape in
    let cell = c.requires.stands.cell in
    let lt : m < (opening_of d.shape).cells = omega arith in
    let limit = c.assert_invariant.ensures.limits.blocks in
    let pruned = pruned_list d e m w.2.0 w.0 prunes c.assert_invariant.ensures.legal c.requires.sole lt in
    (w.0, w.1, (w.2.0, prunes), exactly d e m w.0 c.clear_list.result c.assert_invariant.ensures.legal lt limit w.1 pruned)

others : (g : Over) (c : goal.After-clear_list g)
    → KeepsEndings c.args.desk.now c.clear_list.new.desk × (endings_of c.clear_list.new.desk ≡ endings_of c.args.desk.now)
others g c =
    all_others c.args.desk.now c.clear_list.new.desk _ _ c.self.invariant c.clear_list.ensures.none
    (c.clear_list.ensures.others)

pub returns-clause-endings : goal.returns-clause-endings
returns-clause-endings g c = (others g c).0

pub returns-clause-count : goal.returns-clause-count
returns-clause-count g c = (others g c).1

pub clear_list-requires-clause-cell : goal.clear_list-requires-clause-cell
clear_list-requires-clause-cell g c =
    let same : c.self.inside.cell ≡ c.args.self.now.cell = ap (λ (s : StackNow). s.cell) c.self.view_is in
    let there = subst (λ n. n < c.args.domain.now.shape.shared_cells) (sym same) c.requires.stands.cell in
    subst (λ (z : Shape). c.self.inside.cell < z.shared_cells) (sym c.requires.domain.shape) there

pub clear_list-requires-clause-carries : goal.clear_list-requires-clause-carries
clear_list-requires-clause-carries g c =
    let room = subst (λ n. c.args.domain.now.shape.blocks ≤ n) (sym (ap (λ (s : StackNow). s.room) c.self.view_is)) c.requires.stands.room in
    serves c.args.domain.now c.args.desk.now c.self.inside.pile c.requires.domain c.self.invariant room

pub clear_list-requires-clause-room : goal.clear_list-requires-clause-room
clear_list-requires-clause-room g c =
    let far' = far c.is_near_limit.ensures c.if-is_near_limit.false in
    omega arith

pub clear_list-requires-clause-bag : goal.clear_list-requires-clause-bag
clear_list-requires-clause-bag g c =
    let d = c.args.desk.now in (bag_of d, let few = c.assert_invariant.ensures.bag in record { bag = refl; few = omega arith })

pub returns-clause-stands : goal.returns-clause-stands
returns-clause-stands g c =
    let same : c.self.inside.cell ≡ c.args.self.now.cell = ap (λ (s : StackNow). s.cell) c.self.view_is in
    let there = subst (λ n. n < c.args.domain.now.shape.shared_cells) (sym same) c.requires.stands.cell in
    (same, record { cell = there; room = c.clear_list.ensures.carries.room })

pub returns-clause-order : goal.returns-clause-order
returns-clause-order g c =
    order_clear c.args.desk.now c.clear_list.new.desk _ _ c.self.invariant c.clear_list.ensures.none c.clear_list.ensures.order
