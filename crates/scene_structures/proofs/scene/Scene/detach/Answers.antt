use Rattle.std.proofs.Common.{◌≡◌, [], ◌∷◌, Some, Option, sym, refl, ap, ◌∙◌, subst, inl, inr}
use Rattle.std.proofs.Common.{arith}
use Rattle.scene_structures.proofs.Prelude
use Prelude.{bag_of, Block, Carries, carries_kept, Detaches, does_both, EndsInOrder, first_out}
use Prelude.{HasHands, in_no_cell, IsOfThis, IsParent, IsSole, KeepsOthers, LeavesParent, Lists}
use Prelude.{node_in, object_of, Owner, Pile, Place, place_at, PutsOnly, without_handle}
use Rattle.scene_structures.proofs.Adopting.{these_node}
use Rattle.scene_structures.proofs.Detached.{puts_none}
use Rattle.scene_structures.proofs.Unlinks.{detaches_none, detaches_some, leaves_later}
use Rattle.scene_structures.proofs.Unlinks.{parent_in_hand, same_parent}
use Rattle.scene_structures.proofs.Hands.{first_lists, lists_first, lists_under}
use Rattle.scene_structures.proofs.Leaving.{detached}
use Rattle.scene_structures.proofs.Pushes.{same_left, same_node, shares_does}
use Rattle.scene_structures.proofs.Watches.{endings_both, lists_of}
use Rattle.scene_structures.proofs.scene.Scene.detach.Given.{Over}
use Rattle.scene_structures.proofs.Others.{others_both, others_call, others_kept}
use Rattle.scene_structures.proofs.Kept.{same_call, same_then, granted}
use Rattle.scene_structures.proofs.Rooms.{holds_more, far_off}
use Rattle.scene_structures.proofs.Orders.{order_both, order_shares, order_up}
use Rattle.scene_structures.proofs.scene.Scene.detach.Goals as goal

pub let_go-requires-clause-carries : goal.let_go-requires-clause-carries
let_go-requires-clause-carries g c =
    let d = c.args.desk.now in let p = c.in_ok-owner.ensures in
    let b = subst (λ (x : Pile g.row.V.Denot). Carries c.args.domain.now d x) (sym c.self.view_is) c.requires.carries in
    carries_kept c.args.domain.now d c.parent.new.desk c.self.inside.pile b p.desk.domain p.desk.shape p.endings

none_both : (g : Over) (c : goal.After-let_go g)
    → (a : Detaches c.args.desk.now (object_of (node_in c.args.desk.now c.args.node.now)) c.let_go.new.desk)
    × (IsSole c.args.desk.now → IsParent c.args.desk.now (object_of (node_in c.args.desk.now c.args.node.now)) a.parent a.climbed)
none_both g c =
    let d = c.args.desk.now in let p = c.in_ok-owner.ensures in
    detaches_none d c.parent.new.desk c.let_go.new.desk (object_of (node_in d c.args.node.now)) c.in_ok-owner.owner p.own
    (sym c.block.ensures ∙ c.in_default.is) c.let_go.ensures.own p.parent

pub returns-in_default-clause-own : goal.returns-in_default-clause-own
returns-in_default-clause-own g c = (none_both g c).0

pub returns-in_default-clause-tree : goal.returns-in_default-clause-tree
returns-in_default-clause-tree g c sole =
    let d = c.args.desk.now in let m = c.parent.new.desk in let e = c.let_go in let node = c.args.node.now in
    let p = c.in_ok-owner.ensures in let owner = c.in_ok-owner.owner in let a = none_both g c in
    let lists_d = lists_of d node.block node.place c.requires.holds in
    let bag : bag_of e.new.desk ≡ bag_of d =
    e.ensures.bag ∙ (ap (without_handle Owner owner.block owner.place) p.bag ∙ first_out Owner owner.block owner.place (bag_of d)) in
    let lists_e = subst (Lists node.block node.place) (sym bag) lists_d in
    detached d e.new.desk node a.0 (a.1 sole) c.assert_invariant.ensures.legal sole p.may.1 lists_d lists_e
    (same_left m e.new.desk node e.ensures.latest lists_e ∙ same_node d m node p.latest lists_d)

pub let_go-requires-2-clause-carries : goal.let_go-requires-2-clause-carries
let_go-requires-2-clause-carries g c =
    let d = c.args.desk.now in let p = c.in_ok-owner.ensures in let k = c.in-Ok.ensures.keeps in
    let b = subst (λ (x : Pile g.row.V.Denot). Carries c.args.domain.now d x) (sym c.self.view_is) c.requires.carries in
    carries_kept c.args.domain.now d c.alias.new.desk c.self.inside.pile b (k.domain ∙ p.desk.domain) (k.shape ∙ p.desk.shape)
    (endings_both d c.parent.new.desk c.alias.new.desk p.endings k.endings)

hands : (g : Over) (c : goal.After-leave g) → HasHands (bag_of c.args.desk.now) (c.in-Ok.parent ∷ []) c.let_go-2.new.desk
hands g c =
    let d = c.args.desk.now in let m = c.parent.new.desk in let s = c.alias.new.desk in let f = c.let_go-2 in
    let p = c.in_ok-owner.ensures in let a = c.in-Ok.ensures in
    parent_in_hand d m s f.new.desk c.in_ok-owner.owner c.in-Ok.parent _ c.assert_invariant.ensures.bag p.bag p.held a.handle.0 a.handle.1 a.bag a.held
    f.ensures.bag f.ensures.held

pub leave-requires-clause-bag : goal.leave-requires-clause-bag
leave-requires-clause-bag g c =
    let d = c.args.desk.now in let m = c.parent.new.desk in let s = c.alias.new.desk in let f = c.let_go-2 in
    let p = c.in_ok-owner.ensures in let a = c.in-Ok.ensures in let node = c.args.node.now in
    let has = parent_in_hand d m s f.new.desk c.in_ok-owner.owner c.in-Ok.parent _ c.assert_invariant.ensures.bag p.bag p.held a.handle.0 a.handle.1 a.bag
    a.held f.ensures.bag f.ensures.held in
    (bag_of d, has, lists_of d node.block node.place c.requires.holds)

pub leave-requires-clause-parent : goal.leave-requires-clause-parent
leave-requires-clause-parent g c =
    let a = c.in-Ok.ensures in let b = c.in-Some.block in let owner = c.in_ok-owner.owner in
    let is : owner.block ≡ Some b = sym c.block.ensures ∙ c.in-Some.is in
    let same = a.given (inr (inl (subst (λ (k : Option Block). IsOfThis k (place_at b.0)) (sym is) refl))) in
    let q : Place = record { block = record { 0 = b.0 }; field = 0 } in
    (q, a.handle.1 ∙ same, a.handle.0 ∙ is)

node_same : (g : Over) (c : goal.After-leave g) → node_in c.let_go-2.new.desk c.args.node.now ≡ node_in c.args.desk.now c.args.node.now
node_same g c =
    let d = c.args.desk.now in let m = c.parent.new.desk in let s = c.alias.new.desk in let f = c.let_go-2 in let node = c.args.node.now in
    let p = c.in_ok-owner.ensures in let owner = c.in_ok-owner.owner in let a = c.in-Ok.ensures in let parent = c.in-Ok.parent in
    let lists_d = lists_of d node.block node.place c.requires.holds in
    let lists_m = subst (Lists node.block node.place) (sym p.bag) (lists_under node.block owner.block node.place owner.place (bag_of d) lists_d) in
    let lists_f = subst (Lists node.block node.place) (sym (hands g c).bag)
    (lists_under node.block parent.block node.place parent.place (bag_of d) lists_d) in
    let shared = shares_does in_no_cell m s owner.block owner.place _ a.event in
    same_left s f.new.desk node f.ensures.latest lists_f ∙ (same_node m s node shared.1 lists_m ∙ same_node d m node p.latest lists_d)

some_both : (g : Over) (c : goal.After-leave g)
    → (a : Detaches c.args.desk.now (object_of (node_in c.args.desk.now c.args.node.now)) c.leave.new.desk)
    × (IsSole c.args.desk.now → IsParent c.args.desk.now (object_of (node_in c.args.desk.now c.args.node.now)) a.parent a.climbed)
some_both g c =
    let d = c.args.desk.now in let m = c.parent.new.desk in let s = c.alias.new.desk in let f = c.let_go-2 in let e = c.leave.new.desk in
    let node = c.args.node.now in let p = c.in_ok-owner.ensures in let owner = c.in_ok-owner.owner in let a = c.in-Ok.ensures in
    let parent = c.in-Ok.parent in
    let o = object_of (node_in d node) in let at = f.new.desk in
    let shared = shares_does in_no_cell m s owner.block owner.place _ a.event in
    let lists = subst (Lists owner.block owner.place) (sym p.bag) (lists_first owner.block owner.place (bag_of d)) in
    let number = same_parent m s at owner parent _ a.event a.handle.0 f.ensures.latest lists (first_lists at (bag_of d) parent [] (hands g c)) in
    let comes = does_both (PutsOnly in_no_cell) m s at shared.0 (puts_none s at f.ensures.own) in
    let leaves = subst (λ j. LeavesParent at j o e) number
    (subst (λ j. LeavesParent at (object_of (node_in at parent)) j e) (ap object_of (node_same g c)) c.leave.ensures.own) in
    detaches_some d m e o owner c.in-Some.block p.own (sym c.block.ensures ∙ c.in-Some.is)
    (leaves_later m at e (object_of (node_in m owner)) o comes leaves) p.parent

pub returns-clause-own : goal.returns-clause-own
returns-clause-own g c = (some_both g c).0

pub returns-clause-tree : goal.returns-clause-tree
returns-clause-tree g c sole =
    let d = c.args.desk.now in let f = c.let_go-2.new.desk in let e = c.leave in let node = c.args.node.now in
    let p = c.in_ok-owner.ensures in let a = some_both g c in let has = hands g c in
    let lists_d = lists_of d node.block node.place c.requires.holds in
    let lists_e = subst (Lists node.block node.place) (sym (e.ensures.bag (bag_of d) has).bag) lists_d in
    detached d e.new.desk node a.0 (a.1 sole) c.assert_invariant.ensures.legal sole p.may.1 lists_d lists_e
    (these_node f e.new.desk (bag_of d) node (e.ensures.latest (bag_of d) has) lists_d ∙ node_same g c)

pub returns-in_default-clause-others : goal.returns-in_default-clause-others
returns-in_default-clause-others g c =
    let d = c.args.desk.now in let p = c.in_ok-owner.ensures in
    subst (λ (x : Pile g.row.V.Denot). KeepsOthers d x.endings.items c.let_go.new.desk c.let_go.new.pile.endings.items) c.self.view_is
    (others_both (others_kept d c.parent.new.desk _ p.endings p.count) c.let_go.ensures.others)

pub returns-in_default-clause-order : goal.returns-in_default-clause-order
returns-in_default-clause-order g c =
    let d = c.args.desk.now in let p = c.in_ok-owner.ensures in
    subst (λ (x : Pile g.row.V.Denot). EndsInOrder d x.endings.items c.let_go.new.desk c.let_go.new.pile.endings.items) c.self.view_is
    (order_both (order_up d c.parent.new.desk _ _ _ p.own) c.let_go.ensures.order)

pub returns-clause-others : goal.returns-clause-others
returns-clause-others g c =
    let d = c.args.desk.now in let p = c.in_ok-owner.ensures in
    subst (λ (x : Pile g.row.V.Denot). KeepsOthers d x.endings.items c.leave.new.desk c.leave.new.pile.endings.items) c.self.view_is
    (others_both (others_kept d c.parent.new.desk _ p.endings p.count)
    (others_both (others_call _ c.in-Ok.ensures.keeps) (others_both c.let_go-2.ensures.others c.leave.ensures.others)))

pub returns-clause-order : goal.returns-clause-order
returns-clause-order g c =
    let d = c.args.desk.now in let p = c.in_ok-owner.ensures in let owner = c.in_ok-owner.owner in
    subst (λ (x : Pile g.row.V.Denot). EndsInOrder d x.endings.items c.leave.new.desk c.leave.new.pile.endings.items) c.self.view_is
    (order_both (order_up d c.parent.new.desk _ _ _ p.own)
    (order_both (order_shares c.parent.new.desk c.alias.new.desk owner.block owner.place _ _ c.in-Ok.ensures.event)
    (order_both c.let_go-2.ensures.order c.leave.ensures.order)))

pub alias-requires-clause-holds : goal.alias-requires-clause-holds
alias-requires-clause-holds g c = c.in_ok-owner.ensures.holds

pub let_go-requires-clause-holds : goal.let_go-requires-clause-holds
let_go-requires-clause-holds g c = c.in_ok-owner.ensures.holds

pub let_go-requires-2-clause-holds : goal.let_go-requires-2-clause-holds
let_go-requires-2-clause-holds g c =
    let owner = c.in_ok-owner.owner in let a = c.in-Ok.ensures in
    holds_more Owner c.parent.new.desk c.alias.new.desk owner.block owner.block owner.place _ c.in_ok-owner.ensures.holds a.bag a.held

pub leave-requires-clause-carries : goal.leave-requires-clause-carries
leave-requires-clause-carries g c = c.let_go-2.ensures.carries

pub leave-requires-clause-empty : goal.leave-requires-clause-empty
leave-requires-clause-empty g c = c.let_go-2.ensures.none

pub leave-requires-clause-node : goal.leave-requires-clause-node
leave-requires-clause-node g c = c.in_ok-owner.ensures.may.1

pub leave-requires-clause-room : goal.leave-requires-clause-room
leave-requires-clause-room g c =
    let far' = far_off c.in_ok-owner.ensures.may.0 in
    let one = c.in_ok-owner.ensures.held in let two = c.in-Ok.ensures.held in let three = c.let_go-2.ensures.held in
    let a = c.in_ok-owner.ensures.desk.allowance in let b = c.in-Ok.ensures.keeps.allowance in let e = c.let_go-2.ensures.desk.allowance in omega arith

pub returns-clause-may : goal.returns-clause-may
returns-clause-may g c = c.in_ok-owner.ensures.may

pub returns-clause-carries : goal.returns-clause-carries
returns-clause-carries g c = c.leave.ensures.carries

pub returns-clause-none : goal.returns-clause-none
returns-clause-none g c = c.leave.ensures.none

pub returns-clause-desk : goal.returns-clause-desk
returns-clause-desk g c =
    same_then c.in_ok-owner.ensures.desk
    (same_then (same_call c.in-Ok.ensures.keeps) (same_then c.let_go-2.ensures.desk c.leave.ensures.desk))

pub returns-clause-bag : goal.returns-clause-bag
returns-clause-bag g c = (c.leave.ensures.bag (bag_of c.args.desk.now) (hands g c)).bag

pub returns-clause-held : goal.returns-clause-held
returns-clause-held g c =
    let one = c.in_ok-owner.ensures.held in let two = c.in-Ok.ensures.held in let three = c.let_go-2.ensures.held in let four = c.leave.ensures.held in
    omega arith

pub returns-in_default-clause-may : goal.returns-in_default-clause-may
returns-in_default-clause-may g c = c.in_ok-owner.ensures.may

pub returns-in_default-clause-carries : goal.returns-in_default-clause-carries
returns-in_default-clause-carries g c = c.let_go.ensures.carries

pub returns-in_default-clause-none : goal.returns-in_default-clause-none
returns-in_default-clause-none g c = c.let_go.ensures.none

pub returns-in_default-clause-desk : goal.returns-in_default-clause-desk
returns-in_default-clause-desk g c = same_then c.in_ok-owner.ensures.desk c.let_go.ensures.desk

pub returns-in_default-clause-bag : goal.returns-in_default-clause-bag
returns-in_default-clause-bag g c =
    let owner = c.in_ok-owner.owner in
    c.let_go.ensures.bag ∙ (ap (without_handle Owner owner.block owner.place) c.in_ok-owner.ensures.bag
    ∙ first_out Owner owner.block owner.place (bag_of c.args.desk.now))

pub returns-in_default-clause-held : goal.returns-in_default-clause-held
returns-in_default-clause-held g c = let one = c.in_ok-owner.ensures.held in let two = c.let_go.ensures.held in omega arith

pub unreachable-requires : goal.unreachable-requires
unreachable-requires g c =
    let far' = far_off c.in_ok-owner.ensures.may.0 in
    let one = c.in_ok-owner.ensures.held in let a = c.in_ok-owner.ensures.desk.allowance in
    granted c.parent.new.desk c.alias.result c.alias.ensures.limit (omega arith) c.in_default-alias.not-Ok
