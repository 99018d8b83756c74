use Rattle.std.proofs.Common.{◌≡◌, false, length, sym, ap, ◌∙◌, subst, arith}
use Rattle.scene_structures.proofs.Prelude.{Adopts, bag_of, calls_keep_latest, Carries}
use Rattle.scene_structures.proofs.Prelude.{carries_kept, EndsInOrder, iff_false, KeepsOthers}
use Rattle.scene_structures.proofs.Prelude.{Lists, NextOf, node_in, Pile}
use Rattle.scene_structures.proofs.Adopted.{adopted}
use Rattle.scene_structures.proofs.Adopting.{adopts, hands_over, makes_latest, node_on, parent_on}
use Rattle.scene_structures.proofs.Adopting.{these_node}
use Rattle.scene_structures.proofs.Watches.{endings_both, lists_of}
use Rattle.scene_structures.proofs.Pushes.{shares_does}
use Rattle.scene_structures.proofs.scene.Scene.add_child.Given.{Over}
use Rattle.scene_structures.proofs.Others.{others_both, others_call, others_kept}
use Rattle.scene_structures.proofs.Kept.{same_call, same_then, granted, open_listed, open_held}
use Rattle.scene_structures.proofs.Hands.{lists_first, lists_under}
use Rattle.scene_structures.proofs.Rooms.{far, fine, nil_of, made_within}
use Rattle.control_block.specs.Desks.{stock_of}
use Rattle.scene_structures.proofs.Detached.{within_holds}
use Rattle.scene_structures.proofs.Orders.{order_both, order_event, order_makes, order_shares}
use Rattle.scene_structures.proofs.Orders.{order_still}
use Rattle.scene_structures.proofs.scene.Scene.add_child.Goals as goal

pub raise-requires-clause-carries : goal.raise-requires-clause-carries
raise-requires-clause-carries g c =
    let d = c.args.desk.now in let m = c.make.new.desk in let n = c.watch.new.desk in let s = c.share.new.desk in let l = c.load.new.desk in
    let a = c.in-Ok-make.ensures in let h = c.watch.ensures in let k = c.in-Ok-share.ensures.keeps in let t = c.in-Ok-load.ensures.keeps in
    let b = subst (λ (p : Pile g.row.V.Denot). Carries c.args.domain.now d p) (sym c.self.view_is) c.requires.carries in
    carries_kept c.args.domain.now d l c.self.inside.pile b
    (t.domain ∙ (k.domain ∙ (h.desk.domain ∙ a.desk.domain))) (t.shape ∙ (k.shape ∙ (h.desk.shape ∙ a.desk.shape)))
    (endings_both d s l (endings_both d n s (endings_both d m n a.endings h.endings) k.endings) t.endings)

both : (g : Over) (c : goal.After-raise g) → (a : Adopts c.args.desk.now c.args.parent.now c.args.fields c.args.value c.in-Ok-make.node c.raise.new.desk)
    × (a.made ≡ c.make.new.desk)
both g c =
    let d = c.args.desk.now in let m = c.make.new.desk in let n = c.watch.new.desk in let s = c.share.new.desk in let l = c.load.new.desk in
    let a = c.in-Ok-make.ensures in let h = c.watch.ensures in let k = c.in-Ok-share.ensures in let t = c.in-Ok-load.ensures in
    let p = c.args.parent.now in
    adopts d m n s l c.raise.new.desk p c.in-Ok-make.node c.in-Ok-share.copy c.in-Ok.first c.args.fields c.args.value _ _ a.event a.bag h.own h.latest h.bag
    k.event k.handle.0 k.handle.1 k.bag t.event c.raise.ensures.own (lists_of d p.block p.place c.requires.holds) c.in-Ok.ensures

pub returns-clause-own : goal.returns-clause-own
returns-clause-own g c = (both g c).0

pub returns-clause-tree : goal.returns-clause-tree
returns-clause-tree g c sole =
    let d = c.args.desk.now in let m = c.make.new.desk in let n = c.watch.new.desk in let s = c.share.new.desk in let l = c.load.new.desk in
    let e = c.raise.new.desk in let p = c.args.parent.now in let node = c.in-Ok-make.node in let copy = c.in-Ok-share.copy in let top = c.in-Ok-load.top in
    let a = c.in-Ok-make.ensures in let h = c.watch.ensures in let k = c.in-Ok-share.ensures in let t = c.in-Ok-load.ensures in let i = c.in-Ok.ensures in
    let lists = lists_of d p.block p.place c.requires.holds in
    let keeps_m = makes_latest d m c.args.fields c.args.value node.block node.place a.event in
    let shared = shares_does (NextOf 0) n s node.block node.place node.place k.event in
    let keeps_l = calls_keep_latest s _ l t.event in
    let parent_l = parent_on d m n s l e p node copy keeps_m a.bag h.latest h.bag shared.1 k.bag keeps_l lists in
    let node_l = node_on d m n s l e p node copy a.bag h.latest h.bag shared.1 k.bag keeps_l in
    let has = hands_over d m n s l node copy top c.assert_invariant.ensures.bag a.bag a.held h.bag h.held k.handle.0 k.handle.1 k.bag k.held t.bag t.held in
    let these = c.raise.ensures.latest (bag_of n) has in
    let a' = both g c in
    let bag = (c.raise.ensures.bag (bag_of n) has).bag in
    adopted d e p node c.args.fields c.args.value a'.0 c.assert_invariant.ensures.legal sole (i.0, i.1, i.2) lists
    (subst (Lists p.block p.place) (sym bag) parent_l.1) (subst (Lists node.block node.place) (sym bag) node_l.1)
    (these_node l e (bag_of n) p these parent_l.1 ∙ parent_l.0)
    (these_node l e (bag_of n) node these node_l.1 ∙ (node_l.0 ∙ ap (λ x. node_in x node) (sym a'.1)))

pub returns-clause-others : goal.returns-clause-others
returns-clause-others g c =
    let d = c.args.desk.now in let m = c.make.new.desk in let n = c.watch.new.desk in
    let a = c.in-Ok-make.ensures in let h = c.watch.ensures in
    subst (λ (p : Pile g.row.V.Denot). KeepsOthers d p.endings.items c.raise.new.desk c.raise.new.pile.endings.items) c.self.view_is
    (others_both (others_kept d m _ a.endings a.count)
    (others_both (others_kept m n _ h.endings h.count)
    (others_both (others_call _ c.in-Ok-share.ensures.keeps) (others_both (others_call _ c.in-Ok-load.ensures.keeps) c.raise.ensures.others))))

pub returns-clause-order : goal.returns-clause-order
returns-clause-order g c =
    let d = c.args.desk.now in let m = c.make.new.desk in let n = c.watch.new.desk in
    let a = c.in-Ok-make.ensures in let h = c.watch.ensures in let node = c.in-Ok-make.node in
    subst (λ (p : Pile g.row.V.Denot). EndsInOrder d p.endings.items c.raise.new.desk c.raise.new.pile.endings.items) c.self.view_is
    (order_both (order_makes d m false false c.args.fields c.args.value node.block node.place _ a.event)
    (order_both (order_still m n _ h.still)
    (order_both (order_shares n c.share.new.desk node.block node.place node.place _ c.in-Ok-share.ensures.event)
    (order_both (order_event c.share.new.desk c.load.new.desk _ _ c.in-Ok-load.ensures.event tt) c.raise.ensures.order))))

pub returns-clause-may : goal.returns-clause-may
returns-clause-may g c =
    let i = c.in-Ok.ensures in
    (iff_false c.is_near_limit.ensures c.if-is_near_limit.false, c.in-Ok-make.ensures.refusals.1, (i.0, i.1, i.2))

pub returns-clause-bag : goal.returns-clause-bag
returns-clause-bag g c =
    let d = c.args.desk.now in let m = c.make.new.desk in let n = c.watch.new.desk in let a = c.in-Ok-make.ensures in let node = c.in-Ok-make.node in
    let p = c.args.parent.now in let i = c.in-Ok.ensures in
    let s = c.share.new.desk in let l = c.load.new.desk in let h = c.watch.ensures in let k = c.in-Ok-share.ensures in let t = c.in-Ok-load.ensures in
    let has = hands_over d m n s l node c.in-Ok-share.copy c.in-Ok-load.top c.assert_invariant.ensures.bag a.bag a.held h.bag h.held k.handle.0 k.handle.1
    k.bag k.held t.bag t.held in
    (c.raise.ensures.bag (bag_of n) has).bag ∙ (h.bag ∙ a.bag)

pub returns-clause-holds : goal.returns-clause-holds
returns-clause-holds g c =
    let d = c.args.desk.now in let m = c.make.new.desk in let n = c.watch.new.desk in let a = c.in-Ok-make.ensures in let node = c.in-Ok-make.node in
    let p = c.args.parent.now in let i = c.in-Ok.ensures in
    let s = c.share.new.desk in let l = c.load.new.desk in let h = c.watch.ensures in let k = c.in-Ok-share.ensures in let t = c.in-Ok-load.ensures in
    let has = hands_over d m n s l node c.in-Ok-share.copy c.in-Ok-load.top c.assert_invariant.ensures.bag a.bag a.held h.bag h.held k.handle.0 k.handle.1
    k.bag k.held t.bag t.held in
    let bag = (c.raise.ensures.bag (bag_of n) has).bag ∙ (h.bag ∙ a.bag) in
    let within = made_within d m c.args.fields c.args.value node.block node.place a.event in
    (within_holds c.raise.new.desk node within (subst (Lists node.block node.place) (sym bag) (lists_first node.block node.place (bag_of d))), within)

pub returns-clause-held : goal.returns-clause-held
returns-clause-held g c =
    let one = c.in-Ok-make.ensures.held in let two = c.watch.ensures.held in let three = c.in-Ok-share.ensures.held in
    let four = c.in-Ok-load.ensures.held in let five = c.raise.ensures.held in omega arith

pub returns-clause-desk : goal.returns-clause-desk
returns-clause-desk g c =
    same_then c.in-Ok-make.ensures.desk
    (same_then c.watch.ensures.desk
    (same_then (same_call c.in-Ok-share.ensures.keeps) (same_then (same_call c.in-Ok-load.ensures.keeps) c.raise.ensures.desk)))

pub returns-clause-none : goal.returns-clause-none
returns-clause-none g c = c.raise.ensures.none

pub returns-clause-carries : goal.returns-clause-carries
returns-clause-carries g c = c.raise.ensures.carries

pub returns-then-stock-eq0-clause-refusals : goal.returns-then-stock-eq0-clause-refusals
returns-then-stock-eq0-clause-refusals g c =
    (iff_false c.is_near_limit.ensures c.if-is_near_limit.false, nil_of (stock_of c.args.desk.now) (sym c.stock.ensures ∙ c.if-stock-eq0.true))

pub watch-requires-clause-room : goal.watch-requires-clause-room
watch-requires-clause-room g c =
    let far' = far c.is_near_limit.ensures c.if-is_near_limit.false in
    let one = c.in-Ok-make.ensures.held in let a = c.in-Ok-make.ensures.desk.allowance in omega arith

pub watch-requires-clause-node : goal.watch-requires-clause-node
watch-requires-clause-node g c =
    let d = c.args.desk.now in let m = c.make.new.desk in let a = c.in-Ok-make.ensures in let node = c.in-Ok-make.node in
    let p = c.args.parent.now in let i = c.in-Ok.ensures in
    made_within d m c.args.fields c.args.value node.block node.place a.event

pub watch-requires-clause-holds : goal.watch-requires-clause-holds
watch-requires-clause-holds g c =
    let d = c.args.desk.now in let m = c.make.new.desk in let a = c.in-Ok-make.ensures in let node = c.in-Ok-make.node in
    let p = c.args.parent.now in let i = c.in-Ok.ensures in
    let in_m = subst (Lists p.block p.place) (sym a.bag)
    (lists_under p.block node.block p.place node.place (bag_of d) (lists_of d p.block p.place c.requires.holds)) in
    (a.holds, within_holds m p (i.0, i.1, i.2) in_m)

pub share-requires-clause-holds : goal.share-requires-clause-holds
share-requires-clause-holds g c =
    let d = c.args.desk.now in let m = c.make.new.desk in let n = c.watch.new.desk in let a = c.in-Ok-make.ensures in let node = c.in-Ok-make.node in
    let p = c.args.parent.now in let i = c.in-Ok.ensures in
    within_holds n node (made_within d m c.args.fields c.args.value node.block node.place a.event)
    (subst (Lists node.block node.place) (sym (c.watch.ensures.bag ∙ a.bag)) (lists_first node.block node.place (bag_of d)))

pub load-requires-clause-cell : goal.load-requires-clause-cell
load-requires-clause-cell g c =
    let d = c.args.desk.now in let m = c.make.new.desk in let n = c.watch.new.desk in let a = c.in-Ok-make.ensures in let node = c.in-Ok-make.node in
    let p = c.args.parent.now in let i = c.in-Ok.ensures in
    let in_m = subst (Lists p.block p.place) (sym a.bag)
    (lists_under p.block node.block p.place node.place (bag_of d) (lists_of d p.block p.place c.requires.holds)) in
    let in_n = subst (Lists p.block p.place) (sym c.watch.ensures.bag) in_m in
    let s = c.share.new.desk in
    open_held s p c.in-Ok.first _ i (within_holds s p (i.0, i.1, i.2)
    (subst (Lists p.block p.place) (sym c.in-Ok-share.ensures.bag) (lists_under p.block node.block p.place node.place (bag_of n) in_n)))

pub raise-requires-clause-bag : goal.raise-requires-clause-bag
raise-requires-clause-bag g c =
    let d = c.args.desk.now in let m = c.make.new.desk in let n = c.watch.new.desk in let a = c.in-Ok-make.ensures in let node = c.in-Ok-make.node in
    let p = c.args.parent.now in let i = c.in-Ok.ensures in
    let s = c.share.new.desk in let l = c.load.new.desk in let h = c.watch.ensures in let k = c.in-Ok-share.ensures in let t = c.in-Ok-load.ensures in
    let has = hands_over d m n s l node c.in-Ok-share.copy c.in-Ok-load.top c.assert_invariant.ensures.bag a.bag a.held h.bag h.held k.handle.0 k.handle.1
    k.bag k.held t.bag t.held in
    let in_m = subst (Lists p.block p.place) (sym a.bag)
    (lists_under p.block node.block p.place node.place (bag_of d) (lists_of d p.block p.place c.requires.holds)) in
    let in_n = subst (Lists p.block p.place) (sym c.watch.ensures.bag) in_m in
    (bag_of n, has, open_listed (bag_of n) p c.in-Ok.first _ l.shape i in_n)

pub raise-requires-clause-node : goal.raise-requires-clause-node
raise-requires-clause-node g c =
    let d = c.args.desk.now in let m = c.make.new.desk in let n = c.watch.new.desk in let a = c.in-Ok-make.ensures in let node = c.in-Ok-make.node in
    let p = c.args.parent.now in let i = c.in-Ok.ensures in
    let w = made_within d m c.args.fields c.args.value node.block node.place a.event in let k = c.in-Ok-share.ensures in
    (w.0, k.handle.1 ∙ w.1, k.handle.0 ∙ w.2)

pub raise-requires-clause-room : goal.raise-requires-clause-room
raise-requires-clause-room g c =
    let far' = far c.is_near_limit.ensures c.if-is_near_limit.false in
    let one = c.in-Ok-make.ensures.held in let two = c.watch.ensures.held in let three = c.in-Ok-share.ensures.held in
    let four = c.in-Ok-load.ensures.held in let a = c.in-Ok-make.ensures.desk.allowance in let b = c.watch.ensures.desk.allowance in
    let e = c.in-Ok-share.ensures.keeps.allowance in let f = c.in-Ok-load.ensures.keeps.allowance in omega arith

pub unreachable-requires : goal.unreachable-requires
unreachable-requires g c =
    let far' = far c.is_near_limit.ensures c.if-is_near_limit.false in
    fine c.make.result c.make.ensures.refusals (λ full. omega arith)
    (λ none. let n = c.stock.ensures in let z = ap length none in let some' = c.if-stock-eq0.false in omega arith) c.in_default.not-Ok

pub unreachable-requires-in_default-share : goal.unreachable-requires-in_default-share
unreachable-requires-in_default-share g c =
    let far' = far c.is_near_limit.ensures c.if-is_near_limit.false in
    let one = c.in-Ok-make.ensures.held in let two = c.watch.ensures.held in let a = c.in-Ok-make.ensures.desk.allowance in
    let b = c.watch.ensures.desk.allowance in
    granted c.watch.new.desk c.share.result c.share.ensures.limit (omega arith) c.in_default-share.not-Ok

pub unreachable-requires-in_default-load : goal.unreachable-requires-in_default-load
unreachable-requires-in_default-load g c =
    let far' = far c.is_near_limit.ensures c.if-is_near_limit.false in
    let one = c.in-Ok-make.ensures.held in let two = c.watch.ensures.held in let three = c.in-Ok-share.ensures.held in
    let a = c.in-Ok-make.ensures.desk.allowance in let b = c.watch.ensures.desk.allowance in let e = c.in-Ok-share.ensures.keeps.allowance in
    granted c.share.new.desk c.load.result c.load.ensures.limit (omega arith) c.in_default-load.not-Ok
