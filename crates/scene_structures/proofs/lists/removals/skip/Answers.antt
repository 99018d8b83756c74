use Rattle.std.proofs.Common.{◌≡◌, true, [], ◌∷◌, sym, refl, subst, arith}
use Rattle.scene_structures.proofs.Prelude.{AddsEvent, bag_of, calls_keep_latest, Cell, Compare}
use Rattle.scene_structures.proofs.Prelude.{does_both, HoldsHandle, IsParting, node_in, Owner}
use Rattle.scene_structures.proofs.Prelude.{Shared, shared_cell, stacked, without_handle}
use Rattle.scene_structures.proofs.Detached.{missed, skips}
use Rattle.scene_structures.proofs.Hands.{first_lists, hands_first, hands_given, hands_got}
use Rattle.scene_structures.proofs.Hands.{hands_second, holds_first, holds_second}
use Rattle.scene_structures.proofs.Pushes.{differs_back, differs_bag, differs_event, differs_held}
use Rattle.scene_structures.proofs.Pushes.{same_node, swapped_bag, swapped_event, swapped_held}
use Rattle.scene_structures.proofs.Sites.{cell_these, open_now, these_after, these_both}
use Rattle.scene_structures.proofs.Sites.{these_over}
use Rattle.scene_structures.proofs.Others.{others_both, others_call}
use Rattle.scene_structures.proofs.Kept.{same_call, same_then, carries_call, granted, unrefused}
use Rattle.scene_structures.proofs.Pruned.{hands_below, open_next}
use Rattle.scene_structures.proofs.Looks.{no_member}
use Rattle.scene_structures.proofs.Orders.{order_both, order_event}
use Rattle.scene_structures.proofs.lists.removals.skip.Goals as goal

pub compare_exchange_weak-requires-clause-cell : goal.compare_exchange_weak-requires-clause-cell
compare_exchange_weak-requires-clause-cell g c =
    let d = c.args.desk.now in let m = c.load.new.desk in let t = c.in-Ok-load.ensures in let node = c.args.node in let b = c.requires.bag in
    let below = c.in-Ok-load.below in
    open_now m d.shape b.0 (below ∷ node ∷ []) c.args.at.now.site t.keeps.shape (hands_got d m b.0 below (node ∷ []) b.1 t.bag t.held) b.2

pub let_go-requires-in-Ok-Swapped-clause-holds : goal.let_go-requires-in-Ok-Swapped-clause-holds
let_go-requires-in-Ok-Swapped-clause-holds g c =
    let d = c.args.desk.now in let m = c.load.new.desk in let u = c.compare_exchange_weak.new.desk in let f = c.let_go.new.desk in
    let t = c.in-Ok-load.ensures in let below = c.in-Ok-load.below in let node = c.args.node in let x = c.in-Ok-Swapped in
    let base = c.requires.bag.0 in
    let h = hands_got d m base below (node ∷ []) c.requires.bag.1 t.bag t.held in
    let i = hands_given m u base below x.old (node ∷ []) h (swapped_bag m u below x.field-0 x.old x.field-0-is x.ensures.bag)
    (swapped_held m u below x.field-0 x.old x.field-0-is x.ensures.held) in
    holds_first f base node [] (hands_first u f base x.old (node ∷ []) i c.let_go.ensures.bag c.let_go.ensures.held)

pub returns-in-Ok-Swapped-clause-latest : goal.returns-in-Ok-Swapped-clause-latest
returns-in-Ok-Swapped-clause-latest g c base has =
    let d = c.args.desk.now in let m = c.load.new.desk in let u = c.compare_exchange_weak.new.desk in let f = c.let_go.new.desk in
    let e = c.let_go-in-Ok-Swapped.new.desk in
    let t = c.in-Ok-load.ensures in let below = c.in-Ok-load.below in let node = c.args.node in let x = c.in-Ok-Swapped in
    let h = hands_got d m base below (node ∷ []) has t.bag t.held in
    let i = hands_given m u base below x.old (node ∷ []) h (swapped_bag m u below x.field-0 x.old x.field-0-is x.ensures.bag)
    (swapped_held m u below x.field-0 x.old x.field-0-is x.ensures.held) in
    let j = hands_first u f base x.old (node ∷ []) i c.let_go.ensures.bag c.let_go.ensures.held in
    let k = hands_first f e base node [] j c.let_go-in-Ok-Swapped.ensures.bag c.let_go-in-Ok-Swapped.ensures.held in
    these_both d m e base (these_over d m base (node ∷ []) (calls_keep_latest d _ m t.event) has)
    (these_both m u e base (these_over m u base (below ∷ node ∷ []) (calls_keep_latest m _ u x.ensures.compared) h)
    (these_both u f e base (these_after u f base (node ∷ []) c.let_go.ensures.latest j)
    (these_after f e base [] c.let_go-in-Ok-Swapped.ensures.latest k)))

pub returns-in-Ok-Swapped-clause-own : goal.returns-in-Ok-Swapped-clause-own
returns-in-Ok-Swapped-clause-own g c =
    let d = c.args.desk.now in let m = c.load.new.desk in let u = c.compare_exchange_weak.new.desk in let f = c.let_go.new.desk in
    let e = c.let_go-in-Ok-Swapped.new.desk in
    let t = c.in-Ok-load.ensures in let below = c.in-Ok-load.below in let node = c.args.node in let x = c.in-Ok-Swapped in
    let b = c.requires.bag in let site = c.args.at.now.site in
    let cell = cell_these d m d.shape b.0 site (these_over d m b.0 (node ∷ []) (calls_keep_latest d _ m t.event) b.1) b.2 in
    let at = swapped_event m u below x.field-0 (shared_cell m site) (node_in m node) (node_in m below) x.old x.field-0-is x.ensures.compared in
    skips d m u e (shared_cell d site) node below (node_in u x.old) c.in-Ok.member c.in-Ok.ensures t.event
    (same_node d m node (calls_keep_latest d _ m t.event) (first_lists d b.0 node [] b.1))
    (subst (λ (k : Cell). AddsEvent m (Compare k (node_in m node) (node_in m below) (node_in u x.old) true true) u) cell at)
    (does_both IsParting u f e c.let_go.ensures.own c.let_go-in-Ok-Swapped.ensures.own)

pub let_go-requires-in-Ok-Differs-3-clause-holds : goal.let_go-requires-in-Ok-Differs-3-clause-holds
let_go-requires-in-Ok-Differs-3-clause-holds g c =
    let d = c.args.desk.now in let m = c.load.new.desk in let u = c.compare_exchange_weak.new.desk in
    let e = c.let_go-in-Ok-Differs in let f = c.let_go-in-Ok-Differs-2 in
    let t = c.in-Ok-load.ensures in let below = c.in-Ok-load.below in let node = c.args.node in let x = c.in-Ok-Differs in
    let base = c.requires.bag.0 in
    let h = hands_got d m base below (node ∷ []) c.requires.bag.1 t.bag t.held in
    let i = hands_got m u base x.held (below ∷ node ∷ []) h (differs_bag m u below x.field-0 x.held x.desired x.field-0-is x.ensures.bag)
    (differs_held m u below x.field-0 x.held x.desired x.field-0-is x.ensures.held) in
    let back = differs_back m u below x.field-0 x.held x.desired x.field-0-is x.ensures.back in
    let bag = subst (λ (n : Shared). bag_of e.new.desk ≡ without_handle Owner n.block n.place (bag_of u)) back e.ensures.bag in
    let j = hands_second u e.new.desk base x.held below (node ∷ []) i bag e.ensures.held in
    let k = hands_first e.new.desk f.new.desk base x.held (node ∷ []) j f.ensures.bag f.ensures.held in
    holds_first f.new.desk base node [] k

pub returns-in-Ok-Differs-clause-latest : goal.returns-in-Ok-Differs-clause-latest
returns-in-Ok-Differs-clause-latest g c base has =
    let d = c.args.desk.now in let m = c.load.new.desk in let u = c.compare_exchange_weak.new.desk in
    let e = c.let_go-in-Ok-Differs in let f = c.let_go-in-Ok-Differs-2 in
    let t = c.in-Ok-load.ensures in let below = c.in-Ok-load.below in let node = c.args.node in let x = c.in-Ok-Differs in
    let h = hands_got d m base below (node ∷ []) has t.bag t.held in
    let i = hands_got m u base x.held (below ∷ node ∷ []) h (differs_bag m u below x.field-0 x.held x.desired x.field-0-is x.ensures.bag)
    (differs_held m u below x.field-0 x.held x.desired x.field-0-is x.ensures.held) in
    let back = differs_back m u below x.field-0 x.held x.desired x.field-0-is x.ensures.back in
    let bag = subst (λ (n : Shared). bag_of e.new.desk ≡ without_handle Owner n.block n.place (bag_of u)) back e.ensures.bag in
    let j = hands_second u e.new.desk base x.held below (node ∷ []) i bag e.ensures.held in
    let k = hands_first e.new.desk f.new.desk base x.held (node ∷ []) j f.ensures.bag f.ensures.held in
    let v = c.let_go-in-Ok-Differs-3 in
    let l = hands_first f.new.desk v.new.desk base node [] k v.ensures.bag v.ensures.held in
    these_both d m v.new.desk base (these_over d m base (node ∷ []) (calls_keep_latest d _ m t.event) has)
    (these_both m u v.new.desk base (these_over m u base (below ∷ node ∷ []) (calls_keep_latest m _ u x.ensures.compared) h)
    (these_both u e.new.desk v.new.desk base (these_after u e.new.desk base (x.held ∷ node ∷ []) e.ensures.latest j)
    (these_both e.new.desk f.new.desk v.new.desk base (these_after e.new.desk f.new.desk base (node ∷ []) f.ensures.latest k)
    (these_after f.new.desk v.new.desk base [] v.ensures.latest l))))

pub returns-in-Ok-Differs-clause-own : goal.returns-in-Ok-Differs-clause-own
returns-in-Ok-Differs-clause-own g c =
    let d = c.args.desk.now in let m = c.load.new.desk in let u = c.compare_exchange_weak.new.desk in
    let e = c.let_go-in-Ok-Differs in let f = c.let_go-in-Ok-Differs-2 in let k = c.let_go-in-Ok-Differs-3 in
    let x = c.in-Ok-Differs in let below = c.in-Ok-load.below in
    missed d m u k.new.desk _ _ _ _ _ _ c.in-Ok-load.ensures.event
    (differs_event m u below x.field-0 _ _ _ x.held x.desired x.field-0-is x.ensures.compared)
    (does_both IsParting u f.new.desk k.new.desk (does_both IsParting u e.new.desk f.new.desk e.ensures.own f.ensures.own) k.ensures.own)

pub returns-in-Ok-Swapped-clause-others : goal.returns-in-Ok-Swapped-clause-others
returns-in-Ok-Swapped-clause-others g c =
    others_both (others_call _ c.in-Ok-load.ensures.keeps)
    (others_both (others_call _ c.in-Ok-Swapped.ensures.keeps)
    (others_both c.let_go.ensures.others c.let_go-in-Ok-Swapped.ensures.others))

pub returns-in-Ok-Swapped-clause-order : goal.returns-in-Ok-Swapped-clause-order
returns-in-Ok-Swapped-clause-order g c =
    order_both (order_event c.args.desk.now c.load.new.desk _ _ c.in-Ok-load.ensures.event tt)
    (order_both (order_event c.load.new.desk c.compare_exchange_weak.new.desk _ _ c.in-Ok-Swapped.ensures.compared tt)
    (order_both c.let_go.ensures.order c.let_go-in-Ok-Swapped.ensures.order))

pub returns-in-Ok-Differs-clause-others : goal.returns-in-Ok-Differs-clause-others
returns-in-Ok-Differs-clause-others g c =
    others_both (others_call _ c.in-Ok-load.ensures.keeps)
    (others_both (others_call _ c.in-Ok-Differs.ensures.keeps)
    (others_both c.let_go-in-Ok-Differs.ensures.others
    (others_both c.let_go-in-Ok-Differs-2.ensures.others c.let_go-in-Ok-Differs-3.ensures.others)))

pub returns-in-Ok-Differs-clause-order : goal.returns-in-Ok-Differs-clause-order
returns-in-Ok-Differs-clause-order g c =
    order_both (order_event c.args.desk.now c.load.new.desk _ _ c.in-Ok-load.ensures.event tt)
    (order_both (order_event c.load.new.desk c.compare_exchange_weak.new.desk _ _ c.in-Ok-Differs.ensures.compared tt)
    (order_both c.let_go-in-Ok-Differs.ensures.order
    (order_both c.let_go-in-Ok-Differs-2.ensures.order c.let_go-in-Ok-Differs-3.ensures.order)))

pub compare_exchange_weak-requires-clause-holds : goal.compare_exchange_weak-requires-clause-holds
compare_exchange_weak-requires-clause-holds g c =
    let d = c.args.desk.now in let m = c.load.new.desk in let t = c.in-Ok-load.ensures in let below = c.in-Ok-load.below in let node = c.args.node in
    let base = c.requires.bag.0 in
    let h = hands_got d m base below (node ∷ []) c.requires.bag.1 t.bag t.held in
    (holds_second m base below node [] h, holds_first m base below (node ∷ []) h)

pub let_go-requires-clause-carries : goal.let_go-requires-clause-carries
let_go-requires-clause-carries g c =
    carries_call (carries_call c.requires.carries c.in-Ok-load.ensures.keeps) c.in-Ok-Swapped.ensures.keeps

pub let_go-requires-clause-holds : goal.let_go-requires-clause-holds
let_go-requires-clause-holds g c =
    let d = c.args.desk.now in let m = c.load.new.desk in let u = c.compare_exchange_weak.new.desk in
    let t = c.in-Ok-load.ensures in let below = c.in-Ok-load.below in let node = c.args.node in let x = c.in-Ok-Swapped in
    let base = c.requires.bag.0 in
    let h = hands_got d m base below (node ∷ []) c.requires.bag.1 t.bag t.held in
    holds_first u base x.old (node ∷ []) (hands_given m u base below x.old (node ∷ []) h
    (swapped_bag m u below x.field-0 x.old x.field-0-is x.ensures.bag) (swapped_held m u below x.field-0 x.old x.field-0-is x.ensures.held))

pub let_go-requires-in-Ok-Swapped-clause-carries : goal.let_go-requires-in-Ok-Swapped-clause-carries
let_go-requires-in-Ok-Swapped-clause-carries g c = c.let_go.ensures.carries

pub returns-in-Ok-Swapped-clause-carries : goal.returns-in-Ok-Swapped-clause-carries
returns-in-Ok-Swapped-clause-carries g c = c.let_go-in-Ok-Swapped.ensures.carries

pub returns-in-Ok-Swapped-clause-none : goal.returns-in-Ok-Swapped-clause-none
returns-in-Ok-Swapped-clause-none g c = c.let_go-in-Ok-Swapped.ensures.none

pub returns-in-Ok-Swapped-clause-desk : goal.returns-in-Ok-Swapped-clause-desk
returns-in-Ok-Swapped-clause-desk g c =
    same_then (same_call c.in-Ok-load.ensures.keeps)
    (same_then (same_call c.in-Ok-Swapped.ensures.keeps) (same_then c.let_go.ensures.desk c.let_go-in-Ok-Swapped.ensures.desk))

pub returns-in-Ok-Swapped-clause-held : goal.returns-in-Ok-Swapped-clause-held
returns-in-Ok-Swapped-clause-held g c =
    let x = c.in-Ok-Swapped in
    let one = c.in-Ok-load.ensures.held in
    let two = swapped_held c.load.new.desk c.compare_exchange_weak.new.desk c.in-Ok-load.below x.field-0 x.old x.field-0-is x.ensures.held in
    let three = c.let_go.ensures.held in let four = c.let_go-in-Ok-Swapped.ensures.held in omega arith

pub returns-in-Ok-Swapped-clause-bag : goal.returns-in-Ok-Swapped-clause-bag
returns-in-Ok-Swapped-clause-bag g c base has =
    let d = c.args.desk.now in let m = c.load.new.desk in let u = c.compare_exchange_weak.new.desk in let f = c.let_go.new.desk in
    let t = c.in-Ok-load.ensures in let below = c.in-Ok-load.below in let node = c.args.node in let x = c.in-Ok-Swapped in
    let h = hands_got d m base below (node ∷ []) has t.bag t.held in
    let i = hands_given m u base below x.old (node ∷ []) h (swapped_bag m u below x.field-0 x.old x.field-0-is x.ensures.bag)
    (swapped_held m u below x.field-0 x.old x.field-0-is x.ensures.held) in
    let j = hands_first u f base x.old (node ∷ []) i c.let_go.ensures.bag c.let_go.ensures.held in
    hands_first f c.let_go-in-Ok-Swapped.new.desk base node [] j c.let_go-in-Ok-Swapped.ensures.bag c.let_go-in-Ok-Swapped.ensures.held

pub let_go-requires-in-Ok-Differs-clause-carries : goal.let_go-requires-in-Ok-Differs-clause-carries
let_go-requires-in-Ok-Differs-clause-carries g c =
    carries_call (carries_call c.requires.carries c.in-Ok-load.ensures.keeps) c.in-Ok-Differs.ensures.keeps

pub let_go-requires-in-Ok-Differs-clause-holds : goal.let_go-requires-in-Ok-Differs-clause-holds
let_go-requires-in-Ok-Differs-clause-holds g c =
    let d = c.args.desk.now in let m = c.load.new.desk in let u = c.compare_exchange_weak.new.desk in
    let t = c.in-Ok-load.ensures in let below = c.in-Ok-load.below in let node = c.args.node in let x = c.in-Ok-Differs in
    let base = c.requires.bag.0 in
    let h = hands_got d m base below (node ∷ []) c.requires.bag.1 t.bag t.held in
    let i = hands_got m u base x.held (below ∷ node ∷ []) h (differs_bag m u below x.field-0 x.held x.desired x.field-0-is x.ensures.bag)
    (differs_held m u below x.field-0 x.held x.desired x.field-0-is x.ensures.held) in
    subst (λ (n : Shared). HoldsHandle u Owner n.block n.place) (sym (differs_back m u below x.field-0 x.held x.desired x.field-0-is x.ensures.back))
    (holds_second u base x.held below (node ∷ []) i)

pub let_go-requires-in-Ok-Differs-2-clause-carries : goal.let_go-requires-in-Ok-Differs-2-clause-carries
let_go-requires-in-Ok-Differs-2-clause-carries g c = c.let_go-in-Ok-Differs.ensures.carries

pub let_go-requires-in-Ok-Differs-2-clause-holds : goal.let_go-requires-in-Ok-Differs-2-clause-holds
let_go-requires-in-Ok-Differs-2-clause-holds g c =
    let d = c.args.desk.now in let m = c.load.new.desk in let u = c.compare_exchange_weak.new.desk in let e = c.let_go-in-Ok-Differs in
    let t = c.in-Ok-load.ensures in let below = c.in-Ok-load.below in let node = c.args.node in let x = c.in-Ok-Differs in
    let base = c.requires.bag.0 in
    let h = hands_got d m base below (node ∷ []) c.requires.bag.1 t.bag t.held in
    let i = hands_got m u base x.held (below ∷ node ∷ []) h (differs_bag m u below x.field-0 x.held x.desired x.field-0-is x.ensures.bag)
    (differs_held m u below x.field-0 x.held x.desired x.field-0-is x.ensures.held) in
    let back = differs_back m u below x.field-0 x.held x.desired x.field-0-is x.ensures.back in
    let bag = subst (λ (n : Shared). bag_of e.new.desk ≡ without_handle Owner n.block n.place (bag_of u)) back e.ensures.bag in
    holds_first e.new.desk base x.held (node ∷ []) (hands_second u e.new.desk base x.held below (node ∷ []) i bag e.ensures.held)

pub let_go-requires-in-Ok-Differs-3-clause-carries : goal.let_go-requires-in-Ok-Differs-3-clause-carries
let_go-requires-in-Ok-Differs-3-clause-carries g c = c.let_go-in-Ok-Differs-2.ensures.carries

pub returns-in-Ok-Differs-clause-carries : goal.returns-in-Ok-Differs-clause-carries
returns-in-Ok-Differs-clause-carries g c = c.let_go-in-Ok-Differs-3.ensures.carries

pub returns-in-Ok-Differs-clause-none : goal.returns-in-Ok-Differs-clause-none
returns-in-Ok-Differs-clause-none g c = c.let_go-in-Ok-Differs-3.ensures.none

pub returns-in-Ok-Differs-clause-desk : goal.returns-in-Ok-Differs-clause-desk
returns-in-Ok-Differs-clause-desk g c =
    same_then (same_call c.in-Ok-load.ensures.keeps)
    (same_then (same_call c.in-Ok-Differs.ensures.keeps)
    (same_then c.let_go-in-Ok-Differs.ensures.desk (same_then c.let_go-in-Ok-Differs-2.ensures.desk c.let_go-in-Ok-Differs-3.ensures.desk)))

pub returns-in-Ok-Differs-clause-held : goal.returns-in-Ok-Differs-clause-held
returns-in-Ok-Differs-clause-held g c =
    let x = c.in-Ok-Differs in
    let one = c.in-Ok-load.ensures.held in
    let two = differs_held c.load.new.desk c.compare_exchange_weak.new.desk c.in-Ok-load.below x.field-0 x.held x.desired x.field-0-is x.ensures.held in
    let three = c.let_go-in-Ok-Differs.ensures.held in let four = c.let_go-in-Ok-Differs-2.ensures.held in
    let five = c.let_go-in-Ok-Differs-3.ensures.held in omega arith

pub returns-in-Ok-Differs-clause-bag : goal.returns-in-Ok-Differs-clause-bag
returns-in-Ok-Differs-clause-bag g c base has =
    let d = c.args.desk.now in let m = c.load.new.desk in let u = c.compare_exchange_weak.new.desk in
    let e = c.let_go-in-Ok-Differs in let f = c.let_go-in-Ok-Differs-2 in let v = c.let_go-in-Ok-Differs-3 in
    let t = c.in-Ok-load.ensures in let below = c.in-Ok-load.below in let node = c.args.node in let x = c.in-Ok-Differs in
    let h = hands_got d m base below (node ∷ []) has t.bag t.held in
    let i = hands_got m u base x.held (below ∷ node ∷ []) h (differs_bag m u below x.field-0 x.held x.desired x.field-0-is x.ensures.bag)
    (differs_held m u below x.field-0 x.held x.desired x.field-0-is x.ensures.held) in
    let back = differs_back m u below x.field-0 x.held x.desired x.field-0-is x.ensures.back in
    let bag = subst (λ (n : Shared). bag_of e.new.desk ≡ without_handle Owner n.block n.place (bag_of u)) back e.ensures.bag in
    let j = hands_second u e.new.desk base x.held below (node ∷ []) i bag e.ensures.held in
    let k = hands_first e.new.desk f.new.desk base x.held (node ∷ []) j f.ensures.bag f.ensures.held in
    hands_first f.new.desk v.new.desk base node [] k v.ensures.bag v.ensures.held

pub load-requires-clause-cell : goal.load-requires-clause-cell
load-requires-clause-cell g c =
    let b = c.requires.bag in let node = c.args.node in
    open_now c.args.desk.now c.args.desk.now.shape (stacked (node ∷ []) b.0) [] c.in-Ok.member.site refl
    (hands_below c.args.desk.now b.0 node b.1) (open_next b.0 node c.in-Ok.member c.args.desk.now.shape c.in-Ok.ensures)

pub unreachable-requires : goal.unreachable-requires
unreachable-requires g c =
    let node = c.args.node in no_member _ node.block node.place c.member.result c.member.ensures c.in_default.not-Ok c.requires.node

pub unreachable-requires-in_default-load : goal.unreachable-requires-in_default-load
unreachable-requires-in_default-load g c =
    let room = c.requires.room in granted c.args.desk.now c.load.result c.load.ensures.limit (omega arith) c.in_default-load.not-Ok

pub unreachable-requires-in-Err : goal.unreachable-requires-in-Err
unreachable-requires-in-Err g c =
    let room = c.requires.room in let held = c.in-Ok-load.ensures.held in let same = c.in-Ok-load.ensures.keeps.allowance in
    unrefused c.load.new.desk c.compare_exchange_weak.result _ c.compare_exchange_weak.ensures.limit (omega arith) c.in-Err.is
