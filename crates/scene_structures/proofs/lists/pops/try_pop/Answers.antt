use Rattle.std.proofs.Common.{◌≡◌, ◌<◌, true, false, [], ◌∷◌, sym, ap, ◌∙◌, subst, arith}
use Rattle.scene_structures.proofs.Prelude.{AddsEvent, bag_of, calls_keep_latest, Cell, Compare}
use Rattle.scene_structures.proofs.Prelude.{does_both, Free, handle_in, HoldsHandle, IsOpenSite}
use Rattle.scene_structures.proofs.Prelude.{IsParting, latest_of, Load, node_in, NumberedHandle}
use Rattle.scene_structures.proofs.Prelude.{Owner, Shape, Shared, shared_cell, without_handle}
use Rattle.scene_structures.proofs.Hands.{first_lists, hands_first, hands_given, hands_got}
use Rattle.scene_structures.proofs.Hands.{hands_second, holds_second, second_lists, holds_first}
use Rattle.scene_structures.proofs.Looks.{finds_none, looks_again, no_member, owner_within, takes}
use Rattle.scene_structures.proofs.Pushes.{differs_back, differs_bag, differs_event, differs_held}
use Rattle.scene_structures.proofs.Pushes.{same_left, same_node, swapped_bag, swapped_event}
use Rattle.scene_structures.proofs.Pushes.{swapped_held}
use Rattle.scene_structures.proofs.Others.{others_both, others_call}
use Rattle.scene_structures.proofs.Kept.{same_call, same_then, carries_call, granted, unrefused}
use Rattle.scene_structures.proofs.Kept.{open_held}
use Rattle.scene_structures.proofs.Orders.{order_both, order_event}
use Rattle.scene_structures.proofs.lists.pops.try_pop.Goals as goal

pub returns-in_default-clause-own : goal.returns-in_default-clause-own
returns-in_default-clause-own g c d l =
    finds_none d c.args.desk.now c.let_go.new.desk (Free c.args.cell) c.args.top l
    (no_member _ c.args.top.block c.args.top.place c.member.result c.member.ensures c.in_default.not-Ok) c.let_go.ensures.own

pub let_go-requires-in-Ok-Differs-2-clause-holds : goal.let_go-requires-in-Ok-Differs-2-clause-holds
let_go-requires-in-Ok-Differs-2-clause-holds g c =
    let x = c.in-Ok-Differs in let b = c.in-Ok-load.below in let d = c.args.desk.now in let m = c.load.new.desk in let u = c.compare_exchange_weak.new.desk in
    let e = c.let_go-in-Ok-Differs in let base = c.requires.bag.0 in let top = c.args.top in
    let h = hands_got d m base b (top ∷ []) c.requires.bag.1 c.in-Ok-load.ensures.bag c.in-Ok-load.ensures.held in
    let i = hands_got m u base x.held (b ∷ top ∷ []) h (differs_bag m u b x.field-0 x.held x.desired x.field-0-is x.ensures.bag)
    (differs_held m u b x.field-0 x.held x.desired x.field-0-is x.ensures.held) in
    let back = differs_back m u b x.field-0 x.held x.desired x.field-0-is x.ensures.back in
    let bag = subst (λ (n : Shared). bag_of e.new.desk ≡ without_handle Owner n.block n.place (bag_of u)) back e.ensures.bag in
    holds_second e.new.desk base x.held top [] (hands_second u e.new.desk base x.held b (top ∷ []) i bag e.ensures.held)

pub returns-in-Ok-Differs-clause-bag : goal.returns-in-Ok-Differs-clause-bag
returns-in-Ok-Differs-clause-bag g c base has =
    let x = c.in-Ok-Differs in let b = c.in-Ok-load.below in let d = c.args.desk.now in let m = c.load.new.desk in let u = c.compare_exchange_weak.new.desk in
    let e = c.let_go-in-Ok-Differs in let f = c.let_go-in-Ok-Differs-2 in let top = c.args.top in
    let h = hands_got d m base b (top ∷ []) has c.in-Ok-load.ensures.bag c.in-Ok-load.ensures.held in
    let i = hands_got m u base x.held (b ∷ top ∷ []) h (differs_bag m u b x.field-0 x.held x.desired x.field-0-is x.ensures.bag)
    (differs_held m u b x.field-0 x.held x.desired x.field-0-is x.ensures.held) in
    let back = differs_back m u b x.field-0 x.held x.desired x.field-0-is x.ensures.back in
    let bag = subst (λ (n : Shared). bag_of e.new.desk ≡ without_handle Owner n.block n.place (bag_of u)) back e.ensures.bag in
    hands_second e.new.desk f.new.desk base x.held top [] (hands_second u e.new.desk base x.held b (top ∷ []) i bag e.ensures.held)
    f.ensures.bag f.ensures.held

pub returns-in-Ok-Differs-clause-own : goal.returns-in-Ok-Differs-clause-own
returns-in-Ok-Differs-clause-own g c z l =
    let x = c.in-Ok-Differs in let b = c.in-Ok-load.below in let d = c.args.desk.now in let m = c.load.new.desk in let u = c.compare_exchange_weak.new.desk in
    let e = c.let_go-in-Ok-Differs in let f = c.let_go-in-Ok-Differs-2 in let base = c.requires.bag.0 in let top = c.args.top in
    let h = hands_got d m base b (top ∷ []) c.requires.bag.1 c.in-Ok-load.ensures.bag c.in-Ok-load.ensures.held in
    let i = hands_got m u base x.held (b ∷ top ∷ []) h (differs_bag m u b x.field-0 x.held x.desired x.field-0-is x.ensures.bag)
    (differs_held m u b x.field-0 x.held x.desired x.field-0-is x.ensures.held) in
    let at = subst (λ (k : Cell). AddsEvent m (Compare k (node_in m top) (node_in m b) (node_in u x.held) false true) u) (ap (shared_cell m) c.free-at.ensures)
    (differs_event m u b x.field-0 _ _ _ x.held x.desired x.field-0-is x.ensures.compared) in
    looks_again z d m u f.new.desk (Free c.args.cell) top x.held _ _ _ _ true l c.in-Ok-load.ensures.event at (first_lists u base x.held (b ∷ top ∷ []) i)
    (does_both IsParting u e.new.desk f.new.desk e.ensures.own f.ensures.own)

pub returns-in-Ok-Swapped-clause-own : goal.returns-in-Ok-Swapped-clause-own
returns-in-Ok-Swapped-clause-own g c z l =
    let x = c.in-Ok-Swapped in let b = c.in-Ok-load.below in let d = c.args.desk.now in let m = c.load.new.desk in let u = c.compare_exchange_weak.new.desk in
    let f = c.let_go-in-Ok-Swapped in let base = c.requires.bag.0 in let top = c.args.top in let k = c.in-Ok.ensures in
    let q = k.0 in let o = latest_of d q.block.0 in
    let h = hands_got d m base b (top ∷ []) c.requires.bag.1 c.in-Ok-load.ensures.bag c.in-Ok-load.ensures.held in
    let i = hands_given m u base b x.old (top ∷ []) h (swapped_bag m u b x.field-0 x.old x.field-0-is x.ensures.bag)
    (swapped_held m u b x.field-0 x.old x.field-0-is x.ensures.held) in
    let j = hands_first u f.new.desk base x.old (top ∷ []) i f.ensures.bag f.ensures.held in
    let old = handle_in u Owner x.old.block x.old.place in
    let one = same_node d m top (calls_keep_latest d _ m c.in-Ok-load.ensures.event) (first_lists d base top [] c.requires.bag.1) in
    let here = one ∙ owner_within d top q k.1 k.2 in
    let loads = subst (λ (y : Cell). AddsEvent d (Load y (node_in m b)) m) (ap (shared_cell d) k.3) c.in-Ok-load.ensures.event in
    let at = subst (λ (y : Cell). AddsEvent m (Compare y (node_in m top) (node_in m b) old true true) u) (ap (shared_cell m) c.free-at.ensures)
    (swapped_event m u b x.field-0 _ _ _ x.old x.field-0-is x.ensures.compared) in
    let swaps = subst (λ (y : NumberedHandle). AddsEvent m (Compare (Free c.args.cell) y (node_in m b) old true true) u) here at in
    let two = same_node m u top (calls_keep_latest m _ u at) (second_lists m base b top [] h) in
    let three = same_left u f.new.desk top f.ensures.latest (first_lists f.new.desk base top [] j) in
    record {
      object = o;
      place = q;
      node = three ∙ (two ∙ here);
      takes = takes z d m u f.new.desk (Free c.args.cell) top o q (node_in m b) old true l loads swaps f.ensures.own;
    }

pub returns-in-Ok-Swapped-clause-others : goal.returns-in-Ok-Swapped-clause-others
returns-in-Ok-Swapped-clause-others g c =
    others_both (others_call _ c.in-Ok-load.ensures.keeps)
    (others_both (others_call _ c.in-Ok-Swapped.ensures.keeps) c.let_go-in-Ok-Swapped.ensures.others)

pub returns-in-Ok-Swapped-clause-order : goal.returns-in-Ok-Swapped-clause-order
returns-in-Ok-Swapped-clause-order g c =
    order_both (order_event c.args.desk.now c.load.new.desk _ _ c.in-Ok-load.ensures.event tt)
    (order_both (order_event c.load.new.desk c.compare_exchange_weak.new.desk _ _ c.in-Ok-Swapped.ensures.compared tt) c.let_go-in-Ok-Swapped.ensures.order)

pub returns-in-Ok-Differs-clause-others : goal.returns-in-Ok-Differs-clause-others
returns-in-Ok-Differs-clause-others g c =
    others_both (others_call _ c.in-Ok-load.ensures.keeps)
    (others_both (others_call _ c.in-Ok-Differs.ensures.keeps)
    (others_both c.let_go-in-Ok-Differs.ensures.others c.let_go-in-Ok-Differs-2.ensures.others))

pub returns-in-Ok-Differs-clause-order : goal.returns-in-Ok-Differs-clause-order
returns-in-Ok-Differs-clause-order g c =
    order_both (order_event c.args.desk.now c.load.new.desk _ _ c.in-Ok-load.ensures.event tt)
    (order_both (order_event c.load.new.desk c.compare_exchange_weak.new.desk _ _ c.in-Ok-Differs.ensures.compared tt)
    (order_both c.let_go-in-Ok-Differs.ensures.order c.let_go-in-Ok-Differs-2.ensures.order))

pub load-requires-clause-cell : goal.load-requires-clause-cell
load-requires-clause-cell g c =
    let base = c.requires.bag in
    open_held c.args.desk.now c.args.top c.in-Ok.next _ c.in-Ok.ensures (holds_first c.args.desk.now base.0 c.args.top [] base.1)

pub let_go-requires-clause-holds : goal.let_go-requires-clause-holds
let_go-requires-clause-holds g c = holds_first c.args.desk.now c.requires.bag.0 c.args.top [] c.requires.bag.1

pub compare_exchange_weak-requires-clause-cell : goal.compare_exchange_weak-requires-clause-cell
compare_exchange_weak-requires-clause-cell g c =
    subst (IsOpenSite c.load.new.desk) (sym c.free-at.ensures)
    (subst (λ (z : Shape). c.args.cell < z.shared_cells) (sym c.in-Ok-load.ensures.keeps.shape) c.requires.cell)

pub compare_exchange_weak-requires-clause-holds : goal.compare_exchange_weak-requires-clause-holds
compare_exchange_weak-requires-clause-holds g c =
    let d = c.args.desk.now in let m = c.load.new.desk in let t = c.in-Ok-load.ensures in let b = c.in-Ok-load.below in let top = c.args.top in
    let base = c.requires.bag.0 in let h = hands_got d m base b (top ∷ []) c.requires.bag.1 t.bag t.held in
    (holds_second m base b top [] h, holds_first m base b (top ∷ []) h)

pub let_go-requires-in-Ok-Swapped-clause-carries : goal.let_go-requires-in-Ok-Swapped-clause-carries
let_go-requires-in-Ok-Swapped-clause-carries g c =
    carries_call (carries_call c.requires.carries c.in-Ok-load.ensures.keeps) c.in-Ok-Swapped.ensures.keeps

pub let_go-requires-in-Ok-Swapped-clause-holds : goal.let_go-requires-in-Ok-Swapped-clause-holds
let_go-requires-in-Ok-Swapped-clause-holds g c =
    let d = c.args.desk.now in let m = c.load.new.desk in let t = c.in-Ok-load.ensures in let b = c.in-Ok-load.below in let top = c.args.top in
    let u = c.compare_exchange_weak.new.desk in let x = c.in-Ok-Swapped in let base = c.requires.bag.0 in
    let h = hands_got d m base b (top ∷ []) c.requires.bag.1 t.bag t.held in
    holds_first u base x.old (top ∷ []) (hands_given m u base b x.old (top ∷ []) h (swapped_bag m u b x.field-0 x.old x.field-0-is x.ensures.bag)
    (swapped_held m u b x.field-0 x.old x.field-0-is x.ensures.held))

pub let_go-requires-in-Ok-Differs-clause-carries : goal.let_go-requires-in-Ok-Differs-clause-carries
let_go-requires-in-Ok-Differs-clause-carries g c =
    carries_call (carries_call c.requires.carries c.in-Ok-load.ensures.keeps) c.in-Ok-Differs.ensures.keeps

pub let_go-requires-in-Ok-Differs-clause-holds : goal.let_go-requires-in-Ok-Differs-clause-holds
let_go-requires-in-Ok-Differs-clause-holds g c =
    let d = c.args.desk.now in let m = c.load.new.desk in let t = c.in-Ok-load.ensures in let b = c.in-Ok-load.below in let top = c.args.top in
    let u = c.compare_exchange_weak.new.desk in let x = c.in-Ok-Differs in let base = c.requires.bag.0 in
    let h = hands_got d m base b (top ∷ []) c.requires.bag.1 t.bag t.held in
    let i = hands_got m u base x.held (b ∷ top ∷ []) h (differs_bag m u b x.field-0 x.held x.desired x.field-0-is x.ensures.bag)
    (differs_held m u b x.field-0 x.held x.desired x.field-0-is x.ensures.held) in
    subst (λ (n : Shared). HoldsHandle u Owner n.block n.place) (sym (differs_back m u b x.field-0 x.held x.desired x.field-0-is x.ensures.back))
    (holds_second u base x.held b (top ∷ []) i)

pub let_go-requires-in-Ok-Differs-2-clause-carries : goal.let_go-requires-in-Ok-Differs-2-clause-carries
let_go-requires-in-Ok-Differs-2-clause-carries g c = c.let_go-in-Ok-Differs.ensures.carries

pub returns-in_default-clause-bag : goal.returns-in_default-clause-bag
returns-in_default-clause-bag g c base has =
    hands_first c.args.desk.now c.let_go.new.desk base c.args.top [] has c.let_go.ensures.bag c.let_go.ensures.held

pub returns-in-Ok-Swapped-clause-carries : goal.returns-in-Ok-Swapped-clause-carries
returns-in-Ok-Swapped-clause-carries g c = c.let_go-in-Ok-Swapped.ensures.carries

pub returns-in-Ok-Swapped-clause-none : goal.returns-in-Ok-Swapped-clause-none
returns-in-Ok-Swapped-clause-none g c = c.let_go-in-Ok-Swapped.ensures.none

pub returns-in-Ok-Swapped-clause-desk : goal.returns-in-Ok-Swapped-clause-desk
returns-in-Ok-Swapped-clause-desk g c =
    same_then (same_call c.in-Ok-load.ensures.keeps) (same_then (same_call c.in-Ok-Swapped.ensures.keeps) c.let_go-in-Ok-Swapped.ensures.desk)

pub returns-in-Ok-Swapped-clause-held : goal.returns-in-Ok-Swapped-clause-held
returns-in-Ok-Swapped-clause-held g c =
    let x = c.in-Ok-Swapped in let m = c.load.new.desk in let u = c.compare_exchange_weak.new.desk in
    let one = c.in-Ok-load.ensures.held in let two = swapped_held m u c.in-Ok-load.below x.field-0 x.old x.field-0-is x.ensures.held in
    let three = c.let_go-in-Ok-Swapped.ensures.held in omega arith

pub returns-in-Ok-Swapped-clause-bag : goal.returns-in-Ok-Swapped-clause-bag
returns-in-Ok-Swapped-clause-bag g c base has =
    let d = c.args.desk.now in let m = c.load.new.desk in let t = c.in-Ok-load.ensures in let b = c.in-Ok-load.below in let top = c.args.top in
    let u = c.compare_exchange_weak.new.desk in let x = c.in-Ok-Swapped in let f = c.let_go-in-Ok-Swapped in
    let h = hands_got d m base b (top ∷ []) has t.bag t.held in
    let i = hands_given m u base b x.old (top ∷ []) h (swapped_bag m u b x.field-0 x.old x.field-0-is x.ensures.bag)
    (swapped_held m u b x.field-0 x.old x.field-0-is x.ensures.held) in
    hands_first u f.new.desk base x.old (top ∷ []) i f.ensures.bag f.ensures.held

pub returns-in-Ok-Differs-clause-carries : goal.returns-in-Ok-Differs-clause-carries
returns-in-Ok-Differs-clause-carries g c = c.let_go-in-Ok-Differs-2.ensures.carries

pub returns-in-Ok-Differs-clause-none : goal.returns-in-Ok-Differs-clause-none
returns-in-Ok-Differs-clause-none g c = c.let_go-in-Ok-Differs-2.ensures.none

pub returns-in-Ok-Differs-clause-desk : goal.returns-in-Ok-Differs-clause-desk
returns-in-Ok-Differs-clause-desk g c =
    same_then (same_call c.in-Ok-load.ensures.keeps)
    (same_then (same_call c.in-Ok-Differs.ensures.keeps) (same_then c.let_go-in-Ok-Differs.ensures.desk c.let_go-in-Ok-Differs-2.ensures.desk))

pub returns-in-Ok-Differs-clause-held : goal.returns-in-Ok-Differs-clause-held
returns-in-Ok-Differs-clause-held g c =
    let x = c.in-Ok-Differs in let m = c.load.new.desk in let u = c.compare_exchange_weak.new.desk in
    let one = c.in-Ok-load.ensures.held in let two = differs_held m u c.in-Ok-load.below x.field-0 x.held x.desired x.field-0-is x.ensures.held in
    let three = c.let_go-in-Ok-Differs.ensures.held in let four = c.let_go-in-Ok-Differs-2.ensures.held in omega arith

pub unreachable-requires : goal.unreachable-requires
unreachable-requires g c =
    let room = c.requires.room in granted c.args.desk.now c.load.result c.load.ensures.limit (omega arith) c.in_default-load.not-Ok

pub unreachable-requires-in-Err : goal.unreachable-requires-in-Err
unreachable-requires-in-Err g c =
    let room = c.requires.room in let held = c.in-Ok-load.ensures.held in let same = c.in-Ok-load.ensures.keeps.allowance in
    unrefused c.load.new.desk c.compare_exchange_weak.result _ c.compare_exchange_weak.ensures.limit (omega arith) c.in-Err.is
