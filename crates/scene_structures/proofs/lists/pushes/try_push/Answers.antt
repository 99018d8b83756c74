use Rattle.std.proofs.Common.{true, [], ◌∷◌, sym, ◌∙◌, subst, arith}
use Rattle.scene_structures.proofs.Prelude.{AddsEvent, calls_keep_latest, carries_kept, Cell}
use Rattle.scene_structures.proofs.Prelude.{Compare, does_both, Fills, handle_in, HasHands}
use Rattle.scene_structures.proofs.Prelude.{IsParting, NextOf, node_in, NumberedHandle, object_of}
use Rattle.scene_structures.proofs.Prelude.{Owner, Shared, shared_cell}
use Rattle.scene_structures.proofs.Hands.{first_lists, hands_copied, hands_first, hands_got}
use Rattle.scene_structures.proofs.Hands.{hands_second, hands_swapped, holds_first, holds_second}
use Rattle.scene_structures.proofs.Hands.{holds_third, second_lists}
use Rattle.scene_structures.proofs.Pushes.{differs_back, differs_bag, differs_event, differs_held}
use Rattle.scene_structures.proofs.Pushes.{rises, swapped_bag, swapped_event, swapped_held}
use Rattle.scene_structures.proofs.Pushes.{same_left, same_node, shares_does, tries}
use Rattle.scene_structures.proofs.Sites.{cell_these, open_now, these_after, these_both}
use Rattle.scene_structures.proofs.Sites.{these_over}
use Rattle.scene_structures.proofs.Others.{others_both, others_call}
use Rattle.scene_structures.proofs.Kept.{same_call, same_then, granted, unrefused}
use Rattle.scene_structures.proofs.Orders.{order_both, order_event, order_shares}
use Rattle.scene_structures.proofs.lists.pushes.try_push.Goals as goal

pub share-requires-clause-holds : goal.share-requires-clause-holds
share-requires-clause-holds g c = let a = c.args.attempt in holds_first c.args.desk.now c.requires.bag.0 a.top (a.node ∷ []) c.requires.bag.1

pub store_next-requires-clause-carries : goal.store_next-requires-clause-carries
store_next-requires-clause-carries g c =
    let k = c.in-Ok.ensures.keeps in
    carries_kept _ c.args.desk.now c.share.new.desk c.args.pile.now c.requires.carries k.domain k.shape k.endings

pub store_next-requires-clause-holds : goal.store_next-requires-clause-holds
store_next-requires-clause-holds g c =
    let a = c.args.attempt in let base = c.requires.bag.0 in let e = c.in-Ok.ensures in let s = c.share.new.desk in
    let h = hands_copied c.args.desk.now s base c.in-Ok.copy a.top (a.top ∷ a.node ∷ []) c.requires.bag.1 e.handle.0 e.handle.1 e.bag e.held in
    (holds_third s base c.in-Ok.copy a.top a.node c.requires.node h, holds_first s base c.in-Ok.copy (a.top ∷ a.node ∷ []) h)

pub compare_exchange_weak-requires-clause-holds : goal.compare_exchange_weak-requires-clause-holds
compare_exchange_weak-requires-clause-holds g c =
    let a = c.args.attempt in let base = c.requires.bag.0 in let e = c.in-Ok.ensures in let s = c.share.new.desk in let t = c.store_next.new.desk in
    let h = hands_copied c.args.desk.now s base c.in-Ok.copy a.top (a.top ∷ a.node ∷ []) c.requires.bag.1 e.handle.0 e.handle.1 e.bag e.held in
    let h' = hands_first s t base c.in-Ok.copy (a.top ∷ a.node ∷ []) h c.store_next.ensures.bag c.store_next.ensures.held in
    (holds_first t base a.top (a.node ∷ []) h', holds_second t base a.top a.node [] h')

pub let_go-requires-clause-carries : goal.let_go-requires-clause-carries
let_go-requires-clause-carries g c =
    let k = c.in-Ok-Swapped.ensures.keeps in
    carries_kept _ c.store_next.new.desk c.compare_exchange_weak.new.desk c.store_next.new.pile c.store_next.ensures.carries k.domain k.shape k.endings

pub let_go-requires-in-Ok-Swapped-clause-holds : goal.let_go-requires-in-Ok-Swapped-clause-holds
let_go-requires-in-Ok-Swapped-clause-holds g c =
    let a = c.args.attempt in let base = c.requires.bag.0 in let e = c.in-Ok.ensures in let s = c.share.new.desk in let t = c.store_next.new.desk in
    let x = c.in-Ok-Swapped in let u = c.compare_exchange_weak.new.desk in let many
    = swapped_held t u a.node x.field-0 x.old x.field-0-is x.ensures.held
    in let bag = swapped_bag t u a.node x.field-0 x.old x.field-0-is x.ensures.bag in
    let h = hands_copied c.args.desk.now s base c.in-Ok.copy a.top (a.top ∷ a.node ∷ []) c.requires.bag.1 e.handle.0 e.handle.1 e.bag e.held in
    let h' = hands_first s t base c.in-Ok.copy (a.top ∷ a.node ∷ []) h c.store_next.ensures.bag c.store_next.ensures.held in
    let i = hands_swapped t u base a.top a.node x.old h' bag many in
    holds_first c.let_go.new.desk base a.top [] (hands_first u c.let_go.new.desk base x.old (a.top ∷ []) i c.let_go.ensures.bag c.let_go.ensures.held)

pub let_go-requires-in-Ok-Differs-clause-carries : goal.let_go-requires-in-Ok-Differs-clause-carries
let_go-requires-in-Ok-Differs-clause-carries g c =
    let k = c.in-Ok-Differs.ensures.keeps in
    carries_kept _ c.store_next.new.desk c.compare_exchange_weak.new.desk c.store_next.new.pile c.store_next.ensures.carries k.domain k.shape k.endings

pub let_go-requires-in-Ok-Differs-clause-holds : goal.let_go-requires-in-Ok-Differs-clause-holds
let_go-requires-in-Ok-Differs-clause-holds g c =
    let a = c.args.attempt in let base = c.requires.bag.0 in let e = c.in-Ok.ensures in let s = c.share.new.desk in let t = c.store_next.new.desk in
    let x = c.in-Ok-Differs in let u = c.compare_exchange_weak.new.desk in
    let h = hands_copied c.args.desk.now s base c.in-Ok.copy a.top (a.top ∷ a.node ∷ []) c.requires.bag.1 e.handle.0 e.handle.1 e.bag e.held in
    let h' = hands_first s t base c.in-Ok.copy (a.top ∷ a.node ∷ []) h c.store_next.ensures.bag c.store_next.ensures.held in
    holds_second u base x.held a.top (a.node ∷ []) (hands_got t u base x.held (a.top ∷ a.node ∷ []) h'
    (differs_bag t u a.node x.field-0 x.held x.desired x.field-0-is x.ensures.bag)
    (differs_held t u a.node x.field-0 x.held x.desired x.field-0-is x.ensures.held))

pub returns-in-Ok-Swapped-clause-bag : goal.returns-in-Ok-Swapped-clause-bag
returns-in-Ok-Swapped-clause-bag g c base has =
    let a = c.args.attempt in let e = c.in-Ok.ensures in let s = c.share.new.desk in let t = c.store_next.new.desk in
    let x = c.in-Ok-Swapped in let u = c.compare_exchange_weak.new.desk in let many
    = swapped_held t u a.node x.field-0 x.old x.field-0-is x.ensures.held
    in let bag = swapped_bag t u a.node x.field-0 x.old x.field-0-is x.ensures.bag in let l = c.let_go-in-Ok-Swapped in
    let h = hands_copied c.args.desk.now s base c.in-Ok.copy a.top (a.top ∷ a.node ∷ []) has e.handle.0 e.handle.1 e.bag e.held in
    let h' = hands_first s t base c.in-Ok.copy (a.top ∷ a.node ∷ []) h c.store_next.ensures.bag c.store_next.ensures.held in
    let i = hands_swapped t u base a.top a.node x.old h' bag many in
    let j = hands_first u c.let_go.new.desk base x.old (a.top ∷ []) i c.let_go.ensures.bag c.let_go.ensures.held in
    hands_first c.let_go.new.desk l.new.desk base a.top [] j l.ensures.bag l.ensures.held

pub returns-in-Ok-Swapped-clause-own : goal.returns-in-Ok-Swapped-clause-own
returns-in-Ok-Swapped-clause-own g c =
    let a = c.args.attempt in let base = c.requires.bag.0 in let e = c.in-Ok.ensures in let d = c.args.desk.now in let s = c.share.new.desk in
    let t = c.store_next.new.desk in
    let x = c.in-Ok-Swapped in let u = c.compare_exchange_weak.new.desk in let l = c.let_go-in-Ok-Swapped in let copy = c.in-Ok.copy in
    let h = hands_copied d s base copy a.top (a.top ∷ a.node ∷ []) c.requires.bag.1 e.handle.0 e.handle.1 e.bag e.held in
    let node = node_in d a.node in
    let shared = shares_does (NextOf (object_of node)) d s a.top.block a.top.place a.top.place e.event in
    let one = same_node d s a.node shared.1 (second_lists d base a.top a.node [] c.requires.bag.1) in
    let two = same_left s t a.node c.store_next.ensures.latest (second_lists t base a.top a.node []
    (hands_first s t base copy (a.top ∷ a.node ∷ []) h c.store_next.ensures.bag c.store_next.ensures.held)) in
    let top = same_left s t a.top c.store_next.ensures.latest (first_lists t base a.top (a.node ∷ [])
    (hands_first s t base copy (a.top ∷ a.node ∷ []) h c.store_next.ensures.bag c.store_next.ensures.held)) in
    let below = node_in s copy in
    let fill = subst (λ (y : NumberedHandle). Fills s (object_of y) below t) one c.store_next.ensures.own in
    let old = handle_in u Owner x.old.block x.old.place in
    let z = d.shape in let site = c.args.at.now.site in let open' = c.requires.bag.2 in
    let h' = hands_first s t base copy (a.top ∷ a.node ∷ []) h c.store_next.ensures.bag c.store_next.ensures.held in
    let cell = cell_these d t z base site (these_both d s t base (these_over d s base (a.top ∷ a.node ∷ []) shared.1 c.requires.bag.1)
    (these_after s t base (a.top ∷ a.node ∷ []) c.store_next.ensures.latest h')) open' in
    let at = subst (λ (k : Cell). AddsEvent t (Compare k (node_in t a.top) (node_in t a.node) old true true) u) cell
    (swapped_event t u a.node x.field-0 _ _ _ x.old x.field-0-is x.ensures.compared) in
    let here = subst (λ (n : NumberedHandle). AddsEvent t (Compare (shared_cell d site) (node_in t a.top) n old true true) u) (two ∙ one) at in
    rises d s t u l.new.desk (shared_cell d site) node below (node_in t a.top) old true shared.0 fill here
    (top ∙ (λ i. handle_in s Owner (sym e.handle.0 i) (sym e.handle.1 i)))
    (does_both IsParting u c.let_go.new.desk l.new.desk c.let_go.ensures.own l.ensures.own)

pub returns-in-Ok-Differs-clause-node : goal.returns-in-Ok-Differs-clause-node
returns-in-Ok-Differs-clause-node g c =
    let a = c.args.attempt in let base = c.requires.bag.0 in let e = c.in-Ok.ensures in let d = c.args.desk.now in let s = c.share.new.desk in
    let t = c.store_next.new.desk in
    let x = c.in-Ok-Differs in let u = c.compare_exchange_weak.new.desk in let l = c.let_go-in-Ok-Differs in let copy = c.in-Ok.copy in
    let h = hands_copied d s base copy a.top (a.top ∷ a.node ∷ []) c.requires.bag.1 e.handle.0 e.handle.1 e.bag e.held in
    let h' = hands_first s t base copy (a.top ∷ a.node ∷ []) h c.store_next.ensures.bag c.store_next.ensures.held in
    let i = hands_got t u base x.held (a.top ∷ a.node ∷ []) h' (differs_bag t u a.node x.field-0 x.held x.desired x.field-0-is x.ensures.bag)
    (differs_held t u a.node x.field-0 x.held x.desired x.field-0-is x.ensures.held) in
    let shared = shares_does (NextOf 0) d s a.top.block a.top.place a.top.place e.event in
    let one = same_node d s a.node shared.1 (second_lists d base a.top a.node [] c.requires.bag.1) in
    let two = same_left s t a.node c.store_next.ensures.latest (second_lists t base a.top a.node []
    (hands_first s t base copy (a.top ∷ a.node ∷ []) h c.store_next.ensures.bag c.store_next.ensures.held)) in
    let three = same_node t u a.node (calls_keep_latest t _ u (differs_event t u a.node x.field-0 _ _ _ x.held x.desired x.field-0-is
    x.ensures.compared)) (second_lists t base a.top a.node [] h') in
    let four = same_left u l.new.desk a.node l.ensures.latest (second_lists l.new.desk base x.held a.node []
    (hands_second u l.new.desk base x.held a.top (a.node ∷ []) i l.ensures.bag l.ensures.held)) in
    (differs_back t u a.node x.field-0 x.held x.desired x.field-0-is x.ensures.back, four ∙ (three ∙ (two ∙ one)))

pub returns-in-Ok-Differs-clause-bag : goal.returns-in-Ok-Differs-clause-bag
returns-in-Ok-Differs-clause-bag g c base has =
    let a = c.args.attempt in let e = c.in-Ok.ensures in let s = c.share.new.desk in let t = c.store_next.new.desk in
    let x = c.in-Ok-Differs in let u = c.compare_exchange_weak.new.desk in let l = c.let_go-in-Ok-Differs in
    let h = hands_copied c.args.desk.now s base c.in-Ok.copy a.top (a.top ∷ a.node ∷ []) has e.handle.0 e.handle.1 e.bag e.held in
    let h' = hands_first s t base c.in-Ok.copy (a.top ∷ a.node ∷ []) h c.store_next.ensures.bag c.store_next.ensures.held in
    let i = hands_got t u base x.held (a.top ∷ a.node ∷ []) h' (differs_bag t u a.node x.field-0 x.held x.desired x.field-0-is x.ensures.bag)
    (differs_held t u a.node x.field-0 x.held x.desired x.field-0-is x.ensures.held) in
    subst (λ (n : Shared). HasHands base (x.held ∷ n ∷ []) l.new.desk)
    (sym (differs_back t u a.node x.field-0 x.held x.desired x.field-0-is x.ensures.back))
    (hands_second u l.new.desk base x.held a.top (a.node ∷ []) i l.ensures.bag l.ensures.held)

pub returns-in-Ok-Differs-clause-own : goal.returns-in-Ok-Differs-clause-own
returns-in-Ok-Differs-clause-own g c =
    let a = c.args.attempt in let base = c.requires.bag.0 in let e = c.in-Ok.ensures in let d = c.args.desk.now in let s = c.share.new.desk in
    let t = c.store_next.new.desk in
    let x = c.in-Ok-Differs in let u = c.compare_exchange_weak.new.desk in let l = c.let_go-in-Ok-Differs in let copy = c.in-Ok.copy in
    let shared = shares_does (NextOf (object_of (node_in d a.node))) d s a.top.block a.top.place a.top.place e.event in
    let one = same_node d s a.node shared.1 (second_lists d base a.top a.node [] c.requires.bag.1) in
    let fill = subst (λ (y : NumberedHandle). Fills s (object_of y) (node_in s copy) t) one c.store_next.ensures.own in
    tries d s t u l.new.desk _ (object_of (node_in d a.node)) _ _ _ _ true shared.0 fill
    (differs_event t u a.node x.field-0 _ _ _ x.held x.desired x.field-0-is x.ensures.compared) l.ensures.own

pub compare_exchange_weak-requires-clause-cell : goal.compare_exchange_weak-requires-clause-cell
compare_exchange_weak-requires-clause-cell g c =
    let a = c.args.attempt in let base = c.requires.bag.0 in let e = c.in-Ok.ensures in let s = c.share.new.desk in let t = c.store_next.new.desk in
    let h = hands_copied c.args.desk.now s base c.in-Ok.copy a.top (a.top ∷ a.node ∷ []) c.requires.bag.1 e.handle.0 e.handle.1 e.bag e.held in
    let h' = hands_first s t base c.in-Ok.copy (a.top ∷ a.node ∷ []) h c.store_next.ensures.bag c.store_next.ensures.held in
    open_now t c.args.desk.now.shape base (a.top ∷ a.node ∷ []) c.args.at.now.site (c.store_next.ensures.desk.shape ∙ e.keeps.shape) h' c.requires.bag.2

pub returns-in-Ok-Differs-clause-latest : goal.returns-in-Ok-Differs-clause-latest
returns-in-Ok-Differs-clause-latest g c base has =
    let a = c.args.attempt in let e = c.in-Ok.ensures in let d = c.args.desk.now in let s = c.share.new.desk in let t = c.store_next.new.desk in
    let x = c.in-Ok-Differs in let u = c.compare_exchange_weak.new.desk in let l = c.let_go-in-Ok-Differs in let copy = c.in-Ok.copy in
    let h = hands_copied d s base copy a.top (a.top ∷ a.node ∷ []) has e.handle.0 e.handle.1 e.bag e.held in
    let h' = hands_first s t base copy (a.top ∷ a.node ∷ []) h c.store_next.ensures.bag c.store_next.ensures.held in
    let i = hands_got t u base x.held (a.top ∷ a.node ∷ []) h' (differs_bag t u a.node x.field-0 x.held x.desired x.field-0-is x.ensures.bag)
    (differs_held t u a.node x.field-0 x.held x.desired x.field-0-is x.ensures.held) in
    let j = hands_second u l.new.desk base x.held a.top (a.node ∷ []) i l.ensures.bag l.ensures.held in
    let shared = shares_does (NextOf 0) d s a.top.block a.top.place a.top.place e.event in
    these_both d t l.new.desk base (these_both d s t base (these_over d s base (a.top ∷ a.node ∷ []) shared.1 has)
    (these_after s t base (a.top ∷ a.node ∷ []) c.store_next.ensures.latest h'))
    (these_both t u l.new.desk base (these_over t u base (a.top ∷ a.node ∷ [])
    (calls_keep_latest t _ u (differs_event t u a.node x.field-0 _ _ _ x.held x.desired x.field-0-is x.ensures.compared)) h')
    (these_after u l.new.desk base (x.held ∷ a.node ∷ []) l.ensures.latest j))

pub returns-in-Ok-Swapped-clause-latest : goal.returns-in-Ok-Swapped-clause-latest
returns-in-Ok-Swapped-clause-latest g c base has =
    let a = c.args.attempt in let e = c.in-Ok.ensures in let d = c.args.desk.now in let s = c.share.new.desk in let t = c.store_next.new.desk in
    let x = c.in-Ok-Swapped in let u = c.compare_exchange_weak.new.desk in let v = c.let_go.new.desk in let l = c.let_go-in-Ok-Swapped in
    let many = swapped_held t u a.node x.field-0 x.old x.field-0-is x.ensures.held in
    let bag = swapped_bag t u a.node x.field-0 x.old x.field-0-is x.ensures.bag in
    let h = hands_copied d s base c.in-Ok.copy a.top (a.top ∷ a.node ∷ []) has e.handle.0 e.handle.1 e.bag e.held in
    let h' = hands_first s t base c.in-Ok.copy (a.top ∷ a.node ∷ []) h c.store_next.ensures.bag c.store_next.ensures.held in
    let i = hands_swapped t u base a.top a.node x.old h' bag many in
    let j = hands_first u v base x.old (a.top ∷ []) i c.let_go.ensures.bag c.let_go.ensures.held in
    let k = hands_first v l.new.desk base a.top [] j l.ensures.bag l.ensures.held in
    let shared = shares_does (NextOf 0) d s a.top.block a.top.place a.top.place e.event in
    these_both d u l.new.desk base (these_both d t u base (these_both d s t base (these_over d s base (a.top ∷ a.node ∷ []) shared.1 has)
    (these_after s t base (a.top ∷ a.node ∷ []) c.store_next.ensures.latest h')) (these_over t u base (a.top ∷ a.node ∷ [])
    (calls_keep_latest t _ u (swapped_event t u a.node x.field-0 _ _ _ x.old x.field-0-is x.ensures.compared)) h'))
    (these_both u v l.new.desk base (these_after u v base (a.top ∷ []) c.let_go.ensures.latest j)
    (these_after v l.new.desk base [] l.ensures.latest k))

pub returns-in-Ok-Swapped-clause-others : goal.returns-in-Ok-Swapped-clause-others
returns-in-Ok-Swapped-clause-others g c =
    others_both (others_call _ c.in-Ok.ensures.keeps)
    (others_both c.store_next.ensures.others
    (others_both (others_call _ c.in-Ok-Swapped.ensures.keeps)
    (others_both c.let_go.ensures.others c.let_go-in-Ok-Swapped.ensures.others)))

pub returns-in-Ok-Swapped-clause-order : goal.returns-in-Ok-Swapped-clause-order
returns-in-Ok-Swapped-clause-order g c =
    let top = c.args.attempt.top in
    order_both (order_shares c.args.desk.now c.share.new.desk top.block top.place top.place _ c.in-Ok.ensures.event)
    (order_both c.store_next.ensures.order
    (order_both (order_event c.store_next.new.desk c.compare_exchange_weak.new.desk _ _ c.in-Ok-Swapped.ensures.compared tt)
    (order_both c.let_go.ensures.order c.let_go-in-Ok-Swapped.ensures.order)))

pub returns-in-Ok-Differs-clause-others : goal.returns-in-Ok-Differs-clause-others
returns-in-Ok-Differs-clause-others g c =
    others_both (others_call _ c.in-Ok.ensures.keeps)
    (others_both c.store_next.ensures.others
    (others_both (others_call _ c.in-Ok-Differs.ensures.keeps) c.let_go-in-Ok-Differs.ensures.others))

pub returns-in-Ok-Differs-clause-order : goal.returns-in-Ok-Differs-clause-order
returns-in-Ok-Differs-clause-order g c =
    let top = c.args.attempt.top in
    order_both (order_shares c.args.desk.now c.share.new.desk top.block top.place top.place _ c.in-Ok.ensures.event)
    (order_both c.store_next.ensures.order
    (order_both (order_event c.store_next.new.desk c.compare_exchange_weak.new.desk _ _ c.in-Ok-Differs.ensures.compared tt)
    c.let_go-in-Ok-Differs.ensures.order))

pub let_go-requires-clause-holds : goal.let_go-requires-clause-holds
let_go-requires-clause-holds g c =
    let a = c.args.attempt in let base = c.requires.bag.0 in let e = c.in-Ok.ensures in let s = c.share.new.desk in let t = c.store_next.new.desk in
    let x = c.in-Ok-Swapped in let u = c.compare_exchange_weak.new.desk in
    let h = hands_copied c.args.desk.now s base c.in-Ok.copy a.top (a.top ∷ a.node ∷ []) c.requires.bag.1 e.handle.0 e.handle.1 e.bag e.held in
    let h' = hands_first s t base c.in-Ok.copy (a.top ∷ a.node ∷ []) h c.store_next.ensures.bag c.store_next.ensures.held in
    holds_first u base x.old (a.top ∷ []) (hands_swapped t u base a.top a.node x.old h'
    (swapped_bag t u a.node x.field-0 x.old x.field-0-is x.ensures.bag) (swapped_held t u a.node x.field-0 x.old x.field-0-is x.ensures.held))

pub let_go-requires-in-Ok-Swapped-clause-carries : goal.let_go-requires-in-Ok-Swapped-clause-carries
let_go-requires-in-Ok-Swapped-clause-carries g c = c.let_go.ensures.carries

pub returns-in-Ok-Swapped-clause-carries : goal.returns-in-Ok-Swapped-clause-carries
returns-in-Ok-Swapped-clause-carries g c = c.let_go-in-Ok-Swapped.ensures.carries

pub returns-in-Ok-Swapped-clause-none : goal.returns-in-Ok-Swapped-clause-none
returns-in-Ok-Swapped-clause-none g c = c.let_go-in-Ok-Swapped.ensures.none

pub returns-in-Ok-Swapped-clause-desk : goal.returns-in-Ok-Swapped-clause-desk
returns-in-Ok-Swapped-clause-desk g c =
    same_then (same_call c.in-Ok.ensures.keeps)
    (same_then c.store_next.ensures.desk
    (same_then (same_call c.in-Ok-Swapped.ensures.keeps) (same_then c.let_go.ensures.desk c.let_go-in-Ok-Swapped.ensures.desk)))

pub returns-in-Ok-Swapped-clause-held : goal.returns-in-Ok-Swapped-clause-held
returns-in-Ok-Swapped-clause-held g c =
    let x = c.in-Ok-Swapped in
    let one = c.in-Ok.ensures.held in let two = c.store_next.ensures.held in
    let three = swapped_held c.store_next.new.desk c.compare_exchange_weak.new.desk c.args.attempt.node x.field-0 x.old x.field-0-is x.ensures.held in
    let four = c.let_go.ensures.held in let five = c.let_go-in-Ok-Swapped.ensures.held in omega arith

pub returns-in-Ok-Differs-clause-carries : goal.returns-in-Ok-Differs-clause-carries
returns-in-Ok-Differs-clause-carries g c = c.let_go-in-Ok-Differs.ensures.carries

pub returns-in-Ok-Differs-clause-none : goal.returns-in-Ok-Differs-clause-none
returns-in-Ok-Differs-clause-none g c = c.let_go-in-Ok-Differs.ensures.none

pub returns-in-Ok-Differs-clause-desk : goal.returns-in-Ok-Differs-clause-desk
returns-in-Ok-Differs-clause-desk g c =
    same_then (same_call c.in-Ok.ensures.keeps)
    (same_then c.store_next.ensures.desk (same_then (same_call c.in-Ok-Differs.ensures.keeps) c.let_go-in-Ok-Differs.ensures.desk))

pub returns-in-Ok-Differs-clause-held : goal.returns-in-Ok-Differs-clause-held
returns-in-Ok-Differs-clause-held g c =
    let x = c.in-Ok-Differs in
    let one = c.in-Ok.ensures.held in let two = c.store_next.ensures.held in
    let three = differs_held c.store_next.new.desk c.compare_exchange_weak.new.desk c.args.attempt.node x.field-0 x.held x.desired x.field-0-is
    x.ensures.held in
    let four = c.let_go-in-Ok-Differs.ensures.held in omega arith

pub unreachable-requires : goal.unreachable-requires
unreachable-requires g c =
    let room = c.requires.room in granted c.args.desk.now c.share.result c.share.ensures.limit (omega arith) c.in_default.not-Ok

pub unreachable-requires-in-Err : goal.unreachable-requires-in-Err
unreachable-requires-in-Err g c =
    let room = c.requires.room in let one = c.in-Ok.ensures.held in let two = c.store_next.ensures.held in
    let a = c.in-Ok.ensures.keeps.allowance in let b = c.store_next.ensures.desk.allowance in
    unrefused c.store_next.new.desk c.compare_exchange_weak.result _ c.compare_exchange_weak.ensures.limit (omega arith) c.in-Err.is
