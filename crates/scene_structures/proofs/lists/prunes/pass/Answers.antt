use Rattle.std.proofs.Common.{[], ◌∷◌, subst, arith}
use Rattle.scene_structures.proofs.Prelude.{AddsEvent, calls_keep_latest, Cell, does_both}
use Rattle.scene_structures.proofs.Prelude.{IsParting, node_in, shared_cell, Swap}
use Rattle.scene_structures.proofs.Hands.{hands_first, hands_given, hands_got, holds_first}
use Rattle.scene_structures.proofs.Pruned.{passes}
use Rattle.scene_structures.proofs.Sites.{cell_these, open_now, these_after, these_both}
use Rattle.scene_structures.proofs.Sites.{these_over}
use Rattle.scene_structures.proofs.Others.{others_both, others_call}
use Rattle.scene_structures.proofs.Kept.{same_call, same_then, carries_call, granted, open_held}
use Rattle.scene_structures.proofs.Orders.{order_both, order_event}
use Rattle.scene_structures.proofs.lists.prunes.pass.Goals as goal

pub exchange-old-requires-clause-cell : goal.exchange-old-requires-clause-cell
exchange-old-requires-clause-cell g c =
    let d = c.args.desk.now in let m = c.load.new.desk in let t = c.in-Ok-load.ensures in let next = c.in-Ok-load.next in let node = c.args.node in
    let b = c.requires.bag in
    open_now m d.shape b.0 (next ∷ node ∷ []) c.args.at.now.site t.keeps.shape (hands_got d m b.0 next (node ∷ []) b.1 t.bag t.held) b.2

pub returns-clause-bag : goal.returns-clause-bag
returns-clause-bag g c base has =
    let d = c.args.desk.now in let m = c.load.new.desk in let u = c.exchange-old.new.desk in let f = c.let_go.new.desk in let e = c.let_go-2.new.desk in
    let t = c.in-Ok-load.ensures in let next = c.in-Ok-load.next in let old = c.exchange-old.result in let node = c.args.node in
    let x = c.exchange-old.ensures in
    let h = hands_given m u base next old (node ∷ []) (hands_got d m base next (node ∷ []) has t.bag t.held) x.bag x.held in
    hands_first f e base node [] (hands_first u f base old (node ∷ []) h c.let_go.ensures.bag c.let_go.ensures.held) c.let_go-2.ensures.bag
    c.let_go-2.ensures.held

pub returns-clause-latest : goal.returns-clause-latest
returns-clause-latest g c base has =
    let d = c.args.desk.now in let m = c.load.new.desk in let u = c.exchange-old.new.desk in let f = c.let_go.new.desk in let e = c.let_go-2.new.desk in
    let t = c.in-Ok-load.ensures in let next = c.in-Ok-load.next in let old = c.exchange-old.result in let node = c.args.node in
    let x = c.exchange-old.ensures in
    let got = hands_got d m base next (node ∷ []) has t.bag t.held in
    let h = hands_given m u base next old (node ∷ []) got x.bag x.held in
    let i = hands_first u f base old (node ∷ []) h c.let_go.ensures.bag c.let_go.ensures.held in
    these_both d m e base (these_over d m base (node ∷ []) (calls_keep_latest d _ m t.event) has)
    (these_both m u e base (these_over m u base (next ∷ node ∷ []) (calls_keep_latest m _ u x.event) got)
    (these_both u f e base (these_after u f base (node ∷ []) c.let_go.ensures.latest i)
    (these_after f e base [] c.let_go-2.ensures.latest (returns-clause-bag g c base has))))

pub returns-clause-own : goal.returns-clause-own
returns-clause-own g c =
    let d = c.args.desk.now in let m = c.load.new.desk in let u = c.exchange-old.new.desk in let f = c.let_go.new.desk in let e = c.let_go-2.new.desk in
    let t = c.in-Ok-load.ensures in let next = c.in-Ok-load.next in let old = c.exchange-old.result in let node = c.args.node in
    let x = c.exchange-old.ensures in let b = c.requires.bag in let site = c.args.at.now.site in
    let cell = cell_these d m d.shape b.0 site (these_over d m b.0 (node ∷ []) (calls_keep_latest d _ m t.event) b.1) b.2 in
    passes d m u e (shared_cell d site) node next old c.in-Ok.member c.in-Ok.ensures t.event
    (subst (λ (k : Cell). AddsEvent m (Swap k (node_in m next) (node_in u old)) u) cell x.event)
    (does_both IsParting u f e c.let_go.ensures.own c.let_go-2.ensures.own)

pub returns-clause-others : goal.returns-clause-others
returns-clause-others g c =
    others_both (others_call _ c.in-Ok-load.ensures.keeps)
    (others_both (others_call _ c.exchange-old.ensures.keeps)
    (others_both c.let_go.ensures.others c.let_go-2.ensures.others))

pub returns-clause-order : goal.returns-clause-order
returns-clause-order g c =
    order_both (order_event c.args.desk.now c.load.new.desk _ _ c.in-Ok-load.ensures.event tt)
    (order_both (order_event c.load.new.desk c.exchange-old.new.desk _ _ c.exchange-old.ensures.event tt)
    (order_both c.let_go.ensures.order c.let_go-2.ensures.order))

pub load-requires-clause-cell : goal.load-requires-clause-cell
load-requires-clause-cell g c =
    let b = c.requires.bag in let node = c.args.node in
    open_held c.args.desk.now node c.in-Ok.member _ c.in-Ok.ensures (holds_first c.args.desk.now b.0 node [] b.1)

pub let_go-requires-clause-carries : goal.let_go-requires-clause-carries
let_go-requires-clause-carries g c =
    carries_call (carries_call c.requires.carries c.in-Ok-load.ensures.keeps) c.exchange-old.ensures.keeps

pub let_go-requires-2-clause-carries : goal.let_go-requires-2-clause-carries
let_go-requires-2-clause-carries g c = c.let_go.ensures.carries

pub let_go-requires-2-clause-holds : goal.let_go-requires-2-clause-holds
let_go-requires-2-clause-holds g c =
    let d = c.args.desk.now in let m = c.load.new.desk in let u = c.exchange-old.new.desk in let f = c.let_go.new.desk in
    let t = c.in-Ok-load.ensures in let next = c.in-Ok-load.next in let old = c.exchange-old.result in let node = c.args.node in
    let x = c.exchange-old.ensures in let base = c.requires.bag.0 in
    let h = hands_given m u base next old (node ∷ []) (hands_got d m base next (node ∷ []) c.requires.bag.1 t.bag t.held) x.bag x.held in
    holds_first f base node [] (hands_first u f base old (node ∷ []) h c.let_go.ensures.bag c.let_go.ensures.held)

pub returns-clause-carries : goal.returns-clause-carries
returns-clause-carries g c = c.let_go-2.ensures.carries

pub returns-clause-none : goal.returns-clause-none
returns-clause-none g c = c.let_go-2.ensures.none

pub returns-clause-desk : goal.returns-clause-desk
returns-clause-desk g c =
    same_then (same_call c.in-Ok-load.ensures.keeps)
    (same_then (same_call c.exchange-old.ensures.keeps) (same_then c.let_go.ensures.desk c.let_go-2.ensures.desk))

pub returns-clause-held : goal.returns-clause-held
returns-clause-held g c =
    let one = c.in-Ok-load.ensures.held in let two = c.exchange-old.ensures.held in let three = c.let_go.ensures.held in
    let four = c.let_go-2.ensures.held in omega arith

pub unreachable-requires-in_default-load : goal.unreachable-requires-in_default-load
unreachable-requires-in_default-load g c =
    let room = c.requires.room in granted c.args.desk.now c.load.result c.load.ensures.limit (omega arith) c.in_default-load.not-Ok
