use Rattle.std.proofs.Common.{◌≡◌, Bool, sym, ap, ◌∙◌, subst, arith}
use Rattle.scene_structures.proofs.Prelude.{allowance_of, bag_of, DeskNow, endings_of, Lists}
use Rattle.scene_structures.proofs.Prelude.{node_in, object_of, UnlinksIf}
use Rattle.scene_structures.proofs.Detached.{holds_kept, within_holds}
use Rattle.scene_structures.proofs.Unlinks.{unlinked_latest, unlinks}
use Rattle.scene_structures.proofs.Watches.{lists_of}
use Rattle.scene_structures.proofs.Others.{others_both, others_counted, others_kept, others_none}
use Rattle.scene_structures.proofs.Orders.{order_both, order_counted, order_none, order_still}
use Rattle.scene_structures.proofs.tree.detachment.unlink.Goals as goal

pub store_next-requires-clause-holds : goal.store_next-requires-clause-holds
store_next-requires-clause-holds g c =
    let d = c.args.desk.now in let b = c.empty.new.desk in let w = c.watch in let n = c.in-Ok.ensures in let nothing = c.in-Ok.nothing in
    let node = c.args.node.now in
    let same : bag_of w.new.desk ≡ bag_of d = w.ensures.bag ∙ ap (λ (u : DeskNow g.row.V.Denot). bag_of u) n.counted in (
      within_holds w.new.desk node c.requires.node
          (subst (Lists node.block node.place) (sym same) (lists_of d node.block node.place c.requires.holds)),
      holds_kept b w.new.desk nothing.block nothing.place w.ensures.bag w.ensures.held n.holds,
    )

pub returns-clause-own : goal.returns-clause-own
returns-clause-own g c =
    let d = c.args.desk.now in let b = c.empty.new.desk in let w = c.watch in let e = c.store_next in let nothing = c.in-Ok.nothing in
    let node = c.args.node.now in let n = c.in-Ok.ensures in
    let done = unlinks d b w.new.desk e.new.desk node nothing n.counted n.handle.0 n.handle.1 w.ensures.own w.ensures.latest w.ensures.bag e.ensures.own
    (lists_of d node.block node.place c.requires.holds) in
    subst (λ (x : Bool). UnlinksIf x d (object_of (node_in d node)) e.new.desk) (sym c.if-not-went.false) done

pub returns-clause-latest : goal.returns-clause-latest
returns-clause-latest g c =
    let w = c.watch in let e = c.store_next in let nothing = c.in-Ok.nothing in
    unlinked_latest c.args.desk.now c.empty.new.desk w.new.desk e.new.desk nothing.block nothing.place c.in-Ok.ensures.counted w.ensures.latest
    e.ensures.latest e.ensures.bag

pub returns-then-not-went-clause-others : goal.returns-then-not-went-clause-others
returns-then-not-went-clause-others g c = others_none c.args.desk.now c.args.pile.now.endings.items

pub returns-then-not-went-clause-order : goal.returns-then-not-went-clause-order
returns-then-not-went-clause-order g c = order_none c.args.desk.now c.args.pile.now.endings.items

pub returns-clause-others : goal.returns-clause-others
returns-clause-others g c =
    let w = c.watch in
    others_both (others_counted c.args.desk.now c.empty.new.desk _ _ c.in-Ok.ensures.counted)
    (others_both (others_kept c.empty.new.desk w.new.desk _ w.ensures.endings w.ensures.count) c.store_next.ensures.others)

pub returns-clause-order : goal.returns-clause-order
returns-clause-order g c =
    let w = c.watch in
    order_both (order_counted c.args.desk.now c.empty.new.desk _ _ c.in-Ok.ensures.counted)
    (order_both (order_still c.empty.new.desk w.new.desk _ w.ensures.still) c.store_next.ensures.order)

pub watch-requires-clause-room : goal.watch-requires-clause-room
watch-requires-clause-room g c =
    let room = c.requires.room in let is = ap (λ (u : DeskNow g.row.V.Denot). u.held) c.in-Ok.ensures.counted in
    let same = ap (λ (u : DeskNow g.row.V.Denot). allowance_of u) c.in-Ok.ensures.counted in
    let ends = ap (λ (u : DeskNow g.row.V.Denot). endings_of u) c.in-Ok.ensures.counted in omega arith

pub returns-clause-held : goal.returns-clause-held
returns-clause-held g c =
    let is = ap (λ (u : DeskNow g.row.V.Denot). u.held) c.in-Ok.ensures.counted in let two = c.watch.ensures.held in let three = c.store_next.ensures.held in
    omega arith
