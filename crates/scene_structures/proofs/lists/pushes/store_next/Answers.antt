use Rattle.std.proofs.Common.{ap, ◌∙◌}
use Rattle.scene_structures.proofs.Prelude.{bag_of, carries_kept, first_out, Owner, without_handle}
use Rattle.scene_structures.proofs.Pushes.{fills, held_stored}
use Rattle.scene_structures.proofs.Others.{others_both, others_call}
use Rattle.scene_structures.proofs.Kept.{open_held}
use Rattle.scene_structures.proofs.Orders.{order_both, order_event}
use Rattle.scene_structures.proofs.lists.pushes.store_next.Goals as goal

pub let_go-requires-clause-carries : goal.let_go-requires-clause-carries
let_go-requires-clause-carries g c =
    let k = c.exchange-old.ensures.keeps in
    carries_kept _ c.args.desk.now c.exchange-old.new.desk c.args.pile.now c.requires.carries k.domain k.shape k.endings

pub returns-clause-own : goal.returns-clause-own
returns-clause-own g c =
    fills c.args.desk.now c.exchange-old.new.desk c.let_go.new.desk c.args.node.now c.in-Ok.next _ _ c.in-Ok.ensures c.exchange-old.ensures.event
    c.let_go.ensures.own

pub returns-clause-latest : goal.returns-clause-latest
returns-clause-latest g c =
    held_stored c.args.desk.now c.exchange-old.new.desk c.let_go.new.desk c.args.below.block c.exchange-old.result.block c.args.below.place
    c.exchange-old.result.place
    _ _ _ c.exchange-old.ensures.event c.exchange-old.ensures.bag c.let_go.ensures.bag c.let_go.ensures.latest

pub returns-clause-others : goal.returns-clause-others
returns-clause-others g c = others_both (others_call _ c.exchange-old.ensures.keeps) c.let_go.ensures.others

pub returns-clause-order : goal.returns-clause-order
returns-clause-order g c = order_both (order_event c.args.desk.now c.exchange-old.new.desk _ _ c.exchange-old.ensures.event tt) c.let_go.ensures.order

pub exchange-old-requires-clause-cell : goal.exchange-old-requires-clause-cell
exchange-old-requires-clause-cell g c =
    open_held c.args.desk.now c.args.node.now c.in-Ok.next _ c.in-Ok.ensures c.requires.holds.0

pub returns-clause-bag : goal.returns-clause-bag
returns-clause-bag g c =
    let o = c.exchange-old.result in let b = c.args.below in
    c.let_go.ensures.bag ∙ (ap (without_handle Owner o.block o.place) c.exchange-old.ensures.bag
    ∙ first_out Owner o.block o.place (without_handle Owner b.block b.place (bag_of c.args.desk.now)))
