use Rattle.std.proofs.Common.{[], ◌∷◌, arith}
use Rattle.scene_structures.proofs.Prelude.{Owner}
use Rattle.scene_structures.proofs.Hands.{first_lists, hands_got, hands_kept, hands_second}
use Rattle.scene_structures.proofs.Hands.{hands_first}
use Rattle.scene_structures.proofs.Looks.{no_member, within_held}
use Rattle.scene_structures.proofs.Pushes.{same_left}
use Rattle.scene_structures.proofs.Walks.{visits}
use Rattle.scene_structures.proofs.Others.{others_both, others_call}
use Rattle.scene_structures.proofs.Kept.{same_call, same_then, carries_call, granted, open_held}
use Rattle.scene_structures.proofs.Kept.{open_up}
use Rattle.scene_structures.proofs.Rooms.{holds_more, holds_still}
use Rattle.scene_structures.proofs.Orders.{order_both, order_event}
use Rattle.scene_structures.proofs.lists.walks.visit.Goals as goal

pub returns-in_default-clause-own : goal.returns-in_default-clause-own
returns-in_default-clause-own g c =
    let d = c.args.desk.now in let node = c.args.node in let bag = c.requires.bag in (
      c.let_go.ensures.own,
      λ o owns. no_member _ node.block node.place c.member.result c.member.ensures c.in_default.not-Ok
          (within_held d node c.assert_invariant.ensures.legal (first_lists d bag.0 node [] bag.1) o owns),
    )

pub returns-in-None-clause-own : goal.returns-in-None-clause-own
returns-in-None-clause-own g c =
    let d = c.args.desk.now in let a = c.ask-told in let l = c.load.new.desk in let e = c.let_go-2 in let node = c.args.node in
    let next = c.in-Ok-load.next in let t = c.in-Ok-load.ensures in let base = c.requires.bag.0 in
    let has = hands_kept d a.new.desk base (node ∷ []) c.requires.bag.1 a.ensures.bag a.ensures.held in
    let both = hands_got a.new.desk l base next (node ∷ []) has t.bag t.held in
    let left = hands_second l e.new.desk base next node [] both e.ensures.bag e.ensures.held in
    visits d a.new.desk l e.new.desk node next c.in-Ok.up c.in-Ok-member.at _ c.in-Ok.ensures c.in-Ok-member.ensures c.in-None.ensures.own
    (same_left d a.new.desk node a.ensures.latest (first_lists a.new.desk base node [] has)) t.event e.ensures.own
    (same_left l e.new.desk next e.ensures.latest (first_lists e.new.desk base next [] left))

pub returns-in-Some-clause-own : goal.returns-in-Some-clause-own
returns-in-Some-clause-own g c =
    let d = c.args.desk.now in let a = c.ask-told in let l = c.load.new.desk in let e = c.let_go-2 in let node = c.args.node in
    let next = c.in-Ok-load.next in let t = c.in-Ok-load.ensures in let base = c.requires.bag.0 in
    let has = hands_kept d a.new.desk base (node ∷ []) c.requires.bag.1 a.ensures.bag a.ensures.held in
    let both = hands_got a.new.desk l base next (node ∷ []) has t.bag t.held in
    let left = hands_second l e.new.desk base next node [] both e.ensures.bag e.ensures.held in
    visits d a.new.desk l e.new.desk node next c.in-Ok.up c.in-Ok-member.at _ c.in-Ok.ensures c.in-Ok-member.ensures c.in-Some.ensures.own
    (same_left d a.new.desk node a.ensures.latest (first_lists a.new.desk base node [] has)) t.event e.ensures.own
    (same_left l e.new.desk next e.ensures.latest (first_lists e.new.desk base next [] left))

pub returns-in-None-clause-others : goal.returns-in-None-clause-others
returns-in-None-clause-others g c =
    others_both c.ask-told.ensures.others
    (others_both (others_call _ c.in-Ok-load.ensures.keeps) c.let_go-2.ensures.others)

pub returns-in-None-clause-order : goal.returns-in-None-clause-order
returns-in-None-clause-order g c =
    order_both c.ask-told.ensures.order
    (order_both (order_event c.ask-told.new.desk c.load.new.desk _ _ c.in-Ok-load.ensures.event tt) c.let_go-2.ensures.order)

pub returns-in-Some-clause-others : goal.returns-in-Some-clause-others
returns-in-Some-clause-others g c =
    others_both c.ask-told.ensures.others
    (others_both (others_call _ c.in-Ok-load.ensures.keeps) c.let_go-2.ensures.others)

pub returns-in-Some-clause-order : goal.returns-in-Some-clause-order
returns-in-Some-clause-order g c =
    order_both c.ask-told.ensures.order
    (order_both (order_event c.ask-told.new.desk c.load.new.desk _ _ c.in-Ok-load.ensures.event tt) c.let_go-2.ensures.order)

pub ask-told-requires-clause-cell : goal.ask-told-requires-clause-cell
ask-told-requires-clause-cell g c = open_up c.args.desk.now c.args.node c.in-Ok.up c.in-Ok.ensures c.requires.holds

pub load-requires-clause-cell : goal.load-requires-clause-cell
load-requires-clause-cell g c =
    let a = c.ask-told in let node = c.args.node in
    open_held a.new.desk node c.in-Ok-member.at _ c.in-Ok-member.ensures
    (holds_still Owner c.args.desk.now a.new.desk node.block node.place c.requires.holds a.ensures.bag a.ensures.held)

pub let_go-requires-2-clause-carries : goal.let_go-requires-2-clause-carries
let_go-requires-2-clause-carries g c = carries_call c.ask-told.ensures.carries c.in-Ok-load.ensures.keeps

pub let_go-requires-2-clause-holds : goal.let_go-requires-2-clause-holds
let_go-requires-2-clause-holds g c =
    let a = c.ask-told in let node = c.args.node in let next = c.in-Ok-load.next in let t = c.in-Ok-load.ensures in
    holds_more Owner a.new.desk c.load.new.desk node.block next.block node.place next.place
    (holds_still Owner c.args.desk.now a.new.desk node.block node.place c.requires.holds a.ensures.bag a.ensures.held) t.bag t.held

pub returns-in_default-clause-bag : goal.returns-in_default-clause-bag
returns-in_default-clause-bag g c base has =
    hands_first c.args.desk.now c.let_go.new.desk base c.args.node [] has c.let_go.ensures.bag c.let_go.ensures.held

pub returns-in-None-clause-carries : goal.returns-in-None-clause-carries
returns-in-None-clause-carries g c = c.let_go-2.ensures.carries

pub returns-in-None-clause-none : goal.returns-in-None-clause-none
returns-in-None-clause-none g c = c.let_go-2.ensures.none

pub returns-in-None-clause-desk : goal.returns-in-None-clause-desk
returns-in-None-clause-desk g c = same_then c.ask-told.ensures.desk (same_then (same_call c.in-Ok-load.ensures.keeps) c.let_go-2.ensures.desk)

pub returns-in-None-clause-held : goal.returns-in-None-clause-held
returns-in-None-clause-held g c =
    let one = c.ask-told.ensures.held in let two = c.in-Ok-load.ensures.held in let three = c.let_go-2.ensures.held in omega arith

pub returns-in-None-clause-bag : goal.returns-in-None-clause-bag
returns-in-None-clause-bag g c base has =
    let d = c.args.desk.now in let a = c.ask-told in let l = c.load.new.desk in let node = c.args.node in let t = c.in-Ok-load.ensures in
    let next = c.in-Ok-load.next in
    hands_second l c.let_go-2.new.desk base next node []
    (hands_got a.new.desk l base next (node ∷ []) (hands_kept d a.new.desk base (node ∷ []) has a.ensures.bag a.ensures.held) t.bag t.held)
    c.let_go-2.ensures.bag c.let_go-2.ensures.held

pub returns-in-Some-clause-carries : goal.returns-in-Some-clause-carries
returns-in-Some-clause-carries g c = c.let_go-2.ensures.carries

pub returns-in-Some-clause-none : goal.returns-in-Some-clause-none
returns-in-Some-clause-none g c = c.let_go-2.ensures.none

pub returns-in-Some-clause-desk : goal.returns-in-Some-clause-desk
returns-in-Some-clause-desk g c = same_then c.ask-told.ensures.desk (same_then (same_call c.in-Ok-load.ensures.keeps) c.let_go-2.ensures.desk)

pub returns-in-Some-clause-held : goal.returns-in-Some-clause-held
returns-in-Some-clause-held g c =
    let one = c.ask-told.ensures.held in let two = c.in-Ok-load.ensures.held in let three = c.let_go-2.ensures.held in omega arith

pub returns-in-Some-clause-bag : goal.returns-in-Some-clause-bag
returns-in-Some-clause-bag g c base has =
    let d = c.args.desk.now in let a = c.ask-told in let l = c.load.new.desk in let node = c.args.node in let t = c.in-Ok-load.ensures in
    let next = c.in-Ok-load.next in
    hands_second l c.let_go-2.new.desk base next node []
    (hands_got a.new.desk l base next (node ∷ []) (hands_kept d a.new.desk base (node ∷ []) has a.ensures.bag a.ensures.held) t.bag t.held)
    c.let_go-2.ensures.bag c.let_go-2.ensures.held

pub unreachable-requires-in_default-load : goal.unreachable-requires-in_default-load
unreachable-requires-in_default-load g c =
    let room = c.requires.room in let held = c.ask-told.ensures.held in let a = c.ask-told.ensures.desk.allowance in
    granted c.ask-told.new.desk c.load.result c.load.ensures.limit (omega arith) c.in_default-load.not-Ok
