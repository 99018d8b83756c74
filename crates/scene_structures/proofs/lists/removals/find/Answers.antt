use Rattle.std.proofs.Common.{[], refl, arith}
use Rattle.scene_structures.proofs.Prelude.{calls_keep_latest, shared_cell}
use Rattle.scene_structures.proofs.Calls.{got_lists}
use Rattle.scene_structures.proofs.Hands.{hands_first, hands_got}
use Rattle.scene_structures.proofs.Looks.{finds_none, looks_first, no_member}
use Rattle.scene_structures.proofs.Sites.{these_after, these_both, these_over, open_now}
use Rattle.scene_structures.proofs.Others.{others_both, others_call}
use Rattle.scene_structures.proofs.Kept.{same_call, same_then, carries_call, granted}
use Rattle.scene_structures.proofs.Orders.{order_both, order_event}
use Rattle.scene_structures.proofs.lists.removals.find.Goals as goal

pub returns-in_default-member-clause-latest : goal.returns-in_default-member-clause-latest
returns-in_default-member-clause-latest g c base has =
    let d = c.args.desk.now in let m = c.load.new.desk in let e = c.let_go.new.desk in let t = c.in-Ok.ensures in let top = c.in-Ok.top in
    let h = hands_got d m base top [] has t.bag t.held in
    these_both d m e base (these_over d m base [] (calls_keep_latest d _ m t.event) has)
    (these_after m e base [] c.let_go.ensures.latest (hands_first m e base top [] h c.let_go.ensures.bag c.let_go.ensures.held))

pub returns-in_default-member-clause-own : goal.returns-in_default-member-clause-own
returns-in_default-member-clause-own g c =
    let d = c.args.desk.now in let m = c.load.new.desk in let top = c.in-Ok.top in let cell = shared_cell d c.args.at.now.site in
    finds_none d m c.let_go.new.desk cell top (looks_first d m cell top c.in-Ok.ensures.event (got_lists d m top c.in-Ok.ensures.bag))
    (no_member _ top.block top.place c.member.result c.member.ensures c.in_default-member.not-Ok) c.let_go.ensures.own

pub returns-clause-latest : goal.returns-clause-latest
returns-clause-latest g c base has =
    let d = c.args.desk.now in these_over d c.load.new.desk base [] (calls_keep_latest d _ c.load.new.desk c.in-Ok.ensures.event) has

pub returns-in_default-member-clause-others : goal.returns-in_default-member-clause-others
returns-in_default-member-clause-others g c = others_both (others_call _ c.in-Ok.ensures.keeps) c.let_go.ensures.others

pub returns-in_default-member-clause-order : goal.returns-in_default-member-clause-order
returns-in_default-member-clause-order g c = order_both (order_event c.args.desk.now c.load.new.desk _ _ c.in-Ok.ensures.event tt) c.let_go.ensures.order

pub returns-clause-others : goal.returns-clause-others
returns-clause-others g c = others_call _ c.in-Ok.ensures.keeps

pub returns-clause-order : goal.returns-clause-order
returns-clause-order g c = order_event c.args.desk.now c.load.new.desk _ _ c.in-Ok.ensures.event tt

pub load-requires-clause-cell : goal.load-requires-clause-cell
load-requires-clause-cell g c =
    let b = c.requires.bag in open_now c.args.desk.now c.args.desk.now.shape b.0 [] c.args.at.now.site refl b.1 b.2

pub let_go-requires-clause-carries : goal.let_go-requires-clause-carries
let_go-requires-clause-carries g c = carries_call c.requires.carries c.in-Ok.ensures.keeps

pub returns-in_default-member-clause-bag : goal.returns-in_default-member-clause-bag
returns-in_default-member-clause-bag g c base has =
    let m = c.load.new.desk in let t = c.in-Ok.ensures in let top = c.in-Ok.top in
    hands_first m c.let_go.new.desk base top [] (hands_got c.args.desk.now m base top [] has t.bag t.held) c.let_go.ensures.bag c.let_go.ensures.held

pub returns-in_default-member-clause-desk : goal.returns-in_default-member-clause-desk
returns-in_default-member-clause-desk g c = same_then (same_call c.in-Ok.ensures.keeps) c.let_go.ensures.desk

pub returns-in_default-member-clause-held : goal.returns-in_default-member-clause-held
returns-in_default-member-clause-held g c = let one = c.in-Ok.ensures.held in let two = c.let_go.ensures.held in omega arith

pub returns-clause-carries : goal.returns-clause-carries
returns-clause-carries g c = carries_call c.requires.carries c.in-Ok.ensures.keeps

pub returns-clause-bag : goal.returns-clause-bag
returns-clause-bag g c base has =
    hands_got c.args.desk.now c.load.new.desk base c.in-Ok.top [] has c.in-Ok.ensures.bag c.in-Ok.ensures.held

pub unreachable-requires : goal.unreachable-requires
unreachable-requires g c =
    let room = c.requires.room in granted c.args.desk.now c.load.result c.load.ensures.limit (omega arith) c.in_default.not-Ok
