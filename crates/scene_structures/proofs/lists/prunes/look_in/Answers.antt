use Rattle.std.proofs.Common.{true, false, [], ◌∷◌, refl, ◌∙◌, arith}
use Rattle.scene_structures.proofs.Prelude.{calls_keep_latest, shared_cell}
use Rattle.scene_structures.proofs.Calls.{got_lists}
use Rattle.scene_structures.proofs.Hands.{first_lists, hands_first, hands_got, hands_kept}
use Rattle.scene_structures.proofs.Looks.{finds_none, looks_first, no_member}
use Rattle.scene_structures.proofs.Pruned.{finds}
use Rattle.scene_structures.proofs.Pushes.{same_left}
use Rattle.scene_structures.proofs.Sites.{these_after, these_both, these_over, open_now}
use Rattle.scene_structures.proofs.Others.{others_both, others_call, others_kept}
use Rattle.scene_structures.proofs.Kept.{same_call, same_then, carries_call, carries_over, granted}
use Rattle.scene_structures.proofs.Kept.{open_up}
use Rattle.scene_structures.proofs.Orders.{order_asked, order_both, order_event}
use Rattle.scene_structures.proofs.lists.prunes.look_in.Goals as goal

pub returns-in_default-member-clause-latest : goal.returns-in_default-member-clause-latest
returns-in_default-member-clause-latest g c base has =
    let d = c.args.desk.now in let m = c.load.new.desk in let e = c.let_go.new.desk in let t = c.in-Ok.ensures in let top = c.in-Ok.top in
    let h = hands_got d m base top [] has t.bag t.held in
    these_both d m e base (these_over d m base [] (calls_keep_latest d _ m t.event) has)
    (these_after m e base [] c.let_go.ensures.latest (hands_first m e base top [] h c.let_go.ensures.bag c.let_go.ensures.held))

pub returns-in_default-member-clause-own : goal.returns-in_default-member-clause-own
returns-in_default-member-clause-own g c =
    let d = c.args.desk.now in let m = c.load.new.desk in let top = c.in-Ok.top in let cell = shared_cell d c.args.at.now.site in
    finds_none d m c.let_go.new.desk cell top (looks_first d m cell top c.in-Ok.ensures.event (got_lists d m top c.in-Ok.ensures.bag))
    (no_member _ top.block top.place c.member.result c.member.ensures c.in_default-member.not-Ok) c.let_go.ensures.own

pub returns-then-is_expired-clause-latest : goal.returns-then-is_expired-clause-latest
returns-then-is_expired-clause-latest g c base has =
    let d = c.args.desk.now in let m = c.load.new.desk in let e = c.is_expired.new.desk in let t = c.in-Ok.ensures in let top = c.in-Ok.top in
    let h = hands_got d m base top [] has t.bag t.held in let x = c.is_expired.ensures in
    these_both d m e base (these_over d m base [] (calls_keep_latest d _ m t.event) has)
    (these_after m e base (top ∷ []) x.latest (hands_kept m e base (top ∷ []) h x.bag x.held))

pub returns-then-is_expired-clause-own : goal.returns-then-is_expired-clause-own
returns-then-is_expired-clause-own g c =
    let d = c.args.desk.now in let m = c.load.new.desk in let e = c.is_expired.new.desk in let t = c.in-Ok.ensures in let top = c.in-Ok.top in
    let base = c.requires.bag.0 in let x = c.is_expired.ensures in
    let h = hands_kept m e base (top ∷ []) (hands_got d m base top [] c.requires.bag.1 t.bag t.held) x.bag x.held in
    finds d m e (shared_cell d c.args.at.now.site) top c.in-Ok-member.up true t.event c.in-Ok-member.ensures c.if-is_expired.ensures.own
    (same_left m e top x.latest (first_lists e base top [] h))

pub returns-clause-latest : goal.returns-clause-latest
returns-clause-latest g c base has =
    let d = c.args.desk.now in let m = c.load.new.desk in let e = c.is_expired.new.desk in let t = c.in-Ok.ensures in let top = c.in-Ok.top in
    let h = hands_got d m base top [] has t.bag t.held in let x = c.is_expired.ensures in
    these_both d m e base (these_over d m base [] (calls_keep_latest d _ m t.event) has)
    (these_after m e base (top ∷ []) x.latest (hands_kept m e base (top ∷ []) h x.bag x.held))

pub returns-clause-own : goal.returns-clause-own
returns-clause-own g c =
    let d = c.args.desk.now in let m = c.load.new.desk in let e = c.is_expired.new.desk in let t = c.in-Ok.ensures in let top = c.in-Ok.top in
    let base = c.requires.bag.0 in let x = c.is_expired.ensures in
    let h = hands_kept m e base (top ∷ []) (hands_got d m base top [] c.requires.bag.1 t.bag t.held) x.bag x.held in
    finds d m e (shared_cell d c.args.at.now.site) top c.in-Ok-member.up false t.event c.in-Ok-member.ensures c.if-is_expired.ensures.own
    (same_left m e top x.latest (first_lists e base top [] h))

pub returns-in_default-member-clause-others : goal.returns-in_default-member-clause-others
returns-in_default-member-clause-others g c = others_both (others_call _ c.in-Ok.ensures.keeps) c.let_go.ensures.others

pub returns-in_default-member-clause-order : goal.returns-in_default-member-clause-order
returns-in_default-member-clause-order g c = order_both (order_event c.args.desk.now c.load.new.desk _ _ c.in-Ok.ensures.event tt) c.let_go.ensures.order

pub returns-then-is_expired-clause-others : goal.returns-then-is_expired-clause-others
returns-then-is_expired-clause-others g c =
    others_both (others_call _ c.in-Ok.ensures.keeps)
    (others_kept c.load.new.desk c.is_expired.new.desk _ c.is_expired.ensures.endings c.is_expired.ensures.count)

pub returns-then-is_expired-clause-order : goal.returns-then-is_expired-clause-order
returns-then-is_expired-clause-order g c =
    order_both (order_event c.args.desk.now c.load.new.desk _ _ c.in-Ok.ensures.event tt)
    (order_asked c.load.new.desk c.is_expired.new.desk _ c.is_expired.result _ c.is_expired.ensures.own)

pub returns-clause-others : goal.returns-clause-others
returns-clause-others g c =
    others_both (others_call _ c.in-Ok.ensures.keeps)
    (others_kept c.load.new.desk c.is_expired.new.desk _ c.is_expired.ensures.endings c.is_expired.ensures.count)

pub returns-clause-order : goal.returns-clause-order
returns-clause-order g c =
    order_both (order_event c.args.desk.now c.load.new.desk _ _ c.in-Ok.ensures.event tt)
    (order_asked c.load.new.desk c.is_expired.new.desk _ c.is_expired.result _ c.is_expired.ensures.own)

pub load-requires-clause-cell : goal.load-requires-clause-cell
load-requires-clause-cell g c =
    let b = c.requires.bag in open_now c.args.desk.now c.args.desk.now.shape b.0 [] c.args.at.now.site refl b.1 b.2

pub let_go-requires-clause-carries : goal.let_go-requires-clause-carries
let_go-requires-clause-carries g c = carries_call c.requires.carries c.in-Ok.ensures.keeps

pub is_expired-requires-clause-cell : goal.is_expired-requires-clause-cell
is_expired-requires-clause-cell g c =
    open_up c.load.new.desk c.in-Ok.top c.in-Ok-member.up c.in-Ok-member.ensures c.in-Ok.ensures.holds

pub is_expired-requires-clause-room : goal.is_expired-requires-clause-room
is_expired-requires-clause-room g c =
    let room = c.requires.room in let held = c.in-Ok.ensures.held in let same = c.in-Ok.ensures.keeps.allowance in omega arith

pub returns-in_default-member-clause-bag : goal.returns-in_default-member-clause-bag
returns-in_default-member-clause-bag g c base has =
    let m = c.load.new.desk in let t = c.in-Ok.ensures in let top = c.in-Ok.top in
    hands_first m c.let_go.new.desk base top [] (hands_got c.args.desk.now m base top [] has t.bag t.held) c.let_go.ensures.bag c.let_go.ensures.held

pub returns-in_default-member-clause-desk : goal.returns-in_default-member-clause-desk
returns-in_default-member-clause-desk g c = same_then (same_call c.in-Ok.ensures.keeps) c.let_go.ensures.desk

pub returns-in_default-member-clause-held : goal.returns-in_default-member-clause-held
returns-in_default-member-clause-held g c = let one = c.in-Ok.ensures.held in let two = c.let_go.ensures.held in omega arith

pub returns-then-is_expired-clause-carries : goal.returns-then-is_expired-clause-carries
returns-then-is_expired-clause-carries g c =
    let x = c.is_expired.ensures in carries_over (carries_call c.requires.carries c.in-Ok.ensures.keeps) x.desk x.endings

pub returns-then-is_expired-clause-none : goal.returns-then-is_expired-clause-none
returns-then-is_expired-clause-none g c = c.requires.empty

pub returns-then-is_expired-clause-desk : goal.returns-then-is_expired-clause-desk
returns-then-is_expired-clause-desk g c = same_then (same_call c.in-Ok.ensures.keeps) c.is_expired.ensures.desk

pub returns-then-is_expired-clause-held : goal.returns-then-is_expired-clause-held
returns-then-is_expired-clause-held g c = c.is_expired.ensures.held ∙ c.in-Ok.ensures.held

pub returns-then-is_expired-clause-bag : goal.returns-then-is_expired-clause-bag
returns-then-is_expired-clause-bag g c base has =
    let m = c.load.new.desk in let t = c.in-Ok.ensures in let top = c.in-Ok.top in let x = c.is_expired in
    hands_kept m x.new.desk base (top ∷ []) (hands_got c.args.desk.now m base top [] has t.bag t.held) x.ensures.bag x.ensures.held

pub returns-clause-carries : goal.returns-clause-carries
returns-clause-carries g c =
    let x = c.is_expired.ensures in carries_over (carries_call c.requires.carries c.in-Ok.ensures.keeps) x.desk x.endings

pub returns-clause-none : goal.returns-clause-none
returns-clause-none g c = c.requires.empty

pub returns-clause-desk : goal.returns-clause-desk
returns-clause-desk g c = same_then (same_call c.in-Ok.ensures.keeps) c.is_expired.ensures.desk

pub returns-clause-held : goal.returns-clause-held
returns-clause-held g c = c.is_expired.ensures.held ∙ c.in-Ok.ensures.held

pub returns-clause-bag : goal.returns-clause-bag
returns-clause-bag g c base has =
    let m = c.load.new.desk in let t = c.in-Ok.ensures in let top = c.in-Ok.top in let x = c.is_expired in
    hands_kept m x.new.desk base (top ∷ []) (hands_got c.args.desk.now m base top [] has t.bag t.held) x.ensures.bag x.ensures.held

pub unreachable-requires : goal.unreachable-requires
unreachable-requires g c =
    let room = c.requires.room in granted c.args.desk.now c.load.result c.load.ensures.limit (omega arith) c.in_default.not-Ok
