use Rattle.std.proofs.Common.{Bool, true, [], sym, ◌∙◌, subst, true≢false, arith}
use Rattle.scene_structures.proofs.Prelude.{Cell, does_both, does_one, in_no_cell, Lists, node_in}
use Rattle.scene_structures.proofs.Prelude.{PutsOnly, shared_cell}
use Rattle.scene_structures.specs.Detaches.{MaySkip}
use Rattle.scene_structures.proofs.Adopting.{these_node}
use Rattle.scene_structures.proofs.Detached.{cuts_node, meets_other}
use Rattle.scene_structures.proofs.Hands.{first_lists, lists_under}
use Rattle.scene_structures.proofs.Looks.{legal_after}
use Rattle.scene_structures.proofs.Sites.{cell_these, open_same, these_both}
use Rattle.scene_structures.proofs.Others.{others_both}
use Rattle.scene_structures.proofs.Kept.{same_then}
use Rattle.scene_structures.proofs.Orders.{order_both}
use Rattle.scene_structures.proofs.lists.removals.try_cut.Goals as goal

pub returns-then-not-is_same-clause-own : goal.returns-then-not-is_same-clause-own
returns-then-not-is_same-clause-own g c =
    let d = c.args.desk.now in let m = c.find.new.desk in let top = c.in-Some.top in let node = c.args.node.now in let b = c.requires.bag in
    let f = c.in-Some.ensures in
    let hands = f.bag b.0 b.1 in
    let lists = subst (Lists node.block node.place) (sym hands.bag) (lists_under node.block top.block node.place top.place b.0 b.3) in
    meets_other d m (shared_cell d c.args.at.now.site) top node f.own.0 f.own.1 c.requires.node (legal_after d m _ f.own.0)
    (first_lists m b.0 top [] hands) lists (these_node d m b.0 node (f.latest b.0 b.1) b.3)
    (λ same. true≢false (sym (c.is_same.ensures.1 same) ∙ c.if-not-is_same.true))

pub returns-then-skip-clause-own : goal.returns-then-skip-clause-own
returns-then-skip-clause-own g c =
    let d = c.args.desk.now in let m = c.find.new.desk in let e = c.skip.new.desk in let top = c.in-Some.top in let node = c.args.node.now in
    let b = c.requires.bag in let site = c.args.at.now.site in let f = c.in-Some.ensures in
    let keeps = f.latest b.0 b.1 in
    let skipped = subst (λ (x : Bool). MaySkip m (shared_cell m site) (node_in m top) x e) c.if-skip.true c.skip.ensures.own in
    cuts_node d m e (shared_cell d site) top node f.own.0 f.own.1 (c.is_same.ensures.0 c.if-not-is_same.false)
    (these_node d m b.0 node keeps b.3)
    (subst (λ (k : Cell). MaySkip m k (node_in m top) true e) (cell_these d m d.shape b.0 site keeps b.2) skipped)

pub returns-else-skip-clause-own : goal.returns-else-skip-clause-own
returns-else-skip-clause-own g c =
    let d = c.args.desk.now in let m = c.find.new.desk in let e = c.skip.new.desk in let top = c.in-Some.top in
    let f = c.in-Some.ensures in
    does_both (PutsOnly in_no_cell) d m e (does_one (PutsOnly in_no_cell) d m _ f.own.0 tt)
    (subst (λ (x : Bool). MaySkip m (shared_cell m c.args.at.now.site) (node_in m top) x e) c.if-skip.false c.skip.ensures.own)

pub returns-then-skip-clause-others : goal.returns-then-skip-clause-others
returns-then-skip-clause-others g c = others_both c.find.ensures.others c.skip.ensures.others

pub returns-then-skip-clause-order : goal.returns-then-skip-clause-order
returns-then-skip-clause-order g c = order_both c.find.ensures.order c.skip.ensures.order

pub returns-else-skip-clause-others : goal.returns-else-skip-clause-others
returns-else-skip-clause-others g c = others_both c.find.ensures.others c.skip.ensures.others

pub returns-else-skip-clause-order : goal.returns-else-skip-clause-order
returns-else-skip-clause-order g c = order_both c.find.ensures.order c.skip.ensures.order

pub skip-requires-clause-bag : goal.skip-requires-clause-bag
skip-requires-clause-bag g c =
    let b = c.requires.bag in let f = c.in-Some.ensures in
    (b.0, f.bag b.0 b.1, open_same c.args.desk.now c.find.new.desk b.0 c.args.at.now.site f.desk.shape b.2)

pub skip-requires-clause-room : goal.skip-requires-clause-room
skip-requires-clause-room g c =
    let room = c.requires.room in let held = c.in-Some.ensures.held in let same = c.in-Some.ensures.desk.allowance in omega arith

pub returns-in-None-clause-latest : goal.returns-in-None-clause-latest
returns-in-None-clause-latest g c base has = c.in-None.ensures.latest base has

pub returns-then-not-is_same-clause-latest : goal.returns-then-not-is_same-clause-latest
returns-then-not-is_same-clause-latest g c base has = c.in-Some.ensures.latest base has

pub returns-then-not-is_same-clause-bag : goal.returns-then-not-is_same-clause-bag
returns-then-not-is_same-clause-bag g c base has = c.in-Some.ensures.bag base has

pub returns-then-not-is_same-clause-held : goal.returns-then-not-is_same-clause-held
returns-then-not-is_same-clause-held g c = c.in-Some.ensures.held

pub returns-then-skip-clause-carries : goal.returns-then-skip-clause-carries
returns-then-skip-clause-carries g c = c.skip.ensures.carries

pub returns-then-skip-clause-none : goal.returns-then-skip-clause-none
returns-then-skip-clause-none g c = c.skip.ensures.none

pub returns-then-skip-clause-desk : goal.returns-then-skip-clause-desk
returns-then-skip-clause-desk g c = same_then c.in-Some.ensures.desk c.skip.ensures.desk

pub returns-then-skip-clause-held : goal.returns-then-skip-clause-held
returns-then-skip-clause-held g c = let one = c.in-Some.ensures.held in let two = c.skip.ensures.held in omega arith

pub returns-then-skip-clause-bag : goal.returns-then-skip-clause-bag
returns-then-skip-clause-bag g c base has = c.skip.ensures.bag base (c.in-Some.ensures.bag base has)

pub returns-then-skip-clause-latest : goal.returns-then-skip-clause-latest
returns-then-skip-clause-latest g c base has =
    let f = c.in-Some.ensures in let s = c.skip in
    these_both c.args.desk.now c.find.new.desk s.new.desk base (f.latest base has) (s.ensures.latest base (f.bag base has))

pub returns-else-skip-clause-carries : goal.returns-else-skip-clause-carries
returns-else-skip-clause-carries g c = c.skip.ensures.carries

pub returns-else-skip-clause-none : goal.returns-else-skip-clause-none
returns-else-skip-clause-none g c = c.skip.ensures.none

pub returns-else-skip-clause-desk : goal.returns-else-skip-clause-desk
returns-else-skip-clause-desk g c = same_then c.in-Some.ensures.desk c.skip.ensures.desk

pub returns-else-skip-clause-held : goal.returns-else-skip-clause-held
returns-else-skip-clause-held g c = let one = c.in-Some.ensures.held in let two = c.skip.ensures.held in omega arith

pub returns-else-skip-clause-bag : goal.returns-else-skip-clause-bag
returns-else-skip-clause-bag g c base has = c.skip.ensures.bag base (c.in-Some.ensures.bag base has)

pub returns-else-skip-clause-latest : goal.returns-else-skip-clause-latest
returns-else-skip-clause-latest g c base has =
    let f = c.in-Some.ensures in let s = c.skip in
    these_both c.args.desk.now c.find.new.desk s.new.desk base (f.latest base has) (s.ensures.latest base (f.bag base has))
