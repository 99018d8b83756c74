use Rattle.std.proofs.Common.{[], ◌∷◌, ◌++◌, Some, None, refl, ◌∙◌, arith, of_calls}
use Rattle.scene_structures.proofs.Prelude.{node_in, same_both, same_desk, told_of}
use Rattle.scene_structures.proofs.Hands.{holds_first}
use Rattle.scene_structures.proofs.Walks.{folded, looked_none, walks_on}
use Rattle.scene_structures.proofs.Others.{others_both, others_none}
use Rattle.scene_structures.proofs.Kept.{same_then}
use Rattle.scene_structures.proofs.Orders.{order_both, order_none}
use Rattle.scene_structures.proofs.lists.walks.walk.Goals as goal

pub loop-init : goal.loop-init
loop-init g c =
    record {
      carries = c.requires.carries;
      others = others_none c.args.desk.now c.args.pile.now.endings.items;
      order = order_none c.args.desk.now c.args.pile.now.endings.items;
      none = c.requires.empty;
      held = refl;
      same = same_desk c.args.desk.now;
      bag = λ base has. has;
      walked = ([], [], (refl, refl), looked_none c.args.desk.now, refl);
      always = c.requires.callable;
    }

pub visit-requires-clause-holds : goal.visit-requires-clause-holds
visit-requires-clause-holds g c =
    holds_first c.loop.desk c.requires.bag.0 c.loop.node [] (c.loop.invariant.bag c.requires.bag.0 c.requires.bag.1)

pub visit-requires-clause-bag : goal.visit-requires-clause-bag
visit-requires-clause-bag g c = (c.requires.bag.0, c.loop.invariant.bag c.requires.bag.0 c.requires.bag.1)

pub loop-preserved-in-Passed : goal.loop-preserved-in-Passed
loop-preserved-in-Passed g c =
    let i = c.loop.invariant in let d = c.args.desk.now in let m = c.loop.desk in let e = c.visit.new.desk in let t = c.in-Passed.ensures in
    let w = i.walked in
    let on = walks_on (node_in d c.args.first) (node_in m c.loop.node) w.0 w.1 d m e None c.in-Passed.next w.2 w.3 t.own in
    record {
      carries = t.carries;
      others = others_both i.others t.others;
      order = order_both i.order t.order;
      none = t.none;
      held = t.held ∙ i.held;
      same = same_both d m e i.same t.desk;
      bag = λ base has. t.bag base (i.bag base has);
      walked = (
        t.own.stop ∷ w.0,
        t.own.looks ++ w.1,
        on.0,
        on.1,
        folded (λ p x q. goal.F-step g p x tt q) c.args.tell _ t.own.stop.told None (told_of w.0) t.own.tells w.4,
      );
      always = i.always;
    }

pub loop-preserved : goal.loop-preserved
loop-preserved g c =
    let i = c.loop.invariant in let d = c.args.desk.now in let m = c.loop.desk in let e = c.visit.new.desk in let t = c.in-Told.ensures in
    let w = i.walked in
    let on = walks_on (node_in d c.args.first) (node_in m c.loop.node) w.0 w.1 d m e (Some c.in-Told.field) c.in-Told.next w.2 w.3 t.own in
    record {
      carries = t.carries;
      others = others_both i.others t.others;
      order = order_both i.order t.order;
      none = t.none;
      held = t.held ∙ i.held;
      same = same_both d m e i.same t.desk;
      bag = λ base has. t.bag base (i.bag base has);
      walked = (
        t.own.stop ∷ w.0,
        t.own.looks ++ w.1,
        on.0,
        on.1,
        folded (λ p x q. goal.F-step g p x tt q) c.args.tell _ t.own.stop.told (Some c.in-Told.field) (told_of w.0) t.own.tells
            (c.loop.tell, w.4, c.tell.ensures),
      );
      always = let always = i.always in search of_calls;
    }

pub returns-in-End-clause-own : goal.returns-in-End-clause-own
returns-in-End-clause-own g c =
    let i = c.loop.invariant in let t = c.in-End.ensures in let w = i.walked in (
      told_of w.0,
      record {
        stops = w.0;
        looks = w.1;
        end = node_in c.loop.desk c.loop.node;
        at = c.loop.desk;
        walks = w.2;
        looked = w.3;
        leaves = t.own.0;
        none = t.own.1;
        tells = refl;
      },
      (c.loop.tell, w.4),
    )

pub returns-in-End-clause-others : goal.returns-in-End-clause-others
returns-in-End-clause-others g c = others_both c.loop.invariant.others c.visit.ensures.others

pub returns-in-End-clause-order : goal.returns-in-End-clause-order
returns-in-End-clause-order g c = order_both c.loop.invariant.order c.visit.ensures.order

pub visit-requires-clause-room : goal.visit-requires-clause-room
visit-requires-clause-room g c =
    let room = c.requires.room in let held = c.loop.invariant.held in let same = c.loop.invariant.same.allowance in omega arith

pub visit-requires-clause-carries : goal.visit-requires-clause-carries
visit-requires-clause-carries g c = c.loop.invariant.carries

pub visit-requires-clause-empty : goal.visit-requires-clause-empty
visit-requires-clause-empty g c = c.loop.invariant.none

pub returns-in-End-clause-carries : goal.returns-in-End-clause-carries
returns-in-End-clause-carries g c = c.in-End.ensures.carries

pub returns-in-End-clause-none : goal.returns-in-End-clause-none
returns-in-End-clause-none g c = c.in-End.ensures.none

pub returns-in-End-clause-desk : goal.returns-in-End-clause-desk
returns-in-End-clause-desk g c = same_then c.loop.invariant.same c.in-End.ensures.desk

pub returns-in-End-clause-held : goal.returns-in-End-clause-held
returns-in-End-clause-held g c = let one = c.in-End.ensures.held in let two = c.loop.invariant.held in omega arith

pub returns-in-End-clause-bag : goal.returns-in-End-clause-bag
returns-in-End-clause-bag g c base has = c.in-End.ensures.bag base (c.loop.invariant.bag base has)
