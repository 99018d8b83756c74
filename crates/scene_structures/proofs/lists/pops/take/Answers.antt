use Rattle.std.proofs.Common.{◌<◌, sym, refl, ◌∙◌, subst, arith}
use Rattle.scene_structures.proofs.Prelude.{same_both, same_desk, Shape}
use Rattle.scene_structures.proofs.Others.{others_both, others_none}
use Rattle.scene_structures.proofs.Kept.{same_then}
use Rattle.scene_structures.proofs.Orders.{order_both, order_none}
use Rattle.scene_structures.proofs.lists.pops.take.Goals as goal

pub loop-init : goal.loop-init
loop-init g c =
    record {
      carries = c.requires.carries;
      others = others_none c.args.desk.now c.args.pile.now.endings.items;
      order = order_none c.args.desk.now c.args.pile.now.endings.items;
      none = c.requires.empty;
      held = refl;
      same = same_desk c.args.desk.now;
      bag = λ base has. has;
      own = λ d l. l;
    }

pub loop-preserved : goal.loop-preserved
loop-preserved g c =
    let i = c.loop.invariant in let t = c.try_pop in let e = c.in-Again.ensures in
    record {
      carries = e.carries;
      others = others_both i.others e.others;
      order = order_both i.order e.order;
      none = e.none;
      held = e.held ∙ i.held;
      same = same_both c.args.desk.now c.loop.desk t.new.desk i.same e.desk;
      bag = λ base has. e.bag base (i.bag base has);
      own = λ d l. e.own d (i.own d l);
    }

pub try_pop-requires-clause-bag : goal.try_pop-requires-clause-bag
try_pop-requires-clause-bag g c = (c.requires.bag.0, c.loop.invariant.bag c.requires.bag.0 c.requires.bag.1)

pub try_pop-requires-clause-cell : goal.try_pop-requires-clause-cell
try_pop-requires-clause-cell g c =
    subst (λ (z : Shape). c.args.cell < z.shared_cells) (sym c.loop.invariant.same.shape) c.requires.cell

pub try_pop-requires-clause-carries : goal.try_pop-requires-clause-carries
try_pop-requires-clause-carries g c = c.loop.invariant.carries

pub try_pop-requires-clause-empty : goal.try_pop-requires-clause-empty
try_pop-requires-clause-empty g c = c.loop.invariant.none

pub try_pop-requires-clause-room : goal.try_pop-requires-clause-room
try_pop-requires-clause-room g c =
    let room = c.requires.room in let held = c.loop.invariant.held in let same = c.loop.invariant.same.allowance in omega arith

pub returns-in-Found : goal.returns-in-Found
returns-in-Found g c =
    let i = c.loop.invariant in let e = c.in-Found.ensures in
    record {
      carries = e.carries;
      others = others_both i.others e.others;
      order = order_both i.order e.order;
      none = e.none;
      desk = same_then i.same e.desk;
      bag = λ base has. e.bag base (i.bag base has);
      held = e.held ∙ i.held;
      own = λ d l. e.own d (i.own d l);
    }

pub returns-in-Took : goal.returns-in-Took
returns-in-Took g c =
    let i = c.loop.invariant in let e = c.in-Took.ensures in
    record {
      carries = e.carries;
      others = others_both i.others e.others;
      order = order_both i.order e.order;
      none = e.none;
      desk = same_then i.same e.desk;
      bag = λ base has. e.bag base (i.bag base has);
      held = e.held ∙ i.held;
      own = λ d l. e.own d (i.own d l);
    }
