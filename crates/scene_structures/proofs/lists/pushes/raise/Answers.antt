use Rattle.std.proofs.Common.{sym, refl, ap, ◌∙◌, subst, arith}
use Rattle.scene_structures.proofs.Prelude.{Cell, Does, does_both, does_none, IsWithin, NextOf}
use Rattle.scene_structures.proofs.Prelude.{node_in, NumberedHandle, object_of, PutsOnly, Rises}
use Rattle.scene_structures.proofs.Prelude.{same_both, same_desk, SameNode, Shared, shared_cell}
use Rattle.scene_structures.proofs.Pushes.{rises_later}
use Rattle.scene_structures.proofs.Sites.{cell_these, open_same, these_both}
use Rattle.scene_structures.proofs.Others.{others_both, others_none}
use Rattle.scene_structures.proofs.Kept.{same_then}
use Rattle.scene_structures.proofs.Orders.{order_both, order_none}
use Rattle.scene_structures.proofs.lists.pushes.raise.Goals as goal

pub loop-init : goal.loop-init
loop-init g c =
    let d = c.args.desk.now in
    record {
      carries = c.requires.carries;
      others = others_none c.args.desk.now c.args.pile.now.endings.items;
      order = order_none c.args.desk.now c.args.pile.now.endings.items;
      node = (refl, refl);
      held = refl;
      latest = λ base has k p b in'. refl;
      same = same_desk d;
      bag = λ base has. has;
      own = does_none _ d;
    }

pub loop-preserved : goal.loop-preserved
loop-preserved g c =
    let d = c.args.desk.now in let i = c.loop.invariant in let t = c.try_push in let e = c.in-Some-try_push.ensures in
    let l = c.loop.desk in let first = c.args.first in let f = t.new.desk in
    let here = ap (node_in l) i.node.0 ∙ i.node.1 in
    record {
      carries = e.carries;
      others = others_both i.others e.others;
      order = order_both i.order e.order;
      node = (e.node.0 ∙ i.node.0, subst (λ (n : Shared). SameNode l n f) i.node.0 e.node.1 ∙ i.node.1);
      held = e.held ∙ i.held;
      latest = λ base has. these_both d l f base (i.latest base has) (e.latest base (i.bag base has));
      same = same_both d l f i.same e.desk;
      bag = λ base has. e.bag base (i.bag base has);
      own = does_both (PutsOnly (NextOf (object_of (node_in d first.node)))) d l f i.own
          (subst (λ (h : NumberedHandle). Does (PutsOnly (NextOf (object_of h))) l f) here e.own);
    }

pub try_push-requires-clause-node : goal.try_push-requires-clause-node
try_push-requires-clause-node g c =
    subst (λ (n : Shared). IsWithin n.block n.place) (sym c.loop.invariant.node.0) c.requires.node

pub try_push-requires-clause-bag : goal.try_push-requires-clause-bag
try_push-requires-clause-bag g c = (
  c.requires.bag.0,
  c.loop.invariant.bag c.requires.bag.0 c.requires.bag.1,
  open_same c.args.desk.now c.loop.desk c.requires.bag.0 c.args.at.now.site c.loop.invariant.same.shape c.requires.bag.2,
)

pub returns-in-None-try_push-clause-own : goal.returns-in-None-try_push-clause-own
returns-in-None-try_push-clause-own g c =
    let i = c.loop.invariant in let l = c.loop.desk in let f = c.try_push.new.desk in let d = c.args.desk.now in
    rises_later d l f (shared_cell d c.args.at.now.site) (node_in d c.args.first.node) i.own
    (subst (λ (k : Cell). Rises l k (node_in d c.args.first.node) f)
    (cell_these d l d.shape c.requires.bag.0 c.args.at.now.site (i.latest c.requires.bag.0 c.requires.bag.1) c.requires.bag.2)
    (subst (λ (h : NumberedHandle). Rises l (shared_cell l c.args.at.now.site) h f) (ap (node_in l) i.node.0 ∙ i.node.1) c.in-None-try_push.ensures.own))

pub returns-in-None-try_push-clause-latest : goal.returns-in-None-try_push-clause-latest
returns-in-None-try_push-clause-latest g c base has =
    let i = c.loop.invariant in
    these_both c.args.desk.now c.loop.desk c.try_push.new.desk base (i.latest base has) (c.in-None-try_push.ensures.latest base (i.bag base has))

pub returns-in-None-try_push-clause-others : goal.returns-in-None-try_push-clause-others
returns-in-None-try_push-clause-others g c = others_both c.loop.invariant.others c.try_push.ensures.others

pub returns-in-None-try_push-clause-order : goal.returns-in-None-try_push-clause-order
returns-in-None-try_push-clause-order g c = order_both c.loop.invariant.order c.try_push.ensures.order

pub try_push-requires-clause-room : goal.try_push-requires-clause-room
try_push-requires-clause-room g c =
    let room = c.requires.room in let held = c.loop.invariant.held in let same = c.loop.invariant.same.allowance in omega arith

pub try_push-requires-clause-carries : goal.try_push-requires-clause-carries
try_push-requires-clause-carries g c = c.loop.invariant.carries

pub returns-in-None-try_push-clause-carries : goal.returns-in-None-try_push-clause-carries
returns-in-None-try_push-clause-carries g c = c.in-None-try_push.ensures.carries

pub returns-in-None-try_push-clause-none : goal.returns-in-None-try_push-clause-none
returns-in-None-try_push-clause-none g c = c.in-None-try_push.ensures.none

pub returns-in-None-try_push-clause-desk : goal.returns-in-None-try_push-clause-desk
returns-in-None-try_push-clause-desk g c = same_then c.loop.invariant.same c.in-None-try_push.ensures.desk

pub returns-in-None-try_push-clause-held : goal.returns-in-None-try_push-clause-held
returns-in-None-try_push-clause-held g c = let one = c.in-None-try_push.ensures.held in let two = c.loop.invariant.held in omega arith

pub returns-in-None-try_push-clause-bag : goal.returns-in-None-try_push-clause-bag
returns-in-None-try_push-clause-bag g c base has = c.in-None-try_push.ensures.bag base (c.loop.invariant.bag base has)
