use Rattle.std.proofs.Common.{ℕ, refl, ap, ◌∙◌, subst, arith}
use Rattle.scene_structures.proofs.Prelude.{Cell, does_both, does_none, in_no_cell, IsSought}
use Rattle.scene_structures.proofs.Prelude.{node_in, object_of, PutsOnly, same_both, same_desk}
use Rattle.scene_structures.proofs.Prelude.{shared_cell}
use Rattle.scene_structures.proofs.Adopting.{these_node}
use Rattle.scene_structures.proofs.Detached.{sought_later}
use Rattle.scene_structures.proofs.Sites.{cell_these, open_same, these_both}
use Rattle.scene_structures.proofs.Others.{others_both, others_none}
use Rattle.scene_structures.proofs.Kept.{same_then, held_from}
use Rattle.scene_structures.proofs.Orders.{order_both, order_none}
use Rattle.scene_structures.proofs.lists.removals.cut.Goals as goal

pub loop-init : goal.loop-init
loop-init g c =
    record {
      carries = c.requires.carries;
      others = others_none c.args.desk.now c.args.pile.now.endings.items;
      order = order_none c.args.desk.now c.args.pile.now.endings.items;
      none = c.requires.empty;
      held = refl;
      same = same_desk c.args.desk.now;
      bag = λ base has. has;
      latest = λ base has k p b in'. refl;
      tried = does_none (PutsOnly in_no_cell) c.args.desk.now;
    }

pub try_cut-requires-clause-bag : goal.try_cut-requires-clause-bag
try_cut-requires-clause-bag g c =
    let i = c.loop.invariant in let b = c.requires.bag in
    (b.0, i.bag b.0 b.1, open_same c.args.desk.now c.loop.desk b.0 c.args.at.now.site i.same.shape b.2, b.3)

pub loop-preserved : goal.loop-preserved
loop-preserved g c =
    let i = c.loop.invariant in let d = c.args.desk.now in let l = c.loop.desk in let t = c.try_cut.new.desk in let e = c.in-None-try_cut.ensures in
    record {
      carries = e.carries;
      others = others_both i.others e.others;
      order = order_both i.order e.order;
      none = e.none;
      held = e.held ∙ i.held;
      same = same_both d l t i.same e.desk;
      bag = λ base has. e.bag base (i.bag base has);
      latest = λ base has. these_both d l t base (i.latest base has) (e.latest base (i.bag base has));
      tried = does_both (PutsOnly in_no_cell) d l t i.tried e.own;
    }

pub returns-in-Some-try_cut-clause-own : goal.returns-in-Some-try_cut-clause-own
returns-in-Some-try_cut-clause-own g c =
    let i = c.loop.invariant in let d = c.args.desk.now in let l = c.loop.desk in let t = c.try_cut.new.desk in
    let b = c.requires.bag in let site = c.args.at.now.site in let node = c.args.node.now in let s = c.in-Some-try_cut.sought in
    let keeps = i.latest b.0 b.1 in
    let cell = cell_these d l d.shape b.0 site keeps b.2 in
    let number = ap object_of (these_node d l b.0 node keeps b.3) in
    sought_later d l t (shared_cell d site) (object_of (node_in d node)) s i.tried
    (subst (λ (n : ℕ). IsSought l (shared_cell d site) n s t) number
    (subst (λ (k : Cell). IsSought l k (object_of (node_in l node)) s t) cell c.in-Some-try_cut.ensures.own))

pub returns-in-Some-try_cut-clause-others : goal.returns-in-Some-try_cut-clause-others
returns-in-Some-try_cut-clause-others g c = others_both c.loop.invariant.others c.try_cut.ensures.others

pub returns-in-Some-try_cut-clause-order : goal.returns-in-Some-try_cut-clause-order
returns-in-Some-try_cut-clause-order g c = order_both c.loop.invariant.order c.try_cut.ensures.order

pub try_cut-requires-clause-room : goal.try_cut-requires-clause-room
try_cut-requires-clause-room g c =
    let room = c.requires.room in let held = c.loop.invariant.held in let same = c.loop.invariant.same.allowance in omega arith

pub try_cut-requires-clause-carries : goal.try_cut-requires-clause-carries
try_cut-requires-clause-carries g c = c.loop.invariant.carries

pub try_cut-requires-clause-empty : goal.try_cut-requires-clause-empty
try_cut-requires-clause-empty g c = c.loop.invariant.none

pub try_cut-requires-clause-node : goal.try_cut-requires-clause-node
try_cut-requires-clause-node g c = c.requires.node

pub returns-in-Some-try_cut-clause-carries : goal.returns-in-Some-try_cut-clause-carries
returns-in-Some-try_cut-clause-carries g c = c.in-Some-try_cut.ensures.carries

pub returns-in-Some-try_cut-clause-none : goal.returns-in-Some-try_cut-clause-none
returns-in-Some-try_cut-clause-none g c = c.in-Some-try_cut.ensures.none

pub returns-in-Some-try_cut-clause-desk : goal.returns-in-Some-try_cut-clause-desk
returns-in-Some-try_cut-clause-desk g c = same_then c.loop.invariant.same c.in-Some-try_cut.ensures.desk

pub returns-in-Some-try_cut-clause-held : goal.returns-in-Some-try_cut-clause-held
returns-in-Some-try_cut-clause-held g c =
    held_from c.args.desk.now c.loop.desk c.try_cut.new.desk c.in-Some-try_cut.sought c.loop.invariant.held c.in-Some-try_cut.ensures.held

pub returns-in-Some-try_cut-clause-bag : goal.returns-in-Some-try_cut-clause-bag
returns-in-Some-try_cut-clause-bag g c base has = c.in-Some-try_cut.ensures.bag base (c.loop.invariant.bag base has)

pub returns-in-Some-try_cut-clause-latest : goal.returns-in-Some-try_cut-clause-latest
returns-in-Some-try_cut-clause-latest g c base has =
    let i = c.loop.invariant in
    these_both c.args.desk.now c.loop.desk c.try_cut.new.desk base (i.latest base has) (c.in-Some-try_cut.ensures.latest base (i.bag base has))
