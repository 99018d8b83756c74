use Rattle.std.proofs.Common.{◌≡◌, suc, true, false, refl, ◌∙◌, subst, arith}
use Rattle.scene_structures.proofs.Prelude.{Cell, Finds, FindsNone, node_in, object_of, PassesNode}
use Rattle.scene_structures.proofs.Prelude.{same_both, same_desk}
use Rattle.scene_structures.proofs.Sites.{cell_these, these_both, open_same}
use Rattle.scene_structures.proofs.Others.{others_both, others_none}
use Rattle.scene_structures.proofs.Kept.{same_then}
use Rattle.scene_structures.proofs.Orders.{order_both, order_none}
use Rattle.scene_structures.proofs.lists.prunes.clear_front.Goals as goal

pub loop-preserved : goal.loop-preserved
loop-preserved g c =
    let i = c.loop.invariant in let d = c.args.desk.now in let l = c.loop.desk in let f = c.look_in.new.desk in let e = c.pass.new.desk in
    let t = c.in-Gone.ensures in let p = c.pass.ensures in let node = c.in-Gone.node in let b = c.requires.bag in let site = c.args.at.now.site in
    let held : e.held ≡ d.held = (let x = p.held in let y = t.held in let z = i.held in omega arith) in
    let same_l = cell_these d l d.shape b.0 site (i.latest b.0 b.1) b.2 in
    let same_f = cell_these d f d.shape b.0 site (these_both d l f b.0 (i.latest b.0 b.1) (t.latest b.0 (i.bag b.0 b.1))) b.2 in
    record {
      carries = p.carries;
      others = others_both i.others (others_both c.look_in.ensures.others p.others);
      order = order_both i.order (order_both c.look_in.ensures.order p.order);
      none = p.none;
      held = held;
      same = same_both d l e i.same (same_both l f e t.desk p.desk);
      bag = λ base has. p.bag base (t.bag base (i.bag base has));
      latest = λ base has. these_both d l e base (i.latest base has)
          (these_both l f e base (t.latest base (i.bag base has)) (p.latest base (t.bag base (i.bag base has))));
      own = (
        suc i.own.0,
        let x = i.own.1 in omega arith,
        (
          l,
          i.own.2,
          record {
            node = node;
            found = f;
            finds = subst (λ (k : Cell). Finds l k node true f) same_l t.own.0;
            within = t.own.1;
            passes = subst (λ (k : Cell). PassesNode f k (object_of (node_in f node)) e) same_f p.own;
          },
        ),
      );
    }

pub returns-in-End-clause-others : goal.returns-in-End-clause-others
returns-in-End-clause-others g c = others_both c.loop.invariant.others c.look_in.ensures.others

pub returns-in-End-clause-order : goal.returns-in-End-clause-order
returns-in-End-clause-order g c = order_both c.loop.invariant.order c.look_in.ensures.order

pub returns-in-Stays-clause-others : goal.returns-in-Stays-clause-others
returns-in-Stays-clause-others g c = others_both c.loop.invariant.others c.look_in.ensures.others

pub returns-in-Stays-clause-order : goal.returns-in-Stays-clause-order
returns-in-Stays-clause-order g c = order_both c.loop.invariant.order c.look_in.ensures.order

pub loop-init : goal.loop-init
loop-init g c =
    record {
      carries = c.requires.carries;
      others = others_none c.args.desk.now c.args.pile.now.endings.items;
      order = order_none c.args.desk.now c.args.pile.now.endings.items;
      none = c.requires.empty;
      held = refl;
      same = same_desk c.args.desk.now;
      bag = λ base has. has;
      latest = λ base has k p b in'. refl;
      own = (0, refl, refl);
    }

pub look_in-requires-clause-bag : goal.look_in-requires-clause-bag
look_in-requires-clause-bag g c =
    let i = c.loop.invariant in let b = c.requires.bag in
    (b.0, i.bag b.0 b.1, open_same c.args.desk.now c.loop.desk b.0 c.args.at.now.site i.same.shape b.2)

pub look_in-requires-clause-room : goal.look_in-requires-clause-room
look_in-requires-clause-room g c =
    let room = c.requires.room in let held = c.loop.invariant.held in let same = c.loop.invariant.same.allowance in omega arith

pub look_in-requires-clause-carries : goal.look_in-requires-clause-carries
look_in-requires-clause-carries g c = c.loop.invariant.carries

pub look_in-requires-clause-empty : goal.look_in-requires-clause-empty
look_in-requires-clause-empty g c = c.loop.invariant.none

pub pass-requires-clause-bag : goal.pass-requires-clause-bag
pass-requires-clause-bag g c =
    let i = c.loop.invariant in let b = c.requires.bag in let t = c.in-Gone.ensures in
    (b.0, t.bag b.0 (i.bag b.0 b.1), open_same c.args.desk.now c.look_in.new.desk b.0 c.args.at.now.site (t.desk.shape ∙ i.same.shape) b.2)

pub pass-requires-clause-room : goal.pass-requires-clause-room
pass-requires-clause-room g c =
    let room = c.requires.room in let held = c.loop.invariant.held in let same = c.loop.invariant.same.allowance in
    let more = c.in-Gone.ensures.held in let again = c.in-Gone.ensures.desk.allowance in omega arith

pub pass-requires-clause-carries : goal.pass-requires-clause-carries
pass-requires-clause-carries g c = c.in-Gone.ensures.carries

pub pass-requires-clause-empty : goal.pass-requires-clause-empty
pass-requires-clause-empty g c = c.in-Gone.ensures.none

pub pass-requires-clause-node : goal.pass-requires-clause-node
pass-requires-clause-node g c = c.in-Gone.ensures.own.1

pub returns-in-End-clause-carries : goal.returns-in-End-clause-carries
returns-in-End-clause-carries g c = c.in-End.ensures.carries

pub returns-in-End-clause-none : goal.returns-in-End-clause-none
returns-in-End-clause-none g c = c.in-End.ensures.none

pub returns-in-End-clause-desk : goal.returns-in-End-clause-desk
returns-in-End-clause-desk g c = same_then c.loop.invariant.same c.in-End.ensures.desk

pub returns-in-End-clause-held : goal.returns-in-End-clause-held
returns-in-End-clause-held g c = c.in-End.ensures.held ∙ c.loop.invariant.held

pub returns-in-End-clause-node : goal.returns-in-End-clause-node
returns-in-End-clause-node g c = tt

pub returns-in-End-clause-bag : goal.returns-in-End-clause-bag
returns-in-End-clause-bag g c base has = c.in-End.ensures.bag base (c.loop.invariant.bag base has)

pub returns-in-End-clause-latest : goal.returns-in-End-clause-latest
returns-in-End-clause-latest g c base has =
    let i = c.loop.invariant in
    these_both c.args.desk.now c.loop.desk c.look_in.new.desk base (i.latest base has) (c.in-End.ensures.latest base (i.bag base has))

pub returns-in-End-clause-own : goal.returns-in-End-clause-own
returns-in-End-clause-own g c =
    let i = c.loop.invariant in let d = c.args.desk.now in let l = c.loop.desk in let f = c.look_in.new.desk in let b = c.requires.bag in
    let same_l = cell_these d l d.shape b.0 c.args.at.now.site (i.latest b.0 b.1) b.2 in
    (i.own.0, i.own.1, record { cleared = l; cuts = i.own.2; front = subst (λ (k : Cell). FindsNone l k f) same_l c.in-End.ensures.own })

pub returns-in-Stays-clause-carries : goal.returns-in-Stays-clause-carries
returns-in-Stays-clause-carries g c = c.in-Stays.ensures.carries

pub returns-in-Stays-clause-none : goal.returns-in-Stays-clause-none
returns-in-Stays-clause-none g c = c.in-Stays.ensures.none

pub returns-in-Stays-clause-desk : goal.returns-in-Stays-clause-desk
returns-in-Stays-clause-desk g c = same_then c.loop.invariant.same c.in-Stays.ensures.desk

pub returns-in-Stays-clause-held : goal.returns-in-Stays-clause-held
returns-in-Stays-clause-held g c = let one = c.in-Stays.ensures.held in let two = c.loop.invariant.held in omega arith

pub returns-in-Stays-clause-node : goal.returns-in-Stays-clause-node
returns-in-Stays-clause-node g c = c.in-Stays.ensures.own.1

pub returns-in-Stays-clause-bag : goal.returns-in-Stays-clause-bag
returns-in-Stays-clause-bag g c base has = c.in-Stays.ensures.bag base (c.loop.invariant.bag base has)

pub returns-in-Stays-clause-latest : goal.returns-in-Stays-clause-latest
returns-in-Stays-clause-latest g c base has =
    let i = c.loop.invariant in
    these_both c.args.desk.now c.loop.desk c.look_in.new.desk base (i.latest base has) (c.in-Stays.ensures.latest base (i.bag base has))

pub returns-in-Stays-clause-own : goal.returns-in-Stays-clause-own
returns-in-Stays-clause-own g c =
    let i = c.loop.invariant in let d = c.args.desk.now in let l = c.loop.desk in let f = c.look_in.new.desk in let b = c.requires.bag in
    let own = c.in-Stays.ensures.own in
    let same_l = cell_these d l d.shape b.0 c.args.at.now.site (i.latest b.0 b.1) b.2 in (
      i.own.0,
      i.own.1,
      record { cleared = l; cuts = i.own.2; front = (subst (λ (k : Cell). Finds l k c.in-Stays.node false f) same_l own.0, own.1) },
    )
