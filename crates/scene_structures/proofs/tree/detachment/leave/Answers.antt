use Rattle.std.proofs.Common.{[], ◌∷◌, sym, ap, ◌∙◌, subst}
use Rattle.scene_structures.proofs.Prelude.{does_none, in_no_cell, Lists, node_in, object_of}
use Rattle.scene_structures.proofs.Prelude.{PutsOnly, stacked}
use Rattle.scene_structures.proofs.Adopting.{these_node}
use Rattle.scene_structures.proofs.Detached.{hands_above, these_fewer, within_holds}
use Rattle.scene_structures.proofs.Unlinks.{unlinks_same}
use Rattle.scene_structures.proofs.Hands.{first_lists, hands_first, hands_kept, holds_first}
use Rattle.scene_structures.proofs.Hands.{lists_first, lists_under}
use Rattle.scene_structures.proofs.Leaving.{node_lives}
use Rattle.scene_structures.proofs.Pushes.{same_left}
use Rattle.scene_structures.proofs.Pruned.{hands_below}
use Rattle.scene_structures.proofs.Sites.{these_after, these_both}
use Rattle.scene_structures.proofs.Others.{others_both}
use Rattle.scene_structures.proofs.Orders.{order_both}
use Rattle.scene_structures.proofs.tree.detachment.leave.Goals as goal

pub cut_child-went-requires-clause-bag : goal.cut_child-went-requires-clause-bag
cut_child-went-requires-clause-bag g c =
    let b = c.requires.bag in let parent = c.args.parent in let node = c.args.node.now in (
      stacked (parent ∷ []) b.0,
      hands_below c.args.desk.now b.0 parent b.1,
      lists_first parent.block parent.place b.0,
      lists_under node.block parent.block node.place parent.place b.0 b.2,
    )

pub unlink-requires-clause-holds : goal.unlink-requires-clause-holds
unlink-requires-clause-holds g c =
    let b = c.requires.bag in let parent = c.args.parent in let node = c.args.node.now in let m = c.cut_child-went in
    let has = m.ensures.bag (stacked (parent ∷ []) b.0) (hands_below c.args.desk.now b.0 parent b.1) in
    within_holds m.new.desk node c.requires.node
    (subst (Lists node.block node.place) (sym has.bag) (lists_under node.block parent.block node.place parent.place b.0 b.2))

pub let_go-requires-clause-holds : goal.let_go-requires-clause-holds
let_go-requires-clause-holds g c =
    let d = c.args.desk.now in let b = c.requires.bag in let parent = c.args.parent in let m = c.cut_child-went in let u = c.unlink in
    let has = hands_above d m.new.desk b.0 parent b.1 (m.ensures.bag (stacked (parent ∷ []) b.0) (hands_below d b.0 parent b.1)) m.ensures.held in
    holds_first u.new.desk b.0 parent [] (hands_kept m.new.desk u.new.desk b.0 (parent ∷ []) has u.ensures.bag u.ensures.held)

pub returns-clause-bag : goal.returns-clause-bag
returns-clause-bag g c base has' =
    let d = c.args.desk.now in let parent = c.args.parent in let m = c.cut_child-went in let u = c.unlink in let e = c.let_go in
    let has = hands_above d m.new.desk base parent has' (m.ensures.bag (stacked (parent ∷ []) base) (hands_below d base parent has')) m.ensures.held in
    hands_first u.new.desk e.new.desk base parent [] (hands_kept m.new.desk u.new.desk base (parent ∷ []) has u.ensures.bag u.ensures.held)
    e.ensures.bag e.ensures.held

pub returns-clause-latest : goal.returns-clause-latest
returns-clause-latest g c base has' =
    let d = c.args.desk.now in let parent = c.args.parent in let m = c.cut_child-went in let u = c.unlink in let e = c.let_go in
    let below = hands_below d base parent has' in
    let has = hands_above d m.new.desk base parent has' (m.ensures.bag (stacked (parent ∷ []) base) below) m.ensures.held in
    let in_u = hands_kept m.new.desk u.new.desk base (parent ∷ []) has u.ensures.bag u.ensures.held in
    let in_e = hands_first u.new.desk e.new.desk base parent [] in_u e.ensures.bag e.ensures.held in
    these_both d m.new.desk e.new.desk base (these_fewer d m.new.desk (parent ∷ []) base (m.ensures.latest (stacked (parent ∷ []) base) below))
    (these_both m.new.desk u.new.desk e.new.desk base (these_after m.new.desk u.new.desk base (parent ∷ []) u.ensures.latest in_u)
    (these_after u.new.desk e.new.desk base [] e.ensures.latest in_e))

pub returns-clause-own : goal.returns-clause-own
returns-clause-own g c =
    let d = c.args.desk.now in let b = c.requires.bag in let parent = c.args.parent in let node = c.args.node.now in
    let m = c.cut_child-went in let u = c.unlink in
    let base = stacked (parent ∷ []) b.0 in
    let keeps = m.ensures.latest base (hands_below d b.0 parent b.1) in
    let same = these_node d m.new.desk base node keeps (lists_under node.block parent.block node.place parent.place b.0 b.2) in
    let same_p = these_node d m.new.desk base parent keeps (lists_first parent.block parent.place b.0) in
    let has = hands_above d m.new.desk b.0 parent b.1 (m.ensures.bag base (hands_below d b.0 parent b.1)) m.ensures.held in
    let in_u = hands_kept m.new.desk u.new.desk b.0 (parent ∷ []) has u.ensures.bag u.ensures.held in
    let lists_p = first_lists u.new.desk b.0 parent [] in_u in
    let lists_n = subst (Lists node.block node.place) (sym in_u.bag) (lists_under node.block parent.block node.place parent.place b.0 b.2) in
    let legal = c.assert_invariant.ensures.legal in
    record {
      at = d;
      comes = does_none (PutsOnly in_no_cell) d;
      passed = m.ensures.own.0;
      found = m.result;
      sought = m.new.desk;
      seeks = m.ensures.own.1;
      unlinked = u.new.desk;
      unlinks = unlinks_same m.result m.new.desk u.new.desk (object_of (node_in m.new.desk node)) (object_of (node_in d node)) (ap object_of same)
          u.ensures.own;
      live_parent = node_lives d u.new.desk parent c.requires.parent legal lists_p (same_left m.new.desk u.new.desk parent u.ensures.latest lists_p ∙ same_p);
      live_node = node_lives d u.new.desk node c.requires.node legal lists_n (same_left m.new.desk u.new.desk node u.ensures.latest lists_n ∙ same);
      leaves = c.let_go.ensures.own;
    }

pub returns-clause-others : goal.returns-clause-others
returns-clause-others g c = others_both c.cut_child-went.ensures.others (others_both c.unlink.ensures.others c.let_go.ensures.others)

pub returns-clause-order : goal.returns-clause-order
returns-clause-order g c = order_both c.cut_child-went.ensures.order (order_both c.unlink.ensures.order c.let_go.ensures.order)
