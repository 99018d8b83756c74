use Rattle.std.proofs.Common.{◌≡◌, ℕ, ◌+◌, true, false, List, [], ◌∷◌, refl, ap, subst, arith}
use Rattle.scene_structures.proofs.Prelude.{HasHands, HeldSought, IsEnd, IsSought, Meets, node_in}
use Rattle.scene_structures.proofs.Prelude.{NumberedHandle, object_of, same_both, same_desk}
use Rattle.scene_structures.proofs.Prelude.{shared_cell, Sought, stacked}
use Rattle.scene_structures.proofs.Adopting.{these_node}
use Rattle.scene_structures.proofs.Detached.{below_left, below_these, beyond, reaches_on, seeks_on}
use Rattle.scene_structures.proofs.Detached.{sought_left}
use Rattle.scene_structures.proofs.Hands.{first_lists, hands_second, lists_under}
use Rattle.scene_structures.proofs.Pruned.{Left, hands_below, left_holds, open_next}
use Rattle.scene_structures.proofs.Pushes.{same_left}
use Rattle.scene_structures.proofs.Others.{others_both, others_none}
use Rattle.scene_structures.proofs.Kept.{same_then}
use Rattle.scene_structures.proofs.Looks.{no_member}
use Rattle.scene_structures.proofs.Orders.{order_both, order_none}
use Rattle.scene_structures.proofs.lists.removals.cut_below.Goals as goal

pub loop-init : goal.loop-init
loop-init g c =
    record {
      carries = c.requires.carries;
      others = others_none c.args.desk.now c.args.pile.now.endings.items;
      order = order_none c.args.desk.now c.args.pile.now.endings.items;
      none = c.requires.empty;
      held = refl;
      same = same_desk c.args.desk.now;
      node = c.requires.first;
      bag = λ base has. has;
      latest = λ base has k p b in'. refl;
      own = λ d k bs reaches. (bs, reaches);
    }

pub cut-sought-requires-clause-bag : goal.cut-sought-requires-clause-bag
cut-sought-requires-clause-bag g c =
    let l = c.loop.desk in let before = c.loop.before in let b = c.requires.bag in let node = c.args.node.now in (
      stacked (before ∷ []) b.0,
      hands_below l b.0 before (c.loop.invariant.bag b.0 b.1),
      open_next b.0 before c.in-Ok.next l.shape c.in-Ok.ensures,
      lists_under node.block before.block node.place before.place b.0 b.2,
    )

pub let_go-requires-clause-holds : goal.let_go-requires-clause-holds
let_go-requires-clause-holds g c =
    let l = c.loop.desk in let before = c.loop.before in let base = c.requires.bag.0 in let m = c.cut-sought in let t = m.new.desk in
    let has = c.loop.invariant.bag base c.requires.bag.1 in
    left_holds t base before (beyond m.result)
    (sought_left l t base before m.result has (m.ensures.bag (stacked (before ∷ []) base) (hands_below l base before has)) m.ensures.held)

pub returns-in-Cut-clause-bag : goal.returns-in-Cut-clause-bag
returns-in-Cut-clause-bag g c base has' =
    let l = c.loop.desk in let before = c.loop.before in let m = c.cut-sought in let e = c.let_go in
    let has = c.loop.invariant.bag base has' in
    below_left l m.new.desk e.new.desk base before m.result has (m.ensures.bag (stacked (before ∷ []) base) (hands_below l base before has))
    m.ensures.held (ap beyond c.in-Cut.is) e.ensures.bag e.ensures.held

pub returns-in-Cut-clause-latest : goal.returns-in-Cut-clause-latest
returns-in-Cut-clause-latest g c base has' =
    let l = c.loop.desk in let before = c.loop.before in let m = c.cut-sought in let e = c.let_go in
    let i = c.loop.invariant in let has = i.bag base has' in
    below_these c.args.desk.now l m.new.desk e.new.desk base before [] (i.latest base has')
    (m.ensures.latest (stacked (before ∷ []) base) (hands_below l base before has)) e.ensures.latest (returns-in-Cut-clause-bag g c base has')

pub returns-in-Cut-clause-own : goal.returns-in-Cut-clause-own
returns-in-Cut-clause-own g c d k bs reaches =
    let l = c.loop.desk in let before = c.loop.before in let m = c.cut-sought in let t = m.new.desk in let e = c.let_go.new.desk in
    let i = c.loop.invariant in let b = c.requires.bag in let node = c.args.node.now in let cell = shared_cell l c.in-Ok.next.site in
    let w = i.own d k bs reaches in
    let number = ap object_of (these_node c.args.desk.now l b.0 node (i.latest b.0 b.1) b.2) in
    let found = subst (λ (s : Sought). IsSought l cell (object_of (node_in l node)) s t) c.in-Cut.is m.ensures.own in (
      object_of (node_in l before) ∷ w.0,
      seeks_on d l t e k (object_of (node_in c.args.desk.now node)) w.0 before c.in-Ok.next true c.in-Ok.ensures w.1
          (subst (λ (n : ℕ). IsEnd l cell n true t) number found) c.let_go.ensures.own,
    )

pub returns-in-End-clause-bag : goal.returns-in-End-clause-bag
returns-in-End-clause-bag g c base has' =
    let l = c.loop.desk in let before = c.loop.before in let m = c.cut-sought in let e = c.let_go in
    let has = c.loop.invariant.bag base has' in
    below_left l m.new.desk e.new.desk base before m.result has (m.ensures.bag (stacked (before ∷ []) base) (hands_below l base before has))
    m.ensures.held (ap beyond c.in-End.is) e.ensures.bag e.ensures.held

pub returns-in-End-clause-latest : goal.returns-in-End-clause-latest
returns-in-End-clause-latest g c base has' =
    let l = c.loop.desk in let before = c.loop.before in let m = c.cut-sought in let e = c.let_go in
    let i = c.loop.invariant in let has = i.bag base has' in
    below_these c.args.desk.now l m.new.desk e.new.desk base before [] (i.latest base has')
    (m.ensures.latest (stacked (before ∷ []) base) (hands_below l base before has)) e.ensures.latest (returns-in-End-clause-bag g c base has')

pub returns-in-End-clause-own : goal.returns-in-End-clause-own
returns-in-End-clause-own g c d k bs reaches =
    let l = c.loop.desk in let before = c.loop.before in let m = c.cut-sought in let t = m.new.desk in let e = c.let_go.new.desk in
    let i = c.loop.invariant in let b = c.requires.bag in let node = c.args.node.now in let cell = shared_cell l c.in-Ok.next.site in
    let w = i.own d k bs reaches in
    let number = ap object_of (these_node c.args.desk.now l b.0 node (i.latest b.0 b.1) b.2) in
    let found = subst (λ (s : Sought). IsSought l cell (object_of (node_in l node)) s t) c.in-End.is m.ensures.own in (
      object_of (node_in l before) ∷ w.0,
      seeks_on d l t e k (object_of (node_in c.args.desk.now node)) w.0 before c.in-Ok.next false c.in-Ok.ensures w.1
          (subst (λ (n : ℕ). IsEnd l cell n false t) number found) c.let_go.ensures.own,
    )

pub loop-preserved : goal.loop-preserved
loop-preserved g c =
    let i = c.loop.invariant in let d = c.args.desk.now in let l = c.loop.desk in let before = c.loop.before in let m = c.cut-sought in
    let t = m.new.desk in let e = c.let_go.new.desk in let after = c.in-Other.after in let is = c.in-Other.is in
    let node = c.args.node.now in let b = c.requires.bag in let cell = shared_cell l c.in-Ok.next.site in
    let number = ap object_of (these_node d l b.0 node (i.latest b.0 b.1) b.2) in
    let found = subst (λ (s : Sought). IsSought l cell (object_of (node_in l node)) s t) is m.ensures.own in
    let has_e : (base : List NumberedHandle) → HasHands base (c.args.first ∷ []) d → HasHands base (after ∷ []) e = λ base has'.
    let has = i.bag base has' in
    let left = sought_left l t base before m.result has (m.ensures.bag (stacked (before ∷ []) base) (hands_below l base before has)) m.ensures.held in
    hands_second t e base after before [] (subst (λ (s : Sought). Left base before (beyond s) t) is left) c.let_go.ensures.bag c.let_go.ensures.held in
    record {
      carries = c.let_go.ensures.carries;
      others = others_both i.others (others_both m.ensures.others c.let_go.ensures.others);
      order = order_both i.order (order_both m.ensures.order c.let_go.ensures.order);
      none = c.let_go.ensures.none;
      held = let x : t.held ≡ l.held + 1 = subst (λ (s : Sought). HeldSought l s t) is m.ensures.held in let y = c.let_go.ensures.held in
          let z = i.held in omega arith;
      same = same_both d l e i.same (same_both l t e m.ensures.desk c.let_go.ensures.desk);
      node = found.within;
      bag = has_e;
      latest = λ base has'.
          below_these d l t e base before (after ∷ []) (i.latest base has')
          (m.ensures.latest (stacked (before ∷ []) base) (hands_below l base before (i.bag base has'))) c.let_go.ensures.latest (has_e base has');
      own = λ f k bs reaches.
          let w = i.own f k bs reaches in
          let same = same_left t e after c.let_go.ensures.latest (first_lists e b.0 after [] (has_e b.0 b.1)) in (
            object_of (node_in l before) ∷ w.0,
            reaches_on f l t e k (object_of (node_in d node)) w.0 before after c.in-Ok.next c.in-Ok.ensures w.1
                (subst (λ (n : ℕ). Meets l cell n after t) number found) c.let_go.ensures.own same,
          );
    }

pub returns-in-Cut-clause-others : goal.returns-in-Cut-clause-others
returns-in-Cut-clause-others g c = others_both c.loop.invariant.others (others_both c.cut-sought.ensures.others c.let_go.ensures.others)

pub returns-in-Cut-clause-order : goal.returns-in-Cut-clause-order
returns-in-Cut-clause-order g c = order_both c.loop.invariant.order (order_both c.cut-sought.ensures.order c.let_go.ensures.order)

pub returns-in-End-clause-others : goal.returns-in-End-clause-others
returns-in-End-clause-others g c = others_both c.loop.invariant.others (others_both c.cut-sought.ensures.others c.let_go.ensures.others)

pub returns-in-End-clause-order : goal.returns-in-End-clause-order
returns-in-End-clause-order g c = order_both c.loop.invariant.order (order_both c.cut-sought.ensures.order c.let_go.ensures.order)

pub cut-sought-requires-clause-room : goal.cut-sought-requires-clause-room
cut-sought-requires-clause-room g c =
    let room = c.requires.room in let held = c.loop.invariant.held in let same = c.loop.invariant.same.allowance in omega arith

pub cut-sought-requires-clause-carries : goal.cut-sought-requires-clause-carries
cut-sought-requires-clause-carries g c = c.loop.invariant.carries

pub cut-sought-requires-clause-empty : goal.cut-sought-requires-clause-empty
cut-sought-requires-clause-empty g c = c.loop.invariant.none

pub cut-sought-requires-clause-node : goal.cut-sought-requires-clause-node
cut-sought-requires-clause-node g c = c.requires.node

pub let_go-requires-clause-carries : goal.let_go-requires-clause-carries
let_go-requires-clause-carries g c = c.cut-sought.ensures.carries

pub unreachable-requires : goal.unreachable-requires
unreachable-requires g c =
    let before = c.loop.before in
    no_member _ before.block before.place c.member.result c.member.ensures c.in_default.not-Ok c.loop.invariant.node

pub returns-in-Cut-clause-carries : goal.returns-in-Cut-clause-carries
returns-in-Cut-clause-carries g c = c.let_go.ensures.carries

pub returns-in-Cut-clause-none : goal.returns-in-Cut-clause-none
returns-in-Cut-clause-none g c = c.let_go.ensures.none

pub returns-in-Cut-clause-desk : goal.returns-in-Cut-clause-desk
returns-in-Cut-clause-desk g c = same_then c.loop.invariant.same (same_then c.cut-sought.ensures.desk c.let_go.ensures.desk)

pub returns-in-Cut-clause-held : goal.returns-in-Cut-clause-held
returns-in-Cut-clause-held g c =
    let l = c.loop.desk in let m = c.cut-sought in let t = m.new.desk in
    let one = subst (λ (s : Sought). HeldSought l s t) c.in-Cut.is m.ensures.held in let two = c.let_go.ensures.held in let three = c.loop.invariant.held in
    omega arith

pub returns-in-End-clause-carries : goal.returns-in-End-clause-carries
returns-in-End-clause-carries g c = c.let_go.ensures.carries

pub returns-in-End-clause-none : goal.returns-in-End-clause-none
returns-in-End-clause-none g c = c.let_go.ensures.none

pub returns-in-End-clause-desk : goal.returns-in-End-clause-desk
returns-in-End-clause-desk g c = same_then c.loop.invariant.same (same_then c.cut-sought.ensures.desk c.let_go.ensures.desk)

pub returns-in-End-clause-held : goal.returns-in-End-clause-held
returns-in-End-clause-held g c =
    let l = c.loop.desk in let m = c.cut-sought in let t = m.new.desk in
    let one = subst (λ (s : Sought). HeldSought l s t) c.in-End.is m.ensures.held in let two = c.let_go.ensures.held in let three = c.loop.invariant.held in
    omega arith
