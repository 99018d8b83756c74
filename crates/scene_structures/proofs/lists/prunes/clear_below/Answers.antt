use Rattle.std.proofs.Common.{◌≡◌, ◌+◌, [], ◌∷◌, IfSome, Some, None, Option, MatchOption, sym}
use Rattle.std.proofs.Common.{refl, subst, arith}
use Rattle.scene_structures.proofs.Prelude.{IsWithin, node_in, object_of, Prunes, same_both}
use Rattle.scene_structures.proofs.Prelude.{same_desk, SameKept, Shared, stacked}
use Rattle.scene_structures.proofs.Hands.{first_lists, hands_first, hands_second}
use Rattle.scene_structures.proofs.Pushes.{same_left}
use Rattle.scene_structures.proofs.Pruned.{Left, descends, hands_below, left_holds, left_in_hand}
use Rattle.scene_structures.proofs.Pruned.{open_next}
use Rattle.scene_structures.proofs.Others.{others_both, others_none}
use Rattle.scene_structures.proofs.Kept.{same_then}
use Rattle.scene_structures.proofs.Looks.{no_member}
use Rattle.scene_structures.proofs.Orders.{order_both, order_none}
use Rattle.scene_structures.proofs.lists.prunes.clear_below.Goals as goal

pub loop-init : goal.loop-init
loop-init g c =
    record {
      carries = c.requires.carries;
      others = others_none c.args.desk.now c.args.pile.now.endings.items;
      order = order_none c.args.desk.now c.args.pile.now.endings.items;
      none = c.requires.empty;
      held = refl;
      same = same_desk c.args.desk.now;
      node = c.requires.node;
      bag = λ base has. has;
      own = λ d k os a p. (
        0,
        refl,
        (os, let e : a ≡ a + 0 = omega arith in subst (λ n. Prunes d k os n (Some c.args.first) c.args.desk.now) e p),
      );
    }

pub clear_front-more-requires-clause-bag : goal.clear_front-more-requires-clause-bag
clear_front-more-requires-clause-bag g c =
    let l = c.loop.desk in let node = c.loop.node in let base = c.requires.bag.0 in
    (stacked (node ∷ []) base, hands_below l base node (c.loop.invariant.bag base c.requires.bag.1), open_next base node c.in-Ok.next l.shape c.in-Ok.ensures)

pub let_go-requires-clause-holds : goal.let_go-requires-clause-holds
let_go-requires-clause-holds g c =
    let l = c.loop.desk in let node = c.loop.node in let base = c.requires.bag.0 in let m = c.clear_front-more in
    let has = c.loop.invariant.bag base c.requires.bag.1 in
    left_holds m.new.desk base node m.result.1
    (left_in_hand l m.new.desk base node m.result.1 has (m.ensures.bag (stacked (node ∷ []) base) (hands_below l base node has)) m.ensures.held)

pub returns-in-None-last-clause-bag : goal.returns-in-None-last-clause-bag
returns-in-None-last-clause-bag g c base has' =
    let l = c.loop.desk in let node = c.loop.node in let m = c.clear_front-more in
    let has = c.loop.invariant.bag base has' in
    let left = left_in_hand l m.new.desk base node m.result.1 has (m.ensures.bag (stacked (node ∷ []) base) (hands_below l base node has)) m.ensures.held in
    hands_first m.new.desk c.let_go.new.desk base node [] (subst (λ (o : Option Shared). Left base node o m.new.desk) c.in-None-last.is left)
    c.let_go.ensures.bag c.let_go.ensures.held

pub returns-in-None-last-clause-own : goal.returns-in-None-last-clause-own
returns-in-None-last-clause-own g c d k os a p =
    let l = c.loop.desk in let node = c.loop.node in let m = c.clear_front-more in let e = c.let_go.new.desk in
    let w = c.loop.invariant.own d k os a p in let b = m.ensures.own in
    let same = subst (λ (h : Option Shared). SameKept m.new.desk h e) (sym c.in-None-last.is) tt in
    let down = descends d l m.new.desk e k w.2.0 (a + w.0) b.0 node c.in-Ok.next m.result.1 c.in-Ok.ensures w.2.1 b.2 c.let_go.ensures.own same in
    let o = object_of (node_in l node) in (
      w.0 + b.0,
      let x = w.1 in let y = b.1 in omega arith,
      (
        o ∷ w.2.0,
        let sum : a + w.0 + b.0 ≡ a + (w.0 + b.0) = omega arith in
            subst (λ n. Prunes d k (o ∷ w.2.0) n None e) sum
            (subst (λ (h : Option Shared). Prunes d k (o ∷ w.2.0) (a + w.0 + b.0) h e) c.in-None-last.is down),
      ),
    )

pub loop-preserved : goal.loop-preserved
loop-preserved g c =
    let i = c.loop.invariant in let l = c.loop.desk in let node = c.loop.node in let m = c.clear_front-more in let t = m.new.desk in
    let e = c.let_go.new.desk in
    let after = c.in-Some-last.after in let some' = c.in-Some-last.is in
    record {
      carries = c.let_go.ensures.carries;
      others = others_both i.others (others_both m.ensures.others c.let_go.ensures.others);
      order = order_both i.order (order_both m.ensures.order c.let_go.ensures.order);
      none = c.let_go.ensures.none;
      held = let x : t.held ≡ l.held + 1 = subst (λ (h : Option Shared). MatchOption h (t.held ≡ l.held) (λ k. t.held ≡ l.held + 1)) some'
          m.ensures.held in let y = c.let_go.ensures.held in let z = i.held in omega arith;
      same = same_both c.args.desk.now l e i.same (same_both l t e m.ensures.desk c.let_go.ensures.desk);
      node = subst (λ (h : Option Shared). IfSome h (λ k. IsWithin k.block k.place)) some' m.ensures.node;
      bag = λ base has'.
          let has = i.bag base has' in
          let left = left_in_hand l t base node m.result.1 has (m.ensures.bag (stacked (node ∷ []) base) (hands_below l base node has)) m.ensures.held in
          hands_second t e base after node [] (subst (λ (o : Option Shared). Left base node o t) some' left) c.let_go.ensures.bag c.let_go.ensures.held;
      own = λ d k os a p.
          let w = i.own d k os a p in let b = m.ensures.own in
          let base = c.requires.bag.0 in let has = i.bag base c.requires.bag.1 in
          let left = left_in_hand l t base node m.result.1 has (m.ensures.bag (stacked (node ∷ []) base) (hands_below l base node has)) m.ensures.held in
          let hands = hands_second t e base after node [] (subst (λ (h : Option Shared). Left base node h t) some' left) c.let_go.ensures.bag
          c.let_go.ensures.held in
          let same = subst (λ (h : Option Shared). SameKept t h e) (sym some')
          (same_left t e after c.let_go.ensures.latest (first_lists e base after [] hands)) in
          let down = descends d l t e k w.2.0 (a + w.0) b.0 node c.in-Ok.next m.result.1 c.in-Ok.ensures w.2.1 b.2 c.let_go.ensures.own same in
          let o = object_of (node_in l node) in (
            w.0 + b.0,
            let x = w.1 in let y = b.1 in omega arith,
            (
              o ∷ w.2.0,
              let sum : a + w.0 + b.0 ≡ a + (w.0 + b.0) = omega arith in
                  subst (λ n. Prunes d k (o ∷ w.2.0) n (Some after) e) sum
                  (subst (λ (h : Option Shared). Prunes d k (o ∷ w.2.0) (a + w.0 + b.0) h e) some' down),
            ),
          );
    }

pub returns-in-None-last-clause-others : goal.returns-in-None-last-clause-others
returns-in-None-last-clause-others g c = others_both c.loop.invariant.others (others_both c.clear_front-more.ensures.others c.let_go.ensures.others)

pub returns-in-None-last-clause-order : goal.returns-in-None-last-clause-order
returns-in-None-last-clause-order g c = order_both c.loop.invariant.order (order_both c.clear_front-more.ensures.order c.let_go.ensures.order)

pub clear_front-more-requires-clause-room : goal.clear_front-more-requires-clause-room
clear_front-more-requires-clause-room g c =
    let room = c.requires.room in let held = c.loop.invariant.held in let same = c.loop.invariant.same.allowance in omega arith

pub clear_front-more-requires-clause-carries : goal.clear_front-more-requires-clause-carries
clear_front-more-requires-clause-carries g c = c.loop.invariant.carries

pub clear_front-more-requires-clause-empty : goal.clear_front-more-requires-clause-empty
clear_front-more-requires-clause-empty g c = c.loop.invariant.none

pub let_go-requires-clause-carries : goal.let_go-requires-clause-carries
let_go-requires-clause-carries g c = c.clear_front-more.ensures.carries

pub unreachable-requires : goal.unreachable-requires
unreachable-requires g c =
    let node = c.loop.node in no_member _ node.block node.place c.member.result c.member.ensures c.in_default.not-Ok c.loop.invariant.node

pub returns-in-None-last-clause-carries : goal.returns-in-None-last-clause-carries
returns-in-None-last-clause-carries g c = c.let_go.ensures.carries

pub returns-in-None-last-clause-none : goal.returns-in-None-last-clause-none
returns-in-None-last-clause-none g c = c.let_go.ensures.none

pub returns-in-None-last-clause-desk : goal.returns-in-None-last-clause-desk
returns-in-None-last-clause-desk g c = same_then c.loop.invariant.same (same_then c.clear_front-more.ensures.desk c.let_go.ensures.desk)

pub returns-in-None-last-clause-held : goal.returns-in-None-last-clause-held
returns-in-None-last-clause-held g c =
    let l = c.loop.desk in let m = c.clear_front-more in let t = m.new.desk in
    let one = subst (λ (h : Option Shared). MatchOption h (t.held ≡ l.held) (λ k. t.held ≡ l.held + 1)) c.in-None-last.is m.ensures.held in
    let two = c.let_go.ensures.held in let three = c.loop.invariant.held in omega arith
