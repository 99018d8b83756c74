use Rattle.std.proofs.Common.{◌≡◌, ◌+◌, [], ◌∷◌, IfSome, Some, None, Option, MatchOption, sym, ap}
use Rattle.std.proofs.Common.{subst, arith}
use Rattle.scene_structures.proofs.Prelude.{Cell, ClearsFront, Free, HasHands, IsOpenBy, IsWithin}
use Rattle.scene_structures.proofs.Prelude.{Shared, shared_cell}
use Rattle.scene_structures.proofs.Others.{others_both}
use Rattle.scene_structures.proofs.Orders.{order_both}
use Rattle.scene_structures.proofs.lists.prunes.clear_list.Goals as goal

pub returns-in-Some-clause-own : goal.returns-in-Some-clause-own
returns-in-Some-clause-own g c =
    let d = c.args.desk.now in let m = c.clear_front-count in let t = m.new.desk in let a = m.ensures.own in let first = c.in-Some.first in
    let cell = ap (shared_cell d) c.free.ensures in
    let clears = subst (λ (k : Cell). ClearsFront d k a.0 (Some first) t) cell
    (subst (λ (o : Option Shared). ClearsFront d (shared_cell d c.free.result.site) a.0 o t) c.in-Some.is a.2) in
    let down = c.clear_below.ensures.own d (Free c.args.cell) [] a.0 clears in
    (a.0 + down.0, let x = a.1 in let y = down.1 in omega arith, down.2)

pub returns-in-Some-clause-others : goal.returns-in-Some-clause-others
returns-in-Some-clause-others g c = others_both c.clear_front-count.ensures.others c.clear_below.ensures.others

pub returns-in-Some-clause-order : goal.returns-in-Some-clause-order
returns-in-Some-clause-order g c = order_both c.clear_front-count.ensures.order c.clear_below.ensures.order

pub clear_front-count-requires-clause-bag : goal.clear_front-count-requires-clause-bag
clear_front-count-requires-clause-bag g c =
    let b = c.requires.bag in (b.0, b.1, subst (IsOpenBy b.0 c.args.desk.now.shape) (sym c.free.ensures) c.requires.cell)

pub clear_below-requires-clause-bag : goal.clear_below-requires-clause-bag
clear_below-requires-clause-bag g c =
    let b = c.requires.bag in let m = c.clear_front-count in let t = m.new.desk in
    (b.0, subst (λ (o : Option Shared). MatchOption o (HasHands b.0 [] t) (λ h. HasHands b.0 (h ∷ []) t)) c.in-Some.is (m.ensures.bag b.0 b.1))

pub clear_below-requires-clause-node : goal.clear_below-requires-clause-node
clear_below-requires-clause-node g c =
    subst (λ (o : Option Shared). IfSome o (λ h. IsWithin h.block h.place)) c.in-Some.is c.clear_front-count.ensures.node

pub clear_below-requires-clause-room : goal.clear_below-requires-clause-room
clear_below-requires-clause-room g c =
    let room = c.requires.room in let m = c.clear_front-count in let d = c.args.desk.now in let t = m.new.desk in
    let one = subst (λ (o : Option Shared). MatchOption o (t.held ≡ d.held) (λ h. t.held ≡ d.held + 1)) c.in-Some.is m.ensures.held in
    let a = m.ensures.desk.allowance in omega arith

pub returns-in-None-clause-own : goal.returns-in-None-clause-own
returns-in-None-clause-own g c =
    let d = c.args.desk.now in let m = c.clear_front-count in let t = m.new.desk in let a = m.ensures.own in (
      a.0,
      a.1,
      (
        [],
        subst (λ (k : Cell). ClearsFront d k a.0 None t) (ap (shared_cell d) c.free.ensures)
            (subst (λ (o : Option Shared). ClearsFront d (shared_cell d c.free.result.site) a.0 o t) c.in-None.is a.2),
      ),
    )

pub returns-in-None-clause-held : goal.returns-in-None-clause-held
returns-in-None-clause-held g c =
    let d = c.args.desk.now in let t = c.clear_front-count.new.desk in
    subst (λ (o : Option Shared). MatchOption o (t.held ≡ d.held) (λ h. t.held ≡ d.held + 1)) c.in-None.is c.clear_front-count.ensures.held

pub returns-in-Some-clause-held : goal.returns-in-Some-clause-held
returns-in-Some-clause-held g c =
    let d = c.args.desk.now in let t = c.clear_front-count.new.desk in
    let one = subst (λ (o : Option Shared). MatchOption o (t.held ≡ d.held) (λ h. t.held ≡ d.held + 1)) c.in-Some.is c.clear_front-count.ensures.held in
    let two = c.clear_below.ensures.held in omega arith

pub returns-in-Some-clause-bag : goal.returns-in-Some-clause-bag
returns-in-Some-clause-bag g c base has =
    let m = c.clear_front-count in let t = m.new.desk in
    c.clear_below.ensures.bag base
    (subst (λ (o : Option Shared). MatchOption o (HasHands base [] t) (λ h. HasHands base (h ∷ []) t)) c.in-Some.is (m.ensures.bag base has))
