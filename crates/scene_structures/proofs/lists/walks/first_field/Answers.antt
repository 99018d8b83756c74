use Rattle.std.proofs.Common.{◌≡◌, Some, Option, sym, refl, ap, ◌∙◌, subst, inl, inr, arith, rules}
use Rattle.scene_structures.proofs.Prelude.{bag_of, Block, calls_keep_latest, first_out}
use Rattle.scene_structures.proofs.Prelude.{HoldsHandle, IsOfThis, Owner, Place, place_at}
use Rattle.scene_structures.proofs.Prelude.{SharesOwner, TellsField, with_handle, without_handle}
use Rattle.scene_structures.proofs.Walks.{looked_call, tells, told_latest}
use Rattle.scene_structures.proofs.Others.{others_both, others_call, others_none}
use Rattle.scene_structures.proofs.Kept.{same_call, same_then, carries_call, granted}
use Rattle.scene_structures.proofs.Rooms.{holds_still}
use Rattle.scene_structures.proofs.Orders.{order_both, order_event, order_none, order_read}
use Rattle.scene_structures.proofs.Orders.{order_shares}
use Rattle.scene_structures.proofs.Latest.{keeps_same}
use Rattle.scene_structures.proofs.lists.walks.first_field.Goals as goal

pub returns-clause-latest : goal.returns-clause-latest
returns-clause-latest g c =
    let d = c.args.desk.now in let m = c.alias.new.desk in let n = c.read-2.new.desk in let e = c.let_go.new.desk in
    let b = c.in-Some.block in let p = c.args.owner.now.place in let r = c.in-Ok-read.ensures in let a = c.in-Ok.ensures in let first = c.in-Ok.first in
    let is : c.args.owner.now.block ≡ Some b = sym c.in-Some.ensures in
    let same = a.given (inr (inl (subst (λ (k : Option Block). IsOfThis k (place_at b.0)) (sym is) refl))) in
    let event = subst (λ (q : Option Place). SharesOwner d c.args.owner.now.block p q m) same a.event in
    let bag : bag_of m ≡ with_handle Owner first.block first.place (bag_of d) =
    a.bag ∙ (λ i. with_handle Owner (sym a.handle.0 i) (sym a.handle.1 i) (bag_of d)) in
    told_latest d m n e _ _ first.block first.place (subst (λ (k : Option Block). SharesOwner d k p (place_at b.0) m) is event) bag r.read.3 r.bag
    c.let_go.ensures.latest c.let_go.ensures.bag

pub returns-clause-own : goal.returns-clause-own
returns-clause-own g c =
    let d = c.args.desk.now in let m = c.alias.new.desk in let n = c.read-2.new.desk in let e = c.let_go.new.desk in
    let b = c.in-Some.block in let p = c.args.owner.now.place in let r = c.in-Ok-read.ensures.read in let a = c.in-Ok.ensures in
    let is : c.args.owner.now.block ≡ Some b = sym c.in-Some.ensures in
    let same = a.given (inr (inl (subst (λ (k : Option Block). IsOfThis k (place_at b.0)) (sym is) refl))) in
    let event = subst (λ (q : Option Place). SharesOwner d c.args.owner.now.block p q m) same a.event in
    subst (λ (k : Option Block). TellsField d k (Some c.in-Ok-read.told) e) (sym is)
    (tells d m n e b p c.in-Ok-read.told r.0 (subst (λ (k : Option Block). SharesOwner d k p (place_at b.0) m) is event)
    (subst (λ (k : Option Block). HoldsHandle d Owner k p) is c.requires.holds) (sym same ∙ (sym a.handle.1 ∙ r.1))
    (sym is ∙ (sym a.handle.0 ∙ r.2)) r.3 c.let_go.ensures.own)

pub returns-in_default-clause-others : goal.returns-in_default-clause-others
returns-in_default-clause-others g c = others_none c.args.desk.now c.args.pile.now.endings.items

pub returns-in_default-clause-order : goal.returns-in_default-clause-order
returns-in_default-clause-order g c = order_none c.args.desk.now c.args.pile.now.endings.items

pub returns-clause-others : goal.returns-clause-others
returns-clause-others g c =
    others_both (others_call _ c.in-Ok.ensures.keeps)
    (others_both (others_call _ c.in-Ok-read.ensures.keeps) c.let_go.ensures.others)

pub returns-clause-order : goal.returns-clause-order
returns-clause-order g c =
    order_both (order_shares c.args.desk.now c.alias.new.desk c.args.owner.now.block c.args.owner.now.place _ _ c.in-Ok.ensures.event)
    (order_both (order_read c.alias.new.desk c.read-2.new.desk _ _ c.read-2.result _ c.read-2.ensures.read) c.let_go.ensures.order)

pub let_go-requires-clause-carries : goal.let_go-requires-clause-carries
let_go-requires-clause-carries g c =
    carries_call (carries_call c.requires.carries c.in-Ok.ensures.keeps) c.in-Ok-read.ensures.keeps

pub let_go-requires-clause-holds : goal.let_go-requires-clause-holds
let_go-requires-clause-holds g c =
    let first = c.in-Ok.first in let r = c.in-Ok-read.ensures in
    holds_still Owner c.alias.new.desk c.read-2.new.desk first.block first.place c.in-Ok.ensures.holds r.bag r.held

pub returns-clause-carries : goal.returns-clause-carries
returns-clause-carries g c = c.let_go.ensures.carries

pub returns-clause-none : goal.returns-clause-none
returns-clause-none g c = c.let_go.ensures.none

pub returns-clause-desk : goal.returns-clause-desk
returns-clause-desk g c =
    same_then (same_call c.in-Ok.ensures.keeps) (same_then (same_call c.in-Ok-read.ensures.keeps) c.let_go.ensures.desk)

pub returns-clause-held : goal.returns-clause-held
returns-clause-held g c =
    let one = c.in-Ok.ensures.held in let two = c.in-Ok-read.ensures.held in let three = c.let_go.ensures.held in omega arith

pub returns-clause-bag : goal.returns-clause-bag
returns-clause-bag g c =
    let d = c.args.desk.now in let first = c.in-Ok.first in let a = c.in-Ok.ensures in let r = c.in-Ok-read.ensures in
    let bag : bag_of c.alias.new.desk ≡ with_handle Owner first.block first.place (bag_of d) =
    a.bag ∙ (λ i. with_handle Owner (sym a.handle.0 i) (sym a.handle.1 i) (bag_of d)) in
    c.let_go.ensures.bag ∙ (ap (without_handle Owner first.block first.place) (r.bag ∙ bag) ∙ first_out Owner first.block first.place (bag_of d))

pub unreachable-requires : goal.unreachable-requires
unreachable-requires g c =
    let room = c.requires.room in granted c.args.desk.now c.alias.result c.alias.ensures.limit (omega arith) c.in_default-alias.not-Ok

pub read-requires-clause-holds : goal.read-requires-clause-holds
read-requires-clause-holds g c =
    let d = c.args.desk.now in let b = c.in-Some.block in let p = c.args.owner.now.place in
    let is : c.args.owner.now.block ≡ Some b = sym c.in-Some.ensures in
    let holds = subst (λ (k : Option Block). HoldsHandle d Owner k p) is c.requires.holds in
    subst (λ (q : Option Place). HoldsHandle d Owner (Some b) q) (c.is_at.ensures (search rules)) holds

pub returns-then-is_at-clause-own : goal.returns-then-is_at-clause-own
returns-then-is_at-clause-own g c =
    let d = c.args.desk.now in let e = c.read.new.desk in
    let is : c.args.owner.now.block ≡ Some c.in-Some.block = sym c.in-Some.ensures in
    subst (λ (k : Option Block). TellsField d k (Some c.read.result) e) (sym is) (looked_call d e _ c.read.ensures.event tt)

pub returns-then-is_at-clause-others : goal.returns-then-is_at-clause-others
returns-then-is_at-clause-others g c = others_call _ c.read.ensures.outcome.keeps

pub returns-then-is_at-clause-order : goal.returns-then-is_at-clause-order
returns-then-is_at-clause-order g c = order_event c.args.desk.now c.read.new.desk _ _ c.read.ensures.event tt

pub returns-then-is_at-clause-latest : goal.returns-then-is_at-clause-latest
returns-then-is_at-clause-latest g c =
    let d = c.args.desk.now in let e = c.read.new.desk in
    keeps_same d e c.read.ensures.outcome.bag (calls_keep_latest d _ e c.read.ensures.event)
