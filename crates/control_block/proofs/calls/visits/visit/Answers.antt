use Rattle.std.proofs.Common.{length, Some, None, sym, refl, ap, ◌∙◌, arith}
use Rattle.control_block.proofs.Prelude.{bag_of, desk_now, endings_of, Idle, known, leads}
use Rattle.control_block.proofs.Prelude.{on_latest, opening_of, Owner, sound, spot, stock_of}
use Rattle.control_block.proofs.Prelude.{Visit}
use Rattle.control_block.proofs.desks.DeskBags.{adds_of, bag_stays, before, ends_still, holding_in}
use Rattle.control_block.proofs.desks.DeskBags.{legal_now, same_desk}
use Rattle.control_block.proofs.desks.DeskSteps.{ending_after, as_many, came, quiet_desk}
use Rattle.control_block.proofs.desks.DeskSteps.{stock_left, word_inside}
use Rattle.control_block.proofs.desks.OwnEndings.{visit_spares}
use Rattle.control_block.proofs.desks.Visiting.{again, tells_visit, worked_on}
use Rattle.control_block.proofs.calls.visits.visit.Goals as goal

pub shut-requires-clause-word : goal.shut-requires-clause-word
shut-requires-clause-word g c =
    word_inside c.desk.inside c.domain.inside.table.shared.table_id Owner _ c.args.of.place c.args.of.block.0 2 c.desk.invariant
    (ap (λ z. z.domain) c.desk.view_is ∙ (c.requires.domain.table ∙ sym (ap (λ z. z.id) c.domain.view_is)))
    (holding_in c.desk.inside c.args.desk.now Owner c.args.of.place c.args.of.block.0 c.desk.invariant c.desk.view_is c.requires.holds) (omega arith)

pub shut-requires-clause-holds : goal.shut-requires-clause-holds
shut-requires-clause-holds g c = (
  refl,
  refl,
  holding_in c.desk.inside c.args.desk.now Owner c.args.of.place c.args.of.block.0 c.desk.invariant c.desk.view_is c.requires.holds,
)

pub visit-answer-requires-clause-hand : goal.visit-answer-requires-clause-hand
visit-answer-requires-clause-hand g c =
    let t = c.shut.ensures.visiting in
    let w = word_inside c.desk.inside c.domain.inside.table.shared.table_id Owner _ c.args.of.place c.args.of.block.0 2 c.desk.invariant
    (ap (λ z. z.domain) c.desk.view_is ∙ (c.requires.domain.table ∙ sym (ap (λ z. z.id) c.domain.view_is)))
    (holding_in c.desk.inside c.args.desk.now Owner c.args.of.place c.args.of.block.0 c.desk.invariant c.desk.view_is c.requires.holds) (omega arith) in
    (w.0, t.0, t.1.carried)

pub open-requires-clause-word : goal.open-requires-clause-word
open-requires-clause-word g c =
    let w = word_inside c.desk.inside c.domain.inside.table.shared.table_id Owner _ c.args.of.place c.args.of.block.0 2 c.desk.invariant
    (ap (λ z. z.domain) c.desk.view_is ∙ (c.requires.domain.table ∙ sym (ap (λ z. z.id) c.domain.view_is)))
    (holding_in c.desk.inside c.args.desk.now Owner c.args.of.place c.args.of.block.0 c.desk.invariant c.desk.view_is c.requires.holds) (omega arith) in
    (w.0, refl, w.1)

pub open-requires-clause-visiting : goal.open-requires-clause-visiting
open-requires-clause-visiting g c =
    let v = c.desk.inside.seat.me.0 in let b = c.args.of.block in let q = c.visit-answer.ensures.visited in
    let o = (known v).latest b.0 in let p = c.args.of.place in let i = spot b.0 2 in (
      v,
      q.0,
      q.1,
      c.desk.invariant.rests.awake,
      again v b o p i q.0 (Some q.1) c.visit-answer.new.seat.me
          (worked_on v b o p i c.shut.ensures.visiting.0 q.0 q.1 c.shut.new.seat.me c.visit-answer.new.seat.me c.shut.ensures.visiting.1 q.2 q.4),
    )

pub invariant_of-desk : goal.invariant_of-desk
invariant_of-desk g c =
    let d = c.desk.inside in let h = c.desk.invariant in let v = d.seat.me.0 in let w = c.open.new.seat.me.0 in let b = c.args.of.block in
    let o = (known v).latest b.0 in let p = c.args.of.place in let q = c.visit-answer.ensures.visited in let was = q.0 in
    let becomes = q.1 in let me = c.visit-answer.new.seat.me in let i = spot b.0 2 in
    let t = worked_on v b o p i c.shut.ensures.visiting.0 was becomes c.shut.new.seat.me me c.shut.ensures.visiting.1 q.2 q.4 in
    let a = tells_visit v w b o p i was becomes (Some becomes) me t (c.open.ensures.event v was becomes (again v b o p i was (Some becomes) me t)) in
    let e = Visit (on_latest (desk_now d) Owner p b.0) was becomes in let size = as_many v w e (came v w Idle None e a) refl in
    let s = c.visit-answer.ensures.seat.0 ∙ c.shut.ensures.seat.0 in let f = c.open.ensures.seat in
    quiet_desk d _ e h a (f.0 ∙ s) f.2 (λ y x. refl) (λ y x. refl) refl refl (omega (arith, size, h.holding)) (omega (arith, h.within))
    (let u = came v w Idle None e a in h.ended ∙ sym (ending_after v w e u ∙ u.ending))

pub returns-clause-event : goal.returns-clause-event
returns-clause-event g c =
    let d = c.desk.inside in let h = c.desk.invariant in let v = d.seat.me.0 in let w = c.open.new.seat.me.0 in let b = c.args.of.block in
    let o = (known v).latest b.0 in let p = c.args.of.place in let q = c.visit-answer.ensures.visited in let was = q.0 in
    let becomes = q.1 in let me = c.visit-answer.new.seat.me in let i = spot b.0 2 in
    let t = worked_on v b o p i c.shut.ensures.visiting.0 was becomes c.shut.new.seat.me me c.shut.ensures.visiting.1 q.2 q.4 in
    let a = tells_visit v w b o p i was becomes (Some becomes) me t (c.open.ensures.event v was becomes (again v b o p i was (Some becomes) me t)) in
    let s = c.visit-answer.ensures.seat.0 ∙ c.shut.ensures.seat.0 in let f = c.open.ensures.seat in (
      was,
      becomes,
      q.3,
      adds_of d c.args.desk.now w _ _ (λ z. Visit (on_latest z Owner p b.0) was becomes) c.desk.view_is (f.0 ∙ s) a,
    )

pub returns-clause-outcome : goal.returns-clause-outcome
returns-clause-outcome g c =
    let d = c.desk.inside in let h = c.desk.invariant in let v = d.seat.me.0 in let w = c.open.new.seat.me.0 in let b = c.args.of.block in
    let o = (known v).latest b.0 in let p = c.args.of.place in let q = c.visit-answer.ensures.visited in let was = q.0 in
    let becomes = q.1 in let me = c.visit-answer.new.seat.me in let i = spot b.0 2 in
    let t = worked_on v b o p i c.shut.ensures.visiting.0 was becomes c.shut.new.seat.me me c.shut.ensures.visiting.1 q.2 q.4 in
    let a = tells_visit v w b o p i was becomes (Some becomes) me t (c.open.ensures.event v was becomes (again v b o p i was (Some becomes) me t)) in
    let e = Visit (on_latest (desk_now d) Owner p b.0) was becomes in let z = opening_of v.shape in let hist = before d w e h a in
    let now = legal_now d w e h a in let f = c.open.ensures.seat in let s = c.visit-answer.ensures.seat.0 ∙ c.shut.ensures.seat.0 in
    let same = same_desk d w e h a _ 0 c.args.desk.now c.desk.view_is (f.0 ∙ s) (λ y n. refl) in
    record {
      bag = bag_stays d w e h a refl ∙ ap bag_of c.desk.view_is;
      held = ap (λ z. z.held) c.desk.view_is;
      keeps = record {
        domain = same.domain;
        shape = same.shape;
        name = same.name;
        allowance = same.allowance;
        stock = ap length (stock_left v w e (came v w Idle None e a) (λ y n. refl) ∙ ap stock_of c.desk.view_is);
        count = let u = came v w Idle None e a in ending_after v w e u ∙ (u.ending ∙ ap endings_of c.desk.view_is);
        endings = λ r x ends. ends_still d w e h a _ _ r x c.args.desk.now c.desk.view_is
            (λ q. visit_spares z (leads z hist) _ v.view.name r (sound z hist now.0) q _ _ _ now.1.asks) ends;
      };
    }
