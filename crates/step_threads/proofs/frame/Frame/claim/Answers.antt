use Rattle.std.proofs.Common.{ℕ, true, set, sym, refl, ap, ◌∙◌, subst}
use Rattle.step_threads.proofs.Prelude.{frame_settled, Full, IsReady, Make, Owner, rest}
use Rattle.step_threads.proofs.Prelude.{slot_pointer, Slots}
use Rattle.control_word.specs.Events.{origin}
use Rattle.step_threads.proofs.Going.{comes, hand_bare, hand_in, takes_ready}
use Rattle.step_threads.proofs.frame.Frame.claim.Goals as goal

pub claim-requires-clause-inside : goal.claim-requires-clause-inside
claim-requires-clause-inside c = hand_in c.args.self.now c.requires.ready c.hand-hand.result c.hand-hand.ensures

pub claim-requires-clause-empty : goal.claim-requires-clause-empty
claim-requires-clause-empty c =
    let t = c.args.self.now in
    let r = c.requires in
    ap (slot_pointer t.registers.slots.items) c.hand-hand.ensures
    ∙ hand_bare t r.ready r.none (comes t (Make c.args.form) r.within r.ready r.act).0

pub go_on-requires-clause-ready : goal.go_on-requires-clause-ready
go_on-requires-clause-ready c =
    let t = c.args.self.now in
    let l = t.registers.slots.items in
    let e = c.claim.ensures.slots ∙ ap (λ (i : ℕ). set l i (Full (record {
      kind = Owner;
      block = c.args.block;
      place = origin c.args.block.0 c.args.form.null;
    }))) c.hand-hand.ensures in
    subst (λ (y : Slots). IsReady y true t.endings.list (rest t)) (sym e)
    (takes_ready t (Make c.args.form) c.requires.within c.requires.ready c.requires.act (λ q. q) _ refl)

pub returns-clause-frame_view : goal.returns-clause-frame_view
returns-clause-frame_view c =
    let t = c.args.self.now in
    let l = t.registers.slots.items in
    let e = c.claim.ensures.slots ∙ ap (λ (i : ℕ). set l i (Full (record {
      kind = Owner;
      block = c.args.block;
      place = origin c.args.block.0 c.args.form.null;
    }))) c.hand-hand.ensures in
    c.go_on.ensures.frame_view ∙ ap (λ (y : Slots). frame_settled y true t.endings.list (rest t)) e

pub returns-clause-on : goal.returns-clause-on
returns-clause-on c = c.go_on.ensures.on c.args.desk c.claim.new.table c.claim.ensures.holds
