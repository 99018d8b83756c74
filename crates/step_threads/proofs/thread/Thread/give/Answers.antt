use Rattle.std.proofs.Common.{ℕ, true, set, is_some, Some, sym, refl, ap, ◌∙◌, subst}
use Rattle.step_threads.proofs.Prelude.{cond-true, Event, event_of, FitsThread, frame_settled}
use Rattle.step_threads.proofs.Prelude.{frame_view, FromThis, Full, GhostState, give, Giving}
use Rattle.step_threads.proofs.Prelude.{HasGoneOn, inside, IsNext, IsReady, model_state}
use Rattle.step_threads.proofs.Prelude.{PendingCall, Rest, rest, Said, silent, slot_pointer, Slots}
use Rattle.step_threads.proofs.Prelude.{step_at, step_of_act, task_at, this_as, waits}
use Rattle.step_threads.specs.NextSteps.{given_step}
use Rattle.step_threads.proofs.Frames.{todo_at}
use Rattle.step_threads.proofs.Going.{comes, hand_bare, hand_in, takes_ready}
use Rattle.step_threads.proofs.LookFits.{fits_gone}
use Rattle.step_threads.proofs.Steps.{stepped_as}
use Rattle.step_threads.proofs.StoreFits.{pending_call_here}
use Rattle.step_threads.proofs.ThisSteps.{give_calm, give_event, give_stores, this_says, this_went}
use Rattle.step_threads.proofs.Threads.{own_pending}
use Rattle.step_threads.proofs.thread.Thread.give.Goals as goal

pub give-requires-clause-from : goal.give-requires-clause-from
give-requires-clause-from c =
    let d = c.args.desk in
    let t = c.args.self.now in
    let v = c.args.table.now in
    let r = c.requires in
    let slots = t.frame.registers.slots.items in
    let k = c.args.name in
    let kind = c.args.kind in
    let p = c.args.pointer in
    let next : IsNext (Giving k kind p) t.frame = subst (λ (h : PendingCall). IsNext h t.frame) r.pending_call r.fits.next in
    ap (λ (i : ℕ). inside (slot_pointer slots i)) c.from-from.ensures ∙ next.2

pub give-requires-clause-inside : goal.give-requires-clause-inside
give-requires-clause-inside c = hand_in c.args.self.now.frame c.requires.fits.ready c.hand-hand.result c.hand-hand.ensures

pub give-requires-clause-empty : goal.give-requires-clause-empty
give-requires-clause-empty c =
    let d = c.args.desk in
    let t = c.args.self.now in
    let v = c.args.table.now in
    let r = c.requires in
    let slots = t.frame.registers.slots.items in
    let k = c.args.name in
    let kind = c.args.kind in
    let p = c.args.pointer in
    let next : IsNext (Giving k kind p) t.frame = subst (λ (h : PendingCall). IsNext h t.frame) r.pending_call r.fits.next in
    ap (slot_pointer slots) c.hand-hand.ensures
    ∙ hand_bare t.frame r.fits.ready next.3 (comes t.frame (FromThis k kind) next.0 r.fits.ready next.1).1

pub take-requires-clause-ready : goal.take-requires-clause-ready
take-requires-clause-ready c =
    let d = c.args.desk in
    let t = c.args.self.now in
    let v = c.args.table.now in
    let r = c.requires in
    let slots = t.frame.registers.slots.items in
    let k = c.args.name in
    let kind = c.args.kind in
    let p = c.args.pointer in
    let next : IsNext (Giving k kind p) t.frame = subst (λ (h : PendingCall). IsNext h t.frame) r.pending_call r.fits.next in
    let e = c.give.ensures.slots ∙ ap (λ (i : ℕ). set slots i (Full (this_as kind p))) c.hand-hand.ensures in
    subst (λ (l : Slots). IsReady l true t.frame.endings.list (rest t.frame)) (sym e)
    (takes_ready t.frame (FromThis k kind) next.0 r.fits.ready next.1 (λ q. q) _ refl)

pub returns-clause-stepped : goal.returns-clause-stepped
returns-clause-stepped c =
    let d = c.args.desk in
    let t = c.args.self.now in
    let v = c.args.table.now in
    let r = c.requires in
    let slots = t.frame.registers.slots.items in
    let k = c.args.name in
    let kind = c.args.kind in
    let p = c.args.pointer in
    let next : IsNext (Giving k kind p) t.frame = subst (λ (h : PendingCall). IsNext h t.frame) r.pending_call r.fits.next in
    let e = c.give.ensures.slots ∙ ap (λ (i : ℕ). set slots i (Full (this_as kind p))) c.hand-hand.ensures in
    let w = frame_view t.frame in
    let n = (task_at t.frame).statement in
    let enabled = (pending_call_here d t v (Giving k kind p) r.fits r.pending_call).enabled in
    stepped_as d t v (step_of_act v d w n (rest t.frame) (FromThis k kind) (Some (give kind p)) Rest) _ _ _
    (ap (λ (h : PendingCall). waits v h w) r.pending_call)
    (ap (λ (h : PendingCall). step_at v d h w) r.pending_call ∙ ap (given_step v d w k kind p) (todo_at t.frame next.0))
    (ap (λ (s : Said). Event s) (c.silent.ensures ∙ ap silent c.statement-statement.ensures
    ∙ this_says v d w n (rest t.frame) k kind (Some p) true next.2 enabled)
    ∙ sym (cond-true (is_some (event_of (model_state v) (give kind p))) _ _ (give_event v d p kind)))
    c.give.ensures.table
    (c.take.ensures.frame_view ∙ ap (λ (l : Slots). frame_settled l true t.frame.endings.list (rest t.frame)) e
    ∙ this_went v d w n (rest t.frame) k kind (Some p) true next.2 enabled) refl

pub returns-clause-fits : goal.returns-clause-fits
returns-clause-fits c =
    let d = c.args.desk in
    let t = c.args.self.now in
    let v = c.args.table.now in
    let r = c.requires in
    let slots = t.frame.registers.slots.items in
    let k = c.args.name in
    let kind = c.args.kind in
    let p = c.args.pointer in
    let next : IsNext (Giving k kind p) t.frame = subst (λ (h : PendingCall). IsNext h t.frame) r.pending_call r.fits.next in
    let is = c.give.ensures.table in
    let after = c.take.new.self in
    subst (λ (u : GhostState). FitsThread d (record { frame = after; stock = t.stock; pending_call = Rest }) u) (sym is)
    (fits_gone d t v (Giving k kind p) Rest r.fits r.pending_call (λ b. refl) (λ b. refl) (give kind p) after next.3 (give_stores v d p kind)
    (subst (λ (u : GhostState). HasGoneOn d t.frame after u) is (c.take.ensures.on d c.give.new.table c.give.ensures.holds))
    (own_pending v d (give kind p) c.assert_invariant.ensures r.fits.seat ∙ give_calm v d p kind) tt)
