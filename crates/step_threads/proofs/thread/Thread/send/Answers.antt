use Rattle.std.proofs.Common.{◌≡◌, ℕ, Bool, true, false, cond, ◌&&◌, set, is_some, Some, None}
use Rattle.std.proofs.Common.{Option, sym, refl, ap, ◌∙◌, subst, inl, inr}
use Rattle.step_threads.proofs.Prelude
use Prelude.{Act, Bring, brings, Brought, came, Exchange, FitsThread, frame_settled, frame_view}
use Prelude.{ghost_after_step, GhostState, Going, going, is_full, is_of, kind_at, may_go}
use Prelude.{model_state, new_of, on_going, OnCell, owing_for, pending, pointer_of, Quiet, Rest}
use Prelude.{rest, Said, sends, silent, slot_value, step_of_act, task_at}
use Rattle.step_threads.proofs.Acting.{acts_as, went_quiet}
use Rattle.step_threads.proofs.Going.{found_at, may_go_at, stays_ready}
use Rattle.step_threads.proofs.LookFits.{fits_quiet}
use Rattle.step_threads.proofs.Named.{refusal_none, told_as}
use Rattle.step_threads.proofs.Steps.{stepped_as, waits_act}
use Rattle.step_threads.proofs.StoreFits.{going_is}
use Rattle.step_threads.proofs.StoreSteps.{step_brings}
use Rattle.step_threads.proofs.thread.Thread.send.Goals as goal

pub refuse-requires-clause-act : goal.refuse-requires-clause-act
refuse-requires-clause-act c = inr (c.args.name, inr (inl c.requires.act))

pub returns-then-not-is_there-clause-stepped : goal.returns-then-not-is_there-clause-stepped
returns-then-not-is_there-clause-stepped c = c.refuse.ensures.stepped

pub returns-then-not-is_there-clause-fits : goal.returns-then-not-is_there-clause-fits
returns-then-not-is_there-clause-fits c = c.refuse.ensures.fits

pub returns-in_default-clause-stepped : goal.returns-in_default-clause-stepped
returns-in_default-clause-stepped c = c.exchange.ensures.stepped

pub returns-in_default-clause-fits : goal.returns-in_default-clause-fits
returns-in_default-clause-fits c = c.exchange.ensures.fits

pub go_on-requires-clause-ready : goal.go_on-requires-clause-ready
go_on-requires-clause-ready c =
    let t = c.args.self.now in
    let r = c.requires in
    stays_ready t.frame (Exchange c.args.name c.args.cell) r.begins.within r.begins.fits.ready r.act (λ q. q) refl

pub returns-then-not-may_go_in-clause-stepped : goal.returns-then-not-may_go_in-clause-stepped
returns-then-not-may_go_in-clause-stepped c =
    let d = c.args.desk in
    let t = c.args.self.now in
    let v = c.args.table.now in
    let r = c.requires in
    let slots = t.frame.registers.slots.items in
    let k = c.args.name in
    let cell = c.args.cell in
    let a = Exchange k cell in
    let there = sym c.is_there.ensures ∙ c.if-not-is_there.false in
    let fit = may_go_at slots cell k c.from-from.result c.may_go_in.result false c.may_go_in.ensures c.from-from.ensures c.if-not-may_go_in.true in
    let never : may_go slots cell k ≡ false = ap (λ (b : Bool). b && is_of (kind_at cell) (slot_value slots k)) there ∙ fit in
    let w = frame_view t.frame in
    let n = (task_at t.frame).statement in
    let ts = rest t.frame in
    acts_as d t v r.begins a r.act None Rest _ _ _
    (ap (λ (b : Bool). on_going (sends v d w n ts a) (step_of_act v d w n ts a None Rest) (cond {A = Option Going} b (Some (cell, k)) None)) never) refl
    (ap (λ (s : Said). Quiet s) (c.silent.ensures ∙ ap silent c.statement-statement.ensures ∙ sym (ap (told_as n) (refusal_none slots cell there)))) refl
    (c.go_on.ensures.frame_view
    ∙ sym (ap (λ (b : Bool). frame_settled (cond b (set slots k (came (model_state v) slots cell)) slots) t.frame.taken t.frame.endings.list ts) never))
    r.begins.rest

pub returns-then-not-may_go_in-clause-fits : goal.returns-then-not-may_go_in-clause-fits
returns-then-not-may_go_in-clause-fits c =
    let d = c.args.desk in
    let t = c.args.self.now in
    let v = c.args.table.now in
    let r = c.requires in
    let slots = t.frame.registers.slots.items in
    went_quiet d t v r.begins c.go_on.new.self (c.go_on.ensures.on d v r.begins.fits.holds)

pub returns-clause-stepped : goal.returns-clause-stepped
returns-clause-stepped c =
    let d = c.args.desk in
    let t = c.args.self.now in
    let v = c.args.table.now in
    let r = c.requires in
    let slots = t.frame.registers.slots.items in
    let k = c.args.name in
    let cell = c.args.cell in
    let a = Exchange k cell in
    let there = sym c.is_there.ensures ∙ c.if-not-is_there.false in
    let p = c.in-Some.pointer in
    let at = found_at slots k c.from-from.result c.get.result (Some p) c.get.ensures c.from-from.ensures c.in-Some.is in
    let goes = going_is slots cell k there
    (may_go_at slots cell k c.from-from.result c.may_go_in.result true c.may_go_in.ensures c.from-from.ensures c.if-not-may_go_in.false) in
    stepped_as d t v (brings (frame_view t.frame) (task_at t.frame).statement p) _ _ _ (waits_act t v a r.begins.rest r.begins.none r.begins.within r.act)
    (step_brings d t v a cell k r.begins.none r.begins.within r.act refl p r.begins.rest goes at)
    (ap (λ (s : Said). Quiet s) (c.silent-2.ensures ∙ ap silent c.statement-statement.ensures)) c.bring.ensures.table refl refl

pub returns-clause-fits : goal.returns-clause-fits
returns-clause-fits c =
    let d = c.args.desk in
    let t = c.args.self.now in
    let v = c.args.table.now in
    let r = c.requires in
    let slots = t.frame.registers.slots.items in
    let k = c.args.name in
    let cell = c.args.cell in
    let a = Exchange k cell in
    let there = sym c.is_there.ensures ∙ c.if-not-is_there.false in
    let p = c.in-Some.pointer in
    let at = found_at slots k c.from-from.result c.get.result (Some p) c.get.ensures c.from-from.ensures c.in-Some.is in
    let goes = going_is slots cell k there
    (may_go_at slots cell k c.from-from.result c.may_go_in.result true c.may_go_in.ensures c.from-from.ensures c.if-not-may_go_in.false) in
    let atomic_step = OnCell (Bring p.kind p.block p.place 256) in
    let is = c.bring.ensures.table in
    let some : is_some (going slots (task_at t.frame).act) ≡ true =
    ap (λ (y : Act). is_some (going slots y)) r.act ∙ ap (λ (o : Option Going). is_some o) goes in
    let owes : pending c.bring.new.table d ≡ owing_for (model_state c.bring.new.table) (slot_value slots k) 256 =
    subst (λ (i : ℕ). pending c.bring.new.table d ≡ owing_for (model_state c.bring.new.table) (slot_value slots i) 256) c.from-from.ensures
    c.bring.ensures.owes in
    subst (λ (u : GhostState). FitsThread d (record { frame = t.frame; stock = t.stock; pending_call = Brought }) u) (sym is)
    (fits_quiet d t v Rest Brought r.begins.fits r.begins.rest (λ b. refl) (λ b. refl) atomic_step refl
    (subst (λ (y : Act). pending (ghost_after_step v d atomic_step) d ≡ owing_for (model_state (ghost_after_step v d atomic_step)) (new_of slots y) 256)
    (sym r.act)
    (subst (λ (u : GhostState). pending u d ≡ owing_for (model_state u) (slot_value slots k) 256) is owes))
    (r.begins.within, some, r.begins.none, ap (λ (y : Act). is_full (pointer_of (new_of slots y))) r.act ∙ ap is_full at))
