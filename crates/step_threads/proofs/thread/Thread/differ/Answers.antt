use Rattle.std.proofs.Common.{ℕ, false, sym, ap, ◌∙◌, subst, arith}
use Rattle.step_threads.proofs.Prelude.{cell_of_name, common_steps, compared_in, comparing}
use Rattle.step_threads.proofs.Prelude.{cond-true, Event, FitsThread, GhostState, HasGoneOn}
use Rattle.step_threads.proofs.Prelude.{model_state, more_taken, PendingCall, Refill, Said, Site}
use Rattle.step_threads.proofs.Prelude.{task_at, Turning}
use Rattle.step_threads.proofs.CompareFits.{compare_taken, saw_other}
use Rattle.step_threads.proofs.CompareSteps.{answers, differs_taken}
use Rattle.step_threads.proofs.CompareTells.{tells_still}
use Rattle.step_threads.proofs.LoadFits.{saw_next}
use Rattle.step_threads.proofs.StoreFits.{pending_call_here}
use Rattle.step_threads.proofs.thread.Thread.differ.Goals as goal
use Rattle.step_threads.proofs.Compares.{may_compare}
use Rattle.step_threads.proofs.Named.{named_compare}

pub returns-clause-stepped : goal.returns-clause-stepped
returns-clause-stepped c =
    let d = c.args.desk in
    let t = c.args.self.now in
    let v = c.args.table.now in
    let x = c.args.found in
    let r = c.requires in
    let took = c.take_differing in
    let yes = c.if-not-take_differing.false in
    let within = (saw_next d t v x r.fits r.pending_call).0 in
    let same = sym took.ensures.same ∙ yes in
    let n = (task_at t.frame).statement in
    differs_taken d t v c.args.name c.args.cell c.args.weak x within r.act r.pending_call r.differs _ _ _ same
    (tells_still d t v c.args.name c.args.cell c.args.weak x r.fits r.act false c.assert_invariant.ensures within (pending_call_here d t v _ r.fits
    r.pending_call).1 same r.differs)
    (ap (λ (s : Said). Event s) (c.compared.ensures ∙ ap (λ (m : ℕ). answers m false) c.statement-statement.ensures))
    (took.ensures.table ∙ cond-true took.result _ _ yes) (took.ensures.frame_view yes)
    (c.turning-self.ensures ∙ ap (λ (y : Site). Refill Turning y (more_taken x) c.statement-statement.result) c.cell-at.ensures
    ∙ ap (λ (m : ℕ). Refill Turning (cell_of_name (model_state v) t.frame.registers.slots.items c.args.cell) (more_taken x) m)
    c.statement-statement.ensures)

pub returns-clause-fits : goal.returns-clause-fits
returns-clause-fits c =
    let d = c.args.desk in
    let t = c.args.self.now in
    let v = c.args.table.now in
    let x = c.args.found in
    let slots = t.frame.registers.slots.items in
    let r = c.requires in
    let took = c.take_differing in
    let yes = c.if-not-take_differing.false in
    let m = c.statement-statement.result in
    let table = took.ensures.table ∙ cond-true took.result _ _ yes in
    let pending_call = c.turning-self.ensures ∙ ap (λ (y : Site). Refill Turning y (more_taken x) m) c.cell-at.ensures in
    subst (λ (h : PendingCall). FitsThread d (record { frame = took.new.self; stock = t.stock; pending_call = h }) took.new.table) (sym pending_call)
    (subst (λ (u : GhostState). FitsThread d (record {
      frame = took.new.self;
      stock = t.stock;
      pending_call = Refill Turning (cell_of_name (model_state v) t.frame.registers.slots.items c.args.cell) (more_taken x) m;
    }) u) (sym table)
    (compare_taken d t v c.args.name c.args.cell c.args.weak x r.fits r.act took.new.self
    (compared_in slots (comparing slots c.args.name c.args.weak)) c.assert_invariant.ensures m r.pending_call
    (saw_other d t v c.args.name c.args.cell c.args.weak x r.fits r.act r.pending_call r.differs)
    (subst (λ (u : GhostState). HasGoneOn d t.frame took.new.self u) table (took.ensures.on yes))))

pub cell-at-requires-clause-named : goal.cell-at-requires-clause-named
cell-at-requires-clause-named c =
    let t = c.args.self.now in
    let r = c.requires in
    named_compare t.frame c.args.cell (saw_next c.args.desk t c.args.table.now c.args.found r.fits r.pending_call).0 r.fits.ready c.args.name c.args.weak r.act

pub cell-at-requires-clause-there : goal.cell-at-requires-clause-there
cell-at-requires-clause-there c =
    let t = c.args.self.now in
    let r = c.requires in
    let within = (saw_next c.args.desk t c.args.table.now c.args.found r.fits r.pending_call).0 in
    (may_compare t.frame c.args.name c.args.cell c.args.weak within r.fits.ready r.act r.fits.still).0

pub returns-then-not-take_differing-clause-stepped : goal.returns-then-not-take_differing-clause-stepped
returns-then-not-take_differing-clause-stepped c = grind (arith, common_steps)

pub returns-then-not-take_differing-clause-fits : goal.returns-then-not-take_differing-clause-fits
returns-then-not-take_differing-clause-fits c = grind (arith, common_steps)
