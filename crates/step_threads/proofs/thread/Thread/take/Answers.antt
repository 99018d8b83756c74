use Rattle.std.proofs.Common.{◌≡◌, Bool, cond, None, sym, ap, ◌∙◌, subst, arith}
use Rattle.step_threads.proofs.Prelude.{cell_of_name, common_steps, FitsThread, ghost_after_step}
use Rattle.step_threads.proofs.Prelude.{GhostState, HasGoneOn, model_state, more_taken, OnCell}
use Rattle.step_threads.proofs.Prelude.{PendingCall, Refill, Site, Take, Turning}
use Rattle.step_threads.proofs.LoadFits.{fits_taken, saw_next, saw_there}
use Rattle.step_threads.proofs.thread.Thread.take.Goals as goal
use Rattle.step_threads.proofs.Named.{named_load}

pub returns-clause-fits : goal.returns-clause-fits
returns-clause-fits c =
    let d = c.args.desk in
    let t = c.args.self.now in
    let v = c.args.table.now in
    let x = c.args.found in
    let n = c.statement-statement.result in
    let c' = c.take_fund.new.self in
    let w = ghost_after_step v d (OnCell (Take (cell_of_name (model_state v) t.frame.registers.slots.items c.args.cell) x None)) in
    let is : c.take_fund.new.table ≡ w = c.take_fund.ensures.table ∙ ap (λ (b : Bool). cond b w v) c.if-not-take_fund.false in
    let pending_call : c.turning-self.result ≡ Refill Turning (cell_of_name (model_state v) t.frame.registers.slots.items c.args.cell) (more_taken x) n =
    c.turning-self.ensures ∙ ap (λ (y : Site). Refill Turning y (more_taken x) n) c.cell-at.ensures in
    subst (λ (h : PendingCall). FitsThread d (record { frame = c'; stock = t.stock; pending_call = h }) c.take_fund.new.table) (sym pending_call)
    (subst (λ (u : GhostState). FitsThread d (record {
      frame = c';
      stock = t.stock;
      pending_call = Refill Turning (cell_of_name (model_state v) t.frame.registers.slots.items c.args.cell)
          (more_taken x) n;
    }) u) (sym is)
    (fits_taken d t v c.args.cell x c.requires.fits c' n c.assert_invariant.ensures c.requires.pending_call c.requires.act
    (subst (λ (u : GhostState). HasGoneOn d t.frame c' u) is (c.take_fund.ensures.on c.if-not-take_fund.false))))

pub cell-at-requires-clause-named : goal.cell-at-requires-clause-named
cell-at-requires-clause-named c =
    let t = c.args.self.now in
    let r = c.requires in
    named_load t.frame c.args.cell (saw_next c.args.desk t c.args.table.now c.args.found r.fits r.pending_call).0 r.fits.ready r.act

pub cell-at-requires-clause-there : goal.cell-at-requires-clause-there
cell-at-requires-clause-there c =
    let r = c.requires in saw_there c.args.desk c.args.self.now c.args.table.now c.args.cell c.args.found r.fits r.pending_call r.act

pub returns-then-not-take_fund-clause-stepped : goal.returns-then-not-take_fund-clause-stepped
returns-then-not-take_fund-clause-stepped c = grind (arith, common_steps)

pub returns-then-not-take_fund-clause-fits : goal.returns-then-not-take_fund-clause-fits
returns-then-not-take_fund-clause-fits c = grind (arith, common_steps)

pub returns-clause-stepped : goal.returns-clause-stepped
returns-clause-stepped c = grind (arith, common_steps)
