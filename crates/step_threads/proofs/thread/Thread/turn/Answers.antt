use Rattle.std.proofs.Common.{◌≡◌, cond, sym, ap, ◌∙◌}
use Rattle.step_threads.proofs.Prelude.{Checking, cond-false, cond-true, ghost_after_step, is_low}
use Rattle.step_threads.proofs.Prelude.{Kind, OnCell, Refill, Rest, Turn}
use Rattle.step_threads.proofs.RefillFits.{fits_as, fits_turned}
use Rattle.step_threads.proofs.thread.Thread.turn.Goals as goal
use Rattle.step_threads.proofs.thread.Thread.turn.Goals.{then-is_low, else-is_low}

pub returns-clause-fits : goal.returns-clause-fits
returns-clause-fits c =
    let d = c.args.desk in
    let t = c.args.self.now in
    let v = c.args.table.now in
    let x = c.args.found in
    let b = c.args.block in
    let next = Refill Checking c.args.cell x c.args.statement in
    let pending_call : c.if-is_low.self ≡ cond (is_low x) next Rest =
    elim c.if-is_low.branch [
      | then-is_low w ↦ w.self-is ∙ w.at_stage-self.ensures ∙ sym (cond-true (is_low x) next Rest (sym c.is_low.ensures ∙ w.if-is_low.true))
      | else-is_low w ↦ w.self-is ∙ sym (cond-false (is_low x) next Rest (sym c.is_low.ensures ∙ w.if-is_low.false))
    ] in
    fits_as d t (cond (is_low x) next Rest) c.if-is_low.self _ c.turn_fund.new.self pending_call
    (c.turn_fund.ensures ∙ ap (λ (k : Kind). ghost_after_step v d (OnCell (Turn k b))) c.kind_in.ensures)
    (fits_turned d t v c.args.cell x c.args.statement c.requires.fits b c.assert_invariant.ensures c.requires.pending_call)
