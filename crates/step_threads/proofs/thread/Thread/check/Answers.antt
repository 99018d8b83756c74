use Rattle.std.proofs.Common.{◌≡◌, cond, sym, refl, ap, ◌∙◌}
use Rattle.step_threads.proofs.Prelude.{CellWord, Checking, cond-false, cond-true, Lacking}
use Rattle.step_threads.proofs.Prelude.{PendingCall, Quiet, Refill, Rest, Said, shows_seen}
use Rattle.step_table.specs.Refills.{is_drained}
use Rattle.step_threads.proofs.LookSteps.{refilled}
use Rattle.step_threads.proofs.RefillFits.{fits_as, fits_checked, refill_here}
use Rattle.step_table.proofs.contained.Coming.{open_shown}
use Rattle.step_threads.proofs.thread.Thread.check.Goals as goal
use Rattle.step_threads.proofs.thread.Thread.check.Goals.{then-is_drained, else-is_drained}

pub returns-clause-stepped : goal.returns-clause-stepped
returns-clause-stepped c =
    let d = c.args.desk in
    let t = c.args.self.now in
    let v = c.args.table.now in
    let cell = c.args.cell in
    let x = c.args.found in
    let y = c.shown-now.result in
    let k = c.args.statement in
    let r = refill_here d t v Checking cell x k c.requires.fits c.requires.pending_call in
    let is = shows_seen v d cell y (open_shown v d cell y c.assert_invariant.ensures c.requires.fits.seat r.opens c.shown-now.ensures) in
    let next = Refill Lacking cell y k in
    let pending_call : c.if-is_drained.self ≡ cond (is_drained x y) next Rest =
    elim c.if-is_drained.branch [
      | then-is_drained w ↦ w.self-is ∙ w.at_stage-self.ensures ∙ sym
          (cond-true (is_drained x y) next Rest (sym c.is_drained.ensures ∙ w.if-is_drained.true))
      | else-is_drained w ↦ w.self-is ∙ sym (cond-false (is_drained x y) next Rest (sym c.is_drained.ensures ∙ w.if-is_drained.false))
    ] in
    refilled d t v Checking cell x k r.block _ _ _ c.requires.pending_call r.owned (ap (λ (s : Said). Quiet s) c.silent.ensures) refl refl
    (pending_call ∙ ap (λ (z : CellWord). cond {A = PendingCall} (is_drained x z) (Refill Lacking cell z k) Rest) is)

pub returns-clause-fits : goal.returns-clause-fits
returns-clause-fits c =
    let d = c.args.desk in
    let t = c.args.self.now in
    let v = c.args.table.now in
    let cell = c.args.cell in
    let x = c.args.found in
    let y = c.shown-now.result in
    let k = c.args.statement in
    let next = Refill Lacking cell y k in
    let pending_call : c.if-is_drained.self ≡ cond (is_drained x y) next Rest =
    elim c.if-is_drained.branch [
      | then-is_drained w ↦ w.self-is ∙ w.at_stage-self.ensures ∙ sym
          (cond-true (is_drained x y) next Rest (sym c.is_drained.ensures ∙ w.if-is_drained.true))
      | else-is_drained w ↦ w.self-is ∙ sym (cond-false (is_drained x y) next Rest (sym c.is_drained.ensures ∙ w.if-is_drained.false))
    ] in
    fits_as d t (cond (is_drained x y) next Rest) c.if-is_drained.self v v pending_call refl
    (fits_checked d t v cell x k c.requires.fits y c.shown-now.ensures.valid c.shown-now.ensures.few c.requires.pending_call)
