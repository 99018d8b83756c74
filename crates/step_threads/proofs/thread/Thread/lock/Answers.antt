use Rattle.std.proofs.Common.{◌≡◌, ℕ, true, false, not, ◌==◌, Some, None, sym, refl, ap, ◌∙◌}
use Rattle.std.proofs.Common.{subst, arith, eq-eqb, ne_eqb}
use Rattle.step_threads.proofs.Prelude.{Act, cond-false, cond-true, Event, FitsThread, frame_view}
use Rattle.step_threads.proofs.Prelude.{GhostState, is_full, Lock, lock, locked_pointer, Locking}
use Rattle.step_threads.proofs.Prelude.{model_state, owner_word, PendingCall, Quiet, Rest, rest}
use Rattle.step_threads.proofs.Prelude.{Said, silent, task_at, trying}
use Rattle.step_threads.proofs.Threads.{lost_ready}
use Rattle.step_threads.proofs.Going.{found_weak}
use Rattle.step_threads.proofs.LockSteps.{lock_said, lock_says, lock_went, lock_found, lock_late}
use Rattle.step_threads.proofs.LockSteps.{lock_none}
use Rattle.step_threads.proofs.Acting.{acts_as, is_idle, steps_as, went_quiet}
use Rattle.step_threads.proofs.LookFits.{fits_pending_call}
use Rattle.step_threads.proofs.StoreFits.{fits_done}
use Rattle.step_threads.proofs.thread.Thread.lock.Goals as goal

pub take-requires-clause-ready : goal.take-requires-clause-ready
take-requires-clause-ready c = lost_ready c.args.self.now.frame c.args.name c.args.must c.requires.begins.within c.requires.begins.fits.ready c.requires.act

pub take-requires-then-word-eq0-clause-ready : goal.take-requires-then-word-eq0-clause-ready
take-requires-then-word-eq0-clause-ready c = lost_ready c.args.self.now.frame c.args.name c.args.must c.requires.begins.within c.requires.begins.fits.ready
    c.requires.act

pub returns-in_default-clause-stepped : goal.returns-in_default-clause-stepped
returns-in_default-clause-stepped c =
    let d = c.args.desk in
    let t = c.args.self.now in
    let v = c.args.table.now in
    let r = c.requires in
    let slots = t.frame.registers.slots.items in
    acts_as d t v r.begins (Lock c.args.name c.args.must) r.act None Rest _ _ _
    (lock_none v d (frame_view t.frame) (task_at t.frame).statement (rest t.frame) c.args.name c.args.must (found_weak slots c.args.name
    c.from-from.result c.weak.result (None) c.weak.ensures c.from-from.ensures c.in_default.is)) refl
    (ap (λ (s : Said). Quiet s) (c.locked.ensures ∙ ap (λ n. lock_said n c.args.must false) c.statement-statement.ensures
    ∙ lock_says v d (frame_view t.frame) (task_at t.frame).statement (rest t.frame) c.args.name c.args.must (None) false (found_weak slots c.args.name
    c.from-from.result c.weak.result (None) c.weak.ensures c.from-from.ensures c.in_default.is) refl)) refl
    (c.take.ensures.frame_view ∙ lock_went v d (frame_view t.frame) (task_at t.frame).statement (rest t.frame) c.args.name c.args.must (None) false
    (found_weak slots c.args.name c.from-from.result c.weak.result (None) c.weak.ensures c.from-from.ensures c.in_default.is) refl) r.begins.rest

pub returns-in_default-clause-fits : goal.returns-in_default-clause-fits
returns-in_default-clause-fits c =
    let d = c.args.desk in
    let t = c.args.self.now in
    let v = c.args.table.now in
    let r = c.requires in
    let slots = t.frame.registers.slots.items in
    went_quiet d t v r.begins c.take.new.self (c.take.ensures.on d v r.begins.fits.holds)

pub returns-then-word-eq0-clause-stepped : goal.returns-then-word-eq0-clause-stepped
returns-then-word-eq0-clause-stepped c =
    let d = c.args.desk in
    let t = c.args.self.now in
    let v = c.args.table.now in
    let r = c.requires in
    let slots = t.frame.registers.slots.items in
    let look = c.look_lock-word.ensures in
    let p = c.in-Some.pointer in
    let zero : (c.look_lock-word.result == 0) ≡ true = eq-eqb _ _ c.if-word-eq0.true in
    let gone = ap not (sym look.left ∙ zero) in
    acts_as d t v r.begins (Lock c.args.name c.args.must) r.act (Some (lock (model_state v) p)) Rest _ _ _
    (lock_late v d (frame_view t.frame) (task_at t.frame).statement (rest t.frame) c.args.name c.args.must p (found_weak slots c.args.name
    c.from-from.result c.weak.result (Some p) c.weak.ensures c.from-from.ensures c.in-Some.is)
    (ap (λ (n : ℕ). n == 0) (sym look.word) ∙ zero)) refl
    (ap (λ (s : Said). Event s) (c.locked-then-word-eq0.ensures ∙ ap (λ n. lock_said n c.args.must false) c.statement-statement.ensures
    ∙ lock_says v d (frame_view t.frame) (task_at t.frame).statement (rest t.frame) c.args.name c.args.must (Some p) false (found_weak slots c.args.name
    c.from-from.result c.weak.result (Some p) c.weak.ensures c.from-from.ensures c.in-Some.is) gone))
    (look.table ∙ cond-true (c.look_lock-word.result == 0) _ _ zero)
    (c.take-then-word-eq0.ensures.frame_view ∙ lock_went v d (frame_view t.frame) (task_at t.frame).statement (rest t.frame) c.args.name c.args.must (Some p)
    false (found_weak slots c.args.name c.from-from.result c.weak.result (Some p) c.weak.ensures c.from-from.ensures c.in-Some.is) gone) r.begins.rest

pub returns-then-word-eq0-clause-fits : goal.returns-then-word-eq0-clause-fits
returns-then-word-eq0-clause-fits c =
    let d = c.args.desk in
    let t = c.args.self.now in
    let v = c.args.table.now in
    let r = c.requires in
    let slots = t.frame.registers.slots.items in
    let look = c.look_lock-word.ensures in
    let p = c.in-Some.pointer in
    let zero : (c.look_lock-word.result == 0) ≡ true = eq-eqb _ _ c.if-word-eq0.true in
    let gone = ap not (sym look.left ∙ zero) in
    let after = c.take-then-word-eq0.new.self in
    let w = c.look_lock-word.new.table in
    subst (λ (h : PendingCall). FitsThread d (record { frame = after; stock = t.stock; pending_call = h }) w) (sym r.begins.rest)
    (fits_done (lock (model_state v)) d t v w (Some p) after c.assert_invariant.ensures r.begins.fits r.begins.rest r.begins.none (λ x. refl) (λ x. refl)
    (look.table ∙ cond-true (c.look_lock-word.result == 0) _ _ zero) (c.take-then-word-eq0.ensures.on d w look.holds))

pub returns-clause-stepped : goal.returns-clause-stepped
returns-clause-stepped c =
    let d = c.args.desk in
    let t = c.args.self.now in
    let v = c.args.table.now in
    let r = c.requires in
    let slots = t.frame.registers.slots.items in
    let look = c.look_lock-word.ensures in
    let p = c.in-Some.pointer in
    let some : (c.look_lock-word.result == 0) ≡ false = ne_eqb _ _ c.if-word-eq0.false in
    let other = ap (λ (n : ℕ). n == 0) (sym look.word) ∙ some in
    steps_as d t v r.begins (Lock c.args.name c.args.must) r.act (trying (frame_view t.frame) (task_at t.frame).statement (owner_word v p))
    _ _ _ (lock_found v d (frame_view t.frame) (task_at t.frame).statement (rest t.frame) c.args.name c.args.must p (found_weak slots c.args.name
    c.from-from.result c.weak.result (Some p) c.weak.ensures c.from-from.ensures c.in-Some.is) other) refl
    (ap (λ (s : Said). Quiet s) (c.silent.ensures ∙ ap silent c.statement-statement.ensures))
    (look.table ∙ cond-false (c.look_lock-word.result == 0) _ _ some) refl
    (ap (λ (n : ℕ). Locking n) look.word ∙ sym (cond-false (owner_word v p == 0) Rest (Locking (owner_word v p)) other))

pub returns-clause-fits : goal.returns-clause-fits
returns-clause-fits c =
    let d = c.args.desk in
    let t = c.args.self.now in
    let v = c.args.table.now in
    let r = c.requires in
    let slots = t.frame.registers.slots.items in
    let look = c.look_lock-word.ensures in
    let p = c.in-Some.pointer in
    let some : (c.look_lock-word.result == 0) ≡ false = ne_eqb _ _ c.if-word-eq0.false in
    let word = c.look_lock-word.result in
    let full = ap (λ (a : Act). is_full (locked_pointer slots a)) r.act ∙ ap is_full (found_weak slots c.args.name c.from-from.result c.weak.result
    (Some p) c.weak.ensures c.from-from.ensures c.in-Some.is) in
    subst (λ (u : GhostState). FitsThread d (record { frame = t.frame; stock = t.stock; pending_call = Locking word }) u)
    (sym (look.table ∙ cond-false (word == 0) _ _ some))
    (fits_pending_call d t v Rest (Locking word) r.begins.fits r.begins.rest (λ b. refl) (λ b. refl)
    (is_idle d t v r.begins, (let z = c.if-word-eq0.false in omega (arith, z))) (r.begins.within, full, r.begins.none))
