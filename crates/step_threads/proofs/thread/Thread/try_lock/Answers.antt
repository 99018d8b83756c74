use Rattle.std.proofs.Common.{◌≡◌, ℕ, true, false, cond, not, set, ◌==◌, Some, sym, refl, ap, ◌∙◌}
use Rattle.std.proofs.Common.{subst, arith, eq-eqb, ne_eqb}
use Rattle.step_threads.proofs.Prelude
use Prelude.{as_owner, cond-false, cond-true, Event, FitsThread, frame_settled, frame_view, Full}
use Prelude.{GhostState, hand, HasGoneOn, IsNext, IsReady, Lock, lock, Locking, model_state}
use Prelude.{owner_word, PendingCall, Quiet, Rest, rest, Said, silent, Slot, Slots, step_of_act}
use Prelude.{task_at, todo, trying, waits}
use Rattle.step_threads.proofs.Hands.{locked_ready}
use Rattle.step_threads.proofs.Going.{found_weak}
use Rattle.step_threads.proofs.LockSteps.{lock_said, lock_says, lock_went, locks_it, locks_on}
use Rattle.step_threads.proofs.StoreFits.{pending_call_here}
use Rattle.step_threads.proofs.Steps.{stepped_as}
use Rattle.step_threads.proofs.LookFits.{fits_gone}
use Rattle.step_threads.proofs.Threads.{own_pending}
use Rattle.step_threads.proofs.thread.Thread.try_lock.Goals as goal

pub take-requires-clause-ready : goal.take-requires-clause-ready
take-requires-clause-ready c =
    let t = c.args.self.now.frame in
    let l = t.registers.slots.items in
    let x : Slot = Full (as_owner c.in-Some.pointer) in
    let next : IsNext (Locking c.args.word) t = subst (λ (h : PendingCall). IsNext h t) c.requires.pending_call c.requires.fits.next in
    let slots : c.try_lock-now.new.self.slots.items ≡ set l (hand l) x = c.try_lock-now.ensures.slots
    ∙ cond-true (c.try_lock-now.result == c.args.word) (set l c.hand-hand.result x) l (eq-eqb _ _ c.if-now-word.true)
    ∙ ap (λ (k : ℕ). set l k x) c.hand-hand.ensures in
    subst (λ (z : Slots). IsReady z true t.endings.list (rest t)) (sym slots)
    (locked_ready t c.args.name c.args.must x next.0 c.requires.fits.ready c.requires.act)

pub returns-then-now-word-clause-stepped : goal.returns-then-now-word-clause-stepped
returns-then-now-word-clause-stepped c =
    let d = c.args.desk in
    let t = c.args.self.now in
    let v = c.args.table.now in
    let r = c.requires in
    let slots = t.frame.registers.slots.items in
    let p = c.in-Some.pointer in
    let look = c.try_lock-now.ensures in
    let word = c.args.word in
    let now = c.try_lock-now.result in
    let next : IsNext (Locking word) t.frame = subst (λ (h : PendingCall). IsNext h t.frame) r.pending_call r.fits.next in
    let same : (now == word) ≡ true = eq-eqb _ _ c.if-now-word.true in
    let pos = (pending_call_here d t v (Locking word) r.fits r.pending_call).1 in
    let left : (now == 0) ≡ false = ne_eqb now 0 (λ e. (let q = c.if-now-word.true in absurd (omega (arith, pos, q, e)))) in
    let got = ap not (sym look.left ∙ left) in
    let e = look.slots ∙ cond-true (now == word) _ _ same ∙ ap (λ (k : ℕ). set slots k (Full (as_owner p))) c.hand-hand.ensures in
    stepped_as d t v (step_of_act v d (frame_view t.frame) (task_at t.frame).statement (rest t.frame) (Lock c.args.name c.args.must) (Some (lock
    (model_state v) p)) Rest) _ _ _
    (ap (λ (h : PendingCall). waits v h (frame_view t.frame)) r.pending_call)
    (locks_it v d t c.args.name c.args.must word p r.pending_call next.0 r.act (found_weak slots c.args.name c.from-from.result c.weak.result (Some p)
    c.weak.ensures c.from-from.ensures c.in-Some.is) (ap (λ (n : ℕ). n == word) (sym look.word) ∙ same))
    (ap (λ (s : Said). Event s) (c.locked.ensures ∙ ap (λ n. lock_said n c.args.must true) c.statement-statement.ensures
    ∙ lock_says v d (frame_view t.frame) (task_at t.frame).statement (rest t.frame) c.args.name c.args.must (Some p) true (found_weak slots c.args.name
    c.from-from.result c.weak.result (Some p) c.weak.ensures c.from-from.ensures c.in-Some.is) got))
    (look.table ∙ cond-true (now == word) _ _ same)
    (c.take.ensures.frame_view ∙ ap (λ (l : Slots). frame_settled l true t.frame.endings.list (rest t.frame)) e
    ∙ lock_went v d (frame_view t.frame) (task_at t.frame).statement (rest t.frame) c.args.name c.args.must (Some p) true (found_weak slots c.args.name
    c.from-from.result c.weak.result (Some p) c.weak.ensures c.from-from.ensures c.in-Some.is) got) refl

pub returns-then-now-word-clause-fits : goal.returns-then-now-word-clause-fits
returns-then-now-word-clause-fits c =
    let d = c.args.desk in
    let t = c.args.self.now in
    let v = c.args.table.now in
    let r = c.requires in
    let slots = t.frame.registers.slots.items in
    let p = c.in-Some.pointer in
    let look = c.try_lock-now.ensures in
    let word = c.args.word in
    let now = c.try_lock-now.result in
    let next : IsNext (Locking word) t.frame = subst (λ (h : PendingCall). IsNext h t.frame) r.pending_call r.fits.next in
    let same : (now == word) ≡ true = eq-eqb _ _ c.if-now-word.true in
    let atomic_step = lock (model_state v) p in
    let is = look.table ∙ cond-true (now == word) _ _ same in
    let after = c.take.new.self in
    subst (λ (u : GhostState). FitsThread d (record { frame = after; stock = t.stock; pending_call = Rest }) u) (sym is)
    (fits_gone d t v (Locking word) Rest r.fits r.pending_call (λ b. refl) (λ b. refl) atomic_step after next.2 refl
    (subst (λ (u : GhostState). HasGoneOn d t.frame after u) is (c.take.ensures.on d c.try_lock-now.new.table look.holds))
    (own_pending v d atomic_step c.assert_invariant.ensures r.fits.seat) tt)

pub returns-clause-stepped : goal.returns-clause-stepped
returns-clause-stepped c =
    let d = c.args.desk in
    let t = c.args.self.now in
    let v = c.args.table.now in
    let r = c.requires in
    let slots = t.frame.registers.slots.items in
    let p = c.in-Some.pointer in
    let look = c.try_lock-now.ensures in
    let word = c.args.word in
    let now = c.try_lock-now.result in
    let next : IsNext (Locking word) t.frame = subst (λ (h : PendingCall). IsNext h t.frame) r.pending_call r.fits.next in
    let other : (now == word) ≡ false = ne_eqb _ _ c.if-now-word.false in
    stepped_as d t v (trying (frame_view t.frame) (task_at t.frame).statement (owner_word v p)) _ _ _
    (ap (λ (h : PendingCall). waits v h (frame_view t.frame)) r.pending_call)
    (locks_on v d t c.args.name c.args.must word p r.pending_call next.0 r.act (found_weak slots c.args.name c.from-from.result c.weak.result (Some p)
    c.weak.ensures c.from-from.ensures c.in-Some.is) (ap (λ (n : ℕ). n == word) (sym look.word) ∙ other))
    (ap (λ (s : Said). Quiet s) (c.silent.ensures ∙ ap silent c.statement-statement.ensures))
    (look.table ∙ cond-false (now == word) _ _ other)
    (ap (λ (l : Slots). record { slots = l; taken = t.frame.taken; endings = t.frame.endings.list; todo = todo t.frame })
    (look.slots ∙ cond-false (now == word) _ _ other))
    (c.goes_on-self.ensures ∙ ap (λ (n : ℕ). cond (n == 0) Rest (Locking n)) look.word)
