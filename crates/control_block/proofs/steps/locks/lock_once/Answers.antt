use Rattle.std.proofs.Common.{◌≡◌, ℕ, ◌+◌, ◌<◌, true, false, ◌==◌, sym, ap, ◌∙◌, subst, arith}
use Rattle.control_block.proofs.Prelude.{Allows, At, either, Lock, locked, none, Ruled}
use Rattle.control_block.proofs.Prelude.{step, tells, weak_of}
use Rattle.control_block.proofs.kept.Lock.{allows_lock, allows_seek, got_owner}
use Rattle.control_block.proofs.steps.locks.lock_once.Goals as goal

pub load-found-requires : goal.load-found-requires
load-found-requires g c =
    let r = c.requires in let e = c.block_word-word.ensures in let i = c.block_word-word.result in let table = c.args.table.now in (
      r.table,
      subst (λ x. x < table.table_id.words) (sym e) r.word.1,
      record {
        allows = allows_seek table.key table.table_id.slots c.args.seat.now.id c.args.of.block.0 g.M.StepArgs.object i g.M.StepArgs.place
            c.args.seat.now.me r.rests r.holds e;
      },
    )

pub compare_exchange-requires : goal.compare_exchange-requires
compare_exchange-requires g c =
    let r = c.requires in let e = c.block_word-word.ensures in let i = c.block_word-word.result in let table = c.args.table.now in
    let slots = table.table_id.slots in let o = g.M.StepArgs.object in let p = g.M.StepArgs.place in
    let t = c.load-found.ensures in let found : ℕ = c.load-found.result in let id = c.load-found.new.seat.id in (
      t.0 ∙ r.table,
      subst (λ x. x < table.table_id.words) (sym e) r.word.1,
      record {
        allows = subst (λ (m : At g.row.V.Denot). Allows (Ruled table.key) slots id m i (λ n. either (n == found) (found + 1099511627777) n)
            (locked o p (step slots i found (found + 1099511627777) none) m))
            (sym (t.2.1 c.if-found-eq0.false).0)
            (allows_lock table.key slots id c.args.of.block.0 o i found p c.args.seat.now.me r.rests r.holds r.room c.if-found-eq0.false e);
      },
    )

pub returns-then-found-eq0-clause-seat : goal.returns-then-found-eq0-clause-seat
returns-then-found-eq0-clause-seat g c = let t = c.load-found.ensures in (t.0, t.1, (t.2.0 c.if-found-eq0.true).1)

pub returns-then-found-eq0-clause-event : goal.returns-then-found-eq0-clause-event
returns-then-found-eq0-clause-event g c = (c.load-found.ensures.2.0 c.if-found-eq0.true).0

pub returns-then-found-eq0-clause-owner : goal.returns-then-found-eq0-clause-owner
returns-then-found-eq0-clause-owner g c =
    got_owner c.args.seat.now.me.0 c.load-found.new.seat.me.0 g.M.StepArgs.object g.M.StepArgs.place false
    (c.load-found.ensures.2.0 c.if-found-eq0.true).0

pub returns-then-compare_exchange-found-clause-seat : goal.returns-then-compare_exchange-found-clause-seat
returns-then-compare_exchange-found-clause-seat g c =
    let t = c.load-found.ensures in let q = c.compare_exchange.ensures in let me = (t.2.1 c.if-found-eq0.false).0 in
    (q.0 ∙ t.0, q.1 ∙ t.1, (q.2.0 c.if-compare_exchange-found.true).1 ∙ ap (λ m. m.1) me)

pub returns-then-compare_exchange-found-clause-event : goal.returns-then-compare_exchange-found-clause-event
returns-then-compare_exchange-found-clause-event g c =
    let o = g.M.StepArgs.object in let p = g.M.StepArgs.place in let q = c.compare_exchange.ensures in
    let me = (c.load-found.ensures.2.1 c.if-found-eq0.false).0 in
    subst (λ (y : At g.row.V.Denot). tells (Lock (weak_of o p) true) y.0 c.compare_exchange.new.seat.me.0) me (q.2.0 c.if-compare_exchange-found.true).0

pub returns-then-compare_exchange-found-clause-owner : goal.returns-then-compare_exchange-found-clause-owner
returns-then-compare_exchange-found-clause-owner g c =
    let q = c.compare_exchange.ensures in
    got_owner c.load-found.new.seat.me.0 c.compare_exchange.new.seat.me.0 g.M.StepArgs.object g.M.StepArgs.place true
    (q.2.0 c.if-compare_exchange-found.true).0

pub returns-clause-seat : goal.returns-clause-seat
returns-clause-seat g c =
    let t = c.load-found.ensures in let q = c.compare_exchange.ensures in let me = (t.2.1 c.if-found-eq0.false).0 in
    (q.0 ∙ t.0, q.1 ∙ t.1, ap (λ m. m.1) (q.2.1 c.if-compare_exchange-found.false ∙ me))

pub returns-clause-missed : goal.returns-clause-missed
returns-clause-missed g c = c.compare_exchange.ensures.2.1 c.if-compare_exchange-found.false ∙ (c.load-found.ensures.2.1 c.if-found-eq0.false).0
