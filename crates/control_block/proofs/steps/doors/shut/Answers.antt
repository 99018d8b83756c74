use Rattle.std.proofs.Common.{ℕ, ◌+◌, ◌-◌, ◌<◌, ◌∷◌, ◌==◌, Some, sym, ap, ◌∙◌, subst, inl, arith}
use Rattle.control_block.proofs.Prelude.{Allows, At, Block, either, none, Owner, peeked, Ruled}
use Rattle.control_block.proofs.Prelude.{step}
use Rattle.control_block.specs.DoorStepKinds.{shut}
use Rattle.control_block.proofs.desks.Visiting.{visits_now}
use Rattle.control_block.proofs.kept.Door.{allows_shut}
use Rattle.control_block.proofs.kept.Peek.{allows_peek}
use Rattle.control_block.proofs.steps.doors.shut.Goals as goal

pub load-found-requires : goal.load-found-requires
load-found-requires g c =
    let r = c.requires in let e = c.block_word-word.ensures in let i = c.block_word-word.result in let table = c.args.table.now in
    let l = c.loop.invariant in let slots = table.table_id.slots in let o = g.M.StepArgs.object in (
      l.2 ∙ r.table,
      subst (λ x. x < table.table_id.words) (sym e) r.word.1,
      record {
        allows = subst (λ (m : At g.row.V.Denot × ℕ). Allows (Ruled table.key) slots c.loop.seat.id m.0 i (λ n. n)
            (peeked o m.1 (step slots i 0 0 none) m.0))
            (λ j. (sym l.4 j, sym r.holds.1 j))
            (allows_peek table.key slots c.loop.seat.id c.args.of.block.0 o i 0 c.args.seat.now.me r.rests.awake
            (inl (Owner, g.M.StepArgs.place, r.holds.2)) (omega arith) e);
      },
    )

pub compare_exchange-requires : goal.compare_exchange-requires
compare_exchange-requires g c =
    let r = c.requires in let e = c.block_word-word.ensures in let i = c.block_word-word.result in let table = c.args.table.now in
    let l = c.loop.invariant in let slots = table.table_id.slots in let o = g.M.StepArgs.object in let p = g.M.StepArgs.place in
    let t = c.load-found.ensures in let found : ℕ = c.load-found.result in let id = c.load-found.new.seat.id in (
      t.0 ∙ (l.2 ∙ r.table),
      subst (λ x. x < table.table_id.words) (sym e) r.word.1,
      record {
        allows = subst (λ (m : At g.row.V.Denot × Block). Allows (Ruled table.key) slots id m.0 i (λ n. either (n == found) (found + 4) n)
            (shut m.1 o p (step slots i found (found + 4) none) m.0))
            (λ j. (sym (t.2.0 ∙ l.4) j, sym r.holds.0 j))
            (allows_shut table.key slots id o i found c.args.of.block p c.args.seat.now.me r.rests r.holds.2 e c.if-found-lt-DOOR.true);
      },
    )

pub returns-then-compare_exchange-found-clause-visiting : goal.returns-then-compare_exchange-found-clause-visiting
returns-then-compare_exchange-found-clause-visiting g c =
    let r = c.requires in let l = c.loop.invariant in let t = c.load-found.ensures in let q = c.compare_exchange.ensures in
    let h = q.2.0 c.if-compare_exchange-found.true in let o = g.M.StepArgs.object in let p = g.M.StepArgs.place in
    let me = t.2.0 ∙ l.4 in (
      h.0,
      visits_now c.args.seat.now.me.0 c.load-found.new.seat.me c.compare_exchange.new.seat.me g.M.StepArgs.block c.args.of.block o p
          c.block_word-word.result h.0 (ap (λ m. m.0) me) r.holds.0 c.block_word-word.ensures h.1 h.2
          (h.3 ∙ ap (λ l. (g.M.StepArgs.block.0 - 1, Some h.0) ∷ l) (ap (λ m. m.1) me ∙ r.rests.none)),
    )
