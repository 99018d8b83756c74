use Rattle.std.proofs.Common.{sym, refl, ◌∙◌, subst, inr}
use Rattle.script_runner.proofs.Prelude.{HasScriptMembers}
use Rattle.script_runner.proofs.Noted as noted
use Rattle.script_runner.proofs.workers.log.Log.settle.Goals as goal

pub loop-init : goal.loop-init
loop-init g c =
    (refl, refl, noted.none_settled c.args.hand c.args.statement c.args.table.now c.args.self.now, refl, (refl, refl), c.requires.vacant)

pub round-requires : goal.round-requires
round-requires g c = record { vacant = c.loop.invariant.5 }

pub returns-then-not-round-clause-settled : goal.returns-then-not-round-clause-settled
returns-then-not-round-clause-settled g c =
    let r = c.if-not-round.ensures in
    noted.all_settled c.args.hand c.args.statement c.args.table.now c.args.self.now c.round.new.table c.round.new.self
    (noted.settled_then c.args.hand c.args.statement c.args.table.now c.args.self.now c.loop.table c.round.new.table c.loop.self c.round.new.self
    c.loop.invariant.2 r.goes c.loop.invariant.0) (r.over refl)

pub returns-then-not-round-clause-taken : goal.returns-then-not-round-clause-taken
returns-then-not-round-clause-taken g c = c.if-not-round.ensures.taken ∙ c.loop.invariant.0

pub returns-then-not-round-clause-slots : goal.returns-then-not-round-clause-slots
returns-then-not-round-clause-slots g c = c.if-not-round.ensures.slots ∙ c.loop.invariant.3

pub returns-then-not-round-clause-limits : goal.returns-then-not-round-clause-limits
returns-then-not-round-clause-limits g c =
    let r = c.if-not-round.ensures.limits in
    let l = c.loop.invariant.4 in (r.0 ∙ l.0, r.1 ∙ l.1)

pub returns-then-not-round-clause-book : goal.returns-then-not-round-clause-book
returns-then-not-round-clause-book g c = c.if-not-round.ensures.book ∙ c.loop.invariant.1

pub loop-preserved : goal.loop-preserved
loop-preserved g c =
    let r = c.if-not-round.ensures in
    let l = c.loop.invariant in (
      r.taken ∙ l.0,
      r.book ∙ l.1,
      noted.settled_then c.args.hand c.args.statement c.args.table.now c.args.self.now c.loop.table c.round.new.table c.loop.self c.round.new.self
          l.2 r.goes l.0,
      r.slots ∙ l.3,
      (r.limits.0 ∙ l.4.0, r.limits.1 ∙ l.4.1),
      record { room = inr (r.on refl); members = subst HasScriptMembers (sym r.limits.0) l.5.members },
    )
