use Rattle.std.proofs.Common.{Option, refl, subst, sym}
use Rattle.control_block.proofs.Prelude.{HoldingInBlock, known, Place}
use Rattle.control_block.proofs.retries.loads.top_up.Goals as goal

pub refill-requires-clause-aim : goal.refill-requires-clause-aim
refill-requires-clause-aim g c = c.requires.aim

pub refill-requires-clause-holds : goal.refill-requires-clause-holds
refill-requires-clause-holds g c =
    let me = c.args.seat.now.me.0 in (
      refl,
      subst (λ (p : Option Place). HoldingInBlock me c.args.kind ((known me).latest c.args.block.0) p c.args.block.0)
          (sym c.place.ensures.place) c.requires.holds,
    )

pub refill-requires-clause-count : goal.refill-requires-clause-count
refill-requires-clause-count g c = c.requires.count
