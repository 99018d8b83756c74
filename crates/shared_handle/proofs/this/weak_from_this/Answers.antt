use Rattle.std.proofs.Common.{Option, sym, ap, subst, inl, inr}
use Rattle.shared_handle.proofs.Prelude.{Block, DeskNow, HoldsHandle, Owner}
use Rattle.control_block.specs.Desks.{HasHandle}
use Rattle.shared_handle.proofs.this.weak_from_this.Goals as goal
use Rattle.control_word.specs.HandleWords.{HandleNow}

pub share_weak-requires-clause-may : goal.share_weak-requires-clause-may
share_weak-requires-clause-may g c =
    let place = c.args.handle.now.place in
    let there = subst (λ (b : Option Block). HoldsHandle c.args.desk.now Owner b place) c.in_ok-block.ensures.this.0 c.requires.holds in
    inl (
      Owner,
      place,
      subst (λ (d : DeskNow g.row.V.Denot). HasHandle d Owner place c.in_ok-block.block.0) (sym c.in_ok-block.ensures.same) there,
      inr (ap (λ (w : HandleNow). w.place) c.of.ensures),
    )
