use Rattle.std.proofs.Common.{refl, sym, ◌∙◌}
use Rattle.control_block.proofs.slot.Slot.visit.Goals as goal

pub returns : goal.returns
returns g c = (
  _,
  _,
  sym c.self.view_is ∙ c.get_mut.ensures.value,
  record { shown = _; shows = refl; left = _; met = c.f.ensures; leaves = refl },
  refl,
)
