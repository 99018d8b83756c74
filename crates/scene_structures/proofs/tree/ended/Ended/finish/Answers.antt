use Rattle.std.proofs.Common.{sym, ◌∙◌}
use Rattle.scene_structures.proofs.Slots.{empty_less, out_less}
use Rattle.scene_structures.proofs.tree.ended.Ended.finish.Goals as goal

pub returns-clause-vacant : goal.returns-clause-vacant
returns-clause-vacant g c = empty_less _ _ _ _ (sym c.requires.vacant ∙ c.take_last-slot.ensures.items)

pub returns-clause-out : goal.returns-clause-out
returns-clause-out g c zs x vs same out = out_less _ _ _ _ zs x vs (sym c.requires.vacant ∙ c.take_last-slot.ensures.items) same out
