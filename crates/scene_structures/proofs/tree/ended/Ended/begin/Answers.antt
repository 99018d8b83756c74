use Rattle.std.proofs.Common.{rules}
use Rattle.scene_structures.proofs.Slots.{empty_more}
use Rattle.scene_structures.proofs.tree.ended.Ended.begin.Goals as goal

pub returns-clause-vacant : goal.returns-clause-vacant
returns-clause-vacant g c = empty_more _ _ _ _ c.requires.vacant (search (rules, c.push_reserved.ensures.items, c.len.ensures)) c.push_reserved-2.ensures.items
