use Rattle.shared_vec.proofs.Slots.{tells}
use Rattle.shared_vec.proofs.vector.SharedVec.is_empty_at.Goals as goal

pub returns-in-Some-clause-told : goal.returns-in-Some-clause-told
returns-in-Some-clause-told g c =
    tells g.D.Domain.opened c.args.self.now.place c.args.index c.number_at.result c.in-Some.leaf c.in_ok-leaf.field-0
    c.owner.result c.holds.result c.in_ok-leaf.ensures.leaf c.in-Some.is c.number_at.ensures c.owner.ensures
    c.holds.ensures.told
