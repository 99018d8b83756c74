use Rattle.std.proofs.Common.{◌≡◌, Some}
use Rattle.shared_vec.proofs.Slots.{sets}
use Rattle.shared_vec.proofs.vector.SharedVec.set.Goals as goal

pub returns-in-Ok-Some-clause-done : goal.returns-in-Ok-Some-clause-done
returns-in-Ok-Some-clause-done g c =
    let some : c.in-Ok-Some.field-0 ≡ Some c.in-Ok-Some.leaf = cc in
    sets g.D.Domain.opened c.args.self.now.place c.args.index c.number_at.result c.in-Ok-Some.leaf c.args.new
    c.in-Ok-Some.field-0 c.owner.result c.replace.result c.in-Ok-Some.ensures.leaf some c.number_at.ensures
    c.owner.ensures c.replace.ensures.done
