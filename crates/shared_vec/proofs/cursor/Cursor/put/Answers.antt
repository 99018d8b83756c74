use Rattle.std.proofs.Common.{◌≡◌, Some}
use Rattle.shared_vec.proofs.Slots.{sets}
use Rattle.shared_vec.proofs.cursor.Cursor.put.Goals as goal

pub returns-in-Some-clause-done : goal.returns-in-Some-clause-done
returns-in-Some-clause-done g c =
    let some : c.args.self.now.leaf ≡ Some c.in-Some.leaf = cc in
    λ way. sets g.D.Domain.opened c.args.self.now.vector.now.place c.args.index c.number_at.result c.in-Some.leaf
    c.args.new c.args.self.now.leaf c.owner.result c.replace.result way some c.number_at.ensures c.owner.ensures
    c.replace.ensures.done
