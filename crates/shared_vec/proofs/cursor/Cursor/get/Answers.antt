use Rattle.std.proofs.Common.{◌≡◌, Some}
use Rattle.shared_vec.proofs.Cursors.{gets_in}
use Rattle.shared_vec.proofs.cursor.Cursor.get.Goals as goal

pub returns-in-Some-clause-done : goal.returns-in-Some-clause-done
returns-in-Some-clause-done g c =
    let some : c.go.new.self.leaf ≡ Some c.in-Some.leaf = cc in
    λ kept. gets_in g.D.Domain.opened c.args.self.now.vector.now.place c.args.index c.number_at.result
    c.in-Some.leaf c.go.new.self.leaf c.owner.result c.load.result c.number_at.ensures c.owner.ensures
    c.load.ensures.loaded some (c.in_ok-go.ensures.leaf kept)
