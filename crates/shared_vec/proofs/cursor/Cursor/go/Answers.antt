use Rattle.std.proofs.Common.{◌∙◌, sym}
use Rattle.shared_vec.proofs.Cursors.{near}
use Rattle.shared_vec.proofs.cursor.Cursor.go.Goals as goal

pub returns-then-self-index-clause-leaf : goal.returns-then-self-index-clause-leaf
returns-then-self-index-clause-leaf g c =
    λ kept. near g.D.Domain.opened c.args.self.now.vector.now.place c.args.self.now.index c.args.index
    c.args.self.now.leaf (sym c.is_some.ensures ∙ c.if-is_some.true) c.if-self-index.true kept
