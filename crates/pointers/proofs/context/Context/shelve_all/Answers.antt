use Rattle.std.proofs.Common.{refl}
use Rattle.pointers.proofs.Prelude.{bears_kept, domain_of, ShelvesAll}
use Rattle.pointers.proofs.Blocks.{shelves_all, since_opened}
use Rattle.pointers.proofs.Calls.{by_passing}
use Rattle.pointers.proofs.Handles.{alike}
use Rattle.pointers.proofs.context.Context.shelve_all.Goals as goal

pub invariant_of-self : goal.invariant_of-self
invariant_of-self g c =
    let o = g.D.Domain.opened in let d = c.self.inside.desk in let e = c.shelve.new.self in let p = c.self.inside.pile in
    let cs = c.self.inside.claims.entries in let passes = c.shelve.ensures.shelved.passes in
    alike o d e p p cs cs c.self.invariant (by_passing d e passes.goes passes.latest passes.same.allowance)
    (bears_kept (domain_of o) d e p c.self.invariant.bears passes.same.domain passes.same.shape passes.endings passes.count) passes.bag passes.held refl

pub returns : goal.returns
returns g c =
    let o = g.D.Domain.opened in let d = c.self.inside.desk in let e = c.shelve.new.self in let says = c.shelve.ensures in
    since_opened {Does = ShelvesAll c.shelve.result} o d e c.self.inside.pile c.self.inside.claims.entries c.self.invariant
    (shelves_all c.shelve.result c.stock-count.result d e says.shelved says.count c.stock-count.ensures)
