use Rattle.std.proofs.Common.{◌≡◌, ◌-◌, length, refl, arith}
use Rattle.pointers.proofs.Prelude.{bears_kept, domain_of, Fills, stock_of}
use Rattle.pointers.proofs.Blocks.{fills, since_opened}
use Rattle.pointers.proofs.Calls.{by_passing}
use Rattle.pointers.proofs.Handles.{alike}
use Rattle.pointers.proofs.context.Context.fill.Goals as goal

pub invariant_of-self : goal.invariant_of-self
invariant_of-self g c =
    let o = g.D.Domain.opened in let d = c.self.inside.desk in let e = c.unshelve.new.self in let p = c.self.inside.pile in
    let cs = c.self.inside.claims.entries in let passes = c.unshelve.ensures.unshelved.passes in
    alike o d e p p cs cs c.self.invariant (by_passing d e passes.goes passes.latest passes.same.allowance)
    (bears_kept (domain_of o) d e p c.self.invariant.bears passes.same.domain passes.same.shape passes.endings passes.count) passes.bag passes.held refl

pub returns-clause-since : goal.returns-clause-since
returns-clause-since g c =
    let o = g.D.Domain.opened in let d = c.self.inside.desk in let e = c.unshelve.new.self in let says = c.unshelve.ensures in
    let is : c.saturating_sub-count.result ≡ 2 - length (stock_of d) = (let a = c.saturating_sub-count.ensures in let b = c.stock.ensures in
    omega (arith, a, b)) in
    since_opened {Does = Fills c.unshelve.result} o d e c.self.inside.pile c.self.inside.claims.entries c.self.invariant
    (fills c.unshelve.result c.saturating_sub-count.result d e is says.most says.unshelved)
