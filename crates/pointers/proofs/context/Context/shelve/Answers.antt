use Rattle.std.proofs.Common.{refl}
use Rattle.pointers.proofs.Prelude.{bears_kept, domain_of}
use Rattle.pointers.proofs.Calls.{by_passing}
use Rattle.pointers.proofs.Handles.{alike}
use Rattle.pointers.proofs.context.Context.shelve.Goals as goal

pub invariant_of-self : goal.invariant_of-self
invariant_of-self g c =
    let o = g.D.Domain.opened in let d = c.self.inside.desk in let e = c.shelve.new.self in let p = c.self.inside.pile in
    let cs = c.self.inside.claims.entries in let passes = c.shelve.ensures.shelved.passes in
    alike o d e p p cs cs c.self.invariant (by_passing d e passes.goes passes.latest passes.same.allowance)
    (bears_kept (domain_of o) d e p c.self.invariant.bears passes.same.domain passes.same.shape passes.endings passes.count) passes.bag passes.held refl
