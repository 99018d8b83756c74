use Rattle.std.proofs.Common.{refl}
use Rattle.pointers.proofs.Ends.{by_end_next}
use Rattle.pointers.proofs.Handles.{alike, bears_pile}
use Rattle.pointers.proofs.context.Context.end_top.Goals as goal

pub invariant_of-self : goal.invariant_of-self
invariant_of-self g c =
    let o = g.D.Domain.opened in let d = c.self.inside.desk in let e = c.end_next.new.desk in let p = c.self.inside.pile in let q = c.end_next.new.self in
    let cs = c.self.inside.claims.entries in let says = c.end_next.ensures in
    alike o d e p q cs cs c.self.invariant (by_end_next d p.endings.items c.end_next.result e q.endings.items says.none says.ended)
    (bears_pile o c.args.domain.now d e p q cs c.self.invariant c.requires says.carries says.elsewhere) says.bag says.held refl
