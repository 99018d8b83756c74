use Rattle.std.proofs.Common.{refl}
use Rattle.pointers.proofs.Blocks.{none_left}
use Rattle.pointers.proofs.Handles.{alike, bears_pile}
use Rattle.pointers.proofs.Rounds.{by_rounds}
use Rattle.pointers.proofs.context.Context.next_value.Goals as goal

pub invariant_of-self : goal.invariant_of-self
invariant_of-self g c =
    let o = g.D.Domain.opened in let d = c.self.inside.desk in let e = c.next_value.new.desk in let p = c.self.inside.pile in let q = c.next_value.new.self in
    let cs = c.self.inside.claims.entries in let says = c.next_value.ensures in
    alike o d e p q cs cs c.self.invariant (by_rounds d p.endings.items says.rounds.0 e q.endings.items says.rounds.1)
    (bears_pile o c.args.domain.now d e p q cs c.self.invariant c.requires says.carries says.elsewhere) says.bag says.held refl

pub returns-clause-none : goal.returns-clause-none
returns-clause-none g c =
    let o = g.D.Domain.opened in let d = c.self.inside.desk in let e = c.next_value.new.desk in let p = c.self.inside.pile in let q = c.next_value.new.self in
    let cs = c.self.inside.claims.entries in let says = c.next_value.ensures in
    none_left o d e p q cs c.next_value.result c.next_value.new.rounds c.self.invariant
    (by_rounds d p.endings.items says.rounds.0 e q.endings.items says.rounds.1)
    (bears_pile o c.args.domain.now d e p q cs c.self.invariant c.requires says.carries says.elsewhere) says.none
