use Rattle.std.proofs.Common.{ap, refl}
use Rattle.pointers.specs.Whole.{ContextNow}
use Rattle.pointers.proofs.HandCalls.{look_holds, look_lives, look_owns}
use Rattle.pointers.proofs.context.Context.look.Goals as goal

pub returns-clause-lives : goal.returns-clause-lives
returns-clause-lives g c =
    look_lives g.D.Domain.opened c.self.inside.desk c.args.self.now.desk c.self.inside.pile c.self.inside.claims.entries _ _ c.args.of.now.known
    c.self.invariant
    c.look.ensures.has refl (ap (λ (x : ContextNow g.row.D-Value.Denot). x.desk) c.self.view_is)

pub returns-clause-holds : goal.returns-clause-holds
returns-clause-holds g c =
    look_holds g.D.Domain.opened c.self.inside.desk c.args.self.now.desk c.self.inside.pile c.self.inside.claims.entries _ _ c.args.of.now.known
    c.self.invariant
    c.look.ensures.has refl (ap (λ (x : ContextNow g.row.D-Value.Denot). x.desk) c.self.view_is)

pub returns-clause-owns : goal.returns-clause-owns
returns-clause-owns g c =
    look_owns g.D.Domain.opened c.self.inside.desk c.args.self.now.desk c.self.inside.pile c.self.inside.claims.entries _ _ c.args.of.now.known
    c.look.result.now c.self.invariant
    c.look.ensures.has c.look.ensures.handle refl (ap (λ (x : ContextNow g.row.D-Value.Denot). x.desk) c.self.view_is)
