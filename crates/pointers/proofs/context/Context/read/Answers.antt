use Rattle.std.proofs.Common.{sym, subst}
use Rattle.pointers.proofs.Prelude.{block_of, Held, IsRead, place_of}
use Rattle.pointers.proofs.Calls.{by_read}
use Rattle.pointers.proofs.Fields.{field_read}
use Rattle.pointers.proofs.Handles.{alike, bears_by, owner_held}
use Rattle.pointers.proofs.context.Context.read.Goals as goal

pub read-requires-clause-holds : goal.read-requires-clause-holds
read-requires-clause-holds g c =
    owner_held g.D.Domain.opened c.self.inside.desk c.self.inside.pile c.self.inside.claims.entries c.args.of.now.at c.args.of.now.known c.look-of.result.now
    c.self.invariant c.look-of.ensures.has c.look-of.ensures.handle

pub invariant_of-self : goal.invariant_of-self
invariant_of-self g c =
    let o = g.D.Domain.opened in let d = c.self.inside.desk in let e = c.read.new.desk in let p = c.self.inside.pile in let cs = c.self.inside.claims.entries in
    let of = c.look-of.result.now in let says = c.read.ensures in
    alike o d e p p cs c.look-of.new.claims.entries c.self.invariant (by_read d of.block of.place _ e says.read)
    (bears_by o d e p cs c.self.invariant says.keeps)
    says.bag says.held c.look-of.ensures.claims

pub returns-clause-field : goal.returns-clause-field
returns-clause-field g c =
    let o = g.D.Domain.opened in let d = c.self.inside.desk in let e = c.read.new.desk in let known = c.args.of.now.known in
    field_read o d e known c.read.result (c.self.invariant.lives c.args.of.now.at known c.look-of.ensures.has)
    (subst (λ (h : Held). IsRead d (block_of h) (place_of h) c.read.result e) (sym c.look-of.ensures.handle) c.read.ensures.read)
