use Rattle.std.proofs.Common.{sym, subst}
use Rattle.pointers.proofs.Prelude.{block_of, Held, Owner, place_of}
use Rattle.pointers.specs.Known.{owned, pointed}
use Rattle.pointers.specs.Objects.{IsCounted}
use Rattle.pointers.specs.Whole.{ContextNow}
use Rattle.pointers.proofs.Calls.{by_count_of, counts_owners}
use Rattle.pointers.proofs.Handles.{alike, bears_by, owner_held, since}
use Rattle.pointers.proofs.context.Context.use_count.Goals as goal

pub use_count-requires-clause-holds : goal.use_count-requires-clause-holds
use_count-requires-clause-holds g c =
    owner_held g.D.Domain.opened c.self.inside.desk c.self.inside.pile c.self.inside.claims.entries c.args.of.now.at c.args.of.now.known c.look-of.result.now
    c.self.invariant c.look-of.ensures.has c.look-of.ensures.handle

pub invariant_of-self : goal.invariant_of-self
invariant_of-self g c =
    let o = g.D.Domain.opened in let d = c.self.inside.desk in let e = c.use_count.new.desk in let p = c.self.inside.pile in
    let cs = c.self.inside.claims.entries in
    let of = c.look-of.result.now in let says = c.use_count.ensures in
    alike o d e p p cs c.look-of.new.claims.entries c.self.invariant (by_count_of d Owner of.block of.place _ e says.count)
    (bears_by o d e p cs c.self.invariant says.keeps)
    says.bag says.held c.look-of.ensures.claims

pub returns-clause-since : goal.returns-clause-since
returns-clause-since g c =
    let o = g.D.Domain.opened in let d = c.self.inside.desk in let e = c.use_count.new.desk in let of = c.look-of.result.now in
    let is = sym c.look-of.ensures.handle in
    since o d e c.self.inside.pile c.self.inside.claims.entries c.args.of.now.at c.args.of.now.known c.self.invariant c.look-of.ensures.has
    (subst (λ (h : Held). IsCounted d Owner (block_of h) (place_of h) c.use_count.result e) is
    (counts_owners d Owner of.block of.place _ e c.use_count.ensures.count))

pub returns-clause-exact : goal.returns-clause-exact
returns-clause-exact g c =
    let d = c.self.inside.desk in let e = c.use_count.new.desk in let of = c.look-of.result.now in
    subst (λ (x : ContextNow g.row.D-Value.Denot).
    IsCounted x.desk Owner (owned c.args.of.now.known) (pointed c.args.of.now.known) c.use_count.result e) c.self.view_is
    (subst (λ (h : Held). IsCounted d Owner (block_of h) (place_of h) c.use_count.result e) (sym c.look-of.ensures.handle)
    (counts_owners d Owner of.block of.place _ e c.use_count.ensures.count))
