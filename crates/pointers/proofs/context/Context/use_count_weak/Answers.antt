use Rattle.std.proofs.Common.{sym, subst}
use Rattle.pointers.proofs.Prelude.{block_of, Held, place_of, Weak}
use Rattle.pointers.proofs.Calls.{by_count_of, counts_owners}
use Rattle.pointers.specs.Objects.{IsCounted}
use Rattle.pointers.proofs.Handles.{alike, bears_by, weak_held, since}
use Rattle.pointers.proofs.context.Context.use_count_weak.Goals as goal

pub use_count_weak-requires-clause-holds : goal.use_count_weak-requires-clause-holds
use_count_weak-requires-clause-holds g c =
    weak_held g.D.Domain.opened c.self.inside.desk c.self.inside.pile c.self.inside.claims.entries c.args.of.now.at c.args.of.now.known c.look-of.result.now
    c.self.invariant c.look-of.ensures.has c.look-of.ensures.handle

pub invariant_of-self : goal.invariant_of-self
invariant_of-self g c =
    let o = g.D.Domain.opened in let d = c.self.inside.desk in let e = c.use_count_weak.new.desk in let p = c.self.inside.pile in
    let cs = c.self.inside.claims.entries in
    let of = c.look-of.result.now in let says = c.use_count_weak.ensures in
    alike o d e p p cs c.look-of.new.claims.entries c.self.invariant (by_count_of d Weak of.block of.place _ e says.count)
    (bears_by o d e p cs c.self.invariant says.keeps)
    says.bag says.held c.look-of.ensures.claims

pub returns : goal.returns
returns g c =
    let o = g.D.Domain.opened in let d = c.self.inside.desk in let e = c.use_count_weak.new.desk in let of = c.look-of.result.now in
    let is = sym c.look-of.ensures.handle in
    since o d e c.self.inside.pile c.self.inside.claims.entries c.args.of.now.at c.args.of.now.known c.self.invariant c.look-of.ensures.has
    (subst (λ (h : Held). IsCounted d Weak (block_of h) (place_of h) c.use_count_weak.result e) is
    (counts_owners d Weak of.block of.place _ e c.use_count_weak.ensures.count))
