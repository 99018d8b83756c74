use Rattle.std.proofs.Common.{◌≡◌, ℕ, ◌+◌, true, false, cond, is_some, IfNone, IfSome, Option, sym, ap, ◌∙◌}
use Rattle.std.proofs.Common.{subst, arith}
use Rattle.pointers.proofs.Prelude.{bag_of, block_of, Held, Owner, place_of, Shared, with_handle}
use Rattle.control_block.specs.declared.handles.Held.TheVariants as held
use Rattle.pointers.proofs.Calls.{by_lock, locked_none}
use Rattle.pointers.proofs.HandCalls.{locks_by}
use Rattle.pointers.proofs.Handles.{alike, bears_by, more_kept, of_one, since, weak_held}
use Rattle.shared_handle.specs.Locks.{IsLockBy}
use Rattle.pointers.specs.Objects.{FindsNoOwner}
use Rattle.pointers.proofs.context.Context.lock_once.Goals as goal

pub lock_once-requires-clause-holds : goal.lock_once-requires-clause-holds
lock_once-requires-clause-holds g c =
    weak_held g.D.Domain.opened c.self.inside.desk c.self.inside.pile c.self.inside.claims.entries c.args.of.now.at c.args.of.now.known c.look-of.result.now
    c.self.invariant c.look-of.ensures.has c.look-of.ensures.handle

pub invariant_of-self : goal.invariant_of-self
invariant_of-self g c =
    let o = g.D.Domain.opened in let d = c.self.inside.desk in let e = c.lock_once.new.desk in let p = c.self.inside.pile in
    let cs = c.self.inside.claims.entries in
    let h = c.in-Some-Some.handle in let of = c.look-of.result.now in let says = c.in-Some-Some.ensures in let is = c.in-Some-Some.field-0-is in
    let lock = subst (λ (r : Option Shared). IsLockBy d of.block of.place (is_some r) e) is says.lock in
    let bag = subst (λ (r : Option Shared). IfSome r (λ x. bag_of e ≡ with_handle Owner x.block x.place (bag_of d))) is says.bag in
    let many = subst (λ (r : Option Shared). ◌≡◌ {A = ℕ} e.held (d.held + cond (is_some r) 1 0)) is says.held in
    more_kept o d e p cs c.look-of.new.claims.entries c.register.new.claims.entries (held.Owner h) c.register.result.known c.self.invariant
    c.assert_invariant.ensures (by_lock d of.block of.place true e lock) says.keeps
    bag many c.look-of.ensures.claims c.register.ensures.claims c.register.ensures.known

pub invariant_of-self-in-Some-None : goal.invariant_of-self-in-Some-None
invariant_of-self-in-Some-None g c =
    let o = g.D.Domain.opened in let d = c.self.inside.desk in let e = c.lock_once.new.desk in let p = c.self.inside.pile in
    let cs = c.self.inside.claims.entries in
    let of = c.look-of.result.now in let says = c.in-Some-None.ensures in let is = c.in-Some-None.field-0-is in
    let lock = subst (λ (r : Option Shared). IsLockBy d of.block of.place (is_some r) e) is says.lock in
    let none = subst (λ (r : Option Shared). IfNone r (bag_of e ≡ bag_of d)) is says.none in
    let count = subst (λ (r : Option Shared). ◌≡◌ {A = ℕ} e.held (d.held + cond (is_some r) 1 0)) is says.held in
    let many : ◌≡◌ {A = ℕ} e.held d.held = omega (arith, count) in
    alike o d e p p cs c.look-of.new.claims.entries c.self.invariant (by_lock d of.block of.place false e lock)
    (bears_by o d e p cs c.self.invariant says.keeps) none many c.look-of.ensures.claims

pub returns-in-Some-Some-clause-one : goal.returns-in-Some-Some-clause-one
returns-in-Some-Some-clause-one g c =
    let o = g.D.Domain.opened in let d = c.self.inside.desk in let e = c.lock_once.new.desk in let p = c.self.inside.pile in
    let cs = c.self.inside.claims.entries in
    let h = c.in-Some-Some.handle in let of = c.look-of.result.now in let says = c.in-Some-Some.ensures in let is = c.in-Some-Some.field-0-is in
    let lock = subst (λ (r : Option Shared). IsLockBy d of.block of.place (is_some r) e) is says.lock in
    let handle = subst (λ (r : Option Shared). IfSome r (λ x. (x.block ≡ of.block) × (x.place ≡ of.place))) is says.handle in
    of_one o d e p p cs c.args.of.now.at c.args.of.now.known c.register.result.known (held.Owner h) c.self.invariant
    c.look-of.ensures.has (by_lock d of.block of.place true e lock) c.register.ensures.known
    (handle.0 ∙ ap block_of (sym c.look-of.ensures.handle))

pub returns-in-Some-None-clause-none : goal.returns-in-Some-None-clause-none
returns-in-Some-None-clause-none g c =
    let o = g.D.Domain.opened in let d = c.self.inside.desk in let e = c.lock_once.new.desk in let cs = c.self.inside.claims.entries in
    let of = c.look-of.result.now in let says = c.in-Some-None.ensures in
    let lock = subst (λ (r : Option Shared). IsLockBy d of.block of.place (is_some r) e) c.in-Some-None.field-0-is says.lock in
    since o d e c.self.inside.pile cs c.args.of.now.at c.args.of.now.known c.self.invariant c.look-of.ensures.has
    (subst (λ (x : Held). FindsNoOwner d (block_of x) (place_of x) e) (sym c.look-of.ensures.handle)
    (locked_none d of.block of.place e lock))

pub returns-in-Some-Some-clause-came : goal.returns-in-Some-Some-clause-came
returns-in-Some-Some-clause-came g c =
    let o = g.D.Domain.opened in let d = c.self.inside.desk in let e = c.lock_once.new.desk in let cs = c.self.inside.claims.entries in
    let of = c.look-of.result.now in let says = c.in-Some-Some.ensures in
    let lock = subst (λ (r : Option Shared). IsLockBy d of.block of.place (is_some r) e) c.in-Some-Some.field-0-is says.lock in
    since o d e c.self.inside.pile cs c.args.of.now.at c.args.of.now.known c.self.invariant c.look-of.ensures.has
    (locks_by d e c.args.of.now.known c.register.result.known of c.in-Some-Some.handle c.look-of.ensures.handle lock c.register.ensures.known)
