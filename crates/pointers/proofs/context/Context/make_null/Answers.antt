use Rattle.std.proofs.Common.{true, false, [], ◌∷◌, refl}
use Rattle.pointers.proofs.Prelude.{bears_kept, domain_of}
use Rattle.control_block.specs.declared.handles.Held.TheVariants as held
use Rattle.pointers.proofs.Calls.{by_make}
use Rattle.pointers.proofs.Handles.{more}
use Rattle.pointers.proofs.Later.{goes_then}
use Rattle.pointers.proofs.Objects.{makes_null}
use Rattle.pointers.proofs.context.Context.make_null.Goals as goal

pub invariant_of-self-2 : goal.invariant_of-self-2
invariant_of-self-2 g c =
    let o = g.D.Domain.opened in let d = c.self.inside.desk in let e = c.make_null.new.desk in let p = c.self.inside.pile in
    let cs = c.self.inside.claims.entries in
    let h = c.in_ok-handle.handle in let says = c.in_ok-handle.ensures in
    more o d e p p cs cs c.register.new.claims.entries (held.Owner h) c.register.result.known c.self.invariant
    c.assert_invariant.ensures (by_make d false true (0 ∷ 0 ∷ 0 ∷ 0 ∷ []) c.args.value h.block h.place e says.event)
    (bears_kept (domain_of o) d e p c.self.invariant.bears says.desk.domain says.desk.shape says.endings says.count)
    says.bag says.held refl c.register.ensures.claims c.register.ensures.known

pub returns-clause-made : goal.returns-clause-made
returns-clause-made g c =
    let o = g.D.Domain.opened in let d = c.self.inside.desk in let e = c.make_null.new.desk in
    let h = c.in_ok-handle.handle in let says = c.in_ok-handle.ensures in
    makes_null o d e h c.register.result.known c.args.value
    (goes_then o d e c.self.invariant.opened
    (by_make d false true (0 ∷ 0 ∷ 0 ∷ 0 ∷ []) c.args.value h.block h.place e says.event).goes) says.event
    c.register.ensures.known
