use Rattle.std.proofs.Common.{false, refl}
use Rattle.pointers.proofs.Prelude.{bears_kept, domain_of}
use Rattle.control_block.specs.declared.handles.Held.TheVariants as held
use Rattle.pointers.proofs.Calls.{by_make}
use Rattle.pointers.proofs.Later.{goes_then}
use Rattle.pointers.proofs.Objects.{makes}
use Rattle.pointers.proofs.Handles.{more}
use Rattle.std.proofs.Common.{ap}
use Rattle.pointers.proofs.HandCalls.{makes_now}
use Rattle.pointers.specs.Whole.{ContextNow}
use Rattle.pointers.proofs.context.Context.make.Goals as goal

pub invariant_of-self-2 : goal.invariant_of-self-2
invariant_of-self-2 g c =
    let o = g.D.Domain.opened in let d = c.self.inside.desk in let e = c.make.new.desk in let p = c.self.inside.pile in let cs = c.self.inside.claims.entries in
    let h = c.in_ok-handle.handle in let says = c.in_ok-handle.ensures in
    more o d e p p cs cs c.register.new.claims.entries (held.Owner h) c.register.result.known c.self.invariant
    c.assert_invariant.ensures (by_make d c.args.enabled false c.args.fields c.args.value h.block h.place e says.event)
    (bears_kept (domain_of o) d e p c.self.invariant.bears says.desk.domain says.desk.shape says.endings says.count)
    says.bag says.held refl c.register.ensures.claims c.register.ensures.known

pub returns-clause-made : goal.returns-clause-made
returns-clause-made g c =
    let o = g.D.Domain.opened in let d = c.self.inside.desk in let e = c.make.new.desk in let h = c.in_ok-handle.handle in let says = c.in_ok-handle.ensures in
    makes o d e h c.register.result.known c.args.enabled c.args.fields c.args.value
    (goes_then o d e c.self.invariant.opened
    (by_make d c.args.enabled false c.args.fields c.args.value h.block h.place e says.event).goes) says.event c.register.ensures.known

pub returns-clause-exact : goal.returns-clause-exact
returns-clause-exact g c =
    makes_now c.args.self.now.desk c.restock.new.self.desk c.self.inside.desk c.make.new.desk c.args.enabled c.args.fields c.args.value c.register.result.known
    c.in_ok-handle.handle c.restock.ensures c.in_ok-handle.ensures.event c.register.ensures.known
    (ap (λ (x : ContextNow g.row.D-Value.Denot). x.desk) c.self.view_is)
