use Rattle.std.proofs.Common.{◌≡◌, length, slice_get, Some, refl, ap, ◌∙◌, subst}
use Rattle.script_runner.proofs.Prelude.{slice_get_read}
use Rattle.script_runner.proofs.Emptying as law
use Rattle.script_runner.proofs.workers.seats.empty.Goals as goal

pub returns-in-Some-Owner-clause-kinds : goal.returns-in-Some-Owner-clause-kinds
returns-in-Some-Owner-clause-kinds g c =
    let k = c.in-Some-Owner in
    let l = k.ensures.lookup in
    let is = subst (λ xs. slice_get xs c.args.name ≡ Some k.field-0.now) c.deref.ensures.value
    (slice_get_read c.deref.result.now (length c.deref.result.now) c.args.name k.field-0.now refl l.3.0 l.1) in
    law.owner_set c.args.table.now c.empty.new.self c.args.name c.args.kinds.now.items c.empty.ensures (is ∙ ap Some k.field-0-is)

pub returns-in-Some-Owner-clause-bare : goal.returns-in-Some-Owner-clause-bare
returns-in-Some-Owner-clause-bare g c = law.owner_bare c.args.table.now c.empty.new.self c.args.name c.empty.ensures

pub returns-in-Some-Weak-clause-kinds : goal.returns-in-Some-Weak-clause-kinds
returns-in-Some-Weak-clause-kinds g c =
    let k = c.in-Some-Weak in
    let l = k.ensures.lookup in
    let is = subst (λ xs. slice_get xs c.args.name ≡ Some k.field-0.now) c.deref.ensures.value
    (slice_get_read c.deref.result.now (length c.deref.result.now) c.args.name k.field-0.now refl l.3.0 l.1) in
    law.weak_set c.args.table.now c.empty_weak.new.self c.args.name c.args.kinds.now.items c.empty_weak.ensures (is ∙ ap Some k.field-0-is)

pub returns-in-Some-Weak-clause-bare : goal.returns-in-Some-Weak-clause-bare
returns-in-Some-Weak-clause-bare g c = law.weak_bare c.args.table.now c.empty_weak.new.self c.args.name c.empty_weak.ensures
