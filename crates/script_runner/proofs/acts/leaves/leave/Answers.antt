use Rattle.std.proofs.Common.{◌≡◌, slice_get, Some, sym, subst, inr, arith}
use Rattle.script_runner.proofs.Prelude.{IsEmptied, KeepsKinds, SetsKind}
use Rattle.script_runner.proofs.Emptying as kinds
use Rattle.script_runner.proofs.Parting as law
use Rattle.script_runner.proofs.acts.leaves.leave.Goals as goal

pub empty-requires-clause-slot : goal.empty-requires-clause-slot
empty-requires-clause-slot g c =
    let lt = c.requires.name in
    let b = c.from.ensures in
    let many = c.requires.seated.many in
    omega (arith, lt, b, many)

pub empty-requires-clause-kind : goal.empty-requires-clause-kind
empty-requires-clause-kind g c =
    let k = c.requires.kind in
    (k.0, subst (λ j. slice_get c.args.kinds.now.items j ≡ Some k.0) (sym c.from.ensures) k.1)

pub returns-clause-acts : goal.returns-clause-acts
returns-clause-acts g c =
    let e = c.top_of-ended.ensures in
    law.leave_top c.args.hand c.args.table.now c.empty.new.table c.top_of-ended.new.table c.requires.seated c.requires.settled c.args.name c.args.taken
    c.top_of-ended.result c.requires.name
    (subst (λ j. IsEmptied c.args.table.now j c.empty.new.table) c.from.ensures c.empty.ensures.emptied) e.none e.told e.same

pub returns-clause-slots : goal.returns-clause-slots
returns-clause-slots g c =
    inr (subst (λ v. kinds.IsBareAt c.args.table.now c.args.name v) (sym c.top_of-ended.ensures.same)
    (subst (λ j. kinds.IsBareAt c.args.table.now j c.empty.new.table) c.from.ensures c.empty.ensures.bare))

pub returns-clause-kinds : goal.returns-clause-kinds
returns-clause-kinds g c =
    let t = c.args.table.now in
    let k = c.requires.kind in
    subst (λ v. KeepsKinds t v) (sym c.top_of-ended.ensures.same)
    (kinds.kinds_again t c.empty.new.table c.args.name k.0 k.2
    (subst (λ j. slice_get c.args.kinds.now.items j ≡ Some k.0 → SetsKind j (Some k.0) t c.empty.new.table) c.from.ensures
    (c.empty.ensures.kinds k.0) k.1))
