use Rattle.std.proofs.Common.{◌≡◌, ◌+◌, true, false, slice_get, Some, sym, ◌∙◌, subst, inr, arith}
use Rattle.script_runner.proofs.Prelude.{is_full, IsEmptied, KeepsKinds, SetsKind, slot_pointer}
use Rattle.script_runner.proofs.Prelude.{thread_slots}
use Rattle.script_runner.proofs.Emptying as kinds
use Rattle.script_runner.proofs.Parting as law
use Rattle.script_runner.proofs.acts.leaves.clear.Goals as goal

pub returns-then-not-is_full-clause-bare : goal.returns-then-not-is_full-clause-bare
returns-then-not-is_full-clause-bare g c =
    let t = c.args.table.now in
    let lt = c.requires.name in
    let full : is_full (slot_pointer (thread_slots c.args.hand t) c.args.name) ≡ false =
    subst (λ j. is_full (slot_pointer (thread_slots c.args.hand t) j) ≡ c.is_full.result) c.from.ensures
    (c.is_full.ensures (c.args.hand + 1) (let b = c.from.ensures in omega (arith, lt, b))) ∙ c.if-not-is_full.true in
    kinds.free_bare c.args.hand c.args.name t lt full

pub empty-requires-clause-slot : goal.empty-requires-clause-slot
empty-requires-clause-slot g c =
    let lt = c.requires.name in
    let b = c.from-2.ensures in
    let many = c.requires.seated.many in
    omega (arith, lt, b, many)

pub empty-requires-clause-kind : goal.empty-requires-clause-kind
empty-requires-clause-kind g c =
    let k = c.requires.kind in
    (k.0, subst (λ j. slice_get c.args.kinds.now.items j ≡ Some k.0) (sym c.from-2.ensures) k.1)

pub returns-clause-acts : goal.returns-clause-acts
returns-clause-acts g c =
    let t = c.args.table.now in
    let e = c.top_of-ended.ensures in
    let lt = c.requires.name in
    let full : is_full (slot_pointer (thread_slots c.args.hand t) c.args.name) ≡ true =
    subst (λ j. is_full (slot_pointer (thread_slots c.args.hand t) j) ≡ c.is_full.result) c.from.ensures
    (c.is_full.ensures (c.args.hand + 1) (let b = c.from.ensures in omega (arith, lt, b))) ∙ c.if-not-is_full.false in
    law.clear_top c.args.hand t c.empty.new.table c.top_of-ended.new.table c.requires.seated c.requires.settled c.args.name c.args.taken
    c.top_of-ended.result lt full
    (subst (λ j. IsEmptied t j c.empty.new.table) c.from-2.ensures c.empty.ensures.emptied) e.none e.told e.same

pub returns-clause-slots : goal.returns-clause-slots
returns-clause-slots g c =
    inr (subst (λ v. kinds.IsBareAt c.args.table.now c.args.name v) (sym c.top_of-ended.ensures.same)
    (subst (λ j. kinds.IsBareAt c.args.table.now j c.empty.new.table) c.from-2.ensures c.empty.ensures.bare))

pub returns-clause-kinds : goal.returns-clause-kinds
returns-clause-kinds g c =
    let t = c.args.table.now in
    let k = c.requires.kind in
    subst (λ v. KeepsKinds t v) (sym c.top_of-ended.ensures.same)
    (kinds.kinds_again t c.empty.new.table c.args.name k.0 k.2
    (subst (λ j. slice_get c.args.kinds.now.items j ≡ Some k.0 → SetsKind j (Some k.0) t c.empty.new.table) c.from-2.ensures
    (c.empty.ensures.kinds k.0) k.1))

pub returns-clause-bare : goal.returns-clause-bare
returns-clause-bare g c =
    let t = c.args.table.now in
    let lt = c.requires.name in
    let many = c.requires.seated.many in
    let is : kinds.IsBareAt t c.args.name c.empty.new.table =
    subst (λ j. kinds.IsBareAt t j c.empty.new.table) c.from-2.ensures c.empty.ensures.bare in
    kinds.bare_after t c.empty.new.table c.top_of-ended.new.table c.args.name (omega (arith, lt, many)) is c.top_of-ended.ensures.same
