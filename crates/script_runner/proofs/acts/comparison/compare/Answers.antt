use Rattle.std.proofs.Common.{ℕ, ◌<◌, sym, refl, subst, arith}
use Rattle.script_runner.proofs.Prelude.{HasKind, IsKindAt, kind_at, SetsAside, TableNow}
use Rattle.script_runner.proofs.CellActs as law
use Rattle.script_runner.proofs.CellKinds.{kept_aside, kept_kind}
use Rattle.script_runner.proofs.Reaching.{in_reach}
use Rattle.script_runner.proofs.Refusals.{handle_of_kind}
use Rattle.script_runner.proofs.acts.comparison.compare.Goals as goal

pub set_aside-requires-clause-full : goal.set_aside-requires-clause-full
set_aside-requires-clause-full g c =
    let t = c.args.table.now in
    let some : 0 < c.args.hand = let lt = c.requires.name in omega (arith, lt) in (
      kind_at c.args.cell,
      kept_kind t c.compare.new.self c.args.hand (kind_at c.args.cell)
          (law.compare_kinds c.args.hand t c.args.cell c.requires.named c.requires.reached c.requires.seated some
          c.requires.kinds.1 c.requires.other c.args.name c.from.result c.from.ensures c.requires.name c.requires.kinds.0 c.args.weak
          c.compare.new.self c.in-Ok-false.field-0 c.in-Ok-false.ensures.compared c.in-Ok-false.field-0-test)
          c.requires.kinds.1,
    )

pub returns-in-Ok-true-clause-compared : goal.returns-in-Ok-true-clause-compared
returns-in-Ok-true-clause-compared g c =
    let some : 0 < c.args.hand = let lt = c.requires.name in omega (arith, lt) in
    law.compare_swapped c.args.hand c.args.table.now c.args.cell c.requires.named c.requires.reached c.requires.seated some
    c.requires.kinds.1 c.requires.other c.args.name c.from.result c.from.ensures c.requires.name c.requires.kinds.0 c.args.weak c.compare.new.self
    c.in-Ok-true.field-0 c.in-Ok-true.ensures.compared c.in-Ok-true.field-0-test

pub returns-in-Ok-true-clause-swapped : goal.returns-in-Ok-true-clause-swapped
returns-in-Ok-true-clause-swapped g c e =
    let some : 0 < c.args.hand = let lt = c.requires.name in omega (arith, lt) in
    law.compare_kind c.args.hand c.args.table.now c.args.cell c.requires.named c.requires.reached c.requires.seated some
    c.requires.kinds.1 c.requires.other c.args.name c.from.result c.from.ensures c.requires.name c.requires.kinds.0 c.args.weak c.compare.new.self
    c.in-Ok-true.field-0 c.in-Ok-true.ensures.compared c.in-Ok-true.field-0-test

pub returns-in-Ok-false-clause-compared : goal.returns-in-Ok-false-clause-compared
returns-in-Ok-false-clause-compared g c =
    let some : 0 < c.args.hand = let lt = c.requires.name in omega (arith, lt) in
    law.compare_differed c.args.hand c.args.table.now c.args.cell c.requires.named c.requires.reached c.requires.seated some
    c.requires.kinds.1 c.requires.other c.args.name c.from.result c.from.ensures c.requires.name c.requires.kinds.0 c.args.weak c.compare.new.self
    c.in-Ok-false.field-0 c.in-Ok-false.ensures.compared c.set_aside.new.table c.in-Ok-false.field-0-test c.set_aside.ensures.moved

pub returns-in-Ok-false-clause-aside : goal.returns-in-Ok-false-clause-aside
returns-in-Ok-false-clause-aside g c n =
    let t = c.args.table.now in
    let some : 0 < c.args.hand = let lt = c.requires.name in omega (arith, lt) in
    kept_aside t c.compare.new.self c.set_aside.new.table c.args.hand
    (law.compare_kinds c.args.hand t c.args.cell c.requires.named c.requires.reached c.requires.seated some
    c.requires.kinds.1 c.requires.other c.args.name c.from.result c.from.ensures c.requires.name c.requires.kinds.0 c.args.weak
    c.compare.new.self c.in-Ok-false.field-0 c.in-Ok-false.ensures.compared c.in-Ok-false.field-0-test) c.set_aside.ensures.kinds

pub returns-in-Err-clause-missing : goal.returns-in-Err-clause-missing
returns-in-Err-clause-missing g c =
    let some : 0 < c.args.hand = let lt = c.requires.name in omega (arith, lt) in
    law.compare_missed c.args.hand c.args.table.now c.args.cell c.requires.named c.requires.reached c.requires.seated some
    c.requires.kinds.1 c.requires.other c.args.name c.from.result c.from.ensures c.requires.name c.requires.kinds.0 c.args.weak c.in-Err.field-0
    c.compare.new.self c.set_aside-in-Err.new.table c.in-Err.ensures.refused c.set_aside-in-Err.ensures.moved

pub set_aside-requires-in-Err-clause-full : goal.set_aside-requires-in-Err-clause-full
set_aside-requires-in-Err-clause-full g c = (
  kind_at c.args.cell,
  subst (λ (t : TableNow ℕ). HasKind t.slots c.args.hand (kind_at c.args.cell)) (sym c.in-Err.ensures.refused.1) c.requires.kinds.1,
)

pub returns-in-Err-clause-aside : goal.returns-in-Err-clause-aside
returns-in-Err-clause-aside g c n =
    subst (λ (t : TableNow ℕ). SetsAside c.args.hand t c.set_aside-in-Err.new.table) c.in-Err.ensures.refused.1 c.set_aside-in-Err.ensures.kinds

pub returns-in-Ok-true-clause-aside : goal.returns-in-Ok-true-clause-aside
returns-in-Ok-true-clause-aside g c n = absurd (n refl)

pub returns-in-Ok-false-clause-swapped : goal.returns-in-Ok-false-clause-swapped
returns-in-Ok-false-clause-swapped g c e = cc

pub returns-in-Err-clause-swapped : goal.returns-in-Err-clause-swapped
returns-in-Err-clause-swapped g c e = cc

pub compare-requires-clause-reach : goal.compare-requires-clause-reach
compare-requires-clause-reach g c = in_reach c.args.table.now c.args.cell c.requires.reached

pub compare-requires-clause-slots : goal.compare-requires-clause-slots
compare-requires-clause-slots g c =
    let t = c.args.table.now in let k = kind_at c.args.cell in (
      subst (IsKindAt k t.slots) (sym c.from.ensures) (handle_of_kind t.slots c.args.name k c.requires.kinds.0),
      handle_of_kind t.slots c.args.hand k c.requires.kinds.1,
    )
