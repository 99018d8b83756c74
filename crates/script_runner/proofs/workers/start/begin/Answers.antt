use Rattle.std.proofs.Common.{◌≡◌, ◌<◌, length, subst, arith}
use Rattle.script_runner.proofs.Handling as handling
use Rattle.script_runner.proofs.Naming as naming
use Rattle.script_runner.proofs.Naming.{AreNamed}
use Rattle.script_runner.proofs.workers.start.begin.Goals as goal

pub loop-name-init : goal.loop-name-init
loop-name-init g c = naming.none_named c.args.kinds.now.items c.args.table.now c.requires.fitting

pub empty-requires-clause-below : goal.empty-requires-clause-below
empty-requires-clause-below g c =
    let low : c.loop-name.name < 34 =
    let a = c.loop-name-test.true in let b = c.len-name-end.ensures in let few = c.requires.few in omega (arith, a, b, few) in
    naming.below_next c.args.kinds.now.items c.loop-name.name c.args.table.now c.loop-name.table c.loop-name.invariant low
    c.requires.fitting.room c.assert_invariant.ensures.fits

pub empty-requires-clause-slot : goal.empty-requires-clause-slot
empty-requires-clause-slot g c =
    let a = c.loop-name-test.true in
    let b = c.len-name-end.ensures in
    let few = c.requires.few in
    let many = c.loop-name.invariant.many in omega (arith, a, b, few, many)

pub empty-requires-clause-kind : goal.empty-requires-clause-kind
empty-requires-clause-kind g c =
    handling.one_of c.args.kinds.now.items c.loop-name.name
    (let a = c.loop-name-test.true in let b = c.len-name-end.ensures in let ok = c.args.kinds.now.ok in omega (arith, a, b, ok))

pub loop-name-preserved : goal.loop-name-preserved
loop-name-preserved g c =
    let ks = c.args.kinds.now.items in
    let v = c.loop-name.table in
    let is = c.loop-name.invariant in
    let low : c.loop-name.name < 34 =
    let a = c.loop-name-test.true in let b = c.len-name-end.ensures in let few = c.requires.few in omega (arith, a, b, few) in
    let q = handling.one_of ks c.loop-name.name
    (let a = c.loop-name-test.true in let b = c.len-name-end.ensures in let ok = c.args.kinds.now.ok in omega (arith, a, b, ok)) in
    naming.named_next ks c.loop-name.name c.args.table.now v c.empty.new.table is low q.0 q.1 (c.empty.ensures.kinds q.0 q.1)
    (naming.emptied_at c.loop-name.name v c.empty.new.table (is.vacant c.loop-name.name (omega arith) (omega (arith, low))) c.empty.ensures.emptied)

pub returns : goal.returns
returns g c =
    let ks = c.args.kinds.now.items in
    let at : c.loop-name.name ≡ length ks =
    let a = c.loop-name-test.false in let b = c.len-name-end.ensures in let f = c.loop-name.auto.name-end in
    let ok = c.args.kinds.now.ok in omega (arith, a, b, f, ok) in
    naming.has_begun ks c.args.table.now c.loop-name.table c.requires.few c.requires.fitting
    (subst (λ n. AreNamed ks n c.args.table.now c.loop-name.table) at c.loop-name.invariant)
