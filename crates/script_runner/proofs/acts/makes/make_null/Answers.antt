use Rattle.std.proofs.Common.{refl}
use Rattle.script_runner.proofs.Prelude.{null_form}
use Rattle.script_runner.proofs.Acting as law
use Rattle.script_runner.proofs.Granting as granting
use Rattle.script_runner.proofs.acts.makes.make_null.Goals as goal

pub returns-then-make_null : goal.returns-then-make_null
returns-then-make_null g c =
    let t = c.args.table.now in let u = c.make_null.new.self in let did = c.make_null.ensures.made c.if-make_null.true in
    record { acts = law.made_null c.args.hand t u c.requires.hand 0 refl did; kinds = granting.owner_kind _ t u c.args.hand did }

pub returns : goal.returns
returns g c =
    let e = c.make_null.ensures.none c.if-make_null.false in
    let did = granting.not_made c.args.hand c.args.table.now c.make_null.new.self c.requires.hand c.refused.result null_form e.0 e.1 c.refused.ensures in
    record { acts = did.0; kinds = did.1 }
