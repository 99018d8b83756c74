use Rattle.std.proofs.Common.{refl}
use Rattle.script_runner.proofs.Acting as law
use Rattle.script_runner.proofs.Granting as granting
use Rattle.script_runner.proofs.acts.makes.make.Goals as goal

pub returns-then-make : goal.returns-then-make
returns-then-make g c =
    let t = c.args.table.now in let u = c.make.new.self in let did = c.make.ensures.made c.if-make.true in
    record { acts = law.made c.args.hand t u c.requires.hand c.args.form _ c.requires.null refl did; kinds = granting.owner_kind _ t u c.args.hand did }

pub returns : goal.returns
returns g c =
    let e = c.make.ensures.none c.if-make.false in
    let did = granting.not_made c.args.hand c.args.table.now c.make.new.self c.requires.hand c.refused.result c.args.form e.0 e.1 c.refused.ensures in
    record { acts = did.0; kinds = did.1 }
