use Rattle.std.proofs.Common.{length, IfSome, Option, subst, arith}
use Rattle.script_runner.proofs.TablePrelude.{Refusal, WhyFewer}
use Rattle.script_runner.proofs.Manning.{staffed}
use Rattle.script_runner.proofs.Needing.{lent_meet}
use Rattle.script_runner.proofs.Sharing.{only_memory}
use Rattle.script_runner.specs.Programs.{IsManned}
use Rattle.script_runner.proofs.table.WorkerTable.staff.Goals as goal

pub worked-requires-clause-needs : goal.worked-requires-clause-needs
worked-requires-clause-needs g c κs within =
    let t = c.team-crew.ensures in
    lent_meet g.W.Work.needs c.args.self.now.desk c.team-crew.new.self.desk c.args.share c.team-crew.result.tables.items c.args.workers.now.items
    t.parts t.new c.requires.needs

pub returns-clause-staffs : goal.returns-clause-staffs
returns-clause-staffs g c =
    let t = c.team-crew.ensures in
    staffed g.W.Work.does c.args.self.now c.team-crew.new.self c.absorb_all-2.new.self c.args.share c.args.workers.now.items
    c.worked.new.workers.items c.team-crew.result.tables.items c.worked.new.tables.items t.parts t.new t.rest (c.worked.ensures.worked c.if-not-worked.false)
    c.absorb_all-2.ensures

pub returns-in-Some-clause-shared : goal.returns-in-Some-clause-shared
returns-in-Some-clause-shared g c =
    let t = c.team-crew.ensures in let many = length c.team-crew.result.tables.items in
    let less = subst (λ (o : Option Refusal). IsManned c.len.result many o) c.in-Some.is t.manned in
    only_memory c.args.self.now.desk c.team-crew.new.self.desk c.args.share (length c.args.workers.now.items) c.team-crew.result.tables.items
    c.in-Some.why t.parts
    (let n = c.len.ensures in let m = c.args.workers.now.ok.0 in omega (arith, less, n, m))
    (subst (λ (o : Option Refusal). IfSome o (WhyFewer c.team-crew.new.self.desk c.args.share.allowance c.args.share.blocks)) c.in-Some.is t.fewer)
