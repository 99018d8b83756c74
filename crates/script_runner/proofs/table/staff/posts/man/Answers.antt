use Rattle.std.proofs.Common.{◌∙◌, arith}
use Rattle.script_runner.proofs.TablePrelude.{nil_from_length}
use Rattle.script_runner.proofs.Manning.{all_put, put}
use Rattle.script_runner.proofs.table.staff.posts.man.Goals as goal

pub loop-table-preserved : goal.loop-table-preserved
loop-table-preserved g c =
    let i = c.loop-table.invariant in let p = c.push_reserved.ensures in let a = c.in-Some.ensures in let b = c.in-Some-pop.ensures in
    let ts = c.loop-table.tables in let ws = c.loop-table.workers in let ps = c.loop-table.posts in (
      put (λ q. q.table) c.args.tables.now.items ts.items c.pop.new.self.items ps.items c.push_reserved.new.self.items _ i.0 a.items p.items,
      put (λ q. q.worker) c.args.workers.now.items ws.items c.pop-in-Some.new.self.items ps.items c.push_reserved.new.self.items _ i.1 b.items p.items,
      (let x = a.cases in let y = b.cases in let z = i.2 in let k = ts.ok.0 in let l = ws.ok.0 in
          let m = c.pop.new.self.ok.0 in let n = c.pop-in-Some.new.self.ok.0 in omega arith),
      (let y = b.cases in let z = i.3 in let l = ws.ok.0 in let n = c.pop-in-Some.new.self.ok.0 in let o = p.capacity in
          let q = p.len in let r = ps.ok.0 in let s = c.push_reserved.new.self.ok.0 in omega arith),
      a.capacity ∙ i.4,
      b.capacity ∙ i.5,
    )

pub returns-clause-tables : goal.returns-clause-tables
returns-clause-tables g c =
    all_put (λ q. q.table) c.args.tables.now.items c.loop-table.tables.items c.loop-table.posts.items c.loop-table.invariant.0
    (nil_from_length c.loop-table.tables.items (let n = c.loop-table.tables.ok.0 in let m = c.in_default.ensures.cases.0 in omega arith))

pub returns-clause-workers : goal.returns-clause-workers
returns-clause-workers g c =
    let i = c.loop-table.invariant in
    all_put (λ q. q.worker) c.args.workers.now.items c.loop-table.workers.items c.loop-table.posts.items i.1
    (nil_from_length c.loop-table.workers.items
    (let n = c.loop-table.tables.ok.0 in let m = c.in_default.ensures.cases.0 in let k = i.2 in omega arith))
