use Rattle.std.proofs.Common.{length, ap, arith}
use Rattle.script_runner.proofs.TablePrelude.{nil_from_length}
use Rattle.script_runner.proofs.Manning.{all_back, from_none, gone}
use Rattle.script_runner.proofs.table.staff.posts.dismiss.Goals as goal

pub loop-post-init : goal.loop-post-init
loop-post-init g c =
    let t = c.requires.tables in let w = c.requires.workers in let no = ap length t.0 in let none = ap length w.0 in (
      from_none (λ q. q.table) c.args.tables.now.items c.args.posts.now.items t.0,
      from_none (λ q. q.worker) c.args.workers.now.items c.args.posts.now.items w.0,
      omega (arith, no, t.1),
      omega (arith, none, w.1),
    )

pub loop-post-preserved : goal.loop-post-preserved
loop-post-preserved g c =
    let i = c.loop-post.invariant in let a = c.in-Some.ensures in let p = c.push_reserved.ensures in let q = c.push_reserved-in-Some.ensures in
    let ts = c.loop-post.tables in let ws = c.loop-post.workers in let ps = c.loop-post.posts in
    let x = a.cases in let y = ps.ok.0 in let z = c.pop.new.self.ok.0 in (
      gone (λ k. k.table) _ ts.items c.push_reserved.new.self.items ps.items c.pop.new.self.items c.in-Some.post i.0 a.items p.items,
      gone (λ k. k.worker) _ ws.items c.push_reserved-in-Some.new.self.items ps.items c.pop.new.self.items c.in-Some.post i.1 a.items q.items,
      (let k = ts.ok.0 in let l = c.push_reserved.new.self.ok.0 in let m = p.len in let n = p.capacity in let j = i.2 in omega arith),
      (let k = ws.ok.0 in let l = c.push_reserved-in-Some.new.self.ok.0 in let m = q.len in let n = q.capacity in let j = i.3 in omega arith),
    )

pub returns-clause-tables : goal.returns-clause-tables
returns-clause-tables g c =
    all_back (λ q. q.table) _ c.loop-post.tables.items c.loop-post.posts.items c.loop-post.invariant.0
    (nil_from_length c.loop-post.posts.items (let n = c.loop-post.posts.ok.0 in let m = c.in_default.ensures.cases.0 in omega arith))

pub returns-clause-workers : goal.returns-clause-workers
returns-clause-workers g c =
    all_back (λ q. q.worker) _ c.loop-post.workers.items c.loop-post.posts.items c.loop-post.invariant.1
    (nil_from_length c.loop-post.posts.items (let n = c.loop-post.posts.ok.0 in let m = c.in_default.ensures.cases.0 in omega arith))
