use Rattle.std.proofs.Common.{◌∙◌, ap, arith, length, reverse, subst, sym}
use Rattle.std.proofs.lemmas.List.{nil_from_length}
use Rattle.std.specs.List.{AllZip}
use Rattle.thread_jobs.specs.Jobs.{IsStarted, Keeps}
use Rattle.thread_jobs.proofs.Starting.{all_back, back_more, last_started, none_back}
use Rattle.thread_jobs.proofs.jobs.end_all.Goals as goal

pub loop-one-init : goal.loop-one-init
loop-one-init g c =
    let room = c.requires.room in let none = ap length room.0 in (
      (λ went zip. none_back (IsStarted {R = g.row.R.Denot} g.J.Job.does c.args.signal.now.id) (Keeps g.J.Job.does c.init-all.result.value) went
          c.args.started.now.items c.args.jobs.now.items room.0 zip),
      omega (arith, none, room.1),
      c.init-all.ensures,
    )

pub agrees-requires : goal.agrees-requires
agrees-requires g c =
    let r = c.requires.started in
    let l = last_started (IsStarted {R = g.row.R.Denot} g.J.Job.does c.args.signal.now.id) (Keeps g.J.Job.does c.init-all.result.value) r.0
    c.loop-one.started.items c.pop.new.self.items c.in-Some.one c.loop-one.jobs.items (c.loop-one.invariant.0 r.0 r.1) c.in-Some.ensures.items in
    c.init-all.ensures ∙ sym (c.ended-job.ensures c.args.signal.now.id l.0 l.1).0

pub loop-one-preserved : goal.loop-one-preserved
loop-one-preserved g c =
    let i = c.loop-one.invariant in let a = c.in-Some.ensures in let p = c.push_reserved.ensures in
    let ss = c.loop-one.started in let js = c.loop-one.jobs in (
      (λ went zip. back_more (IsStarted {R = g.row.R.Denot} g.J.Job.does c.args.signal.now.id) (Keeps g.J.Job.does c.init-all.result.value) went
          ss.items c.pop.new.self.items c.in-Some.one js.items c.push_reserved.new.self.items c.into_inner.result (i.0 went zip) a.items p.items
          (λ x r. subst (λ k. Keeps g.J.Job.does c.init-all.result.value x k) (sym c.into_inner.ensures)
          (subst (λ v. Keeps g.J.Job.does v x c.ended-job.result.job.value) (sym c.agrees.ensures)
          (c.ended-job.ensures c.args.signal.now.id x r).1))),
      (let x = a.cases in let z = i.1 in let k = ss.ok.0 in let m = c.pop.new.self.ok.0 in let o = p.capacity in let q = p.len in
          let r = js.ok.0 in let s = c.push_reserved.new.self.ok.0 in omega arith),
      c.init-all.ensures,
    )

pub returns-clause-jobs : goal.returns-clause-jobs
returns-clause-jobs g c =
    λ went zip.
    subst (λ v. AllZip (Keeps g.J.Job.does v) (reverse went) c.loop-one.jobs.items) (sym c.value.ensures)
    (all_back (IsStarted {R = g.row.R.Denot} g.J.Job.does c.args.signal.now.id) (Keeps g.J.Job.does c.init-all.result.value) went
    c.loop-one.started.items c.loop-one.jobs.items (c.loop-one.invariant.0 went zip)
    (nil_from_length c.loop-one.started.items (let n = c.loop-one.started.ok.0 in let m = c.in_default.ensures.cases.0 in omega arith)))
