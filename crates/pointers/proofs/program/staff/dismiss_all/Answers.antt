use Rattle.std.proofs.Common.{Some, ◌∙◌, arith}
use Rattle.pointers.proofs.Prelude.{Belongs}
use Rattle.std.proofs.lemmas.List.Elements.{All-pop}
use Rattle.pointers.proofs.Faults.{one_more, room_for}
use Rattle.pointers.proofs.Staffs.{goes}
use Rattle.pointers.proofs.program.staff.dismiss_all.Goals as goal

pub loop-worker-preserved : goal.loop-worker-preserved
loop-worker-preserved g c =
    let i = c.loop-worker.invariant in let j = c.join.ensures in let a = c.in-Some.ensures in let n = c.note.ensures in
    let many = room_for c.len.result c.in-Some.worker.done c.loop-worker.failed.items c.note.new.failed.items n.items in (
      goes c.args.desk.now c.loop-worker.desk c.join.new.self c.args.staff.items c.loop-worker.staff.items c.pop.new.self.items c.in-Some.worker i.0 a.items
          (record { desks = j.event; allowance = j.allowance; endings = j.count }),
      record { table = j.event.same.0 ∙ i.1.table; shape = j.event.same.1 ∙ i.1.shape },
      (All-pop (λ w. Belongs w.part.desk c.args.domain.now) c.loop-worker.staff.items c.pop.new.self.items (Some c.in-Some.worker) a.items i.2).0,
      one_more c.args.staff.items c.loop-worker.staff.items c.pop.new.self.items c.in-Some.worker c.len.result c.loop-worker.failed.items
          c.note.new.failed.items
          i.3 a.items (let l = c.len.ensures in let k = c.pop.new.self.ok.0 in omega arith) n.items,
      (let room = i.4 in let same = n.room in let less = a.cases in let k = c.pop.new.self.ok.0 in
          let m = c.loop-worker.staff.ok.0 in omega (arith, many, room, same, less, k, m)),
    )
