use Rattle.std.proofs.Common.{◌≡◌, ℕ, ◌+◌, ◌-◌, ◌*◌, ◌<◌, ◌≤◌, max, length, subst, arith}
use Rattle.pointers.proofs.Prelude.{allowance_of, held_of}
use Rattle.pointers.proofs.Staffs.{has_room, hired_more, parted_more, room_left, split_here}
use Rattle.pointers.proofs.Staffs.{split_held}
use Rattle.pointers.proofs.program.staff.hire_all.Goals as goal

pub hire-requires-clause-fits : goal.hire-requires-clause-fits
hire-requires-clause-fits g c =
    let i = c.loop-domain.invariant in
    has_room c.loop-domain.desk c.args.workers (length c.loop-domain.staff.items) c.args.each (held_of c.args.desk.now)
    (let t = c.loop-domain-test.true in let n = c.len.ensures in omega arith) c.requires.fits.some i.3 i.4

pub loop-domain-preserved : goal.loop-domain-preserved
loop-domain-preserved g c =
    let i = c.loop-domain.invariant in let s = c.in-Some.ensures.parts in let e = c.push_reserved.ensures in
    let d = c.loop-domain.desk in let m = c.hire.new.desk in let w = c.in-Some.worker in let ws = c.loop-domain.staff.items in
    let n = length ws in let h = held_of c.args.desk.now in
    let less : n < c.args.workers = (let t = c.loop-domain-test.true in let k = c.len.ensures in omega arith) in
    let many : length c.push_reserved.new.self.items ≡ n + 1 = (let k = e.len in let a = c.loop-domain.staff.ok.0 in
    let b = c.push_reserved.new.self.ok.0 in omega arith) in (
      parted_more c.args.desk.now d m c.args.each ws c.push_reserved.new.self.items w i.0 s e.items,
      hired_more c.args.first.domain.now c.args.first.program.now c.len-number.result ws c.push_reserved.new.self.items w i.1
          (let k = c.len-number.ensures in let a = c.loop-domain.staff.ok.0 in omega arith) c.in-Some.ensures.hired e.items,
      split_here d m w.part.desk c.args.each c.args.first.domain.now s i.2,
      split_held d m w.part.desk c.args.each h s i.3,
      subst (λ (k : ℕ). (c.args.workers - k) * c.args.each + max 1 h ≤ allowance_of m) (omega (arith, many))
          (room_left d m w.part.desk c.args.workers n c.args.each (max 1 h) less s i.4),
      (let room = i.5 in let same = e.capacity in omega arith),
      omega (arith, many, less),
    )
