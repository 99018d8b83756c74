use Rattle.std.proofs.Common.{◌+◌, arith}
use Rattle.pointers.proofs.Lends.{back_here, back_many, back_whole, hired_bears, lends, parts_each}
use Rattle.pointers.proofs.Lends.{shares_each}
use Rattle.pointers.proofs.program.staff.lend.Goals as goal

pub hire_all-hired-requires-clause-fits : goal.hire_all-hired-requires-clause-fits
hire_all-hired-requires-clause-fits g c =
    shares_each c.args.desk.now c.each.result (c.args.team.pointers + 2) c.args.team.workers c.each.ensures.some
    (λ some. c.each.ensures.is (c.requires.few some)) c.requires.fits

pub work_all-worked-requires-clause-bears : goal.work_all-worked-requires-clause-bears
work_all-worked-requires-clause-bears g c κs within =
    hired_bears c.args.first.domain.now c.args.first.program.now c.hire_all-hired.new.staff.items c.hire_all-hired.ensures.hired

pub dismiss_all-requires-clause-parts : goal.dismiss_all-requires-clause-parts
dismiss_all-requires-clause-parts g c =
    let w = c.work_all-worked in
    back_here g.P.Program.answers c.args.first.domain.now c.args.first.program.now c.hire_all-hired.new.staff.items w.result.1.items w.result.0
    c.hire_all-hired.ensures.hired w.ensures.worked w.ensures.same

pub dismiss_all-requires-clause-room : goal.dismiss_all-requires-clause-room
dismiss_all-requires-clause-room g c =
    let w = c.work_all-worked in
    let many = back_many g.P.Program.answers c.hire_all-hired.new.staff.items w.result.1.items w.result.0 w.ensures.worked w.ensures.same in
    let few = c.hire_all-hired.ensures.few.0 in let room = c.in-Ok.ensures.capacity in (c.in-Ok.ensures.items, omega (arith, many, few, room))

pub returns-then-worked-clause-lends : goal.returns-then-worked-clause-lends
returns-then-worked-clause-lends g c =
    let w = c.work_all-worked in let h = c.hire_all-hired in let d = c.dismiss_all in let is = c.if-worked.true in
    lends g.P.Program.answers c.args.first.domain.now c.args.first.program.now c.args.team c.args.desk.now h.new.desk d.new.desk h.new.staff.items
    w.result.1.items d.new.failed.items (h.ensures.all (w.ensures.hired is))
    (parts_each c.args.desk.now h.new.desk c.each.result (c.args.team.pointers + 2) c.args.team.workers h.new.staff.items (h.ensures.all (w.ensures.hired is))
    (λ some. c.each.ensures.is (c.requires.few some)) h.ensures.parts)
    h.ensures.hired (w.ensures.worked is) d.ensures.joined d.ensures.failed

pub returns-then-worked-clause-whole : goal.returns-then-worked-clause-whole
returns-then-worked-clause-whole g c =
    let w = c.work_all-worked in let h = c.hire_all-hired in let d = c.dismiss_all in
    back_whole g.P.Program.answers c.args.desk.now h.new.desk d.new.desk c.each.result h.new.staff.items w.result.1.items w.result.0 h.ensures.parts
    w.ensures.worked w.ensures.same d.ensures.joined

pub returns-else-worked-clause-whole : goal.returns-else-worked-clause-whole
returns-else-worked-clause-whole g c =
    let w = c.work_all-worked in let h = c.hire_all-hired in let d = c.dismiss_all in
    back_whole g.P.Program.answers c.args.desk.now h.new.desk d.new.desk c.each.result h.new.staff.items w.result.1.items w.result.0 h.ensures.parts
    w.ensures.worked w.ensures.same d.ensures.joined
