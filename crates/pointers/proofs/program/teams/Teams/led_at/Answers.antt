use Rattle.std.proofs.Common.{◌∙◌, arith}
use Rattle.pointers.proofs.Staffs.{split_here}
use Rattle.pointers.proofs.program.teams.Teams.led_at.Goals as goal

pub lead_alone-part-requires-clause-set : goal.lead_alone-part-requires-clause-set
lead_alone-part-requires-clause-set g c κs within =
    record {
      here = split_here c.args.self.now.desk c.cut.new.desk c.in-Some.part.desk c.args.handles c.args.self.now.domain.now c.in-Some.ensures.parts
          c.requires.set.here;
      room = c.requires.set.room;
    }

pub returns-clause-led : goal.returns-clause-led
returns-clause-led g c =
    let l = c.lead_alone-part in let j = c.join.ensures in
    record {
      rest = c.cut.new.desk;
      own = c.in-Some.part.desk;
      parts = c.in-Some.ensures.parts;
      last = l.new.teams.desk;
      led = l.ensures.led;
      left = l.result.0.desk;
      leaves = l.ensures.left;
      joins = record { desks = j.event; allowance = j.allowance; endings = j.count };
    }

pub returns-clause-set : goal.returns-clause-set
returns-clause-set g c =
    let set = c.lead_alone-part.ensures.set in let j = c.join.ensures in
    record {
      here = record { table = j.event.same.0 ∙ set.here.table; shape = j.event.same.1 ∙ set.here.shape };
      room = set.room;
    }

pub returns-clause-stay : goal.returns-clause-stay
returns-clause-stay g c =
    let l = c.lead_alone-part.ensures in let j = c.join.ensures in let s = c.in-Some.ensures.parts in
    record {
      domain = l.stay.domain;
      allowance = (let a = s.allowance.0 in let b = s.allowance.1 in let k = l.stay.allowance in let m = l.left.allowance in let n = j.allowance in
          omega (arith, a, b, k, m, n));
      endings = (let a = s.count.0 in let k = l.stay.endings in let m = l.left.settled in let n = j.count in omega (arith, a, k, m, n));
    }
