use Rattle.pointers.proofs.Ends.{ends_last}
use Rattle.pointers.specs.Known.{owned, pointed}
use Rattle.pointers.proofs.context.Context.end.Goals as goal

pub returns-in-Last : goal.returns-in-Last
returns-in-Last g c =
    let s = c.leave.ensures.since in let known = c.args.owner.known in let e = c.end_top.new.self in
    record {
      before = s.before;
      after = e.desk;
      lives = s.lives;
      holds = s.holds;
      allowance = s.allowance;
      does = ends_last s.before c.args.self.now.endings (owned known) (pointed known) c.leave.result s.after c.leave.new.self.desk c.leave.new.self.endings
          c.end_top.result e.desk e.endings s.does.0 c.in-Last.is s.does.1 c.end_top.ensures.none c.end_top.ensures.ended;
    }
