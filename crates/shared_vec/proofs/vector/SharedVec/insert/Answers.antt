use Rattle.std.proofs.Common.{arith}
use Rattle.shared_vec.proofs.Moves.{inserts_below, inserts_last}
use Rattle.shared_vec.proofs.vector.SharedVec.insert.Goals as goal

pub returns-then-index-end-clause-done : goal.returns-then-index-end-clause-done
returns-then-index-end-clause-done g c =
    inserts_last g.D.Domain.opened c.args.self.now.place c.len.new.self.place c.args.index c.in-Ok.end
    c.in_ok-push.field-0 c.args.new c.in-Ok.ensures.end c.if-index-end.true c.in-Ok.ensures.place
    c.in_ok-push.ensures.done

pub returns-in-Ok-open-clause-done : goal.returns-in-Ok-open-clause-done
returns-in-Ok-open-clause-done g c =
    inserts_below g.D.Domain.opened c.args.self.now.place c.len.new.self.place c.open.new.self.place c.args.index
    c.in-Ok.end c.args.new c.set.result c.in-Ok.ensures.end (omega arith) c.in-Ok.ensures.place
    c.in-Ok-open.ensures.place c.in-Ok-open.ensures.done c.set.ensures.done
