use Rattle.std.proofs.Common.{None}
use Rattle.control_block.proofs.Prelude.{known, Owner}
use Rattle.control_block.proofs.desks.Visiting.{visited, visited_at}
use Rattle.control_block.proofs.calls.visits.visit.Given as goal

abbrev pub ghosts-shut : goal.ghosts-shut
ghosts-shut g a =
    record { kind = Owner; object = (known a.seat.now.me.0).latest a.of.block.0; place = a.of.place; wanted = None; block = a.of.block; word = 0 }

abbrev pub ghosts-open : goal.ghosts-open
ghosts-open g a =
    let p = a.seat.now.me.0.view.pending in record { kind = Owner; object = visited p; place = visited_at p; wanted = None; block = a.block; word = 0 }
