use Rattle.std.proofs.Common.{None}
use Rattle.control_block.proofs.Prelude.{block_out}
use Rattle.control_block.proofs.retries.loads.try_refill.Given as goal

abbrev pub ghosts-refill : goal.ghosts-refill
ghosts-refill g a =
    let m = g.M.StepArgs in record { kind = m.kind; object = m.object; place = m.place; wanted = None; block = block_out a.seen; word = a.seen.taken }
