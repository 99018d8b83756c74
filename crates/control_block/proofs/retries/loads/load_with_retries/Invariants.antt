use Rattle.std.proofs.Common.{◌≡◌}
use Rattle.control_block.proofs.Prelude.{IsCellWord}
use Rattle.control_block.proofs.retries.loads.load_with_retries.Given as goal

-- each try that fails leaves the seat as it was, and what was seen last is the word of a cell
abbrev pub invariant-loop : goal.invariant-loop
invariant-loop g l =
    (goal.iterator-loop g).can_next l.iterator' × (goal.iterator-loop g).is_finite l.iterator' × (l.seat.table_id ≡ l.fn.seat.table_id)
    × (l.seat.me ≡ l.fn.seat.me) × IsCellWord l.seen
