use Rattle.control_block.proofs.kept.Observation.{allows_observe}
use Rattle.control_block.proofs.steps.observation.observe.Goals as goal

pub load-requires : goal.load-requires
load-requires g c =
    let r = c.requires in let table = c.args.table.now in let seat = c.args.seat.now in
    (r.table, r.word, record { allows = allows_observe table.key table.table_id.slots seat.id c.args.word seat.me r.awake })
