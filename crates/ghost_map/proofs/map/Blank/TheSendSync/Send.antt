use Rattle.ghost_map.proofs.Prelude.{IsSend}
use Rattle.ghost_map.specs.contracts.map.Blank.{the_row}
use Rattle.ghost_map.proofs.Sent.{blank_keyless}

pub send : IsSend the_row
send = record { owned = λ d vs. ((λ vss. (tt, ((λ uss. (tt, tt)), tt))), blank_keyless d.name); leaving = λ k f vs. tt }
