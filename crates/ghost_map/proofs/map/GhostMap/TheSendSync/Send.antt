use Rattle.ghost_map.proofs.Prelude.{Ghosts, IsSend, RattleType}
use Rattle.ghost_map.specs.contracts.map.GhostMap.{the_row}
use Rattle.ghost_map.proofs.Sent.{map_keyless}

pub send : (N T : RattleType) (g : Ghosts N.Denot) → IsSend (the_row N T g)
send N T g = record { owned = λ d vs. ((λ vss. (tt, ((λ uss. (tt, tt)), tt))), map_keyless T.coded.code g.name d.entries); leaving = λ k f vs. tt }
