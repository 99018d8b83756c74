use Rattle.ghost_map.proofs.Prelude.{IsSend, RattleType}
use Rattle.ghost_map.specs.contracts.value.Ghost.{the_row}

pub send : (T : RattleType) → IsSend (the_row T)
send T = record { owned = λ d vs. ((λ vss. (tt, ((λ uss. (tt, tt)), tt))), tt); leaving = λ k f vs. tt }
