use Rattle.std.proofs.Common.{◌^◌}
use Rattle.ghost_map.proofs.Prelude.{Ghosts, IsSend, RattleType, the_row}
use Rattle.ghost_map.proofs.Sent.{entry_keyless, tokens_keyless}

pub send : (N T : RattleType) (g : Ghosts N.Denot) → IsSend (the_row N T g)
send N T g = record {
  owned = λ d vs. (
    (λ vss. (tt, ((λ uss. (tt, tt)), tt))),
    (
      tokens_keyless d.life
          (2 ^ 63),
      entry_keyless T.coded.code g.name d.at d.life d.value,
    ),
  );
  leaving = λ k f vs. tt;
}
