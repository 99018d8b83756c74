use Rattle.slot_arena.proofs.Prelude.{Ghosts, IsSync, RattleType, the_row}
use Rattle.slot_arena.proofs.Crossing.{Cell-sync}

pub sync : (V A : RattleType) (g : Ghosts A.Denot) → IsSync V → IsSync A → IsSync (the_row V A g)
sync = Cell-sync
