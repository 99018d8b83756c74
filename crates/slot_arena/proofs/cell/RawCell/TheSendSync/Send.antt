use Rattle.slot_arena.proofs.Prelude.{Frees, Ghosts, IsSend, RattleType, the_row}
use Rattle.slot_arena.proofs.Crossing.{Cell-send}

pub send : (V A : RattleType) (g : Ghosts A.Denot) → IsSend V → IsSend A → Frees g g.dealloc_token
    → IsSend (the_row V A g)
send = Cell-send
