use Rattle.ghost_map.proofs.Prelude.{Ghosts, IsSync, RattleType, sendable, shape, Struct, the_row}
use Rattle.ghost_map.specs.contracts.entry.GhostEntry.{the_type}
use Rattle.ghost_map.proofs.Sent.{entry_keyless}

pub sync : (N T : RattleType) (g : Ghosts N.Denot) → IsSync (the_row N T g)
sync N T g = let fields : IsSync (Struct (shape (the_type N T g))) = search sendable depth 20 in
    record { shared = λ d b o κ. (fields.shared (tt, tt) b o κ, ((λ q. tt), entry_keyless T.coded.code g.name d.at d.life d.value)) }
