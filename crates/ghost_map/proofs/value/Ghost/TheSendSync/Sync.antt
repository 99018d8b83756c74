use Rattle.ghost_map.proofs.Prelude.{IsSync, RattleType, sendable, shape, Struct}
use Rattle.ghost_map.specs.contracts.value.Ghost.{the_row, the_type}

pub sync : (T : RattleType) → IsSync (the_row T)
sync T = let fields : IsSync (Struct (shape (the_type T))) = search sendable depth 20 in
    record { shared = λ d b o κ. (fields.shared (tt, tt) b o κ, tt) }
