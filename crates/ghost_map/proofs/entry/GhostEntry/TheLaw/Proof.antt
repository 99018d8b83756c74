-- A `&` to an entry holds a share of its life, and where it stands. Assumes `Logic`.
use Rattle.std.proofs.Common.{◌^◌, [], ◌∷◌}
use Rattle.ghost_map.proofs.Prelude.{copy_shared, field_copy, Ghosts, Laws, of_Lends, RattleType}
use Rattle.ghost_map.proofs.Prelude.{said, Tuple}
use Rattle.left_right.proofs.PartSteps.{Lends-part, lent_laws}
use Rattle.ghost_map.specs.Chain.{entry_path}
use Rattle.ghost_map.proofs.Steps.{path_laws}
use Rattle.ghost_map.proofs.entry.GhostEntry.TheLaw.Statement.{statement}
use Rattle.std.specs.contracts.marker.PhantomData as marker
use Rattle.ghost_map.specs.contracts.entry.GhostEntry as C

pub shares : (N T : RattleType) (g : Ghosts N.Denot) (L : Laws N) (L' : Laws T) → statement N T g L L'
shares N T g L L' = let Pair : RattleType = Tuple (N ∷ T ∷ []) in
    of_Lends (C.struct N T g) (C.the_codes N.Denot T.Denot N.coded T.coded (marker.the_row Pair).coded) (C.the_heap N T g) (C.the_lent N T g)
    (λ d p. lent_laws (said (entry_path T.coded.code g.name d.at d.life d.value)) (path_laws T.coded g.name d.at d.life d.value) d.life)
    (copy_shared (marker.the_field Pair) (field_copy (marker.the_type Pair) tt), tt)
    (λ M 𝓤 𝓛 d p. Lends-part (said (entry_path T.coded.code g.name d.at d.life d.value)) (path_laws T.coded g.name d.at d.life d.value) 𝓛 d.life (2 ^ 63)
    (C.the_row N T g).lives)
