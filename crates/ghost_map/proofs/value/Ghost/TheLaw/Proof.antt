-- A `&` to a ghost value holds nothing. Assumes `Logic`.
use Rattle.std.proofs.Common.{[], ◌∷◌}
use Rattle.ghost_map.proofs.Prelude.{before, copy_shared, done, drop, field_copy, ftrue, Laws, Lft}
use Rattle.ghost_map.proofs.Prelude.{Logic, nothing, now, of_Lends, qed, RattleType, raw, said}
use Rattle.ghost_map.proofs.Prelude.{sem, snd∗, updating, Ura, !, ‵, ◌$◌, ◌∵◌}
use base.Fml.{fbor}
use denote.Struct.Lending.{Lends}
use types.Logic.{lfts}
use Rattle.ghost_map.proofs.value.Ghost.TheLaw.Statement.{statement}
use Rattle.std.specs.contracts.marker.PhantomData as marker
use Rattle.ghost_map.specs.contracts.value.Ghost as C

lends_nothing : {M : Type 1} {𝓤 : Ura M} (𝓛 : Logic 𝓤) (l : Lft) → Lends 𝓛 ftrue (said ftrue) l
lends_nothing {𝓤 = 𝓤} 𝓛 l κ ts inc sp = qed 𝓛 (‵ (fbor κ ftrue) ∷ raw (lfts 𝓛 ts) ∷ []) ∵ updating ! $ drop ! $ nothing ! $ now ! $ done !

pub shares : (T : RattleType) (L : Laws T) → statement T L
shares T L = of_Lends (C.struct T) (C.the_codes T.Denot T.coded (marker.the_row T).coded) (C.the_heap T) (C.the_lent T)
    (λ d p. record { contraction = λ M 𝓤 𝓛 _. base.Logic.emp∗ 𝓤 (base.Logic.emp 𝓤); mono = λ M 𝓤 𝓛 κ' κ. snd∗ 𝓤 (sem 𝓛 (before κ' κ)) (sem 𝓛 ftrue) })
    (copy_shared (marker.the_field T) (field_copy (marker.the_type T) tt), tt)
    (λ M 𝓤 𝓛 d p. lends_nothing 𝓛 (C.the_row T).lives)
