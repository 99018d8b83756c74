-- A `&` to a cell is made where one to its value is. Assumes `Logic`.
use Rattle.std.proofs.Common.{[], ◌++◌}
use Rattle.std.specs.Prelude.{None, Option, Some}
use Rattle.slot_arena.proofs.Prelude.{block_owns, content, Ghosts, Incl-trans, Lft, Logic, Ptr}
use Rattle.slot_arena.proofs.Prelude.{RattleType, Ura, value_lent}
use base.Fml.{Incl}
use contract.BorrowLft.{meet_⊑_left}
use denote.Param.Laws.{Laws, row_shared}
use denote.Param.Shared.{copy_shared}
use denote.Shares.{Shares-less}
use denote.Struct.Field.{RawPtr-field}
use denote.Struct.Laws.{RawPtr-copy}
use denote.Struct.Lending.{Lends, Lends-first, Lends-lies, Lends-nothing, of_Lends}
use Rattle.slot_arena.proofs.Cells.{value_lent_laws}
use Rattle.slot_arena.proofs.cell.RawCell.TheLaw.Statement.{statement}
use Rattle.slot_arena.specs.contracts.cell.RawCell as C

module _ {M : Type 1} {𝓤 : Ura M} (𝓛 : Logic 𝓤) (l : Lft) (V : RattleType) (L : Laws V) (inc : Incl l V.lives) where
  lends_value : (p : Ptr) (c : Option V.Denot) → Lends 𝓛 (content V p c) (value_lent V p c) l
  lends_value p None = Lends-nothing 𝓛 (content V p None) l
  lends_value p (Some x) = Lends-lies 𝓛 V l p x (Shares-less 𝓛 V V.lives l inc (L.shares 𝓛) x)

pub shares : (V A : RattleType) (g : Ghosts A.Denot) (L : Laws V) (K : Laws A) → statement V A g L K
shares V A g L K =
    of_Lends (C.struct V A g) (C.the_codes V.Denot A.Denot V.coded A.coded) (C.the_heap V A g) (C.the_lent V A g)
    (λ c p. value_lent_laws V L.shr_laws c.at c.held)
    (copy_shared RawPtr-field RawPtr-copy, (row_shared A K, tt))
    (λ M 𝓤 𝓛 c p.
    let l = (C.the_row V A g).lives in
    let within = Incl-trans (meet_⊑_left (V.lives ++ (A.lives ++ [])) _) (meet_⊑_left V.lives (A.lives ++ [])) in
    Lends-first 𝓛 (content V c.at c.held) (block_owns V c.at (g.dealloc_token c.alloc))
    (value_lent V c.at c.held) l (lends_value 𝓛 l V L within c.at c.held))
