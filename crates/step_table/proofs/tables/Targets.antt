-- What a cell's word tells of the object that its handle is on.
use Rattle.std.proofs.Common.{◌≡◌, ◌<◌, Some, None, Option, sym, refl, ap, ◌∙◌, arith}
use Rattle.step_table.proofs.Prelude.{Block, block_of, blocks_of, cell_in, CellWord, GhostState}
use Rattle.step_table.proofs.Prelude.{IsKept, Member, model_state, NumberedHandle, object_at}
use Rattle.step_table.proofs.Prelude.{object_of_block, Site, TableInvariant}
use Rattle.control_word.specs.declared.site.Site.TheVariants.{Free}
use Rattle.step_table.specs.Cells.{IsCellInUse, target_of}
use Rattle.step_table.proofs.tables.Shown.{Found}

pub kept_there : (v : GhostState) (c : Site) → IsCellInUse v c → IsKept (model_state v) (cell_in (model_state v) c)
kept_there v (Free n) is = is
kept_there v (Member b m) is = let few = is.0 in (omega (arith, few), is.1)

pub seat_first : (v : GhostState) → TableInvariant v → 0 < v.extent.actors
seat_first v kept = let some = kept.proper.some in omega arith

target_told : (v : GhostState) (o : Option Block) → ((b : Block) → o ≡ Some b → blocks_of (model_state v) (object_of_block v b) ≡ b.0)
    → block_of (blocks_of (model_state v)) (object_at (model_state v) o) ≡ o
target_told v None there = refl
target_told v (Some b) there = ap (λ n. Some (record { 0 = n })) (there b refl)

pub target_found : (v : GhostState) (c : Site) (x : CellWord) → Found v c x → x.owned ≡ target_of (model_state v) c
target_found v c x found =
    sym (target_told v x.owned found.there)
    ∙ ap (λ (h : NumberedHandle). block_of (blocks_of (model_state v)) h.object) found.shows.holds
