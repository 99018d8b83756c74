-- Looks at cells.
use Rattle.std.proofs.Common.{◌≡◌, ℕ, ◌<◌, ◌≤◌, true, false, is_some, ◌==◌, Some, None, Option, refl, ap}
use Rattle.std.proofs.Common.{◌∙◌, arith}
use Rattle.control_word.proofs.packing.Cells.{cell_taken_in}
use Rattle.control_word.proofs.words.Banks.{IsKept}
use Rattle.control_word.specs.Packing.{taken_in}
use Rattle.step_table.proofs.tables.Shown.{cell_packed, found_in}
use Rattle.step_table.specs.CellAtomicSteps.{cell_in}
use Rattle.step_threads.proofs.Prelude.{Block, CellWord, Compared, eqb-false, ghost_after_step}
use Rattle.step_threads.proofs.Prelude.{GhostState, IsLoaded, Look, model_state}
use Rattle.step_threads.proofs.Prelude.{OnCell, seen, Site, TableInvariant, word_of_cell}

-- a look moves no block
pub same_looked : (v : GhostState) (d : ℕ) (c : Site) (x : CellWord) (y : Option Compared)
    → (model_state (ghost_after_step v d (OnCell (Look c x y)))).stores ≡ (model_state v).stores
same_looked v d c x None = refl
same_looked v d c x (Some y) = refl

-- what is seen can be loaded
pub is_loaded : (x : CellWord) → x.taken ≤ 256 → is_some x.owned ≡ true → (x.taken == 256) ≡ false → IsLoaded x
is_loaded x most full few =
    let n = eqb-false x.taken 256 few in
    ((λ e. let q : is_some x.owned ≡ false = ap (λ (o : Option Block). is_some o) e in cc), omega (arith, n, most))

-- of no cell more funds were taken than there are
pub seen_few : (v : GhostState) (d : ℕ) (c : Site) → TableInvariant v → d < v.extent.actors → IsKept (model_state v) (cell_in (model_state v) c)
    → (seen v c).taken ≤ 256
seen_few v d c kept lt is =
    let p = cell_packed v d c (word_of_cell v c) kept lt is refl in
    let few = (found_in v d c p.cell kept lt is p.valid p.bits).shows.few in
    let t : (seen v c).taken ≡ p.cell.taken = ap taken_in p.bits ∙ cell_taken_in p.cell p.valid in omega (arith, few, t)
