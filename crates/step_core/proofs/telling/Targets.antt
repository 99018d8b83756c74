-- The block that a cell's handle is on is one of the table's.
use Rattle.std.proofs.Common.{◌≡◌, ℕ, ◌<◌, ◌≤◌, IfSome, Some, None, Option, sym, refl, subst}
use Rattle.std.proofs.Common.{arith}
use Rattle.step_core.proofs.Prelude.{Block, block_of, blocks_of, cell_in, Free, GhostState, IsBusy}
use Rattle.step_core.proofs.Prelude.{Member, model_state, opening, Site, sound, TableInvariant}
use Rattle.step_core.proofs.Prelude.{was_made, WorldState}
use Rattle.control_word.proofs.words.Funds.{cell_busy, member_busy}
use Rattle.control_word.specs.Events.{cell_of}
use Rattle.step_table.specs.Cells.{IsCellInUse, target_of}

busy : (v : GhostState) (c : Site) → TableInvariant v → IsCellInUse v c → (o : ℕ) → (cell_of (model_state v) (cell_in (model_state v) c)).object ≡ Some o
    → IsBusy (model_state v) o
busy v (Free n) kept is o e =
    cell_busy (opening v.extent) (model_state v) (sound (opening v.extent) v.history kept.stands.legal) n o is e
busy v (Member b m) kept is o e =
    let fine = sound (opening v.extent) v.history kept.stands.legal in
    let i = (model_state v).latest b.0 in
    member_busy (opening v.extent) (model_state v) fine i m o (was_made (opening v.extent) (model_state v) i fine
    (λ u. let a = fine.unmade_free i u in let p = is.1 in omega (arith, a, p))) (let few = is.0 in omega (arith, few)) e

abbrev IsInside : GhostState → Block → Type 0
IsInside v b = (0 < b.0) × (b.0 ≤ v.extent.shape.blocks)

inside : (v : GhostState) (c : Site) → TableInvariant v → IsCellInUse v c → (o : Option ℕ) → (cell_of (model_state v) (cell_in (model_state v) c)).object ≡ o
    → IfSome (block_of (blocks_of (model_state v)) o) (IsInside v)
inside v c kept is None e = tt
inside v c kept is (Some o) e =
    let fine = sound (opening v.extent) v.history kept.stands.legal in
    let p = (fine.placed o (busy v c kept is o e)).1 in
    let l = p.0 in (omega (arith, l), p.1)

pub target_inside : (v : GhostState) (c : Site) → TableInvariant v → IsCellInUse v c → IfSome (target_of (model_state v) c) (IsInside v)
target_inside v c kept is = inside v c kept is (cell_of (model_state v) (cell_in (model_state v) c)).object refl

pub target_now : (u : WorldState) (v : GhostState) (c : Site) (r : Option Block) → TableInvariant v → v ≡ u.ghost_state → r ≡ target_of (model_state v) c
    → IsCellInUse u.ghost_state c
    → IfSome r (λ b. (0 < b.0) × (b.0 ≤ u.ghost_state.extent.shape.blocks))
target_now u v c r kept same is there =
    subst (λ (w : GhostState). IfSome r (IsInside w)) same
    (subst (λ (x : Option Block). IfSome x (IsInside v)) (sym is) (target_inside v c kept (subst (λ (w : GhostState). IsCellInUse w c) (sym same) there)))
