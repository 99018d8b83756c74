-- The steps of a make.
use Rattle.std.proofs.Common.{◌≡◌, ℕ, ◌+◌, ◌<◌, Bool, List, ◌∷◌, length, get_or, set, sym, ap, ◌∙◌}
use Rattle.std.proofs.Common.{subst, arith}
use Rattle.step_table.proofs.Prelude.{bag_size, Block, Claim, flags_of, ghost_after_step}
use Rattle.step_table.proofs.Prelude.{GhostState, Has, Idle, Making, model_state, Nothing, opening}
use Rattle.step_table.proofs.Prelude.{Pending, pending, Prepare, sees_as, spot, Stands, stored}
use Rattle.step_table.proofs.Prelude.{TableInvariant, view_in, Write}
use Rattle.control_word.proofs.steps.Claim.{claims}
use Rattle.control_word.proofs.steps.Begin.{writes_weak_word}
use Rattle.control_word.proofs.steps.Write.{writes_word}
use Rattle.control_word.specs.declared.model.event.Event.TheVariants as event
use Rattle.step_table.specs.GhostStates.{IsMaking, known_words}
use Rattle.step_table.proofs.tables.Standing.{point, ready, kept_after}
use Rattle.step_table.proofs.tables.Places.{event_by, named}

pub kept_prepare : (v : GhostState) (d : ℕ) (b : Block) → TableInvariant v → d < v.extent.actors → pending v d ≡ Idle
    → Has (stored d b.0) (model_state v).stores
    → TableInvariant (ghost_after_step v d (Prepare b))
kept_prepare v d b kept lt idle has =
    kept_after v d (Prepare b) kept lt
    (writes_weak_word (point v d) (ready v d Idle kept lt idle) b (subst (λ (n : ℕ). Has (stored n b.0) (model_state v).stores)
    (sym (named v d kept lt)) has))

-- what a make knows of a word is so
pub known_word : (v : GhostState) (d : ℕ) (b : Block) (j : ℕ) → TableInvariant v → d < v.extent.actors → IsMaking v d b → j < 5
    → get_or v.words (spot b.0 (2 + j)) 0 ≡ get_or (known_words (pending v d)) j 0
known_word v d b j kept lt making few =
    subst (λ (p : Pending Nothing). get_or v.words (spot b.0 (2 + j)) 0 ≡ get_or (known_words p) j 0) (sym making.making)
    (writes_word (point v d) b making.words (ready v d _ kept lt making.making) making.size j 0 few).0

pub kept_write : (v : GhostState) (d : ℕ) (b : Block) (j n : ℕ) → TableInvariant v → d < v.extent.actors → IsMaking v d b → j < 5
    → TableInvariant (ghost_after_step v d (Write b j n))
kept_write v d b j n kept lt making few =
    kept_after v d (Write b j n) kept lt
    (subst (λ (p : Pending Nothing). Stands (opening v.extent) (set v.words (spot b.0 (2 + j)) n)
    (set v.views d (sees_as (view_in v.views d) (Making b (set (known_words p) j n)) v.history)) v.history) (sym making.making)
    (writes_word (point v d) b making.words (ready v d _ kept lt making.making) making.size j n few).1)

-- what the desk knows of the block that it prepared
known_now : (v : GhostState) (d : ℕ) (b : Block) (flags : ℕ) (fields : List ℕ) (making : IsMaking v d b) → known_words (pending v d) ≡ flags ∷ fields
    → making.words ≡ flags ∷ fields
known_now v d b flags fields making is = sym (ap known_words making.making) ∙ is

pub kept_claim : (v : GhostState) (d : ℕ) (b : Block) (enabled null : Bool) (fields : List ℕ) → TableInvariant v → d < v.extent.actors → IsMaking v d b
    → known_words (pending v d) ≡ flags_of enabled null ∷ fields → bag_size (model_state v) d < (model_state v).allowance d
    → TableInvariant (ghost_after_step v d (Claim b enabled null fields))
kept_claim v d b enabled null fields kept lt making is room =
    let words = known_now v d b (flags_of enabled null) fields making is in
    kept_after v d (Claim b enabled null fields) kept lt
    (event_by v d (set v.words (spot b.0 0) 1) Idle (event.Make b enabled null fields tt) kept lt
    (claims (point v d) b enabled null fields tt (ready v d _ kept lt (making.making ∙ ap (Making b) words))
    (let e = sym (ap (length {A = ℕ}) words) ∙ making.size in omega arith)
    (subst (λ (n : ℕ). bag_size (model_state v) n < (model_state v).allowance n) (sym (named v d kept lt)) room)))
