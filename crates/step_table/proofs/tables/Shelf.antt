-- The steps on a word of the shelf.
use Rattle.std.proofs.Common.{◌≡◌, ℕ, ◌/◌, ◌%◌, ◌<◌, ◌≤◌, Bool, true, false, cond, nat_lt, List, ◌∷◌, length, get_or, set}
use Rattle.std.proofs.Common.{bit_and, bit_or, sym, refl, ap, ◌∙◌, subst, arith}
use Rattle.std.proofs.lemmas.Bool.{cond-false, cond-true, le-ltb, lt-ltb}
use Rattle.step_table.proofs.Prelude.{Block, entry, ghost_after_step, GhostState, Has, Idle, me, Miss}
use Rattle.step_table.proofs.Prelude.{model_state, OnShelf, Opening, opening, pending, sees_as, Shelve, ShelfStep, sound}
use Rattle.step_table.proofs.Prelude.{Stands, stored, TableInvariant, Unshelve, view_in}
use Rattle.std.specs.Int.{bit_at, bit_not, w64}
use Rattle.control_word.proofs.steps.Look.{looks_on}
use Rattle.control_word.proofs.steps.Shelf.{shelves', unshelves'}
use Rattle.control_word.specs.declared.model.event.Event.TheVariants as event
use Rattle.control_word.specs.Layout.{bit_of, shelf_words}
use Rattle.control_word.specs.State.{on_shelf}
use Rattle.control_word.specs.Words.{shelf_spot}
use Rattle.step_table.specs.ShelfAtomicSteps.{bit_moved, words_shelved}
use Rattle.step_table.proofs.tables.Standing.{found, kept_after, point, ready}
use Rattle.step_table.proofs.tables.Places.{event_by, named}

-- a block that the table has has a bit
has_bit : (z : Opening) (b : ℕ) → b ≤ z.blocks → b / 64 < shelf_words z.blocks
has_bit z b le = omega arith

-- in a word of the table
pub bit_inside : (v : GhostState) (b : ℕ) → TableInvariant v → b ≤ v.extent.shape.blocks → shelf_spot (opening v.extent) b < length v.words
bit_inside v b kept le = let size = kept.stands.shows.sized in omega (arith, size, le)

-- and its step changes that
pub shelved_words : (z : Opening) (words : List ℕ) (b : Block) (x : ShelfStep) → b.0 ≤ z.blocks
    → let k = shelf_spot z b.0 in words_shelved z words b x ≡ set words k (bit_moved x b.0 (get_or words k 0))
shelved_words z words b x le = cond-false (nat_lt z.blocks b.0) _ _ (le-ltb z.blocks b.0 le)

pub stored_inside : (v : GhostState) (d : ℕ) (b : Block) → TableInvariant v → Has (stored d b.0) (model_state v).stores
    → b.0 ≤ v.extent.shape.blocks
stored_inside v d b kept has = ((sound (opening v.extent) v.history kept.stands.legal).stores d b.0 has).1.1

-- a block of the store has its bit in a word of the table
pub shelf_inside : (v : GhostState) (d i : ℕ) (b : Block) (items : List ℕ) → TableInvariant v → Has (stored d b.0) (model_state v).stores → items ≡ v.words
    → i ≡ shelf_spot (opening v.extent) b.0 → i < length items
shelf_inside v d i b items kept has same at =
    subst (λ (l : List ℕ). i < length l) (sym same)
    (subst (λ (n : ℕ). n < length v.words) (sym at) (bit_inside v b.0 kept (stored_inside v d b kept has)))

-- the code sets it
pub shelves_words : (v : GhostState) (d i x bit : ℕ) (b : Block) (items new : List ℕ) → TableInvariant v → Has (stored d b.0) (model_state v).stores
    → items ≡ v.words → i ≡ shelf_spot (opening v.extent) b.0 → x ≡ get_or items i 0 → bit ≡ bit_of b.0 → new ≡ set items i (bit_or x bit)
    → new ≡ words_shelved (opening v.extent) v.words b Shelve
shelves_words v d i x bit b items new kept has same at read is to =
    let k = shelf_spot (opening v.extent) b.0 in
    to ∙ ap (λ (l : List ℕ). set l i (bit_or x bit)) same ∙ ap (λ (n : ℕ). set v.words n (bit_or x bit)) at
    ∙ ap (λ (n : ℕ). set v.words k (bit_or n bit)) (found items v.words i k x same at read)
    ∙ ap (λ (n : ℕ). set v.words k (bit_or (get_or v.words k 0) n)) is
    ∙ sym (shelved_words (opening v.extent) v.words b Shelve (stored_inside v d b kept has))

pub kept_shelve : (v : GhostState) (d : ℕ) (b : Block) → TableInvariant v → d < v.extent.actors → pending v d ≡ Idle
    → Has (stored d b.0) (model_state v).stores → TableInvariant (ghost_after_step v d (OnShelf b Shelve))
kept_shelve v d b kept lt idle has =
    kept_after v d (OnShelf b Shelve) kept lt
    (event_by v d (words_shelved (opening v.extent) v.words b Shelve) Idle (event.Shelve b) kept lt
    (subst (λ (w : List ℕ). let h = entry (me (point v d)) (event.Shelve b) ∷ v.history in
    Stands (opening v.extent) w (set v.views d (sees_as (view_in v.views d) Idle h)) h)
    (sym (shelved_words (opening v.extent) v.words b Shelve (stored_inside v d b kept has)))
    (shelves' (point v d) b (ready v d Idle kept lt idle)
    (subst (λ (n : ℕ). Has (stored n b.0) (model_state v).stores) (sym (named v d kept lt)) has))))

-- the word that has the block's bit
abbrev pub found_on : GhostState → Block → ℕ
found_on v b = get_or v.words (shelf_spot (opening v.extent) b.0) 0

pub shown_bit : (v : GhostState) (b : ℕ) → TableInvariant v → b ≤ v.extent.shape.blocks
    → bit_at (get_or v.words (shelf_spot (opening v.extent) b) 0) (b % 64) ≡ on_shelf (model_state v) b
shown_bit v b kept low = kept.stands.shows.shelf b (has_bit (opening v.extent) b low)

-- the words after a bit is cleared
pub cleared_words : (z : Opening) (words : List ℕ) (b : Block) (x : Bool) → b.0 ≤ z.blocks
    → set words (shelf_spot z b.0) (bit_and (get_or words (shelf_spot z b.0) 0) (bit_not w64 (bit_of b.0)))
    ≡ words_shelved z words b (cond x Unshelve Miss)
cleared_words z words b true le = sym (shelved_words z words b Unshelve le)
cleared_words z words b false le = sym (shelved_words z words b Miss le)

pub kept_unshelve : (v : GhostState) (d : ℕ) (b : Block) (x : Bool) → TableInvariant v → d < v.extent.actors → pending v d ≡ Idle
    → b.0 ≤ v.extent.shape.blocks → x ≡ (model_state v).shelved b.0 → TableInvariant (ghost_after_step v d (OnShelf b (cond x Unshelve Miss)))
kept_unshelve v d b true kept lt idle low is =
    kept_after v d (OnShelf b Unshelve) kept lt
    (event_by v d (words_shelved (opening v.extent) v.words b Unshelve) Idle (event.Unshelve b) kept lt
    (subst (λ (w : List ℕ). let h = entry (me (point v d)) (event.Unshelve b) ∷ v.history in
    Stands (opening v.extent) w (set v.views d (sees_as (view_in v.views d) Idle h)) h)
    (sym (shelved_words (opening v.extent) v.words b Unshelve low))
    ((unshelves' (point v d) b (ready v d Idle kept lt idle) (has_bit (opening v.extent) b.0 low)).0
    (shown_bit v b.0 kept low ∙ ap (λ (y : Bool). cond y 1 0) (sym is)))))
kept_unshelve v d b false kept lt idle low is =
    kept_after v d (OnShelf b Miss) kept lt
    (subst (λ (w : List ℕ). Stands (opening v.extent) w (set v.views d (sees_as (view_in v.views d) Idle v.history)) v.history)
    (sym (shelved_words (opening v.extent) v.words b Miss low))
    ((unshelves' (point v d) b (ready v d Idle kept lt idle) (has_bit (opening v.extent) b.0 low)).1
    (shown_bit v b.0 kept low ∙ ap (λ (y : Bool). cond y 1 0) (sym is))))

-- a block that the table doesn't have is not on the shelf, and a step on it is a look
pub kept_beyond : (v : GhostState) (d : ℕ) (b : Block) → TableInvariant v → d < v.extent.actors → pending v d ≡ Idle
    → v.extent.shape.blocks < b.0
    → ((model_state v).shelved b.0 ≡ false) × (words_shelved (opening v.extent) v.words b Miss ≡ v.words)
    × TableInvariant (ghost_after_step v d (OnShelf b Miss))
kept_beyond v d b kept lt idle beyond =
    let same = cond-true (nat_lt v.extent.shape.blocks b.0) v.words _ (lt-ltb v.extent.shape.blocks b.0 beyond) in (
      absent ((model_state v).shelved b.0) refl,
      same,
      kept_after v d (OnShelf b Miss) kept lt
          (subst (λ (w : List ℕ). Stands (opening v.extent) w (set v.views d (sees_as (view_in v.views d) Idle v.history)) v.history)
          (sym same) (looks_on (point v d) (ready v d Idle kept lt idle))),
    )
  where
    absent : (x : Bool) → (model_state v).shelved b.0 ≡ x → x ≡ false
    absent true is =
        let p = ((sound (opening v.extent) v.history kept.stands.legal).shelf b.0 is).1 in let q = p.1 in absurd (omega (arith, q, beyond))
    absent false is = refl
