-- Steps on the word of the owners.
use Rattle.std.proofs.Common.{◌≡◌, ℕ, suc, ◌+◌, ◌-◌, ◌*◌, ◌<◌, ◌≤◌, Bool, true, false, cond, ◌↔◌}
use Rattle.std.proofs.Common.{◌∷◌, get_or, set, IsTrue, ◌==◌, Option, sym, refl, ◌∙◌, subst, arith}
use Rattle.std.proofs.Common.{eq-eqb, ne_eqb, eqb-true}
use Rattle.step_table.proofs.Prelude
use Prelude.{bag_size, Block, cond-false, cond-true, cond_both, Count, count, entry, false≢true}
use Prelude.{funds_of, ghost_after_step, GhostState, handle_in_block, Has, has_headroom, held}
use Prelude.{Idle, IsPointer, Kind, Leave, me, model_state, number_of, object_of_block, opening}
use Prelude.{owed, Owner, owner_in, pending, Place, sees_as, Share, slot, spot, Stands}
use Prelude.{TableInvariant, told_number, view_in}
use Rattle.std.proofs.lemmas.Bool.{eqb-false}
use Rattle.control_word.proofs.steps.Leave.{leaves'}
use Rattle.control_word.proofs.steps.Look.{tells_count}
use Rattle.control_word.proofs.steps.Share.{shares}
use Rattle.control_word.specs.declared.model.event.Event.TheVariants as event
use Rattle.step_table.proofs.tables.Standing.{point, ready, kept_after}
use Rattle.step_table.proofs.tables.Places.{event_by, handle_busy, named, owner_busy, there}

-- the owner word has room
pub headroom : (v : GhostState) (d : ℕ) (b : Block) (p : Option Place) → TableInvariant v → d < v.extent.actors → pending v d ≡ Idle
    → Has (held d (owner_in v b p)) (model_state v).hands → get_or v.words (spot b.0 0) 0 + 1099511627776 < 18446744073709551616
headroom v d b p kept lt idle has =
    let busy = owner_busy v d b p kept has in
    subst (λ (c : ℕ). get_or v.words (spot c 0) 0 + 1099511627776 < 18446744073709551616) (there v b kept busy).0
    (has_headroom (point v d) Idle (ready v d Idle kept lt idle) Owner (object_of_block v b) busy).0

pub mine : (v : GhostState) (d : ℕ) (b : Block) (p : Option Place) → TableInvariant v → d < v.extent.actors
    → Has (held d (owner_in v b p)) (model_state v).hands
    → Has (held (me (point v d)) (owner_in v b p)) (model_state v).hands
mine v d b p kept lt has = subst (λ (n : ℕ). Has (held n (owner_in v b p)) (model_state v).hands) (sym (named v d kept lt)) has

pub mine_as : (v : GhostState) (d : ℕ) (k : Kind) (b : Block) (p : Option Place) → TableInvariant v → d < v.extent.actors
    → Has (held d (handle_in_block v k b p)) (model_state v).hands
    → Has (held (me (point v d)) (handle_in_block v k b p)) (model_state v).hands
mine_as v d k b p kept lt has = subst (λ (n : ℕ). Has (held n (handle_in_block v k b p)) (model_state v).hands) (sym (named v d kept lt)) has

-- either word has room
pub room_above : (v : GhostState) (d : ℕ) (i k : Kind) (b : Block) (p : Option Place) → TableInvariant v → d < v.extent.actors → pending v d ≡ Idle
    → Has (held d (handle_in_block v k b p)) (model_state v).hands → get_or v.words (spot b.0 (slot i)) 0 + 1099511627776 < 18446744073709551616
room_above v d i k b p kept lt idle has =
    let busy = handle_busy v d k b p kept has in
    subst (λ (c : ℕ). get_or v.words (spot c (slot i)) 0 + 1099511627776 < 18446744073709551616) (there v b kept busy).0
    (has_headroom (point v d) Idle (ready v d Idle kept lt idle) i (object_of_block v b) busy).0

pub kept_share : (v : GhostState) (d : ℕ) (b : Block) (p q : Option Place) → TableInvariant v → d < v.extent.actors → pending v d ≡ Idle
    → Has (held d (owner_in v b p)) (model_state v).hands → IsPointer q → bag_size (model_state v) d < (model_state v).allowance d
    → TableInvariant (ghost_after_step v d (Share b p q))
kept_share v d b p q kept lt idle has fine room =
    let e = event.Share (owner_in v b p) q in
    kept_after v d (Share b p q) kept lt
    (event_by v d (set v.words (spot b.0 0) (suc (get_or v.words (spot b.0 0) 0))) Idle e kept lt
    (subst (λ (c : ℕ). Stands (opening v.extent) (set v.words (spot c 0) (suc (get_or v.words (spot c 0) 0)))
    (set v.views d (sees_as (view_in v.views d) Idle (entry (me (point v d)) e ∷ v.history))) (entry (me (point v d)) e ∷ v.history))
    (there v b kept (owner_busy v d b p kept has)).0
    (shares (point v d) (object_of_block v b) p q (ready v d Idle kept lt idle) (mine v d b p kept lt has) fine
    (subst (λ (n : ℕ). bag_size (model_state v) n < (model_state v).allowance n) (sym (named v d kept lt)) room))))

leaving : (v : GhostState) (d : ℕ) (b : Block) (p : Option Place) → TableInvariant v → d < v.extent.actors → pending v d ≡ Idle
    → Has (held d (owner_in v b p)) (model_state v).hands
    → (0 < get_or v.words (spot b.0 0) 0)
    × (let e = event.Leave (owner_in v b p) (get_or v.words (spot b.0 0) 0 == 1) in
    Stands (opening v.extent) (set v.words (spot b.0 0) (get_or v.words (spot b.0 0) 0 - 1))
    (set v.views d (sees_as (view_in v.views d) Idle (entry (me (point v d)) e ∷ v.history))) (entry (me (point v d)) e ∷ v.history))
leaving v d b p kept lt idle has =
    subst (λ (c : ℕ). (0 < get_or v.words (spot c 0) 0)
    × (let e = event.Leave (owner_in v b p) (get_or v.words (spot c 0) 0 == 1) in
    Stands (opening v.extent) (set v.words (spot c 0) (get_or v.words (spot c 0) 0 - 1))
    (set v.views d (sees_as (view_in v.views d) Idle (entry (me (point v d)) e ∷ v.history))) (entry (me (point v d)) e ∷ v.history)))
    (there v b kept (owner_busy v d b p kept has)).0
    (leaves' (point v d) (object_of_block v b) p (ready v d Idle kept lt idle) (mine v d b p kept lt has))

pub some_owner : (v : GhostState) (d : ℕ) (b : Block) (p : Option Place) → TableInvariant v → d < v.extent.actors → pending v d ≡ Idle
    → Has (held d (owner_in v b p)) (model_state v).hands → 0 < get_or v.words (spot b.0 0) 0
some_owner v d b p kept lt idle has = (leaving v d b p kept lt idle has).0

pub kept_leave : (v : GhostState) (d : ℕ) (b : Block) (p : Option Place) (last : Bool) → TableInvariant v → d < v.extent.actors → pending v d ≡ Idle
    → Has (held d (owner_in v b p)) (model_state v).hands → last ≡ (get_or v.words (spot b.0 0) 0 == 1) → TableInvariant (ghost_after_step v d (Leave b p last))
kept_leave v d b p last kept lt idle has is =
    kept_after v d (Leave b p last) kept lt
    (event_by v d (set v.words (spot b.0 0) (get_or v.words (spot b.0 0) 0 - 1)) Idle (event.Leave (owner_in v b p) last) kept lt
    (subst (λ (l : Bool). let e = event.Leave (owner_in v b p) l in
    Stands (opening v.extent) (set v.words (spot b.0 0) (get_or v.words (spot b.0 0) 0 - 1))
    (set v.views d (sees_as (view_in v.views d) Idle (entry (me (point v d)) e ∷ v.history))) (entry (me (point v d)) e ∷ v.history)) (sym is)
    (leaving v d b p kept lt idle has).1))

-- the event of a leave says whether it was the last
pub left_last : (v : GhostState) (d : ℕ) (b : Block) (p : Option Place) (last : Bool) → TableInvariant (ghost_after_step v d (Leave b p last))
    → last ≡ (count (model_state v) (object_of_block v b) == 1)
left_last v d b p last kept = kept.stands.legal.1.asks.1

-- a word is 1 just where its number is 1 and it has no funds
pub whole_one : (last : Bool) (w : ℕ) → (IsTrue last ↔ ((number_of w ≡ 1) × (funds_of w ≡ 0))) → last ≡ (w == 1)
whole_one true w iff = let t = iff.0 refl in let a = t.0 in let f = t.1 in sym (eq-eqb w 1 (omega arith))
whole_one false w iff = sym (ne_eqb w 1 (λ e. false≢true (iff.1 (omega arith, omega arith))))

-- what a count tells: a word whose number is 0 has funds where it isn't 0
pub told : (w n : ℕ) → (0 < number_of w → n ≡ number_of w) → (number_of w ≡ 0 → 0 < funds_of w → n ≡ 1)
    → (number_of w ≡ 0 → funds_of w ≡ 0 → n ≡ 0)
    → n ≡ cond (number_of w == 0) (cond (funds_of w == 0) 0 1) (number_of w)
told w n some way none =
    cond_both (number_of w == 0) (cond (funds_of w == 0) 0 1) (number_of w) (λ (x : ℕ). n ≡ x)
    (λ t. cond_both (funds_of w == 0) 0 1 (λ (x : ℕ). n ≡ x) (λ u. none (eqb-true _ _ t) (eqb-true _ _ u))
    (λ u. let ne = eqb-false _ _ u in way (eqb-true _ _ t) (omega arith)))
    (λ t. let ne = eqb-false _ _ t in some (omega arith))

pub told_word : (w : ℕ) → told_number w ≡ cond (number_of w == 0) (cond (funds_of w == 0) 0 1) (number_of w)
told_word w =
    told w (told_number w) (λ some. cond-false (number_of w == 0) _ _ (ne_eqb (number_of w) 0 (λ e. absurd (omega arith))))
    (λ none some. cond-true (number_of w == 0) _ _ (eq-eqb (number_of w) 0 none) ∙ cond-false (w == 0) 0 1 (ne_eqb w 0 (λ e. absurd (omega arith))))
    (λ none bare. cond-true (number_of w == 0) _ _ (eq-eqb (number_of w) 0 none) ∙ cond-true (w == 0) 0 1 (eq-eqb w 0 (omega arith)))

telling : (v : GhostState) (d : ℕ) (k : Kind) (b : Block) (p : Option Place) (n : ℕ) → TableInvariant v → d < v.extent.actors → pending v d ≡ Idle
    → Has (held d (handle_in_block v k b p)) (model_state v).hands
    → let w = get_or v.words (spot b.0 0) 0 in n ≡ cond (number_of w == 0) (cond (funds_of w == 0) 0 1) (number_of w)
    → (let e = event.Count (handle_in_block v k b p) n in
    Stands (opening v.extent) v.words (set v.views d (sees_as (view_in v.views d) Idle (entry (me (point v d)) e ∷ v.history)))
    (entry (me (point v d)) e ∷ v.history))
    × (owed v.views (spot b.0 0) ≡ 0 → n ≡ count (model_state v) (object_of_block v b))
telling v d k b p n kept lt idle has is =
    let h = there v b kept (handle_busy v d k b p kept has) in
    let w = get_or v.words (spot b.0 0) 0 in
    let low = number_of w in
    let high = funds_of w in
    subst (λ (m : ℕ). (let e = event.Count (handle_in_block v k b p) m in
    Stands (opening v.extent) v.words (set v.views d (sees_as (view_in v.views d) Idle (entry (me (point v d)) e ∷ v.history)))
    (entry (me (point v d)) e ∷ v.history))
    × (owed v.views (spot b.0 0) ≡ 0 → m ≡ count (model_state v) (object_of_block v b))) (sym is)
    (subst (λ (c : ℕ). get_or v.words (spot c 0) 0 ≡ low + 4294967296 * high → low < 4294967296
    → (let e = event.Count (handle_in_block v k b p) (cond (low == 0) (cond (high == 0) 0 1) low) in
    Stands (opening v.extent) v.words (set v.views d (sees_as (view_in v.views d) Idle (entry (me (point v d)) e ∷ v.history)))
    (entry (me (point v d)) e ∷ v.history))
    × (owed v.views (spot c 0) ≡ 0 → cond (low == 0) (cond (high == 0) 0 1) low ≡ count (model_state v) (object_of_block v b))) h.0
    (tells_count (point v d) k (object_of_block v b) p low high (ready v d Idle kept lt idle) (mine_as v d k b p kept lt has)) (omega arith) (omega arith))

pub kept_count : (v : GhostState) (d : ℕ) (k : Kind) (b : Block) (p : Option Place) (n : ℕ) → TableInvariant v → d < v.extent.actors → pending v d ≡ Idle
    → Has (held d (handle_in_block v k b p)) (model_state v).hands
    → (let w = get_or v.words (spot b.0 0) 0 in n ≡ cond (number_of w == 0) (cond (funds_of w == 0) 0 1) (number_of w))
    → TableInvariant (ghost_after_step v d (Count k b p n))
kept_count v d k b p n kept lt idle has is =
    kept_after v d (Count k b p n) kept lt
    (event_by v d v.words Idle (event.Count (handle_in_block v k b p) n) kept lt (telling v d k b p n kept lt idle has is).0)

pub told_none : (v : GhostState) (d : ℕ) (k : Kind) (b : Block) (p : Option Place) (n : ℕ) → TableInvariant v → d < v.extent.actors → pending v d ≡ Idle
    → Has (held d (handle_in_block v k b p)) (model_state v).hands
    → (let w = get_or v.words (spot b.0 0) 0 in n ≡ cond (number_of w == 0) (cond (funds_of w == 0) 0 1) (number_of w))
    → (n == 0) ≡ (count (model_state v) (object_of_block v b) == 0)
told_none v d k b p n kept lt idle has is = (kept_count v d k b p n kept lt idle has is).stands.legal.1.asks.1

pub told_most : (v : GhostState) (d : ℕ) (k : Kind) (b : Block) (p : Option Place) (n : ℕ) → TableInvariant v → d < v.extent.actors → pending v d ≡ Idle
    → Has (held d (handle_in_block v k b p)) (model_state v).hands
    → (let w = get_or v.words (spot b.0 0) 0 in n ≡ cond (number_of w == 0) (cond (funds_of w == 0) 0 1) (number_of w))
    → n ≤ count (model_state v) (object_of_block v b)
told_most v d k b p n kept lt idle has is = (kept_count v d k b p n kept lt idle has is).stands.legal.1.asks.2

pub exact_count : (v : GhostState) (d : ℕ) (k : Kind) (b : Block) (p : Option Place) (n : ℕ) → TableInvariant v → d < v.extent.actors → pending v d ≡ Idle
    → Has (held d (handle_in_block v k b p)) (model_state v).hands
    → (let w = get_or v.words (spot b.0 0) 0 in n ≡ cond (number_of w == 0) (cond (funds_of w == 0) 0 1) (number_of w))
    → owed v.views (spot b.0 0) ≡ 0 → n ≡ count (model_state v) (object_of_block v b)
exact_count v d k b p n kept lt idle has is calm = (telling v d k b p n kept lt idle has is).1 calm
