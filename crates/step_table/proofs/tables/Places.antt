-- Where the words of a block lie whose handle, vacant block or ending object a desk has.
use Rattle.std.proofs.Common.{◌≡◌, ℕ, ◌<◌, ◌≢◌, List, ◌∷◌, length, set, Option, ap, subst, arith}
use Rattle.step_table.proofs.Prelude.{Block, ending, entry, Event, Fits, GhostState}
use Rattle.step_table.proofs.Prelude.{handle_in_block, Has, held, held_busy, InShape, IsBusy, Kind}
use Rattle.step_table.proofs.Prelude.{Making, me, model_state, Nothing, object_of_block, opening}
use Rattle.step_table.proofs.Prelude.{Owner, owner_in, Pending, pending, Place, sees_as, sound}
use Rattle.step_table.proofs.Prelude.{spot, Stands, stored, TableInvariant, value, view_in}
use Rattle.control_word.proofs.words.Frames.{spot_fits}
use Rattle.control_word.specs.State.{common}
use Rattle.step_table.proofs.tables.Standing.{point, ready}

-- a word of a block of the shape
pub inside : (v : GhostState) (b : Block) (k : ℕ) → TableInvariant v → InShape (opening v.extent) b.0 → k < 10 → spot b.0 k < length v.words
inside v b k kept shape lt = let f = spot_fits (opening v.extent) b.0 k shape (omega (arith, lt)) in let s = kept.stands.shows.sized in omega arith

pub vacant_place : (v : GhostState) (d : ℕ) (b : Block) → TableInvariant v → Has (stored d b.0) (model_state v).stores → InShape (opening v.extent) b.0
vacant_place v d b kept has = ((sound (opening v.extent) v.history kept.stands.legal).stores d b.0 has).1

pub named : (v : GhostState) (d : ℕ) → TableInvariant v → d < v.extent.actors → me (point v d) ≡ d
named v d kept lt = kept.seats.names d lt

pub making_stored : (v : GhostState) (d : ℕ) (b : Block) (l : List ℕ) → TableInvariant v → d < v.extent.actors → pending v d ≡ Making b l
    → Has (stored (me (point v d)) b.0) (model_state v).stores
making_stored v d b l kept lt is =
    let r = ready v d (Making b l) kept lt is in
    let f : Fits v.words (model_state v) (value (opening v.extent) v.history) (me (point v d)) (Making b l) =
    subst (λ (p : Pending Nothing). Fits v.words (model_state v) (value (opening v.extent) v.history) (me (point v d)) p) is
    (kept.stands.team.seated d (view_in v.views d) r.seated r.awake).fits in
    f.0

pub making_place : (v : GhostState) (d : ℕ) (b : Block) (l : List ℕ) → TableInvariant v → d < v.extent.actors → pending v d ≡ Making b l
    → InShape (opening v.extent) b.0
making_place v d b l kept lt is = vacant_place v (me (point v d)) b kept (making_stored v d b l kept lt is)

-- the object that a desk keeps, or ends, lies in its block
pub there : (v : GhostState) (b : Block) → TableInvariant v → IsBusy (model_state v) (object_of_block v b)
    → (((model_state v).object (object_of_block v b)).block ≡ b.0)
    × InShape (opening v.extent) b.0
there v b kept busy =
    let fine = sound (opening v.extent) v.history kept.stands.legal in
    let some : object_of_block v b ≢ 0 = λ e. let z = fine.unmade_free 0 fine.none in
    let t : 0 < 0 = subst (λ n. 0 < n) z (subst (IsBusy (model_state v)) e busy) in omega arith in
    let here = fine.latest_in b.0 some in
    (here, subst (InShape (opening v.extent)) here (fine.placed (object_of_block v b) busy).1)

pub owner_busy : (v : GhostState) (d : ℕ) (b : Block) (p : Option Place) → TableInvariant v → Has (held d (owner_in v b p)) (model_state v).hands
    → IsBusy (model_state v) (object_of_block v b)
owner_busy v d b p kept has =
    held_busy (opening v.extent) (model_state v) d (object_of_block v b) Owner p (sound (opening v.extent) v.history kept.stands.legal) has

pub handle_busy : (v : GhostState) (d : ℕ) (k : Kind) (b : Block) (p : Option Place) → TableInvariant v
    → Has (held d (handle_in_block v k b p)) (model_state v).hands
    → IsBusy (model_state v) (object_of_block v b)
handle_busy v d k b p kept has =
    held_busy (opening v.extent) (model_state v) d (object_of_block v b) k p (sound (opening v.extent) v.history kept.stands.legal) has

pub ending_busy : (v : GhostState) (d : ℕ) (b : Block) → ((model_state v).object (object_of_block v b)).phase ≡ ending d
    → IsBusy (model_state v) (object_of_block v b)
ending_busy v d b e = let c : common ((model_state v).object (object_of_block v b)).phase ≡ 1 = ap common e in omega arith

-- an event of the desk, by its number
pub event_by : (v : GhostState) (d : ℕ) (words : List ℕ) (p : Pending Nothing) (e : Event Nothing) → TableInvariant v → d < v.extent.actors
    → Stands (opening v.extent) words (set v.views d (sees_as (view_in v.views d) p (entry (me (point v d)) e ∷ v.history)))
    (entry (me (point v d)) e ∷ v.history)
    → Stands (opening v.extent) words (set v.views d (sees_as (view_in v.views d) p (entry d e ∷ v.history))) (entry d e ∷ v.history)
event_by v d words p e kept lt stands =
    subst (λ (n : ℕ). Stands (opening v.extent) words (set v.views d (sees_as (view_in v.views d) p (entry n e ∷ v.history))) (entry n e ∷ v.history))
    (named v d kept lt) stands
