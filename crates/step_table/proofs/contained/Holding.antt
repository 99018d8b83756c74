-- Looks at cells that ask whether they hold what a desk has in hand.
use Rattle.std.proofs.Common.{◌≡◌, ℕ, ◌<◌, Bool, true, Some, None, Option, sym, refl, ap, ◌∙◌}
use Rattle.std.proofs.Common.{subst, ⊎_elim}
use Rattle.step_table.proofs.Prelude
use Prelude.{as_word, Block, cell_in, CellWord, equivalent, Event, event_of, ghost_after_step}
use Prelude.{GhostState, handle, handle_told, Has, HasInHand, held, held_in, Holds, Idle, InHand}
use Prelude.{is_of, IsBusy, IsOpen, IsOpenTo, kind_in_state, look_event, model_state, Nothing}
use Prelude.{NumberedHandle, object_at, object_of_block, OnCell, opening, pending, same_value}
use Prelude.{ShowsCell, Site, Slot, TableInvariant, view_in}
use Rattle.control_word.specs.declared.model.event.Event.TheVariants as event
use Rattle.step_table.specs.Contents.{is_held, same_of}
use Rattle.step_table.proofs.contained.Told.{alike, word_told}
use Rattle.step_table.proofs.tables.Places.{event_by, handle_busy, named as own}
use Rattle.step_table.proofs.tables.Standing.{kept_after, ready}

-- the object of what a desk has in hand is there
hand_busy : (v : GhostState) (d : ℕ) (c : Site) (y : CellWord) → TableInvariant v → HasInHand v d c y → (b : Block) → y.owned ≡ Some b
    → IsBusy (model_state v) (object_of_block v b)
hand_busy v d c y kept hand b e =
    let s = model_state v in
    let k = kind_in_state s c in
    ⊎_elim (λ none. let n : object_at s y.owned ≡ None = none.0 in let t = ap (object_at s) e in cc)
    (λ holds. handle_busy v d k b y.place kept (subst (λ (o : Option Block). Has (held d (handle k (object_at s o) y.place)) s.hands) e holds.0)) hand.1

-- the cell holds it where its word tells the same
pub held_as : (v : GhostState) (d : ℕ) (c : Site) (x y : CellWord) → TableInvariant v → HasInHand v d c y → ShowsCell v c x
    → same_value x y ≡ equivalent (held_in (model_state v) c) (handle_told (model_state v) c y)
held_as v d c x y kept hand shows =
    sym (alike v c x y kept (hand_busy v d c y kept hand))
    ∙ ap (λ (h : NumberedHandle). equivalent h (handle_told (model_state v) c y)) shows.holds

pub kept_holds : (v : GhostState) (d : ℕ) (c : Site) (y : CellWord) (same : Bool) → TableInvariant v → d < v.extent.actors → pending v d ≡ Idle
    → IsOpenTo v d c → HasInHand v d c y → same ≡ equivalent (held_in (model_state v) c) (handle_told (model_state v) c y)
    → TableInvariant (ghost_after_step v d (OnCell (Holds c y same)))
kept_holds v d c y same kept lt idle way hand is =
    let s = model_state v in
    let n = cell_in s c in
    let h = handle_told s c y in
    let m = own v d kept lt in
    let r = ready v d Idle kept lt idle in
    kept_after v d (OnCell (Holds c y same)) kept lt
    (event_by v d v.words Idle (event.Same n h same) kept lt
    (look_event (opening v.extent) v.words v.views v.history kept.stands d (view_in v.views d) r.seated r.awake r.pending 0 None (event.Same n h same) tt
    (subst (λ (i : ℕ). IsOpen s i n) (sym m) way, subst (λ (i : ℕ). InHand s i (kind_in_state s c) h) (sym m) hand, is) tt refl refl))

-- its event, by what a slot has
pub holds_tells : (v : GhostState) (c : Site) (a : Slot) → is_of (kind_in_state (model_state v) c) a ≡ true
    → ◌≡◌ {A = Option (Event Nothing)} (event_of (model_state v) (OnCell (Holds c (as_word a) (is_held (model_state v) c a))))
    (Some (same_of (model_state v) c a))
holds_tells v c a is =
    let s = model_state v in
    ap (λ (h : NumberedHandle). Some (event.Same (cell_in s c) h (is_held s c a))) (word_told s (kind_in_state s c) a is)

-- what a cell holds is compared with a slot's value by the word of that
pub told_held : (v : GhostState) (c : Site) (a : Slot) (w : CellWord) → is_of (kind_in_state (model_state v) c) a ≡ true → w ≡ as_word a
    → equivalent (held_in (model_state v) c) (handle_told (model_state v) c w) ≡ is_held (model_state v) c a
told_held v c a w is e =
    let s = model_state v in
    ap (λ (x : CellWord). equivalent (held_in s c) (handle_told s c x)) e ∙ ap (equivalent (held_in s c)) (word_told s (kind_in_state s c) a is)
