-- The events of steps on cells, by what cells hold and slots have.
use Rattle.std.proofs.Common.{◌≡◌, ℕ, Bool, true, false, Some, None, Option, sym, ap, ◌∙◌}
use Rattle.step_table.proofs.Prelude
use Prelude.{as_word, cell_in, CellWord, compared_in, CompareSwap, Comparing, equivalent, Event}
use Prelude.{event_of, GhostState, handle_told, held_in, HoldsBag, is_of, kind_in_state, Look}
use Prelude.{model_state, named_handle, Nothing, NumberedHandle, OnCell, same_value, Site, Slot}
use Prelude.{slot_value, Slots, Swap, TableInvariant, Take}
use Rattle.control_word.specs.declared.model.event.Event.TheVariants as event
use Rattle.step_table.specs.Contents.{compare_of, load_of, swap_of}
use Rattle.step_table.proofs.contained.Told.{alike_told, word_told}
use Rattle.step_table.proofs.tables.Shown.{Found}

module _ (v : GhostState) (c : Site) (x : CellWord) (found : Found v c x) where
  pub take_tells : ◌≡◌ {A = Option (Event Nothing)} (event_of (model_state v) (OnCell (Take c x None))) (Some (load_of (model_state v) c))
  take_tells = ap (λ (h : NumberedHandle). Some (event.Load (cell_in (model_state v) c) h)) found.shows.holds

  pub look_tells : ◌≡◌ {A = Option (Event Nothing)} (event_of (model_state v) (OnCell (Look c x None))) (Some (load_of (model_state v) c))
  look_tells = ap (λ (h : NumberedHandle). Some (event.Load (cell_in (model_state v) c) h)) found.shows.holds

  pub swap_tells : (a : Slot) → is_of (kind_in_state (model_state v) c) a ≡ true
      → ◌≡◌ {A = Option (Event Nothing)} (event_of (model_state v) (OnCell (Swap c (as_word a) x))) (Some (swap_of (model_state v) c a))
  swap_tells a is =
      let s = model_state v in
      ap (λ (h : NumberedHandle). Some (event.Swap (cell_in s c) (handle_told s c (as_word a)) h)) found.shows.holds
      ∙ ap (λ (h : NumberedHandle). Some (event.Swap (cell_in s c) h (held_in s c))) (word_told s (kind_in_state s c) a is)

  module _ (d : ℕ) (slots : Slots) (y : Comparing) (kept : TableInvariant v) (holds : HoldsBag d slots v)
      (expected : is_of (kind_in_state (model_state v) c) (slot_value slots y.expected) ≡ true)
      (new : is_of (kind_in_state (model_state v) c) (slot_value slots y.new) ≡ true) where
    -- a compare, with what it finds
    compared : (b : Bool) → same_value x (as_word (slot_value slots y.expected)) ≡ b
        → ◌≡◌ {A = Option (Event Nothing)}
        (let q = compared_in slots y in
        Some (event.Compare (cell_in (model_state v) c) (handle_told (model_state v) c q.expected) (handle_told (model_state v) c q.new)
        (handle_told (model_state v) c x) b y.weak))
        (Some (compare_of (model_state v) c (slot_value slots y.expected) (slot_value slots y.new) y.weak))
    compared b same =
        let s = model_state v in
        let n = cell_in s c in
        let k = kind_in_state s c in
        let e = named_handle s k (slot_value slots y.expected) in
        let w = named_handle s k (slot_value slots y.new) in
        let q = compared_in slots y in
        let t : b ≡ equivalent (held_in s c) e =
        sym same ∙ alike_told d slots v y.expected kept holds c x expected ∙ ap (λ (h : NumberedHandle). equivalent h e) found.shows.holds in
        ap (λ (h : NumberedHandle). Some (event.Compare n h (handle_told s c q.new) (handle_told s c x) b y.weak))
        (word_told s k (slot_value slots y.expected) expected)
        ∙ ap (λ (h : NumberedHandle). Some (event.Compare n e h (handle_told s c x) b y.weak)) (word_told s k (slot_value slots y.new) new)
        ∙ ap (λ (h : NumberedHandle). Some (event.Compare n e w h b y.weak)) found.shows.holds
        ∙ ap (λ (r : Bool). Some (event.Compare n e w (held_in s c) r y.weak)) t

    pub compare_swap_tells : same_value x (as_word (slot_value slots y.expected)) ≡ true
        → ◌≡◌ {A = Option (Event Nothing)} (event_of (model_state v) (OnCell (CompareSwap c x (compared_in slots y))))
        (Some (compare_of (model_state v) c (slot_value slots y.expected) (slot_value slots y.new) y.weak))
    compare_swap_tells same = compared true same

    pub differing_tells : same_value x (as_word (slot_value slots y.expected)) ≡ false
        → ◌≡◌ {A = Option (Event Nothing)} (event_of (model_state v) (OnCell (Take c x (Some (compared_in slots y)))))
        (Some (compare_of (model_state v) c (slot_value slots y.expected) (slot_value slots y.new) y.weak))
    differing_tells same = compared false same

    pub unlike_tells : same_value x (as_word (slot_value slots y.expected)) ≡ false
        → ◌≡◌ {A = Option (Event Nothing)} (event_of (model_state v) (OnCell (Look c x (Some (compared_in slots y)))))
        (Some (compare_of (model_state v) c (slot_value slots y.expected) (slot_value slots y.new) y.weak))
    unlike_tells same = compared false same
