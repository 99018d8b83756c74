-- What is asked of a slot's value that goes into a cell, by its word.
use Rattle.std.proofs.Common.{◌≡◌, ℕ, ◌<◌, true, length, Some, None, sym, refl, ap, ◌∙◌, subst}
use Rattle.step_table.proofs.Prelude
use Prelude.{as_word, bag_size, block_of_value, CellWord, Empty, Full, GhostState, HasInHand}
use Prelude.{HoldsBag, is_of, IsCellWord, Kind, kind_in_state, model_state, owing_for, owing_funds}
use Prelude.{pending, place_of, pointer_of, Site, Slot, slot_value, Slots, State, TableInvariant}
use Rattle.step_table.proofs.contained.Told.{in_hand, kind_is, word_valid}
use Rattle.step_table.proofs.holding.Owning.{has_room}

owing_word : (s : State) (k : Kind) (a : Slot) (n : ℕ) → is_of k a ≡ true → owing_for s a n ≡ owing_funds s k (block_of_value a) (place_of a) n 0
owing_word s k (Empty p) n is = refl
owing_word s k (Full x) n is = ap (λ (q : Kind). owing_funds s q (Some x.block) x.place n 0) (kind_is k x is)

module _ (d : ℕ) (slots : Slots) (v : GhostState) (i : ℕ) (c : Site) (w : CellWord) (kept : TableInvariant v) (holds : HoldsBag d slots v)
    (is : is_of (kind_in_state (model_state v) c) (slot_value slots i) ≡ true) (e : w ≡ as_word (slot_value slots i)) where
  pub goes_valid : IsCellWord w × (w.taken ≡ 0)
  goes_valid = (subst IsCellWord (sym e) (word_valid d slots v i kept holds), ap (λ (x : CellWord). x.taken) e)

  pub goes_in_hand : HasInHand v d c w
  goes_in_hand = subst (HasInHand v d c) (sym e) (in_hand d slots v i kept holds c is)

  pub goes_paid : pending v d ≡ owing_for (model_state v) (slot_value slots i) 256
      → pending v d ≡ owing_funds (model_state v) (kind_in_state (model_state v) c) w.owned w.place 256 0
  goes_paid owes =
      owes ∙ owing_word (model_state v) (kind_in_state (model_state v) c) (slot_value slots i) 256 is
      ∙ ap (λ (x : CellWord). owing_funds (model_state v) (kind_in_state (model_state v) c) x.owned x.place 256 0) (sym e)

  -- what has no object leaves room in the bag
  pub goes_roomy : d < v.extent.actors → length slots < 35 → i < length slots → w.owned ≡ None
      → bag_size (model_state v) d < (model_state v).allowance d
  goes_roomy lt few inside none = has_room d slots v i kept lt holds few inside (bare (slot_value slots i) (ap (λ (x : CellWord). x.owned) (sym e) ∙ none))
    where
      bare : (a : Slot) → block_of_value a ≡ None → pointer_of a ≡ None
      bare (Empty p) e = refl
      bare (Full x) e = cc
