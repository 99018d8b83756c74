-- What goes into a cell from a slot, in place of what comes out.
use Rattle.std.proofs.Common.{◌≡◌, ℕ, ◌<◌, true, false, cond, ◌≢◌, List, ◌∷◌, length, set, Some}
use Rattle.std.proofs.Common.{None, Option, sym, refl, ap, ◌∙◌, subst, arith, length-set}
use Rattle.std.proofs.Common.{get_or-set_other, get_or-set_same, set-set}
use Rattle.step_table.proofs.Prelude
use Prelude.{as_word, Block, cell_in, CellWord, Compared, CompareSwap, Empty, Full}
use Prelude.{ghost_after_step, GhostState, Handle, handle, handle_as, handle_in_block, handle_told}
use Prelude.{has_object, Held, held, held_in, HoldsBag, is_of, Kind, kind_in_state, leave_as}
use Prelude.{model_state, NumberedHandle, object_at, OnCell, Owner, plain, pointer_of, same_held}
use Prelude.{Site, Slot, slot_of, slot_pointer, slot_value, Slots, slots_swapped, State, Swap}
use Prelude.{swaps, Weak, without}
use Rattle.std.proofs.lemmas.List.{set_comm}
use Rattle.control_word.specs.declared.model.event.Cell.{Cell as Named}
use Rattle.control_word.specs.declared.model.event.Cell.TheVariants as named
use Rattle.step_table.proofs.contained.Coming.{holds_got, pointer_valid}
use Rattle.step_table.proofs.contained.Told.{kind_is, shows_slot}
use Rattle.step_table.proofs.holding.Owning.{holds_empty, holds_less}
use Rattle.step_table.proofs.tables.Shown.{Found}

-- the hands after one handle came, or went
abbrev came : ℕ → NumberedHandle → List Held → List Held
came d h l = cond (has_object h) (held d h ∷ l) l

abbrev gone : ℕ → NumberedHandle → List Held → List Held
gone d h l = cond (has_object h) (without same_held (held d h) l) l

-- as if the value of slot i had left by itself: no such step is made
record Left (d : ℕ) (slots : Slots) (v : GhostState) (i : ℕ) (k : Kind) : Type 0 where
  ghost_state : GhostState
  holds : HoldsBag d (set slots i plain) ghost_state
  hands : (model_state ghost_state).hands ≡ gone d (handle_as (model_state v) k (as_word (slot_value slots i))) (model_state v).hands
  latest : (model_state ghost_state).latest ≡ (model_state v).latest

left : (d : ℕ) (slots : Slots) (v : GhostState) (i : ℕ) (k : Kind) → HoldsBag d slots v → i < length slots
    → is_of k (slot_value slots i) ≡ true → Left d slots v i k
left d slots v i k holds lt is = go (slot_value slots i) refl is
  where
    full : (x : Handle) (q : Kind) → slot_value slots i ≡ Full x → x.kind ≡ q → q ≡ k → Left d slots v i k
    full x Owner at kind same =
        record {
          ghost_state = ghost_after_step v d (leave_as Owner x false);
          holds = holds_less d slots v (ghost_after_step v d (leave_as Owner x false)) i x holds (ap pointer_of at)
              (ap (λ (t : Kind). without same_held (held d (handle_in_block v t x.block x.place)) (model_state v).hands) (sym kind)) refl;
          hands = ap (λ (t : Kind). gone d (handle_as (model_state v) t (as_word (Full x))) (model_state v).hands) same
              ∙ ap (λ (y : Slot). gone d (handle_as (model_state v) k (as_word y)) (model_state v).hands) (sym at);
          latest = refl;
        }
    full x Weak at kind same =
        record {
          ghost_state = ghost_after_step v d (leave_as Weak x false);
          holds = holds_less d slots v (ghost_after_step v d (leave_as Weak x false)) i x holds (ap pointer_of at)
              (ap (λ (t : Kind). without same_held (held d (handle_in_block v t x.block x.place)) (model_state v).hands) (sym kind)) refl;
          hands = ap (λ (t : Kind). gone d (handle_as (model_state v) t (as_word (Full x))) (model_state v).hands) same
              ∙ ap (λ (y : Slot). gone d (handle_as (model_state v) k (as_word y)) (model_state v).hands) (sym at);
          latest = refl;
        }

    go : (a : Slot) → slot_value slots i ≡ a → is_of k a ≡ true → Left d slots v i k
    go (Empty p) at is =
        record {
          ghost_state = v;
          holds = holds_empty d slots v i None holds lt (ap pointer_of at) tt;
          hands = ap (λ (y : Slot). gone d (handle_as (model_state v) k (as_word y)) (model_state v).hands) (sym at);
          latest = refl;
        }
    go (Full x) at is = full x x.kind at refl (kind_is k x is)

-- the same word tells the same handle, where blocks have the same objects
same_told : (s t : State) (k : Kind) (x : CellWord) → t.latest ≡ s.latest → handle_as t k x ≡ handle_as s k x
same_told s t k x latest = go x.owned
  where
    go : (o : Option Block) → handle k (object_at t o) x.place ≡ handle k (object_at s o) x.place
    go None = refl
    go (Some b) = ap (λ (f : ℕ → ℕ). handle k (Some (f b.0)) x.place) latest

-- what a swap does to hands, whatever the cell
swap_hands : (d : ℕ) (c : Named) (new old : NumberedHandle) (s : State) → (swaps d c new old s).hands ≡ came d old (gone d new s.hands)
swap_hands d (named.Free n) new old s = refl
swap_hands d (named.Member o m) new old s = refl

pub swap_latest : (d : ℕ) (c : Named) (new old : NumberedHandle) (s : State) → (swaps d c new old s).latest ≡ s.latest
swap_latest d (named.Free n) new old s = refl
swap_latest d (named.Member o m) new old s = refl

module _ (d : ℕ) (slots : Slots) (v : GhostState) (i j : ℕ) (c : Site) (x : CellWord) (holds : HoldsBag d slots v) (found : Found v c x)
    (is : is_of (kind_in_state (model_state v) c) (slot_value slots i) ≡ true) (li : i < length slots) (lj : j < length slots)
    (e : slot_pointer (set slots i plain) j ≡ None) where
  -- the value of slot i went, and what the cell held came into slot j
  went : (w : GhostState) → (model_state w).hands
      ≡ (swaps d (cell_in (model_state v) c) (handle_told (model_state v) c (as_word (slot_value slots i))) (handle_told (model_state v) c x)
      (model_state v)).hands
      → (model_state w).latest ≡ (swaps d (cell_in (model_state v) c) (handle_told (model_state v) c (as_word (slot_value slots i)))
      (handle_told (model_state v) c x) (model_state v)).latest
      → HoldsBag d (set (set slots i plain) j (slot_of (model_state v) (held_in (model_state v) c))) w
  went w hands latest =
      let s = model_state v in
      let k = kind_in_state s c in
      let n = cell_in s c in
      let new = handle_told s c (as_word (slot_value slots i)) in
      let old = handle_told s c x in
      let l = left d slots v i k holds li is in
      let u = model_state l.ghost_state in
      let at : (model_state w).hands ≡ came d (handle_as u k x) u.hands =
      hands ∙ swap_hands d n new old s ∙ ap (came d old) (sym l.hands) ∙ ap (λ (h : NumberedHandle). came d h u.hands) (sym (same_told s u k x l.latest)) in
      subst (λ (y : Slot). HoldsBag d (set (set slots i plain) j y) w) (shows_slot v d c x found)
      (holds_got d (set slots i plain) l.ghost_state w j k x l.holds at (latest ∙ swap_latest d n new old s ∙ sym l.latest) (pointer_valid x found.shows.valid)
      (let t = length-set slots i plain in omega (arith, t, lj)) e)

module _ (d : ℕ) (slots : Slots) (v : GhostState) (i : ℕ) (c : Site) (x : CellWord) (holds : HoldsBag d slots v) (found : Found v c x)
    (is : is_of (kind_in_state (model_state v) c) (slot_value slots i) ≡ true) (li : i < length slots) where
  -- into the same slot
  pub holds_exchanged : HoldsBag d (set slots i (slot_of (model_state v) (held_in (model_state v) c)))
      (ghost_after_step v d (OnCell (Swap c (as_word (slot_value slots i)) x)))
  holds_exchanged =
      let w = ghost_after_step v d (OnCell (Swap c (as_word (slot_value slots i)) x)) in
      subst (λ (l : Slots). HoldsBag d l w) (set-set slots i plain (slot_of (model_state v) (held_in (model_state v) c)))
      (went d slots v i i c x holds found is li li (ap pointer_of (get_or-set_same slots i plain plain li)) w refl refl)

  -- into another slot
  module _ (j : ℕ) (lj : j < length slots) (apart : i ≢ j) (e : slot_pointer slots j ≡ None) where
    swapped_by : (w : GhostState)
        → (model_state w).hands ≡ (swaps d (cell_in (model_state v) c) (handle_told (model_state v) c (as_word (slot_value slots i)))
        (handle_told (model_state v) c x) (model_state v)).hands
        → (model_state w).latest
        ≡ (swaps d (cell_in (model_state v) c) (handle_told (model_state v) c (as_word (slot_value slots i))) (handle_told (model_state v) c x)
        (model_state v)).latest
        → HoldsBag d (slots_swapped i j slots (slot_of (model_state v) (held_in (model_state v) c))) w
    swapped_by w hands latest =
        let y = slot_of (model_state v) (held_in (model_state v) c) in
        subst (λ (l : Slots). HoldsBag d l w) (set_comm slots i j plain y apart)
        (went d slots v i j c x holds found is li lj (ap pointer_of (get_or-set_other slots i j plain plain (λ q. apart (sym q))) ∙ e) w hands latest)

    pub holds_swapped : HoldsBag d (slots_swapped i j slots (slot_of (model_state v) (held_in (model_state v) c)))
        (ghost_after_step v d (OnCell (Swap c (as_word (slot_value slots i)) x)))
    holds_swapped = swapped_by (ghost_after_step v d (OnCell (Swap c (as_word (slot_value slots i)) x))) refl refl

    pub holds_compared : (y : Compared) → y.new ≡ as_word (slot_value slots i)
        → HoldsBag d (slots_swapped i j slots (slot_of (model_state v) (held_in (model_state v) c))) (ghost_after_step v d (OnCell (CompareSwap c x y)))
    holds_compared y new = swapped_by (ghost_after_step v d (OnCell (CompareSwap c x y)))
        (ap (λ (q : CellWord). (swaps d (cell_in (model_state v) c) (handle_told (model_state v) c q) (handle_told (model_state v) c x)
        (model_state v)).hands) new)
        (ap (λ (q : CellWord). (swaps d (cell_in (model_state v) c) (handle_told (model_state v) c q) (handle_told (model_state v) c x)
        (model_state v)).latest) new)
