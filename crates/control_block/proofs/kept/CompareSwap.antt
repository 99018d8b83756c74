-- Compare and swap: where the cell holds what is expected, the new handle goes in.
use Rattle.std.proofs.Common.{◌≡◌, ℕ, ◌-◌, Bool, true, false, get_or, ◌==◌, None, Option, sym}
use Rattle.std.proofs.Common.{refl, ap, ◌∙◌, subst, inl}
use Rattle.control_block.proofs.Prelude
use Prelude.{AddsFunded, Allows, At, blocks_of, Cell, cell_bits, cell_of, cell_shown, cell_word}
use Prelude.{CellWord, Compare, either, equivalent, Gave, get_elem?, handle, HasRoomFor}
use Prelude.{InHand, IsCellAt, IsCellWord, IsWordOf, kind_in, known, leads, none, NumberedHandle}
use Prelude.{drawn, Idle, opening_of, Rests, Ruled, SeatView, Shape, shown, some, step}
use Rattle.atomic_table.specs.Table as Table
use Rattle.control_word.proofs.history.Orders.{equivalence}
use Rattle.control_word.proofs.funded.Cells as law
use Rattle.control_block.specs.CellStepKinds.{compare_swapped}
use Rattle.control_block.proofs.CellWords.{Opened, cell_keeps, decoded, found_is, is_open}
use Rattle.control_block.proofs.CellWords.{one_cell, opened}
use Rattle.control_block.proofs.words.Hands.{hand_block, hand_there, room_swapped, same_object}
use Rattle.control_block.proofs.Passage.{point, quiet_compare, ready}
use Rattle.control_block.proofs.words.Still.{allows_exchange}
use Rattle.control_block.proofs.kept.Swap.{gives, packs_new}
use Rattle.control_word.specs.Limits.{cell_funds}

-- handles with one object and one place are equivalent
pub equivalent_to : (x y : NumberedHandle) → x.object ≡ y.object → x.place ≡ y.place → equivalent x y ≡ true
equivalent_to x y e p =
    subst (λ n. equivalent x (handle y.kind n y.place) ≡ true) e (subst (λ n. equivalent x (handle y.kind x.object n) ≡ true) p (equivalence.0 x))

module _ {V : Type 0} where
  -- a cell that shows what is expected holds an equivalent of it
  pub is_expected : (k : Shape) (s : Table.State (Option V) (SeatView V)) (r : Ruled k s) (id : ℕ) (v : SeatView V) (at : get_elem? s.views id ≡ some v)
      (awake : v.view.spent ≡ false) (c : Cell) (i : ℕ) (is : Opened k s r id v at awake c i)
      (expected : NumberedHandle) → InHand (known v) v.view.name expected.kind expected
      → (x : CellWord) (n : ℕ) → x ≡ shown (blocks_of (leads (opening_of k) r.history)) (cell_of (leads (opening_of k) r.history) c) n
      → IsWordOf v expected x → equivalent (cell_of (leads (opening_of k) r.history) c) expected ≡ true
  is_expected k s r id v at awake c i is expected hand x n same shows =
      let t = leads (opening_of k) r.history in let old = cell_of t c in
      let place = sym (ap (λ y. y.place) same) ∙ ap (λ y. y.place) shows in
      let block = sym (ap (λ y. y.owned) same) ∙ (ap (λ y. y.owned) shows ∙ hand_block k s r id v at awake expected.kind expected hand) in
      equivalent_to old expected
      (same_object k s r id v at awake expected.kind expected hand old.object (cell_keeps k s r id v at awake c i is) block) place

  pub allows_compare_swap : (k : Shape) (slots id i found n : ℕ) (c : Cell) (expected new : NumberedHandle) (weak' : Bool) (x y : CellWord) (me : At V)
      → Rests me
      → IsCellAt me.0 c i → IsCellWord x → found ≡ cell_bits x → IsWordOf me.0 expected x
      → InHand (known me.0) me.0.view.name (kind_in me.0.shape c) expected → IsWordOf me.0 new y → y.taken ≡ 0
      → InHand (known me.0) me.0.view.name (kind_in me.0.shape c) new → (new.object ≡ None → HasRoomFor me.0) → n ≡ cell_bits y
      → Allows (Ruled k) slots id me i (λ m. either (m == found) n m)
      (compare_swapped c (λ h. Compare c expected new h true weak') (step slots i found n none) me)
  allows_compare_swap k slots id i found n c expected new weak' x y me rests cell valid is_found shows he is_new full hand more bits =
      allows_exchange k slots id i found n me (compare_swapped c (λ h. Compare c expected new h true weak') (step slots i found n none) me)
      (λ s r at q. (λ a. absurd (q a), λ _. refl))
      (λ s r at q.
      let v = me.0 in let z = opening_of k in let t = leads z r.history in let old = cell_of t c in
      let is = opened k s r id v at rests.awake c i cell in let d = decoded k s r id v at rests.awake c i is in
      let same = found_is k s r id v at rests.awake c i is d x valid (q ∙ is_found) in
      let own : InHand (known v) v.view.name new.kind new = subst (λ m. InHand (known v) v.view.name m new) (sym hand.0) hand in
      let mine : InHand (known v) v.view.name expected.kind expected = subst (λ m. InHand (known v) v.view.name m expected) (sym he.0) he in
      let alike = is_expected k s r id v at rests.awake c i is expected mine x d.taken same shows in
      let told = law.compare_swaps_funded (point k s r id v) c expected new weak' (ready k s r id v at rests.awake Idle rests.idle) alike (
        is_open k s r id v at rests.awake c i cell,
        hand_there k s r id v at rests.awake (kind_in v.shape c) expected he _ is.kind,
        hand_there k s r id v at rests.awake (kind_in v.shape c) new hand _ is.kind,
        refl,
        inl (sym alike),
      )
      (room_swapped k s r id v at rests.awake (kind_in v.shape c) new hand old c more) d.taken
      (ap (λ j. get_or s.words j 0) is.there ∙ (d.bits ∙ sym (cell_shown (blocks_of t) old d.taken))) in
      let g = gives k s r id i c v at rests.awake rests.empty (λ h. Compare c expected new h true weak')
      (λ h. quiet_compare c expected new h true weak') is d n x same
      (subst (λ m. AddsFunded (point k s r id v) (cell_word (point k s r id v) c) m (Compare c expected new old true weak')
      (drawn (blocks_of t) old (cell_funds - d.taken)))
      (sym (bits ∙ packs_new k s r id v at rests.awake new y is_new full own)) told) in (
        g.0,
        g.1,
        (
          λ _ b well is_b. (
            subst (λ a. Gave (λ h. Compare c expected new h true weak') (kind_in v.shape c) v a g.0)
                (one_cell x b valid well (sym is_found ∙ is_b)) g.2,
            refl,
          ),
          λ m. absurd (m refl),
        ),
      ))
