-- Swap: the new handle with its funds goes into a cell, and what the cell held comes out.
use Rattle.std.proofs.Common.{◌≡◌, ℕ, ◌-◌, false, ◌∷◌, map, get_or, set, None, Option, sym, refl}
use Rattle.std.proofs.Common.{ap, ◌∙◌, subst, arith}
use Rattle.control_block.proofs.Prelude
use Prelude.{AddsFunded, Allows, At, blocks_of, Cell, cell_bits, cell_of, cell_shown, cell_word}
use Prelude.{CellWord, debt, entry, Event, fun_ext, Gave, get_elem?, HasRoomFor, InHand, IsCellAt}
use Prelude.{IsWordOf, keeps, kind_in, known, leads, none, NumberedHandle, opening_of, Rests}
use Prelude.{drawn, Idle, Ruled, SeatView, seeing, sees_as, Shape, shown, some, StandsFunded, step, Swap}
use Prelude.{view_of}
use Rattle.atomic_table.specs.Table as Table
use Rattle.control_word.proofs.funded.Cells as law
use Rattle.control_word.specs.Words.{packed}
use Rattle.control_block.specs.CellStepKinds.{swapped}
use Rattle.control_block.proofs.CellWords.{Decoded, Opened, decoded, found_is, is_open, opened}
use Rattle.control_block.proofs.words.Hands.{debt_drawn, hand_block, hand_there, room_swapped}
use Rattle.control_block.proofs.Passage.{IsQuiet, adds, point, quiet_next, quiet_swap, ready}
use Rattle.control_word.specs.Limits.{cell_funds}

module _ {V : Type 0} where
  module _ (k : Shape) (s : Table.State (Option V) (SeatView V)) (r : Ruled k s) (id : ℕ) (v : SeatView V) (at : get_elem? s.views id ≡ some v)
      (awake : v.view.spent ≡ false) (new : NumberedHandle) (y : CellWord) (is_new : IsWordOf v new y) (full : y.taken ≡ 0)
      (hand : InHand (known v) v.view.name new.kind new) where
    -- the word of what goes in shows it
    shows_new : y ≡ shown (blocks_of (leads (opening_of k) r.history)) new 0
    shows_new =
        let e = is_new in let b = hand_block k s r id v at awake new.kind new hand in
        λ j. record { owned = ((ap (λ x. x.owned) e) ∙ b) j; place = (e j).place; taken = full j }

    -- and is its packing
    pub packs_new : cell_bits y ≡ packed (blocks_of (leads (opening_of k) r.history)) new
    packs_new =
        let t = leads (opening_of k) r.history in let a = cell_shown (blocks_of t) new 0 in let b = ap cell_bits shows_new in omega arith

  module _ (k : Shape) (s : Table.State (Option V) (SeatView V)) (r : Ruled k s) (id i : ℕ) (c : Cell) (v : SeatView V) (at : get_elem? s.views id ≡ some v)
      (awake : v.view.spent ≡ false) (free : v.hand ≡ None) (e : NumberedHandle → Event V) (quiet : (h : NumberedHandle) → IsQuiet (e h))
      (is : Opened k s r id v at awake c i) (d : Decoded k s r id v at awake c i is) (n : ℕ) where
    -- what a swap gives, by the law of its kind
    pub gives : (x : CellWord) → let t = leads (opening_of k) r.history in let old = cell_of t c in x ≡ shown (blocks_of t) old d.taken
        → AddsFunded (point k s r id v) (cell_word (point k s r id v) c) n (e old) (drawn (blocks_of t) old (cell_funds - d.taken))
        → (w : SeatView V) × Ruled k record { words = set s.words i n; homes = s.homes; views = set s.views id w } × Gave e (kind_in v.shape c) v x w
    gives x same told =
        let z = opening_of k in let t = leads z r.history in let old = cell_of t c in let p = drawn (blocks_of t) old (cell_funds - d.taken) in
        let hist = entry v.view.name (e old) ∷ r.history in let w = seeing v p None hist in
        let owed : debt old x.owned (cell_funds - x.taken) ≡ p = ap (λ y. debt old y.owned (cell_funds - y.taken)) same
        ∙ debt_drawn (blocks_of t) old (cell_funds - d.taken) in
        let blocks : blocks_of (known w) ≡ blocks_of t =
        ap (λ y. blocks_of (leads (opening_of y) hist)) (r.shapes id v at awake) ∙ fun_ext (λ o. (quiet old).blocks t v.view.name o) in
        let stands = subst (λ y. StandsFunded z (set s.words y n) (set (map view_of s.views) id (sees_as v.view p hist)) hist) is.there told in (
          w,
          quiet_next k s r id v (set s.words i n) (e old) p at awake free (quiet old) stands,
          record {
            old = old;
            kind = d.kind;
            shows = same ∙ (λ j. shown (sym blocks j) old (sym (ap (λ y. y.taken) same) j));
            event = subst (λ q. Rattle.control_block.specs.StepKinds.Added v q None (e old) w) (sym owed) (adds k s r id v at awake p None (e old)
                told.stands.legal);
          },
        )

  pub allows_swap : (k : Shape) (slots id i n : ℕ) (c : Cell) (new : NumberedHandle) (y : CellWord) (me : At V) → Rests me
      → IsCellAt me.0 c i → IsWordOf me.0 new y → y.taken ≡ 0 → InHand (known me.0) me.0.view.name (kind_in me.0.shape c) new
      → (new.object ≡ None → HasRoomFor me.0) → n ≡ cell_bits y
      → Allows (Ruled k) slots id me i (λ _. n) (swapped c (λ h. Swap c new h) (step slots i n 0 none) me)
  allows_swap k slots id i n c new y me rests cell is_new full hand more bits s r sized at small =
      let v = me.0 in let z = opening_of k in let t = leads z r.history in
      let is = opened k s r id v at rests.awake c i cell in let d = decoded k s r id v at rests.awake c i is in
      let kind : new.kind ≡ kind_in v.shape c = hand.0 in
      let own : InHand (known v) v.view.name new.kind new = subst (λ m. InHand (known v) v.view.name m new) (sym kind) hand in
      let x = shown (blocks_of t) (cell_of t c) d.taken in
      let told = law.swaps_funded (point k s r id v) c new (ready k s r id v at rests.awake Idle rests.idle)
      (is_open k s r id v at rests.awake c i cell, hand_there k s r id v at rests.awake (kind_in v.shape c) new hand _ is.kind, refl)
      (room_swapped k s r id v at rests.awake (kind_in v.shape c) new hand (cell_of t c) c more) d.taken
      (ap (λ j. get_or s.words j 0) is.there ∙ (d.bits ∙ sym (cell_shown (blocks_of t) (cell_of t c) d.taken))) in
      let g = gives k s r id i c v at rests.awake rests.empty (λ h. Swap c new h)
      (λ h. quiet_swap c new h) is d n x refl
      (subst (λ m. AddsFunded (point k s r id v) (cell_word (point k s r id v) c) m (Swap c new (cell_of t c))
      (drawn (blocks_of t) (cell_of t c) (cell_funds - d.taken)))
      (sym (bits ∙ packs_new k s r id v at rests.awake new y is_new full own)) told) in (
        g.0,
        keeps,
        tt,
        g.1,
        (
          record { cell = x; valid = d.valid; bits = d.bits },
          λ b valid is_b. (
            subst (λ a. Gave (λ h. Swap c new h) (kind_in v.shape c) v a g.0) (sym (found_is k s r id v at rests.awake c i is d b valid is_b)) g.2,
            refl,
          ),
        ),
      )
