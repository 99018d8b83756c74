-- Take: one more fund of a cell's is taken, by a load or by a compare that differs.
use Rattle.std.proofs.Common.{◌≡◌, ℕ, ◌+◌, ◌<◌, Bool, true, false, ◌≢◌, ◌⊎◌, ◌∷◌, map, get_or, set}
use Rattle.std.proofs.Common.{◌==◌, Some, None, Option, sym, refl, ap, ◌∙◌, subst, inl, inr}
use Rattle.std.proofs.Common.{⊎_elim, arith}
use Rattle.control_block.proofs.Prelude
use Prelude.{AddsFunded, Allows, and_parts, At, block_fits, block_of, blocks_of, Cell, cell_bits}
use Prelude.{cell_of, cell_word, CellWord, Compare, counts_at, either, entry, equivalent, Event}
use Prelude.{field_fits, get_elem?, handle, HasRoomFor, Idle, InHand, IsCellAt, IsCellWord}
use Prelude.{IsWordOf, kind_in, known, leads, Load, none, NumberedHandle, opening_of, owned_fits}
use Prelude.{Paying, Pending, Rests, Ruled, same_number, same_number_true, same_place}
use Prelude.{same_place_true, SeatView, seeing, sees_as, Shape, some, StandsFunded, step, Took, view_of}
use Rattle.atomic_table.specs.Table as Table
use Rattle.control_word.proofs.funded.Cells as law
use Rattle.control_block.specs.CellStepKinds.{took}
use Rattle.control_block.proofs.CellWords.{Decoded, Opened, decoded, found_is, is_open, one_cell}
use Rattle.control_block.proofs.CellWords.{opened}
use Rattle.control_block.proofs.words.Hands.{hand_block, hand_there}
use Rattle.control_block.proofs.Passage.{IsQuiet, adds, plain, point, quiet_next, ready}
use Rattle.control_block.proofs.Passage.{still_room}
use Rattle.control_block.proofs.words.Still.{allows_exchange}
use Rattle.control_word.specs.Limits.{one_taken}
use Rattle.control_word.specs.Limits.{cell_funds}
use Rattle.control_word.specs.Packing.{taken_in}
use Rattle.control_word.proofs.packing.Cells.{cell_taken_in}

-- of a word that shows less than 256 taken a fund is left
left_over : (x : CellWord) → IsCellWord x → x.taken < cell_funds → taken_in (cell_bits x) < cell_funds
left_over x h lt = let t = cell_taken_in x h in omega arith

-- handles that are not of one object and one place are not equivalent
pub not_equivalent : (x y : NumberedHandle) → (x.object ≡ y.object → x.place ≡ y.place → ⊥) → false ≡ equivalent x y
not_equivalent x y apart = go (equivalent x y) refl
  where
    go : (b : Bool) → equivalent x y ≡ b → false ≡ b
    go false e = refl
    go true e =
        let t = and_parts (same_number x.object y.object) (same_place x.place y.place) e in
        absurd (apart (same_number_true x.object y.object t.0) (same_place_true x.place y.place t.1))

module _ {V : Type 0} where
  module _ (k : Shape) (slots id i found : ℕ) (c : Cell) (x : CellWord) (e : NumberedHandle → Event V) (me : At V) (rests : Rests me)
      (cell : IsCellAt me.0 c i) (valid : IsCellWord x) (is_found : found ≡ cell_bits x) (holds : x.owned ≢ None)
      (quiet : (h : NumberedHandle) → IsQuiet (e h))
      (law : (s : Table.State (Option V) (SeatView V)) (r : Ruled k s) (at : get_elem? s.views id ≡ some me.0)
      (is : Opened k s r id me.0 at rests.awake c i) (o : ℕ) → let t = leads (opening_of k) r.history in
      let h = handle (kind_in me.0.shape c) (Some o) x.place in
      h ≡ cell_of t c → get_or s.words i 0 ≡ cell_bits x
      → AddsFunded (point k s r id me.0) (cell_word (point k s r id me.0) c) (get_or s.words (cell_word (point k s r id me.0) c) 0 + one_taken) (e h)
      (Paying (kind_in me.0.shape c) o x.place (counts_at (blocks_of t) (kind_in me.0.shape c) o) 1 1)) where
    taking : (s : Table.State (Option V) (SeatView V)) (r : Ruled k s) (at : get_elem? s.views id ≡ some me.0)
        (is : Opened k s r id me.0 at rests.awake c i) → Decoded k s r id me.0 at rests.awake c i is → get_or s.words i 0 ≡ found
        → (q : Option ℕ) → (cell_of (leads (opening_of k) r.history) c).object ≡ q
        → (w : SeatView V) × Ruled k record { words = set s.words i (found + one_taken); homes = s.homes; views = set s.views id w }
        × Took e (kind_in me.0.shape c) me.0 x w
    taking s r at is d q None bare =
        let t = leads (opening_of k) r.history in let same = found_is k s r id me.0 at rests.awake c i is d x valid (q ∙ is_found) in
        absurd (holds (ap (λ y. y.owned) same ∙ ap (block_of (blocks_of t)) bare))
    taking s r at is d q (Some o) has =
        let v = me.0 in let z = opening_of k in let t = leads z r.history in let old = cell_of t c in let kk = kind_in v.shape c in
        let same = found_is k s r id v at rests.awake c i is d x valid (q ∙ is_found) in
        let h = handle kk (Some o) x.place in
        let it : h ≡ old = λ j. record { kind = sym d.kind j; object = sym has j; place = (same j).place } in
        let p : Pending V = Paying kk o x.place (counts_at (blocks_of t) kk o) 1 1 in let hist = entry v.view.name (e h) ∷ r.history in
        let told = law s r at is o it (q ∙ is_found) in
        let stands = subst (λ n. StandsFunded z (set s.words i (n + one_taken)) (set (map view_of s.views) id (sees_as v.view p hist)) hist) q
        (subst (λ y. StandsFunded z (set s.words y (get_or s.words y 0 + one_taken)) (set (map view_of s.views) id (sees_as v.view p hist)) hist) is.there
        told) in (
          seeing v p None hist,
          quiet_next k s r id v (set s.words i (found + one_taken)) (e h) p at rests.awake rests.empty (quiet h) stands,
          record {
            object = o;
            block = record { 0 = blocks_of t o };
            owned = ap (λ y. y.owned) same ∙ ap (block_of (blocks_of t)) has;
            there = ap (λ y. ((leads (opening_of y) hist).object o).block) (r.shapes id v at rests.awake)
                ∙ (quiet h).blocks t v.view.name o;
            event = adds k s r id v at rests.awake p None (e h) told.stands.legal;
          },
        )

    pub allows_take : Allows (Ruled k) slots id me i (λ n. either (n == found) (found + one_taken) n)
        (took c e (step slots i found (found + one_taken) none) me)
    allows_take =
        allows_exchange k slots id i found (found + one_taken) me (took c e (step slots i found (found + one_taken) none) me)
        (λ s r at q.
        let is = opened k s r id me.0 at rests.awake c i cell in let d = decoded k s r id me.0 at rests.awake c i is in
        (λ m. absurd (q m), λ _. (record { cell = _; valid = d.valid; bits = d.bits }, refl)))
        (λ s r at q.
        let is = opened k s r id me.0 at rests.awake c i cell in let d = decoded k s r id me.0 at rests.awake c i is in
        let t = taking s r at is d q _ refl in (
          t.0,
          t.1,
          (
            λ _ y well bits. (subst (λ y. Took e (kind_in me.0.shape c) me.0 y t.0) (one_cell x y valid well (sym is_found ∙ bits)) t.2, refl),
            λ m. absurd (m refl),
          ),
        ))

  pub allows_load : (k : Shape) (slots id i found : ℕ) (c : Cell) (x : CellWord) (me : At V) → Rests me → IsCellAt me.0 c i → IsCellWord x
      → found ≡ cell_bits x
      → x.owned ≢ None → x.taken < cell_funds → HasRoomFor me.0
      → Allows (Ruled k) slots id me i (λ n. either (n == found) (found + one_taken) n)
      (took c (λ h. Load c h) (step slots i found (found + one_taken) none) me)
  allows_load k slots id i found c x me rests cell valid is_found holds left more =
      allows_take k slots id i found c x (λ h. Load c h) me rests cell valid is_found holds
      (λ h. (plain (λ s d. refl) (λ s d. refl) (λ s f. refl)))
      (λ s r at is o same bits.
      let low = subst (λ y. taken_in (get_or s.words y 0) < cell_funds) (sym is.there)
      (subst (λ n. taken_in n < cell_funds) (sym bits) (left_over x valid left)) in
      (law.takes_funded (point k s r id me.0) c (kind_in me.0.shape c) o x.place (ready k s r id me.0 at rests.awake Idle rests.idle) same
      (still_room k s r id me.0 at rests.awake more) low).0 (is_open k s r id me.0 at rests.awake c i cell))

  pub allows_differ : (k : Shape) (slots id i found : ℕ) (c : Cell) (expected new : NumberedHandle) (weak' : Bool) (x : CellWord) (me : At V) → Rests me
      → IsCellAt me.0 c i → IsCellWord x → found ≡ cell_bits x → x.owned ≢ None → x.taken < cell_funds → HasRoomFor me.0
      → InHand (known me.0) me.0.view.name (kind_in me.0.shape c) expected → InHand (known me.0) me.0.view.name (kind_in me.0.shape c) new
      → (IsWordOf me.0 expected x → ⊥) ⊎ (weak' ≡ true)
      → Allows (Ruled k) slots id me i (λ n. either (n == found) (found + one_taken) n)
      (took c (λ h. Compare c expected new h false weak') (step slots i found (found + one_taken) none) me)
  allows_differ k slots id i found c expected new weak' x me rests cell valid is_found holds left more he hn why =
      allows_take k slots id i found c x (λ h. Compare c expected new h false weak') me rests cell valid is_found holds
      (λ h. (plain (λ s d. refl) (λ s d. refl) (λ s f. refl)))
      (λ s r at is o same bits.
      let v = me.0 in let t = leads (opening_of k) r.history in let kk = kind_in v.shape c in let h = handle kk (Some o) x.place in
      let low = subst (λ y. taken_in (get_or s.words y 0) < cell_funds) (sym is.there)
      (subst (λ n. taken_in n < cell_funds) (sym bits) (left_over x valid left)) in
      let shows = found_is k s r id v at rests.awake c i is (decoded k s r id v at rests.awake c i is) x valid bits in
      let other : (false ≡ equivalent h expected) ⊎ (weak' ≡ true) =
      ⊎_elim (λ n. inl (not_equivalent h expected (λ e p. n (λ j. record {
        owned = (ap (λ y. y.owned) shows ∙ (ap (λ (y : NumberedHandle). block_of (blocks_of t) y.object) (sym same) ∙ (ap (block_of (blocks_of t)) e
            ∙ sym (hand_block k s r id v at rests.awake kk expected he)))) j;
        place = p j;
        taken = x.taken;
      })))) inr why in
      (law.takes_funded (point k s r id v) c kk o x.place (ready k s r id v at rests.awake Idle rests.idle) same
      (still_room k s r id v at rests.awake more) low).1 expected new weak' (
        is_open k s r id v at rests.awake c i cell,
        hand_there k s r id v at rests.awake kk expected he _ is.kind,
        hand_there k s r id v at rests.awake kk new hn _ is.kind,
        same,
        ⊎_elim inl (λ w. inr (w, refl)) other,
      ))
