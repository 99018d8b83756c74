-- The shelf: a look at a word of it, a block that goes there, and one that is taken from it.
use Rattle.std.proofs.Common.{◌≡◌, ℕ, ◌/◌, ◌%◌, ◌^◌, ◌<◌, true, false, not, ◌∷◌, map, get_or, set}
use Rattle.std.proofs.Common.{◌==◌, bit_and, bit_or, None, Option, sym, refl, ap, ◌∙◌, subst}
use Rattle.std.proofs.Common.{⊎_elim, true≢false, arith}
use Rattle.control_block.proofs.Prelude
use Prelude.{Allows, At, bit_at, bit_at-lt, bit_not, bit_of, Block, cases_eq, entry, get_elem?}
use Prelude.{Has, Idle, IsLegal, IsOff, IsShelfWord, IsSo, keeps, known, leads, none, opening_of}
use Prelude.{Rests, Ruled, SeatView, seeing, sees_as, Shape, shelf_at, Shelve, shelved, some}
use Prelude.{StandsFunded, State, step, stored, Unshelve, unshelved, view_of, w64}
use Rattle.atomic_table.specs.Table as Table
use Rattle.control_word.proofs.packing.Bits.{bit_tells}
use Rattle.control_word.proofs.funded.Words as law
use Rattle.control_word.specs.Words.{shelf_spot}
use Rattle.control_block.specs.ShelfStepKinds.{told_shelf}
use Rattle.control_block.proofs.cells.CellRetries.{rested}
use Rattle.control_block.proofs.Passage.{adds, allows_event, knows, plain, point, quiet_next}
use Rattle.control_block.proofs.Passage.{ready, still_stored}
use Rattle.control_block.proofs.words.Still.{moved_on, unmoved}
use Rattle.control_word.specs.Layout.{shelf_words}

pub told_set : (n j a : ℕ) → a ≡ 2 ^ j → not (bit_and n a == 0) ≡ true → bit_at n j ≡ 1
told_set n j a is e =
    ⊎_elim (λ (z : bit_at n j ≡ 0). absurd (true≢false (sym e ∙ (ap (λ y. not (bit_and n y == 0)) is ∙ bit_tells n j false z))))
    (λ ne. let t = bit_at-lt n j in omega arith) (cases_eq (bit_at n j) 0)

pub told_clear : (n j a : ℕ) → a ≡ 2 ^ j → not (bit_and n a == 0) ≡ false → bit_at n j ≡ 0
told_clear n j a is e =
    ⊎_elim (λ z. z)
    (λ ne. let t = bit_at-lt n j in
    let one : bit_at n j ≡ 1 = omega arith in
    absurd (true≢false (sym (bit_tells n j true one) ∙ (ap (λ y. not (bit_and n y == 0)) (sym is) ∙ e)))) (cases_eq (bit_at n j) 0)

module _ {V : Type 0} where
  module _ (k : Shape) (s : Table.State (Option V) (SeatView V)) (r : Ruled k s) (id : ℕ) (v : SeatView V) (at : get_elem? s.views id ≡ some v)
      (awake : v.view.spent ≡ false) where
    -- what is so where all of the history so far leads
    so_now : (is : State → Type 0) → is (leads (opening_of k) r.history) → IsSo v is
    so_now is now =
        let m = knows k s r id v at awake in let shape = sym (r.shapes id v at awake) in
        record {
          between = m.0;
          quiet = m.2;
          legal = subst (λ l. IsLegal (opening_of v.shape) l) m.1 (subst (λ y. IsLegal (opening_of y) r.history) shape r.stands.stands.legal);
          so = subst is (λ j. leads (opening_of (shape j)) (m.1 j)) now;
        }

    -- the word with a block's bit
    there : (i b : ℕ) → i ≡ shelf_at v.shape (b / 64) → shelf_spot (opening_of k) b ≡ i
    there i b e = sym (e ∙ ap (λ y. shelf_at y (b / 64)) (r.shapes id v at awake))

    shown : (i : ℕ) (b : ℕ) → i ≡ shelf_at v.shape (b / 64) → b / 64 < shelf_words v.shape.blocks
        → bit_at (get_or s.words i 0) (b % 64) ≡ Rattle.control_word.specs.State.on_shelf (leads (opening_of k) r.history) b
    shown i b e low =
        ap (λ y. bit_at (get_or s.words y 0) (b % 64)) (sym (there i b e))
        ∙ law.shelf_shows_funded (point k s r id v) v.view.pending b (ready k s r id v at awake v.view.pending refl)
        (let same = ap (λ (y : Shape). shelf_words y.blocks) (r.shapes id v at awake) in omega arith)

  pub allows_shelf_look : (k : Shape) (slots id i j : ℕ) (me : At V) → Rests me → i ≡ shelf_at me.0.shape j
      → j < shelf_words me.0.shape.blocks
      → Allows (Ruled k) slots id me i (λ n. n) (told_shelf j (step slots i 0 0 none) me)
  allows_shelf_look k slots id i j me rests e low s r sized at small =
      let v = me.0 in (
        v,
        keeps,
        tt,
        unmoved k s id i v r at,
        (
          refl,
          so_now k s r id v at rests.awake (IsShelfWord j (get_or s.words i 0))
              (λ b q. shown k s r id v at rests.awake i b (e ∙ ap (shelf_at v.shape) (sym q)) (omega arith)),
        ),
      )

  pub allows_shelve : (k : Shape) (slots id i a : ℕ) (b : Block) (me : At V) → Rests me → i ≡ shelf_at me.0.shape (b.0 / 64) → a ≡ bit_of b.0
      → Has (stored me.0.view.name b.0) (known me.0).stores
      → Allows (Ruled k) slots id me i (λ n. bit_or n a) (shelved b (step slots i a 0 none) me)
  allows_shelve k slots id i a b me rests e is mine =
      allows_event k slots id i me (λ n. bit_or n a) (λ n. Shelve b) Idle rests.awake rests.empty
      (λ n. plain (λ s d. refl) (λ s d. refl) (λ s f. refl))
      (λ s r at small.
      let v = me.0 in let h = entry v.view.name (Shelve b) ∷ r.history in
      subst (λ (y : ℕ × ℕ). StandsFunded (opening_of k) (set s.words y.0 (bit_or (get_or s.words y.0 0) y.1))
      (set (map view_of s.views) id (sees_as v.view Idle h)) h)
      (λ j. (there k s r id v at rests.awake i b.0 e j, sym is j))
      (law.shelves_funded (point k s r id v) b (ready k s r id v at rests.awake Idle rests.idle)
      (still_stored k s r id v at rests.awake (stored v.view.name b.0) refl mine)))

  -- a bit is cleared, by what it was
  module _ (k : Shape) (slots id i a : ℕ) (b : Block) (me : At V) (rests : Rests me) (e : i ≡ shelf_at me.0.shape (b.0 / 64))
      (is : a ≡ bit_not w64 (bit_of b.0)) (low : b.0 / 64 < shelf_words me.0.shape.blocks) (s : Table.State (Option V) (SeatView V)) (r : Ruled k s)
      (at : get_elem? s.views id ≡ some me.0) where
    low_here : b.0 / 64 < shelf_words k.blocks
    low_here = let same = ap (λ (y : Shape). shelf_words y.blocks) (r.shapes id me.0 at rests.awake) in omega arith

    abbrev Cleared : Type 0
    Cleared = (w : SeatView V) × Ruled k record { words = set s.words i (bit_and (get_or s.words i 0) a); homes = s.homes; views = set s.views id w }
        × unshelved b (step slots i a 0 none) me (get_or s.words i 0) (w, me.1)

    was_set : bit_at (get_or s.words i 0) (b.0 % 64) ≡ 1 → Cleared
    was_set one =
        let v = me.0 in let h = entry v.view.name (Unshelve b) ∷ r.history in
        let here = there k s r id v at rests.awake i b.0 e in
        let now = (law.unshelves_funded (point k s r id v) b (ready k s r id v at rests.awake Idle rests.idle) (low_here)).0
        (ap (λ y. bit_at (get_or s.words y 0) (b.0 % 64)) here ∙ one) in
        let stands = subst (λ (y : ℕ × ℕ). StandsFunded (opening_of k) (set s.words y.0 (bit_and (get_or s.words y.0 0) y.1))
        (set (map view_of s.views) id (sees_as v.view Idle h)) h) (λ j. (here j, sym is j)) now in (
          seeing v Idle None h,
          quiet_next k s r id v _ (Unshelve b) Idle at rests.awake rests.empty (plain (λ t d. refl) (λ t d. refl) (λ t f. refl)) stands,
          (
            (λ _. (adds k s r id v at rests.awake Idle None (Unshelve b) now.stands.legal, refl)),
            (λ (zero : bit_at (get_or s.words i 0) (b.0 % 64) ≡ 0). let no : ⊥ = omega (arith, one, zero) in absurd no),
          ),
        )

    was_clear : bit_at (get_or s.words i 0) (b.0 % 64) ≡ 0 → Cleared
    was_clear none' =
        let v = me.0 in
        let here = there k s r id v at rests.awake i b.0 e in
        let now = (law.unshelves_funded (point k s r id v) b (ready k s r id v at rests.awake Idle rests.idle) (low_here)).1
        (ap (λ y. bit_at (get_or s.words y 0) (b.0 % 64)) here ∙ none') in
        let stands = subst (λ (y : ℕ × ℕ). StandsFunded (opening_of k) (set s.words y.0 (bit_and (get_or s.words y.0 0) y.1))
        (set (map view_of s.views) id (sees_as v.view Idle r.history)) r.history) (λ j. (here j, sym is j)) now in (
          v,
          subst (λ (u : SeatView V). Ruled k record { words = set s.words i (bit_and (get_or s.words i 0) a); homes = s.homes; views = set s.views id u })
              (rested me rests)
              (moved_on k s r id v _ Idle at rests.awake rests.empty record { single = λ d q. q; both = λ d seen. tt } stands),
          (
            (λ (one : bit_at (get_or s.words i 0) (b.0 % 64) ≡ 1). let no : ⊥ = omega (arith, one, none') in absurd no),
            (λ _. (refl, so_now k s r id v at rests.awake (IsOff b.0) (sym (shown k s r id v at rests.awake i b.0 e low) ∙ none'))),
          ),
        )

    cleared : Cleared
    cleared =
        ⊎_elim was_clear (λ n. was_set (let t = bit_at-lt (get_or s.words i 0) (b.0 % 64) in omega arith))
        (cases_eq (bit_at (get_or s.words i 0) (b.0 % 64)) 0)

  pub allows_unshelve : (k : Shape) (slots id i a : ℕ) (b : Block) (me : At V) → Rests me → i ≡ shelf_at me.0.shape (b.0 / 64)
      → a ≡ bit_not w64 (bit_of b.0) → b.0 / 64 < shelf_words me.0.shape.blocks
      → Allows (Ruled k) slots id me i (λ n. bit_and n a) (unshelved b (step slots i a 0 none) me)
  allows_unshelve k slots id i a b me rests e is low s r sized at small =
      let t = cleared k slots id i a b me rests e is low s r at in (t.0, keeps, tt, t.1, t.2)

  -- the slots in hand stay as they are
  pub seats_kept : (b : Block) (m m' : At V) (n : ℕ) → unshelved b (step 0 0 0 0 none) m n m' → m'.1 ≡ m.1
  seats_kept b m m' n t =
      ⊎_elim (λ z. ap (λ (y : At V). y.1) (t.1 z).0) (λ ne. (t.0 (let l = bit_at-lt n (b.0 % 64) in omega arith)).1)
      (cases_eq (bit_at n (b.0 % 64)) 0)
