-- Looks at a cell: without an event, or as the load or the compare of a cell without an object.
use Rattle.std.proofs.Common.{◌≡◌, ℕ, false, ◌≢◌, ◌∷◌, ◌++◌, get_or, set, Some, None, Option, sym}
use Rattle.std.proofs.Common.{refl, ap, ◌∙◌, subst}
use Rattle.control_block.proofs.Prelude
use Prelude.{Allows, At, Block, block_of, blocks_of, Cell, cell_of, CellWord, entry, Event}
use Prelude.{get_elem?, handle, Idle, IsCellAt, IsLegal, keeps, kind_in, leads, Load, none}
use Prelude.{NumberedHandle, opening_of, Rests, Ruled, SeatView, seeing, Shape, shown, some, step}
use Rattle.atomic_table.specs.Table as Table
use Rattle.control_word.proofs.funded.Looks as law
use Rattle.control_block.specs.CellStepKinds.{IsHeld, as_loaded, as_peeked, loaded_empty, of_cell}
use Rattle.control_block.specs.CellStepKinds.{cell_peeked}
use Rattle.control_block.proofs.CellWords.{Decoded, Opened, decoded, found_is, is_open, opened}
use Rattle.control_block.proofs.Passage.{adds, knows, plain, point, quiet_next, ready}
use Rattle.control_block.proofs.words.Still.{unmoved}
use Rattle.control_block.proofs.kept.Look.{looked}

-- a word that shows an object isn't one that shows none
pub shows_one : (block : ℕ → ℕ) (h : NumberedHandle) (o t : ℕ) → h.object ≡ Some o → (shown block h t).owned ≡ None → ⊥
shows_one block h o t e n = some_none (ap (block_of block) (sym e) ∙ n)
  where
    some_none : {b : Block} → Some b ≡ None → ⊥
    some_none e = cc

module _ {V : Type 0} where
  -- what a cell shows is what it holds, in the state that the history leads to
  pub is_held : (k : Shape) (s : Table.State (Option V) (SeatView V)) (r : Ruled k s) (id : ℕ) (v : SeatView V) (at : get_elem? s.views id ≡ some v)
      (awake : v.view.spent ≡ false) (c : Cell) (taken : ℕ) → let t = leads (opening_of k) r.history in
      IsHeld c v (shown (blocks_of t) (cell_of t c) taken)
  is_held k s r id v at awake c taken =
      let m = knows k s r id v at awake in let shape = sym (r.shapes id v at awake) in
      let same : leads (opening_of k) r.history ≡ leads (opening_of v.shape) (m.0 ++ v.view.seen) =
      λ j. leads (opening_of (shape j)) (m.1 j) in
      record {
        between = m.0;
        quiet = m.2;
        legal = subst (λ l. IsLegal (opening_of v.shape) l) m.1 (subst (λ y. IsLegal (opening_of y) r.history) shape r.stands.stands.legal);
        shows = ap (λ t. shown (blocks_of t) (cell_of t c) taken) same;
      }

  -- a look at a cell, by what the cell shows
  pub allows_cell_look : (k : Shape) (slots id i : ℕ) (c : Cell) (me : At V) (told : CellWord → At V → Type 0) (awake : me.0.view.spent ≡ false)
      → IsCellAt me.0 c i
      → ((s : Table.State (Option V) (SeatView V)) (r : Ruled k s) (at : get_elem? s.views id ≡ some me.0) (is : Opened k s r id me.0 at awake c i)
      (d : Decoded k s r id me.0 at awake c i is) → let t = leads (opening_of k) r.history in
      (w : SeatView V) × Ruled k record { words = set s.words i (get_or s.words i 0); homes = s.homes; views = set s.views id w }
      × told (shown (blocks_of t) (cell_of t c) d.taken) (w, me.1))
      → Allows (Ruled k) slots id me i (λ n. n) (λ n after. of_cell (λ x. told x after) n)
  allows_cell_look k slots id i c me told awake cell law s r sized at small =
      let v = me.0 in let is = opened k s r id v at awake c i cell in let d = decoded k s r id v at awake c i is in let t = law s r at is d in (
        t.0,
        keeps,
        tt,
        t.1,
        (
          record { cell = _; valid = d.valid; bits = d.bits },
          λ x valid bits. subst (λ y. told y (t.0, me.1)) (sym (found_is k s r id v at awake c i is d x valid bits)) t.2,
        ),
      )

  pub allows_peek : (k : Shape) (slots id i : ℕ) (c : Cell) (me : At V) → me.0.view.spent ≡ false → IsCellAt me.0 c i
      → Allows (Ruled k) slots id me i (λ n. n) (cell_peeked c (step slots i 0 0 none) me)
  allows_peek k slots id i c me awake cell =
      allows_cell_look k slots id i c me (as_peeked c me) awake cell
      (λ s r at is d. (me.0, unmoved k s id i me.0 r at, (is_held k s r id me.0 at awake c d.taken, refl)))

  pub allows_load_empty : (k : Shape) (slots id i : ℕ) (c : Cell) (me : At V) → Rests me → IsCellAt me.0 c i
      → Allows (Ruled k) slots id me i (λ n. n) (loaded_empty c (step slots i 0 0 none) me)
  allows_load_empty k slots id i c me rests cell =
      allows_cell_look k slots id i c me (as_loaded c me) rests.awake cell (λ s r at is d. go s r at is d _ refl)
    where
      go : (s : Table.State (Option V) (SeatView V)) (r : Ruled k s) (at : get_elem? s.views id ≡ some me.0) (is : Opened k s r id me.0 at rests.awake c i)
          (d : Decoded k s r id me.0 at rests.awake c i is) (q : Option ℕ) → (cell_of (leads (opening_of k) r.history) c).object ≡ q
          → let t = leads (opening_of k) r.history in
          (w : SeatView V) × Ruled k record { words = set s.words i (get_or s.words i 0); homes = s.homes; views = set s.views id w }
          × as_loaded c me (shown (blocks_of t) (cell_of t c) d.taken) (w, me.1)
      go s r at is d (Some o) e =
          let t = leads (opening_of k) r.history in (
            me.0,
            unmoved k s id i me.0 r at,
            (is_held k s r id me.0 at rests.awake c d.taken, λ n. absurd (shows_one (blocks_of t) (cell_of t c) o d.taken e n), λ _. refl),
          )
      go s r at is d None e =
          let v = me.0 in let z = opening_of k in let t = leads z r.history in let h = cell_of t c in let kk = kind_in v.shape c in
          let same : handle kk None h.place ≡ h = λ j. record { kind = sym d.kind j; object = sym e j; place = h.place } in
          let ev : Event V = Load c (handle kk None h.place) in let hist = entry v.view.name ev ∷ r.history in
          let told = law.loads_empty_funded (point k s r id v) c kk h.place (ready k s r id v at rests.awake Idle rests.idle)
          (is_open k s r id v at rests.awake c i cell) same in (
            seeing v Idle None hist,
            quiet_next k s r id v (set s.words i (get_or s.words i 0)) ev Idle at rests.awake rests.empty
                (plain (λ u q. refl) (λ u q. refl) (λ u f. refl)) (looked z s.words i _ hist told),
            (
              is_held k s r id v at rests.awake c d.taken,
              λ _. (adds k s r id v at rests.awake Idle None ev told.stands.legal, refl),
              λ n. absurd (n (ap (block_of (blocks_of t)) e)),
            ),
          )

  -- the slots in hand stay as they are
  pub slots_kept : (c : Cell) (x : CellWord) (m m' : At V) (A : Type 0) → (x.owned ≡ None → A × (m'.1 ≡ m.1))
      → (x.owned ≢ None → m' ≡ m) → m'.1 ≡ m.1
  slots_kept c x m m' A bare some' = go x.owned refl
    where
      go : (o : Option Block) → x.owned ≡ o → m'.1 ≡ m.1
      go None e = (bare e).1
      go (Some b) e = ap (λ (y : At V). y.1) (some' (λ n. some_none (sym e ∙ n)))
        where
          some_none : {b : Block} → Some b ≡ None → ⊥
          some_none e = cc
