-- The word of a cell that is open, or a member of a busy object.
use Rattle.std.proofs.Common.{◌≡◌, ℕ, ◌+◌, ◌*◌, ◌<◌, false, ◌≢◌, ◌⊎◌, List, length, get_or, set}
use Rattle.std.proofs.Common.{Some, None, Option, sym, refl, ap, ◌∙◌, ⊎_elim, arith}
use Rattle.std.proofs.Common.{get_or-set_other, ne_eqb}
use Rattle.control_word.proofs.Prelude
use Prelude.{adds, Bare, blocks_of, cases_eq, Cell, cell_at, cell_of, cell_spot, cond-false}
use Prelude.{counts, counts_at, Entry, Fits, Free, get_elem?, Idle, InShape, Kind, leads, Making}
use Prelude.{Member, Merging, more, Opening, owed, owes, Owner, Parting, Paying, pays, Pending}
use Prelude.{put, slot, some, spot, Stands, value, View, Visiting, weak_number}
use Rattle.control_word.proofs.history.Kept.{cells_led}
use Rattle.control_word.proofs.history.Legal.{held_busy, sound}
use Rattle.control_word.proofs.lists.Tallies.{put_other, put_same}
use Rattle.control_word.proofs.words.Banks.{IsKept, bank_none}
use Rattle.control_word.proofs.words.Counting.{none_of}
use Rattle.control_word.proofs.words.Frames.{spot_apart, spot_fits}
use Rattle.control_word.proofs.words.Funds.{slot_low}
use Rattle.control_word.proofs.words.Members.{member_word}
use Rattle.control_word.specs.Words.{packed}
use Rattle.control_word.specs.Limits.{one_taken}

module _ {V : Type 0} where
  module _ (z : Opening) (words : List ℕ) (views : List (View V)) (h : List (Entry V)) (stands : Stands z words views h)
      (i : ℕ) (v : View V) (at : get_elem? views i ≡ some v) (awake : v.spent ≡ false) where
    module _ (c : Cell) (kept : IsKept (leads z h) c) where
      -- a cell's word is not one of the first seven of a block
      pub cell_apart : (b k : ℕ) → InShape z b → k < 7 → spot b k ≢ cell_at z (leads z h) c
      cell_apart b k hb lt = go c kept
        where
          go : (d : Cell) → IsKept (leads z h) d → spot b k ≢ cell_at z (leads z h) d
          go (Free d) op e = let l = spot_fits z b k hb (omega arith) in omega arith
          go (Member o m) op e =
              let s = leads z h in
              let p = (sound z h stands.legal).placed o op.1 in
              let t = spot_apart b k (s.object o).block (7 + m) hb.0 p.1.0 (omega arith) (let y = op.0 in omega arith) e in omega arith

      -- it lies before the shelf
      pub cell_low : cell_at z (leads z h) c < cell_spot z z.cells
      cell_low = go c kept
        where
          go : (d : Cell) → IsKept (leads z h) d → cell_at z (leads z h) d < cell_spot z z.cells
          go (Free d) op = let t = cells_led z h in omega arith
          go (Member o m) op =
              let s = leads z h in
              let p = (sound z h stands.legal).placed o op.1 in
              let l = spot_fits z (s.object o).block (7 + m) p.1 (let y = op.0 in omega arith) in omega arith

      pub cell_inside : cell_at z (leads z h) c < length words
      cell_inside = let l = cell_low in let u = stands.shows.sized in omega arith

      -- a write of a cell's word leaves what half-done calls know of blocks
      pub same_known : (n b j : ℕ) → InShape z b → j < 5 → get_or (set words (cell_at z (leads z h) c) n) (spot b (2 + j)) 0
          ≡ get_or words (spot b (2 + j)) 0
      same_known n b j hb lt = get_or-set_other words (cell_at z (leads z h) c) (spot b (2 + j)) n 0 (cell_apart b (2 + j) hb (omega arith))

      -- what was taken changes at one cell, which holds an object or of which then nothing was taken
      pub bare_put : (n : ℕ) → (n ≡ 0) ⊎ ((o : ℕ) × ((cell_of (leads z h) c).object ≡ Some o))
          → Bare z (leads z h) (put stands.taken (cell_at z (leads z h) c) n)
      bare_put n why = go c kept why
        where
          no : (o : ℕ) (y : Option ℕ) → y ≡ Some o → y ≡ None → ⊥
          no o None a b = cc
          no o (Some x) a b = cc

          go : (d : Cell) → IsKept (leads z h) d → (n ≡ 0) ⊎ ((o : ℕ) × ((cell_of (leads z h) d).object ≡ Some o))
              → Bare z (leads z h) (put stands.taken (cell_at z (leads z h) d) n)
          go (Free d) op why = record {
            members = λ b m hb lt e. put_other stands.taken (cell_spot z d) n (spot b (7 + m))
                (λ q. let l = spot_fits z b (7 + m) hb (omega arith) in omega arith) ∙ stands.bare.members b m hb lt e;
            frees = λ x hx e. ⊎_elim
                (λ (q : x ≡ d). put_same stands.taken (cell_spot z d) n (cell_spot z x) (ap (cell_spot z) q)
                ∙ ⊎_elim (λ r. r) (λ r. absurd (no r.0 _ (ap (λ i. ((leads z h).cell i).object) q ∙ r.1) e)) why)
                (λ (q : x ≢ d). put_other stands.taken (cell_spot z d) n (cell_spot z x) (λ r. q (omega arith)) ∙ stands.bare.frees x hx e)
                (cases_eq x d);
          }
          go (Member o l) op why =
              let s = leads z h in
              let place = (sound z h stands.legal).placed o op.1 in
              let k = spot (s.object o).block (7 + l) in
              record {
                members = λ b m hb lt e. ⊎_elim
                    (λ (q : spot b (7 + m) ≡ k).
                    let t = spot_apart b (7 + m) (s.object o).block (7 + l) hb.0 place.1.0 (omega arith) (let y = op.0 in omega arith) q in
                    let u : s.latest b ≡ o = ap s.latest t.0 ∙ place.0 in
                    let w : m ≡ l = let y = t.1 in omega arith in
                    put_same stands.taken k n (spot b (7 + m)) q ∙ ⊎_elim (λ r. r) (λ r. absurd (no r.0 _ ((λ i. ((s.object (u i)).member (w i)).object)
                    ∙ r.1) e)) why)
                    (λ (q : spot b (7 + m) ≢ k). put_other stands.taken k n (spot b (7 + m)) q ∙ stands.bare.members b m hb lt e)
                    (cases_eq (spot b (7 + m)) k);
                frees = λ x hx e. put_other stands.taken k n (cell_spot z x)
                    (λ q. let f = spot_fits z (s.object o).block (7 + l) place.1 (let y = op.0 in omega arith) in omega arith) ∙ stands.bare.frees x hx e;
              }

module _ {V : Type 0} where
  module _ (z : Opening) (words : List ℕ) (views : List (View V)) (h : List (Entry V)) (stands : Stands z words views h)
      (i : ℕ) (v : View V) (at : get_elem? views i ≡ some v) (awake : v.spent ≡ false) (c : Cell) (kept : IsKept (leads z h) c) where
    -- nothing but the value and how many were taken is in a cell's word
    cell_more : let k = cell_at z (leads z h) c in (owed views k ≡ 0) × (more z (leads z h) views stands.taken k ≡ one_taken * stands.taken k)
    cell_more =
        let s = leads z h in
        let fine = sound z h stands.legal in
        let k = cell_at z s c in
        let apart = cell_apart z words views h stands i v at awake c kept in
        let counts : (m : Kind) (o : ℕ) → 0 < weak_number s o
        → k ≢ counts_at (blocks_of s) m o = λ m o busy e. apart (s.object o).block (slot m) (fine.placed o busy).1
        (let t = slot_low m in omega arith) (sym e) in
        let a = none_of z words views h stands (λ p. owes p k) refl (λ d p f. no_owes counts d p f) in
        let b = none_of z words views h stands (λ p. pays p k) refl (λ d p f. no_pays counts d p f) in
        let e = none_of z words views h stands (λ p. adds p k) refl (λ d p f. no_adds d p f) in
        let g = bank_none z s fine stands.taken k counts in
        (a, omega arith)
      where
        no_owes : ((m : Kind) (o : ℕ) → 0 < weak_number (leads z h) o → cell_at z (leads z h) c ≢ counts_at (blocks_of (leads z h)) m o)
            → (d : ℕ) (p : Pending V) → Fits words (leads z h) (value z h) d p → owes p (cell_at z (leads z h) c) ≡ 0
        no_owes counts d Idle f = refl
        no_owes counts d (Making b known) f = refl
        no_owes counts d (Visiting o p w x) f = refl
        no_owes counts d (Parting to) f = refl
        no_owes counts d (Merging other mine others) f = refl
        no_owes counts d (Paying m o p w x y) f = cond-false _ y 0 (ne_eqb (cell_at z (leads z h) c) w
            (λ e. counts m o (held_busy z (leads z h) d o m p (sound z h stands.legal) f.0) (e ∙ f.1)))

        no_pays : ((m : Kind) (o : ℕ) → 0 < weak_number (leads z h) o → cell_at z (leads z h) c ≢ counts_at (blocks_of (leads z h)) m o)
            → (d : ℕ) (p : Pending V) → Fits words (leads z h) (value z h) d p → pays p (cell_at z (leads z h) c) ≡ 0
        no_pays counts d Idle f = refl
        no_pays counts d (Making b known) f = refl
        no_pays counts d (Visiting o p w x) f = refl
        no_pays counts d (Parting to) f = refl
        no_pays counts d (Merging other mine others) f = refl
        no_pays counts d (Paying m o p w x y) f = cond-false _ x 0 (ne_eqb (cell_at z (leads z h) c) w
            (λ e. counts m o (held_busy z (leads z h) d o m p (sound z h stands.legal) f.0) (e ∙ f.1)))

        no_adds : (d : ℕ) (p : Pending V) → Fits words (leads z h) (value z h) d p → adds p (cell_at z (leads z h) c) ≡ 0
        no_adds d Idle f = refl
        no_adds d (Paying m o p w x y) f = refl
        no_adds d (Parting to) f = refl
        no_adds d (Merging other mine others) f = refl
        no_adds d (Visiting o p w x) f =
            let fine = sound z h stands.legal in
            let place = (fine.placed o (held_busy z (leads z h) d o Owner p fine f.0)).1 in
            cond-false _ 4 0 (ne_eqb (cell_at z (leads z h) c) w (λ e.
            cell_apart z words views h stands i v at awake c kept ((leads z h).object o).block 2 place (omega arith) (sym (e ∙ f.1))))
        no_adds d (Making b known) f = cond-false _ 1 0 (ne_eqb (cell_at z (leads z h) c) (spot b.0 1)
            (λ e. cell_apart z words views h stands i v at awake c kept b.0 1 ((sound z h stands.legal).stores d b.0 f.0).1 (omega arith) (sym e)))

    -- the word of an open cell
    pub cell_read : let k = cell_at z (leads z h) c in
        get_or words k 0 ≡ packed (blocks_of (leads z h)) (cell_of (leads z h) c) + one_taken * stands.taken k
    cell_read = go c kept cell_more
      where
        go : (d : Cell) → IsKept (leads z h) d
            → let k = cell_at z (leads z h) d in (owed views k ≡ 0) × (more z (leads z h) views stands.taken k ≡ one_taken * stands.taken k)
            → get_or words k 0 ≡ packed (blocks_of (leads z h)) (cell_of (leads z h) d) + one_taken * stands.taken k
        go (Free d) op none = let a = stands.shows.free d (let t = cells_led z h in omega arith) in let b = none.1 in omega arith
        go (Member o m) op none =
            let s = leads z h in
            let p = (sound z h stands.legal).placed o op.1 in
            let b = (s.object o).block in
            let w = member_word s b o m op.0 p.0 in
            let x = none.0 in let y = none.1 in
            ⊎_elim (λ l. absurd (let t = l.1 in omega arith)) (λ t. omega arith) (stands.shows.blocks b (7 + m) p.1 (let y = op.0 in omega arith))
