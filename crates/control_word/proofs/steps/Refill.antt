-- A cell gets funds in place of those taken.
use Rattle.std.proofs.Common.{◌≡◌, ℕ, ◌+◌, ◌-◌, ◌*◌, ◌≤◌, false, ◌≢◌, List, get_or, set, Some}
use Rattle.std.proofs.Common.{Option, sym, refl, ap, ◌∙◌, inl, ⊎_elim, arith, length-set}
use Rattle.std.proofs.Common.{get_or-set_other, get_or-set_same}
use Rattle.control_word.proofs.Prelude
use Prelude.{adds, blocks_of, cases_eq, Cell, cell_at, cell_of, cell_spot, counts_at, Entry, fills}
use Prelude.{Fits, Free, get_elem?, handle, Idle, Kind, leads, Making, me, Member, Merging, more}
use Prelude.{Opening, owed, owes, Parting, Paying, pays, Pending, Place, put, some, spot, Stands}
use Prelude.{State, state, value, View, Visiting, worth}
use Rattle.control_word.proofs.history.Kept.{cells_led}
use Rattle.control_word.proofs.history.Legal.{sound}
use Rattle.control_word.proofs.lists.Tallies.{put_again, put_other, put_same}
use Rattle.control_word.proofs.views.Teams.{still_step}
use Rattle.control_word.proofs.words.Banks.{IsKept, bank_fill, open_kept}
use Rattle.control_word.proofs.words.CellWords.{bare_put, cell_apart, cell_inside, cell_low}
use Rattle.control_word.proofs.words.CellWords.{cell_read, same_known}
use Rattle.control_word.proofs.words.Counting.{owed_paid}
use Rattle.control_word.proofs.words.Frames.{shelf_kept, total_set}
use Rattle.control_word.proofs.words.Payments.{cond_one, one_at, one_else, one_here, shows_all}
use Rattle.control_word.specs.CellSteps.{Refills}
use Rattle.control_word.specs.Words.{bank, packed}
use Rattle.control_word.specs.Limits.{cell_funds, one_taken}

module _ {V : Type 0} where
  module _ (z : Opening) (words : List ℕ) (views : List (View V)) (h : List (Entry V)) (stands : Stands z words views h)
      (i : ℕ) (v : View V) (at : get_elem? views i ≡ some v) (awake : v.spent ≡ false) where
    module _ (c : Cell) (kept : IsKept (leads z h) c) where
      -- Refill: the funds that were brought go into the cell, in place of those taken
      pub refill_step : (k : Kind) (o t : ℕ) (p q : Option Place) → let w = counts_at (blocks_of (leads z h)) k o in v.pending ≡ Paying k o p w t 0
          → handle k (Some o) q ≡ cell_of (leads z h) c → stands.taken (cell_at z (leads z h) c) ≡ t
          → let j = cell_at z (leads z h) c in
          Stands z (set words j (get_or words j 0 - one_taken * t)) (set views i (record v { pending = Idle; seen = h })) h
      refill_step k o t p q mine is was =
          let s = leads z h in
          let fine = sound z h stands.legal in
          let x = handle k (Some o) q in
          let j = cell_at z s c in
          let w = counts_at (blocks_of s) k o in
          let n = get_or words j 0 - one_taken * t in
          let u : View V = record v { pending = Idle; seen = h } in
          let taken : ℕ → ℕ = put stands.taken j 0 in
          let few = stands.most j in
          let bank' : (m : ℕ) → bank z s taken m ≡ bank z s stands.taken m + t * one_at w m =
          λ m.
          let b = bank_fill z s fine stands.taken m c (cell_of s c) s.hands 0 kept (cells_led z h) in
          let r : bank z (fills c (cell_of s c) s) taken m ≡ bank z s taken m = ap (λ y. bank z y taken m) (fills_same s c) in
          let a0 = ap (λ y. worth (blocks_of s) y (stands.taken j) m) (sym is) ∙ cond_one w m (cell_funds - stands.taken j) in
          let a1 = ap (λ y. worth (blocks_of s) y 0 m) (sym is) ∙ cond_one w m cell_funds in
          let a2 : cell_funds * one_at w m ≡ (cell_funds - stands.taken j) * one_at w m + t * one_at w m = ⊎_elim
          (λ q. let y = one_here w m q in let y0 : (cell_funds - stands.taken j) * one_at w m ≡ (cell_funds - stands.taken j) * 1 = ap
          (λ n. (cell_funds - stands.taken j) * n) y in
          let y1 : t * one_at w m ≡ t * 1 = ap (λ n. t * n) y in omega arith)
          (λ q. let y = one_else w m q in let y0 : (cell_funds - stands.taken j) * one_at w m ≡ (cell_funds - stands.taken j) * 0 = ap
          (λ n. (cell_funds - stands.taken j) * n) y in
          let y1 : t * one_at w m ≡ t * 0 = ap (λ n. t * n) y in omega arith) (cases_eq m w) in
          omega arith in
          let enough : one_taken * t ≤ get_or words j 0 = full in
          let both : (m : ℕ) → (get_or (set words j n) m 0 + more z s views stands.taken m ≡ get_or words m 0 + more z s (set views i u) taken m)
          × (owed (set views i u) m ≡ owed views m) =
          λ m.
          let a = total_set (λ (y : View V). owes y.pending m) views i v u at in let b = total_set (λ (y : View V). pays y.pending m) views i v u at in
          let d = total_set (λ (y : View V). adds y.pending m) views i v u at in
          let a0 = ap (λ q. owes q m) mine ∙ cond_one w m 0 in let b0 = ap (λ q. pays q m) mine ∙ cond_one w m t in let d0 = ap (λ q. adds q m) mine in
          let x0 = bank' m in (
            ⊎_elim
                (λ (q : m ≡ j).
                let y = put_same stands.taken j 0 m q in let y0 = ap stands.taken q in
                let r : get_or (set words j n) m 0 ≡ n =
                ap (λ i. get_or (set words j n) i 0) q ∙ get_or-set_same words j n 0 (cell_inside z words views h stands i v at awake c kept) in
                let r0 = ap (λ i. get_or words i 0) q in omega arith)
                (λ (q : m ≢ j). let y = put_other stands.taken j 0 m q in let r = get_or-set_other words j m n 0 q in omega arith) (cases_eq m j),
            omega arith,
          ) in
          still_step z words (set words j n) views h i v Idle taken stands at awake tt (λ y. omega arith)
          (shows_all z words (set words j n) (owed views) (more z s views stands.taken) (owed (set views i u)) (more z s (set views i u) taken) s s
          (length-set words j n) stands.shows (λ b y. y)
          (λ y hy vacant one. get_or-set_other words j (spot y 1) n 0 (cell_apart z words views h stands i v at awake c kept y 1 hy (omega arith)) ∙ one)
          (λ b y hb hy. let m = both (spot b y) in let m0 = m.0 in let m1 = m.1 in omega arith)
          (λ d hd. let m = both (cell_spot z d) in let m0 = m.0 in let m1 = m.1 in omega arith)
          (shelf_kept z words s j n (cell_low z words views h stands i v at awake c kept) stands.shows.shelf))
          (λ m. ⊎_elim (λ (q : m ≡ j). let y = put_same stands.taken j 0 m q in omega arith) (λ (q : m ≢ j). let y = put_other stands.taken j 0 m q in
          let b = stands.most m in omega arith) (cases_eq m j))
          (λ b y hb hy. put_other stands.taken j 0 (spot b y) (cell_apart z words views h stands i v at awake c kept b y hb hy) ∙ stands.blank b y hb hy)
          (bare_put z words views h stands i v at awake c kept 0 (inl refl)) tt
          (λ d q ne f. known d q f)
        where
          fills_same : (t : State) (d : Cell) → fills d (cell_of t d) t ≡ t
          fills_same t (Free d) = λ r. record t { cell = put_again t.cell d r }
          fills_same t (Member o m) = (λ r. record t { object = put t.object o (record (t.object o) { member = put_again (t.object o).member m r }) })
              ∙ (λ r. record t { object = put_again t.object o r })

          known : (d : ℕ) (y : Pending V) → Fits words (leads z h) (value z h) d y
              → Fits (set words (cell_at z (leads z h) c) (get_or words (cell_at z (leads z h) c) 0 - one_taken * t)) (leads z h) (value z h) d y
          known d Idle f = tt
          known d (Making b l) f = (
            f.0,
            λ y lt. same_known z words views h stands i v at awake c kept _ b.0 y ((sound z h stands.legal).stores d b.0 f.0).1 lt ∙ f.1 y lt,
          )
          known d (Paying m o p w x y) f = f
          known d (Visiting o p w x) f = f
          known d (Parting to) f = tt
          known d (Merging other mine others) f = tt

          full : one_taken * t ≤ get_or words (cell_at z (leads z h) c) 0
          full = go c kept was
            where
              go : (d : Cell) → IsKept (leads z h) d → stands.taken (cell_at z (leads z h) d) ≡ t
                  → one_taken * t ≤ get_or words (cell_at z (leads z h) d) 0
              go (Free d) op e = let a = stands.shows.free d (let t = cells_led z h in omega arith) in omega arith
              go (Member o m) op e =
                  let a = owed_paid z words views h stands (cell_at z (leads z h) (Member o m)) in
                  let y = op.0 in
                  ⊎_elim (λ l. absurd (let t = l.1 in omega arith))
                  (λ t. omega arith) (stands.shows.blocks ((leads z h).object o).block (7 + m) ((sound z h stands.legal).placed o op.1).1 (omega arith))

module _ {V : Type 0} where
  pub refills : Refills V
  refills at c k o t p q ready open' is found =
      let kept = open_kept at.opening (state at) (me at) c (sound at.opening at.history ready.stands.legal) open' in
      let r = cell_read at.opening at.words at.views at.history ready.stands at.seat at.view ready.seated ready.awake c kept in
      let e = ap (packed (blocks_of (state at))) is in
      refill_step at.opening at.words at.views at.history ready.stands at.seat at.view ready.seated ready.awake c kept k o t p q ready.pending is (omega arith)
