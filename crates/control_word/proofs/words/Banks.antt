-- How a change of one cell changes the funds of the cells.
use Rattle.std.proofs.Common.{◌≡◌, ℕ, zero, suc, ◌+◌, ◌-◌, ◌<◌, ◌≤◌, ◌≢◌, List, Some, None, Option}
use Rattle.std.proofs.Common.{sym, refl, ap, ◌∙◌, ⊎_elim, arith, ne_eqb}
use Rattle.control_word.proofs.Prelude
use Prelude.{blocks_of, cases_eq, Cell, cell_at, cell_of, cell_spot, common, cond-false, counts_at}
use Prelude.{fills, Free, fun_ext, handle, Held, IsOpen, Kind, Member, member_funds}
use Prelude.{NumberedHandle, Object, Opening, Place, put, spot, State, sum_below, worth}
use Rattle.control_word.proofs.history.Cells.{open_live}
use Rattle.control_word.proofs.history.Clearing.{was_made}
use Rattle.control_word.proofs.history.Moving.{live_busy}
use Rattle.control_word.proofs.history.Soundness.{IsBusy, Sound}
use Rattle.control_word.proofs.history.Storing.{kept}
use Rattle.control_word.proofs.lists.Sums.{sum_zero}
use Rattle.control_word.proofs.lists.Tallies.{put_cases, put_other, put_same}
use Rattle.control_word.proofs.words.Frames.{spot_apart, spot_fits}
use Rattle.control_word.proofs.words.Funds.{cell_busy, member_busy}
use Rattle.control_word.specs.Words.{bank}
use Rattle.control_word.specs.Limits.{most_members, cell_funds}

pub sum_set : (n p : ℕ) (f g : ℕ → ℕ) → p < n → ((j : ℕ) → j < n → j ≢ p → g j ≡ f j) → sum_below n g + f p ≡ sum_below n f + g p
sum_set zero p f g lt same = absurd (omega arith)
sum_set (suc n) p f g lt same =
    ⊎_elim
    (λ (e : n ≡ p). let t = sum_equal n f g (λ j l. same j (omega arith) (λ u. omega arith)) in let a = ap f e in let b = ap g e in omega arith)
    (λ (ne : n ≢ p). let t = sum_set n p f g (omega arith) (λ j l u. same j (omega arith) u) in let a = same n (omega arith) ne in omega arith)
    (cases_eq n p)
  where
    sum_equal : (n : ℕ) (f g : ℕ → ℕ) → ((j : ℕ) → j < n → g j ≡ f j) → sum_below n g ≡ sum_below n f
    sum_equal zero f g h = refl
    sum_equal (suc n) f g h = let a = h n (omega arith) in let b = sum_equal n f g (λ j l. h j (omega arith)) in omega arith

pub sum_all : (n : ℕ) (f g : ℕ → ℕ) → ((j : ℕ) → j < n → g j ≡ f j) → sum_below n g ≡ sum_below n f
sum_all zero f g h = refl
sum_all (suc n) f g h = let a = h n (omega arith) in let b = sum_all n f g (λ j l. h j (omega arith)) in omega arith

-- the cell is free, or a member of a busy object
abbrev pub IsKept : State → Cell → Type 0
IsKept s (Free c) = c < s.cells
IsKept s (Member o m) = (m < most_members) × IsBusy s o

pub open_kept : (z : Opening) (s : State) (d : ℕ) (c : Cell) → Sound z s → IsOpen s d c → IsKept s c
open_kept z s d (Free c) fine open' = open'
open_kept z s d (Member o m) fine open' = ((let t = open'.0 in let u = fine.few in omega arith), live_busy s o (open_live z s d o m fine open'))

module _ (z : Opening) (s : State) (fine : Sound z s) (taken : ℕ → ℕ) (i : ℕ) where
  -- an object that is gone keeps no funds
  gone_funds : (u : ℕ → ℕ) (q : ℕ) → common (s.object q).phase ≡ 0 → member_funds (blocks_of s) u (s.object q) i ≡ 0
  gone_funds u q e =
      let x = s.object q in
      sum_zero most_members (λ m. worth (blocks_of s) (x.member m) (u (spot x.block (7 + m))) i)
      (λ m lt. ap (λ (h : NumberedHandle). worth (blocks_of s) h (u (spot x.block (7 + m))) i) (fine.cleared q m lt e))

  -- an object of which no cell's word is k
  other_funds : (k t : ℕ) (q : ℕ) → (0 < common (s.object q).phase → (j : ℕ) → 6 < j → j < 16 → spot (s.object q).block j ≢ k)
      → member_funds (blocks_of s) (put taken k t) (s.object q) i ≡ member_funds (blocks_of s) taken (s.object q) i
  other_funds k t q apart =
      ⊎_elim (λ (e : common (s.object q).phase ≡ 0). gone_funds (put taken k t) q e ∙ sym (gone_funds taken q e))
      (λ (ne : common (s.object q).phase ≢ 0).
      let x = s.object q in
      let n = apart (omega arith) in
      sum_all most_members (λ m. worth (blocks_of s) (x.member m) (taken (spot x.block (7 + m))) i)
      (λ m. worth (blocks_of s) (x.member m) (put taken k t (spot x.block (7 + m))) i)
      (λ m lt. ap (λ y. worth (blocks_of s) (x.member m) y i)
      (put_other taken k t (spot x.block (7 + m)) (n (7 + m) (omega arith) (omega arith)))))
      (cases_eq (common (s.object q).phase) 0)

  bank_free : (c : ℕ) (new : NumberedHandle) (hs : List Held) (t : ℕ) → c < s.cells → s.cells ≡ z.cells
      → bank z (record s { hands = hs; cell = put s.cell c new }) (put taken (cell_spot z c) t) i + worth (blocks_of s) (s.cell c) (taken (cell_spot z c)) i
      ≡ bank z s taken i + worth (blocks_of s) new t i
  unfolding bank
  bank_free c new hs t lt cells =
      let k = cell_spot z c in
      let f : ℕ → ℕ = λ j. worth (blocks_of s) (s.cell j) (taken (cell_spot z j)) i in
      let g : ℕ → ℕ = λ j. worth (blocks_of s) (put s.cell c new j) (put taken k t (cell_spot z j)) i in
      let a = sum_set s.cells c f g lt (λ j l ne. (λ x. worth (blocks_of s) (put_other s.cell c new j ne x) (put_other taken k t (cell_spot z j)
      (λ e. ne (omega arith)) x) i)) in
      let b = sum_all (suc s.made) (λ q. member_funds (blocks_of s) taken (s.object q) i) (λ q. member_funds (blocks_of s) (put taken k t) (s.object q) i)
      (λ q l. other_funds k t q (λ more j lo hi e. let p = fine.placed q (omega arith) in let u = spot_fits z (s.object q).block j p.1 hi in omega arith)) in
      let x : g c ≡ worth (blocks_of s) new t i = λ y. worth (blocks_of s) (put_same s.cell c new c refl y) (put_same taken k t k refl y) i in
      omega arith

  -- of one object one member changes
  own_funds : (x : Object) (m t : ℕ) (new : NumberedHandle) → m < most_members → 1 ≤ x.block → let k = spot x.block (7 + m) in
      member_funds (blocks_of s) (put taken k t) (record x { member = put x.member m new }) i + worth (blocks_of s) (x.member m) (taken k) i
      ≡ member_funds (blocks_of s) taken x i + worth (blocks_of s) new t i
  own_funds x m t new lt pos =
      let b = blocks_of s in
      let k = spot x.block (7 + m) in
      let f : ℕ → ℕ = λ j. worth b (x.member j) (taken (spot x.block (7 + j))) i in
      let g : ℕ → ℕ = λ j. worth b (put x.member m new j) (put taken k t (spot x.block (7 + j))) i in
      let here : g m ≡ worth b new t i = λ y. worth b (put_same x.member m new m refl y) (put_same taken k t k refl y) i in
      let all : sum_below most_members g + f m ≡ sum_below most_members f + g m = sum_set most_members m f g lt
      (λ j l n y. worth b (put_other x.member m new j n y) (put_other taken k t (spot x.block (7 + j)) (λ e. n (omega arith)) y) i) in
      all ∙ ap (λ n. sum_below most_members f + n) here

  pub member_blocks : (o m : ℕ) (new : NumberedHandle) → ◌≡◌ {A = ℕ
      → ℕ} (λ q. (put s.object o (record (s.object o) { member = put (s.object o).member m new }) q).block) (blocks_of s)
  member_blocks o m new = fun_ext (λ q. put_cases
      (λ j y. y.block ≡ (s.object j).block) s.object o (record (s.object o) { member = put (s.object o).member m new }) q
      (λ e. ap (λ n. (s.object n).block) (sym e)) (λ n. refl))

  bank_member : (o m : ℕ) (new : NumberedHandle) (hs : List Held) (t : ℕ) → m < most_members → IsBusy s o → s.cells ≡ z.cells
      → let x = s.object o in let k = spot x.block (7 + m) in
      bank z (record s { hands = hs; object = put s.object o (record x { member = put x.member m new }) }) (put taken k t) i + worth (blocks_of s)
      (x.member m) (taken k) i
      ≡ bank z s taken i + worth (blocks_of s) new t i
  unfolding bank
  bank_member o m new hs t lt busy cells =
      let x = s.object o in
      let b = x.block in
      let k = spot b (7 + m) in
      let place = fine.placed o busy in
      let made : o < suc s.made = was_made z s o fine (λ e. let u = fine.unmade_free o e in omega arith) in
      let y : Object = record x { member = put x.member m new } in
      let f : ℕ → ℕ = λ q. member_funds (blocks_of s) taken (s.object q) i in
      let g : ℕ → ℕ = λ q. member_funds (blocks_of s) (put taken k t) (put s.object o y q) i in
      let a = sum_all s.cells (λ j. worth (blocks_of s) (s.cell j) (taken (cell_spot z j)) i)
      (λ j. worth (blocks_of s) (s.cell j) (put taken k t (cell_spot z j)) i)
      (λ j l. ap (λ n. worth (blocks_of s) (s.cell j) n i) (put_other taken k t (cell_spot z j)
      (λ e. let u = spot_fits z b (7 + m) place.1 (omega arith) in omega arith))) in
      let c = sum_set (suc s.made) o f g made
      (λ q l ne. ap (λ w. member_funds (blocks_of s) (put taken k t) w i) (put_other s.object o y q ne)
      ∙ other_funds k t q (λ more j lo hi e.
      let p = fine.placed q (omega arith) in
      let u = spot_apart (s.object q).block j b (7 + m) p.1.0 place.1.0 hi (omega arith) e in
      ne (sym p.0 ∙ (ap s.latest u.0 ∙ place.0)))) in
      let d : g o ≡ member_funds (blocks_of s) (put taken k t) y i =
      ap (λ w. member_funds (blocks_of s) (put taken k t) w i) (put_same s.object o y o refl) in
      let e = own_funds x m t new lt place.1.0 in
      let blocks = ap (λ (n : ℕ
      → ℕ). sum_below s.cells (λ j. worth n (s.cell j) (put taken k t (cell_spot z j)) i) + sum_below (suc s.made)
      (λ q. member_funds n (put taken k t) (put s.object o y q) i)) (member_blocks o m new) in
      omega arith

  -- one cell gets another value, or other funds
  pub bank_fill : (c : Cell) (new : NumberedHandle) (hs : List Held) (t : ℕ) → IsKept s c → s.cells ≡ z.cells
      → bank z (fills c new (record s { hands = hs })) (put taken (cell_at z s c) t) i + worth (blocks_of s) (cell_of s c) (taken (cell_at z s c)) i
      ≡ bank z s taken i + worth (blocks_of s) new t i
  bank_fill (Free c) new hs t kept cells = bank_free c new hs t kept cells
  bank_fill (Member o m) new hs t kept cells = bank_member o m new hs t kept.0 kept.1 cells

pub bank_hands : (z : Opening) (s : State) (hs : List Held) (taken : ℕ → ℕ) (i : ℕ) → bank z (record s { hands = hs }) taken i ≡ bank z s taken i
unfolding bank
bank_hands z s hs taken i = refl

-- the funds of the cells are on the words that count handles of busy objects
pub bank_none : (z : Opening) (s : State) → Sound z s → (taken : ℕ → ℕ) (i : ℕ)
    → ((m : Kind) (o : ℕ) → IsBusy s o → i ≢ counts_at (blocks_of s) m o)
    → bank z s taken i ≡ 0
unfolding bank
bank_none z s fine taken i none =
    let a = sum_zero s.cells (λ c. worth (blocks_of s) (s.cell c) (taken (cell_spot z c)) i)
    (λ c lt. let x = s.cell c in worth_none x.kind x.object x.place (taken (cell_spot z c)) (λ r. cell_busy z s fine c r lt)) in
    let b = sum_zero (suc s.made) (λ q. member_funds (blocks_of s) taken (s.object q) i)
    (λ q lt.
    let x = s.object q in
    sum_zero most_members (λ m. worth (blocks_of s) (x.member m) (taken (spot x.block (7 + m))) i)
    (λ m le. let y = x.member m in worth_none y.kind y.object y.place (taken (spot x.block (7 + m)))
    (λ r. member_busy z s fine q m r lt le))) in
    omega arith
  where
    worth_none : (m : Kind) (n : Option ℕ) (p : Option Place) (t : ℕ) → ((r : ℕ) → n ≡ Some r → IsBusy s r)
        → worth (blocks_of s) (handle m n p) t i ≡ 0
    worth_none m None p t busy = refl
    worth_none m (Some o) p t busy = cond-false _ (cell_funds - t) 0 (ne_eqb i (counts_at (blocks_of s) m o) (none m o (busy o refl)))
