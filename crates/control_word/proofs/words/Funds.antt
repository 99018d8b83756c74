-- The funds of cells and of half-done calls, and the words that count.
use Rattle.std.proofs.Common.{◌≡◌, ℕ, zero, suc, ◌+◌, ◌-◌, ◌*◌, ◌<◌, ◌≤◌, cond, ◌≢◌, List, [], ◌∷◌}
use Rattle.std.proofs.Common.{map, ◌==◌, Some, None, Option, sym, refl, ap, ◌∙◌, ⊎_elim, arith}
use Rattle.std.proofs.Common.{eq-eqb, ne_eqb}
use Rattle.control_word.proofs.Prelude.{blocks_of, cases_eq, cell_spot, cond-false, cond-true}
use Rattle.control_word.proofs.Prelude.{counts_at, fun_ext, get_elem?, handle, handles, Held}
use Rattle.control_word.proofs.Prelude.{in_cells, Kind, member_funds, members, moved_to, Object}
use Rattle.control_word.proofs.Prelude.{Opening, Owner, Place, slot, some, spot, State, sum_below}
use Rattle.control_word.proofs.Prelude.{tally, total, unmade, upto, Weak, worth}
use Rattle.control_word.proofs.history.Cells.{member_counted, one_of, tally_upto}
use Rattle.control_word.proofs.history.Kept.{still}
use Rattle.control_word.proofs.history.Legal.{sound}
use Rattle.control_word.proofs.history.Moving.{counted_live, live_busy}
use Rattle.control_word.proofs.history.Soundness.{IsBusy, Sound}
use Rattle.control_word.proofs.lists.Tallies.{tally_append}
use Rattle.control_word.proofs.words.Frames.{spot_apart}
use Rattle.control_word.specs.State.{count, weak}
use Rattle.control_word.specs.Words.{bank}
use Rattle.control_word.specs.Limits.{most_members, cell_funds}

module _ {A : Type 0} where
  pub total_le : (f g : A → ℕ) (l : List A) → ((i : ℕ) (a : A) → get_elem? l i ≡ some a → f a ≤ g a) → total f l ≤ total g l
  total_le f g [] h = omega arith
  total_le f g (x ∷ xs) h = let a = h 0 x refl in let b = total_le f g xs (λ i y e. h (suc i) y e) in omega arith

  pub total_some : (f : A → ℕ) (l : List A) → 0 < total f l → (i : ℕ) × (a : A) × (get_elem? l i ≡ some a) × (0 < f a)
  total_some f [] h = absurd (omega arith)
  total_some f (x ∷ xs) h =
      ⊎_elim (λ (e : f x ≡ 0). let t = total_some f xs (omega arith) in (suc t.0, t.1, t.2, t.3))
      (λ (n : f x ≢ 0). (0, x, refl, omega arith)) (cases_eq (f x) 0)

pub slot_low : (k : Kind) → slot k < 2
slot_low Owner = omega arith
slot_low Weak = omega arith

-- the same word counts the same kind of the same object
kinds_same : (k m : Kind) (f : ℕ → ℕ) (o q : ℕ) → 1 ≤ f o → 1 ≤ f q → counts_at f k o ≡ counts_at f m q → (k ≡ m) × (f o ≡ f q)
kinds_same Owner Owner f o q a b e = let t = spot_apart (f o) 0 (f q) 0 a b (omega arith) (omega arith) e in (refl, t.0)
kinds_same Owner Weak f o q a b e = let t = spot_apart (f o) 0 (f q) 1 a b (omega arith) (omega arith) e in absurd (omega arith)
kinds_same Weak Owner f o q a b e = let t = spot_apart (f o) 1 (f q) 0 a b (omega arith) (omega arith) e in absurd (omega arith)
kinds_same Weak Weak f o q a b e = let t = spot_apart (f o) 1 (f q) 1 a b (omega arith) (omega arith) e in (refl, t.0)

pub counted_busy : (z : Opening) (s : State) (sound : Sound z s) (k : Kind) (r : ℕ) → 0 < tally k r (handles s) → IsBusy s r
unfolding count weak
counted_busy z s sound Owner r h = live_busy s r (counted_live z s r sound h)
counted_busy z s sound Weak r h = omega arith

module _ (z : Opening) (s : State) (fine : Sound z s) where
  -- one word counts one kind of handles of one busy object
  pub same_counts : (k m : Kind) (o q : ℕ) → IsBusy s o → IsBusy s q → counts_at (blocks_of s) k o ≡ counts_at (blocks_of s) m q
      → (k ≡ m) × (o ≡ q)
  same_counts k m o q bo bq e =
      let a = fine.placed o bo in let b = fine.placed q bq in
      let t = kinds_same k m (blocks_of s) o q a.1.0 b.1.0 e in
      (t.0, sym a.0 ∙ (ap s.latest t.1 ∙ b.0))

  pub in_cells_busy : (r : ℕ) (m : Kind) → 0 < tally m r (in_cells s) → IsBusy s r
  in_cells_busy r m h = counted_busy z s fine m r (let t = tally_append m r (map (λ x. x.handle) s.hands) (in_cells s) in omega arith)

  pub cell_busy : (c r : ℕ) → c < s.cells → (s.cell c).object ≡ Some r → IsBusy s r
  cell_busy c r lt e =
      let m = (s.cell c).kind in
      let cells = upto s.cells (λ j. s.cell j ∷ []) in
      let rest = upto (suc s.made) (λ o. members (s.object o)) in
      let t = tally_upto m r s.cells c (λ j. s.cell j ∷ []) lt in let u = one_of m r (s.cell c) refl e in
      in_cells_busy r m (let w = tally_append m r cells rest in omega arith)

  pub member_busy : (q m r : ℕ) → q < suc s.made → m < most_members → ((s.object q).member m).object ≡ Some r → IsBusy s r
  member_busy q m r lt le e =
      let x = (s.object q).member m in
      let j = x.kind in
      let cells = upto s.cells (λ j. s.cell j ∷ []) in
      let rest = upto (suc s.made) (λ o. members (s.object o)) in
      let t = tally_upto j r (suc s.made) q (λ o. members (s.object o)) lt in let u = one_of j r x refl e in
      let g = member_counted j r (s.object q) m le in
      in_cells_busy r j (let w = tally_append j r cells rest in omega arith)

  module _ (k : Kind) (o : ℕ) (busy : IsBusy s o) where
    worth_few : (m : Kind) (n : Option ℕ) (p : Option Place) (t : ℕ) → ((r : ℕ) → n ≡ Some r → IsBusy s r)
        → worth (blocks_of s) (handle m n p) t (counts_at (blocks_of s) k o) ≤ cell_funds * tally k o (handle m n p ∷ [])
    worth_few m None p t b = omega arith
    worth_few m (Some q) p t b =
        ⊎_elim
        (λ (e : counts_at (blocks_of s) k o ≡ counts_at (blocks_of s) m q).
        let x = same_counts k m o q busy (b q refl) e in
        let one = one_of k o (handle m (Some q) p) (sym x.0) (ap Some (sym x.1)) in
        let c : cond (counts_at (blocks_of s) k o == counts_at (blocks_of s) m q) (cell_funds - t) 0 ≡ cell_funds - t =
        cond-true _ (cell_funds - t) 0 (eq-eqb _ _ e) in omega arith)
        (λ (ne : counts_at (blocks_of s) k o ≢ counts_at (blocks_of s) m q).
        let c : ◌≡◌ {A = ℕ} (cond (counts_at (blocks_of s) k o == counts_at (blocks_of s) m q) (cell_funds - t) 0) 0 = cond-false _ (cell_funds - t) 0
        (ne_eqb _ _ ne) in omega arith)
        (cases_eq (counts_at (blocks_of s) k o) (counts_at (blocks_of s) m q))

    members_below : (taken : ℕ → ℕ) (q : ℕ) → q < suc s.made → (n : ℕ) → n ≤ most_members → let x = s.object q in
        sum_below n (λ m. worth (blocks_of s) (x.member m) (taken (spot x.block (7 + m))) (counts_at (blocks_of s) k o))
        ≤ cell_funds * tally k o (upto n (λ m. x.member m ∷ []))
    members_below taken q lt zero le = omega arith
    members_below taken q lt (suc n) le =
        let x = s.object q in
        let y = x.member n in
        let a = worth_few y.kind y.object y.place (taken (spot x.block (7 + n))) (λ r. member_busy q n r lt (omega arith)) in
        let b = members_below taken q lt n (omega arith) in
        omega (arith, tally_append k o (y ∷ []) (upto n (λ m. x.member m ∷ [])))

    members_few : (taken : ℕ → ℕ) (q : ℕ) → q < suc s.made
        → member_funds (blocks_of s) taken (s.object q) (counts_at (blocks_of s) k o) ≤ cell_funds * tally k o (members (s.object q))
    members_few taken q lt = members_below taken q lt most_members (omega arith)

    frees_few : (taken : ℕ → ℕ) (n : ℕ) → n ≤ s.cells
        → sum_below n (λ c. worth (blocks_of s) (s.cell c) (taken (cell_spot z c)) (counts_at (blocks_of s) k o)) ≤ cell_funds * tally k o (upto n
        (λ c. s.cell c ∷ []))
    frees_few taken zero le = omega arith
    frees_few taken (suc n) le =
        let x = s.cell n in
        let a = worth_few x.kind x.object x.place (taken (cell_spot z n)) (λ r. cell_busy n r (omega arith)) in
        let b = frees_few taken n (omega arith) in
        omega (arith, tally_append k o (x ∷ []) (upto n (λ c. s.cell c ∷ [])))

    objects_few : (taken : ℕ → ℕ) (n : ℕ) → n ≤ suc s.made
        → sum_below n (λ q. member_funds (blocks_of s) taken (s.object q) (counts_at (blocks_of s) k o))
        ≤ cell_funds * tally k o (upto n (λ q. members (s.object q)))
    objects_few taken zero le = omega arith
    objects_few taken (suc n) le =
        let a = members_few taken n (omega arith) in
        let b = objects_few taken n (omega arith) in
        omega (arith, tally_append k o (members (s.object n)) (upto n (λ q. members (s.object q))))

    -- the funds of the cells are at most 256 for each handle in a cell
    pub bank_few : (taken : ℕ → ℕ) → bank z s taken (counts_at (blocks_of s) k o) ≤ cell_funds * tally k o (in_cells s)
    unfolding bank
    bank_few taken =
        let cells = upto s.cells (λ c. s.cell c ∷ []) in
        let rest = upto (suc s.made) (λ o. members (s.object o)) in
        let a = frees_few taken s.cells (omega arith) in let b = objects_few taken (suc s.made) (omega arith) in
        omega (arith, tally_append k o cells rest)

pub bank_still : (z : Opening) (s : State) (hs : List Held) (f : ℕ → Object) (taken : ℕ → ℕ) (i : ℕ) → ((q : ℕ)
    → moved_to unmade (f q) ≡ moved_to unmade (s.object q))
    → bank z (record s { hands = hs; object = f }) taken i ≡ bank z s taken i
unfolding bank
bank_still z s hs f taken i still =
    let blocks : ◌≡◌ {A = ℕ → ℕ} (λ j. (f j).block) (blocks_of s) = fun_ext (λ j. ap (λ (x : Object). x.block) (still j)) in
    ap (λ (b : ℕ → ℕ). sum_below s.cells (λ c. worth b (s.cell c) (taken (cell_spot z c)) i) + sum_below (suc s.made)
    (λ o. member_funds b taken (f o) i)) blocks
    ∙ ap (λ (g : ℕ → ℕ). sum_below s.cells (λ c. worth (blocks_of s) (s.cell c) (taken (cell_spot z c)) i) + sum_below (suc s.made) g)
    (fun_ext (λ o. ap (λ (x : Object). member_funds (blocks_of s) taken x i) (still o)))
