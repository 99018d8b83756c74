-- The funds of a handle that goes into a cell or came out of it.
use Rattle.std.proofs.Common.{◌≡◌, ℕ, ◌-◌, ◌≤◌, List, ◌==◌, Some, None, Option, sym, refl, ap, inl}
use Rattle.std.proofs.Common.{⊎_elim, arith, eq-eqb, ne_eqb}
use Rattle.control_word.proofs.Prelude.{adds, blocks_of, cases_eq, Cell, cond-false, cond-true}
use Rattle.control_word.proofs.Prelude.{counts_at, empty, Fits, handle, IsFormed, Kind}
use Rattle.control_word.proofs.Prelude.{NumberedHandle, owes, Owner, pays, Place, purse, State}
use Rattle.control_word.proofs.Prelude.{swaps, Weak, worth}
use Rattle.control_word.proofs.history.Others.{IsLone}
use Rattle.control_word.proofs.words.Members.{swap_blocks}
use Rattle.control_word.specs.Limits.{cell_funds}

pub formed_empty : (k : Kind) → IsFormed (empty k)
formed_empty Owner = (tt, tt)
formed_empty Weak = (tt, refl)

module _ (V : Type 0) where
  pub purse_pays : (block : ℕ → ℕ) (k : Kind) (n : Option ℕ) (p : Option Place) (t m : ℕ)
      → pays {V = V} (purse block (handle k n p) (cell_funds - t)) m ≡ worth block (handle k n p) t m
  purse_pays block k None p t m = refl
  purse_pays block k (Some o) p t m = refl

  pub purse_owes : (block : ℕ → ℕ) (k : Kind) (n : Option ℕ) (p : Option Place) (f m : ℕ) → owes {V = V} (purse block (handle k n p) f) m ≡ 0
  purse_owes block k None p f m = refl
  purse_owes block k (Some o) p f m = ⊎_elim (λ e. cond-true (m == counts_at block k o) 0 0 (eq-eqb _ _ e))
      (λ n. cond-false _ 0 0 (ne_eqb _ _ n)) (cases_eq m (counts_at block k o))

  pub purse_adds : (block : ℕ → ℕ) (k : Kind) (n : Option ℕ) (p : Option Place) (f m : ℕ) → adds {V = V} (purse block (handle k n p) f) m ≡ 0
  purse_adds block k None p f m = refl
  purse_adds block k (Some o) p f m = refl

  -- what it is, in what a half-done call may be
  pub purse_lone : (block : ℕ → ℕ) (k : Kind) (n : Option ℕ) (p : Option Place) (f : ℕ) → IsLone {V = V} (purse block (handle k n p) f)
  purse_lone block k None p f = tt
  purse_lone block k (Some o) p f = tt

module _ {V : Type 0} where
  -- the funds of what came out are under a handle in the bag
  pub purse_fits : (words : List ℕ) (s : State) (values : ℕ
      → Option V) (d : ℕ) (c : Cell) (new : NumberedHandle) (k : Kind) (n : Option ℕ) (p : Option Place) (f : ℕ) → f ≤ cell_funds
      → Fits words (swaps d c new (handle k n p) s) values d (purse (blocks_of s) (handle k n p) f)
  purse_fits words s values d c new k None p f few = tt
  purse_fits words s values d c new k (Some o) p f few = (
    inl refl,
    ap (λ (b : ℕ
        → ℕ). counts_at b k o) (sym (swap_blocks s d c new (handle k (Some o) p))),
    omega arith,
    omega arith,
    few,
  )
