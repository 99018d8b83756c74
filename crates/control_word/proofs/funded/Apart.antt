-- Words that count no handles: of vacant blocks, flags, fields, cells, and all behind the blocks.
use Rattle.std.proofs.Common.{◌≡◌, ℕ, zero, suc, ◌+◌, ◌*◌, ◌<◌, ◌≤◌, ◌≢◌, List, [], ◌∷◌, length, set, Some, None, sym, refl, ap, ◌∙◌, subst, arith}
use Rattle.control_word.proofs.Prelude
use Prelude.{blocks_of, Cell, cell_at, counts_at, Free, get_elem?, InShape, Kind, Member, Opening, some, spot, State}
use Rattle.control_word.proofs.funded.Next.{IsApart}
use Rattle.control_word.proofs.history.Soundness.{IsBusy, Sound}
use Rattle.control_word.proofs.words.Banks.{IsKept}
use Rattle.control_word.proofs.words.Frames.{spot_apart, spot_fits}
use Rattle.control_word.proofs.words.Funds.{slot_low}
use Rattle.control_word.specs.Words.{slot}

module _ (z : Opening) (s : State) (fine : Sound z s) where
  -- a word of a block but its counts
  pub body_apart : (b j : ℕ) → 1 ≤ b → 2 ≤ j → j < 16 → IsApart s (spot b j)
  body_apart b j hb low lt m r busy e =
      let p = (fine.placed r busy).1 in let u = slot_low m in
      let t = spot_apart b j (s.object r).block (slot m) hb p.0 lt (omega arith) e in omega arith

  -- a word of a block that a desk has in store
  pub stored_apart : (d b j : ℕ) → Prelude.Has (Prelude.stored d b) s.stores → j < 16 → IsApart s (spot b j)
  stored_apart d b j has lt m r busy e =
      let p = (fine.placed r busy).1 in let u = slot_low m in
      let w = fine.stores d b has in
      let t = spot_apart b j (s.object r).block (slot m) w.1.0 p.0 lt (omega arith) e in
      let v = w.0 r (sym t.0) in omega arith

  -- a word behind the blocks
  pub behind_apart : (k : ℕ) → 16 * z.blocks ≤ k → IsApart s k
  behind_apart k le m r busy e =
      let p = (fine.placed r busy).1 in let u = slot_low m in
      let t = spot_fits z (s.object r).block (slot m) p (omega arith) in omega arith

  pub cells_apart : (c : Cell) → IsKept s c → IsApart s (cell_at z s c)
  cells_apart (Free c) kept = behind_apart (cell_at z s (Free c)) (omega arith)
  cells_apart (Member o m) kept = body_apart (s.object o).block (7 + m) (fine.placed o kept.1).1.0 (omega arith) (let t = kept.0 in omega arith)

module _ {A : Type 0} where
  -- what is set twice
  pub set_again : (l : List A) (i : ℕ) (a b : A) → set (set l i a) i b ≡ set l i b
  set_again [] i a b = refl
  set_again (x ∷ xs) zero a b = refl
  set_again (x ∷ xs) (suc i) a b = ap (λ l. x ∷ l) (set_again xs i a b)

  pub set_found : (l : List A) (i : ℕ) (a b : A) → get_elem? l i ≡ some a → get_elem? (set l i b) i ≡ some b
  set_found [] i a b e = absurd (Prelude.some-ne-none a (sym e))
  set_found (x ∷ xs) zero a b e = refl
  set_found (x ∷ xs) (suc i) a b e = set_found xs i a b e
