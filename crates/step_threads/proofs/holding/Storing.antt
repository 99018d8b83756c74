-- What a thread's own atomic steps do to its store.
use Rattle.std.proofs.Common.{◌≡◌, ℕ, ◌<◌, Bool, true, false, cond, ◌≢◌, List, [], ◌∷◌, length}
use Rattle.std.proofs.Common.{◌==◌, sym, refl, ap, ◌∙◌, inl, inr, ⊎_elim, arith, eq-eqb, ne_eqb}
use Rattle.step_threads.proofs.Prelude.{Block, cases_eq, Claim, cond-false, cond-true, cond_both}
use Rattle.step_threads.proofs.Prelude.{filter, Form, ghost_after_step, GhostState, Has}
use Rattle.step_threads.proofs.Prelude.{IsPermutation, Making, model_state, num, num_without, Rest}
use Rattle.step_threads.proofs.Prelude.{same_stored, Stocks, Stored, stored, stored_self}
use Rattle.step_threads.proofs.Prelude.{stored_true, sum_by_popped}
use Rattle.std.proofs.lemmas.Bool.{and_from}

-- what is counted of a store is there
pub counted_stored : (x : Stored) (l : List Stored) → 0 < num (same_stored x) l → Has x l
counted_stored x [] lt = absurd (omega arith)
counted_stored x (y ∷ ys) lt =
    cond_both (same_stored x y) (y ∷ filter (same_stored x) ys) (filter (same_stored x) ys) (λ (r : List Stored). 0 < length r → Has x (y ∷ ys))
    (λ e t. inl (stored_true x y e)) (λ e t. inr (counted_stored x ys t)) lt

pub one_stored : (d b c : ℕ) → num (same_stored (stored d c)) (stored d b ∷ []) ≡ cond (b == c) 1 0
one_stored d b c =
    let e = eq-eqb d d refl in
    ⊎_elim
    (λ (q : b ≡ c). let k : same_stored (stored d c) (stored d b) ≡ true = and_from _ _ e (eq-eqb c b (sym q)) in
    ap length (cond-true (same_stored (stored d c) (stored d b)) (stored d b ∷ []) [] k) ∙ sym (cond-true (b == c) 1 0 (eq-eqb b c q)))
    (λ (n : b ≢ c). let k : same_stored (stored d c) (stored d b) ≡ false = rw (e, ne_eqb c b (λ q. n (sym q))) refl in
    ap length (cond-false (same_stored (stored d c) (stored d b)) (stored d b ∷ []) [] k) ∙ sym (cond-false (b == c) 1 0 (ne_eqb b c n))) (cases_eq b c)

-- the least block goes out, for a making
pub stocks_take : (d : ℕ) (old new : List ℕ) (room i : ℕ) (f : Bool) (v : GhostState) (b : Block) → Stocks d old room Rest v
    → IsPermutation old (b.0 ∷ new)
    → Stocks d new room (Making b i f) v
stocks_take d old new room i f v b stocks p =
    record {
      stocked = λ c. let a = sum_by_popped (λ (x : ℕ). cond (x == c) 1 0) b.0 old new p in let s = stocks.stocked c in omega (arith, a, s);
      roomy = stocks.roomy;
    }

pub taken_stored : (d : ℕ) (old new : List ℕ) (room : ℕ) (v : GhostState) (b : Block) → Stocks d old room Rest v → IsPermutation old (b.0 ∷ new)
    → Has (stored d b.0) (model_state v).stores
taken_stored d old new room v b stocks p =
    let a = sum_by_popped (λ (x : ℕ). cond (x == b.0) 1 0) b.0 old new p in
    let s = stocks.stocked b.0 in
    let c = cond-true {A = ℕ} (b.0 == b.0) 1 0 (eq-eqb b.0 b.0 refl) in
    counted_stored (stored d b.0) (model_state v).stores (omega (arith, a, s, c))

-- the block is made
pub stocks_claim : (d : ℕ) (blocks : List ℕ) (room i : ℕ) (f : Bool) (v : GhostState) (b : Block) (form : Form) → Stocks d blocks room (Making b i f) v
    → Has (stored d b.0) (model_state v).stores → Stocks d blocks room Rest (ghost_after_step v d (Claim b form.enabled form.null form.fields))
stocks_claim d blocks room i f v b form stocks has =
    record {
      stocked = λ c.
          let a = num_without same_stored stored_true stored_self (same_stored (stored d c)) (stored d b.0) (model_state v).stores has in
          let o = one_stored d b.0 c in
          let s = stocks.stocked c in omega (arith, a, o, s);
      roomy = stocks.roomy;
    }
