-- What is left of tasks that suit suits where the thread is.
use Rattle.std.proofs.Common.{◌≡◌, ℕ, zero, suc, ◌+◌, Bool, List, [], ◌∷◌, drop, slice_get, Some}
use Rattle.std.proofs.Common.{sym, refl, ap, ◌∙◌, subst, arith}
use Rattle.script_runner.proofs.Prelude.{AllSuit, CellName, Kind, Stance, Task, task}
use Rattle.script_runner.proofs.Stepping.{drop_at}
use Rattle.step_threads.specs.declared.programs.act.Act.TheVariants as act

-- the first of what is left
first_left : {A : Type 0} (xs : List A) (n : ℕ) → slice_get (drop n xs) 0 ≡ slice_get xs n
first_left xs zero = refl
first_left [] (suc n) = refl
first_left (x ∷ xs) (suc n) = first_left xs n

-- and the one after it
second_left : {A : Type 0} (xs : List A) (n : ℕ) → slice_get (drop n xs) 1 ≡ slice_get xs (n + 1)
second_left xs zero = ap (slice_get xs) (let e : 1 ≡ zero + 1 = omega arith in e)
second_left [] (suc n) = refl
second_left (x ∷ xs) (suc n) =
    second_left xs n ∙ ap (λ k. slice_get (x ∷ xs) k) (let e : suc (n + 1) ≡ suc n + 1 = omega arith in e)

module _ (ks : List Kind) (ts : List Task) where
  -- the next task suits, goes on as it should, and those after it suit where the thread is then
  pub suits_at : (x : Stance) (at : ℕ) (t : Task) → slice_get ts at ≡ Some t → AllSuit ks x (drop at ts) → AllSuit ks x (t ∷ drop (at + 1) ts)
  suits_at x at t is suit = subst (AllSuit ks x) (drop_at ts at t is) suit

  -- a comparison, and the two tasks that go on with it
  module _ (x : Stance) (at k i : ℕ) (c : CellName) (weak : Bool) (is : slice_get ts at ≡ Some (task k (act.Compare i c weak)))
      (suit : AllSuit ks x (drop at ts)) where
    pub put_next : slice_get ts (at + 1) ≡ Some (task k (act.Put i))
    put_next =
        let next = suits_at x at (task k (act.Compare i c weak)) is suit in sym (first_left ts (at + 1)) ∙ next.1.0

    pub drop_next : slice_get ts (at + 2) ≡ Some (task k act.Drop)
    drop_next =
        let next = suits_at x at (task k (act.Compare i c weak)) is suit in
        let both : at + 1 + 1 ≡ at + 2 = omega arith in
        subst (λ n. slice_get ts n ≡ Some (task k act.Drop)) both (sym (second_left ts (at + 1)) ∙ next.1.1)
