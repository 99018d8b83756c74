-- A worker's acts, one after another.
use Rattle.std.proofs.Common.{◌≡◌, ℕ, zero, suc, ◌+◌, Bool, true, false, ◌⊎◌, List, [], ◌∷◌, ◌++◌}
use Rattle.std.proofs.Common.{drop, IfSome, IfNone, slice_get, Some, None, Option, sym, ap, ◌∙◌}
use Rattle.std.proofs.Common.{subst, inl, inr, arith}
use Rattle.script_runner.proofs.Prelude.{Act, ActResult, CellName, Ended, GoesOnWith, IsCompared}
use Rattle.script_runner.proofs.Prelude.{IsDealt, IsSettledBy, IsTop, Said, statement_says}
use Rattle.script_runner.proofs.Prelude.{TableNow, Task, task, told_line}
use Rattle.script_runner.proofs.Onward.{compared_on, deal_on, differs_on, line}
use Rattle.script_runner.proofs.Settles.{then_settled}
use Rattle.step_threads.specs.declared.programs.act.Act.TheVariants as act
use Rattle.step_threads.specs.declared.said.Answer.TheVariants as answer

pub or_then : {A B C : Type 0} → A ⊎ B → (B → C) → A ⊎ C
or_then (inl a) f = inl a
or_then (inr b) f = inr (f b)

pub drop_at : {A : Type 0} (xs : List A) (n : ℕ) (x : A) → slice_get xs n ≡ Some x → drop n xs ≡ x ∷ drop (n + 1) xs
drop_at [] n x e = absurd cc
drop_at (y ∷ xs) zero x e = ap (λ z. z ∷ xs) (some_same y x e)
  where
    or_else : {A : Type 0} → A → Option A → A
    or_else a None = a
    or_else a (Some b) = b

    some_same : {A : Type 0} (a b : A) → Some a ≡ Some b → a ≡ b
    some_same a b e = ap (or_else a) e
drop_at (y ∷ xs) (suc n) x e = drop_at xs n x e ∙ ap (λ k. x ∷ drop k (y ∷ xs)) (let q : suc (n + 1) ≡ suc n + 1 = omega arith in q)

pub two_at : {A : Type 0} (xs : List A) (n : ℕ) (x y : A) → slice_get xs n ≡ Some x → slice_get xs (n + 1) ≡ Some y
    → drop n xs ≡ x ∷ y ∷ drop (n + 2) xs
two_at xs n x y e f =
    drop_at xs n x e ∙ ap (λ l. x ∷ l) (drop_at xs (n + 1) y f ∙ ap (λ k. y ∷ drop k xs) (let q : n + 1 + 1 ≡ n + 2 = omega arith in q))

pub three_at : {A : Type 0} (xs : List A) (n : ℕ) (x y z : A) → slice_get xs n ≡ Some x → slice_get xs (n + 1) ≡ Some y
    → slice_get xs (n + 2) ≡ Some z → drop n xs ≡ x ∷ y ∷ z ∷ drop (n + 3) xs
three_at xs n x y z e f g =
    two_at xs n x y e f ∙ ap (λ l. x ∷ y ∷ l) (drop_at xs (n + 2) z g ∙ ap (λ k. z ∷ drop k xs) (let q : n + 2 + 1 ≡ n + 3 = omega arith in q))

module _ (hand k : ℕ) (t t' v : TableNow ℕ) (same : t' ≡ t) (none : t'.endings ≡ []) where
  pub act_settled : (u : TableNow ℕ) (taken : Bool) (a : Act) (x : ActResult) (log said lines : List Said) (after takes : Bool)
      → IsDealt hand t' taken a x v → after ≡ x.taken → said ≡ log ++ told_line (statement_says k x) → takes ≡ after
      → IsSettledBy hand k after v said u lines
      → (todo : List Task) → GoesOnWith hand t taken (task k a ∷ todo) log u takes todo lines
  act_settled u taken a x log said lines after takes d e f h s todo =
      subst (λ b. GoesOnWith hand t taken (task k a ∷ todo) log u b todo lines) (sym (h ∙ e))
      (subst (λ q. GoesOnWith hand q taken (task k a ∷ todo) log u x.taken todo lines) same
      (then_settled hand k t' v u taken x.taken (task k a ∷ []) log (told_line (statement_says k x)) lines said
      (deal_on hand k t' v none taken a x d) f (subst (λ b. IsSettledBy hand k b v said u lines) e s) todo))

  module _ (u w : TableNow ℕ) (i : ℕ) (c : CellName) (weak : Bool) (e : Option Ended) (bare : IfNone e (v.endings ≡ []))
      (some : IfSome e (IsTop v)) (then : w ≡ v) (log said lines : List Said) (after takes swapped : Bool)
      (is : IsCompared hand t' i c weak swapped v) (a : after ≡ false)
      (f : said ≡ log ++ (line k (Some (answer.Compared swapped)) None ++ line k None e)) (h : takes ≡ after)
      (s : IsSettledBy hand k after w said u lines) where
    done : IsSettledBy hand k false v said u lines
    done = subst (λ q. IsSettledBy hand k false q said u lines) then (subst (λ b. IsSettledBy hand k b w said u lines) a s)

    pub swapped_settled : swapped ≡ true → (todo : List Task)
        → GoesOnWith hand t true (task k (act.Compare i c weak) ∷ task k (act.Put i) ∷ task k act.Drop ∷ todo) log u takes todo lines
    swapped_settled so todo =
        let y = subst (λ b. IsCompared hand t' i c weak b v) so is in
        subst (λ b. GoesOnWith hand t true (task k (act.Compare i c weak) ∷ task k (act.Put i) ∷ task k act.Drop ∷ todo) log u b todo
        lines) (sym (h ∙ a))
        (subst (λ q. GoesOnWith hand q true (task k (act.Compare i c weak) ∷ task k (act.Put i) ∷ task k act.Drop ∷ todo) log u false todo lines) same
        (then_settled hand k t' v u true false (task k (act.Compare i c weak) ∷ task k (act.Put i) ∷ task k act.Drop ∷ []) log
        (line k (Some (answer.Compared true)) None ++ line k None e) lines said
        (compared_on hand k t' v none i c weak e bare some y.0 y.1)
        (f ∙ ap (λ b. log ++ (line k (Some (answer.Compared b)) None ++ line k None e)) so) done todo))

    pub differs_settled : swapped ≡ false → (todo : List Task)
        → GoesOnWith hand t true (task k (act.Compare i c weak) ∷ task k (act.Put i) ∷ todo) log u takes todo lines
    differs_settled so todo =
        let y = subst (λ b. IsCompared hand t' i c weak b v) so is in
        subst (λ b. GoesOnWith hand t true (task k (act.Compare i c weak) ∷ task k (act.Put i) ∷ todo) log u b todo lines) (sym (h ∙ a))
        (subst (λ q. GoesOnWith hand q true (task k (act.Compare i c weak) ∷ task k (act.Put i) ∷ todo) log u false todo lines) same
        (then_settled hand k t' v u true false (task k (act.Compare i c weak) ∷ task k (act.Put i) ∷ []) log
        (line k (Some (answer.Compared false)) None ++ line k None e) lines said
        (differs_on hand k t' v none i c weak e bare some y.0 y.1)
        (f ∙ ap (λ b. log ++ (line k (Some (answer.Compared b)) None ++ line k None e)) so) done todo))
