-- A list in a cell is no longer than there are blocks: each of its objects lives in a block of its own.
use Rattle.std.proofs.Common.{◌≡◌, ℕ, ◌-◌, ◌%◌, ◌^◌, ◌<◌, ◌≤◌, Bool, true, false, not, List, []}
use Rattle.std.proofs.Common.{◌∷◌, length, filter, sym, refl, ap, ◌∙◌, subst, inl, inr, ⊎_elim}
use Rattle.std.proofs.Common.{arith}
use Rattle.scene_structures.proofs.Prelude.{AreOwned, cells_led, Chain, common, DeskNow, Free, Has}
use Rattle.scene_structures.proofs.Prelude.{IsLegal, IsPruned, live, NumberedHandle, Opening}
use Rattle.scene_structures.proofs.Prelude.{opening_of, put, put_cases, put_other, Sound, sound}
use Rattle.scene_structures.proofs.Prelude.{State, state_of, sum_below, sum_ones}
use Rattle.control_word.proofs.lists.Sums.{sum_put, sum_zero}
use Rattle.control_word.specs.Limits.{most_blocks}
use Rattle.scene_structures.proofs.Frames.{AllLive, chain_live}
use Rattle.scene_structures.proofs.Sought.{not_below}

-- none is listed twice
abbrev IsSingle : List ℕ → Type 0
IsSingle [] = Unit {0}
IsSingle (o ∷ os) = (Has o os → ⊥) × IsSingle os

single : (s : State) (h : NumberedHandle) (os : List ℕ) → Chain s h os → IsSingle os
single s h [] chain = tt
single s h (o ∷ os) chain = (not_below s h [] os o chain, single s ((s.object o).member 1) os chain.1)

live_at : (s : State) (os : List ℕ) (p : ℕ) → AllLive s os → Has p os → (s.object p).phase ≡ live
live_at s [] p all has = absurd has
live_at s (o ∷ os) p all has =
    ⊎_elim (λ (e : p ≡ o). ap (λ n. (s.object n).phase) e ∙ all.0) (λ (h : Has p os). live_at s os p all.2 h) has

-- 1 for each block that one of them is in
marks : State → List ℕ → ℕ → ℕ
marks s [] = λ j. 0
marks s (o ∷ os) = put (marks s os) ((s.object o).block - 1) 1

once : (s : State) (os : List ℕ) (j : ℕ) → marks s os j ≤ 1
unfolding marks
once s [] j = omega arith
once s (o ∷ os) j = put_cases (λ i (y : ℕ). y ≤ 1) (marks s os) ((s.object o).block - 1) 1 j (λ e. omega arith) (λ n. once s os j)

unmarked : (s : State) (os : List ℕ) (j : ℕ) → ((p : ℕ) → Has p os → j ≡ (s.object p).block - 1 → ⊥) → marks s os j ≡ 0
unfolding marks
unmarked s [] j none = refl
unmarked s (o ∷ os) j none =
    put_other (marks s os) ((s.object o).block - 1) 1 j (λ e. none o (inl refl) e) ∙ unmarked s os j (λ p has. none p (inr has))

module _ (z : Opening) (s : State) (fine : Sound z s) where
  -- one that lives is the last of its block
  lives_in : (p : ℕ) → (s.object p).phase ≡ live → (s.latest (s.object p).block ≡ p) × (0 < (s.object p).block) × ((s.object p).block ≤ z.blocks)
  lives_in p lives =
      let a : common (s.object p).phase ≡ 1 = ap common lives in
      let place = fine.placed p (let k = a in omega arith) in let inside = place.1 in
      (place.0, omega arith, omega arith)

  marked : (os : List ℕ) → AllLive s os → IsSingle os → sum_below z.blocks (marks s os) ≡ length os
  unfolding marks
  marked [] all single' = sum_zero z.blocks (λ j. 0) (λ j lt. refl)
  marked (o ∷ os) all single' =
      let ih = marked os all.2 single'.1 in
      let here = lives_in o all.0 in let low = here.1 in let high = here.2 in
      let b = (s.object o).block in
      let none = unmarked s os (b - 1) (λ p has e.
      let there = lives_in p (live_at s os p all.2 has) in let low' = there.1 in
      let same : b ≡ (s.object p).block = omega arith in
      let is : o ≡ p = sym here.0 ∙ (ap s.latest same ∙ there.0) in
      single'.0 (subst (λ n. Has n os) (sym is) has)) in
      let sum = (sum_put z.blocks (b - 1) 1 (marks s os)).0 (omega arith) in omega arith

  pub few : (h : NumberedHandle) (os : List ℕ) → AllLive s os → Chain s h os → length os ≤ z.blocks
  few h os all chain =
      let a = marked os all (single s h os chain) in let b = sum_ones z.blocks (marks s os) (once s os) in omega arith

module _ {V : Type 0} where
  -- what is told of a list tells of no more than it has
  pub told_few : (d e : DeskNow V) (os : List ℕ) (bs : List Bool) → AreOwned d os bs e → length (filter not bs) ≤ length os
  told_few d e [] [] owned = omega arith
  told_few d e (o ∷ os) (true ∷ bs) owned = let a = told_few owned.0 e os bs owned.3 in omega arith
  told_few d e (o ∷ os) (false ∷ bs) owned = let a = told_few owned.0 e os bs owned.3 in omega arith
  told_few d e [] (b ∷ bs) owned = absurd owned
  told_few d e (o ∷ os) [] owned = absurd owned

  -- so the number that a prune answers is exact where the cell's nodes are a list
  pub exactly : (d e : DeskNow V) (m n count : ℕ) → IsLegal (opening_of d.shape) d.seen → m < (opening_of d.shape).cells
      → (opening_of d.shape).blocks ≤ most_blocks → count ≡ n % 2 ^ 32 → IsPruned d (Free m) n e → IsPruned d (Free m) count e
  exactly d e m n count legal lt limit is pruned os list =
      let z = opening_of d.shape in let s = state_of d in let fine = sound z d.seen legal in
      let cells = cells_led z d.seen in
      let there : m < s.cells = omega arith in
      let lives = chain_live z s (Free m) os fine there list in
      let all = few z s fine (s.cell m) os lives list in
      let t = pruned os list in let some' = told_few d e os t.0 t.1 in let gone = t.3 in
      let same : count ≡ length (filter not t.0) = omega arith in
      (t.0, t.1, t.2, same)
