-- The cells that hold an object, one after another.
use Rattle.std.proofs.Common.{◌≡◌, ℕ, suc, ◌+◌, ◌≢◌, List, [], ◌∷◌, ◌++◌, ◌==◌, slice_index}
use Rattle.std.proofs.Common.{sym, refl, ap, ◌∙◌, arith, eq-eqb, ne_eqb}
use Rattle.control_block.proofs.Prelude.{block_holders, CellAt, CensusNow, cond-false, cond-true}
use Rattle.control_block.proofs.Prelude.{free_cell, free_holders, if_holds, member_holders}
use Rattle.control_block.proofs.Prelude.{owned_at, site_place}
use Rattle.control_block.specs.Holders.{member_cell, some_members}
use Rattle.control_word.specs.Packing.{owned_in}

pub none_right : {A : Type 0} → (l : List A) → l ++ [] ≡ l
none_right [] = refl
none_right (x ∷ xs) = ap (λ l. x ∷ l) (none_right xs)

join : {A : Type 0} → (x y z : List A) → (x ++ y) ++ z ≡ x ++ (y ++ z)
join [] y z = refl
join (u ∷ us) y z = ap (λ l. u ∷ l) (join us y z)

module _ (c : CensusNow) (b : ℕ) where
  pub one_more : (x : CellAt) (w : ℕ) (old next : List CellAt) → w ≡ slice_index c.words (site_place c.blocks x.site)
      → owned_in w ≡ b → next ≡ old ++ x ∷ [] → next ≡ old ++ if_holds c b x
  one_more x w old next word is e =
      let t : owned_at c x.site ≡ b = ap owned_in (sym word) ∙ is in
      e ∙ ap (λ l. old ++ l) (sym (cond-true (owned_at c x.site == b) (x ∷ []) [] (eq-eqb (owned_at c x.site) b t)))

  pub none_more : (x : CellAt) (w : ℕ) (old : List CellAt) → w ≡ slice_index c.words (site_place c.blocks x.site)
      → owned_in w ≢ b → old ≡ old ++ if_holds c b x
  none_more x w old word isnt =
      let t : owned_at c x.site ≢ b = λ e. isnt (ap owned_in word ∙ e) in
      sym (none_right old)
      ∙ ap (λ l. old ++ l) (sym (cond-false (owned_at c x.site == b) (x ∷ []) [] (ne_eqb (owned_at c x.site) b t)))

  pub next_free : (n : ℕ) (start so_far next : List CellAt) → so_far ≡ start ++ free_holders c b n
      → next ≡ so_far ++ if_holds c b (free_cell c n) → next ≡ start ++ free_holders c b (n + 1)
  next_free n start so_far next p q =
      let e : suc n ≡ n + 1 = omega arith in
      q ∙ (ap (λ l. l ++ if_holds c b (free_cell c n)) p
      ∙ (join start (free_holders c b n) (if_holds c b (free_cell c n)) ∙ ap (λ i. start ++ free_holders c b i) e))

  pub next_member : (n m : ℕ) (start so_far next : List CellAt) → so_far ≡ start ++ some_members c b n m
      → next ≡ so_far ++ if_holds c b (member_cell c n m) → next ≡ start ++ some_members c b n (m + 1)
  next_member n m start so_far next p q =
      let e : suc m ≡ m + 1 = omega arith in
      q ∙ (ap (λ l. l ++ if_holds c b (member_cell c n m)) p
      ∙ (join start (some_members c b n m) (if_holds c b (member_cell c n m)) ∙ ap (λ i. start ++ some_members c b n i) e))

  pub next_block : (n k : ℕ) (start so_far next : List CellAt) → k ≡ n + 1 → so_far ≡ start ++ member_holders c b n
      → next ≡ so_far ++ block_holders c b k → next ≡ start ++ member_holders c b (n + 1)
  next_block n k start so_far next is p q =
      let e : suc n ≡ n + 1 = omega arith in
      q ∙ (ap (λ i. so_far ++ block_holders c b i) (is ∙ sym e)
      ∙ (ap (λ l. l ++ block_holders c b (suc n)) p
      ∙ (join start (member_holders c b n) (block_holders c b (suc n)) ∙ ap (λ i. start ++ member_holders c b i) e)))
