-- Who holds the objects of all blocks, one cell after another.
use Rattle.std.proofs.Common.{◌≡◌, ◌≢◌, ℕ, zero, suc, ◌+◌, ◌-◌, ◌<◌, List, [], ◌∷◌, ◌++◌, length}
use Rattle.std.proofs.Common.{get_or, set, slice_index, sym, refl, ap, ◌∙◌, subst, arith}
use Rattle.std.proofs.Common.{length-append, length-set}
use Rattle.std.proofs.lemmas.Option.{none-some, same_Some, slice_get-get_or, slice_get_within}
use Rattle.std.specs.Prelude.{slice_get, Some}
use Rattle.control_block.proofs.Prelude.{CellAt, CensusNow, filter, filter-append, free_cell}
use Rattle.control_block.proofs.Prelude.{free_holders, if_holds, Kind, many_of, member_holders}
use Rattle.control_block.proofs.Prelude.{block_holders, Owner, owners_in, same_kind, site_place, Weak}
use Rattle.control_block.proofs.closings.HolderLists.{next_block, next_free, next_member, none_more}
use Rattle.control_block.proofs.closings.HolderLists.{none_right, one_more}
use Rattle.control_block.specs.AllHolders.{IsToldOf, Notes, TellsEach}
use Rattle.control_block.specs.Census.{weaks_in}
use Rattle.control_block.specs.Holders.{member_cell, some_members}
use Rattle.control_block.specs.declared.census.holders.Holders.{Holders}
use Rattle.control_word.specs.Packing.{owned_in}

-- what is so of each of a list is so with another one at one place
set_each : {A : Type 0} → (P : ℕ → A → Type 0) (xs : List A) (i : ℕ) (y : A)
    → ((k : ℕ) (z : A) → k ≢ i → slice_get xs k ≡ Some z → P k z) → P i y
    → (k : ℕ) (z : A) → slice_get (set xs i y) k ≡ Some z → P k z
set_each P [] i y others here k z e = absurd (none-some z e)
set_each P (x ∷ xs) zero y others here zero z e = subst (P 0) (same_Some y z e) here
set_each P (x ∷ xs) zero y others here (suc k) z e = others (suc k) z (λ q. omega (arith, q)) e
set_each P (x ∷ xs) (suc i) y others here zero z e = others 0 z (λ q. omega (arith, q)) e
set_each P (x ∷ xs) (suc i) y others here (suc k) z e =
    set_each (λ j. P (suc j)) xs i y (λ j w ne f. others (suc j) w (λ q. ne (omega (arith, q))) f) here k z e

-- and with one more at the end
pushed_each : {A : Type 0} → (P : ℕ → A → Type 0) (xs : List A) (y : A) → ((k : ℕ) (z : A) → slice_get xs k ≡ Some z → P k z) → P (length xs) y
    → (k : ℕ) (z : A) → slice_get (xs ++ y ∷ []) k ≡ Some z → P k z
pushed_each P [] y each here zero z e = subst (P 0) (same_Some y z e) here
pushed_each P [] y each here (suc k) z e = absurd (none-some z e)
pushed_each P (x ∷ xs) y each here zero z e = each 0 z e
pushed_each P (x ∷ xs) y each here (suc k) z e = pushed_each (λ j. P (suc j)) xs y (λ j. each (suc j)) here k z e

many_more : (k : Kind) (l : List CellAt) (x : CellAt) → many_of k (l ++ x ∷ []) ≡ many_of k l + many_of k (x ∷ [])
many_more k l x =
    let p = λ (y : CellAt). same_kind k y.kind in
    ap length (filter-append p l (x ∷ [])) ∙ length-append (filter p l) (filter p (x ∷ []))

fewer : (o a b m n d : ℕ) → a ≡ o - m → b ≡ a - d → n ≡ m + d → b ≡ o - n
fewer o a b m n d p q r = omega (arith, p, q, r)

module _ (c : CensusNow) where
  told_more : (b : ℕ) (l : List CellAt) (x : CellAt) (h g : Holders) → IsToldOf c b l h
      → g.cells.items ≡ h.cells.items ++ x ∷ []
      → g.forgotten.owners ≡ h.forgotten.owners - many_of Owner (x ∷ [])
      → g.forgotten.weaks ≡ h.forgotten.weaks - many_of Weak (x ∷ []) → IsToldOf c b (l ++ x ∷ []) g
  told_more b l x h g t cells owners weaks = record {
    cells = cells ∙ ap (λ q. q ++ x ∷ []) t.cells;
    owners = fewer (owners_in c b) _ _ (many_of Owner l) _ _ t.owners owners (many_more Owner l x);
    weaks = fewer (weaks_in c b) _ _ (many_of Weak l) _ _ t.weaks weaks (many_more Weak l x);
  }

  -- one block more, of which no cell is told
  pub told_pushed : (hs : List Holders) (n : ℕ) (x : Holders) → length hs ≡ n
      → ((k : ℕ) (h : Holders) → slice_get hs k ≡ Some h → IsToldOf c (suc k) [] h) → x.cells.items ≡ []
      → x.forgotten.owners ≡ owners_in c (n + 1) → x.forgotten.weaks ≡ weaks_in c (n + 1)
      → (k : ℕ) (h : Holders) → slice_get (hs ++ x ∷ []) k ≡ Some h → IsToldOf c (suc k) [] h
  told_pushed hs n x size each cells owners weaks =
      let e : n + 1 ≡ suc (length hs) = omega (arith, size) in
      let o = owners ∙ ap (owners_in c) e in let w = weaks ∙ ap (weaks_in c) e in
      pushed_each (λ k h. IsToldOf c (suc k) [] h) hs x each (record { cells = cells; owners = omega (arith, o); weaks = omega (arith, w) })

  module _ (x : CellAt) (w n : ℕ) (hs : List Holders) (l : ℕ → List CellAt)
      (word : w ≡ slice_index c.words (site_place c.blocks x.site)) (owned : n ≡ owned_in w) (t : TellsEach c l hs) where
    beside : (b : ℕ) (h : Holders) → n ≢ b → IsToldOf c b (l b) h → IsToldOf c b (l b ++ if_holds c b x) h
    beside b h ne told = subst (λ q. IsToldOf c b q h) (none_more c b x w (l b) word (λ e. ne (owned ∙ e))) told

    pub noted : (i : ℕ) (h g : Holders) → n ≡ suc i → i < length hs → h ≡ get_or hs i h
        → g.cells.items ≡ h.cells.items ++ x ∷ []
        → g.forgotten.owners ≡ h.forgotten.owners - many_of Owner (x ∷ [])
        → g.forgotten.weaks ≡ h.forgotten.weaks - many_of Weak (x ∷ [])
        → TellsEach c (λ b. l b ++ if_holds c b x) (set hs i g)
    noted i h g is within at cells owners weaks =
        let here : slice_get hs i ≡ Some h = slice_get-get_or hs i h within ∙ ap Some (sym at) in
        let more = told_more (suc i) (l (suc i)) x h g (t.each i h here) cells owners weaks in
        let same = one_more c (suc i) x w (l (suc i)) (l (suc i) ++ x ∷ []) word (sym owned ∙ is) refl in record {
          many = length-set hs i g ∙ t.many;
          each = set_each (λ k z. IsToldOf c (suc k) (l (suc k) ++ if_holds c (suc k) x) z) hs i g
              (λ k z ne e. beside (suc k) z (λ q. ne (omega (arith, q, is))) (t.each k z e))
              (subst (λ q. IsToldOf c (suc i) q g) same more);
        }

    pub not_noted : ((k : ℕ) → k < c.blocks → n ≢ suc k) → TellsEach c (λ b. l b ++ if_holds c b x) hs
    not_noted none = record {
      many = t.many;
      each = λ k h e.
          beside (suc k) h (none k (omega (arith, slice_get_within hs k h e, t.many))) (t.each k h e);
    }

  -- the lists of cells are the same ones
  retold : (l m : ℕ → List CellAt) (hs : List Holders) → ((b : ℕ) → l b ≡ m b) → TellsEach c l hs → TellsEach c m hs
  retold l m hs same t = record {
    many = t.many;
    each = λ k h e. subst (λ q. IsToldOf c (suc k) q h) (same (suc k)) (t.each k h e);
  }

  pub none_noted : (hs : List Holders) → Notes c (λ _. []) hs hs
  none_noted hs = record { tells = λ l t. retold l (λ b. l b ++ []) hs (λ b. sym (none_right (l b))) t }

  then_noted : (x y z : ℕ → List CellAt) (hs gs fs : List Holders)
      → ((l : ℕ → List CellAt) (b : ℕ) → (l b ++ x b) ++ y b ≡ l b ++ z b)
      → Notes c x hs gs → Notes c y gs fs → Notes c z hs fs
  then_noted x y z hs gs fs same p q = record {
    tells = λ l t.
        retold (λ b. (l b ++ x b) ++ y b) (λ b. l b ++ z b) fs (same l) (q.tells (λ b. l b ++ x b) (p.tells l t));
  }

  pub free_noted : (n : ℕ) (x : CellAt) (hs gs fs : List Holders) → x ≡ free_cell c n
      → Notes c (λ b. free_holders c b n) hs gs → Notes c (λ b. if_holds c b x) gs fs
      → Notes c (λ b. free_holders c b (n + 1)) hs fs
  free_noted n x hs gs fs is p q =
      then_noted (λ b. free_holders c b n) (λ b. if_holds c b x) (λ b. free_holders c b (n + 1)) hs gs fs
      (λ l b. next_free c b n (l b) (l b ++ free_holders c b n) _ refl
      (ap (λ y. (l b ++ free_holders c b n) ++ if_holds c b y) is))
      p q

  pub member_noted : (n m : ℕ) (x : CellAt) (hs gs fs : List Holders) → x ≡ member_cell c n m
      → Notes c (λ b. some_members c b n m) hs gs → Notes c (λ b. if_holds c b x) gs fs
      → Notes c (λ b. some_members c b n (m + 1)) hs fs
  member_noted n m x hs gs fs is p q =
      then_noted (λ b. some_members c b n m) (λ b. if_holds c b x) (λ b. some_members c b n (m + 1)) hs gs fs
      (λ l b. next_member c b n m (l b) (l b ++ some_members c b n m) _ refl
      (ap (λ y. (l b ++ some_members c b n m) ++ if_holds c b y) is))
      p q

  pub block_noted : (n k : ℕ) (hs gs fs : List Holders) → k ≡ n + 1
      → Notes c (λ b. member_holders c b n) hs gs → Notes c (λ b. block_holders c b k) gs fs
      → Notes c (λ b. member_holders c b (n + 1)) hs fs
  block_noted n k hs gs fs is p q =
      then_noted (λ b. member_holders c b n) (λ b. block_holders c b k) (λ b. member_holders c b (n + 1)) hs gs fs
      (λ l b. next_block c b n k (l b) (l b ++ member_holders c b n) _ is refl refl)
      p q
