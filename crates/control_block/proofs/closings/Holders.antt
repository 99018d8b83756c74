-- Each handle of an object is in a cell that the census tells of, or in the bag of the desk that closes.
use Rattle.std.proofs.Common.{◌≡◌, ℕ, zero, suc, ◌+◌, ◌-◌, ◌<◌, ◌≤◌, Bool, true, false, cond, ◌≢◌}
use Rattle.std.proofs.Common.{List, [], ◌∷◌, ◌++◌, map, length, nat_lt, ◌==◌, Some, None, Option}
use Rattle.std.proofs.Common.{sym, refl, ap, ◌∙◌, inl, inr, ⊎_elim, arith, length-append, le-ltb}
use Rattle.std.proofs.Common.{lt-ltb, eq-eqb, ne_eqb}
use Rattle.control_block.proofs.Prelude
use Prelude.{block_holders, blocks_of, by_block, cases_eq, cases_lt, cell_busy, CellAt, CensusNow}
use Prelude.{common, cond-false, cond-true, empty, filter, filter-append, free_cell, free_holders}
use Prelude.{frees_in, handle, Has, Held, holders_of, if_holds, in_cells, InShape, IsBusy, Kind}
use Prelude.{kind_of_free, kind_of_member, many_of, member_busy, member_holders, NumberedHandle}
use Prelude.{Object, Opening, owned_at, Owner, Place, same_kind, Sound, State, sum_all}
use Prelude.{sum_below, sum_set, sum_zero, tally, tally_append, TellsCells, Weak, weak_number}
use Rattle.control_word.proofs.history.Soundness.{Formed}
use Rattle.control_word.proofs.lists.Tallies.{tally_cons, tally_upto_empty}
use Rattle.control_word.specs.State.{members, upto}
use Rattle.control_word.specs.Handles.{rank}
use Rattle.control_block.specs.Holders.{member_cell, some_members}

-- lists of one or none
counted : {A : Type 0} (t : Bool) (x : A) → length (cond t (x ∷ []) []) ≡ cond t 1 0
counted true x = refl
counted false x = refl

cond_none : (t : Bool) → ◌≡◌ {A = ℕ} (cond t 0 0) 0
cond_none true = refl
cond_none false = refl

pub many_append : (k : Kind) (xs ys : List CellAt) → many_of k (xs ++ ys) ≡ many_of k xs + many_of k ys
many_append k xs ys =
    ap length (filter-append (λ (x : CellAt). same_kind k x.kind) xs ys)
    ∙ length-append (filter (λ (x : CellAt). same_kind k x.kind) xs) (filter (λ (x : CellAt). same_kind k x.kind) ys)

many_one : (k : Kind) (x : CellAt) (t : Bool) → many_of k (cond t (x ∷ []) []) ≡ cond (same_kind k x.kind) (cond t 1 0) 0
many_one k x true = counted (same_kind k x.kind) x
many_one k x false = sym (cond_none (same_kind k x.kind))

tally_none : (k m : Kind) (o : ℕ) (p : Option Place) → tally k o (handle m None p ∷ []) ≡ 0
tally_none Owner Owner o p = refl
tally_none Owner Weak o p = refl
tally_none Weak Owner o p = refl
tally_none Weak Weak o p = refl

tally_one : (k m : Kind) (o q : ℕ) (p : Option Place)
    → tally k o (handle m (Some q) p ∷ []) ≡ cond (same_kind k m) (cond (o == q) 1 0) 0
tally_one Owner Owner o q p = counted (o == q) (handle Owner (Some q) p)
tally_one Owner Weak o q p = refl
tally_one Weak Owner o q p = refl
tally_one Weak Weak o q p = counted (o == q) (handle Weak (Some q) p)

-- of n lists those from m on hold no such handle
others_empty : (k : Kind) (o m n : ℕ) (f : ℕ → List NumberedHandle) → m ≤ n → ((i : ℕ) → m ≤ i → tally k o (f i) ≡ 0)
    → tally k o (upto n f) ≡ tally k o (upto m f)
others_empty k o m zero f le none = let e : m ≡ 0 = omega arith in ap (λ i. tally k o (upto i f)) (sym e)
others_empty k o m (suc n) f le none =
    ⊎_elim (λ (e : m ≡ suc n). ap (λ i. tally k o (upto i f)) (sym e))
    (λ (ne : m ≢ suc n). omega (
      arith,
      tally_append k o (f n) (upto n f),
      none n (omega arith),
      others_empty k o m n f (omega arith) none,
    )) (cases_eq m (suc n))

module _ (z : Opening) (s : State) (fine : Sound z s) (b : ℕ) where
  here : (q : ℕ) → IsBusy s q → q ≡ s.latest b → blocks_of s q ≡ b
  here q busy e =
      ap (blocks_of s) e
      ∙ fine.latest_in b (λ n. let t = fine.unmade_free 0 fine.none in let u = ap (weak_number s) (e ∙ n) in omega arith)

  -- a busy object lies in the block just where it is the latest there
  pub same_object : (q : ℕ) → IsBusy s q → (blocks_of s q == b) ≡ (s.latest b == q)
  same_object q busy =
      ⊎_elim (λ (e : q ≡ s.latest b). eq-eqb (blocks_of s q) b (here q busy e) ∙ sym (eq-eqb (s.latest b) q (sym e)))
      (λ (ne : q ≢ s.latest b).
      ne_eqb (blocks_of s q) b (λ e. ne (sym (fine.placed q busy).0 ∙ ap s.latest e))
      ∙ sym (ne_eqb (s.latest b) q (λ e. ne (sym e))))
      (cases_eq q (s.latest b))

  block_same : (q : ℕ) → IsBusy s q → (b == blocks_of s q) ≡ (s.latest b == q)
  block_same q busy =
      ⊎_elim (λ (e : q ≡ s.latest b). eq-eqb b (blocks_of s q) (sym (here q busy e)) ∙ sym (eq-eqb (s.latest b) q (sym e)))
      (λ (ne : q ≢ s.latest b).
      ne_eqb b (blocks_of s q) (λ e. ne (sym (fine.placed q busy).0 ∙ ap s.latest (sym e)))
      ∙ sym (ne_eqb (s.latest b) q (λ e. ne (sym e))))
      (cases_eq q (s.latest b))

  -- a cell counts as the handle that it holds
  one_cell : (k : Kind) (c : CensusNow) (x : CellAt) (m : Kind) (n : Option ℕ) (p : Option Place) → 0 < b → x.kind ≡ m
      → owned_at c x.site ≡ rank (blocks_of s) (handle m n p) → ((q : ℕ) → n ≡ Some q → IsBusy s q)
      → many_of k (if_holds c b x) ≡ tally k (s.latest b) (handle m n p ∷ [])
  one_cell k c x m None p pos kind owned busy =
      let e : (owned_at c x.site == b) ≡ false = ne_eqb (owned_at c x.site) b (λ e. let o = owned in omega arith) in
      many_one k x (owned_at c x.site == b)
      ∙ (λ i. cond (same_kind k x.kind) (cond (e i) 1 0) 0)
      ∙ (cond_none (same_kind k x.kind) ∙ sym (tally_none k m (s.latest b) p))
  one_cell k c x m (Some q) p pos kind owned busy =
      let e : (owned_at c x.site == b) ≡ (s.latest b == q) = ap (λ (n : ℕ). n == b) owned ∙ same_object q (busy q refl) in
      many_one k x (owned_at c x.site == b)
      ∙ ((λ i. cond (same_kind k (kind i)) (cond (e i) 1 0) 0) ∙ sym (tally_one k m (s.latest b) q p))

  -- so does a handle in the bag, by its block
  one_hand : (k m : Kind) (n : Option ℕ) (p : Option Place) → ((q : ℕ) → n ≡ Some q → IsBusy s q)
      → tally k (s.latest b) (handle m n p ∷ []) ≡ tally k b (by_block (blocks_of s) (handle m n p) ∷ [])
  one_hand k m None p busy = tally_none k m (s.latest b) p ∙ sym (tally_none k m b p)
  one_hand k m (Some q) p busy =
      let e = block_same q (busy q refl) in
      tally_one k m (s.latest b) q p
      ∙ ((λ i. cond (same_kind k m) (cond (sym e i) 1 0) 0) ∙ sym (tally_one k m b (blocks_of s q) p))

  -- all hands are the desk's
  pub in_bag : (k : Kind) (d : ℕ) (l : List Held) → ((x : Held) → Has x l → x.desk ≡ d)
      → ((x : Held) (q : ℕ) → Has x l → x.handle.object ≡ Some q → IsBusy s q)
      → tally k (s.latest b) (map (λ (x : Held). x.handle) l)
      ≡ tally k b (map (λ (x : Held). by_block (blocks_of s) x.handle) (filter (λ (x : Held). x.desk == d) l))
  in_bag k d [] mine busy = refl
  in_bag k d (x ∷ xs) mine busy =
      let f : Held → NumberedHandle = λ y. by_block (blocks_of s) y.handle in
      let rest = filter (λ (y : Held). y.desk == d) xs in
      let t = cond-true (x.desk == d) (x ∷ rest) rest (eq-eqb x.desk d (mine x (inl refl))) in
      let one = one_hand k x.handle.kind x.handle.object x.handle.place (λ q e. busy x q (inl refl) e) in
      let more = in_bag k d xs (λ y h. mine y (inr h)) (λ y q h e. busy y q (inr h) e) in
      tally_cons k (s.latest b) x.handle (map (λ (y : Held). y.handle) xs)
      ∙ ((λ i. one i + more i) ∙ (sym (tally_cons k b (f x) (map f rest)) ∙ ap (λ l. tally k b (map f l)) (sym t)))

  module _ (k : Kind) (c : CensusNow) (form : Formed s) (tells : TellsCells s c) (pos : 0 < b)
      (sized : (c.blocks ≡ z.blocks) × (c.shared_cells ≡ s.shared) × (frees_in c ≡ s.cells)
      × (c.members ≡ s.members) × (c.owners ≡ s.owners)) where
    in_frees : (n : ℕ) → n ≤ s.cells
        → many_of k (free_holders c b n) ≡ tally k (s.latest b) (upto n (λ i. s.cell i ∷ []))
    in_frees zero le = refl
    in_frees (suc n) le =
        let h = s.cell n in let fits = sized.2 in
        let kind = (λ i. kind_of_free (sized.1 i) n) ∙ sym (form.frees n (omega arith)).1 in
        let one = one_cell k c (free_cell c n) h.kind h.object h.place pos kind (tells.frees n (omega arith))
        (λ q e. cell_busy z s fine n q (omega arith) e) in
        let more = in_frees n (omega arith) in
        omega (
          arith,
          many_append k (free_holders c b n) (if_holds c b (free_cell c n)),
          tally_append k (s.latest b) (h ∷ []) (upto n (λ i. s.cell i ∷ [])),
        )

    in_member : (n m : ℕ) → InShape z n → m < s.members
        → many_of k (if_holds c b (member_cell c n m)) ≡ tally k (s.latest b) ((s.object (s.latest n)).member m ∷ [])
    in_member n m inside lt =
        let o = s.latest n in let h = (s.object o).member m in let size = sized.0 in let made = fine.latest_made n in
        let kind = (λ i. kind_of_member (sized.4 i) m) ∙ sym (form.members o m).1 in let few = fine.few in let same = sized.3 in
        one_cell k c (member_cell c n m) h.kind h.object h.place pos kind
        (tells.members n m (inside.0, let i = inside.1 in omega arith) (omega arith))
        (λ q e. member_busy z s fine o m q (omega arith) (omega arith) e)

    in_members : (n : ℕ) → InShape z n → (m : ℕ) → m ≤ s.members → many_of k (some_members c b n m)
        ≡ tally k (s.latest b) (upto m (λ i. (s.object (s.latest n)).member i ∷ []))
    in_members n inside zero le = refl
    in_members n inside (suc m) le =
        let x = s.object (s.latest n) in
        omega (
          arith,
          in_members n inside m (omega arith),
          in_member n m inside (omega arith),
          many_append k (some_members c b n m) (if_holds c b (member_cell c n m)),
          tally_append k (s.latest b) (x.member m ∷ []) (upto m (λ i. x.member i ∷ [])),
        )

    in_block : (n : ℕ) → InShape z n
        → many_of k (block_holders c b n) ≡ tally k (s.latest b) (members (s.object (s.latest n)))
    in_block n inside =
        let x = s.object (s.latest n) in let f : ℕ → List NumberedHandle = λ i. x.member i ∷ [] in
        ap (λ m. many_of k (some_members c b n m)) sized.3
        ∙ (in_members n inside s.members (omega arith)
        ∙ sym (others_empty k (s.latest b) s.members 9 f fine.few
        (λ i le. ap (λ (h : NumberedHandle). tally k (s.latest b) (h ∷ [])) (fine.unused (s.latest n) i le)
        ∙ tally_none k (kind_of_member s.owners i) (s.latest b) None)))

    -- how many such handles the members of object q are, and those of the object last made in block j + 1
    of_object : ℕ → ℕ
    of_object q = tally k (s.latest b) (members (s.object q))

    in_blocks : (n : ℕ) → n ≤ z.blocks
        → many_of k (member_holders c b n) ≡ sum_below n (λ j. of_object (s.latest (suc j)))
    unfolding of_object
    in_blocks zero le = refl
    in_blocks (suc n) le =
        omega (
          arith,
          in_blocks n (omega arith),
          in_block (suc n) (omega arith, omega arith),
          many_append k (member_holders c b n) (block_holders c b (suc n)),
        )

    in_objects : (n : ℕ) → tally k (s.latest b) (upto n (λ q. members (s.object q))) ≡ sum_below n of_object
    unfolding of_object
    in_objects zero = refl
    in_objects (suc n) =
        omega (
          arith,
          in_objects n,
          tally_append k (s.latest b) (members (s.object n)) (upto n (λ q. members (s.object q))),
        )

    -- an object with such a member is busy
    cleared_none : (x : Object) → ((m : ℕ) → m < 9 → x.member m ≡ empty (kind_of_member s.owners m))
        → tally k (s.latest b) (members x) ≡ 0
    cleared_none x cleared =
        tally_upto_empty k (s.latest b) 9 (λ m. x.member m ∷ [])
        (λ m lt. ap (λ (h : NumberedHandle). tally k (s.latest b) (h ∷ [])) (cleared m lt)
        ∙ tally_none k (kind_of_member s.owners m) (s.latest b) None)

    some_busy : (q : ℕ) → 0 < of_object q → IsBusy s q
    unfolding of_object
    some_busy q some' =
        ⊎_elim
        (λ (e : common (s.object q).phase ≡ 0).
        absurd (let t = cleared_none (s.object q) (λ m lt. fine.cleared q m lt e) in omega arith))
        (λ (ne : common (s.object q).phase ≢ 0). omega arith)
        (cases_eq (common (s.object q).phase) 0)

    -- of the objects last made in the blocks those below n
    below : ℕ → ℕ → ℕ
    below n j = cond (nat_lt (s.latest (suc j)) n) (of_object (s.latest (suc j))) 0

    is_below : (n j : ℕ) → s.latest (suc j) < n → below n j ≡ of_object (s.latest (suc j))
    unfolding below
    is_below n j lt =
        cond-true (nat_lt (s.latest (suc j)) n) (of_object (s.latest (suc j))) 0 (lt-ltb (s.latest (suc j)) n lt)

    not_below : (n j : ℕ) → n ≤ s.latest (suc j) → below n j ≡ 0
    unfolding below
    not_below n j le =
        cond-false (nat_lt (s.latest (suc j)) n) (of_object (s.latest (suc j))) 0 (le-ltb (s.latest (suc j)) n le)

    same_below : (n j : ℕ) → (s.latest (suc j) ≡ n → of_object n ≡ 0) → below (suc n) j ≡ below n j
    same_below n j none =
        ⊎_elim (λ lt. is_below (suc n) j (omega arith) ∙ sym (is_below n j lt))
        (λ le. ⊎_elim
        (λ (e : s.latest (suc j) ≡ n).
        is_below (suc n) j (omega arith) ∙ (ap of_object e ∙ (none e ∙ sym (not_below n j le))))
        (λ (ne : s.latest (suc j) ≢ n). not_below (suc n) j (omega arith) ∙ sym (not_below n j le))
        (cases_eq (s.latest (suc j)) n))
        (cases_lt (s.latest (suc j)) n)

    -- what objects have is what the blocks' last ones have
    by_block_sum : (n : ℕ) → sum_below n of_object ≡ sum_below z.blocks (below n)
    by_block_sum zero = sym (sum_zero z.blocks (below 0) (λ j lt. not_below 0 j (omega arith)))
    by_block_sum (suc n) =
        let before = by_block_sum n in
        ⊎_elim
        (λ (some' : 0 < of_object n).
        let place = fine.placed n (some_busy n some') in
        let inside = place.1 in let low = inside.0 in
        let q = (s.object n).block in
        let is : suc (q - 1) ≡ q = omega arith in
        let at : s.latest (suc (q - 1)) ≡ n = ap s.latest is ∙ place.0 in
        let was = not_below n (q - 1) (omega arith) in
        let now = is_below (suc n) (q - 1) (omega arith) ∙ ap of_object at in
        let made : n ≢ 0 = λ e. let t = fine.unmade_free 0 fine.none in let u = ap (weak_number s) e in
        let w = some_busy n some' in omega arith in
        let rest = sum_set z.blocks (q - 1) (below n) (below (suc n)) (omega arith)
        (λ j lt ne. same_below n j (λ e. absurd (let u = sym (fine.latest_in (suc j) (λ y. made (sym e ∙ y))) in
        let w = ap (blocks_of s) e in ne (omega arith)))) in
        omega arith)
        (λ none. let rest = sum_all z.blocks (below n) (below (suc n)) (λ j lt. same_below n j (λ e. omega arith)) in omega arith)
        (cases_lt 0 (of_object n))

    pub in_all_cells : tally k (s.latest b) (in_cells s) ≡ many_of k (holders_of c b)
    in_all_cells =
        let all = sum_all z.blocks (below (suc s.made)) (λ j. of_object (s.latest (suc j)))
        (λ j lt. sym (is_below (suc s.made) j (let m = fine.latest_made (suc j) in omega arith))) in
        let frees : many_of k (free_holders c b (frees_in c)) ≡ tally k (s.latest b) (upto s.cells (λ i. s.cell i ∷ [])) =
        ap (λ n. many_of k (free_holders c b n)) sized.2 ∙ in_frees s.cells (omega arith) in
        let blocks : many_of k (member_holders c b c.blocks) ≡ sum_below z.blocks (λ j. of_object (s.latest (suc j))) =
        ap (λ n. many_of k (member_holders c b n)) sized.0 ∙ in_blocks z.blocks (omega arith) in
        omega (
          arith,
          tally_append k (s.latest b) (upto s.cells (λ i. s.cell i ∷ [])) (upto (suc s.made) (λ q. members (s.object q))),
          many_append k (free_holders c b (frees_in c)) (member_holders c b c.blocks),
          in_objects (suc s.made),
          by_block_sum (suc s.made),
        )
