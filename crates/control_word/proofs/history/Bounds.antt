-- How many handles are in cells: at most one object a block is there, with the members of its domain.
use Rattle.std.proofs.Common.{◌≡◌, ℕ, zero, suc, ◌+◌, ◌*◌, ◌<◌, ◌≤◌, ◌≢◌, ◌⊎◌, List, [], ◌∷◌, nat_lt, ◌-◌}
use Rattle.std.proofs.Common.{◌==◌, cond, length, sym, refl, ap, ◌∙◌, inl, inr, ⊎_elim, arith, false, ne_eqb}
use Rattle.control_word.proofs.Prelude.{cases_eq, cases_lt, common, cond_both, cond-false, cond-true, same_kind}
use Rattle.control_word.proofs.Prelude.{empty, ending, gone, handle, eqb-false}
use Rattle.control_word.proofs.Prelude.{in_cells, is_on, Kind, kind_of_member, live, members, more}
use Rattle.control_word.proofs.Prelude.{NumberedHandle, Object, Opening, Owner, Phase, State}
use Rattle.control_word.proofs.Prelude.{sum_below, tally, unmade, upto, Weak}
use Rattle.std.proofs.Math.Nat.{mul-add, mul-le-mul_left}
use Rattle.std.proofs.lemmas.Bool.{le-ltb, lt-ltb}
use Rattle.control_word.proofs.history.Making.{empty_counts}
use Rattle.control_word.proofs.history.Soundness.{Formed, IsBusy, Sound}
use Rattle.control_word.proofs.lists.Sums.{num_length, sum_zero}
use Rattle.control_word.proofs.lists.Tallies.{tally_append, tally_upto_empty}
use Rattle.control_word.specs.Limits.{most_members}
use Rattle.std.proofs.Common.{Option}
use Rattle.control_word.proofs.Prelude.{Place}

-- where g is f, and at most one more at a single place
sum_one_more : (n p : ℕ) (f g : ℕ → ℕ) → ((i : ℕ) → i ≢ p → g i ≤ f i) → ((i : ℕ) → g i ≤ f i + 1)
    → (sum_below n g ≤ sum_below n f + 1) × (n ≤ p → sum_below n g ≤ sum_below n f)
sum_one_more zero p f g low one = (omega arith, λ le. omega arith)
sum_one_more (suc n) p f g low one =
    let ih = sum_one_more n p f g low one in (
      ⊎_elim (λ (e : n ≡ p). let a = ih.1 (omega arith) in let b = one n in omega arith)
          (λ (ne : n ≢ p). let a = low n ne in let b = ih.0 in omega arith) (cases_eq n p),
      λ le. let a = low n (λ e. omega arith) in let b = ih.1 (omega arith) in omega arith,
    )

pub common_one : (p : Phase) → common p ≤ 1
common_one unmade = omega arith
common_one live = omega arith
common_one gone = omega arith
common_one (ending d) = omega arith

pub tally_length : (k : Kind) (q : ℕ) (l : List NumberedHandle) → tally k q l ≤ length l
tally_length k q l = num_length (is_on k q) l

one_few : (k : Kind) (q : ℕ) (x : NumberedHandle) → tally k q (x ∷ []) ≤ 1
one_few k q x = tally_length k q (x ∷ [])

free_few : (k : Kind) (q : ℕ) (f : ℕ → NumberedHandle) (n : ℕ) → tally k q (upto n (λ c. f c ∷ [])) ≤ n
free_few k q f zero = omega arith
free_few k q f (suc n) =
    omega (arith, tally_append k q (f n ∷ []) (upto n (λ c. f c ∷ [])), one_few k q (f n), free_few k q f n)

-- a weak handle is no owner, and an owner no weak handle
other_kind : (k m : Kind) (q : ℕ) (x : NumberedHandle) → x.kind ≡ m → same_kind k m ≡ false → tally k q (x ∷ []) ≡ 0
other_kind k m q x e ne =
    ap (λ (n : Kind). tally k q (handle n x.object x.place ∷ [])) e ∙ go k m x.object x.place ne
  where
    go : (k m : Kind) (o : Option ℕ) (p : Option Place) → same_kind k m ≡ false → tally k q (handle m o p ∷ []) ≡ 0
    go Owner Owner o p ne = cc
    go Owner Weak o p ne = refl
    go Weak Owner o p ne = refl
    go Weak Weak o p ne = cc

-- `up` is weak, and so are the members behind all owners; the others are owners
pub weak_member : (w n : ℕ) → (n ≡ 2) ⊎ (w < n) → kind_of_member w n ≡ Weak
weak_member w n why =
    cond_both (n == 2) Weak (cond (nat_lt w n) Weak Owner) (λ k. k ≡ Weak) (λ e. refl)
    (λ e. ⊎_elim (λ two. absurd (eqb-false n 2 e two)) (λ lt. cond-true (nat_lt w n) Weak Owner (lt-ltb w n lt)) why)

pub owner_member : (w n : ℕ) → n ≢ 2 → n ≤ w → kind_of_member w n ≡ Owner
owner_member w n ne le = cond-false (n == 2) Weak (cond (nat_lt w n) Weak Owner) (ne_eqb n 2 ne)
    ∙ cond-false (nat_lt w n) Weak Owner (le-ltb w n le)

none_few : (w : ℕ) (k : Kind) (q : ℕ) (x : Object) → ((m : ℕ) → m < most_members → x.member m ≡ empty (kind_of_member w m))
    → tally k q (members x) ≡ 0
none_few w k q x cleared =
    tally_upto_empty k q most_members (λ m. x.member m ∷ [])
    (λ m lt. ap (λ (h : NumberedHandle). tally k q (h ∷ [])) (cleared m lt) ∙ empty_counts k (kind_of_member w m) q [])

module _ (z : Opening) (s : State) (sound : Sound z s) where
  -- 1 where the object is there or is ending, in one of the first b blocks
  pub there : ℕ → ℕ → ℕ
  there b o = go (cases_lt b (s.object o).block)
    where
      go : (b < (s.object o).block) ⊎ ((s.object o).block ≤ b) → ℕ
      go (inl x) = 0
      go (inr x) = common (s.object o).phase

  there_in : (b o : ℕ) → (s.object o).block ≤ b → there b o ≡ common (s.object o).phase
  unfolding there
  there_in b o le = go (cases_lt b (s.object o).block) refl
    where
      go : (t : (b < (s.object o).block) ⊎ ((s.object o).block ≤ b)) → cases_lt b (s.object o).block ≡ t
          → there b o ≡ common (s.object o).phase
      go (inl x) e = absurd (omega arith)
      go (inr x) e = rw e refl

  there_out : (b o : ℕ) → b < (s.object o).block → there b o ≡ 0
  unfolding there
  there_out b o lt = go (cases_lt b (s.object o).block) refl
    where
      go : (t : (b < (s.object o).block) ⊎ ((s.object o).block ≤ b)) → cases_lt b (s.object o).block ≡ t
          → there b o ≡ 0
      go (inl x) e = rw e refl
      go (inr x) e = absurd (omega arith)

  there_low : (b o : ℕ) → there b o ≤ common (s.object o).phase
  there_low b o =
      ⊎_elim (λ lt. let t = there_out b o lt in omega arith) (λ le. let t = there_in b o le in omega arith)
      (cases_lt b (s.object o).block)

  placed_there : (o : ℕ) → 0 < common (s.object o).phase
      → (s.latest (s.object o).block ≡ o) × (0 < (s.object o).block) × ((s.object o).block ≤ z.blocks)
  placed_there o more = let b : IsBusy s o = omega arith in let p = sound.placed o b in (p.0, p.1.0, p.1.1)

  -- of one block more, only its latest object may be more
  there_step : (b o : ℕ) → o ≢ s.latest (suc b) → there (suc b) o ≤ there b o
  there_step b o ne =
      let x = s.object o in
      let low = there_low (suc b) o in
      ⊎_elim
      (λ (lt : b < x.block).
      ⊎_elim (λ (more : suc b < x.block). let t = there_out (suc b) o more in omega arith)
      (λ (le : x.block ≤ suc b).
      let e : x.block ≡ suc b = omega arith in
      ⊎_elim (λ (none : common x.phase ≡ 0). omega arith)
      (λ n. absurd (ne (sym (placed_there o (omega arith)).0 ∙ ap s.latest e))) (cases_eq (common x.phase) 0))
      (cases_lt (suc b) x.block))
      (λ (le : x.block ≤ b). let t = there_in b o le in omega arith)
      (cases_lt b x.block)

  -- no object is in the first 0 blocks
  there_none : (o : ℕ) → there 0 o ≡ 0
  there_none o =
      let x = s.object o in
      ⊎_elim (λ lt. there_out 0 o lt)
      (λ le.
      let u = there_low 0 o in
      ⊎_elim (λ (e : common x.phase ≡ 0). omega arith)
      (λ ne. let p = (placed_there o (omega arith)).1 in absurd (omega arith))
      (cases_eq (common x.phase) 0))
      (cases_lt 0 x.block)

  -- at most one object is there for each block
  there_sum : (b n : ℕ) → sum_below n (there b) ≤ b
  there_sum zero n = let t = sum_zero n (there 0) (λ o lt. there_none o) in omega arith
  there_sum (suc b) n =
      let t = there_sum b n in
      let u = sum_one_more n (s.latest (suc b)) (there b) (there (suc b)) (there_step b)
      (λ o. let a = there_low (suc b) o in let c = common_one (s.object o).phase in omega arith) in
      let w = u.0 in omega arith

  module _ (formed : Formed s) (two : 2 ≤ s.owners) (some' : s.owners < s.members) where
    -- the first n members of an object
    first : ℕ → ℕ → List NumberedHandle
    first o n = upto n (λ m. (s.object o).member m ∷ [])

    -- of them so many are owners
    owners_first : (q o n : ℕ) → let t = tally Owner q (upto n (λ m. (s.object o).member m ∷ [])) in
        (t ≤ n) × (3 ≤ n → t + 1 ≤ n) × (s.owners < n → t ≤ s.owners)
    owners_first q o zero = (omega arith, λ le. absurd (omega arith), λ lt. omega arith)
    owners_first q o (suc n) =
        let x = (s.object o).member n in
        let rest = upto n (λ m. (s.object o).member m ∷ []) in
        let split = tally_append Owner q (x ∷ []) rest in
        let ih = owners_first q o n in
        let a = ih.0 in let b = ih.1 in let c = ih.2 in
        let one = one_few Owner q x in
        let weak = λ (why : (n ≡ 2) ⊎ (s.owners < n)).
        other_kind Owner Weak q x ((formed.members o n).1 ∙ weak_member s.owners n why) refl in
        ⊎_elim
        (λ (e : n ≡ 2). let none = weak (inl e) in (omega arith, λ le. omega arith, λ lt. omega arith))
        (λ (ne : n ≢ 2).
        ⊎_elim
        (λ (lt : s.owners < n). let none = weak (inr lt) in let d = b (omega arith) in let e = c lt in
        (omega arith, λ le. omega arith, λ more. omega arith))
        (λ (le : n ≤ s.owners). (
          omega arith,
          λ more. let d = b (omega arith) in omega arith,
          λ lt. let d = b (omega arith) in omega arith,
        ))
        (cases_lt s.owners n))
        (cases_eq n 2)

    -- and so many weak
    weaks_first : (q o n : ℕ) → let t = tally Weak q (upto n (λ m. (s.object o).member m ∷ [])) in
        (n ≤ 2 → t ≡ 0) × (n ≤ s.owners + 1 → t ≤ 1) × (s.owners < n → n ≤ s.members → t + s.owners ≤ n)
        × (s.members ≤ n → t + s.owners ≤ s.members)
    weaks_first q o zero = (λ le. refl, λ le. omega arith, λ lt le. absurd (omega arith), λ le. absurd (omega arith))
    weaks_first q o (suc n) =
        let x = (s.object o).member n in
        let rest = upto n (λ m. (s.object o).member m ∷ []) in
        let split = tally_append Weak q (x ∷ []) rest in
        let ih = weaks_first q o n in
        let a = ih.0 in let b = ih.1 in let c = ih.2 in let d = ih.3 in
        let one = one_few Weak q x in
        let owner = λ (ne : n ≢ 2) (le : n ≤ s.owners).
        other_kind Weak Owner q x ((formed.members o n).1 ∙ owner_member s.owners n ne le) refl in
        ⊎_elim
        (λ (e : n ≡ 2). let t = a (omega arith) in (
          λ le. absurd (omega arith),
          λ le. omega arith,
          λ lt le. omega arith,
          λ le. omega arith,
        ))
        (λ (ne : n ≢ 2).
        ⊎_elim
        (λ (lt : s.owners < n).
        ⊎_elim
        (λ (few : n < s.members).
        let t = c lt (omega arith) in
        (λ le. absurd (omega arith), λ le. absurd (omega arith), λ lt' le. omega arith, λ le. omega arith))
        (λ (beyond : s.members ≤ n).
        let none = ap (λ (h : NumberedHandle). tally Weak q (h ∷ [])) (sound.unused o n beyond)
        ∙ empty_counts Weak (kind_of_member s.owners n) q [] in
        let t = d beyond in
        (λ le. absurd (omega arith), λ le. absurd (omega arith), λ lt' le. absurd (omega arith), λ le. omega arith))
        (cases_lt n s.members))
        (λ (le : n ≤ s.owners).
        let none = owner ne le in let t = b (omega arith) in (
          λ le'. let u = a (omega arith) in omega arith,
          λ le'. omega arith,
          λ lt le'. omega arith,
          λ le'. omega arith,
        ))
        (cases_lt s.owners n))
        (cases_eq n 2)

    members_few : (q o : ℕ)
        → (tally Owner q (members (s.object o)) ≤ s.owners * there z.blocks o)
        × (tally Weak q (members (s.object o)) ≤ (s.members - s.owners) * there z.blocks o)
    members_few q o =
        let x = s.object o in
        ⊎_elim
        (λ (e : common x.phase ≡ 0).
        let t = λ (k : Kind). none_few s.owners k q x (λ m lt. sound.cleared o m lt e) in
        let a = t Owner in let b = t Weak in (omega arith, omega arith))
        (λ ne.
        let p = placed_there o (omega arith) in
        let t = there_in z.blocks o p.2 in
        let c = common_one x.phase in
        let one : there z.blocks o ≡ 1 = omega arith in
        let few = sound.few in
        let a = (owners_first q o most_members).2 (omega arith) in let b = (weaks_first q o most_members).3 few in
        let u = ap (λ n. s.owners * n) one in let w = ap (λ n. (s.members - s.owners) * n) one in (omega arith, omega arith))
        (cases_eq (common x.phase) 0)

    all_members : (q n : ℕ)
        → (tally Owner q (upto n (λ o. members (s.object o))) ≤ s.owners * sum_below n (there z.blocks))
        × (tally Weak q (upto n (λ o. members (s.object o))) ≤ (s.members - s.owners) * sum_below n (there z.blocks))
    all_members q zero = (omega arith, omega arith)
    all_members q (suc n) =
        let rest = upto n (λ o. members (s.object o)) in
        let a = members_few q n in let ih = all_members q n in
        let a0 = a.0 in let a1 = a.1 in let b0 = ih.0 in let b1 = ih.1 in
        let c = mul-add s.owners (there z.blocks n) (sum_below n (there z.blocks)) in
        let d = mul-add (s.members - s.owners) (there z.blocks n) (sum_below n (there z.blocks)) in (
          omega (arith, tally_append Owner q (members (s.object n)) rest),
          omega (arith, tally_append Weak q (members (s.object n)) rest),
        )

    -- as many owners as free cells and owner members of all blocks, and as many weak handles as cells and weak members
    pub in_cells_few : (q : ℕ)
        → (tally Owner q (in_cells s) ≤ s.cells + s.owners * z.blocks)
        × (tally Weak q (in_cells s) ≤ s.cells + (s.members - s.owners) * z.blocks)
    in_cells_few q =
        let cells = upto s.cells (λ c. s.cell c ∷ []) in
        let rest = upto (suc s.made) (λ o. members (s.object o)) in
        let t = all_members q (suc s.made) in
        let u = there_sum z.blocks (suc s.made) in
        let v = mul-le-mul_left s.owners u in let w = mul-le-mul_left (s.members - s.owners) u in
        let a = t.0 in let b = t.1 in (
          omega (arith, tally_append Owner q cells rest, free_few Owner q s.cell s.cells),
          omega (arith, tally_append Weak q cells rest, free_few Weak q s.cell s.cells),
        )
