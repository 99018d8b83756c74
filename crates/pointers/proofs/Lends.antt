-- What workers had of a desk, and what came back to it.
use Rattle.std.proofs.Common.{◌≡◌, ℕ, zero, suc, ◌+◌, ◌<◌, ◌≤◌, Bool, true, false, List, [], ◌∷◌}
use Rattle.std.proofs.Common.{length, All, sym, refl, ap, ◌∙◌, subst, arith}
use Rattle.pointers.proofs.Prelude.{allowance_of, Answer, AreHired, Bears, Belongs, DeskNow}
use Rattle.pointers.proofs.Prelude.{DomainNow, EachWorked, endings_of, Failed, faults_from}
use Rattle.pointers.proofs.Prelude.{HasShares, IsPartedInto, JoinsAll, Lends, length-map, Team}
use Rattle.pointers.proofs.Prelude.{Worked, Worker}
use Rattle.std.proofs.lemmas.List.Elements.{All-cons, All-nil, length_all_zip}
use Rattle.std.specs.List.{AllZip}
use Rattle.pointers.proofs.Staffs.{desks_of, dones_of}
use Rattle.pointers.specs.Programs.{HasWorked}
use Rattle.pointers.specs.Shares.{GivesBack}

-- by whether it is so
pub either : {X : Type 0} (b : Bool) → (b ≡ true → X) → (b ≡ false → X) → X
either true f g = f refl
either false f g = g refl

module _ {V : Type 0} where
  -- the allowances of desks together, and how much is left to end with them
  abbrev total : List (DeskNow V) → ℕ
  total [] = 0
  total (x ∷ xs) = allowance_of x + total xs

  abbrev ends : List (DeskNow V) → ℕ
  ends [] = 0
  ends (x ∷ xs) = endings_of x + ends xs

  parted : (d : DeskNow V) (a : ℕ) (xs : List (DeskNow V)) (m : DeskNow V) → IsPartedInto d a xs m
      → (allowance_of m + total xs ≡ allowance_of d) × (endings_of m ≡ endings_of d) × (ends xs ≡ 0)
  parted d a [] m p = (let k = ap allowance_of p in omega (arith, k), ap endings_of p, refl)
  parted d a (x ∷ xs) m p =
      let k = parted p.0 a xs m p.2 in let s = p.1.allowance in let n = p.1.count in (
        (let r = k.0 in let s0 = s.0 in let s1 = s.1 in omega (arith, r, s0, s1)),
        k.1 ∙ n.0,
        (let r = k.2 in let n1 = n.1 in omega (arith, r, n1)),
      )

  joined : (d : DeskNow V) (xs : List (DeskNow V)) (e : DeskNow V) → JoinsAll d xs e
      → (allowance_of e ≡ allowance_of d + total xs) × (endings_of e ≡ endings_of d + ends xs)
  joined d [] e j = (let k = ap allowance_of j in omega (arith, k), let k = ap endings_of j in omega (arith, k))
  joined d (x ∷ xs) e j =
      let k = joined d xs j.0 j.1 in let s = j.2.allowance in let n = j.2.endings in
      let a = k.0 in let b = k.1 in (omega (arith, a, s), omega (arith, b, n))

  module _ {P : Type 0} (answers : P → ℕ → Answer) where
    left_whole : (ws xs : List (Worker V P)) → AllZip (Worked answers) ws xs → (total (desks_of xs) ≡ total (desks_of ws)) × (ends (desks_of xs) ≡ 0)
    left_whole [] [] z = (refl, refl)
    left_whole [] (x ∷ xs) z = absurd z
    left_whole (w ∷ ws) [] z = absurd z
    left_whole (w ∷ ws) (x ∷ xs) z =
        let k = left_whole ws xs z.1 in let a = z.0.worked.allowance in let none = ap length z.0.settled in let many = z.0.bears.many in
        let b = k.0 in let c = k.1 in (omega (arith, a, b), omega (arith, none, many, c))

    -- the desk has the allowance that it had, and as much is left to end with it
    pub back_whole : (d m e : DeskNow V) (a : ℕ) (ws xs : List (Worker V P)) (b : Bool) → IsPartedInto d a (desks_of ws) m
        → (b ≡ true → AllZip (Worked answers) ws xs) → (b ≡ false → xs ≡ ws) → JoinsAll m (desks_of xs) e
        → (allowance_of e ≡ allowance_of d) × (endings_of e ≡ endings_of d)
    back_whole d m e a ws xs b parts ran same joins =
        let p = parted d a (desks_of ws) m parts in let j = joined m (desks_of xs) e joins in
        let left : (total (desks_of xs) ≡ total (desks_of ws)) × (ends (desks_of xs) ≡ 0) =
        either b (λ is. left_whole ws xs (ran is))
        (λ is. let k = ap desks_of (same is) in (ap total k, ap ends k ∙ p.2)) in
        let p0 = p.0 in let p1 = p.1 in let j0 = j.0 in let j1 = j.1 in let l0 = left.0 in let l1 = left.1 in
        (omega (arith, p0, j0, l0), omega (arith, p1, j1, l1))

    here_ran : (y : DomainNow) (p : P) (n : ℕ) (ws xs : List (Worker V P)) → AreHired y p n ws → AllZip (Worked answers) ws xs
        → All (λ (w : Worker V P). Belongs w.part.desk y) xs
    here_ran y p n [] [] h z = All-nil (λ (w : Worker V P). Belongs w.part.desk y)
    here_ran y p n [] (x ∷ xs) h z = absurd z
    here_ran y p n (w ∷ ws) [] h z = absurd z
    here_ran y p n (w ∷ ws) (x ∷ xs) h z =
        All-cons (λ (w : Worker V P). Belongs w.part.desk y) x xs
        (subst (Belongs x.part.desk) h.0.here z.0.bears.carries.belongs) (here_ran y p (suc n) ws xs h.1 z.1)

    here_still : (y : DomainNow) (p : P) (n : ℕ) (ws : List (Worker V P)) → AreHired y p n ws → All (λ (w : Worker V P). Belongs w.part.desk y) ws
    here_still y p n [] h = All-nil (λ (w : Worker V P). Belongs w.part.desk y)
    here_still y p n (w ∷ ws) h =
        All-cons (λ (w : Worker V P). Belongs w.part.desk y) w ws h.0.bears.carries.belongs (here_still y p (suc n) ws h.1)

    -- what the workers have is the domain's
    pub back_here : (y : DomainNow) (p : P) (ws xs : List (Worker V P)) (b : Bool) → AreHired y p 0 ws
        → (b ≡ true → AllZip (Worked answers) ws xs) → (b ≡ false → xs ≡ ws) → All (λ (w : Worker V P). Belongs w.part.desk y) xs
    back_here y p ws xs b h ran same =
        either b (λ is. here_ran y p 0 ws xs h (ran is))
        (λ is. subst (All (λ (w : Worker V P). Belongs w.part.desk y)) (sym (same is)) (here_still y p 0 ws h))

    -- and they are as many
    pub back_many : (ws xs : List (Worker V P)) (b : Bool) → (b ≡ true → AllZip (Worked answers) ws xs) → (b ≡ false → xs ≡ ws) → length xs ≡ length ws
    back_many ws xs b ran same = either b (λ is. sym (length_all_zip (Worked answers) ws xs (ran is))) (λ is. ap length (same is))

    each_of : (y : DomainNow) (p : P) (n : ℕ) (ws xs : List (Worker V P)) → AreHired y p n ws → AllZip (Worked answers) ws xs
        → EachWorked (answers p) n (desks_of ws) (dones_of xs) (desks_of xs)
    each_of y p n [] [] h z = tt
    each_of y p n [] (x ∷ xs) h z = absurd z
    each_of y p n (w ∷ ws) [] h z = absurd z
    each_of y p n (w ∷ ws) (x ∷ xs) h z = (
      subst (λ (q : P). HasWorked (answers q n) w.part.desk x.done x.part.desk) h.0.program
          (subst (λ (k : ℕ). HasWorked (answers w.post.program.now k) w.part.desk x.done x.part.desk) h.0.number z.0.worked),
      each_of y p (suc n) ws xs h.1 z.1,
    )

    -- so a desk lent its parts
    pub lends : (y : DomainNow) (p : P) (team : Team) (d m e : DeskNow V) (ws xs : List (Worker V P)) (failed : List Failed) → length ws ≡ team.workers
        → IsPartedInto d (team.pointers + 2) (desks_of ws) m → AreHired y p 0 ws → AllZip (Worked answers) ws xs → JoinsAll m (desks_of xs) e
        → failed ≡ faults_from 0 (dones_of xs) → Lends (answers p) team d failed e
    lends y p team d m e ws xs failed many parts hired ran joins faults =
        record {
          lent = desks_of ws;
          many = length-map ws (λ (w : Worker V P). w.part.desk) ∙ many;
          between = m;
          parts = parts;
          answered = dones_of xs;
          left = desks_of xs;
          each = each_of y p 0 ws xs hired ran;
          joins = joins;
          faults = faults;
        }

  module _ {P : Type 0} where
    bears_from : (y : DomainNow) (p : P) (n : ℕ) (ws : List (Worker V P)) → AreHired y p n ws
        → All (λ (w : Worker V P). Bears w.post.domain.now w.part.desk w.part.pile) ws
    bears_from y p n [] h = All-nil (λ (w : Worker V P). Bears w.post.domain.now w.part.desk w.part.pile)
    bears_from y p n (w ∷ ws) h =
        All-cons (λ (w : Worker V P). Bears w.post.domain.now w.part.desk w.part.pile) w ws
        (subst (λ (z : DomainNow). Bears z w.part.desk w.part.pile) (sym h.0.here) h.0.bears) (bears_from y p (suc n) ws h.1)

    pub hired_bears : (y : DomainNow) (p : P) (ws : List (Worker V P)) → AreHired y p 0 ws
        → All (λ (w : Worker V P). Bears w.post.domain.now w.part.desk w.part.pile) ws
    hired_bears y p ws h = bears_from y p 0 ws h

    -- whatever each was to get, where nobody was there to get it
    pub parts_each : (d m : DeskNow V) (a b w : ℕ) (ws : List (Worker V P)) → length ws ≡ w → (0 < w → a ≡ b) → IsPartedInto d a (desks_of ws) m
        → IsPartedInto d b (desks_of ws) m
    parts_each d m a b w [] many is parts = parts
    parts_each d m a b w (x ∷ xs) many is parts =
        subst (λ (n : ℕ). IsPartedInto d n (desks_of (x ∷ xs)) m) (is (omega (arith, many))) parts

    -- parts that nobody worked with came back
    pub gives_back : (d m e : DeskNow V) (a b w : ℕ) (ws xs : List (Worker V P)) → length ws ≤ w → (0 < w → a ≡ b) → IsPartedInto d a (desks_of ws) m
        → xs ≡ ws → JoinsAll m (desks_of xs) e → GivesBack d b e
    gives_back d m e a b w ws xs few is parts same joins =
        record {
          lent = desks_of ws;
          between = m;
          parts = parts_each d m a b (length ws) ws refl (λ some. is (omega (arith, some, few))) parts;
          joins = subst (λ (l : List (Worker V P)). JoinsAll m (desks_of l) e) same joins;
        }

  pub gives_none : (d : DeskNow V) (a : ℕ) → GivesBack d a d
  gives_none d a = record { lent = []; between = d; parts = refl; joins = refl }

  pub shares_each : (d : DeskNow V) (a b w : ℕ) → 0 < a → (0 < w → a ≡ b) → HasShares d b w → HasShares d a w
  shares_each d a b zero some is shares = let room = shares.room in record { some = some; room = omega (arith, room) }
  shares_each d a b (suc w) some is shares = subst (λ (n : ℕ). HasShares d n (suc w)) (sym (is (omega arith))) shares
