-- Elements that are copied from one index to another, one after another.
use Rattle.std.proofs.Common.{◌≡◌, ◌⊎◌, ◌+◌, ◌-◌, ◌<◌, ◌≤◌, ℕ, suc, zero, refl, sym, subst, arith, add-one, inl, inr}
use Rattle.std.proofs.Common.{Option, None, Some, Result, Ok, Err, IfOk}
use Rattle.control_block.specs.Desks.{DeskNow}
use Rattle.pointers.specs.Sites.{Site}
use Rattle.pointers.specs.declared.known.Known.{Known}
use Rattle.shared_vec.proofs.EndSteps.{here_or_on}
use Rattle.shared_vec.specs.Changes.{Closes, Copies, Doubles, Inserts, MovesDown, MovesUp, Opens}
use Rattle.shared_vec.specs.Vectors.{Gets, IsEnd, Pops, Pushes, Sets}

module _ {V : Type 0} (o : DeskNow V) where
  pub copies : (s : Site V) (i j : ℕ) (c : Known V) (got r : Option (Known V)) → Gets o s i got → got ≡ Some c
      → Sets o s j c r → Copies o s i j
  copies s i j c got r gets some sets = inr (c, r, subst (Gets o s i) some gets, sets)

  pub doubles : (s : Site V) (i n : ℕ) (c : Known V) (got : Option (Known V)) → Gets o s i got → got ≡ Some c
      → Pushes o s c n → Doubles o s i
  doubles s i n c got gets some pushed = inr (c, n, subst (Gets o s i) some gets, pushed)

  down_at : (s : Site V) (i m k : ℕ) → ((j : ℕ) → i ≤ j → j < m → Copies o s (suc j) j) → Copies o s (suc m) m
      → i ≤ k → k < suc m → (k ≡ m) ⊎ (suc k ≤ m) → Copies o s (suc k) k
  down_at s i m k done copied from below (inl same) = subst (λ (y : ℕ). Copies o s (suc y) y) (sym same) copied
  down_at s i m k done copied from below (inr under) = done k from (omega (arith, under))

  -- from an index on they came one forward below another
  pub down_on : (s : Site V) (i m : ℕ) → ((j : ℕ) → i ≤ j → j < m → Copies o s (suc j) j) → Copies o s (m + 1) m
      → (k : ℕ) → i ≤ k → k < m + 1 → Copies o s (suc k) k
  down_on s i m done copied k from below =
      let here : Copies o s (suc m) m = subst (λ (y : ℕ). Copies o s y m) (add-one m) copied in
      down_at s i m k done here from (omega (arith, below)) (here_or_on k m (omega (arith, below)))

  up_at : (s : Site V) (m n k : ℕ) → ((j : ℕ) → suc m ≤ j → suc j < n → Copies o s j (suc j)) → Copies o s m (suc m)
      → suc k < n → (m ≡ k) ⊎ (suc m ≤ k) → Copies o s k (suc k)
  up_at s m n k done copied below (inl same) = subst (λ (y : ℕ). Copies o s y (suc y)) same copied
  up_at s m n k done copied below (inr over) = done k over below

  -- from an index on they came one further
  pub up_on : (s : Site V) (m n : ℕ) → ((j : ℕ) → m ≤ j → suc j < n → Copies o s j (suc j)) → 0 < m
      → Copies o s (m - 1) m → (k : ℕ) → m - 1 ≤ k → suc k < n → Copies o s k (suc k)
  up_on s zero n done over copied k from below = absurd (omega (arith, over))
  up_on s (suc m) n done over copied k from below =
      let before : suc m - 1 ≡ m = omega arith in
      let here : Copies o s m (suc m) = subst (λ (y : ℕ). Copies o s y (suc m)) before copied in
      let least : m ≤ k = subst (λ (y : ℕ). y ≤ k) before from in
      up_at s m n k done here below (here_or_on m k least)

  pub closes : (s t : Site V) (i n : ℕ) (last : Option (Known V)) → t ≡ s → IsEnd o s n → MovesDown o t i n
      → Pops o t last → Closes o s i
  closes s t i n last same end moves popped = (
    n,
    last,
    end,
    subst (λ (y : Site V). MovesDown o y i n) same moves,
    subst (λ (y : Site V). Pops o y last) same popped,
  )

  pub opens : (s t : Site V) (i n : ℕ) → t ≡ s → Doubles o s (n - 1) → MovesUp o t i n → Opens o s i n
  opens s t i n same doubled moves = (doubled, subst (λ (y : Site V). MovesUp o y i n) same moves)

  -- a pointer at the end, and one below it
  pub inserts_last : (s t : Site V) (i n m : ℕ) (new : Known V) → IsEnd o s n → i ≡ n → t ≡ s → Pushes o t new m
      → Inserts o s i new None
  inserts_last s t i n m new end is same pushed =
      (n, end, inr (inl (is, refl, (m, subst (λ (y : Site V). Pushes o y new m) same pushed))))

  pub inserts_below : {E : Type 0} (s t u : Site V) (i n : ℕ) (new : Known V) (r : Result (Option (Known V)) E)
      → IsEnd o s n → i < n → t ≡ s → u ≡ t → Opens o t i n → IfOk r (Sets o u i new) → IfOk r (Inserts o s i new)
  inserts_below s t u i n new (Err why) end under same stays opened sets = tt
  inserts_below s t u i n new (Ok back) end under same stays opened sets = (
    n,
    end,
    inl (
      under,
      subst (λ (y : Site V). Opens o y i n) same opened,
      subst (λ (y : Site V). Sets o y i new back) same (subst (λ (y : Site V). Sets o y i new back) stays sets),
    ),
  )
