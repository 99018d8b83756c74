-- A row gets a handle more.
use Rattle.std.proofs.Common.{◌≡◌, ◌≢◌, ℕ, zero, suc, ◌+◌, ◌<◌, ◌==◌, Bool, true, false, cond}
use Rattle.std.proofs.Common.{List, [], ◌∷◌, ◌++◌, length, take, get_or, set, refl, sym, ap, subst}
use Rattle.std.proofs.Common.{◌∙◌, ⊎_elim, arith, eq-eqb, ne_eqb, length-set, length-append}
use Rattle.owner_graph.proofs.Prelude.{cases_eq, cond-false, cond-true, Holding, row_at, Vec, ◌≤◌}

none_more : (g : List (Vec Holding)) (row : Vec Holding) → row.items ≡ []
    → ((v : ℕ) → row_at g v ≡ []) → (v : ℕ)
    → row_at (g ++ row ∷ []) v ≡ []
none_more [] row e none zero = e
none_more [] row e none (suc v) = refl
none_more (r ∷ rs) row e none zero = none 0
none_more (r ∷ rs) row e none (suc v) = none_more rs row e (λ w. none (suc w)) v

-- an empty row more
pub row_more : (g g' : List (Vec Holding)) (row : Vec Holding) (i : ℕ) → g' ≡ g ++ row ∷ []
    → row.items ≡ [] → length g ≡ i
    → ((v : ℕ) → row_at g v ≡ []) → (length g' ≡ i + 1) × ((v : ℕ) → row_at g' v ≡ [])
row_more g g' row i e none size all =
    let n = ap (length {A = Vec Holding}) e in
    let a = length-append g (row ∷ []) in (
      omega (arith, n, a, size),
      λ v. subst (λ (x : List (Vec Holding)). row_at x v ≡ []) (sym e)
          (none_more g row none all v),
    )

pushed_same : (g : List (Vec Holding)) (k : ℕ) (x : Holding) (row row' : Vec Holding) → k < length g
    → row ≡ get_or g k row
    → row'.items ≡ row.items ++ x ∷ [] → row_at (set g k row') k ≡ row_at g k ++ x ∷ []
pushed_same [] k x row row' lt e new = absurd (omega arith)
pushed_same (r ∷ rs) zero x row row' lt e new = new ∙ ap (λ (z : Vec Holding). z.items ++ x ∷ []) e
pushed_same (r ∷ rs) (suc k) x row row' lt e new = pushed_same rs k x row row' (omega arith) e new

pushed_other : (g : List (Vec Holding)) (k v : ℕ) (row' : Vec Holding) → k ≢ v
    → row_at (set g k row') v ≡ row_at g v
pushed_other [] k v row' ne = refl
pushed_other (r ∷ rs) zero zero row' ne = absurd (ne refl)
pushed_other (r ∷ rs) zero (suc v) row' ne = refl
pushed_other (r ∷ rs) (suc k) zero row' ne = refl
pushed_other (r ∷ rs) (suc k) (suc v) row' ne = pushed_other rs k v row' (λ e. ne (ap suc e))

pushed : (g : List (Vec Holding)) (k : ℕ) (x : Holding) (v : ℕ) (row row' : Vec Holding)
    → k < length g → row ≡ get_or g k row
    → row'.items ≡ row.items ++ x ∷ [] → row_at (set g k row') v ≡ cond (k == v) (row_at g v
    ++ x ∷ []) (row_at g v)
pushed g k x v row row' lt e new =
    ⊎_elim
    (λ (same : k ≡ v). subst (λ (w : ℕ). row_at (set g k row') w ≡ row_at g w ++ x ∷ []) same
    (pushed_same g k x row row' lt e new)
    ∙ sym (cond-true (k == v) (row_at g v ++ x ∷ []) (row_at g v) (eq-eqb k v same)))
    (λ (ne : k ≢ v). pushed_other g k v row' ne
    ∙ sym (cond-false (k == v) (row_at g v ++ x ∷ []) (row_at g v) (ne_eqb k v ne)))
    (cases_eq k v)

apart : (a t : Bool) (y x : Holding) (l l' : List Holding) → l' ≡ cond t (l ++ x ∷ []) l
    → cond a (y ∷ l') l' ≡ cond t (cond a (y ∷ l) l ++ x ∷ []) (cond a (y ∷ l) l)
apart true true y x l l' e = ap (λ (z : List Holding). y ∷ z) e
apart true false y x l l' e = ap (λ (z : List Holding). y ∷ z) e
apart false true y x l l' e = e
apart false false y x l l' e = e

-- what is held by a vertex, which is the one that handles have by a key
module _ (key : Holding → ℕ) (held : List Holding → ℕ → List Holding) (none : (v : ℕ)
    → held [] v ≡ [])
    (more : (h : Holding) (hs : List Holding) (v : ℕ)
    → held (h ∷ hs) v ≡ cond (key h == v) (h ∷ held hs v) (held hs v)) where
  abbrev with_one : Holding → ℕ → List Holding → List Holding
  with_one x v l = cond (key x == v) (l ++ x ∷ []) l

  held_next : (hs : List Holding) (i v : ℕ) (d : Holding) → i < length hs
      → held (take (suc i) hs) v ≡ with_one (get_or hs i d) v (held (take i hs) v)
  held_next [] i v d lt = absurd (omega arith)
  held_next (h ∷ hs) zero v d lt =
      more h [] v ∙ ap (λ (l : List Holding). cond (key h == v) (h ∷ l) l) (none v)
      ∙ sym (ap (with_one h v) (none v))
  held_next (h ∷ hs) (suc i) v d lt =
      let x = get_or hs i d in
      more h (take (suc i) hs) v
      ∙ apart (key h == v) (key x == v) h x (held (take i hs) v) (held (take (suc i) hs) v)
      (held_next hs i v d (omega arith))
      ∙ sym (ap (with_one x v) (more h (take i hs) v))

  -- a handle more, by vertex k
  pub held_more : (g : List (Vec Holding)) (hs : List Holding) (vertices i k : ℕ) (d : Holding)
      (row row' : Vec Holding)
      → key (get_or hs i d) ≤ vertices → i < length hs → length g ≡ vertices + 1
      → ((v : ℕ) → row_at g v ≡ held (take i hs) v) → k ≡ key (get_or hs i d) → row ≡ get_or g k row
      → row'.items ≡ row.items ++ get_or hs i d ∷ []
      → (length (set g k row') ≡ vertices + 1)
      × ((v : ℕ) → row_at (set g k row') v ≡ held (take (i + 1) hs) v)
  held_more g hs vertices i k d row row' among lt size rows is e new =
      let x = get_or hs i d in
      let one : i + 1 ≡ suc i = omega arith in (
        length-set g k row' ∙ size,
        λ v.
            pushed g k x v row row' (omega (arith, is, among, size)) e new
            ∙ ap (λ (l : List Holding). cond (k == v) (l ++ x ∷ []) l) (rows v)
            ∙ ap (λ (j : ℕ). cond (j == v) (held (take i hs) v ++ x ∷ []) (held (take i hs) v)) is
            ∙ sym (held_next hs i v d lt) ∙ ap (λ (j : ℕ). held (take j hs) v) (sym one),
      )

-- ---- one row

row_in_range : (rows : List (Vec Holding)) (n : ℕ) (v : Vec Holding) → n < length rows
    → v ≡ get_or rows n v → v.items ≡ row_at rows n
row_in_range [] n v lt e = absurd (omega arith)
row_in_range (r ∷ rs) zero v lt e = ap (λ (x : Vec Holding). x.items) e
row_in_range (r ∷ rs) (suc n) v lt e = row_in_range rs n v (omega arith) e

pub row_is : (rows : List (Vec Holding)) (n : ℕ) (v : Vec Holding) (items : List Holding)
    → n < length rows → v ≡ get_or rows n v
    → items ≡ v.items → items ≡ row_at rows n
row_is rows n v items lt e it = it ∙ row_in_range rows n v lt e

-- there is no row past the last
pub row_past : (rows : List (Vec Holding)) (n : ℕ) → length rows ≤ n → row_at rows n ≡ []
row_past [] n le = refl
row_past (r ∷ rs) zero le = absurd (omega (arith, le))
row_past (r ∷ rs) (suc n) le = row_past rs n (omega (arith, le))
