-- A graph gets an edge more.
use Rattle.std.proofs.Common.{◌≡◌, ◌≢◌, inl, inr, ℕ, zero, suc, ◌+◌, ◌<◌, ◌==◌, Bool, true, false}
use Rattle.std.proofs.Common.{cond, List, [], ◌∷◌, ◌++◌, length, take, get_or, set, refl, sym, ap}
use Rattle.std.proofs.Common.{subst, ◌∙◌, ⊎_elim, arith, eq-eqb, ne_eqb, length-set, length-append}
use Rattle.owner_graph.proofs.Prelude.{All-head, All-tail, AreWithin, cases_eq, cond-false}
use Rattle.owner_graph.proofs.Prelude.{cond-true, Edge, HasRows, HasVertex, IsEdgeWithin, IsGraph}
use Rattle.owner_graph.proofs.Prelude.{leading, Rows, targets, Vec}

pub none_more : (g : Rows) (row : Vec ℕ) → row.items ≡ [] → ((v : ℕ) → targets g v ≡ []) → (v : ℕ) → targets (g ++ row ∷ []) v ≡ []
none_more [] row e none zero = e
none_more [] row e none (suc v) = refl
none_more (r ∷ rs) row e none zero = none 0
none_more (r ∷ rs) row e none (suc v) = none_more rs row e (λ w. none (suc w)) v

-- the row of vertex k goes on by one
pushed_same : (g : Rows) (k x : ℕ) (row row' : Vec ℕ) → k < length g → row ≡ get_or g k row → row'.items ≡ row.items ++ x ∷ []
    → targets (set g k row') k ≡ targets g k ++ x ∷ []
pushed_same [] k x row row' lt e new = absurd (omega arith)
pushed_same (r ∷ rs) zero x row row' lt e new = new ∙ ap (λ (z : Vec ℕ). z.items ++ x ∷ []) e
pushed_same (r ∷ rs) (suc k) x row row' lt e new = pushed_same rs k x row row' (omega arith) e new

pushed_other : (g : Rows) (k v : ℕ) (row' : Vec ℕ) → k ≢ v → targets (set g k row') v ≡ targets g v
pushed_other [] k v row' ne = refl
pushed_other (r ∷ rs) zero zero row' ne = absurd (ne refl)
pushed_other (r ∷ rs) zero (suc v) row' ne = refl
pushed_other (r ∷ rs) (suc k) zero row' ne = refl
pushed_other (r ∷ rs) (suc k) (suc v) row' ne = pushed_other rs k v row' (λ e. ne (ap suc e))

pushed : (g : Rows) (k x v : ℕ) (row row' : Vec ℕ) → k < length g → row ≡ get_or g k row → row'.items ≡ row.items ++ x ∷ []
    → targets (set g k row') v ≡ cond (k == v) (targets g v ++ x ∷ []) (targets g v)
pushed g k x v row row' lt e new =
    ⊎_elim
    (λ (same : k ≡ v). subst (λ (w : ℕ). targets (set g k row') w ≡ targets g w ++ x ∷ []) same (pushed_same g k x row row' lt e new)
    ∙ sym (cond-true (k == v) (targets g v ++ x ∷ []) (targets g v) (eq-eqb k v same)))
    (λ (ne : k ≢ v). pushed_other g k v row' ne ∙ sym (cond-false (k == v) (targets g v ++ x ∷ []) (targets g v) (ne_eqb k v ne)))
    (cases_eq k v)

apart : (a t : Bool) (y x : ℕ) (l l' : List ℕ) → l' ≡ cond t (l ++ x ∷ []) l
    → cond a (y ∷ l') l' ≡ cond t (cond a (y ∷ l) l ++ x ∷ []) (cond a (y ∷ l) l)
apart true true y x l l' e = ap (λ (z : List ℕ). y ∷ z) e
apart true false y x l l' e = ap (λ (z : List ℕ). y ∷ z) e
apart false true y x l l' e = e
apart false false y x l l' e = e

abbrev no_edge : Edge
no_edge = record { from = 0; to = 0 }

leading_next : (es : List Edge) (i v : ℕ) → i < length es
    → leading (take (suc i) es) v
    ≡ cond ((get_or es i no_edge).from == v) (leading (take i es) v ++ (get_or es i no_edge).to ∷ []) (leading (take i es) v)
leading_next [] i v lt = absurd (omega arith)
leading_next (e ∷ es) zero v lt = refl
leading_next (e ∷ es) (suc i) v lt =
    apart (e.from == v) ((get_or es i no_edge).from == v) e.to (get_or es i no_edge).to (leading (take i es) v) (leading (take (suc i) es) v)
    (leading_next es i v (omega arith))

-- an edge more
pub edge_more : (g : Rows) (es : List Edge) (n i : ℕ) (row row' : Vec ℕ) → i < length es → length g ≡ n
    → ((v : ℕ) → targets g v ≡ leading (take i es) v) → (get_or es i no_edge).from < length g → row ≡ get_or g (get_or es i no_edge).from row
    → row'.items ≡ row.items ++ (get_or es i no_edge).to ∷ []
    → (length (set g (get_or es i no_edge).from row') ≡ n)
    × ((v : ℕ) → targets (set g (get_or es i no_edge).from row') v ≡ leading (take (i + 1) es) v)
edge_more g es n i row row' lt size rows inside e new =
    let k = (get_or es i no_edge).from in
    let x = (get_or es i no_edge).to in
    let one : i + 1 ≡ suc i = omega arith in (
      length-set g k row' ∙ size,
      λ v.
          pushed g k x v row row' inside e new
          ∙ ap (λ (l : List ℕ). cond (k == v) (l ++ x ∷ []) l) (rows v)
          ∙ sym (leading_next es i v lt) ∙ ap (λ (j : ℕ). leading (take j es) v) (sym one),
    )

led : (es : List Edge) (n v w : ℕ) → AreWithin n es → HasVertex w (leading es v) → w < n
led [] n v w all h = absurd h
led (e ∷ es) n v w all h =
    go (e.from == v) (λ p. led es n v w (All-tail (IsEdgeWithin n) e es all) p) h
  where
    go : (b : Bool) → (HasVertex w (leading es v) → w < n) → HasVertex w (cond b (e.to ∷ leading es v) (leading es v)) → w < n
    go true rest (inl same) = subst (λ (i : ℕ). i < n) (sym same) (All-head (IsEdgeWithin n) e es all).1
    go true rest (inr p) = rest p
    go false rest p = rest p

-- each edge leads to a vertex
pub is_graph : (g : Rows) (es : List Edge) (n : ℕ) → HasRows n es g → AreWithin n es → IsGraph g
is_graph g es n has all v w h = subst (λ (i : ℕ). w < i) (sym has.size) (led es n v w all (subst (HasVertex w) (has.rows v) h))

-- a vertex more, without edges
pub vertex_more : (g g' : Rows) (row : Vec ℕ) (i : ℕ) → g' ≡ g ++ row ∷ [] → row.items ≡ [] → length g ≡ i
    → ((v : ℕ) → targets g v ≡ [])
    → (length g' ≡ i + 1) × ((v : ℕ) → targets g' v ≡ [])
vertex_more g g' row i e none size all =
    let n = ap (length {A = Vec ℕ}) e in
    let a = length-append g (row ∷ []) in
    (omega (arith, n, a, size), λ v. subst (λ (x : Rows). targets x v ≡ []) (sym e) (none_more g row none all v))
