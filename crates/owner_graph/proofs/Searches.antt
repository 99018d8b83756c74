-- What a search keeps, and what it has found at its end.
use Rattle.std.proofs.Common.{◌≡◌, ◌⊎◌, inl, inr, ℕ, zero, suc, ◌<◌, ◌≤◌, Bool, true, false, List}
use Rattle.std.proofs.Common.{[], ◌∷◌, ◌++◌, length, get_or, set, replicate, refl, sym, ap, subst}
use Rattle.std.proofs.Common.{◌∙◌, ⊎_elim, arith, get_or-set_same, length-set, length-append}
use Rattle.owner_graph.proofs.Prelude.{All, cases_lt, cond-false, false≢true, HasVertex, is_marked}
use Rattle.owner_graph.proofs.Prelude.{IsGraph, IsPath, mark, mark_all, Marks, MarksReached, Rows}
use Rattle.owner_graph.proofs.Prelude.{targets, Vec}
use Rattle.owner_graph.specs.Paths.{IsEdge, Reaches}
use Rattle.std.proofs.lemmas.List.{length-replicate}
use Rattle.owner_graph.proofs.Marks.{all_left, all_listed, all_lists, all_marks, all_new, all_size}
use Rattle.owner_graph.proofs.Marks.{all_stays, from_set, has_either, has_last, left}

longer : (g : Rows) (v w x : ℕ) (path : List ℕ) → IsPath g v path w → IsEdge g w x → IsPath g v (path ++ x ∷ []) x
longer g v w x [] e edge = (subst (λ (i : ℕ). IsEdge g i x) (sym e) edge, refl)
longer g v w x (y ∷ ys) p edge = (p.0, longer g y w x ys p.1 edge)

further : (g : Rows) (v w x : ℕ) → Reaches g v w → IsEdge g w x → Reaches g v x
further g v w x r edge = (r.0 ++ x ∷ [], longer g v w x r.0 r.1 edge)

-- what is marked is reached, and its edges were followed, or it is listed
pub record Searched (g : Rows) (root : ℕ) (m : Marks) : Type 0 where
  pub size : length m.marked ≡ length g
  pub sound : (v : ℕ) → is_marked m v ≡ true → Reaches g root v
  pub listed : (v : ℕ) → HasVertex v m.pending → is_marked m v ≡ true
  pub closed : (v w : ℕ) → is_marked m v ≡ true → IsEdge g v w → (is_marked m w ≡ true) ⊎ HasVertex v m.pending
  pub begun : root < length g → is_marked m root ≡ true

-- the edges of the vertex that was listed last are followed
pub followed : (g : Rows) (root v : ℕ) (marked : List Bool) (pending : List ℕ)
    → Searched g root (record { marked = marked; pending = pending ++ v ∷ [] })
    → All (λ w. w < length marked) (targets g v)
    → Searched g root (mark_all (targets g v) (record { marked = marked; pending = pending }))
followed g root v marked pending s lt =
    let m : Marks = record { marked = marked; pending = pending } in
    let n = mark_all (targets g v) m in
    let here : get_or marked v false ≡ true = s.listed v (has_last v pending) in
    record {
      size = all_size (targets g v) m ∙ s.size;
      sound = λ w is.
          ⊎_elim (λ (p : is_marked m w ≡ true). s.sound w p)
          (λ (p : HasVertex w (targets g v) × HasVertex w n.pending). further g root v w (s.sound v here) p.0) (all_new (targets g v) m w is);
      listed = λ w h.
          ⊎_elim (λ (p : HasVertex w pending). all_stays (targets g v) m w (s.listed w (listed_left w p)))
          (λ (p : HasVertex w (targets g v)). all_marks (targets g v) m lt w p) (all_listed (targets g v) m w h);
      closed = λ u w is edge.
          ⊎_elim (λ (p : is_marked m u ≡ true). old u w p edge)
          (λ (p : HasVertex u (targets g v) × HasVertex u n.pending). inr p.1) (all_new (targets g v) m u is);
      begun = λ i. all_stays (targets g v) m root (s.begun i);
    }
  where
    listed_left : (w : ℕ) → HasVertex w pending → HasVertex w (pending ++ v ∷ [])
    listed_left w h = go pending h
      where
        go : (l : List ℕ) → HasVertex w l → HasVertex w (l ++ v ∷ [])
        go [] p = absurd p
        go (x ∷ xs) (inl e) = inl e
        go (x ∷ xs) (inr p) = inr (go xs p)

    old : (u w : ℕ) → get_or marked u false ≡ true → IsEdge g u w
        → (is_marked (mark_all (targets g v) (record { marked = marked; pending = pending })) w ≡ true)
        ⊎ HasVertex u (mark_all (targets g v) (record { marked = marked; pending = pending })).pending
    old u w is edge =
        let m : Marks = record { marked = marked; pending = pending } in
        ⊎_elim (λ (p : get_or marked w false ≡ true). inl (all_stays (targets g v) m w p))
        (λ (p : HasVertex u (pending ++ v ∷ [])).
        ⊎_elim (λ (q : HasVertex u pending). inr (all_lists (targets g v) m u q))
        (λ (e : u ≡ v). inl (all_marks (targets g v) m lt w (subst (λ (i : ℕ). IsEdge g i w) e edge))) (has_either u v pending p))
        (s.closed u w is edge)

no_row : (g : Rows) (v : ℕ) → length g ≤ v → targets g v ≡ []
no_row [] v le = refl
no_row (r ∷ rs) zero le = absurd (omega arith)
no_row (r ∷ rs) (suc v) le = no_row rs v (omega arith)

-- no path leads from outside to a vertex
nowhere : (g : Rows) (root v : ℕ) (path : List ℕ) → length g ≤ root → v < length g → IsPath g root path v → ⊥
nowhere g root v [] le lt e = omega (arith, e)
nowhere g root v (x ∷ xs) le lt p = subst (HasVertex x) (no_row g root le) p.0

-- nothing is listed any more
pub over : (g : Rows) (root : ℕ) (marked : List Bool) → Searched g root (record { marked = marked; pending = [] }) → MarksReached g root marked
over g root marked s =
    record { size = s.size; reached = λ v lt. (s.sound v, λ r. from_root v lt r.0 r.1) }
  where
    along : (v w : ℕ) (path : List ℕ) → IsPath g v path w → get_or marked v false ≡ true → get_or marked w false ≡ true
    along v w [] e is = subst (λ (i : ℕ). get_or marked i false ≡ true) e is
    along v w (x ∷ xs) p is =
        ⊎_elim (λ (q : get_or marked x false ≡ true). along x w xs p.1 q) (λ (q : ⊥). absurd q) (s.closed v x is p.0)

    from_root : (v : ℕ) → v < length g → (path : List ℕ) → IsPath g root path v → get_or marked v false ≡ true
    from_root v lt path p =
        ⊎_elim (λ (i : root < length g). along root v path p (s.begun i)) (λ (le : length g ≤ root). absurd (nowhere g root v path le lt p))
        (cases_lt root (length g))

none_marked : (n v : ℕ) → get_or (replicate n false) v false ≡ false
none_marked zero v = refl
none_marked (suc n) zero = refl
none_marked (suc n) (suc v) = none_marked n v

-- the root alone is marked
pub root_alone : (g : Rows) (root n : ℕ) → n ≡ length g → root < length g
    → Searched g root (mark (record { marked = replicate n false; pending = [] }) root)
root_alone g root n size lt =
    let l : length (replicate n false) ≡ n = length-replicate n false in
    let inside : root < length (replicate n false) = omega (arith, size, lt, l) in
    subst (Searched g root) (sym (cond-false (get_or (replicate n false) root false) _ _ (none_marked n root)))
    (record {
      size = length-set (replicate n false) root true ∙ l ∙ size;
      sound = λ v is. ([], sym (only v is));
      listed = λ v h. ⊎_elim (λ (e : v ≡ root). here inside v e) (λ (q : ⊥). absurd q) h;
      closed = λ v w is edge. inr (inl (only v is));
      begun = λ i. here inside root refl;
    })
  where
    only : (v : ℕ) → get_or (set (replicate n false) root true) v false ≡ true → v ≡ root
    only v is =
        ⊎_elim (λ (p : get_or (replicate n false) v false ≡ true). absurd (false≢true (sym (none_marked n v) ∙ p))) (λ (e : v ≡ root). e)
        (from_set (replicate n false) root v is)

    here : root < length (replicate n false) → (v : ℕ) → v ≡ root → get_or (set (replicate n false) root true) v false ≡ true
    here inside v e = subst (λ (i : ℕ). get_or (set (replicate n false) root true) i false ≡ true) (sym e)
        (get_or-set_same (replicate n false) root true false inside)

-- from outside nothing is found
pub none_begun : (g : Rows) (root n : ℕ) → n ≡ length g → length g ≤ root
    → Searched g root (record { marked = replicate n false; pending = [] })
none_begun g root n size le =
    let l : length (replicate n false) ≡ n = length-replicate n false in
    record {
      size = l ∙ size;
      sound = λ v is. absurd (false≢true (sym (none_marked n v) ∙ is));
      listed = λ v h. absurd h;
      closed = λ v w is edge. absurd (false≢true (sym (none_marked n v) ∙ is));
      begun = λ i. absurd (omega (arith, i, le));
    }

inside_list : (bs : List Bool) (i : ℕ) → get_or bs i false ≡ true → i < length bs
inside_list [] i h = absurd (false≢true h)
inside_list (c ∷ cs) zero h = omega arith
inside_list (c ∷ cs) (suc i) h = let l = inside_list cs i h in omega arith

-- what is listed is a vertex
pub listed_in : (g : Rows) (root v : ℕ) (marked : List Bool) (pending rest : List ℕ) → pending ≡ rest ++ v ∷ []
    → Searched g root (record { marked = marked; pending = pending }) → v < length g
listed_in g root v marked pending rest e s =
    let i = inside_list marked v (s.listed v (subst (HasVertex v) (sym e) (has_last v rest))) in
    let l = s.size in omega (arith, i, l)

got : (g : Rows) (v : ℕ) (row : Vec ℕ) → v < length g → row ≡ get_or g v row → targets g v ≡ row.items
got [] v row lt e = absurd (omega arith)
got (r ∷ rs) zero row lt e = ap (λ (x : Vec ℕ). x.items) (sym e)
got (r ∷ rs) (suc v) row lt e = got rs v row (omega arith) e

all_has : (P : ℕ → Type 0) (xs : List ℕ) → ((x : ℕ) → HasVertex x xs → P x) → All P xs
all_has P [] h k d lt = absurd (omega arith)
all_has P (x ∷ xs) h zero d lt = h x (inl refl)
all_has P (x ∷ xs) h (suc k) d lt = all_has P xs (λ y p. h y (inr p)) k d (omega arith)

-- the edges of a vertex that was found lead to vertices
pub row_inside : (g : Rows) (v n : ℕ) (row : Vec ℕ) → IsGraph g → v < length g → row ≡ get_or g v row → n ≡ length g
    → All (λ w. w < n) row.items
row_inside g v n row graph lt e same =
    subst (λ (l : List ℕ). All (λ w. w < n) l) (got g v row lt e)
    (all_has (λ w. w < n) (targets g v) (λ w h. let i = graph v w h in omega (arith, i, same)))

-- a round of the search
pub round : (g : Rows) (root v : ℕ) (row : Vec ℕ) (marked : List Bool) (pending rest vs : List ℕ) (after : Marks) → IsGraph g
    → Searched g root (record { marked = marked; pending = pending }) → pending ≡ rest ++ v ∷ [] → row ≡ get_or g v row
    → vs ≡ row.items → after ≡ mark_all vs (record { marked = marked; pending = rest })
    → Searched g root after × (left after < left (record { marked = marked; pending = pending }))
round g root v row marked pending rest vs after graph s e is value goes =
    let went : after ≡ mark_all row.items (record { marked = marked; pending = rest }) =
    goes ∙ ap (λ (l : List ℕ). mark_all l (record { marked = marked; pending = rest })) value in
    let lt = listed_in g root v marked pending rest e s in
    let all : All (λ w. w < length marked) row.items = row_inside g v (length marked) row graph lt is s.size in
    let same = got g v row lt is in
    let s' : Searched g root (record { marked = marked; pending = rest ++ v ∷ [] }) =
    subst (λ (l : List ℕ). Searched g root (record { marked = marked; pending = l })) e s in
    let f = followed g root v marked rest s' (subst (λ (l : List ℕ). All (λ w. w < length marked) l) (sym same) all) in
    let f' = subst (λ (l : List ℕ). Searched g root (mark_all l (record { marked = marked; pending = rest }))) same f in
    let n = all_left row.items (record { marked = marked; pending = rest }) all in
    let w = ap left went in
    let a = length-append rest (v ∷ []) in
    let b = ap (length {A = ℕ}) e in
    (subst (Searched g root) (sym went) f', omega (arith, n, w, a, b))
