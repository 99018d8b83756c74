-- What is marked and listed by marking some vertices.
use Rattle.std.proofs.Common.{◌≡◌, ◌≢◌, ◌⊎◌, inl, inr, ℕ, zero, suc, ◌+◌, ◌<◌, Bool, true, false}
use Rattle.std.proofs.Common.{cond, List, [], ◌∷◌, ◌++◌, length, take, get_or, set, refl, sym, ap}
use Rattle.std.proofs.Common.{subst, ◌∙◌, ⊎_elim, arith, get_or-set_other, get_or-set_same}
use Rattle.std.proofs.Common.{length-set, length-append}
use Rattle.std.specs.Prelude.{sum_by}
use Rattle.owner_graph.proofs.Prelude.{All, All-head, All-tail, cases_eq, false≢true, HasVertex}
use Rattle.owner_graph.proofs.Prelude.{is_marked, mark, mark_all, Marks}
use Rattle.owner_graph.specs.Searches.{marking}
use Rattle.std.proofs.lemmas.List.Sums.{sum_by-set}

pub has_left : (x : ℕ) (xs ys : List ℕ) → HasVertex x xs → HasVertex x (xs ++ ys)
has_left x [] ys h = absurd h
has_left x (z ∷ zs) ys (inl e) = inl e
has_left x (z ∷ zs) ys (inr h) = inr (has_left x zs ys h)

pub has_last : (x : ℕ) (xs : List ℕ) → HasVertex x (xs ++ x ∷ [])
has_last x [] = inl refl
has_last x (z ∷ zs) = inr (has_last x zs)

pub has_either : (x y : ℕ) (xs : List ℕ) → HasVertex x (xs ++ y ∷ []) → HasVertex x xs ⊎ (x ≡ y)
has_either x y [] (inl e) = inr e
has_either x y [] (inr h) = absurd h
has_either x y (z ∷ zs) (inl e) = inl (inl e)
has_either x y (z ∷ zs) (inr h) = ⊎_elim (λ (p : HasVertex x zs). inl (inr p)) (λ (e : x ≡ y). inr e) (has_either x y zs h)

-- the cases of a vertex that is marked already, or not
one : (P : Marks → Type 0) (m : Marks) (v : ℕ) → (is_marked m v ≡ true → P m) → (is_marked m v ≡ false → P (marking m v)) → P (mark m v)
one P m v was new = go (is_marked m v) refl
  where
    go : (b : Bool) → is_marked m v ≡ b → P (cond b m (marking m v))
    go true e = was e
    go false e = new e

at_set : (bs : List Bool) (v w : ℕ) → get_or bs w false ≡ true → get_or (set bs v true) w false ≡ true
at_set bs v w e = ⊎_elim
    (λ (same : w ≡ v). go w v same e)
    (λ (ne : w ≢ v). get_or-set_other bs v w true false ne ∙ e) (cases_eq w v)
  where
    inside : (cs : List Bool) (i : ℕ) → get_or cs i false ≡ true → i < length cs
    inside [] i h = absurd (false≢true h)
    inside (c ∷ cs) zero h = omega arith
    inside (c ∷ cs) (suc i) h = let l = inside cs i h in omega arith

    go : (i j : ℕ) → i ≡ j → get_or bs i false ≡ true → get_or (set bs j true) i false ≡ true
    go i j same h =
        let l : j < length bs = subst (λ (k : ℕ). k < length bs) same (inside bs i h) in
        subst (λ (k : ℕ). get_or (set bs j true) k false ≡ true) (sym same) (get_or-set_same bs j true false l)

pub from_set : (bs : List Bool) (v w : ℕ) → get_or (set bs v true) w false ≡ true → (get_or bs w false ≡ true) ⊎ (w ≡ v)
from_set bs v w e = ⊎_elim (λ (same : w ≡ v). inr same) (λ (ne : w ≢ v). inl (sym (get_or-set_other bs v w true false ne) ∙ e)) (cases_eq w v)

mark_size : (m : Marks) (v : ℕ) → length (mark m v).marked ≡ length m.marked
mark_size m v = one (λ (x : Marks). length x.marked ≡ length m.marked) m v (λ e. refl) (λ e. length-set m.marked v true)

pub all_size : (vs : List ℕ) (m : Marks) → length (mark_all vs m).marked ≡ length m.marked
all_size [] m = refl
all_size (v ∷ vs) m = all_size vs (mark m v) ∙ mark_size m v

-- what is marked stays so
mark_stays : (m : Marks) (v w : ℕ) → is_marked m w ≡ true → is_marked (mark m v) w ≡ true
mark_stays m v w is = one (λ (x : Marks). is_marked x w ≡ true) m v (λ e. is) (λ e. at_set m.marked v w is)

pub all_stays : (vs : List ℕ) (m : Marks) (w : ℕ) → is_marked m w ≡ true → is_marked (mark_all vs m) w ≡ true
all_stays [] m w is = is
all_stays (v ∷ vs) m w is = all_stays vs (mark m v) w (mark_stays m v w is)

pub mark_marks : (m : Marks) (v : ℕ) → v < length m.marked → is_marked (mark m v) v ≡ true
mark_marks m v lt = one (λ (x : Marks). is_marked x v ≡ true) m v (λ e. e) (λ e. get_or-set_same m.marked v true false lt)

pub all_marks : (vs : List ℕ) (m : Marks) → All (λ v. v < length m.marked) vs → (w : ℕ) → HasVertex w vs → is_marked (mark_all vs m) w ≡ true
all_marks [] m lt w h = absurd h
all_marks (v ∷ vs) m lt w (inl e) =
    all_stays vs (mark m v) w (subst (λ (i : ℕ). is_marked (mark m v) i ≡ true) (sym e) (mark_marks m v (All-head (λ i. i < length m.marked) v vs lt)))
all_marks (v ∷ vs) m lt w (inr h) =
    all_marks vs (mark m v) (subst (λ (n : ℕ). All (λ i. i < n) vs) (sym (mark_size m v)) (All-tail (λ i. i < length m.marked) v vs lt)) w h

-- what is listed stays so
mark_lists : (m : Marks) (v w : ℕ) → HasVertex w m.pending → HasVertex w (mark m v).pending
mark_lists m v w h = one (λ (x : Marks). HasVertex w x.pending) m v (λ e. h) (λ e. has_left w m.pending (v ∷ []) h)

pub all_lists : (vs : List ℕ) (m : Marks) (w : ℕ) → HasVertex w m.pending → HasVertex w (mark_all vs m).pending
all_lists [] m w h = h
all_lists (v ∷ vs) m w h = all_lists vs (mark m v) w (mark_lists m v w h)

-- what is newly marked is listed
mark_new : (m : Marks) (v w : ℕ) → is_marked (mark m v) w ≡ true → (is_marked m w ≡ true) ⊎ ((w ≡ v) × HasVertex w (mark m v).pending)
mark_new m v w = one (λ (x : Marks). is_marked x w ≡ true → (is_marked m w ≡ true) ⊎ ((w ≡ v) × HasVertex w x.pending)) m v (λ e is. inl is)
    (λ e is. ⊎_elim (λ (p : is_marked m w ≡ true). inl p)
    (λ (same : w ≡ v). inr (same, subst (λ (i : ℕ). HasVertex i (m.pending ++ v ∷ [])) (sym same) (has_last v m.pending))) (from_set m.marked v w is))

pub all_new : (vs : List ℕ) (m : Marks) (w : ℕ) → is_marked (mark_all vs m) w ≡ true
    → (is_marked m w ≡ true) ⊎ (HasVertex w vs × HasVertex w (mark_all vs m).pending)
all_new [] m w is = inl is
all_new (v ∷ vs) m w is =
    ⊎_elim
    (λ (p : is_marked (mark m v) w ≡ true). ⊎_elim (λ (q : is_marked m w ≡ true). inl q)
    (λ (q : (w ≡ v) × HasVertex w (mark m v).pending). inr (inl q.0, all_lists vs (mark m v) w q.1)) (mark_new m v w p))
    (λ (p : HasVertex w vs × HasVertex w (mark_all vs (mark m v)).pending). inr (inr p.0, p.1)) (all_new vs (mark m v) w is)

-- what is listed was, or is one of these
mark_listed : (m : Marks) (v w : ℕ) → HasVertex w (mark m v).pending → HasVertex w m.pending ⊎ (w ≡ v)
mark_listed m v w = one (λ (x : Marks). HasVertex w x.pending → HasVertex w m.pending ⊎ (w ≡ v)) m v (λ e h. inl h) (λ e h. has_either w v m.pending h)

pub all_listed : (vs : List ℕ) (m : Marks) (w : ℕ) → HasVertex w (mark_all vs m).pending → HasVertex w m.pending ⊎ HasVertex w vs
all_listed [] m w h = inl h
all_listed (v ∷ vs) m w h =
    ⊎_elim
    (λ (p : HasVertex w (mark m v).pending). ⊎_elim (λ (q : HasVertex w m.pending). inl q) (λ (e : w ≡ v). inr (inl e)) (mark_listed m v w p))
    (λ (p : HasVertex w vs). inr (inr p)) (all_listed vs (mark m v) w h)

-- how many are not marked, and how many are still to be followed
abbrev pub unmarked : List Bool → ℕ
unmarked bs = sum_by (λ b. cond b 0 1) bs

abbrev pub left : Marks → ℕ
left m = unmarked m.marked + length m.pending

mark_left : (m : Marks) (v : ℕ) → v < length m.marked → left (mark m v) ≡ left m
mark_left m v lt = one (λ (x : Marks). left x ≡ left m) m v (λ e. refl) (λ e.
    let s = sum_by-set (λ b. cond b 0 1) m.marked v true false lt in
    let z : ◌≡◌ {A = ℕ} (cond (get_or m.marked v false) 0 1) 1 = ap (λ b. cond b 0 1) e in
    let n = length-append m.pending (v ∷ []) in omega (arith, s, z, n))

pub all_left : (vs : List ℕ) (m : Marks) → All (λ v. v < length m.marked) vs → left (mark_all vs m) ≡ left m
all_left [] m lt = refl
all_left (v ∷ vs) m lt =
    all_left vs (mark m v) (subst (λ (n : ℕ). All (λ i. i < n) vs) (sym (mark_size m v)) (All-tail (λ i. i < length m.marked) v vs lt))
    ∙ mark_left m v (All-head (λ i. i < length m.marked) v vs lt)

-- one more
all_next : (vs : List ℕ) (i : ℕ) (m : Marks) → i < length vs → mark_all (take (suc i) vs) m ≡ mark (mark_all (take i vs) m) (get_or vs i 0)
all_next [] i m lt = absurd (omega arith)
all_next (v ∷ vs) zero m lt = refl
all_next (v ∷ vs) (suc i) m lt = all_next vs i (mark m v) (omega arith)

pub all_more : (vs : List ℕ) (i : ℕ) (m : Marks) → i < length vs → mark_all (take (i + 1) vs) m ≡ mark (mark_all (take i vs) m) (get_or vs i 0)
all_more vs i m lt = let e : i + 1 ≡ suc i = omega arith in ap (λ (n : ℕ). mark_all (take n vs) m) e ∙ all_next vs i m lt
