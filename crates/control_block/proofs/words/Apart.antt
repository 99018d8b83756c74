-- Two views that were made one for a look are two again, as they were; no word changes.
use Rattle.std.proofs.Common.{◌≡◌, ℕ, zero, suc, ◌+◌, Bool, true, false, cond, ◌≢◌, ◌⊎◌, List, []}
use Rattle.std.proofs.Common.{◌∷◌, ◌++◌, length, set, nat_lt, sym, refl, ap, ◌∙◌, subst, inl, inr}
use Rattle.std.proofs.Common.{⊎_elim, append_assoc, arith}
use Rattle.control_block.proofs.Prelude
use Prelude.{added, adds, at_inside, at_longer, at_set, cases_eq, Entry, fun_ext, get_elem?, Idle}
use Prelude.{IsActing, Knows, leads, longer, Merging, more, Opening, owed, owes, paid, pays}
use Prelude.{Seated, set_else, set_here, Shows, some, some-injective, some-ne-none, spot, StandsFunded}
use Prelude.{StandsFor, State, total, total_set, View}
use Rattle.control_block.proofs.words.Seats.{none_by}
use Rattle.control_word.specs.HandFunds.{lacks}
use Rattle.control_word.specs.Views.{Stands}

-- an element behind a list
at_end : {A : Type 0} (l : List A) (a : A) (i : ℕ) (x : A) → get_elem? (l ++ a ∷ []) i ≡ some x
    → (get_elem? l i ≡ some x) ⊎ ((i ≡ length l) × (a ≡ x))
at_end [] a zero x e = inr (refl, some-injective a x e)
at_end [] a (suc i) x e = absurd (some-ne-none x (sym e))
at_end (y ∷ l) a zero x e = inl e
at_end (y ∷ l) a (suc i) x e = ⊎_elim inl (λ t. inr (ap suc t.0, t.1)) (at_end l a i x e)

pub last_at : {A : Type 0} (l : List A) (a : A) → get_elem? (l ++ a ∷ []) (length l) ≡ some a
last_at [] a = refl
last_at (y ∷ l) a = last_at l a

total_end : {A : Type 0} (f : A → ℕ) (l : List A) (a : A) → total f (l ++ a ∷ []) ≡ total f l + f a
total_end f [] a = omega arith
total_end f (x ∷ l) a = let t = total_end f l a in omega arith

module _ {V : Type 0} where
  -- a desk's view with no call half done
  abbrev pub idle_view : ℕ → List (Entry V) → View V
  idle_view n xs = record { name = n; spent = false; pending = Idle; seen = xs }

  -- two of them made one
  abbrev pub one_view : ℕ → List (Entry V) → ℕ → List (Entry V) → View V
  one_view n xs m ys = record { name = n; spent = false; pending = Merging m xs ys; seen = longer xs ys }

  known_all : (d : ℕ) (h l xs : List (Entry V)) → Knows d h l → Knows d l xs → Knows d h xs
  known_all d h l xs a b =
      (a.0 ++ b.0, a.1 ∙ (ap (λ t. a.0 ++ t) b.1 ∙ sym (append_assoc a.0 b.0 xs)), none_by d a.0 b.0 a.2 b.2)

  one_whole : (xs ys h : List (Entry V)) → longer xs ys ≡ h → (xs ≡ h) ⊎ (ys ≡ h)
  one_whole xs ys h e = go (nat_lt (length xs) (length ys)) e
    where
      go : (b : Bool) → cond b ys xs ≡ h → (xs ≡ h) ⊎ (ys ≡ h)
      go true e = inr e
      go false e = inl e

  module _ (z : Opening) (words : List ℕ) (views : List (View V)) (h : List (Entry V)) (stands : Stands z words views h)
      (i n : ℕ) (xs : List (Entry V)) (m : ℕ) (ys : List (Entry V)) (at : get_elem? views i ≡ some (one_view n xs m ys)) where
    apart_bare : n ≢ m
    apart_bare e = (stands.team.seated i (one_view n xs m ys) at refl).apart m refl e

    -- the second view takes its place behind the others
    part_bare : Stands z words (set views i (idle_view n xs) ++ idle_view m ys ∷ []) h
    part_bare = record {
      taken = stands.taken;
      legal = stands.legal;
      shows = subst (λ (u : ℕ → ℕ). Shows z words u (more z s all stands.taken) s)
          (fun_ext (λ k. sym (sums k).0))
          (subst (λ (g : ℕ → ℕ). Shows z words (owed views) g s)
          (fun_ext (λ k. let x = sums k in let x1 = x.1 in let x2 = x.2 in
          let e : more z s views stands.taken k ≡ more z s all stands.taken k = omega arith in e)) stands.shows);
      most = stands.most;
      blank = stands.blank;
      bare = stands.bare;
      doors = λ b hb. let x = (sums (spot b 2)).2 in let d = stands.doors b hb in omega arith;
      team = record {
        seated = λ j u e l. ⊎_elim
            (λ o. ⊎_elim (λ (t : (j ≡ i) × (v ≡ u)). subst (λ (x : View V). Seated words z h x) t.1 mine) (λ (t : (j ≢ i)
            × (get_elem? views j ≡ some u)). stands.team.seated j u t.1 l) (at_set views i j v u o))
            (λ q. subst (λ (x : View V). Seated words z h x) q.1 theirs) (at_end (set views i v) w j u e);
        rests = λ j u e l. ⊎_elim (λ o. ⊎_elim (λ (t : (j ≡ i) × (v ≡ u)). sym (ap (λ (x : View V). x.pending) t.1)) (λ (t : (j ≢ i)
            × (get_elem? views j ≡ some u)). stands.team.rests j u t.1 l) (at_set views i j v u o))
            (λ q. sym (ap (λ (x : View V). x.pending) q.1)) (at_end (set views i v) w j u e);
        names = λ j k u x e f l p d a b. ⊎_elim
            (λ o. ⊎_elim (λ q. (let y = was j u o l in let t = was k x q p in stands.team.names j k y.0 t.0 y.1 t.1 y.2 t.2 d (y.3 d a) (t.3 d b)))
            (λ q. absurd (new_apart j u o l d a (subst (λ (y : View V). StandsFor y d) (sym q.1) b))) (at_end (set views i v) w k x f))
            (λ q. ⊎_elim (λ r. absurd (new_apart k x r p d b (subst (λ (y : View V). StandsFor y d) (sym q.1) a)))
            (λ r. q.0 ∙ sym r.0) (at_end (set views i v) w k x f)) (at_end (set views i v) w j u e);
        whole = let t = stands.team.whole in ⊎_elim
            (λ (e : t.0 ≡ i). let q : t.1 ≡ both = some-injective t.1 both (sym t.2 ∙ (ap (get_elem? views) e ∙ at)) in
            ⊎_elim (λ (f : xs ≡ h). (i, v, first_at, refl, f)) (λ (f : ys ≡ h). (length (set views i v), w, last_at (set views i v) w, refl, f))
            (one_whole xs ys h (ap (λ (y : View V). y.seen) (sym q) ∙ t.4)))
            (λ (q : t.0 ≢ i). (t.0, t.1, at_longer (set views i v) (w ∷ []) t.0 t.1 (set_else views i t.0 v q ∙ t.2), t.3, t.4)) (cases_eq t.0 i);
      };
    }
      where
        s : State
        s = leads z h

        v : View V
        v = idle_view n xs

        w : View V
        w = idle_view m ys

        both : View V
        both = one_view n xs m ys

        all : List (View V)
        all = set views i v ++ w ∷ []

        seat : Seated words z h both
        seat = stands.team.seated i both at refl

        first_at : get_elem? all i ≡ some v
        first_at = at_longer (set views i v) (w ∷ []) i v (set_here views i v (at_inside views i both at))

        sums : (k : ℕ) → (owed all k ≡ owed views k) × (paid all k ≡ paid views k) × (added all k ≡ added views k)
        sums k =
            let a = total_set (λ (y : View V). owes y.pending k) views i both v at in
            let b = total_set (λ (y : View V). pays y.pending k) views i both v at in
            let c = total_set (λ (y : View V). adds y.pending k) views i both v at in
            let a1 = total_end (λ (y : View V). owes y.pending k) (set views i v) w in
            let b1 = total_end (λ (y : View V). pays y.pending k) (set views i v) w in
            let c1 = total_end (λ (y : View V). adds y.pending k) (set views i v) w in
            (omega arith, omega arith, omega arith)

        mine : Seated words z h v
        mine = record {
          knows = λ d st. ⊎_elim (λ (q : n ≡ d). subst (λ x. Knows x h xs) q (known_all n h (longer xs ys) xs (seat.knows n (inl refl)) seat.both.0))
              (λ q. absurd q) st;
          acts = λ d st. ⊎_elim (λ q. seat.acts d (inl q)) (λ q. absurd q) st;
          apart = λ d q e. q;
          both = tt;
          fits = tt;
        }

        theirs : Seated words z h w
        theirs = record {
          knows = λ d st. ⊎_elim (λ (q : m ≡ d). subst (λ x. Knows x h ys) q (known_all m h (longer xs ys) ys (seat.knows m (inr refl)) seat.both.1))
              (λ q. absurd q) st;
          acts = λ d st. ⊎_elim (λ (q : m ≡ d). subst (IsActing s) q (seat.acts m (inr refl))) (λ q. absurd q) st;
          apart = λ d q e. q;
          both = tt;
          fits = tt;
        }

        -- who was there stands for no more than before
        was : (j : ℕ) (u : View V) → get_elem? (set views i v) j ≡ some u → u.spent ≡ false
            → (x : View V) × (get_elem? views j ≡ some x) × (x.spent ≡ false) × ((d : ℕ) → StandsFor u d → StandsFor x d)
        was j u e l = ⊎_elim
            (λ (t : (j ≡ i) × (v ≡ u)). (
              both,
              ap (get_elem? views) t.0 ∙ at,
              refl,
              λ d st. ⊎_elim (λ q. inl q) (λ q. absurd q) (subst (λ (x : View V). StandsFor x d) (sym t.1) st),
            ))
            (λ (t : (j ≢ i) × (get_elem? views j ≡ some u)). (u, t.1, l, λ d st. st)) (at_set views i j v u e)

        new_apart : (j : ℕ) (u : View V) → get_elem? (set views i v) j ≡ some u → u.spent ≡ false → (d : ℕ) → StandsFor u d
            → StandsFor w d → ⊥
        new_apart j u e l d a b =
            let is : m ≡ d = ⊎_elim (λ q. q) (λ q. absurd q) b in
            ⊎_elim
            (λ (t : (j ≡ i) × (v ≡ u)). seat.apart m refl (⊎_elim (λ (q : n ≡ d). q
            ∙ sym is) (λ q. absurd q) (subst (λ (x : View V). StandsFor x d) (sym t.1) a)))
            (λ (t : (j ≢ i) × (get_elem? views j ≡ some u)). t.0 (stands.team.names j i u both t.1 at l refl d a (inr is))) (at_set views i j v u e)

  module _ (z : Opening) (words : List ℕ) (views : List (View V)) (h : List (Entry V)) (stands : StandsFunded z words views h)
      (i n : ℕ) (xs : List (Entry V)) (m : ℕ) (ys : List (Entry V)) (at : get_elem? views i ≡ some (one_view n xs m ys)) where
    pub apart_names : n ≢ m
    apart_names = apart_bare z stands.bare views h stands.stands i n xs m ys at

    -- neither a look nor a desk between its calls lacks funds
    pub part_again : StandsFunded z words (set views i (idle_view n xs) ++ idle_view m ys ∷ []) h
    part_again = record {
      bare = stands.bare;
      stands = part_bare z stands.bare views h stands.stands i n xs m ys at;
      sized = stands.sized;
      funded = λ k.
          let a = total_set (λ (y : View V). lacks y.pending k) views i (one_view n xs m ys) (idle_view n xs) at in
          let b = total_end (λ (y : View V). lacks y.pending k) (set views i (idle_view n xs)) (idle_view m ys) in
          let f = stands.funded k in omega arith;
    }
