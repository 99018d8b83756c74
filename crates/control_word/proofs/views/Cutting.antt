-- A view is cut in two after a split; no word changes.
use Rattle.std.proofs.Common.{◌≡◌, ℕ, zero, suc, ◌+◌, false, ◌≢◌, ◌⊎◌, List, [], ◌∷◌, ◌++◌, length}
use Rattle.std.proofs.Common.{set, sym, refl, ap, ◌∙◌, subst, inl, inr, ⊎_elim, arith}
use Rattle.control_word.proofs.Prelude.{added, adds, at_set, cases_eq, Entry, fun_ext, get_elem?}
use Rattle.control_word.proofs.Prelude.{IsActing, IsSecond, Knows, leads, more, Opening, owed}
use Rattle.control_word.proofs.Prelude.{owes, paid, Parting, pays, Seated, set_else, set_here}
use Rattle.control_word.proofs.Prelude.{Shows, some, some-injective, some-ne-none, spot, Stands}
use Rattle.control_word.proofs.Prelude.{StandsFor, State, total, View}
use Rattle.control_word.proofs.words.Frames.{at_inside, total_set}
use Rattle.control_word.specs.Views.{comes, stays}

-- an element behind a list
at_end : {A : Type 0} (l : List A) (a : A) (i : ℕ) (x : A) → get_elem? (l ++ a ∷ []) i ≡ some x
    → (get_elem? l i ≡ some x) ⊎ ((i ≡ length l) × (a ≡ x))
at_end [] a zero x e = inr (refl, some-injective a x e)
at_end [] a (suc i) x e = absurd (some-ne-none x (sym e))
at_end (y ∷ l) a zero x e = inl e
at_end (y ∷ l) a (suc i) x e = ⊎_elim inl (λ t. inr (ap suc t.0, t.1)) (at_end l a i x e)

end_at : {A : Type 0} (l : List A) (a : A) (i : ℕ) (x : A) → get_elem? l i ≡ some x → get_elem? (l ++ a ∷ []) i ≡ some x
end_at [] a i x e = absurd (some-ne-none x (sym e))
end_at (y ∷ l) a zero x e = e
end_at (y ∷ l) a (suc i) x e = end_at l a i x e

total_end : {A : Type 0} (f : A → ℕ) (l : List A) (a : A) → total f (l ++ a ∷ []) ≡ total f l + f a
total_end f [] a = omega arith
total_end f (x ∷ l) a = let t = total_end f l a in omega arith

module _ {V : Type 0} where
  module _ (z : Opening) (words : List ℕ) (views : List (View V)) (h : List (Entry V)) (stands : Stands z words views h)
      (i : ℕ) (v : View V) (at : get_elem? views i ≡ some v) (awake : v.spent ≡ false) where
    -- the new desk's view takes its place behind the others
    pub part_step : (to : ℕ) → v.pending ≡ Parting to → Stands z words (set views i (stays v) ++ comes v to ∷ []) h
    part_step to busy = record {
      taken = stands.taken;
      legal = stands.legal;
      shows = subst (λ (u : ℕ → ℕ). Shows z words u (more z s (set views i (stays v) ++ comes v to ∷ []) stands.taken) s)
          (fun_ext (λ m. sym (sums m).0))
          (subst (λ (g : ℕ → ℕ). Shows z words (owed views) g s)
          (fun_ext (λ m. let x = sums m in let x1 = x.1 in let x2 = x.2 in
          let e : more z s views stands.taken m ≡ more z s (set views i (stays v) ++ comes v to ∷ []) stands.taken m = omega arith in e)) stands.shows);
      most = stands.most;
      blank = stands.blank;
      bare = stands.bare;
      doors = λ b hb. let x = (sums (spot b 2)).2 in let d = stands.doors b hb in omega arith;
      team = record {
        seated = λ j u e l. ⊎_elim
            (λ o. ⊎_elim (λ (t : (j ≡ i) × (stays v ≡ u)). subst (λ (x : View V). Seated words z h x) t.1 mine) (λ (t : (j ≢ i)
            × (get_elem? views j ≡ some u)). stands.team.seated j u t.1 l) (at_set views i j (stays v) u o))
            (λ n. subst (λ (x : View V). Seated words z h x) n.1 theirs) (at_end (set views i (stays v)) (comes v to) j u e);
        rests = λ j u e l. ⊎_elim (λ o. ⊎_elim (λ (t : (j ≡ i) × (stays v ≡ u)). sym (ap (λ (x : View V). x.pending) t.1)) (λ (t : (j ≢ i)
            × (get_elem? views j ≡ some u)). stands.team.rests j u t.1 l) (at_set views i j (stays v) u o))
            (λ n. sym (ap (λ (x : View V). x.pending) n.1)) (at_end (set views i (stays v)) (comes v to) j u e);
        names = λ j k u x e f l m d a b. ⊎_elim
            (λ o. ⊎_elim (λ p. (let y = was j u o l in let w = was k x p m in stands.team.names j k y.0 w.0 y.1 w.1 y.2 w.2 d (y.3 d a) (w.3 d b)))
            (λ n. absurd (new_apart j u o l d a (subst (λ (y : View V). StandsFor y d) (sym n.1) b))) (at_end (set views i (stays v)) (comes v to) k x f))
            (λ n. ⊎_elim (λ p. absurd (new_apart k x p m d b (subst (λ (y : View V). StandsFor y d) (sym n.1) a)))
            (λ n2. n.0 ∙ sym n2.0) (at_end (set views i (stays v)) (comes v to) k x f)) (at_end (set views i (stays v)) (comes v to) j u e);
        whole = let t = stands.team.whole in ⊎_elim
            (λ (e : t.0 ≡ i). let q : t.1 ≡ v = some-injective t.1 v (sym t.2 ∙ (ap (get_elem? views) e ∙ at)) in (
              i,
              stays v,
              end_at _ (comes v to) i (stays v) (set_here views i (stays v) (at_inside views i v at)),
              awake,
              ap
                  (λ (y : View V). y.seen) (sym q) ∙ t.4,
            ))
            (λ (n : t.0 ≢ i). (t.0, t.1, end_at _ (comes v to) t.0 t.1 (set_else views i t.0 (stays v) n ∙ t.2), t.3, t.4)) (cases_eq t.0 i);
      };
    }
      where
        s : State
        s = leads z h

        seat : Seated words z h v
        seat = stands.team.seated i v at awake

        second : IsSecond v.pending to
        second = subst (λ p. IsSecond p to) (sym busy) refl

        sums : (m : ℕ) → (owed (set views i (stays v) ++ comes v to ∷ []) m ≡ owed views m)
            × (paid (set views i (stays v) ++ comes v to ∷ []) m ≡ paid views m)
            × (added (set views i (stays v) ++ comes v to ∷ []) m ≡ added views m)
        sums m =
            let a = total_set (λ (y : View V). owes y.pending m) views i v (stays v) at in
            let b = total_set (λ (y : View V). pays y.pending m) views i v (stays v) at in
            let c = total_set (λ (y : View V). adds y.pending m) views i v (stays v) at in
            let a0 = ap (λ p. owes p m) busy in let b0 = ap (λ p. pays p m) busy in let c0 = ap (λ p. adds p m) busy in
            let a1 = total_end (λ (y : View V). owes y.pending m) (set views i (stays v)) (comes v to) in
            let b1 = total_end (λ (y : View V). pays y.pending m) (set views i (stays v)) (comes v to) in
            let c1 = total_end (λ (y : View V). adds y.pending m) (set views i (stays v)) (comes v to) in
            (omega arith, omega arith, omega arith)

        mine : Seated words z h (stays v)
        mine = record {
          knows = λ d st. ⊎_elim (λ q. seat.knows d (inl q)) (λ q. absurd q) st;
          acts = λ d st. ⊎_elim (λ q. seat.acts d (inl q)) (λ q. absurd q) st;
          apart = λ d q e. q;
          both = tt;
          fits = tt;
        }

        theirs : Seated words z h (comes v to)
        theirs = record {
          knows = λ d st. ⊎_elim (λ (q : to ≡ d). subst (λ n. Knows n h v.seen) q (seat.knows to (inr second))) (λ q. absurd q) st;
          acts = λ d st. ⊎_elim (λ (q : to ≡ d). subst (IsActing s) q (seat.acts to (inr second))) (λ q. absurd q) st;
          apart = λ d q e. q;
          both = tt;
          fits = tt;
        }

        -- who was there stands for no more than before
        was : (j : ℕ) (u : View V) → get_elem? (set views i (stays v)) j ≡ some u → u.spent ≡ false
            → (x : View V) × (get_elem? views j ≡ some x) × (x.spent ≡ false) × ((d : ℕ) → StandsFor u d → StandsFor x d)
        was j u e l = ⊎_elim
            (λ (t : (j ≡ i) × (stays v ≡ u)). (
              v,
              ap (get_elem? views) t.0
                  ∙ at,
              awake,
              λ d st. ⊎_elim (λ q. inl q) (λ q. absurd q) (subst (λ (x : View V). StandsFor x d) (sym t.1) st),
            ))
            (λ (t : (j ≢ i) × (get_elem? views j ≡ some u)). (u, t.1, l, λ d st. st)) (at_set views i j (stays v) u e)

        new_apart : (j : ℕ) (u : View V) → get_elem? (set views i (stays v)) j ≡ some u → u.spent ≡ false → (d : ℕ) → StandsFor u d
            → StandsFor (comes v to) d → ⊥
        new_apart j u e l d a b =
            let is : to ≡ d = ⊎_elim (λ q. q) (λ q. absurd q) b in
            ⊎_elim
            (λ (t : (j ≡ i) × (stays v ≡ u)). seat.apart to second (⊎_elim (λ (q : v.name ≡ d). q
            ∙ sym is) (λ q. absurd q) (subst (λ (x : View V). StandsFor x d) (sym t.1) a)))
            (λ (t : (j ≢ i) × (get_elem? views j ≡ some u)). t.0 (stands.team.names j i u v t.1 at l awake d a (inr (subst
            (λ n. IsSecond v.pending n) is second)))) (at_set views i j (stays v) u e)
