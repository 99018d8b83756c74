-- One view takes in another before a join; no word changes.
use Rattle.std.proofs.Common.{◌≡◌, ℕ, ◌+◌, ◌≤◌, Bool, true, false, cond, ◌≢◌, ◌⊎◌, List, [], ◌∷◌}
use Rattle.std.proofs.Common.{◌++◌, length, set, nat_lt, sym, refl, ap, ◌∙◌, subst, inl, inr}
use Rattle.std.proofs.Common.{⊎_elim, true≢false, arith, length-append, ltb-false, ltb-true}
use Rattle.control_word.proofs.Prelude.{added, adds, at_set, cases_eq, Entry, fun_ext, get_elem?}
use Rattle.control_word.proofs.Prelude.{Idle, IsActing, Knows, leads, more, NoneBy, Opening, owed}
use Rattle.control_word.proofs.Prelude.{owes, paid, pays, Seated, set_else, set_here, Shows, some}
use Rattle.control_word.proofs.Prelude.{some-injective, spot, Stands, StandsFor, State, View}
use Rattle.control_word.proofs.words.Frames.{at_inside, total_set}
use Rattle.control_word.specs.Views.{longer, together, used_up}

-- of two equal lists with the same kind of end the shorter beginning begins the longer
split_append : {A : Type 0} (a b c d : List A) → a ++ b ≡ c ++ d → length c ≤ length a → (m : List A) × (a ≡ c ++ m) × (d ≡ m ++ b)
split_append a b [] d e le = (a, refl, sym e)
split_append [] b (y ∷ c) d e le = absurd (omega arith)
split_append (x ∷ a) b (y ∷ c) d e le =
    let head : x ≡ y = cc in
    let tail : a ++ b ≡ c ++ d = cc in
    let t = split_append a b c d tail (omega arith) in
    (t.0, (λ i. head i ∷ t.1 i), t.2)

module _ {V : Type 0} where
  none_append : (d : ℕ) (xs ys : List (Entry V)) → NoneBy d (xs ++ ys) → NoneBy d xs × NoneBy d ys
  none_append d [] ys n = (tt, n)
  none_append d (x ∷ xs) ys n = let t = none_append d xs ys n.2 in ((n.0, n.1, t.0), t.1)

-- the longer of two beginnings of one history
module _ {V : Type 0} where
  empty_list : (l : List (Entry V)) → length l ≡ 0 → l ≡ []
  empty_list [] e = refl
  empty_list (x ∷ l) e = absurd (omega arith)

  both_known : (d e : ℕ) (h xs ys : List (Entry V)) → Knows d h xs → Knows e h ys
      → let l = longer xs ys in Knows d h l × Knows e h l × Knows d l xs × Knows e l ys
  both_known d e h xs ys kx ky = go (nat_lt (length xs) (length ys)) refl
    where
      whole : kx.0 ++ xs ≡ ky.0 ++ ys
      whole = sym kx.1 ∙ ky.1

      lengths : length kx.0 + length xs ≡ length ky.0 + length ys
      lengths = sym (length-append kx.0 xs) ∙ (ap length whole ∙ length-append ky.0 ys)

      go : (b : Bool) → nat_lt (length xs) (length ys) ≡ b
          → Knows d h (cond b ys xs) × Knows e h (cond b ys xs) × Knows d (cond b ys xs) xs × Knows e (cond b ys xs) ys
      go true t =
          let lt = ltb-true (length xs) (length ys) t in
          let l = lengths in
          let m = split_append kx.0 xs ky.0 ys whole (omega arith) in
          let n = none_append d ky.0 m.0 (subst (NoneBy d) m.1 kx.2) in
          ((ky.0, ky.1, n.0), ky, (m.0, m.2, n.1), ([], refl, tt))
      go false t =
          let le = ltb-false (length xs) (length ys) t in
          let l = lengths in
          let m = split_append ky.0 ys kx.0 xs (sym whole) (omega arith) in
          let n = none_append e kx.0 m.0 (subst (NoneBy e) m.1 ky.2) in
          (kx, (kx.0, kx.1, n.0), ([], refl, tt), (m.0, m.2, n.1))

  longest : (xs ys : List (Entry V)) → (length xs ≤ length (longer xs ys)) × (length ys ≤ length (longer xs ys))
  longest xs ys = go (nat_lt (length xs) (length ys)) refl
    where
      go : (b : Bool) → nat_lt (length xs) (length ys) ≡ b → (length xs ≤ length (cond b ys xs)) × (length ys ≤ length (cond b ys xs))
      go true t = let lt = ltb-true (length xs) (length ys) t in (omega arith, omega arith)
      go false t = let le = ltb-false (length xs) (length ys) t in (omega arith, omega arith)

  module _ (z : Opening) (words : List ℕ) (views : List (View V)) (h : List (Entry V)) (stands : Stands z words views h)
      (i j : ℕ) (v w : View V) (at : get_elem? views i ≡ some v) (there : get_elem? views j ≡ some w) (two : i ≢ j) (awake : v.spent ≡ false)
      (up : w.spent ≡ false)
      (idle : v.pending ≡ Idle) (rests : w.pending ≡ Idle) where
    after_join : List (View V)
    after_join = set (set views i (together v w)) j used_up

    -- one view takes in another, which is spent
    pub merge_step : Stands z words (set (set views i (together v w)) j used_up) h
    merge_step = record {
      taken = stands.taken;
      legal = stands.legal;
      shows = subst (λ (u : ℕ → ℕ). Shows z words u (more z s all stands.taken) s) (fun_ext (λ m. sym (sums m).0))
          (subst (λ (g : ℕ → ℕ). Shows z words (owed views) g s)
          (fun_ext (λ m. let x = sums m in let x1 = x.1 in let x2 = x.2 in
          let e : more z s views stands.taken m ≡ more z s all stands.taken m = omega arith in e)) stands.shows);
      most = stands.most;
      blank = stands.blank;
      bare = stands.bare;
      doors = λ b hb. let x = (sums (spot b 2)).2 in let d = stands.doors b hb in omega arith;
      team = record {
        seated = λ k u e l. ⊎_elim (λ (t : (k ≡ i) × (together v w ≡ u)). subst (λ (x : View V). Seated words z h x) t.1 joined)
            (λ (t : (k ≢ i) × (k ≢ j) × (get_elem? views k ≡ some u)). stands.team.seated k u t.2 l) (which k u e l);
        rests = λ k u e l. ⊎_elim (λ (t : (k ≡ j) × (used_up ≡ u)). ap (λ (x : View V). x.pending) (sym t.1))
            (λ (t : (k ≢ j) × (get_elem? (set views i (together v w)) k ≡ some u)). ⊎_elim
            (λ (r : (k ≡ i) × (together v w ≡ u)). absurd (true≢false (sym l ∙ (sym (ap (λ (x : View V). x.spent) r.1) ∙ awake))))
            (λ (r : (k ≢ i) × (get_elem? views k ≡ some u)). stands.team.rests k u r.1 l) (at_set views i k (together v w) u t.1)) (at_set (set views i
            (together v w)) j k used_up u e);
        names = λ k m u x e f l n d a b. ⊎_elim
            (λ (t : (k ≡ i) × (together v w ≡ u)). ⊎_elim (λ (r : (m ≡ i) × (together v w ≡ x)). t.0 ∙ sym r.0)
            (λ (r : (m ≢ i) × (m ≢ j)
            × (get_elem? views m ≡ some x)). absurd (apart m x r.0 r.1 r.2 n d (subst (λ (y : View V). StandsFor y d) (sym t.1) a) b)) (which m x f n))
            (λ (t : (k ≢ i) × (k ≢ j) × (get_elem? views k ≡ some u)). ⊎_elim
            (λ (r : (m ≡ i) × (together v w ≡ x)). absurd (apart k u t.0 t.1 t.2 l d (subst (λ (y : View V). StandsFor y d) (sym r.1) b) a))
            (λ (r : (m ≢ i) × (m ≢ j) × (get_elem? views m ≡ some x)). stands.team.names k m u x t.2 r.2 l n d a b) (which m x f n)) (which k u e l);
        whole = ⊎_elim (λ (e : (stands.team.whole.0 ≡ i) ⊎ (stands.team.whole.0 ≡ j)). (i, together v w, here, awake, full e))
            (λ (n : (stands.team.whole.0 ≢ i) × (stands.team.whole.0 ≢ j)). (
              stands.team.whole.0,
              stands.team.whole.1,
              set_else (set views i (together v w)) j stands.team.whole.0 used_up n.1 ∙ (set_else views i stands.team.whole.0 (together v w) n.0
                  ∙ stands.team.whole.2),
              stands.team.whole.3,
              stands.team.whole.4,
            ))
            (⊎_elim (λ e. inl (inl e)) (λ n. ⊎_elim (λ e. inl (inr e)) (λ m. inr (n, m)) (cases_eq stands.team.whole.0 j))
            (cases_eq stands.team.whole.0 i));
      };
    }
      where
        s : State
        s = leads z h

        all : List (View V)
        all = set (set views i (together v w)) j used_up

        one : Seated words z h v
        one = stands.team.seated i v at awake

        other : Seated words z h w
        other = stands.team.seated j w there up

        known : Knows v.name h (longer v.seen w.seen) × Knows w.name h (longer v.seen w.seen) × Knows v.name (longer v.seen w.seen) v.seen
            × Knows w.name (longer v.seen w.seen) w.seen
        known = both_known v.name w.name h v.seen w.seen (one.knows v.name (inl refl)) (other.knows w.name (inl refl))

        still : get_elem? (set views i (together v w)) j ≡ some w
        still = set_else views i j (together v w) (λ e. two (sym e)) ∙ there

        here : get_elem? all i ≡ some (together v w)
        here = set_else (set views i (together v w)) j i used_up two ∙ set_here views i (together v w) (at_inside views i v at)

        sums : (m : ℕ) → (owed all m ≡ owed views m) × (paid all m ≡ paid views m) × (added all m ≡ added views m)
        sums m =
            let a = total_set (λ (y : View V). owes y.pending m) views i v (together v w) at in
            let b = total_set (λ (y : View V). pays y.pending m) views i v (together v w) at in
            let c = total_set (λ (y : View V). adds y.pending m) views i v (together v w) at in
            let a0 = ap (λ p. owes p m) idle in let b0 = ap (λ p. pays p m) idle in let c0 = ap (λ p. adds p m) idle in
            let a1 = total_set (λ (y : View V). owes y.pending m) (set views i (together v w)) j w used_up still in
            let b1 = total_set (λ (y : View V). pays y.pending m) (set views i (together v w)) j w used_up still in
            let c1 = total_set (λ (y : View V). adds y.pending m) (set views i (together v w)) j w used_up still in
            let a2 = ap (λ p. owes p m) rests in let b2 = ap (λ p. pays p m) rests in let c2 = ap (λ p. adds p m) rests in
            (omega arith, omega arith, omega arith)

        joined : Seated words z h (together v w)
        joined = record {
          knows = λ d st. ⊎_elim (λ (q : v.name ≡ d). subst (λ n. Knows n h (longer v.seen w.seen)) q known.0) (λ (q : w.name ≡ d). subst
              (λ n. Knows n h (longer v.seen w.seen)) q known.1) st;
          acts = λ d st. ⊎_elim (λ (q : v.name ≡ d). subst (IsActing s) q (one.acts v.name (inl refl)))
              (λ (q : w.name ≡ d). subst (IsActing s) q (other.acts w.name (inl refl))) st;
          apart = λ d q e. let r : w.name ≡ d = q in two (stands.team.names i j v w at there awake up d (inl e) (inl r));
          both = (known.2, known.3);
          fits = tt;
        }

        -- an unspent view is the joined one or one of the others
        which : (k : ℕ) (u : View V) → get_elem? all k ≡ some u → u.spent ≡ false
            → ((k ≡ i) × (together v w ≡ u)) ⊎ ((k ≢ i) × (k ≢ j) × (get_elem? views k ≡ some u))
        which k u e l = ⊎_elim (λ (t : (k ≡ j) × (used_up ≡ u)). absurd (true≢false (ap (λ (x : View V). x.spent) t.1 ∙ l)))
            (λ (t : (k ≢ j) × (get_elem? (set views i (together v w)) k ≡ some u)). ⊎_elim inl
            (λ r. inr (r.0, t.0, r.1)) (at_set views i k (together v w) u t.1)) (at_set (set views i (together v w)) j k used_up u e)

        apart : (k : ℕ) (u : View V) → k ≢ i → k ≢ j → get_elem? views k ≡ some u → u.spent ≡ false → (d : ℕ)
            → StandsFor (together v w) d → StandsFor u d → ⊥
        apart k u n m e l d st su = ⊎_elim (λ (q : v.name ≡ d). n (stands.team.names k i u v e at l awake d su (inl q)))
            (λ (q : w.name ≡ d). m (stands.team.names k j u w e there l up d su (inl q))) st

        full : (stands.team.whole.0 ≡ i) ⊎ (stands.team.whole.0 ≡ j) → longer v.seen w.seen ≡ h
        full e =
            let t = stands.team.whole in
            let l = longest v.seen w.seen in
            let k = known.0 in
            let lens : length h ≡ length k.0 + length (longer v.seen w.seen) = ap length k.1 ∙ length-append k.0 (longer v.seen w.seen) in
            let seen : length h ≤ length (longer v.seen w.seen) = ⊎_elim
            (λ q. let x = some-injective t.1 v (sym t.2 ∙ (ap (get_elem? views) q ∙ at)) in
            let y = ap length (ap (λ (y : View V). y.seen) (sym x) ∙ t.4) in
            let l0 = l.0 in omega arith)
            (λ q. let x = some-injective t.1 w (sym t.2 ∙ (ap (get_elem? views) q ∙ there)) in
            let y = ap length (ap (λ (y : View V). y.seen) (sym x) ∙ t.4) in
            let l1 = l.1 in omega arith) e in
            let none = empty_list k.0 (omega arith) in
            sym (k.1 ∙ ap (λ x. x ++ longer v.seen w.seen) none)
