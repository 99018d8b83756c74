-- A step without an event may leave what its desk has seen as it was.
use Rattle.std.proofs.Common.{◌≡◌, ℕ, false, ◌≢◌, List, set, sym, ap, ◌∙◌, subst, inl, ⊎_elim}
use Rattle.std.proofs.Common.{true≢false, arith}
use Rattle.control_block.proofs.Prelude.{added, adds, at_inside, at_set, cases_eq, Entry, fun_ext}
use Rattle.control_block.proofs.Prelude.{get_elem?, HasBoth, IsSecond, leads, more, Opening, owed}
use Rattle.control_block.proofs.Prelude.{owes, paid, pays, Pending, Seated, sees_as, set_else}
use Rattle.control_block.proofs.Prelude.{set_here, Shows, some, some-injective, spot}
use Rattle.control_block.proofs.Prelude.{StandsFor, StandsFunded, total_set, View}
use Rattle.control_word.specs.HandFunds.{lacking, lacks}
use Rattle.control_word.specs.Views.{Stands}

module _ {V : Type 0} where
  -- the call is no half-done split or join
  pub record IsOwn (p : Pending V) : Type 0 where
    pub single : (d : ℕ) → IsSecond p d → ⊥
    pub both : (d : ℕ) (seen : List (Entry V)) → HasBoth d seen p

  module _ (z : Opening) (before words : List ℕ) (views : List (View V)) (h : List (Entry V)) (i : ℕ) (v : View V) (p : Pending V)
      (at : get_elem? views i ≡ some v) (awake : v.spent ≡ false) (old : Stands z before views h) (own : IsOwn p)
      (stands : Stands z words (set views i (sees_as v p h)) h) where
    abbrev now : View V
    now = sees_as v p v.seen

    abbrev full : View V
    full = sees_as v p h

    abbrev all : List (View V)
    all = set views i now

    sums : (m : ℕ) → (owed all m ≡ owed (set views i full) m) × (paid all m ≡ paid (set views i full) m)
        × (added all m ≡ added (set views i full) m)
    sums m =
        let a = total_set (λ (y : View V). owes y.pending m) views i v now at in
        let b = total_set (λ (y : View V). pays y.pending m) views i v now at in
        let c = total_set (λ (y : View V). adds y.pending m) views i v now at in
        let a1 = total_set (λ (y : View V). owes y.pending m) views i v full at in
        let b1 = total_set (λ (y : View V). pays y.pending m) views i v full at in
        let c1 = total_set (λ (y : View V). adds y.pending m) views i v full at in
        (omega arith, omega arith, omega arith)

    here : get_elem? (set views i full) i ≡ some full
    here = set_here views i full (at_inside views i v at)

    mine : Seated words z h now
    mine =
        let s = stands.team.seated i full here awake in let o = old.team.seated i v at awake in
        record {
          knows = λ d st. ⊎_elim (λ q. o.knows d (inl q)) (λ q. absurd (own.single d q)) st;
          acts = s.acts;
          apart = s.apart;
          both = own.both v.name v.seen;
          fits = s.fits;
        }

    -- each view stands for the names that it stood for
    was : (j : ℕ) (u : View V) → get_elem? all j ≡ some u → u.spent ≡ false
        → (x : View V) × (get_elem? (set views i full) j ≡ some x) × (x.spent ≡ false) × ((d : ℕ) → StandsFor u d → StandsFor x d)
    was j u e l = ⊎_elim
        (λ (t : (j ≡ i) × (now ≡ u)).
        (full, ap (get_elem? (set views i full)) t.0 ∙ here, awake, λ d st. subst (λ (x : View V). StandsFor x d) (sym t.1) st))
        (λ (t : (j ≢ i) × (get_elem? views j ≡ some u)). (u, set_else views i j full t.0 ∙ t.1, l, λ d st. st)) (at_set views i j now u e)

    unseen_bare : Stands z words (set views i now) h
    unseen_bare = record {
      taken = stands.taken;
      legal = stands.legal;
      shows = subst (λ (u : ℕ → ℕ). Shows z words u (more z (leads z h) all stands.taken) (leads z h)) (fun_ext (λ m. sym (sums m).0))
          (subst (λ (g : ℕ → ℕ). Shows z words (owed (set views i full)) g (leads z h))
          (fun_ext (λ m. let x = sums m in let x1 = x.1 in let x2 = x.2 in
          let e : more z (leads z h) (set views i full) stands.taken m ≡ more z (leads z h) all stands.taken m = omega arith in e)) stands.shows);
      most = stands.most;
      blank = stands.blank;
      bare = stands.bare;
      doors = λ b hb. let x = (sums (spot b 2)).2 in let d = stands.doors b hb in omega arith;
      team = record {
        seated = λ j u e l. ⊎_elim (λ (t : (j ≡ i) × (now ≡ u)). subst (λ (x : View V). Seated words z h x) t.1 mine)
            (λ (t : (j ≢ i) × (get_elem? views j ≡ some u)). stands.team.seated j u (set_else views i j full t.0 ∙ t.1) l) (at_set views i j now u e);
        rests = λ j u e l. ⊎_elim
            (λ (t : (j ≡ i) × (now ≡ u)). absurd (true≢false (sym l ∙ (sym (ap (λ (x : View V). x.spent) t.1) ∙ awake))))
            (λ (t : (j ≢ i) × (get_elem? views j ≡ some u)). stands.team.rests j u (set_else views i j full t.0 ∙ t.1) l) (at_set views i j now u e);
        names = λ j k u x e f l m d a b. let y = was j u e l in let w = was k x f m in
            stands.team.names j k y.0 w.0 y.1 w.1 y.2 w.2 d (y.3 d a) (w.3 d b);
        whole = let t = old.team.whole in ⊎_elim
            (λ (e : t.0 ≡ i). let q : t.1 ≡ v = some-injective t.1 v (sym t.2 ∙ (ap (get_elem? views) e ∙ at)) in
            (i, now, set_here views i now (at_inside views i v at), awake, ap (λ (y : View V). y.seen) (sym q) ∙ t.4))
            (λ (n : t.0 ≢ i). (t.0, t.1, set_else views i t.0 now n ∙ t.2, t.3, t.4)) (cases_eq t.0 i);
      };
    }

  pub unseen : (z : Opening) (before words : List ℕ) (views : List (View V)) (h : List (Entry V)) (i : ℕ) (v : View V) (p : Pending V)
      → get_elem? views i ≡ some v → v.spent ≡ false → StandsFunded z before views h → IsOwn p
      → StandsFunded z words (set views i (sees_as v p h)) h → StandsFunded z words (set views i (sees_as v p v.seen)) h
  unseen z before words views h i v p at awake old own stands = record {
    bare = stands.bare;
    stands = unseen_bare z old.bare stands.bare views h i v p at awake old.stands own stands.stands;
    sized = stands.sized;
    funded = λ m.
        let a = total_set (λ (y : View V). lacks y.pending m) views i v (sees_as v p v.seen) at in
        let b = total_set (λ (y : View V). lacks y.pending m) views i v (sees_as v p h) at in
        let f = stands.funded m in omega arith;
  }
