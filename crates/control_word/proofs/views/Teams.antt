-- One desk's step changes its own view, and leaves what is so of the others.
use Rattle.std.proofs.Common.{◌≡◌, ℕ, ◌<◌, ◌≤◌, false, ◌≢◌, ◌⊎◌, List, [], ◌∷◌, set, sym, refl, ap}
use Rattle.std.proofs.Common.{◌∙◌, subst, inl, ⊎_elim, true≢false, arith}
use Rattle.control_word.proofs.Prelude
use Prelude.{added, adds, after, Asks, at_set, Bare, Entry, entry, Event, Fits, get_elem?, HasRoom}
use Prelude.{Idle, InShape, IsActing, IsSecond, Knows, leads, Making, Merging, more, Names}
use Prelude.{Opening, owed, Parting, Paying, Pending, Seated, sees_as, set_here, Shows, some, spot}
use Prelude.{Stands, StandsFor, value, Values, View, Visiting, word}
use Rattle.control_word.proofs.history.Kept.{acting_same, same_after}
use Rattle.control_word.proofs.history.Others.{IsLone, IsPlain, acts_after, plain_names}
use Rattle.control_word.proofs.words.Frames.{at_inside, total_set}
use Rattle.control_word.specs.Views.{HasBoth, Team}
use Rattle.control_word.specs.Limits.{cell_funds}

module _ {V : Type 0} where
  -- one view changes, and the history may grow by an event of its desk
  pub team_step : (z : Opening) (words words' : List ℕ) (views : List (View V)) (h h' : List (Entry V)) (i : ℕ) (v : View V) (p : Pending V)
      → Team z words views h → get_elem? views i ≡ some v → v.spent ≡ false
      → ((d : ℕ) (seen : List (Entry V)) → (StandsFor v d → ⊥) → IsActing (leads z h) d → Knows d h seen → Knows d h' seen)
      → ((d : ℕ) → (StandsFor v d → ⊥) → IsActing (leads z h) d → IsActing (leads z h') d)
      → Fits words' (leads z h') (value z h') v.name p
      → IsActing (leads z h') v.name
      → ((d : ℕ) → IsSecond p d → (v.name ≡ d → ⊥) × IsActing (leads z h') d × (StandsFor v d ⊎ (IsActing (leads z h) d → ⊥)))
      → HasBoth v.name h' p
      → ((j : ℕ) (u : View V) → j ≢ i → get_elem? views j ≡ some u → u.spent ≡ false → u.name ≢ v.name
      → Fits words (leads z h) (value z h) u.name u.pending → Fits words' (leads z h') (value z h') u.name u.pending)
      → Team z words' (set views i (sees_as v p h')) h'
  team_step z words words' views h h' i v p team at awake grows acts mine own seconds both others =
      let w : View V = sees_as v p h' in
      record {
        seated = λ j u e l. ⊎_elim
            (λ (t : (j ≡ i) × (w ≡ u)). subst (λ (x : View V). Seated words' z h' x) t.1 me)
            (λ (t : (j ≢ i) × (get_elem? views j ≡ some u)). other j u t.0 t.1 l) (at_set views i j w u e);
        rests = λ j u e l. ⊎_elim (λ (t : (j ≡ i) × (w ≡ u)). absurd (true≢false (sym l ∙ (sym (ap (λ (x : View V). x.spent) t.1) ∙ awake))))
            (λ (t : (j ≢ i) × (get_elem? views j ≡ some u)). team.rests j u t.1 l) (at_set views i j w u e);
        names = λ j k u x e1 e2 l1 l2 d s1 s2. ⊎_elim
            (λ (a : (j ≡ i) × (w ≡ u)). ⊎_elim (λ (b : (k ≡ i) × (w ≡ x)). a.0 ∙ sym b.0)
            (λ (b : (k ≢ i) × (get_elem? views k ≡ some x)). absurd (clash k x b.0 b.1 l2 d (subst
            (λ (y : View V). StandsFor y d) (sym a.1) s1) s2)) (at_set views i k w x e2))
            (λ (a : (j ≢ i) × (get_elem? views j ≡ some u)). ⊎_elim
            (λ (b : (k ≡ i) × (w ≡ x)). absurd (clash j u a.0 a.1 l1 d (subst (λ (y : View V). StandsFor y d) (sym b.1) s2) s1))
            (λ (b : (k ≢ i) × (get_elem? views k ≡ some x)). team.names j k u x a.1 b.1 l1 l2 d s1 s2) (at_set views i k w x e2))
            (at_set views i j w u e1);
        whole = (i, w, set_here views i w (at_inside views i v at), awake, refl);
      }
    where
      apart : (j : ℕ) (u : View V) → j ≢ i → get_elem? views j ≡ some u → u.spent ≡ false → (d : ℕ) → StandsFor u d
          → StandsFor v d → ⊥
      apart j u n e l d su sv = n (team.names j i u v e at l awake d su sv)

      clash : (j : ℕ) (u : View V) → j ≢ i → get_elem? views j ≡ some u → u.spent ≡ false → (d : ℕ) → StandsFor (sees_as v p h') d
          → StandsFor u d → ⊥
      clash j u n e l d sw su = ⊎_elim (λ q. apart j u n e l d su (inl q))
          (λ s. ⊎_elim (λ q. apart j u n e l d su q) (λ fresh. fresh ((team.seated j u e l).acts d su)) ((seconds d s).2)) sw

      other : (j : ℕ) (u : View V) → j ≢ i → get_elem? views j ≡ some u → u.spent ≡ false → Seated words' z h' u
      other j u n e l = let s = team.seated j u e l in record {
        knows = λ d st. grows d u.seen (apart j u n e l d st) (s.acts d st) (s.knows d st);
        acts = λ d st. acts d (apart j u n e l d st) (s.acts d st);
        apart = s.apart;
        both = s.both;
        fits = others j u n e l (λ q. apart j u n e l u.name (inl refl) (inl (sym q))) s.fits;
      }

      me : Seated words' z h' (sees_as v p h')
      me = record {
        knows = λ d st. ([], refl, tt);
        acts = λ d st. ⊎_elim (λ q. subst (IsActing (leads z h')) q own) (λ s. (seconds d s).1) st;
        apart = λ d s. (seconds d s).0;
        both = both;
        fits = mine;
      }

  -- an event of one desk, which may have a call under way before it and after it
  pub event_step : (z : Opening) (words words' : List ℕ) (views : List (View V)) (h : List (Entry V)) (i : ℕ) (v : View V) (a : Event V) (p : Pending V)
      (taken : ℕ → ℕ)
      → Stands z words views h → get_elem? views i ≡ some v → v.spent ≡ false
      → ((d : ℕ) → Names a d → StandsFor v d ⊎ (IsActing (leads z h) d → ⊥))
      → Asks (leads z h) v.name a → Values (value z h) a → HasRoom (after (leads z h) v.name a) v.name
      → let w : View V = sees_as v p (entry v.name a ∷ h) in
      let s' = after (leads z h) v.name a in
      Shows z words' (owed (set views i w)) (more z s' (set views i w) taken) s'
      → ((j : ℕ) → taken j ≤ cell_funds) → ((b k : ℕ) → InShape z b → k < 7 → taken (spot b k) ≡ 0) → Bare z s' taken
      → ((b : ℕ) → InShape z b → added (set views i w) (spot b 2) ≤ 4)
      → Fits words' s' (value z (entry v.name a ∷ h)) v.name p
      → ((d : ℕ) → IsSecond p d → (v.name ≡ d → ⊥) × IsActing s' d × (StandsFor v d ⊎ (IsActing (leads z h) d → ⊥)))
      → HasBoth v.name (entry v.name a ∷ h) p
      → ((j : ℕ) (u : View V) → j ≢ i → get_elem? views j ≡ some u → u.spent ≡ false → u.name ≢ v.name
      → Fits words (leads z h) (value z h) u.name u.pending → Fits words' s' (value z (entry v.name a ∷ h)) u.name u.pending)
      → Stands z words' (set views i w) (entry v.name a ∷ h)
  event_step z words words' views h i v a p taken stands at awake alone asks vals room shows most blank bare doors mine seconds both others =
      let acting = (stands.team.seated i v at awake).acts v.name (inl refl) in
      let quiet : (d : ℕ) → (StandsFor v d → ⊥) → IsActing (leads z h) d → Names a d → ⊥ =
      λ d n act names. ⊎_elim (λ st. n st) (λ fresh. fresh act) (alone d names) in
      record {
        taken = taken;
        legal = (stands.legal, record { acting = acting; asks = asks; values = vals; room = room });
        shows = shows;
        most = most;
        blank = blank;
        bare = bare;
        doors = doors;
        team = team_step z words words' views h (entry v.name a ∷ h) i v p stands.team at awake
            (λ d seen n act k. (entry v.name a ∷ k.0, ap (λ l. entry v.name a ∷ l) k.1, ((λ e. n (inl e)), quiet d n act, k.2)))
            (λ d n act. acting_same (leads z h) (after (leads z h) v.name a) d (same_after (leads z h) d v.name a (λ e. n (inl e)) (quiet d n act)) act)
            mine (acts_after (leads z h) v.name a acting asks) seconds both others;
      }

  lone_second : (p : Pending V) → IsLone p → (d : ℕ) → IsSecond p d → ⊥
  lone_second Idle lone d s = s
  lone_second (Making b known) lone d s = s
  lone_second (Paying k o q word funds loads) lone d s = s
  lone_second (Visiting o q word v) lone d s = s
  lone_second (Parting to) lone d s = lone
  lone_second (Merging other mine others) lone d s = lone

  lone_both : (p : Pending V) → IsLone p → (d : ℕ) (seen : List (Entry V)) → HasBoth d seen p
  lone_both Idle lone d s = tt
  lone_both (Making b known) lone d s = tt
  lone_both (Paying k o q word funds loads) lone d s = tt
  lone_both (Visiting o q word v) lone d s = tt
  lone_both (Parting to) lone d s = tt
  lone_both (Merging other mine others) lone d s = absurd lone

  -- a view that adds no more to the doors than before
  doors_kept : (z : Opening) (views : List (View V)) (i : ℕ) (v w : View V) → get_elem? views i ≡ some v
      → ((b : ℕ) → InShape z b → added views (spot b 2) ≤ 4) → ((b : ℕ) → adds w.pending (spot b 2) ≤ adds v.pending (spot b 2))
      → (b : ℕ) → InShape z b → added (set views i w) (spot b 2) ≤ 4
  doors_kept z views i v w at doors less b hb =
      let t = total_set (λ (y : View V). adds y.pending (spot b 2)) views i v w at in let d = doors b hb in let l = less b in omega arith

  -- the same for an event that names no desk and is no visit
  pub plain_step : (z : Opening) (words words' : List ℕ) (views : List (View V)) (h : List (Entry V)) (i : ℕ) (v : View V) (a : Event V) (p : Pending V)
      (taken : ℕ → ℕ)
      → Stands z words views h → get_elem? views i ≡ some v → v.spent ≡ false → IsPlain a → IsLone p
      → ((b : ℕ) → adds p (spot b 2) ≤ adds v.pending (spot b 2))
      → Asks (leads z h) v.name a → Values (value z h) a → HasRoom (after (leads z h) v.name a) v.name
      → let w : View V = sees_as v p (entry v.name a ∷ h) in
      let s' = after (leads z h) v.name a in
      Shows z words' (owed (set views i w)) (more z s' (set views i w) taken) s'
      → ((j : ℕ) → taken j ≤ cell_funds) → ((b k : ℕ) → InShape z b → k < 7 → taken (spot b k) ≡ 0) → Bare z s' taken
      → Fits words' s' (value z (entry v.name a ∷ h)) v.name p
      → ((d : ℕ) (q : Pending V) → d ≢ v.name → Fits words (leads z h) (value z h) d q → Fits words' s' (value z (entry v.name a ∷ h)) d q)
      → Stands z words' (set views i w) (entry v.name a ∷ h)
  plain_step z words words' views h i v a p taken stands at awake plain lone less asks vals room shows most blank bare mine others =
      event_step z words words' views h i v a p taken stands at awake (λ d n. absurd (plain_names a plain d n)) asks vals room shows most blank bare
      (doors_kept z views i v (sees_as v p (entry v.name a ∷ h)) at stands.doors less) mine
      (λ d s. absurd (lone_second p lone d s)) (lone_both p lone v.name (entry v.name a ∷ h)) (λ j u n e l m f. others u.name u.pending m f)

  -- a step without an event
  pub quiet_step : (z : Opening) (words words' : List ℕ) (views : List (View V)) (h : List (Entry V)) (i : ℕ) (v : View V)
      (p : Pending V) (taken : ℕ → ℕ)
      → Stands z words views h → get_elem? views i ≡ some v → v.spent ≡ false → IsLone p
      → let w : View V = sees_as v p h in
      let s = leads z h in
      Shows z words' (owed (set views i w)) (more z s (set views i w) taken) s
      → ((j : ℕ) → taken j ≤ cell_funds) → ((b k : ℕ) → InShape z b → k < 7 → taken (spot b k) ≡ 0) → Bare z s taken
      → ((b : ℕ) → InShape z b → added (set views i w) (spot b 2) ≤ 4)
      → Fits words' s (value z h) v.name p
      → ((d : ℕ) (q : Pending V) → d ≢ v.name → Fits words s (value z h) d q → Fits words' s (value z h) d q)
      → Stands z words' (set views i w) h
  quiet_step z words words' views h i v p taken stands at awake lone shows most blank bare doors mine others = record {
    taken = taken;
    legal = stands.legal;
    shows = shows;
    most = most;
    blank = blank;
    bare = bare;
    doors = doors;
    team = team_step z words words' views h h i v p stands.team at awake (λ d seen n act k. k) (λ d n act. act) mine
        ((stands.team.seated i v at awake).acts v.name (inl refl)) (λ d s. absurd (lone_second p lone d s)) (lone_both p lone v.name h)
        (λ j u n e l m f. others u.name u.pending m f);
  }

  -- the same where the doors stay as they are
  pub still_step : (z : Opening) (words words' : List ℕ) (views : List (View V)) (h : List (Entry V)) (i : ℕ) (v : View V)
      (p : Pending V) (taken : ℕ → ℕ)
      → Stands z words views h → get_elem? views i ≡ some v → v.spent ≡ false → IsLone p
      → ((b : ℕ) → adds p (spot b 2) ≤ adds v.pending (spot b 2))
      → let w : View V = sees_as v p h in
      let s = leads z h in
      Shows z words' (owed (set views i w)) (more z s (set views i w) taken) s
      → ((j : ℕ) → taken j ≤ cell_funds) → ((b k : ℕ) → InShape z b → k < 7 → taken (spot b k) ≡ 0) → Bare z s taken
      → Fits words' s (value z h) v.name p
      → ((d : ℕ) (q : Pending V) → d ≢ v.name → Fits words s (value z h) d q → Fits words' s (value z h) d q)
      → Stands z words' (set views i w) h
  still_step z words words' views h i v p taken stands at awake lone less shows most blank bare mine others =
      quiet_step z words words' views h i v p taken stands at awake lone shows most blank bare
      (doors_kept z views i v (sees_as v p h) at stands.doors less) mine others
