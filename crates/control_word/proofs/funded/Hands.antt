-- The funds of handles in hand: on the words that count handles of busy objects, and what half-done calls lack of them.
use Rattle.std.proofs.Common.{◌≡◌, ℕ, zero, suc, ◌+◌, ◌-◌, ◌*◌, ◌<◌, ◌≤◌, Bool, true, false, ◌&&◌, cond, ◌≢◌, ◌⊎◌, List, [], ◌∷◌}
use Rattle.std.proofs.Common.{map, set, ◌==◌, Some, None, Option, sym, refl, ap, ◌∙◌, subst, inl, inr, ⊎_elim, arith}
use Rattle.std.proofs.Common.{eq-eqb, ne_eqb}
use Rattle.control_word.proofs.Prelude
use Prelude.{and_from, at_set, blocks_of, cases_eq, cond-false, cond-true, cond_both, counts_at, Entry, Fits, get_elem?, handle, handles, Has}
use Prelude.{Held, held, Idle, in_cells, is_on, Kind, leads, Making, Merging, NumberedHandle, Opening, Owner, paid, Parting}
use Prelude.{Paying, pays, Pending, Place, some, some-injective, Stands, State, tally, total, value, View, Visiting, Weak, worth}
use Rattle.control_word.proofs.funded.Totals.{total_times, total_without}
use Rattle.control_word.proofs.history.Cells.{one_of}
use Rattle.control_word.proofs.history.Legal.{held_busy, sound, written}
use Rattle.control_word.proofs.history.Soundness.{IsBusy, Sound}
use Rattle.control_word.proofs.lists.Tallies.{num_has, tally_append, tally_cons, tally_other}
use Rattle.control_word.proofs.views.Names.{own, own_awake, own_sum}
use Rattle.control_word.proofs.words.Counting.{none_of}
use Rattle.control_word.proofs.words.Frames.{total_set}
use Rattle.control_word.proofs.words.Funds.{same_counts, total_le}
use Rattle.control_word.specs.HandFunds.{hand_funds, lacking, lacks}
use Rattle.control_word.specs.Limits.{cell_funds}

-- the funds of one handle, on its own word and on another
pub worth_here : (block : ℕ → ℕ) (k : Kind) (o : ℕ) (p : Option Place) (i : ℕ) → i ≡ counts_at block k o → worth block (handle k (Some o) p) 0 i ≡ cell_funds
worth_here block k o p i e = cond-true (i == counts_at block k o) cell_funds 0 (eq-eqb i (counts_at block k o) e)

pub worth_else : (block : ℕ → ℕ) (k : Kind) (o : ℕ) (p : Option Place) (i : ℕ) → i ≢ counts_at block k o → worth block (handle k (Some o) p) 0 i ≡ 0
worth_else block k o p i n = cond-false (i == counts_at block k o) cell_funds 0 (ne_eqb i (counts_at block k o) n)

abbrev AllBusy : State → List Held → Type 0
AllBusy s l = (d r : ℕ) (m : Kind) (p : Option Place) → Has (held d (handle m (Some r) p)) l → IsBusy s r

module _ (z : Opening) (s : State) (fine : Sound z s) where
  all_busy : AllBusy s s.hands
  all_busy d r m p has = held_busy z s d r m p fine has

  module _ (k : Kind) (o : ℕ) (busy : IsBusy s o) where
    worth_one : (m : Kind) (n : Option ℕ) (p : Option Place) → ((r : ℕ) → n ≡ Some r → IsBusy s r)
        → worth (blocks_of s) (handle m n p) 0 (counts_at (blocks_of s) k o) ≡ cell_funds * tally k o (handle m n p ∷ [])
    worth_one m None p b = go k m
      where
        go : (k m : Kind) → ◌≡◌ {A = ℕ} 0 (cell_funds * tally k o (handle m None p ∷ []))
        go Owner Owner = refl
        go Owner Weak = refl
        go Weak Owner = refl
        go Weak Weak = refl
    worth_one m (Some q) p b =
        ⊎_elim
        (λ (e : counts_at (blocks_of s) k o ≡ counts_at (blocks_of s) m q).
        let x = same_counts z s fine k m o q busy (b q refl) e in
        let one = one_of k o (handle m (Some q) p) (sym x.0) (ap Some (sym x.1)) in
        let c = worth_here (blocks_of s) m q p (counts_at (blocks_of s) k o) e in omega arith)
        (λ (ne : counts_at (blocks_of s) k o ≢ counts_at (blocks_of s) m q).
        let c = worth_else (blocks_of s) m q p (counts_at (blocks_of s) k o) ne in
        let none : tally k o (handle m (Some q) p ∷ []) ≡ 0 = other k m q p ne in omega arith)
        (cases_eq (counts_at (blocks_of s) k o) (counts_at (blocks_of s) m q))
      where
        other : (k m : Kind) (q : ℕ) (p : Option Place) → counts_at (blocks_of s) k o ≢ counts_at (blocks_of s) m q → tally k o (handle m (Some q) p ∷ []) ≡ 0
        other Owner Owner q p ne = tally_other Owner Owner o q p [] (λ e. ne (ap (counts_at (blocks_of s) Owner) e))
        other Owner Weak q p ne = refl
        other Weak Owner q p ne = refl
        other Weak Weak q p ne = tally_other Weak Weak o q p [] (λ e. ne (ap (counts_at (blocks_of s) Weak) e))

    worth_all : (l : List Held) → AllBusy s l
        → total (λ (x : Held). worth (blocks_of s) x.handle 0 (counts_at (blocks_of s) k o)) l ≡ cell_funds * tally k o (map (λ (x : Held). x.handle) l)
    worth_all [] all = omega arith
    worth_all (x ∷ xs) all =
        let h = x.handle in
        let a = worth_one h.kind h.object h.place (λ r e. all x.desk r h.kind h.place (inl (λ i. held x.desk (handle h.kind (sym e i) h.place)))) in
        let b = worth_all xs (λ d r m p has. all d r m p (inr has)) in
        let c = tally_cons k o h (map (λ (y : Held). y.handle) xs) in omega arith

    -- on the word that counts handles of a busy object each of them that is in hand has its funds
    pub hand_counts : hand_funds s (counts_at (blocks_of s) k o) ≡ cell_funds * tally k o (map (λ (x : Held). x.handle) s.hands)
    hand_counts = worth_all s.hands all_busy

  worth_none : (i : ℕ) → ((m : Kind) (r : ℕ) → IsBusy s r → i ≢ counts_at (blocks_of s) m r) → (l : List Held) → AllBusy s l
      → total (λ (x : Held). worth (blocks_of s) x.handle 0 i) l ≡ 0
  worth_none i apart [] all = refl
  worth_none i apart (x ∷ xs) all =
      let h = x.handle in
      let a = one h.kind h.object h.place (λ r e. all x.desk r h.kind h.place (inl (λ i. held x.desk (handle h.kind (sym e i) h.place)))) in
      let b = worth_none i apart xs (λ d r m p has. all d r m p (inr has)) in omega arith
    where
      one : (m : Kind) (n : Option ℕ) (p : Option Place) → ((r : ℕ) → n ≡ Some r → IsBusy s r) → worth (blocks_of s) (handle m n p) 0 i ≡ 0
      one m None p b = refl
      one m (Some q) p b = worth_else (blocks_of s) m q p i (apart m q (b q refl))

  -- on any other word no handle in hand has funds
  pub hand_none : (i : ℕ) → ((m : Kind) (r : ℕ) → IsBusy s r → i ≢ counts_at (blocks_of s) m r) → hand_funds s i ≡ 0
  hand_none i apart = worth_none i apart s.hands all_busy

module _ {V : Type 0} where
  module _ (z : Opening) (words : List ℕ) (views : List (View V)) (h : List (Entry V)) (stands : Stands z words views h) where
    lacks_none : (i : ℕ) → ((m : Kind) (r : ℕ) → IsBusy (leads z h) r → i ≢ counts_at (blocks_of (leads z h)) m r)
        → (d : ℕ) (p : Pending V) → Fits words (leads z h) (value z h) d p → lacks p i ≡ 0
    lacks_none i apart d Idle fits = refl
    lacks_none i apart d (Making b known) fits = refl
    lacks_none i apart d (Visiting o p word w) fits = refl
    lacks_none i apart d (Parting to) fits = refl
    lacks_none i apart d (Merging other x y) fits = refl
    lacks_none i apart d (Paying k o p word funds loads) fits =
        let s = leads z h in
        let busy = held_busy z s d o k p (sound z h stands.legal) fits.0 in
        cond-false (i == word) cell_funds 0 (ne_eqb i word (λ e. apart k o busy (e ∙ fits.1)))

    -- nor lacks a half-done call any there
    pub lacking_none : (i : ℕ) → ((m : Kind) (r : ℕ) → IsBusy (leads z h) r → i ≢ counts_at (blocks_of (leads z h)) m r) → lacking views i ≡ 0
    lacking_none i apart = none_of z words views h stands (λ p. lacks p i) refl (lacks_none i apart)

    pays_lacks : (d : ℕ) (p : Pending V) (i : ℕ) → Fits words (leads z h) (value z h) d p → pays p i ≤ lacks p i
    pays_lacks d Idle i fits = omega arith
    pays_lacks d (Making b known) i fits = omega arith
    pays_lacks d (Visiting o p word w) i fits = omega arith
    pays_lacks d (Parting to) i fits = omega arith
    pays_lacks d (Merging other x y) i fits = omega arith
    pays_lacks d (Paying k o p word funds loads) i fits =
        let t = fits.4 in
        ⊎_elim
        (λ (e : i ≡ word). let a = cond-true (i == word) funds 0 (eq-eqb i word e) in let b = cond-true (i == word) cell_funds 0 (eq-eqb i word e) in
        omega arith)
        (λ (n : i ≢ word). let a : ◌≡◌ {A = ℕ} (cond (i == word) funds 0) 0 = cond-false (i == word) funds 0 (ne_eqb i word n) in omega arith)
        (cases_eq i word)

    -- what half-done calls have out is no more than what their handles lack
    pub paid_lacking : (i : ℕ) → paid views i ≤ lacking views i
    paid_lacking i = total_le (λ (v : View V). pays v.pending i) (λ (v : View V). lacks v.pending i) views (λ j v e. go j v e v.spent refl)
      where
        go : (j : ℕ) (v : View V) → get_elem? views j ≡ some v → (t : Bool) → v.spent ≡ t → pays v.pending i ≤ lacks v.pending i
        go j v e true t = let a = ap (λ p. pays p i) (stands.team.rests j v e t) in omega arith
        go j v e false t = pays_lacks v.name v.pending i (stands.team.seated j v e t).fits

    module _ (k : Kind) (o : ℕ) (busy : IsBusy (leads z h) o) where
      own_has : (d : ℕ) (p : Option Place) → Has (held d (handle k (Some o) p)) (leads z h).hands → (v : View V) → v.name ≡ d → v.spent ≡ false
          → 0 < own k o (leads z h).hands v
      own_has d p has v name awake =
          let s = leads z h in
          let is : (d == v.name && is_on k o (handle k (Some o) p)) ≡ true = and_from _ _ (eq-eqb d v.name (sym name)) (kind_is k o p) in
          let n = num_has (λ (x : Held). x.desk == v.name && is_on k o x.handle) (held d (handle k (Some o) p)) s.hands has is in
          let a = own_awake k o s.hands v awake in omega arith
        where
          kind_is : (k : Kind) (o : ℕ) (p : Option Place) → is_on k o (handle k (Some o) p) ≡ true
          kind_is Owner o p = eq-eqb o o refl
          kind_is Weak o p = eq-eqb o o refl

      -- whoever lacks funds has a handle that they are for
      lacks_own : (v : View V) → v.spent ≡ false → Fits words (leads z h) (value z h) v.name v.pending
          → lacks v.pending (counts_at (blocks_of (leads z h)) k o) ≤ cell_funds * own k o (leads z h).hands v
      lacks_own v awake fits = go v.pending fits
        where
          go : (q : Pending V) → Fits words (leads z h) (value z h) v.name q
              → lacks q (counts_at (blocks_of (leads z h)) k o) ≤ cell_funds * own k o (leads z h).hands v
          go Idle fits = omega arith
          go (Making b known) fits = omega arith
          go (Visiting q p word w) fits = omega arith
          go (Parting to) fits = omega arith
          go (Merging other x y) fits = omega arith
          go (Paying m q p word funds loads) fits =
              let s = leads z h in
              let fine = sound z h stands.legal in
              let i = counts_at (blocks_of s) k o in
              ⊎_elim
              (λ (e : i ≡ word).
              let t = same_counts z s fine k m o q busy (held_busy z s v.name q m p fine fits.0) (e ∙ fits.1) in
              let has = subst (λ x. Has (held v.name (handle x (Some o) p)) s.hands) (sym t.0)
              (subst (λ x. Has (held v.name (handle m (Some x) p)) s.hands) (sym t.1) fits.0) in
              let one = own_has v.name p has v refl awake in
              let a = cond-true (i == word) cell_funds 0 (eq-eqb i word e) in omega arith)
              (λ (n : i ≢ word). let a : ◌≡◌ {A = ℕ} (cond (i == word) cell_funds 0) 0 = cond-false (i == word) cell_funds 0 (ne_eqb i word n) in omega arith)
              (cases_eq i word)

      own_spent : (v : View V) → v.spent ≡ true → lacks v.pending (counts_at (blocks_of (leads z h)) k o) ≡ 0
          → lacks v.pending (counts_at (blocks_of (leads z h)) k o) ≤ cell_funds * own k o (leads z h).hands v
      own_spent v t e = omega arith

      each_lacks : (j : ℕ) (v : View V) → get_elem? views j ≡ some v
          → lacks v.pending (counts_at (blocks_of (leads z h)) k o) ≤ cell_funds * own k o (leads z h).hands v
      each_lacks j v e = go v.spent refl
        where
          go : (t : Bool) → v.spent ≡ t → lacks v.pending (counts_at (blocks_of (leads z h)) k o) ≤ cell_funds * own k o (leads z h).hands v
          go true t = own_spent v t (ap (λ p. lacks p (counts_at (blocks_of (leads z h)) k o)) (stands.team.rests j v e t))
          go false t = lacks_own v t (stands.team.seated j v e t).fits

      same_names : (i j : ℕ) (v w : View V) → get_elem? views i ≡ some v → get_elem? views j ≡ some w → v.spent ≡ false → w.spent ≡ false
          → v.name ≡ w.name → i ≡ j
      same_names i j v w a b l m e = stands.team.names i j v w a b l m w.name (inl e) (inl refl)

      own_all : total (own k o (leads z h).hands) views ≤ tally k o (map (λ (x : Held). x.handle) (leads z h).hands)
      own_all = own_sum k o (leads z h).hands views same_names

      -- what is lacking is no more than what handles in hand have
      pub lacking_few : lacking views (counts_at (blocks_of (leads z h)) k o) ≤ hand_funds (leads z h) (counts_at (blocks_of (leads z h)) k o)
      lacking_few =
          let i = counts_at (blocks_of (leads z h)) k o in
          let a = total_le (λ (v : View V). lacks v.pending i) (λ (v : View V). cell_funds * own k o (leads z h).hands v) views each_lacks in
          let b = total_times cell_funds (λ (v : View V). cell_funds * own k o (leads z h).hands v) (own k o (leads z h).hands) views (λ v. refl) in
          let c = own_all in
          let d = hand_counts z (leads z h) (sound z h stands.legal) k o busy in omega arith

      -- and a desk that owes nothing has its own beside that
      pub lacking_fewer : (i : ℕ) (v : View V) → get_elem? views i ≡ some v → v.spent ≡ false → (p : Option Place)
          → Has (held v.name (handle k (Some o) p)) (leads z h).hands → lacks v.pending (counts_at (blocks_of (leads z h)) k o) ≡ 0
          → lacking views (counts_at (blocks_of (leads z h)) k o) + cell_funds ≤ hand_funds (leads z h) (counts_at (blocks_of (leads z h)) k o)
      lacking_fewer i v at awake p has none =
          let s = leads z h in
          let w = counts_at (blocks_of s) k o in
          let u : View V = record v { pending = Paying k o p w 0 0 } in
          let us = set views i u in
          let mine : lacks u.pending w ≡ cell_funds = cond-true (w == w) cell_funds 0 (eq-eqb w w refl) in
          let one = own_has v.name p has u refl awake in
          let a = total_le (λ (y : View V). lacks y.pending w) (λ (y : View V). cell_funds * own k o s.hands y) us
          (λ j y e. ⊎_elim (λ (t : (j ≡ i) × (u ≡ y)). subst (λ (y : View V). lacks y.pending w ≤ cell_funds * own k o s.hands y) t.1 (omega arith))
          (λ (t : (j ≢ i) × (get_elem? views j ≡ some y)). each_lacks j y t.1) (at_set views i j u y e)) in
          let b = total_times cell_funds (λ (y : View V). cell_funds * own k o s.hands y) (own k o s.hands) us (λ y. refl) in
          let c = total_set (own k o s.hands) views i v u at in
          let same : own k o s.hands u ≡ own k o s.hands v = own_awake k o s.hands u awake ∙ sym (own_awake k o s.hands v awake) in
          let d = own_all in
          let e = hand_counts z s (sound z h stands.legal) k o busy in
          let f = total_set (λ (y : View V). lacks y.pending w) views i v u at in omega arith
