use Rattle.std.proofs.Common.{◌≡◌, ℕ, suc, ◌+◌, ◌*◌, ◌<◌, ◌≤◌, Bool, true, false, cond, ◌≢◌, List}
use Rattle.std.proofs.Common.{◌∷◌, map, length, get_or, set, ◌==◌, Some, Option, sym, refl, ap}
use Rattle.std.proofs.Common.{◌∙◌, subst, ⊎_elim, arith, get_or-set_other, eq-eqb, ne_eqb}
use Rattle.control_word.proofs.Prelude
use Prelude.{added, adds, after, blocks_of, cases_eq, cond-false, cond-true, counts_at, Entry}
use Prelude.{Event, filter, Fits, get_elem?, handle, handles, Has, Held, held, Idle, in_cells}
use Prelude.{InShape, Kind, leads, Making, me, Merging, more, NumberedHandle, Opening, owed, owes}
use Prelude.{Owner, paid, Parting, Paying, pays, Pending, Place, same_held, sees, slot, some}
use Prelude.{some-injective, spot, Stands, State, tally, total, value, valued, View, Visiting}
use Prelude.{Weak, weak_number, without, word}
use Rattle.control_word.proofs.history.Cells.{one_of}
use Rattle.control_word.proofs.history.Legal.{held_busy, sound}
use Rattle.control_word.proofs.history.Others.{IsPlain, fits_after, plain_names, plain_visits}
use Rattle.control_word.proofs.history.Soundness.{IsBusy, Sound}
use Rattle.control_word.proofs.lists.Tallies.{has_without, held_self, held_true, num, num_without}
use Rattle.control_word.proofs.lists.Tallies.{tally_append, tally_has, tally_without}
use Rattle.control_word.proofs.words.Frames.{spot_apart, total_none, total_set}
use Rattle.control_word.proofs.words.Funds.{bank_few, same_counts, slot_low, total_le, total_some}
use Rattle.control_word.specs.State.{count, weak}
use Rattle.control_word.specs.Words.{bank}
use Rattle.control_word.specs.Limits.{one_fund}

module _ {V : Type 0} where
  -- a write of an owner or a weak word leaves what the other desks' half-done calls know
  pub fits_low : (z : Opening) (s : State) (words : List ℕ) (values : ℕ → Option V) (b k n me : ℕ) (a : Event V) → Sound z s
      → InShape z b → k < 2 → IsPlain a
      → (d : ℕ) (q : Pending V) → d ≢ me → Fits words s values d q → Fits (set words (spot b k) n) (after s me a) (valued s a values) d q
  fits_low z s words values b k n me a sound hb low plain d q other fits =
      fits_after z s words (set words (spot b k) n) values me a sound d q (λ e. other (sym e)) (plain_names a plain d)
      (λ o u. absurd (plain_visits a plain o u))
      (λ c has j lt.
      let hc = (sound.stores d c has).1 in
      get_or-set_other words (spot b k) (spot c (2 + j)) n 0
      (λ e. let t = spot_apart c (2 + j) b k hc.0 hb.0 (omega arith) (omega arith) e in omega arith)) fits

pub bag_one : (d : ℕ) (x : NumberedHandle) (l : List Held) → num (λ (y : Held). y.desk == d) (held d x ∷ l) ≡ suc (num (λ (y : Held). y.desk == d) l)
bag_one d x l = ap length (cond-true _ (held d x ∷ filter (λ (y : Held). y.desk == d) l) (filter (λ (y : Held). y.desk == d) l) (eq-eqb d d refl))

pub bag_fewer : (d : ℕ) (x : NumberedHandle) (l : List Held) → Has (held d x) l
    → num (λ (y : Held). y.desk == d) (without same_held (held d x) l) ≤ num (λ (y : Held). y.desk == d) l
bag_fewer d x l h = let t = num_without same_held held_true held_self (λ (y : Held). y.desk == d) (held d x) l h in omega arith

module _ {V : Type 0} where
  same_view : (u v : View V) → some u ≡ some v → u ≡ v
  same_view u v e = some-injective u v e

-- handles of two desks are two
pub two_held : (s : State) (k : Kind) (o d e : ℕ) (p q : Option Place) → d ≢ e → Has (held d (handle k (Some o) p)) s.hands
    → Has (held e (handle k (Some o) q)) s.hands → 1 < tally k o (handles s)
two_held s k o d e p q n hd he =
    let x = held d (handle k (Some o) p) in let y = held e (handle k (Some o) q) in
    let a = tally_without k o x s.hands (in_cells s) hd in
    let b = has_without same_held held_true held_self y x s.hands he (λ t. n (sym (ap (λ (u : Held). u.desk) t))) in
    let one = one_of k o (handle k (Some o) p) refl refl in
    let two = one_of k o (handle k (Some o) q) refl refl in
    let c = tally_has k o y (without same_held x s.hands) (in_cells s) b (omega arith) in
    omega arith

abbrev pub number : State → Kind → ℕ → ℕ
number s Owner o = count s o
number s Weak o = weak_number s o

pub number_tally : (s : State) (k : Kind) (o : ℕ) → tally k o (handles s) ≤ number s k o
unfolding count weak
number_tally s Owner o = omega arith
number_tally s Weak o = omega arith

-- a word whose funds are at least the loads under way is 1 just where its number is 1 and stands alone
pub one_test : (n l m f : ℕ) → n + l ≡ m + one_fund * f → l ≤ f → 0 < m → (m ≡ 1 → f ≡ 0) → (n == 1) ≡ (m == 1)
one_test n l m f e le pos none =
    ⊎_elim (λ (t : m ≡ 1). let u = none t in eq-eqb n 1 (omega arith) ∙ sym (eq-eqb m 1 t))
    (λ (t : m ≢ 1). ne_eqb n 1 (λ u. ⊎_elim (λ (v : f ≡ 0). t (omega arith)) (λ (v : f ≢ 0). absurd (omega arith)) (cases_eq f 0))
    ∙ sym (ne_eqb m 1 t)) (cases_eq m 1)

module _ {V : Type 0} where
  module _ (z : Opening) (words : List ℕ) (views : List (View V)) (h : List (Entry V)) (stands : Stands z words views h) where
    -- what no half-done call does
    pub none_of : (f : Pending V → ℕ) → f Idle ≡ 0 → ((d : ℕ) (p : Pending V) → Fits words (leads z h) (value z h) d p → f p ≡ 0)
        → total (λ (v : View V). f v.pending) views ≡ 0
    none_of f idle none = total_none (λ (v : View V). f v.pending) views (λ j v e. go j v e v.spent refl)
      where
        go : (j : ℕ) (v : View V) → get_elem? views j ≡ some v → (t : Bool) → v.spent ≡ t → f v.pending ≡ 0
        go j v e true t = ap f (stands.team.rests j v e t) ∙ idle
        go j v e false t = none v.name v.pending (stands.team.seated j v e t).fits

    -- each load under way has a fund
    pub owes_funds : (d : ℕ) (p : Pending V) (i : ℕ) → Fits words (leads z h) (value z h) d p → owes p i ≤ pays p i
    owes_funds d Idle i fits = omega arith
    owes_funds d (Making b known) i fits = omega arith
    owes_funds d (Visiting o q word w) i fits = omega arith
    owes_funds d (Parting to) i fits = omega arith
    owes_funds d (Merging other mine others) i fits = omega arith
    owes_funds d (Paying k o p word funds loads) i fits =
        ⊎_elim (λ e. let a = cond-true (i == word) funds 0 (eq-eqb i word e) in let b = cond-true (i == word) loads 0 (eq-eqb i word e) in
        let c = fits.2 in omega arith)
        (λ n. let a : ◌≡◌ {A = ℕ} (cond (i == word) funds 0) 0 = cond-false _ funds 0 (ne_eqb i word n) in
        let b : ◌≡◌ {A = ℕ} (cond (i == word) loads 0) 0 = cond-false _ loads 0 (ne_eqb i word n) in omega arith) (cases_eq i word)

    pub each_paid : (j : ℕ) (v : View V) (i : ℕ) → get_elem? views j ≡ some v → owes v.pending i ≤ pays v.pending i
    each_paid j v i e = go j v e v.spent refl
      where
        go : (j : ℕ) (v : View V) → get_elem? views j ≡ some v → (t : Bool) → v.spent ≡ t → owes v.pending i ≤ pays v.pending i
        go j v e true t = let r = stands.team.rests j v e t in let a = ap (λ p. owes p i) r in let b = ap (λ p. pays p i) r in omega arith
        go j v e false t = owes_funds v.name v.pending i (stands.team.seated j v e t).fits

    pub owed_paid : (i : ℕ) → owed views i ≤ paid views i
    owed_paid i = total_le (λ (v : View V). owes v.pending i) (λ (v : View V). pays v.pending i) views (λ j v e. each_paid j v i e)

    adds_counts : (k : Kind) (o : ℕ) → IsBusy (leads z h) o → (d : ℕ) (p : Pending V) → Fits words (leads z h) (value z h) d p
        → adds p (counts_at (blocks_of (leads z h)) k o) ≡ 0
    adds_counts k o busy d Idle fits = refl
    adds_counts k o busy d (Paying m q p word funds loads) fits = refl
    adds_counts k o busy d (Parting to) fits = refl
    adds_counts k o busy d (Merging other mine others) fits = refl
    adds_counts k o busy d (Visiting q p word w) fits =
        let s = leads z h in
        let fine = sound z h stands.legal in
        let b = (fine.placed o busy).1 in
        let c = (fine.placed q (held_busy z s d q Owner p fine fits.0)).1 in
        let low = slot_low k in
        cond-false _ 4 0 (ne_eqb (counts_at (blocks_of s) k o) word (λ e.
        let t = spot_apart (s.object o).block (slot k) (s.object q).block 2 b.0 c.0 (omega arith) (omega arith) (e ∙ fits.1) in omega arith))
    adds_counts Owner o busy d (Making c known) fits =
        let s = leads z h in
        let b = ((sound z h stands.legal).placed o busy).1 in
        let u = (sound z h stands.legal).stores d c.0 fits.0 in
        cond-false _ 1 0 (ne_eqb (spot (s.object o).block 0) (spot c.0 1)
        (λ e. let t = spot_apart (s.object o).block 0 c.0 1 b.0 u.1.0 (omega arith) (omega arith) e in omega arith))
    adds_counts Weak o busy d (Making c known) fits =
        let s = leads z h in
        let b = ((sound z h stands.legal).placed o busy).1 in
        let u = (sound z h stands.legal).stores d c.0 fits.0 in
        cond-false _ 1 0 (ne_eqb (spot (s.object o).block 1) (spot c.0 1) (λ e.
        let t = spot_apart (s.object o).block 1 c.0 1 b.0 u.1.0 (omega arith) (omega arith) e in
        let v = u.0 o t.0 in omega arith))

    -- the word that counts a kind of handles of a busy object has the number, less the loads under way, and the funds
    pub more_counts : (k : Kind) (o : ℕ) → IsBusy (leads z h) o → let i = counts_at (blocks_of (leads z h)) k o in
        more z (leads z h) views stands.taken i ≡ one_fund * (paid views i + bank z (leads z h) stands.taken i)
    more_counts k o busy =
        let s = leads z h in
        let i = counts_at (blocks_of s) k o in
        let a : added views i ≡ 0 = none_of (λ p. adds p i) refl (adds_counts k o busy) in
        let b : stands.taken i ≡ 0 = stands.blank (s.object o).block (slot k) ((sound z h stands.legal).placed o busy).1
        (let t = slot_low k in omega arith) in
        omega arith

    pub number_read : (k : Kind) (o : ℕ) → IsBusy (leads z h) o → let i = counts_at (blocks_of (leads z h)) k o in
        get_or words i 0 + owed views i ≡ number (leads z h) k o + one_fund * (paid views i + bank z (leads z h) stands.taken i)
    number_read Owner o busy =
        let s = leads z h in let b = (s.object o).block in let p = (sound z h stands.legal).placed o busy in
        let m = more_counts Owner o busy in
        ⊎_elim (λ l. absurd (omega arith)) (λ t. omega (arith, m, ap (count s) p.0)) (stands.shows.blocks b 0 p.1 (omega arith))
    number_read Weak o busy =
        let s = leads z h in let b = (s.object o).block in let p = (sound z h stands.legal).placed o busy in
        let m = more_counts Weak o busy in
        ⊎_elim (λ l. absurd (let none = l.2 o refl in omega arith)) (λ t. omega (arith, m, ap (weak_number s) p.0)) (stands.shows.blocks b 1 p.1 (omega arith))

    pub pays_handle : (k : Kind) (o : ℕ) → IsBusy (leads z h) o → (d : ℕ) (q : Pending V) → Fits words (leads z h) (value z h) d q
        → 0 < pays q (counts_at (blocks_of (leads z h)) k o)
        → (p : Option Place) × Has (held d (handle k (Some o) p)) (leads z h).hands
    pays_handle k o busy d Idle fits more = absurd (omega arith)
    pays_handle k o busy d (Making b known) fits more = absurd (omega arith)
    pays_handle k o busy d (Visiting q p word w) fits more = absurd (omega arith)
    pays_handle k o busy d (Parting to) fits more = absurd (omega arith)
    pays_handle k o busy d (Merging other mine others) fits more = absurd (omega arith)
    pays_handle k o busy d (Paying m q p word funds loads) fits more =
        let s = leads z h in
        let fine = sound z h stands.legal in
        let i = counts_at (blocks_of s) k o in
        ⊎_elim
        (λ (e : i ≡ word).
        let t = same_counts z s fine k m o q busy (held_busy z s d q m p fine fits.0) (e ∙ fits.1) in
        (p, subst (λ x. Has (held d (handle x (Some o) p)) s.hands) (sym t.0) (subst (λ x. Has (held d (handle m (Some x) p)) s.hands) (sym t.1) fits.0)))
        (λ (n : i ≢ word). let c : ◌≡◌ {A = ℕ} (cond (i == word) funds 0) 0 = cond-false _ funds 0 (ne_eqb i word n) in absurd (omega arith))
        (cases_eq i word)

    -- whoever has funds out on the word has such a handle
    pub paid_held : (k : Kind) (o : ℕ) → IsBusy (leads z h) o → 0 < paid views (counts_at (blocks_of (leads z h)) k o)
        → (j : ℕ) × (u : View V) × (p : Option Place) × (get_elem? views j ≡ some u) × (u.spent ≡ false)
        × Has (held u.name (handle k (Some o) p)) (leads z h).hands × (0 < pays u.pending (counts_at (blocks_of (leads z h)) k o))
    paid_held k o busy more =
        let i = counts_at (blocks_of (leads z h)) k o in
        let t = total_some (λ (v : View V). pays v.pending i) views more in
        let awake : t.1.spent ≡ false = go t.0 t.1 t.2 t.3 t.1.spent refl in
        let p = pays_handle k o busy t.1.name t.1.pending (stands.team.seated t.0 t.1 t.2 awake).fits t.3 in
        (t.0, t.1, p.0, t.2, awake, p.1, t.3)
      where
        go : (j : ℕ) (v : View V) → get_elem? views j ≡ some v → 0 < pays v.pending (counts_at (blocks_of (leads z h)) k o)
            → (b : Bool) → v.spent ≡ b
            → v.spent ≡ false
        go j v e m true t = absurd (let a = ap (λ p. pays p (counts_at (blocks_of (leads z h)) k o)) (stands.team.rests j v e t) in omega arith)
        go j v e m false t = t

    held_tally : (k : Kind) (o d : ℕ) (p : Option Place) → Has (held d (handle k (Some o) p)) (leads z h).hands → 0 < tally k o (handles (leads z h))
    held_tally k o d p has = let one = one_of k o (handle k (Some o) p) refl refl in tally_has k o (held d (handle k (Some o) p)) (leads z h).hands
        (in_cells (leads z h)) has (omega arith)

    -- where there are funds there is a handle
    pub funds_mean : (k : Kind) (o : ℕ) → IsBusy (leads z h) o
        → let i = counts_at (blocks_of (leads z h)) k o in 0 < paid views i + bank z (leads z h) stands.taken i → 0 < tally k o (handles (leads z h))
    funds_mean k o busy more =
        let s = leads z h in
        let i = counts_at (blocks_of s) k o in
        ⊎_elim
        (λ (e : paid views i ≡ 0).
        let b = bank_few z s (sound z h stands.legal) k o busy stands.taken in
        let t = tally_append k o (map (λ x. x.handle) s.hands) (in_cells s) in omega arith)
        (λ (n : paid views i ≢ 0). let t = paid_held k o busy (omega arith) in held_tally k o t.1.name t.2 t.5) (cases_eq (paid views i) 0)

    -- the word is 0 just where the number is 0
    pub word_some : (k : Kind) (o : ℕ) → IsBusy (leads z h) o → 0 < number (leads z h) k o → 0 < get_or words (counts_at (blocks_of (leads z h)) k o) 0
    word_some k o busy some' =
        let i = counts_at (blocks_of (leads z h)) k o in let r = number_read k o busy in let l = owed_paid i in omega arith

    pub some_word : (k : Kind) (o : ℕ) → IsBusy (leads z h) o → 0 < get_or words (counts_at (blocks_of (leads z h)) k o) 0 → 0 < number (leads z h) k o
    some_word k o busy some' =
        let s = leads z h in
        let i = counts_at (blocks_of s) k o in let r = number_read k o busy in
        ⊎_elim
        (λ (e : number s k o ≡ 0). let f : 0 < paid views i + bank z s stands.taken i = omega arith in let t = funds_mean k o busy f in
        let u = number_tally s k o in absurd (omega arith))
        (λ n. omega arith) (cases_eq (number s k o) 0)

    module _ (i : ℕ) (v : View V) (at : get_elem? views i ≡ some v) (awake : v.spent ≡ false) (idle : v.pending ≡ Idle) where
      -- a step of a desk that rests before and after it leaves what is owed and paid
      pub calm : (seen : List (Entry V)) (m : ℕ) → let w = sees v seen in
          (owed views m ≡ owed (set views i w) m) × (paid views m ≡ paid (set views i w) m) × (added views m ≡ added (set views i w) m)
      calm seen m =
          let w = sees v seen in
          let a = total_set (λ (u : View V). owes u.pending m) views i v w at in let x = ap (λ p. owes p m) idle in
          let b = total_set (λ (u : View V). pays u.pending m) views i v w at in let y = ap (λ p. pays p m) idle in
          let c = total_set (λ (u : View V). adds u.pending m) views i v w at in let d = ap (λ p. adds p m) idle in
          (omega arith, omega arith, omega arith)
