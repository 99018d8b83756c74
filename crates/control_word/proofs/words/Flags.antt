-- The door bit of a flag word.
use Rattle.std.proofs.Common.{◌≡◌, ℕ, zero, suc, ◌+◌, ◌-◌, ◌*◌, ◌<◌, ◌≤◌, Bool, true, false, cond}
use Rattle.std.proofs.Common.{◌≢◌, List, [], ◌∷◌, length, get_or, set, ◌==◌, Option, sym, refl, ap}
use Rattle.std.proofs.Common.{◌∙◌, ⊎_elim, arith, length-set, get_or-set_other, ne_eqb}
use Rattle.control_word.proofs.Prelude.{added, adds, blocks_of, cases_eq, cell_spot, cond-false}
use Rattle.control_word.proofs.Prelude.{cond_both, Entry, Fits, flags_of, get_elem?, Idle, leads}
use Rattle.control_word.proofs.Prelude.{Making, Merging, more, Opening, owed, owes, paid, Parting}
use Rattle.control_word.proofs.Prelude.{Paying, pays, Pending, Place, Shows, some, some-injective}
use Rattle.control_word.proofs.Prelude.{some-ne-none, spot, Stands, State, total, View, Visiting}
use Rattle.control_word.proofs.history.Legal.{sound}
use Rattle.control_word.proofs.history.Soundness.{IsBusy, Sound}
use Rattle.control_word.proofs.words.Body.{body_read, words_flags}
use Rattle.control_word.proofs.words.Frames.{shelf_kept, spot_apart, spot_fits, total_set}
use Rattle.control_word.proofs.words.Funds.{total_some}
use Rattle.control_word.proofs.words.Payments.{one_at, read_set, shows_all}
use Rattle.control_word.specs.Words.{object_words}

pub total_at : {A : Type 0} (f : A → ℕ) (l : List A) (i : ℕ) (a : A) → get_elem? l i ≡ some a → f a ≤ total f l
total_at f [] i a e = absurd (some-ne-none a (sym e))
total_at f (x ∷ xs) zero a e = let t = ap f (some-injective x a e) in omega arith
total_at f (x ∷ xs) (suc i) a e = let t = total_at f xs i a e in omega arith

-- two places of a list
pub total_two : {A : Type 0} (f : A → ℕ) (l : List A) (i j : ℕ) (a b : A) → get_elem? l i ≡ some a → get_elem? l j ≡ some b → i ≢ j
    → f a + f b ≤ total f l
total_two f [] i j a b e g n = absurd (some-ne-none a (sym e))
total_two f (x ∷ xs) zero zero a b e g n = absurd (n refl)
total_two f (x ∷ xs) zero (suc j) a b e g n = let t = ap f (some-injective x a e) in let u = total_at f xs j b g in omega arith
total_two f (x ∷ xs) (suc i) zero a b e g n = let t = ap f (some-injective x b g) in let u = total_at f xs i a e in omega arith
total_two f (x ∷ xs) (suc i) (suc j) a b e g n = let u = total_two f xs i j a b e g (λ q. n (ap suc q)) in omega arith

flags_few : (e n : Bool) → flags_of e n ≤ 3
flags_few true true = omega arith
flags_few true false = omega arith
flags_few false true = omega arith
flags_few false false = omega arith

module _ {V : Type 0} where
  -- a half-done call adds a whole shut door to a flag word, or nothing
  door_adds : (p : Pending V) (b : ℕ) → 0 < adds p (spot b 2) → 4 ≤ adds p (spot b 2)
  door_adds Idle b m = absurd (omega arith)
  door_adds (Making c known) b m = absurd (let t : ◌≡◌ {A = ℕ} (cond (spot b 2 == spot c.0 1) 1 0) 0 = cond-false _ 1 0 (ne_eqb (spot b 2) (spot c.0 1)
      (λ e. omega arith)) in omega arith)
  door_adds (Paying k o p w funds loads) b m = absurd (omega arith)
  door_adds (Visiting o p w x) b m = cond_both (spot b 2 == w) 4 0 (λ n. 0 < n → 4 ≤ n) (λ e l. omega arith) (λ e l. absurd (omega arith)) m
  door_adds (Parting to) b m = absurd (omega arith)
  door_adds (Merging other x y) b m = absurd (omega arith)

  -- a write of a busy object's flag word leaves what half-done calls know
  pub stays_flag : (z : Opening) (words : List ℕ) (s : State) (values : ℕ → Option V) → Sound z s → (o n d : ℕ) (q : Pending V) → IsBusy s o
      → Fits words s values d q → Fits (set words (spot (s.object o).block 2) n) s values d q
  stays_flag z words s values fine o n d Idle busy f = tt
  stays_flag z words s values fine o n d (Paying k r p w x y) busy f = f
  stays_flag z words s values fine o n d (Visiting r p w x) busy f = f
  stays_flag z words s values fine o n d (Parting to) busy f = tt
  stays_flag z words s values fine o n d (Merging other x y) busy f = tt
  stays_flag z words s values fine o n d (Making b known) busy f =
      let u = fine.stores d b.0 f.0 in
      let place = (fine.placed o busy).1 in (
        f.0,
        λ j lt. get_or-set_other words (spot (s.object o).block 2) (spot b.0 (2 + j)) n 0
            (λ e. let t = spot_apart b.0 (2 + j) (s.object o).block 2 u.1.0 place.0 (omega arith) (omega arith) e in
            let v = u.0 o (sym t.0) in omega arith) ∙ f.1 j lt,
      )

  module _ (z : Opening) (words : List ℕ) (views : List (View V)) (h : List (Entry V)) (stands : Stands z words views h)
      (i : ℕ) (v : View V) (at : get_elem? views i ≡ some v) (awake : v.spent ≡ false) (o : ℕ) (p : Option Place) where
    -- a flag word is below 8, and below 4 just where no door is shut
    pub flags_read : IsBusy (leads z h) o → let n = get_or words (spot ((leads z h).object o).block 2) 0 in
        (n < 8) × (n < 4 → added views (spot ((leads z h).object o).block 2) ≡ 0)
    flags_read busy =
        let s = leads z h in
        let b = (s.object o).block in
        let r = body_read z words views h stands o 2 busy (omega arith) (omega arith) in
        let e : 2 - 2 ≡ 0 = omega arith in
        let f = ap (λ j. get_or (object_words (blocks_of s) (s.object o)) j 0) e ∙ words_flags (blocks_of s) (s.object o) in
        let few = flags_few (s.object o).enabled (s.object o).null in
        let doors = stands.doors b ((sound z h stands.legal).placed o busy).1 in (
          omega arith,
          λ low. ⊎_elim (λ (q : added views (spot b 2) ≡ 0). q)
              (λ (q : added views (spot b 2) ≢ 0).
              let t = total_some (λ (u : View V). adds u.pending (spot b 2)) views (omega arith) in
              let w = door_adds t.1.pending b t.3 in
              let l = total_at (λ (u : View V). adds u.pending (spot b 2)) views t.0 t.1 t.2 in absurd (omega arith)) (cases_eq (added views (spot b 2)) 0),
        )

    -- the words, where only the adds of one view and one flag word change
    pub shows_door : (q : Pending V) (w : View V) (a c : ℕ) → IsBusy (leads z h) o → w.pending ≡ q
        → let k = spot ((leads z h).object o).block 2 in
        ((m : ℕ) → owes v.pending m ≡ owes q m) → ((m : ℕ) → pays v.pending m ≡ pays q m)
        → ((m : ℕ) → adds v.pending m ≡ a * one_at k m) → ((m : ℕ)
        → adds q m ≡ c * one_at k m)
        → (n : ℕ) → n + a ≡ get_or words k 0 + c
        → Shows z (set words k n) (owed (set views i w)) (more z (leads z h) (set views i w) stands.taken) (leads z h)
    shows_door q w a c busy is owes' pays' was now n eq =
        let s = leads z h in
        let b = (s.object o).block in
        let k = spot b 2 in
        let place = ((sound z h stands.legal).placed o busy).1 in
        let inside : k < length words = let t = spot_fits z b 2 place (omega arith) in let u = stands.shows.sized in omega arith in
        let read = λ (m : ℕ). read_set words k n m inside a c eq in
        let moved : (m : ℕ) → (owed (set views i w) m ≡ owed views m) × (paid (set views i w) m ≡ paid views m)
        × (added (set views i w) m + a * one_at k m ≡ added views m + c * one_at k m) =
        λ m.
        let x = total_set (λ (y : View V). owes y.pending m) views i v w at in let y = total_set (λ (y : View V). pays y.pending m) views i v w at in
        let t = total_set (λ (y : View V). adds y.pending m) views i v w at in
        let x0 = owes' m in let y0 = pays' m in let a0 = was m in let c0 = now m in
        let x1 = ap (λ r. owes r m) is in let y1 = ap (λ r. pays r m) is in let c1 = ap (λ r. adds r m) is in
        (omega arith, omega arith, omega arith) in
        shows_all z words (set words k n) (owed views) (more z s views stands.taken) (owed (set views i w)) (more z s (set views i w) stands.taken) s s
        (length-set words k n) stands.shows (λ y u. u)
        (λ y hy vacant one. get_or-set_other words k (spot y 1) n 0 (λ e. omega arith) ∙ one)
        (λ y j hy hj. let m = spot y j in let r = read m in let x = moved m in let x0 = x.0 in let x1 = x.1 in let x2 = x.2 in omega arith)
        (λ y hy. let m = cell_spot z y in let r = read m in let x = moved m in let x0 = x.0 in let x1 = x.1 in let x2 = x.2 in omega arith)
        (shelf_kept z words s k n (let l = spot_fits z b 2 place (omega arith) in omega arith) stands.shows.shelf)
