-- A step on a count's word without an event: funds come, go, or one of them becomes a handle.
use Rattle.std.proofs.Common.{◌≡◌, ℕ, zero, suc, ◌+◌, ◌*◌, ◌<◌, ◌≤◌, false, cond, ◌≢◌, List, ◌∷◌}
use Rattle.std.proofs.Common.{length, get_or, set, ◌==◌, Some, Option, sym, refl, ap, ◌∙◌, subst}
use Rattle.std.proofs.Common.{inl, inr, ⊎_elim, arith, length-set, get_or-set_other}
use Rattle.std.proofs.Common.{get_or-set_same, eq-eqb, ne_eqb}
use Rattle.control_word.proofs.Prelude
use Prelude.{adds, at_set, block_words, blocks_of, cases_eq, Cell, cell_spot, cond-false}
use Prelude.{cond-true, counts_at, Entry, Fits, Free, get_elem?, handle, held, Idle, InShape}
use Prelude.{IsVacant, Kind, leads, Making, Member, Merging, more, Opening, owed, owes, Owner}
use Prelude.{paid, Parting, Paying, pays, Pending, Place, Shows, ShowsShelf, slot, some, spot}
use Prelude.{Stands, State, value, View, Visiting, Weak, weak_number}
use Rattle.control_word.proofs.history.Cells.{InState}
use Rattle.control_word.proofs.history.Clearing.{was_made}
use Rattle.control_word.proofs.history.Legal.{sound}
use Rattle.control_word.proofs.history.Moving.{more_owners, more_weaks, owner_no_weak}
use Rattle.control_word.proofs.history.Moving.{weak_no_owner}
use Rattle.control_word.proofs.history.Others.{IsLone}
use Rattle.control_word.proofs.history.Soundness.{IsBusy, Sound}
use Rattle.control_word.proofs.history.Storing.{kept}
use Rattle.control_word.proofs.views.Teams.{still_step}
use Rattle.control_word.proofs.words.Banks.{IsKept}
use Rattle.control_word.proofs.words.Counting.{each_paid, number_read}
use Rattle.control_word.proofs.words.Frames.{shelf_kept, spot_apart, spot_fits, total_set}
use Rattle.control_word.proofs.words.Funds.{slot_low, total_le}
use Rattle.control_word.specs.Words.{packed}
use Rattle.control_word.specs.Limits.{one_fund}

pub kept_in : (z : Opening) (s : State) (c : Cell) → Sound z s → IsKept s c → InState s c
kept_in z s (Free c) fine kept = kept
kept_in z s (Member o m) fine kept = (kept.0, was_made z s o fine (λ e. let u = fine.unmade_free o e in let k = kept.1 in omega arith))

-- words and state change alike
pub shows_all : (z : Opening) (words words' : List ℕ) (u f v g : ℕ → ℕ) (s t : State) → length words' ≡ length words → Shows z words u f s
    → ((b : ℕ) → IsVacant s b → IsVacant t b)
    → ((b : ℕ) → InShape z b → IsVacant s b → get_or words (spot b 1) 0 ≡ 1 → get_or words' (spot b 1) 0 ≡ 1)
    → ((b j : ℕ) → InShape z b → j < 16
    → get_or words' (spot b j) 0 + v (spot b j) + (get_or (block_words s b) j 0 + f (spot b j)) ≡ get_or words (spot b j) 0 + u (spot b j) + (get_or
    (block_words t b) j 0 + g (spot b j)))
    → ((c : ℕ) → c < z.cells
    → get_or words' (cell_spot z c) 0 + (packed (blocks_of s) (s.cell c) + f (cell_spot z c)) ≡ get_or words (cell_spot z c) 0 + (packed
    (blocks_of t) (t.cell c) + g (cell_spot z c)))
    → ShowsShelf z words' t
    → Shows z words' v g t
shows_all z words words' u f v g s t len shows vacant weak blocks free shelf = record {
  sized = len ∙ shows.sized;
  blocks = λ b j hb hj. ⊎_elim
      (λ l. inl (
        l.0,
        l.1,
        vacant b l.2,
        λ e. let one = l.3 e in (ap (λ i. get_or words' (spot b i) 0) e ∙ weak b hb l.2 (ap (λ i. get_or words (spot b i) 0) (sym e) ∙ one.0), one.1),
      ))
      (λ e. inr (let c = blocks b j hb hj in omega arith)) (shows.blocks b j hb hj);
  free = λ c hc. let a = free c hc in let e = shows.free c hc in omega arith;
  shelf = shelf;
}

-- 1 where it is the word
abbrev pub one_at : ℕ → ℕ → ℕ
one_at i m = cond (m == i) 1 0

pub one_here : (i m : ℕ) → m ≡ i → one_at i m ≡ 1
one_here i m e = cond-true _ 1 0 (eq-eqb m i e)

pub one_else : (i m : ℕ) → m ≢ i → one_at i m ≡ 0
one_else i m n = cond-false _ 1 0 (ne_eqb m i n)

pub cond_one : (i m n : ℕ) → ◌≡◌ {A = ℕ} (cond (m == i) n 0) (n * one_at i m)
cond_one i m n =
    ⊎_elim (λ e. let a = one_here i m e in let b = cond-true (m == i) n 0 (eq-eqb m i e) in
    let c : n * one_at i m ≡ n * 1 = ap (λ x. n * x) a in omega arith)
    (λ ne. let a = one_else i m ne in let b : ◌≡◌ {A = ℕ} (cond (m == i) n 0) 0 = cond-false _ n 0 (ne_eqb m i ne) in
    let c : n * one_at i m ≡ n * 0 = ap (λ x. n * x) a in omega arith) (cases_eq m i)

-- a busy object is the latest of its block alone
pub latest_is : (z : Opening) (s : State) (b o : ℕ) → Sound z s → IsBusy s o → s.latest b ≡ o → b ≡ (s.object o).block
latest_is z s b o fine busy e =
    ⊎_elim (λ (t : s.latest b ≡ 0). let w = ap (weak_number s) (sym e ∙ t) in let none = fine.unmade_free 0 fine.none in absurd (omega arith))
    (λ n. sym (fine.latest_in b n) ∙ ap (λ q. (s.object q).block) e) (cases_eq (s.latest b) 0)

-- one more handle in a bag: one more in its number
pub words_gain : (z : Opening) (s : State) (d o : ℕ) (m : Kind) (p : Option Place) → Sound z s → IsBusy s o → (b j : ℕ) → InShape z b → j < 16
    → get_or (block_words (record s { hands = held d (handle m (Some o) p) ∷ s.hands }) b) j 0 ≡ get_or (block_words s b) j 0 + one_at (counts_at
    (blocks_of s) m o) (spot b j)
words_gain z s d o m p fine busy b j hb lt = go m j lt
  where
    place : InShape z (s.object o).block
    place = (fine.placed o busy).1

    apart : (j k : ℕ) → j < 16 → k < 2 → j ≢ k → one_at (spot (s.object o).block k) (spot b j) ≡ 0
    apart j k lt low n = one_else _ _ (λ e. n ((spot_apart b j (s.object o).block k hb.0 place.0 lt (omega arith) e).1))

    here : (k : ℕ) → k < 2 → s.latest b ≡ o → one_at (spot (s.object o).block k) (spot b k) ≡ 1
    here k low e = one_here _ _ (ap (λ c. spot c k) (latest_is z s b o fine busy e))

    else' : (k : ℕ) → k < 2 → s.latest b ≢ o → one_at (spot (s.object o).block k) (spot b k) ≡ 0
    else' k low n = one_else _ _ (λ e. n (ap s.latest (spot_apart b k (s.object o).block k hb.0 place.0 (omega arith) (omega arith) e).0
        ∙ (fine.placed o busy).0))

    go : (m : Kind) (j : ℕ) → j < 16
        → get_or (block_words (record s { hands = held d (handle m (Some o) p) ∷ s.hands }) b) j 0 ≡ get_or (block_words s b) j 0 + one_at (counts_at
        (blocks_of s) m o) (spot b j)
    go Owner zero lt = ⊎_elim (λ e. let t = (more_owners s d o p (s.latest b)).0 e in
        let u = here 0 (omega arith) e in omega arith) (λ n. let t = (more_owners s d o p (s.latest b)).1 n in
        let u = else' 0 (omega arith) n in omega arith) (cases_eq (s.latest b) o)
    go Weak zero lt = let t = weak_no_owner s d (Some o) p (s.latest b) in let u = apart 0 1 lt (omega arith) (λ e. omega arith) in omega arith
    go Owner (suc zero) lt = let t = owner_no_weak s d (Some o) p (s.latest b) in let u = apart 1 0 lt (omega arith) (λ e. omega arith) in omega arith
    go Weak (suc zero) lt = ⊎_elim (λ e. let t = (more_weaks s d o p (s.latest b)).0 e in
        let u = here 1 (omega arith) e in omega arith) (λ n. let t = (more_weaks s d o p (s.latest b)).1 n in
        let u = else' 1 (omega arith) n in omega arith) (cases_eq (s.latest b) o)
    go Owner (suc (suc j)) lt = let u = apart (suc (suc j)) 0 lt (omega arith) (λ e. omega arith) in omega arith
    go Weak (suc (suc j)) lt = let u = apart (suc (suc j)) 1 lt (omega arith) (λ e. omega arith) in omega arith

pub vacant_gain : (z : Opening) (s : State) (d o : ℕ) (m : Kind) (p : Option Place) → Sound z s → IsBusy s o → (b : ℕ) → IsVacant s b
    → IsVacant (record s { hands = held d (handle m (Some o) p) ∷ s.hands }) b
vacant_gain z s d o Owner p fine busy b v q e = let t = owner_no_weak s d (Some o) p q in let u = v q e in omega arith
vacant_gain z s d o Weak p fine busy b v q e =
    ⊎_elim (λ (t : q ≡ o). let u = v q e in let w = ap (weak_number s) t in absurd (omega arith)) (λ n. let t = (more_weaks s d o p q).1 n in
    let u = v q e in omega arith) (cases_eq q o)

-- what is read after a write
pub read_set : (words : List ℕ) (k n m : ℕ) → k < length words → (a b : ℕ) → n + a ≡ get_or words k 0 + b
    → get_or (set words k n) m 0 + a * one_at k m ≡ get_or words m 0 + b * one_at k m
read_set words k n m inside a b e =
    ⊎_elim
    (λ (t : m ≡ k). let x : get_or (set words k n) m 0 ≡ n = ap (λ i. get_or (set words k n) i 0) t ∙ get_or-set_same words k n 0 inside in
    let y = one_here k m t in
    let u : a * one_at k m ≡ a * 1 = ap (λ c. a * c) y in let w : b * one_at k m ≡ b * 1 = ap (λ c. b * c) y in
    let r = ap (λ i. get_or words i 0) t in omega arith)
    (λ (t : m ≢ k). let x = get_or-set_other words k m n 0 t in let y = one_else k m t in
    let u : a * one_at k m ≡ a * 0 = ap (λ c. a * c) y in let w : b * one_at k m ≡ b * 0 = ap (λ c. b * c) y in omega arith) (cases_eq m k)

module _ {V : Type 0} where
  module _ (z : Opening) (words : List ℕ) (views : List (View V)) (h : List (Entry V)) (stands : Stands z words views h)
      (i : ℕ) (v : View V) (at : get_elem? views i ≡ some v) (awake : v.spent ≡ false) where
    -- the word of a number is one of the table's, and no flag or field, nor a cell's
    counts_low : (k : Kind) (o : ℕ) → IsBusy (leads z h) o → counts_at (blocks_of (leads z h)) k o < 16 * z.blocks
    counts_low k o busy = spot_fits z ((leads z h).object o).block (slot k) ((sound z h stands.legal).placed o busy).1
        (let u = slot_low k in omega arith)

    pub counts_inside : (k : Kind) (o : ℕ) → IsBusy (leads z h) o → counts_at (blocks_of (leads z h)) k o < length words
    counts_inside k o busy = let t = counts_low k o busy in let u = stands.shows.sized in omega arith

    -- a write of a number leaves what half-done calls know
    stays_low : (k : Kind) (o n d : ℕ) (q : Pending V) → IsBusy (leads z h) o → Fits words (leads z h) (value z h) d q
        → Fits (set words (counts_at (blocks_of (leads z h)) k o) n) (leads z h) (value z h) d q
    stays_low k o n d Idle busy f = tt
    stays_low k o n d (Making b known) busy f = (
      f.0,
      λ j lt. get_or-set_other words (counts_at (blocks_of (leads z h)) k o) (spot b.0 (2 + j)) n 0
          (λ e. let t = spot_apart b.0 (2 + j) ((leads z h).object o).block (slot k) ((sound z h stands.legal).stores d b.0 f.0).1.0
          ((sound z h stands.legal).placed o busy).1.0 (omega arith) (let u = slot_low k in omega arith) e in
          let u = slot_low k in omega arith) ∙ f.1 j lt,
    )
    stays_low k o n d (Paying m q p w x y) busy f = f
    stays_low k o n d (Visiting q p w x) busy f = f
    stays_low k o n d (Parting to) busy f = tt
    stays_low k o n d (Merging other mine others) busy f = tt

    -- the others' loads under way have funds too
    pub rest_paid : (p : Pending V) (seen : List (Entry V)) (m : ℕ) → owes p m ≤ pays p m
        → let w : View V = record v { pending = p; seen = seen } in owed (set views i w) m ≤ paid (set views i w) m
    rest_paid p seen m le =
        let w : View V = record v { pending = p; seen = seen } in
        total_le (λ (y : View V). owes y.pending m) (λ (y : View V). pays y.pending m) (set views i w) (λ j u e. ⊎_elim
        (λ (t : (j ≡ i) × (w ≡ u)). subst (λ (y : View V). owes y.pending m ≤ pays y.pending m) t.1 le)
        (λ (t : (j ≢ i) × (get_elem? views j ≡ some u)). each_paid z words views h stands j u m t.1) (at_set views i j w u e))

    -- a step on a number's word without an event: funds come, go, or one of them becomes a handle
    pub pay_step : (k : Kind) (o : ℕ) (new : Pending V) (a b c d n : ℕ) → IsLone new → IsBusy (leads z h) o
        → let w = counts_at (blocks_of (leads z h)) k o in
        ((m : ℕ) → adds v.pending m ≡ 0) → ((m : ℕ) → pays v.pending m ≡ a * one_at w m) → ((m : ℕ) → owes v.pending m ≡ b * one_at w m)
        → ((m : ℕ) → adds new m ≡ 0) → ((m : ℕ) → pays new m ≡ c * one_at w m) → ((m : ℕ) → owes new m ≡ d * one_at w m)
        → Fits words (leads z h) (value z h) v.name new
        → n + d + one_fund * a ≡ get_or words w 0 + b + one_fund * c
        → Stands z (set words w n) (set views i (record v { pending = new; seen = h })) h
    pay_step k o new a b c d n lone busy adds0 pays0 owes0 adds1 pays1 owes1 fits eq =
        let s = leads z h in
        let w = counts_at (blocks_of s) k o in
        let u : View V = record v { pending = new; seen = h } in
        let moved : (m : ℕ) → get_or (set words w n) m 0 + owed
        (set views i u) m + more z s views stands.taken m ≡ get_or words m 0 + owed views m + more z s (set views i u) stands.taken m =
        λ m.
        let x = total_set (λ (y : View V). owes y.pending m) views i v u at in let y = total_set (λ (y : View V). pays y.pending m) views i v u at in
        let t = total_set (λ (y : View V). adds y.pending m) views i v u at in
        let x0 = owes0 m in let x1 = owes1 m in let y0 = pays0 m in let y1 = pays1 m in let t0 = adds0 m in let t1 = adds1 m in
        ⊎_elim
        (λ (q : m ≡ w).
        let one = one_here w m q in
        let r : get_or (set words w n) m 0 ≡ n = ap (λ i. get_or (set words w n) i 0) q ∙ get_or-set_same words w n 0 (counts_inside k o busy) in
        let r0 = ap (λ i. get_or words i 0) q in
        let a1 : a * one_at w m ≡ a * 1 = ap (λ c. a * c) one in let b1 : b * one_at w m ≡ b * 1 = ap (λ c. b * c) one in
        let c1 : c * one_at w m ≡ c * 1 = ap (λ x. c * x) one in let d1 : d * one_at w m ≡ d * 1 = ap (λ c. d * c) one in
        omega arith)
        (λ (q : m ≢ w).
        let one = one_else w m q in
        let r = get_or-set_other words w m n 0 q in
        let a1 : a * one_at w m ≡ a * 0 = ap (λ c. a * c) one in let b1 : b * one_at w m ≡ b * 0 = ap (λ c. b * c) one in
        let c1 : c * one_at w m ≡ c * 0 = ap (λ x. c * x) one in let d1 : d * one_at w m ≡ d * 0 = ap (λ c. d * c) one in
        omega arith) (cases_eq m w) in
        still_step z words (set words w n) views h i v new stands.taken stands at awake lone (λ y. let q = adds1 (spot y 2) in omega arith)
        (shows_all z words (set words w n) (owed views) (more z s views stands.taken) (owed (set views i u)) (more z s (set views i u) stands.taken) s s
        (length-set words w n) stands.shows (λ b y. y)
        (λ y hy vacant one. get_or-set_other words w (spot y 1) n 0 (λ q. absurd (let place = ((sound z h stands.legal).placed o busy).1 in
        let l = slot_low k in let t = (spot_apart y 1 (s.object o).block (slot k) hy.0 place.0 (omega arith) (omega arith) q).0 in
        let none = vacant o (sym t) in omega arith)) ∙ one)
        (λ b j hb hj. let m = moved (spot b j) in omega arith)
        (λ c hc.
        let m = cell_spot z c in
        let apart : m ≢ w = λ q. let l = spot_fits z (s.object o).block (slot k) ((sound z h stands.legal).placed o busy).1
        (let l = slot_low k in omega arith) in omega arith in
        let t = moved m in let x = total_set (λ (y : View V). owes y.pending m) views i v u at in let x0 = owes0 m in let x1 = owes1 m in
        let one = one_else w m apart in
        let b1 : b * one_at w m ≡ b * 0 = ap (λ c. b * c) one in let d1 : d * one_at w m ≡ d * 0 = ap (λ c. d * c) one in omega arith)
        (shelf_kept z words s w n (let l = counts_low k o busy in omega arith) stands.shows.shelf))
        stands.most stands.blank stands.bare
        (stays_low k o n v.name new busy fits)
        (λ x q ne y. stays_low k o n x q busy y)

    -- the funds of a half-done call are on the word, whatever is owed to it
    pub own_funds : (k : Kind) (o f l : ℕ) (p : Option Place) → v.pending ≡ Paying k o p (counts_at (blocks_of (leads z h)) k o) f l
        → IsBusy (leads z h) o
        → one_fund * f ≤ get_or words (counts_at (blocks_of (leads z h)) k o) 0 + l
    own_funds k o f l p mine busy =
        let s = leads z h in
        let w = counts_at (blocks_of s) k o in
        let u : View V = record v { pending = Idle; seen = h } in
        let r = number_read z words views h stands k o busy in
        let y = rest_paid Idle h w (omega arith) in
        let a = total_set (λ (y : View V). owes y.pending w) views i v u at in let b = total_set (λ (y : View V). pays y.pending w) views i v u at in
        let c : owes v.pending w ≡ l = ap (λ q. owes q w) mine ∙ cond-true (w == w) l 0 (eq-eqb w w refl) in
        let d : pays v.pending w ≡ f = ap (λ q. pays q w) mine ∙ cond-true (w == w) f 0 (eq-eqb w w refl) in
        omega arith
