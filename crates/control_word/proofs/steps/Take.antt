-- A fund is taken from a cell: a load, or a compare that differs.
use Rattle.std.proofs.Common.{◌≡◌, ℕ, suc, ◌+◌, ◌-◌, ◌*◌, ◌<◌, ◌≤◌, Bool, true, false, ◌≢◌, ◌⊎◌}
use Rattle.std.proofs.Common.{List, [], ◌∷◌, get_or, set, Some, Option, sym, refl, ap, ◌∙◌, subst}
use Rattle.std.proofs.Common.{inl, inr, ⊎_elim, arith, length-set, get_or-set_other}
use Rattle.control_word.proofs.Prelude
use Prelude.{adds, after, Asks, bag_size, Bare, blocks_of, cases_eq, Cell, cell_at, cell_of}
use Prelude.{cell_spot, Compare, counts_at, Entry, entry, equivalent, Event, fills, Fits, Free}
use Prelude.{get_elem?, handle, Held, held, Idle, InHand, IsOpen, Kind, kind_of, leads, Load, me}
use Prelude.{Member, more, NumberedHandle, Opening, owed, owes, Paying, pays, Place, put, Shows}
use Prelude.{some, spot, Stands, State, state, tally, value, valued, Values, View, worth}
use Rattle.control_word.proofs.history.Cells.{cell_counted, one_of}
use Rattle.control_word.proofs.history.Kept.{cells_led}
use Rattle.control_word.proofs.history.Legal.{sound}
use Rattle.control_word.proofs.history.Others.{IsPlain, fits_after, plain_names, plain_visits}
use Rattle.control_word.proofs.history.Soundness.{IsBusy}
use Rattle.control_word.proofs.lists.Tallies.{put_again, put_other, put_same}
use Rattle.control_word.proofs.views.Teams.{plain_step}
use Rattle.control_word.proofs.words.Banks.{IsKept, bank_fill, open_kept}
use Rattle.control_word.proofs.words.CellWords.{bare_put, cell_apart, cell_inside, cell_low}
use Rattle.control_word.proofs.words.CellWords.{same_known}
use Rattle.control_word.proofs.words.Decoding.{taken_left}
use Rattle.control_word.proofs.words.Counting.{bag_one}
use Rattle.control_word.proofs.words.Frames.{shelf_kept, total_set}
use Rattle.control_word.proofs.words.Funds.{counted_busy}
use Rattle.control_word.proofs.words.Payments.{cond_one, kept_in, one_at, one_else, one_here}
use Rattle.control_word.proofs.words.Payments.{read_set, shows_all, vacant_gain, words_gain}
use Rattle.control_word.specs.CellSteps.{Takes}
use Rattle.control_word.specs.Words.{bank}
use Rattle.control_word.specs.Limits.{cell_funds, one_taken}

module _ {V : Type 0} where
  module _ (z : Opening) (words : List ℕ) (views : List (View V)) (h : List (Entry V)) (stands : Stands z words views h)
      (i : ℕ) (v : View V) (at : get_elem? views i ≡ some v) (awake : v.spent ≡ false) where
    module _ (c : Cell) (kept : IsKept (leads z h) c) where
      -- one more is taken of the cell, and a load is under way
      pub take_step : (a : Event V) (k : Kind) (o : ℕ) (p : Option Place) → IsPlain a → Asks (leads z h) v.name a → Values (value z h) a
          → after (leads z h) v.name a ≡ record (leads z h) { hands = held v.name (handle k (Some o) p) ∷ (leads z h).hands }
          → v.pending ≡ Idle → handle k (Some o) p ≡ cell_of (leads z h) c → stands.taken (cell_at z (leads z h) c) < cell_funds
          → bag_size (leads z h) v.name < (leads z h).allowance v.name
          → let j = cell_at z (leads z h) c in let e = entry v.name a in
          Stands z (set words j (get_or words j 0 + one_taken)) (set views i (record v {
            pending = Paying k o p (counts_at (blocks_of
                (leads z h)) k o) 1 1;
            seen = e ∷ h;
          })) (e ∷ h)
      take_step a' k o p plain asks vals same idle is left room =
          let s = leads z h in
          let fine = sound z h stands.legal in
          let x = handle k (Some o) p in
          let j = cell_at z s c in
          let w = counts_at (blocks_of s) k o in
          let n = get_or words j 0 + one_taken in
          let e = entry v.name a' in
          let new = Paying k o p w 1 1 in
          let u : View V = record v { pending = new; seen = e ∷ h } in
          let t : State = record s { hands = held v.name x ∷ s.hands } in
          let one = one_of k o x refl refl in
          let busy : IsBusy s o = counted_busy z s fine k o (let a = cell_counted s c (kept_in z s c fine kept) k o in
          let b = ap (λ (y : NumberedHandle). tally k o (y ∷ [])) is in omega arith) in
          let was = stands.taken j in
          let taken : ℕ → ℕ = put stands.taken j (suc was) in
          let bank' : (m : ℕ) → bank z t taken m + one_at w m ≡ bank z s stands.taken m =
          λ m.
          let b = bank_fill z s fine stands.taken m c (cell_of s c) (held v.name x ∷ s.hands) (suc was) kept (cells_led z h) in
          let r : bank z (fills c (cell_of s c) t) taken m ≡ bank z t taken m = ap (λ y. bank z y taken m) (fills_same t c) in
          let a0 = ap (λ y. worth (blocks_of s) y was m) (sym is) ∙ cond_one w m (cell_funds - was) in
          let a1 = ap (λ y. worth (blocks_of s) y (suc was) m) (sym is) ∙ cond_one w m (cell_funds - suc was) in
          let a2 : (cell_funds - was) * one_at w m ≡ (cell_funds - suc was) * one_at w m + one_at w m = ⊎_elim
          (λ q. let y = one_here w m q in let y0 : (cell_funds - was) * one_at w m ≡ (cell_funds - was) * 1 = ap (λ n. (cell_funds - was) * n) y in
          let y1 : (cell_funds - suc was) * one_at w m ≡ (cell_funds - suc was) * 1 = ap (λ n. (cell_funds - suc was) * n) y in omega arith)
          (λ q. let y = one_else w m q in let y0 : (cell_funds - was) * one_at w m ≡ (cell_funds - was) * 0 = ap (λ n. (cell_funds - was) * n) y in
          let y1 : (cell_funds - suc was) * one_at w m ≡ (cell_funds - suc was) * 0 = ap (λ n. (cell_funds - suc was) * n) y in omega arith) (cases_eq m w) in
          omega arith in
          let taken' : (m : ℕ) → taken m ≡ stands.taken m + one_at j m =
          λ m. ⊎_elim (λ (q : m ≡ j). let y = one_here j m q in let a = ap stands.taken q in put_same stands.taken j (suc was) m q ∙ omega arith)
          (λ (q : m ≢ j). let y = one_else j m q in put_other stands.taken j (suc was) m q ∙ omega arith) (cases_eq m j) in
          let read = λ (m : ℕ). read_set words j n m (cell_inside z words views h stands i v at awake c kept) 0 one_taken (omega arith) in
          let more' : (m : ℕ) → (more z t (set views i u) taken m ≡ more z s views stands.taken m + one_taken * one_at j m)
          × (owed (set views i u) m ≡ owed views m + one_at w m) =
          λ m.
          let a = total_set (λ (y : View V). owes y.pending m) views i v u at in let b = total_set (λ (y : View V). pays y.pending m) views i v u at in
          let d = total_set (λ (y : View V). adds y.pending m) views i v u at in
          let a0 = ap (λ q. owes q m) idle in let b0 = ap (λ q. pays q m) idle in let d0 = ap (λ q. adds q m) idle in
          let x0 = bank' m in let y0 = taken' m in (omega arith, omega arith) in
          plain_step z words (set words j n) views h i v a' new taken stands at awake plain tt (λ y. omega arith) asks vals
          (subst (λ y. bag_size y v.name ≤ y.allowance v.name) (sym same) (let b = bag_one v.name x s.hands in omega arith))
          (subst (λ y. Shows z (set words j n) (owed (set views i u)) (more z y (set views i u) taken) y) (sym same) (shows_all z words (set words j n)
          (owed views) (more z s views stands.taken) (owed (set views i u)) (more z t (set views i u) taken) s t (length-set words j n) stands.shows
          (vacant_gain z s v.name o k p fine busy)
          (λ y hy vacant one. get_or-set_other words j (spot y 1) n 0 (cell_apart z words views h stands i v at awake c kept y 1 hy (omega arith)) ∙ one)
          (λ b y hb hy. let m = spot b y in let a = words_gain z s v.name o k p fine busy b y hb hy in let q = more' m in let q0 = q.0 in let q1 = q.1 in
          let r = read m in omega arith)
          (λ d hd. let m = cell_spot z d in let q = (more' m).0 in let r = read m in omega arith)
          (shelf_kept z words s j n (cell_low z words views h stands i v at awake c kept) stands.shows.shelf)))
          (λ m. let y = taken' m in ⊎_elim (λ (q : m ≡ j). let a = one_here j m q in
          let b = ap stands.taken q in omega arith) (λ (q : m ≢ j). let a = one_else j m q in let b = stands.most m in omega arith) (cases_eq m j))
          (λ b y hb hy. put_other stands.taken j (suc was) (spot b y) (cell_apart z words views h stands i v at awake c kept b y hb hy)
          ∙ stands.blank b y hb hy)
          (subst (λ y. Bare z y taken) (sym same) (bare_hands (bare_put z words views h stands i v at awake c kept (suc was) (inr (
            o,
            ap
                (λ (y : NumberedHandle). y.object) (sym is),
          )))))
          (subst (λ y. Fits (set words j n) y (valued s a' (value z h)) v.name new) (sym same) (inl refl, refl, omega arith, omega arith, omega arith))
          (λ d q ne f. fits_after z s words (set words j n) (value z h) v.name a' fine d q (λ r. ne (sym r)) (plain_names a' plain d)
          (λ y z'. absurd (plain_visits a' plain y z'))
          (λ b has y lt. same_known z words views h stands i v at awake c kept n b y (fine.stores d b has).1 lt) f)
        where
          bare_hands : {s : State} {hs : List Held} {u : ℕ → ℕ} → Bare z s u → Bare z (record s { hands = hs }) u
          bare_hands b = record { members = b.members; frees = b.frees }

          fills_same : (t : State) (d : Cell) → fills d (cell_of t d) t ≡ t
          fills_same t (Free d) = λ r. record t { cell = put_again t.cell d r }
          fills_same t (Member o m) = (λ r. record t { object = put t.object o (record (t.object o) { member = put_again (t.object o).member m r }) })
              ∙ (λ r. record t { object = put_again t.object o r })

      -- Load: an open cell
      pub load_step : (k : Kind) (o : ℕ) (p : Option Place) → IsOpen (leads z h) v.name c → v.pending ≡ Idle
          → handle k (Some o) p ≡ cell_of (leads z h) c → stands.taken (cell_at z (leads z h) c) < cell_funds
          → bag_size (leads z h) v.name < (leads z h).allowance v.name
          → let j = cell_at z (leads z h) c in let e = entry v.name (Load c (handle k (Some o) p)) in
          Stands z (set words j (get_or words j 0 + one_taken)) (set views i (record v {
            pending = Paying k o p (counts_at (blocks_of
                (leads z h)) k o) 1 1;
            seen = e ∷ h;
          })) (e ∷ h)
      load_step k o p open' idle is left room = take_step (Load c (handle k (Some o) p)) k o p tt (open', is) tt refl idle is left room

      -- a compare that finds another value
      pub differs_step : (k : Kind) (o : ℕ) (p : Option Place) (expected new : NumberedHandle) (weak' : Bool) → IsOpen (leads z h) v.name c
          → InHand (leads z h) v.name (kind_of (leads z h) c) expected → InHand (leads z h) v.name (kind_of (leads z h) c) new
          → (false ≡ equivalent (cell_of (leads z h) c) expected) ⊎ (weak' ≡ true)
          → v.pending ≡ Idle → handle k (Some o) p ≡ cell_of (leads z h) c → stands.taken (cell_at z (leads z h) c) < cell_funds
          → bag_size (leads z h) v.name < (leads z h).allowance v.name
          → let j = cell_at z (leads z h) c in let e = entry v.name (Compare c expected new (handle k (Some o) p) false weak') in
          Stands z (set words j (get_or words j 0 + one_taken)) (set views i (record v {
            pending = Paying k o p (counts_at (blocks_of
                (leads z h)) k o) 1 1;
            seen = e ∷ h;
          })) (e ∷ h)
      differs_step k o p expected new weak' open' he hn why idle is left room =
          take_step (Compare c expected new (handle k (Some o) p) false weak') k o p tt
          (open', he, hn, is, ⊎_elim (λ t. inl (t ∙ ap (λ y. equivalent y expected) (sym is))) (λ t. inr (t, refl)) why)
          tt refl idle is left room

module _ {V : Type 0} where
  pub takes : Takes V Stands
  takes at c k o p ready is more left = (
    λ open'.
        let kept = open_kept at.opening (state at) (me at) c (sound at.opening at.history ready.stands.legal) open' in
        load_step at.opening at.words at.views at.history ready.stands at.seat at.view ready.seated ready.awake c kept k o p open' ready.pending is
        (taken_left at.opening at.words at.views at.history ready.stands at.seat at.view ready.seated ready.awake c kept left) more,
    λ expected new weak' asks.
        let kept = open_kept at.opening (state at) (me at) c (sound at.opening at.history ready.stands.legal) asks.0 in
        take_step at.opening at.words at.views at.history ready.stands at.seat at.view ready.seated ready.awake c kept (Compare c expected new (handle k
        (Some o) p) false weak') k o p tt asks tt refl ready.pending is
        (taken_left at.opening at.words at.views at.history ready.stands at.seat at.view ready.seated ready.awake c kept left) more,
  )
