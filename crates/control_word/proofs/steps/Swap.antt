-- A cell gets a new value, and the old one comes out.
use Rattle.std.proofs.Common.{◌≡◌, ℕ, ◌+◌, ◌-◌, ◌*◌, false, ◌≢◌, List, ◌∷◌, get_or, set, sym, refl}
use Rattle.std.proofs.Common.{ap, ◌∙◌, subst, inl, ⊎_elim, arith, length-set, get_or-set_other}
use Rattle.std.proofs.Common.{get_or-set_same}
use Rattle.control_word.proofs.Prelude
use Prelude.{Adds, adds, after, Asks, Bare, block_words, blocks_of, cases_eq, Cell, cell_at}
use Prelude.{cell_of, cell_spot, cell_word, Entry, entry, Event, fills, Fits, Free, get_elem?}
use Prelude.{HasRoom, InHand, IsOpen, kind_of, leads, loses, me, Member, more, NumberedHandle}
use Prelude.{Object, Opening, owed, owes, pays, purse, put, Shows, some, spot, Stands, state, Swap}
use Prelude.{swaps, value, valued, Values, View}
use Rattle.control_word.proofs.history.Kept.{cells_led}
use Rattle.control_word.proofs.history.Legal.{sound}
use Rattle.control_word.proofs.history.Others.{IsPlain, fits_after, plain_names, plain_visits}
use Rattle.control_word.proofs.lists.Tallies.{put_cases, put_other, put_same}
use Rattle.control_word.proofs.views.Teams.{plain_step}
use Rattle.control_word.proofs.words.Banks.{IsKept, bank_fill, bank_hands, open_kept}
use Rattle.control_word.proofs.words.CellWords.{bare_put, cell_apart, cell_inside, cell_low}
use Rattle.control_word.proofs.words.CellWords.{cell_read, same_known}
use Rattle.control_word.proofs.words.Frames.{shelf_kept, spot_apart, spot_fits, total_set}
use Rattle.control_word.proofs.words.Members.{free_vacant, free_words, member_blocks}
use Rattle.control_word.proofs.words.Members.{member_vacant, member_word, member_words}
use Rattle.control_word.proofs.words.Payments.{latest_is, shows_all}
use Rattle.control_word.proofs.words.Purses.{purse_adds, purse_fits, purse_lone, purse_owes}
use Rattle.control_word.proofs.words.Purses.{purse_pays}
use Rattle.control_word.specs.CellSteps.{Swaps}
use Rattle.control_word.specs.Words.{packed}
use Rattle.control_word.specs.Limits.{cell_funds, one_taken}

module _ {V : Type 0} where
  module _ (z : Opening) (words : List ℕ) (views : List (View V)) (h : List (Entry V)) (stands : Stands z words views h)
      (i : ℕ) (v : View V) (at : get_elem? views i ≡ some v) (awake : v.spent ≡ false) (c : Cell) (kept : IsKept (leads z h) c) where
    -- the new value goes in with 256 funds, and the old one comes out with those that were not taken
    pub exchange_step : (a : Event V) (new : NumberedHandle) → IsPlain a → Asks (leads z h) v.name a → Values (value z h) a
        → after (leads z h) v.name a ≡ swaps v.name c new (cell_of (leads z h) c) (leads z h)
        → v.pending ≡ purse (blocks_of (leads z h)) new cell_funds → InHand (leads z h) v.name (kind_of (leads z h) c) new
        → let s = leads z h in let k = cell_at z s c in let old = cell_of s c in
        HasRoom (after s v.name a) v.name
        → let e = entry v.name a in
        Stands z (set words k (packed (blocks_of s) new)) (set views i (record v {
          pending = purse (blocks_of s) old
              (cell_funds - stands.taken k);
          seen = e ∷ h;
        })) (e ∷ h)
    exchange_step a' new plain asks vals is mine hand room =
        let s = leads z h in
        let fine = sound z h stands.legal in
        let k = cell_at z s c in
        let old = cell_of s c in
        let n = packed (blocks_of s) new in
        let e = entry v.name a' in
        let was = stands.taken k in
        let put_in = purse (blocks_of s) old (cell_funds - was) in
        let u : View V = record v { pending = put_in; seen = e ∷ h } in
        let t = swaps v.name c new old s in
        let taken : ℕ → ℕ = put stands.taken k 0 in
        let more' : (m : ℕ) → (owed (set views i u) m ≡ owed views m)
        × (more z t (set views i u) taken m + one_taken * stands.taken m ≡ more z s views stands.taken m + one_taken * taken m) =
        λ m.
        let a = total_set (λ (y : View V). owes y.pending m) views i v u at in let b = total_set (λ (y : View V). pays y.pending m) views i v u at in
        let d = total_set (λ (y : View V). adds y.pending m) views i v u at in
        let a0 = ap (λ q. owes q m) mine ∙ purse_owes V (blocks_of s) new.kind new.object new.place cell_funds m in
        let a1 = purse_owes V (blocks_of s) old.kind old.object old.place (cell_funds - was) m in
        let b0 = ap (λ q. pays q m) mine ∙ purse_pays V (blocks_of s) new.kind new.object new.place 0 m in
        let b1 = purse_pays V (blocks_of s) old.kind old.object old.place was m in
        let d0 = ap (λ q. adds q m) mine ∙ purse_adds V (blocks_of s) new.kind new.object new.place cell_funds m in
        let d1 = purse_adds V (blocks_of s) old.kind old.object old.place (cell_funds - was) m in
        let y = bank_fill z s fine stands.taken m c new (loses v.name new s).hands 0 kept (cells_led z h) in
        let y0 = bank_hands z (fills c new (loses v.name new s)) t.hands taken m in
        (omega arith, omega arith) in
        plain_step z words (set words k n) views h i v a' put_in taken stands at awake plain (purse_lone V (blocks_of s) old.kind old.object old.place
        (cell_funds - was))
        (λ y. let q = purse_adds V (blocks_of s) old.kind old.object old.place (cell_funds - was) (spot y 2) in omega arith) asks vals room
        (subst (λ y. Shows z (set words k n) (owed (set views i u)) (more z y (set views i u) taken) y) (sym is) (shows_swap c kept new n (owed
        (set views i u)) (more z t (set views i u) taken) hand refl (cell_read z words views h stands i v at awake c kept) more'))
        (λ m. ⊎_elim (λ (q : m ≡ k). let y = put_same stands.taken k 0 m q in omega arith) (λ (q : m ≢ k). let y = put_other stands.taken k 0 m q in
        let w = stands.most m in omega arith) (cases_eq m k))
        (λ b y hb hy. put_other stands.taken k 0 (spot b y) (cell_apart z words views h stands i v at awake c kept b y hb hy) ∙ stands.blank b y hb hy)
        (subst (λ y. Bare z y taken) (sym is) (bare_swap c kept new))
        (subst (λ y. Fits (set words k n) y (valued s a' (value z h)) v.name put_in) (sym is) (purse_fits (set words k n) s (valued s a'
        (value z h)) v.name c new old.kind old.object old.place (cell_funds - was) (omega arith)))
        (λ d q ne f. fits_after z s words (set words k n) (value z h) v.name a' fine d q (λ r. ne (sym r)) (plain_names a' plain d)
        (λ y z'. absurd (plain_visits a' plain y z'))
        (λ b has y lt. same_known z words views h stands i v at awake c kept n b y (fine.stores d b has).1 lt) f)
      where
        bare_swap : (d : Cell) → IsKept (leads z h) d → (new : NumberedHandle)
            → Bare z (swaps v.name d new (cell_of (leads z h) d) (leads z h)) (put stands.taken (cell_at z (leads z h) d) 0)
        bare_swap (Free d) op new =
            let s = leads z h in
            let b = bare_put z words views h stands i v at awake (Free d) op 0 (inl refl) in record {
              members = b.members;
              frees = λ x hx e. ⊎_elim
                  (λ (q : x ≡ d). put_same stands.taken (cell_spot z d) 0 (cell_spot z x) (ap (cell_spot z) q))
                  (λ (q : x ≢ d). b.frees x hx (ap (λ (y : NumberedHandle). y.object) (sym (put_other s.cell d new x q)) ∙ e)) (cases_eq x d);
            }
        bare_swap (Member o l) op new =
            let s = leads z h in
            let x = record (s.object o) { member = put (s.object o).member l new } in
            let place = (sound z h stands.legal).placed o op.1 in
            let b = bare_put z words views h stands i v at awake (Member o l) op 0 (inl refl) in record {
              members = λ c m hc lt e. ⊎_elim
                  (λ (q : spot c (7 + m) ≡ spot (s.object o).block (7 + l)). put_same stands.taken (spot (s.object o).block (7 + l)) 0 (spot c (7 + m)) q)
                  (λ (q : spot c (7 + m) ≢ spot (s.object o).block (7 + l)).
                  b.members c m hc lt
                  (sym (put_cases (λ j y. j ≡ s.latest c → (y.member m).object ≡ ((s.object j).member m).object) s.object o x (s.latest c)
                  (λ r r2. let bl = latest_is z s c o (sound z h stands.legal) op.1 (r) in
                  ap (λ (y : NumberedHandle). y.object) (put_other (s.object o).member l new m (λ w. q (λ i. spot (bl i) (7 + w i))))
                  ∙ ap (λ n. ((s.object n).member m).object) (sym r)) (λ r r2. refl) refl)
                  ∙ e)) (cases_eq (spot c (7 + m)) (spot (s.object o).block (7 + l)));
              frees = b.frees;
            }

        -- where two functions of a word differ by what was taken
        shows_swap : (d : Cell) (op : IsKept (leads z h) d) (new : NumberedHandle) (n : ℕ) (u g : ℕ → ℕ)
            → InHand (leads z h) v.name (kind_of (leads z h) d) new
            → let s = leads z h in let k = cell_at z s d in n ≡ packed (blocks_of s) new
            → get_or words k 0 ≡ packed (blocks_of s) (cell_of s d) + one_taken * stands.taken k
            → ((m : ℕ) → (u m ≡ owed views m)
            × (g m + one_taken * stands.taken m ≡ more z s views stands.taken m + one_taken * put stands.taken k 0 m))
            → Shows z (set words k n) u g (swaps v.name d new (cell_of s d) s)
        shows_swap (Free d) op new n u g hand is read same =
            let s = leads z h in
            let fine = sound z h stands.legal in
            let k = cell_spot z d in
            let t = swaps v.name (Free d) new (s.cell d) s in
            let inside = cell_inside z words views h stands i v at awake (Free d) op in
            shows_all z words (set words k n) (owed views) (more z s views stands.taken) u g s t (length-set words k n) stands.shows
            (free_vacant z s fine v.name new d op hand)
            (λ y hy vacant one. get_or-set_other words k (spot y 1) n 0 (cell_apart z words views h stands i v at awake (Free d) op y 1 hy (omega arith)) ∙ one)
            (λ b j hb hj.
            let m = spot b j in
            let ne : m ≢ k = λ e. let l = spot_fits z b j hb hj in omega arith in
            let a = (same m).0 in let b' = (same m).1 in let q = put_other stands.taken k 0 m ne in let w = free_words z s fine v.name new d op hand b j in
            let r = get_or-set_other words k m n 0 ne in omega arith)
            (λ x hx.
            let m = cell_spot z x in let b' = (same m).1 in
            ⊎_elim
            (λ (q : m ≡ k).
            let y : x ≡ d = omega arith in
            let r : get_or (set words k n) m 0 ≡ n = ap (λ i. get_or (set words k n) i 0) q ∙ get_or-set_same words k n 0 inside in
            let r0 = ap (λ i. get_or words i 0) q in let p = put_same stands.taken k 0 m q in let p0 = ap stands.taken q in
            let w = ap (packed (blocks_of s)) (put_same s.cell d new x y) in let w0 = ap (λ i. packed (blocks_of s) (s.cell i)) y in omega arith)
            (λ (q : m ≢ k). let p = put_other stands.taken k 0 m q in let r = get_or-set_other words k m n 0 q in
            let w = ap (packed (blocks_of s)) (put_other s.cell d new x (λ e. q (ap (cell_spot z) e))) in omega arith) (cases_eq m k))
            (shelf_kept z words s k n (cell_low z words views h stands i v at awake (Free d) op) stands.shows.shelf)
        shows_swap (Member o l) op new n u g hand is read same =
            let s = leads z h in
            let fine = sound z h stands.legal in
            let b0 = (s.object o).block in
            let k = spot b0 (7 + l) in
            let t = swaps v.name (Member o l) new ((s.object o).member l) s in
            let place = fine.placed o op.1 in
            let inside = cell_inside z words views h stands i v at awake (Member o l) op in
            let blocks' = member_blocks z s fine v.name new o l op hand in
            let x = record (s.object o) { member = put (s.object o).member l new } in
            let mem : (t.object o).member l ≡ new = ap (λ (y : Object). y.member l) (put_same s.object o x o refl)
            ∙ put_same (s.object o).member l new l refl in
            let lt = op.0 in
            shows_all z words (set words k n) (owed views) (more z s views stands.taken) u g s t (length-set words k n) stands.shows
            (member_vacant z s fine v.name new o l op hand)
            (λ y hy vacant one. get_or-set_other words k (spot y 1) n 0
            (cell_apart z words views h stands i v at awake (Member o l) op y 1 hy (omega arith)) ∙ one)
            (λ b j hb hj.
            let m = spot b j in let a = (same m).0 in let b' = (same m).1 in
            ⊎_elim
            (λ (q : m ≡ k).
            let y = spot_apart b j b0 (7 + l) hb.0 place.1.0 hj (omega arith) q in
            let r : get_or (set words k n) m 0 ≡ n = ap (λ i. get_or (set words k n) i 0) q ∙ get_or-set_same words k n 0 inside in
            let r0 = ap (λ i. get_or words i 0) q in let p = put_same stands.taken k 0 m q in let p0 = ap stands.taken q in
            let w : get_or (block_words t b) j 0 ≡ packed (blocks_of s) new =
            (λ i. get_or (block_words t (y.0 i)) (y.1 i) 0) ∙ (member_word t b0 o l lt place.0 ∙ (ap (packed (blocks_of t)) mem ∙ ap (λ (f : ℕ
            → ℕ). packed f new) blocks')) in
            let w0 : get_or (block_words s b) j 0 ≡ packed (blocks_of s) ((s.object o).member l) = (λ i. get_or (block_words s (y.0 i)) (y.1 i) 0)
            ∙ member_word s b0 o l lt place.0 in
            omega arith)
            (λ (q : m ≢ k).
            let p = put_other stands.taken k 0 m q in let r = get_or-set_other words k m n 0 q in
            let w = member_words z s fine v.name new o l op hand b j (λ y. q (λ r. spot (y.0 r) (y.1 r))) in omega arith) (cases_eq m k))
            (λ y hy.
            let m = cell_spot z y in let b' = (same m).1 in
            let q : m ≢ k = λ e. let l = spot_fits z b0 (7 + l) place.1 (omega arith) in omega arith in
            let p = put_other stands.taken k 0 m q in let r = get_or-set_other words k m n 0 q in
            let w = ap (λ (f : ℕ → ℕ). packed f (s.cell y)) blocks' in omega arith)
            (shelf_kept z words s k n (cell_low z words views h stands i v at awake (Member o l) op) stands.shows.shelf)

    -- Swap: an open cell
    pub swap_step : (new : NumberedHandle) → IsOpen (leads z h) v.name c → v.pending ≡ purse (blocks_of (leads z h)) new cell_funds
        → InHand (leads z h) v.name (kind_of (leads z h) c) new
        → let s = leads z h in let k = cell_at z s c in let old = cell_of s c in
        HasRoom (after {V = V} s v.name (Swap c new old)) v.name
        → let e = entry v.name (Swap c new old) in
        Stands z (set words k (packed (blocks_of s) new)) (set views i (record v {
          pending = purse (blocks_of s) old
              (cell_funds - stands.taken k);
          seen = e ∷ h;
        })) (e ∷ h)
    swap_step new open' mine hand room = exchange_step (Swap c new (cell_of (leads z h) c)) new tt (open', hand, refl) tt refl mine hand room

module _ {V : Type 0} where
  pub swaps' : Swaps V
  swaps' at c new ready asks room taken found =
      let s = state at in
      let kept = open_kept at.opening s (me at) c (sound at.opening at.history ready.stands.legal) asks.0 in
      let r = cell_read at.opening at.words at.views at.history ready.stands at.seat at.view ready.seated ready.awake c kept in
      let old = cell_of s c in
      let e : ready.stands.taken (cell_word at c) ≡ taken = omega arith in
      subst (λ t. Adds at (cell_word at c) (packed (blocks_of s) new) (Swap c new old) (purse (blocks_of s) old (cell_funds - t))) e
      (exchange_step at.opening at.words at.views at.history ready.stands at.seat at.view ready.seated ready.awake c kept
      (Swap c new old) new tt asks tt refl ready.pending asks.1 room)
