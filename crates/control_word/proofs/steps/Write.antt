-- The flags and the fields of an own vacant block are written.
use Rattle.std.proofs.Common.{◌≡◌, ℕ, zero, suc, ◌+◌, ◌-◌, ◌<◌, ◌≤◌, Bool, true, false, ◌≢◌}
use Rattle.std.proofs.Common.{List, [], ◌∷◌, length, get_or, set, ◌==◌, slice_index, sym, refl, ap}
use Rattle.std.proofs.Common.{◌∙◌, subst, inl, inr, ⊎_elim, arith, get_or-set_other}
use Rattle.std.proofs.Common.{get_or-set_same, eq-eqb, ne_eqb}
use Rattle.control_word.proofs.Prelude
use Prelude.{added, adds, at_set, Block, blocks_of, cases_eq, cases_lt, cell_spot, cond-false}
use Prelude.{counts, counts_at, Entry, Fits, get_elem?, Has, how_often, Idle, Kind, leads, Making}
use Prelude.{Merging, more, NumberedHandle, Opening, owed, owes, Owner, paid, Parting, Paying}
use Prelude.{pays, Pending, same_stored, slot, some, spot, Stands, Stored, stored, value, View}
use Prelude.{Visiting, weak_number, without}
use Rattle.control_word.proofs.history.Legal.{held_busy, sound}
use Rattle.control_word.proofs.lists.Tallies.{has_without, num_has, num_without, stored_self}
use Rattle.control_word.proofs.lists.Tallies.{stored_true}
use Rattle.control_word.proofs.views.Teams.{still_step}
use Rattle.control_word.proofs.words.Banks.{bank_none}
use Rattle.control_word.proofs.words.Counting.{none_of}
use Rattle.control_word.proofs.words.Frames.{shows_write, spot_apart}
use Rattle.control_word.proofs.words.Frames.{total_none, total_set}
use Rattle.control_word.proofs.words.Funds.{slot_low}
use Rattle.control_word.specs.Steps.{WritesWord, known_of}

-- a block that is in two desks' stores would be there twice
two_stores : (d e b : ℕ) (l : List Stored) → Has (stored d b) l → Has (stored e b) l → d ≢ e → 1 < how_often b l
two_stores d e b l hd he n =
    let t = num_without same_stored stored_true stored_self (λ x. x.block == b) (stored d b) l hd in
    let one : (b == b) ≡ true = eq-eqb b b refl in
    let u = num_has (λ (x : Stored). x.block == b) (stored d b) (stored d b ∷ []) (inl refl) one in
    let w = has_without same_stored stored_true stored_self (stored e b) (stored d b) l he (λ s. n (sym (ap (λ (x : Stored). x.desk) s))) in
    let v = num_has (λ (x : Stored). x.block == b) (stored e b) (without same_stored (stored d b) l) w one in
    omega arith

pub known_at : (words : List ℕ) (b j : ℕ) → j < 5 → get_or words (spot b (2 + j)) 0 ≡ get_or (known_of words b) j 0
known_at words b zero lt = refl
known_at words b (suc zero) lt = refl
known_at words b (suc (suc zero)) lt = refl
known_at words b (suc (suc (suc zero))) lt = refl
known_at words b (suc (suc (suc (suc zero)))) lt = refl
known_at words b (suc (suc (suc (suc (suc j))))) lt = absurd (omega arith)

module _ {V : Type 0} where
  module _ (z : Opening) (words : List ℕ) (views : List (View V)) (h : List (Entry V)) (stands : Stands z words views h)
      (i : ℕ) (v : View V) (at : get_elem? views i ≡ some v) (awake : v.spent ≡ false) where
    -- only the desk that has the block may have a half-done call on it
    adds_mine : (e b : ℕ) (p : Pending V) → Has (stored v.name b) (leads z h).stores → e ≢ v.name → Fits words (leads z h) (value z h) e p
        → adds p (spot b 1) ≡ 0
    adds_mine e b Idle mine n fits = refl
    adds_mine e b (Making c known) mine n fits =
        let fine = sound z h stands.legal in let s = leads z h in
        let u = (fine.stores v.name b mine).1 in let w = (fine.stores e c.0 fits.0).1 in
        cond-false _ 1 0 (ne_eqb (spot b 1) (spot c.0 1) (λ q.
        let t = spot_apart b 1 c.0 1 u.0 w.0 (omega arith) (omega arith) q in
        let both = two_stores v.name e b s.stores mine (subst (λ x. Has (stored e x) s.stores) (sym t.0) fits.0) (λ x. n (sym x)) in
        let once = fine.once b in omega arith))
    adds_mine e b (Paying k o p w x y) mine n fits = refl
    adds_mine e b (Parting to) mine n fits = refl
    adds_mine e b (Merging other x y) mine n fits = refl
    adds_mine e b (Visiting o p w x) mine n fits = cond-false _ 4 0 (ne_eqb (spot b 1) w (λ q. let t = q ∙ fits.1 in omega arith))

    -- what the others have added to the weak word of an own vacant block
    pub others_none : (b : ℕ) (w : View V) → Has (stored v.name b) (leads z h).stores → adds w.pending (spot b 1) ≡ 0
        → added (set views i w) (spot b 1) ≡ 0
    others_none b w mine none =
        total_none (λ u. adds u.pending (spot b 1)) (set views i w)
        (λ j u e. ⊎_elim (λ (t : (j ≡ i) × (w ≡ u)). subst (λ (x : View V). adds x.pending (spot b 1) ≡ 0) t.1 none) (λ (t : (j ≢ i)
        × (get_elem? views j ≡ some u)). go j u t.0 t.1 u.spent refl) (at_set views i j w u e))
      where
        go : (j : ℕ) (u : View V) → j ≢ i → get_elem? views j ≡ some u → (t : Bool) → u.spent ≡ t → adds u.pending (spot b 1) ≡ 0
        go j u n e true t = ap (λ p. adds p (spot b 1)) (stands.team.rests j u e t)
        go j u n e false t =
            adds_mine u.name b u.pending mine (λ q. n (stands.team.names j i u v e at t awake v.name (inl q) (inl refl))) (stands.team.seated j u e t).fits

    -- nobody has added to the other words of a vacant block
    adds_high : (b k e : ℕ) (p : Pending V) → Has (stored v.name b) (leads z h).stores → k < 16 → k ≢ 1 → Fits words (leads z h) (value z h) e p
        → adds p (spot b k) ≡ 0
    adds_high b k e Idle mine lt n fits = refl
    adds_high b k e (Making c known) mine lt n fits = cond-false _ 1 0 (ne_eqb (spot b k) (spot c.0 1) (λ e. omega arith))
    adds_high b k e (Paying m o p w x y) mine lt n fits = refl
    adds_high b k e (Parting to) mine lt n fits = refl
    adds_high b k e (Merging other x y) mine lt n fits = refl
    adds_high b k e (Visiting o p w x) mine lt n fits =
        let s = leads z h in
        let fine = sound z h stands.legal in
        let u = fine.stores v.name b mine in
        let busy = held_busy z s e o Owner p fine fits.0 in
        let place = (fine.placed o busy).1 in
        cond-false _ 4 0 (ne_eqb (spot b k) w (λ q.
        let t = spot_apart b k (s.object o).block 2 u.1.0 place.0 lt (omega arith) (q ∙ fits.1) in
        let none = u.0 o (sym t.0) in omega arith))

    pub added_high : (b k : ℕ) → Has (stored v.name b) (leads z h).stores → k < 16 → k ≢ 1 → added views (spot b k) ≡ 0
    added_high b k mine lt n = none_of z words views h stands (λ p. adds p (spot b k)) refl (λ e p fits. adds_high b k e p mine lt n fits)

    -- what other half-done calls know of is not at a block that the desk has
    pub words_mine : (b k n d : ℕ) → Has (stored v.name b) (leads z h).stores → k < 16 → d ≢ v.name
        → (c : ℕ) → Has (stored d c) (leads z h).stores → (j : ℕ) → j < 5
        → get_or (set words (spot b k) n) (spot c (2 + j)) 0 ≡ get_or words (spot c (2 + j)) 0
    words_mine b k n d mine lt other c theirs j l =
        let fine = sound z h stands.legal in
        let hb = (fine.stores v.name b mine).1 in let hc = (fine.stores d c theirs).1 in
        get_or-set_other words (spot b k) (spot c (2 + j)) n 0 (λ e.
        let q = spot_apart c (2 + j) b k hc.0 hb.0 (omega arith) lt e in
        let both = two_stores v.name d b (leads z h).stores mine (subst (λ x. Has (stored d x) (leads z h).stores) q.0 theirs) (λ x. other (sym x)) in
        let once = fine.once b in omega arith)

    pub fits_mine : (b k n d : ℕ) (p : Pending V) → Has (stored v.name b) (leads z h).stores → k < 16 → d ≢ v.name
        → Fits words (leads z h) (value z h) d p → Fits (set words (spot b k) n) (leads z h) (value z h) d p
    fits_mine b k n d Idle mine lt other fits = tt
    fits_mine b k n d (Making c known) mine lt other fits = (fits.0, λ j l. words_mine b k n d mine lt other c.0 fits.0 j l ∙ fits.1 j l)
    fits_mine b k n d (Paying m o p w x y) mine lt other fits = fits
    fits_mine b k n d (Visiting o p w x) mine lt other fits = fits
    fits_mine b k n d (Parting to) mine lt other fits = tt
    fits_mine b k n d (Merging with' x y) mine lt other fits = tt

    -- nothing is owed to the words of a vacant block, and nobody has funds on them
    pub vacant_free : (b k : ℕ) → Has (stored v.name b) (leads z h).stores → k < 16
        → (owed views (spot b k) ≡ 0) × (more z (leads z h) views stands.taken (spot b k) ≡ added views (spot b k)) × (stands.taken (spot b k) ≡ 0)
    vacant_free b k mine lt =
        let s = leads z h in
        let fine = sound z h stands.legal in
        let u = fine.stores v.name b mine in
        let counts : (m : Kind) (o : ℕ) → 0 < weak_number s o → spot b k ≢ counts_at (blocks_of s) m o = λ m o busy e.
        let p = fine.placed o busy in let l = slot_low m in
        let t = spot_apart b k (s.object o).block (slot m) u.1.0 p.1.0 lt (omega arith) e in
        let none = u.0 o (sym t.0) in omega arith in
        let a = none_of z words views h stands (λ p. owes p (spot b k)) refl (λ d p f. no_owes counts d p f) in
        let c = none_of z words views h stands (λ p. pays p (spot b k)) refl (λ d p f. no_pays counts d p f) in
        let g = bank_none z s fine stands.taken (spot b k) counts in
        let none : weak_number s (s.latest b) ≡ 0 = ⊎_elim (λ (x : s.latest b ≡ 0). ap (weak_number s) x
        ∙ fine.unmade_free 0 fine.none) (λ x. u.0 (s.latest b) (fine.latest_in b x)) (cases_eq (s.latest b) 0) in
        let w : stands.taken (spot b k) ≡ 0 = ⊎_elim (λ (low : k < 7). stands.blank b k u.1 low)
        (λ (high : 7 ≤ k). let m = k - 7 in let e : 7 + m ≡ k = omega arith in
        subst (λ x. stands.taken (spot b x) ≡ 0) e (stands.bare.members b m u.1 (omega arith) (ap
        (λ (y : NumberedHandle). y.object) (fine.cleared (s.latest b) m (omega arith) (omega arith))))) (cases_lt k 7) in
        (a, omega arith, w)
      where
        no_owes : ((m : Kind) (o : ℕ) → 0 < weak_number (leads z h) o → spot b k ≢ counts_at (blocks_of (leads z h)) m o) → (d : ℕ) (p : Pending V)
            → Fits words (leads z h) (value z h) d p → owes p (spot b k) ≡ 0
        no_owes counts d Idle f = refl
        no_owes counts d (Making b' known) f = refl
        no_owes counts d (Visiting o p w x) f = refl
        no_owes counts d (Parting to) f = refl
        no_owes counts d (Merging other x y) f = refl
        no_owes counts d (Paying m o p w x y) f = cond-false _ y 0 (ne_eqb (spot b k) w
            (λ e. counts m o (held_busy z (leads z h) d o m p (sound z h stands.legal) f.0) (e ∙ f.1)))

        no_pays : ((m : Kind) (o : ℕ) → 0 < weak_number (leads z h) o → spot b k ≢ counts_at (blocks_of (leads z h)) m o) → (d : ℕ) (p : Pending V)
            → Fits words (leads z h) (value z h) d p → pays p (spot b k) ≡ 0
        no_pays counts d Idle f = refl
        no_pays counts d (Making b' known) f = refl
        no_pays counts d (Visiting o p w x) f = refl
        no_pays counts d (Parting to) f = refl
        no_pays counts d (Merging other x y) f = refl
        no_pays counts d (Paying m o p w x y) f = cond-false _ x 0 (ne_eqb (spot b k) w
            (λ e. counts m o (held_busy z (leads z h) d o m p (sound z h stands.legal) f.0) (e ∙ f.1)))

    -- a change between half-done Makes and none moves no funds
    pub made_more : (p : Pending V) (seen : List (Entry V)) (m : ℕ) → ((x : ℕ) → owes v.pending x ≡ 0)
        → ((x : ℕ) → pays v.pending x ≡ 0) → ((x : ℕ)
        → owes p x ≡ 0) → ((x : ℕ) → pays p x ≡ 0)
        → let w : View V = record v { pending = p; seen = seen } in (owed (set views i w) m ≡ owed views m) × (paid (set views i w) m ≡ paid views m)
        × (added (set views i w) m + adds v.pending m ≡ added views m + adds p m)
    made_more p seen m a b c d =
        let w : View V = record v { pending = p; seen = seen } in
        let x = total_set (λ (y : View V). owes y.pending m) views i v w at in let y = total_set (λ (y : View V). pays y.pending m) views i v w at in
        let t = total_set (λ (y : View V). adds y.pending m) views i v w at in
        let a0 = a m in let b0 = b m in let c0 = c m in let d0 = d m in (omega arith, omega arith, t)

    -- the flags or a field of the block is written
    pub write_step : (b : Block) (known : List ℕ) (j n : ℕ) → v.pending ≡ Making b known → j < 5 → length known ≡ 5
        → Stands z (set words (spot b.0 (2 + j)) n) (set views i (record v { pending = Making b (set known j n); seen = h })) h
    write_step b known j n busy lt five =
        let s = leads z h in
        let fine = sound z h stands.legal in
        let fits : Fits words s (value z h) v.name (Making b known) = subst (Fits words s (value z h) v.name) busy (stands.team.seated i v at awake).fits in
        let mine = fits.0 in
        let hb = (fine.stores v.name b.0 mine).1 in
        let vacant = (fine.stores v.name b.0 mine).0 in
        let p = Making b (set known j n) in
        let w : View V = record v { pending = p; seen = h } in
        let moved = λ (m : ℕ). made_more p h m (λ x. ap (λ q. owes q x) busy) (λ x. ap (λ q. pays q x) busy) (λ x. refl) (λ x. refl) in
        still_step z words (set words (spot b.0 (2 + j)) n) views h i v p stands.taken stands at awake tt
        (λ c. let y = ap (λ q. adds q (spot c 2)) busy in omega arith)
        (shows_write z words (owed views) (more z s views stands.taken) (owed (set views i w)) (more z s (set views i w) stands.taken) s s b.0
        (2 + j) n hb (omega arith) stands.shows
        (λ c k hc l ne says. ⊎_elim (λ t. inl t) (λ t. inr (let x = moved (spot c k) in let x0 = x.0 in let x1 = x.1 in let x2 = x.2 in
        let y = ap (λ q. adds q (spot c k)) busy in omega arith)) says)
        (inl (omega arith, omega arith, vacant, λ e. absurd (omega arith)))
        (λ c x l t. let q = moved (cell_spot z c) in let x0 = q.0 in let x1 = q.1 in let x2 = q.2 in
        let y = ap (λ q. adds q (cell_spot z c)) busy in omega arith)
        (λ c. refl))
        stands.most stands.blank stands.bare (
          mine,
          λ k l. ⊎_elim
              (λ (e : k ≡ j). ap (λ x. get_or (set words (spot b.0 (2 + j)) n) (spot b.0 (2 + x)) 0) e
              ∙ (get_or-set_same words (spot b.0 (2 + j)) n 0 (let m = stands.shows.sized in omega arith)
              ∙ (sym (get_or-set_same known j n 0 (omega arith)) ∙ ap (λ x. get_or (set known j n) x 0) (sym e))))
              (λ (ne : k ≢ j). get_or-set_other words (spot b.0 (2 + j)) (spot b.0 (2 + k)) n 0 (λ e. ne (omega arith)) ∙ (fits.1 k l
              ∙ sym (get_or-set_other known j k n 0 ne)))
              (cases_eq k j),
        )
        (λ d q ne f. fits_mine b.0 (2 + j) n d q mine (omega arith) ne f)

module _ {V : Type 0} where
  -- a look at an own vacant block's flags or a field finds what the half-done Make knows
  pub known_read : (z : Opening) (words : List ℕ) (views : List (View V)) (h : List (Entry V)) → Stands z words views h → (i : ℕ) (v : View V)
      → get_elem? views i ≡ some v → v.spent ≡ false
      → (b : Block) (known : List ℕ) → v.pending ≡ Making b known → (j : ℕ) → j < 5 → get_or words (spot b.0 (2 + j)) 0 ≡ slice_index known j
  known_read z words views h stands i v at awake b known is j lt =
      let f : Fits words (leads z h) (value z h) v.name (Making b known) = subst (Fits words (leads z h) (value z h) v.name) is
      (stands.team.seated i v at awake).fits in f.1 j lt

module _ {V : Type 0} where
  pub writes_word : WritesWord V Stands
  writes_word at b known ready five j n lt = (
    known_read at.opening at.words at.views at.history ready.stands at.seat at.view ready.seated ready.awake b known ready.pending j lt,
    write_step at.opening at.words at.views at.history ready.stands at.seat at.view ready.seated ready.awake b known j n ready.pending lt five,
  )
