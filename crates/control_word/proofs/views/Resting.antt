-- A sole desk has seen all, and the counts of a block at rest are exactly the handles on it.
use Rattle.std.proofs.Common.{◌≡◌, ℕ, ◌+◌, ◌*◌, ◌<◌, Bool, true, false, ◌≢◌, List, get_or, sym}
use Rattle.std.proofs.Common.{refl, ap, ◌∙◌, subst, inl, inr, ◌⊎◌, ⊎_elim, arith, ne_eqb}
use Rattle.control_word.proofs.Prelude.{added, adds, block_words, cond-false, Entry, Fits}
use Rattle.control_word.proofs.Prelude.{get_elem?, Idle, InShape, IsVacant, leads, Making, Merging}
use Rattle.control_word.proofs.Prelude.{number_of, Opening, owed, owes, Owner, paid, Parting}
use Rattle.control_word.proofs.Prelude.{Paying, pays, Pending, slot, some, some-injective, spot}
use Rattle.control_word.proofs.Prelude.{Stands, value, View, Visiting, Weak, weak_number}
use Rattle.control_word.proofs.history.Kept.{Same, same_kept}
use Rattle.control_word.proofs.history.Legal.{held_busy, sound}
use Rattle.control_word.proofs.history.Sole.{alone}
pub use Rattle.control_word.proofs.lists.Sums.{sum_at}
use Rattle.control_word.proofs.words.Frames.{spot_apart, total_none}
use Rattle.control_word.proofs.words.Funds.{slot_low}
use Rattle.control_word.proofs.words.Rooms.{number_room}
use Rattle.control_word.specs.Laws.{RestsExactly, SoleHasSeenAll}
use Rattle.control_word.specs.State.{count}
use Rattle.control_word.specs.Views.{IsAtRest, NamesBlock}
use Rattle.control_word.specs.Words.{bank}
use Rattle.control_word.specs.Limits.{one_fund}

module _ {V : Type 0} where
  -- what a desk has by what it has seen, it has
  pub as_seen : (z : Opening) (words : List ℕ) (views : List (View V)) (h : List (Entry V)) → Stands z words views h → (i : ℕ) (v : View V)
      → get_elem? views i ≡ some v → v.spent ≡ false
      → Same (leads z v.seen) (leads z h) v.name
  as_seen z words views h stands i v at awake =
      let t = (stands.team.seated i v at awake).knows v.name (inl refl) in
      subst (λ l. Same (leads z v.seen) (leads z l) v.name) (sym t.1) (same_kept z t.0 v.seen v.name t.2)

  -- a desk that has the whole allowance has the only view that isn't spent
  sole_seat : (z : Opening) (words : List ℕ) (views : List (View V)) (h : List (Entry V)) → Stands z words views h
      → (i j : ℕ) (v w : View V) → get_elem? views i ≡ some v → get_elem? views j ≡ some w
      → v.spent ≡ false → w.spent ≡ false
      → (leads z h).allowance v.name ≡ z.allowance → w ≡ v
  sole_seat z words views h stands i j v w at there awake up whole =
      let acts = (stands.team.seated j w there up).acts w.name (inl refl) in
      let same = alone z h stands.legal v.name w.name whole acts in
      let seat = stands.team.names j i w v there at up awake v.name (inl same) (inl refl) in
      some-injective w v (sym there ∙ (ap (get_elem? views) seat ∙ at))

  pub sole_has_seen_all : SoleHasSeenAll V Stands
  sole_has_seen_all z words views h stands i v at awake whole =
      let w = stands.team.whole in
      let same = as_seen z words views h stands i v at awake in
      ap (λ (y : View V). y.seen)
      (sym (sole_seat z words views h stands i w.0 v w.1 at w.2 awake w.3 (same.may_hold ∙ whole)))
      ∙ w.4

  -- where such a desk has no half-done call, no load is under way
  pub sole_owes : (z : Opening) (words : List ℕ) (views : List (View V)) (h : List (Entry V)) → Stands z words views h
      → (i : ℕ) (v : View V) → get_elem? views i ≡ some v → v.spent ≡ false → v.pending ≡ Idle
      → (leads z h).allowance v.name ≡ z.allowance → (k : ℕ) → owed views k ≡ 0
  sole_owes z words views h stands i v at awake idle whole k =
      total_none (λ (w : View V). owes w.pending k) views (λ j w there. go j w there w.spent refl)
    where
      go : (j : ℕ) (w : View V) → get_elem? views j ≡ some w → (t : Bool) → w.spent ≡ t → owes w.pending k ≡ 0
      go j w there true up = ap (λ q. owes q k) (stands.team.rests j w there up)
      go j w there false up =
          ap (λ (y : View V). owes y.pending k) (sole_seat z words views h stands i j v w at there awake up whole)
          ∙ ap (λ q. owes q k) idle

  module _ (z : Opening) (words : List ℕ) (views : List (View V)) (h : List (Entry V)) (stands : Stands z words views h) (b : ℕ) (inside : InShape z b)
      (rest : IsAtRest (leads z h) views b) where
    -- who has loads under way on the word, or has prepared it, names the block
    rest_owes : (k : ℕ) → k < 2 → (i : ℕ) (v : View V) → get_elem? views i ≡ some v
        → (owes v.pending (spot b k) ≡ 0) × (adds v.pending (spot b k) ≡ 0) × (pays v.pending (spot b k) ≡ 0)
    rest_owes k low i v at = go v.pending v.spent refl refl
      where
        go : (p : Pending V) (t : Bool) → v.pending ≡ p → v.spent ≡ t
            → (owes v.pending (spot b k) ≡ 0) × (adds v.pending (spot b k) ≡ 0) × (pays v.pending (spot b k) ≡ 0)
        go p true e t = let r = stands.team.rests i v at t in (ap (λ q. owes q (spot b k)) r, ap (λ q. adds q (spot b k)) r, ap (λ q. pays q (spot b k)) r)
        go Idle false e t = (ap (λ q. owes q (spot b k)) e, ap (λ q. adds q (spot b k)) e, ap (λ q. pays q (spot b k)) e)
        go (Parting to) false e t = (ap (λ q. owes q (spot b k)) e, ap (λ q. adds q (spot b k)) e, ap (λ q. pays q (spot b k)) e)
        go (Merging other x y) false e t = (ap (λ q. owes q (spot b k)) e, ap (λ q. adds q (spot b k)) e, ap (λ q. pays q (spot b k)) e)
        go (Making c known) false e t =
            let f : Fits words (leads z h) (value z h) v.name (Making c known) = subst (Fits words (leads z h) (value z h) v.name) e
            (stands.team.seated i v at t).fits in
            let place = ((sound z h stands.legal).stores v.name c.0 f.0).1 in
            let n : NamesBlock {V = V} (leads z h) (Making c known) b → ⊥ = subst (λ q. NamesBlock (leads z h) q b → ⊥) e (rest.unnamed i v at) in (
              ap (λ q. owes q (spot b k)) e,
              ap (λ q. adds q (spot b k)) e
                  ∙ cond-false _ 1 0 (ne_eqb (spot b k) (spot c.0 1)
                  (λ q. n (let u = spot_apart b k c.0 1 inside.0 place.0 (omega arith) (omega arith) q in sym u.0))),
              ap (λ q. pays q (spot b k)) e,
            )
        go (Visiting o p w x) false e t =
            let f : Fits words (leads z h) (value z h) v.name (Visiting o p w x) = subst (Fits words (leads z h) (value z h) v.name) e
            (stands.team.seated i v at t).fits in (
              ap (λ q. owes q (spot b k)) e,
              ap (λ q. adds q (spot b k)) e ∙ cond-false _ 4 0 (ne_eqb (spot b k) w (λ q. let u = q
                  ∙ f.1 in omega arith)),
              ap (λ q. pays q (spot b k)) e,
            )
        go (Paying m o p w x y) false e t =
            let s = leads z h in
            let fine = sound z h stands.legal in
            let f : Fits words s (value z h) v.name (Paying m o p w x y) = subst (Fits words s (value z h) v.name) e (stands.team.seated i v at t).fits in
            let place = (fine.placed o (held_busy z s v.name o m p fine f.0)).1 in
            let n : NamesBlock {V = V} s (Paying m o p w x y) b → ⊥ = subst (λ q. NamesBlock s q b → ⊥) e (rest.unnamed i v at) in
            let l = slot_low m in
            let apart : spot b k ≢ w = λ q. n (let u = spot_apart b k (s.object o).block (slot m) inside.0 place.0 (omega arith) (omega arith) (q
            ∙ f.1) in sym u.0) in (
              ap (λ q. owes q (spot b k)) e ∙ cond-false _ y 0 (ne_eqb (spot b k) w apart),
              ap (λ q. adds q (spot b k)) e,
              ap (λ q. pays q (spot b k)) e
                  ∙ cond-false _ x 0 (ne_eqb (spot b k) w apart),
            )

    rest_sums : (k : ℕ) → k < 2 → (owed views (spot b k) ≡ 0) × (added views (spot b k) ≡ 0) × (paid views (spot b k) ≡ 0)
    rest_sums k low = (
      total_none (λ (v : View V). owes v.pending (spot b k)) views (λ i v e. (rest_owes k low i v e).0),
      total_none (λ (v : View V). adds v.pending (spot b k)) views (λ i v e. (rest_owes k low i v e).1),
      total_none (λ (v : View V). pays v.pending (spot b k)) views (λ i v e. (rest_owes k low i v e).2),
    )

    -- the funds on a word of a block, of whatever object, are a whole number of funds; its number is the state's
    -- unless the block is kept
    rest_word : (k : ℕ) → k < 2
        → ((k ≡ 1) × IsVacant (leads z h) b × (get_or words (spot b k) 0 ≡ 1) × (z.keeps_blocks ≡ true))
        ⊎ (get_or words (spot b k) 0 ≡ get_or (block_words (leads z h) b) k 0 + one_fund * bank z (leads z h) stands.taken (spot b k))
    rest_word k low =
        let t = rest_sums k low in
        let t0 = t.0 in let t1 = t.1 in let t2 = t.2 in
        let u = stands.blank b k inside (omega arith) in
        ⊎_elim (λ l. let l0 = l.0 in let e : k ≡ 1 = omega arith in let one = l.3 e in inl (e, l.2, one.0, one.1))
        (λ e. inr (omega arith)) (stands.shows.blocks b k inside (omega arith))

    number_read_of : (n f : ℕ) → n < one_fund → number_of (n + one_fund * f) ≡ n
    number_read_of n f lt = omega arith

  pub rests_exactly : RestsExactly V Stands
  rests_exactly z words views h stands b inside rest =
      let s = leads z h in
      let o = s.latest b in
      let few = number_room z h stands.legal Owner o in
      let weak-few = number_room z h stands.legal Weak o in
      let a = rest_word z words views h stands b inside rest 0 (omega arith) in
      let c = rest_word z words views h stands b inside rest 1 (omega arith) in (
        ⊎_elim (λ l. absurd (let l0 = l.0 in omega arith))
            (λ e. ap number_of e ∙ number_read_of z words views h stands b inside rest (count s o) (bank z s stands.taken (spot b 0)) (omega arith)) a,
        ⊎_elim (λ l. inr (l.1, l.2, l.3))
            (λ e. inl (ap number_of e
            ∙ number_read_of z words views h stands b inside rest (weak_number s o) (bank z s stands.taken (spot b 1)) (omega arith))) c,
      )

  -- where a domain keeps no block, they always are
  pub rests_unkept : (z : Opening) (words : List ℕ) (views : List (View V)) (h : List (Entry V)) → Stands z words views h → z.keeps_blocks ≡ false
      → (b : ℕ) → InShape z b → IsAtRest (leads z h) views b → let s = leads z h in let o = s.latest b in
      (number_of (get_or words (spot b 0) 0) ≡ count s o) × (number_of (get_or words (spot b 1) 0) ≡ weak_number s o)
  rests_unkept z words views h stands unkept b inside rest =
      let t = rests_exactly z words views h stands b inside rest in (t.0, ⊎_elim (λ e. e) (λ kept. absurd (true_not_false (sym kept.2 ∙ unkept))) t.1)
    where
      true_not_false : true ≡ false → ⊥
      true_not_false e = cc
