-- A visit ends, and its door opens.
use Rattle.std.proofs.Common.{◌≡◌, ℕ, ◌+◌, ◌-◌, ◌≤◌, false, ◌≢◌, List, ◌∷◌, get_or, set, ◌==◌}
use Rattle.std.proofs.Common.{Option, sym, refl, ap, ◌∙◌, subst, arith, get_or-set_other, eq-eqb}
use Rattle.control_word.proofs.Prelude.{adds, cond-true, Entry, entry, Fits, get_elem?, Idle}
use Rattle.control_word.proofs.Prelude.{leads, Making, Merging, Opening, owes, Owner, owner}
use Rattle.control_word.proofs.Prelude.{Parting, Paying, pays, Pending, Place, sees, some, spot}
use Rattle.control_word.proofs.Prelude.{Stands, value, View, Visit, Visiting}
use Rattle.control_word.proofs.history.Allowances.{allowed}
use Rattle.control_word.proofs.history.Legal.{held_busy, sound}
use Rattle.control_word.proofs.history.Others.{IsVisiting, fits_after}
use Rattle.control_word.proofs.history.Soundness.{IsBusy}
use Rattle.control_word.proofs.views.Teams.{event_step}
use Rattle.control_word.proofs.words.Body.{body_read}
use Rattle.control_word.proofs.words.Flags.{shows_door, total_at, total_two}
use Rattle.control_word.proofs.words.Frames.{spot_apart, total_set}
use Rattle.control_word.proofs.words.Payments.{cond_one}
use Rattle.control_word.specs.Steps.{Opens}

module _ {V : Type 0} where
  module _ (z : Opening) (words : List ℕ) (views : List (View V)) (h : List (Entry V)) (stands : Stands z words views h)
      (i : ℕ) (v : View V) (at : get_elem? views i ≡ some v) (awake : v.spent ≡ false) (o : ℕ) (p : Option Place) where
    -- the visit ends: the door opens, and the value is what the visit left
    pub open_step : (was becomes : V) → let k = spot ((leads z h).object o).block 2 in v.pending ≡ Visiting o p k was
        → (4 ≤ get_or words k 0)
        × (let e = entry v.name (Visit (owner o p) was becomes) in Stands z (set words k (get_or words k 0 - 4)) (set views i (sees v (e ∷ h))) (e ∷ h))
    open_step was becomes mine =
        let s = leads z h in
        let fine = sound z h stands.legal in
        let k = spot (s.object o).block 2 in
        let fits : Fits words s (value z h) v.name (Visiting o p k was) = subst (Fits words s (value z h) v.name) mine (stands.team.seated i v at awake).fits in
        let busy = held_busy z s v.name o Owner p fine fits.0 in
        let b = (s.object o).block in
        let e = entry v.name (Visit (owner o p) was becomes) in
        let w = sees v (e ∷ h) in
        let here : adds v.pending k ≡ 4 = ap (λ r. adds r k) mine ∙ cond-true (k == k) 4 0 (eq-eqb k k refl) in
        let there = total_at (λ (u : View V). adds u.pending k) views i v at in
        let r = body_read z words views h stands o 2 busy (omega arith) (omega arith) in
        let enough : 4 ≤ get_or words k 0 = omega arith in (
          enough,
          event_step z words (set words k (get_or words k 0 - 4)) views h i v (Visit (owner o p) was becomes) Idle stands.taken stands at awake
              (λ d n. absurd n)
              (fits.0, refl, refl) fits.2 ((allowed z h stands.legal).rooms v.name)
              (shows_door z words views h stands i v at awake o p Idle w 4 0 busy refl (λ m. ap (λ r. owes r m) mine) (λ m. ap (λ r. pays r m) mine)
              (λ m. ap (λ r. adds r m) mine ∙ cond_one k m 4) (λ m. omega arith) (get_or words k 0 - 4) (omega arith))
              stands.most stands.blank stands.bare
              (λ c hc. let t = total_set (λ (y : View V). adds y.pending (spot c 2)) views i v w at in let d = stands.doors c hc in omega arith)
              tt (λ d q. absurd q) tt
              (λ j u n e l m f.
              fits_after z s words (set words k (get_or words k 0 - 4)) (value z h) v.name (Visit (owner o p) was becomes) fine u.name u.pending
              (λ q. m (sym q)) (λ q. q)
              (λ q same vis. alone j u n e busy here (other_door u.name u.pending q (let t : o ≡ q = same in t) vis f))
              (λ c has y lt. get_or-set_other words k (spot c (2 + y)) (get_or words k 0 - 4) 0
              (λ q. let a = fine.stores u.name c has in let place = (fine.placed o busy).1 in
              let t = spot_apart c (2 + y) b 2 a.1.0 place.0 (omega arith) (omega arith) q in let x = a.0 o (sym t.0) in omega arith)) f),
        )
      where
        -- another visit of the same object would have shut the same door
        other_door : (d : ℕ) (q : Pending V) (r : ℕ) → o ≡ r → IsVisiting q r → Fits words (leads z h) (value z h) d q
            → adds q (spot ((leads z h).object o).block 2) ≡ 4
        other_door d Idle r e vis f = absurd vis
        other_door d (Making c known) r e vis f = absurd vis
        other_door d (Paying k' r' p' w' x y) r e vis f = absurd vis
        other_door d (Parting to) r e vis f = absurd vis
        other_door d (Merging other x y) r e vis f = absurd vis
        other_door d (Visiting r' p' w x) r e vis f =
            cond-true _ 4 0 (eq-eqb (spot ((leads z h).object o).block 2) w (ap (λ n. spot ((leads z h).object n).block 2) (e ∙ sym vis) ∙ sym f.1))

        alone : (j : ℕ) (u : View V) → j ≢ i → get_elem? views j ≡ some u → IsBusy (leads z h) o
            → adds v.pending (spot ((leads z h).object o).block 2) ≡ 4 → adds u.pending (spot ((leads z h).object o).block 2) ≡ 4 → ⊥
        alone j u n e busy mine theirs =
            let b = ((leads z h).object o).block in
            let t = total_two (λ (y : View V). adds y.pending (spot b 2)) views i j v u at e (λ q. n (sym q)) in
            let d = stands.doors b ((sound z h stands.legal).placed o busy).1 in omega arith

module _ {V : Type 0} where
  pub opens' : Opens V Stands
  opens' at o p was becomes ready = open_step at.opening at.words at.views at.history ready.stands at.seat at.view ready.seated ready.awake o p was
      becomes ready.pending
