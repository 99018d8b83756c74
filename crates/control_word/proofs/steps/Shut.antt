-- The door of a visit is shut.
use Rattle.std.proofs.Common.{◌≡◌, ℕ, ◌+◌, ◌<◌, false, cond, ◌≢◌, List, get_or, set, ◌==◌, Some}
use Rattle.std.proofs.Common.{Option, refl, ap, ◌∙◌, ⊎_elim, arith, eq-eqb, ne_eqb}
use Rattle.control_word.proofs.Prelude.{added, adds, cases_eq, cond-false, cond-true, Entry}
use Rattle.control_word.proofs.Prelude.{get_elem?, Has, held, Idle, leads, me, Opening, owes}
use Rattle.control_word.proofs.Prelude.{Owner, owner, pays, Place, sees_as, some, spot, Stands}
use Rattle.control_word.proofs.Prelude.{state, value, View, Visiting}
use Rattle.control_word.proofs.history.Legal.{held_busy, sound}
use Rattle.control_word.proofs.views.Teams.{quiet_step}
use Rattle.control_word.proofs.words.Flags.{flags_read, shows_door, stays_flag}
use Rattle.control_word.proofs.words.Frames.{total_set}
use Rattle.control_word.proofs.words.Payments.{cond_one}
use Rattle.control_word.specs.Steps.{Shuts}

module _ {V : Type 0} where
  module _ (z : Opening) (words : List ℕ) (views : List (View V)) (h : List (Entry V)) (stands : Stands z words views h)
      (i : ℕ) (v : View V) (at : get_elem? views i ≡ some v) (awake : v.spent ≡ false) (o : ℕ) (p : Option Place) where
    -- the door is shut, where it was found open
    pub shut_step : (val : V) → v.pending ≡ Idle → Has (held v.name (owner o p)) (leads z h).hands → value z h o ≡ Some val
        → let k = spot ((leads z h).object o).block 2 in get_or words k 0 < 4
        → Stands z (set words k (get_or words k 0 + 4)) (set views i (sees_as v (Visiting o p k val) h)) h
    shut_step val idle holds is low =
        let s = leads z h in
        let fine = sound z h stands.legal in
        let busy = held_busy z s v.name o Owner p fine holds in
        let b = (s.object o).block in
        let k = spot b 2 in
        let q = Visiting o p k val in
        let w = sees_as v q h in
        let open' = (flags_read z words views h stands i v at awake o p busy).1 low in
        quiet_step z words (set words k (get_or words k 0 + 4)) views h i v q stands.taken stands at awake tt
        (shows_door z words views h stands i v at awake o p q w 0 4 busy refl (λ m. ap (λ r. owes r m) idle) (λ m. ap (λ r. pays r m) idle) (λ m. ap
        (λ r. adds r m) idle ∙ omega arith) (λ m. cond_one k m 4) (get_or words k 0 + 4) (omega arith))
        stands.most stands.blank stands.bare
        (λ c hc.
        let t = total_set (λ (y : View V). adds y.pending (spot c 2)) views i v w at in
        let a = ap (λ r. adds r (spot c 2)) idle in
        let d = stands.doors c hc in
        ⊎_elim
        (λ (e : spot c 2 ≡ k). let f : ◌≡◌ {A = ℕ} (cond (spot c 2 == k) 4 0) 4 = cond-true (spot c 2 == k) 4 0 (eq-eqb _ _ e) in
        let g : added views (spot c 2) ≡ 0 = ap (λ m. added views m) e ∙ open' in omega arith)
        (λ (n : spot c 2 ≢ k). let f : ◌≡◌ {A = ℕ} (cond (spot c 2 == k) 4 0) 0 = cond-false (spot c 2 == k) 4 0 (ne_eqb _ _ n) in omega arith)
        (cases_eq (spot c 2) k))
        (holds, refl, is)
        (λ d r n f. stays_flag z words s (value z h) fine o (get_or words k 0 + 4) d r busy f)

module _ {V : Type 0} where
  pub shuts : Shuts V Stands
  shuts at o p v ready holds is =
      let busy = held_busy at.opening (state at) (me at) o Owner p (sound at.opening at.history ready.stands.legal) holds in (
        (flags_read at.opening at.words at.views at.history ready.stands at.seat at.view ready.seated ready.awake o p busy).0,
        shut_step at.opening at.words at.views at.history ready.stands at.seat at.view ready.seated ready.awake o p v ready.pending holds is,
      )
