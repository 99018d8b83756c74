-- The fund of a load under way becomes a handle.
use Rattle.std.proofs.Common.{◌≡◌, ℕ, ◌-◌, ◌≤◌, false, List, get_or, set, Option, refl, ap, ◌∙◌}
use Rattle.std.proofs.Common.{subst, arith}
use Rattle.control_word.proofs.Prelude.{adds, blocks_of, counts_at, Entry, Fits, get_elem?, Idle}
use Rattle.control_word.proofs.Prelude.{Kind, leads, Opening, owes, Paying, pays, Place, some}
use Rattle.control_word.proofs.Prelude.{Stands, value, View}
use Rattle.control_word.proofs.history.Legal.{held_busy, sound}
use Rattle.control_word.proofs.words.Payments.{cond_one, own_funds, pay_step}
use Rattle.control_word.specs.CellSteps.{Turns}
use Rattle.control_word.specs.Limits.{fund_turned}

module _ {V : Type 0} where
  module _ (z : Opening) (words : List ℕ) (views : List (View V)) (h : List (Entry V)) (stands : Stands z words views h)
      (i : ℕ) (v : View V) (at : get_elem? views i ≡ some v) (awake : v.spent ≡ false) where
    -- the fund of a load under way becomes a handle in the number
    pub turn_step : (k : Kind) (o : ℕ) (p : Option Place) → let w = counts_at (blocks_of (leads z h)) k o in v.pending ≡ Paying k o p w 1 1
        → (fund_turned ≤ get_or words w 0) × Stands z (set words w (get_or words w 0 - fund_turned)) (set views i (record v { pending = Idle; seen = h })) h
    turn_step k o p mine =
        let s = leads z h in
        let w = counts_at (blocks_of s) k o in
        let fits : Fits words s (value z h) v.name (Paying k o p w 1 1) = subst (Fits words s (value z h) v.name) mine (stands.team.seated i v at awake).fits in
        let busy = held_busy z s v.name o k p (sound z h stands.legal) fits.0 in
        let enough = own_funds z words views h stands i v at awake k o 1 1 p mine busy in (
          omega arith,
          pay_step z words views h stands i v at awake k o Idle 1 1 0 0 (get_or words w 0 - fund_turned) tt busy
              (λ m. ap (λ q. adds q m) mine) (λ m. ap (λ q. pays q m) mine ∙ cond_one w m 1) (λ m. ap (λ q. owes q m) mine ∙ cond_one w m 1)
              (λ m. refl) (λ m. omega arith) (λ m. omega arith) tt (omega arith),
        )

module _ {V : Type 0} where
  pub turns : Turns V
  turns at k o p ready = turn_step at.opening at.words at.views at.history ready.stands at.seat at.view ready.seated ready.awake k o p ready.pending
