-- Funds are brought, under a handle in hand.
use Rattle.std.proofs.Common.{◌≡◌, ℕ, ◌+◌, ◌*◌, ◌≤◌, false, List, get_or, set, Some, Option, refl}
use Rattle.std.proofs.Common.{ap, ◌∙◌, arith}
use Rattle.control_word.proofs.Prelude.{adds, blocks_of, counts_at, Entry, get_elem?, handle, Has}
use Rattle.control_word.proofs.Prelude.{held, Idle, Kind, leads, Opening, owes, Paying, pays}
use Rattle.control_word.proofs.Prelude.{Place, some, Stands, View}
use Rattle.control_word.proofs.history.Legal.{held_busy, sound}
use Rattle.control_word.proofs.words.Payments.{cond_one, pay_step}
use Rattle.control_word.specs.CellSteps.{Brings}
use Rattle.control_word.specs.Limits.{cell_funds, one_fund}

module _ {V : Type 0} where
  module _ (z : Opening) (words : List ℕ) (views : List (View V)) (h : List (Entry V)) (stands : Stands z words views h)
      (i : ℕ) (v : View V) (at : get_elem? views i ≡ some v) (awake : v.spent ≡ false) where
    -- funds are brought, under a handle in hand
    pub bring_step : (k : Kind) (o f : ℕ) (p : Option Place) → v.pending ≡ Idle
        → Has (held v.name (handle k (Some o) p)) (leads z h).hands → f ≤ cell_funds
        → let w = counts_at (blocks_of (leads z h)) k o in
        Stands z (set words w (get_or words w 0 + one_fund * f)) (set views i (record v { pending = Paying k o p w f 0; seen = h })) h
    bring_step k o f p idle has few =
        let s = leads z h in
        let w = counts_at (blocks_of s) k o in
        let busy = held_busy z s v.name o k p (sound z h stands.legal) has in
        pay_step z words views h stands i v at awake k o (Paying k o p w f 0) 0 0 f 0 (get_or words w 0 + one_fund * f) tt busy
        (λ m. ap (λ q. adds q m) idle) (λ m. ap (λ q. pays q m) idle ∙ omega arith) (λ m. ap (λ q. owes q m) idle ∙ omega arith)
        (λ m. refl) (λ m. cond_one w m f) (λ m. cond_one w m 0) (has, refl, omega arith, omega arith, few) (omega arith)

module _ {V : Type 0} where
  pub brings : Brings V
  brings at k o f p ready holds few = bring_step at.opening at.words at.views at.history ready.stands at.seat at.view ready.seated ready.awake k o f p
      ready.pending holds few
