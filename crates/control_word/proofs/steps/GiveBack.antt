-- Funds that did not go in, or came out, are given back.
use Rattle.std.proofs.Common.{◌≡◌, ℕ, ◌-◌, ◌*◌, false, List, get_or, set, Option, refl, ap, ◌∙◌}
use Rattle.std.proofs.Common.{subst, arith}
use Rattle.control_word.proofs.Prelude.{adds, blocks_of, counts, counts_at, Entry, Fits, get_elem?}
use Rattle.control_word.proofs.Prelude.{Idle, Kind, leads, me, Opening, owes, Paying, pays, Place}
use Rattle.control_word.proofs.Prelude.{some, Stands, state, value, View}
use Rattle.control_word.proofs.history.Legal.{held_busy, sound}
use Rattle.control_word.proofs.words.Payments.{cond_one, own_funds, pay_step}
use Rattle.control_word.specs.CellSteps.{GivesBack}
use Rattle.control_word.specs.Limits.{one_fund}

module _ {V : Type 0} where
  module _ (z : Opening) (words : List ℕ) (views : List (View V)) (h : List (Entry V)) (stands : Stands z words views h)
      (i : ℕ) (v : View V) (at : get_elem? views i ≡ some v) (awake : v.spent ≡ false) where
    -- the funds that did not go in are given back
    pub give_step : (k : Kind) (o f : ℕ) (p : Option Place) → let w = counts_at (blocks_of (leads z h)) k o in v.pending ≡ Paying k o p w f 0
        → Stands z (set words w (get_or words w 0 - one_fund * f)) (set views i (record v { pending = Idle; seen = h })) h
    give_step k o f p mine =
        let s = leads z h in
        let w = counts_at (blocks_of s) k o in
        let fits : Fits words s (value z h) v.name (Paying k o p w f 0) = subst (Fits words s (value z h) v.name) mine (stands.team.seated i v at awake).fits in
        let busy = held_busy z s v.name o k p (sound z h stands.legal) fits.0 in
        let enough = own_funds z words views h stands i v at awake k o f 0 p mine busy in
        pay_step z words views h stands i v at awake k o Idle f 0 0 0 (get_or words w 0 - one_fund * f) tt busy
        (λ m. ap (λ q. adds q m) mine) (λ m. ap (λ q. pays q m) mine ∙ cond_one w m f) (λ m. ap (λ q. owes q m) mine ∙ cond_one w m 0)
        (λ m. refl) (λ m. omega arith) (λ m. omega arith) tt (omega arith)

module _ {V : Type 0} where
  pub gives_back : GivesBack V
  gives_back at k o f p ready =
      let fits : Fits at.words (state at) (value at.opening at.history) (me at) (Paying k o p (counts at k o) f 0) =
      subst (Fits at.words (state at) (value at.opening at.history) (me at)) ready.pending
      (ready.stands.team.seated at.seat at.view ready.seated ready.awake).fits in
      let busy = held_busy at.opening (state at) (me at) o k p (sound at.opening at.history ready.stands.legal) fits.0 in
      let enough = own_funds at.opening at.words at.views at.history ready.stands at.seat at.view ready.seated ready.awake k o f 0 p ready.pending busy in
      (omega arith, give_step at.opening at.words at.views at.history ready.stands at.seat at.view ready.seated ready.awake k o f p ready.pending)
