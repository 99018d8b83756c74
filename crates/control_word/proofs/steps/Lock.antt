-- Lock: an owner from a weak handle, where one remains.
use Rattle.std.proofs.Common.{◌≡◌, ℕ, suc, ◌<◌, true, false, not, List, ◌∷◌, get_or, set, Option}
use Rattle.std.proofs.Common.{sym, refl, ap, arith, ne_eqb}
use Rattle.control_word.proofs.Prelude.{bag_size, Entry, entry, get_elem?, Has, held, Idle, leads}
use Rattle.control_word.proofs.Prelude.{Lock, more, Opening, Owner, Place, sees, some, spot}
use Rattle.control_word.proofs.Prelude.{Stands, View, Weak, weak_of}
use Rattle.control_word.proofs.history.Legal.{held_busy, sound}
use Rattle.control_word.proofs.history.Moving.{counted_live}
use Rattle.control_word.proofs.steps.Look.{lock_empty_step}
use Rattle.control_word.proofs.words.Changes.{gain_step}
use Rattle.control_word.proofs.words.Counting.{some_word}
use Rattle.control_word.specs.State.{count}
use Rattle.control_word.specs.Steps.{Locks}

module _ {V : Type 0} where
  module _ (z : Opening) (words : List ℕ) (views : List (View V)) (h : List (Entry V)) (stands : Stands z words views h)
      (i : ℕ) (v : View V) (at : get_elem? views i ≡ some v) (awake : v.spent ≡ false) (idle : v.pending ≡ Idle) (o : ℕ) (p : Option Place) where
    -- lock: the owner word, found not to be 0, becomes one more
    pub lock_step : bag_size (leads z h) v.name < (leads z h).allowance v.name → Has (held v.name (weak_of o p)) (leads z h).hands
        → let k = spot ((leads z h).object o).block 0 in 0 < get_or words k 0
        → let e = entry v.name (Lock (weak_of o p) true) in Stands z (set words k (suc (get_or words k 0))) (set views i (sees v (e ∷ h))) (e ∷ h)
    lock_step more holds some' =
        let s = leads z h in
        let fine = sound z h stands.legal in
        let busy = held_busy z s v.name o Weak p fine holds in
        let there : 0 < count s o = some_word z words views h stands Owner o busy some' in
        gain_step z words views h stands i v at awake idle o p p (Lock (weak_of o p) true) tt (counted_live z s o fine there) (
          (holds, refl, refl),
          ap not (sym (ne_eqb (count s o) 0 (λ e. omega arith))),
        ) tt more refl

module _ {V : Type 0} where
  pub locks : Locks V
  locks at o p ready holds = (
    lock_empty_step at.opening at.words at.views at.history ready.stands at.seat at.view ready.seated ready.awake ready.pending o p holds,
    λ some' more. lock_step at.opening at.words at.views at.history ready.stands at.seat at.view ready.seated ready.awake ready.pending o p more holds some',
  )
