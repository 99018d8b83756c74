-- Share: one more owner.
use Rattle.std.proofs.Common.{◌≡◌, ℕ, suc, ◌<◌, false, List, ◌∷◌, get_or, set, Option, refl}
use Rattle.control_word.proofs.Prelude.{bag_size, Entry, entry, get_elem?, Has, held, Idle}
use Rattle.control_word.proofs.Prelude.{IsPointer, leads, more, Opening, owner, Place, sees, Share}
use Rattle.control_word.proofs.Prelude.{some, spot, Stands, View}
use Rattle.control_word.proofs.history.Legal.{sound}
use Rattle.control_word.proofs.history.Moving.{counted_live, owner_counted}
use Rattle.control_word.proofs.words.Changes.{gain_step}
use Rattle.control_word.specs.Steps.{Shares}

module _ {V : Type 0} where
  module _ (z : Opening) (words : List ℕ) (views : List (View V)) (h : List (Entry V)) (stands : Stands z words views h)
      (i : ℕ) (v : View V) (at : get_elem? views i ≡ some v) (awake : v.spent ≡ false) (idle : v.pending ≡ Idle) (o : ℕ) (p : Option Place) where
    -- share: one more in the owner word
    pub share_step : (q : Option Place) → IsPointer q → bag_size (leads z h) v.name < (leads z h).allowance v.name
        → Has (held v.name (owner o p)) (leads z h).hands
        → let k = spot ((leads z h).object o).block 0 in let e = entry v.name (Share (owner o p) q) in
        Stands z (set words k (suc (get_or words k 0))) (set views i (sees v (e ∷ h))) (e ∷ h)
    share_step q fine more holds =
        let s = leads z h in
        gain_step z words views h stands i v at awake idle o p q (Share (owner o p) q) tt (counted_live z s o (sound z h stands.legal)
        (owner_counted s v.name o p holds)) ((holds, refl, refl), fine) tt more refl

module _ {V : Type 0} where
  pub shares : Shares V
  shares at o p q ready holds place more = share_step at.opening at.words at.views at.history ready.stands at.seat at.view ready.seated ready.awake
      ready.pending o p q place more holds
