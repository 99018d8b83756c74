-- One more weak handle.
use Rattle.std.proofs.Common.{◌≡◌, ℕ, suc, ◌+◌, ◌<◌, false, List, ◌∷◌, get_or, set, Some, Option}
use Rattle.std.proofs.Common.{refl, ap, ⊎_elim, arith}
use Rattle.control_word.proofs.Prelude.{Asks, bag_size, common, Entry, entry, get_elem?, held}
use Rattle.control_word.proofs.Prelude.{Idle, leads, more, Opening, Place, sees, some, spot}
use Rattle.control_word.proofs.Prelude.{Stands, View, Weak, weak_of, WeakShare}
use Rattle.control_word.proofs.history.Moving.{more_weaks, weak_no_owner}
use Rattle.control_word.proofs.history.Soundness.{IsBusy}
use Rattle.control_word.proofs.words.Changes.{settled_step}
use Rattle.control_word.proofs.words.Counting.{bag_one}
use Rattle.control_word.proofs.words.Debts.{idle_out}
use Rattle.control_word.specs.Steps.{WeakShares}

module _ {V : Type 0} where
  module _ (z : Opening) (words : List ℕ) (views : List (View V)) (h : List (Entry V)) (stands : Stands z words views h)
      (i : ℕ) (v : View V) (at : get_elem? views i ≡ some v) (awake : v.spent ≡ false) (idle : v.pending ≡ Idle) (o : ℕ) (p : Option Place) where
    -- one more weak handle of a busy object
    pub weak_share_step : bag_size (leads z h) v.name < (leads z h).allowance v.name → IsBusy (leads z h) o
        → Asks {V = V} (leads z h) v.name (WeakShare o p)
        → let k = spot ((leads z h).object o).block 1 in let e = entry v.name (WeakShare o p) in
        Stands z (set words k (suc (get_or words k 0))) (set views i (sees v (e ∷ h))) (e ∷ h)
    weak_share_step more busy asks =
        let s = leads z h in
        let hs = held v.name (weak_of o p) ∷ s.hands in
        let k = spot (s.object o).block 1 in
        settled_step z words views h stands i v at awake (WeakShare o p) hs s.object Weak o (suc (get_or words k 0)) 0 tt
        (idle_out v.pending k idle) asks tt busy refl
        (λ r t. weak_no_owner s v.name (Some o) p r)
        (λ r t. ap (λ m. m + common (s.object r).phase) ((more_weaks s v.name o p r).1 (⊎_elim (λ n. absurd (n refl)) (λ n. n) t))) (λ r. refl)
        (let u = (more_weaks s v.name o p o).0 refl in omega arith)
        (let t = bag_one v.name (weak_of o p) s.hands in omega arith)

module _ {V : Type 0} where
  pub weak_shares : WeakShares V
  weak_shares at o p ready busy asks more = weak_share_step at.opening at.words at.views at.history ready.stands at.seat at.view ready.seated
      ready.awake ready.pending o p more busy asks
