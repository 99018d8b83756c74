-- One weak handle less; the block is vacant where the whole word was 1.
use Rattle.std.proofs.Common.{◌≡◌, ℕ, ◌+◌, ◌-◌, ◌*◌, ◌<◌, ◌≤◌, true, false, cond, ◌&&◌, ◌≢◌}
use Rattle.std.proofs.Common.{List, ◌∷◌, get_or, set, ◌==◌, Option, sym, refl, ap, ◌∙◌}
use Rattle.std.proofs.Common.{⊎_elim, arith, ne_eqb}
use Rattle.control_word.proofs.Prelude
use Prelude.{cases_eq, common, counts, ending, Entry, entry, get_elem?, gone, Has}
use Prelude.{held, is_gone, leads, live, Opening}
use Prelude.{Phase, Place, same_held, sees, some, spot, Stands, stored}
use Prelude.{unmade, View, Weak, weak_of, WeakLeave, without}
use Rattle.std.proofs.Math.Bool.{and-true, and-false}
use Rattle.control_word.proofs.history.Allowances.{allowed}
use Rattle.control_word.proofs.history.Legal.{sound}
use Rattle.control_word.proofs.history.Moving.{less_weaks, weak_counted}
use Rattle.control_word.proofs.history.Soundness.{IsBusy}
use Rattle.control_word.proofs.words.Changes.{settled_stores}
use Rattle.control_word.proofs.words.Counting.{bag_fewer}
use Rattle.control_word.proofs.words.Debts.{HasOut, idle_out, last_test}
use Rattle.control_word.specs.State.{weak}
use Rattle.control_word.specs.Steps.{WeakLeaves}
use Rattle.control_word.specs.Limits.{one_fund}

gone_or_not : (p : Phase) → (p ≢ unmade) → (common p ≡ 0) → is_gone p ≡ true
gone_or_not unmade n e = absurd (n refl)
gone_or_not live n e = absurd (omega arith)
gone_or_not gone n e = refl
gone_or_not (ending d) n e = absurd (omega arith)

busy_not_gone : (p : Phase) → 0 < common p → is_gone p ≡ false
busy_not_gone unmade h = absurd (omega arith)
busy_not_gone live h = refl
busy_not_gone gone h = absurd (omega arith)
busy_not_gone (ending d) h = refl

-- the weak word tells whether this was the block's last count
vacant_test : (p : Phase) (w : ℕ) → p ≢ unmade → 0 < w → (w + common p == 1) ≡ (w == 1 && is_gone p)
vacant_test p w n h =
    ⊎_elim
    (λ (e : common p ≡ 0). ap (λ m. m == 1) (let t : w + common p ≡ w = omega arith in t) ∙ (sym (and-true (w == 1))
    ∙ ap (λ t. w == 1 && t) (sym (gone_or_not p n e))))
    (λ (ne : common p ≢ 0). ne_eqb (w + common p) 1 (λ e. omega arith) ∙ (sym (and-false (w == 1))
    ∙ ap (λ t. w == 1 && t) (sym (busy_not_gone p (omega arith))))) (cases_eq (common p) 0)

module _ {V : Type 0} where
  -- One weak handle less, and with it the funds that the desk had out on its count. The block is vacant just where the whole word
  -- was that
  pub settled_weak_leave : (z : Opening) (words : List ℕ) (views : List (View V)) (h : List (Entry V)) (stands : Stands z words views h)
      (i : ℕ) (v : View V) (at : get_elem? views i ≡ some v) (awake : v.spent ≡ false) (o f : ℕ) (p : Option Place)
      → let k = spot ((leads z h).object o).block 1 in HasOut v.pending k f → Has (held v.name (weak_of o p)) (leads z h).hands
      → let a = one_fund * f + 1 in let e = entry v.name (WeakLeave (weak_of o p) (get_or words k 0 == a)) in
      (a ≤ get_or words k 0) × Stands z (set words k (get_or words k 0 - a)) (set views i (sees v (e ∷ h))) (e ∷ h)
  unfolding weak
  settled_weak_leave z words views h stands i v at awake o f p out holds =
      let s = leads z h in
      let d = v.name in
      let fine = sound z h stands.legal in
      let there = weak_counted s d o p holds in
      let busy : IsBusy s o = omega arith in
      let hs = without same_held (held d (weak_of o p)) s.hands in
      let b = (s.object o).block in
      let k = spot b 1 in
      let a = one_fund * f + 1 in
      let vacant = get_or words k 0 == a in
      let made : (s.object o).phase ≢ unmade = λ e. let t = fine.unmade_free o e in omega arith in
      let rest = cond vacant (stored d b ∷ s.stores) s.stores in
      let test = last_test z words views h stands i v at awake Weak o f p out holds (omega arith) (λ e. omega arith) in
      let enough = test.0 in (
        enough,
        settled_stores z words views h stands i v at awake (WeakLeave (weak_of o p) vacant) hs s.object rest Weak o (get_or words k 0 - a) f tt out
            ((holds, refl, refl), test.1 ∙ vacant_test (s.object o).phase (weak s o) made there) tt busy refl
            (λ q t. sym ((less_weaks s d o p holds q).2))
            (λ q t. ap (λ m. m + common (s.object q).phase) (sym ((less_weaks s d o p holds q).1 (⊎_elim (λ n. absurd (n refl)) (λ n. n) t))))
            (λ q. refl)
            (let u = (less_weaks s d o p holds o).0 refl in omega arith)
            (let t = bag_fewer d (weak_of o p) s.hands holds in let u = (allowed z h stands.legal).rooms v.name in omega arith),
      )

module _ {V : Type 0} where
  pub weak_leaves' : WeakLeaves V
  weak_leaves' at o p ready holds = settled_weak_leave at.opening at.words at.views at.history ready.stands at.seat at.view ready.seated ready.awake o 0 p
      (idle_out at.view.pending (counts at Weak o) ready.pending) holds
