-- The owners' common count goes, or stays in the word of a block that is kept; the block is vacant where the whole word was 1.
use Rattle.std.proofs.Common.{◌≡◌, ℕ, suc, ◌+◌, ◌-◌, ◌<◌, Bool, true, false, cond, ◌≢◌, ◌⊎◌}
use Rattle.std.proofs.Common.{List, ◌∷◌, get_or, set, ◌==◌, Some, sym, refl, ap, ◌∙◌, subst, inl, inr}
use Rattle.std.proofs.Common.{⊎_elim, arith, eq-eqb, ne_eqb, eqb-true}
use Rattle.control_word.proofs.Prelude
use Prelude.{cases_eq, changes, common, counts, empty, ending, Entry, entry, Finish, get_elem?, gone}
use Prelude.{Idle, kind_of_member, leads, me, members, moved_to, Object, Opening}
use Prelude.{owed, paid, put, sees, some, spot, Stands, state, stored}
use Prelude.{unmade, value, View, Weak, weak_number, word}
use Rattle.control_word.proofs.history.Allowances.{allowed}
use Rattle.control_word.proofs.history.Leaving.{becomes_vacant, finish_phase}
use Rattle.control_word.proofs.history.Legal.{sound}
use Rattle.control_word.proofs.history.Moving.{count_same, weak_same}
use Rattle.control_word.proofs.history.Soundness.{IsBusy}
use Rattle.control_word.proofs.lists.Tallies.{put_cases, put_other}
use Rattle.control_word.proofs.steps.Look.{load_is_write}
use Rattle.control_word.proofs.words.Changes.{settled_as}
use Rattle.control_word.proofs.words.Counting.{funds_mean, number_read, one_test}
use Rattle.control_word.proofs.words.Counting.{owed_paid, word_some}
use Rattle.control_word.proofs.words.Debts.{idle_out}
use Rattle.control_word.specs.State.{weak}
use Rattle.control_word.specs.Steps.{FindsFinished, Finishes, Tells}
use Rattle.control_word.specs.Words.{bank}

eqb_suc : (n : ℕ) → (suc n == 1) ≡ (n == 0)
eqb_suc n = ⊎_elim (λ (e : n ≡ 0). eq-eqb (suc n) 1 (omega arith) ∙ sym (eq-eqb n 0 e)) (λ (e : n ≢ 0). ne_eqb (suc n) 1 (λ u. omega arith)
    ∙ sym (ne_eqb n 0 e)) (cases_eq n 0)

module _ {V : Type 0} where
  module _ (z : Opening) (words : List ℕ) (views : List (View V)) (h : List (Entry V)) (stands : Stands z words views h)
      (i : ℕ) (v : View V) (at : get_elem? views i ≡ some v) (awake : v.spent ≡ false) (idle : v.pending ≡ Idle) (o : ℕ) where
    -- the owners' common count goes, or stays in the word of a block that is kept; the block is vacant just where the whole word
    -- was 1
    finish_as : (n : ℕ) (val : V) → value z h o ≡ Some val → ((leads z h).object o).phase ≡ ending v.name → ((m : ℕ) → m < (leads z h).members
        → ((leads z h).object o).member m ≡ empty (kind_of_member (leads z h).owners m))
        → let k = spot ((leads z h).object o).block 1 in let e = entry v.name (Finish o (get_or words k 0 == 1) val) in
        (n ≡ get_or words k 0 - 1) ⊎ ((get_or words k 0 ≡ 1) × (n ≡ 1) × (z.keeps_blocks ≡ true))
        → Stands z (set words k n) (set views i (sees v (e ∷ h))) (e ∷ h)
    unfolding weak
    finish_as n val is end cleared leaves =
        let s = leads z h in
        let d = v.name in
        let fine = sound z h stands.legal in
        let one : common (s.object o).phase ≡ 1 = ap common end in
        let busy : IsBusy s o = omega arith in
        let x = s.object o in
        let f = put s.object o (moved_to gone x) in
        let b = x.block in
        let k = spot b 1 in
        let r = number_read z words views h stands Weak o busy in
        let vacant = get_or words k 0 == 1 in
        let rest = cond vacant (stored d b ∷ s.stores) s.stores in
        let t = finish_phase z s d o fine end cleared in
        let none : weak_number s o ≡ 1 → paid views k + bank z s stands.taken k ≡ 0 =
        λ e. ⊎_elim (λ (q : paid views k + bank z s stands.taken k ≡ 0). q) (λ (ne : paid views k + bank z s stands.taken k ≢ 0).
        let y : 0 < weak s o = funds_mean z words views h stands Weak o busy (omega arith) in absurd (omega arith)) (cases_eq
        (paid views k + bank z s stands.taken k) 0) in
        let test = one_test (get_or words k 0) (owed views k) (weak_number s o) (paid views k + bank z s stands.taken k) r
        (let l = owed_paid z words views h stands k in omega arith) (omega arith) none in
        let word = word_some z words views h stands Weak o busy (omega arith) in
        let members' : (q : ℕ)
        → members (f q) ≡ members (s.object q) = λ q. put_cases (λ j u. members u ≡ members (s.object j)) s.object o (moved_to gone x) q (λ e. ap
        (λ n. members (s.object n)) (sym e)) (λ n. refl) in
        let still : (q : ℕ) → moved_to unmade (f q) ≡ moved_to unmade (s.object q) =
        λ q. put_cases (λ j u. moved_to unmade u ≡ moved_to unmade (s.object j)) s.object o (moved_to gone x) q (λ e. ap
        (λ n. moved_to unmade (s.object n)) (sym e)) (λ n. refl) in
        let other : (q : ℕ) → q ≢ o → f q ≡ s.object q = λ q n. put_other s.object o (moved_to gone x) q n in
        settled_as z words views h stands i v at awake (Finish o vacant val) s.hands f rest Weak o n 0 tt (idle_out v.pending k idle) (
          end,
          cleared,
          (let e : (get_or words k 0 == 1) ≡ (weak s o == 0) = test
              ∙ (ap (λ m. m == 1) (let u : weak_number s o ≡ suc (weak s o) = omega arith in u) ∙ eqb_suc (weak s o)) in e),
        ) is busy refl
        (λ q u. count_same s s.hands f members' q)
        (λ q u. let c = weak_same s s.hands f members' q in let ne : q ≢ o = ⊎_elim (λ n. absurd (n refl)) (λ n. n) u in
        let g = ap (λ (y : Object). common y.phase) (other q ne) in omega arith) still
        (let u = t.2 in ⊎_elim (λ e. inl (omega arith))
        (λ l.
        let was : weak_number s o ≡ 1 = eqb-true (weak_number s o) 1 (sym test ∙ eq-eqb (get_or words k 0) 1 l.0) in
        let none : weak_number (changes o (moved_to gone x) s) o ≡ 0 = omega arith in
        inr (
          omega arith,
          omega arith,
          becomes_vacant z s (changes o (moved_to gone x) s) o fine busy none t.1 (λ q. ap (λ (y : Object). y.block) (still q)),
          λ e. (l.1, l.2),
        )) leaves)
        ((allowed z h stands.legal).rooms v.name)

module _ {V : Type 0} where
  pub finishes' : Finishes V Stands
  finishes' at o v ready is end cleared =
      let one : common ((state at).object o).phase ≡ 1 = ap common end in
      let busy : IsBusy (state at) o = omega arith in (
        word_some at.opening at.words at.views at.history ready.stands Weak o busy (omega arith),
        finish_as at.opening at.words at.views at.history ready.stands at.seat at.view ready.seated ready.awake ready.pending o
            (word at (counts at Weak o) - 1) v is end cleared (inl refl),
      )

  pub finds_finished : FindsFinished V Stands
  finds_finished at o v ready is end cleared keeps found =
      let k = counts at Weak o in
      let law = finish_as at.opening at.words at.views at.history ready.stands at.seat at.view ready.seated ready.awake ready.pending o 1 v is end
      cleared (inr (found, refl, keeps)) in
      let same : set at.words k 1 ≡ at.words = ap (set at.words k) (sym found) ∙ load_is_write at.words k in
      subst (λ (b : Bool). Tells at (Finish o b v) Idle) (eq-eqb (word at k) 1 found)
      (subst (λ (ws : List ℕ). let h = entry (me at) (Finish o (word at k == 1) v) ∷ at.history in
      Stands at.opening ws (set at.views at.seat (sees at.view h)) h) same law)
