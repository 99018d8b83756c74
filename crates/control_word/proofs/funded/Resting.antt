-- What the words tell between any two steps, where each handle in hand has its funds: numbers are as they are without them.
use Rattle.std.proofs.Common.{◌≡◌, ℕ, ◌+◌, ◌*◌, ◌/◌, ◌%◌, ◌<◌, ◌≤◌, ◌≢◌, List, get_or, sym, refl, ap, ◌∙◌, subst, inl, inr, ⊎_elim, arith}
use Rattle.control_word.proofs.Prelude
use Prelude.{blocks_of, cases_eq, common, counts_at, Entry, funds_of, InShape, Kind, leads, number_of, Opening, Owner, slot, spot, State, View, Weak}
use Prelude.{weak_number}
use Rattle.control_word.proofs.funded.Hands.{hand_counts, lacking_few}
use Rattle.control_word.proofs.funded.Looks.{told_alike}
use Rattle.control_word.proofs.funded.Next.{plain_word, zero_bare, zero_word}
use Rattle.control_word.proofs.history.Legal.{sound}
use Rattle.control_word.proofs.history.Soundness.{IsBusy}
use Rattle.control_word.proofs.steps.Look.{counts_exactly}
use Rattle.control_word.proofs.views.Resting.{rests_exactly, sole_has_seen_all}
use Rattle.control_word.proofs.words.Frames.{spot_apart}
use Rattle.control_word.proofs.words.Funds.{slot_low}
use Rattle.control_word.proofs.words.Payments.{latest_is}
use Rattle.control_word.specs.HandFunds.{hand_funds, lacking, StandsFunded}
use Rattle.control_word.specs.Laws.{CountsExactly, RestsExactly, SoleHasSeenAll}
use Rattle.control_word.specs.Limits.{one_fund}

module _ {V : Type 0} where
  pub sole_has_seen_all_funded : SoleHasSeenAll V StandsFunded
  sole_has_seen_all_funded z words views h is = sole_has_seen_all z is.bare views h is.stands

  -- the number of a block's count is as it is without the funds of handles in hand
  number_same : (z : Opening) (words : List ℕ) (views : List (View V)) (h : List (Entry V)) (is : StandsFunded z words views h) (b : ℕ) → InShape z b
      → (m : Kind) → number_of (get_or words (spot b (slot m)) 0) ≡ number_of (get_or is.bare (spot b (slot m)) 0)
  number_same z words views h is b hb m =
      let s = leads z h in let o = s.latest b in let j = spot b (slot m) in
      let fine = sound z h is.stands.legal in
      ⊎_elim
      (λ (e : weak_number s o ≡ 0).
      let same = plain_word z words views h is j (λ k r busy q.
      let p = fine.placed r busy in let l = slot_low m in let l' = slot_low k in
      let t = spot_apart b (slot m) (s.object r).block (slot k) hb.0 p.1.0 (omega arith) (omega arith) q in
      let u : o ≡ r = ap s.latest t.0 ∙ p.0 in let w = ap (weak_number s) u in absurd (omega arith)) in
      ap number_of same)
      (λ (ne : weak_number s o ≢ 0).
      let busy : IsBusy s o = omega arith in
      let at : j ≡ counts_at (blocks_of s) m o = ap (λ c. spot c (slot m)) (latest_is z s b o fine busy refl) in
      let more = lacking_few z is.bare views h is.stands m o busy in
      let f = is.funded (counts_at (blocks_of s) m o) in
      let here : number_of (get_or words (counts_at (blocks_of s) m o) 0) ≡ number_of (get_or is.bare (counts_at (blocks_of s) m o) 0) = omega arith in
      subst (λ c. number_of (get_or words c 0) ≡ number_of (get_or is.bare c 0)) (sym at) here)
      (cases_eq (weak_number s o) 0)

  pub rests_exactly_funded : RestsExactly V StandsFunded
  rests_exactly_funded z words views h is b hb rest =
      let t = rests_exactly z is.bare views h is.stands b hb rest in (
        number_same z words views h is b hb Owner ∙ t.0,
        ⊎_elim (λ e. inl (number_same z words views h is b hb Weak ∙ e))
            (λ v. inr (
              v.0,
              plain_word z words views h is (spot b 1) (λ k r busy q.
                  let p = (sound z h is.stands.legal).placed r busy in let l = slot_low k in
                  let u = spot_apart b 1 ((leads z h).object r).block (slot k) hb.0 p.1.0 (omega arith) (omega arith) q in
                  let w = v.0 r (sym u.0) in omega arith) ∙ v.1,
              v.2,
            )) t.1,
      )

  pub counts_exactly_funded : CountsExactly V StandsFunded
  counts_exactly_funded z words views h is o busy none =
      let s = leads z h in let j = counts_at (blocks_of s) Owner o in
      let w = get_or words j 0 in let b = get_or is.bare j 0 in
      let more = lacking_few z is.bare views h is.stands Owner o busy in
      let f = is.funded j in
      told_alike (number_of w) (funds_of w) (number_of b) (funds_of b) (omega arith)
      (λ e g. let t = zero_word z words views h is Owner o busy (omega arith) in omega arith)
      (λ e g. let t = zero_bare z words views h is Owner o busy (omega arith) in omega arith)
      ∙ counts_exactly z is.bare views h is.stands o busy none
