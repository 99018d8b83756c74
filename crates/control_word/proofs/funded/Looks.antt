-- Looks, where each handle in hand has its funds: the number is the same, and there is none just where nothing is on the word.
use Rattle.std.proofs.Common.{◌≡◌, ℕ, suc, ◌+◌, ◌-◌, ◌*◌, ◌/◌, ◌%◌, ◌<◌, ◌≤◌, Bool, false, true, cond, ◌≢◌, List, ◌∷◌, get_or, set, ◌==◌, Some, None, Option}
use Rattle.std.proofs.Common.{sym, refl, ap, ◌∙◌, subst, ⊎_elim, arith, eq-eqb, ne_eqb}
use Rattle.control_word.proofs.Prelude
use Prelude.{blocks_of, cases_eq, Cell, cell_of, cell_word, Compare, cond-false, cond-true, Count, counts, counts_at, Entry, entry, equivalent, Event}
use Prelude.{Expired, handle, held, Has}
use Prelude.{Idle, IsOpen, Kind, leads, Load, me, NumberedHandle, Opening, owed, owner, Owner, Place, Point, Read, Same, sees_as, spot, Stands, state, View}
use Prelude.{Weak, weak_of, word}
use Rattle.control_word.proofs.funded.Apart.{body_apart}
use Rattle.control_word.proofs.funded.Cells.{cell_same, open_cell}
use Rattle.control_word.proofs.funded.Counts.{calm, one_answer}
use Rattle.control_word.proofs.funded.Hands.{lacking_few}
use Rattle.control_word.proofs.funded.Next.{bare_ready, bared, plain_word, told, zero_bare, zero_word}
use Rattle.control_word.proofs.history.Legal.{held_busy, sound}
use Rattle.control_word.proofs.history.Soundness.{IsBusy}
use Rattle.control_word.proofs.steps.Look.{differs_empty, loads_empty, looks_on, reads, tells_count, tells_expired}
use Rattle.control_word.proofs.steps.Sameness.{tells_same}
use Rattle.control_word.specs.CellSteps.{DiffersEmpty, LoadsEmpty, TellsSame}
use Rattle.control_word.specs.HandFunds.{hand_funds, StandsFunded}
use Rattle.control_word.specs.Limits.{one_fund}
use Rattle.control_word.specs.Packing.{without_taken}
use Rattle.control_word.specs.Steps.{LooksOn, ReadyBy, Reads, TellsCount, TellsExpired}
use Rattle.control_word.specs.Words.{packed}

-- what is told of a number and of whether there are funds
pub told_alike : (low high low' high' : ℕ) → low ≡ low' → (low ≡ 0 → high ≡ 0 → high' ≡ 0) → (low ≡ 0 → high' ≡ 0 → high ≡ 0)
    → cond (low == 0) (cond (high == 0) 0 1) low ≡ cond (low' == 0) (cond (high' == 0) 0 1) low'
told_alike low high low' high' same f g =
    ⊎_elim
    (λ (e : low ≡ 0).
    let a : cond (low == 0) (cond (high == 0) 0 1) low ≡ cond (high == 0) 0 1 = cond-true (low == 0) (cond (high == 0) 0 1) low (eq-eqb low 0 e) in
    let b : cond (low' == 0) (cond (high' == 0) 0 1) low' ≡ cond (high' == 0) 0 1 = cond-true (low' == 0) (cond (high' == 0) 0 1) low' (eq-eqb low' 0 (omega
    arith)) in
    a ∙ (ap (λ (t : Bool). cond t 0 1) (one_answer high high' 0 0 (g e) (f e)) ∙ sym b))
    (λ (n : low ≢ 0).
    cond-false (low == 0) (cond (high == 0) 0 1) low (ne_eqb low 0 n) ∙ (same
    ∙ sym (cond-false (low' == 0) (cond (high' == 0) 0 1) low' (ne_eqb low' 0 (λ e. n (omega arith))))))
    (cases_eq low 0)

module _ {V : Type 0} where
  -- a look of a desk that rests
  look : (at : Point V) (ready : ReadyBy StandsFunded at Idle) (h : List (Entry V)) → ((i : ℕ) → hand_funds (leads at.opening h) i ≡ hand_funds (state at) i)
      → Stands at.opening ready.stands.bare (set at.views at.seat (sees_as at.view Idle h)) h
      → StandsFunded at.opening at.words (set at.views at.seat (sees_as at.view Idle h)) h
  look at ready h same law = told at.opening at.words at.views at.history ready.stands (set at.views at.seat (sees_as at.view Idle h)) h law
      (λ i. let a = calm at ready h i in let b = same i in omega arith)

  pub tells_count_funded : TellsCount V StandsFunded
  tells_count_funded at k o p low high ready holds is small =
      let is' = ready.stands in
      let busy = held_busy at.opening (state at) (me at) o k p (sound at.opening at.history is'.stands.legal) holds in
      let j = counts at Owner o in let w = word at j in let b = get_or is'.bare j 0 in
      let low' = b % one_fund in let high' = b / one_fund in
      let more = lacking_few at.opening is'.bare at.views at.history is'.stands Owner o busy in
      let f = is'.funded j in
      let same : low ≡ low' = omega arith in
      let n = cond (low == 0) (cond (high == 0) 0 1) low in
      let n' = cond (low' == 0) (cond (high' == 0) 0 1) low' in
      let alike : n ≡ n' = told_alike low high low' high' same
      (λ e g. let t = zero_word at.opening at.words at.views at.history ready.stands Owner o busy (omega arith) in omega arith)
      (λ e g. let t = zero_bare at.opening at.words at.views at.history ready.stands Owner o busy (omega arith) in omega arith) in
      let law = tells_count (bared at is') k o p low' high' (bare_ready at Idle ready) holds (omega arith) (omega arith) in (
        subst (λ m. StandsFunded at.opening at.words (set at.views at.seat (sees_as at.view Idle (entry (me at) (Count (handle k (Some o) p) m) ∷ at.history)))
            (entry (me at) (Count (handle k (Some o) p) m) ∷ at.history)) (sym alike)
            (look at ready (entry (me at) (Count (handle k (Some o) p) n') ∷ at.history) (λ i. refl) law.0),
        λ none. alike ∙ law.1 none,
      )

  pub tells_expired_funded : TellsExpired V StandsFunded
  tells_expired_funded at o p ready holds =
      let busy = held_busy at.opening (state at) (me at) o Weak p (sound at.opening at.history ready.stands.stands.legal) holds in
      let j = counts at Owner o in
      let same : (word at j == 0) ≡ (get_or ready.stands.bare j 0 == 0) = one_answer (word at j) (get_or ready.stands.bare j 0) 0 0
      (zero_bare at.opening at.words at.views at.history ready.stands Owner o busy) (zero_word at.opening at.words at.views at.history ready.stands Owner o
      busy) in
      subst (λ t. StandsFunded at.opening at.words (set at.views at.seat (sees_as at.view Idle (entry (me at) (Expired (weak_of o p) t) ∷ at.history)))
      (entry (me at) (Expired (weak_of o p) t) ∷ at.history)) (sym same)
      (look at ready (entry (me at) (Expired (weak_of o p) (get_or ready.stands.bare j 0 == 0)) ∷ at.history) (λ i. refl)
      (tells_expired (bared at ready.stands) o p (bare_ready at Idle ready) holds))

  pub reads_funded : Reads V StandsFunded
  reads_funded at o p ready holds inside low =
      let fine = sound at.opening at.history ready.stands.stands.legal in
      let busy = held_busy at.opening (state at) (me at) o Owner (Some p) fine holds in
      let place = (fine.placed o busy).1 in let place0 = place.0 in
      let j = spot p.block.0 (3 + p.field) in
      let same = plain_word at.opening at.words at.views at.history ready.stands j
      (body_apart at.opening (state at) fine p.block.0 (3 + p.field) (omega arith) (omega arith) (omega arith)) in
      subst (λ n. StandsFunded at.opening at.words (set at.views at.seat (sees_as at.view Idle (entry (me at) (Read (owner o (Some p)) n) ∷ at.history)))
      (entry (me at) (Read (owner o (Some p)) n) ∷ at.history)) (sym same)
      (look at ready (entry (me at) (Read (owner o (Some p)) (get_or ready.stands.bare j 0)) ∷ at.history) (λ i. refl)
      (reads (bared at ready.stands) o p (bare_ready at Idle ready) holds inside low))

  pub looks_on_funded : LooksOn V StandsFunded
  looks_on_funded at ready = look at ready at.history (λ i. refl) (looks_on (bared at ready.stands) (bare_ready at Idle ready))

  pub loads_empty_funded : LoadsEmpty V StandsFunded
  loads_empty_funded at c k p ready open' is = look at ready (entry (me at) (Load c (handle k None p)) ∷ at.history) (λ i. refl)
      (loads_empty (bared at ready.stands) c k p (bare_ready at Idle ready) open' is)

  pub differs_empty_funded : DiffersEmpty V StandsFunded
  differs_empty_funded at c k p expected new weak' ready is asks =
      look at ready (entry (me at) (Compare c expected new (handle k None p) false weak') ∷ at.history) (λ i. refl)
      (differs_empty (bared at ready.stands) c k p expected new weak' (bare_ready at Idle ready) is asks)

  pub tells_same_funded : TellsSame V StandsFunded
  tells_same_funded at c h ready open' hand =
      let kept = open_cell at Idle c ready open' in
      let same = cell_same at Idle ready c kept in
      subst (λ w. StandsFunded at.opening at.words (set at.views at.seat (sees_as at.view Idle (entry (me at) (Same c h (without_taken w
      == packed (blocks_of (state at)) h)) ∷ at.history))) (entry (me at) (Same c h (without_taken w == packed (blocks_of (state at)) h)) ∷ at.history)) (sym
      same)
      (look at ready (entry (me at) (Same c h (without_taken (get_or ready.stands.bare (cell_word at c) 0) == packed (blocks_of (state at)) h)) ∷ at.history)
      (λ i. refl)
      (tells_same (bared at ready.stands) c h (bare_ready at Idle ready) open' hand))
