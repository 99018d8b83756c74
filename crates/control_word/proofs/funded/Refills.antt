-- A refill, where each handle in hand has its funds: some of them go into the cell, and the handle lacks them then.
use Rattle.std.proofs.Common.{◌≡◌, ℕ, ◌+◌, ◌-◌, ◌*◌, ◌<◌, ◌≤◌, false, ◌≢◌, List, length, get_or, set, Some, Option, sym, refl, ap, ◌∙◌, subst}
use Rattle.std.proofs.Common.{⊎_elim, arith, length-set, get_or-set_other, get_or-set_same}
use Rattle.control_word.proofs.Prelude
use Prelude.{blocks_of, cases_eq, Cell, cell_of, cell_word, counts, get_elem?, handle, Has, held, Idle, IsOpen, Kind, me, Paying, Pending, Place, Point, Ready}
use Prelude.{sees_as, some, Stands, state, View, word}
use Rattle.control_word.proofs.funded.Apart.{set_again, set_found}
use Rattle.control_word.proofs.funded.Cells.{apart, cell_in, cell_same, open_cell}
use Rattle.control_word.proofs.funded.Purses.{counted_in}
use Rattle.control_word.proofs.funded.Next.{bare_ready, bared, IsApart, lacking_set}
use Rattle.control_word.proofs.history.Legal.{held_busy, sound}
use Rattle.control_word.proofs.history.Soundness.{IsBusy}
use Rattle.control_word.proofs.steps.Bring.{brings}
use Rattle.control_word.proofs.steps.Refill.{refills}
use Rattle.control_word.proofs.words.Banks.{IsKept}
use Rattle.control_word.proofs.words.Payments.{cond_one, one_at, one_else, one_here}
use Rattle.control_word.specs.FundedSteps.{RefillsFunded}
use Rattle.control_word.specs.HandFunds.{lacking, lacks, StandsFunded}
use Rattle.control_word.specs.Limits.{cell_funds, one_fund, one_taken}
use Rattle.control_word.specs.Steps.{ReadyBy}
use Rattle.control_word.specs.Words.{packed}

module _ {V : Type 0} where
  -- the point after a step without an event
  abbrev gone_on : Point V → ℕ → ℕ → Pending V → Point V
  gone_on at k n p = record at {
    words = set at.words k n;
    views = set at.views at.seat (sees_as at.view p at.history);
    view = sees_as at.view p at.history;
  }

  gone_ready : (at : Point V) (k n : ℕ) (p q : Pending V) → Ready at p → Stands at.opening (set at.words k n)
      (set at.views at.seat (sees_as at.view q at.history)) at.history → Ready (gone_on at k n q) q
  gone_ready at k n p q ready stands = record {
    stands = stands;
    seated = set_found at.views at.seat at.view (sees_as at.view q at.history) ready.seated;
    awake = ready.awake;
    pending = refl;
  }

  pub refills_funded : RefillsFunded V
  refills_funded at c k o t p q ready holds few open' is found =
      let z = at.opening in let s = state at in let h = at.history in
      let st = ready.stands in let b = st.bare in
      let kept = open_cell at Idle c ready open' in
      let i = cell_word at c in let j = counts at k o in
      let busy = held_busy z s (me at) o k p (sound z h st.stands.legal) holds in
      let ne : i ≢ j = apart at Idle ready c kept k o busy in
      let inside = counted_in at Idle ready k o busy in
      let within = cell_in at Idle ready c kept in
      let read = cell_same at Idle ready c kept in
      let at0 = bared at st in
      let x1 = get_or b j 0 + one_fund * t in
      let p1 : Pending V = Paying k o p j t 0 in
      let r0 = bare_ready at Idle ready in
      let at1 = gone_on at0 j x1 p1 in
      let r1 = gone_ready at0 j x1 Idle p1 r0 (brings at0 k o t p r0 holds few) in
      let same1 : get_or (set b j x1) i 0 ≡ get_or b i 0 = get_or-set_other b j i x1 0 ne in
      let x2 = get_or (set b j x1) i 0 - one_taken * t in
      let at2 = gone_on at1 i x2 Idle in
      let r2 = gone_ready at1 i x2 p1 Idle r1 (refills at1 c k o t p q r1 open' is (same1 ∙ (sym read ∙ found))) in
      let b2 = set (set b j x1) i x2 in
      let p3 : Pending V = Paying k o p j (cell_funds - t) 0 in
      let x3 = get_or b2 j 0 + one_fund * (cell_funds - t) in
      let law = brings at2 k o (cell_funds - t) p r2 holds (omega arith) in
      let b3 = set b2 j x3 in
      let v1 = sees_as at.view p1 h in let v2 = sees_as at.view Idle h in let v3 = sees_as at.view p3 h in
      let us = set at.views at.seat v3 in
      let views : set (set (set at.views at.seat v1) at.seat v2) at.seat v3 ≡ us =
      set_again (set at.views at.seat v1) at.seat v2 v3 ∙ set_again at.views at.seat v1 v3 in
      let n = word at i - one_taken * t in
      let at_j : get_or b2 j 0 ≡ x1 = get_or-set_other (set b j x1) i j x2 0 (λ e. ne (sym e)) ∙ get_or-set_same b j x1 0 inside in
      let lens = length-set b2 j x3 ∙ (length-set (set b j x1) i x2 ∙ length-set b j x1) in
      record {
        bare = b3;
        stands = subst (λ (us : List (View V)). Stands z b3 us h) views law;
        sized = length-set at.words i n ∙ (st.sized ∙ sym lens);
        funded = λ m.
            let l = lacking_set at.views at.seat at.view p3 h m ready.seated in let y = ap (λ c. lacks c m) ready.pending in
            let w = cond_one j m cell_funds in let f = st.funded m in
            ⊎_elim
            (λ (e : m ≡ i).
            let size = st.sized in let f' = lens in
            let a : get_or (set at.words i n) m 0 ≡ n = ap (λ c. get_or (set at.words i n) c 0) e ∙ get_or-set_same at.words i n 0 (omega arith) in
            let d : get_or b3 m 0 ≡ x2 = ap (λ c. get_or b3 c 0) e ∙ (get_or-set_other b2 j i x3 0 ne
            ∙ get_or-set_same (set b j x1) i x2 0 (let g = length-set b j x1 in omega arith)) in
            let one = one_else j m (λ g. ne (sym e ∙ g)) in
            let g1 = ap (λ c. get_or at.words c 0) e in let g2 = ap (λ c. get_or b c 0) e in
            omega arith)
            (λ (ni : m ≢ i).
            let a = get_or-set_other at.words i m n 0 ni in
            ⊎_elim
            (λ (e : m ≡ j).
            let d : get_or b3 m 0 ≡ x3 = ap (λ c. get_or b3 c 0) e ∙ get_or-set_same b2 j x3 0
            (let g = length-set (set b j x1) i x2 in let g' = length-set b j x1 in omega arith) in
            let one = one_here j m e in
            let g1 = ap (λ c. get_or at.words c 0) e in let g2 = ap (λ c. get_or b c 0) e in
            omega arith)
            (λ (nj : m ≢ j).
            let d : get_or b3 m 0 ≡ get_or b m 0 = get_or-set_other b2 j m x3 0 nj ∙ (get_or-set_other (set b j x1) i m x2 0 ni
            ∙ get_or-set_other b j m x1 0 nj) in
            let one = one_else j m nj in omega arith)
            (cases_eq m j))
            (cases_eq m i);
      }
