-- The shelf's summary: any word of it may become any number.
use Rattle.std.proofs.Common.{◌≡◌, ℕ, ◌-◌, ◌≤◌, map, get_or, set, refl, ap, subst, arith}
use Rattle.control_block.proofs.Prelude
use Prelude.{Allows, At, Idle, keeps, opening_of, Rests, Ruled, SeatView, sees_as, Shape}
use Prelude.{StandsFunded, view_of}
use Rattle.control_word.proofs.funded.Words as law
use Rattle.control_block.proofs.cells.CellRetries.{rested}
use Rattle.control_block.proofs.Passage.{point, ready}
use Rattle.control_block.proofs.words.Still.{moved_on, unmoved}
use Rattle.control_block.specs.SummaryStepKinds.{summary_at}

module _ {V : Type 0} where
  pub allows_summary_look : (k : Shape) (slots id i : ℕ) (me : At V)
      → Allows (Ruled k) slots id me i (λ n. n) (λ n m. m ≡ me)
  allows_summary_look k slots id i me s r sized at small = (me.0, keeps, tt, unmoved k s id i me.0 r at, refl)

  pub allows_summary : (k : Shape) (slots id i : ℕ) (f : ℕ → ℕ) (me : At V) → Rests me → summary_at me.0.shape 0 ≤ i
      → Allows (Ruled k) slots id me i f (λ n m. m ≡ me)
  allows_summary k slots id i f me rests behind s r sized at small =
      let v = me.0 in let n = f (get_or s.words i 0) in
      let j = i - summary_at k 0 in
      let shape = ap (λ (y : Shape). summary_at y 0) (r.shapes id v at rests.awake) in
      let here : summary_at k j ≡ i = omega (arith, behind, shape) in
      let stands = subst (λ y. StandsFunded (opening_of k) (set s.words y n)
      (set (map view_of s.views) id (sees_as v.view Idle r.history)) r.history) here
      (law.writes_summary_funded (point k s r id v) j n (ready k s r id v at rests.awake Idle rests.idle)) in (
        v,
        keeps,
        tt,
        subst (λ (u : SeatView V). Ruled k record { words = set s.words i n; homes = s.homes; views = set s.views id u })
            (rested me rests)
            (moved_on k s r id v _ Idle at rests.awake rests.empty record { single = λ d q. q; both = λ d seen. tt } stands),
        refl,
      )
