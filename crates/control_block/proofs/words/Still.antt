-- Steps that make no event: nothing changes, or the desk's call goes on; and a compare-exchange, by its two outcomes.
use Rattle.std.proofs.Common.{◌≡◌, ℕ, ◌<◌, false, ◌≢◌, List, map, get_or, set, ◌==◌, None, Option}
use Rattle.std.proofs.Common.{sym, refl, subst, inr, ⊎_elim, eq-eqb, ne_eqb}
use Rattle.control_block.proofs.Prelude.{Allows, At, at_map, cases_eq, either, get_elem?, in_call}
use Rattle.control_block.proofs.Prelude.{IsSlotOf, keeps, load_is_write, opening_of, Pending}
use Rattle.control_block.proofs.Prelude.{Ruled, SeatView, sees_as, set_again, Shape, some, StandsFunded}
use Rattle.control_block.proofs.Prelude.{view_of}
use Rattle.atomic_table.specs.Table as Table
use Rattle.control_block.proofs.Passage.{next}
use Rattle.control_block.proofs.words.Unseen.{IsOwn, unseen}

module _ {V : Type 0} where
  -- the rule where a step changed nothing
  pub unmoved : (k : Shape) (s : Table.State (Option V) (SeatView V)) (id i : ℕ) (v : SeatView V) → Ruled k s → get_elem? s.views id ≡ some v
      → Ruled k record { words = set s.words i (get_or s.words i 0); homes = s.homes; views = set s.views id v }
  unmoved k s id i v r at =
      subst (λ (t : List ℕ × List (SeatView V)). Ruled k record { words = t.0; homes = s.homes; views = t.1 })
      (λ j. (sym (load_is_write s.words i) j, sym (set_again s.views id v at) j)) r

  -- the rule where the desk's call went on, and all else is as it was, what it has seen too
  pub moved_on : (k : Shape) (s : Table.State (Option V) (SeatView V)) (r : Ruled k s) (id : ℕ) (v : SeatView V) (words : List ℕ) (p : Pending V)
      → get_elem? s.views id ≡ some v → v.view.spent ≡ false → v.hand ≡ None → IsOwn p
      → StandsFunded (opening_of k) words (set (map view_of s.views) id (sees_as v.view p r.history)) r.history
      → Ruled k record { words = words; homes = s.homes; views = set s.views id (in_call v p) }
  moved_on k s r id v words p at awake free own stands =
      next k s r id v (in_call v p) words s.homes r.history at awake (r.shapes id v at awake)
      (unseen (opening_of k) s.words words (map view_of s.views) r.history id v.view p (at_map view_of s.views id v at) awake r.stands own stands) refl tt
      (λ j u ne there un back. back) (λ b inside. inr (inr (refl, refl, λ y. subst (λ c. IsSlotOf c b) free y)))

  -- a step by which the desk's call goes on
  pub allows_move : (k : Shape) (slots id i : ℕ) (me : At V) (f : ℕ → ℕ) (p : Pending V) → me.0.view.spent ≡ false
      → me.0.hand ≡ None → IsOwn p
      → ((s : Table.State (Option V) (SeatView V)) (r : Ruled k s) → get_elem? s.views id ≡ some me.0 → get_or s.words i 0 < 18446744073709551616
      → StandsFunded (opening_of k) (set s.words i (f (get_or s.words i 0))) (set (map view_of s.views) id (sees_as me.0.view p r.history)) r.history)
      → Allows (Ruled k) slots id me i f (λ n after. (after.0 ≡ in_call me.0 p) × (after.1 ≡ me.1))
  allows_move k slots id i me f p awake free own law s r sized at small =
      let v = me.0 in (
        in_call v p,
        keeps,
        tt,
        moved_on k s r id v _ p at awake free own (law s r at small),
        (refl, refl),
      )

  -- a compare-exchange, which changes nothing where the word isn't the expected one
  pub allows_exchange : (k : Shape) (slots id i old new : ℕ) (me : At V) (T : ℕ → At V → Type 0)
      → ((s : Table.State (Option V) (SeatView V)) → Ruled k s → get_elem? s.views id ≡ some me.0 → get_or s.words i 0 ≢ old
      → T (get_or s.words i 0) me)
      → ((s : Table.State (Option V) (SeatView V)) → Ruled k s → get_elem? s.views id ≡ some me.0 → get_or s.words i 0 ≡ old
      → (w : SeatView V) × Ruled k record { words = set s.words i new; homes = s.homes; views = set s.views id w } × T old (w, me.1))
      → Allows (Ruled k) slots id me i (λ n. either (n == old) new n) T
  allows_exchange k slots id i old new me T miss hit s r sized at small =
      let n = get_or s.words i 0 in let v = me.0 in
      ⊎_elim
      (λ (q : n ≡ old).
      let t = hit s r at q in (
        t.0,
        keeps,
        tt,
        subst (λ b. Ruled k record { words = set s.words i (either b new n); homes = s.homes; views = set s.views id t.0 }) (sym (eq-eqb n old q)) t.1,
        subst (λ m. T m (t.0, me.1)) (sym q) t.2,
      ))
      (λ (q : n ≢ old). (
        v,
        keeps,
        tt,
        subst (λ b. Ruled k record { words = set s.words i (either b new n); homes = s.homes; views = set s.views id v }) (sym (ne_eqb n old q))
            (unmoved k s id i v r at),
        miss s r at q,
      )) (cases_eq n old)
