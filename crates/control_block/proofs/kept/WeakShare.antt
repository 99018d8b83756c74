-- Weak share: one weak handle more, with its funds, is allowed.
use Rattle.std.proofs.Common.{◌≡◌, ℕ, ◌+◌, ◌%◌, ◌^◌, ◌<◌, true, ◌⊎◌, ◌∷◌, map, get_or, set, Some}
use Rattle.std.proofs.Common.{Option, sym, refl, ap, ◌∙◌, subst, inl, inr, ⊎_elim}
use Rattle.control_block.proofs.Prelude
use Prelude.{Allows, Asks, At, Ends, entry, get_elem?, handle, has_headroom_funded, HasRoomFor, held_busy}
use Prelude.{HoldingInBlock, Idle, Kind, known, leads, MayShareWeakly, none, opening_of, Place}
use Prelude.{place_at, Rests, Ruled, SeatView, sees_as, Shape, some, sound, spot, StandsFunded, step}
use Prelude.{view_of, Weak, weak_number, WeakShare}
use Rattle.atomic_table.specs.Table as Table
use Rattle.control_word.proofs.funded.Counts as law
use Rattle.control_block.specs.StepKinds.{weakly_shared}
use Rattle.control_block.proofs.Endings.{ends_busy, ends_here}
use Rattle.control_block.proofs.Passage.{allows_event, held_there, plain, point, ready}
use Rattle.control_block.proofs.Passage.{still_ending, still_room}
use Rattle.control_block.proofs.kept.Share.{fits_one, wraps}

module _ {V : Type 0} where
  -- what the law asks is so of the whole history
  module _ (k : Shape) (s : Table.State (Option V) (SeatView V)) (r : Ruled k s) (id : ℕ) (v : SeatView V) (at : get_elem? s.views id ≡ some v)
      (awake : v.view.spent ≡ Rattle.std.specs.Prelude.false) (o b : ℕ) (q : Option Place) where
    may_share : MayShareWeakly v o b q
        → (0 < weak_number (leads (opening_of k) r.history) o) × (((leads (opening_of k) r.history).object o).block ≡ b)
        × Asks {V = V} (leads (opening_of k) r.history) v.view.name (WeakShare o q)
    may_share may = ⊎_elim
        (λ (t : (m : Kind) × (p : Option Place) × HoldingInBlock v m o p b × ((q ≡ p) ⊎ (q ≡ place_at b))).
        let z = opening_of k in let mine = held_there k s r id v at awake t.0 o t.1 b t.2 in (
          held_busy z (leads z r.history) v.view.name o t.0 t.1 (sound z r.history r.stands.stands.legal) mine.0,
          mine.1,
          inl (handle t.0 (Some o) t.1, (mine.0, refl, refl), refl, ⊎_elim inl (λ e. inr (e ∙ ap place_at (sym mine.1))) t.3),
        ))
        (λ (t : Ends v o b × (((known v).object o).enabled ≡ true) × (q ≡ place_at b)).
        let z = opening_of k in let h = leads z r.history in let fine = sound z r.history r.stands.stands.legal in
        let e = still_ending k s r id v at awake o b t.0 in
        let ends = e.1.phase ∙ t.0.1 in let there = ap (λ x. (h.object x).phase) e.0 ∙ ends in
        let place = ap (λ x. (h.object x).block) (sym e.0) ∙ ends_here z h b v.view.name fine there in (
          subst (λ x. 0 < weak_number h x) e.0 (ends_busy z h b v.view.name fine there),
          place,
          inr (ends, e.1.enabled ∙ t.1, t.2 ∙ ap place_at (sym place)),
        )) may

  pub allows_weak_share : (k : Shape) (slots id b o i : ℕ) (q : Option Place) (me : At V) → Rests me → MayShareWeakly me.0 o b q
      → HasRoomFor me.0 → i ≡ spot b 1
      → Allows (Ruled k) slots id me i (λ n. (n + 1099511627777) % 2 ^ 64) (weakly_shared o q (step slots i 1099511627777 0 none) me)
  allows_weak_share k slots id b o i q me rests may more e =
      allows_event k slots id i me (λ n. (n + 1099511627777) % 2 ^ 64) (λ n. WeakShare o q) Idle rests.awake rests.empty
      (λ n. (plain (λ s d. refl) (λ s d. refl) (λ s f. refl)))
      (λ s r at small.
      let v = me.0 in let z = opening_of k in let views = map view_of s.views in
      let now = ready k s r id v at rests.awake Idle rests.idle in
      let mine = may_share k s r id v at rests.awake o b q may in
      let h = entry v.view.name (WeakShare o q) ∷ r.history in
      let room = fits_one _ (has_headroom_funded (point k s r id v) Idle now Weak o mine.0).1 in
      subst (λ x. StandsFunded z (set s.words x ((get_or s.words x 0 + 1099511627777) % 2 ^ 64)) (set views id (sees_as v.view Idle h)) h) (ap (λ x. spot x
      1) mine.1 ∙ sym e)
      (subst (λ m. StandsFunded z (set s.words (spot ((leads z r.history).object o).block 1) m) (set views id (sees_as v.view Idle h)) h) (sym (wraps _ room))
      (law.weak_shares_funded (point k s r id v) o q now mine.0 mine.2 (still_room k s r id v at rests.awake more))))
