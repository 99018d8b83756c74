-- What other desks do leaves what a desk has half done.
use Rattle.std.proofs.Common.{◌≡◌, ℕ, ◌<◌, ◌≤◌, ◌≢◌, ◌⊎◌, get_or, nat_lt, ◌==◌, Some, Option, sym}
use Rattle.std.proofs.Common.{refl, ap, ◌∙◌, subst, inl, inr, ⊎_elim, arith, le-ltb, eq-eqb}
use Rattle.step_threads.proofs.Prelude
use Prelude.{Act, AtomicStep, Block, Brought, cases_lt, Clearing, cond-false, Empty, Full}
use Prelude.{ghost_after_step, GhostState, Giving, handle_busy, Has, held, Idle, kept_object, Kind}
use Prelude.{known_words, Locking, Making, Matched, model_state, new_of, Nothing, NumberedHandle}
use Prelude.{object_of_block, opening, owing_for, owing_funds, Pending, pending, PendingCall}
use Prelude.{PendingCallFits, Place, Refill, Rest, Returning, same_atomic_step, Saw, Slot, Slots}
use Prelude.{sound, TableInvariant, used_up, View}
use Rattle.std.proofs.lemmas.List.{get_or_past}
use Rattle.control_word.proofs.history.Allowances.{allowed}
use Rattle.control_word.proofs.history.Kept.{has_same}
use Rattle.control_word.proofs.history.Legal.{held_busy}
use Rattle.control_word.proofs.lists.Tallies.{num_has}
use Rattle.control_word.specs.Handles.{handle}
use Rattle.control_word.specs.State.{Held}
use Rattle.step_table.specs.Openings.{share_of}
use Rattle.step_table.proofs.contained.Others.{brought_others, funds_others, refill_others}
use Rattle.step_threads.proofs.holding.Others.{least_others}
use Rattle.step_table.proofs.holding.Keeping.{enabled_stays, same_pending}

-- a desk that isn't there has nothing half done
there_or_idle : (d : ℕ) (v : GhostState) → TableInvariant v → (d < v.extent.actors) ⊎ (pending v d ≡ Idle)
there_or_idle d v kept = ⊎_elim inl (λ (le : v.extent.actors ≤ d). inr (ap (λ (w : View Nothing). w.pending)
    (get_or_past v.views d used_up (let s = kept.seats.size in omega (arith, s, le))))) (cases_lt d v.extent.actors)

-- a desk that holds something is there: others have no allowance
held_seat : (v : GhostState) (d : ℕ) (h : NumberedHandle) → TableInvariant v → Has (held d h) (model_state v).hands → d < v.extent.actors
held_seat v d h kept has =
    ⊎_elim (λ (lt : d < v.extent.actors). lt)
    (λ (le : v.extent.actors ≤ d).
    let none : ◌≡◌ {A = ℕ} (share_of v.extent d) 0 = cond-false (nat_lt d v.extent.actors) _ 0 (le-ltb d v.extent.actors le) in
    let all = ap (λ (f : ℕ → ℕ). f d) kept.allowed in
    let room = (allowed (opening v.extent) v.history kept.stands.legal).rooms d in
    let one = num_has (λ (y : Held). y.desk == d) (held d h) (model_state v).hands has (eq-eqb d d refl) in
    absurd (omega (arith, none, all, room, one))) (cases_lt d v.extent.actors)

module _ (d e : ℕ) (v : GhostState) (x : AtomicStep) (n : e ≢ d) (kept : TableInvariant v) (kept' : TableInvariant (ghost_after_step v e x)) where
  brought_idle : (a : Slot) → pending v d ≡ Idle → pending v d ≡ owing_for (model_state v) a 256
      → pending (ghost_after_step v e x) d ≡ owing_for (model_state (ghost_after_step v e x)) a 256
  brought_idle (Empty p) none is = same_pending v e d x n ∙ is
  brought_idle (Full y) none is =
      absurd (let k : ◌≡◌ {A = Pending Nothing} Idle (owing_funds (model_state v) y.kind (Some y.block) y.place 256 0) = sym none ∙ is in cc)

  brought_stays : (a : Slot) → pending v d ≡ owing_for (model_state v) a 256
      → pending (ghost_after_step v e x) d ≡ owing_for (model_state (ghost_after_step v e x)) a 256
  brought_stays a is =
      ⊎_elim (λ (lt : d < v.extent.actors). brought_others d e v x n kept kept' a 256 lt is) (λ (none : pending v d ≡ Idle). brought_idle a none is)
      (there_or_idle d v kept)

  funds_stay : (k : Kind) (b : Block) (p : Option Place) (funds : ℕ) → pending v d ≡ owing_funds (model_state v) k (Some b) p funds 0
      → pending (ghost_after_step v e x) d ≡ owing_funds (model_state (ghost_after_step v e x)) k (Some b) p funds 0
  funds_stay k b p funds is =
      ⊎_elim (λ (lt : d < v.extent.actors). funds_others d e v x n kept kept' k (Some b) p funds 0 lt is)
      (λ (none : pending v d ≡ Idle). absurd (let q : ◌≡◌ {A = Pending Nothing} Idle (owing_funds (model_state v) k (Some b) p funds 0) =
      sym none ∙ is in cc))
      (there_or_idle d v kept)

  -- another desk's atomic step leaves a half-done act
  pub pending_call_others : (pending_call : PendingCall) (slots : Slots) (act : Act) → PendingCallFits d pending_call slots act v → PendingCallFits d
      pending_call slots act (ghost_after_step v e x)
  pending_call_others Rest slots act fits = same_pending v e d x n ∙ fits
  pending_call_others (Making b at f) slots act fits =
      let same = same_pending v e d x n in
      record {
        making = record { words = fits.making.words; size = fits.making.size; making = same ∙ fits.making.making };
        within = fits.within;
        least = least_others d (model_state v) (model_state (ghost_after_step v e x)) (same_atomic_step v e d x n) ∙ fits.least;
        done = λ j le. ap (λ (p : Pending Nothing). get_or (known_words p) j 0) same ∙ fits.done j le;
      }
  pending_call_others (Locking word) slots act fits = (same_pending v e d x n ∙ fits.0, fits.1)
  pending_call_others (Giving i kind y) slots act fits =
      let has = has_same (model_state v) (model_state (ghost_after_step v e x)) d _ (same_atomic_step v e d x n) fits.has in
      let busy = handle_busy v d y.kind y.block y.place kept fits.has in
      let busy' = held_busy (opening v.extent) (model_state (ghost_after_step v e x)) d (object_of_block v y.block) y.kind y.place
      (sound (opening v.extent) (ghost_after_step v e x).history kept'.stands.legal) has in
      let o = kept_object v e y.block x kept kept' busy busy' in
      let fine = sound (opening v.extent) v.history kept.stands.legal in
      record {
        idle = same_pending v e d x n ∙ fits.idle;
        has = subst (λ (k : ℕ). Has (held d (handle y.kind (Some k) y.place)) (model_state (ghost_after_step v e x)).hands) (sym o) has;
        enabled =
            ap (λ (k : ℕ). ((model_state (ghost_after_step v e x)).object k).enabled) o
            ∙ enabled_stays v e (object_of_block v y.block) x (fine.latest_made y.block.0)
            ∙ fits.enabled;
      }
  pending_call_others Brought slots act fits = brought_stays (new_of slots act) fits
  pending_call_others (Saw y) slots act fits = (same_pending v e d x n ∙ fits.0, fits.1)
  pending_call_others (Matched y) slots act fits = (brought_stays (new_of slots act) fits.0, fits.1)
  pending_call_others (Refill stage c y k) slots act fits = refill_others d e v x n kept kept' stage c y (held_seat v d _ kept fits.has) fits
  pending_call_others (Returning kind b funds k) slots act fits = (fits.0, funds_stay kind b fits.0 funds fits.1)
  pending_call_others Clearing slots act fits = same_pending v e d x n ∙ fits
