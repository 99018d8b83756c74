-- A thread that refills a cell fits the table.
use Rattle.std.proofs.Common.{◌≡◌, ℕ, ◌≤◌, Bool, true, false, cond, Some, None, Option, sym, refl, ap, ◌∙◌, subst, eqb-true}
use Rattle.step_threads.proofs.Prelude
use Prelude.{and_parts, Block, Bring, CellWord, Checking, Failing, FitsThread, ghost_after_step, GhostState}
use Prelude.{GiveBack, is_low, kind_in_state, Lacking, model_state, OnCell, PendingCall, Refill}
use Prelude.{Refilling, Rest, Site, Stage, TableInvariant, Thread, Turn, Turning}
use Rattle.step_table.specs.declared.cell_steps.cell_step.CellStep.TheVariants.{Refill as Refills}
use Rattle.control_word.proofs.lists.Tallies.{same_place_true}
use Rattle.control_word.specs.Handles.{same_place}
use Rattle.control_word.specs.Limits.{cell_funds}
use Rattle.control_word.specs.Packing.{IsCellWord}
use Rattle.control_word.specs.State.{Has, held}
use Rattle.control_word.specs.declared.place.Place.{Place}
use Rattle.step_table.specs.Contents.{same_block, same_value}
use Rattle.step_table.specs.GhostStates.{handle_in_block}
use Rattle.step_table.specs.Refills.{is_drained, RefillFits}
use Rattle.step_threads.proofs.LookFits.{fits_pending_call, fits_quiet}
use Rattle.step_threads.proofs.StoreFits.{pending_call_here}
use Rattle.step_threads.proofs.Threads.{own_pending}
use Rattle.step_table.proofs.contained.Refilling.{brings_funds, gives_back, misses_cell}
use Rattle.step_table.proofs.contained.Refilling.{turns_fund}

pub refill_here : (d : ℕ) (t : Thread) (v : GhostState) (stage : Stage) (c : Site) (x : CellWord) (k : ℕ) → FitsThread d t v → t.pending_call ≡ Refill stage c x
    k
    → RefillFits d stage c x v
refill_here d t v stage c x k fits e = pending_call_here d t v (Refill stage c x k) fits e

-- an object's block is the one that has its number
same_owner : (b d : Option Block) → same_block b d ≡ true → b ≡ d
same_owner None None e = refl
same_owner None (Some y) e = absurd cc
same_owner (Some x) None e = absurd cc
same_owner (Some x) (Some y) e = ap (λ (n : ℕ). Some (record { 0 = n })) (eqb-true x.0 y.0 e)

-- the thread at the same act, with this half done
abbrev pub At : Thread → PendingCall → Thread
At t h = record { frame = t.frame; stock = t.stock; pending_call = h }

pub fits_as : (d : ℕ) (t : Thread) (h h' : PendingCall) (w w' : GhostState) → h' ≡ h → w' ≡ w → FitsThread d (At t h) w → FitsThread d (At t h') w'
fits_as d t h h' w w' e is fits = subst (λ (q : PendingCall). FitsThread d (At t q) w') (sym e)
    (subst (λ (u : GhostState). FitsThread d (At t h) u) (sym is) fits)

module _ (d : ℕ) (t : Thread) (v : GhostState) (c : Site) (x : CellWord) (k : ℕ) (fits : FitsThread d t v) where
  -- the fund is turned
  pub fits_turned : (b : Block) → TableInvariant v → t.pending_call ≡ Refill Turning c x k
      → FitsThread d (At t (cond (is_low x) (Refill Checking c x k) Rest)) (ghost_after_step v d (OnCell (Turn (kind_in_state (model_state v) c) b)))
  fits_turned b kept e = go (is_low x)
    where
      go : (low : Bool) → FitsThread d (At t (cond low (Refill Checking c x k) Rest))
          (ghost_after_step v d (OnCell (Turn (kind_in_state (model_state v) c) b)))
      go true =
          fits_quiet d t v (Refill Turning c x k) (Refill Checking c x k) fits e (λ q. refl) (λ q. refl)
          (OnCell (Turn (kind_in_state (model_state v) c) b)) refl
          (turns_fund d v kept fits.seat c x b (refill_here d t v Turning c x k fits e)) tt
      go false =
          fits_quiet d t v (Refill Turning c x k) Rest fits e (λ q. refl) (λ q. refl) (OnCell (Turn (kind_in_state (model_state v) c) b)) refl
          (own_pending v d (OnCell (Turn (kind_in_state (model_state v) c) b)) kept fits.seat) tt

  -- the cell shows the same value, of which many funds were taken, or not
  pub fits_checked : (y : CellWord) → IsCellWord y → y.taken ≤ cell_funds → t.pending_call ≡ Refill Checking c x k
      → FitsThread d (At t (cond (is_drained x y) (Refill Lacking c y k) Rest)) v
  fits_checked y valid few e = go (is_drained x y) refl
    where
      r : RefillFits d Checking c x v
      r = refill_here d t v Checking c x k fits e

      lacks : is_drained x y ≡ true → RefillFits d Lacking c y v
      lacks is =
          let same = and_parts (same_block x.owned y.owned) (same_place x.place y.place) (and_parts (same_value x y) (is_low y) is).0 in
          record {
            valid = valid;
            few = few;
            block = r.block;
            owned = sym (same_owner x.owned y.owned same.0) ∙ r.owned;
            opens = r.opens;
            has = subst (λ (p : Option Place). Has (held d (handle_in_block v (kind_in_state (model_state v) c) r.block p)) (model_state v).hands)
                (same_place_true x.place y.place same.1) r.has;
            pays = r.pays;
          }

      go : (b : Bool) → is_drained x y ≡ b → FitsThread d (At t (cond b (Refill Lacking c y k) Rest)) v
      go true is = fits_pending_call d t v (Refill Checking c x k) (Refill Lacking c y k) fits e (λ q. refl) (λ q. refl) (lacks is) tt
      go false is = fits_pending_call d t v (Refill Checking c x k) Rest fits e (λ q. refl) (λ q. refl) r.pays tt

  -- funds are brought
  pub fits_refunded : (b : Block) → TableInvariant v → t.pending_call ≡ Refill Lacking c x k → x.owned ≡ Some b
      → FitsThread d (At t (Refill Refilling c x k)) (ghost_after_step v d (OnCell (Bring (kind_in_state (model_state v) c) b x.place x.taken)))
  fits_refunded b kept e owned =
      fits_quiet d t v (Refill Lacking c x k) (Refill Refilling c x k) fits e (λ q. refl) (λ q. refl)
      (OnCell (Bring (kind_in_state (model_state v) c) b x.place x.taken)) refl
      (brings_funds d v kept fits.seat c x b (refill_here d t v Lacking c x k fits e) owned) tt

  -- they go into the cell
  pub fits_refilled : TableInvariant v → t.pending_call ≡ Refill Refilling c x k → FitsThread d (At t Rest) (ghost_after_step v d (OnCell (Refills c x.taken)))
  fits_refilled kept e =
      fits_quiet d t v (Refill Refilling c x k) Rest fits e (λ q. refl) (λ q. refl) (OnCell (Refills c x.taken)) refl
      (own_pending v d (OnCell (Refills c x.taken)) kept fits.seat) tt

  pub fits_missed : t.pending_call ≡ Refill Refilling c x k → FitsThread d (At t (Refill Failing c x k)) v
  fits_missed e =
      fits_pending_call d t v (Refill Refilling c x k) (Refill Failing c x k) fits e (λ q. refl) (λ q. refl)
      (misses_cell d v c x (refill_here d t v Refilling c x k fits e)) tt

  -- they are given back
  pub fits_failed : (b : Block) → TableInvariant v → t.pending_call ≡ Refill Failing c x k
      → FitsThread d (At t (Refill Checking c x k)) (ghost_after_step v d (OnCell (GiveBack (kind_in_state (model_state v) c) b x.taken)))
  fits_failed b kept e =
      fits_quiet d t v (Refill Failing c x k) (Refill Checking c x k) fits e (λ q. refl) (λ q. refl)
      (OnCell (GiveBack (kind_in_state (model_state v) c) b x.taken)) refl
      (gives_back d v kept fits.seat c x b (refill_here d t v Failing c x k fits e)) tt
