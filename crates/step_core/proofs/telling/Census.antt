-- Where nothing is half done, the counts of a block are exactly the handles on what is in it.
use Rattle.std.proofs.Common.{◌≡◌, ℕ, zero, suc, ◌+◌, ◌-◌, ◌<◌, ◌≤◌, cond, ◌≢◌, List, [], ◌∷◌, map}
use Rattle.std.proofs.Common.{length, get_or, ◌==◌, slice_get, slice_index, Some, None, All}
use Rattle.std.proofs.Common.{Option, sym, refl, ap, ◌∙◌, subst, ⊎_elim, arith, eq-eqb, ne_eqb}
use Rattle.step_core.proofs.Prelude
use Prelude.{All-tail, AllFit, cases_eq, census_of, common, cond-false, cond-true, count, Counts}
use Prelude.{ending, endings_in_block, FrameView, GhostState, gone, Idle, InShape, IsAtEnd}
use Prelude.{IsVacant, length-map, live, model_state, Nothing, nowhere, number_of, Opening}
use Prelude.{opening, OwnersFit, Pending, pending, PendingCall, PendingCallFits, Phase, Rest}
use Prelude.{rests_unkept, same_Some, Sound, sound, spot, State, TableInvariant, task_at, Thread}
use Prelude.{thread_frame, thread_pending, TotalsAreTold, unmade, used_up, View, weak, weak_number}
use Prelude.{world_state, WorldState}
use mathlib.Core.Option.{some, some-injective, some-ne-none}
use lib.ListN.{get_elem?}
use Rattle.control_word.specs.Views.{IsAtRest, NamesBlock}
use Rattle.step_core.specs.Totals.{counts_in}

pub at_view : (l : List (View Nothing)) (i : ℕ) (w : View Nothing) → get_elem? l i ≡ some w → (i < length l) × (get_or l i used_up ≡ w)
at_view [] i w e = absurd (some-ne-none w (sym e))
at_view (x ∷ xs) zero w e = (omega arith, some-injective x w e)
at_view (x ∷ xs) (suc i) w e = let r = at_view xs i w e in (let l = r.0 in omega arith, r.1)

-- nobody has begun anything, and no object is ending
pub record IsStill (v : GhostState) : Type 0 where
  pub idle : (d : ℕ) → d < v.extent.actors → pending v d ≡ Idle
  pub none : (o e : ℕ) → ((model_state v).object o).phase ≡ ending e → ⊥

pub at_rest : (v : GhostState) (b : ℕ) → TableInvariant v → IsStill v → IsAtRest (model_state v) v.views b
at_rest v b kept still = record {
  still = λ o e here p. still.none o e p;
  unnamed = λ i w at names.
      let r = at_view v.views i w at in
      let size = kept.seats.size in
      let lt : i < v.extent.actors = (let l = r.0 in omega (arith, l, size)) in
      let p : w.pending ≡ Idle = ap (λ (z : View Nothing). z.pending) (sym r.1) ∙ still.idle i lt in
      subst (λ (q : Pending Nothing). NamesBlock (model_state v) q b) p names;
}

pub exact : (v : GhostState) (b : ℕ) → TableInvariant v → IsStill v → InShape (opening v.extent) b
    → (number_of (slice_index v.words (spot b 0)) ≡ count (model_state v) ((model_state v).latest b))
    × (number_of (slice_index v.words (spot b 1)) ≡ weak_number (model_state v) ((model_state v).latest b))
exact v b kept still inside = rests_unkept (opening v.extent) v.words v.views v.history kept.stands refl b inside (at_rest v b kept still)

-- a block is vacant just where its latest object has no weak number
vacant_by : (z : Opening) (s : State) (b : ℕ) → Sound z s → weak_number s (s.latest b) ≡ 0 → IsVacant s b
vacant_by z s b fine none o here = go (weak_number s o) refl
  where
    go : (n : ℕ) → weak_number s o ≡ n → weak_number s o ≡ 0
    go zero e = e
    go (suc n) e =
        let p = (fine.placed o (omega arith)).0 in
        let q : s.latest b ≡ o = ap s.latest (sym here) ∙ p in ap (weak_number s) (sym q) ∙ none

vacant_from : (z : Opening) (s : State) (b : ℕ) → Sound z s → IsVacant s b → weak_number s (s.latest b) ≡ 0
vacant_from z s b fine vacant =
    ⊎_elim (λ (e : s.latest b ≡ 0). ap (weak_number s) e ∙ fine.unmade_free 0 fine.none)
    (λ (n : s.latest b ≢ 0). vacant (s.latest b) (fine.latest_in b n)) (cases_eq (s.latest b) 0)

one_live : (p : Phase) (n : ℕ) → OwnersFit p n → ((e : ℕ) → p ≡ ending e → ⊥) → ◌≡◌ {A = ℕ} (cond (n == 0) 0 1) (common p)
one_live unmade n fit still = cond-true (n == 0) 0 1 (eq-eqb n 0 fit)
one_live live n fit still = cond-false (n == 0) 0 1 (ne_eqb n 0 (λ e. omega arith))
one_live gone n fit still = cond-true (n == 0) 0 1 (eq-eqb n 0 fit)
one_live (ending d) n fit still = absurd (still d refl)

abbrev counted : ℕ → ℕ → Option Counts
counted owners weaks = Some (record { owners = owners; weaks = weaks })

-- the numbers that were read say what the state says
pub census_is : (v : GhostState) (b owners number : ℕ) → TableInvariant v → IsStill v → InShape (opening v.extent) b
    → owners ≡ number_of (slice_index v.words (spot b 0)) → number ≡ number_of (slice_index v.words (spot b 1))
    → counts_in owners number ≡ census_of (model_state v) b
census_is v b owners number kept still inside read read' =
    let s = model_state v in
    let o = s.latest b in
    let e = exact v b kept still inside in
    let fine = sound (opening v.extent) v.history kept.stands.legal in
    let p : owners ≡ count s o = read ∙ e.0 in
    let q : number ≡ weak s o + common (s.object o).phase = read' ∙ e.1 in
    let t : ◌≡◌ {A = ℕ} (cond (owners == 0) 0 1) (common (s.object o).phase) = ap (λ (n : ℕ). cond (n == 0) 0 1) p
    ∙ one_live (s.object o).phase (count s o) (fine.owners o) (still.none o) in
    let w : number - cond (owners == 0) 0 1 ≡ weak s o = omega (arith, q, t) in
    ap (λ (n : ℕ). cond (n == 0) None (counted owners (number - cond (owners == 0) 0 1))) q
    ∙ ap (λ (n : ℕ). cond (weak_number s o == 0) None (counted owners n)) w ∙ ap (λ (n : ℕ). cond (weak_number s o == 0) None (counted n
    (weak s o))) p

not_none : (c : Counts) → ◌≡◌ {A = Option Counts} (Some c) None → ⊥
not_none c e = cc

-- none is told just where the block is vacant
pub none_vacant : (v : GhostState) (b : ℕ) → TableInvariant v → (census_of (model_state v) b ≡ None → IsVacant (model_state v) b)
    × (IsVacant (model_state v) b → census_of
    (model_state v) b ≡ None)
none_vacant v b kept =
    let s = model_state v in
    let n = weak_number s (s.latest b) in
    let fine = sound (opening v.extent) v.history kept.stands.legal in (
      λ e. ⊎_elim (λ (z : n ≡ 0). vacant_by (opening v.extent) s b fine z)
          (λ (z : n ≢ 0). absurd (not_none _ (sym (cond-false (n == 0) None (counted (count s (s.latest b)) (weak s (s.latest b)))
          (ne_eqb n 0 z)) ∙ e)))
          (cases_eq n 0),
      λ a. cond-true (n == 0) None (counted (count s (s.latest b)) (weak s (s.latest b))) (eq-eqb n 0 (vacant_from (opening v.extent) s b fine a)),
    )

pub at_thread : (threads : List Thread) (d : ℕ) → d < length threads → (t : Thread) × (slice_get threads d ≡ Some t)
at_thread [] d lt = absurd (omega arith)
at_thread (t ∷ ts) zero lt = (t, refl)
at_thread (t ∷ ts) (suc d) lt = at_thread ts d (omega arith)

pub pending_call_at : (threads : List Thread) (d : ℕ) (t : Thread) → slice_get threads d ≡ Some t → get_or (map thread_pending threads) d Rest ≡ t.pending_call
pending_call_at [] d t e = cc
pending_call_at (x ∷ xs) zero t e = ap thread_pending (same_Some x t e)
pending_call_at (x ∷ xs) (suc d) t e = pending_call_at xs d t e

all_rest : (hs : List PendingCall) (j : ℕ) → All (λ (h : PendingCall). h ≡ Rest) hs → get_or hs j Rest ≡ Rest
all_rest [] j all = refl
all_rest (h ∷ hs) zero all = all 0 Rest (omega arith)
all_rest (h ∷ hs) (suc j) all = all_rest hs j (All-tail (λ (x : PendingCall). x ≡ Rest) h hs all)

all_over : (ws : List FrameView) (j : ℕ) → All (λ (w : FrameView). w.endings ≡ []) ws → (get_or ws j nowhere).endings ≡ []
all_over [] j all = refl
all_over (w ∷ ws) zero all = all 0 nowhere (omega arith)
all_over (w ∷ ws) (suc j) all = all_over ws j (All-tail (λ (x : FrameView). x.endings ≡ []) w ws all)

idle_end : (v : GhostState) (threads : List Thread) → AllFit v threads → All (λ (h : PendingCall). h ≡ Rest) (map thread_pending threads) → (d : ℕ)
    → d < length threads → pending v d ≡ Idle
idle_end v threads fit all d lt =
    let t = at_thread threads d lt in
    let h : t.0.pending_call ≡ Rest = sym (pending_call_at threads d t.0 t.1) ∙ all_rest (map thread_pending threads) d all in
    subst (λ (x : PendingCall). PendingCallFits d x t.0.frame.registers.slots.items (task_at t.0.frame).act v) h (fit.each d t.0 t.1).pending_call

-- a world whose threads are at their end
still_end : (v : GhostState) (threads : List Thread) (m e : ℕ) → AllFit v threads → TotalsAreTold (world_state v threads) m e
    → IsAtEnd (world_state v threads) → IsStill v
still_end v threads m e fit told end =
    let l = length-map threads thread_frame in
    let n = told.threads in
    record {
      idle = λ d lt. idle_end v threads fit end.pending_calls d (omega (arith, l, n, lt));
      none = λ o i p.
          let none = ap (endings_in_block ((model_state v).object o).block) (all_over (map thread_frame threads) i end.endings) in
          let some = told.endings o i p in
          absurd (omega (arith, none, some));
    }

pub still_now : (u : WorldState) (v : GhostState) (threads : List Thread) (m e : ℕ) → world_state v threads ≡ u → AllFit v threads
    → TotalsAreTold (world_state v threads) m e
    → IsAtEnd u → IsStill u.ghost_state
still_now u v threads m e is fit told = subst (λ (x : WorldState). IsAtEnd x → IsStill x.ghost_state) is (still_end v threads m e fit told)

pub census_now : (u : WorldState) (v : GhostState) (threads : List Thread) (m e b x y : ℕ) (r : Option Counts) → world_state v threads ≡ u → AllFit v threads
    → TotalsAreTold (world_state v threads) m e → TableInvariant v → IsAtEnd u → 0 < b → b ≤ u.ghost_state.extent.shape.blocks → x
    ≡ slice_index v.words (spot b 0)
    → y ≡ slice_index v.words (spot b 1) → r ≡ counts_in (number_of x) (number_of y) → r ≡ census_of (model_state u.ghost_state) b
census_now u v threads m e b x y r is fit told kept end from within read read' answer =
    answer
    ∙ census_is u.ghost_state b (number_of x) (number_of y) (subst (λ (z : WorldState). TableInvariant z.ghost_state) is kept)
    (still_now u v threads m e is fit told end) (from, within)
    (ap number_of read ∙ ap (λ (z : WorldState). number_of (slice_index z.ghost_state.words (spot b 0))) is)
    (ap number_of read' ∙ ap (λ (z : WorldState). number_of (slice_index z.ghost_state.words (spot b 1))) is)
