-- How many steps a load and a compare have left, step by step.
use Rattle.std.proofs.Common.{◌≡◌, ℕ, ◌+◌, ◌<◌, ◌≤◌, Bool, true, false, cond, not, ◌&&◌, List, []}
use Rattle.std.proofs.Common.{◌∷◌, is_some, ◌==◌, Some, None, Option, sym, refl, ap, ◌∙◌, arith}
use Rattle.std.proofs.Common.{eq-eqb}
use Rattle.step_core.proofs.Prelude
use Prelude.{Act, alone, Block, cell_bits, CellWord, Checking, Compared, cond_both, Failing}
use Prelude.{false≢true, fetches, frame_steps, FrameView, ghost_after, GhostState, gives_back}
use Prelude.{hand, Handle, is_drained, is_low, is_prepared, is_spent, IsOpenTo, Kind}
use Prelude.{kind_in_state, Lacking, Matched, matches, missed, model_state, more_taken, on}
use Prelude.{PendingCall, Refill, Refilling, refills_on, Rest, same_value, Saw, seen, seen_found}
use Prelude.{settles, shows_next, shows_on, Site, slot_pointer, spare, Stage, Step, step_of_act}
use Prelude.{step_of_compare, step_of_look, TableInvariant, takes, Task, Turning, weight, went}
use Prelude.{within, word_of_cell}
use Rattle.step_table.specs.declared.cell_steps.cell_step.CellStep.TheVariants as cell_step
use Rattle.step_table.specs.declared.memory.ghost_history.AtomicStep.TheVariants as atomic_step
use Rattle.step_threads.specs.NextSteps.{stepped as stepped_by}
use Rattle.step_core.specs.Bounds.{refill_steps}
use Rattle.step_core.proofs.runs.Alone.{IsLess, Lessens, alone_matched, alone_saw, none_made}
use Rattle.step_core.proofs.runs.Alone.{plain_less}
use Rattle.step_core.proofs.telling.Leaves.{leaves_by}
use Rattle.step_core.proofs.telling.Walking.{went_still}

-- what a cell shows is what was seen of it
pub shows_seen : (v : GhostState) (d : ℕ) (c : Site) → TableInvariant v → d < v.extent.actors → IsOpenTo v d c → (word_of_cell v c == cell_bits (seen v c))
    ≡ true
shows_seen v d c kept seat way = eq-eqb _ _ (seen_found v d c kept seat way).shows.bits

alone_missed : (v : GhostState) (w : FrameView) (k : ℕ) (o : Option Handle) → (alone v w (missed k o) ≤ 16) × (spare (missed k o) ≤ 15)
alone_missed v w k None = (omega arith, omega arith)
alone_missed v w k (Some x) = (omega arith, omega arith)

pub alone_back : (v : GhostState) (w : FrameView) (q : Kind) (k : ℕ) (x : CellWord) (o : Option Block) → (alone v w (gives_back q k x o) ≤ 16)
    × (spare (gives_back q k x o) ≤ 15)
alone_back v w q k x None = (omega arith, omega arith)
alone_back v w q k x (Some b) = (omega arith, omega arith)

module _ (v : GhostState) (d k : ℕ) (w : FrameView) (t : Task) (ts : List Task) (a : Act) (none : w.endings ≡ []) (is : w.todo ≡ t ∷ ts) (same : t.act ≡ a)
    (heavy : weight a ≡ 7) (stays : leaves_by w.slots a ≡ None) where
  -- the act has the steps of its fund, and of those that are put back
  went_cell : frame_steps (went (model_state v) d w k ts a) + 7 ≤ frame_steps w
  went_cell =
      let l = went_still (model_state v) d k w t ts a none is stays in
      let j : weight t.act ≡ 7 = ap weight same ∙ heavy in
      omega (arith, l, j)

  shown : (x : CellWord) (c : Site) → shows_on v w.slots x a ≡ (word_of_cell v c == cell_bits x)
      → shows_next v w.slots x w.todo ≡ (word_of_cell v c == cell_bits x)
  shown x c e = ap (shows_next v w.slots x) is ∙ ap (shows_on v w.slots x) same ∙ e

  -- a cell is looked at, and what it shows is tried next
  tries_next : (c : Site) (x : CellWord) → shows_on v w.slots x a ≡ (word_of_cell v c == cell_bits x) → (word_of_cell v c == cell_bits x) ≡ true
      → IsLess v d Rest w (Some (within w k None (Saw x)))
  tries_next c x on_act shows =
      let s = alone_saw v w x true (shown x c on_act ∙ shows) in record { own = omega (arith, s); most = omega arith }

  pub sees_less : (c : Site) (y : Option Compared) (x : CellWord) → is_spent x ≡ false → shows_on v w.slots x a ≡ (word_of_cell v c == cell_bits x)
      → (word_of_cell v c == cell_bits x) ≡ true → IsLess v d Rest w (Some (step_of_look v d w k ts a c y x))
  sees_less c y x left on_act shows =
      cond_both (is_spent x) (within w k None Rest)
      (cond (is_some x.owned) (within w k None (Saw x)) (step_of_act v d w k ts a (Some (atomic_step.OnCell (cell_step.Look c x y))) Rest))
      (λ (s : Step). IsLess v d Rest w (Some s)) (λ spent. absurd (false≢true (sym left ∙ spent)))
      (λ f. cond_both (is_some x.owned) (within w k None (Saw x)) (step_of_act v d w k ts a (Some (atomic_step.OnCell (cell_step.Look c x y))) Rest)
      (λ (s : Step). IsLess v d Rest w (Some s)) (λ e. tries_next c x on_act shows)
      (λ e. plain_less v d k Rest w t ts a (Some (atomic_step.OnCell (cell_step.Look c x y))) refl stays none is (omega arith) (omega arith)))

  pub compares_less : (c : Site) (y : Compared) (x : CellWord) → (not (same_value x y.expected) && is_spent x) ≡ false
      → shows_on v w.slots x a ≡ (word_of_cell v c == cell_bits x) → (word_of_cell v c == cell_bits x) ≡ true
      → IsLess v d Rest w (Some (step_of_compare v d w k ts a c y x))
  compares_less c y x left on_act shows =
      cond_both (same_value x y.expected) (within w k None (Saw x)) (step_of_look v d w k ts a c (Some y) x)
      (λ (s : Step). IsLess v d Rest w (Some s)) (λ e. tries_next c x on_act shows)
      (λ e. sees_less c (Some y) x (ap (λ (b : Bool). not b && is_spent x) (sym e) ∙ left) on_act shows)

  -- a fund is taken, where the cell shows the same still
  pub takes_less : (c : Site) (y : Option Compared) (x : CellWord) → shows_on v w.slots x a ≡ (word_of_cell v c == cell_bits x)
      → IsLess v d (Saw x) w (Some (takes v d w k ts a c y x))
  takes_less c y x on_act =
      let done = step_of_act v d w k ts a (Some (atomic_step.OnCell (cell_step.Take c x y))) (Refill Turning c (more_taken x) k) in
      cond_both (word_of_cell v c == cell_bits x) done (within w k None Rest) (λ (s : Step). IsLess v d (Saw x) w (Some s))
      (λ e.
      let s = alone_saw v w x true (shown x c on_act ∙ e) in
      let l = went_cell in
      let m = none_made (Saw x) (stepped_by v (Some done)) refl in
      record { own = omega (arith, s, l, m); most = omega (arith, l, m) })
      (λ e. let s = alone_saw v w x false (shown x c on_act ∙ e) in record { own = omega (arith, s); most = omega arith })

  -- the cell is swapped, where it shows the same still
  matches_less : (h : PendingCall) (c : Site) (y : Compared) (x : CellWord) → is_prepared h ≡ false → spare h ≡ 15
      → ((word_of_cell v c == cell_bits x) ≡ true → 10 ≤ alone v w h) → ((word_of_cell v c == cell_bits x) ≡ false → 17 ≤ alone v w h)
      → IsLess v d h w (Some (matches v d w k ts a c y x))
  matches_less h c y x unmade keeps hits misses =
      let done = step_of_act v d w k ts a (Some (atomic_step.OnCell (cell_step.CompareSwap c x y))) (gives_back (kind_in_state (model_state v) c) k x x.owned)
      in
      let out = slot_pointer w.slots (hand w.slots) in
      cond_both (word_of_cell v c == cell_bits x) done (within w k None (missed k out)) (λ (s : Step). IsLess v d h w (Some s))
      (λ e.
      let r = alone_back (ghost_after v d done.atomic_step) done.frame_view (kind_in_state (model_state v) c) k x x.owned in
      let l = went_cell in
      let m = none_made h (stepped_by v (Some done)) unmade in
      let low = hits e in
      let b = r.0 in
      let f = r.1 in
      record { own = omega (arith, b, l, m, low); most = omega (arith, f, l, m, keeps) })
      (λ e.
      let r = alone_missed v w k out in
      let b = r.0 in
      let f = r.1 in
      let high = misses e in
      record { own = omega (arith, b, high); most = omega (arith, f, keeps) })

  -- what is to go in has its funds brought first, and what the cell showed is shown still
  fetches_less : (c : Site) (y : Compared) (x : CellWord) → shows_on v w.slots x a ≡ (word_of_cell v c == cell_bits x)
      → ((p : Handle) → slot_pointer w.slots (hand w.slots) ≡ Some p
      → shows_next (ghost_after v d (fetches w k x p).atomic_step) w.slots x w.todo ≡ shows_next v w.slots x w.todo)
      → (o : Option Handle) → slot_pointer w.slots (hand w.slots) ≡ o → IsLess v d (Saw x) w (Some (on (fetches w k x) (matches v d w k ts a c y x) o))
  fetches_less c y x on_act keeps None e =
      matches_less (Saw x) c y x refl refl
      (λ s. let z = alone_saw v w x true (shown x c on_act ∙ s) in omega (arith, z))
      (λ s. let z = alone_saw v w x false (shown x c on_act ∙ s) in omega (arith, z))
  fetches_less c y x on_act keeps (Some p) e = go (shows_next v w.slots x w.todo) refl
    where
      next : GhostState
      next = ghost_after v d (fetches w k x p).atomic_step

      go : (b : Bool) → shows_next v w.slots x w.todo ≡ b → IsLess v d (Saw x) w (Some (fetches w k x p))
      go true shows =
          let a = alone_saw v w x true shows in let b = alone_matched next w x true (keeps p e ∙ shows) in
          record { own = omega (arith, a, b); most = omega arith }
      go false other =
          let a = alone_saw v w x false other in let b = alone_matched next w x false (keeps p e ∙ other) in
          record { own = omega (arith, a, b); most = omega arith }

  pub settles_less : (c : Site) (y : Compared) (x : CellWord) → shows_on v w.slots x a ≡ (word_of_cell v c == cell_bits x)
      → ((p : Handle) → slot_pointer w.slots (hand w.slots) ≡ Some p
      → shows_next (ghost_after v d (fetches w k x p).atomic_step) w.slots x w.todo ≡ shows_next v w.slots x w.todo)
      → IsLess v d (Saw x) w (Some (settles v d w k ts a c y x))
  settles_less c y x on_act keeps =
      cond_both (same_value x y.expected) (on (fetches w k x) (matches v d w k ts a c y x) (slot_pointer w.slots (hand w.slots)))
      (takes v d w k ts a c (Some y) x) (λ (s : Step). IsLess v d (Saw x) w (Some s))
      (λ e. fetches_less c y x on_act keeps (slot_pointer w.slots (hand w.slots)) refl) (λ e. takes_less c (Some y) x on_act)

  pub matched_less : (c : Site) (y : Compared) (x : CellWord) → shows_on v w.slots x a ≡ (word_of_cell v c == cell_bits x)
      → IsLess v d (Matched x) w (Some (matches v d w k ts a c y x))
  matched_less c y x on_act =
      matches_less (Matched x) c y x refl refl
      (λ s. let z = alone_matched v w x true (shown x c on_act ∙ s) in omega (arith, z))
      (λ s. let z = alone_matched v w x false (shown x c on_act ∙ s) in omega (arith, z))

-- a refill goes on
module _ (v : GhostState) (d : ℕ) (w : FrameView) (c : Site) (x : CellWord) (k : ℕ) (b : Block) where
  pub refills_less : (s : Stage)
      → (word_of_cell v c == cell_bits (seen v c)) ≡ true
      → (word_of_cell (ghost_after v d (refills_on v w Lacking c x k b).atomic_step) c ≡ word_of_cell v c)
      → IsLess v d (Refill s c x k) w (Some (refills_on v w s c x k b))
  refills_less Turning shows keeps =
      let done = Some (atomic_step.OnCell (cell_step.Turn (kind_in_state (model_state v) c) b)) in
      cond_both (is_low x) (Refill Checking c x k) Rest
      (λ (g : PendingCall). Lessens v (ghost_after v d done) (Refill Turning c x k) g w w 0 0) (λ e. record { own = omega arith; most = omega arith })
      (λ e. record { own = omega arith; most = omega arith })
  refills_less Checking shows keeps =
      let y = seen v c in
      cond_both (is_drained x y) (Refill Lacking c y k) Rest (λ (g : PendingCall). Lessens v v (Refill Checking c x k) g w w 0 0)
      (λ e.
      let r : refill_steps (word_of_cell v c == cell_bits y) Lacking ≡ 17 = ap (λ (q : Bool). refill_steps q Lacking) shows in
      record { own = omega (arith, r); most = omega arith })
      (λ e. record { own = omega arith; most = omega arith })
  refills_less Lacking shows keeps =
      let next = ghost_after v d (refills_on v w Lacking c x k b).atomic_step in
      let r : refill_steps (word_of_cell next c == cell_bits x) Refilling ≡ refill_steps (word_of_cell v c == cell_bits x) Refilling =
      ap (λ (n : ℕ). refill_steps (n == cell_bits x) Refilling) keeps in
      let l = one_less (word_of_cell v c == cell_bits x) in record { own = omega (arith, r, l); most = omega arith }
    where
      one_less : (q : Bool) → refill_steps q Refilling < refill_steps q Lacking
      one_less true = omega arith
      one_less false = omega arith
  refills_less Refilling shows keeps =
      let hit = within w k (Some (atomic_step.OnCell (cell_step.Refill c x.taken))) Rest in
      cond_both (word_of_cell v c == cell_bits x) hit (within w k None (Refill Failing c x k))
      (λ (y : Step). IsLess v d (Refill Refilling c x k) w (Some y))
      (λ e.
      let r : refill_steps (word_of_cell v c == cell_bits x) Refilling ≡ 16 = ap (λ (q : Bool). refill_steps q Refilling) e in
      record { own = omega (arith, r); most = omega arith })
      (λ e.
      let r : refill_steps (word_of_cell v c == cell_bits x) Refilling ≡ 20 = ap (λ (q : Bool). refill_steps q Refilling) e in
      record { own = omega (arith, r); most = omega arith })
  refills_less Failing shows keeps = record { own = omega arith; most = omega arith }
