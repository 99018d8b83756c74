-- How many steps a thread has left that has looked at a cell, or took a fund of it.
use Rattle.std.proofs.Common.{◌≡◌, ℕ, ◌<◌, Bool, true, false, not, ◌&&◌, List, [], ◌∷◌, ◌==◌, Some}
use Rattle.std.proofs.Common.{None, Option, option_map, sym, refl, ap, ◌∙◌, subst, arith}
use Rattle.step_core.proofs.Prelude
use Prelude.{Act, Alias, Ask, Block, cell_bits, cell_of_name, cell_open, CellName, CellWord, Clear}
use Prelude.{Compare, compared_in, comparing, cond_both, Count, Downgrade, Drop, Exchange, Expired}
use Prelude.{false≢true, fetches, first, FrameView, FromThis, ghost_after, GhostState, hand}
use Prelude.{Handle, HasCell, Holds, HoldsBag, idle, is_of, is_spent, is_there, IsIn, IsInShape}
use Prelude.{IsMatched, IsMatchedBy, IsOpenTo, IsSeen, IsSeenBy, IsStill, Kind, kind_at}
use Prelude.{kind_in_state, Leave, Load, Lock, Make, Matched, matched, matched_on, model_state}
use Prelude.{Move, Offer, OnShelf, Place, Put, Read, Refill, RefillFits, refills_on, Rest, Saw}
use Prelude.{saw, saw_on, seen, Share, shows_next, shows_on, Site, slot_pointer, slot_value, Stage}
use Prelude.{Step, step_of_act, step_of_look, Swap, TableInvariant, Task, waits_on, word_of_cell}
use Rattle.step_table.specs.declared.cell_steps.cell_step.CellStep.TheVariants as cell_step
use Rattle.step_table.specs.declared.memory.ghost_history.AtomicStep.TheVariants as atomic_step
use Rattle.step_table.proofs.tables.Shown.{kept_cell, somewhere}
use Rattle.step_core.proofs.runs.Alone.{IsLess, plain_less}
use Rattle.step_core.proofs.runs.Trying.{compares_less, matched_less, refills_less, sees_less}
use Rattle.step_core.proofs.runs.Trying.{settles_less, shows_seen, takes_less}
use Rattle.step_core.proofs.watching.Blocks.{IsThere, bring_off, slot_there}
use Rattle.step_core.proofs.watching.Cells.{block_there}

-- funds that are brought leave the cell's word
brought_cell : (v : GhostState) (d : ℕ) (k : Kind) (b : Block) (p : Option Place) (f : ℕ) (c : Site) → TableInvariant v → IsOpenTo v d c → IsThere v b
    → word_of_cell (ghost_after v d (Some (atomic_step.OnCell (cell_step.Bring k b p f)))) c ≡ word_of_cell v c
brought_cell v d k b p f c kept way is = bring_off v d k b p f is c (somewhere v c kept (kept_cell v d c kept way))

-- a cell that is there has a fund left, where nobody waits
unspent : (there spent : Bool) → there ≡ true → (there && spent) ≡ false → spent ≡ false
unspent true spent is calm = calm
unspent false spent is calm = absurd (false≢true is)

-- a compare that isn't idle has its cell
compared_there : (taken there fits same : Bool) → not (taken && there && fits && same) ≡ false → there ≡ true
compared_there true true fits same e = refl
compared_there true false fits same e = absurd (false≢true (sym e))
compared_there false there fits same e = absurd (false≢true (sym e))

module _ (v : GhostState) (d : ℕ) (w : FrameView) (kept : TableInvariant v) (seat : d < v.extent.actors) (holds : HoldsBag d w.slots v) where
  -- the next act looks at its cell
  pub load_less : (k : ℕ) (t : Task) (ts : List Task) (c : CellName) → w.endings ≡ [] → w.todo ≡ t ∷ ts → t.act ≡ Load c
      → IsIn v.extent.shape c → waits_on v w (Load c) ≡ false → IsLess v d Rest w (Some (first v d w k ts (Load c)))
  load_less k t ts c none is same has left =
      let x = cell_of_name (model_state v) w.slots c in
      cond_both (is_there w.slots c) (step_of_look v d w k ts (Load c) x None (seen v x)) (step_of_act v d w k ts (Load c) None Rest)
      (λ (s : Step). IsLess v d Rest w (Some s))
      (λ there. sees_less v d k w t ts (Load c) none is same refl refl x None (seen v x) (unspent (is_there w.slots c) (is_spent (seen v x)) there left) refl
      (shows_seen v d x kept seat (cell_open v d w.slots c has holds there)))
      (λ away. plain_less v d k Rest w t ts (Load c) None refl refl none is (omega arith) (omega arith))

  -- the cell of a compare that comes is there
  there_still : (i : ℕ) (c : CellName) (weak : Bool) → idle (Compare i c weak) w.slots w.taken ≡ false → is_there w.slots c ≡ true
  there_still i c weak still =
      compared_there w.taken (is_there w.slots c) (is_of (kind_at c) (slot_value w.slots (hand w.slots))) (is_of (kind_at c) (slot_value w.slots i)) still

  pub compare_less : (k : ℕ) (t : Task) (ts : List Task) (i : ℕ) (c : CellName) (weak : Bool) → w.endings ≡ [] → w.todo ≡ t ∷ ts
      → t.act ≡ Compare i c weak → IsIn v.extent.shape c → idle (Compare i c weak) w.slots w.taken ≡ false
      → waits_on v w (Compare i c weak) ≡ false
      → IsLess v d Rest w (Some (first v d w k ts (Compare i c weak)))
  compare_less k t ts i c weak none is same has still left =
      let x = cell_of_name (model_state v) w.slots c in
      compares_less v d k w t ts (Compare i c weak) none is same refl refl x (compared_in w.slots (comparing w.slots i weak)) (seen v x) left refl
      (shows_seen v d x kept seat (cell_open v d w.slots c has holds (there_still i c weak still)))

  -- what the cell showed is shown still, once funds are brought
  shows_still : (k : ℕ) (t : Task) (ts : List Task) (i : ℕ) (c : CellName) (weak : Bool) (x : CellWord) → w.todo ≡ t ∷ ts
      → t.act ≡ Compare i c weak
      → IsIn v.extent.shape c → is_there w.slots c ≡ true → (p : Handle) → slot_pointer w.slots (hand w.slots) ≡ Some p
      → shows_next (ghost_after v d (fetches w k x p).atomic_step) w.slots x w.todo ≡ shows_next v w.slots x w.todo
  shows_still k t ts i c weak x is same has there p e =
      let next = ghost_after v d (fetches w k x p).atomic_step in
      let b = brought_cell v d p.kind p.block p.place 256 (cell_of_name (model_state v) w.slots c) kept (cell_open v d w.slots c has holds there)
      (slot_there v d w.slots kept holds (hand w.slots) p e) in
      ap (shows_next next w.slots x) is ∙ ap (shows_on next w.slots x) same ∙ ap (λ (n : ℕ). n == cell_bits x) b
      ∙ sym (ap (shows_on v w.slots x) same) ∙ sym (ap (shows_next v w.slots x) is)

  -- a cell that was looked at is tried
  saw_less : (t : Task) (ts : List Task) (x : CellWord) (a : Act) → w.endings ≡ [] → w.todo ≡ t ∷ ts → t.act ≡ a → HasCell v.extent.shape a
      → idle a w.slots w.taken ≡ false → IsSeen w.slots x (t ∷ ts) → IsLess v d (Saw x) w (saw_on v d w t.statement ts x a)
  saw_less t ts x (Load c) none is same has still held =
      takes_less v d t.statement w t ts (Load c) none is same refl refl (cell_of_name (model_state v) w.slots c) None x refl
  saw_less t ts x (Compare i c weak) none is same has still held =
      settles_less v d t.statement w t ts (Compare i c weak) none is same refl refl (cell_of_name (model_state v) w.slots c)
      (compared_in w.slots (comparing w.slots i weak)) x refl (shows_still t.statement t ts i c weak x is same has (there_still i c weak still))
  saw_less t ts x (Make form) none is same has still held = absurd (subst (λ (b : Act). IsSeenBy w.slots x b) same held)
  saw_less t ts x (Share i) none is same has still held = absurd (subst (λ (b : Act). IsSeenBy w.slots x b) same held)
  saw_less t ts x (Downgrade i) none is same has still held = absurd (subst (λ (b : Act). IsSeenBy w.slots x b) same held)
  saw_less t ts x (Lock i must) none is same has still held = absurd (subst (λ (b : Act). IsSeenBy w.slots x b) same held)
  saw_less t ts x (Put i) none is same has still held = absurd (subst (λ (b : Act). IsSeenBy w.slots x b) same held)
  saw_less t ts x (Leave i) none is same has still held = absurd (subst (λ (b : Act). IsSeenBy w.slots x b) same held)
  saw_less t ts x (Clear i) none is same has still held = absurd (subst (λ (b : Act). IsSeenBy w.slots x b) same held)
  saw_less t ts x (Count i) none is same has still held = absurd (subst (λ (b : Act). IsSeenBy w.slots x b) same held)
  saw_less t ts x (Expired i) none is same has still held = absurd (subst (λ (b : Act). IsSeenBy w.slots x b) same held)
  saw_less t ts x (Read i) none is same has still held = absurd (subst (λ (b : Act). IsSeenBy w.slots x b) same held)
  saw_less t ts x (FromThis i kind) none is same has still held = absurd (subst (λ (b : Act). IsSeenBy w.slots x b) same held)
  saw_less t ts x (Alias i j field) none is same has still held = absurd (subst (λ (b : Act). IsSeenBy w.slots x b) same held)
  saw_less t ts x (Move i) none is same has still held = absurd (subst (λ (b : Act). IsSeenBy w.slots x b) same held)
  saw_less t ts x (Ask q) none is same has still held = absurd (subst (λ (b : Act). IsSeenBy w.slots x b) same held)
  saw_less t ts x (Offer i c) none is same has still held = absurd (subst (λ (b : Act). IsSeenBy w.slots x b) same held)
  saw_less t ts x (Swap c) none is same has still held = absurd (subst (λ (b : Act). IsSeenBy w.slots x b) same held)
  saw_less t ts x (Exchange i c) none is same has still held = absurd (subst (λ (b : Act). IsSeenBy w.slots x b) same held)
  saw_less t ts x (Holds i c) none is same has still held = absurd (subst (λ (b : Act). IsSeenBy w.slots x b) same held)
  saw_less t ts x Drop none is same has still held = absurd (subst (λ (b : Act). IsSeenBy w.slots x b) same held)
  saw_less t ts x (OnShelf y) none is same has still held = absurd (subst (λ (b : Act). IsSeenBy w.slots x b) same held)

  pub seen_less : (x : CellWord) (ts : List Task) → w.endings ≡ [] → w.todo ≡ ts → IsInShape v.extent.shape ts
      → IsStill w ts → IsSeen w.slots x ts
      → IsLess v d (Saw x) w (saw v d w x ts)
  seen_less x [] none is has still held = absurd held
  seen_less x (t ∷ ts) none is has still held = saw_less t ts x t.act none is refl has still held

  -- a cell that holds what is expected is swapped
  swap_less : (t : Task) (ts : List Task) (x : CellWord) (a : Act) → w.endings ≡ [] → w.todo ≡ t ∷ ts → t.act ≡ a
      → IsMatched w.slots x (t ∷ ts)
      → IsLess v d (Matched x) w (matched_on v d w t.statement ts x a)
  swap_less t ts x (Compare i c weak) none is same held =
      matched_less v d t.statement w t ts (Compare i c weak) none is same refl refl (cell_of_name (model_state v) w.slots c)
      (compared_in w.slots (comparing w.slots i weak)) x refl
  swap_less t ts x (Make form) none is same held = absurd (subst (λ (b : Act). IsMatchedBy w.slots x b) same held)
  swap_less t ts x (Share i) none is same held = absurd (subst (λ (b : Act). IsMatchedBy w.slots x b) same held)
  swap_less t ts x (Downgrade i) none is same held = absurd (subst (λ (b : Act). IsMatchedBy w.slots x b) same held)
  swap_less t ts x (Lock i must) none is same held = absurd (subst (λ (b : Act). IsMatchedBy w.slots x b) same held)
  swap_less t ts x (Put i) none is same held = absurd (subst (λ (b : Act). IsMatchedBy w.slots x b) same held)
  swap_less t ts x (Leave i) none is same held = absurd (subst (λ (b : Act). IsMatchedBy w.slots x b) same held)
  swap_less t ts x (Clear i) none is same held = absurd (subst (λ (b : Act). IsMatchedBy w.slots x b) same held)
  swap_less t ts x (Count i) none is same held = absurd (subst (λ (b : Act). IsMatchedBy w.slots x b) same held)
  swap_less t ts x (Expired i) none is same held = absurd (subst (λ (b : Act). IsMatchedBy w.slots x b) same held)
  swap_less t ts x (Read i) none is same held = absurd (subst (λ (b : Act). IsMatchedBy w.slots x b) same held)
  swap_less t ts x (FromThis i kind) none is same held = absurd (subst (λ (b : Act). IsMatchedBy w.slots x b) same held)
  swap_less t ts x (Alias i j field) none is same held = absurd (subst (λ (b : Act). IsMatchedBy w.slots x b) same held)
  swap_less t ts x (Move i) none is same held = absurd (subst (λ (b : Act). IsMatchedBy w.slots x b) same held)
  swap_less t ts x (Ask q) none is same held = absurd (subst (λ (b : Act). IsMatchedBy w.slots x b) same held)
  swap_less t ts x (Offer i c) none is same held = absurd (subst (λ (b : Act). IsMatchedBy w.slots x b) same held)
  swap_less t ts x (Swap c) none is same held = absurd (subst (λ (b : Act). IsMatchedBy w.slots x b) same held)
  swap_less t ts x (Exchange i c) none is same held = absurd (subst (λ (b : Act). IsMatchedBy w.slots x b) same held)
  swap_less t ts x (Holds i c) none is same held = absurd (subst (λ (b : Act). IsMatchedBy w.slots x b) same held)
  swap_less t ts x Drop none is same held = absurd (subst (λ (b : Act). IsMatchedBy w.slots x b) same held)
  swap_less t ts x (OnShelf y) none is same held = absurd (subst (λ (b : Act). IsMatchedBy w.slots x b) same held)
  swap_less t ts x (Load c) none is same held = absurd (subst (λ (b : Act). IsMatchedBy w.slots x b) same held)

  pub swapping_less : (x : CellWord) (ts : List Task) → w.endings ≡ [] → w.todo ≡ ts → IsMatched w.slots x ts
      → IsLess v d (Matched x) w (matched v d w x ts)
  swapping_less x [] none is held = absurd held
  swapping_less x (t ∷ ts) none is held = swap_less t ts x t.act none is refl held

  -- a fund is turned, and others are put back
  pub refill_less : (s : Stage) (c : Site) (x : CellWord) (k : ℕ) (o : Option Block) → x.owned ≡ o → RefillFits d s c x v
      → IsLess v d (Refill s c x k) w (option_map (refills_on v w s c x k) o)
  refill_less s c x k None e fits = absurd (some_none (sym fits.owned ∙ e))
    where
      some_none : {y : Block} → ◌≡◌ {A = Option Block} (Some y) None → ⊥
      some_none q = cc
  refill_less s c x k (Some b) e fits =
      refills_less v d w c x k b s (shows_seen v d c kept seat fits.opens)
      (brought_cell v d (kind_in_state (model_state v) c) b x.place x.taken c kept fits.opens (block_there v d s c x kept fits b e))
