-- A thread that puts values into cells fits the table, and its steps are as they are said.
use Rattle.std.proofs.Common.{◌≡◌, ℕ, ◌-◌, ◌<◌, Bool, true, false, cond, not, ◌&&◌, ◌⊎◌, []}
use Rattle.std.proofs.Common.{length, get_or, is_some, Some, None, Option, sym, refl, ap, ◌∙◌}
use Rattle.std.proofs.Common.{subst, ⊎_elim, arith}
use Rattle.step_threads.proofs.Prelude
use Prelude.{Act, AtomicStep, Block, Brought, cell_of_name, CellName, CellWord, claimed, done_on}
use Prelude.{Drop, Exchange, filter, FitsThread, Frame, FrameReady, Free, ghost_after_step}
use Prelude.{GhostState, gives_back, Going, hand, Handle, HasCell, HasGoneOn, holds_quiet, Idle}
use Prelude.{idle, in_store, is_of, is_there, IsIn, IsNext, Kind, kind_at, kind_stays, MayComeNext}
use Prelude.{Member, model_state, no_task, on, OnCell, other, owes_after, owing_funds, Owner}
use Prelude.{pending, pending_after, PendingCall, PendingCallFits, Rest, Returning, same_stored}
use Prelude.{share_as, Site, slot_value, Slots, Stocks, stored, Swap, TableInvariant, Task}
use Prelude.{task_at, Thread, Weak}
use Rattle.std.proofs.lemmas.List.{get_or_default}
use Rattle.step_table.specs.declared.cell_steps.cell_step.CellStep.TheVariants as cell_step
use Rattle.step_threads.specs.Frames.{going_from}
use Rattle.step_threads.proofs.CellNames.{cell_kind}
use Rattle.step_threads.proofs.Frames.{ready_head}
use Rattle.step_threads.proofs.Threads.{cell_here, cells_on, own_pending, resting}
use Rattle.step_threads.proofs.holding.Ends.{each_end, ends_gone}

-- what is half done of the next act
pub pending_call_here : (d : ℕ) (t : Thread) (v : GhostState) (h : PendingCall) → FitsThread d t v → t.pending_call ≡ h
    → PendingCallFits d h t.frame.registers.slots.items (task_at t.frame).act v
pending_call_here d t v h fits e = subst (λ (x : PendingCall). PendingCallFits d x t.frame.registers.slots.items (task_at t.frame).act v) e fits.pending_call

-- the cell of the next act is in the shape
pub cell_of_swap : (d : ℕ) (t : Thread) (v : GhostState) (c : CellName) → FitsThread d t v → t.frame.at < length t.frame.tasks.items
    → (task_at t.frame).act ≡ Swap c
    → IsIn v.extent.shape c
cell_of_swap d t v c fits lt act = subst (λ (a : Act). HasCell v.extent.shape a) act (cell_here t.frame v lt fits.cells)

pub cell_of_exchange : (d : ℕ) (t : Thread) (v : GhostState) (k : ℕ) (c : CellName) → FitsThread d t v → t.frame.at < length t.frame.tasks.items
    → (task_at t.frame).act ≡ Exchange k c → IsIn v.extent.shape c
cell_of_exchange d t v k c fits lt act = subst (λ (a : Act). HasCell v.extent.shape a) act (cell_here t.frame v lt fits.cells)

-- a swap that comes is one: the cell is there, and what is in hand may go in
pub swap_goes : (c : Frame) (x : CellName) → c.at < length c.tasks.items
    → (c.at < length c.tasks.items → idle (task_at c).act c.registers.slots.items c.taken ≡ false) → (task_at c).act ≡ Swap x
    → (is_there c.registers.slots.items x ≡ true) × (is_of (kind_at x) (slot_value c.registers.slots.items (hand c.registers.slots.items)) ≡ true)
swap_goes c x lt still act =
    go c.taken (is_there c.registers.slots.items x) (is_of (kind_at x) (slot_value c.registers.slots.items (hand c.registers.slots.items)))
    (subst (λ (a : Act). idle a c.registers.slots.items c.taken ≡ false) act (still lt))
  where
    go : (a b c : Bool) → not (a && b && c) ≡ false → (b ≡ true) × (c ≡ true)
    go true true true e = (refl, refl)
    go true true false e = cc
    go true false c e = cc
    go false b c e = cc

-- where it goes
pub going_is : (slots : Slots) (c : CellName) (i : ℕ) → is_there slots c ≡ true → is_of (kind_at c) (slot_value slots i) ≡ true
    → going_from slots c i ≡ Some (c, i)
going_is slots c i there is =
    ap (λ (b : Bool). cond {A = Option Going} (b && is_of (kind_at c) (slot_value slots i)) (Some (c, i)) None) there
    ∙ ap (λ (b : Bool). cond {A = Option Going} b (Some (c, i)) None) is

-- the act that a thread is at, which it has read
pub act_here : (c : Frame) (x : Task) (a : Act) → c.at < length c.tasks.items → x ≡ get_or c.tasks.items c.at x → x.act ≡ a → (task_at c).act ≡ a
act_here c x a lt is e = ap (λ (t : Task). t.act) (get_or_default c.tasks.items c.at no_task x lt ∙ sym is) ∙ e

-- what goes into a cell may
pub going_parts : (slots : Slots) (c : CellName) (i : ℕ) → is_some (going_from slots c i) ≡ true
    → (is_there slots c ≡ true) × (is_of (kind_at c) (slot_value slots i) ≡ true)
going_parts slots c i = go (is_there slots c) (is_of (kind_at c) (slot_value slots i))
  where
    go : (a b : Bool) → is_some (cond {A = Option Going} (a && b) (Some (c, i)) None) ≡ true → (a ≡ true) × (b ≡ true)
    go true true e = (refl, refl)
    go true false e = cc
    go false b e = cc

pub drop_empty : (c : Frame) → c.at < length c.tasks.items → FrameReady c → (task_at c).act ≡ Drop → c.taken ≡ false
drop_empty c lt ready act =
    let b : MayComeNext (other c.registers.slots.items) c.taken Drop =
    subst (MayComeNext (other c.registers.slots.items) c.taken) act (ready_head c lt ready).0 in b

-- a swap moves no block
same_stores : (v : GhostState) (d : ℕ) (c : Site) (new x : CellWord)
    → (model_state (ghost_after_step v d (OnCell (cell_step.Swap c new x)))).stores ≡ (model_state v).stores
same_stores v d (Free n) new x = refl
same_stores v d (Member b m) new x = refl

pub claims_none : (k : Kind) (n : ℕ) (x : CellWord) (o : Option Block) (b : ℕ) → claimed (gives_back k n x o) b ≡ 0
claims_none k n x None b = refl
claims_none k n x (Some c) b = refl

claimed_none : (h : PendingCall) (b : ℕ) → (h ≡ Rest) ⊎ (h ≡ Brought) → claimed h b ≡ 0
claimed_none h b e = ⊎_elim (λ (q : h ≡ Rest). ap (λ (x : PendingCall). claimed x b) q) (λ (q : h ≡ Brought). ap (λ (x : PendingCall). claimed x b) q) e

pub next_back : (k : Kind) (n : ℕ) (x : CellWord) (o : Option Block) (c : Frame) → IsNext (gives_back k n x o) c
next_back k n x None c = tt
next_back k n x (Some b) c = tt

-- what came out owes its funds
pub pending_call_back : (d : ℕ) (slots : Slots) (a : Act) (w : GhostState) (k : Kind) (n : ℕ) (x : CellWord) (o : Option Block) → x.owned ≡ o
    → pending w d ≡ owing_funds (model_state w) k x.owned x.place (256 - x.taken) 0 → PendingCallFits d (gives_back k n x o) slots a w
pending_call_back d slots a w k n x None e is = is ∙ ap (λ (b : Option Block). owing_funds (model_state w) k b x.place (256 - x.taken) 0) e
pending_call_back d slots a w k n x (Some b) e is = (x.place, is ∙ ap (λ (b : Option Block). owing_funds (model_state w) k b x.place (256 - x.taken) 0) e)

-- the swap is made
pub fits_swapped : (d : ℕ) (t : Thread) (v : GhostState) (c : CellName) (new x : CellWord) (n : ℕ) (h : PendingCall) (c' : Frame) → TableInvariant v
    → FitsThread d t v
    → (t.pending_call ≡ Rest) ⊎ (t.pending_call ≡ Brought) → t.frame.endings.list ≡ [] → IsIn v.extent.shape c
    → HasGoneOn d t.frame c' (ghost_after_step v d (OnCell (cell_step.Swap (cell_of_name (model_state v) t.frame.registers.slots.items c) new x)))
    → h ≡ gives_back (kind_at c) n x x.owned
    → FitsThread d (record { frame = c'; stock = t.stock; pending_call = h })
    (ghost_after_step v d (OnCell (cell_step.Swap (cell_of_name (model_state v) t.frame.registers.slots.items c) new x)))
fits_swapped d t v c new x n h c' kept fits was none lt on e =
    let at = cell_of_name (model_state v) t.frame.registers.slots.items c in
    let w = ghost_after_step v d (OnCell (cell_step.Swap at new x)) in
    let k = cell_kind v t.frame.registers.slots.items c lt in
    let s = fits.stocks in
    let owes : pending w d ≡ owing_funds (model_state w) (kind_at c) x.owned x.place (256 - x.taken) 0 =
    owes_after v d (cell_step.Swap at new x) kept fits.seat ∙ ap (λ (q : Kind). owing_funds (model_state w) q x.owned x.place (256 - x.taken) 0)
    (kind_stays v w at refl ∙ k) in
    subst (λ (q : PendingCall). FitsThread d (record { frame = c'; stock = t.stock; pending_call = q }) w) (sym e)
    (record {
      seat = fits.seat;
      holds = on.holds;
      within = on.within;
      ready = on.ready;
      still = on.still;
      pending_call = pending_call_back d c'.registers.slots.items (task_at c').act w (kind_at c) n x x.owned refl owes;
      next = next_back (kind_at c) n x x.owned c';
      stocks =
          record {
            stocked = λ b.
                let a = s.stocked b in
                let same : in_store (model_state w) d b ≡ in_store (model_state v) d b =
                ap (λ l. length (filter (same_stored (stored d b)) l)) (same_stores v d at new x) in
                let before = claimed_none t.pending_call b was in
                let behind = claims_none (kind_at c) n x x.owned b in omega (arith, a, same, before, behind);
            roomy = s.roomy;
          };
      endings = ends_gone d t.frame c' v w fits.endings none on.endings refl;
      cells = cells_on d t.frame c' w on fits.cells;
    })

-- the funds are given back
pub fits_returned : (d : ℕ) (t : Thread) (v : GhostState) (k : Kind) (b : Block) (f n : ℕ) → TableInvariant v → FitsThread d t v → t.pending_call
    ≡ Returning k b f n
    → FitsThread d (record { frame = t.frame; stock = t.stock; pending_call = Rest }) (ghost_after_step v d (OnCell (cell_step.GiveBack k b f)))
fits_returned d t v k b f n kept fits e =
    let x = OnCell (cell_step.GiveBack k b f) in
    let w = ghost_after_step v d x in
    let s : Stocks d t.stock.blocks t.stock.room (Returning k b f n) v = subst (λ (h : PendingCall). Stocks d t.stock.blocks t.stock.room h v) e fits.stocks in
    record {
      seat = fits.seat;
      holds = holds_quiet d d t.frame.registers.slots.items v x refl fits.holds;
      within = fits.within;
      ready = fits.ready;
      still = fits.still;
      pending_call = own_pending v d x kept fits.seat;
      next = tt;
      stocks = record { stocked = s.stocked; roomy = s.roomy };
      endings =
          record {
            all =
                record {
                  each = each_end d v w t.frame.endings.list
                      (λ y is. record { ending = is.ending; within = is.within; cleared = is.cleared }) fits.endings.all.each;
                  once = fits.endings.all.once;
                };
            roomy = fits.endings.roomy;
            empty = fits.endings.empty;
          };
      cells = fits.cells;
    }

-- an atomic step on what a slot holds was done, and the thread went on
pub fits_done : (f : Handle → AtomicStep) (d : ℕ) (t : Thread) (v w : GhostState) (o : Option Handle) (c : Frame) → TableInvariant v → FitsThread d t v
    → t.pending_call ≡ Rest
    → t.frame.endings.list ≡ [] → ((x : Handle) → pending_after v d (f x) ≡ Idle)
    → ((x : Handle) → (model_state (ghost_after_step v d (f x))).stores ≡ (model_state v).stores) → w ≡ done_on f v d o → HasGoneOn d t.frame c w
    → FitsThread d (record { frame = c; stock = t.stock; pending_call = Rest }) w
fits_done f d t v w o c kept fits e none calm stores is on =
    subst (λ (u : GhostState). FitsThread d (record { frame = c; stock = t.stock; pending_call = Rest }) u) (sym is)
    (go o (subst (λ (u : GhostState). HasGoneOn d t.frame c u) is on))
  where
    go : (o : Option Handle) → HasGoneOn d t.frame c (done_on f v d o)
        → FitsThread d (record { frame = c; stock = t.stock; pending_call = Rest }) (done_on f v d o)
    go None on =
        let s = resting d t v fits e in
        record {
          seat = fits.seat;
          holds = on.holds;
          within = on.within;
          ready = on.ready;
          still = on.still;
          pending_call = pending_call_here d t v Rest fits e;
          next = tt;
          stocks = record { stocked = s.stocked; roomy = s.roomy };
          endings = ends_gone d t.frame c v v fits.endings none on.endings refl;
          cells = cells_on d t.frame c v on fits.cells;
        }
    go (Some x) on =
        let s = resting d t v fits e in
        let u = ghost_after_step v d (f x) in
        record {
          seat = fits.seat;
          holds = on.holds;
          within = on.within;
          ready = on.ready;
          still = on.still;
          pending_call = own_pending v d (f x) kept fits.seat ∙ calm x;
          next = tt;
          stocks =
              record {
                stocked = λ b. ap (λ l. length (filter (same_stored (stored d b)) l)) (stores x) ∙ s.stocked b;
                roomy = s.roomy;
              };
          endings = ends_gone d t.frame c v u fits.endings none on.endings refl;
          cells = cells_on d t.frame c u on fits.cells;
        }

pub share_calm : (v : GhostState) (d : ℕ) (x : Handle) (k : Kind) → pending_after v d (share_as k x) ≡ Idle
share_calm v d x Owner = refl
share_calm v d x Weak = refl

pub share_stores : (v : GhostState) (d : ℕ) (x : Handle) (k : Kind) → (model_state (ghost_after_step v d (share_as k x))).stores ≡ (model_state v).stores
share_stores v d x Owner = refl
share_stores v d x Weak = refl
