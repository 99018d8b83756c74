-- What is in hand has no part in the next task, where nothing was taken.
use Rattle.std.proofs.Common.{◌≡◌, ℕ, ◌+◌, ◌-◌, ◌<◌, ◌≤◌, Bool, true, false, not, ◌⊎◌, List}
use Rattle.std.proofs.Common.{length, drop, set, sym, refl, ap, ◌∙◌, subst, inl, inr, ⊎_elim}
use Rattle.std.proofs.Common.{arith, length-set, get_or-set_other, get_or-set_same}
use Rattle.step_threads.proofs.Prelude
use Prelude.{Act, Alias, Ask, cases_lt, Clear, Compare, Count, Downgrade, Drop, Ending, Exchange}
use Prelude.{Expired, false≢true, Frame, frame_settled, FrameReady, FrameStill, FromThis, hand}
use Prelude.{Holds, idle, is_full, IsCarried, IsReady, Leave, Load, Lock, Make, MayComeNext, Move}
use Prelude.{Offer, OnShelf, other, plain, pointer_of, Put, Read, rest, Share, Slot, slot_pointer}
use Prelude.{slot_value, Slots, Swap, taken_after, Task, task_at, TasksMayCome, todo}
use Rattle.std.proofs.lemmas.List.{drop_all}
use Rattle.step_threads.proofs.Frames.{owed_by, ready_head, settled_still, todo_at}

-- a frame that is at an act with these slots, or at its end, stays there
settled_at : (c : Frame) (slots : Slots) (es : List Ending) → (c.at < length c.tasks.items → idle (task_at c).act slots c.taken ≡ false)
    → frame_settled slots c.taken es (todo c) ≡ record { slots = slots; taken = c.taken; endings = es; todo = todo c }
settled_at c slots es still =
    ⊎_elim (λ (lt : c.at < length c.tasks.items). subst Same (sym (todo_at c lt))
    (settled_still slots c.taken es (task_at c) (drop (c.at + 1) c.tasks.items) (still lt)))
    (λ (le : length c.tasks.items ≤ c.at). subst Same (sym (drop_all c.at c.tasks.items le)) refl) (cases_lt c.at (length c.tasks.items))
  where
    Same : List Task → Type 0
    Same ts = frame_settled slots c.taken es ts ≡ record { slots = slots; taken = c.taken; endings = es; todo = ts }

module _ (slots : Slots) (x : Slot) where
  pub held_length : length (set slots (hand slots) x) ≡ length slots
  held_length = length-set slots (hand slots) x

  pub held_hand : 1 < length slots → slot_value (set slots (hand slots) x) (hand (set slots (hand slots) x)) ≡ x
  held_hand lt =
      ap (λ (n : ℕ). slot_value (set slots (hand slots) x) (n - 1)) held_length ∙ get_or-set_same slots (hand slots) x plain (omega (arith, lt))

  pub held_below : (k : ℕ) → k < hand slots → slot_value (set slots (hand slots) x) k ≡ slot_value slots k
  held_below k lt = get_or-set_other slots (hand slots) k x plain (omega (arith, lt))

  pub held_owed : 1 < length slots → slot_value (set slots (hand slots) x) (other (set slots (hand slots) x)) ≡ slot_value slots (other slots)
  held_owed lt = ap (λ (n : ℕ). slot_value (set slots (hand slots) x) (n - 2)) held_length ∙ held_below (other slots) (omega (arith, lt))

  empty_same : (i j : ℕ) → slot_value (set slots (hand slots) x) i ≡ slot_value slots j
      → not (is_full (slot_pointer (set slots (hand slots) x) i)) ≡ not (is_full (slot_pointer slots j))
  empty_same i j e = ap (λ (y : Slot). not (is_full (pointer_of y))) e

  -- the next task is an act or none, whatever is in hand
  pub idle_hand : (a : Act) → 1 < length slots → MayComeNext (other slots) false a → idle a (set slots (hand slots) x) false ≡ idle a slots false
  idle_hand (Make form) lt b = refl
  idle_hand (Share k) lt b = refl
  idle_hand (Put k) lt b = refl
  idle_hand (Leave k) lt b = refl
  idle_hand (Clear k) lt b = empty_same k k (held_below k (let l = b.0 in omega (arith, lt, l)))
  idle_hand (Count k) lt b = refl
  idle_hand (Downgrade k) lt b = refl
  idle_hand (Lock k must) lt b = refl
  idle_hand (Expired k) lt b = refl
  idle_hand (Read k) lt b = refl
  idle_hand (FromThis k kind) lt b = refl
  idle_hand (Alias k j field) lt b = refl
  idle_hand (Move k) lt b = refl
  idle_hand (Ask q) lt b = refl
  idle_hand (Offer k c) lt b = refl
  idle_hand (Swap c) lt b = refl
  idle_hand (Exchange k c) lt b = refl
  idle_hand (Load c) lt b = refl
  idle_hand (Compare k c weak) lt b = refl
  idle_hand (Holds k c) lt b = refl
  idle_hand Drop lt b = empty_same (other (set slots (hand slots) x)) (other slots) (held_owed lt)
  idle_hand (OnShelf y) lt b = refl

  -- what a thread relies on, with this in hand
  pub hand_ready : (taken : Bool) (es es' : List Ending) (ts : List Task) → IsReady slots taken es ts
      → (taken ≡ false → (x ≡ plain) ⊎ IsCarried (set slots (hand slots) x) es') → IsReady (set slots (hand slots) x) taken es' ts
  hand_ready taken es es' ts ready free =
      let some = ready.some in
      let e = held_length in
      record {
        some = omega (arith, e, some);
        free = λ t. ⊎_elim (λ (p : x ≡ plain). inl (held_hand some ∙ p)) inr (free t);
        owes = ⊎_elim (λ (p : slot_value slots (other slots) ≡ plain). inl (held_owed some ∙ p)) inr ready.owes;
        ready = subst (λ (n : ℕ). TasksMayCome (n - 2) taken ts) (sym e) ready.ready;
      }

-- a lock takes an owner
pub locked_ready : (c : Frame) (k : ℕ) (must : Bool) (x : Slot) → c.at < length c.tasks.items → FrameReady c → (task_at c).act ≡ Lock k must
    → IsReady (set c.registers.slots.items (hand c.registers.slots.items) x) true c.endings.list (rest c)
locked_ready c k must x lt ready act =
    let n = other c.registers.slots.items in
    hand_ready c.registers.slots.items x true c.endings.list c.endings.list (rest c)
    (record {
      some = ready.some;
      free = λ t. absurd (false≢true (sym t));
      owes = inl (owed_by c (Lock k must) lt ready act (λ e. e));
      ready = subst (λ (a : Act). TasksMayCome n (taken_after a c.taken) (rest c)) act (ready_head c lt ready).2;
    })
    (λ t. absurd (false≢true (sym t)))

-- it is the same act, where nothing was taken
act_still : (c : Frame) (x : Slot) → FrameReady c → FrameStill c → c.taken ≡ false → c.at < length c.tasks.items
    → idle (task_at c).act (set c.registers.slots.items (hand c.registers.slots.items) x) c.taken ≡ false
act_still c x ready still e lt =
    let slots = c.registers.slots.items in
    let a = (task_at c).act in
    let b : MayComeNext (other slots) false a = subst (λ (t : Bool). MayComeNext (other slots) t a) e (ready_head c lt ready).0 in
    ap (idle a (set slots (hand slots) x)) e ∙ idle_hand slots x a ready.some b ∙ ap (idle a slots) (sym e) ∙ still lt

pub settled_hand : (c : Frame) (x : Slot) (es : List Ending) → c.at ≤ length c.tasks.items → FrameReady c → FrameStill c → c.taken ≡ false
    → frame_settled (set c.registers.slots.items (hand c.registers.slots.items) x) c.taken es (todo c)
    ≡ record { slots = set c.registers.slots.items (hand c.registers.slots.items) x; taken = c.taken; endings = es; todo = todo c }
settled_hand c x es within ready still e = settled_at c (set c.registers.slots.items (hand c.registers.slots.items) x) es (act_still c x ready still e)

pub still_hand : (c c' : Frame) (x : Slot) → FrameReady c → FrameStill c → c.taken ≡ false
    → c'.registers.slots.items ≡ set c.registers.slots.items (hand c.registers.slots.items) x → c'.taken ≡ c.taken → c'.at ≡ c.at
    → c'.tasks ≡ c.tasks → FrameStill c'
still_hand c c' x ready still e slots taken at tasks lt =
    let same : ◌≡◌ {A = Task} (task_at c') (task_at c) = cc in
    let n : ◌≡◌ {A = ℕ} (length c'.tasks.items) (length c.tasks.items) = cc in
    let l : c.at < length c.tasks.items = omega (arith, lt, at, n) in
    ap (λ (t : Task). idle t.act c'.registers.slots.items c'.taken) same
    ∙ ap (λ (y : Slots). idle (task_at c).act y c'.taken) slots
    ∙ ap (idle (task_at c).act (set c.registers.slots.items (hand c.registers.slots.items) x)) taken ∙ act_still c x ready still e l
