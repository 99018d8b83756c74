-- What an act alone does to where a thread is: its tasks, its slots and its endings.
use Rattle.std.proofs.Common.{◌≡◌, ℕ, suc, ◌≤◌, Bool, true, false, List, [], ◌∷◌, length}
use Rattle.std.proofs.Common.{slice_set, sym, refl, ◌∙◌, subst, inl, inr, arith, length-set}
use Rattle.std.proofs.Common.{get_or-set_other, get_or-set_same}
use Rattle.script_stepper.proofs.Prelude
use Prelude.{Act, Alias, Ask, cases_eq, cases_lt, Clear, Compare, cond_both, Count, Downgrade}
use Prelude.{Drop, Ending, exact, Exchange, Expired, FrameView, FromThis, get_or_past, hand, Holds}
use Prelude.{Leave, Load, Lock, Make, Move, Offer, OnShelf, other, placed, plain, Put, Read}
use Prelude.{row_in, Share, slot_value, Slots, State, Swap, Task, went, with_end}
use Rattle.step_threads.specs.Frames.{idle, frame_settled, slots_idle, taken_idle}
use Rattle.step_core.proofs.telling.Tidying.{idle_size, row_size}

-- ---- the tasks of a settled thread

settled_less : (ts : List Task) (slots : Slots) (taken : Bool) (es : List Ending) → length (frame_settled slots taken es ts).todo ≤ length ts
settled_less [] slots taken es = omega arith
settled_less (t ∷ ts) slots taken es =
    cond_both (idle t.act slots taken) (frame_settled (slots_idle t.act slots taken) (taken_idle t.act taken) es ts)
    (record { slots = slots; taken = taken; endings = es; todo = t ∷ ts })
    (λ (w : FrameView). length w.todo ≤ suc (length ts))
    (λ _. let k = settled_less ts (slots_idle t.act slots taken) (taken_idle t.act taken) es in omega (arith, k)) (λ _. omega arith)

-- ---- as many slots as before

pub settled_size : (ts : List Task) (slots : Slots) (taken : Bool) (es : List Ending) → length (frame_settled slots taken es ts).slots ≡ length slots
settled_size [] slots taken es = refl
settled_size (t ∷ ts) slots taken es =
    cond_both (idle t.act slots taken) (frame_settled (slots_idle t.act slots taken) (taken_idle t.act taken) es ts)
    (record { slots = slots; taken = taken; endings = es; todo = t ∷ ts })
    (λ (w : FrameView). length w.slots ≡ length slots)
    (λ _. settled_size ts (slots_idle t.act slots taken) (taken_idle t.act taken) es ∙ idle_size t.act slots taken) (λ _. refl)

-- ---- a thread after an act alone

pub went_less : (s : State) (d : ℕ) (w : FrameView) (k : ℕ) (ts : List Task) (a : Act) → length (went s d w k ts a).todo ≤ length ts
went_less s d w k ts a =
    let x = row_in exact s d w.slots w.taken a in settled_less ts x.slots x.taken (with_end k x.ending w.endings)

pub went_size : (s : State) (d : ℕ) (w : FrameView) (k : ℕ) (ts : List Task) (a : Act) → length (went s d w k ts a).slots ≡ length w.slots
went_size s d w k ts a =
    let x = row_in exact s d w.slots w.taken a in
    settled_size ts x.slots x.taken (with_end k x.ending w.endings) ∙ row_size s d w.slots w.taken a

-- ---- nothing is in hand after what was in hand has left

abbrev pub IsFree : Slots → Type 0
IsFree slots = slot_value slots (hand slots) ≡ plain

set_plain : (slots : Slots) (i : ℕ) → slot_value (slice_set slots i plain) i ≡ plain
set_plain slots i =
    elim (cases_lt i (length slots)) [
      | inl lt ↦ get_or-set_same slots i plain plain lt
      | inr le ↦ (let n = length-set slots i plain in get_or_past (slice_set slots i plain) i plain (omega (arith, n, le)))
    ]

free_set : (slots : Slots) (i : ℕ) → i ≡ hand slots → IsFree (slice_set slots i plain)
free_set slots i e =
    let n = length-set slots i plain in
    let same : i ≡ hand (slice_set slots i plain) = omega (arith, n, e) in
    subst (λ (j : ℕ). slot_value (slice_set slots i plain) j ≡ plain) same (set_plain slots i)

free_placed : (k : ℕ) (slots : Slots) → IsFree (placed k slots)
free_placed k slots =
    let n = length-set slots k (slot_value slots (hand slots)) in
    free_set (slice_set slots k (slot_value slots (hand slots))) (hand slots) (omega (arith, n))

free_dropped : (slots : Slots) → IsFree slots → IsFree (slice_set slots (other slots) plain)
free_dropped slots h =
    let n = length-set slots (other slots) plain in
    let same : hand slots ≡ hand (slice_set slots (other slots) plain) = omega (arith, n) in
    elim (cases_eq (hand slots) (other slots)) [
      | inl e ↦ free_set slots (other slots) (sym e)
      | inr ne ↦ subst (λ (j : ℕ). slot_value (slice_set slots (other slots) plain) j ≡ plain) same
          (get_or-set_other slots (other slots) (hand slots) plain plain ne ∙ h)
    ]

free_idle : (a : Act) (slots : Slots) (taken : Bool) → IsFree slots → IsFree (slots_idle a slots taken)
free_idle (Put k) slots true h = free_placed k slots
free_idle (Put k) slots false h = h
free_idle (Make form) slots taken h = h
free_idle (Share k) slots taken h = h
free_idle (Leave k) slots taken h = h
free_idle (Clear k) slots taken h = h
free_idle (Count k) slots taken h = h
free_idle (Downgrade k) slots taken h = h
free_idle (Lock k must) slots taken h = h
free_idle (Expired k) slots taken h = h
free_idle (Read k) slots taken h = h
free_idle (FromThis k kind) slots taken h = h
free_idle (Alias k j field) slots taken h = h
free_idle (Move k) slots taken h = h
free_idle (Ask q) slots taken h = h
free_idle (Offer k c) slots taken h = h
free_idle (Swap c) slots true h = free_placed (other slots) slots
free_idle (Swap c) slots false h = h
free_idle (Exchange k c) slots taken h = h
free_idle (Load c) slots taken h = h
free_idle (Holds k c) slots taken h = h
free_idle (Compare k c weak) slots true h = free_placed (other slots) slots
free_idle (Compare k c weak) slots false h = h
free_idle Drop slots taken h = free_dropped slots h
free_idle (OnShelf x) slots taken h = h

free_settled : (ts : List Task) (slots : Slots) (taken : Bool) (es : List Ending) → IsFree slots → IsFree (frame_settled slots taken es ts).slots
free_settled [] slots taken es h = h
free_settled (t ∷ ts) slots taken es h =
    cond_both (idle t.act slots taken) (frame_settled (slots_idle t.act slots taken) (taken_idle t.act taken) es ts)
    (record { slots = slots; taken = taken; endings = es; todo = t ∷ ts })
    (λ (w : FrameView). IsFree w.slots)
    (λ _. free_settled ts (slots_idle t.act slots taken) (taken_idle t.act taken) es (free_idle t.act slots taken h)) (λ _. h)

pub went_free : (s : State) (d : ℕ) (w : FrameView) (k : ℕ) (ts : List Task) → IsFree (went s d w k ts (Leave (hand w.slots))).slots
went_free s d w k ts =
    free_settled ts (slice_set w.slots (hand w.slots) plain) w.taken _
    (free_set w.slots (hand w.slots) refl)
