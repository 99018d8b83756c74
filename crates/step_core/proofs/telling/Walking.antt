-- What an act takes from the steps that a thread has left.
use Rattle.std.proofs.Common.{◌≡◌, ℕ, ◌+◌, ◌*◌, ◌<◌, ◌≤◌, Bool, true, false, cond, ◌≢◌, List, []}
use Rattle.std.proofs.Common.{◌∷◌, length, is_some, slice_set, Some, None, sum_by, Option, sym}
use Rattle.std.proofs.Common.{refl, ap, ◌∙◌, subst, ⊎_elim, arith, length-set, get_or-set_other}
use Rattle.std.proofs.Common.{get_or-set_same}
use Rattle.step_core.proofs.Prelude
use Prelude.{Act, Alias, Ask, cases_eq, Clear, Compare, cond_both, Count, Downgrade, Drop}
use Prelude.{ended_by, Ending, ending_as, exact, Exchange, Expired, frame_settled, frame_steps}
use Prelude.{FrameView, FromThis, hand, Handle, Holds, idle, is_full, is_last, Kind, Leave, Load}
use Prelude.{Lock, Make, Move, Offer, OnShelf, other, owned, Owner, placed, plain, pointer_of, Put}
use Prelude.{Read, remains_as, row_in, Share, Slot, slot_pointer, slot_value, Slots, slots_idle}
use Prelude.{staged, State, sum_by-cons, Swap, taken_idle, Task, task_steps, Weak, weight, went}
use Prelude.{with_end, with_endings}
use Rattle.step_core.specs.Bounds.{carried}
use Rattle.step_threads.specs.Endings.{ending_steps}
use Rattle.step_core.proofs.telling.Leaves.{act_endings, begun_by, leaves_by, settled_endings}

-- what settling passes over has no steps left
pub settled_steps : (slots : Slots) (taken : Bool) (es : List Ending) (ts : List Task) → task_steps (frame_settled slots taken es ts).todo ≤ task_steps ts
settled_steps slots taken es [] = omega arith
settled_steps slots taken es (t ∷ ts) =
    let r = settled_steps (slots_idle t.act slots taken) (taken_idle t.act taken) es ts in
    let s = sum_by-cons (λ (x : Task). weight x.act) t ts in
    cond_both (idle t.act slots taken) (frame_settled (slots_idle t.act slots taken) (taken_idle t.act taken) es ts)
    (record { slots = slots; taken = taken; endings = es; todo = t ∷ ts }) (λ (w : FrameView). task_steps w.todo ≤ task_steps (t ∷ ts))
    (λ e. omega (arith, r, s)) (λ e. omega arith)

-- nothing is in hand
abbrev pub IsFree : Slots → Type 0
IsFree slots = is_full (slot_pointer slots (hand slots)) ≡ false

emptied_at : (slots : Slots) (k : ℕ) → k ≡ hand slots → is_full (slot_pointer (slice_set slots k plain) k) ≡ false
emptied_at [] k e = refl
emptied_at (x ∷ xs) k e =
    let lt : k < length (x ∷ xs) = omega (arith, e) in
    ap (λ (y : Slot). is_full (pointer_of y)) (get_or-set_same (x ∷ xs) k plain plain lt)

-- what is in hand has left, or has gone to its name
emptied : (slots : Slots) (k : ℕ) → k ≡ hand slots → IsFree (slice_set slots k plain)
emptied slots k e =
    let l = length-set slots k plain in
    let h : hand (slice_set slots k plain) ≡ k = omega (arith, l, e) in
    subst (λ (i : ℕ). is_full (slot_pointer (slice_set slots k plain) i) ≡ false) (sym h) (emptied_at slots k e)

placed_free : (k : ℕ) (slots : Slots) → IsFree (placed k slots)
placed_free k slots =
    let l = length-set slots k (slot_value slots (hand slots)) in
    emptied (slice_set slots k (slot_value slots (hand slots))) (hand slots) (omega (arith, l))

-- what is to be dropped has left
dropped_free : (slots : Slots) → IsFree slots → IsFree (slice_set slots (other slots) plain)
dropped_free slots free =
    let l = length-set slots (other slots) plain in
    let h : hand (slice_set slots (other slots) plain) ≡ hand slots = omega (arith, l) in
    ⊎_elim (λ (e : hand slots ≡ other slots). emptied slots (other slots) (sym e))
    (λ (n : hand slots ≢ other slots).
    subst (λ (i : ℕ). is_full (slot_pointer (slice_set slots (other slots) plain) i) ≡ false) (sym h)
    (ap (λ (y : Slot). is_full (pointer_of y)) (get_or-set_other slots (other slots) (hand slots) plain plain n) ∙ free))
    (cases_eq (hand slots) (other slots))

idle_free : (a : Act) (slots : Slots) (taken : Bool) → IsFree slots → IsFree (slots_idle a slots taken)
idle_free (Put k) slots true free = placed_free k slots
idle_free (Put k) slots false free = free
idle_free (Make form) slots taken free = free
idle_free (Share k) slots taken free = free
idle_free (Downgrade k) slots taken free = free
idle_free (Lock k must) slots taken free = free
idle_free (Leave k) slots taken free = free
idle_free (Clear k) slots taken free = free
idle_free (Count k) slots taken free = free
idle_free (Expired k) slots taken free = free
idle_free (Read k) slots taken free = free
idle_free (FromThis k kind) slots taken free = free
idle_free (Alias k j field) slots taken free = free
idle_free (Move k) slots taken free = free
idle_free (Ask q) slots taken free = free
idle_free (Offer k c) slots taken free = free
idle_free (Swap c) slots true free = placed_free (other slots) slots
idle_free (Swap c) slots false free = free
idle_free (Exchange k c) slots taken free = free
idle_free (Holds k c) slots taken free = free
idle_free (Load c) slots taken free = free
idle_free (Compare k c weak) slots true free = placed_free (other slots) slots
idle_free (Compare k c weak) slots false free = free
idle_free Drop slots taken free = dropped_free slots free
idle_free (OnShelf x) slots taken free = free

settled_free : (slots : Slots) (taken : Bool) (es : List Ending) (ts : List Task) → IsFree slots → IsFree (frame_settled slots taken es ts).slots
settled_free slots taken es [] free = free
settled_free slots taken es (t ∷ ts) free =
    let r = settled_free (slots_idle t.act slots taken) (taken_idle t.act taken) es ts (idle_free t.act slots taken free) in
    cond_both (idle t.act slots taken) (frame_settled (slots_idle t.act slots taken) (taken_idle t.act taken) es ts)
    (record { slots = slots; taken = taken; endings = es; todo = t ∷ ts }) (λ (w : FrameView). IsFree w.slots) (λ e. r) (λ e. free)

carried_free : (es : List Ending) (slots : Slots) → IsFree slots → carried es slots ≡ 0
carried_free [] slots free = refl
carried_free (e ∷ es) slots free = ap (λ (b : Bool). cond b 1 0) free

-- the objects that end by a pointer's leave
abbrev pub ends_at : State → Option Handle → ℕ
ends_at s o = cond (is_some (ended_by s o)) 1 0

begun_steps : (s : State) (k : ℕ) (es : List Ending) (o : Option Handle)
    → sum_by ending_steps (begun_by s k es o) ≡ sum_by ending_steps es + 13 * ends_at s o
begun_steps s k es None = omega arith
begun_steps s k es (Some x) = go x.kind (is_last s x)
  where
    go : (q : Kind) (b : Bool) → sum_by ending_steps (with_end k (cond b (ending_as q x) None) es)
        ≡ sum_by ending_steps es + 13 * cond (is_some (cond b (remains_as q (s.object (owned s x))) None)) 1 0
    go Owner true = let a = sum_by-cons ending_steps (record { block = x.block; stage = 0; statement = k }) es in omega (arith, a)
    go Owner false = omega arith
    go Weak true = omega arith
    go Weak false = omega arith

carried_one : (b : Bool) → cond b 1 0 ≤ 1
carried_one true = omega arith
carried_one false = omega arith

begun_carried : (s : State) (k : ℕ) (slots : Slots) (o : Option Handle) → carried (begun_by s k [] o) slots ≤ ends_at s o
begun_carried s k slots None = omega arith
begun_carried s k slots (Some x) = go x.kind (is_last s x)
  where
    go : (q : Kind) (b : Bool) → carried (with_end k (cond b (ending_as q x) None) []) slots
        ≤ cond (is_some (cond b (remains_as q (s.object (owned s x))) None)) 1 0
    go Owner true = carried_one (is_full (slot_pointer slots (hand slots)))
    go Owner false = omega arith
    go Weak true = omega arith
    go Weak false = omega arith

pub weight_two : (a : Act) → 2 ≤ weight a
weight_two (Make form) = omega arith
weight_two (Put k) = omega arith
weight_two (Share k) = omega arith
weight_two (Downgrade k) = omega arith
weight_two (Lock k must) = omega arith
weight_two (Leave k) = omega arith
weight_two (Clear k) = omega arith
weight_two (Count k) = omega arith
weight_two (Expired k) = omega arith
weight_two (Read k) = omega arith
weight_two (FromThis k kind) = omega arith
weight_two (Alias k j field) = omega arith
weight_two (Move k) = omega arith
weight_two (Ask q) = omega arith
weight_two (Offer k c) = omega arith
weight_two (Swap c) = omega arith
weight_two (Exchange k c) = omega arith
weight_two (Holds k c) = omega arith
weight_two (Load c) = omega arith
weight_two (Compare k c weak) = omega arith
weight_two Drop = omega arith
weight_two (OnShelf x) = omega arith

-- settled without an ending, a thread has the steps of its tasks alone
pub settled_alone : (slots : Slots) (taken : Bool) (ts : List Task) → frame_steps (frame_settled slots taken [] ts) ≤ task_steps ts
settled_alone slots taken ts =
    let s = settled_steps slots taken [] ts in
    let e = settled_endings slots taken [] ts in
    let a = ap (λ (l : List Ending). sum_by ending_steps l) e in
    let b = ap (λ (l : List Ending). carried l (frame_settled slots taken [] ts).slots) e in
    omega (arith, s, a, b)

-- a thread whose endings are over, at its next task
pub frame_alone : (w : FrameView) (t : Task) (ts : List Task) → w.endings ≡ [] → w.todo ≡ t ∷ ts → frame_steps w ≡ weight t.act + task_steps ts
frame_alone w t ts none is =
    let a = ap (λ (l : List Ending). sum_by ending_steps l) none in
    let b = ap (λ (l : List Ending). carried l w.slots) none in
    let c = ap task_steps is in
    let d = sum_by-cons (λ (x : Task). weight x.act) t ts in
    omega (arith, a, b, c, d)

-- an act of a statement takes its steps, and brings those of the object that it ends
pub went_steps : (s : State) (d k : ℕ) (w : FrameView) (t : Task) (ts : List Task) (a : Act) → w.endings ≡ [] → w.todo ≡ t ∷ ts
    → frame_steps (went s d w k ts a) + weight t.act ≤ frame_steps w + 14 * ends_at s (leaves_by w.slots a)
went_steps s d k w t ts a none is =
    let x = row_in exact s d w.slots w.taken a in
    let r = settled_steps x.slots x.taken (with_end k x.ending w.endings) ts in
    let f = act_endings s d k w ts a ∙ ap (λ (l : List Ending). begun_by s k l (leaves_by w.slots a)) none in
    let b = ap (λ (l : List Ending). sum_by ending_steps l) f in
    let c = begun_steps s k [] (leaves_by w.slots a) in
    let g = ap (λ (l : List Ending). carried l (went s d w k ts a).slots) f in
    let h = begun_carried s k (went s d w k ts a).slots (leaves_by w.slots a) in
    let i = frame_alone w t ts none is in
    omega (arith, r, b, c, g, h, i)

-- what came out of a member leaves
pub carried_leaves : (s : State) (d k : ℕ) (w : FrameView) (e : Ending) (es : List Ending) → w.endings ≡ e ∷ es
    → is_full (slot_pointer w.slots (hand w.slots)) ≡ true
    → frame_steps (went s d w k w.todo (Leave (hand w.slots))) + 1 ≤ frame_steps w + 13 * ends_at s (slot_pointer w.slots (hand w.slots))
carried_leaves s d k w e es is full =
    let slots = slice_set w.slots (hand w.slots) plain in
    let new = begun_by s k w.endings (slot_pointer w.slots (hand w.slots)) in
    let r = settled_steps slots w.taken new w.todo in
    let f = settled_endings slots w.taken new w.todo in
    let b = ap (λ (l : List Ending). sum_by ending_steps l) f in
    let c = begun_steps s k w.endings (slot_pointer w.slots (hand w.slots)) in
    let g = carried_free (frame_settled slots w.taken new w.todo).endings (frame_settled slots w.taken new w.todo).slots
    (settled_free slots w.taken new w.todo (emptied w.slots (hand w.slots) refl)) in
    let h = ap (λ (l : List Ending). carried l w.slots) is in
    let i : carried (e ∷ es) w.slots ≡ 1 = ap (λ (q : Bool). cond q 1 0) full in
    omega (arith, r, b, c, g, h, i)

-- an act of a statement that nothing leaves by
pub went_still : (s : State) (d k : ℕ) (w : FrameView) (t : Task) (ts : List Task) (a : Act) → w.endings ≡ [] → w.todo ≡ t ∷ ts
    → leaves_by w.slots a ≡ None → frame_steps (went s d w k ts a) + weight t.act ≤ frame_steps w
went_still s d k w t ts a none is stays =
    let l = went_steps s d k w t ts a none is in
    let z : ends_at s (leaves_by w.slots a) ≡ 0 = ap (ends_at s) stays in
    omega (arith, l, z)

pub went_plain : (s : State) (d k : ℕ) (w : FrameView) (t : Task) (ts : List Task) (a : Act) → w.endings ≡ [] → w.todo ≡ t ∷ ts
    → leaves_by w.slots a ≡ None → frame_steps (went s d w k ts a) + 2 ≤ frame_steps w
went_plain s d k w t ts a none is stays =
    let l = went_still s d k w t ts a none is stays in let j = weight_two t.act in omega (arith, l, j)

-- any act of a statement
pub went_less : (s : State) (d k : ℕ) (w : FrameView) (t : Task) (ts : List Task) (a : Act) → w.endings ≡ [] → w.todo ≡ t ∷ ts
    → frame_steps (went s d w k ts a) + 1 ≤ frame_steps w + 13 * ends_at s (leaves_by w.slots a)
went_less s d k w t ts a none is =
    let l = went_steps s d k w t ts a none is in
    let z = carried_one (is_some (ended_by s (leaves_by w.slots a))) in
    let j = weight_two t.act in
    omega (arith, l, z, j)

-- the ending begun last is over
pub over_less : (w : FrameView) (e : Ending) (es : List Ending) → w.endings ≡ e ∷ es → IsFree w.slots
    → frame_steps (with_endings w es) + 1 ≤ frame_steps w
over_less w e es is free =
    let a = ap (λ (l : List Ending). sum_by ending_steps l) is in
    let b = sum_by-cons ending_steps e es in
    let c = carried_free es w.slots free in
    omega (arith, a, b, c)

-- a member of its object is cleared
pub staged_most : (w : FrameView) (e : Ending) (es : List Ending) → w.endings ≡ e ∷ es → IsFree w.slots
    → frame_steps (with_endings w (staged e ∷ es)) ≤ frame_steps w
staged_most w e es is free =
    let a = ap (λ (l : List Ending). sum_by ending_steps l) is in
    let b = sum_by-cons ending_steps e es in
    let c = sum_by-cons ending_steps (staged e) es in
    let f = carried_free (staged e ∷ es) w.slots free in
    omega (arith, a, b, c, f)

pub staged_less : (w : FrameView) (e : Ending) (es : List Ending) → w.endings ≡ e ∷ es → IsFree w.slots → e.stage < 3
    → frame_steps (with_endings w (staged e ∷ es)) + 4 ≤ frame_steps w
staged_less w e es is free lt =
    let a = ap (λ (l : List Ending). sum_by ending_steps l) is in
    let b = sum_by-cons ending_steps e es in
    let c = sum_by-cons ending_steps (staged e) es in
    let f = carried_free (staged e ∷ es) w.slots free in
    omega (arith, a, b, c, f, lt)

-- at most one pointer came out of a member, and isn't left yet
pub carried_most : (es : List Ending) (slots : Slots) → carried es slots ≤ 1
carried_most [] slots = omega arith
carried_most (e ∷ es) slots = carried_one (is_full (slot_pointer slots (hand slots)))

-- what a member held is out
pub taken_out : (w : FrameView) (slots : Slots) (e : Ending) (es : List Ending) → w.endings ≡ e ∷ es → e.stage < 3
    → frame_steps (record { slots = slots; taken = w.taken; endings = staged e ∷ es; todo = w.todo }) + 4 ≤ frame_steps w + carried (staged e ∷ es) slots
taken_out w slots e es is lt =
    let a = ap (λ (l : List Ending). sum_by ending_steps l) is in
    let b = sum_by-cons ending_steps e es in
    let c = sum_by-cons ending_steps (staged e) es in
    omega (arith, a, b, c, lt)
