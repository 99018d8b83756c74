-- Going past idle tasks changes nothing that a thread means.
use Rattle.std.proofs.Common.{◌≡◌, ℕ, ◌+◌, ◌-◌, ◌<◌, ◌≤◌, Bool, true, false, cond, ◌⊎◌, List, []}
use Rattle.std.proofs.Common.{◌∷◌, length, drop, set, sym, refl, ap, ◌∙◌, subst, inl, inr, ⊎_elim}
use Rattle.std.proofs.Common.{arith, length-set, get_or-set_other, get_or-set_same}
use Rattle.step_threads.proofs.Prelude
use Prelude.{Act, Alias, Ask, Clear, Compare, cond-false, cond-true, Count, Downgrade, Drop}
use Prelude.{dropping, DropsInTime, Ending, Exchange, Expired, false≢true, Frame, frame_settled}
use Prelude.{FrameReady, FrameView, FromThis, hand, Holds, idle, is_full, IsCarried, IsReady}
use Prelude.{Leave, Load, Lock, Make, MayComeNext, MayFollow, Move, no_task, Offer, OnShelf, other}
use Prelude.{placed, plain, pointer_of, Put, Read, rest, Share, Slot, slot_value, Slots, Stack}
use Prelude.{Swap, taken_after, Task, task_at, TasksMayCome, todo, with_endings}
use Rattle.std.proofs.lemmas.List.{drop_more}
use Rattle.step_threads.specs.Frames.{slots_idle, taken_idle}
use Rattle.step_threads.specs.Passing.{IsPassed}

pub todo_at : (c : Frame) → c.at < length c.tasks.items → todo c ≡ task_at c ∷ drop (c.at + 1) c.tasks.items
todo_at c lt = drop_more c.tasks.items c.at no_task lt

settled_idle : (slots : Slots) (taken : Bool) (es : List Ending) (t : Task) (ts : List Task) → idle t.act slots taken ≡ true
    → frame_settled slots taken es (t ∷ ts) ≡ frame_settled (slots_idle t.act slots taken) (taken_idle t.act taken) es ts
settled_idle slots taken es t ts e = cond-true (idle t.act slots taken) _ _ e

pub settled_still : (slots : Slots) (taken : Bool) (es : List Ending) (t : Task) (ts : List Task) → idle t.act slots taken ≡ false
    → frame_settled slots taken es (t ∷ ts) ≡ record { slots = slots; taken = taken; endings = es; todo = t ∷ ts }
settled_still slots taken es t ts e = cond-false (idle t.act slots taken) _ _ e

with_either : (b : Bool) (x y x' y' : FrameView) (es : List Ending) → with_endings x es ≡ x' → with_endings y es ≡ y'
    → with_endings (cond b x y) es ≡ cond b x' y'
with_either true x y x' y' es e f = e
with_either false x y x' y' es e f = f

-- the endings have no part in it
pub settled_with : (slots : Slots) (taken : Bool) (es es' : List Ending) (ts : List Task)
    → with_endings (frame_settled slots taken es ts) es' ≡ frame_settled slots taken es' ts
settled_with slots taken es es' [] = refl
settled_with slots taken es es' (t ∷ ts) =
    with_either (idle t.act slots taken) _ _ _ _ es' (settled_with (slots_idle t.act slots taken) (taken_idle t.act taken) es es' ts) refl

idle_taken : (act : Act) → taken_idle act false ≡ false
idle_taken (Make form) = refl
idle_taken _ = refl

taken_either : (b : Bool) (x y : FrameView) → x.taken ≡ false → y.taken ≡ false → (cond b x y).taken ≡ false
taken_either true x y e f = e
taken_either false x y e f = f

-- where nothing was taken nothing is
pub settled_taken : (slots : Slots) (es : List Ending) (ts : List Task) → (frame_settled slots false es ts).taken ≡ false
settled_taken slots es [] = refl
settled_taken slots es (t ∷ ts) =
    taken_either (idle t.act slots false) _ _
    (subst (λ (b : Bool). (frame_settled (slots_idle t.act slots false) b es ts).taken ≡ false) (sym (idle_taken t.act))
    (settled_taken (slots_idle t.act slots false) es ts)) refl

pub left_taken : (c : Frame) (slots : Slots) → c.taken ≡ false → (frame_settled slots c.taken c.endings.list (rest c)).taken ≡ false
left_taken c slots e = ap (λ (b : Bool). (frame_settled slots b c.endings.list (rest c)).taken) e ∙ settled_taken slots c.endings.list (rest c)

pub passed_todo : (a b : Frame) → IsPassed a b → todo b ≡ drop (a.at + 1) a.tasks.items
passed_todo a b p = let x = p.at in let y = p.tasks in cc

pub passed_same : (a b : Frame) → a.at < length a.tasks.items → idle (task_at a).act a.registers.slots.items a.taken ≡ true → IsPassed a b
    → frame_settled b.registers.slots.items b.taken b.endings.list (todo b) ≡ frame_settled a.registers.slots.items a.taken a.endings.list (todo a)
passed_same a b lt e p =
    let h = todo_at a lt in
    let i = settled_idle a.registers.slots.items a.taken a.endings.list (task_at a) (drop (a.at + 1) a.tasks.items) e in
    let n = p.slots in let m = p.taken in let t = passed_todo a b p in
    let k : b.endings.list ≡ a.endings.list = ap (λ (x : Stack). x.list) p.endings in
    cc

placed_length : (k : ℕ) (slots : Slots) → length (placed k slots) ≡ length slots
placed_length k slots = length-set (set slots k (slot_value slots (hand slots))) (hand slots) plain ∙ length-set slots k (slot_value slots (hand slots))

placed_hand : (k : ℕ) (slots : Slots) → 1 < length slots → slot_value (placed k slots) (hand (placed k slots)) ≡ plain
placed_hand k slots lt =
    let e = placed_length k slots in
    let h : hand (placed k slots) ≡ hand slots = ap (λ (n : ℕ). n - 1) e in
    ap (λ (n : ℕ). slot_value (placed k slots) n) h
    ∙ get_or-set_same (set slots k (slot_value slots (hand slots))) (hand slots) plain plain (let l = length-set slots k (slot_value slots
    (hand slots)) in omega (arith, l))

-- the slots behind the names stay where the length does
pub other_same : (slots slots' : Slots) → length slots' ≡ length slots → other slots' ≡ other slots
other_same slots slots' e = ap (λ (n : ℕ). n - 2) e

placed_other : (k : ℕ) (slots : Slots) → 1 < length slots → k < other slots → slot_value slots (other slots) ≡ plain
    → slot_value (placed k slots) (other (placed k slots)) ≡ plain
placed_other k slots lt below e =
    ap (λ (n : ℕ). slot_value (placed k slots) n) (other_same slots (placed k slots) (placed_length k slots))
    ∙ get_or-set_other (set slots k (slot_value slots (hand slots))) (hand slots) (other slots) plain plain (omega (arith, lt))
    ∙ get_or-set_other slots k (other slots) (slot_value slots (hand slots)) plain (omega (arith, below))
    ∙ e

pub ready_same : (slots slots' : Slots) (taken : Bool) (ts : List Task) → length slots' ≡ length slots → TasksMayCome (other slots) taken ts
    → TasksMayCome (other slots') taken ts
ready_same slots slots' taken ts e r = subst (λ (n : ℕ). TasksMayCome n taken ts) (sym (other_same slots slots' e)) r

-- with nothing taken the hand is plain, or carries what came out of a member
abbrev pub IsFree : Slots → List Ending → Type 0
IsFree slots es = (slot_value slots (hand slots) ≡ plain) ⊎ IsCarried slots es

carried_same : (slots slots' : Slots) (es : List Ending) → slot_value slots' (hand slots') ≡ slot_value slots (hand slots)
    → IsCarried slots es → IsCarried slots' es
carried_same slots slots' [] e c = c
carried_same slots slots' (x ∷ es) e c = ap (λ (y : Slot). is_full (pointer_of y)) e ∙ c

pub free_same : (slots slots' : Slots) (es : List Ending) → slot_value slots' (hand slots') ≡ slot_value slots (hand slots) → IsFree slots es
    → IsFree slots' es
free_same slots slots' es e (inl f) = inl (e ∙ f)
free_same slots slots' es e (inr c) = inr (carried_same slots slots' es e c)

-- where no object ends nothing is carried
pub free_plain : (slots : Slots) (taken : Bool) (es : List Ending)
    → (taken ≡ false → (slot_value slots (hand slots) ≡ plain) ⊎ IsCarried slots es) → es ≡ []
    → taken ≡ false → slot_value slots (hand slots) ≡ plain
free_plain slots taken es free none e =
    ⊎_elim (λ (f : slot_value slots (hand slots) ≡ plain). f) (λ (c : IsCarried slots es). absurd (subst (IsCarried slots) none c)) (free e)

pub hand_plain : (c : Frame) → FrameReady c → c.endings.list ≡ [] → c.taken ≡ false
    → slot_value c.registers.slots.items (hand c.registers.slots.items) ≡ plain
hand_plain c ready none e = free_plain c.registers.slots.items c.taken c.endings.list ready.free none e

-- what was taken goes to a slot below the hand
placed_ready : (k : ℕ) (slots : Slots) (es : List Ending) (ts : List Task) → 1 < length slots → TasksMayCome (other slots) false ts
    → (slot_value (placed k slots) (other (placed k slots)) ≡ plain) ⊎ DropsInTime ts → IsReady (placed k slots) false es ts
placed_ready k slots es ts lt r owes =
    let e = placed_length k slots in
    record {
      some = omega (arith, e);
      free = λ t. inl (placed_hand k slots lt);
      owes = owes;
      ready = ready_same slots (placed k slots) false ts e r;
    }

pub put_ready : (k : ℕ) (slots : Slots) (taken : Bool) (es : List Ending) (ts : List Task) → 1 < length slots → k < other slots
    → (taken ≡ false → IsFree slots es) → (slot_value slots (other slots) ≡ plain) ⊎ DropsInTime ts → TasksMayCome (other slots) false ts
    → IsReady (cond taken (placed k slots) slots) false es ts
put_ready k slots true es ts lt below free (inl e) r = placed_ready k slots es ts lt r (inl (placed_other k slots lt below e))
put_ready k slots true es ts lt below free (inr e) r = placed_ready k slots es ts lt r (inr e)
put_ready k slots false es ts lt below free owes r = record { some = lt; free = free; owes = owes; ready = r }

-- what is in hand, and goes nowhere, is to be dropped
swap_ready : (slots : Slots) (taken : Bool) (es : List Ending) (ts : List Task) → 1 < length slots → (taken ≡ false → IsFree slots es)
    → DropsInTime ts → TasksMayCome (other slots) false ts → IsReady (cond taken (placed (other slots) slots) slots) false es ts
swap_ready slots true es ts lt free drops r = placed_ready (other slots) slots es ts lt r (inr drops)
swap_ready slots false es ts lt free drops r = record { some = lt; free = free; owes = inr drops; ready = r }

pub drop_ready : (slots : Slots) (taken : Bool) (es : List Ending) (ts : List Task) → 1 < length slots → (taken ≡ false → IsFree slots es)
    → TasksMayCome (other slots) taken ts → IsReady (set slots (other slots) plain) taken es ts
drop_ready slots taken es ts lt free r =
    let x = set slots (other slots) plain in
    let e : length x ≡ length slots = length-set slots (other slots) plain in
    record {
      some = omega (arith, e, lt);
      free = λ t.
          free_same slots x es (ap (λ (n : ℕ). slot_value x (n - 1)) e
          ∙ get_or-set_other slots (other slots) (hand slots) plain plain (omega (arith, lt))) (free t);
      owes =
          inl (ap (λ (n : ℕ). slot_value x n) (other_same slots x e) ∙ get_or-set_same slots (other slots) plain plain (omega (arith, lt)));
      ready = ready_same slots x taken ts e r;
    }

weaker : (n : ℕ) (act : Act) → MayComeNext n true act → MayComeNext n false act
weaker n (Make form) b = (refl, b.1)
weaker n (Share k) b = (b.0, refl)
weaker n (Put k) b = b
weaker n (Leave k) b = (b.0, refl)
weaker n (Clear k) b = (b.0, refl)
weaker n (Count k) b = b
weaker n (Downgrade k) b = (b.0, refl)
weaker n (Lock k must) b = (b.0, refl)
weaker n (Expired k) b = b
weaker n (Read k) b = b
weaker n (FromThis k kind) b = (b.0, refl)
weaker n (Alias k j field) b = (b.0, b.1, refl)
weaker n (Move k) b = (b.0, refl)
weaker n (Ask q) b = b
weaker n (Offer k c) b = (b.0, b.1, refl)
weaker n (Swap c) b = b
weaker n (Exchange k c) b = (b.0, b.1, refl)
weaker n (Load c) b = (b.0, refl)
weaker n (Compare k c weak) b = b
weaker n (Holds k c) b = b
weaker n Drop b = refl
weaker n (OnShelf x) b = tt

ready_more : (n : ℕ) (act : Act) (ts : List Task) → (TasksMayCome n true ts → TasksMayCome n false ts) → TasksMayCome n (taken_after act true) ts
    → TasksMayCome n (taken_after act false) ts
ready_more n (Make form) ts f r = r
ready_more n (Share k) ts f r = r
ready_more n (Put k) ts f r = r
ready_more n (Leave k) ts f r = f r
ready_more n (Clear k) ts f r = f r
ready_more n (Count k) ts f r = f r
ready_more n (Downgrade k) ts f r = r
ready_more n (Lock k must) ts f r = r
ready_more n (Expired k) ts f r = f r
ready_more n (Read k) ts f r = f r
ready_more n (FromThis k kind) ts f r = r
ready_more n (Alias k j field) ts f r = r
ready_more n (Move k) ts f r = r
ready_more n (Ask q) ts f r = f r
ready_more n (Offer k c) ts f r = r
ready_more n (Swap c) ts f r = r
ready_more n (Exchange k c) ts f r = f r
ready_more n (Load c) ts f r = r
ready_more n (Compare k c weak) ts f r = r
ready_more n (Holds k c) ts f r = f r
ready_more n Drop ts f r = f r
ready_more n (OnShelf x) ts f r = f r

-- what is ready for a value in hand is ready for none
pub ready_any : (n : ℕ) (ts : List Task) → TasksMayCome n true ts → TasksMayCome n false ts
ready_any n [] r = refl
ready_any n (t ∷ ts) r = (weaker n t.act r.0, r.1, ready_more n t.act ts (ready_any n ts) r.2)

ready_past : (act : Act) (slots : Slots) (taken : Bool) (es : List Ending) (ts : List Task) → idle act slots taken ≡ true → 1 < length slots
    → (taken ≡ false → IsFree slots es) → (slot_value slots (other slots) ≡ plain) ⊎ dropping (DropsInTime ts) act
    → MayComeNext (other slots) taken act → MayFollow act ts → TasksMayCome (other slots) (taken_after act taken) ts
    → IsReady (slots_idle act slots taken) (taken_idle act taken) es ts
ready_past (Make form) slots taken es ts i lt free owes b f r = absurd (false≢true i)
ready_past (Share k) slots taken es ts i lt free owes b f r = absurd (false≢true i)
ready_past (Put k) slots taken es ts i lt free owes b f r = put_ready k slots taken es ts lt b free owes r
ready_past (Leave k) slots taken es ts i lt free owes b f r = absurd (false≢true i)
ready_past (Clear k) slots taken es ts i lt free owes b f r =
    record { some = lt; free = free; owes = ⊎_elim inl (λ (e : ⊥). absurd e) owes; ready = r }
ready_past (Count k) slots taken es ts i lt free owes b f r = absurd (false≢true i)
ready_past (Downgrade k) slots taken es ts i lt free owes b f r = absurd (false≢true i)
ready_past (Lock k must) slots taken es ts i lt free owes b f r = absurd (false≢true i)
ready_past (Expired k) slots taken es ts i lt free owes b f r = absurd (false≢true i)
ready_past (Read k) slots taken es ts i lt free owes b f r = absurd (false≢true i)
ready_past (FromThis k kind) slots taken es ts i lt free owes b f r = absurd (false≢true i)
ready_past (Alias k j field) slots taken es ts i lt free owes b f r = absurd (false≢true i)
ready_past (Move k) slots taken es ts i lt free owes b f r = absurd (false≢true i)
ready_past (Ask q) slots taken es ts i lt free owes b f r = absurd (false≢true i)
ready_past (Offer k c) slots taken es ts i lt free owes b f r = absurd (false≢true i)
ready_past (Swap c) slots taken es ts i lt free owes b f r = swap_ready slots taken es ts lt free f r
ready_past (Exchange k c) slots taken es ts i lt free owes b f r = absurd (false≢true i)
ready_past (Load c) slots taken es ts i lt free owes b f r = absurd (false≢true i)
ready_past (Compare k c weak) slots taken es ts i lt free owes b f r = swap_ready slots taken es ts lt free f (ready_any (other slots) ts r)
ready_past (Holds k c) slots taken es ts i lt free owes b f r = absurd (false≢true i)
ready_past Drop slots taken es ts i lt free owes b f r = drop_ready slots taken es ts lt free r
ready_past (OnShelf x) slots taken es ts i lt free owes b f r = absurd (false≢true i)

-- what the next act may rely on, and what is left to do after it
pub ready_head : (c : Frame) → c.at < length c.tasks.items → FrameReady c
    → MayComeNext (other c.registers.slots.items) c.taken (task_at c).act × MayFollow (task_at c).act (rest c)
    × TasksMayCome (other c.registers.slots.items) (taken_after (task_at c).act c.taken) (rest c)
ready_head c lt r = subst (λ (ts : List Task). TasksMayCome (other c.registers.slots.items) c.taken ts) (todo_at c lt) r.ready

pub owes_head : (c : Frame) → c.at < length c.tasks.items → FrameReady c
    → (slot_value c.registers.slots.items (other c.registers.slots.items) ≡ plain) ⊎ dropping (DropsInTime (rest c)) (task_at c).act
owes_head c lt r =
    subst (λ (ts : List Task). (slot_value c.registers.slots.items (other c.registers.slots.items) ≡ plain) ⊎ DropsInTime ts) (todo_at c lt) r.owes

-- nothing is to be dropped, where the next act neither drops it nor comes before one that does
pub owed_by : (c : Frame) (a : Act) → c.at < length c.tasks.items → FrameReady c → (task_at c).act ≡ a → (dropping (DropsInTime (rest c)) a → ⊥)
    → slot_value c.registers.slots.items (other c.registers.slots.items) ≡ plain
owed_by c a lt r act never =
    ⊎_elim (λ (e : slot_value c.registers.slots.items (other c.registers.slots.items) ≡ plain). e)
    (λ (e : dropping (DropsInTime (rest c)) (task_at c).act). absurd (never (subst (dropping (DropsInTime (rest c))) act e))) (owes_head c lt r)

pub passed_ready : (a b : Frame) → a.at < length a.tasks.items → idle (task_at a).act a.registers.slots.items a.taken ≡ true → IsPassed a b
    → FrameReady a → FrameReady b
passed_ready a b lt e p r =
    let h = ready_head a lt r in
    let k = ready_past (task_at a).act a.registers.slots.items a.taken a.endings.list (rest a) e r.some r.free (owes_head a lt r) h.0 h.1 h.2 in
    let slots = slots_idle (task_at a).act a.registers.slots.items a.taken in
    let taken = taken_idle (task_at a).act a.taken in
    let es : b.endings.list ≡ a.endings.list = ap (λ (x : Stack). x.list) p.endings in
    subst (λ (z : Slots). IsReady z b.taken b.endings.list (todo b)) (sym p.slots)
    (subst (λ (z : Bool). IsReady slots z b.endings.list (todo b)) (sym p.taken) (subst (λ (z : List Ending). IsReady slots taken z (todo b)) (sym es)
    (subst (λ (z : List Task). IsReady slots taken a.endings.list z) (sym (passed_todo a b p)) k)))

pub passed_within : (a b : Frame) → a.at < length a.tasks.items → IsPassed a b → b.at ≤ length b.tasks.items
passed_within a b lt p = subst
    (λ (z : ℕ). z ≤ length b.tasks.items) (sym p.at) (let e : length b.tasks.items ≡ length a.tasks.items = (let k = p.tasks in cc) in omega
    (arith, e, lt))
