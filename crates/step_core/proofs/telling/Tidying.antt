-- Names that hold something are left by a task to come, after each act.
use Rattle.std.proofs.Common.{◌≡◌, ℕ, ◌-◌, ◌<◌, Bool, true, false, cond, not, ◌≢◌, ◌⊎◌, List, []}
use Rattle.std.proofs.Common.{◌∷◌, length, slice_set, Some, None, Option, sym, refl, ap, ◌∙◌}
use Rattle.std.proofs.Common.{subst, inl, inr, ⊎_elim, arith, length-set, get_or-set_other}
use Rattle.std.proofs.Common.{get_or-set_same}
use Rattle.step_core.proofs.Prelude
use Prelude.{Act, Alias, came, cases_eq, Clear, Compare, cond_both, Downgrade, Drop, Ending, exact}
use Prelude.{Exchange, false≢true, Form, frame_settled, FrameView, FromThis, hand, Handle, holding}
use Prelude.{idle, is_expected, is_full, is_there, IsTidy, least, Leave, LeavesAll, LeavesName}
use Prelude.{Load, Lock, Make, may_go, Move, Offer, other, placed, plain, pointer_of, Put, row_in}
use Prelude.{Share, Slot, slot_pointer, slot_value, Slots, slots_idle, State, Swap, taken_idle}
use Prelude.{Task, went, with_end}
use Rattle.step_table.specs.Contents.{slots_swapped}
use Rattle.step_threads.specs.Rows.{Hands, compared, taking}

set_twice : (slots : Slots) (i j : ℕ) (x y : Slot) → length (slice_set (slice_set slots i x) j y) ≡ length slots
set_twice slots i j x y = length-set (slice_set slots i x) j y ∙ length-set slots i x

kept_or : (b : Bool) (slots x : Slots) → length x ≡ length slots → length (cond b x slots) ≡ length slots
kept_or b slots x same = cond_both b x slots (λ (l : Slots). length l ≡ length slots) (λ _. same) (λ _. refl)

-- an idle task leaves as many slots
pub idle_size : (a : Act) (slots : Slots) (taken : Bool) → length (slots_idle a slots taken) ≡ length slots
idle_size (Put k) slots taken =
    kept_or taken slots (placed k slots) (set_twice slots k (hand slots) (slot_value slots (hand slots)) plain)
idle_size (Swap c) slots taken =
    kept_or taken slots (placed (other slots) slots)
    (set_twice slots (other slots) (hand slots) (slot_value slots (hand slots)) plain)
idle_size (Compare k c weak) slots taken =
    kept_or taken slots (placed (other slots) slots)
    (set_twice slots (other slots) (hand slots) (slot_value slots (hand slots)) plain)
idle_size Drop slots taken = length-set slots (other slots) plain
idle_size _ slots taken = refl

holding_size : (slots : Slots) (null : Bool) (o : Option ℕ) → length (holding slots null o).0 ≡ length slots
holding_size slots null None = refl
holding_size slots null (Some b) = length-set slots (hand slots) _

taking_size : (slots : Slots) (must : Bool) (o : Option Handle) → length (taking slots must o).0 ≡ length slots
taking_size slots must None = refl
taking_size slots must (Some x) = length-set slots (hand slots) _

-- and so does an act
pub row_size : (s : State) (d : ℕ) (slots : Slots) (taken : Bool) (a : Act)
    → length (row_in exact s d slots taken a).slots ≡ length slots
row_size s d slots taken (Make form) = holding_size slots form.null (least d s.stores)
row_size s d slots taken (Share k) = length-set slots (hand slots) _
row_size s d slots taken (Put k) = set_twice (slice_set slots k plain) k _ _ plain ∙ length-set slots k plain
row_size s d slots taken (Leave k) = length-set slots k plain
row_size s d slots taken (Clear k) = length-set slots k plain
row_size s d slots taken (Downgrade k) = length-set slots (hand slots) _
row_size s d slots taken (Lock k must) = taking_size slots must _
row_size s d slots taken (FromThis k kind) = taking_size slots true _
row_size s d slots taken (Alias k j field) = length-set slots (hand slots) _
row_size s d slots taken (Move k) = set_twice slots (hand slots) k (slot_value slots k) plain
row_size s d slots taken (Offer k c) =
    cond_both (is_there slots c) (slice_set slots (hand slots) _, true) (slots, taken)
    (λ (x : Hands). length x.0 ≡ length slots)
    (λ _. length-set slots (hand slots) _) (λ _. refl)
row_size s d slots taken (Swap c) =
    kept_or (may_go slots c (hand slots)) slots (slots_swapped (hand slots) (other slots) slots (came s slots c))
    (set_twice slots (other slots) (hand slots) (came s slots c) plain)
row_size s d slots taken (Exchange k c) =
    kept_or (may_go slots c k) slots (slice_set slots k (came s slots c)) (length-set slots k (came s slots c))
row_size s d slots taken (Load c) =
    cond_both (is_there slots c) (slice_set slots (hand slots) (came s slots c), true) (slots, taken)
    (λ (x : Hands). length x.0 ≡ length slots)
    (λ _. length-set slots (hand slots) (came s slots c)) (λ _. refl)
row_size s d slots taken (Compare k c weak) = go (is_expected s slots k c)
  where
    go : (b : Bool) → length (compared slots (came s slots c) b).0 ≡ length slots
    go true = set_twice slots (other slots) (hand slots) (came s slots c) plain
    go false = set_twice slots (other slots) (hand slots) (slot_value slots (hand slots)) (came s slots c)
row_size s d slots taken Drop = length-set slots (other slots) plain
row_size s d slots taken _ = refl

abbrev name_of : Act → ℕ
name_of (Clear i) = i
name_of _ = 0

not_full : (b : Bool) → not b ≡ true → b ≡ true → ⊥
not_full true e f = false≢true e
not_full false e f = false≢true f

slot_kept : (slots : Slots) (i j : ℕ) (x : Slot) → i ≢ j
    → is_full (slot_pointer (slice_set slots j x) i) ≡ is_full (slot_pointer slots i)
slot_kept slots i j x ne = ap (λ (y : Slot). is_full (pointer_of y)) (get_or-set_other slots j i x plain ne)

-- what is full of n names is left by these tasks
abbrev Named : ℕ → Slots → List Task → Type 0
Named n slots ts = (i : ℕ) → i < n → is_full (slot_pointer slots i) ≡ true → LeavesName i ts

-- a task that leaves a name, or has all names left behind it
abbrev Heads : ℕ → Task → List Task → Type 0
Heads n t ts = ((j : ℕ) × (t.act ≡ Clear j)) ⊎ ((i : ℕ) → i < n → LeavesName i ts)

-- the name that is left isn't this one
others_left : (i j : ℕ) (t : Task) (ts : List Task) → t.act ≡ Clear j → i ≢ j → LeavesName i (t ∷ ts) → LeavesName i ts
others_left i j t ts is ne (inl p) = absurd (ne (ap name_of (sym p ∙ is)))
others_left i j t ts is ne (inr q) = q

idle_names : (n : ℕ) (slots : Slots) (taken : Bool) (t : Task) (ts : List Task) → idle t.act slots taken ≡ true
    → Named n slots (t ∷ ts) → Heads n t ts
    → Named n (slots_idle t.act slots taken) ts
idle_names n slots taken t ts e names (inr all) = λ i lt full. all i lt
idle_names n slots taken t ts e names (inl p) = λ i lt full.
    let held = subst (λ (a : Act). is_full (slot_pointer (slots_idle a slots taken) i) ≡ true) p.1 full in
    let free = subst (λ (a : Act). idle a slots taken ≡ true) p.1 e in
    others_left i p.0 t ts p.1 (λ same. not_full (is_full (slot_pointer slots i))
    (subst (λ (k : ℕ). not (is_full (slot_pointer slots k)) ≡ true) (sym same) free) held)
    (names i lt held)

settled_tidy : (n : ℕ) (slots : Slots) (taken : Bool) (es : List Ending) (ts : List Task) → length slots - 2 ≡ n
    → Named n slots ts → LeavesAll n ts
    → IsTidy (frame_settled slots taken es ts)
settled_tidy n slots taken es [] size names all =
    record { names = λ i lt full. names i (omega (arith, lt, size)) full; all = tt }
settled_tidy n slots taken es (t ∷ ts) size names all =
    let l = idle_size t.act slots taken in
    cond_both (idle t.act slots taken) (frame_settled (slots_idle t.act slots taken) (taken_idle t.act taken) es ts)
    (record { slots = slots; taken = taken; endings = es; todo = t ∷ ts }) IsTidy
    (λ e. settled_tidy n (slots_idle t.act slots taken) (taken_idle t.act taken) es ts (omega (arith, l, size))
    (idle_names n slots taken t ts e names all.0) all.1)
    (λ e. record {
      names = λ i lt full. names i (omega (arith, lt, size)) full;
      all =
          subst (λ (k : ℕ). LeavesAll k (t ∷ ts)) (sym size) all;
    })

-- where all names are left behind it, any act may come
pub any_tidy : (s : State) (d k : ℕ) (w : FrameView) (ts : List Task) (a : Act)
    → ((i : ℕ) → i < other w.slots → LeavesName i ts) → LeavesAll (other w.slots) ts
    → IsTidy (went s d w k ts a)
any_tidy s d k w ts a left all =
    let x = row_in exact s d w.slots w.taken a in
    let l = row_size s d w.slots w.taken a in
    settled_tidy (other w.slots) x.slots x.taken (with_end k x.ending w.endings) ts (omega (arith, l))
    (λ i lt full. left i lt) all

-- a name that is left holds nothing
emptied : (slots : Slots) (j : ℕ) → j < length slots → is_full (slot_pointer (slice_set slots j plain) j) ≡ false
emptied slots j lt = ap (λ (y : Slot). is_full (pointer_of y)) (get_or-set_same slots j plain plain lt)

-- the next act is made
pub went_tidy : (s : State) (d k : ℕ) (w : FrameView) (t : Task) (ts : List Task) → w.todo ≡ t ∷ ts → IsTidy w
    → IsTidy (went s d w k ts t.act)
went_tidy s d k w t ts is tidy = go all.0
  where
    all : LeavesAll (other w.slots) (t ∷ ts)
    all = subst (LeavesAll (other w.slots)) is tidy.all

    cleared : (j : ℕ) → t.act ≡ Clear j → Named (other w.slots) (slice_set w.slots j plain) ts
    cleared j e = λ i lt full.
        ⊎_elim
        (λ (same : i ≡ j). absurd (false≢true (sym (emptied w.slots j (omega (arith, lt, same)))
        ∙ subst (λ (m : ℕ). is_full (slot_pointer (slice_set w.slots j plain) m) ≡ true) same full)))
        (λ (ne : i ≢ j). others_left i j t ts e ne
        (subst (LeavesName i) is (tidy.names i lt (sym (slot_kept w.slots i j plain ne) ∙ full))))
        (cases_eq i j)

    go : Heads (other w.slots) t ts → IsTidy (went s d w k ts t.act)
    go (inr left) = any_tidy s d k w ts t.act left all.1
    go (inl p) =
        let l = length-set w.slots p.0 plain in
        subst (λ (a : Act). IsTidy (went s d w k ts a)) (sym p.1)
        (settled_tidy (other w.slots) (slice_set w.slots p.0 plain) w.taken
        _ ts (omega (arith, l))
        (cleared p.0 p.1) all.1)

-- a make comes into the hand, or is refused
pub make_tidy : (w : FrameView) (t : Task) (ts : List Task) (form : Form) (slots : Slots) (taken : Bool) → w.todo ≡ t ∷ ts
    → t.act ≡ Make form
    → length slots ≡ length w.slots → IsTidy w → IsTidy (frame_settled slots taken w.endings ts)
make_tidy w t ts form slots taken is make size tidy =
    let all : LeavesAll (other w.slots) (t ∷ ts) = subst (LeavesAll (other w.slots)) is tidy.all in
    settled_tidy (other w.slots) slots taken w.endings ts (omega (arith, size)) (λ i lt full. left all.0 i lt) all.1
  where
    left : Heads (other w.slots) t ts → (i : ℕ) → i < other w.slots → LeavesName i ts
    left (inl p) = absurd (let e = sym make ∙ p.1 in cc)
    left (inr f) = f

-- the slots of names are as they were
held_names : (w : FrameView) (x : Slot) → IsTidy w → Named (other w.slots) (slice_set w.slots (hand w.slots) x) w.todo
held_names w x tidy = λ i lt full.
    tidy.names i lt (sym (slot_kept w.slots i (hand w.slots) x (λ e. let z = e in omega (arith, lt, z))) ∙ full)

-- something comes into the hand
pub hand_tidy : (w : FrameView) (x : Slot) (es : List Ending) → IsTidy w
    → IsTidy (record { slots = slice_set w.slots (hand w.slots) x; taken = w.taken; endings = es; todo = w.todo })
hand_tidy w x es tidy =
    let l = length-set w.slots (hand w.slots) x in
    record {
      names = λ i lt full. held_names w x tidy i (omega (arith, lt, l)) full;
      all = subst (λ (k : ℕ). LeavesAll k w.todo) (omega (arith, l)) tidy.all;
    }

-- what is in hand leaves
pub left_tidy : (s : State) (d k : ℕ) (w : FrameView) → IsTidy w → IsTidy (went s d w k w.todo (Leave (hand w.slots)))
left_tidy s d k w tidy =
    let l = length-set w.slots (hand w.slots) plain in
    settled_tidy (other w.slots) (slice_set w.slots (hand w.slots) plain) w.taken
    _ w.todo
    (omega (arith, l)) (held_names w plain tidy) tidy.all

-- a thread begins so, with all names empty
pub fresh_tidy : (slots : Slots) (ts : List Task) → ((i : ℕ) → slot_pointer slots i ≡ None) → LeavesAll (other slots) ts
    → IsTidy (frame_settled slots false [] ts)
fresh_tidy slots ts none all =
    settled_tidy (other slots) slots false [] ts refl
    (λ i lt full. absurd (false≢true (sym (ap is_full (none i)) ∙ full))) all
