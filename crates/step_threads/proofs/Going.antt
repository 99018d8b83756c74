-- What the frame of a thread relies on after an act, by what the act did to its slots.
use Rattle.std.proofs.Common.{◌≡◌, ℕ, ◌-◌, ◌<◌, Bool, true, false, cond, ◌||◌, ◌≢◌, ◌⊎◌, []}
use Rattle.std.proofs.Common.{length, set, Some, None, Option, option_map, sym, refl, ap, ◌∙◌}
use Rattle.std.proofs.Common.{subst, inl, inr, ⊎_elim, arith, length-set, get_or-set_other}
use Rattle.std.proofs.Common.{get_or-set_same}
use Rattle.step_threads.proofs.Prelude
use Prelude.{Act, aliased, as_weak, CellName, Clear, Compare, cond-false, cond-true, cond_both}
use Prelude.{differed, Drop, dropping, DropsInTime, Empty, false≢true, filled, fitting, Frame}
use Prelude.{FrameReady, Full, hand, Handle, inside, is_of, is_there, IsReady, Kind, kind_at}
use Prelude.{Leave, MayComeNext, MayFollow, offered, other, owner_slot, Place, place_in, placed}
use Prelude.{plain, pointer_of, Put, rest, Slot, slot_pointer, slot_value, Slots, slots_swapped}
use Prelude.{Swap, taken_after, task_at, TasksMayCome, weak_slot}
use Rattle.step_table.specs.declared.memory.field.Field.{Field}
use Rattle.std.proofs.lemmas.List.{set-get_or}
use Rattle.step_table.specs.Registers.{place_of}
use Rattle.step_table.proofs.holding.Slots.{full_is}
use Rattle.step_threads.proofs.Frames.{drop_ready, free_same, hand_plain, owed_by, owes_head}
use Rattle.step_threads.proofs.Frames.{put_ready, ready_head, ready_same}
use Rattle.step_threads.proofs.Hands.{hand_ready}

module _ (slots : Slots) (k : ℕ) (x : Slot) (some : 1 < length slots) (below : k < other slots) where
  set_hand : slot_value (set slots k x) (hand (set slots k x)) ≡ slot_value slots (hand slots)
  set_hand =
      ap (λ (n : ℕ). slot_value (set slots k x) (n - 1)) (length-set slots k x)
      ∙ get_or-set_other slots k (hand slots) x plain (omega (arith, some, below))

  set_other : slot_value (set slots k x) (other (set slots k x)) ≡ slot_value slots (other slots)
  set_other =
      ap (λ (n : ℕ). slot_value (set slots k x) (n - 2)) (length-set slots k x)
      ∙ get_or-set_other slots k (other slots) x plain (omega (arith, some, below))

-- what was found in the slot of a name
pub found_at : (slots : Slots) (k n : ℕ) (o o' : Option Handle) → o ≡ slot_pointer slots n → n ≡ k → o ≡ o' → slot_pointer slots k ≡ o'
found_at slots k n o o' found is same = ap (slot_pointer slots) (sym is) ∙ sym found ∙ same

-- a name's number is one of a slot
pub named_slot : (slots : Slots) (k n : ℕ) → k < other slots → n ≡ k → n < length slots
named_slot slots k n below is = omega (arith, below, is)

empty_value : (x : Slot) → pointer_of x ≡ None → Empty (place_of x) ≡ x
empty_value (Empty p) e = refl
empty_value (Full x) e = cc

-- a copy of an empty pointer, or of one that has an object, is in hand
pub empty_copy : (slots : Slots) (k n h : ℕ) (o : Option Handle) (p : Option Place) (l : Slots)
    → l ≡ set slots h (Empty p) → o ≡ slot_pointer slots n
    → p ≡ place_in slots n → n ≡ k → h ≡ hand slots → o ≡ None → l ≡ set slots (hand slots) (slot_value slots k)
empty_copy slots k n h o p l made found at is held none =
    made ∙ ap (λ (i : ℕ). set slots i (Empty p)) held
    ∙ ap (set slots (hand slots)) (ap (λ (q : Option Place). Empty q) (at ∙ ap (place_in slots) is)
    ∙ empty_value (slot_value slots k) (found_at slots k n o None found is none))

pub full_copy : (slots : Slots) (k n h : ℕ) (o : Option Handle) (x : Handle) (l : Slots) → l ≡ set slots h (Full x) → o ≡ slot_pointer slots n
    → n ≡ k → h ≡ hand slots → o ≡ Some x → l ≡ set slots (hand slots) (slot_value slots k)
full_copy slots k n h o x l made found is held some =
    made ∙ ap (λ (i : ℕ). set slots i (Full x)) held
    ∙ ap (set slots (hand slots)) (sym (full_is (slot_value slots k) x (found_at slots k n o (Some x) found is some)))

pub weak_copy : (slots : Slots) (k n h : ℕ) (o : Option Handle) (x : Handle) (l : Slots)
    → l ≡ set slots h (Full (as_weak x)) → o ≡ slot_pointer slots n
    → n ≡ k → h ≡ hand slots → o ≡ Some x → l ≡ set slots (hand slots) (filled (option_map as_weak (slot_pointer slots k)))
weak_copy slots k n h o x l made found is held some =
    made ∙ ap (λ (i : ℕ). set slots i (Full (as_weak x))) held
    ∙ sym (ap (λ (q : Option Handle). set slots (hand slots) (filled (option_map as_weak q))) (found_at slots k n o (Some x) found is some))

-- a value that may go into a cell is offered, and no other
pub may_go_at : (slots : Slots) (c : CellName) (k n : ℕ) (b t : Bool) → b ≡ is_of (kind_at c) (slot_value slots n) → n ≡ k → b ≡ t
    → is_of (kind_at c) (slot_value slots k) ≡ t
may_go_at slots c k n b t may is said = ap (λ (i : ℕ). is_of (kind_at c) (slot_value slots i)) (sym is) ∙ sym may ∙ said

pub fitting_is : (q : Kind) (x : Slot) → is_of q x ≡ true → fitting q x ≡ x
fitting_is q x is = cond-true (is_of q x) x plain is

pub fitting_not : (q : Kind) (x : Slot) → is_of q x ≡ false → fitting q x ≡ plain
fitting_not q x is = cond-false (is_of q x) x plain is

pub offered_fits : (slots : Slots) (k : ℕ) (c : CellName) → is_there slots c ≡ true → is_of (kind_at c) (slot_value slots k) ≡ true
    → offered slots k c ≡ slot_pointer slots k
offered_fits slots k c there is =
    cond-true (is_there slots c) (pointer_of (fitting (kind_at c) (slot_value slots k))) None there
    ∙ ap pointer_of (fitting_is (kind_at c) (slot_value slots k) is)

pub offered_not : (slots : Slots) (k : ℕ) (c : CellName) → is_of (kind_at c) (slot_value slots k) ≡ false → offered slots k c ≡ None
offered_not slots k c is =
    ap (λ (x : Slot). cond {A = Option Handle} (is_there slots c) (pointer_of x) None) (fitting_not (kind_at c) (slot_value slots k) is)
    ∙ cond_both {A = Option Handle} (is_there slots c) None None (λ (o : Option Handle). o ≡ None) (λ t. refl) (λ t. refl)

-- the owner of a name, and the place of an alias
pub owner_at : (slots : Slots) (k n : ℕ) (o o' : Option Handle) → o ≡ owner_slot (slot_pointer slots n) → n ≡ k → o ≡ o'
    → owner_slot (slot_pointer slots k) ≡ o'
owner_at slots k n o o' found is same = ap (λ (i : ℕ). owner_slot (slot_pointer slots i)) (sym is) ∙ sym found ∙ same

pub place_as : (slots : Slots) (j n : ℕ) (p q : Option Place) (field : Option Field) → q ≡ aliased field p → p ≡ place_in slots n → n ≡ j
    → q ≡ aliased field (place_in slots j)
place_as slots j n p q field made at is = made ∙ ap (aliased field) (at ∙ ap (place_in slots) is)

pub or_right : (a b : Bool) → b ≡ true → (a || b) ≡ true
or_right true b e = refl
or_right false b e = e

-- the weak pointer of a name
pub found_weak : (slots : Slots) (k n : ℕ) (o o' : Option Handle) → o ≡ weak_slot (slot_pointer slots n) → n ≡ k → o ≡ o'
    → weak_slot (slot_pointer slots k) ≡ o'
found_weak slots k n o o' found is same = ap (λ (i : ℕ). weak_slot (slot_pointer slots i)) (sym is) ∙ sym found ∙ same

-- the owner of a name that points into its object
pub found_inside : (slots : Slots) (k n : ℕ) (o o' : Option Handle) → o ≡ inside (slot_pointer slots n) → n ≡ k → o ≡ o'
    → inside (slot_pointer slots k) ≡ o'
found_inside slots k n o o' found is same = ap (λ (i : ℕ). inside (slot_pointer slots i)) (sym is) ∙ sym found ∙ same

-- a slot became another, and all are there still
pub kept_slot : (slots l : Slots) (i n : ℕ) (x : Slot) → l ≡ set slots i x → n < length slots → n < length l
kept_slot slots l i n x made lt = let e : length l ≡ length slots = ap length made ∙ length-set slots i x in omega (arith, e, lt)

pub emptied_slot : (slots l : Slots) (i : ℕ) → l ≡ set slots i plain → i < length slots → slot_pointer l i ≡ None
emptied_slot slots l i made lt = ap (λ (y : Slots). slot_pointer y i) made ∙ ap pointer_of (get_or-set_same slots i plain plain lt)

-- the hand is no name's
pub apart_hand : (slots : Slots) (k n h : ℕ) → 1 < length slots → k < other slots → n ≡ k → h ≡ hand slots → h ≢ n
apart_hand slots k n h some below is held e = absurd (omega (arith, some, below, is, held, e))

-- a name was left, and got what was in hand
pub placed_as : (slots : Slots) (k n h : ℕ) (l m : Slots) → l ≡ set slots n plain
    → m ≡ set (set l n (slot_value l h)) h plain → n ≡ k → h ≡ hand slots
    → m ≡ placed k (set slots k plain)
placed_as slots k n h l m left made is held =
    let y = set slots k plain in
    let at : h ≡ hand y = held ∙ sym (ap (λ (i : ℕ). i - 1) (length-set slots k plain)) in
    made ∙ ap (λ (z : Slots). set (set z n (slot_value z h)) h plain) (left ∙ ap (λ (i : ℕ). set slots i plain) is)
    ∙ ap (λ (i : ℕ). set (set y i (slot_value y h)) h plain) is ∙ ap (λ (i : ℕ). set (set y k (slot_value y i)) i plain) at

-- the hand is a slot
pub hand_in : (c : Frame) → FrameReady c → (h : ℕ) → h ≡ hand c.registers.slots.items → h < length c.registers.slots.items
hand_in c ready h is = let some = ready.some in omega (arith, some, is)

module _ (c : Frame) (a : Act) (lt : c.at < length c.tasks.items) (ready : FrameReady c) (act : (task_at c).act ≡ a) where
  -- the act may come here
  pub comes : MayComeNext (other c.registers.slots.items) c.taken a
  comes = subst (MayComeNext (other c.registers.slots.items) c.taken) act (ready_head c lt ready).0

  -- and so may the tasks after it
  pub follows : TasksMayCome (other c.registers.slots.items) (taken_after a c.taken) (rest c)
  follows = subst (λ (b : Act). TasksMayCome (other c.registers.slots.items) (taken_after b c.taken) (rest c)) act (ready_head c lt ready).2

  module _ (never : dropping (DropsInTime (rest c)) a → ⊥) where
    owed : slot_value c.registers.slots.items (other c.registers.slots.items) ≡ plain
    owed = owed_by c a lt ready act never

    -- it leaves the slots as they are
    pub stays_ready : taken_after a c.taken ≡ c.taken → IsReady c.registers.slots.items c.taken c.endings.list (rest c)
    stays_ready same =
        record {
          some = ready.some;
          free = ready.free;
          owes = inl owed;
          ready = subst (λ (t : Bool). TasksMayCome (other c.registers.slots.items) t (rest c)) same follows;
        }

    -- it takes a value, which is plain
    pub plain_ready : taken_after a c.taken ≡ true → IsReady c.registers.slots.items true c.endings.list (rest c)
    plain_ready takes =
        record {
          some = ready.some;
          free = λ t. absurd (false≢true (sym t));
          owes = inl owed;
          ready = subst (λ (t : Bool). TasksMayCome (other c.registers.slots.items) t (rest c)) takes follows;
        }

    -- it takes a value into the hand
    pub takes_ready : (x : Slot) → taken_after a c.taken ≡ true
        → IsReady (set c.registers.slots.items (hand c.registers.slots.items) x) true c.endings.list (rest c)
    takes_ready x takes =
        hand_ready c.registers.slots.items x true c.endings.list c.endings.list (rest c) (plain_ready takes) (λ t. absurd (false≢true (sym t)))

    -- it gives a name another value
    pub sets_ready : (k : ℕ) (x : Slot) → k < other c.registers.slots.items → taken_after a c.taken ≡ c.taken
        → IsReady (set c.registers.slots.items k x) c.taken c.endings.list (rest c)
    sets_ready k x below same =
        let slots = c.registers.slots.items in
        let some = ready.some in
        let n = length-set slots k x in
        let s = stays_ready same in
        record {
          some = omega (arith, n, some);
          free = λ t. free_same slots (set slots k x) c.endings.list (set_hand slots k x some below) (ready.free t);
          owes = inl (set_other slots k x some below ∙ owed);
          ready = ready_same slots (set slots k x) c.taken (rest c) n s.ready;
        }

-- a name is left
pub leaves_ready : (c : Frame) (k : ℕ) → c.at < length c.tasks.items → FrameReady c → ((task_at c).act ≡ Leave k) ⊎ ((task_at c).act ≡ Clear k)
    → IsReady (set c.registers.slots.items k plain) c.taken c.endings.list (rest c)
leaves_ready c k lt ready act =
    ⊎_elim (λ e. sets_ready c (Leave k) lt ready e (λ q. q) k plain (comes c (Leave k) lt ready e).0 refl)
    (λ e. sets_ready c (Clear k) lt ready e (λ q. q) k plain (comes c (Clear k) lt ready e).0 refl) act

-- a name that is left or cleared is a slot
pub left_name : (c : Frame) (k : ℕ) → c.at < length c.tasks.items → FrameReady c → ((task_at c).act ≡ Leave k) ⊎ ((task_at c).act ≡ Clear k)
    → k < other c.registers.slots.items
left_name c k lt ready act =
    ⊎_elim (λ e. (comes c (Leave k) lt ready e).0) (λ e. (comes c (Clear k) lt ready e).0) act

-- a name is left, and gets what is in hand
pub puts_ready : (c : Frame) (k : ℕ) → c.at < length c.tasks.items → FrameReady c → (task_at c).act ≡ Put k
    → IsReady (placed k (set c.registers.slots.items k plain)) false c.endings.list (rest c)
puts_ready c k lt ready act =
    let slots = c.registers.slots.items in
    let l = set slots k plain in
    let n = length-set slots k plain in
    let some = ready.some in
    let below = comes c (Put k) lt ready act in
    let owes : (slot_value slots (other slots) ≡ plain) ⊎ DropsInTime (rest c) =
    subst (λ (b : Act). (slot_value slots (other slots) ≡ plain) ⊎ dropping (DropsInTime (rest c)) b) act (owes_head c lt ready) in
    put_ready k l true c.endings.list (rest c) (omega (arith, n, some)) (omega (arith, n, below)) (λ t. absurd (false≢true (sym t)))
    (⊎_elim (λ (e : slot_value slots (other slots) ≡ plain). inl (set_other slots k plain some below ∙ e)) inr owes)
    (ready_same slots l false (rest c) n (follows c (Put k) lt ready act))

-- the slot behind the names is one, is not the hand, and is empty before an act that drops nothing
pub other_in : (c : Frame) → FrameReady c → (o : ℕ) → o ≡ other c.registers.slots.items → o < length c.registers.slots.items
other_in c ready o is = let some = ready.some in omega (arith, some, is)

pub apart_other : (c : Frame) → FrameReady c → (h o : ℕ) → h ≡ hand c.registers.slots.items → o ≡ other c.registers.slots.items → h ≢ o
apart_other c ready h o held is e = let some = ready.some in absurd (omega (arith, some, held, is, e))

pub other_bare : (c : Frame) (a : Act) → c.at < length c.tasks.items → FrameReady c → (task_at c).act ≡ a
    → (dropping (DropsInTime (rest c)) a → ⊥)
    → (o : ℕ) → o ≡ other c.registers.slots.items → slot_pointer c.registers.slots.items o ≡ None
other_bare c a lt ready act never o is = ap (slot_pointer c.registers.slots.items) is ∙ ap pointer_of (owed_by c a lt ready act never)

-- what comes out of a cell is to be dropped
pub swaps_ready : (c : Frame) (x : CellName) (y : Slot) → c.at < length c.tasks.items → FrameReady c → (task_at c).act ≡ Swap x
    → IsReady (slots_swapped (hand c.registers.slots.items) (other c.registers.slots.items) c.registers.slots.items y) false c.endings.list (rest c)
swaps_ready c x y lt ready act =
    let slots = c.registers.slots.items in
    let n = other slots in
    let l = slots_swapped (hand slots) n slots y in
    let m = length-set slots n y in
    let e : length l ≡ length slots = length-set (set slots n y) (hand slots) plain ∙ m in
    let some = ready.some in
    record {
      some = omega (arith, e, some);
      free = λ t. inl (ap (λ (i : ℕ). slot_value l (i - 1)) e ∙ get_or-set_same (set slots n y) (hand slots) plain plain (omega (arith, m, some)));
      owes = inr (subst (λ (a : Act). MayFollow a (rest c)) act (ready_head c lt ready).1);
      ready = ready_same slots l false (rest c) e (follows c (Swap x) lt ready act);
    }

-- what is in hand is to be dropped, and another value in its place
pub differs_ready : (c : Frame) (k : ℕ) (x : CellName) (weak : Bool) (y : Slot) → c.at < length c.tasks.items → FrameReady c
    → (task_at c).act ≡ Compare k x weak
    → IsReady (differed (hand c.registers.slots.items) (other c.registers.slots.items) c.registers.slots.items y) true c.endings.list (rest c)
differs_ready c k x weak y lt ready act =
    let slots = c.registers.slots.items in
    let z = slot_value slots (hand slots) in
    let l = differed (hand slots) (other slots) slots y in
    let e : length l ≡ length slots = length-set (set slots (other slots) z) (hand slots) y ∙ length-set slots (other slots) z in
    let some = ready.some in
    record {
      some = omega (arith, e, some);
      free = λ t. absurd (false≢true (sym t));
      owes = inr (subst (λ (a : Act). MayFollow a (rest c)) act (ready_head c lt ready).1);
      ready = ready_same slots l true (rest c) e (follows c (Compare k x weak) lt ready act);
    }

-- what is to be dropped leaves
pub drops_ready : (c : Frame) → c.at < length c.tasks.items → FrameReady c → (task_at c).act ≡ Drop
    → IsReady (set c.registers.slots.items (other c.registers.slots.items) plain) c.taken c.endings.list (rest c)
drops_ready c lt ready act = drop_ready c.registers.slots.items c.taken c.endings.list (rest c) ready.some ready.free (follows c Drop lt ready act)

-- the hand is empty where nothing was taken
pub hand_bare : (c : Frame) → FrameReady c → c.endings.list ≡ [] → c.taken ≡ false
    → slot_pointer c.registers.slots.items (hand c.registers.slots.items) ≡ None
hand_bare c ready none e = ap pointer_of (hand_plain c ready none e)

-- and stays as it is
pub hand_stays : (c : Frame) → FrameReady c → c.endings.list ≡ [] → c.taken ≡ false
    → set c.registers.slots.items (hand c.registers.slots.items) plain ≡ c.registers.slots.items
hand_stays c ready none e =
    let slots = c.registers.slots.items in
    ap (set slots (hand slots)) (sym (hand_plain c ready none e)) ∙ set-get_or slots (hand slots) plain
