-- What an act does to the totals of a history, and to the parts that endings have left.
use Rattle.std.proofs.Common.{◌≡◌, ℕ, ◌+◌, ◌*◌, ◌≤◌, Bool, true, false, cond, List, Some, None}
use Rattle.std.proofs.Common.{Option, option_map, refl, arith}
use Rattle.script_stepper.proofs.Prelude
use Prelude.{Act, acted, Alias, Ask, Clear, Compare, Count, Downgrade, Drop, ended_in, Ending}
use Prelude.{exact, Exchange, Expired, Form, FromThis, giving, Handle, History, Holds, inside}
use Prelude.{is_there, Kind, leads, least, Leave, Load, Lock, made_in, Make, may_go, Move, Offer}
use Prelude.{offered, OnShelf, Opening, other, Owner, owner_slot, parts_left, place_in, Put, Read}
use Prelude.{Share, Shelve, slot_pointer, Slots, State, Swap, Unshelve, Weak, with_end}
use Rattle.step_threads.specs.declared.programs.act.ShelfAct.{ShelfAct}
use Rattle.step_threads.specs.Shelving.{shelf_block, shelf_step}
use Rattle.step_table.specs.declared.memory.ghost_history.AtomicStep.{AtomicStep}
use Rattle.step_table.specs.GhostStates.{event_added, event_of}
use Rattle.step_threads.specs.Frames.{Going, going, locked_pointer, on_going}
use Rattle.step_table.specs.AtomicSteps.{alias, aliased, downgrade, give, is_last, leave, leave_as}
use Rattle.step_table.specs.AtomicSteps.{lock, read_atomic_step, share, share_as, tell_count}
use Rattle.step_table.specs.AtomicSteps.{tell_expired}
use Rattle.step_threads.specs.Rows.{ending_as}
use Rattle.step_core.proofs.telling.Leaves.{begun_by, leaves_by}
use Rattle.step_core.proofs.Entries.{history_asks, history_compares, does, loads, make_step}
use Rattle.step_core.proofs.Entries.{history_swaps}

-- how many objects an act makes at most
abbrev pub may_make : Act → ℕ
may_make (Make form) = 1
may_make _ = 0

-- at most so many objects were made, and so many last owners left, whose objects now have all parts of their ends left
pub record Tally (most : ℕ) (h : History) (es : List Ending) (h' : History) (es' : List Ending) : Type 0 where
  pub made : made_in h' ≤ made_in h + most
  pub last : ℕ
  pub ended : ended_in h' ≡ ended_in h + last
  pub parts : parts_left es' ≡ parts_left es + 4 * last

same : (most : ℕ) (h h' : History) (es : List Ending) → made_in h' ≡ made_in h → ended_in h' ≡ ended_in h → Tally most h es h' es
same most h h' es m e =
    record { made = omega (arith, m); last = 0; ended = omega (arith, e); parts = omega arith }

same_if : (b : Bool) (h h' : History) (es : List Ending) → made_in h' ≡ made_in h → ended_in h' ≡ ended_in h
    → Tally 0 h es (cond b h' h) es
same_if true h h' es m e = same 0 h h' es m e
same_if false h h' es m e = same 0 h h es refl refl

-- an atomic step on what a slot holds, which neither makes an object nor ends one
same_by : (z : Opening) (d : ℕ) (h : History) (es : List Ending) (f : Handle → AtomicStep) (x : Option Handle)
    → ((p : Handle) → made_in (event_added d (event_of (leads z h) (f p)) h) ≡ made_in h)
    → ((p : Handle) → ended_in (event_added d (event_of (leads z h) (f p)) h) ≡ ended_in h) → Tally 0 h es (does z d h (option_map f x)) es
same_by z d h es f None m e = same 0 h h es refl refl
same_by z d h es f (Some p) m e = same 0 h (event_added d (event_of (leads z h) (f p)) h) es (m p) (e p)

make_tally : (z : Opening) (d : ℕ) (form : Form) (h : History) (es : List Ending) (b : Option ℕ)
    → Tally 1 h es (does z d h (option_map (make_step form) b)) es
make_tally z d form h es None = same 1 h h es refl refl
make_tally z d form h es (Some b) = record { made = omega arith; last = 0; ended = omega arith; parts = omega arith }

shared_made : (d : ℕ) (h : History) (s : State) (p : Handle) (k : Kind) → made_in (event_added d (event_of s (share_as k p)) h) ≡ made_in h
shared_made d h s p Owner = refl
shared_made d h s p Weak = refl

shared_ended : (d : ℕ) (h : History) (s : State) (p : Handle) (k : Kind) → ended_in (event_added d (event_of s (share_as k p)) h) ≡ ended_in h
shared_ended d h s p Owner = refl
shared_ended d h s p Weak = refl

given_made : (d : ℕ) (h : History) (s : State) (p : Handle) (k : Kind) → made_in (event_added d (event_of s (give k p)) h) ≡ made_in h
given_made d h s p Owner = refl
given_made d h s p Weak = refl

given_ended : (d : ℕ) (h : History) (s : State) (p : Handle) (k : Kind) → ended_in (event_added d (event_of s (give k p)) h) ≡ ended_in h
given_ended d h s p Owner = refl
given_ended d h s p Weak = refl

-- a pointer leaves, and its object ends or not
left_one : (d k : ℕ) (h : History) (es : List Ending) (s : State) (p : Handle) (kind : Kind) (last : Bool)
    → Tally 0 h es (event_added d (event_of s (leave_as kind p last)) h) (with_end k (cond last (ending_as kind p) None) es)
left_one d k h es s p Owner true = record { made = omega arith; last = 1; ended = omega arith; parts = omega arith }
left_one d k h es s p Owner false = record { made = omega arith; last = 0; ended = omega arith; parts = omega arith }
left_one d k h es s p Weak true = record { made = omega arith; last = 0; ended = omega arith; parts = omega arith }
left_one d k h es s p Weak false = record { made = omega arith; last = 0; ended = omega arith; parts = omega arith }

left_tally : (z : Opening) (d k : ℕ) (h : History) (es : List Ending) (x : Option Handle)
    → Tally 0 h es (does z d h (option_map (leave (leads z h)) x)) (begun_by (leads z h) k es x)
left_tally z d k h es None = same 0 h h es refl refl
left_tally z d k h es (Some p) = left_one d k h es (leads z h) p p.kind (is_last (leads z h) p)

-- a value goes into a cell
swapped : (z : Opening) (d : ℕ) (slots : Slots) (h : History) (es : List Ending) (o : Option Going)
    → Tally 0 h es (on_going (history_swaps z d slots h) h o) es
swapped z d slots h es None = same 0 h h es refl refl
swapped z d slots h es (Some x) = same 0 h (history_swaps z d slots h x.0 x.1) es refl refl

-- a block goes to the shelf or comes from it, if there is one
moved_tally : (z : Opening) (d : ℕ) (h : History) (es : List Ending) (x : ShelfAct) (b : Option ℕ) → Tally 0 h es (does z d h (shelf_step x b)) es
moved_tally z d h es Shelve None = same 0 h h es refl refl
moved_tally z d h es Shelve (Some b) = same 0 h (does z d h (shelf_step Shelve (Some b))) es refl refl
moved_tally z d h es (Unshelve c) None = same 0 h h es refl refl
moved_tally z d h es (Unshelve c) (Some b) = same 0 h (does z d h (shelf_step (Unshelve c) (Some b))) es refl refl

pub tally : (z : Opening) (d k : ℕ) (slots : Slots) (h : History) (es : List Ending) (a : Act)
    → Tally (may_make a) h es (acted exact z d slots h a) (begun_by (leads z h) k es (leaves_by slots a))
tally z d k slots h es (Make form) = make_tally z d form h es (least d (leads z h).stores)
tally z d k slots h es (Share i) =
    same_by z d h es share (slot_pointer slots i) (λ p. shared_made d h (leads z h) p p.kind) (λ p. shared_ended d h (leads z h) p p.kind)
tally z d k slots h es (Put i) = left_tally z d k h es (slot_pointer slots i)
tally z d k slots h es (Leave i) = left_tally z d k h es (slot_pointer slots i)
tally z d k slots h es (Clear i) = left_tally z d k h es (slot_pointer slots i)
tally z d k slots h es (Count i) = same_by z d h es (tell_count exact (leads z h)) (slot_pointer slots i) (λ p. refl) (λ p. refl)
tally z d k slots h es (Downgrade i) = same_by z d h es downgrade (slot_pointer slots i) (λ p. refl) (λ p. refl)
tally z d k slots h es (Lock i must) = same_by z d h es (lock (leads z h)) (locked_pointer slots (Lock i must)) (λ p. refl) (λ p. refl)
tally z d k slots h es (Expired i) = same_by z d h es (tell_expired (leads z h)) (slot_pointer slots i) (λ p. refl) (λ p. refl)
tally z d k slots h es (Read i) = same_by z d h es (read_atomic_step (leads z h)) (inside (slot_pointer slots i)) (λ p. refl) (λ p. refl)
tally z d k slots h es (FromThis i kind) =
    same_by z d h es (give kind) (giving (leads z h) (inside (slot_pointer slots i))) (λ p. given_made d h (leads z h) p kind)
    (λ p. given_ended d h (leads z h) p kind)
tally z d k slots h es (Alias i j field) =
    same_by z d h es (alias (aliased field (place_in slots j))) (owner_slot (slot_pointer slots i)) (λ p. refl) (λ p. refl)
tally z d k slots h es (Move i) = same 0 h h es refl refl
tally z d k slots h es (Ask q) = same 0 h h es refl refl
tally z d k slots h es (Offer i c) =
    same_by z d h es share (offered slots i c) (λ p. shared_made d h (leads z h) p p.kind) (λ p. shared_ended d h (leads z h) p p.kind)
tally z d k slots h es (Swap c) = swapped z d slots h es (going slots (Swap c))
tally z d k slots h es (Exchange i c) = swapped z d slots h es (going slots (Exchange i c))
tally z d k slots h es (Load c) = same_if (is_there slots c) h (loads z d slots h c) es refl refl
tally z d k slots h es (Holds i c) = same_if (may_go slots c i) h (history_asks z d slots h i c) es refl refl
tally z d k slots h es (Compare i c weak) = same 0 h (history_compares z d slots h i c weak) es refl refl
tally z d k slots h es Drop = left_tally z d k h es (slot_pointer slots (other slots))
tally z d k slots h es (OnShelf x) = moved_tally z d h es x (shelf_block (leads z h) d x)
