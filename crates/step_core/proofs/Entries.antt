-- What acts of threads add to the history, as functions of the state.
use Rattle.std.proofs.Common.{ℕ, Bool, cond, ◌∷◌, Some, None, Option, option_map}
use Rattle.step_core.proofs.Prelude
use Prelude.{Act, Alias, alias, aliased, Ask, AtomicStep, cell_of_name, CellName, Clear, Compare}
use Prelude.{compare_of, Count, Downgrade, downgrade, Drop, entry, event_added, event_of, Exchange}
use Prelude.{Expired, Form, FromThis, give, going, hand, Handle, History, Holds, inside}
use Prelude.{is_enabled, is_there, leads, least, Leave, leave, Load, load_of, Lock, lock}
use Prelude.{locked_pointer, Make, may_go, Move, Offer, offered, on_going, OnShelf, Opening, other}
use Prelude.{owner_slot, place_in, Put, Read, read_atomic_step, same_of, Share, share, shelf_block}
use Prelude.{shelf_step, slot_pointer, slot_value, Slots, State, Swap, swap_of, tell_count}
use Prelude.{tell_expired, Telling}
use Rattle.step_table.specs.declared.memory.ghost_history.AtomicStep.TheVariants as atomic_step

-- the history after an atomic step of desk d, if any
abbrev pub does : Opening → ℕ → History → Option AtomicStep → History
does z d h None = h
does z d h (Some x) = event_added d (event_of (leads z h) x) h

-- an object of this form is made in a block
abbrev pub make_step : Form → ℕ → AtomicStep
make_step form b = atomic_step.Claim (record { 0 = b }) form.enabled form.null form.fields

-- the pointer whose object gives pointers to itself
abbrev pub giving : State → Option Handle → Option Handle
giving s None = None
giving s (Some x) = cond (is_enabled s x) (Some x) None

-- a slot's value goes into a cell, and what that held comes out ([util.smartptr.atomic.shared],
-- [util.smartptr.atomic.weak], `exchange`)
abbrev pub history_swaps : Opening → ℕ → Slots → History → CellName → ℕ → History
history_swaps z d slots h c k = let s = leads z h in
    entry d (swap_of s (cell_of_name s slots c) (slot_value slots k)) ∷ h

-- what a cell holds is loaded ([util.smartptr.atomic.shared], [util.smartptr.atomic.weak], `load`)
abbrev pub loads : Opening → ℕ → Slots → History → CellName → History
loads z d slots h c = let s = leads z h in entry d (load_of s (cell_of_name s slots c)) ∷ h

-- a cell is compared with slot k, and what is in hand goes in where it is equivalent ([util.smartptr.atomic.shared],
-- [util.smartptr.atomic.weak], `compare_exchange_strong`, `compare_exchange_weak`)
abbrev pub history_compares : Opening → ℕ → Slots → History → ℕ → CellName → Bool → History
history_compares z d slots h k c weak =
    let s = leads z h in entry d
    (compare_of s (cell_of_name s slots c) (slot_value slots k) (slot_value slots (hand slots)) weak) ∷ h

-- a cell is asked whether it holds what slot k does ([util.smartptr.atomic.shared], [util.smartptr.atomic.weak]; own)
abbrev pub history_asks : Opening → ℕ → Slots → History → ℕ → CellName → History
history_asks z d slots h k c = let s = leads z h in
    entry d (same_of s (cell_of_name s slots c) (slot_value slots k)) ∷ h

-- the history after an act of a desk whose thread has this in its slots, where counts are told so
abbrev pub acted : Telling → Opening → ℕ → Slots → History → Act → History
acted tell z d slots h (Make form) = does z d h (option_map (make_step form) (least d (leads z h).stores))
acted tell z d slots h (Share k) = does z d h (option_map share (slot_pointer slots k))
acted tell z d slots h (Put k) = does z d h (option_map (leave (leads z h)) (slot_pointer slots k))
acted tell z d slots h (Leave k) = does z d h (option_map (leave (leads z h)) (slot_pointer slots k))
acted tell z d slots h (Clear k) = does z d h (option_map (leave (leads z h)) (slot_pointer slots k))
acted tell z d slots h (Count k) = does z d h (option_map (tell_count tell (leads z h)) (slot_pointer slots k))
acted tell z d slots h (Downgrade k) = does z d h (option_map downgrade (slot_pointer slots k))
acted tell z d slots h (Lock k must) = does z d h (option_map (lock (leads z h)) (locked_pointer slots (Lock k must)))
acted tell z d slots h (Expired k) = does z d h (option_map (tell_expired (leads z h)) (slot_pointer slots k))
acted tell z d slots h (Read k) = does z d h (option_map (read_atomic_step (leads z h)) (inside (slot_pointer slots k)))
acted tell z d slots h (FromThis k kind) =
    does z d h (option_map (give kind) (giving (leads z h) (inside (slot_pointer slots k))))
acted tell z d slots h (Alias k j field) =
    does z d h (option_map (alias (aliased field (place_in slots j))) (owner_slot (slot_pointer slots k)))
acted tell z d slots h (Move k) = h
acted tell z d slots h (Ask q) = h
acted tell z d slots h (Offer k c) = does z d h (option_map share (offered slots k c))
acted tell z d slots h (Swap c) = on_going (history_swaps z d slots h) h (going slots (Swap c))
acted tell z d slots h (Exchange k c) = on_going (history_swaps z d slots h) h (going slots (Exchange k c))
acted tell z d slots h (Load c) = cond (is_there slots c) (loads z d slots h c) h
acted tell z d slots h (Compare k c weak) = history_compares z d slots h k c weak
acted tell z d slots h (Holds k c) = cond (may_go slots c k) (history_asks z d slots h k c) h
acted tell z d slots h Drop = does z d h (option_map (leave (leads z h)) (slot_pointer slots (other slots)))
acted tell z d slots h (OnShelf x) = does z d h (shelf_step x (shelf_block (leads z h) d x))
