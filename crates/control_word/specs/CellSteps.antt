-- The law of each kind of step on a cell's word, and of the funds that a cell's pointer comes with: as in Steps. All of
-- it is own.
use Rattle.std.specs.Prelude.{◌≡◌, ℕ, ◌+◌, ◌-◌, ◌*◌, ◌<◌, ◌≤◌, ◌==◌, Bool, true}
use Rattle.std.specs.Prelude.{false}
use Rattle.std.specs.Prelude.{Option, Some, None}
use Rattle.control_word.specs.declared.model.event.Cell.{Cell}
use Rattle.control_word.specs.declared.model.event.Cell.TheVariants.{Member}
use Rattle.control_word.specs.declared.model.event.Event.TheVariants.{Leave, WeakLeave, Load, Swap}
use Rattle.control_word.specs.declared.model.event.Event.TheVariants.{Compare, Same, ClearMember}
use Rattle.control_word.specs.declared.model.handle.NumberedHandle.{NumberedHandle}
use Rattle.control_word.specs.declared.model.handle.Kind.{Kind}
use Rattle.control_word.specs.declared.model.handle.Kind.TheVariants.{Owner, Weak}
use Rattle.control_word.specs.declared.place.Place.{Place}
use Rattle.control_word.specs.declared.model.view.Pending.{Pending}
use Rattle.control_word.specs.declared.model.view.Pending.TheVariants.{Idle, Paying}
use Rattle.control_word.specs.Handles.{handle, owner, weak_of, equivalent}
use Rattle.control_word.specs.Packing.{cell_bits, taken_in, without_taken, IsCellWord}
use Rattle.control_word.specs.State.{ending, HasRoom}
use Rattle.control_word.specs.Events.{Asks, after, InHand, IsOpen, cell_of, kind_of}
use Rattle.control_word.specs.Words.{blocks_of, packed, shown}
use Rattle.control_word.specs.Steps.{Point, Ready, state, me, word, counts, Holding, HasOneMore, Adds, Tells, Moves}
use Rattle.control_word.specs.Steps.{purse, cell_word, Standing, ReadyBy, AddsBy, TellsBy}
use Rattle.control_word.specs.Limits.{cell_funds, one_fund, fund_turned, one_taken}

module _ (V : Type 0) (S : Standing V) where
  -- a cell's word is the packing of what the cell holds and of how many funds were taken, none of a cell without an
  -- object
  abbrev pub CellsShow : Type 0
  CellsShow =
      (at : Point V) (p : Pending V) (c : Cell) → ReadyBy S at p → IsOpen (state at) (me at) c
      → (taken : ℕ) × (let x = shown (blocks_of (state at)) (cell_of (state at) c) taken in
      (word at (cell_word at c) ≡ cell_bits x) × IsCellWord x × (taken ≤ cell_funds))
      × ((cell_of (state at) c).object ≡ None → taken ≡ 0)

  -- a load, or a compare that differs, of a cell without an object is a look
  abbrev pub LoadsEmpty : Type 0
  LoadsEmpty =
      (at : Point V) (c : Cell) (k : Kind) (p : Option Place) → ReadyBy S at Idle → IsOpen (state at) (me at) c
      → handle k None p ≡ cell_of (state at) c
      → TellsBy S at (Load c (handle k None p)) Idle

  abbrev pub DiffersEmpty : Type 0
  DiffersEmpty =
      (at : Point V) (c : Cell) (k : Kind) (p : Option Place) (expected new : NumberedHandle) (weak : Bool)
      → ReadyBy S at Idle
      → handle k None p ≡ cell_of (state at) c
      → Asks {V = V} (state at) (me at) (Compare c expected new (handle k None p) false weak)
      → TellsBy S at (Compare c expected new (handle k None p) false weak) Idle

  -- look: a cell holds what the desk has just where its word, but for the funds taken, is that handle's
  abbrev pub TellsSame : Type 0
  TellsSame =
      (at : Point V) (c : Cell) (h : NumberedHandle) → ReadyBy S at Idle → let s = state at in
      IsOpen s (me at) c → InHand s (me at) (kind_of s c) h
      → TellsBy S at (Same c h (without_taken (word at (cell_word at c)) == packed (blocks_of s) h)) Idle

module _ (V : Type 0) where
  -- bring funds: up to 256, under a handle in hand
  abbrev pub Brings : Type 0
  Brings =
      (at : Point V) (k : Kind) (o f : ℕ) (p : Option Place) → Ready at Idle → Holding at k o p → f ≤ cell_funds
      → let i = counts at k o in Moves at i (word at i + one_fund * f) (Paying k o p i f 0)

  -- give funds back
  abbrev pub GivesBack : Type 0
  GivesBack =
      (at : Point V) (k : Kind) (o f : ℕ) (p : Option Place) → let i = counts at k o in
      Ready at (Paying k o p i f 0)
      → (one_fund * f ≤ word at i) × Moves at i (word at i - one_fund * f) Idle

  -- leave with funds: the handle that came out of a cell goes with its funds; the last, or vacant, just where the whole
  -- word was these
  abbrev pub LeavesWithFunds : Type 0
  LeavesWithFunds = (at : Point V) (o f : ℕ) (p : Option Place) → let i = counts at Owner o in
      let n = one_fund * f + 1 in Ready at (Paying Owner o p i f 0)
      → (n ≤ word at i) × Adds at i (word at i - n) (Leave (owner o p) (word at i == n)) Idle

  abbrev pub WeakLeavesWithFunds : Type 0
  WeakLeavesWithFunds = (at : Point V) (o f : ℕ) (p : Option Place) → let i = counts at Weak o in
      let n = one_fund * f + 1 in Ready at (Paying Weak o p i f 0)
      → (n ≤ word at i) × Adds at i (word at i - n) (WeakLeave (weak_of o p) (word at i == n)) Idle

module _ (V : Type 0) (S : Standing V) where
  -- take a fund: a load, or a compare that differs, of a cell with an object of which not all funds are taken
  abbrev pub Takes : Type 0
  Takes =
      (at : Point V) (c : Cell) (k : Kind) (o : ℕ) (p : Option Place) → ReadyBy S at Idle
      → handle k (Some o) p ≡ cell_of (state at) c → HasOneMore at
      → let i = cell_word at c in let load = Paying k o p (counts at k o) 1 1 in taken_in (word at i) < cell_funds
      → (IsOpen (state at) (me at) c → AddsBy S at i (word at i + one_taken) (Load c (handle k (Some o) p)) load)
      × ((expected new : NumberedHandle) (weak : Bool)
      → Asks {V = V} (state at) (me at) (Compare c expected new (handle k (Some o) p) false weak)
      → AddsBy S at i (word at i + one_taken) (Compare c expected new (handle k (Some o) p) false weak) load)

module _ (V : Type 0) where
  -- turn a fund: the load that was under way becomes a handle in the number
  abbrev pub Turns : Type 0
  Turns =
      (at : Point V) (k : Kind) (o : ℕ) (p : Option Place) → let i = counts at k o in Ready at (Paying k o p i 1 1)
      → (fund_turned ≤ word at i) × Moves at i (word at i - fund_turned) Idle

  -- refill: the funds that were brought go into the cell in place of those taken
  abbrev pub Refills : Type 0
  Refills =
      (at : Point V) (c : Cell) (k : Kind) (o t : ℕ) (p q : Option Place)
      → Ready at (Paying k o p (counts at k o) t 0)
      → IsOpen (state at) (me at) c → handle k (Some o) q ≡ cell_of (state at) c
      → let i = cell_word at c in word at i ≡ packed (blocks_of (state at)) (handle k (Some o) q) + one_taken * t
      → Moves at i (word at i - one_taken * t) Idle

  -- swap a cell: the new value with 256 funds goes in, the old one comes out with those that were not taken
  abbrev pub Swaps : Type 0
  Swaps =
      (at : Point V) (c : Cell) (new : NumberedHandle) → let s = state at in let old = cell_of s c in
      Ready at (purse (blocks_of s) new cell_funds) → Asks {V = V} s (me at) (Swap c new old)
      → HasRoom (after {V = V} s (me at) (Swap c new old)) (me at)
      → (taken : ℕ) → let i = cell_word at c in word at i ≡ packed (blocks_of s) old + one_taken * taken
      → Adds at i (packed (blocks_of s) new) (Swap c new old) (purse (blocks_of s) old (cell_funds - taken))

  -- compare and swap a cell
  abbrev pub CompareSwaps : Type 0
  CompareSwaps =
      (at : Point V) (c : Cell) (expected new : NumberedHandle) (weak : Bool)
      → let s = state at in let old = cell_of s c in
      Ready at (purse (blocks_of s) new cell_funds) → equivalent old expected ≡ true
      → Asks {V = V} s (me at) (Compare c expected new old true weak)
      → HasRoom (after {V = V} s (me at) (Compare c expected new old true weak)) (me at)
      → (taken : ℕ) → let i = cell_word at c in word at i ≡ packed (blocks_of s) old + one_taken * taken
      → Adds at i (packed (blocks_of s) new) (Compare c expected new old true weak)
      (purse (blocks_of s) old (cell_funds - taken))

  -- a member of an ending object is swapped for nothing
  abbrev pub Clears : Type 0
  Clears =
      (at : Point V) (o m : ℕ) → let s = state at in let old = (s.object o).member m in
      Ready at Idle → (s.object o).phase ≡ ending (me at) → m < s.members
      → HasRoom (after {V = V} s (me at) (ClearMember o m old)) (me at)
      → (taken : ℕ) → let i = cell_word at (Member o m) in
      word at i ≡ packed (blocks_of s) old + one_taken * taken
      → Adds at i 0 (ClearMember o m old) (purse (blocks_of s) old (cell_funds - taken))
