-- The law of each kind of step of running desks that differs from Steps and CellSteps, as each handle in hand has its
-- funds on its count. All of it is own.
use Rattle.std.specs.Prelude.{◌≡◌, ℕ, ◌+◌, ◌-◌, ◌*◌, ◌<◌, ◌≤◌, ◌==◌, Bool, true, false, List, ◌∷◌, length}
use Rattle.std.specs.Prelude.{Option, Some, None}
use Rattle.control_word.specs.declared.model.event.Cell.{Cell}
use Rattle.control_word.specs.declared.model.event.Cell.TheVariants.{Member}
use Rattle.control_word.specs.declared.model.event.Event.TheVariants.{Make, Share, Leave, WeakShare, WeakLeave}
use Rattle.control_word.specs.declared.model.event.Event.TheVariants.{Lock, Swap, Compare, ClearMember}
use Rattle.control_word.specs.declared.model.handle.NumberedHandle.{NumberedHandle}
use Rattle.control_word.specs.declared.model.handle.Kind.{Kind}
use Rattle.control_word.specs.declared.model.handle.Kind.TheVariants.{Owner, Weak}
use Rattle.control_word.specs.declared.place.Block.{Block}
use Rattle.control_word.specs.declared.place.Place.{Place}
use Rattle.control_word.specs.declared.model.view.Pending.TheVariants.{Idle, Making, Paying}
use Rattle.control_word.specs.Handles.{handle, owner, weak_of, equivalent, IsPointer}
use Rattle.control_word.specs.Layout.{spot}
use Rattle.control_word.specs.State.{ending, HasRoom, weak_number}
use Rattle.control_word.specs.Events.{Asks, after, IsOpen, cell_of}
use Rattle.control_word.specs.Words.{blocks_of, flags_of, packed}
use Rattle.control_word.specs.Steps.{Point, ReadyBy, AddsBy, TellsBy, MovesBy, state, me, word, counts}
use Rattle.control_word.specs.Steps.{Holding, HasOneMore, cell_word}
use Rattle.control_word.specs.HandFunds.{StandsFunded, short_of, drawn}
use Rattle.control_word.specs.Limits.{cell_funds, one_fund, one_funded, one_taken}

module _ (V : Type 0) where
  -- claim: the owner word of a prepared block becomes an owner with its funds, which is the Make
  abbrev pub ClaimsFunded : Type 0
  ClaimsFunded =
      (at : Point V) (b : Block) (enabled null : Bool) (fields : List ℕ) (v : V)
      → ReadyBy StandsFunded at (Making b (flags_of enabled null ∷ fields)) → length fields ≡ 4 → HasOneMore at
      → AddsBy StandsFunded at (spot b.0 0) one_funded (Make b enabled null fields v) Idle

  -- share: an owner or weak word gets one more, with its funds
  abbrev pub SharesFunded : Type 0
  SharesFunded =
      (at : Point V) (o : ℕ) (p q : Option Place) → ReadyBy StandsFunded at Idle → Holding at Owner o p
      → IsPointer q → HasOneMore at
      → let k = counts at Owner o in AddsBy StandsFunded at k (word at k + one_funded) (Share (owner o p) q) Idle

  abbrev pub WeakSharesFunded : Type 0
  WeakSharesFunded =
      (at : Point V) (o : ℕ) (p : Option Place) → ReadyBy StandsFunded at Idle → 0 < weak_number (state at) o
      → Asks {V = V} (state at) (me at) (WeakShare o p) → HasOneMore at
      → let k = counts at Weak o in AddsBy StandsFunded at k (word at k + one_funded) (WeakShare o p) Idle

  -- leave: one less, with the funds that it has; the last, or vacant, just where the whole word was these
  abbrev pub LeavesFunded : Type 0
  LeavesFunded =
      (at : Point V) (o f : ℕ) (p : Option Place) → let k = counts at Owner o in
      ReadyBy StandsFunded at (short_of Owner o p k f) → Holding at Owner o p → f ≤ cell_funds
      → let n = one_fund * f + 1 in (n ≤ word at k)
      × AddsBy StandsFunded at k (word at k - n) (Leave (owner o p) (word at k == n)) Idle

  abbrev pub WeakLeavesFunded : Type 0
  WeakLeavesFunded =
      (at : Point V) (o f : ℕ) (p : Option Place) → let k = counts at Weak o in
      ReadyBy StandsFunded at (short_of Weak o p k f) → Holding at Weak o p → f ≤ cell_funds
      → let n = one_fund * f + 1 in (n ≤ word at k)
      × AddsBy StandsFunded at k (word at k - n) (WeakLeave (weak_of o p) (word at k == n)) Idle

  -- lock: an owner word that isn't 0 gets one more, with its funds; one that is 0 is told
  abbrev pub LocksFunded : Type 0
  LocksFunded =
      (at : Point V) (o : ℕ) (p : Option Place) → ReadyBy StandsFunded at Idle → Holding at Weak o p
      → let k = counts at Owner o in
      (word at k ≡ 0 → TellsBy StandsFunded at (Lock (weak_of o p) false) Idle)
      × (0 < word at k → HasOneMore at
      → AddsBy StandsFunded at k (word at k + one_funded) (Lock (weak_of o p) true) Idle)

  -- turn a fund: the load that was under way becomes a handle in the number, and brings what it lacks
  abbrev pub TurnsFunded : Type 0
  TurnsFunded =
      (at : Point V) (k : Kind) (o : ℕ) (p : Option Place) → let i = counts at k o in
      ReadyBy StandsFunded at (Paying k o p i 1 1)
      → MovesBy StandsFunded at i (word at i + one_fund * (cell_funds - 1) + 1) Idle

  -- bring what a handle in hand lacks
  abbrev pub TopsUp : Type 0
  TopsUp =
      (at : Point V) (k : Kind) (o f : ℕ) (p : Option Place) → let i = counts at k o in
      ReadyBy StandsFunded at (Paying k o p i f 0)
      → MovesBy StandsFunded at i (word at i + one_fund * (cell_funds - f)) Idle

  -- refill: funds of a handle in hand go into the cell in place of those taken, and the handle lacks them then
  abbrev pub RefillsFunded : Type 0
  RefillsFunded =
      (at : Point V) (c : Cell) (k : Kind) (o t : ℕ) (p q : Option Place) → ReadyBy StandsFunded at Idle
      → Holding at k o p → t ≤ cell_funds → IsOpen (state at) (me at) c → handle k (Some o) q ≡ cell_of (state at) c
      → let i = cell_word at c in word at i ≡ packed (blocks_of (state at)) (handle k (Some o) q) + one_taken * t
      → MovesBy StandsFunded at i (word at i - one_taken * t) (Paying k o p (counts at k o) (cell_funds - t) 0)

  -- swap a cell: the new value goes in with its funds, and the old one comes out with those that were not taken
  abbrev pub SwapsFunded : Type 0
  SwapsFunded =
      (at : Point V) (c : Cell) (new : NumberedHandle) → let s = state at in let old = cell_of s c in
      ReadyBy StandsFunded at Idle → Asks {V = V} s (me at) (Swap c new old)
      → HasRoom (after {V = V} s (me at) (Swap c new old)) (me at)
      → (taken : ℕ) → let i = cell_word at c in word at i ≡ packed (blocks_of s) old + one_taken * taken
      → AddsBy StandsFunded at i (packed (blocks_of s) new) (Swap c new old)
      (drawn (blocks_of s) old (cell_funds - taken))

  -- compare and swap a cell
  abbrev pub CompareSwapsFunded : Type 0
  CompareSwapsFunded =
      (at : Point V) (c : Cell) (expected new : NumberedHandle) (weak : Bool)
      → let s = state at in let old = cell_of s c in
      ReadyBy StandsFunded at Idle → equivalent old expected ≡ true
      → Asks {V = V} s (me at) (Compare c expected new old true weak)
      → HasRoom (after {V = V} s (me at) (Compare c expected new old true weak)) (me at)
      → (taken : ℕ) → let i = cell_word at c in word at i ≡ packed (blocks_of s) old + one_taken * taken
      → AddsBy StandsFunded at i (packed (blocks_of s) new) (Compare c expected new old true weak)
      (drawn (blocks_of s) old (cell_funds - taken))

  -- a member of an ending object is swapped for nothing
  abbrev pub ClearsFunded : Type 0
  ClearsFunded =
      (at : Point V) (o m : ℕ) → let s = state at in let old = (s.object o).member m in
      ReadyBy StandsFunded at Idle → (s.object o).phase ≡ ending (me at) → m < s.members
      → HasRoom (after {V = V} s (me at) (ClearMember o m old)) (me at)
      → (taken : ℕ) → let i = cell_word at (Member o m) in
      word at i ≡ packed (blocks_of s) old + one_taken * taken
      → AddsBy StandsFunded at i 0 (ClearMember o m old) (drawn (blocks_of s) old (cell_funds - taken))
