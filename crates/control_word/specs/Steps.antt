-- The law of each kind of step: where the words stand for a history, and one desk changes one word as the kind says,
-- they stand for a longer history, or for the same one with a further step of the desk's call. All of it is own.
use Rattle.std.specs.Prelude.{◌≡◌, ◌≢◌, ℕ, suc, ◌+◌, ◌-◌, ◌*◌, ◌/◌, ◌%◌, ◌<◌}
use Rattle.std.specs.Prelude.{◌≤◌, ◌==◌}
use Rattle.std.specs.Prelude.{Bool, true, false, cond, List, [], ◌∷◌, ◌++◌, length, slice_index}
use Rattle.std.specs.Prelude.{slice_set, replicate, bit_and, bit_or, Option, Some, None}
use Rattle.std.specs.Int.{bit_at, bit_not, w64}
use mathlib.Core.Option.{some}
use lib.ListN.{get_elem?}
use Rattle.control_word.specs.declared.model.event.Cell.{Cell}
use Rattle.control_word.specs.declared.model.event.Event.{Event}
use Rattle.control_word.specs.declared.model.event.Event.TheVariants.{Make, Share, Leave, Count, Expired, Read}
use Rattle.control_word.specs.declared.model.event.Event.TheVariants.{WeakShare}
use Rattle.control_word.specs.declared.model.event.Event.TheVariants.{WeakLeave, Lock}
use Rattle.control_word.specs.declared.model.event.Event.TheVariants.{Finish, Visit, Split, Join, Shelve, Unshelve}
use Rattle.control_word.specs.declared.model.event.Entry.{Entry}
use Rattle.control_word.specs.declared.model.handle.NumberedHandle.{NumberedHandle}
use Rattle.control_word.specs.declared.model.handle.Kind.{Kind}
use Rattle.control_word.specs.declared.model.handle.Kind.TheVariants.{Owner, Weak}
use Rattle.control_word.specs.declared.place.Place.{Place}
use Rattle.control_word.specs.declared.place.Block.{Block}
use Rattle.control_word.specs.declared.model.view.View.{View}
use Rattle.control_word.specs.declared.model.view.Pending.{Pending}
use Rattle.control_word.specs.declared.model.view.Pending.TheVariants.{Idle, Making, Paying, Visiting, Parting, Merging}
use Rattle.control_word.specs.Handles.{handle, owner, weak_of, empty, IsPointer}
use Rattle.control_word.specs.Layout.{all_words, spot, shelf_words, bit_of}
use Rattle.control_word.specs.State.{Opening, IsOpening, State, Has, held, stored, ending, kind_of_member, count}
use Rattle.control_word.specs.State.{bag_size, weak_number, HasRoom, on_shelf}
use Rattle.control_word.specs.Events.{Asks, after}
use Rattle.control_word.specs.Histories.{entry, leads, value}
use Rattle.control_word.specs.Words.{cell_at, blocks_of, counts_at, flags_of, shelf_spot}
use Rattle.control_word.specs.Views.{Stands, sees_as, stays, comes, together, used_up, fresh, owed}
use Rattle.control_word.specs.Limits.{cell_funds, one_fund}

-- the flags and fields of a block, as its words are
abbrev pub known_of : List ℕ → ℕ → List ℕ
known_of words b =
    slice_index words (spot b 2) ∷ slice_index words (spot b 3) ∷ slice_index words
    (spot b 4) ∷ slice_index words (spot b 5)
    ∷ slice_index words (spot b 6) ∷ []

-- a point between two steps, and the desk that makes the next one
pub record Point (V : Type 0) : Type 0 where
  pub opening : Opening
  pub words : List ℕ
  pub views : List (View V)
  pub history : List (Entry V)
  pub seat : ℕ
  pub view : View V

-- a relation by which words and what the desks know stand for a history
abbrev pub Standing : Type 0 → Type 1
Standing V = Opening → List ℕ → List (View V) → List (Entry V) → Type 0

module _ {V : Type 0} where
  -- the words stand for the history, and the desk's half-done call is this
  pub record ReadyBy (S : Standing V) (at : Point V) (p : Pending V) : Type 0 where
    pub stands : S at.opening at.words at.views at.history
    pub seated : get_elem? at.views at.seat ≡ some at.view
    pub awake : at.view.spent ≡ false
    pub pending : at.view.pending ≡ p

  abbrev pub Ready : Point V → Pending V → Type 0
  Ready at p = ReadyBy Stands at p

  abbrev pub state : Point V → State
  state at = leads at.opening at.history

  abbrev pub me : Point V → ℕ
  me at = at.view.name

  abbrev pub word : Point V → ℕ → ℕ
  word at k = slice_index at.words k

  -- where handles of this kind of object o are counted
  abbrev pub counts : Point V → Kind → ℕ → ℕ
  counts at k o = counts_at (blocks_of (state at)) k o

  -- the desk has this handle, and room for one more
  abbrev pub Holding : Point V → Kind → ℕ → Option Place → Type 0
  Holding at k o p = Has (held (me at) (handle k (Some o) p)) (state at).hands

  abbrev pub HasOneMore : Point V → Type 0
  HasOneMore at = bag_size (state at) (me at) < (state at).allowance (me at)

  module _ (S : Standing V) where
    -- the event is the desk's next; word k becomes n, and the desk's half-done call p
    abbrev pub AddsBy : Point V → ℕ → ℕ → Event V → Pending V → Type 0
    AddsBy at k n e p =
        let h = entry (me at) e ∷ at.history in
        S at.opening (slice_set at.words k n) (slice_set at.views at.seat (sees_as at.view p h)) h

    -- the same by a look, which changes no word
    abbrev pub TellsBy : Point V → Event V → Pending V → Type 0
    TellsBy at e p = let h = entry (me at) e ∷ at.history in
        S at.opening at.words (slice_set at.views at.seat (sees_as at.view p h)) h

    -- no event: word k becomes n, and the desk's half-done call p
    abbrev pub MovesBy : Point V → ℕ → ℕ → Pending V → Type 0
    MovesBy at k n p =
        S at.opening (slice_set at.words k n) (slice_set at.views at.seat (sees_as at.view p at.history)) at.history

    -- no event by a look either: the desk's half-done call becomes p
    abbrev pub LooksBy : Point V → Pending V → Type 0
    LooksBy at p = S at.opening at.words (slice_set at.views at.seat (sees_as at.view p at.history)) at.history

  abbrev pub Adds : Point V → ℕ → ℕ → Event V → Pending V → Type 0
  Adds at k n e p = AddsBy Stands at k n e p

  abbrev pub Tells : Point V → Event V → Pending V → Type 0
  Tells at e p = TellsBy Stands at e p

  abbrev pub Moves : Point V → ℕ → ℕ → Pending V → Type 0
  Moves at k n p = MovesBy Stands at k n p

  abbrev pub Looks : Point V → Pending V → Type 0
  Looks at p = LooksBy Stands at p

  -- the handle that goes in or came out has so many funds out on its count
  abbrev pub purse : (ℕ → ℕ) → NumberedHandle → ℕ → Pending V
  purse block h f = elim (h.object)
      [ None ↦ Idle | Some o ↦ Paying h.kind o h.place (counts_at block h.kind o) f 0 ]

  -- the cell is open to the desk, or a member of an object that ends in its hands
  abbrev pub cell_word : Point V → Cell → ℕ
  cell_word at c = cell_at at.opening (state at) c

module _ (V : Type 0) (S : Standing V) where
  -- write an own vacant block's word: the weak word first, then flags and fields, which the desk then knows
  abbrev pub WritesWeakWord : Type 0
  WritesWeakWord =
      (at : Point V) → ReadyBy S at Idle → (b : Block) → Has (stored (me at) b.0) (state at).stores
      → MovesBy S at (spot b.0 1) 1 (Making b (known_of at.words b.0))

  -- the same by a look, where the weak word is 1 already
  abbrev pub FindsWeakWord : Type 0
  FindsWeakWord =
      (at : Point V) → ReadyBy S at Idle → (b : Block) → Has (stored (me at) b.0) (state at).stores
      → word at (spot b.0 1) ≡ 1 → LooksBy S at (Making b (known_of at.words b.0))

  abbrev pub WritesWord : Type 0
  WritesWord =
      (at : Point V) (b : Block) (known : List ℕ) → ReadyBy S at (Making b known) → length known ≡ 5
      → (j n : ℕ) → j < 5
      → (word at (spot b.0 (2 + j)) ≡ slice_index known j)
      × MovesBy S at (spot b.0 (2 + j)) n (Making b (slice_set known j n))

module _ (V : Type 0) where
  -- claim: the owner word of a prepared block becomes 1, which is the Make
  abbrev pub Claims : Type 0
  Claims =
      (at : Point V) (b : Block) (enabled null : Bool) (fields : List ℕ) (v : V)
      → Ready at (Making b (flags_of enabled null ∷ fields)) → length fields ≡ 4 → HasOneMore at
      → Adds at (spot b.0 0) 1 (Make b enabled null fields v) Idle

  -- share: an owner or weak word gets one more
  abbrev pub Shares : Type 0
  Shares =
      (at : Point V) (o : ℕ) (p q : Option Place) → Ready at Idle → Holding at Owner o p
      → IsPointer q → HasOneMore at
      → let k = counts at Owner o in Adds at k (suc (word at k)) (Share (owner o p) q) Idle

  abbrev pub WeakShares : Type 0
  WeakShares =
      (at : Point V) (o : ℕ) (p : Option Place) → Ready at Idle → 0 < weak_number (state at) o
      → Asks {V = V} (state at) (me at) (WeakShare o p) → HasOneMore at
      → let k = counts at Weak o in Adds at k (suc (word at k)) (WeakShare o p) Idle

  -- leave: one less; the last, or vacant, just where the whole word was 1
  abbrev pub Leaves : Type 0
  Leaves =
      (at : Point V) (o : ℕ) (p : Option Place) → Ready at Idle → Holding at Owner o p
      → let k = counts at Owner o in (0 < word at k)
      × Adds at k (word at k - 1) (Leave (owner o p) (word at k == 1)) Idle

  abbrev pub WeakLeaves : Type 0
  WeakLeaves =
      (at : Point V) (o : ℕ) (p : Option Place) → Ready at Idle → Holding at Weak o p
      → let k = counts at Weak o in (0 < word at k)
      × Adds at k (word at k - 1) (WeakLeave (weak_of o p) (word at k == 1)) Idle

module _ (V : Type 0) (S : Standing V) where
  abbrev pub Finishes : Type 0
  Finishes =
      (at : Point V) (o : ℕ) (v : V) → ReadyBy S at Idle → value at.opening at.history o ≡ Some v
      → ((state at).object o).phase ≡ ending (me at)
      → ((m : ℕ) → m < (state at).members → ((state at).object o).member m ≡ empty (kind_of_member (state at).owners m))
      → let k = counts at Weak o in (0 < word at k) × AddsBy S at k (word at k - 1) (Finish o (word at k == 1) v) Idle

  -- the same by a look where the weak word is 1, if the domain keeps blocks: the block is vacant, and its word stays
  abbrev pub FindsFinished : Type 0
  FindsFinished =
      (at : Point V) (o : ℕ) (v : V) → ReadyBy S at Idle → value at.opening at.history o ≡ Some v
      → ((state at).object o).phase ≡ ending (me at)
      → ((m : ℕ) → m < (state at).members → ((state at).object o).member m ≡ empty (kind_of_member (state at).owners m))
      → at.opening.keeps_blocks ≡ true → word at (counts at Weak o) ≡ 1 → TellsBy S at (Finish o true v) Idle

module _ (V : Type 0) where
  -- lock: an owner word that isn't 0 gets one more; one that is 0 is told
  abbrev pub Locks : Type 0
  Locks =
      (at : Point V) (o : ℕ) (p : Option Place) → Ready at Idle → Holding at Weak o p
      → let k = counts at Owner o in
      (word at k ≡ 0 → Tells at (Lock (weak_of o p) false) Idle)
      × (0 < word at k → HasOneMore at → Adds at k (suc (word at k)) (Lock (weak_of o p) true) Idle)

module _ (V : Type 0) (S : Standing V) where
  -- look: use_count tells the number, or 1 where it is 0 and funds are there; exactly the count where no load is under
  -- way
  abbrev pub TellsCount : Type 0
  TellsCount =
      (at : Point V) (k : Kind) (o : ℕ) (p : Option Place) (low high : ℕ) → ReadyBy S at Idle → Holding at k o p
      → word at (counts at Owner o) ≡ low + one_fund * high → low < one_fund
      → let n = cond (low == 0) (cond (high == 0) 0 1) low in
      TellsBy S at (Count (handle k (Some o) p) n) Idle
      × (owed at.views (counts at Owner o) ≡ 0 → n ≡ count (state at) o)

  abbrev pub TellsExpired : Type 0
  TellsExpired = (at : Point V) (o : ℕ) (p : Option Place) → ReadyBy S at Idle → Holding at Weak o p
      → TellsBy S at (Expired (weak_of o p) (word at (counts at Owner o) == 0)) Idle

  abbrev pub Reads : Type 0
  Reads = (at : Point V) (o : ℕ) (p : Place) → ReadyBy S at Idle → Holding at Owner o (Some p)
      → p.block.0 ≡ ((state at).object o).block → p.field < 4
      → TellsBy S at (Read (owner o (Some p)) (word at (spot p.block.0 (3 + p.field)))) Idle

  abbrev pub LooksOn : Type 0
  LooksOn = (at : Point V) → ReadyBy S at Idle → LooksBy S at Idle

  -- shut a door that is found open, and open it: the visit
  abbrev pub Shuts : Type 0
  Shuts =
      (at : Point V) (o : ℕ) (p : Option Place) (v : V) → ReadyBy S at Idle → Holding at Owner o p
      → value at.opening at.history o ≡ Some v
      → let k = spot (blocks_of (state at) o) 2 in
      (word at k < 8) × (word at k < 4 → MovesBy S at k (word at k + 4) (Visiting o p k v))

  abbrev pub Opens : Type 0
  Opens =
      (at : Point V) (o : ℕ) (p : Option Place) (was becomes : V) → let k = spot (blocks_of (state at) o) 2 in
      ReadyBy S at (Visiting o p k was)
      → (4 ≤ word at k) × AddsBy S at k (word at k - 4) (Visit (owner o p) was becomes) Idle

  -- the look of a split, and the cut of the view that follows it
  abbrev pub Splits : Type 0
  Splits =
      (at : Point V) (to n : ℕ) (hs : List NumberedHandle) (bs : List Block) → ReadyBy S at Idle
      → Asks {V = V} (state at) (me at) (Split to n hs bs)
      → HasRoom (after {V = V} (state at) (me at) (Split to n hs bs)) (me at)
      → TellsBy S at (Split to n hs bs) (Parting to)

  abbrev pub CutsView : Type 0
  CutsView = (at : Point V) (to : ℕ) → ReadyBy S at (Parting to)
      → S at.opening at.words (slice_set at.views at.seat (stays at.view) ++ comes at.view to ∷ []) at.history

  -- two views become one, and the look of a join that follows
  abbrev pub MergesViews : Type 0
  MergesViews =
      (at : Point V) (j : ℕ) (w : View V) → ReadyBy S at Idle → get_elem? at.views j ≡ some w → at.seat ≢ j
      → w.spent ≡ false → w.pending ≡ Idle
      → S at.opening at.words (slice_set (slice_set at.views at.seat (together at.view w)) j used_up) at.history

  abbrev pub Joins : Type 0
  Joins = (at : Point V) (other : ℕ) (mine others : List (Entry V)) → ReadyBy S at (Merging other mine others)
      → TellsBy S at (Join other) Idle

  -- a block's bit is 1 while the block is on the shelf
  abbrev pub ShelfShows : Type 0
  ShelfShows =
      (at : Point V) (p : Pending V) (b : ℕ) → ReadyBy S at p → b / 64 < shelf_words at.opening.blocks
      → bit_at (word at (shelf_spot at.opening b)) (b % 64) ≡ on_shelf (state at) b

  -- shelve: the bit of a block of the own store is set
  abbrev pub Shelves : Type 0
  Shelves = (at : Point V) (b : Block) → ReadyBy S at Idle → Has (stored (me at) b.0) (state at).stores
      → let k = shelf_spot at.opening b.0 in AddsBy S at k (bit_or (word at k) (bit_of b.0)) (Shelve b) Idle

  -- unshelve: a bit is cleared; the block is the desk's just where the bit was found set
  abbrev pub Unshelves : Type 0
  Unshelves =
      (at : Point V) (b : Block) → ReadyBy S at Idle → b.0 / 64 < shelf_words at.opening.blocks
      → let k = shelf_spot at.opening b.0 in
      let n = bit_and (word at k) (bit_not w64 (bit_of b.0)) in
      (bit_at (word at k) (b.0 % 64) ≡ 1 → AddsBy S at k n (Unshelve b) Idle)
      × (bit_at (word at k) (b.0 % 64) ≡ 0 → MovesBy S at k n Idle)

  -- at the start all words are 0
  abbrev pub Begins : Type 0
  Begins = (z : Opening) → IsOpening z
      → S z (replicate (all_words z.blocks z.cells) 0) (fresh {V = V} 0 z.desks) []

  -- No carry and no wrap: on the counts of an object that is there, is ending or has weak handles, the number may grow
  -- by one and the funds by 256, within their halves and the word
  abbrev pub HasHeadroom : Type 0
  HasHeadroom =
      (at : Point V) (p : Pending V) → ReadyBy S at p → (k : Kind) (o : ℕ) → 0 < weak_number (state at) o
      → let i = counts at k o in (word at i + 1099511627776 < 18446744073709551616)
      × ((low high : ℕ) → word at i ≡ low + one_fund * high → low < one_fund
      → (low + 1 < one_fund) × (high + cell_funds < one_fund))
