-- What holds of every legal history, each said by itself.
use Rattle.std.specs.Prelude.{◌≡◌, ◌≢◌, ℕ, suc, ◌+◌, ◌-◌, ◌*◌, ◌<◌, ◌≤◌, ◌↔◌, ◌⊎◌}
use Rattle.std.specs.Prelude.{◌++◌, true, false, List, [], length, ◌==◌}
use Rattle.std.specs.List.{filter}
use mathlib.Core.Option.{some}
use lib.ListN.{get_elem?}
use Rattle.std.specs.Prelude.{slice_index}
use Rattle.control_word.specs.declared.model.event.Entry.{Entry}
use Rattle.control_word.specs.declared.model.event.Cell.{Cell}
use Rattle.control_word.specs.declared.model.event.Cell.TheVariants.{Free, Member}
use Rattle.control_word.specs.declared.model.handle.NumberedHandle.{NumberedHandle}
use Rattle.control_word.specs.declared.model.handle.Kind.{Kind}
use Rattle.control_word.specs.declared.model.handle.Kind.TheVariants.{Owner, Weak}
use Rattle.control_word.specs.declared.model.view.View.{View}
use Rattle.control_word.specs.Handles.{object_of, equivalent, owner_before, IsFormed}
use Rattle.control_word.specs.Layout.{spot}
use Rattle.control_word.specs.Limits.{most_number}
use Rattle.control_word.specs.State.{sum_below, Opening, State, Stored, live, ending, count, weak, weak_number, common}
use Rattle.control_word.specs.State.{Has, held, bag_size, stock, stored}
use Rattle.control_word.specs.State.{IsActing, IsVacant, InShape, on_shelf}
use Rattle.control_word.specs.Events.{Holds, InHand, cell_of, kind_of}
use Rattle.control_word.specs.Histories.{leads, IsLegal, given}
use Rattle.control_word.specs.Packing.{number_of, told}
use Rattle.control_word.specs.Words.{blocks_of, counts_at}
use Rattle.control_word.specs.Views.{NoneBy, IsAtRest, owed}
use Rattle.control_word.specs.Steps.{Standing}

-- how often a block is in stores
abbrev pub how_often : ℕ → List Stored → ℕ
how_often b l = length (filter (λ x. x.block == b) l)

-- how often it is in stores and on the shelf
abbrev pub times_kept : State → ℕ → ℕ
times_kept s b = how_often b s.stores + on_shelf s b

-- how many owners one object can have in a domain that begins so, and how many weak handles, with the owners' common
-- one
abbrev pub most_owners : Opening → ℕ
most_owners z = z.allowance + z.owners * z.blocks + z.cells

abbrev pub most_weaks : Opening → ℕ
most_weaks z = z.allowance + (z.members - z.owners) * z.blocks + z.cells + 1

-- the cell is one of those that are counted
abbrev pub IsCell : State → Cell → Type 0
IsCell s (Free c) = c < s.cells
IsCell s (Member o m) = m < s.members

-- the desk has a handle of the object, or the object ends in its hands
abbrev pub IsInHands : State → ℕ → ℕ → Type 0
IsInHands s d o = ((k : Kind) × (x : NumberedHandle) × Holds s d k x × (object_of x ≡ o))
    ⊎ ((s.object o).phase ≡ ending d)

module _ (V : Type 0) where
  -- the value of an object comes out at most once, and has come out exactly when the object is no longer live
  abbrev pub GivesOnce : Type 0
  GivesOnce =
      (z : Opening) (h : List (Entry V)) → IsLegal z h → (o : ℕ) → 1 ≤ o → o ≤ (leads z h).made
      → (given o h ≤ 1) × (given o h ≡ 1 ↔ ((leads z h).object o).phase ≢ live)

  -- an object is live exactly while it has an owner
  abbrev pub LiveWhileOwned : Type 0
  LiveWhileOwned =
      (z : Opening) (h : List (Entry V)) → IsLegal z h
      → (o : ℕ) → ((leads z h).object o).phase ≡ live ↔ (0 < count (leads z h) o)

  -- an object that ends was made, is in the hands of a desk that acts, and is the latest in its block
  abbrev pub EndsInHands : Type 0
  EndsInHands =
      (z : Opening) (h : List (Entry V)) → IsLegal z h → (o d : ℕ) → ((leads z h).object o).phase ≡ ending d
      → let s = leads z h in
      IsActing s d × (1 ≤ o) × (o ≤ s.made) × (s.latest (s.object o).block ≡ o) × InShape z (s.object o).block

  -- what ends in a desk's hands ends there still, until the desk itself goes on with it
  abbrev pub EndsStill : Type 0
  EndsStill =
      (z : Opening) (later seen : List (Entry V)) → IsLegal z (later ++ seen) → (d : ℕ) → NoneBy d later
      → (o : ℕ) → ((leads z seen).object o).phase ≡ ending d
      → ((leads z (later ++ seen)).object o).phase ≡ ending d

  -- an object that was made stays in its block, with the fields and the flags that it was made with
  abbrev pub StaysAsMade : Type 0
  StaysAsMade =
      (z : Opening) (later seen : List (Entry V)) (o : ℕ) → o ≤ (leads z seen).made
      → let x = (leads z seen).object o in let y = (leads z (later ++ seen)).object o in
      (y.block ≡ x.block) × (y.fields ≡ x.fields) × (y.enabled ≡ x.enabled) × (y.null ≡ x.null)

  -- live objects and ending ones are no more than there are blocks
  abbrev pub FewAtOnce : Type 0
  FewAtOnce =
      (z : Opening) (h : List (Entry V)) → IsLegal z h
      → let s = leads z h in sum_below (suc s.made) (λ o. common (s.object o).phase) ≤ z.blocks

  -- a handle that a desk holds names an object that was made, is the latest in its block, and keeps the block from
  -- being vacant
  abbrev pub NamesAnObject : Type 0
  NamesAnObject =
      (z : Opening) (h : List (Entry V)) → IsLegal z h → (d : ℕ) (k : Kind) (x : NumberedHandle)
      → Holds (leads z h) d k x
      → let s = leads z h in let o = object_of x in
      (1 ≤ o) × (o ≤ s.made) × (s.latest (s.object o).block ≡ o) × InShape z (s.object o).block
      × (IsVacant s (s.object o).block → ⊥)

  -- the object that was last made in a block is so still while a desk has a handle of it, or has its ending in hand
  abbrev pub StaysTheLatest : Type 0
  StaysTheLatest =
      (z : Opening) (later seen : List (Entry V)) → IsLegal z (later ++ seen) → (d : ℕ) → NoneBy d later
      → (o : ℕ) → IsInHands (leads z seen) d o
      → let b = ((leads z seen).object o).block in
      ((leads z seen).latest b ≡ o) × ((leads z (later ++ seen)).latest b ≡ o)

  -- a vacant block is in just one store or on the shelf, and no other block is in any
  abbrev pub StoredOnce : Type 0
  StoredOnce =
      (z : Opening) (h : List (Entry V)) → IsLegal z h → (b : ℕ) → InShape z b
      → let s = leads z h in (times_kept s b ≡ 1 ↔ IsVacant s b) × (times_kept s b ≤ 1)

  -- a block in a store is a desk's that acts; so where a desk has the whole allowance and its store is empty, the shelf
  -- has just the vacant blocks
  abbrev pub StoresOfDesks : Type 0
  StoresOfDesks =
      (z : Opening) (h : List (Entry V)) → IsLegal z h → (d b : ℕ) → Has (stored d b) (leads z h).stores
      → IsActing (leads z h) d

  abbrev pub ShelfHasAll : Type 0
  ShelfHasAll =
      (z : Opening) (h : List (Entry V)) → IsLegal z h
      → let s = leads z h in (d : ℕ) → s.allowance d ≡ z.allowance → stock s d ≡ []
      → (b : ℕ) → InShape z b → on_shelf s b ≡ 1 ↔ IsVacant s b

  -- handles in bags and in cells are well formed, and those in cells are of the cells' kinds
  abbrev pub AreFormed : Type 0
  AreFormed =
      (z : Opening) (h : List (Entry V)) → IsLegal z h
      → let s = leads z h in
      ((d : ℕ) (x : NumberedHandle) → Has (held d x) s.hands → IsFormed x)
      × ((c : Cell) → IsCell s c → IsFormed (cell_of s c) × ((cell_of s c).kind ≡ kind_of s c))

  -- the allowances of desks are the whole together, each desk that isn't joined has one, and holds no more than that
  abbrev pub AllowancesAddUp : Type 0
  AllowancesAddUp =
      (z : Opening) (h : List (Entry V)) → IsLegal z h
      → let s = leads z h in
      (sum_below s.names s.allowance ≡ z.allowance)
      × ((d : ℕ) → d < s.names → s.joined d ≡ false → 0 < s.allowance d)
      × ((d : ℕ) → bag_size s d ≤ s.allowance d)

  -- the numbers of owners and of weak handles, with the owners' common one, have bounds: the allowance, the members of
  -- that kind and the free cells
  abbrev pub NumbersFit : Type 0
  NumbersFit =
      (z : Opening) (h : List (Entry V)) → IsLegal z h → (o : ℕ)
      → let s = leads z h in
      (count s o ≤ most_owners z) × (most_owners z ≤ most_number)
      × (weak_number s o ≤ most_weaks z) × (most_weaks z ≤ most_number)

  -- an object that was once seen without an owner, by a desk with a weak handle of it, never has one again
  abbrev pub StaysExpired : Type 0
  StaysExpired =
      (z : Opening) (later seen : List (Entry V)) → IsLegal z (later ++ seen)
      → (d : ℕ) (x : NumberedHandle) → Holds (leads z seen) d Weak x
      → count (leads z seen) (object_of x) ≡ 0 → count (leads z (later ++ seen)) (object_of x) ≡ 0

  -- two handles that desks have are equivalent in owner order exactly where they share ownership or are both empty
  abbrev pub OrdersByOwner : Type 0
  OrdersByOwner =
      (z : Opening) (h : List (Entry V)) → IsLegal z h
      → (d e : ℕ) (k l : Kind) (x y : NumberedHandle) → InHand (leads z h) d k x → InHand (leads z h) e l y
      → let block = blocks_of (leads z h) in
      ((owner_before block x y ≡ false) × (owner_before block y x ≡ false)) ↔ (x.object ≡ y.object)

  -- nothing comes after what a desk with the whole allowance has seen, but for its own events
  abbrev pub NothingUnseen : Type 0
  NothingUnseen =
      (z : Opening) (later seen : List (Entry V)) → IsLegal z (later ++ seen) → (d : ℕ) → NoneBy d later
      → (leads z seen).allowance d ≡ z.allowance → later ≡ []

  -- a desk that was joined makes no later event, and none names it
  abbrev pub JoinedIsQuiet : Type 0
  JoinedIsQuiet =
      (z : Opening) (later seen : List (Entry V)) → IsLegal z (later ++ seen)
      → (d : ℕ) → (leads z seen).joined d ≡ true → NoneBy d later

  -- a name that isn't given yet has made no event, and none names it
  abbrev pub UnnamedIsQuiet : Type 0
  UnnamedIsQuiet = (z : Opening) (h : List (Entry V)) → IsLegal z h → (d : ℕ)
      → (leads z h).names ≤ d → NoneBy d h

module _ (V : Type 0) (S : Standing V) where
  -- a desk that has the whole allowance has seen all
  abbrev pub SoleHasSeenAll : Type 0
  SoleHasSeenAll =
      (z : Opening) (words : List ℕ) (views : List (View V)) (h : List (Entry V)) → S z words views h
      → (i : ℕ) (v : View V) → get_elem? views i ≡ some v → v.spent ≡ false
      → (leads z v.seen).allowance v.name ≡ z.allowance → v.seen ≡ h

  -- wherever no load of an object is under way, its owner word tells exactly how many owners it has
  abbrev pub CountsExactly : Type 0
  CountsExactly =
      (z : Opening) (words : List ℕ) (views : List (View V)) (h : List (Entry V)) → S z words views h
      → (o : ℕ) → 0 < weak_number (leads z h) o
      → let i = counts_at (blocks_of (leads z h)) Owner o in
      owed views i ≡ 0 → told (slice_index words i) ≡ count (leads z h) o

  -- whenever a block is at rest, its owner and weak counts are exactly the handles on it, in desks and cells together;
  -- or it is vacant, so that there are none, and its weak word kept the 1
  abbrev pub RestsExactly : Type 0
  RestsExactly =
      (z : Opening) (words : List ℕ) (views : List (View V)) (h : List (Entry V)) → S z words views h
      → (b : ℕ) → InShape z b → IsAtRest (leads z h) views b
      → let s = leads z h in let o = s.latest b in
      (number_of (slice_index words (spot b 0)) ≡ count s o)
      × ((number_of (slice_index words (spot b 1)) ≡ weak s o + common (s.object o).phase)
      ⊎ (IsVacant s b × (slice_index words (spot b 1) ≡ 1) × (z.keeps_blocks ≡ true)))

-- owner order is a strict weak order, wherever the objects lie
abbrev pub IsStrictWeakOrder : Type 0
IsStrictWeakOrder =
    (block : ℕ → ℕ)
    → ((x : NumberedHandle) → owner_before block x x ≡ false)
    × ((x y w : NumberedHandle) → owner_before block x y ≡ true → owner_before block y w ≡ true
    → owner_before block x w ≡ true)
    × ((x y w : NumberedHandle) → owner_before block x w ≡ true
    → (owner_before block x y ≡ true) ⊎ (owner_before block y w ≡ true))

-- equivalence of handles is an equivalence relation
abbrev pub IsEquivalence : Type 0
IsEquivalence =
    ((x : NumberedHandle) → equivalent x x ≡ true)
    × ((x y : NumberedHandle) → equivalent x y ≡ true → equivalent y x ≡ true)
    × ((x y w : NumberedHandle) → equivalent x y ≡ true → equivalent y w ≡ true → equivalent x w ≡ true)
