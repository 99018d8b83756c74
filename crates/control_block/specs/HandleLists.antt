-- Handles of a desk in a list: all are held, as handles come into the list and go out of it.
use Rattle.std.specs.Prelude.{◌≡◌, ℕ, ◌+◌, List, [], ◌∷◌, ◌++◌}
use Rattle.std.specs.List.Sorted.{IsPermutation}
use Rattle.control_word.specs.declared.model.handle.NumberedHandle.{NumberedHandle}
use Rattle.control_word.specs.declared.model.handle.Kind.TheVariants.{Owner, Weak}
use Rattle.control_word.specs.State.{Has}
use Rattle.control_block.specs.CellCalls.{HoldsHandle, with_handle, without_handle}
use Rattle.control_block.specs.Desks.{DeskNow, bag_of}
use Rattle.control_block.specs.Parting.{HoldsAll, SplitsOff}
use Rattle.control_block.specs.Standing.{Standing}
use Rattle.control_block.specs.declared.handles.Held.{Held}
use Rattle.control_block.specs.declared.handles.Held.TheVariants as held

-- a bag with the handle more, and with it less; an empty handle stands in no bag
abbrev pub with_held : Held → List NumberedHandle → List NumberedHandle
with_held (held.Owner h) l = with_handle Owner h.block h.place l
with_held (held.Weak w) l = with_handle Weak w.block w.place l

abbrev pub without_held : Held → List NumberedHandle → List NumberedHandle
without_held (held.Owner h) l = without_handle Owner h.block h.place l
without_held (held.Weak w) l = without_handle Weak w.block w.place l

module _ {V : Type 0} where
  -- the desk has the handle
  abbrev pub IsHeldByDesk : DeskNow V → Held → Type 0
  IsHeldByDesk d (held.Owner h) = HoldsHandle d Owner h.block h.place
  IsHeldByDesk d (held.Weak w) = HoldsHandle d Weak w.block w.place

module _ (V : Type 0) where
  abbrev pub HoldsNone : Type 0
  HoldsNone = (d : DeskNow V) → HoldsAll d []

  -- what a desk holds all of, it holds each of
  abbrev pub HoldsEach : Type 0
  HoldsEach = (d : DeskNow V) (h : Held) (hs : List Held) → HoldsAll d hs → Has h hs → IsHeldByDesk d h

  -- a handle came: into the list
  abbrev pub HoldsMore : Type 0
  HoldsMore =
      (d e : DeskNow V) (h : Held) (hs : List Held) → Standing d → HoldsAll d hs
      → bag_of e ≡ with_held h (bag_of d) → e.held ≡ d.held + 1
      → HoldsAll e (h ∷ hs)

  -- a handle of the list left
  abbrev pub HoldsLess : Type 0
  HoldsLess =
      (d e : DeskNow V) (h : Held) (hs : List Held) → HoldsAll d (h ∷ hs) → bag_of e ≡ without_held h (bag_of d)
      → e.held + 1 ≡ d.held
      → HoldsAll e hs

  -- a handle of the list is taken out, and held still
  abbrev pub HoldsRest : Type 0
  HoldsRest = (d : DeskNow V) (h : Held) (hs : List Held) → HoldsAll d (h ∷ hs) → HoldsAll d hs

  -- the order doesn't matter
  abbrev pub HoldsInOrder : Type 0
  HoldsInOrder = (d : DeskNow V) (hs ks : List Held) → IsPermutation hs ks → HoldsAll d hs → HoldsAll d ks

  -- what a split gave away the new desk holds, and the first one holds what it kept
  abbrev pub HoldsApart : Type 0
  HoldsApart =
      (d : DeskNow V) (a k : ℕ) (hs ks : List Held) (e new : DeskNow V) → HoldsAll d (hs ++ ks)
      → SplitsOff d a k hs e new
      → HoldsAll new hs × HoldsAll e ks

  -- a part of it can be given away
  abbrev pub HoldsPart : Type 0
  HoldsPart = (d : DeskNow V) (hs ks : List Held) → HoldsAll d (hs ++ ks) → HoldsAll d hs

  -- what two desks held, they hold once they are joined
  abbrev pub HoldsBoth : Type 0
  HoldsBoth =
      (d other e : DeskNow V) (hs ks : List Held) → Standing d → Standing other
      → HoldsAll d hs → HoldsAll other ks
      → IsPermutation (bag_of d ++ bag_of other) (bag_of e) → e.held ≡ d.held + other.held
      → HoldsAll e (hs ++ ks)
