-- What a sort says, which is for one thread at a time (own).
use Rattle.std.specs.Prelude.{◌≡◌, ◌⊎◌, ◌<◌, ◌++◌, ℕ, suc, zero, length, slice_index_or, Bool, true}
use Rattle.std.specs.Prelude.{List, [], ◌∷◌, None, Some, Result, Ok, Err}
use Rattle.std.specs.Fn.{Mut}
use Rattle.std.specs.List.Sorted.{IsPermutation, IsSorted}
use Rattle.std.specs.Ordering.{nat_cmp, ordering_then}
use Rattle.std.specs.declared.cmp.Ordering.{Ordering}
use denote.Ref.{Bor}
use Rattle.control_block.specs.Desks.{DeskNow}
use Rattle.pointers.specs.Sites.{Site}
use Rattle.pointers.specs.declared.fault.Fault.{Fault}
use Rattle.pointers.specs.declared.fault.Fault.TheVariants.{Memory}
use Rattle.pointers.specs.declared.known.Known.{Known}
use Rattle.shared_vec.specs.Changes.{Copies}
use Rattle.shared_vec.specs.Refusals.{WhyNotFound}
use Rattle.shared_vec.specs.Vectors.{Gets}
use Rattle.shared_vec.specs.Walks.{Tells}

module _ {V : Type 0} (o : DeskNow V) where
  -- a load found it at an index
  abbrev pub IsFound : Site V → Known V → Type 0
  IsFound s c = (i : ℕ) × Gets o s i (Some c)

module _ {V K : Type 0} (o : DeskNow V) where
  -- what a get found at the index that a place names was set at the place; or the place names itself
  abbrev pub Comes : Site V → List (K × ℕ) → ℕ → Type 0
  Comes s order i = (d : K × ℕ) → ((slice_index_or order i d).1 ≡ i) ⊎ Copies o s (slice_index_or order i d).1 i

  -- the same at each place, and at each that is marked
  abbrev pub ComesAll : Site V → List (K × ℕ) → Type 0
  ComesAll s order = (i : ℕ) → i < length order → Comes s order i

  abbrev pub IsPlaced : Site V → List (K × ℕ) → List Bool → Type 0
  IsPlaced s order placed = (i : ℕ) (b : Bool) → i < length order → slice_index_or placed i b ≡ true → Comes s order i

module _ {V E F K : Type 0} (o : DeskNow V) (Is : Known V → E → Type 0)
    (g : Mut F (Bor E × Unit {0}) (Result K Fault)) where
  -- f gave a key of what a load found at each of the first n indexes, one after the other: the keys with their indexes
  abbrev pub Keys : Site V → ℕ → F → List (K × ℕ) → F → Type 0
  Keys s zero f keys m = (keys ≡ []) × (f ≡ m)
  Keys s (suc n) f keys m = (before : F) × (fewer : List (K × ℕ)) × (key : K) × Keys s n f fewer before
      × (keys ≡ fewer ++ (key, n) ∷ []) × Tells (Gets o s) Is g n before (Ok key) m

  -- the same up to an index where a load found none, or up to the last index of all
  abbrev pub KeysAll : Site V → F → List (K × ℕ) → Type 0
  KeysAll s f keys = (n : ℕ) × (last : F) × Keys s n f keys last × (Gets o s n None ⊎ (n ≡ 18446744073709551615))

  -- the keys in order, those that are the same by their indexes, and each element came to the place of its key
  abbrev pub Sorts : (K → K → Ordering) → Site V → F → Type 0
  Sorts cmp s f = (keys : List (K × ℕ)) × (order : List (K × ℕ)) × KeysAll s f keys × IsPermutation keys order
      × IsSorted (λ x y. ordering_then (cmp x.0 y.0) (nat_cmp x.1 y.1)) order × ComesAll o s order

  -- no memory; or an index could not be looked at, or f answered this fault at its element
  abbrev pub WhyNoKeys : Site V → F → Fault → Type 0
  WhyNoKeys s f why = (why ≡ Memory) ⊎ (WhyNotFound why ⊎ ((n : ℕ) × (keys : List (K × ℕ)) × (before : F) × (after : F)
      × Keys s n f keys before × Tells (Gets o s) Is g n before (Err why) after))
