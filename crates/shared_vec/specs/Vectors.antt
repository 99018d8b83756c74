-- What the calls on a vector say, by what is known of handles. A vector's place owns its root, whose first field says
-- how many levels are below it. Below these are the leaves, whose members own the elements (own).
use Rattle.std.specs.Prelude.{◌≡◌, ◌⊎◌, ◌+◌, ◌/◌, ◌%◌, ◌^◌, ◌<◌, ◌≤◌, ℕ, suc, zero, min, Bool, false, true}
use Rattle.std.specs.Prelude.{[], ◌∷◌, Option, None, Some}
use Rattle.control_word.specs.declared.model.handle.Kind.TheVariants.{Owner}
use Rattle.control_block.specs.Desks.{DeskNow}
use Rattle.pointers.specs.Known.{AreOfOne}
use Rattle.pointers.specs.Objects.{IsField, Makes}
use Rattle.pointers.specs.SiteCalls.{Compared, Exchanged, Loaded, LookedFor, Stored}
use Rattle.pointers.specs.Sites.{Site, member_site}
use Rattle.pointers.specs.declared.known.Known.{Known}

-- an index's member of a node of that level: a digit of the index
abbrev pub number_at : ℕ → ℕ → ℕ
number_at i l = i / 8 ^ l % 8

module _ {V : Type 0} where
  abbrev pub member_at : ℕ → ℕ → Known V → Site V
  member_at i l node = member_site node (number_at i l)

  -- an index's place in its leaf
  abbrev pub slot_at : ℕ → Known V → Site V
  slot_at i leaf = member_at i 0 leaf

module _ {V : Type 0} (o : DeskNow V) where
  -- the root's level
  abbrev pub IsLevel : Known V → ℕ → Type 0
  IsLevel root l = (field : ℕ) × IsField o root field × (l ≡ min field 21)

  -- from a node down so many levels on an index's way, by a load at each, there is this leaf, or none
  abbrev pub Descends : ℕ → ℕ → Option (Known V) → Option (Known V) → Type 0
  Descends i l None leaf = leaf ≡ None
  Descends i zero (Some node) leaf = leaf ≡ Some node
  Descends i (suc l) (Some node) leaf =
      (below : Option (Known V)) × Loaded o Owner (member_at i (suc l) node) below × Descends i l below leaf

  -- the same from a root of a level, which has no leaf for an index beyond its last one
  abbrev pub LeadsTo : ℕ → ℕ → Known V → Option (Known V) → Type 0
  LeadsTo i l root leaf = ((8 ≤ i / 8 ^ l) × (leaf ≡ None)) ⊎ ((i / 8 ^ l < 8) × Descends i l (Some root) leaf)

  -- the leaf of an index of the vector in a place
  abbrev pub IsLeafBelow : ℕ → Option (Known V) → Option (Known V) → Type 0
  IsLeafBelow i None leaf = leaf ≡ None
  IsLeafBelow i (Some root) leaf = (l : ℕ) × IsLevel root l × LeadsTo i l root leaf

  abbrev pub IsLeaf : Site V → ℕ → Option (Known V) → Type 0
  IsLeaf s i leaf = (root : Option (Known V)) × Loaded o Owner s root × IsLeafBelow i root leaf

  -- a copy of the element at an index, which one step on its place gave; none where there is no leaf
  abbrev pub GetsIn : ℕ → Option (Known V) → Option (Known V) → Type 0
  GetsIn i None r = r ≡ None
  GetsIn i (Some leaf) r = Loaded o Owner (slot_at i leaf) r

  abbrev pub Gets : Site V → ℕ → Option (Known V) → Type 0
  Gets s i r = (leaf : Option (Known V)) × IsLeaf s i leaf × GetsIn i leaf r

  -- whether there is none, as one look at its place told
  abbrev pub IsEmptyIn : ℕ → Option (Known V) → Bool → Type 0
  IsEmptyIn i None empty = empty ≡ true
  IsEmptyIn i (Some leaf) empty = LookedFor o Owner (slot_at i leaf) None empty

  abbrev pub IsEmpty : Site V → ℕ → Bool → Type 0
  IsEmpty s i empty = (leaf : Option (Known V)) × IsLeaf s i leaf × IsEmptyIn i leaf empty

  -- there is an element just before the index, or the index is the first
  abbrev pub IsBehind : Site V → ℕ → Type 0
  IsBehind s zero = Unit {0}
  IsBehind s (suc i) = IsEmpty s i false

  -- so many elements there are: one just before the end, and none there
  abbrev pub IsEnd : Site V → ℕ → Type 0
  IsEnd s n = IsBehind s n × IsEmpty s n true

  -- one step put the pointer into a place that held what was expected; or it held another, and the pointer comes back
  abbrev pub PutsIn : Site V → Option (Known V) → Known V → Option (Known V) → Type 0
  PutsIn at old new None = (after : Option (Known V)) × Compared o Owner at false old (Some new) true after None
  PutsIn at old new (Some back) = back ≡ new

  -- the same where an element was; or there was none
  abbrev pub ReplacesIn : Site V → Known V → Option (Known V) → Type 0
  ReplacesIn at new None = (old : Known V) × PutsIn at (Some old) new None
  ReplacesIn at new (Some back) = (back ≡ new) × Loaded o Owner at None

  -- the same at an index
  abbrev pub SetsIn : ℕ → Option (Known V) → Known V → Option (Known V) → Type 0
  SetsIn i None new r = r ≡ Some new
  SetsIn i (Some leaf) new r = ReplacesIn (slot_at i leaf) new r

  abbrev pub Sets : Site V → ℕ → Known V → Option (Known V) → Type 0
  Sets s i new r = (leaf : Option (Known V)) × IsLeaf s i leaf × SetsIn i leaf new r

  -- one step put the pointer into the empty place just behind an element, or into the first one
  abbrev pub Pushes : Site V → Known V → ℕ → Type 0
  Pushes s new n = (leaf : Known V) × IsBehind s n × IsLeaf s n (Some leaf) × PutsIn (slot_at n leaf) None new None

  -- one step took out the last element; or there was none
  abbrev pub Pops : Site V → Option (Known V) → Type 0
  Pops s None = IsEmpty s 0 true
  Pops s (Some r) = (i : ℕ) × (leaf : Known V) × IsEmpty s (suc i) true × IsLeaf s i (Some leaf)
      × Exchanged o Owner (slot_at i leaf) None (Some r)

  -- a step on the place of an index let go what was there; or there is no leaf
  abbrev pub EmptiesIn : ℕ → Option (Known V) → Type 0
  EmptiesIn i None = Unit {0}
  EmptiesIn i (Some leaf) = Stored o Owner (slot_at i leaf) None

  abbrev pub Empties : Site V → ℕ → Type 0
  Empties s i = (leaf : Option (Known V)) × IsLeaf s i leaf × EmptiesIn i leaf

  -- the same at each index from one on, below the end
  abbrev pub Truncates : Site V → ℕ → Type 0
  Truncates s n = (m : ℕ) × IsEnd s m × ((i : ℕ) → n ≤ i → i < m → Empties s i)

  -- a new root, one level above this one, owns it, and came into the vector's place if this one was there still
  abbrev pub Grows : Site V → Known V → ℕ → Bool → Type 0
  Grows s root l swapped =
      (new : Known V) × (copy : Known V) × (value : V) × (hoped : Option (Known V)) × (after : Option (Known V))
      × Makes o false ((l + 1) ∷ 0 ∷ 0 ∷ 0 ∷ []) value new × AreOfOne o root copy
      × Stored o Owner (member_site new 0) (Some copy)
      × Compared o Owner s false (Some root) (Some new) swapped hoped after
