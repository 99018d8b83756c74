-- What an insert and a removal say, which are for one thread at a time (own).
use Rattle.std.specs.Prelude.{◌≡◌, ◌⊎◌, ◌-◌, ◌<◌, ◌≤◌, ℕ, suc, Option, None, Some}
use Rattle.control_block.specs.Desks.{DeskNow}
use Rattle.pointers.specs.Sites.{Site}
use Rattle.pointers.specs.declared.known.Known.{Known}
use Rattle.shared_vec.specs.Vectors.{Gets, IsEnd, Pops, Pushes, Sets}

module _ {V : Type 0} (o : DeskNow V) where
  -- what a get found at an index was set at another; or it found none
  abbrev pub Copies : Site V → ℕ → ℕ → Type 0
  Copies s i j = Gets o s i None ⊎ ((c : Known V) × (r : Option (Known V)) × Gets o s i (Some c) × Sets o s j c r)

  -- the same, and it was pushed
  abbrev pub Doubles : Site V → ℕ → Type 0
  Doubles s i = Gets o s i None ⊎ ((c : Known V) × (n : ℕ) × Gets o s i (Some c) × Pushes o s c n)

  -- each element between an index and the end, but the last, came one further
  abbrev pub MovesUp : Site V → ℕ → ℕ → Type 0
  MovesUp s i n = (k : ℕ) → i ≤ k → suc k < n → Copies s k (suc k)

  -- each but the first came one forward
  abbrev pub MovesDown : Site V → ℕ → ℕ → Type 0
  MovesDown s i n = (k : ℕ) → i ≤ k → suc k < n → Copies s (suc k) k

  -- all came one further, with a push of the last
  abbrev pub Opens : Site V → ℕ → ℕ → Type 0
  Opens s i n = Doubles s (n - 1) × MovesUp s i n

  -- the same below the end, and the pointer was set at the index; or it was pushed, where that is the end; or it comes
  -- back from beyond
  abbrev pub InsertsBelow : ℕ → Site V → ℕ → Known V → Option (Known V) → Type 0
  InsertsBelow n s i new r =
      ((i < n) × Opens s i n × Sets o s i new r)
      ⊎ (((i ≡ n) × (r ≡ None) × ((m : ℕ) × Pushes o s new m)) ⊎ ((n < i) × (r ≡ Some new)))

  abbrev pub Inserts : Site V → ℕ → Known V → Option (Known V) → Type 0
  Inserts s i new r = (n : ℕ) × IsEnd o s n × InsertsBelow n s i new r

  -- all behind the index came one forward, and the last place was emptied
  abbrev pub Closes : Site V → ℕ → Type 0
  Closes s i = (n : ℕ) × (last : Option (Known V)) × IsEnd o s n × MovesDown s i n × Pops o s last

  -- the same, once a get had found the element; or it found none
  abbrev pub Removes : Site V → ℕ → Option (Known V) → Type 0
  Removes s i None = Gets o s i None
  Removes s i (Some r) = Gets o s i (Some r) × Closes s i
