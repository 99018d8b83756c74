-- Which vertices an owner in a staying vertex is on. All of it is own.
use Rattle.std.specs.Prelude.{◌≡◌, ◌≢◌, ◌⊎◌, ◌↔◌, ℕ, suc, ◌<◌, ◌≤◌, Bool, true}
use Rattle.std.specs.Prelude.{false, cond, List, [], ◌∷◌, length, slice_index_or}
use Rattle.owner_graph.specs.declared.holding.Holding.{Holding}
use Rattle.owner_graph.specs.Ends.{EndsWithOwners}
use Rattle.owner_graph.specs.Owners.{Owns}

abbrev pub marked : List Bool → ℕ → Bool
marked marks b = slice_index_or marks b false

-- an owner that isn't to be weak, in a vertex that stays
abbrev pub Feeds : (Holding → Bool) → List Bool → Holding → Type 0
Feeds gone stays h =
    (gone h ≡ false) × (h.is_owner ≡ true) × (marked stays h.from ≡ true)

-- one is on the vertex
abbrev pub IsFedBy : List Holding → List Bool → ℕ → Type 0
IsFedBy hs stays b = (a : ℕ) × Owns hs a b × (marked stays a ≡ true)

-- just such vertices are marked
pub record IsFed (hs : List Holding) (stays fed : List Bool) : Type 0 where
  pub size : length fed ≡ length stays
  pub marks : (b : ℕ) → b < length stays → marked fed b ≡ true ↔ IsFedBy hs stays b

-- how many are marked
abbrev pub trues : List Bool → ℕ
trues [] = 0
trues (b ∷ bs) = cond b (suc (trues bs)) (trues bs)

-- vertices that weren't fed stay no longer, and all others as before
pub record Starves (fed old new : List Bool) : Type 0 where
  pub size : length new ≡ length old
  pub off : (b : ℕ) → marked new b ≡ false → (marked old b ≡ false)
      ⊎ ((b ≢ 0) × (marked fed b ≡ false))

-- one more did, or there is none
abbrev pub IsLess : Bool → List Bool → List Bool → List Bool → Type 0
IsLess true fed old new = trues new < trues old
IsLess false fed old new = (new ≡ old) × ((b : ℕ) → b ≢ 0 → marked old b ≡ true
    → marked fed b ≡ true)

-- what stays no longer ends
abbrev pub HaveEnded : ℕ → List Holding → List Bool → Type 0
HaveEnded vertices hs stays = (b : ℕ) → b ≤ vertices → marked stays b ≡ false
    → EndsWithOwners hs b
