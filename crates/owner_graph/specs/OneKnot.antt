-- What shows of one knot that it ends where some owners are weak, or that it doesn't. All of it is
-- own.
use Rattle.std.specs.Prelude.{◌≡◌, ◌≢◌, ◌⊎◌, ℕ, ◌<◌, ◌≤◌, Bool, true, false, List, length}
use Rattle.owner_graph.specs.declared.holding.Holding.{Holding}
use Rattle.owner_graph.specs.Fed.{marked}
use Rattle.owner_graph.specs.Labels.{at}
use Rattle.owner_graph.specs.Rows.{handle_listed}

-- an owner on vertex b of the knot is to be weak, or in a vertex that ends, or in one of the knot
-- with a lesser rank
abbrev pub Rises : (Holding → Bool) → List Bool → List ℕ → List ℕ → ℕ → ℕ → Holding → Type 0
Rises gone stays knots ranks least b h =
    h.is_owner ≡ true → gone h ≡ false → (marked stays h.from ≡ false)
    ⊎ ((h.from ≢ 0) × (at knots h.from ≡ least) × (at ranks h.from < at ranks b))

-- the vertex is one of a ring
abbrev pub IsListed : List ℕ → ℕ → Type 0
IsListed ring b = (i : ℕ) × (i < length ring) × (at ring i ≡ b)

-- the owner is not to be weak, and outside, or in a vertex of the knot that is one of the ring, or
-- in another one that stays
abbrev pub Holds : (Holding → Bool) → List Bool → List ℕ → List ℕ → ℕ → Holding → Type 0
Holds gone stays knots ring least h =
    (h.is_owner ≡ true) × (gone h ≡ false) × ((h.from ≡ 0)
    ⊎ (((at knots h.from ≡ least) × IsListed ring h.from)
    ⊎ ((at knots h.from ≢ least) × (marked stays h.from ≡ true))))

-- one of them is
unfoldable pub HasHolder : (Holding → Bool) → List Bool → List ℕ → List ℕ → ℕ → List Holding
    → Type 0
HasHolder gone stays knots ring least hs =
    (i : ℕ) × (i < length hs) × Holds gone stays knots ring least (handle_listed hs i)

-- a vertex of the knot
abbrev pub IsWitness : ℕ → List ℕ → ℕ → ℕ → Type 0
IsWitness vertices knots least w = (1 ≤ w) × (w ≤ vertices) × (at knots w ≡ least)
