-- What a ghost map owns. Its entries lie in a chain of cells, and each cell names for good its entry's life, what the
-- entry says, and the next cell. An entry's life is alive just as long as the entry is.
use Rattle.std.specs.Prelude.{◌≡◌, ℕ, suc, zero, ◌^◌, List, [], ◌∷◌, Option, None, Some}
use base.Stored.{Gv, gnil, gnum, gcons}
use base.Fml.{Lft, Fml, ftrue, fsep, fex, fobs, fauth, fres, flft, fdead}
use denote.Sharing.{beside, one, held, said}
use Rattle.left_right.specs.Parted.{tokens}

-- a map with no entry is one open cell, whatever its entries will say
unfoldable pub blank_owns : ℕ → Fml
blank_owns name = fsep (fobs name gnil) (fauth name gnil)

-- an entry's life, the next cell, and what the entry says
abbrev pub Cell : Type 0 → Type 0
Cell A = ℕ × (ℕ × A)

module _ {A : Type 0} where
  -- the entry says this, or is over
  abbrev pub state : Option A → Cell A → Fml
  state (Some x) c = fex (c.1.1 ≡ x) (λ _. ftrue)
  state None c = fdead (c.0 ∷ [])

  -- the entry has this life, and says this
  abbrev pub this : ℕ → A → Cell A → Fml
  this a x c = fex ((c.0 ≡ a) × (c.1.1 ≡ x)) (λ _. ftrue)

module _ {A : Type 0} (code : A → Gv) where
  unfoldable pub value : Cell A → Gv
  value c = gcons (gnum c.0) (gcons (gnum c.1.0) (code c.1.1))

  abbrev pub cell : ℕ → Option A → (ℕ → Fml) → Cell A → Fml
  cell γ e rest c = fsep (fauth γ (value c)) (fsep (fres γ (value c)) (fsep (state e c) (rest c.1.0)))

  -- all entries from the cell γ on, and the last cell, which is open
  abbrev pub chain : List (Option A) → ℕ → Fml
  chain [] γ = fsep (fobs γ gnil) (fauth γ gnil)
  chain (e ∷ es) γ = fex (Cell A) (cell γ e (chain es))

  -- what the cell γ names is known, and F holds of it
  abbrev pub past : ℕ → (Cell A → Fml) → Cell A → Fml
  past γ F c = fsep (fres γ (value c)) (F c)

  -- entry i from the cell γ on has this life, and says this
  abbrev pub path : ℕ → ℕ → A → ℕ → Fml
  path zero a x γ = fex (Cell A) (past γ (this a x))
  path (suc i) a x γ = fex (Cell A) (past γ (λ c. path i a x c.1.0))

  unfoldable pub map_owns : ℕ → List (Option A) → Fml
  map_owns name es = chain es name

  unfoldable pub entry_path : ℕ → ℕ → ℕ → A → Fml
  entry_path name i a x = path i a x name

  abbrev pub entry_owns : ℕ → ℕ → ℕ → A → Fml
  entry_owns name i a x = fsep (tokens a (2 ^ 63)) (entry_path name i a x)

  abbrev pub entry_shares : ℕ → ℕ → ℕ → A → Lft → Fml
  entry_shares name i a x = beside (one (λ q. flft (a ∷ []) q)) (held (a ∷ []) (said (entry_path name i a x)))
