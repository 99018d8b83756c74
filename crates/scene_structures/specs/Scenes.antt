-- What the calls on a scene tree say (own). An object's children are the list in its `first`.
use Rattle.std.specs.Prelude.{◌≡◌, ◌≢◌, ℕ, suc, ◌+◌, ◌<◌, false, List, [], ◌∷◌, Option}
use Rattle.std.specs.Prelude.{None, Some}
use Rattle.control_word.specs.Events.{place_at}
use Rattle.control_word.specs.Handles.{object_of, owner}
use Rattle.control_word.specs.State.{State}
use Rattle.control_word.specs.declared.model.event.Cell.TheVariants.{Member}
use Rattle.control_word.specs.declared.model.event.Event.TheVariants.{Make}
use Rattle.control_word.specs.declared.place.Block.{Block}
use Rattle.control_word.specs.declared.place.Place.{Place}
use Rattle.control_word.specs.declared.refusal.Refusal.{Refusal}
use Rattle.control_word.specs.declared.refusal.Refusal.TheVariants.{Full, Limit, Null, Outside}
use Rattle.control_block.specs.Desks.{AddsEvent, DeskNow, allowance_of, held_of, latest_of, state_of, stock_of}
use Rattle.control_block.specs.declared.handles.Shared.{Shared}
use Rattle.shared_handle.specs.Endings.{IsOutside, IsWithin}
use Rattle.scene_structures.specs.Chains.{IsList}
use Rattle.scene_structures.specs.Hands.{node_in}
use Rattle.scene_structures.specs.Stacks.{Rises}
use Rattle.scene_structures.specs.Watches.{Watches, weak_of_owner}

-- the object's children, the one that was added last in front
abbrev pub AreChildren : State → ℕ → List ℕ → Type 0
AreChildren s p os = IsList s (Member p 0) os

module _ {V : Type 0} where
  -- fewer than 6 handles are free
  abbrev pub IsNearLimit : DeskNow V → Type 0
  IsNearLimit d = allowance_of d < held_of d + 6

  -- why no child is added: the first of these
  abbrev pub WhyNoChild : DeskNow V → Option Block → Option Place → Refusal → Type 0
  WhyNoChild d b p Limit = IsNearLimit d
  WhyNoChild d b p Full = (IsNearLimit d → ⊥) × (stock_of d ≡ [])
  WhyNoChild d b p Null = (IsNearLimit d → ⊥) × (stock_of d ≢ []) × (p ≡ None)
  WhyNoChild d b p Outside = (IsNearLimit d → ⊥) × (stock_of d ≢ []) × IsOutside b p
  WhyNoChild d b p why = ⊥

  -- and when one is
  abbrev pub MayHaveChild : DeskNow V → Option Block → Option Place → Type 0
  MayHaveChild d b p = (IsNearLimit d → ⊥) × (stock_of d ≢ []) × IsWithin b p

  -- a new object with these fields and this value was made; a weak handle of the parent went into its `up`; and its
  -- owner, which points at it, rises in the parent's `first`
  pub record Adopts (d : DeskNow V) (parent : Shared) (fields : List ℕ) (x : V) (child : Shared)
      (e : DeskNow V) : Type 0 where
    pub block : Block
    pub is : (child.block ≡ Some block) × (child.place ≡ place_at block.0)
    pub made : DeskNow V
    pub makes : AddsEvent d (Make block false false fields x) made
    pub hung : DeskNow V
    pub watches : Watches made (latest_of made block.0) (weak_of_owner d parent) hung
    pub rises : Rises hung (Member (object_of (node_in d parent)) 0)
        (owner (latest_of made block.0) (place_at block.0)) e

  -- the new object is the first of the parent's children, and its `up` is the parent
  abbrev pub IsAdopted : DeskNow V → Shared → DeskNow V → Type 0
  IsAdopted d parent e =
      let p = object_of (node_in d parent) in let o = suc (state_of d).made in
      ((os : List ℕ) → AreChildren (state_of d) p os → AreChildren (state_of e) p (o ∷ os))
      × (((state_of e).object o).member 2 ≡ weak_of_owner d parent)
