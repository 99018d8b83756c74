-- What the calls on observers say: by the desk's own events, and for a sole desk by the list of nodes (own).
use Rattle.std.specs.Prelude.{◌≡◌, ℕ, suc, false, List, [], ◌∷◌, map}
use Rattle.control_word.specs.Events.{place_at}
use Rattle.control_word.specs.Handles.{owner}
use Rattle.control_word.specs.State.{State}
use Rattle.control_word.specs.declared.model.event.Cell.{Cell}
use Rattle.control_word.specs.declared.model.event.Event.TheVariants.{Make}
use Rattle.control_word.specs.declared.model.handle.NumberedHandle.{NumberedHandle}
use Rattle.control_word.specs.declared.place.Block.{Block}
use Rattle.control_block.specs.Desks.{AddsEvent, DeskNow, latest_of, state_of}
use Rattle.control_block.specs.declared.handles.Shared.{Shared}
use Rattle.scene_structures.specs.Chains.{IsList}
use Rattle.scene_structures.specs.Stacks.{Rises}
use Rattle.scene_structures.specs.Watches.{Watches, weak_of_owner}

-- what the objects' `up` hold
abbrev pub ups : State → List ℕ → List NumberedHandle
ups s os = map (λ o. (s.object o).member 2) os

module _ {V : Type 0} where
  -- attach: a new object with fields 0 and this value was made, a weak handle of the subject went into its `up`, and
  -- its owner, which points at it, rises
  pub record Attaches (d : DeskNow V) (c : Cell) (subject : Shared) (x : V) (e : DeskNow V) : Type 0 where
    pub block : Block
    pub made : DeskNow V
    pub makes : AddsEvent d (Make block false false (0 ∷ 0 ∷ 0 ∷ 0 ∷ []) x) made
    pub hung : DeskNow V
    pub watches : Watches made (latest_of made block.0) (weak_of_owner d subject) hung
    pub rises : Rises hung c (owner (latest_of made block.0) (place_at block.0)) e

  -- the list in the cell has the object that was made next in front, whose `up` is weak on the subject; the others'
  -- hold what they held
  abbrev pub IsAttached : DeskNow V → Cell → Shared → DeskNow V → Type 0
  IsAttached d c subject e =
      (os : List ℕ) → IsList (state_of d) c os
      → IsList (state_of e) c (suc (state_of d).made ∷ os)
      × (ups (state_of e) (suc (state_of d).made ∷ os) ≡ weak_of_owner d subject ∷ ups (state_of d) os)
